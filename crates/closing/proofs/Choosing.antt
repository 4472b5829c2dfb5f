-- What a test leaves of a rank.
use Rattle.std.proofs.Common.{◌≡◌, ℕ, Bool, true, false, Some, None, Option, MatchOption, sym, refl, subst}
use Rattle.std.specs.Bool.{then_some}

module _ (test : ℕ → Bool) {T : ℕ → Bool → Type 0} {S : ℕ → Type 0} where
  pub chosen : (rank kept : Option ℕ) → MatchOption rank (kept ≡ None) (λ v. (b : Bool) × T v b × (kept ≡ then_some b v)) → ((v : ℕ) (b : Bool) → T v b → b ≡ test v) →
      ((v : ℕ) → S v → (rank ≡ Some v) × (test v ≡ true)) → ((v : ℕ) → rank ≡ Some v → test v ≡ true → S v) → MatchOption kept ((v : ℕ) → S v → ⊥) S
  chosen None kept h t need have = subst (λ o. MatchOption o ((v : ℕ) → S v → ⊥) S) (sym h) (λ v s. let e = (need v s).0 in cc)
  chosen (Some w) kept (b, k, e) t need have = subst (λ o. MatchOption o ((v : ℕ) → S v → ⊥) S) (sym e) (go b (t w b k))
    where
      go : (b : Bool) → b ≡ test w → MatchOption (then_some b w) ((v : ℕ) → S v → ⊥) S
      go true h = have w refl (sym h)
      go false h = λ v s. let p = need v s in let q = p.0 in let r = p.1 in cc
