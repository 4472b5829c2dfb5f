-- The lowest number that has a property.
use Rattle.std.proofs.Common.{◌≡◌, ℕ, zero, suc, ◌<◌, Bool, true, false, cond, Some, None, Option, sym, refl, ap, ◌∙◌, ⊎_elim, arith, MatchOption}
use Rattle.std.proofs.lemmas.Bool.{cases_eq, cond-true, cond-false}
use Rattle.marks.specs.Sets.{lowest_of, or_else}

lowest_none : (p : ℕ → Bool) (k : ℕ) → ((q : ℕ) → q < k → p q ≡ false) → lowest_of p k ≡ None
unfolding lowest_of
lowest_none p zero f = refl
lowest_none p (suc k) f = ap (λ o. or_else o (cond (p k) (Some k) None)) (lowest_none p k (λ q l. f q (omega arith))) ∙ cond-false (p k) _ _ (f k (omega arith))

lowest_some : (p : ℕ → Bool) (k e : ℕ) → e < k → p e ≡ true → ((q : ℕ) → q < e → p q ≡ false) → lowest_of p k ≡ Some e
unfolding lowest_of
lowest_some p zero e l h f = absurd (omega arith)
lowest_some p (suc k) e l h f = ⊎_elim
    (λ s. ap (λ o. or_else o (cond (p k) (Some k) None)) (lowest_none p k (λ q b. f q (omega arith))) ∙ cond-true (p k) _ _ (ap p (sym s) ∙ h) ∙ ap Some (sym s))
    (λ ne. ap (λ o. or_else o (cond (p k) (Some k) None)) (lowest_some p k e (omega arith) h f))
    (cases_eq e k)

-- what is true of no lower number is the lowest
pub lowest_is : (p : ℕ → Bool) (k : ℕ) (o : Option ℕ) → MatchOption o ((q : ℕ) → p q ≡ false) (λ e. (e < k) × (p e ≡ true) × ((q : ℕ) → q < e → p q ≡ false)) → o ≡ lowest_of p k
lowest_is p k None h = sym (lowest_none p k (λ q l. h q))
lowest_is p k (Some e) h = sym (lowest_some p k e h.0 h.1 h.2)
