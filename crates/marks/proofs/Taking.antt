-- What is left once the lowest mark is taken.
use Rattle.std.proofs.Common.{◌≡◌, ℕ, ◌<◌, Bool, true, false, not, ◌&&◌, ◌⊎◌, sym, refl, ap, ◌∙◌, inl, inr, ⊎_elim, arith}
use Rattle.std.proofs.lemmas.Bool.{cases_eq, cases_lt, both_ways, eq-eqb, ne_eqb}
use Rattle.marks.specs.declared.set.Marks.{Marks}
use Rattle.marks.specs.Sets.{has, Taken}

none_but : (b : Bool) → (b && not true) ≡ false
none_but true = refl
none_but false = refl

all_but : (b : Bool) → (b && not false) ≡ b
all_but true = refl
all_but false = refl

module _ (s : Marks) (e : ℕ) (t : Marks) (h : Taken s e t) where
  -- it is left no more, and every other mark is as it was
  pub taken_out : has t e ≡ false
  taken_out = h.others e ∙ ap (λ b. has s e && not b) (eq-eqb e e refl) ∙ none_but (has s e)

  pub taken_other : (q : ℕ) → (q ≡ e → ⊥) → has t q ≡ has s q
  taken_other q ne = h.others q ∙ ap (λ b. has s q && not b) (ne_eqb q e ne) ∙ all_but (has s q)

  -- what is left was there, and is higher
  pub taken_still : (q : ℕ) → has t q ≡ true → (has s q ≡ true) × (e < q)
  taken_still q l = ⊎_elim
      (λ same. absurd (both_ways (has t e) taken_out (ap (has t) (sym same) ∙ l)))
      (λ ne. let was : has s q ≡ true = sym (taken_other q ne) ∙ l in
      (was, ⊎_elim (λ b. absurd (both_ways (has s q) (h.lowest q b) was)) (λ b. omega arith) (cases_lt q e)))
      (cases_eq q e)

  -- what is not left was not there, or was taken
  pub taken_left : (q : ℕ) → has t q ≡ false → (q ≡ e) ⊎ (has s q ≡ false)
  taken_left q l = ⊎_elim (λ same. inl same) (λ ne. inr (sym (taken_other q ne) ∙ l)) (cases_eq q e)
