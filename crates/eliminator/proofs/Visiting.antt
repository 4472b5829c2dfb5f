-- Visiting the members of a set of marks: what was visited, and what is waiting.
use Rattle.std.proofs.Common.{◌≡◌, ℕ, zero, suc, ◌+◌, ◌<◌, Bool, true, false, cond, not, ◌&&◌, eqb, ◌⊎◌, sym, refl, ap, ◌∙◌, ap₂, inl, inr, ⊎_elim, arith}
use mathlib.Core.Path.{fun_ext}
use Rattle.std.proofs.lemmas.Bool.{cases_eq, eq-eqb, ne_eqb, true≢false}
use Rattle.marks.specs.declared.set.Marks.{Marks}
use Rattle.marks.specs.Sets.{has, how_many}

-- a member of mine that waits no more
abbrev pub Seen : Marks → Marks → ℕ → Type 0
Seen mine rest q = (has mine q ≡ true) × (has rest q ≡ false)

-- what waits is of mine
abbrev pub Waits : Marks → Marks → Type 0
Waits mine rest = (q : ℕ) → has rest q ≡ true → has mine q ≡ true

pub never : {b : Bool} {X : Type 0} → b ≡ true → b ≡ false → X
never p q = absurd (true≢false (sym p ∙ q))

pub keep : (b : Bool) → (b && not false) ≡ b
keep true = refl
keep false = refl

pub gone : (b : Bool) → (b && not true) ≡ false
gone true = refl
gone false = refl

module _ (rest less : Marks) (i : ℕ) (f : (q : ℕ) → has less q ≡ (has rest q && not (eqb q i))) where
  -- the one that is taken out
  pub out : has less i ≡ false
  out = f i ∙ ap (λ b. has rest i && not b) (eq-eqb i i refl) ∙ gone (has rest i)

  -- every other is as it was
  pub other : (q : ℕ) → (q ≡ i → ⊥) → has less q ≡ has rest q
  other q ne = f q ∙ ap (λ b. has rest q && not b) (ne_eqb q i ne) ∙ keep (has rest q)

  pub still : (q : ℕ) → has less q ≡ true → (has rest q ≡ true) × (q ≡ i → ⊥)
  still q h = ⊎_elim (λ e. never h (ap (has less) e ∙ out)) (λ ne. (sym (other q ne) ∙ h, ne)) (cases_eq q i)

  pub left : (q : ℕ) → has less q ≡ false → (q ≡ i) ⊎ (has rest q ≡ false)
  left q h = ⊎_elim (λ e. inl e) (λ ne. inr (sym (other q ne) ∙ h)) (cases_eq q i)

  pub waits_on : (mine : Marks) → Waits mine rest → Waits mine less
  waits_on mine w q h = w q (still q h).0

  -- one more was seen
  pub seen_more : (mine : Marks) (q : ℕ) → Seen mine rest q → Seen mine less q
  seen_more mine q s = (s.0, ⊎_elim (λ e. ap (has less) e ∙ out) (λ ne. other q ne ∙ s.1) (cases_eq q i))

  pub seen_here : (mine : Marks) → Waits mine rest → has rest i ≡ true → Seen mine less i
  seen_here mine w h = (w i h, out)

  pub seen_less : (mine : Marks) (q : ℕ) → Seen mine less q → Seen mine rest q ⊎ (q ≡ i)
  seen_less mine q s = ⊎_elim (λ e. inr e) (λ z. inl (s.0, z)) (left q s.1)

pub waits_start : (mine : Marks) → Waits mine mine
waits_start mine q h = h

pub seen_none : {X : Type 0} (mine : Marks) (q : ℕ) → Seen mine mine q → X
seen_none mine q s = never s.0 s.1
