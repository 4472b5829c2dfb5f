-- Sets of marks that hold the neighbours of events.
use Rattle.std.proofs.Common.{◌≡◌, ℕ, ◌+◌, ◌<◌, ◌≤◌, Bool, false, not, ◌&&◌, ◌||◌, eqb, ◌≢◌, ◌⊎◌, List, length, set, ℤ, is_some, sym, ap, ◌∙◌, subst, ap₂, inl, inr, ⊎_elim, arith, get_or-set_other, get_or-set_same}
use mathlib.Core.Path.{fun_ext}
use Rattle.std.proofs.Math.Bool.{and-false}
use Rattle.std.proofs.lemmas.Bool.{cases_eq, cases_lt}
use Rattle.std.proofs.lemmas.List.{get_or_past}
use Rattle.marks.specs.declared.set.Marks.{Marks}
use Rattle.marks.specs.Sets.{has, no_marks}
use Rattle.marks.proofs.Digits.{has_none}
use Rattle.order.specs.Neighbours.{graph_of}
use Rattle.table.specs.declared.cell.Cell.{Cell}
use Rattle.table.specs.Cells.{bounds, neighbours}
use Rattle.net.proofs.BoundsHeld.{bounds_outside}

-- an event outside the net has no neighbour
pub linked_outside : {K : Type 0} (amount : K → List ℤ) (n i j : ℕ) (xs : List (Cell K)) → (n ≤ i) ⊎ (n ≤ j) → neighbours (bounds amount n xs) i j ≡ false
linked_outside amount n i j xs o =
    ap₂ (λ s t. not (eqb i j) && (s || t)) (ap is_some (bounds_outside amount n xs i j o)) (ap is_some (bounds_outside amount n xs j i (⊎_elim inr inl o)))
    ∙ and-false (not (eqb i j))

-- the sets of the events below k are their neighbours, and of one more
pub gather_more : (G : ℕ → ℕ → Bool) (t : List Marks) (m : Marks) (k : ℕ) → k < length t → ((j : ℕ) → has m j ≡ G k j) → ((p j : ℕ) → p < k → graph_of t p j ≡ G p j) → (p j : ℕ) → p < k + 1 → graph_of (set t k m) p j ≡ G p j
gather_more G t m k l f h p j b = ⊎_elim
    (λ e. ap (λ x. graph_of (set t k m) x j) e ∙ ap (λ x. has x j) (get_or-set_same t k m no_marks l) ∙ f j ∙ ap (λ x. G x j) (sym e))
    (λ ne. let off : p ≢ k = ne in ap (λ x. has x j) (get_or-set_other t k p m no_marks off) ∙ h p j (omega arith))
    (cases_eq p k)

pub gather_all : (G : ℕ → ℕ → Bool) (t : List Marks) (n : ℕ) → length t ≡ n → ((i j : ℕ) → n ≤ i → G i j ≡ false) → ((p j : ℕ) → p < n → graph_of t p j ≡ G p j) → (i j : ℕ) → graph_of t i j ≡ G i j
gather_all G t n s out h i j = ⊎_elim (h i j)
    (λ l. ap (λ m. has m j) (get_or_past t i no_marks (omega arith)) ∙ has_none j ∙ sym (out i j l))
    (cases_lt i n)

-- what is said of the sets is said of the bounds
pub moved : (P : ℕ → (ℕ → ℕ → Bool) → Type 0) (t : List Marks) (n : ℕ) (G : ℕ → ℕ → Bool) → length t ≡ n → ((i j : ℕ) → graph_of t i j ≡ G i j) → P (length t) (graph_of t) → P n G
moved P t n G e f h = subst (P n) (fun_ext (λ i. fun_ext (λ j. f i j))) (subst (λ m. P m (graph_of t)) e h)
