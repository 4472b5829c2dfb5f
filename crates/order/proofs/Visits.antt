-- Neighbours joined as members are visited from the lowest up.
use Rattle.std.proofs.Common.{◌≡◌, ℕ, ◌<◌, Bool, true, false, not, ◌&&◌, ◌||◌, eqb, ◌≢◌, List, length, set, refl, sym, ap, ◌∙◌, ap₂, ⊎_elim, get_or-set_other, get_or-set_same}
use Rattle.std.proofs.lemmas.Bool.{cases_eq, both_ways}
use Rattle.marks.specs.declared.set.Marks.{Marks}
use Rattle.marks.specs.Sets.{has, Taken}
use Rattle.marks.proofs.Taking.{taken_out, taken_other, taken_still}
use Rattle.order.specs.Elimination.{joined}
use Rattle.order.specs.Neighbours.{graph_of, no_marks}
use Rattle.order.proofs.Eliminations.{symmetric}

pub record Visit (t0 t : List Marks) (mine rest : Marks) : Type 0 where
  pub members : (p : ℕ) → has rest p ≡ true → has mine p ≡ true
  pub waiting : (p j : ℕ) → has rest p ≡ true → graph_of t p j ≡ graph_of t0 p j
  pub done : (p j : ℕ) → has rest p ≡ false → graph_of t p j ≡ joined (graph_of t0) (has mine) p j

flip : (a b c d : Bool) → a ≡ true → (d || (b && not c)) ≡ (d || ((a && b) && not c))
flip true b c d e = refl
flip false b c d e = absurd (both_ways false refl e)

pub visit_turn : (t0 t : List Marks) (mine rest less m : Marks) (i : ℕ) → i < length t → Taken rest i less
    → ((j : ℕ) → has m j ≡ (graph_of t i j || (has mine j && not (eqb j i)))) → Visit t0 t mine rest → Visit t0 (set t i m) mine less
visit_turn t0 t mine rest less m i lt taken g h =
    let still : (p : ℕ) → has less p ≡ true → has rest p ≡ true = λ p l. (taken_still rest i less taken p l).0 in
    let other : (p j : ℕ) → (p ≡ i → ⊥) → graph_of (set t i m) p j ≡ graph_of t p j = λ p j ne. let off : p ≢ i = ne in ap (λ x. has x j) (get_or-set_other t i p m no_marks off) in
    record {
      members = λ p l. h.members p (still p l);
      waiting = λ p j l. other p j (λ e. both_ways (has less i) (taken_out rest i less taken) (ap (has less) (sym e) ∙ l)) ∙ h.waiting p j (still p l);
      done = λ p j l. ⊎_elim
          (λ e. ap (λ x. graph_of (set t i m) x j) e ∙ ap (λ x. has x j) (get_or-set_same t i m no_marks lt) ∙ g j ∙ ap₂ (λ x y. x || (has mine j && not y)) (h.waiting i j taken.here) (symmetric i j)
          ∙ flip (has mine i) (has mine j) (eqb i j) (graph_of t0 i j) (h.members i taken.here) ∙ ap (λ x. joined (graph_of t0) (has mine) x j) (sym e))
          (λ ne. other p j ne ∙ h.done p j (sym (taken_other rest i less taken p ne) ∙ l))
          (cases_eq p i);
    }
