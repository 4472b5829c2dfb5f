-- What closing begins with.
use Rattle.std.proofs.Common.{◌≡◌, ℕ, ◌+◌, ◌*◌, ◌<◌, ◌≤◌, ◌≢◌, List, length, get_or, set, None, sym, refl, ap, ◌∙◌, subst, ⊎_elim, arith, get_or-set_other, get_or-set_same}
use Rattle.std.proofs.lemmas.Bool.{cases_eq}
use Rattle.std.proofs.lemmas.List.{get_or_read}
use Rattle.marks.specs.declared.set.Marks.{Marks}
use Rattle.marks.specs.Sets.{has}
use Rattle.order.specs.declared.event_order.EventOrder.{EventOrder}
use Rattle.table.specs.declared.cell.Cell.{Cell}
use Rattle.table.specs.Cells.{empty}
use Rattle.table.proofs.Tables.{place_below}
use Rattle.eliminator.specs.Views.{Grid, event_at, view}
use Rattle.eliminator.specs.Begun.{begun, Begun}
use Rattle.eliminator.specs.Steps.{marked, Touching, Near}

-- one more cell begun
module _ {K : Type 0} (p : ℕ) (xs ys : List (Cell K)) (v : Cell K) (lt : p < length ys) (e : v ≡ begun (get_or ys p empty)) where
  pub begun_below : ((q : ℕ) → q < p → get_or ys q empty ≡ begun (get_or xs q empty)) → ((q : ℕ) → p ≤ q → get_or ys q empty ≡ get_or xs q empty) → (q : ℕ) → q < p + 1 → get_or (set ys p v) q empty ≡ begun (get_or xs q empty)
  begun_below f g q h = ⊎_elim
      (λ z. ap (λ (t : ℕ). get_or (set ys p v) t empty) z ∙ get_or-set_same ys p v empty lt ∙ e ∙ ap begun (g p (omega arith)) ∙ ap (λ (t : ℕ). begun (get_or xs t empty)) (sym z))
      (λ ne. let off : q ≢ p = ne in get_or-set_other ys p q v empty off ∙ f q (omega arith))
      (cases_eq q p)

  pub begun_above : ((q : ℕ) → p ≤ q → get_or ys q empty ≡ get_or xs q empty) → (q : ℕ) → p + 1 ≤ q → get_or (set ys p v) q empty ≡ get_or xs q empty
  begun_above g q h = let off : q ≢ p = omega arith in get_or-set_other ys p q v empty off ∙ g q (omega arith)

-- what is written of a cell, with the rest of an empty one
pub begun_here : {K : Type 0} (ys : List (Cell K)) (p : ℕ) (old d : Cell K) → p < length ys → old ≡ get_or ys p old → d ≡ empty →
    record { bound = (get_or ys p old).bound; worked = (get_or ys p old).bound; distance = d.distance; via = d.via; by = d.by } ≡ begun (get_or ys p empty)
begun_here ys p old d lt is e = let here : get_or ys p old ≡ get_or ys p empty = sym is ∙ get_or_read ys p old lt is empty in rw (here, e) refl

-- the same by rank
pub begun_view : {K : Type 0} (order : EventOrder) (xs ys : List (Cell K)) → ((p : ℕ) → p < order.count * order.count → get_or ys p empty ≡ begun (get_or xs p empty)) → Begun order.count (view order xs) (view order ys)
unfolding view
begun_view order xs ys f i j hi hj = f (event_at order i * order.count + event_at order j) (place_below order.count (event_at order i) (event_at order j) (order.events_below i hi) (order.events_below j hj))

-- the marks of one more rank
pub marks_row : {K : Type 0} (n : ℕ) (xs : Grid K) (r : ℕ) (near : List Marks) (m : Marks) → r < length near → ((s : ℕ) → s < n → Touching xs r s (has m s)) →
    ((i s : ℕ) → i < r → s < n → Touching xs i s (has (marked near i) s)) → (i s : ℕ) → i < r + 1 → s < n → Touching xs i s (has (marked (set near r m) i) s)
marks_row n xs r near m lt here t i s h hs e = ⊎_elim
    (λ z. subst (λ (i : ℕ). ((xs i s).bound ≡ None) × ((xs s i).bound ≡ None)) (sym z) (here s hs (sym (ap (λ (y : Marks). has y s) (ap (λ (y : ℕ). marked (set near r m) y) z ∙ get_or-set_same near r m _ lt)) ∙ e)))
    (λ ne. t i s (omega arith) hs (sym (ap (λ (y : Marks). has y s) (let off : i ≢ r = ne in get_or-set_other near r i m _ off)) ∙ e))
    (cases_eq i r)

pub near_start : {K : Type 0} (n : ℕ) (xs ys : Grid K) (near : List Marks) → Begun n xs ys → ((i s : ℕ) → i < n → s < n → Touching ys i s (has (marked near i) s)) → Near n ys near
near_start n xs ys near b t i j hi hj d h =
    let (p, q) = t i j hi hj h in
    let u = b i j hi hj in
    let v = b j i hj hi in
    (ap (λ (c : Cell _). c.worked) u ∙ sym (ap (λ (c : Cell _). c.bound) u) ∙ p, ap (λ (c : Cell _). c.worked) v ∙ sym (ap (λ (c : Cell _). c.bound) v) ∙ q)
