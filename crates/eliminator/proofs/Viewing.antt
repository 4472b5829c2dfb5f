-- What a write does to the cells by rank.
use Rattle.std.proofs.Common.{◌≡◌, ℕ, ◌+◌, ◌*◌, ◌<◌, ◌≤◌, List, length, set, sym, refl, ap, ◌∙◌, subst}
use Rattle.order.specs.declared.event_order.EventOrder.{EventOrder}
use Rattle.table.specs.declared.cell.Cell.{Cell}
use Rattle.table.specs.declared.lent.Table.{Table}
use Rattle.table.specs.Cells.{at_cell}
use Rattle.table.proofs.Tables.{put_same, put_other}
use Rattle.eliminator.specs.Views.{event_at, rank_at, view, seen, Same, Written}

-- different ranks have different events
pub one_rank : (order : EventOrder) (r s : ℕ) → r < order.count → s < order.count → event_at order r ≡ event_at order s → r ≡ s
one_rank order r s p q e = sym (order.there r p) ∙ ap (rank_at order) e ∙ order.there s q

pub view_is : {K : Type 0} (order : EventOrder) (xs : List (Cell K)) (r s : ℕ) → view order xs r s ≡ at_cell order.count xs (event_at order r) (event_at order s)
unfolding view
view_is order xs r s = refl

pub written : {K : Type 0} (order : EventOrder) (xs ys : List (Cell K)) (r s : ℕ) (v : Cell K) → order.count * order.count ≤ length xs → r < order.count → s < order.count →
    ys ≡ set xs (event_at order r * order.count + event_at order s) v → Written order.count r s v (view order xs) (view order ys)
unfolding view
written order xs ys r s v fits p q e = record {
  here = ap (λ (t : List (Cell _)). at_cell order.count t (event_at order r) (event_at order s)) e ∙ put_same order.count (event_at order r) (event_at order s) xs v (order.events_below r p) (order.events_below s q) fits;
  elsewhere = λ x y hx hy off.
      ap (λ (t : List (Cell _)). at_cell order.count t (event_at order x) (event_at order y)) e
      ∙ put_other order.count (event_at order r) (event_at order s) (event_at order x) (event_at order y) xs v (order.events_below s q) (order.events_below y hy)
      (λ t. off (one_rank order x r hx p t.0, one_rank order y s hy q t.1));
}

pub written_seen : {K : Type 0} (t u : Table K) (r s : ℕ) (v : Cell K) → r < t.order.count → s < t.order.count → u.order ≡ t.order →
    u.cells.now ≡ set t.cells.now (event_at t.order r * t.order.count + event_at t.order s) v → Written t.order.count r s v (seen t) (seen u)
written_seen t u r s v p q o e =
    subst (λ (z : EventOrder). Written t.order.count r s v (seen t) (view z u.cells.now)) (sym o) (written t.order t.cells.now u.cells.now r s v t.fits p q e)

-- the ordering and the room stay, turn by turn
pub same_start : {K : Type 0} (t : Table K) → Same t t
same_start t = record { order = refl; room = refl }

pub same_then : {K : Type 0} {t u v : Table K} → Same t u → Same u v → Same t v
same_then a b = record { order = b.order ∙ a.order; room = b.room ∙ a.room }

pub same_at : {K : Type 0} {t u v : Table K} (P : Table K → Type 0) → v ≡ u → Same t u → P u → Same t v × P v
same_at {t = t} P e s p = subst (λ z. Same t z × P z) (sym e) (s, p)

-- what is said of as many events as there are now was said of as many as there were
pub same_count : {K : Type 0} {t u : Table K} (P : ℕ → Type 0) → Same t u → P u.order.count → P t.order.count
same_count P s = subst P (ap (λ (o : EventOrder). o.count) s.order)
