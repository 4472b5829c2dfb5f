-- A table as a function of two ranks, counted from 0.
use Rattle.std.specs.Prelude.{◌≡◌, ℕ, ◌<◌, List, length, slice_index}
use Rattle.order.specs.declared.event_order.EventOrder.{EventOrder}
use Rattle.table.specs.declared.cell.Cell.{Cell}
use Rattle.table.specs.declared.lent.Table.{Table}
use Rattle.table.specs.Cells.{at_cell}

-- a cell for each two ranks
abbrev pub Grid : Type 0 → Type 0
Grid K = ℕ → ℕ → Cell K

-- the event of a rank, and the rank of an event
abbrev pub event_at : EventOrder → ℕ → ℕ
event_at order r = slice_index order.events r

abbrev pub rank_at : EventOrder → ℕ → ℕ
rank_at order i = slice_index order.ranks i

-- the cells of a table by rank
unfoldable pub view : {K : Type 0} → EventOrder → List (Cell K) → Grid K
view order cells r s = at_cell order.count cells (event_at order r) (event_at order s)

-- the cells of a table by the ranks of its own ordering
abbrev pub seen : {K : Type 0} → Table K → Grid K
seen table = view table.order table.cells.now

-- the ordering, and how many cells there are, stay as they are
pub record Same {K : Type 0} (before after : Table K) : Type 0 where
  pub order : after.order ≡ before.order
  pub room : length after.cells.now ≡ length before.cells.now

-- the one cell was written, and every other kept
pub record Written {K : Type 0} (n r s : ℕ) (cell : Cell K) (before after : Grid K) : Type 0 where
  pub here : after r s ≡ cell
  pub elsewhere : (x y : ℕ) → x < n → y < n → ((x ≡ r) × (y ≡ s) → ⊥) → after x y ≡ before x y
