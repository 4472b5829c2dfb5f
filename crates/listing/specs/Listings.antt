-- The text of a sheet's listing, and what the listing answers.
use Rattle.std.specs.Prelude.{◌≡◌, ℕ, ◌≤◌, Bool, true, cond, List, ◌++◌, length, drop, ℤ, pos, Some, None, Ok, Err, Option, Result, nat_le, slice_index_or}
use Rattle.kinds.specs.Arithmetic.{Arithmetic}
use Rattle.kinds.specs.Bytes.{row_bytes, row_of}
use Rattle.kinds.specs.Rows.{rows, minus}
use Rattle.walks.specs.Bounds.{Bounds, InForce}
use Rattle.walks.specs.Least.{contradictory, window}
use Rattle.walks.specs.Walks.{Loop}
use Rattle.order.specs.Counted.{counts_of}
use Rattle.order.specs.declared.counts.Counts.{Counts}
use Rattle.table.specs.Cells.{neighbours}
use Rattle.net.specs.Refusals.{Reason, by}
use Rattle.net.specs.State.{State, made}
use Rattle.sheet.specs.Faults.{Fault, in_bytes}
use Rattle.sheet.specs.Records.{Coding}
use Rattle.sheet.specs.Sheets.{Reading, reading, read_sheet}
use Rattle.sheet.specs.Told.{coding}
use Rattle.lines.specs.Fields.{counts_text, contradiction_text, fault_text}
use Rattle.listing.specs.Standing.{Stands}
use Rattle.listing.specs.Texts.{Ends, windows_text}

-- the cells of the listing's own table, the longest sheet, and the shortest place
abbrev pub own_cells : ℕ
own_cells = 1024

abbrev pub longest_sheet : ℕ
longest_sheet = 16384

abbrev pub shortest_place : ℕ
shortest_place = 32768

-- whole microseconds
abbrev pub micros : Arithmetic
micros = rows 1

abbrev pub micros_coding : Coding
micros_coding = coding micros 1 8 row_bytes (row_of 1)

-- an end of a window as a number
abbrev pub end_number : Option (List ℤ) → Option ℤ
end_number None = None
end_number (Some row) = Some (slice_index_or row 0 (pos 0))

-- the window of each pair
abbrev pub ends_in : ℕ → Bounds → Ends
ends_in n F i j = (end_number (window micros minus n F i j).0, end_number (window micros minus n F i j).1)

abbrev pub ends_of : State → Ends
ends_of s = ends_in s.events s.bounds

-- the counts of a close
abbrev pub counts_in : State → Counts
counts_in s = counts_of s.events (neighbours s.bounds) s.order

abbrev pub counts_line : Counts → List ℕ
counts_line c = counts_text c.width c.fill c.looks

-- the bounds in force contradict
unfoldable pub contradicts : State → Bool
contradicts s = contradictory micros s.events s.bounds

-- the text of a net without contradiction: the counts of its close, and a line for each pair
unfoldable pub closed_text : State → List ℕ
closed_text s = counts_line (counts_in s) ++ windows_text s.events (ends_of s)

-- the text of a net, given the loop that is shown
abbrev pub net_text : (loop : List ℕ) → State → List ℕ
net_text loop s = cond (contradicts s) (contradiction_text loop) (closed_text s)

-- the line of a fault
abbrev pub fault_line : Fault → List ℕ
fault_line fault = fault_text fault.number fault.layer fault.offset

-- the text of what a read came to
abbrev pub read_text : (loop : List ℕ) → Result (Unit {0}) Fault → State → List ℕ
read_text loop (Ok x) s = net_text loop s
read_text loop (Err fault) s = fault_line fault

-- what reading a sheet over the listing's own cells comes to
abbrev pub sheet_read : List ℕ → Reading
sheet_read sheet = cond (nat_le (length sheet) longest_sheet) (read_sheet micros_coding own_cells sheet made) (reading (Err (in_bytes 27 0)) made)

-- the text of a sheet, given the loop that is shown
abbrev pub listing_text : (loop sheet : List ℕ) → List ℕ
listing_text loop sheet = read_text loop (sheet_read sheet).answer (sheet_read sheet).after

-- a loop of bounds in force that names no event twice and sums to less than zero, where the bounds contradict
abbrev pub LoopShown : (loop : List ℕ) → State → Type 0
LoopShown loop s = contradicts s ≡ true → Loop micros (InForce s.bounds) loop

-- so it is of a sheet that is read
abbrev pub SheetLoop : (loop : List ℕ) → Result (Unit {0}) Fault → State → Type 0
SheetLoop loop (Ok x) s = LoopShown loop s
SheetLoop loop (Err fault) s = Unit {0}

-- the text of a net stands at the front of the place
pub record NetListed (s : State) (before now : List ℕ) (end : ℕ) : Type 0 where
  pub loop : List ℕ
  pub shown : LoopShown loop s
  pub stands : Stands before now (net_text loop s) 0 end
  pub short : end ≤ shortest_place

-- the text of a sheet stands at the front of the place, the rest is as it was and its length is told; too short a place is refused and left as it was.
-- The shortest place that is not refused holds every text.
pub record Listed (sheet before now : List ℕ) (answer : Result ℕ Reason) : Type 0 where
  pub loop : List ℕ
  pub shown : shortest_place ≤ length before → SheetLoop loop (sheet_read sheet).answer (sheet_read sheet).after
  pub told : answer ≡ cond (nat_le shortest_place (length before)) (Ok (length (listing_text loop sheet))) (Err (by 5))
  pub place : now ≡ cond (nat_le shortest_place (length before)) (listing_text loop sheet ++ drop (length (listing_text loop sheet)) before) before
  pub suffices : shortest_place ≤ length before → length (listing_text loop sheet) ≤ shortest_place
