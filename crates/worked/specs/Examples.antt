-- What a worked example lays down, and what the definitions that the calls promise make of it.
use Rattle.std.specs.Prelude.{ℕ, Bool, true, false, List, map, ℤ, Ok, Err, Option, Result}
use Rattle.kinds.specs.Arithmetic.{Arithmetic}
use Rattle.kinds.specs.Rows.{rows, minus}
use Rattle.walks.specs.Least.{contradictory, window, time}
use Rattle.table.specs.Cells.{neighbours}
use Rattle.order.specs.declared.counts.Counts.{Counts}
use Rattle.order.specs.Counted.{counts_of}
use Rattle.net.specs.Refusals.{Reason}
use Rattle.net.specs.State.{State, made, ranked}
use Rattle.sheet.specs.Records.{Asked}
use Rattle.sheet.specs.Sheets.{performed_all}

-- calls on a net of a kind whose amounts have this many numbers, and whether its events are ranked after them
pub record Example : Type 0 where
  pub numbers : ℕ
  pub calls : List Asked
  pub then_ranked : Bool
  -- the pairs whose windows are asked, and the events whose times are
  pub pairs : List (ℕ × ℕ)
  pub timed : List ℕ

-- what comes of it
pub record Found : Type 0 where
  pub contradicts : Bool
  pub ordering : List ℕ
  pub counts : Counts
  pub windows : List (Option (List ℤ) × Option (List ℤ))
  pub times : List (Option (List ℤ))

-- 9 cells suffice for each
abbrev pub cells : ℕ
cells = 9

abbrev pub ranked_if : Bool → State → State
ranked_if true s = (ranked s).after
ranked_if false s = s

abbrev pub reached : Result State Reason → State
reached (Ok s) = s
reached (Err why) = made

-- the state after the calls
abbrev pub state_of : Example → State
state_of x = ranked_if x.then_ranked (reached (performed_all (rows x.numbers) cells x.calls made))

abbrev pub found_in : Arithmetic → State → List (ℕ × ℕ) → List ℕ → Found
found_in A s pairs timed = record {
  contradicts = contradictory A s.events s.bounds;
  ordering = s.order;
  counts = counts_of s.events (neighbours s.bounds) s.order;
  windows = map (λ p. window A minus s.events s.bounds p.0 p.1) pairs;
  times = map (λ j. time A s.events s.bounds j) timed;
}

abbrev pub found : Example → Found
found x = found_in (rows x.numbers) (state_of x) x.pairs x.timed
