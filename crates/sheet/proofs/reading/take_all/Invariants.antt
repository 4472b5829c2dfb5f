-- The records so far are taken.
use Rattle.std.proofs.Common.{◌≡◌, ℕ, Some}
use Rattle.net.specs.State.{State}
use Rattle.sheet.specs.Told.{coding_of}
use Rattle.sheet.proofs.Runs.{Reads}
use Rattle.sheet.proofs.reading.take_all.Given as goal

-- what reading on comes to, reading the sheet comes to
abbrev pub invariant-loop-found : goal.invariant-loop-found
invariant-loop-found g l = record {
  same : l.found-iterator.sheet.now ≡ l.sheet;
  room : g.T.Performs.cells l.to ≡ g.T.Performs.cells l.initial.to;
  kept : g.T.Performs.keeps l.initial.to l.to;
  reads : (n : ℕ) × (l.found-iterator.at ≡ Some n) × ((s : State) → g.T.Performs.shows l.initial.to s → (t : State) × Reads (coding_of g.K.Kind) (g.T.Performs.cells l.initial.to) l.sheet s n (g.T.Performs.shows l.to) t);
}
