-- The rows that stand so far.
use Rattle.std.proofs.Common.{◌*◌, ◌≤◌}
use Rattle.listing.specs.Standing.{Stands}
use Rattle.listing.specs.Texts.{texts, row_text}
use Rattle.listing.proofs.PairCounts.{before}
use Rattle.listing.specs.Listings.{ends_of}
use Rattle.listing.specs.ClosedNets.{state_in}
use Rattle.listing.proofs.asking.ClosedNet.write_windows.Given as goal

abbrev pub invariant-loop-from : goal.invariant-loop-from
invariant-loop-from l = record {
  stands : Stands l.initial.place l.place (texts (row_text (state_in l.self).events (ends_of (state_in l.self))) 0 l.from) 0 l.at;
  short : l.at ≤ 50 * before (state_in l.self).events l.from;
}
