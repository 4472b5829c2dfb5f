-- The pairs of the row that stand so far, each of at most 50 bytes.
use Rattle.std.proofs.Common.{◌+◌, ◌-◌, ◌*◌, ◌≤◌}
use Rattle.listing.specs.Texts.{texts, pair_text}
use Rattle.listing.specs.Listings.{ends_of}
use Rattle.listing.specs.ClosedNets.{state_in}
use Rattle.listing.specs.Standing.{Stands}
use Rattle.listing.proofs.asking.ClosedNet.write_row.Given as goal

abbrev pub invariant-loop-to : goal.invariant-loop-to
invariant-loop-to l = record {
  stands : Stands l.initial.place l.place (texts (pair_text (ends_of (state_in l.self)) l.from) (l.from + 1) (l.to - (l.from + 1))) 0 l.at;
  short : l.at ≤ 50 * (l.to - (l.from + 1));
}
