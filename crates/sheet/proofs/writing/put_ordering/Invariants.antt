-- The events of the ranks so far are written.
use Rattle.std.proofs.Common.{◌≡◌, ◌++◌, take, drop}
use Rattle.net.specs.State.{state}
use Rattle.sheet.proofs.writing.put_ordering.Given as goal

abbrev pub invariant-loop-rank : goal.invariant-loop-rank
invariant-loop-rank g l = l.event-items ≡ take l.rank (state g.K.Kind.amount l.net).order ++ drop l.rank l.initial.event-items
