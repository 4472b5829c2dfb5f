-- The events of the ranks before p are written, and the rest of the place is as it was.
use Rattle.std.proofs.Common.{◌≡◌, map, take, drop}
use Rattle.eliminator.specs.Views.{event_at}
use Rattle.closing.proofs.trail.tell.Given as goal

abbrev pub invariant-loop-p : goal.invariant-loop-p
invariant-loop-p l = (take l.p l.place ≡ map (event_at l.order) (take l.p (take l.len l.ranks))) × (drop l.len l.place ≡ drop l.len l.initial.place)
