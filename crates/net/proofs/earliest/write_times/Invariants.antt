-- The times met so far are written.
use Rattle.net.specs.Times.{Earliest}
use Rattle.net.proofs.earliest.write_times.Given as goal

abbrev pub invariant-loop-j : goal.invariant-loop-j
invariant-loop-j g l = Earliest g.K.Kind.arithmetic g.K.Kind.amount l.n l.cells l.j l.times
