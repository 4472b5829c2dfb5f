-- The records of the pairs so far are written.
use Rattle.net.specs.State.{state}
use Rattle.sheet.specs.Told.{coding_of}
use Rattle.sheet.proofs.Places.{Laid}
use Rattle.sheet.proofs.writing.put_bounds.Given as goal

abbrev pub invariant-loop-to : goal.invariant-loop-to
invariant-loop-to g l = Laid (coding_of g.K.Kind) (state g.K.Kind.amount l.net).bounds (state g.K.Kind.amount l.net).events l.from l.to l.at l.out l.fn.out

abbrev pub invariant-loop-from : goal.invariant-loop-from
invariant-loop-from g l = Laid (coding_of g.K.Kind) (state g.K.Kind.amount l.net).bounds (state g.K.Kind.amount l.net).events l.from 0 l.at l.out l.fn.out
