-- what is left of the sheet becomes shorter with each record
use Rattle.std.proofs.Common.{◌≤◌, length}
use Rattle.trial.proofs.bytes.read_plainly.Given as goal

abbrev pub invariant-loop-rest : goal.invariant-loop-rest
invariant-loop-rest g l = length l.rest ≤ length l.bytes

abbrev pub decreases-loop-rest : goal.decreases-loop-rest
decreases-loop-rest g l = length l.rest
