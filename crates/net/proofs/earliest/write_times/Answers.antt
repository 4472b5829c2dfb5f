use Rattle.std.proofs.Common.{◌<◌, ◌∙◌, length, arith}
use Rattle.std.proofs.lemmas.List.{set-get_or}
use Rattle.net.proofs.Askings.{least_more, least_skip}
use Rattle.net.proofs.earliest.write_times.Goals as goal
use Rattle.net.proofs.earliest.write_times.Goals.{in-Some, in_default}

pub loop-j-preserved : goal.loop-j-preserved
loop-j-preserved g c =
    let l : c.loop-j.j < length c.loop-j.times = omega arith in
    elim c.match-earliest.branch [
      | in-Some w ↦ least_more g.K.Kind.arithmetic g.K.Kind.amount c.args.n c.loop-j.j c.args.cells.now c.loop-j.times _ w.in-Some.least l w.times-is w.in-Some.ensures c.loop-j.invariant
      | in_default w ↦ least_skip g.K.Kind.arithmetic g.K.Kind.amount c.args.n c.loop-j.j c.args.cells.now c.loop-j.times _ (w.times-is ∙ set-get_or _ _ _) w.in_default.ensures c.loop-j.invariant
    ]
