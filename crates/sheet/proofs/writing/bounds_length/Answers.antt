-- So many bytes for each bound in force.
use Rattle.std.proofs.Common.{◌+◌, ◌*◌, ap, ◌∙◌, arith}
use Rattle.net.specs.State.{state}
use Rattle.sheet.specs.Told.{coding_of}
use Rattle.sheet.specs.Written.{held}
use Rattle.sheet.proofs.Counts.{length_counted, held_few, length_few}
use Rattle.sheet.proofs.writing.bounds_length.Goals as goal

pub held-requires : goal.held-requires
held-requires g c = let h = held_few (state g.K.Kind.amount c.args.net.now) 128 c.args.net.now.table.order.fits in omega arith

pub overflow_mul-result : goal.overflow_mul-result
overflow_mul-result g c = let h = length_few c.held.result c.width.result (state g.K.Kind.amount c.args.net.now) c.held.ensures c.args.net.now.table.order.fits c.width.ensures.bounded in omega arith

pub returns : goal.returns
returns g c = record {
  value = ap (λ m. m * (c.width.result + 5)) c.held.ensures ∙ ap (λ w. held (state g.K.Kind.amount c.args.net.now) * (w + 5)) c.width.ensures.value ∙ length_counted (coding_of g.K.Kind) (state g.K.Kind.amount c.args.net.now);
  few = length_few c.held.result c.width.result (state g.K.Kind.amount c.args.net.now) c.held.ensures c.args.net.now.table.order.fits c.width.ensures.bounded;
}
