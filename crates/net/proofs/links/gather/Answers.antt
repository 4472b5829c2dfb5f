use Rattle.std.proofs.Common.{◌≡◌, ◌<◌, length, inl, arith, length-take}
use Rattle.table.specs.Cells.{bounds, neighbours}
use Rattle.net.proofs.Neighbourhoods.{gather_more, gather_all, linked_outside}
use Rattle.net.proofs.links.gather.Goals as goal

pub loop-i-preserved : goal.loop-i-preserved
loop-i-preserved g c =
    let within : c.loop-i.i < length c.loop-i.near = omega arith in
    gather_more (neighbours (bounds g.K.Kind.amount c.args.n c.args.cells.now)) c.loop-i.near c.neighbours.result c.loop-i.i within c.neighbours.ensures c.loop-i.invariant

pub returns-clause-near : goal.returns-clause-near
returns-clause-near g c =
    let whole : length c.loop-i.near ≡ c.args.n = omega (arith, length-take c.args.n c.args.place.now) in
    gather_all (neighbours (bounds g.K.Kind.amount c.args.n c.args.cells.now)) c.loop-i.near c.args.n whole
    (λ i j l. linked_outside g.K.Kind.amount c.args.n i j c.args.cells.now (inl l)) (λ p j l. c.loop-i.invariant p j (omega (arith, whole)))
