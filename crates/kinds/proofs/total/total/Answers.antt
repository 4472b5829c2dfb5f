use Rattle.std.proofs.Common.{◌+◌, ◌^◌, ◌≤◌, arith, rules}
use Rattle.kinds.proofs.Totals.{total_next, item_small, size_next}
use Rattle.kinds.proofs.total.total.Goals as goal

pub returns-in_err-sum-clause-told : goal.returns-in_err-sum-clause-told
returns-in_err-sum-clause-told g c few small =
    let k = g.K.Kind in
    let a = k.arithmetic in
    let h = item_small a g.met.K.Kind.lawful k.amount c.args.bounds.now c.loop-b.b-index c.b-item.result (2 ^ 40) c.loop-b-test.true (search rules) small in
    let i = c.loop-b.invariant.1 small in
    let le : a.size (k.amount c.loop-b.sum) + a.size (k.amount c.b-item.result) ≤ 2 ^ 60 = omega arith in
    absurd (c.in_err-sum.ensures le)

pub loop-b-preserved : goal.loop-b-preserved
loop-b-preserved g c =
    let k = g.K.Kind in
    let a = k.arithmetic in
    let l = g.met.K.Kind.lawful in
    let m = g.met.K.Kind in
    let item = item_small a l k.amount c.args.bounds.now c.loop-b.b-index c.b-item.result (2 ^ 40) c.loop-b-test.true (search rules) in
    let is = c.in_ok-sum.ensures.1 in (
      total_next a l k.amount c.args.bounds.now c.loop-b.b-index c.b-item.result _ _ c.loop-b-test.true (search rules) c.loop-b.invariant.0 is,
      λ small. size_next a l k.amount (k.amount c.loop-b.sum) (k.amount c.b-item.result) _ c.loop-b.b-index (m.amounts c.loop-b.sum) (m.amounts c.b-item.result) is (c.loop-b.invariant.1 small) (item small),
    )
