use Rattle.std.proofs.Common.{◌≡◌, ◌*◌, ◌^◌, ◌≤◌, take, fold}
use Rattle.std.specs.List.{AllByRecursion}
use Rattle.kinds.proofs.total.total.Given as goal

abbrev pub invariant-loop-b : goal.invariant-loop-b
invariant-loop-b g l =
    let k = g.K.Kind in
    (k.amount l.sum ≡ fold (λ s b. k.arithmetic.plus s (k.amount b)) k.arithmetic.zero (take l.b-index l.bounds))
    × (AllByRecursion (λ b. k.arithmetic.size (k.amount b) ≤ 2 ^ 40) l.bounds → k.arithmetic.size (k.amount l.sum) ≤ l.b-index * 2 ^ 40)
