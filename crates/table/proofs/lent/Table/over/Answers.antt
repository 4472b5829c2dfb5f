use Rattle.std.proofs.Common.{arith}
use Rattle.table.proofs.Sizes.{first_count}
use Rattle.table.proofs.lent.Table.over.Goals as goal

pub invariant_of-result : goal.invariant_of-result
invariant_of-result g c = rw (first_count c.identity-order.result 0 c.identity-order.ensures) (record { fits = omega arith })
