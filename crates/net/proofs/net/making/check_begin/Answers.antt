use Rattle.std.proofs.Common.{ap, arith}
use Rattle.net.proofs.Outcomes.{begin_range, begin_cells, begin_done}
use Rattle.net.proofs.net.making.check_begin.Goals as goal

pub returns-then-n-lt1-clause-value : goal.returns-then-n-lt1-clause-value
returns-then-n-lt1-clause-value c = λ s. ap (λ o. o.answer) (begin_range c.args.cells c.args.n s c.then-n-lt1.either)

pub returns-then-n-cells-clause-value : goal.returns-then-n-cells-clause-value
returns-then-n-cells-clause-value c = λ s. ap (λ o. o.answer) (begin_cells c.args.cells c.args.n s (omega arith) (omega arith) (omega arith))

pub returns-clause-value : goal.returns-clause-value
returns-clause-value c = λ s. ap (λ o. o.answer) (begin_done c.args.cells c.args.n s (omega arith) (omega arith) (omega arith))
