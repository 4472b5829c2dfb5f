-- A worked bound, or a distance and a worked bound.
use Rattle.std.proofs.Common.{arith}
use Rattle.closing.proofs.Towards.{toward_one, toward_ahead, toward_back}
use Rattle.closing.proofs.walk.+trace.Goals as goal

pub returns-in-None-clause-walks : goal.returns-in-None-clause-walks
returns-in-None-clause-walks g t c = toward_one _ _ _ _ _ c.requires.row c.requires.column _ _ c.in-None.ensures c.expand.ensures.walks

pub returns-in-Some-clause-walks : goal.returns-in-Some-clause-walks
returns-in-Some-clause-walks g t c =
    toward_ahead _ _ _ _ _ c.requires.row c.requires.column g.met.K.Kind.amounts _ _ _ _ c.in-Some.ensures c.if-i-j.true c.trace-a.ensures.walks c.expand-in-Some.ensures.walks

pub returns-in-Some-2-clause-walks : goal.returns-in-Some-2-clause-walks
returns-in-Some-2-clause-walks g t c =
    toward_back _ _ _ _ _ c.requires.row c.requires.column g.met.K.Kind.amounts _ _ _ _ c.in-Some.ensures (let z = c.in-Some.ensures.two in omega arith) c.expand-a.ensures.walks c.trace.ensures.walks
