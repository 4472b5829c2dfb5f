-- A bound in force, or two worked bounds.
use Rattle.std.proofs.Common.{rules}
use Rattle.closing.proofs.Traces.{onward_one, onward_two}
use Rattle.closing.proofs.trail.+expand.Goals as goal

pub returns-in-None : goal.returns-in-None
returns-in-None g t c = record {
  held = search rules;
  names = c.push.ensures.names;
  walks = onward_one _ _ _ _ c.requires.row c.requires.column _ _ c.in-None.ensures c.push.ensures.value;
}

pub returns-in-Some : goal.returns-in-Some
returns-in-Some g t c = record {
  held = search rules;
  names = search rules;
  walks = onward_two _ _ _ _ c.requires.row c.requires.column g.met.K.Kind.amounts _ _ _ _ c.in-Some.ensures c.expand-m.ensures.walks c.expand.ensures.walks;
}
