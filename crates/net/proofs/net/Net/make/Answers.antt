use Rattle.std.proofs.Common.{sym, subst, refl}
use Rattle.net.specs.State.{Sound}
use Rattle.net.proofs.States.{stated_made}
use Rattle.net.proofs.Closings.{kept_open}
use Rattle.net.proofs.Soundness.{sound_made}
use Rattle.net.proofs.net.Net.make.Goals as goal

pub returns-clause-made : goal.returns-clause-made
returns-clause-made g c = stated_made g.K.Kind.amount c.over-table.result.order c.over-table.result.cells.now c.over-table.ensures.order

pub returns-clause-sound : goal.returns-clause-sound
returns-clause-sound g c = subst (Sound g.K.Kind.arithmetic) (sym (returns-clause-made g c)) (sound_made g.K.Kind.arithmetic)

pub returns-clause-faithful : goal.returns-clause-faithful
returns-clause-faithful g c = kept_open g.K.Kind.arithmetic g.K.Kind.amount _ (returns-clause-sound g c) refl
