-- The word and the events, put together.
use Rattle.std.proofs.Common.{decimal, arith}
use Rattle.std.proofs.lemmas.Grind.{common_steps}
use Rattle.std.proofs.lemmas.List.Folds.{flat_map-map}
use Rattle.lines.specs.Fields.{further, line, contradiction_text}
use Rattle.lines.proofs.writing.ContradictionLineLine.text.Goals as goal

pub returns-clause-text : goal.returns-clause-text
unfolding contradiction_text line
returns-clause-text c = grind (arith, common_steps, flat_map-map further decimal c.args.self.now.events.now)
