use Rattle.std.proofs.Common.{rules}
use Rattle.table.proofs.Tables.{clear_filled}
use Rattle.table.proofs.grid.clear.Goals as goal

pub returns : goal.returns
returns g c = clear_filled c.args.m c.args.cells.now c.fill.new.self c.blank.result c.blank.ensures (c.fill.ensures.after (λ y h. search rules))
