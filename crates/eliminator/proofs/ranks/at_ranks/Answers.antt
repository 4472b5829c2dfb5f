-- The events of ranks lie below the number of events.
use Rattle.std.proofs.Common.{sym, ◌∙◌}
use Rattle.eliminator.proofs.Viewing.{view_is}
use Rattle.eliminator.proofs.ranks.at_ranks.Goals as goal

pub at-requires : goal.at-requires
at-requires g c =
    let o = c.args.order.now in
    record { few = o.fits; fits = c.requires.fits; row = o.events_below c.args.r c.requires.row; column = o.events_below c.args.s c.requires.column }

pub returns : goal.returns
returns g c = c.at.ensures ∙ sym (view_is c.args.order.now c.args.cells.now c.args.r c.args.s)
