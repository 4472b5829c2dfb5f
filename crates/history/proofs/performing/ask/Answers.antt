use Rattle.history.proofs.Laws.{truly}
use Rattle.history.proofs.performing.ask.Goals as goal

pub returns : goal.returns
returns g c kept past st =
    let k = g.met.K.Kind in
    truly k.lawful past _ st k.inverse c.args.from c.args.to _ c.is_closed.ensures (c.distance.ensures.told kept) (c.window.ensures.told kept)
