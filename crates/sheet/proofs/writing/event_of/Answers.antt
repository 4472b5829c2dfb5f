-- Every rank up to n has an event.
use Rattle.std.proofs.Common.{◌≡◌, ◌<◌, get_or, sym, refl, subst, ◌∙◌, arith}
use Rattle.order.specs.Orderings.{events_of}
use Rattle.order.proofs.Orders.{events_within}
use Rattle.sheet.proofs.OrderWritten.{ranked}
use Rattle.sheet.proofs.writing.event_of.Goals as goal

pub unwrap-requires : goal.unwrap-requires
unwrap-requires g c =
    let h = c.requires in
    rw (c.event_at.ensures, ranked c.args.net.now.table.order c.args.rank h) refl

pub overflow_cast-result : goal.overflow_cast-result
overflow_cast-result g c =
    let h = c.requires in
    let e = sym c.unwrap.ensures ∙ c.event_at.ensures ∙ ranked c.args.net.now.table.order c.args.rank h in
    let q : c.unwrap.result ≡ get_or (events_of c.args.net.now.table.order) c.args.rank 0 = cc in
    let w = events_within c.args.net.now.table.order c.args.rank h in
    let f = c.args.net.now.table.order.fits in
    omega arith

pub returns : goal.returns
returns g c =
    let h = c.requires in
    let e = sym c.unwrap.ensures ∙ c.event_at.ensures ∙ ranked c.args.net.now.table.order c.args.rank h in
    cc
