-- What close comes to: its counts, or the loop that it shows.
use Rattle.std.proofs.Common.{rules, ◌≤◌, length, arith}
use Rattle.listing.specs.Asked.{state_of}
use Rattle.listing.proofs.Answering.{only_loops, told}
use Rattle.listing.proofs.asking.close.Goals as goal

pub map_err-requires : goal.map_err-requires
map_err-requires c = λ why was.
    let s = state_of c.args.net.now in
    let room : s.events ≤ length c.args.place.now = omega (arith, c.args.net.now.table.order.fits) in
    let m = only_loops (length c.args.place.now) s (state_of c.close.new.self) c.close.result why room (c.close.ensures.outcome c.requires.kept.sound) was in
    rw m.1 (search rules)

pub returns : goal.returns
returns c =
    let s = state_of c.args.net.now in
    let room : s.events ≤ length c.args.place.now = omega (arith, c.args.net.now.table.order.fits) in
    let e = c.close.ensures in
    let t = told _ c.args.net.now c.close.new.self c.args.place.now c.close.new.place c.close.result c.map_err.result (λ why d p. search rules) c.map_err.ensures.cases room (e.outcome c.requires.kept.sound) e.rest (e.shows c.requires.kept.sound) in
    record {
      answer = t.0;
      kept = e.faithful c.requires.kept;
      events = t.1;
      bounds = t.2;
    }
