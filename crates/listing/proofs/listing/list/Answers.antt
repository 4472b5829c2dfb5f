-- The lines of a net that closes, or the line of its contradiction.
use Rattle.std.proofs.Common.{◌+◌, ◌≤◌, length, take, arith}
use Rattle.std.proofs.lemmas.List.{length-take}
use Rattle.listing.specs.Asked.{state_of}
use Rattle.listing.proofs.Laying.{stands_more}
use Rattle.listing.proofs.Written.{line_stands, closed_listed, shown_listed}
use Rattle.listing.proofs.listing.list.Goals as goal

pub returns-in-Ok : goal.returns-in-Ok
returns-in-Ok c =
    let g = c.in-Ok.ensures in
    let front = line_stands _ c.write.ensures.answer c.write.ensures.place c.unwrap-at.ensures (omega (arith, c.write.ensures.short)) in
    let short : c.unwrap-at.result + c.write_windows.result ≤ 80 + 24800 = omega (arith, c.write_windows.ensures.short, front.ends, c.write.ensures.short) in
    closed_listed (state_of c.close.new.net) g.answer.0 g.answer.1 g.events g.bounds (stands_more front c.write_windows.ensures.place (omega arith)) (omega arith)

pub returns-in-Err : goal.returns-in-Err
returns-in-Err c =
    let g = c.in-Err.ensures in
    let few : length (take c.in-Err.why.shown c.close.new.place) ≤ 32 = rw length-take (omega (arith, g.answer.1)) in
    let short = c.write_contradiction.ensures.short few in
    let stands = line_stands _ c.write_contradiction.ensures.answer c.write_contradiction.ensures.place c.unwrap.ensures (omega arith) in
    shown_listed g.answer.0 g.answer.2 stands (omega (arith, stands.ends))
