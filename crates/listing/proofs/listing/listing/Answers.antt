-- What becomes of a sheet: refused, at fault, or listed.
use Rattle.std.proofs.Common.{◌≡◌, ◌≤◌, ◌∙◌, arith}
use Rattle.net.specs.State.{room}
use Rattle.sheet.specs.Faults.{in_bytes}
use Rattle.sheet.specs.Told.{fault_of}
use Rattle.lines.specs.Fields.{fault_text}
use Rattle.listing.specs.Listings.{fault_line}
use Rattle.listing.proofs.Written.{line_stands, refused_listed, fault_listed, read_listed, too_long, few_events, read_made}
use Rattle.listing.proofs.listing.listing.Goals as goal

pub returns-then-place-lt-SHORTEST_PLACE : goal.returns-then-place-lt-SHORTEST_PLACE
returns-then-place-lt-SHORTEST_PLACE c = refused_listed c.if-place-lt-SHORTEST_PLACE.true

pub returns-then-sheet-gt-LONGEST_SHEET : goal.returns-then-sheet-gt-LONGEST_SHEET
returns-then-sheet-gt-LONGEST_SHEET c =
    let stands = line_stands _ c.write.ensures.answer c.write.ensures.place c.unwrap.ensures (omega (arith, c.write.ensures.short)) in
    fault_listed (in_bytes 27 0) c.if-place-lt-SHORTEST_PLACE.false (too_long c.args.sheet.now c.if-sheet-gt-LONGEST_SHEET.true) stands (omega (arith, stands.ends, c.write.ensures.short))

pub list-requires : goal.list-requires
list-requires c =
    let g = c.in-Ok.ensures in
    let k : room c.read.new.net ≡ 1024 = g.kept ∙ c.make-net.ensures.kept in
    record { kept = g.faithful c.make-net.ensures.faithful; few = few_events c.read.new.net.table.order.count (omega (arith, c.read.new.net.table.fits)); room = omega arith }

pub returns-in-Ok : goal.returns-in-Ok
returns-in-Ok c =
    let made = c.make-net.ensures in
    read_listed c.if-place-lt-SHORTEST_PLACE.false (read_made c.args.sheet.now c.if-sheet-gt-LONGEST_SHEET.false c.in-Ok.ensures.reading made.kept made.made) c.list.ensures

pub returns-in-Err : goal.returns-in-Err
returns-in-Err c =
    let made = c.make-net.ensures in
    let fault = fault_of c.in-Err.fault in
    let same : fault_text c.number.result c.number-in-Err.result c.offset.result ≡ fault_line fault = rw (c.number.ensures, c.number-in-Err.ensures ∙ c.layer.ensures, c.offset.ensures) in
    let stands = line_stands _ c.write-in-Err.ensures.answer c.write-in-Err.ensures.place c.unwrap-in-Err.ensures (omega (arith, c.write-in-Err.ensures.short)) in
    let short : c.unwrap-in-Err.result ≤ 44 = omega (arith, stands.ends, c.write-in-Err.ensures.short) in
    fault_listed fault c.if-place-lt-SHORTEST_PLACE.false (read_made c.args.sheet.now c.if-sheet-gt-LONGEST_SHEET.false c.in-Err.ensures.reading made.kept made.made) (rw same at stands) (omega arith)
