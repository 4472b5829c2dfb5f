-- The parts of the sheet stand after each other.
use Rattle.std.proofs.Common.{◌+◌, ◌-◌, length, refl, ◌∙◌, arith}
use borrow.Rule.Slice.PartMut.{put_mid, same_len_mid}
use Rattle.std.proofs.lemmas.List.{length-take, length-drop}
use Rattle.order.proofs.Orders.{events_count}
use Rattle.net.specs.State.{state}
use Rattle.sheet.specs.Told.{coding_of}
use Rattle.sheet.proofs.SheetWritten.{sheet_laid, written_long}
use Rattle.sheet.proofs.writing.put_sheet.Goals as goal

pub put_ordering-requires : goal.put_ordering-requires
put_ordering-requires g c =
    let l = same_len_mid 6 (length c.put_events.new.out - 6) c.put_events.new.out c.put_bounds-used.new.out c.put_bounds-used.auto.out in
    let k = c.put_events.auto.out in
    let u = c.put_bounds-used.ensures.used in
    let p = c.requires.fits in
    let o = events_count c.args.net.now.table.order in
    record { fits = simp (length-take, length-drop) (omega arith) }

pub returns : goal.returns
returns g c =
    let o = events_count c.args.net.now.table.order in
    record {
      bytes = sheet_laid (coding_of g.K.Kind) (state g.K.Kind.amount c.args.net.now) c.args.out.now c.put_events.new.out (put_mid 6 (length c.put_events.new.out - 6) c.put_events.new.out c.put_bounds-used.new.out) c.put_bounds-used.new.out c.put_ordering.new.out c.put_bounds-used.result (6 + c.put_bounds-used.result) c.requires.fits o c.put_events.ensures c.put_bounds-used.ensures.used c.put_bounds-used.ensures.long c.put_bounds-used.ensures.bytes refl refl c.put_ordering.ensures.bytes;
      long = written_long (coding_of g.K.Kind) (state g.K.Kind.amount c.args.net.now) c.put_bounds-used.ensures.long;
      codes = c.put_bounds-used.ensures.codes;
    }
