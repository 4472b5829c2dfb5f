-- The place takes the sheet, or is too short for it.
use Rattle.std.proofs.Common.{◌≡◌, ℕ, ◌≤◌, Ok, ◌∙◌, subst, arith}
use Rattle.order.specs.Orderings.{events_of, arranged}
use Rattle.order.proofs.Orders.{events_count}
use Rattle.sheet.specs.Written.{sheet_length}
use Rattle.sheet.proofs.OrderWritten.{arranged_itself}
use Rattle.sheet.proofs.RoundTrip.{restores, restores_front}
use Rattle.net.specs.State.{state}
use Rattle.sheet.specs.Told.{coding_of}
use Rattle.sheet.proofs.SheetWritten.{write_short, write_done}
use Rattle.sheet.proofs.writing.write.Goals as goal

positive : (n : ℕ) → (n ≡ 0 → ⊥) → 1 ≤ n
positive n h = omega arith

pub returns-then-place-length : goal.returns-then-place-length
returns-then-place-length g c =
    let o = events_count c.args.net.now.table.order in
    let v = c.bounds_length.ensures.value in
    let n = c.events-n.ensures in
    let t = c.if-place-length.true in
    record { writing = write_short (coding_of g.K.Kind) (state g.K.Kind.amount c.args.net.now) c.args.place.now (λ e. c.if-n-eq0.false (n ∙ e)) (omega arith); back = tt }

pub put_sheet-requires : goal.put_sheet-requires
put_sheet-requires g c =
    let o = events_count c.args.net.now.table.order in
    let v = c.bounds_length.ensures.value in
    let n = c.events-n.ensures in
    let t = c.if-place-length.false in
    record { fits = omega arith }

pub returns : goal.returns
returns g c =
    let o = events_count c.args.net.now.table.order in
    let v = c.bounds_length.ensures.value in
    let n = c.events-n.ensures in
    let t = c.if-place-length.false in
    let S = state g.K.Kind.amount c.args.net.now in
    let some : 1 ≤ c.args.net.now.table.order.count = positive c.args.net.now.table.order.count (λ e. c.if-n-eq0.false (n ∙ e)) in
    let arranges = arranged_itself c.args.net.now.table.order in
    let length = sheet_length (coding_of g.K.Kind) S in
    record {
      writing = write_done (coding_of g.K.Kind) (state g.K.Kind.amount c.args.net.now) c.args.place.now c.put_sheet.new.out _ (λ e. c.if-n-eq0.false (n ∙ e)) (omega arith) (omega arith) c.put_sheet.ensures.bytes;
      back = restores_front (coding_of g.K.Kind) S _ c.put_sheet.new.out _ c.put_sheet.ensures.bytes (c.put_sheet.ensures.long ∙ omega arith) (restores (coding_of g.K.Kind) S c.put_sheet.ensures.codes some c.args.net.now.table.order.fits arranges);
    }
