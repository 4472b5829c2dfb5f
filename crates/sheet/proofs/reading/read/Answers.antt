-- A sheet that the outline took is not refused.
use Rattle.std.proofs.Common.{◌≡◌, ℕ, List, Ok, Err, Result, sym, refl, ap, subst, arith}
use Rattle.order.specs.Orderings.{events_of, arranged}
use Rattle.net.specs.State.{State, state, room}
use Rattle.sheet.specs.declared.fault.SheetFault.{SheetFault}
use Rattle.sheet.specs.Records.{Coding}
use Rattle.sheet.specs.Outlines.{Accepted, Taken}
use Rattle.sheet.specs.Sheets.{entries_of, concluded, run}
use Rattle.sheet.specs.Told.{coding_of}
use Rattle.sheet.proofs.OrderWritten.{arranged_itself}
use Rattle.sheet.proofs.RoundTrip.{restores}
use Rattle.sheet.proofs.Runs.{as_calls}
use Rattle.sheet.proofs.reading.read.Goals as goal

taken_whole : (K : Coding) (m cells : ℕ) (sheet : List ℕ) (s : State) (P : State → Type 0) (a t : State) (r : Result (Unit {0}) SheetFault) → m ≡ cells → Accepted K m sheet s P a → Taken K cells sheet s r (λ u. t ≡ u) → (r ≡ Ok tt) × Accepted K cells sheet s (λ u. t ≡ u) t
taken_whole K m cells sheet s P a t (Ok x) e h n = (refl, subst (Accepted K cells sheet s (λ u. t ≡ u)) (sym n.1.shown) n.1)
taken_whole K m cells sheet s P a t (Err fault) e h n =
    let c = ap (λ k. run K.arithmetic k (entries_of K sheet) s) e in
    let f = h.came in
    let z : ◌≡◌ {A = ℕ} 0 1 = cc in absurd (omega arith)

pub returns : goal.returns
returns g c =
    let K = coding_of g.K.Kind in
    let s = state g.K.Kind.amount c.args.net.now in
    let t = state g.K.Kind.amount c.take_all-2.new.to in
    let seen = c.in_ok-take_all.ensures.taken s (sym c.events.ensures) in
    let w = taken_whole K c.room.result (room c.args.net.now) c.args.sheet.now s _ seen.0 t c.take_all-2.result c.room.ensures seen.1 (c.take_all-2.ensures.taken s refl) in
    let order = arranged_itself c.take_all-2.new.to.table.order in
    record {
      reading = rw w.0 (ap (concluded s) (sym w.1.came));
      untouched = rw w.0 tt;
      calls = rw w.0 (as_calls K.arithmetic (room c.args.net.now) (entries_of K c.args.sheet.now) s t w.1.came);
      again = rw w.0 (restores K t w.1.full.0 w.1.full.1 c.take_all-2.new.to.table.order.fits order);
      amounts = rw w.0 w.1.amounts;
      kept = c.take_all-2.ensures.room;
      sound = c.take_all-2.ensures.kept.0;
      faithful = c.take_all-2.ensures.kept.1;
    }
