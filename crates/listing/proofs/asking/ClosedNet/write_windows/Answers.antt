-- A row more.
use Rattle.std.proofs.Common.{◌≡◌, ℕ, ◌+◌, ◌≤◌, length, subst, arith}
use Rattle.listing.specs.Standing.{Stands}
use Rattle.listing.specs.Texts.{texts, row_text}
use Rattle.listing.specs.Listings.{ends_of}
use Rattle.listing.specs.ClosedNets.{state_in}
use Rattle.listing.proofs.Laying.{texts_next, texts_zero, stands_none, stands_more}
use Rattle.listing.proofs.PairCounts.{before_more, few}
use Rattle.listing.proofs.asking.ClosedNet.write_windows.Goals as goal

pub loop-from-init : goal.loop-from-init
loop-from-init c =
    let none = texts_zero (row_text (state_in c.args.self.now).events (ends_of (state_in c.args.self.now))) 0 in
    record { stands = rw none stands_none; short = omega arith }

pub write_row-at-requires : goal.write_row-at-requires
write_row-at-requires c =
    let n = (state_in c.args.self.now).events in
    let more = before_more n c.loop-from.from in
    let below = few n (c.loop-from.from + 1) (omega arith) (omega arith) in
    record { row = omega arith; room = omega arith }

pub loop-from-preserved : goal.loop-from-preserved
loop-from-preserved c =
    let n = (state_in c.args.self.now).events in
    let next = texts_next (row_text n (ends_of (state_in c.args.self.now))) c.loop-from.from in
    let more = before_more n c.loop-from.from in
    let below = few n (c.loop-from.from + 1) (omega arith) (omega arith) in
    let fits : c.loop-from.at + c.write_row-at.result ≤ length c.args.place.now = omega arith in
    record { stands = rw next (stands_more c.loop-from.invariant.stands c.write_row-at.ensures.place fits); short = omega arith }

pub returns : goal.returns
returns c =
    let n = (state_in c.args.self.now).events in
    let text = row_text n (ends_of (state_in c.args.self.now)) in
    let P : ℕ → Type 0 = λ k. Stands c.args.place.now c.loop-from.place (texts text 0 k) 0 c.loop-from.at in
    let done : c.loop-from.from ≡ n = omega arith in
    let below = few n c.loop-from.from (omega arith) (omega arith) in
    record { short = omega arith; place = subst P done c.loop-from.invariant.stands }
