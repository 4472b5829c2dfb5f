-- A pair more in the row.
use Rattle.std.proofs.Common.{◌+◌, ◌≤◌, length, arith}
use Rattle.listing.specs.Texts.{pair_text}
use Rattle.listing.specs.Listings.{ends_of}
use Rattle.listing.specs.ClosedNets.{state_in}
use Rattle.listing.proofs.Laying.{texts_more, texts_none, stands_none, stands_more}
use Rattle.listing.proofs.asking.ClosedNet.write_row.Goals as goal

pub loop-to-init : goal.loop-to-init
loop-to-init c =
    let none = texts_none (pair_text (ends_of (state_in c.args.self.now)) c.args.from) (c.args.from + 1) in
    record { stands = rw none stands_none; short = omega arith }

pub loop-to-preserved : goal.loop-to-preserved
loop-to-preserved c =
    let text = pair_text (ends_of (state_in c.args.self.now)) c.args.from in
    let more = texts_more text (c.args.from + 1) c.loop-to.to c.loop-to.auto.to in
    let fits : c.loop-to.at + c.write_pair-at.result ≤ length c.args.place.now = omega arith in
    record { stands = rw more (stands_more c.loop-to.invariant.stands c.write_pair-at.ensures.place fits); short = omega arith }
