use Rattle.std.proofs.Common.{arith, rules}
use Rattle.net.proofs.Askings.{times_open, times_placed, placed_short, placed_long, timed, planned, not_open}
use Rattle.net.proofs.net.Net.times.Goals as goal

pub returns-then-eq-clause-refused : goal.returns-then-eq-clause-refused
returns-then-eq-clause-refused g c = times_open _ _ (search rules)

pub returns-then-place-events-clause-refused : goal.returns-then-place-events-clause-refused
returns-then-place-events-clause-refused g c = times_placed _ _ _ (search (rules, not_open)) (placed_short _ _ (omega arith))

pub returns-clause-refused : goal.returns-clause-refused
returns-clause-refused g c = times_placed _ _ _ (search (rules, not_open)) (placed_long _ _ (omega arith))

pub returns-clause-told : goal.returns-clause-told
returns-clause-told g c = λ k.
    let written = rw c.events-2.ensures at c.write_times.ensures in
    (timed g.K.Kind.arithmetic g.met.K.Kind.lawful g.K.Kind.amount c.args.self.now k (search (rules, not_open)) c.write_times.new.place written.times, written.rest)

pub returns-clause-schedule : goal.returns-clause-schedule
returns-clause-schedule g c = λ k.
    let written = rw c.events-2.ensures at c.write_times.ensures in
    planned g.K.Kind.arithmetic g.met.K.Kind.lawful g.K.Kind.amount c.args.self.now k (search (rules, not_open)) c.write_times.new.place written.times
