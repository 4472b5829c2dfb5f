-- Where the rank stands already, and where it is new.
use Rattle.std.proofs.Common.{◌≡◌, ℕ, List, sym, subst, arith, length-set, rules}
use Rattle.closing.specs.Trace.{Names}
use Rattle.closing.proofs.Pushes.{has_room, at_old, at_new, names_pushed}
use Rattle.closing.proofs.trail.push.Goals as goal

pub returns-then-out-p : goal.returns-then-out-p
returns-then-out-p c =
    let e = at_old c.args.n c.args.len c.args.v c.args.out.now c.requires.held c.loop-p.p (omega arith) (search rules) c.loop-p.invariant in
    record { held = omega arith; value = e; names = subst (λ (t : List ℕ). Names c.args.n t) (sym e) (names_pushed _ _ _ c.requires.below c.requires.names) }

pub bounds-out-len : goal.bounds-out-len
bounds-out-len c =
    let e : c.loop-p.p ≡ c.args.len = omega arith in
    let r = has_room c.args.n c.args.len c.args.v c.args.out.now c.requires.held c.requires.below c.requires.names (rw e at c.loop-p.invariant) in
    omega arith

pub returns : goal.returns
returns c =
    let z : c.loop-p.p ≡ c.args.len = omega arith in
    let r = has_room c.args.n c.args.len c.args.v c.args.out.now c.requires.held c.requires.below c.requires.names (rw z at c.loop-p.invariant) in
    let e = at_new c.args.n c.args.len c.args.v c.args.out.now c.requires.held (omega arith) (rw z at c.loop-p.invariant) in
    record { held = simp length-set (omega arith); value = e; names = subst (λ (t : List ℕ). Names c.args.n t) (sym e) (names_pushed _ _ _ c.requires.below c.requires.names) }
