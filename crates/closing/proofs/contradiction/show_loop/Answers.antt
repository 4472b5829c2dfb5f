-- From i to k, and back to i.
use Rattle.std.proofs.Common.{ℕ, List, sym, subst, arith, length-set}
use Rattle.closing.specs.Trace.{Names}
use Rattle.closing.proofs.Loops.{one_name, first_event, part_start, part_next, part_done}
use Rattle.closing.proofs.contradiction.show_loop.Goals as goal

pub expand-len-requires : goal.expand-len-requires
expand-len-requires g c =
    record {
      fits = c.requires.fits;
      row = omega arith;
      column = omega arith;
      room = simp length-set (omega arith);
      held = simp length-set (omega arith);
      names = subst (λ (t : List ℕ). Names c.args.order.now.count t) (sym (first_event c.args.out.now c.args.i (omega arith))) (one_name c.args.order.now.count c.args.i (omega arith));
    }

pub loop-v-init : goal.loop-v-init
loop-v-init g c = (
  c.requires.within,
  omega arith,
  c.expand-len.ensures.held,
  c.expand-len.ensures.names,
  part_start _ _ _ _ c.requires.lower c.requires.within _ _ (first_event c.args.out.now c.args.i (omega arith)) c.expand-len.ensures.walks,
)

pub loop-v-preserved : goal.loop-v-preserved
loop-v-preserved g c =
    let z = c.in-Some.ensures in
    let i = c.loop-v.invariant in (
      z.within,
      omega (arith, z.low_i, i.1),
      c.expand-len-in-Some.ensures.held,
      c.expand-len-in-Some.ensures.names,
      part_next _ _ _ _ c.requires.lower c.requires.within g.met.K.Kind.amounts _ _ _ _ i.0 i.1 z c.expand-len-in-Some.ensures.walks i.4,
    )

pub returns : goal.returns
returns g c =
    let i = c.loop-v.invariant in
    record { held = i.2; names = i.3; shows = part_done _ _ _ _ c.requires.lower c.requires.within _ _ i.0 i.1 i.3 c.in_default.ensures i.4 }
