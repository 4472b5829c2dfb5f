-- The rank alone, or the trace behind it.
use Rattle.std.proofs.Common.{ℕ, List, sym, subst, arith, length-set}
use Rattle.closing.specs.Trace.{Names}
use Rattle.closing.proofs.Loops.{one_name, first_event}
use Rattle.closing.proofs.Towards.{walked}
use Rattle.closing.proofs.walk.walk_ranks.Goals as goal

pub trace-requires : goal.trace-requires
trace-requires g c =
    record {
      fits = c.requires.fits;
      row = c.requires.row;
      column = c.requires.column;
      room = simp length-set (omega arith);
      held = simp length-set (omega arith);
      names = subst (λ (t : List ℕ). Names c.args.order.now.count t) (sym (first_event c.args.out.now c.args.i (omega arith))) (one_name c.args.order.now.count c.args.i (omega arith));
    }

pub returns-then-i-j : goal.returns-then-i-j
returns-then-i-j g c =
    let f = first_event c.args.out.now c.args.i (omega arith) in
    record {
      held = simp length-set (omega arith);
      names = subst (λ (t : List ℕ). Names c.args.order.now.count t) (sym f) (one_name c.args.order.now.count c.args.i (omega arith));
      alone = λ e. f;
      walks = λ L hi s t led calm d w. absurd (d c.if-i-j.true);
    }

pub returns : goal.returns
returns g c = record {
  held = c.trace.ensures.held;
  names = c.trace.ensures.names;
  alone = λ e. absurd (c.if-i-j.false e);
  walks = walked _ _ _ _ _ c.requires.row c.requires.column _ _ (first_event c.args.out.now c.args.i (omega arith)) c.trace.ensures.walks;
}
