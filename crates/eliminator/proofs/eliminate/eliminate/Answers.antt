-- One rank after the other, from the highest down.
use Rattle.std.proofs.Common.{◌≡◌, ℕ, suc, ◌-◌, true, refl, ap, ◌∙◌, arith}
use Rattle.marks.specs.Sets.{has}
use Rattle.order.specs.declared.event_order.EventOrder.{EventOrder}
use Rattle.eliminator.specs.Views.{seen}
use Rattle.eliminator.specs.Steps.{Part}
use Rattle.eliminator.proofs.Viewing.{same_start, same_then, same_count}
use Rattle.eliminator.proofs.Relaxing.{whole, near_next, bears_all}
use Rattle.eliminator.proofs.Stages.{stage_start, stage_next, whole_force}
use Rattle.eliminator.proofs.eliminate.eliminate.Goals as goal

pub loop-k-init : goal.loop-k-init
loop-k-init g c = (omega arith, same_start c.args.table.now, λ i j p q. refl, c.requires.near, λ L r. stage_start L g.K.Kind.amount g.met.K.Kind.amounts _ _ r)

pub first_failing-requires : goal.first_failing-requires
first_failing-requires g c =
    let n = ap (λ (o : EventOrder). o.count) c.loop-k.invariant.1.order in
    record { within = omega (arith, c.loop-k.invariant.0); members = c.lower-mine.ensures.members }

pub loop-k-preserved : goal.loop-k-preserved
loop-k-preserved g c =
    let e : c.loop-k.k ≡ suc (c.loop-k.k - 1) = omega arith in
    let m = g.K.Kind in
    let i = c.loop-k.invariant in
    let mine = c.lower-mine.result in
    let lower = c.lower-mine.ensures in
    let ys = seen c.loop-k.table in
    let zs = seen c.take_out.new.table in
    let part = same_count (λ (n : ℕ). Part m.arithmetic m.amount n (c.loop-k.k - 1) (λ q. has mine q ≡ true) (λ q. has mine q ≡ true) ys zs) i.1 c.take_out.ensures.part in
    let w = whole _ mine ys zs (omega (arith, i.0)) lower i.3 part in (
      omega (arith, i.0),
      same_then i.1 c.take_out.ensures.kept,
      λ x y p q. whole_force _ _ _ w x y p q ∙ i.2 x y p q,
      near_next _ mine ys zs (omega (arith, i.0)) lower i.3 part _ c.take_out.ensures.joined,
      λ L r. stage_next L m.amount g.met.K.Kind.amounts _ c.args.table.now.order.fits _ _ _ _ (omega (arith, i.0)) r (rw e at (i.4 L r))
          (bears_all m.arithmetic m.amount _ _ _ mine ys (omega (arith, i.0)) lower i.3 c.in_default.ensures) w,
    )

pub returns : goal.returns
returns g c =
    let e : c.loop-k.k ≡ 0 = omega arith in
    let i = c.loop-k.invariant in
    record { kept = i.1; same = i.2; near = i.3; outcome = λ L r. rw e at (i.4 L r) }

pub returns-in-Some : goal.returns-in-Some
returns-in-Some g c =
    let e : c.loop-k.k ≡ suc (c.loop-k.k - 1) = omega arith in
    let i = c.loop-k.invariant in
    let failed = c.in-Some.ensures in
    record {
      kept = i.1;
      same = i.2;
      near = i.3;
      outcome = record {
        low = c.lower-mine.ensures.members c.in-Some.i failed.0;
        within = omega (arith, i.0);
        falls = failed.1;
        stage = λ L r. rw e at (i.4 L r);
      };
    }
