-- One lower neighbour after the other.
use Rattle.std.proofs.Common.{◌≡◌, arith, rules}
use Rattle.eliminator.specs.Views.{seen}
use Rattle.eliminator.proofs.Visiting.{waits_start, waits_on}
use Rattle.eliminator.proofs.Relaxing.{bears_start, bears_turn}
use Rattle.eliminator.proofs.eliminate.first_failing.Goals as goal

pub loop-i-init : goal.loop-i-init
loop-i-init g c =
    let all : c.into_iter-i-iterator.result.rest ≡ c.args.mine = search rules in
    rw all (waits_start c.args.mine, bears_start g.K.Kind.arithmetic g.K.Kind.amount _ c.args.mine (seen c.args.table.now))

pub fails-requires : goal.fails-requires
fails-requires g c =
    let l = c.requires.members c.in-Some.i (c.loop-i.invariant.0 c.in-Some.i c.in-Some.ensures.steps.here) in
    record { row = omega (arith, c.requires.within); column = c.requires.within }

pub loop-i-preserved : goal.loop-i-preserved
loop-i-preserved g c =
    let i = c.loop-i.invariant in
    let t = c.in-Some.ensures.steps in (
      waits_on _ _ _ t.others c.args.mine i.0,
      bears_turn g.K.Kind.arithmetic g.K.Kind.amount _ c.in-Some.i c.args.mine _ _ (seen c.args.table.now) (c.if-fails.ensures.no (λ b. b)) t.others i.1,
    )

pub returns-then-fails : goal.returns-then-fails
returns-then-fails g c = (c.loop-i.invariant.0 c.in-Some.i c.in-Some.ensures.steps.here, c.if-fails.ensures.yes tt)

pub returns : goal.returns
returns g c i h = c.loop-i.invariant.1 i (h, c.in-None.ensures.steps i)
