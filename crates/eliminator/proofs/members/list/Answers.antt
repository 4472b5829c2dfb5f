-- One member after the other.
use Rattle.std.proofs.Common.{◌≡◌, refl, arith, length-set, rules}
use Rattle.marks.specs.Sets.{has}
use Rattle.marks.proofs.Counting.{count_le, fewer}
use Rattle.eliminator.proofs.Visiting.{waits_start, waits_on}
use Rattle.eliminator.proofs.Listing.{list_start, list_turn, list_done}
use Rattle.eliminator.proofs.members.list.Goals as goal

pub loop-rank-init : goal.loop-rank-init
loop-rank-init c =
    let all : c.into_iter-rank-iterator.result.rest ≡ c.args.mine = search rules in
    rw all (refl, waits_start c.args.mine, omega (arith, count_le (has c.args.mine) 128), list_start c.args.mine _)

pub loop-rank-preserved : goal.loop-rank-preserved
loop-rank-preserved c =
    let i = c.loop-rank.invariant in
    let t = c.in-Some.ensures.steps in
    let f = fewer _ _ _ t in (
      simp length-set i.0,
      waits_on _ _ _ t.others c.args.mine i.1,
      omega arith,
      list_turn c.args.mine _ _ c.loop-rank.ranks c.loop-rank.m c.in-Some.rank (omega arith) i.1 t.here t.others i.3,
    )

pub returns : goal.returns
returns c =
    let i = c.loop-rank.invariant in
    record { long = i.0; few = omega arith; lists = list_done c.args.mine _ _ _ c.in-None.ensures.steps i.3 }

pub bounds-ranks-m : goal.bounds-ranks-m
bounds-ranks-m c =
    let i = c.loop-rank.invariant in
    let f = fewer _ _ _ c.in-Some.ensures.steps in
    omega arith

pub overflow_add-m : goal.overflow_add-m
overflow_add-m c = let i = c.loop-rank.invariant in omega arith
