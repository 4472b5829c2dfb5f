-- One row after the other.
use Rattle.std.proofs.Common.{◌≡◌, ℕ, length, ap, arith, rules}
use Rattle.order.specs.declared.event_order.EventOrder.{EventOrder}
use Rattle.eliminator.specs.Views.{seen}
use Rattle.eliminator.specs.Members.{Others}
use Rattle.eliminator.specs.Steps.{RowPart}
use Rattle.eliminator.proofs.Viewing.{same_start, same_then, same_count}
use Rattle.eliminator.proofs.Visiting.{waits_start, waits_on}
use Rattle.eliminator.proofs.Relaxing.{row_all, part_start, part_turn, part_done, joined_start, joined_turn, joined_done}
use Rattle.eliminator.proofs.eliminate.take_out.Goals as goal

pub loop-i-init : goal.loop-i-init
loop-i-init g c =
    let all : c.into_iter-i-iterator.result.rest ≡ c.args.mine = search rules in
    rw all (same_start c.args.table.now, waits_start c.args.mine, part_start c.args.mine _, joined_start c.args.mine _)

pub relax_row-requires : goal.relax_row-requires
relax_row-requires g c =
    let n = ap (λ (o : EventOrder). o.count) c.loop-i.invariant.0.order in
    record {
      within = omega (arith, c.requires.within);
      row = c.requires.members c.in-Some.i (c.loop-i.invariant.1 c.in-Some.i c.in-Some.ensures.steps.here);
      columns = λ t h. c.requires.members _ (c.listed-ranks.ensures.member t h);
      apart = c.listed-ranks.ensures.apart;
    }

pub loop-i-preserved : goal.loop-i-preserved
loop-i-preserved g c =
    let i = c.loop-i.invariant in
    let t = c.in-Some.ensures.steps in
    let m = g.K.Kind in
    let ranks = c.listed-ranks.result.now in
    let row = same_count (λ (n : ℕ). RowPart m.arithmetic m.amount n c.args.k c.in-Some.i (Others ranks (length ranks) c.in-Some.i) (seen c.loop-i.table) (seen c.relax_row.new.table)) i.0 c.relax_row.ensures.part in (
      same_then i.0 c.relax_row.ensures.kept,
      waits_on _ _ _ t.others c.args.mine i.1,
      part_turn _ c.args.mine _ _ _ _ _ _ c.requires.within c.requires.members i.1 t.here t.others c.without-others.ensures i.2 (row_all _ _ c.args.mine _ _ _ _ c.listed-ranks.ensures c.without-others.ensures row),
      joined_turn _ c.args.mine _ _ _ _ _ _ (omega (arith, c.requires.members c.in-Some.i (i.1 c.in-Some.i t.here))) t.others c.without-others.ensures c.union.ensures i.3,
    )

pub returns : goal.returns
returns g c =
    let i = c.loop-i.invariant in
    let e = c.in-None.ensures.steps in
    record { kept = i.0; part = part_done c.args.mine _ _ _ e i.2; joined = joined_done c.args.mine _ _ _ e i.3 }

pub bounds-near-i : goal.bounds-near-i
bounds-near-i g c = omega (arith, c.requires.members c.in-Some.i (c.loop-i.invariant.1 c.in-Some.i c.in-Some.ensures.steps.here))

pub slice_copy_out-union : goal.slice_copy_out-union
slice_copy_out-union g c = omega (arith, c.requires.members c.in-Some.i (c.loop-i.invariant.1 c.in-Some.i c.in-Some.ensures.steps.here))
