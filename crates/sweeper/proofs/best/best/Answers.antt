-- One rank after the other.
use Rattle.std.proofs.Common.{◌≡◌, ◌+◌, length, get_or, sym, refl, subst, inl, inr, arith}
use Rattle.eliminator.specs.Members.{Among}
use Rattle.std.proofs.lemmas.Bool.{cases_eq}
use Rattle.sweeper.specs.declared.least.Least.{Least}
use Rattle.sweeper.specs.Best.{Best}
use Rattle.sweeper.proofs.Bests.{fell, stayed, least_is, best_start, best_turn, best_skip}
use Rattle.sweeper.proofs.best.best.Goals as goal
use Rattle.sweeper.proofs.best.best.Goals.{in-Some, in_default}

pub loop-rank-init : goal.loop-rank-init
loop-rank-init g c front back tells = best_start g.met.K.Kind.lawful g.K.Kind.amount g.met.K.Kind.amounts _ _ front back _ _ refl (λ q s. omega (arith, s.1))

pub returns : goal.returns
returns g c = let e : c.loop-rank.rank-index ≡ length c.args.ranks.now = omega arith in rw e at c.loop-rank.invariant

pub loop-rank-preserved : goal.loop-rank-preserved
loop-rank-preserved g c front back tells =
    let m = g.K.Kind in
    let L = g.met.K.Kind.lawful in
    let proper = g.met.K.Kind.amounts in
    let skip = c.args.skip in
    let d = c.args.direct in
    let t = c.loop-rank.rank-index in
    let ranks = c.args.ranks.now in
    let j = get_or ranks t 0 in
    let inv = c.loop-rank.invariant front back tells in
    let told = tells t c.parts.result c.loop-rank-test.true c.parts.ensures in
    let old : Least g.row.K.Denot = record { sum = c.loop-rank.sum; by = c.loop-rank.by } in
    let Next : Least g.row.K.Denot → Type 0 = Best m.arithmetic m.amount (Among ranks (t + 1)) skip d front back in
    elim c.match-shorter_by.branch [
      | in-Some w ↦ subst Next (sym (least_is w.sum-is w.by-is))
          (best_turn L m.amount proper skip d front back ranks t old _ _ _ w.in-Some.ensures.0 told.0 told.1 inv (fell L m.amount proper j old _ _ _ w.in-Some.ensures.1))
      | in_default w ↦ subst Next (sym (least_is w.sum-is w.by-is))
          (elim (cases_eq j skip) [
            | inl s ↦ best_skip L m.amount proper skip d front back ranks t old s inv
            | inr s ↦ best_turn L m.amount proper skip d front back ranks t old old _ _ s told.0 told.1 inv (stayed m.amount j old _ _ (w.in_default.ensures s))
          ])
    ]
