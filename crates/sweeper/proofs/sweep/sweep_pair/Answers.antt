-- Both are found before either is written.
use Rattle.std.proofs.Common.{ℕ, length, Option}
use Rattle.eliminator.specs.Views.{seen}
use Rattle.eliminator.specs.Members.{Among}
use Rattle.eliminator.proofs.Viewing.{same_then, same_count}
use Rattle.sweeper.specs.Best.{Settles}
use Rattle.sweeper.proofs.Bests.{paired, best_worked, both_parts}
use Rattle.sweeper.proofs.sweep.sweep_pair.Goals as goal

pub returns : goal.returns
returns g c =
    let m = g.K.Kind in
    let K = g.row.K.Denot in
    let i = c.args.i in
    let k = c.args.k in
    let xs = seen c.args.table.now in
    let among = Among c.args.ranks.now (length c.args.ranks.now) in
    let first = c.settle.ensures in
    let second = same_count (λ (n : ℕ). Settles n k i c.best-out.result (seen c.settle.new.table) (seen c.settle-2.new.table)) first.kept c.settle-2.ensures.settles in
    let near : ℕ → Option K = λ q. (xs i q).distance in
    let far : ℕ → Option K = λ q. (xs q k).worked in
    let near_back : ℕ → Option K = λ q. (xs k q).worked in
    let far_back : ℕ → Option K = λ q. (xs q i).distance in
    let into = best_worked m.arithmetic m.amount among i near far _ c.cell_at.ensures (c.best-into.ensures near far (λ t r h p. both_parts p)) in
    let out = best_worked m.arithmetic m.amount among i near_back far_back _ c.cell_at-2.ensures (c.best-out.ensures near_back far_back (λ t r h p. both_parts p)) in
    record {
      kept = same_then first.kept c.settle-2.ensures.kept;
      paired = paired _ _ _ _ _ _ xs _ _ c.requires.low c.requires.within into out first.settles second;
    }
