-- The whole table is computed at once; a lemma gives each entry.
use Rattle.std.proofs.Common.{◌≡◌, List, [], ◌∷◌, map, refl}
use Rattle.std.specs.List.{AllByRecursion}
use Rattle.kinds.specs.Bytes.{whole_of}
use Rattle.marks.specs.Sets.{how_many}
use Rattle.order.specs.Orderings.{numbers}
use Rattle.order.specs.Elimination.{after, pairs, width_of, fill_of, looks_of}
use Rattle.order.specs.Ranking.{best, ranking}
use Rattle.net.specs.State.{begun, required, arranged, ranked}
use Rattle.sheet.specs.Records.{said}
use Rattle.sheet.specs.Sheets.{next_at, entries, performed_all}
use Rattle.worked.specs.Examples.{Found}
use Rattle.worked.specs.Table.{Row, table, computed, expected_of}

pub computes : map computed table ≡ map expected_of table
unfolding whole_of how_many numbers after pairs width_of fill_of looks_of best ranking begun required arranged ranked said next_at entries performed_all
computes = refl

pub all_equal : (f g : Row → Found) (rows : List Row) → map f rows ≡ map g rows → AllByRecursion (λ r. f r ≡ g r) rows
all_equal f g [] e = tt
all_equal f g (r ∷ rs) e = let head : f r ≡ g r = cc in let tail : map f rs ≡ map g rs = cc in (head, all_equal f g rs tail)
