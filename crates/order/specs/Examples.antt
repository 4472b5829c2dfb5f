-- Small graphs and lists, and what the definitions make of them.
use Rattle.std.specs.Prelude.{◌≡◌, ℕ, ◌&&◌, ◌||◌, List, [], ◌∷◌, Ok, Err, ◌==◌}
use Rattle.order.specs.declared.event_order.Misordered.TheVariants.{Count, Outside, Again}
use Rattle.order.specs.declared.counts.Counts.{Counts}
use Rattle.order.specs.Orderings.{arranged}
use Rattle.order.specs.Elimination.{Graph}
use Rattle.order.specs.Ranking.{ranking}
use Rattle.order.specs.Counted.{counts_of}

-- a and b are neighbours, and no others
abbrev pub tie : ℕ → ℕ → Graph
tie a b i j = (i == a && j == b) || (i == b && j == a)

-- 0 and 1 are both beside 2
abbrev pub two_beside_one : Graph
two_beside_one i j = tie 0 2 i j || tie 1 2 i j

-- a ring of five events
abbrev pub ring_of_five : Graph
ring_of_five i j = tie 0 1 i j || (tie 1 2 i j || (tie 2 3 i j || (tie 3 4 i j || tie 4 0 i j)))

-- the events from rank 1 on, as ranked
abbrev pub RankedExamples : Type 0
RankedExamples = ranking 3 two_beside_one 3 ∷ ranking 5 ring_of_five 5 ∷ [] ≡ (2 ∷ 1 ∷ 0 ∷ []) ∷ (4 ∷ 3 ∷ 2 ∷ 1 ∷ 0 ∷ []) ∷ []

-- what elimination counts, in the order of the numbers and as ranked
abbrev pub CountedExamples : Type 0
CountedExamples =
    ◌≡◌ {A = List Counts} (counts_of 3 two_beside_one (0 ∷ 1 ∷ 2 ∷ []) ∷ counts_of 3 two_beside_one (2 ∷ 1 ∷ 0 ∷ []) ∷ counts_of 5 ring_of_five (4 ∷ 3 ∷ 2 ∷ 1 ∷ 0 ∷ []) ∷ [])
    (record { width = 2; fill = 1; looks = 5 } ∷ record { width = 1; fill = 0; looks = 3 } ∷ record { width = 2; fill = 2; looks = 19 } ∷ [])

-- lists of too few, of one outside before it comes again, of one that stood earlier before one outside, and an ordering
abbrev pub ArrangedExamples : Type 0
ArrangedExamples =
    arranged 3 (0 ∷ 1 ∷ []) ∷ arranged 3 (0 ∷ 3 ∷ 3 ∷ []) ∷ arranged 3 (1 ∷ 1 ∷ 9 ∷ []) ∷ arranged 3 (1 ∷ 0 ∷ 2 ∷ []) ∷ []
    ≡ Err Count ∷ Err Outside ∷ Err Again ∷ Ok (1 ∷ 0 ∷ 2 ∷ []) ∷ []
