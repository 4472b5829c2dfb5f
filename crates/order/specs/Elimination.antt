-- Elimination of the events of a graph one after the other, and what it counts.
-- The events that are gone are listed with the latest first, so when all n are gone the list is the ordering from rank 1 to rank n.
use Rattle.std.specs.Prelude.{ℕ, zero, suc, ◌+◌, ◌-◌, ◌*◌, max, Bool, not, ◌&&◌, ◌||◌, List, [], ◌∷◌, length, ◌==◌, nat_lt}
use Rattle.marks.specs.Sets.{how_many}
use Rattle.order.specs.Orderings.{among}

-- which events are neighbours
abbrev pub Graph : Type 0
Graph = ℕ → ℕ → Bool

-- x is one of the n events and not gone
abbrev pub left : ℕ → List ℕ → ℕ → Bool
left n gone x = nat_lt x n && not (among gone x)

-- x is a neighbour of e that is not gone
abbrev pub beside : ℕ → Graph → List ℕ → ℕ → ℕ → Bool
beside n graph gone e x = graph e x && left n gone x

-- how many those are
abbrev pub degree : ℕ → Graph → List ℕ → ℕ → ℕ
degree n graph gone e = how_many (beside n graph gone e) n

-- two different events for which p holds become neighbours
abbrev pub joined : Graph → (ℕ → Bool) → Graph
joined graph p i j = graph i j || ((p i && p j) && not (i == j))

-- the neighbours once some events are gone: as each went, its neighbours that were left became neighbours of each other
unfoldable pub after : ℕ → Graph → List ℕ → Graph
after n graph [] = graph
after n graph (e ∷ gone) = joined (after n graph gone) (beside n (after n graph gone) (e ∷ gone) e)

-- how many pairs of the numbers below k have p
unfoldable pub pairs : (ℕ → ℕ → Bool) → ℕ → ℕ
pairs p zero = 0
pairs p (suc k) = pairs p k + how_many (p k) k

-- two events for which p holds and that are not neighbours
abbrev pub not_joined : Graph → (ℕ → Bool) → ℕ → ℕ → Bool
not_joined graph p i j = (p i && p j) && not (graph i j)

-- the greatest number of lower-ranked neighbours met at one elimination
unfoldable pub width_of : ℕ → Graph → List ℕ → ℕ
width_of n graph [] = 0
width_of n graph (e ∷ gone) = max (width_of n graph gone) (degree n (after n graph gone) (e ∷ gone) e)

-- the number of pairs that elimination made neighbours
unfoldable pub fill_of : ℕ → Graph → List ℕ → ℕ
fill_of n graph [] = 0
fill_of n graph (e ∷ gone) = fill_of n graph gone + pairs (not_joined (after n graph gone) (beside n (after n graph gone) (e ∷ gone) e)) n

-- over all ranks k, (k - 1) times the number of lower-ranked neighbours: the event that goes next has n less those gone as its rank
unfoldable pub looks_of : ℕ → Graph → List ℕ → ℕ
looks_of n graph [] = 0
looks_of n graph (e ∷ gone) = looks_of n graph gone + (n - length gone - 1) * degree n (after n graph gone) (e ∷ gone) e
