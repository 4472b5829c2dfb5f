-- Ranks given out from n down to 1, each to the unranked event with fewest unranked neighbours, the lowest number among equals.
use Rattle.std.specs.Prelude.{◌≡◌, ℕ, zero, suc, ◌≤◌, Bool, true, cond, List, [], ◌∷◌, Some, None, Option, nat_lt}
use Rattle.order.specs.Elimination.{Graph, left, degree, after}

-- the rule in words

-- e is left, no event that is left has fewer neighbours that are left, and none of a lower number has as few
pub record Fewest (n : ℕ) (graph : Graph) (gone : List ℕ) (e : ℕ) : Type 0 where
  pub here : left n gone e ≡ true
  pub least : (x : ℕ) → left n gone x ≡ true → degree n graph gone e ≤ degree n graph gone x
  pub lowest : (x : ℕ) → left n gone x ≡ true → degree n graph gone x ≤ degree n graph gone e → e ≤ x

-- each rank went to such an event, whose neighbours that were left became neighbours of each other
unfoldable pub Ranked : ℕ → Graph → List ℕ → Type 0
Ranked n graph [] = Unit {0}
Ranked n graph (e ∷ gone) = Fewest n (after n graph gone) gone e × Ranked n graph gone

-- the ranking computed

-- the better of what was found so far and k
abbrev pub better : (ℕ → ℕ) → Option ℕ → ℕ → Option ℕ
better cost None k = Some k
better cost (Some b) k = cond (nat_lt (cost k) (cost b)) (Some k) (Some b)

-- the number below k that may be taken and costs least, the lowest among equals
unfoldable pub best : (ℕ → ℕ) → (ℕ → Bool) → ℕ → Option ℕ
best cost may zero = None
best cost may (suc k) = cond (may k) (better cost (best cost may k) k) (best cost may k)

abbrev pub put : Option ℕ → List ℕ → List ℕ
put None gone = gone
put (Some e) gone = e ∷ gone

-- the events of the m highest ranks of n
unfoldable pub ranking : ℕ → Graph → ℕ → List ℕ
ranking n graph zero = []
ranking n graph (suc m) = put (best (degree n (after n graph (ranking n graph m)) (ranking n graph m)) (left n (ranking n graph m)) n) (ranking n graph m)
