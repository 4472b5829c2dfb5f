-- A graph held as one set of marks for each event.
use Rattle.std.specs.Prelude.{◌≡◌, ℕ, ◌<◌, ◌≤◌, true, ◌&&◌, List, slice_index_or}
use Rattle.marks.specs.declared.set.Marks.{Marks}
use Rattle.marks.specs.Sets.{has, how_many}
pub use Rattle.marks.specs.Sets.{no_marks}
use Rattle.order.specs.Elimination.{Graph}

-- which events the sets say are neighbours
abbrev pub graph_of : List Marks → Graph
graph_of sets i j = has (slice_index_or sets i no_marks) j

-- how many neighbours of x are marked in free
abbrev pub free_degree : List Marks → Marks → ℕ → ℕ
free_degree sets free x = how_many (λ y. graph_of sets x y && has free y) 128

-- among the numbers below k: e is marked, and none that is marked has fewer neighbours marked, or as few and a lower number
pub record Chosen (sets : List Marks) (free : Marks) (k e : ℕ) : Type 0 where
  pub below : e < k
  pub here : has free e ≡ true
  pub least : (x : ℕ) → x < k → has free x ≡ true → free_degree sets free e ≤ free_degree sets free x
  pub lowest : (x : ℕ) → x < k → has free x ≡ true → free_degree sets free x ≤ free_degree sets free e → e ≤ x
