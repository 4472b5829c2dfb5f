-- One step of the elimination: which cells become less, and how.
use Rattle.std.specs.Prelude.{◌≡◌, ℕ, ◌+◌, ◌^◌, ◌<◌, ◌≤◌, Bool, true, false, ◌≢◌, ◌⊎◌, List, ℤ, Some, None, Option, slice_index_or}
use Rattle.kinds.specs.Arithmetic.{Arithmetic, AtMost}
use Rattle.marks.specs.declared.set.Marks.{Marks}
use Rattle.marks.specs.Sets.{has, no_marks}
use Rattle.table.specs.declared.cell.Cell.{Cell}
use Rattle.eliminator.specs.Views.{Grid}

-- s is the sum of y and z, and less than old
pub record Shorter {K : Type 0} (A : Arithmetic) (amount : K → List ℤ) (y z old : Option K) (s : K) : Type 0 where
  pub front : K
  pub back : K
  pub front_is : y ≡ Some front
  pub back_is : z ≡ Some back
  pub adds : amount s ≡ A.plus (amount front) (amount back)
  pub less : (a : K) → old ≡ Some a → AtMost A (amount a) (amount s) → ⊥

-- no sum of y and z is less than old
abbrev pub NoShorter : {K : Type 0} → (A : Arithmetic) → (K → List ℤ) → Option K → Option K → Option K → Type 0
NoShorter {K} A amount y z old = (b c : K) → y ≡ Some b → z ≡ Some c → A.size (amount b) + A.size (amount c) ≤ 2 ^ 60 → (a : K) × (old ≡ Some a) × AtMost A (amount a) (A.plus (amount b) (amount c))

-- r was lowered to the sum of y and z, by k
pub record Lowered {K : Type 0} (A : Arithmetic) (amount : K → List ℤ) (k : ℕ) (r old : Cell K) (y z : Option K) : Type 0 where
  pub front : K
  pub back : K
  pub sum : K
  pub front_is : y ≡ Some front
  pub back_is : z ≡ Some back
  pub sum_is : r.worked ≡ Some sum
  pub via_is : r.via ≡ Some k
  pub adds : amount sum ≡ A.plus (amount front) (amount back)
  pub less : (a : K) → old.worked ≡ Some a → AtMost A (amount a) (amount sum) → ⊥

-- r is old, lowered by k where that is less
pub record Relaxed {K : Type 0} (A : Arithmetic) (amount : K → List ℤ) (k : ℕ) (r old : Cell K) (y z : Option K) : Type 0 where
  pub force : r.bound ≡ old.bound
  pub either : (r ≡ old) ⊎ Lowered A amount k r old y z
  pub tries : (b c : K) → y ≡ Some b → z ≡ Some c → A.size (amount b) + A.size (amount c) ≤ 2 ^ 60 → (a : K) × (r.worked ≡ Some a) × AtMost A (amount a) (A.plus (amount b) (amount c))

-- the set of neighbours of rank i among the marks
abbrev pub marked : List Marks → ℕ → Marks
marked near i = slice_index_or near i no_marks

module _ {K : Type 0} (A : Arithmetic) (amount : K → List ℤ) (n k : ℕ) where
  -- the cell from i to j relaxed by k, and every other as it was
  pub record OneCell (i j : ℕ) (xs ys : Grid K) : Type 0 where
    pub here : Relaxed A amount k (ys i j) (xs i j) (xs i k).worked (xs k j).worked
    pub elsewhere : (x y : ℕ) → x < n → y < n → ((x ≡ i) × (y ≡ j) → ⊥) → ys x y ≡ xs x y

  -- row i, at the columns of S
  pub record RowPart (i : ℕ) (S : ℕ → Type 0) (xs ys : Grid K) : Type 0 where
    pub done : (j : ℕ) → S j → Relaxed A amount k (ys i j) (xs i j) (xs i k).worked (xs k j).worked
    pub same : (x y : ℕ) → x < n → y < n → (x ≢ i) ⊎ ¬ (S y) → ys x y ≡ xs x y

  -- the rows of R, at the columns of S
  pub record Part (R S : ℕ → Type 0) (xs ys : Grid K) : Type 0 where
    pub done : (x y : ℕ) → R x → S y → x ≢ y → Relaxed A amount k (ys x y) (xs x y) (xs x k).worked (xs k y).worked
    pub same : (x y : ℕ) → x < n → y < n → ¬ (R x) ⊎ (¬ (S y) ⊎ (x ≡ y)) → ys x y ≡ xs x y

  -- every two ranks below k
  pub record Whole (xs ys : Grid K) : Type 0 where
    pub done : (x y : ℕ) → x < k → y < k → x ≢ y → Relaxed A amount k (ys x y) (xs x y) (xs x k).worked (xs k y).worked
    pub same : (x y : ℕ) → x < n → y < n → (k ≤ x) ⊎ ((k ≤ y) ⊎ (x ≡ y)) → ys x y ≡ xs x y

-- what a test for a bound between two ranks answers no to
abbrev pub Touching : {K : Type 0} → Grid K → ℕ → ℕ → Bool → Type 0
Touching xs i j b = b ≡ false → ((xs i j).bound ≡ None) × ((xs j i).bound ≡ None)

-- the neighbours of k below k
pub record Lower (near : List Marks) (k : ℕ) (mine : Marks) : Type 0 where
  pub members : (q : ℕ) → has mine q ≡ true → q < k
  pub strangers : (q : ℕ) → q < k → has mine q ≡ false → has (marked near k) q ≡ false

-- two ranks that are not marked as neighbours have no worked bound either way
abbrev pub Near : {K : Type 0} → ℕ → Grid K → List Marks → Type 0
Near n xs near = (i j : ℕ) → i < n → j < n → i ≢ j → has (marked near i) j ≡ false → ((xs i j).worked ≡ None) × ((xs j i).worked ≡ None)

-- all members became neighbours of each other, and none was taken out
abbrev pub Joined : (ℕ → Type 0) → Marks → List Marks → List Marks → Type 0
Joined R mine near after = (i j : ℕ) → has (marked after i) j ≡ false → (has (marked near i) j ≡ false) × (R i → has mine j ≡ true → i ≡ j)
