-- One bound more in the sum of a row of bounds.
use Rattle.std.proofs.Common.{◌≡◌, ℕ, ◌+◌, ◌*◌, ◌^◌, ◌<◌, ◌≤◌, List, length, get_or, take, ℤ, fold, sym, ap, ◌∙◌, subst, arith}
use Rattle.std.specs.List.{AllByRecursion}
use Rattle.std.proofs.lemmas.List.Sums.{fold_more}
use Rattle.std.proofs.ByRecursion.{All-get_or}
use Rattle.kinds.specs.Arithmetic.{Arithmetic, Lawful, Amount}

module _ (A : Arithmetic) (L : Lawful A) {K : Type 0} (amount : K → List ℤ) where
  -- one bound more
  pub total_next : (xs : List K) (i : ℕ) (x : K) (s r : List ℤ) → i < length xs → x ≡ get_or xs i x → s ≡ fold (λ t b. A.plus t (amount b)) A.zero (take i xs) → r ≡ A.plus s (amount x) → r ≡ fold (λ t b. A.plus t (amount b)) A.zero (take (i + 1) xs)
  total_next xs i x s r within read was is =
      is ∙ ap (λ t. A.plus t (amount x)) was ∙ ap (λ y. A.plus (fold (λ t b. A.plus t (amount b)) A.zero (take i xs)) (amount y)) read ∙ sym (fold_more (λ t b. A.plus t (amount b)) A.zero xs i x within)

  pub item_small : (xs : List K) (i : ℕ) (x : K) (m : ℕ) → i < length xs → x ≡ get_or xs i x → AllByRecursion (λ b. A.size (amount b) ≤ m) xs → A.size (amount x) ≤ m
  item_small xs i x m within read small = subst (λ y. A.size (amount y) ≤ m) (sym read) (All-get_or (λ b. A.size (amount b) ≤ m) xs i x within small)

  pub size_next : (s x r : List ℤ) (i : ℕ) → Amount A s → Amount A x → r ≡ A.plus s x → A.size s ≤ i * 2 ^ 40 → A.size x ≤ 2 ^ 40 → A.size r ≤ (i + 1) * 2 ^ 40
  size_next s x r i p q e h k = let l = L.size_plus s x p q in let z : A.size r ≡ A.size (A.plus s x) = ap A.size e in omega arith
