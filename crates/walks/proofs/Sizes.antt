-- The sum of at most m bounds is of at most m times the size of one.
use Rattle.std.proofs.Common.{◌≡◌, ℕ, zero, suc, ◌+◌, ◌*◌, ◌≤◌, List, length, ℤ, ap, le_of_suc-le-suc, arith}
use Rattle.kinds.specs.Arithmetic.{Arithmetic, Lawful}
use Rattle.walks.specs.Bounds.{Bounds, InForce, Within, Sized}
use Rattle.walks.specs.Walks.{Walk}
use Rattle.walks.specs.Walks.Walk.{alone, on}
use Rattle.walks.specs.Claims.{DistancesAreSmall}
use Rattle.walks.proofs.Least.{sound, walk_amount}

one_more : (m most s a t : ℕ) → s ≤ a + t → a ≤ most → t ≤ m * most → s ≤ suc m * most
one_more m most s a t p q r = omega arith

module _ {A : Arithmetic} (L : Lawful A) (n : ℕ) (F : Bounds) (net : Within A n F) (most : ℕ) (sized : Sized A most F) where
  pub walk_size : (m : ℕ) {i j : ℕ} {vs : List ℕ} {s : List ℤ} → Walk A (InForce F) i vs j s → length vs ≤ m → A.size s ≤ m * most
  walk_size m alone h = let z = L.size_zero in omega arith
  walk_size zero (on e w q) h = absurd (omega arith)
  walk_size (suc m) (on {a = a} {s = s} {t = t} e w q) h =
      let z : A.size s ≡ A.size (A.plus a t) = ap A.size q in
      let p = L.size_plus a t (net.amounts _ _ a e) (walk_amount A L n F net w) in
      one_more m most (A.size s) (A.size a) (A.size t) (omega arith) (sized _ _ a e) (walk_size m w (le_of_suc-le-suc h))

pub small : DistancesAreSmall
small A L n F net most sized i j d e = let (vs, w, o) = sound A n F n i j d e in walk_size L n F net most sized n w o
