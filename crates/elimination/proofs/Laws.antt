-- The amounts of a lawful kind keep the laws of elimination and sweep.
use mathlib.Core.Path.{◌≡◌, ap, subst}
use mathlib.Core.Bool.{true, Bool-set}
use mathlib.Core.List.{List}
use lib.IntN.{ℤ}
use Rattle.kinds.specs.Arithmetic.{Arithmetic, Amount, Lawful}
use Rattle.elimination.specs.Amounts.{Amounts}
use Rattle.elimination.specs.Sizes.{Measured}
use Rattle.elimination.specs.Held.{Held, nil, plus, le, size}

-- a row is an amount in one way, since a test has one answer
once : (A : Arithmetic) (x : List ℤ) (p q : Amount A x) → p ≡ q
once A x p q = Bool-set (A.amount x) true p q

-- two amounts are one where their rows are
pub same_row : (A : Arithmetic) (a b : Held A) → a.0 ≡ b.0 → a ≡ b
same_row A (x, p) (y, q) e = go y e q
  where
    go : (y : List ℤ) → x ≡ y → (q : Amount A y) → ◌≡◌ {A = Held A} (x, p) (y, q)
    go y e = subst (λ (z : List ℤ). (q : Amount A z) → ◌≡◌ {A = Held A} (x, p) (z, q)) e (λ q. ap (λ (r : Amount A x). (x, r)) (once A x p q))

module _ {A : Arithmetic} (L : Lawful A) where
  pub same : (a b : Held A) → a.0 ≡ b.0 → a ≡ b
  same = same_row A

  pub amounts : Amounts (nil L) (plus L) (le A)
  amounts = record {
    comm = λ a b. same _ _ (L.comm a.0 b.0 a.1 b.1);
    assoc = λ a b c. same _ _ (L.assoc a.0 b.0 c.0 a.1 b.1 c.1);
    unit = λ a. same _ _ (L.neutral a.0 a.1);
    refl_le = λ a. L.reflexive a.0 a.1;
    trans = λ a b c. L.transitive a.0 b.0 c.0 a.1 b.1 c.1;
    total = λ a b. L.total a.0 b.0 a.1 b.1;
    mono = λ a b c. L.keeps a.0 b.0 c.0 a.1 b.1 c.1;
  }

  pub measured : Measured (nil L) (plus L) (le A) (size A)
  measured = record {
    anti = λ a b p q. same _ _ (L.antisymmetric a.0 b.0 a.1 b.1 p q);
    size_nil = L.size_zero;
    size_plus = λ a b. L.size_plus a.0 b.0 a.1 b.1;
  }
