-- What amounts are: a commutative monoid with a total order that sums keep.
use Rattle.std.specs.Prelude.{◌≡◌, ◌⊎◌}

pub record Amounts {A : Type 0} (zero : A) (plus : A → A → A) (le : A → A → Type 0) : Type 0 where
  pub comm : (a b : A) → plus a b ≡ plus b a
  pub assoc : (a b c : A) → plus (plus a b) c ≡ plus a (plus b c)
  pub unit : (a : A) → plus zero a ≡ a
  pub refl_le : (a : A) → le a a
  pub trans : (a b c : A) → le a b → le b c → le a c
  pub total : (a b : A) → le a b ⊎ le b a
  pub mono : (a b c : A) → le a b → le (plus a c) (plus b c)
