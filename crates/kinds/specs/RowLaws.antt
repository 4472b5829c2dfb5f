-- Rows keep all laws of a kind. The order is read by cases, which the proofs use.
use Rattle.std.specs.Prelude.{◌≡◌, ℕ, zero, suc, ◌+◌, ◌≤◌, Bool, true, false, ◌⊎◌, List, [], ◌∷◌, length, ℤ, ◌+ℤ◌, neg_ℤ, ◌<ℤ◌, int_lt, unsigned_abs, refl}
use Rattle.std.proofs.Common.{ap, ◌∙◌, inl, inr, ⊎_elim, arith}
use Rattle.std.proofs.Math.IntN.{+ℤ_assoc, +ℤ_comm, +ℤ_idl, +ℤ_invr}
use Rattle.std.proofs.lemmas.Int.{ints}
use Rattle.kinds.specs.Arithmetic.{Lawful, Inverse}
use Rattle.kinds.specs.Answers.{pick}
use Rattle.kinds.specs.Rows.{rows, row, zeros, plus, minus, at_most, size}

-- the order by cases
abbrev Under : List ℤ → List ℤ → Type 0
Under [] ys = Unit {0}
Under (x ∷ xs) [] = ⊥
Under (x ∷ xs) (y ∷ ys) = (x <ℤ y) ⊎ ((x ≡ y) × Under xs ys)

abbrev Row : ℕ → List ℤ → Type 0
Row n x = row n x ≡ true

from_test : (a b : ℤ) (r : Bool) → pick (int_lt a b) true (pick (int_lt b a) false r) ≡ true → (a <ℤ b) ⊎ ((a ≡ b) × (r ≡ true))
from_test a b r e = grind (arith, ints)

to_test : (a b : ℤ) (r : Bool) → (a <ℤ b) ⊎ ((a ≡ b) × (r ≡ true)) → pick (int_lt a b) true (pick (int_lt b a) false r) ≡ true
to_test a b r e = grind (arith, ints)

under : (x y : List ℤ) → at_most x y ≡ true → Under x y
under [] ys e = tt
under (x ∷ xs) [] e = cc
under (x ∷ xs) (y ∷ ys) e = ⊎_elim (λ l. inl l) (λ m. inr (m.0, under xs ys m.1)) (from_test x y (at_most xs ys) e)

over : (x y : List ℤ) → Under x y → at_most x y ≡ true
over [] ys u = refl
over (x ∷ xs) [] u = absurd u
over (x ∷ xs) (y ∷ ys) (inl l) = to_test x y (at_most xs ys) (inl l)
over (x ∷ xs) (y ∷ ys) (inr m) = to_test x y (at_most xs ys) (inr (m.0, over xs ys m.1))

-- induction over the rows of n numbers
by_row : (P : ℕ → List ℤ → Type 0) → P 0 [] → ((n : ℕ) (a : ℤ) (x : List ℤ) → P n x → P (suc n) (a ∷ x)) → (n : ℕ) (x : List ℤ) → Row n x → P n x
by_row P base step zero [] p = base
by_row P base step zero (a ∷ x) p = cc
by_row P base step (suc n) [] p = cc
by_row P base step (suc n) (a ∷ x) p = step n a x (by_row P base step n x p)

zeros_row : (n : ℕ) → Row n (zeros n)
zeros_row zero = refl
zeros_row (suc n) = zeros_row n

plus_row : (n : ℕ) (x y : List ℤ) → Row n x → Row n y → Row n (plus x y)
plus_row zero [] y p q = refl
plus_row zero (a ∷ x) y p q = cc
plus_row (suc n) [] y p q = cc
plus_row (suc n) (a ∷ x) [] p q = cc
plus_row (suc n) (a ∷ x) (b ∷ y) p q = plus_row n x y p q

plus_assoc : (x y z : List ℤ) → plus (plus x y) z ≡ plus x (plus y z)
plus_assoc [] y z = refl
plus_assoc (a ∷ x) [] z = refl
plus_assoc (a ∷ x) (b ∷ y) [] = refl
plus_assoc (a ∷ x) (b ∷ y) (c ∷ z) = rw (+ℤ_assoc a b c, plus_assoc x y z)

plus_comm : (x y : List ℤ) → plus x y ≡ plus y x
plus_comm [] [] = refl
plus_comm [] (b ∷ y) = refl
plus_comm (a ∷ x) [] = refl
plus_comm (a ∷ x) (b ∷ y) = rw (+ℤ_comm a b, plus_comm x y)

plus_neutral : (n : ℕ) (x : List ℤ) → Row n x → plus (zeros n) x ≡ x
plus_neutral = by_row (λ n x. plus (zeros n) x ≡ x) refl (λ n a x h. rw (+ℤ_idl a, h))

reflexive : (x : List ℤ) → Under x x
reflexive [] = tt
reflexive (a ∷ x) = inr (refl, reflexive x)

transitive : (x y z : List ℤ) → Under x y → Under y z → Under x z
transitive [] y z h k = tt
transitive (a ∷ x) [] z h k = absurd h
transitive (a ∷ x) (b ∷ y) [] h k = absurd k
transitive (a ∷ x) (b ∷ y) (c ∷ z) (inl l) (inl m) = inl (omega (arith, ints))
transitive (a ∷ x) (b ∷ y) (c ∷ z) (inl l) (inr m) = inl (omega (arith, ints))
transitive (a ∷ x) (b ∷ y) (c ∷ z) (inr l) (inl m) = inl (omega (arith, ints))
transitive (a ∷ x) (b ∷ y) (c ∷ z) (inr l) (inr m) = inr (l.0 ∙ m.0, transitive x y z l.1 m.1)

antisymmetric : (x y : List ℤ) → Under x y → Under y x → x ≡ y
antisymmetric [] [] h k = refl
antisymmetric [] (b ∷ y) h k = absurd k
antisymmetric (a ∷ x) [] h k = absurd h
antisymmetric (a ∷ x) (b ∷ y) (inl l) (inl m) = absurd (omega (arith, ints))
antisymmetric (a ∷ x) (b ∷ y) (inl l) (inr m) = absurd (omega (arith, ints))
antisymmetric (a ∷ x) (b ∷ y) (inr l) (inl m) = absurd (omega (arith, ints))
antisymmetric (a ∷ x) (b ∷ y) (inr l) (inr m) = rw (l.0, antisymmetric x y l.1 m.1)

total_head : (a b : ℤ) (x y : List ℤ) → Under x y ⊎ Under y x → Under (a ∷ x) (b ∷ y) ⊎ Under (b ∷ y) (a ∷ x)
total_head a b x y t = grind (arith, ints)

total : (x y : List ℤ) → Under x y ⊎ Under y x
total [] y = inl tt
total (a ∷ x) [] = inr tt
total (a ∷ x) (b ∷ y) = total_head a b x y (total x y)

keeps : (x y z : List ℤ) → Under x y → Under (plus x z) (plus y z)
keeps [] y z h = tt
keeps (a ∷ x) [] z h = absurd h
keeps (a ∷ x) (b ∷ y) [] h = tt
keeps (a ∷ x) (b ∷ y) (c ∷ z) (inl l) = inl (omega (arith, ints))
keeps (a ∷ x) (b ∷ y) (c ∷ z) (inr l) = inr (ap (λ t. t +ℤ c) l.0, keeps x y z l.1)

size_zero : (n : ℕ) → size (zeros n) ≡ 0
size_zero zero = refl
size_zero (suc n) = rw (size_zero n)

size_plus : (x y : List ℤ) → size (plus x y) ≤ size x + size y
size_plus [] y = omega arith
size_plus (a ∷ x) [] = omega arith
size_plus (a ∷ x) (b ∷ y) = let h = size_plus x y in omega (arith, ints)

size_minus : (x : List ℤ) → size (minus x) ≡ size x
size_minus [] = refl
size_minus (a ∷ x) = let e : unsigned_abs (neg_ℤ a) ≡ unsigned_abs a = omega (arith, ints) in rw (size_minus x, e)

minus_row : (n : ℕ) (x : List ℤ) → Row n x → Row n (minus x)
minus_row = by_row (λ n x. Row n (minus x)) refl (λ n a x h. h)

plus_minus : (n : ℕ) (x : List ℤ) → Row n x → plus x (minus x) ≡ zeros n
plus_minus = by_row (λ n x. plus x (minus x) ≡ zeros n) refl (λ n a x h. rw (+ℤ_invr a, h))

row_long : (n : ℕ) (x : List ℤ) → Row n x → length x ≡ n
row_long = by_row (λ n x. length x ≡ n) refl (λ n a x h. ap suc h)

pub rows_inverse : (n : ℕ) → Inverse (rows n) minus
rows_inverse n = record {
  minus_amount = minus_row n;
  undoes = plus_minus n;
  minus_size = λ x _. size_minus x;
}

pub rows_lawful : (n : ℕ) → Lawful (rows n)
rows_lawful n = record {
  long = row_long n;
  zero_amount = zeros_row n;
  plus_amount = plus_row n;
  assoc = λ x y z _ _ _. plus_assoc x y z;
  comm = λ x y _ _. plus_comm x y;
  neutral = plus_neutral n;
  reflexive = λ x _. over x x (reflexive x);
  transitive = λ x y z _ _ _ h k. over x z (transitive x y z (under x y h) (under y z k));
  antisymmetric = λ x y _ _ h k. antisymmetric x y (under x y h) (under y x k);
  total = λ x y _ _. ⊎_elim (λ h. inl (over x y h)) (λ h. inr (over y x h)) (total x y);
  keeps = λ x y z _ _ _ h. over (plus x z) (plus y z) (keeps x y z (under x y h));
  size_zero = size_zero n;
  size_plus = λ x y _ _. size_plus x y;
}
