-- A set of marks as a set of events, how many it has and which is the lowest.
use Rattle.std.specs.Prelude.{ℕ, zero, suc, ◌+◌, Bool, false, cond, Some, None, Option, MatchOption, not, true, ◌&&◌, ◌<◌, ◌≡◌, ◌==◌, nat_lt}
use Rattle.std.specs.Int.{bit_at}
use Rattle.marks.specs.declared.set.Marks.{Marks}

-- whether the digit of n at the place q is 1
abbrev pub on : ℕ → ℕ → Bool
on n q = bit_at n q == 1

-- whether e is marked
abbrev pub has : Marks → ℕ → Bool
has m e = nat_lt e 128 && on m.digits e

abbrev pub no_marks : Marks
no_marks = record { digits = 0 }

-- how many of the numbers below k have p
unfoldable pub how_many : (ℕ → Bool) → ℕ → ℕ
how_many p zero = 0
how_many p (suc k) = how_many p k + cond (p k) 1 0

-- the first answer, or where there is none the second
abbrev pub or_else : Option ℕ → Option ℕ → Option ℕ
or_else None second = second
or_else (Some x) second = Some x

-- the lowest of the numbers below k that has p
unfoldable pub lowest_of : (ℕ → Bool) → ℕ → Option ℕ
lowest_of p zero = None
lowest_of p (suc k) = or_else (lowest_of p k) (cond (p k) (Some k) None)

-- e is the lowest mark of s, and t has the others
pub record Taken (s : Marks) (e : ℕ) (t : Marks) : Type 0 where
  pub small : e < 128
  pub here : has s e ≡ true
  pub lowest : (q : ℕ) → q < e → has s q ≡ false
  pub others : (q : ℕ) → has t q ≡ (has s q && not (q == e))

-- a step of a visit: the lowest mark is given and the others are left, or there is none
abbrev pub Visits : Marks → Option ℕ → Marks → Type 0
Visits s r t = MatchOption r ((q : ℕ) → has s q ≡ false) (λ e. Taken s e t)
