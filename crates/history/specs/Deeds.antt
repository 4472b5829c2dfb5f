-- Calls on a net as the subject has them: numbers, lists and amounts.
use Rattle.std.specs.Prelude.{ℕ, List, ℤ, Some, None, Option}

-- a call that does one thing; close has a place of so many bytes
pub data Deed : Type 0 where
  begin : (n : ℕ) → Deed
  require : (i j : ℕ) (w : List ℤ) → Deed
  withdraw : (i j : ℕ) → Deed
  arrange : (list : List ℕ) → Deed
  rank : Deed
  close : (place : ℕ) → Deed

-- a call as it is made: one of these, or the read of a sheet
pub data Action : Type 0 where
  does : Deed → Action
  reads : (sheet : List ℕ) → Action

-- how a call ends: accepted, or refused by a number
abbrev pub Answer : Type 0
Answer = Option ℕ

abbrev pub accepted : Answer
accepted = None

abbrev pub refused : ℕ → Answer
refused number = Some number

-- what a sheet's record says: a call, or the number of its fault
pub data Entry : Type 0 where
  call : Deed → Entry
  fault : (number : ℕ) → Entry
