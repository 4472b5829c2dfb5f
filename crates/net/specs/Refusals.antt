-- What each refusal says: its number, and the values that it carries.
use Rattle.std.specs.Prelude.{ℕ, List, [], ◌∷◌, Ok, Err, Result}
use Rattle.net.specs.declared.refusal.Refusal.{Refusal}
use Rattle.net.specs.declared.refusal.Refusal.TheVariants.{EventsOutOfRange, TooFewCells, NoSuchEvent, SameEvent, PlaceTooShort, NotClosed, TooLarge, NothingToWithdraw, WrongCount, OutsideNet, NamedTwice, Contradiction}

pub record Reason : Type 0 where
  pub number : ℕ
  pub values : List ℕ

-- a number that carries nothing
abbrev pub by : ℕ → Reason
by number = record { number = number; values = [] }

abbrev pub reason : Refusal → Reason
reason EventsOutOfRange = by 1
reason TooFewCells = by 2
reason NoSuchEvent = by 3
reason SameEvent = by 4
reason PlaceTooShort = by 5
reason NotClosed = by 6
reason TooLarge = by 11
reason NothingToWithdraw = by 12
reason WrongCount = by 13
reason OutsideNet = by 14
reason NamedTwice = by 15
reason (Contradiction events) = record { number = 16; values = events ∷ [] }

-- an answer, with the reason of a refusal
abbrev pub answered : {T : Type 0} → Result T Refusal → Result T Reason
answered (Ok x) = Ok x
answered (Err e) = Err (reason e)
