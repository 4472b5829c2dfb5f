-- A net's answers, in the words of its state.
use Rattle.std.specs.Prelude.{Bool, true, false, List, ℤ, Ok, Err, Option, Result}
use Rattle.table.specs.Cells.{amount_of}
use Rattle.net.specs.declared.mode.Mode.{Mode}
use Rattle.net.specs.declared.mode.Mode.TheVariants.{Open, Closed}

-- whether a net of this mode is closed
abbrev pub shut : Mode → Bool
shut Open = false
shut Closed = true

-- an answer, with the amount in place of the bound
abbrev pub amounts_told : {K E : Type 0} → (K → List ℤ) → Result (Option K) E → Result (Option (List ℤ)) E
amounts_told amount (Ok b) = Ok (amount_of amount b)
amounts_told amount (Err e) = Err e
