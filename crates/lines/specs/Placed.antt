-- A text at the front of a place.
use Rattle.std.specs.Prelude.{ℕ, Bool, cond, List, ◌++◌, length, drop, Some, None, Option, nat_le}

abbrev pub fits_in : List ℕ → List ℕ → Bool
fits_in text place = nat_le (length text) (length place)

-- the length of a text that may be written
abbrev pub told : Bool → List ℕ → Option ℕ
told may text = cond may (Some (length text)) None

-- the place with a text that may be written at its front; the rest is as it was
abbrev pub laid : Bool → List ℕ → List ℕ → List ℕ
laid may text place = cond may (text ++ drop (length text) place) place
