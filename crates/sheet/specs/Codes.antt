-- Amounts that their bytes name.
use Rattle.std.specs.Prelude.{◌≡◌, ℕ, ◌≤◌, List, [], ◌∷◌, length, ℤ, Some, None, Option}
use Rattle.kinds.specs.Arithmetic.{Arithmetic, Amount}
use Rattle.net.specs.State.{State}
use Rattle.sheet.specs.Records.{Coding, Said, events, bound, ordering, Asked, begin, require, arrange}
use Rattle.sheet.specs.Sheets.{Entry, asks, wrong}

-- the bytes of the amount are as many as the kind has, and name it
abbrev pub Codes : Coding → List ℤ → Type 0
Codes K w = (length (K.encoded w) ≡ K.width) × (K.decoded (K.encoded w) ≡ w)

-- so it is with every bound in force
abbrev pub Coded : Coding → State → Type 0
Coded K s = (i j : ℕ) (w : List ℤ) → s.bounds i j ≡ Some w → Codes K w

-- so it is in a net that has events
abbrev pub Full : Coding → State → Type 0
Full K s = Coded K s × (1 ≤ s.events)

-- so it is with the bound of a record, and it is an amount of the kind
abbrev pub SaidCodes : Coding → Option Said → Type 0
SaidCodes K None = Unit {0}
SaidCodes K (Some (events n kind)) = Unit {0}
SaidCodes K (Some (bound i j w)) = Codes K w × Amount K.arithmetic w
SaidCodes K (Some (ordering list)) = Unit {0}

abbrev pub EntryCodes : Coding → Entry → Type 0
EntryCodes K (asks at (begin n)) = Unit {0}
EntryCodes K (asks at (require i j w)) = Codes K w × Amount K.arithmetic w
EntryCodes K (asks at (arrange list)) = Unit {0}
EntryCodes K (wrong fault) = Unit {0}

-- every bound that calls ask for is an amount of the kind
abbrev pub Amounts : Arithmetic → List Asked → Type 0
Amounts A [] = Unit {0}
Amounts A (begin n ∷ more) = Amounts A more
Amounts A (require i j w ∷ more) = Amount A w × Amounts A more
Amounts A (arrange list ∷ more) = Amounts A more
