-- The worked examples with what they come to, as one table.
use Rattle.std.specs.Prelude.{◌≡◌, ℕ, true, false, List, [], ◌∷◌, ℤ, pos, neg_ℤ, Some, None, Option}
use Rattle.kinds.specs.Rows.{rows}
use Rattle.kinds.specs.Bytes.{row_bytes, row_of}
use Rattle.order.specs.declared.counts.Counts.{Counts}
use Rattle.sheet.specs.Records.{Coding, Asked, begin, require}
use Rattle.sheet.specs.Sheets.{calls_of}
use Rattle.std.specs.List.{AllByRecursion}
use Rattle.worked.specs.Examples.{Example, Found, found}

-- whole microseconds, as a sheet writes them
abbrev pub whole_micros : Coding
whole_micros = record { arithmetic = rows 1; number = 1; width = 8; encoded = row_bytes; decoded = row_of 1 }

-- the sheet of three events with 0→1 100, 1→0 −40, 1→2 50, 2→1 −10, 0→2 200
abbrev pub three_events_sheet : List ℕ
three_events_sheet =
    1 ∷ 0 ∷ 3 ∷ 1 ∷ 3 ∷ 1
    ∷ 0 ∷ 11 ∷ 2 ∷ 0 ∷ 1 ∷ 0 ∷ 0 ∷ 0 ∷ 0 ∷ 0 ∷ 0 ∷ 0 ∷ 100
    ∷ 0 ∷ 11 ∷ 2 ∷ 1 ∷ 0 ∷ 255 ∷ 255 ∷ 255 ∷ 255 ∷ 255 ∷ 255 ∷ 255 ∷ 216
    ∷ 0 ∷ 11 ∷ 2 ∷ 1 ∷ 2 ∷ 0 ∷ 0 ∷ 0 ∷ 0 ∷ 0 ∷ 0 ∷ 0 ∷ 50
    ∷ 0 ∷ 11 ∷ 2 ∷ 2 ∷ 1 ∷ 255 ∷ 255 ∷ 255 ∷ 255 ∷ 255 ∷ 255 ∷ 255 ∷ 246
    ∷ 0 ∷ 11 ∷ 2 ∷ 0 ∷ 2 ∷ 0 ∷ 0 ∷ 0 ∷ 0 ∷ 0 ∷ 0 ∷ 0 ∷ 200
    ∷ []

abbrev pub less : ℕ → ℤ
less n = neg_ℤ (pos n)

abbrev pub at_most : ℕ → ℕ → ℤ → Asked
at_most i j w = require i j (w ∷ [])

abbrev pub strictly : ℕ → ℕ → ℤ → ℤ → Asked
strictly i j w mark = require i j (w ∷ mark ∷ [])

-- an example whose events keep the order of their numbers
abbrev pub asks : ℕ → List Asked → List (ℕ × ℕ) → List ℕ → Example
asks numbers calls pairs timed = record { numbers = numbers; calls = calls; then_ranked = false; pairs = pairs; timed = timed }

abbrev pub counted : ℕ → ℕ → ℕ → Counts
counted width fill looks = record { width = width; fill = fill; looks = looks }

abbrev pub ends : ℤ → ℤ → Option (List ℤ) × Option (List ℤ)
ends low high = (Some (low ∷ []), Some (high ∷ []))

abbrev pub no_ends : Option (List ℤ) × Option (List ℤ)
no_ends = (None, None)

abbrev pub at_time : ℤ → Option (List ℤ)
at_time t = Some (t ∷ [])

-- bounds that no run can keep
abbrev pub contradiction : List ℕ → Counts → Found
contradiction ordering counts = record { contradicts = true; ordering = ordering; counts = counts; windows = []; times = [] }

-- bounds that some run keeps, with the windows and times asked
abbrev pub calm : List ℕ → Counts → List (Option (List ℤ) × Option (List ℤ)) → List (Option (List ℤ)) → Found
calm ordering counts windows times = record { contradicts = false; ordering = ordering; counts = counts; windows = windows; times = times }

pub record Row : Type 0 where
  pub example : Example
  pub expected : Found

abbrev pub row : Example → Found → Row
row example expected = record { example = example; expected = expected }

abbrev pub two_to_the_third : List Asked
two_to_the_third = begin 3 ∷ at_most 0 2 (pos 5) ∷ at_most 1 2 (pos 5) ∷ []

abbrev pub table : List Row
table =
    -- a sheet in which two limits together are less than a third
    row (asks 1 (calls_of whole_micros three_events_sheet) ((0, 1) ∷ (0, 2) ∷ (1, 2) ∷ []) (0 ∷ 1 ∷ 2 ∷ []))
    (calm (0 ∷ 1 ∷ 2 ∷ []) (counted 2 0 5) (ends (pos 40) (pos 100) ∷ ends (pos 50) (pos 150) ∷ ends (pos 10) (pos 50) ∷ []) (at_time (less 50) ∷ at_time (less 10) ∷ at_time (pos 0) ∷ []))
    -- two events contradict though they share no higher neighbour
    ∷ row (asks 1 (begin 2 ∷ at_most 0 1 (pos 1) ∷ at_most 1 0 (less 5) ∷ []) [] [])
    (contradiction (0 ∷ 1 ∷ []) (counted 1 0 1))
    -- a window of one amount
    ∷ row (asks 1 (begin 2 ∷ at_most 0 1 (pos 5) ∷ at_most 1 0 (less 5) ∷ []) ((0, 1) ∷ []) [])
    (calm (0 ∷ 1 ∷ []) (counted 1 0 1) (ends (pos 5) (pos 5) ∷ []) [])
    -- a strict bound contradicts where its number alone would not
    ∷ row (asks 2 (begin 2 ∷ strictly 0 1 (pos 5) (less 1) ∷ strictly 1 0 (less 5) (pos 0) ∷ []) [] [])
    (contradiction (0 ∷ 1 ∷ []) (counted 1 0 1))
    -- a loop of three that falls short by one
    ∷ row (asks 1 (begin 3 ∷ at_most 0 1 (pos 10) ∷ at_most 1 2 (less 4) ∷ at_most 2 0 (less 7) ∷ []) [] [])
    (contradiction (0 ∷ 1 ∷ 2 ∷ []) (counted 2 0 5))
    -- and one that just holds
    ∷ row (asks 1 (begin 3 ∷ at_most 0 1 (pos 10) ∷ at_most 1 2 (less 4) ∷ at_most 2 0 (less 6) ∷ []) ((0, 2) ∷ []) [])
    (calm (0 ∷ 1 ∷ 2 ∷ []) (counted 2 0 5) (ends (pos 6) (pos 6) ∷ []) [])
    -- elimination makes two events neighbours between which there is no walk
    ∷ row (asks 1 two_to_the_third ((0, 1) ∷ []) [])
    (calm (0 ∷ 1 ∷ 2 ∷ []) (counted 2 1 5) (no_ends ∷ []) [])
    -- ranking spares that
    ∷ row (record { numbers = 1; calls = two_to_the_third; then_ranked = true; pairs = (0, 1) ∷ []; timed = [] })
    (calm (2 ∷ 1 ∷ 0 ∷ []) (counted 1 0 3) (no_ends ∷ []) [])
    ∷ []

-- what is computed for each example, and what is expected of it
abbrev pub computed : Row → Found
computed r = found r.example

abbrev pub expected_of : Row → Found
expected_of r = r.expected

abbrev pub ExamplesHold : Type 0
ExamplesHold = AllByRecursion (λ r. computed r ≡ expected_of r) table
