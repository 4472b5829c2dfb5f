-- The text of the lines: fields parted by one space, and the line's end.
use Rattle.std.specs.Prelude.{ℕ, List, [], ◌∷◌, ◌++◌, map, ℤ, Some, None, codes, decimal, Option}
use Rattle.std.specs.Fmt.{signed_decimal}
use Rattle.std.specs.List.{flat_map}

-- a field after a space
abbrev pub further : List ℕ → List ℕ
further field = 32 ∷ field

-- numbers, each after a space
abbrev pub numbered : List ℕ → List ℕ
numbered numbers = flat_map (λ n. further (decimal n)) numbers

-- an end of a window: a dash where it is open
abbrev pub end_text : Option ℤ → List ℕ
end_text None = 45 ∷ []
end_text (Some number) = signed_decimal number

-- a first field, further ones, and byte 10
unfoldable pub line : List ℕ → List (List ℕ) → List ℕ
line first rest = first ++ (flat_map further rest ++ (10 ∷ []))

-- the most events that a line shows, and the bytes of the longest line: a word, those events and the line's end
abbrev pub most_shown : ℕ
most_shown = 32

abbrev pub longest_line : ℕ
longest_line = 142

-- the counts of a close
unfoldable pub counts_text : ℕ → ℕ → ℕ → List ℕ
counts_text width fill looks = line (codes "width") (decimal width ∷ codes "fill" ∷ decimal fill ∷ codes "looks" ∷ decimal looks ∷ [])

-- a pair of events, and the low and the high end of its window
unfoldable pub window_text : ℕ → ℕ → Option ℤ → Option ℤ → List ℕ
window_text from to low high = line (decimal from) (decimal to ∷ end_text low ∷ end_text high ∷ [])

-- a contradiction, and the events of its loop
unfoldable pub contradiction_text : List ℕ → List ℕ
contradiction_text events = line (codes "contradiction") (map decimal events)

-- a fault of a sheet
unfoldable pub fault_text : ℕ → ℕ → ℕ → List ℕ
fault_text number layer offset = line (codes "fault") (decimal number ∷ codes "layer" ∷ decimal layer ∷ codes "at" ∷ decimal offset ∷ [])
