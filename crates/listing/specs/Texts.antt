-- The lines of all pairs of events, by the first and then by the second.
use Rattle.std.specs.Prelude.{ℕ, zero, suc, ◌+◌, ◌-◌, List, [], ◌++◌, ℤ, Option}
use Rattle.lines.specs.Fields.{window_text}

-- the low and the high end of the window of each pair
abbrev pub Ends : Type 0
Ends = ℕ → ℕ → Option ℤ × Option ℤ

-- the texts of the m numbers from k on, one after another
unfoldable pub texts : (ℕ → List ℕ) → ℕ → ℕ → List ℕ
texts text k zero = []
texts text k (suc m) = texts text k m ++ text (k + m)

-- the line of one pair
abbrev pub pair_text : Ends → ℕ → ℕ → List ℕ
pair_text ends from to = window_text from to (ends from to).0 (ends from to).1

-- the lines of an event with each greater one
abbrev pub row_text : ℕ → Ends → ℕ → List ℕ
row_text n ends from = texts (pair_text ends from) (from + 1) (n - (from + 1))

-- the lines of all pairs of n events
abbrev pub windows_text : ℕ → Ends → List ℕ
windows_text n ends = texts (row_text n ends) 0 n
