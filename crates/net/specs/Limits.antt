-- What a net can hold.
use Rattle.std.specs.Prelude.{ℕ, ◌*◌, ◌^◌}

-- the most events
abbrev pub most_events : ℕ
most_events = 128

-- the cells that n events need
abbrev pub cells_needed : ℕ → ℕ
cells_needed n = n * n

-- the greatest size of a bound
abbrev pub most_size : ℕ
most_size = 2 ^ 40
