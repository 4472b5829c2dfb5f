-- The counts of an elimination in an ordering, and the bound on its looks.
use Rattle.std.specs.Prelude.{ℕ, List}
use Rattle.order.specs.declared.counts.Counts.{Counts}
use Rattle.order.specs.Elimination.{Graph, width_of, fill_of, looks_of}

-- of the n events in the order of the list, from rank 1 to rank n
abbrev pub counts_of : ℕ → Graph → List ℕ → Counts
counts_of n graph events = record { width = width_of n graph events; fill = fill_of n graph events; looks = looks_of n graph events }
