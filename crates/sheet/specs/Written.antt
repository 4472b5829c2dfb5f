-- A net as the bytes of a sheet.
use Rattle.std.specs.List.{range_with_len}
use Rattle.std.specs.Prelude.{ℕ, sum_by, count_by, is_some, zero, suc, ◌+◌, ◌/◌, ◌%◌, cond, List, [], ◌∷◌, ◌++◌, length, drop, ℤ, Some, None, Ok, Err, Option, Result, ◌==◌, nat_le}
use Rattle.net.specs.declared.mode.Mode.TheVariants.{Open}
use Rattle.net.specs.Refusals.{Reason, by}
use Rattle.net.specs.State.{State}
use Rattle.sheet.specs.Records.{Coding}

-- the two bytes of a length
abbrev pub length_bytes : ℕ → List ℕ
length_bytes m = (m / 256) ∷ (m % 256) ∷ []

-- the records of each form
abbrev pub events_record : Coding → ℕ → List ℕ
events_record K n = length_bytes 3 ++ (1 ∷ n ∷ K.number ∷ [])

abbrev pub bound_record : Coding → (i j : ℕ) → List ℤ → List ℕ
bound_record K i j w = length_bytes (K.width + 3) ++ (2 ∷ i ∷ j ∷ K.encoded w)

abbrev pub ordering_record : List ℕ → List ℕ
ordering_record list = length_bytes (length list + 1) ++ (3 ∷ list)

-- the record of a pair that has a bound in force, and its length
abbrev pub pair_record : Coding → (i j : ℕ) → Option (List ℤ) → List ℕ
pair_record K i j None = []
pair_record K i j (Some w) = bound_record K i j w

abbrev pub pair_length : Coding → Option (List ℤ) → ℕ
pair_length K None = 0
pair_length K (Some w) = K.width + 5

-- the first m texts after each other, and the first m numbers together
unfoldable pub joined : (ℕ → List ℕ) → ℕ → List ℕ
joined f zero = []
joined f (suc m) = joined f m ++ f m

unfoldable pub summed : (ℕ → ℕ) → ℕ → ℕ
summed f zero = 0
summed f (suc m) = summed f m + f m

module _ (K : Coding) (F : ℕ → ℕ → Option (List ℤ)) where
  -- the bounds from i to the events below m
  abbrev pub row_records : (i m : ℕ) → List ℕ
  row_records i = joined (λ j. pair_record K i j (F i j))

  abbrev pub row_length : (i m : ℕ) → ℕ
  row_length i = summed (λ j. pair_length K (F i j))

  -- the bounds from the events below m to the n events
  abbrev pub all_records : (n m : ℕ) → List ℕ
  all_records n = joined (λ i. row_records i n)

  abbrev pub all_length : (n m : ℕ) → ℕ
  all_length n = summed (λ i. row_length i n)

-- how many bounds in force are from an event, and in all
abbrev pub held_from : State → ℕ → ℕ
held_from s i = count_by (λ j. is_some (s.bounds i j)) (range_with_len 0 s.events)

abbrev pub held : State → ℕ
held s = sum_by (held_from s) (range_with_len 0 s.events)

-- the records of all bounds in force, and how many bytes those are
abbrev pub bounds_records : Coding → State → List ℕ
bounds_records K s = all_records K s.bounds s.events s.events

abbrev pub bounds_length : Coding → State → ℕ
bounds_length K s = all_length K s.bounds s.events s.events

-- the version, the events, the bounds in force by from and then to, and the ordering
abbrev pub written : Coding → State → List ℕ
written K s = 1 ∷ (events_record K s.events ++ (bounds_records K s ++ ordering_record s.order))

-- how many bytes those are
abbrev pub sheet_length : Coding → State → ℕ
sheet_length K s = 6 + bounds_length K s + (length s.order + 3)

-- what a write answers, and the place after it
pub record Writing : Type 0 where
  pub answer : Result ℕ Reason
  pub place : List ℕ

abbrev pub writing : Result ℕ Reason → List ℕ → Writing
writing answer place = record { answer = answer; place = place }

-- write a net into a place: a refusal alters nothing, and the rest of the place stays as it was
abbrev pub write_sheet : Coding → State → List ℕ → Writing
write_sheet K s place =
    cond (s.events == 0) (writing (Err (by 1)) place)
    (cond (nat_le (sheet_length K s) (length place))
    (writing (Ok (sheet_length K s)) (written K s ++ drop (sheet_length K s) place))
    (writing (Err (by 5)) place))

-- the state of a net that is read back from what was written: open, and else the same
abbrev pub restored : State → State
restored s = record { events = s.events; bounds = s.bounds; order = s.order; mode = Open }
