-- The records of a sheet: where they lie in its bytes, what each says, and what it asks of a net.
use Rattle.std.specs.Prelude.{ℕ, ◌+◌, ◌*◌, Bool, cond, ◌&&◌, List, [], ◌∷◌, length, take, drop, ℤ, Some, None, Ok, Err, Option, Result, ◌==◌, nat_le, slice_index}
use Rattle.kinds.specs.Arithmetic.{Arithmetic}

-- what a sheet has to know of a kind
pub record Coding : Type 0 where
  pub arithmetic : Arithmetic
  -- the kind's own number, and how many bytes a bound has
  pub number : ℕ
  pub width : ℕ
  -- the bytes of an amount, and the amount of bytes
  pub encoded : List ℤ → List ℕ
  pub decoded : List ℕ → List ℤ

-- what the body of a record says
pub data Said : Type 0 where
  -- the number of events, and the number of the kind
  events : ℕ → ℕ → Said
  -- from one event to another, of this amount
  bound : ℕ → ℕ → List ℤ → Said
  -- the events from rank 1 on
  ordering : List ℕ → Said

-- what a record asks of a net
pub data Asked : Type 0 where
  begin : ℕ → Asked
  require : ℕ → ℕ → List ℤ → Asked
  arrange : List ℕ → Asked

-- the length that the two bytes at an offset write, the high one first
abbrev pub length_at : List ℕ → ℕ → ℕ
length_at sheet at = slice_index sheet at * 256 + slice_index sheet (at + 1)

-- whether the record whose length stands at an offset lies whole in the sheet
abbrev pub whole : List ℕ → ℕ → Bool
whole sheet at = nat_le (at + 2) (length sheet) && nat_le (at + 2 + length_at sheet at) (length sheet)

-- its body, and the offset after it
abbrev pub body_at : List ℕ → ℕ → List ℕ
body_at sheet at = take (length_at sheet at) (drop (at + 2) sheet)

abbrev pub after_record : List ℕ → ℕ → ℕ
after_record sheet at = at + 2 + length_at sheet at

-- what the fields of each form say; none where their number is wrong for it
abbrev pub events_said : List ℕ → Option Said
events_said fields = cond (length fields == 2) (Some (events (slice_index fields 0) (slice_index fields 1))) None

abbrev pub bound_said : Coding → List ℕ → Option Said
bound_said K fields = cond (length fields == K.width + 2) (Some (bound (slice_index fields 0) (slice_index fields 1) (K.decoded (drop 2 fields)))) None

-- the form by its tag
abbrev pub said_by : Coding → (tag : ℕ) → List ℕ → Option Said
said_by K tag fields =
    cond (tag == 1) (events_said fields)
    (cond (tag == 2) (bound_said K fields)
    (cond (tag == 3) (Some (ordering fields)) None))

-- what a body says; none where it has no tag, an unknown one, or a length wrong for it
unfoldable pub said : Coding → List ℕ → Option Said
said K [] = None
said K (tag ∷ fields) = said_by K tag fields

-- the offset of the first record
abbrev pub start : ℕ
start = 1

-- what a record asks, as the first one or a later one, or the number of its fault: the first one is to begin, and no other may
abbrev pub placement : (number : ℕ) → (first : Bool) → Said → Result Asked ℕ
placement number first (events n kind) = cond first (cond (kind == number) (Ok (begin n)) (Err 25)) (Err 24)
placement number first (bound i j w) = cond first (Err 24) (Ok (require i j w))
placement number first (ordering list) = cond first (Err 24) (Ok (arrange list))

abbrev pub placed : (number : ℕ) → (first : Bool) → Option Said → Result Asked ℕ
placed number first None = Err 23
placed number first (Some said) = placement number first said

-- what the body of the record at an offset asks, or the number of its fault
abbrev pub asked : Coding → ℕ → List ℕ → Result Asked ℕ
asked K at body = placed K.number (at == start) (said K body)
