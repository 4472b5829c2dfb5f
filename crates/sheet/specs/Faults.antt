-- What a fault of a sheet says: its number, its layer, the offset of its record, and the refusal that it carries.
use Rattle.std.specs.Prelude.{ℕ, Some, None, Option}
use Rattle.net.specs.Refusals.{Reason}

pub record Fault : Type 0 where
  pub number : ℕ
  -- 1 bytes, 2 records, 3 net
  pub layer : ℕ
  -- of the record's first length byte
  pub offset : ℕ
  -- the net's own refusal
  pub carried : Option Reason

abbrev pub in_bytes : ℕ → ℕ → Fault
in_bytes number at = record { number = number; layer = 1; offset = at; carried = None }

abbrev pub in_records : ℕ → ℕ → Fault
in_records number at = record { number = number; layer = 2; offset = at; carried = None }

abbrev pub in_net : Reason → ℕ → Fault
in_net why at = record { number = why.number; layer = 3; offset = at; carried = Some why }
