-- The code's answers, in the words of the definitions: what each fault says, and what forms and calls mean.
use Rattle.std.specs.Prelude.{◌≡◌, ℕ, ◌+◌, ◌-◌, List, length, ℤ, Some, None, Ok, Err, Option, Result}
use Rattle.kinds.specs.Arithmetic.{Arithmetic}
use Rattle.kinds.specs.declared.kind.Kind.{Ghosts}
use Rattle.net.specs.Refusals.{reason}
use Rattle.sheet.specs.declared.fault.RecordFault.{RecordFault}
use Rattle.sheet.specs.declared.fault.RecordFault.TheVariants.{Malformed, Misplaced, OtherKind, Refused}
use Rattle.sheet.specs.declared.fault.SheetFault.{SheetFault}
use Rattle.sheet.specs.declared.fault.SheetFault.TheVariants.{Version, Cut, AtRecord}
use Rattle.sheet.specs.declared.fault.Layer.{Layer}
use Rattle.sheet.specs.declared.fault.Layer.TheVariants.{Bytes, Records, Net}
use Rattle.sheet.specs.declared.form.Form.{Form}
use Rattle.sheet.specs.declared.form.Form.TheVariants.{Events, Bound, Ordering}
use Rattle.sheet.specs.declared.form.Request.{Request}
use Rattle.sheet.specs.declared.form.Request.TheVariants.{Begin, Require, Arrange}
use Rattle.sheet.specs.declared.reader.Record.{Record}
use Rattle.sheet.specs.declared.reader.Reader.{Reader}
use Rattle.sheet.specs.Records.{Coding, Said, events, bound, ordering, Asked, begin, require, arrange, asked}
use Rattle.sheet.specs.Faults.{Fault, in_bytes, in_records, in_net}
use Rattle.sheet.specs.Sheets.{Next, ended, found, faulty, next_at, Entry, asks, wrong, entry}

-- a fault of the record at an offset: its number, its layer and what it carries
abbrev pub record_fault : RecordFault → ℕ → Fault
record_fault Malformed at = in_records 23 at
record_fault Misplaced at = in_records 24 at
record_fault OtherKind at = in_records 25 at
record_fault (Refused why) at = in_net (reason why) at

abbrev pub fault_of : SheetFault → Fault
fault_of Version = in_bytes 21 0
fault_of (Cut at) = in_bytes 22 at
fault_of (AtRecord at fault) = record_fault fault at

abbrev pub layer_number : Layer → ℕ
layer_number Bytes = 1
layer_number Records = 2
layer_number Net = 3

abbrev pub answered : {T : Type 0} → Result T SheetFault → Result T Fault
answered (Ok x) = Ok x
answered (Err fault) = Err (fault_of fault)

-- what a sheet has to know of a kind
abbrev pub coding : Arithmetic → (number width : ℕ) → (List ℤ → List ℕ) → (List ℕ → List ℤ) → Coding
coding A number width encoded decoded = record { arithmetic = A; number = number; width = width; encoded = encoded; decoded = decoded }

-- the ghost members of a kind, as that
abbrev pub coding_of : {T : Type 0} → Ghosts T → Coding
coding_of K = coding K.arithmetic K.number K.width K.encoded K.decoded

-- what a form says, with the amount of its bound
abbrev pub saying : {K : Type 0} → (K → List ℤ) → Form K → Said
saying amount (Events n kind) = events n kind
saying amount (Bound i j b) = bound i j (amount b)
saying amount (Ordering list) = ordering list.now

-- what a request asks, with the amount of its bound
abbrev pub asking : {K : Type 0} → (K → List ℤ) → Request K → Asked
asking amount (Begin n) = begin n
asking amount (Require i j b) = require i j (amount b)
asking amount (Arrange list) = arrange list.now

abbrev pub form_told : {K : Type 0} → (K → List ℤ) → Option (Form K) → Option Said
form_told amount None = None
form_told amount (Some form) = Some (saying amount form)

-- the record at an offset, by what it was found to ask
abbrev pub entry_told : {K : Type 0} → (K → List ℤ) → ℕ → Result (Request K) RecordFault → Entry
entry_told amount at (Ok request) = asks at (asking amount request)
entry_told amount at (Err fault) = wrong (record_fault fault at)

-- the record that is found, as it is come to
abbrev pub entry_of : Coding → Record → Entry
entry_of K r = entry r.offset (asked K r.offset r.body.now)

-- what stands where a reader is
abbrev pub next_from : List ℕ → Option ℕ → Next
next_from sheet None = ended
next_from sheet (Some at) = next_at sheet at

-- what a reader comes to is what stands where it is, and then it is behind that
abbrev pub ComesTo : Next → Option (Result Record SheetFault) → Option ℕ → Type 0
ComesTo next None at = next ≡ ended
ComesTo next (Some (Ok r)) at = (n : ℕ) × (at ≡ Some n) × (next ≡ found r.offset r.body.now n)
ComesTo next (Some (Err fault)) at = next ≡ faulty (fault_of fault)

pub record Comes (s : Reader) (r : Option (Result Record SheetFault)) (t : Reader) : Type 0 where
  pub same : t.sheet.now ≡ s.sheet.now
  pub told : ComesTo (next_from s.sheet.now s.at) r t.at

-- more than what is left to come
abbrev pub left : Reader → ℕ
left s = left_from (length s.sheet.now) s.at
  where
    left_from : ℕ → Option ℕ → ℕ
    left_from most None = 0
    left_from most (Some at) = most + 1 - at
