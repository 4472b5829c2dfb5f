-- What was written reads back, and what was read is written whole.
use Rattle.std.specs.Prelude.{◌≡◌, ℕ, ◌≤◌, List, take, Ok, Err, Result}
use Rattle.net.specs.declared.refusal.Refusal.{Refusal}
use Rattle.net.specs.Limits.{cells_needed}
use Rattle.net.specs.State.{State, Sound}
use Rattle.sheet.specs.declared.fault.SheetFault.{SheetFault}
use Rattle.sheet.specs.Records.{Coding}
use Rattle.sheet.specs.Sheets.{reading, read_sheet}
use Rattle.sheet.specs.Written.{written, restored}

-- over every table that suffices, and whatever the net held before, the sheet is accepted and gives the same events, bounds in force and ordering
abbrev pub ReadsBack : Coding → State → List ℕ → Type 0
ReadsBack K s sheet = Sound K.arithmetic s → (cells : ℕ) → cells_needed s.events ≤ cells → (before : State) → read_sheet K cells sheet before ≡ reading (Ok tt) (restored s)

-- so it is with what stands in the place after a write
abbrev pub WrittenBack : Coding → State → Result ℕ Refusal → List ℕ → Type 0
WrittenBack K s (Ok n) place = ReadsBack K s (take n place)
WrittenBack K s (Err why) place = Unit {0}

-- so it is with what would be written after a read
abbrev pub RewrittenBack : Coding → Result (Unit {0}) SheetFault → State → Type 0
RewrittenBack K (Ok x) s = ReadsBack K s (written K s)
RewrittenBack K (Err fault) s = Unit {0}
