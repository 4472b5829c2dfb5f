-- What the records of a sheet say, as calls on a net.
use Rattle.std.specs.Prelude.{ℕ, List, map}
use Rattle.sheet.specs.Records.{Coding, Asked}
use Rattle.sheet.specs.Records.Asked.{begin, require, arrange}
use Rattle.sheet.specs.Sheets as sheets
use Rattle.sheet.specs.Sheets.Entry.{asks, wrong}
use Rattle.history.specs.Deeds.{Deed, Entry}
use Rattle.history.specs.Deeds as deeds
use Rattle.history.specs.Deeds.Entry.{call, fault}

abbrev pub deed_of : Asked → Deed
deed_of (begin n) = deeds.begin n
deed_of (require i j w) = deeds.require i j w
deed_of (arrange list) = deeds.arrange list

abbrev pub entry_of : sheets.Entry → Entry
entry_of (asks offset asked) = call (deed_of asked)
entry_of (wrong why) = fault why.number

-- the records of a sheet in its order, up to its first fault
abbrev pub sheet_of : Coding → List ℕ → List Entry
sheet_of K bytes = map entry_of (sheets.entries_of K bytes)
