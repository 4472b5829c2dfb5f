-- The worked sheet, by computing.
use Rattle.std.proofs.Common.{refl}
use Rattle.std.specs.Fmt.{digits}
use Rattle.kinds.specs.Bytes.{whole_of}
use Rattle.marks.specs.Sets.{how_many}
use Rattle.sheet.specs.Records.{said}
use Rattle.sheet.specs.Sheets.{next_at, entries, run}
use Rattle.net.specs.State.{begun, required, arranged}
use Rattle.order.specs.Orderings.{numbers, stretch}
use Rattle.order.specs.Elimination.{after, pairs, width_of, fill_of, looks_of}
use Rattle.lines.specs.Fields.{line, counts_text, window_text, contradiction_text, fault_text}
use Rattle.listing.specs.Listings.{contradicts, closed_text}
use Rattle.listing.specs.Texts.{texts}
use Rattle.listing_example.specs.Worked.{WorkedText}

pub worked : WorkedText
unfolding digits whole_of how_many said next_at entries run begun required arranged numbers stretch after pairs width_of fill_of looks_of line counts_text window_text contradiction_text fault_text contradicts closed_text texts
worked loop = refl
