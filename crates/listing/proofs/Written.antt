-- The lines of a listing, put together.
use Rattle.std.proofs.Common.{◌≡◌, ℕ, ◌*◌, ◌<◌, ◌≤◌, Bool, true, false, leb, List, [], ◌++◌, length, drop, Some, Ok, Err, Option, Result, sym, ap, ◌∙◌, subst, inl, inr, mul-le-mul, arith, le-leb}
use borrow.Author.Tests.{lt-leb}
use Rattle.std.proofs.lemmas.Bool.{cond-true, cond-false, true≢false, cases_lt}
use Rattle.order.specs.declared.counts.Counts.{Counts}
use Rattle.walks.specs.Bounds.{InForce}
use Rattle.walks.specs.Walks.{Loop}
use Rattle.net.specs.Refusals.{by}
use Rattle.net.specs.State.{State, made}
use Rattle.sheet.specs.Faults.{Fault, in_bytes}
use Rattle.sheet.specs.Sheets.{Reading, reading, read_sheet}
use Rattle.lines.specs.Fields.{contradiction_text}
use Rattle.lines.specs.Placed.{told, laid}
use Rattle.listing.specs.Listings.{micros, micros_coding, own_cells, longest_sheet, shortest_place, ends_of, counts_in, counts_line, contradicts, closed_text, net_text, fault_line, read_text, sheet_read, listing_text, SheetLoop, NetListed, Listed}
use Rattle.listing.specs.Standing.{Stands}
use Rattle.listing.specs.Texts.{windows_text}

-- a line that fits stands at the front
pub line_stands : (may : Bool) {text before now : List ℕ} {answer : Option ℕ} {end : ℕ} → answer ≡ told may text → now ≡ laid may text before → answer ≡ Some end → length text ≤ length before → Stands before now text 0 end
line_stands true {text = text} {before = before} {end = end} a l s h =
    let e : end ≡ length text = cc in
    record { ends = omega arith; fits = omega arith; place = l ∙ ap (λ (k : ℕ). text ++ drop k before) (sym e) }
line_stands false a l s h = absurd (let z : ◌≡◌ {A = ℕ} 0 1 = cc in omega arith)

-- the lines of a net that closes
pub closed_listed : {s : State} (t : State) {counts : Counts} {before now : List ℕ} {end : ℕ} → contradicts s ≡ false → counts ≡ counts_in s → t.events ≡ s.events → t.bounds ≡ s.bounds →
    Stands before now (counts_line counts ++ windows_text t.events (ends_of t)) 0 end → end ≤ shortest_place → NetListed s before now end
unfolding closed_text
closed_listed {s = s} t {counts = counts} calm c e b stands short =
    let same : windows_text t.events (ends_of t) ≡ windows_text s.events (ends_of s) = rw (e, b) in
    let text : counts_line counts ++ windows_text t.events (ends_of t) ≡ closed_text s = rw (c, same) in
    let picked : closed_text s ≡ net_text [] s = sym (cond-false (contradicts s) (contradiction_text []) (closed_text s) calm) in
    record { loop = []; shown = λ h. absurd (true≢false (sym h ∙ calm)); stands = rw (text, picked) at stands; short = short }

-- the line of a contradiction
pub shown_listed : {s : State} {loop before now : List ℕ} {end : ℕ} → contradicts s ≡ true → Loop micros (InForce s.bounds) loop → Stands before now (contradiction_text loop) 0 end → end ≤ shortest_place → NetListed s before now end
shown_listed {s = s} {loop = loop} h l stands short =
    record { loop = loop; shown = λ _. l; stands = rw (sym (cond-true (contradicts s) (contradiction_text loop) (closed_text s) h)) at stands; short = short }

-- too short a place
pub refused_listed : {sheet before : List ℕ} → length before < shortest_place → Listed sheet before before (Err (by 5))
refused_listed {sheet = sheet} {before = before} h =
    let short = lt-leb shortest_place (length before) h in
    record {
      loop = [];
      shown = λ l. absurd (omega arith);
      told = sym (cond-false (leb shortest_place (length before)) (Ok (length (listing_text [] sheet))) (Err (by 5)) short);
      place = sym (cond-false (leb shortest_place (length before)) (listing_text [] sheet ++ drop (length (listing_text [] sheet)) before) before short);
      suffices = λ l. absurd (omega arith);
    }

-- the text of a sheet that stands in a place that is long enough
sheet_listed : {sheet before now : List ℕ} {end : ℕ} (loop : List ℕ) → shortest_place ≤ length before → SheetLoop loop (sheet_read sheet).answer (sheet_read sheet).after → Stands before now (listing_text loop sheet) 0 end → end ≤ shortest_place → Listed sheet before now (Ok end)
sheet_listed {sheet = sheet} {before = before} {end = end} loop h shown stands short =
    let long = le-leb shortest_place (length before) h in
    let text = listing_text loop sheet in
    let e : end ≡ length text = let k = stands.ends in omega arith in
    record {
      loop = loop;
      shown = λ _. shown;
      told = ap (λ (k : ℕ). Ok k) e ∙ sym (cond-true (leb shortest_place (length before)) (Ok (length text)) (Err (by 5)) long);
      place = stands.place ∙ ap (λ (k : ℕ). text ++ drop k before) e ∙ sym (cond-true (leb shortest_place (length before)) (text ++ drop (length text) before) before long);
      suffices = λ _. rw (sym e) short;
    }

-- the line of a fault
pub fault_listed : {sheet before now : List ℕ} {s : State} {end : ℕ} (fault : Fault) → shortest_place ≤ length before → reading (Err fault) s ≡ sheet_read sheet → Stands before now (fault_line fault) 0 end → end ≤ shortest_place → Listed sheet before now (Ok end)
fault_listed {sheet = sheet} {before = before} {now = now} {end = end} fault h e stands short =
    let answer : Err fault ≡ (sheet_read sheet).answer = ap (λ (r : Reading). r.answer) e in
    let P : Result (Unit {0}) Fault → Type 0 = λ r. SheetLoop [] r (sheet_read sheet).after in
    let Q : Result (Unit {0}) Fault → Type 0 = λ r. Stands before now (read_text [] r (sheet_read sheet).after) 0 end in
    sheet_listed [] h (subst P answer tt) (subst Q answer stands) short

-- the lines of a net that was read
pub read_listed : {sheet before now : List ℕ} {s : State} {end : ℕ} → shortest_place ≤ length before → reading (Ok tt) s ≡ sheet_read sheet → NetListed s before now end → Listed sheet before now (Ok end)
read_listed {before = before} {now = now} {end = end} h e listed =
    let P : Reading → Type 0 = λ r. SheetLoop listed.loop r.answer r.after in
    let Q : Reading → Type 0 = λ r. Stands before now (read_text listed.loop r.answer r.after) 0 end in
    sheet_listed listed.loop h (subst P e listed.shown) (subst Q e listed.stands) listed.short

-- what reading comes to, by the length of the sheet: too long, or read into a net just made over the listing's own cells
pub too_long : (sheet : List ℕ) → longest_sheet < length sheet → reading (Err (in_bytes 27 0)) made ≡ sheet_read sheet
too_long sheet h = sym (cond-false (leb (length sheet) longest_sheet) (read_sheet micros_coding own_cells sheet made) (reading (Err (in_bytes 27 0)) made) (lt-leb (length sheet) longest_sheet h))

pub read_made : {cells : ℕ} (sheet : List ℕ) {s : State} {r : Reading} → length sheet ≤ longest_sheet → r ≡ read_sheet micros_coding cells sheet s → cells ≡ own_cells → s ≡ made → r ≡ sheet_read sheet
read_made sheet h e c m =
    e ∙ rw (c, m) (sym (cond-true (leb (length sheet) longest_sheet) (read_sheet micros_coding own_cells sheet made) (reading (Err (in_bytes 27 0)) made) (le-leb (length sheet) longest_sheet h)))

-- a table of 1,024 cells serves 32 events at most
pub few_events : (n : ℕ) → n * n ≤ own_cells → n ≤ 32
few_events n h =
    elim (cases_lt 32 n) [
      | inl l ↦ absurd (let m = mul-le-mul l l in omega arith)
      | inr l ↦ l
    ]
