-- How reading goes on from an offset.
use Rattle.std.proofs.Common.{◌≡◌, ℕ, zero, suc, ◌+◌, ◌<◌, ◌≤◌, eqb, ltb, List, [], ◌∷◌, length, get_or, Ok, Err, Result, sym, refl, ap, ◌∙◌, subst, inl, inr, arith}
use Rattle.std.proofs.lemmas.Bool.{cases_Bool, eq-eqb, ne_eqb, cond-true, cond-false}
use Rattle.kinds.specs.Arithmetic.{Arithmetic}
use Rattle.net.specs.Refusals.{Reason}
use Rattle.net.specs.State.{State}
use Rattle.sheet.specs.Records.{Coding, Asked, begin, require, arrange, whole, body_at, after_record, asked, start}
use Rattle.sheet.specs.Faults.{Fault, in_bytes, in_records}
use Rattle.sheet.specs.Sheets.{Next, ended, found, faulty, next_at, Entry, wrong, entry, listed, entries, entries_from, entries_of, entered, then, run, asks, performed, located, after_answer, after_call, calls_in, calls_of, performed_all}
use Rattle.sheet.specs.Codes.{Full, EntryCodes, Amounts}
use Rattle.sheet.specs.Outlines.{Performed, Entered, Accepted}
use Rattle.sheet.specs.Told.{entry_of, record_fault}
use Rattle.sheet.specs.declared.fault.RecordFault.{RecordFault}
use Rattle.sheet.specs.declared.reader.Record.{Record}
use Rattle.sheet.proofs.Nexts.{at_end}
use Rattle.sheet.proofs.Requests.{coded_entered}

-- a record that is found lies behind its offset
pub found_on : (xs : List ℕ) (at o n : ℕ) (b : List ℕ) → next_at xs at ≡ found o b n → (at + 2 ≤ n) × (o ≡ at)
unfolding next_at
found_on xs at o n b e =
    elim (cases_Bool (ltb at (length xs))) [
      | inl t ↦ elim (cases_Bool (whole xs at)) [
        | inl w ↦ let p : found at (body_at xs at) (after_record xs at) ≡ found o b n = rw (t, w) at e in let q : after_record xs at ≡ n = cc in let z : at ≡ o = cc in (omega arith, sym z)
        | inr w ↦ let p : faulty (in_bytes 22 at) ≡ found o b n = rw (t, w) at e in let z : ◌≡◌ {A = ℕ} 0 1 = cc in absurd (omega arith)
      ]
      | inr t ↦ elim (cases_Bool (eqb at start)) [
        | inl w ↦ let p : faulty (in_records 24 at) ≡ found o b n = rw (t, w) at e in let z : ◌≡◌ {A = ℕ} 0 1 = cc in absurd (omega arith)
        | inr w ↦ let p : ended ≡ found o b n = rw (t, w) at e in let z : ◌≡◌ {A = ℕ} 0 1 = cc in absurd (omega arith)
      ]
    ]

listed_same : (K : Coding) (x : Next) (f h : ℕ → List Entry) → ((o n : ℕ) (b : List ℕ) → x ≡ found o b n → f n ≡ h n) → listed K x f ≡ listed K x h
listed_same K ended f h e = refl
listed_same K (found o b n) f h e = ap (λ more. entry o (asked K o b) ∷ more) (e o n b refl)
listed_same K (faulty fault) f h e = refl

pub nonempty : (xs : List ℕ) → get_or xs 0 0 ≡ 1 → 1 ≤ length xs
nonempty [] e = absurd (omega arith)
nonempty (x ∷ xs) e = omega arith

module _ (K : Coding) (sheet : List ℕ) (some : 1 ≤ length sheet) where
  -- more places for records than bytes left change nothing
  enough : (m n at : ℕ) → length sheet < at + m → length sheet < at + n → entries K sheet m at ≡ entries K sheet n at
  unfolding entries
  enough zero zero at p q = refl
  enough zero (suc n) at p q = sym (ap (λ x. listed K x (entries K sheet n)) (at_end sheet at (omega arith) (λ e. omega arith)))
  enough (suc m) zero at p q = ap (λ x. listed K x (entries K sheet m)) (at_end sheet at (omega arith) (λ e. omega arith))
  enough (suc m) (suc n) at p q =
      listed_same K (next_at sheet at) (entries K sheet m) (entries K sheet n) (λ o k b e. let h = found_on sheet at o k b e in enough m n k (omega arith) (omega arith))

  entries_step : (m at : ℕ) → m ≡ length sheet → 1 ≤ at → entries K sheet m at ≡ listed K (next_at sheet at) (entries K sheet m)
  unfolding entries
  entries_step zero at e h = absurd (omega arith)
  entries_step (suc m) at e h = listed_same K (next_at sheet at) (entries K sheet m) (entries K sheet (suc m)) (λ o k b f. let l = found_on sheet at o k b f in enough m (suc m) k (omega arith) (omega arith))

  step : (at : ℕ) (x : Next) → 1 ≤ at → next_at sheet at ≡ x → entries_from K sheet at ≡ listed K x (entries_from K sheet)
  step at x h e = entries_step (length sheet) at refl h ∙ ap (λ y. listed K y (entries_from K sheet)) e

  module _ (A : Arithmetic) (cells at : ℕ) (s : State) (h : 1 ≤ at) where
    pub goes : (o n : ℕ) (b : List ℕ) (t : State) → next_at sheet at ≡ found o b n → entered A cells (entry o (asked K o b)) s ≡ Ok t → run A cells (entries_from K sheet at) s ≡ run A cells (entries_from K sheet n) t
    unfolding run
    goes o n b t e f = ap (λ es. run A cells es s) (step at (found o b n) h e) ∙ ap (λ r. then r (run A cells (entries_from K sheet n))) f

    pub stops : (o n : ℕ) (b : List ℕ) (fault : Fault) → next_at sheet at ≡ found o b n → entered A cells (entry o (asked K o b)) s ≡ Err fault → run A cells (entries_from K sheet at) s ≡ Err fault
    unfolding run
    stops o n b fault e f = ap (λ es. run A cells es s) (step at (found o b n) h e) ∙ ap (λ r. then r (run A cells (entries_from K sheet n))) f

    pub ends : next_at sheet at ≡ ended → run A cells (entries_from K sheet at) s ≡ Ok s
    unfolding run
    ends e = ap (λ es. run A cells es s) (step at ended h e)

    pub faults : (fault : Fault) → next_at sheet at ≡ faulty fault → run A cells (entries_from K sheet at) s ≡ Err fault
    unfolding run
    faults fault e = ap (λ es. run A cells es s) (step at (faulty fault) h e)

-- from the start, by the version
pub versioned : (K : Coding) (sheet : List ℕ) → get_or sheet 0 0 ≡ 1 → entries_of K sheet ≡ entries_from K sheet 1
versioned K sheet e = cond-true (eqb (get_or sheet 0 0) 1) _ _ (eq-eqb _ _ e)

pub other_version : (K : Coding) (sheet : List ℕ) (A : Arithmetic) (cells : ℕ) (s : State) → (get_or sheet 0 0 ≡ 1 → ⊥) → run A cells (entries_of K sheet) s ≡ Err (in_bytes 21 0)
unfolding run
other_version K sheet A cells s e = ap (λ es. run A cells es s) (cond-false (eqb (get_or sheet 0 0) 1) (entries_from K sheet 1) (wrong (in_bytes 21 0) ∷ []) (ne_eqb _ _ e))

-- a sheet has a first record where it ends well
pub ended_late : (xs : List ℕ) (at : ℕ) → next_at xs at ≡ ended → at ≡ 1 → ⊥
unfolding next_at
ended_late xs at e f =
    elim (cases_Bool (ltb at (length xs))) [
      | inl t ↦ elim (cases_Bool (whole xs at)) [
        | inl w ↦ let p : found at (body_at xs at) (after_record xs at) ≡ ended = rw (t, w) at e in let z : ◌≡◌ {A = ℕ} 0 1 = cc in omega arith
        | inr w ↦ let p : faulty (in_bytes 22 at) ≡ ended = rw (t, w) at e in let z : ◌≡◌ {A = ℕ} 0 1 = cc in omega arith
      ]
      | inr t ↦ let w = eq-eqb at 1 f in let p : faulty (in_records 24 at) ≡ ended = rw (t, w) at e in let z : ◌≡◌ {A = ℕ} 0 1 = cc in omega arith
    ]

-- the record at an offset: its call answers as it is foreseen
pub passes : (A : Arithmetic) (cells at : ℕ) (call : Asked) (e : Entry) (s : State) (P : State → Type 0) → asks at call ≡ e → Performed (performed A cells call s) (Ok tt) P → (after : State) × (entered A cells e s ≡ Ok after) × P after
passes A cells at call e s P p f =
    ((performed A cells call s).after, ap (λ x. entered A cells x s) (sym p) ∙ ap (λ a. located at (after_answer a (performed A cells call s).after)) f.answers, f.leaves)

-- the bounds of a record and of those after it are amounts
amounts_more : (K : Coding) (e : Entry) (more : List Entry) → EntryCodes K e → Amounts K.arithmetic (calls_in more) → Amounts K.arithmetic (calls_in (e ∷ more))
amounts_more K (asks at (begin n)) more c h = h
amounts_more K (asks at (require i j w)) more c h = (c.1, h)
amounts_more K (asks at (arrange list)) more c h = h
amounts_more K (wrong fault) more c h = h

-- reading the sheet from s has come to an offset with t, of which this holds
pub record Reads (K : Coding) (cells : ℕ) (sheet : List ℕ) (s : State) (at : ℕ) (P : State → Type 0) (t : State) : Type 0 where
  pub on : 1 ≤ at
  pub version : get_or sheet 0 0 ≡ 1
  pub runs : run K.arithmetic cells (entries_of K sheet) s ≡ run K.arithmetic cells (entries_from K sheet at) t
  pub shown : P t
  pub full : (at ≡ 1 → ⊥) → Full K t
  -- if all bounds from the offset on are amounts, all of the sheet are
  pub fits : Amounts K.arithmetic (calls_in (entries_from K sheet at)) → Amounts K.arithmetic (calls_of K sheet)

module _ (K : Coding) (cells : ℕ) (sheet : List ℕ) (s : State) where
  pub reads_start : (P : State → Type 0) → get_or sheet 0 0 ≡ 1 → P s → Reads K cells sheet s 1 P s
  reads_start P v p = record {
    on = omega arith;
    version = v;
    runs = ap (λ es. run K.arithmetic cells es s) (versioned K sheet v);
    shown = p;
    full = λ n. absurd (n refl);
    fits = subst (λ es. Amounts K.arithmetic (calls_in es)) (sym (versioned K sheet v));
  }

  module _ (at : ℕ) (P : State → Type 0) (t : State) (h : Reads K cells sheet s at P t) where
    some : 1 ≤ length sheet
    some = nonempty sheet h.version

    -- the record found there is taken, or stops the reading
    pub reads_on : (r : Record) (n cells' : ℕ) (Q : State → Type 0) → next_at sheet at ≡ found r.offset r.body.now n → cells' ≡ cells → EntryCodes K (entry_of K r) → Entered (entered K.arithmetic cells' (entry_of K r) t) r.offset (Ok tt) Q → (u : State) × Reads K cells sheet s n Q u
    reads_on r n cells' Q e m c h' =
        let l = found_on sheet at r.offset n r.body.now e in
        let f = ap (λ x. entered K.arithmetic x (entry_of K r) t) (sym m) ∙ h'.1 in (
          h'.0,
          record {
            on = omega arith;
            version = h.version;
            runs = h.runs ∙ goes K sheet some K.arithmetic cells at t h.on r.offset n r.body.now h'.0 e f;
            shown = h'.2;
            full = λ _. coded_entered K K.arithmetic cells r.offset t h'.0 r.body.now c f (λ k. h.full (λ j. k (l.1 ∙ j)));
            fits = λ a. h.fits (subst (λ es. Amounts K.arithmetic (calls_in es)) (sym (step K sheet some at (found r.offset r.body.now n) h.on e)) (amounts_more K (entry_of K r) (entries_from K sheet n) c a));
          },
        )

    pub reads_stop : (r : Record) (n cells' : ℕ) (fault : RecordFault) (Q : State → Type 0) → next_at sheet at ≡ found r.offset r.body.now n → cells' ≡ cells → Entered (entered K.arithmetic cells' (entry_of K r) t) r.offset (Err fault) Q → run K.arithmetic cells (entries_of K sheet) s ≡ Err (record_fault fault r.offset)
    reads_stop r n cells' fault Q e m f = h.runs ∙ stops K sheet some K.arithmetic cells at t h.on r.offset n r.body.now (record_fault fault r.offset) e (ap (λ x. entered K.arithmetic x (entry_of K r) t) (sym m) ∙ f)

    pub reads_end : next_at sheet at ≡ ended → Accepted K cells sheet s P t
    reads_end e = record {
      came = h.runs ∙ ends K sheet some K.arithmetic cells at t h.on e;
      shown = h.shown;
      full = h.full (ended_late sheet at e);
      amounts = h.fits (subst (λ es. Amounts K.arithmetic (calls_in es)) (sym (step K sheet some at ended h.on e)) tt);
    }

    pub reads_fault : (fault : Fault) → next_at sheet at ≡ faulty fault → run K.arithmetic cells (entries_of K sheet) s ≡ Err fault
    reads_fault fault e = h.runs ∙ faults K sheet some K.arithmetic cells at t h.on fault e

-- records that are all accepted are their calls, each accepted
pub as_calls : (A : Arithmetic) (cells : ℕ) (es : List Entry) (s t : State) → run A cells es s ≡ Ok t → performed_all A cells (calls_in es) s ≡ Ok t
unfolding run performed_all
as_calls A cells [] s t h = let e : s ≡ t = cc in ap Ok e
as_calls A cells (wrong fault ∷ more) s t h = let z : ◌≡◌ {A = ℕ} 0 1 = cc in absurd (omega arith)
as_calls A cells (asks at call ∷ more) s t h =
    by_answer at (after_call (performed A cells call s)) (run A cells more) (performed_all A cells (calls_in more)) t (λ u. as_calls A cells more u t) h
  where
    by_answer : (at : ℕ) (r : Result State Reason) (f : State → Result State Fault) (p : State → Result State Reason) (t : State) → ((u : State) → f u ≡ Ok t → p u ≡ Ok t) → then (located at r) f ≡ Ok t → then r p ≡ Ok t
    by_answer at (Ok u) f p t on k = on u k
    by_answer at (Err why) f p t on k = let z : ◌≡◌ {A = ℕ} 0 1 = cc in absurd (omega arith)
