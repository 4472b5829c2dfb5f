-- The parts of the law, from what a net in a state answers.
use Rattle.std.proofs.Common.{◌≡◌, ℕ, ◌+◌, ◌≤◌, Bool, true, false, cond, ltb, ◌↔◌, List, [], ◌∷◌, ◌++◌, map, reverse, length, take, drop, ℤ, Some, None, Ok, Err, Result, sym, refl, ap, ◌∙◌, subst, inl, inr, ⊎_elim, arith, length-append}
use mathlib.Core.List.{map-append, reverse-append}
use lib.Seq.{take-append_seam}
use Rattle.std.proofs.lemmas.Bool.{both_ways, cases_lt, and_parts, and_from, ltb-true, lt-ltb}
use Rattle.kinds.specs.Arithmetic.{Arithmetic, Lawful, Inverse}
use Rattle.walks.specs.Walks.{Loop, Told, Window}
use Rattle.net.specs.Refusals.{Reason, by}
use Rattle.net.specs.State.{State, Outcome, outcome, both_events}
use Rattle.net.specs.Told.{shut}
use Rattle.net.specs.Asking.{asked, distance_told, window_told}
use Rattle.sheet.specs.Records.{Coding}
use Rattle.history.specs.Deeds.{Deed, Action, Answer, accepted, refused}
use Rattle.history.specs.Deeds.Deed.{close}
use Rattle.history.specs.Deeds.Action.{does}
use Rattle.history.specs.History.{events, closed, InForce, need, First, needs, History, noted}
use Rattle.history.specs.History.Step.{taken, turned_down}
use Rattle.history.specs.History.History.{start as first, next as more}
use Rattle.history.specs.Standing.{ended, counted, contradiction, Closes, Stands}
use Rattle.history.specs.SheetCalls.{sheet_of}
use Rattle.history.specs.Notes.{of_call, Note, in_short, call_note, Noting, Course, Notes}
use Rattle.history.specs.Notes.Noting.{accepts, refuses, contradicts}
use Rattle.history.specs.Notes.Course.{start, next}
use Rattle.history.specs.Runs.{Taken, Ran}
use Rattle.history.specs.Law.{Asked, Report, question, Replied, Truly, Closing, Law}
use Rattle.history.proofs.Pasts.{never, one_past}
use Rattle.history.proofs.Steps.{Plain, Good}
use Rattle.history.proofs.Places.{noting_rest, noting_unwritten}
use Rattle.history.proofs.Closings.{no_loop, loop_shown, distance_right, window_right, close_short, close_contradicted, close_done}

module _ {K : Coding} {cells : ℕ} where
  -- a call of one thing is taken, or turned down
  taken_deed : {T : Type 0} (d : Deed) (r : Result T Reason) (past : List Deed) (before place : List ℕ) (t : State) → First (needs K.arithmetic cells past d) (ended r) → Stands K.arithmetic (counted (ended r) d past) t → Noting K cells past before (does d) (call_note r) place → Taken K cells past (does d) (call_note r) before place t
  taken_deed d (Ok x) past before place t f st n = (d ∷ past, taken f, n, st)
  taken_deed {T = T} d (Err why) past before place t f st n = (past, turned_down f, n, st)

  plain_noting : (d : Deed) (r : Result (Unit {0}) Reason) (past : List Deed) (place : List ℕ) → Plain r → Noting K cells past place (does d) (call_note r) place
  plain_noting d (Ok x) past place plain = accepts
  plain_noting d (Err why) past place (is, ne) = subst (λ (x : Reason). Noting K cells past place (does d) (Err (of_call x)) place) (sym is) (refuses ne)

module _ {A : Arithmetic} (law : Lawful A) (past : List Deed) (s : State) (st : Stands A past s) where
  replied : {T : Type 0} (i j : ℕ) (x : T) (Right : T → Type 0) → (closed past ≡ true → Right x) → Replied (question past i j) Right (asked s.events s.mode i j (Ok x))
  unfolding asked
  replied i j x Right right = by_events (both_events s i j) refl (shut s.mode) refl
    where
      by_events : (t : Bool) → both_events s i j ≡ t → (u : Bool) → shut s.mode ≡ u → Replied (question past i j) Right (cond t (cond u (Ok x) (Err (by 6))) (Err (by 3)))
      by_events true t true u =
          let (p, q) = and_parts (ltb i s.events) (ltb j s.events) t in
          let a = ltb-true i s.events p in
          let b = ltb-true j s.events q in
          let n = st.count in
          let shut : closed past ≡ true = sym st.mode ∙ u in
          (((omega arith, omega arith), (shut, tt)), right shut)
      by_events true t false u =
          let (p, q) = and_parts (ltb i s.events) (ltb j s.events) t in
          let a = ltb-true i s.events p in
          let b = ltb-true j s.events q in
          let n = st.count in
          inr ((omega arith, omega arith), inl ((λ e. both_ways (shut s.mode) u (st.mode ∙ e)), refl))
      by_events false t u v =
          let n = st.count in
          inl ((λ h. let (p, q) = h in both_ways (both_events s i j) t (and_from (ltb i s.events) (ltb j s.events) (lt-ltb i s.events (omega arith)) (lt-ltb j s.events (omega arith)))), refl)

  -- whatever is asked is answered truly
  pub truly : {minus : List ℤ → List ℤ} → Inverse A minus → (i j : ℕ) (told : Asked) → told.is_closed ≡ shut s.mode → told.distance ≡ distance_told A i j s → told.window ≡ window_told A minus i j s → Truly A past i j told
  truly inv i j told e f g = record {
    closed_or_not = e ∙ st.mode;
    distances = subst (Replied (question past i j) (Told A (InForce A past) i j)) (sym f) (replied i j _ (Told A (InForce A past) i j) (λ c. distance_right law past s st c i j));
    windows = subst (Replied (question past i j) (Window A (InForce A past) i j)) (sym g) (replied i j _ (Window A (InForce A past) i j) (λ c. window_right law past s st inv c i j));
    calm = λ c. no_loop law past s st (sym st.mode ∙ sym e ∙ c);
  }

-- the answer by two needs, turned round
first_of_two : {P Q : Type 0} (x y : ℕ) (a : Answer) → (x ≡ y → ⊥) → First (need x P ∷ need y Q ∷ []) a → ((a ≡ refused x) ↔ ¬ P) × (P → (a ≡ refused y) ↔ ¬ Q) × (P → (a ≡ refused y → ⊥) → a ≡ accepted)
first_of_two x y None ne (p, (q, z)) = ((λ e. never (cc), λ h. absurd (h p)), λ p. (λ e. never (cc), λ h. absurd (h q)), λ p h. refl)
first_of_two x y (Some n) ne (inl (h, e)) = ((λ e. h, λ h. ap refused e), λ p. absurd (h p), λ p. absurd (h p))
first_of_two x y (Some n) ne (inr (p, inl (h, e))) = ((λ f. let z : x ≡ y = cc in absurd (ne z), λ h. absurd (h p)), λ p. (λ e. h, λ h. ap refused e), λ p g. absurd (g (ap refused e)))
first_of_two x y (Some n) ne (inr (p, inr (q, z))) = absurd z

module _ (K : Coding) (law : Lawful K.arithmetic) {minus : List ℤ → List ℤ} (inv : Inverse K.arithmetic minus) (cells bytes : ℕ) (past : List Deed) (s t : State) (st : Stands K.arithmetic past s) (before place : List ℕ) where
  abbrev Asking : Answer → Type 0
  Asking answer = First (needs K.arithmetic cells past (close bytes)) answer

  abbrev Said : {T : Type 0} → Result T Reason → Type 0
  Said r = Closes K.arithmetic bytes s t before place r

  pub close_stands : {T : Type 0} (r : Result T Reason) → Said r → Asking (ended r) × Stands K.arithmetic (counted (ended r) (close bytes) past) t
  close_stands (Ok x) (room, calm, after, same) = let (f, g) = close_done law past s st inv cells bytes room calm in (f, subst (Stands K.arithmetic (close bytes ∷ past)) (sym after) g)
  close_stands (Err e) (inl (why, short, after, same)) = (subst (λ (x : Reason). Asking (refused x.number)) (sym why) (close_short law past s st inv cells bytes short), subst (Stands K.arithmetic past) (sym after) st)
  close_stands (Err e) (inr (loop, why, room, against, after, few, shown, same)) =
      let (f, g) = close_contradicted law past s st inv cells bytes room against in
      (subst (λ (x : Reason). Asking (refused x.number)) (sym why) f, subst (Stands K.arithmetic past) (sym after) g)

  -- it shows its loop, or leaves the place as it was
  close_noting : {T : Type 0} (r : Result T Reason) → Said r → Noting K cells past before (does (close bytes)) (call_note r) place
  close_noting (Ok x) (room, calm, after, same) = subst (Noting K cells past before (does (close bytes)) (Ok tt)) (sym same) accepts
  close_noting (Err e) (inl (why, short, after, same)) =
      subst (Noting K cells past before (does (close bytes)) (Err (of_call e))) (sym same)
      (subst (λ (x : Reason). Noting K cells past before (does (close bytes)) (Err (of_call x)) before) (sym why) (refuses (λ sixteen. omega arith)))
  close_noting (Err e) (inr (loop, why, room, against, after, few, shown, same)) =
      let n = st.count in
      subst (λ (x : Reason). Noting K cells past before (does (close bytes)) (Err (of_call x)) place) (sym why) (contradicts (loop_shown law past s st loop shown) (omega arith) same)

  pub close_taken : {T : Type 0} (r : Result T Reason) → Said r → Taken K cells past (does (close bytes)) (call_note r) before place t
  close_taken r h = let (f, g) = close_stands r h in taken_deed (close bytes) r past before place t f g (close_noting r h)

  loop_told : (r : Result (Unit {0}) Reason) → Said r → ended r ≡ refused 16 → (m : ℕ) × (r ≡ Err (contradiction m)) × (m ≤ length place) × Loop K.arithmetic (InForce K.arithmetic past) (take m place)
  loop_told (Ok x) h e = never (cc)
  loop_told (Err why) (inl (w, short, after, same)) e = let z : why.number ≡ 5 = ap (λ x. x.number) w in let y : why.number ≡ 16 = cc in absurd (omega arith)
  loop_told (Err why) (inr (loop, w, room, against, after, few, shown, same)) e =
      let front : take (length loop) place ≡ loop = ap (take (length loop)) same ∙ take-append_seam loop (drop (length loop) before) in
      let long : length place ≡ length loop + length (drop (length loop) before) = ap length same ∙ length-append loop (drop (length loop) before) in
      (length loop, ap (λ x. Err x) w, omega arith, subst (Loop K.arithmetic (InForce K.arithmetic past)) (sym front) (loop_shown law past s st loop shown))

  pub close_law : (r : Result (Unit {0}) Reason) (closed_after : Bool) → closed_after ≡ shut t.mode → bytes ≡ length place → Said r → Closing K.arithmetic past place r closed_after
  close_law r closed_after is long h =
      let (f, g) = close_stands r h in
      let (short, against, done) = first_of_two 5 16 (ended r) (λ e. omega arith) f in
      record {
        short = (λ e. ⊎_elim (λ l. l) (λ l. absurd (short.0 e (omega arith))) (cases_lt (length place) (events past)), λ l. short.1 (λ m. omega arith));
        contradictions = λ room. against (omega arith);
        loops = loop_told r h;
        closes = λ room calm.
            let ok : ended r ≡ accepted = done (omega arith) calm in
            let after : Stands K.arithmetic (close bytes ∷ past) t = subst (λ (a : Answer). Stands K.arithmetic (counted a (close bytes) past) t) ok g in
            (ok, is ∙ after.mode);
      }

-- a call whose answer and state are as a definition has them
pub outcome_taken : {K : Coding} {cells : ℕ} (d : Deed) (r : Result (Unit {0}) Reason) (t : State) (o : Outcome) (past : List Deed) (place : List ℕ) → outcome r t ≡ o → Good (Stands K.arithmetic) past d (needs K.arithmetic cells past d) o → Taken K cells past (does d) (call_note r) place place t
outcome_taken {K = K} {cells = cells} d r t o past place e good =
    let g : Good (Stands K.arithmetic) past d (needs K.arithmetic cells past d) (outcome r t) = subst (Good (Stands K.arithmetic) past d (needs K.arithmetic cells past d)) (sym e) good in
    taken_deed d r past place place t g.0 g.1 (plain_noting d r past place g.2)

-- the calls by the numbers of their answers
pub numbers : {T : Type 0} {K : Coding} {cells : ℕ} (note_of : T → Note) {lent place : List ℕ} {calls : List Action} {past : List Deed} (notes : List T) → Course K cells lent calls (map note_of notes) past place → History K.arithmetic (sheet_of K) cells calls (map (λ x. in_short (note_of x)) notes) past
numbers note_of [] start = first
numbers note_of (x ∷ xs) (next h a n) = more (numbers note_of xs h) a

short : (r : Result (Unit {0}) Reason) → in_short (call_note r) ≡ ended r
short (Ok x) = refl
short (Err why) = refl

noted_map : {S T : Type 0} (f : S → T) (xs slots : List S) → map f (noted xs slots) ≡ noted (map f xs) (map f slots)
noted_map f [] slots = refl
noted_map f (x ∷ xs) [] = refl
noted_map f (x ∷ xs) (slot ∷ slots) = ap (λ z. f x ∷ z) (noted_map f xs slots)

map-reverse : {S T : Type 0} (f : S → T) (xs : List S) → map f (reverse xs) ≡ reverse (map f xs)
map-reverse f [] = refl
map-reverse f (x ∷ xs) = ap (map f) (reverse-append (x ∷ []) xs) ∙ map-append f (reverse xs) (x ∷ []) ∙ ap (λ z. z ++ f x ∷ []) (map-reverse f xs) ∙ sym (reverse-append (f x ∷ []) (map f xs))

module _ {T : Type 0} (K : Coding) (law : Lawful K.arithmetic) {minus : List ℤ → List ℤ} (inv : Inverse K.arithmetic minus) (cells : ℕ) (actions : List Action) (note_of : T → Note) (slots slots_after : List T) (lent before place : List ℕ) (s t : State) (ran : Ran K cells actions note_of slots slots_after lent before s) where
  -- the close after the calls
  pub notes_whole : ((x y : T) → note_of x ≡ note_of y → x ≡ y) → (closing : Result (Unit {0}) Reason) → Closes K.arithmetic (length place) s t before place closing → Notes K cells actions note_of slots slots_after lent place (call_note closing)
  notes_whole whole closing closes =
      let (past, step, noting, st) = close_taken K law inv cells (length place) ran.past s t ran.stands before place closing closes in
      record { noted_down = ran.notes; past = past; course = next ran.course step noting; told = ran.told; whole = whole }

  -- the whole law, from the run of the calls and what is told after it
  pub law_whole : (i j : ℕ) (report : Report) → ((past : List Deed) → Stands K.arithmetic past s → Truly K.arithmetic past i j report.before) → Closes K.arithmetic (length place) s t before place report.closing → ((past : List Deed) → Stands K.arithmetic past t → Truly K.arithmetic past i j report.after) →
      Law K.arithmetic (sheet_of K) cells actions i j (map (λ x. in_short (note_of x)) slots) (map (λ x. in_short (note_of x)) slots_after) lent place report
  law_whole i j report told closes after =
      let number : T → Answer = λ x. in_short (note_of x) in
      let st = ran.stands in
      let (past, step, noting, after_stands) = close_taken K law inv cells (length place) ran.past s t st before place report.closing closes in
      let (f, g) = close_stands K law inv cells (length place) ran.past s t st before place report.closing closes in
      let truly_after = after (counted (ended report.closing) (close (length place)) ran.past) g in
      let history = numbers note_of ran.notes ran.course in
      let few = st.few in
      let count = st.count in
      record {
        answers = map number ran.notes;
        past = ran.past;
        history = history;
        only = λ xs p h. one_past h history;
        told = ap (map number) ran.told ∙ noted_map number (reverse ran.notes) slots ∙ ap (λ z. noted z (map number slots)) (map-reverse number ran.notes);
        rest = noting_rest (omega arith) noting ∙ ran.rest;
        unwritten = λ u. noting_unwritten (λ e. u.0 (sym (short report.closing) ∙ e)) noting ∙ ran.unwritten u.1;
        calm = ran.calm;
        before = told ran.past st;
        closing = close_law K law inv cells (length place) ran.past s t st before place report.closing report.after.is_closed (truly_after.closed_or_not ∙ sym g.mode) refl closes;
        after = truly_after;
      }
