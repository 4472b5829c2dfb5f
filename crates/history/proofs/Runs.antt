-- Actions performed one after the other.
use Rattle.std.proofs.Common.{◌≡◌, ℕ, zero, suc, ◌+◌, ◌<◌, ◌≤◌, List, [], ◌∷◌, ◌++◌, map, reverse, length, get_or, take, set, sym, refl, ap, ◌∙◌, subst, ⊎_elim, arith, length-append, length-take, take_all}
use mathlib.Core.List.{map-append, reverse-append}
use lib.ListN.{length-reverse, length-map}
use lib.Seq.{take-append-le}
use Rattle.std.proofs.lemmas.List.{take_more}
use Rattle.std.proofs.lemmas.Bool.{cases_lt}
use Rattle.kinds.specs.Arithmetic.{Lawful}
use Rattle.net.specs.State.{State, made}
use Rattle.sheet.specs.Records.{Coding}
use Rattle.history.specs.Deeds.{Deed, Action, Answer}
use Rattle.history.specs.History.{Calm, History, noted}
use Rattle.history.specs.History.History.{start as first}
use Rattle.history.specs.Standing.{Stands}
use Rattle.history.specs.SheetCalls.{sheet_of}
use Rattle.history.specs.Notes.{Note, Course}
use Rattle.history.specs.Notes.Course.{start, next}
use Rattle.history.specs.Runs.{Takes, Ran}
use Rattle.history.proofs.Pasts.{one_past}
use Rattle.history.proofs.Places.{noting_rest, noting_unwritten}
use Rattle.history.proofs.Steps.{stands_made}
use Rattle.history.proofs.Closings.{no_loop}
use Rattle.history.proofs.Laws.{numbers}

-- one note more is written to its slot, if there is one
noted_more : {T : Type 0} (xs : List T) (x : T) (slots : List T) → noted (xs ++ x ∷ []) slots ≡ set (noted xs slots) (length xs) x
noted_more [] x [] = refl
noted_more [] x (slot ∷ slots) = refl
noted_more (y ∷ ys) x [] = refl
noted_more (y ∷ ys) x (slot ∷ slots) = ap (λ z. y ∷ z) (noted_more ys x slots)

-- the only past of a net that stands is calm
calm_past : (K : Coding) (law : Lawful K.arithmetic) (cells : ℕ) (calls : List Action) (xs ys : List Answer) (p q : List Deed) (s : State) → History K.arithmetic (sheet_of K) cells calls xs p → Stands K.arithmetic p s → History K.arithmetic (sheet_of K) cells calls ys q → Calm K.arithmetic q
calm_past K law cells calls xs ys p q s h st k = subst (Calm K.arithmetic) (one_past h k).1 (no_loop law p s st)

module _ (K : Coding) (law : Lawful K.arithmetic) (cells : ℕ) where
  as_many : {T : Type 0} (note_of : T → Note) {lent place : List ℕ} {calls : List Action} {past : List Deed} (notes : List T) → Course K cells lent calls (map note_of notes) past place → length notes ≡ length calls
  as_many note_of [] start = refl
  as_many note_of (x ∷ xs) (next h a n) = ap suc (as_many note_of xs h)

  pub ran_start : {T : Type 0} (note_of : T → Note) (slots : List T) (place : List ℕ) (s : State) → s ≡ made → Ran K cells [] note_of slots slots place place s
  ran_start note_of slots place s e =
      let st : Stands K.arithmetic [] s = subst (Stands K.arithmetic []) (sym e) (stands_made law) in
      record { notes = []; past = []; course = start; told = refl; rest = refl; unwritten = λ u. refl; calm = λ k xs p h. calm_past K law cells [] [] xs [] p s first st (subst (λ (l : List Action). History K.arithmetic (sheet_of K) cells (reverse l) xs p) (none k) h); stands = st }
    where
      none : (k : ℕ) → ◌≡◌ {A = List Action} (take k []) []
      none zero = refl
      none (suc k) = refl

  -- one action more
  pub ran_next : {T : Type 0} (actions : List Action) (c : Action) (note_of : T → Note) (x : T) (slots before after : List T) (lent place place_after : List ℕ) (s t : State) → Takes K cells c (note_of x) place place_after s t → after ≡ set before (length actions) x → Ran K cells actions note_of slots before lent place s → Ran K cells (actions ++ c ∷ []) note_of slots after lent place_after t
  ran_next actions c note_of x slots before after lent place place_after s t takes wrote had =
      let (past, step, noting, st) = takes had.past had.stands in
      let newest : reverse (actions ++ c ∷ []) ≡ c ∷ reverse actions = reverse-append actions (c ∷ []) in
      let course : Course K cells lent (reverse (actions ++ c ∷ [])) (map note_of (x ∷ had.notes)) past place_after = subst (λ (l : List Action). Course K cells lent l (map note_of (x ∷ had.notes)) past place_after) (sym newest) (next had.course step noting) in
      let few = had.stands.few in
      let count = had.stands.count in
      record {
        notes = x ∷ had.notes;
        past = past;
        course = course;
        told = slot;
        rest = noting_rest (omega arith) noting ∙ had.rest;
        unwritten = λ u. noting_unwritten u.0 noting ∙ had.unwritten u.1;
        calm = λ k xs p h. ⊎_elim
            (λ l. had.calm k xs p (subst (λ (a : List Action). History K.arithmetic (sheet_of K) cells (reverse a) xs p) (take-append-le k actions (c ∷ []) (omega arith)) h))
            (λ l. calm_past K law cells _ _ xs past p t (numbers note_of (x ∷ had.notes) course) st (subst (λ (a : List Action). History K.arithmetic (sheet_of K) cells (reverse a) xs p) (take_all k (actions ++ c ∷ []) (longer k l)) h))
            (cases_lt k (length actions + 1));
        stands = st;
      }
    where
      longer : (k : ℕ) → length actions + 1 ≤ k → length (actions ++ c ∷ []) ≤ k
      longer k l = subst (λ (m : ℕ). m ≤ k) (sym (length-append actions (c ∷ []))) l

      slot : after ≡ noted (reverse (x ∷ had.notes)) slots
      slot =
          let many : length (reverse had.notes) ≡ length actions = length-reverse had.notes ∙ as_many note_of had.notes had.course ∙ length-reverse actions in
          wrote ∙ ap (λ z. set z (length actions) x) had.told ∙ ap (λ m. set (noted (reverse had.notes) slots) m x) (sym many)
          ∙ sym (noted_more (reverse had.notes) x slots) ∙ ap (λ z. noted z slots) (sym (reverse-append (x ∷ []) had.notes))

  -- one call more of a list of calls
  pub ran_turn : {C T : Type 0} (f : C → Action) (calls : List C) (k : ℕ) (call : C) (note_of : T → Note) (x : T) (slots before after : List T) (lent place place_after : List ℕ) (s t : State) → k < length calls → call ≡ get_or calls k call → Takes K cells (f call) (note_of x) place place_after s t → after ≡ set before k x → Ran K cells (map f (take k calls)) note_of slots before lent place s → Ran K cells (map f (take (k + 1) calls)) note_of slots after lent place_after t
  ran_turn f calls k call note_of x slots before after lent place place_after s t h is takes wrote had =
      let many : length (map f (take k calls)) ≡ k = length-map (take k calls) f ∙ length-take k calls ∙ (omega arith) in
      let more : map f (take (k + 1) calls) ≡ map f (take k calls) ++ f call ∷ [] = ap (map f) (take_more calls k call h) ∙ ap (λ y. map f (take k calls ++ y ∷ [])) (sym is) ∙ map-append f (take k calls) (call ∷ []) in
      subst (λ (l : List Action). Ran K cells l note_of slots after lent place_after t) (sym more)
      (ran_next (map f (take k calls)) (f call) note_of x slots before after lent place place_after s t takes (wrote ∙ ap (λ m. set before m x) (sym many)) had)
