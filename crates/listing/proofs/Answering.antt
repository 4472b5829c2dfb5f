-- What close and window of a net come to, for the listing.
use Rattle.std.proofs.Common.{◌≡◌, ℕ, ◌<◌, ◌≤◌, true, false, cond, ◌&&◌, ltb, leb, List, length, take, ℤ, Some, None, Ok, Err, Option, Result, IsOk, IsErrAnd, MatchResult, refl, ap, ◌∙◌, subst, inl, inr, arith, lt-ltb, le-leb}
use Rattle.std.proofs.lemmas.Bool.{cond-true, cases_Bool, and_from}
use Rattle.std.specs.Option.{option_map}
use Rattle.kinds.specs.Rows.{minus}
use Rattle.kinds.specs.declared.micros.Micros.{Micros}
use Rattle.order.specs.declared.counts.Counts.{Counts}
use Rattle.walks.specs.Bounds.{Bounds, InForce}
use Rattle.walks.specs.Least.{window}
use Rattle.walks.specs.Walks.{Loop}
use Rattle.net.specs.declared.mode.Mode.TheVariants.{Open, Closed}
use Rattle.net.specs.declared.refusal.Refusal.{Refusal}
use Rattle.net.specs.declared.refusal.Refusal.TheVariants.{EventsOutOfRange, TooFewCells, NoSuchEvent, SameEvent, PlaceTooShort, NotClosed, TooLarge, NothingToWithdraw, WrongCount, OutsideNet, NamedTwice, Contradiction}
use Rattle.closing.specs.declared.close.Contradiction.{Contradiction as Told}
use Rattle.net.specs.declared.net.Net.{Net}
use Rattle.net.specs.Closing.{Closing, closing, closed, in_mode, numbered, carried, Shown, Rest}
use Rattle.net.specs.Asking.{asked, done, pair_asked, window_told, ends_told}
use Rattle.net.specs.Refusals.{Reason, reason, answered}
use Rattle.net.specs.State.{State}
use Rattle.net.specs.Told.{shut}
use Rattle.table.specs.Cells.{amount_of}
use Rattle.listing.specs.Listings.{micros, counts_in, contradicts, end_number, ends_of}
use Rattle.listing.specs.Asked.{amount, state_of, Closes}

-- close with a place that is long enough
closed_room : (place : ℕ) (s : State) → s.events ≤ place → closed micros place s ≡ cond (contradicts s) (closing (Err 16) (in_mode Open s)) (closing (Ok (counts_in s)) (in_mode Closed s))
unfolding closed contradicts
closed_room place s h = cond-true (leb s.events place) _ _ (le-leb s.events place h)

-- an answer that was accepted: no contradiction, its counts, and the state closed
accepted : (place : ℕ) (s t : State) (counts : Counts) → s.events ≤ place → closing (Ok counts) t ≡ closed micros place s → (contradicts s ≡ false) × (counts ≡ counts_in s) × (t ≡ in_mode Closed s)
accepted place s t counts h e =
    elim (cases_Bool (contradicts s)) [
      | inl does ↦
          let z : closing (Ok counts) t ≡ closing (Err 16) (in_mode Open s) = rw does at (e ∙ closed_room place s h) in
          let w : ◌≡◌ {A = Result Counts ℕ} (Ok counts) (Err 16) = ap (λ (x : Closing). x.answer) z in
          absurd cc
      | inr calm ↦
          let z : closing (Ok counts) t ≡ closing (Ok (counts_in s)) (in_mode Closed s) = rw calm at (e ∙ closed_room place s h) in
          let w : ◌≡◌ {A = Result Counts ℕ} (Ok counts) (Ok (counts_in s)) = ap (λ (x : Closing). x.answer) z in
          (calm, cc, ap (λ (x : Closing). x.after) z)
    ]

-- a refusal: the contradiction, and the state open
refused : (place : ℕ) (s t : State) (number : ℕ) → s.events ≤ place → closing (Err number) t ≡ closed micros place s → (contradicts s ≡ true) × (number ≡ 16) × (t ≡ in_mode Open s)
refused place s t number h e =
    elim (cases_Bool (contradicts s)) [
      | inl does ↦
          let z : closing (Err number) t ≡ closing (Err 16) (in_mode Open s) = rw does at (e ∙ closed_room place s h) in
          let w : ◌≡◌ {A = Result Counts ℕ} (Err number) (Err 16) = ap (λ (x : Closing). x.answer) z in
          (does, cc, ap (λ (x : Closing). x.after) z)
      | inr calm ↦
          let z : closing (Err number) t ≡ closing (Ok (counts_in s)) (in_mode Closed s) = rw calm at (e ∙ closed_room place s h) in
          let w : ◌≡◌ {A = Result Counts ℕ} (Err number) (Ok (counts_in s)) = ap (λ (x : Closing). x.answer) z in
          absurd cc
    ]

-- only the contradiction has its number
by_sixteen : (why : Refusal) → (reason why).number ≡ 16 → (m : ℕ) × (why ≡ Contradiction m)
by_sixteen EventsOutOfRange h = absurd (omega arith)
by_sixteen TooFewCells h = absurd (omega arith)
by_sixteen NoSuchEvent h = absurd (omega arith)
by_sixteen SameEvent h = absurd (omega arith)
by_sixteen PlaceTooShort h = absurd (omega arith)
by_sixteen NotClosed h = absurd (omega arith)
by_sixteen TooLarge h = absurd (omega arith)
by_sixteen NothingToWithdraw h = absurd (omega arith)
by_sixteen WrongCount h = absurd (omega arith)
by_sixteen OutsideNet h = absurd (omega arith)
by_sixteen NamedTwice h = absurd (omega arith)
by_sixteen (Contradiction m) h = (m, refl)

-- the loop that a contradiction shows, and that it fits the net
loop_shown : (why : Refusal) (m : ℕ) (F : Bounds) (place : List ℕ) → why ≡ Contradiction m → Shown micros F place (reason why).values → Loop micros (InForce F) (take m place)
loop_shown why m F place e shown = let P : Refusal → Type 0 = λ w. Shown micros F place (reason w).values in subst P e shown

loop_fits : (why : Refusal) (m n : ℕ) (before after : List ℕ) → why ≡ Contradiction m → Rest n before after (reason why).values → m ≤ n
loop_fits why m n before after e rest = let P : Refusal → Type 0 = λ w. Rest n before after (reason w).values in (subst P e rest).0

-- a refusal of close, its place long enough, is a contradiction
pub only_loops : (place : ℕ) (s t : State) (r : Result Counts Refusal) (why : Refusal) → s.events ≤ place → closing (numbered r) t ≡ closed micros place s → r ≡ Err why → (m : ℕ) × (why ≡ Contradiction m)
only_loops place s t r why h e was = by_sixteen why (refused place s t (reason why).number h (rw was at e)).1

-- what close gives, its refusal told as a contradiction
pub told : (P : Refusal → Told → Type 0) (before after : Net Micros) (old new : List ℕ) (r : Result Counts Refusal) (q : Result Counts Told) →
    ((why : Refusal) (d : Told) → P why d → why ≡ Contradiction d.shown) →
    MatchResult r (λ x. q ≡ Ok x) (λ e. IsErrAnd q (P e)) →
    (state_of before).events ≤ length old →
    closing (numbered r) (state_of after) ≡ closed micros (length old) (state_of before) →
    Rest (state_of before).events old new (carried r) →
    Shown micros (state_of before).bounds new (carried r) →
    Closes before after new q × ((state_of after).events ≡ (state_of before).events) × ((state_of after).bounds ≡ (state_of before).bounds)
told P before after old new (Ok counts) q is m room e rest shows =
    let r = accepted (length old) (state_of before) (state_of after) counts room e in
    rw m ((r.0, r.1, ap (λ (t : State). t.mode) r.2), ap (λ (t : State). t.events) r.2, ap (λ (t : State). t.bounds) r.2)
told P before after old new (Err why) (Ok counts) is m room e rest shows = absurd m
told P before after old new (Err why) (Err d) is m room e rest shows =
    let r = refused (length old) (state_of before) (state_of after) (reason why).number room e in
    let w = is why d m in
    ((r.0, loop_fits why d.shown (state_of before).events old new w rest, loop_shown why d.shown (state_of before).bounds new w shows), ap (λ (t : State). t.events) r.2, ap (λ (t : State). t.bounds) r.2)

-- a question about two events of a closed net is answered
pub answered_asked : {T : Type 0} (s : State) (i j : ℕ) (answer : Result T Reason) → i < s.events → j < s.events → s.mode ≡ Closed → asked s.events s.mode i j answer ≡ answer
unfolding asked
answered_asked s i j answer h k m =
    cond-true (ltb i s.events && ltb j s.events) _ _ (and_from (ltb i s.events) (ltb j s.events) (lt-ltb i s.events h) (lt-ltb j s.events k))
    ∙ cond-true (shut s.mode) _ _ (ap shut m)

-- so it is not refused
pub not_refused : (s : State) (i j : ℕ) (r : Result (Option Micros × Option Micros) Refusal) → i < s.events → j < s.events → s.mode ≡ Closed → done (answered r) ≡ pair_asked i j s → IsOk r
not_refused s i j (Ok ends) h k m e = refl
not_refused s i j (Err why) h k m e =
    absurd (let w : Err (reason why) ≡ Ok tt = e ∙ answered_asked s i j (Ok tt) h k m in
    let q : ◌≡◌ {A = ℕ} 0 1 = cc in omega arith)

-- an end of a window as a number
abbrev pub number_told : Option Micros → Option ℤ
number_told = option_map (λ (m : Micros). m.0)

number_is : (end : Option Micros) → number_told end ≡ end_number (amount_of amount end)
number_is None = refl
number_is (Some m) = refl

-- the ends that were told, as numbers
pub ends_are : (s : State) (i j : ℕ) (ends : Option Micros × Option Micros) (r : Result (Option Micros × Option Micros) Refusal) → i < s.events → j < s.events → s.mode ≡ Closed →
    r ≡ Ok ends → ends_told amount (answered r) ≡ window_told micros minus i j s → (number_told ends.0, number_told ends.1) ≡ ends_of s i j
ends_are s i j ends r h k m o e =
    let w : ◌≡◌ {A = Result (Option (List ℤ) × Option (List ℤ)) Reason} (Ok (amount_of amount ends.0, amount_of amount ends.1)) (Ok (window micros minus s.events s.bounds i j)) = rw o at (e ∙ answered_asked s i j _ h k m) in
    let p : (amount_of amount ends.0, amount_of amount ends.1) ≡ window micros minus s.events s.bounds i j = cc in
    let low = number_is ends.0 ∙ ap (λ (x : Option (List ℤ) × Option (List ℤ)). end_number x.0) p in
    let high = number_is ends.1 ∙ ap (λ (x : Option (List ℤ) × Option (List ℤ)). end_number x.1) p in
    rw (low, high)

pub pair_is : {low high l h : Option ℤ} {ends : Option ℤ × Option ℤ} → l ≡ low → h ≡ high → (low, high) ≡ ends → (l, h) ≡ ends
pair_is a b e = rw (a, b) e
