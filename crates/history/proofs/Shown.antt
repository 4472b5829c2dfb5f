-- What a close answered and showed, by cases.
use Rattle.std.proofs.Common.{◌≡◌, ℕ, ◌<◌, ◌≤◌, Bool, true, false, cond, leb, ◌≢◌, ◌⊎◌, List, [], ◌∷◌, ◌++◌, length, take, drop, Ok, Err, Result, refl, sym, ap, ◌∙◌, subst, inl, inr, ⊎_elim, arith, take-append-drop}
use Rattle.std.proofs.lemmas.List.{length-take-le}
use Rattle.std.proofs.lemmas.Bool.{leb-true, leb-false}
use Rattle.kinds.specs.Arithmetic.{Arithmetic}
use Rattle.walks.specs.Least.{contradictory}
use Rattle.order.specs.declared.counts.Counts.{Counts}
use Rattle.order.specs.Counted.{counts_of}
use Rattle.table.specs.Cells.{neighbours}
use Rattle.net.specs.declared.mode.Mode.TheVariants.{Open, Closed}
use Rattle.net.specs.declared.refusal.Refusal.{Refusal}
use Rattle.net.specs.declared.refusal.Refusal.TheVariants.{EventsOutOfRange, TooFewCells, NoSuchEvent, SameEvent, PlaceTooShort, NotClosed, TooLarge, NothingToWithdraw, WrongCount, OutsideNet, NamedTwice, Contradiction}
use Rattle.net.specs.Refusals.{Reason, by, reason, answered}
use Rattle.net.specs.Asking.{done}
use Rattle.net.specs.Closing.{in_mode, closing, numbered, carried, Shown, Rest, closed}
use Rattle.net.specs.State.{State}
use Rattle.history.specs.Standing.{contradiction, Closes}
use Rattle.history.proofs.Pasts.{never}

-- only a contradiction carries anything: a number of events
plain_or_not : (e : Refusal) → ((reason e ≡ by (reason e).number) × ((reason e).number ≢ 16)) ⊎ ((m : ℕ) × (reason e ≡ contradiction m))
plain_or_not (Contradiction m) = inr (m, refl)
plain_or_not EventsOutOfRange = inl (refl, λ h. absurd (omega arith))
plain_or_not TooFewCells = inl (refl, λ h. absurd (omega arith))
plain_or_not NoSuchEvent = inl (refl, λ h. absurd (omega arith))
plain_or_not SameEvent = inl (refl, λ h. absurd (omega arith))
plain_or_not PlaceTooShort = inl (refl, λ h. absurd (omega arith))
plain_or_not NotClosed = inl (refl, λ h. absurd (omega arith))
plain_or_not TooLarge = inl (refl, λ h. absurd (omega arith))
plain_or_not NothingToWithdraw = inl (refl, λ h. absurd (omega arith))
plain_or_not WrongCount = inl (refl, λ h. absurd (omega arith))
plain_or_not OutsideNet = inl (refl, λ h. absurd (omega arith))
plain_or_not NamedTwice = inl (refl, λ h. absurd (omega arith))

-- by the states and the places before and after it
pub closes_of : (A : Arithmetic) (s t : State) (before place : List ℕ) (r : Result Counts Refusal) → length place ≡ length before → closing (numbered r) t ≡ closed A (length before) s → Shown A s.bounds place (carried r) → Rest s.events before place (carried r) → Closes A (length before) s t before place (answered r)
unfolding closed
closes_of A s t before place r long told shown rest = by_tests (leb s.events (length before)) refl (contradictory A s.events s.bounds) refl told
  where
    too_short : (r : Result Counts Refusal) → length before < s.events → numbered r ≡ Err 5 → t ≡ s → Rest s.events before place (carried r) → Closes A (length before) s t before place (answered r)
    too_short (Ok x) l e f rest = never (cc)
    too_short (Err why) l e f rest =
        let five : (reason why).number ≡ 5 = cc in
        let is : reason why ≡ by 5 = ⊎_elim (λ (plain, ne). plain ∙ ap by five) (λ (m, is). let sixteen : (reason why).number ≡ 16 = ap (λ x. x.number) is in absurd (omega arith)) (plain_or_not why) in
        inl (is, l, f, subst (Rest s.events before place) (ap (λ x. x.values) is) rest)

    contradicted : (r : Result Counts Refusal) → s.events ≤ length before → contradictory A s.events s.bounds ≡ true → numbered r ≡ Err 16 → t ≡ in_mode Open s → Shown A s.bounds place (carried r) → Rest s.events before place (carried r) → Closes A (length before) s t before place (answered r)
    contradicted (Ok x) l c e f shown rest = never (cc)
    contradicted (Err why) l c e f shown rest = ⊎_elim
        (λ (plain, ne). let sixteen : (reason why).number ≡ 16 = cc in absurd (ne sixteen))
        (λ (m, is).
        let values : (reason why).values ≡ m ∷ [] = ap (λ x. x.values) is in
        let few : Rest s.events before place (m ∷ []) = subst (Rest s.events before place) values rest in
        let enough = few.0 in
        let loop = take m place in
        let many : length loop ≡ m = length-take-le m place (omega arith) in
        let same : place ≡ loop ++ drop (length loop) before = sym (take-append-drop m place) ∙ ap (λ z. loop ++ z) (few.1 ∙ ap (λ k. drop k before) (sym many)) in
        inr (loop, is ∙ ap contradiction (sym many), l, c, f, omega arith, subst (Shown A s.bounds place) values shown, same))
        (plain_or_not why)

    closes : (r : Result Counts Refusal) (counts : Counts) → s.events ≤ length before → contradictory A s.events s.bounds ≡ false → numbered r ≡ Ok counts → t ≡ in_mode Closed s → Rest s.events before place (carried r) → Closes A (length before) s t before place (answered r)
    closes (Ok x) counts l c e f rest = (l, c, f, rest)
    closes (Err why) counts l c e f rest = never (cc)

    by_tests : (x : Bool) → leb s.events (length before) ≡ x → (y : Bool) → contradictory A s.events s.bounds ≡ y → closing (numbered r) t ≡ cond x (cond y (closing (Err 16) (in_mode Open s)) (closing (Ok (counts_of s.events (neighbours s.bounds) s.order)) (in_mode Closed s))) (closing (Err 5) s) → Closes A (length before) s t before place (answered r)
    by_tests true x true y e = contradicted r (leb-true s.events (length before) x) y (ap (λ z. z.answer) e) (ap (λ z. z.after) e) shown rest
    by_tests true x false y e = closes r _ (leb-true s.events (length before) x) y (ap (λ z. z.answer) e) (ap (λ z. z.after) e) rest
    by_tests false x y v e = too_short r (leb-false s.events (length before) x) (ap (λ z. z.answer) e) (ap (λ z. z.after) e) rest

-- without the counts
pub closes_done : {T : Type 0} (A : Arithmetic) (bytes : ℕ) (s t : State) (before place : List ℕ) (r : Result T Reason) → Closes A bytes s t before place r → Closes A bytes s t before place (done r)
closes_done A bytes s t before place (Ok x) h = h
closes_done A bytes s t before place (Err e) h = h
