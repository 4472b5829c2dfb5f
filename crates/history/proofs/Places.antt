-- What a call leaves of the place that is lent to it.
use Rattle.std.proofs.Common.{◌≡◌, ℕ, ◌+◌, ◌-◌, ◌≤◌, ◌≢◌, List, ◌++◌, length, take, drop, Ok, Err, Result, refl, sym, ap, ◌∙◌, inl, inr, arith, take-append-drop, drop-drop, append_assoc}
use lib.Seq.{drop-append-le, drop-append-add}
use Rattle.kinds.specs.Arithmetic.{Arithmetic}
use Rattle.net.specs.Limits.{most_events}
use Rattle.net.specs.Refusals.{Reason}
use Rattle.net.specs.State.{State}
use Rattle.sheet.specs.Records.{Coding}
use Rattle.history.specs.Deeds.{Deed, Action, refused}
use Rattle.history.specs.History.{events}
use Rattle.history.specs.Standing.{Closes}
use Rattle.history.specs.Notes.{Note, in_short, Noting}
use Rattle.history.specs.Notes.Noting.{accepts, refuses, contradicts, faults}

-- behind a loop that stands at the start
behind : (n : ℕ) (loop place : List ℕ) → length loop ≤ n → drop n (loop ++ drop (length loop) place) ≡ drop n place
behind n loop place few =
    let sum : length loop + (n - length loop) ≡ n = omega arith in
    ap (λ k. drop k (loop ++ drop (length loop) place)) (sym sum) ∙ drop-append-add loop (drop (length loop) place) (n - length loop) ∙ drop-drop (n - length loop) (length loop) place ∙ ap (λ k. drop k place) sum

module _ {K : Coding} {cells : ℕ} {past : List Deed} {before : List ℕ} where
  -- behind the events of a loop a call leaves the place as it was
  pub noting_rest : {c : Action} {note : Note} {after : List ℕ} → events past ≤ most_events → Noting K cells past before c note after → drop most_events after ≡ drop most_events before
  noting_rest few accepts = refl
  noting_rest few (refuses ne) = refl
  noting_rest few (contradicts {loop = loop} l short is) = ap (drop most_events) is ∙ behind most_events loop before (omega arith)
  noting_rest few (faults h) = refl

  -- and all of it where it finds no contradiction
  pub noting_unwritten : {c : Action} {note : Note} {after : List ℕ} → in_short note ≢ refused 16 → Noting K cells past before c note after → after ≡ before
  noting_unwritten calm accepts = refl
  noting_unwritten calm (refuses ne) = refl
  noting_unwritten calm (contradicts l short is) = absurd (calm refl)
  noting_unwritten calm (faults h) = refl

-- a loop shown in the front of a place
loop_in_front : (m : ℕ) (loop place : List ℕ) → length loop ≤ length (take m place) → (loop ++ drop (length loop) (take m place)) ++ drop m place ≡ loop ++ drop (length loop) place
loop_in_front m loop place few =
    append_assoc loop (drop (length loop) (take m place)) (drop m place) ∙ ap (λ z. loop ++ z) (sym (drop-append-le (length loop) (take m place) (drop m place) few) ∙ ap (drop (length loop)) (take-append-drop m place))

-- a close that was given the front of a place, by the whole of it
pub closes_front : {T : Type 0} (A : Arithmetic) (m : ℕ) (s t : State) (place front : List ℕ) (r : Result T Reason) → Closes A (length (take m place)) s t (take m place) front r → Closes A (length (take m place)) s t place (front ++ drop m place) r
closes_front A m s t place front (Ok x) (room, calm, after, same) = (room, calm, after, ap (λ z. z ++ drop m place) same ∙ take-append-drop m place)
closes_front A m s t place front (Err e) (inl (why, short, after, same)) = inl (why, short, after, ap (λ z. z ++ drop m place) same ∙ take-append-drop m place)
closes_front A m s t place front (Err e) (inr (loop, why, room, against, after, few, shown, same)) = inr (loop, why, room, against, after, few, shown, ap (λ z. z ++ drop m place) same ∙ loop_in_front m loop place (omega arith))
