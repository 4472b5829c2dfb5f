-- What closing a net comes to.
use Rattle.std.proofs.Common.{◌≡◌, ℕ, ◌<◌, ◌≤◌, true, false, cond, leb, ◌↔◌, List, ℤ, Ok, Err, Result, sym, ap, ◌∙◌, subst, ap₂, ⊎_elim}
use Rattle.std.proofs.lemmas.Bool.{cases_Bool, le-leb, lt-leb, cond-true, cond-false}
use Rattle.kinds.specs.Arithmetic.{Arithmetic, Lawful, Inverse}
use Rattle.walks.specs.Bounds.{InForce, Within}
use Rattle.walks.specs.Walks.{Loop, Schedule}
use Rattle.walks.specs.Least.{contradictory}
use Rattle.walks.proofs.Distances.{contradiction}
use Rattle.walks.proofs.Schedules.{no_schedule}
use Rattle.order.specs.declared.counts.Counts.{Counts}
use Rattle.order.specs.declared.event_order.EventOrder.{EventOrder}
use Rattle.order.specs.Orderings.{events_of}
use Rattle.order.specs.Counted.{counts_of}
use Rattle.table.specs.declared.lent.Table.{Table}
use Rattle.table.specs.Cells.{bounds, neighbours}
use Rattle.eliminator.specs.Views.{Same}
use Rattle.closing.specs.declared.close.Contradiction.{Contradiction}
use Rattle.closing.specs.Closed.{Closes, Ends, Holds}
use Rattle.net.specs.declared.mode.Mode.{Mode}
use Rattle.net.specs.declared.mode.Mode.TheVariants.{Open, Closed}
use Rattle.net.specs.declared.net.Net.{Net}
use Rattle.net.specs.State.{State, Outcome, state, outcome, Sound}
use Rattle.net.specs.Kept.{Kept}
use Rattle.net.specs.Closing.{closing, closed, in_mode}
use Rattle.net.proofs.States.{stated, stated_closed}
use Rattle.net.proofs.Soundness.{sound_reordered, sound_after}

-- an open net need only be sound
pub kept_open : {K : Type 0} (A : Arithmetic) (amount : K → List ℤ) (net : Net K) → Sound A (state amount net) → net.mode ≡ Open → Kept A amount net
kept_open A amount net h e = record { sound = h; holds = λ f. let z : Open ≡ Closed = sym e ∙ f in cc }

-- and is it after a call that its definition leaves sound
pub kept_after : {K : Type 0} (A : Arithmetic) (amount : K → List ℤ) (net : Net K) (o : Outcome) → outcome (Ok tt) (state amount net) ≡ o → Sound A o.after → net.mode ≡ Open → Kept A amount net
kept_after A amount net o e h = kept_open A amount net (sound_after A (outcome (Ok tt) (state amount net)) o e h)

-- the place is too short
pub close_short : (A : Arithmetic) (place : ℕ) (s : State) → place < s.events → closing (Err 5) s ≡ closed A place s
unfolding closed
close_short A place s l = sym (cond-false (leb s.events place) _ _ (lt-leb s.events place l))

-- refused by 16 exactly where no schedule keeps every bound in force
pub close_schedules : (A : Arithmetic) → Lawful A → (minus : List ℤ → List ℤ) → Inverse A minus → (place : ℕ) (s after : State) (r : Result Counts ℕ) → Sound A s → s.events ≤ place → closing r after ≡ closed A place s → (r ≡ Err 16) ↔ ¬ (Schedule A (InForce s.bounds))
unfolding closed
close_schedules A L minus I place s after r h l e =
    let claim = no_schedule A L minus I s.events s.bounds (record { below = h.within; amounts = h.amounts }) in
    let told : closing r after ≡ cond (contradictory A s.events s.bounds) (closing (Err 16) (in_mode Open s)) (closing (Ok (counts_of s.events (neighbours s.bounds) s.order)) (in_mode Closed s)) =
    e ∙ cond-true (leb s.events place) _ _ (le-leb s.events place l) in
    ⊎_elim
    (λ t. let is : r ≡ Err 16 = ap (λ c. c.answer) (told ∙ cond-true (contradictory A s.events s.bounds) _ _ t) in ((λ _. claim.1.0 t), (λ _. is)))
    (λ t. let is : r ≡ Ok (counts_of s.events (neighbours s.bounds) s.order) = ap (λ c. c.answer) (told ∙ cond-false (contradictory A s.events s.bounds) _ _ t) in
    ((λ f. let z : Ok (counts_of s.events (neighbours s.bounds) s.order) ≡ Err 16 = sym is ∙ f in cc), (λ none. absurd (none (claim.0.0 t)))))
    (cases_Bool (contradictory A s.events s.bounds))

-- the table before and after, with the bounds in force that it had
module _ {K : Type 0} (A : Arithmetic) (L : Lawful A) (amount : K → List ℤ) (mode : Mode) (t u : Table K) (kept : Same t u) (same : bounds amount t.order.count u.cells.now ≡ bounds amount t.order.count t.cells.now) where
  in_net : Sound A (stated amount t.order t.cells.now mode) → Within A t.order.count (bounds amount t.order.count t.cells.now)
  in_net h = record { below = h.within; amounts = h.amounts }

  pub closes : (place : List ℕ) (r : Result (Unit {0}) Contradiction) → Sound A (stated amount t.order t.cells.now mode) → Ends A amount t.order t.cells.now u.cells.now place r → Closes A amount t.order t.cells.now u.cells.now place r
  closes place r h ends = ends L (in_net h) h.apart h.sized

  -- closed, with its counts
  pub close_done : (place : ℕ) (counts : Counts) → t.order.count ≤ place → contradictory A t.order.count (bounds amount t.order.count t.cells.now) ≡ false →
      counts ≡ counts_of u.order.count (neighbours (bounds amount u.order.count u.cells.now)) (events_of u.order) → closing (Ok counts) (stated amount u.order u.cells.now Closed) ≡ closed A place (stated amount t.order t.cells.now mode)
  unfolding closed
  close_done place counts l calm told =
      ap₂ closing
      (ap Ok (told ∙ ap (λ (o : EventOrder). counts_of o.count (neighbours (bounds amount o.count u.cells.now)) (events_of o)) kept.order ∙ ap (λ F. counts_of t.order.count (neighbours F) (events_of t.order)) same))
      (stated_closed amount t.order u.order t.cells.now u.cells.now mode Closed kept.order same)
      ∙ sym (cond-true (leb t.order.count place) _ _ (le-leb t.order.count place l) ∙ cond-false (contradictory A t.order.count (bounds amount t.order.count t.cells.now)) _ _ calm)

  -- a loop contradicts
  pub close_fails : (place : ℕ) (events : List ℕ) → t.order.count ≤ place → Sound A (stated amount t.order t.cells.now mode) → Loop A (InForce (bounds amount t.order.count t.cells.now)) events →
      closing (Err 16) (stated amount u.order u.cells.now Open) ≡ closed A place (stated amount t.order t.cells.now mode)
  unfolding closed
  close_fails place events l h loop =
      let found : contradictory A t.order.count (bounds amount t.order.count t.cells.now) ≡ true = (contradiction A L t.order.count (bounds amount t.order.count t.cells.now) (in_net h)).1.1 (events, loop) in
      ap (closing (Err 16)) (stated_closed amount t.order u.order t.cells.now u.cells.now mode Open kept.order same)
      ∙ sym (cond-true (leb t.order.count place) _ _ (le-leb t.order.count place l) ∙ cond-true (contradictory A t.order.count (bounds amount t.order.count t.cells.now)) _ _ found)

  -- soundness lies in the bounds alone
  pub sound_closed : (then : Mode) → Sound A (stated amount t.order t.cells.now mode) → Sound A (stated amount u.order u.cells.now then)
  sound_closed then h = subst (Sound A) (sym (stated_closed amount t.order u.order t.cells.now u.cells.now mode then kept.order same)) (sound_reordered A (stated amount t.order t.cells.now mode) (events_of t.order) then h)

  -- what the table holds
  pub still_holds : Holds A amount t.order u.cells.now → Holds A amount u.order u.cells.now
  still_holds = subst (λ o. Holds A amount o u.cells.now) (sym kept.order)
