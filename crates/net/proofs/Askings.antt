-- What a closed net tells is what the definitions say.
use Rattle.std.proofs.Common.{◌≡◌, ℕ, zero, suc, ◌+◌, ◌^◌, ◌<◌, ◌≤◌, Bool, true, false, cond, ◌&&◌, ltb, leb, List, length, set, ℤ, is_some, Some, None, Ok, Err, Option, Result, sym, refl, ap, ◌∙◌, subst, ap₂, ⊎_elim, arith}
use Rattle.std.proofs.lemmas.Grind.{common_steps}
use Rattle.std.proofs.lemmas.Option.{gets}
use Rattle.std.proofs.lemmas.Bool.{cases_eq, le-leb, lt-leb, cond-true, cond-false}
use Rattle.std.specs.List.{slice_get}
use Rattle.kinds.specs.Arithmetic.{Arithmetic, Lawful, Inverse}
use Rattle.table.specs.declared.cell.Cell.{Cell}
use Rattle.table.specs.Cells.{at_cell, amount_of}
use Rattle.walks.specs.Bounds.{InForce, Within}
use Rattle.walks.specs.Walks.{Route, Told, Window}
use Rattle.walks.specs.Least.{lesser, least, distance, opposite, window, time}
use Rattle.walks.proofs.Sizes.{small}
use Rattle.walks.proofs.Distances.{told}
use Rattle.walks.proofs.Schedules.{times}
use Rattle.walks.proofs.Windows.{windows}
use Rattle.closing.specs.Closed.{Walks}
use Rattle.net.specs.declared.mode.Mode.{Mode}
use Rattle.net.specs.declared.mode.Mode.TheVariants.{Open, Closed}
use Rattle.net.specs.declared.net.Net.{Net}
use Rattle.net.specs.Limits.{most_size}
use Rattle.net.specs.Refusals.{Reason, by}
use Rattle.net.specs.State.{State, state, cells_of, known}
use Rattle.net.specs.Kept.{Kept}
use Rattle.net.specs.Told.{shut}
use Rattle.net.specs.Asking.{asked, placed, times_asked, Schedules}
use Rattle.net.specs.Times.{column, Earliest}
use Rattle.net.proofs.Outcomes.{events_yes, cond_refused}

-- refused the same, whatever would be told
answer_refused : {T : Type 0} (b shut : Bool) (x : Reason) (answer : Result T Reason) → ◌≡◌ {A = Result (Unit {0}) Reason} (Err x) (cond b (cond shut (Ok tt) (Err (by 6))) (Err (by 3))) → Err x ≡ cond b (cond shut answer (Err (by 6))) (Err (by 3))
answer_refused true true x answer e = cc
answer_refused true false x answer e = let z : x ≡ by 6 = cc in ap Err z
answer_refused false shut x answer e = let z : x ≡ by 3 = cc in ap Err z

pub asked_refused : {T : Type 0} (n : ℕ) (mode : Mode) (i j : ℕ) (x : Reason) (answer : Result T Reason) → ◌≡◌ {A = Result (Unit {0}) Reason} (Err x) (asked n mode i j (Ok tt)) → Err x ≡ asked n mode i j answer
unfolding asked
asked_refused n mode i j x answer e = answer_refused (ltb i n && ltb j n) (shut mode) x answer e

pub asked_good : {T : Type 0} (n : ℕ) (mode : Mode) (i j : ℕ) (answer : Result T Reason) → i < n → j < n → mode ≡ Closed → answer ≡ asked n mode i j answer
unfolding asked
asked_good n mode i j answer p q e = sym (cond-true (ltb i n && ltb j n) _ _ (events_yes n i j p q) ∙ cond-true (shut mode) _ _ (ap shut e))

pub asked_outside : (n : ℕ) (mode : Mode) (i j : ℕ) (x : Reason) → Err x ≡ known n i j → ◌≡◌ {A = Result (Unit {0}) Reason} (Err x) (asked n mode i j (Ok tt))
unfolding asked
asked_outside n mode i j x e = let r = cond_refused _ x (by 3) e in ap Err r.1 ∙ sym (cond-false (ltb i n && ltb j n) _ _ r.0)

pub asked_open : (n : ℕ) (mode : Mode) (i j : ℕ) → i < n → j < n → mode ≡ Open → ◌≡◌ {A = Result (Unit {0}) Reason} (Err (by 6)) (asked n mode i j (Ok tt))
unfolding asked
asked_open n mode i j p q e = sym (cond-true (ltb i n && ltb j n) _ _ (events_yes n i j p q) ∙ cond-false (shut mode) _ _ (ap shut e))

pub placed_short : (n place : ℕ) → place < n → Err (by 5) ≡ placed n place
placed_short n place l = sym (cond-false (leb n place) _ _ (lt-leb n place l))

pub placed_long : (n place : ℕ) → n ≤ place → Ok tt ≡ placed n place
placed_long n place l = sym (cond-true (leb n place) _ _ (le-leb n place l))

pub times_open : (place : ℕ) (s : State) → s.mode ≡ Open → Err (by 6) ≡ times_asked place s
unfolding times_asked
times_open place s e = sym (cond-false (shut s.mode) _ _ (ap shut e))

pub times_placed : (place : ℕ) (s : State) (r : Result (Unit {0}) Reason) → s.mode ≡ Closed → r ≡ placed s.events place → r ≡ times_asked place s
unfolding times_asked
times_placed place s r e f = f ∙ sym (cond-true (shut s.mode) _ _ (ap shut e))

-- an option that is some
pub some_of : {X : Type 0} (o : Option X) → is_some o ≡ true → (x : X) × (o ≡ Some x)
some_of None e = cc
some_of (Some x) e = (x, refl)

-- a mode is one of the two
pub not_open : (m : Mode) → (m ≡ Open → ⊥) → m ≡ Closed
not_open Open h = absurd (h refl)
not_open Closed h = refl

-- equal columns have one least
least_agree : (A : Arithmetic) (m : ℕ) (f g : ℕ → Option (List ℤ)) → ((i : ℕ) → i < m → f i ≡ g i) → least A m f ≡ least A m g
least_agree A zero f g h = refl
least_agree A (suc m) f g h = ap₂ (lesser A) (least_agree A m f g (λ i l. h i (omega arith))) (h m (omega arith))

-- a net that is closed, and keeps to what nets keep to
module _ {K : Type 0} (A : Arithmetic) (L : Lawful A) (amount : K → List ℤ) (net : Net K) (k : Kept A amount net) (is : net.mode ≡ Closed) where
  -- the cell of a pair holds its distance
  pub held : (i j : ℕ) (c : Cell K) → i < (state amount net).events → j < (state amount net).events → c ≡ at_cell (state amount net).events (cells_of net) i j → amount_of amount c.distance ≡ distance A (state amount net).events (state amount net).bounds i j
  held i j c p q at = ap (λ (d : Cell K). amount_of amount d.distance) at ∙ (k.holds is).distances i j p q

  sorted : Within A (state amount net).events (state amount net).bounds
  sorted = record { below = k.sound.within; amounts = k.sound.amounts }

  -- and a distance has an opposite
  pub held_small : (i j : ℕ) (c : Cell K) → i < (state amount net).events → j < (state amount net).events → c ≡ at_cell (state amount net).events (cells_of net) i j → (d : K) → c.distance ≡ Some d → A.size (amount d) ≤ 2 ^ 60
  held_small i j c p q at d f =
      let few = net.table.order.fits in
      let far = small A L (state amount net).events (state amount net).bounds sorted most_size k.sound.sized i j (amount d) (sym (held i j c p q at) ∙ ap (amount_of amount) f) in
      omega arith

  -- the route told
  pub routed : (i j : ℕ) (c : Cell K) (d : K) (events : List ℕ) → i < (state amount net).events → j < (state amount net).events → c ≡ at_cell (state amount net).events (cells_of net) i j → c.distance ≡ Some d → Walks A amount net.table.order (cells_of net) i j events →
      (a : List ℤ) × (distance A (state amount net).events (state amount net).bounds i j ≡ Some a) × Route A (InForce (state amount net).bounds) i j events a
  routed i j c d events p q at f walks = (amount d, sym (held i j c p q at) ∙ ap (amount_of amount) f, walks L (k.holds is) d (ap (λ (x : Cell K). x.distance) (sym at) ∙ f))

  -- a distance is the least sum of all walks
  pub held_least : (i j : ℕ) (d : Option (List ℤ)) → d ≡ distance A (state amount net).events (state amount net).bounds i j → Told A (InForce (state amount net).bounds) i j d
  held_least i j d f = (told A L (state amount net).events (state amount net).bounds sorted (k.holds is).calm i j d).1 f

  -- the two ends of a window
  pub held_window : (minus : List ℤ → List ℤ) (i j : ℕ) (there back : Cell K) (low : Option K) → i < (state amount net).events → j < (state amount net).events → there ≡ at_cell (state amount net).events (cells_of net) i j → back ≡ at_cell (state amount net).events (cells_of net) j i →
      (((d : K) → back.distance ≡ Some d → A.size (amount d) ≤ 2 ^ 60) → amount_of amount low ≡ opposite minus (amount_of amount back.distance)) →
      (amount_of amount low, amount_of amount there.distance) ≡ window A minus (state amount net).events (state amount net).bounds i j
  held_window minus i j there back low p q at at_back opposed =
      ap₂ (λ x y. (x, y)) (opposed (held_small j i back q p at_back) ∙ ap (opposite minus) (held j i back q p at_back)) (held i j there p q at)

  -- they are exact
  pub held_exact : (minus : List ℤ → List ℤ) → Inverse A minus → (i j : ℕ) (ends : Option (List ℤ) × Option (List ℤ)) → ends ≡ window A minus (state amount net).events (state amount net).bounds i j → Window A (InForce (state amount net).bounds) i j ends
  held_exact minus I i j ends e = subst (Window A (InForce (state amount net).bounds) i j) (sym e) (windows A L minus I (state amount net).events (state amount net).bounds sorted (k.holds is).calm i j)

  -- the least of a column is the time
  pub timed : (place : List K) → Earliest A amount (state amount net).events (cells_of net) (state amount net).events place → (j : ℕ) → j < (state amount net).events → amount_of amount (slice_get place j) ≡ time A (state amount net).events (state amount net).bounds j
  timed place early j l =
      let plan = times A L (state amount net).events (state amount net).bounds sorted (k.holds is).calm in
      let same : least A (state amount net).events (column amount (state amount net).events (cells_of net) j) ≡ time A (state amount net).events (state amount net).bounds j = least_agree A (state amount net).events (column amount (state amount net).events (cells_of net) j) (λ i. distance A (state amount net).events (state amount net).bounds i j) (λ i p. held i j (at_cell (state amount net).events (cells_of net) i j) p l refl) in
      early j (plan.schedule.time j) l (same ∙ plan.times j l) ∙ sym (plan.times j l)

  -- and the times are a schedule
  pub planned : (place : List K) → Earliest A amount (state amount net).events (cells_of net) (state amount net).events place → Schedules A amount (state amount net) place
  planned place early =
      let plan = times A L (state amount net).events (state amount net).bounds sorted (k.holds is).calm in
      record { schedule = plan.schedule; times = λ j l. timed place early j l ∙ plan.times j l }

-- one more of a column
pub least_more : {K : Type 0} (A : Arithmetic) (amount : K → List ℤ) (n m : ℕ) (xs : List (Cell K)) (before after : List K) (t : K) → m < length before → after ≡ set before m t → amount_of amount (Some t) ≡ least A n (column amount n xs m) → Earliest A amount n xs m before → Earliest A amount n xs (m + 1) after
least_more A amount n m xs before after t l e found inv j u p q = ⊎_elim
    (λ (s : j ≡ m). rw (e, s) (let here : slice_get (set before m t) m ≡ Some t = grind (arith, common_steps, gets) in ap (amount_of amount) here ∙ found ∙ ap (λ k. least A n (column amount n xs k)) (sym s) ∙ q))
    (λ (d : j ≡ m → ⊥). rw e (let there : slice_get (set before m t) j ≡ slice_get before j = grind (arith, common_steps, gets) in ap (amount_of amount) there ∙ inv j u (omega arith) q))
    (cases_eq j m)

pub least_skip : {K : Type 0} (A : Arithmetic) (amount : K → List ℤ) (n m : ℕ) (xs : List (Cell K)) (before after : List K) → after ≡ before → None ≡ least A n (column amount n xs m) → Earliest A amount n xs m before → Earliest A amount n xs (m + 1) after
least_skip A amount n m xs before after e none inv j u p q = ⊎_elim
    (λ s. let z : ◌≡◌ {A = Option (List ℤ)} None (Some u) = none ∙ ap (λ k. least A n (column amount n xs k)) (sym s) ∙ q in cc)
    (λ d. rw e (inv j u (omega arith) q))
    (cases_eq j m)
