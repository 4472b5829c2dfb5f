-- Each way through a call comes to what the definitions say.
use Rattle.std.proofs.Common.{◌≡◌, ℕ, ◌*◌, ◌<◌, ◌≤◌, Bool, true, false, cond, not, ◌&&◌, eqb, ltb, leb, ◌⊎◌, List, [], length, ℤ, is_some, Some, None, Ok, Err, Option, Result, sym, refl, ap, ◌∙◌, inl, inr, ⊎_elim, arith}
use Rattle.std.proofs.lemmas.Bool.{cases_Bool, eqb-true, and_parts, lt-ltb, le-ltb, le-leb, lt-leb, eq-eqb, ne_eqb, and_from, and_left, and_right, cond-true, cond-false, not_from_false}
use Rattle.kinds.specs.Answers.{pick}
use Rattle.kinds.specs.Arithmetic.{Arithmetic}
use Rattle.table.specs.declared.cell.Cell.{Cell}
use Rattle.table.specs.declared.lent.Table.{Table}
use Rattle.table.specs.Cells.{at_cell, amount_of, bounds, neighbours}
use Rattle.order.specs.declared.event_order.EventOrder.{EventOrder}
use Rattle.order.specs.declared.event_order.Misordered.{Misordered}
use Rattle.order.specs.declared.event_order.Misordered.TheVariants.{Count, Outside, Again}
use Rattle.order.specs.Orderings.{events_of}
use Rattle.order.specs.Orderings as orderings
use Rattle.order.specs.Ranking.{ranking}
use Rattle.order.proofs.Orders.{events_count}
use Rattle.walks.specs.Least.{lesser as lesser_of}
use Rattle.net.specs.Limits.{most_events, cells_needed, most_size}
use Rattle.net.specs.Refusals.{Reason, by, answered}
use Rattle.net.specs.State.{State, Outcome, outcome, refused, accepted, need, fresh, rebound, lesser, both_events, known, paired, begun, required, withdrawn, bound_told, reordered, ordered_by, arranged, ranked}
use Rattle.net.specs.Lacks.{refusal_of}
use Rattle.net.proofs.BoundsHeld.{bounds_within}

unmet : (met : Bool) (number : ℕ) (s : State) (further : Outcome) → met ≡ false → refused number s ≡ need met number s further
unmet met number s further e = sym (cond-false met further (refused number s) e)

met : (met : Bool) (number : ℕ) (s : State) (further out : Outcome) → met ≡ true → out ≡ further → out ≡ need met number s further
met t number s further out e f = f ∙ sym (cond-true t further (refused number s) e)

-- a call is accepted, or refused and nothing altered
abbrev pub Decided : Outcome → State → State → Type 0
Decided o before after = (o ≡ accepted after) ⊎ ((why : Reason) × (o ≡ outcome (Err why) before))

need_decided : (met : Bool) (number : ℕ) (s t : State) (further : Outcome) → Decided further s t → Decided (need met number s further) s t
need_decided true number s t further d = d
need_decided false number s t further d = inr (by number, refl)

-- by its answer, the whole outcome is known
pub refused_by : (o : Outcome) (s t : State) (why : Reason) → Decided o s t → Err why ≡ o.answer → outcome (Err why) s ≡ o
refused_by o s t why d e = ⊎_elim
    (λ a. let z : ◌≡◌ {A = Result (Unit {0}) Reason} (Err why) (Ok tt) = e ∙ ap (λ o. o.answer) a in cc)
    (λ r. ap (λ x. outcome x s) (e ∙ ap (λ o. o.answer) r.1) ∙ sym r.1)
    d

pub accepted_by : (o : Outcome) (s t : State) → Decided o s t → Ok tt ≡ o.answer → accepted t ≡ o
accepted_by o s t d e = ⊎_elim
    (λ a. sym a)
    (λ r. let z : ◌≡◌ {A = Result (Unit {0}) Reason} (Ok tt) (Err r.0) = e ∙ ap (λ o. o.answer) r.1 in cc)
    d

-- the tests of two events
pub events_yes : (n i j : ℕ) → i < n → j < n → (ltb i n && ltb j n) ≡ true
events_yes n i j p q = and_from (ltb i n) (ltb j n) (lt-ltb i n p) (lt-ltb j n q)

differ : (i j : ℕ) → (i ≡ j → ⊥) → not (eqb i j) ≡ true
differ i j ne = not_from_false (eqb i j) (ne_eqb i j ne)

-- they were refused only where the test fails
pub cond_refused : (b : Bool) (x y : Reason) → ◌≡◌ {A = Result (Unit {0}) Reason} (Err x) (cond b (Ok tt) (Err y)) → (b ≡ false) × (x ≡ y)
cond_refused true x y e = cc
cond_refused false x y e = (refl, cc)

-- begin
range_yes : (n : ℕ) → 1 ≤ n → n ≤ 128 → (ltb 0 n && leb n most_events) ≡ true
range_yes n p q = and_from (ltb 0 n) (leb n most_events) (lt-ltb 0 n p) (le-leb n 128 q)

range_no : (n : ℕ) → (n < 1) ⊎ (1 ≤ n) × (128 < n) → (ltb 0 n && leb n most_events) ≡ false
range_no n o = ⊎_elim (λ l. and_left (ltb 0 n) (leb n most_events) (le-ltb 0 n (omega arith))) (λ l. and_right (ltb 0 n) (leb n most_events) (lt-leb n 128 l.1)) o

pub begin_range : (cells n : ℕ) (s : State) → (n < 1) ⊎ (1 ≤ n) × (128 < n) → refused 1 s ≡ begun cells n s
unfolding begun
begin_range cells n s o = unmet _ 1 s _ (range_no n o)

pub begin_cells : (cells n : ℕ) (s : State) → 1 ≤ n → n ≤ 128 → cells < n * n → refused 2 s ≡ begun cells n s
unfolding begun
begin_cells cells n s p q l = met _ 1 s _ _ (range_yes n p q) (unmet _ 2 s _ (lt-leb (n * n) cells l))

pub begin_done : (cells n : ℕ) (s : State) → 1 ≤ n → n ≤ 128 → n * n ≤ cells → accepted (fresh n) ≡ begun cells n s
unfolding begun
begin_done cells n s p q l = met _ 1 s _ _ (range_yes n p q) (met _ 2 s _ _ (le-leb (n * n) cells l) refl)

pub begin_decided : (cells n : ℕ) (s : State) → Decided (begun cells n s) s (fresh n)
unfolding begun
begin_decided cells n s = need_decided (ltb 0 n && leb n most_events) 1 s (fresh n) _ (need_decided (leb (cells_needed n) cells) 2 s (fresh n) _ (inl refl))

-- two events that a bound can join, or not
pub pair_events : (n i j : ℕ) (x : Reason) → Err x ≡ known n i j → Err x ≡ paired n i j
unfolding paired
pair_events n i j x e = let r = cond_refused _ x (by 3) e in ap Err r.1 ∙ sym (cond-false (ltb i n && ltb j n) _ _ r.0)

pub pair_same : (n i j : ℕ) → i < n → j < n → i ≡ j → Err (by 4) ≡ paired n i j
unfolding paired
pair_same n i j p q e = sym (cond-true (ltb i n && ltb j n) _ _ (events_yes n i j p q) ∙ cond-true (eqb i j) _ _ (eq-eqb i j e))

pub pair_good : (n i j : ℕ) → i < n → j < n → (i ≡ j → ⊥) → Ok tt ≡ paired n i j
unfolding paired
pair_good n i j p q ne = sym (cond-true (ltb i n && ltb j n) _ _ (events_yes n i j p q) ∙ cond-false (eqb i j) _ _ (ne_eqb i j ne))

pair_refused : (b e : Bool) (s : State) (x : Reason) (further : Outcome) → ◌≡◌ {A = Result (Unit {0}) Reason} (Err x) (cond b (cond e (Err (by 4)) (Ok tt)) (Err (by 3))) → outcome (Err x) s ≡ need b 3 s (need (not e) 4 s further)
pair_refused true true s x further h = ap (λ r. outcome r s) h
pair_refused true false s x further h = cc
pair_refused false e s x further h = ap (λ r. outcome r s) h

-- require
pub require_pair : (A : Arithmetic) (i j : ℕ) (w : List ℤ) (s : State) (x : Reason) → Err x ≡ paired s.events i j → outcome (Err x) s ≡ required A i j w s
unfolding required paired
require_pair A i j w s x e = pair_refused (both_events s i j) (eqb i j) s x _ e

pub require_large : (A : Arithmetic) (i j : ℕ) (w : List ℤ) (s : State) → i < s.events → j < s.events → (i ≡ j → ⊥) → most_size < A.size w → refused 11 s ≡ required A i j w s
unfolding required
require_large A i j w s p q ne l = met _ 3 s _ _ (events_yes s.events i j p q) (met _ 4 s _ _ (differ i j ne) (unmet _ 11 s _ (lt-leb (A.size w) most_size l)))

pub require_done : (A : Arithmetic) (i j : ℕ) (w : List ℤ) (s : State) → i < s.events → j < s.events → (i ≡ j → ⊥) → A.size w ≤ most_size → accepted (rebound s i j (Some (lesser A (s.bounds i j) w))) ≡ required A i j w s
unfolding required
require_done A i j w s p q ne l = met _ 3 s _ _ (events_yes s.events i j p q) (met _ 4 s _ _ (differ i j ne) (met _ 11 s _ _ (le-leb (A.size w) most_size l) refl))

pub require_decided : (A : Arithmetic) (i j : ℕ) (w : List ℤ) (s : State) → Decided (required A i j w s) s (rebound s i j (Some (lesser A (s.bounds i j) w)))
unfolding required
require_decided A i j w s =
    let after = rebound s i j (Some (lesser A (s.bounds i j) w)) in
    need_decided (both_events s i j) 3 s after _ (need_decided (not (eqb i j)) 4 s after _ (need_decided (leb (A.size w) most_size) 11 s after _ (inl refl)))

-- the bound in force is that of the cell
pub bound_held : {K : Type 0} (amount : K → List ℤ) (t : Table K) (i j : ℕ) (c : Cell K) → i < t.order.count → j < t.order.count → c ≡ at_cell t.order.count t.cells.now i j → amount_of amount c.bound ≡ bounds amount t.order.count t.cells.now i j
bound_held amount t i j c p q at = ap (λ (d : Cell _). amount_of amount d.bound) at ∙ sym (bounds_within amount t.order.count t.cells.now i j p q)

-- the lesser of an amount that may be none and one that is there
pub lesser_some : (A : Arithmetic) (o : Option (List ℤ)) (w : List ℤ) → lesser_of A o (Some w) ≡ Some (lesser A o w)
lesser_some A None w = refl
lesser_some A (Some v) w = picked (A.at_most v w)
  where
    picked : (b : Bool) → pick b (Some v) (Some w) ≡ Some (cond b v w)
    picked true = refl
    picked false = refl

-- and of the bound in force in a cell
pub lesser_held : {K : Type 0} (A : Arithmetic) (amount : K → List ℤ) (t : Table K) (i j : ℕ) (c : Cell K) (w : List ℤ) → i < t.order.count → j < t.order.count → c ≡ at_cell t.order.count t.cells.now i j →
    lesser_of A (amount_of amount c.bound) (Some w) ≡ Some (lesser A (bounds amount t.order.count t.cells.now i j) w)
lesser_held A amount t i j c w p q at = lesser_some A (amount_of amount c.bound) w ∙ ap (λ o. Some (lesser A o w)) (bound_held amount t i j c p q at)

-- withdraw
pub withdraw_pair : (i j : ℕ) (s : State) (x : Reason) → Err x ≡ paired s.events i j → outcome (Err x) s ≡ withdrawn i j s
unfolding withdrawn paired
withdraw_pair i j s x e = pair_refused (both_events s i j) (eqb i j) s x _ e

pub withdraw_none : (i j : ℕ) (s : State) → i < s.events → j < s.events → (i ≡ j → ⊥) → s.bounds i j ≡ None → refused 12 s ≡ withdrawn i j s
unfolding withdrawn
withdraw_none i j s p q ne e = met _ 3 s _ _ (events_yes s.events i j p q) (met _ 4 s _ _ (differ i j ne) (unmet _ 12 s _ (ap is_some e)))

pub withdraw_done : (i j : ℕ) (s : State) (w : List ℤ) → i < s.events → j < s.events → (i ≡ j → ⊥) → s.bounds i j ≡ Some w → accepted (rebound s i j None) ≡ withdrawn i j s
unfolding withdrawn
withdraw_done i j s w p q ne e = met _ 3 s _ _ (events_yes s.events i j p q) (met _ 4 s _ _ (differ i j ne) (met _ 12 s _ _ (ap is_some e) refl))

-- the bound told
pub told_events : (i j : ℕ) (s : State) (x : Reason) → Err x ≡ known s.events i j → Err x ≡ bound_told i j s
unfolding bound_told
told_events i j s x e = let r = cond_refused _ x (by 3) e in ap Err r.1 ∙ sym (cond-false (both_events s i j) _ _ r.0)

pub told_bound : (i j : ℕ) (s : State) → i < s.events → j < s.events → Ok (s.bounds i j) ≡ bound_told i j s
unfolding bound_told
told_bound i j s p q = sym (cond-true (both_events s i j) _ _ (events_yes s.events i j p q))

-- arrange
pub arrange_no : (list : List ℕ) (s : State) (why : Misordered) → Err why ≡ orderings.arranged s.events list → outcome (answered (Err (refusal_of why))) s ≡ arranged list s
unfolding arranged
arrange_no list s why e = said why ∙ ap (ordered_by s) e
  where
    said : (why : Misordered) → outcome (answered (Err (refusal_of why))) s ≡ ordered_by s (Err why)
    said Count = refl
    said Outside = refl
    said Again = refl

pub arrange_done : (list : List ℕ) (s : State) (events : List ℕ) → Ok events ≡ orderings.arranged s.events list → accepted (reordered s events) ≡ arranged list s
unfolding arranged
arrange_done list s events e = ap (ordered_by s) e

-- a list that is an ordering of n events has n
pub arranged_count : (n : ℕ) (list events : List ℕ) → Ok events ≡ orderings.arranged n list → length events ≡ n
arranged_count n list events e = ⊎_elim
    (λ t. taken (orderings.first_fault n [] list) (e ∙ ap (orderings.unless list) (cond-true test _ _ t)) ∙ eqb-true (length list) n (and_parts (leb n 128) (eqb (length list) n) t).1)
    (λ t. absurd (not_err (e ∙ ap (orderings.unless list) (cond-false test _ _ t))))
    (cases_Bool test)
  where
    test : Bool
    test = leb n 128 && eqb (length list) n

    not_err : {why : Misordered} → ◌≡◌ {A = Result (List ℕ) Misordered} (Ok events) (Err why) → ⊥
    not_err f = cc

    taken : (fault : Option Misordered) → Ok events ≡ orderings.unless list fault → length events ≡ length list
    taken None f = cc
    taken (Some why) f = absurd (not_err f)

pub order_count : (n : ℕ) (list : List ℕ) (order : EventOrder) → Ok (events_of order) ≡ orderings.arranged n list → order.count ≡ n
order_count n list order e = sym (events_count order) ∙ arranged_count n list (events_of order) e

-- rank
pub rank_done : (s : State) (events : List ℕ) → events ≡ ranking s.events (neighbours s.bounds) s.events → accepted (reordered s events) ≡ ranked s
unfolding ranked
rank_done s events e = ap (λ xs. accepted (reordered s xs)) e
