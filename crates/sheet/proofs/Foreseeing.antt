-- Acceptance depends on the number of events and of cells alone.
use Rattle.std.proofs.Common.{◌≡◌, ℕ, Bool, true, false, cond, not, ◌&&◌, eqb, ltb, leb, List, ℤ, Some, Ok, Err, Result, sym, refl, ap, ◌∙◌, subst}
use Rattle.kinds.specs.Arithmetic.{Arithmetic}
use Rattle.order.specs.declared.event_order.Misordered.{Misordered}
use Rattle.order.specs.Orderings as orderings
use Rattle.net.specs.Limits.{most_events, cells_needed, most_size}
use Rattle.net.specs.Refusals.{Reason, by}
use Rattle.net.specs.State.{State, Outcome, need, accepted, fresh, rebound, lesser, begun, required, arranged, ordered_by, both_events}
use Rattle.sheet.specs.Records.{Asked}
use Rattle.sheet.specs.Sheets.{performed}
use Rattle.sheet.specs.Outlines.{Foreseen, may_begin, may_require, may_arrange, unless_lacking}

-- the events that a begin leaves
abbrev pub left_by : Result (Unit {0}) Reason → (n before : ℕ) → ℕ
left_by (Ok x) n before = n
left_by (Err why) n before = before

begin_seen : (a b : Bool) (n : ℕ) (s : State) → Foreseen (need a 1 s (need b 2 s (accepted (fresh n)))) (cond a (cond b (Ok tt) (Err (by 2))) (Err (by 1))) (left_by (cond a (cond b (Ok tt) (Err (by 2))) (Err (by 1))) n s.events)
begin_seen true true n s = record { answers = refl; leaves = refl }
begin_seen true false n s = record { answers = refl; leaves = refl }
begin_seen false b n s = record { answers = refl; leaves = refl }

pub begun_seen : (cells n : ℕ) (s : State) → Foreseen (begun cells n s) (may_begin cells n) (left_by (may_begin cells n) n s.events)
unfolding begun
begun_seen cells n s = begin_seen (ltb 0 n && leb n most_events) (leb (cells_needed n) cells) n s

require_seen : (a b d : Bool) (s t : State) → t.events ≡ s.events → Foreseen (need a 3 s (need b 4 s (need d 11 s (accepted t)))) (cond a (cond b (cond d (Ok tt) (Err (by 11))) (Err (by 4))) (Err (by 3))) s.events
require_seen true true true s t e = record { answers = refl; leaves = e }
require_seen true true false s t e = record { answers = refl; leaves = refl }
require_seen true false d s t e = record { answers = refl; leaves = refl }
require_seen false b d s t e = record { answers = refl; leaves = refl }

pub required_seen : (A : Arithmetic) (i j : ℕ) (w : List ℤ) (s : State) → Foreseen (required A i j w s) (may_require A s.events i j w) s.events
unfolding required
required_seen A i j w s = require_seen (both_events s i j) (not (eqb i j)) (leb (A.size w) most_size) s (rebound s i j (Some (lesser A (s.bounds i j) w))) refl

order_seen : (s : State) (r : Result (List ℕ) Misordered) → Foreseen (ordered_by s r) (unless_lacking r) s.events
order_seen s (Ok events) = record { answers = refl; leaves = refl }
order_seen s (Err why) = record { answers = refl; leaves = refl }

pub arranged_seen : (list : List ℕ) (s : State) → Foreseen (arranged list s) (may_arrange s.events list) s.events
unfolding arranged
arranged_seen list s = order_seen s (orderings.arranged s.events list)

-- the same, where the events and the answer are told otherwise
pub seen_as : {o : Outcome} {a b : Result (Unit {0}) Reason} {m n : ℕ} → Foreseen o a m → a ≡ b → m ≡ n → Foreseen o b n
seen_as f e p = record { answers = f.answers ∙ e; leaves = f.leaves ∙ p }

pub seen_call : (A : Arithmetic) (cells : ℕ) (s : State) {r : Result (Unit {0}) Reason} {n : ℕ} (a b : Asked) → a ≡ b → Foreseen (performed A cells b s) r n → Foreseen (performed A cells a s) r n
seen_call A cells s {r = r} {n = n} a b e f = subst (λ x. Foreseen (performed A cells x s) r n) (sym e) f

-- what the net's checks answer is what the definitions of a call answer
pub begin_answer : (cells n : ℕ) (s : State) → (begun cells n s).answer ≡ may_begin cells n
begin_answer cells n s = (begun_seen cells n s).answers

pub require_answer : (A : Arithmetic) (i j : ℕ) (w : List ℤ) (s : State) (m : ℕ) → s.events ≡ m → (required A i j w s).answer ≡ may_require A m i j w
require_answer A i j w s m p = (required_seen A i j w s).answers ∙ ap (λ n. may_require A n i j w) p

pub begin_kept : (cells n : ℕ) (s : State) (why : Reason) (m : ℕ) → Err why ≡ may_begin cells n → s.events ≡ m → Foreseen (begun cells n s) (Err why) m
begin_kept cells n s why m e p = seen_as (begun_seen cells n s) (sym e) (ap (λ r. left_by r n s.events) (sym e) ∙ p)

pub begin_done : (cells n : ℕ) (s : State) → Ok tt ≡ may_begin cells n → Foreseen (begun cells n s) (Ok tt) n
begin_done cells n s e = seen_as (begun_seen cells n s) (sym e) (ap (λ r. left_by r n s.events) (sym e))

pub require_told : (A : Arithmetic) (i j : ℕ) (w : List ℤ) (s : State) (m : ℕ) (r : Result (Unit {0}) Reason) → r ≡ may_require A m i j w → s.events ≡ m → Foreseen (required A i j w s) r m
require_told A i j w s m r e p = seen_as (required_seen A i j w s) (ap (λ n. may_require A n i j w) p ∙ sym e) p

pub arrange_told : (list : List ℕ) (s : State) (m : ℕ) (r : Result (Unit {0}) Reason) → r ≡ may_arrange m list → s.events ≡ m → Foreseen (arranged list s) r m
arrange_told list s m r e p = seen_as (arranged_seen list s) (ap (λ n. may_arrange n list) p ∙ sym e) p
