-- What each call answers, and what it does to how a state stands.
use Rattle.std.proofs.Common.{◌≡◌, ℕ, ◌<◌, ◌≤◌, Bool, true, false, cond, not, ◌&&◌, eqb, ltb, leb, ◌≢◌, List, [], ◌∷◌, length, ℤ, is_some, Some, None, Ok, Err, Option, Result, lit<, sym, refl, ◌∙◌, subst, inl, inr, ⊎_elim, arith}
use Rattle.std.proofs.lemmas.Bool.{both_ways, cases_Bool, and_parts, and_from, ltb-true, leb-true, eqb-true, eqb-false, lt-ltb, le-leb, eq-eqb, or_cases, or_left, or_right, not-true, not-false, cond-true, cond-false, cond_both}
use Rattle.kinds.specs.Arithmetic.{Arithmetic, Amount, AtMost, Lawful}
use Rattle.walks.specs.Walks.{Member}
use Rattle.order.specs.declared.event_order.Misordered.{Misordered}
use Rattle.order.specs.declared.event_order.Misordered.TheVariants.{Count, Outside, Again}
use Rattle.order.specs.Orderings.{among, first_fault, misorder, unless}
use Rattle.net.specs.declared.mode.Mode.TheVariants.{Open}
use Rattle.net.specs.Limits.{most_events, cells_needed, most_size}
use Rattle.net.specs.Refusals.{Reason, by}
use Rattle.net.specs.State.{State, Outcome, with_bound, lesser, both_events, made, fresh, rebound, reordered, begun, required, withdrawn, lack, ordered_by, arranged, ranked}
use Rattle.net.specs.State as state
use Rattle.net.proofs.Soundness.{sound_made, sound_unbound, sound_with, sound_reordered}
use Rattle.history.specs.Deeds.{Deed, Answer, accepted, refused}
use Rattle.history.specs.Deeds.Deed.{begin, require, withdraw, arrange, rank, close}
use Rattle.history.specs.History.{events, closed, Laid, InForce, Need, need, First, Both, places, needs}
use Rattle.history.specs.Standing.{ended, counted, Holds, Stands}
use Rattle.history.proofs.Pasts.{never, same_holds}

first_met : (n : Need) (ns : List Need) (answer : Answer) → n.asks → First ns answer → First (n ∷ ns) answer
first_met n ns None p f = (p, f)
first_met n ns (Some number) p f = inr (p, f)

-- the calls that neither lay down nor take away a bound
abbrev Idle : Deed → Type 0
Idle d = (past : List Deed) (i j : ℕ) (w : List ℤ) → (Laid past i j w → Laid (d ∷ past) i j w) × (Laid (d ∷ past) i j w → Laid past i j w)

pub idle_arrange : (list : List ℕ) → Idle (arrange list)
idle_arrange list past i j w = (λ l. inr (λ z. z, l), λ l. elim l [ inl e ↦ never (cc) | inr l ↦ l.1 ])

pub idle_rank : Idle rank
idle_rank past i j w = (λ l. inr (λ z. z, l), λ l. elim l [ inl e ↦ never (cc) | inr l ↦ l.1 ])

pub idle_close : (place : ℕ) → Idle (close place)
idle_close place past i j w = (λ l. inr (λ z. z, l), λ l. elim l [ inl e ↦ never (cc) | inr l ↦ l.1 ])

require_parts : (a b i j : ℕ) (v w : List ℤ) → require a b v ≡ require i j w → (i ≡ a) × (j ≡ b) × (v ≡ w)
require_parts a b i j v w e = ((cc), (cc), (cc))

-- how a state stands to a past: any relation
abbrev Relation : Type 1
Relation = List Deed → State → Type 0

-- a refusal is told by its number alone, and is no contradiction
abbrev pub Plain : Result (Unit {0}) Reason → Type 0
Plain (Ok x) = Unit {0}
Plain (Err why) = (why ≡ by why.number) × (why.number ≢ 16)

-- the answer is the first of these needs that is not met, and the state stands in the past after the call
abbrev pub Good : Relation → List Deed → Deed → List Need → Outcome → Type 0
Good S past d ns o = First ns (ended o.answer) × S (counted (ended o.answer) d past) o.after × Plain o.answer

asked : (S : Relation) (past : List Deed) (d : Deed) (s : State) → S past s → (t : Bool) (number : ℕ) (P : Type 0) (ns : List Need) (further : Outcome) → number < 16 → (t ≡ true → P) → (t ≡ false → ¬ P) → (P → Good S past d ns further) → Good S past d (need number P ∷ ns) (state.need t number s further)
asked S past d s st true number P ns further low met unmet go = let p = met refl in let (f, g, h) = go p in (first_met (need number P) ns _ p f, g, h)
asked S past d s st false number P ns further low met unmet go = (inl (unmet refl, refl), st, (refl, λ e. omega arith))

begins_by : (A : Arithmetic) (S : Relation) (cells n : ℕ) (past : List Deed) (s : State) → S past s → (n ≤ most_events → S (begin n ∷ past) (fresh n)) → Good S past (begin n) (needs A cells past (begin n)) (begun cells n s)
unfolding begun
begins_by A S cells n past s st done =
    asked S past (begin n) s st (ltb 0 n && leb n most_events) 1 ((1 ≤ n) × (n ≤ most_events)) (need 2 (cells_needed n ≤ cells) ∷ []) (state.need (leb (cells_needed n) cells) 2 s (state.accepted (fresh n))) (lit< tt)
    (λ t. let c = and_parts (ltb 0 n) (leb n most_events) t in (ltb-true 0 n c.0, leb-true n most_events c.1))
    (λ t h. both_ways _ t (and_from (ltb 0 n) (leb n most_events) (lt-ltb 0 n h.0) (le-leb n most_events h.1)))
    (λ range. asked S past (begin n) s st (leb (cells_needed n) cells) 2 (cells_needed n ≤ cells) [] (state.accepted (fresh n)) (lit< tt)
    (leb-true (cells_needed n) cells)
    (λ t h. both_ways _ t (le-leb (cells_needed n) cells h))
    (λ fits. (tt, done range.1, tt)))

-- the tests that require and withdraw begin with
paired : (S : Relation) (i j : ℕ) (past : List Deed) (d : Deed) (s : State) (ns : List Need) (further : Outcome) → S past s → s.events ≡ events past → ((i < s.events) → (j < s.events) → i ≢ j → Good S past d ns further) → Good S past d (need 3 (Both past i j) ∷ need 4 (i ≢ j) ∷ ns) (state.need (both_events s i j) 3 s (state.need (not (eqb i j)) 4 s further))
paired S i j past d s ns further st n go =
    asked S past d s st (both_events s i j) 3 (Both past i j) (need 4 (i ≢ j) ∷ ns) (state.need (not (eqb i j)) 4 s further) (lit< tt)
    (λ t. let (p, q) = and_parts (ltb i s.events) (ltb j s.events) t in let u = ltb-true i s.events p in let v = ltb-true j s.events q in (omega arith, omega arith))
    (λ t h. let (p, q) = h in both_ways _ t (and_from (ltb i s.events) (ltb j s.events) (lt-ltb i s.events (omega arith)) (lt-ltb j s.events (omega arith))))
    (λ both. asked S past d s st (not (eqb i j)) 4 (i ≢ j) ns further (lit< tt)
    (λ t. eqb-false i j (not-true (eqb i j) t))
    (λ t ne. ne (eqb-true i j (not-false (eqb i j) t)))
    (λ ne. let (p, q) = both in go (omega arith) (omega arith) ne))

requires_by : (A : Arithmetic) (S : Relation) (cells i j : ℕ) (w : List ℤ) (past : List Deed) (s : State) → S past s → s.events ≡ events past → (A.size w ≤ most_size → i < s.events → j < s.events → i ≢ j → S (require i j w ∷ past) (rebound s i j (Some (lesser A (s.bounds i j) w)))) → Good S past (require i j w) (needs A cells past (require i j w)) (required A i j w s)
unfolding required
requires_by A S cells i j w past s st n go =
    let done = state.accepted (rebound s i j (Some (lesser A (s.bounds i j) w))) in
    paired S i j past (require i j w) s (need 11 (A.size w ≤ most_size) ∷ []) (state.need (leb (A.size w) most_size) 11 s done) st n (λ p q ne.
    asked S past (require i j w) s st (leb (A.size w) most_size) 11 (A.size w ≤ most_size) [] done (lit< tt)
    (leb-true (A.size w) most_size)
    (λ t h. both_ways _ t (le-leb (A.size w) most_size h))
    (λ small. (tt, go small p q ne, tt)))

-- whether an event stood earlier
among_member : (xs : List ℕ) (x : ℕ) → among xs x ≡ true → Member x xs
among_member [] x e = never (cc)
among_member (y ∷ ys) x e = ⊎_elim (λ t. inl (eqb-true x y t)) (λ t. inr (among_member ys x t)) (or_cases (eqb x y) (among ys x) e)

member_among : (xs : List ℕ) (x : ℕ) → Member x xs → among xs x ≡ true
member_among [] x m = absurd m
member_among (y ∷ ys) x (inl e) = or_left (eqb x y) (among ys x) (eq-eqb x y e)
member_among (y ∷ ys) x (inr m) = or_right (eqb x y) (among ys x) (member_among ys x m)

abbrev answer_of : Option Misordered → Answer
answer_of None = accepted
answer_of (Some why) = refused (lack why)

-- the first place at fault
first_place : (n : ℕ) (earlier list : List ℕ) → First (places n earlier list) (answer_of (first_fault n earlier list))
unfolding first_fault
first_place n earlier [] = tt
first_place n earlier (x ∷ xs) = inside (first_place n (x ∷ earlier) xs) (ltb x n) refl (among earlier x) refl
  where
    inside : First (places n (x ∷ earlier) xs) (answer_of (first_fault n (x ∷ earlier) xs)) → (t : Bool) → ltb x n ≡ t → (u : Bool) → among earlier x ≡ u → First (places n earlier (x ∷ xs)) (answer_of (cond t (cond u (Some Again) (first_fault n (x ∷ earlier) xs)) (Some Outside)))
    inside rest true t true u = inr (ltb-true x n t, inl (λ out. out (among_member earlier x u), refl))
    inside rest true t false u = first_met (need 14 (x < n)) (need 15 (¬ (Member x earlier)) ∷ places n (x ∷ earlier) xs) (answer_of (first_fault n (x ∷ earlier) xs)) (ltb-true x n t) (first_met (need 15 (¬ (Member x earlier))) (places n (x ∷ earlier) xs) (answer_of (first_fault n (x ∷ earlier) xs)) (λ m. both_ways (among earlier x) u (member_among earlier x m)) rest)
    inside rest false t u v = inl ((λ h. both_ways (ltb x n) t (lt-ltb x n h)), refl)

listed : (n : ℕ) (list : List ℕ) → n ≤ most_events → First (need 13 (length list ≡ n) ∷ places n [] list) (answer_of (misorder n list))
listed n list few = inside (leb n 128 && eqb (length list) n) refl
  where
    inside : (t : Bool) → (leb n 128 && eqb (length list) n) ≡ t → First (need 13 (length list ≡ n) ∷ places n [] list) (answer_of (cond t (first_fault n [] list) (Some Count)))
    inside true t = first_met (need 13 (length list ≡ n)) (places n [] list) (answer_of (first_fault n [] list)) (eqb-true (length list) n (and_parts (leb n 128) (eqb (length list) n) t).1) (first_place n [] list)
    inside false t = inl ((λ e. both_ways (leb n 128 && eqb (length list) n) t (and_from (leb n 128) (eqb (length list) n) (le-leb n 128 few) (eq-eqb (length list) n e))), refl)

not_sixteen : (why : Misordered) → lack why ≢ 16
not_sixteen Count e = absurd (omega arith)
not_sixteen Outside e = absurd (omega arith)
not_sixteen Again e = absurd (omega arith)

arranges_by : (A : Arithmetic) (S : Relation) (cells : ℕ) (list : List ℕ) (past : List Deed) (s : State) → S past s → s.events ≤ most_events → s.events ≡ events past → S (arrange list ∷ past) (reordered s list) → Good S past (arrange list) (needs A cells past (arrange list)) (arranged list s)
unfolding arranged
arranges_by A S cells list past s st few n done = by_fault (misorder s.events list) (subst (λ (n : ℕ). First (need 13 (length list ≡ n) ∷ places n [] list) (answer_of (misorder s.events list))) n (listed s.events list few))
  where
    by_fault : (o : Option Misordered) → First (needs A cells past (arrange list)) (answer_of o) → Good S past (arrange list) (needs A cells past (arrange list)) (ordered_by s (unless list o))
    by_fault None f = (f, done, tt)
    by_fault (Some why) f = (f, st, (refl, not_sixteen why))

module _ {A : Arithmetic} (law : Lawful A) where
  -- a net just made stands in the empty past
  pub stands_made : Stands A [] made
  stands_made = record { sound = sound_made A; few = omega arith; count = refl; mode = refl; amounts = λ i j w l. absurd l; holds = λ i j w l. l; calm = λ e. never (cc) }

  none_laid : (n : ℕ) (past : List Deed) (i j : ℕ) (w : List ℤ) → ¬ (Laid (begin n ∷ past) i j w)
  none_laid n past i j w (inl e) = never (cc)
  none_laid n past i j w (inr h) = h.0 tt

  stands_fresh : (n : ℕ) (past : List Deed) → n ≤ most_events → Stands A (begin n ∷ past) (fresh n)
  stands_fresh n past h = record { sound = sound_unbound A n _ _; few = h; count = refl; mode = refl; amounts = λ i j w l. absurd (none_laid n past i j w l); holds = none_laid n past; calm = λ e. never (cc) }

  -- another ordering
  pub stands_idle : (d : Deed) → Idle d → ((past : List Deed) → (events (d ∷ past) ≡ events past) × (closed (d ∷ past) ≡ false)) → (past : List Deed) (s : State) (order : List ℕ) → Stands A past s → Stands A (d ∷ past) (reordered s order)
  stands_idle d idle same past s order st = record {
    sound = sound_reordered A s order Open st.sound;
    few = st.few;
    count = st.count ∙ sym (same past).0;
    mode = sym (same past).1;
    amounts = λ i j w l. st.amounts i j w ((idle past i j w).1 l);
    holds = λ i j. same_holds law past (d ∷ past) i j (λ w. (idle past i j w).0) (λ w. (idle past i j w).1) (s.bounds i j) (st.holds i j);
    calm = λ e. let f = (same past).1 in never (cc);
  }

  -- one pair of events has another bound
  holds_with : (d : Deed) (past : List Deed) (F : ℕ → ℕ → Option (List ℤ)) (i j : ℕ) (b : Option (List ℤ)) → ((x y : ℕ) → Holds A past x y (F x y)) → Holds A (d ∷ past) i j b →
      ((x y : ℕ) → ¬ ((x ≡ i) × (y ≡ j)) → (w : List ℤ) → (Laid past x y w → Laid (d ∷ past) x y w) × (Laid (d ∷ past) x y w → Laid past x y w)) → (x y : ℕ) → Holds A (d ∷ past) x y (with_bound F i j b x y)
  holds_with d past F i j b had here there x y = ⊎_elim
      (λ t. let c = and_parts (eqb x i) (eqb y j) t in
      subst (Holds A (d ∷ past) x y) (sym (cond-true (eqb x i && eqb y j) b (F x y) t))
      (subst (λ (v : ℕ). Holds A (d ∷ past) x v b) (sym (eqb-true y j c.1)) (subst (λ (u : ℕ). Holds A (d ∷ past) u j b) (sym (eqb-true x i c.0)) here)))
      (λ t. let off : ¬ ((x ≡ i) × (y ≡ j)) = λ e. both_ways (eqb x i && eqb y j) t (and_from (eqb x i) (eqb y j) (eq-eqb x i e.0) (eq-eqb y j e.1)) in
      subst (Holds A (d ∷ past) x y) (sym (cond-false (eqb x i && eqb y j) b (F x y) t))
      (same_holds law past (d ∷ past) x y (λ w. (there x y off w).0) (λ w. (there x y off w).1) (F x y) (had x y)))
      (cases_Bool (eqb x i && eqb y j))

  -- the lesser of the bound in force and a new one is in force
  force_lesser : (past : List Deed) (i j : ℕ) (w : List ℤ) → Amount A w → ((v : List ℤ) → Laid past i j v → Amount A v) → (o : Option (List ℤ)) → Holds A past i j o → InForce A (require i j w ∷ past) i j (lesser A o w)
  force_lesser past i j w fit fits None h = record {
    laid = inl refl;
    least = λ u l. elim l [ inl e ↦ subst (AtMost A w) (require_parts i j i j w u e).2 (law.reflexive w fit) | inr l ↦ absurd (h u l.1) ];
  }
  force_lesser past i j w fit fits (Some v) h = chosen (A.at_most v w) refl
    where
      chosen : (t : Bool) → A.at_most v w ≡ t → InForce A (require i j w ∷ past) i j (cond t v w)
      chosen true t = record {
        laid = inr (λ z. z, h.laid);
        least = λ u l. elim l [ inl e ↦ subst (AtMost A v) (require_parts i j i j w u e).2 t | inr l ↦ h.least u l.1 ];
      }
      chosen false t = record {
        laid = inl refl;
        least = λ u l. elim l [
          | inl e ↦ subst (AtMost A w) (require_parts i j i j w u e).2 (law.reflexive w fit)
          | inr l ↦ law.transitive w v u fit (fits v h.laid) (fits u l.1) (⊎_elim (λ m. m) (λ m. absurd (both_ways (A.at_most v w) t m)) (law.total w v fit (fits v h.laid))) (h.least u l.1)
        ];
      }

  fit_lesser : (o : Option (List ℤ)) (w : List ℤ) → ((a : List ℤ) → o ≡ Some a → Amount A a × (A.size a ≤ most_size)) → Amount A w × (A.size w ≤ most_size) → Amount A (lesser A o w) × (A.size (lesser A o w) ≤ most_size)
  fit_lesser None w old new = new
  fit_lesser (Some v) w old new = cond_both (A.at_most v w) v w (λ x. Amount A x × (A.size x ≤ most_size)) (λ t. old v refl) (λ t. new)

  some_same : (x y : List ℤ) → ◌≡◌ {A = Option (List ℤ)} (Some x) (Some y) → x ≡ y
  some_same x y e = cc

  stands_required : (i j : ℕ) (w : List ℤ) (past : List Deed) (s : State) → Amount A w → A.size w ≤ most_size → i < s.events → j < s.events → i ≢ j → Stands A past s → Stands A (require i j w ∷ past) (rebound s i j (Some (lesser A (s.bounds i j) w)))
  stands_required i j w past s fit small p q ne st = record {
    sound = sound_with A s i j _ _ _ st.sound p q ne
        (λ a e. subst (λ (x : List ℤ). Amount A x × (A.size x ≤ most_size)) (some_same _ a e) (fit_lesser (s.bounds i j) w (λ v f. (st.sound.amounts i j v f, st.sound.sized i j v f)) (fit, small)));
    few = st.few;
    count = st.count;
    mode = refl;
    amounts = λ x y v l. elim l [ inl e ↦ subst (Amount A) (require_parts i j x y w v e).2 fit | inr l ↦ st.amounts x y v l.1 ];
    holds = holds_with (require i j w) past s.bounds i j (Some (lesser A (s.bounds i j) w)) st.holds (force_lesser past i j w fit (st.amounts i j) (s.bounds i j) (st.holds i j))
        (λ x y off v. (λ l. inr (λ z. z, l), λ l. elim l [ inl e ↦ let c = require_parts i j x y w v e in absurd (off (c.0, c.1)) | inr l ↦ l.1 ]));
    calm = λ e. never (cc);
  }

  stands_withdrawn : (i j : ℕ) (past : List Deed) (s : State) → i < s.events → j < s.events → i ≢ j → Stands A past s → Stands A (withdraw i j ∷ past) (rebound s i j None)
  stands_withdrawn i j past s p q ne st = record {
    sound = sound_with A s i j _ _ _ st.sound p q ne (λ a e. never (cc));
    few = st.few;
    count = st.count;
    mode = refl;
    amounts = λ x y v l. elim l [ inl e ↦ never (cc) | inr l ↦ st.amounts x y v l.1 ];
    holds = holds_with (withdraw i j) past s.bounds i j None st.holds (λ w l. elim l [ inl e ↦ never (cc) | inr l ↦ l.0 (refl, refl) ])
        (λ x y off v. (λ l. inr (λ z. off (sym z.0, sym z.1), l), λ l. elim l [ inl e ↦ never (cc) | inr l ↦ l.1 ]));
    calm = λ e. never (cc);
  }

  pub begins : (cells n : ℕ) (past : List Deed) (s : State) → Stands A past s → Good (Stands A) past (begin n) (needs A cells past (begin n)) (begun cells n s)
  begins cells n past s st = begins_by A (Stands A) cells n past s st (stands_fresh n past)

  pub requires : (cells i j : ℕ) (w : List ℤ) → Amount A w → (past : List Deed) (s : State) → Stands A past s → Good (Stands A) past (require i j w) (needs A cells past (require i j w)) (required A i j w s)
  requires cells i j w fit past s st = requires_by A (Stands A) cells i j w past s st st.count (λ small p q ne. stands_required i j w past s fit small p q ne st)

  some_held : (past : List Deed) (i j : ℕ) (o : Option (List ℤ)) → Holds A past i j o → is_some o ≡ true → (w : List ℤ) × InForce A past i j w
  some_held past i j None h e = never (cc)
  some_held past i j (Some w) h e = (w, h)

  none_held : (past : List Deed) (i j : ℕ) (o : Option (List ℤ)) → Holds A past i j o → is_some o ≡ false → ¬ ((w : List ℤ) × InForce A past i j w)
  none_held past i j None h e f = h f.0 f.1.laid
  none_held past i j (Some w) h e f = never (cc)

  pub withdraws : (cells i j : ℕ) (past : List Deed) (s : State) → Stands A past s → Good (Stands A) past (withdraw i j) (needs A cells past (withdraw i j)) (withdrawn i j s)
  unfolding withdrawn
  withdraws cells i j past s st =
      let done = state.accepted (rebound s i j None) in
      paired (Stands A) i j past (withdraw i j) s (need 12 ((w : List ℤ) × InForce A past i j w) ∷ []) (state.need (is_some (s.bounds i j)) 12 s done) st st.count (λ p q ne.
      asked (Stands A) past (withdraw i j) s st (is_some (s.bounds i j)) 12 ((w : List ℤ) × InForce A past i j w) [] done (lit< tt)
      (some_held past i j (s.bounds i j) (st.holds i j))
      (none_held past i j (s.bounds i j) (st.holds i j))
      (λ some. (tt, stands_withdrawn i j past s p q ne st, tt)))

  pub arranges : (cells : ℕ) (list : List ℕ) (past : List Deed) (s : State) → Stands A past s → Good (Stands A) past (arrange list) (needs A cells past (arrange list)) (arranged list s)
  arranges cells list past s st = arranges_by A (Stands A) cells list past s st st.few st.count (stands_idle (arrange list) (idle_arrange list) (λ p. (refl, refl)) past s list st)

  pub ranks : (cells : ℕ) (past : List Deed) (s : State) → Stands A past s → Good (Stands A) past rank (needs A cells past rank) (ranked s)
  unfolding ranked
  ranks cells past s st = (tt, stands_idle rank idle_rank (λ p. (refl, refl)) past s _ st, tt)

-- what is known of a state without the amounts of its bounds
abbrev pub Tallied : List Deed → State → Type 0
Tallied past s = (s.events ≤ most_events) × (s.events ≡ events past)

pub begins_tallied : (A : Arithmetic) (cells n : ℕ) (past : List Deed) (s : State) → Tallied past s → Good Tallied past (begin n) (needs A cells past (begin n)) (begun cells n s)
begins_tallied A cells n past s st = begins_by A Tallied cells n past s st (λ h. (h, refl))

pub requires_tallied : (A : Arithmetic) (cells i j : ℕ) (w : List ℤ) (past : List Deed) (s : State) → Tallied past s → Good Tallied past (require i j w) (needs A cells past (require i j w)) (required A i j w s)
requires_tallied A cells i j w past s st = requires_by A Tallied cells i j w past s st st.1 (λ small p q ne. st)

pub arranges_tallied : (A : Arithmetic) (cells : ℕ) (list : List ℕ) (past : List Deed) (s : State) → Tallied past s → Good Tallied past (arrange list) (needs A cells past (arrange list)) (arranged list s)
arranges_tallied A cells list past s st = arranges_by A Tallied cells list past s st st.0 st.1 st
