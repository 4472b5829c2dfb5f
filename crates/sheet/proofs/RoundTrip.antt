-- What was written reads back to the same state.
use Rattle.std.proofs.Common.{◌≡◌, ℕ, zero, suc, ◌+◌, ◌-◌, ◌/◌, ◌%◌, ◌<◌, ◌≤◌, true, cond, not, ◌&&◌, ◌||◌, eqb, ltb, leb, ◌⊎◌, List, [], ◌∷◌, ◌++◌, length, get_or, take, drop, ℤ, Some, None, Ok, Err, Option, sym, refl, ap, ◌∙◌, subst, inl, inr, add-one, arith}
use mathlib.Core.Path.{fun_ext}
use Rattle.std.proofs.lemmas.Bool.{cases_lt, cases_eq, cond-true, cond-false, lt-ltb, le-ltb, le-leb, eq-eqb, ne_eqb, and_from, and_left, and_right, or_left, or_right, or_from, not_from_false}
use Rattle.std.proofs.lemmas.List.{append-nil, append_assoc, length-append, drop_at, drop-drop, take_at, get_or-append_right}
use Rattle.kinds.specs.Arithmetic.{Arithmetic}
use Rattle.order.specs.Orderings as orderings
use Rattle.net.specs.declared.mode.Mode.TheVariants.{Open}
use Rattle.net.specs.Limits.{most_events, cells_needed, most_size}
use Rattle.net.specs.State.{State, need, accepted, fresh, rebound, reordered, with_bound, lesser, begun, required, arranged, ordered_by, Sound}
use Rattle.sheet.specs.Records.{Coding, length_at, after_record, bound, ordering, begin, require, arrange, said, placed, asked}
use Rattle.sheet.specs.Sheets.{found, next_at, entry, entries_from, entries_of, after_call, located, entered, run, concluded}
use Rattle.sheet.specs.Codes.{Codes, Coded}
use Rattle.sheet.specs.Written.{joined, length_bytes, events_record, bound_record, ordering_record, pair_record, row_records, all_records, written, restored}
use Rattle.sheet.specs.RoundTrips.{ReadsBack}
use Rattle.sheet.proofs.Nexts.{at_found, at_end}
use Rattle.sheet.proofs.Places.{joined_more}
use Rattle.sheet.proofs.Runs.{goes, ends, versioned}

-- a record stands where its length is written
record_there : (W pre body rest : List ℕ) (m : ℕ) → W ≡ (pre ++ (length_bytes m ++ body)) ++ rest → length body ≡ m → next_at W (length pre) ≡ found (length pre) body (length pre + 2 + m)
record_there W pre body rest m e l =
    let at = length pre in
    let w : W ≡ pre ++ ((m / 256) ∷ ((m % 256) ∷ (body ++ rest))) = e ∙ append_assoc pre (length_bytes m ++ body) rest in
    let d0 : drop at W ≡ (m / 256) ∷ ((m % 256) ∷ (body ++ rest)) = ap (drop at) w ∙ drop_at pre _ at refl in
    let d2 : drop (at + 2) W ≡ body ++ rest = sym (drop-drop 2 at W) ∙ ap (drop 2) d0 in
    let n : length W ≡ at + 2 + m + length rest = ap length w ∙ simp length-append (omega arith) in
    let z0 : at - at ≡ 0 = omega arith in
    let z1 : at + 1 - at ≡ 1 = omega arith in
    let T = (m / 256) ∷ ((m % 256) ∷ (body ++ rest)) in
    let a : m / 256 ≡ get_or W at 0 = sym (ap (λ xs. get_or xs at 0) w ∙ get_or-append_right pre T at at 0 refl (omega arith) ∙ ap (λ k. get_or T k 0) z0) in
    let b : m % 256 ≡ get_or W (at + 1) 0 = sym (ap (λ xs. get_or xs (at + 1) 0) w ∙ get_or-append_right pre T at (at + 1) 0 refl (omega arith) ∙ ap (λ k. get_or T k 0) z1) in
    let q : length_at W at ≡ m = omega arith in
    let f = at_found W at (omega arith) (and_from (leb (at + 2) (length W)) (leb (after_record W at) (length W)) (le-leb _ _ (omega arith)) (le-leb _ _ (omega arith))) in
    f ∙ ap (λ x. found at (take x (drop (at + 2) W)) (at + 2 + x)) q ∙ ap (λ xs. found at (take m xs) (at + 2 + m)) d2 ∙ ap (λ xs. found at xs (at + 2 + m)) (take_at body rest m l)

-- the bounds from the events below i, and from i to those below j
abbrev part_of : (ℕ → ℕ → Option (List ℤ)) → (i j : ℕ) → ℕ → ℕ → Option (List ℤ)
part_of F i j x y = cond (ltb x i || (eqb x i && ltb y j)) (F x y) None

module _ (F : ℕ → ℕ → Option (List ℤ)) where
  inside : (i j x y : ℕ) → (x < i) ⊎ ((x ≡ i) × (y < j)) → part_of F i j x y ≡ F x y
  inside i j x y (inl l) = cond-true (ltb x i || (eqb x i && ltb y j)) (F x y) None (or_left _ _ (lt-ltb x i l))
  inside i j x y (inr p) = cond-true (ltb x i || (eqb x i && ltb y j)) (F x y) None (or_right (ltb x i) _ (and_from _ _ (eq-eqb x i p.0) (lt-ltb y j p.1)))

  outside : (i j x y : ℕ) → i ≤ x → ((x ≡ i) → j ≤ y) → part_of F i j x y ≡ None
  outside i j x y l h =
      cond-false (ltb x i || (eqb x i && ltb y j)) (F x y) None (or_from (ltb x i) (eqb x i && ltb y j) (le-ltb x i l)
      (elim (cases_eq x i) [
        | inl e ↦ and_right (eqb x i) (ltb y j) (le-ltb y j (h e))
        | inr e ↦ and_left (eqb x i) (ltb y j) (ne_eqb x i e)
      ]))

  -- one pair more that has no bound
  none_more : (i j : ℕ) → F i j ≡ None → part_of F i j ≡ part_of F i (j + 1)
  none_more i j e = fun_ext (λ x. fun_ext (λ y. at x y))
    where
      at : (x y : ℕ) → part_of F i j x y ≡ part_of F i (j + 1) x y
      at x y = elim (cases_lt x i) [
        | inl l ↦ inside i j x y (inl l) ∙ sym (inside i (j + 1) x y (inl l))
        | inr l ↦ elim (cases_eq x i) [
          | inr n ↦ outside i j x y l (λ p. absurd (n p)) ∙ sym (outside i (j + 1) x y l (λ p. absurd (n p)))
          | inl p ↦ elim (cases_lt y j) [
            | inl k ↦ inside i j x y (inr (p, k)) ∙ sym (inside i (j + 1) x y (inr (p, (let t : y < j + 1 = omega arith in t))))
            | inr k ↦ elim (cases_eq y j) [
              | inr m ↦ outside i j x y l (λ q. k) ∙ sym (outside i (j + 1) x y l (λ q. omega arith))
              | inl q ↦ outside i j x y l (λ r. k) ∙ sym e ∙ ap (λ a. F a j) (sym p) ∙ ap (F x) (sym q) ∙ sym (inside i (j + 1) x y (inr (p, (let t : y < j + 1 = omega arith in t))))
            ]
          ]
        ]
      ]

  -- one pair more that has one
  some_more : (i j : ℕ) (w : List ℤ) → F i j ≡ Some w → with_bound (part_of F i j) i j (Some w) ≡ part_of F i (j + 1)
  some_more i j w e = fun_ext (λ x. fun_ext (λ y. at x y))
    where
      here : (x y : ℕ) → (x ≡ i) → (y ≡ j) → with_bound (part_of F i j) i j (Some w) x y ≡ Some w
      here x y p q = cond-true (eqb x i && eqb y j) (Some w) (part_of F i j x y) (and_from _ _ (eq-eqb x i p) (eq-eqb y j q))

      off : (x y : ℕ) → ((x ≡ i) → (y ≡ j) → ⊥) → with_bound (part_of F i j) i j (Some w) x y ≡ part_of F i j x y
      off x y n = cond-false (eqb x i && eqb y j) (Some w) (part_of F i j x y) (elim (cases_eq x i) [
        | inl p ↦ and_right (eqb x i) (eqb y j) (ne_eqb y j (n p))
        | inr p ↦ and_left (eqb x i) (eqb y j) (ne_eqb x i p)
      ])

      at : (x y : ℕ) → with_bound (part_of F i j) i j (Some w) x y ≡ part_of F i (j + 1) x y
      at x y = elim (cases_lt x i) [
        | inl l ↦ off x y (λ p. omega arith) ∙ inside i j x y (inl l) ∙ sym (inside i (j + 1) x y (inl l))
        | inr l ↦ elim (cases_eq x i) [
          | inr n ↦ off x y (λ p. absurd (n p)) ∙ outside i j x y l (λ p. absurd (n p)) ∙ sym (outside i (j + 1) x y l (λ p. absurd (n p)))
          | inl p ↦ elim (cases_lt y j) [
            | inl k ↦ off x y (λ a b. omega arith) ∙ inside i j x y (inr (p, k)) ∙ sym (inside i (j + 1) x y (inr (p, (let t : y < j + 1 = omega arith in t))))
            | inr k ↦ elim (cases_eq y j) [
              | inr m ↦ off x y (λ a b. m b) ∙ outside i j x y l (λ q. k) ∙ sym (outside i (j + 1) x y l (λ q. omega arith))
              | inl q ↦ here x y p q ∙ sym e ∙ ap (λ a. F a j) (sym p) ∙ ap (F x) (sym q) ∙ sym (inside i (j + 1) x y (inr (p, (let t : y < j + 1 = omega arith in t))))
            ]
          ]
        ]
      ]

  -- none at all, a row at its end, and all
  none_yet : (λ (x y : ℕ). None) ≡ part_of F 0 0
  none_yet = fun_ext (λ x. fun_ext (λ y. sym (outside 0 0 x y (omega arith) (λ _. omega arith))))

  row_whole : (n i : ℕ) → ((y : ℕ) → n ≤ y → F i y ≡ None) → part_of F i n ≡ part_of F (i + 1) 0
  row_whole n i h = fun_ext (λ x. fun_ext (λ y. at x y))
    where
      at : (x y : ℕ) → part_of F i n x y ≡ part_of F (i + 1) 0 x y
      at x y = elim (cases_lt x i) [
        | inl l ↦ inside i n x y (inl l) ∙ sym (inside (i + 1) 0 x y (inl (let t : x < i + 1 = omega arith in t)))
        | inr l ↦ elim (cases_eq x i) [
          | inr m ↦ outside i n x y l (λ p. absurd (m p)) ∙ sym (outside (i + 1) 0 x y (omega arith) (λ p. omega arith))
          | inl p ↦ elim (cases_lt y n) [
            | inl k ↦ inside i n x y (inr (p, k)) ∙ sym (inside (i + 1) 0 x y (inl (let t : x < i + 1 = omega arith in t)))
            | inr k ↦ outside i n x y l (λ q. k) ∙ sym (h y k) ∙ ap (λ a. F a y) (sym p) ∙ sym (inside (i + 1) 0 x y (inl (let t : x < i + 1 = omega arith in t)))
          ]
        ]
      ]

  all_whole : (n : ℕ) → ((x y : ℕ) → n ≤ x → F x y ≡ None) → part_of F n 0 ≡ F
  all_whole n h = fun_ext (λ x. fun_ext (λ y. elim (cases_lt x n) [
    | inl l ↦ inside n 0 x y (inl l)
    | inr l ↦ outside n 0 x y l (λ _. omega arith) ∙ sym (h x y l)
  ]))

-- what a record that was written asks
asked_events : (K : Coding) (n : ℕ) → asked K 1 (1 ∷ (n ∷ (K.number ∷ []))) ≡ Ok (begin n)
unfolding said
asked_events K n = ap (λ b. cond b (Ok (begin n)) (Err 25)) (eq-eqb K.number K.number refl)

asked_bound : (K : Coding) (at i j : ℕ) (w : List ℤ) → (at ≡ 1 → ⊥) → Codes K w → asked K at (2 ∷ (i ∷ (j ∷ K.encoded w))) ≡ Ok (require i j w)
unfolding said
asked_bound K at i j w n c =
    let l = c.0 in
    let t : eqb (length (i ∷ (j ∷ K.encoded w))) (K.width + 2) ≡ true = eq-eqb _ _ (omega arith) in
    ap (λ b. placed K.number (eqb at 1) (cond b (Some (bound i j (K.decoded (K.encoded w)))) None)) t
    ∙ ap (λ v. placed K.number (eqb at 1) (Some (bound i j v))) c.1
    ∙ ap (λ b. placed K.number b (Some (bound i j w))) (ne_eqb at 1 n)

asked_ordering : (K : Coding) (at : ℕ) (list : List ℕ) → (at ≡ 1 → ⊥) → asked K at (3 ∷ list) ≡ Ok (arrange list)
unfolding said
asked_ordering K at list n = ap (λ b. placed K.number b (Some (ordering list))) (ne_eqb at 1 n)

begun_accepts : (cells n : ℕ) (t : State) → 1 ≤ n → n ≤ most_events → cells_needed n ≤ cells → after_call (begun cells n t) ≡ Ok (fresh n)
unfolding begun
begun_accepts cells n t a b c =
    ap (λ x. after_call (need x 1 t (need (leb (cells_needed n) cells) 2 t (accepted (fresh n))))) (and_from (ltb 0 n) (leb n most_events) (lt-ltb 0 n (omega arith)) (le-leb n most_events b))
    ∙ ap (λ x. after_call (need x 2 t (accepted (fresh n)))) (le-leb (cells_needed n) cells c)

required_accepts : (A : Arithmetic) (i j : ℕ) (w : List ℤ) (t : State) → i < t.events → j < t.events → (i ≡ j → ⊥) → A.size w ≤ most_size → after_call (required A i j w t) ≡ Ok (rebound t i j (Some (lesser A (t.bounds i j) w)))
unfolding required
required_accepts A i j w t a b c d =
    let done = accepted (rebound t i j (Some (lesser A (t.bounds i j) w))) in
    ap (λ x. after_call (need x 3 t (need (not (eqb i j)) 4 t (need (leb (A.size w) most_size) 11 t done)))) (and_from (ltb i t.events) (ltb j t.events) (lt-ltb i t.events a) (lt-ltb j t.events b))
    ∙ ap (λ x. after_call (need x 4 t (need (leb (A.size w) most_size) 11 t done))) (not_from_false (eqb i j) (ne_eqb i j c))
    ∙ ap (λ x. after_call (need x 11 t done)) (le-leb (A.size w) most_size d)

arranged_accepts : (list : List ℕ) (t : State) → orderings.arranged t.events list ≡ Ok list → after_call (arranged list t) ≡ Ok (reordered t list)
unfolding arranged
arranged_accepts list t e = ap (λ r. after_call (ordered_by t r)) e

-- what a state has to keep to be read back
pub record Restorable (K : Coding) (s : State) : Type 0 where
  pub coded : Coded K s
  pub sound : Sound K.arithmetic s
  pub some : 1 ≤ s.events
  pub few : s.events ≤ most_events
  pub ordered : orderings.arranged s.events s.order ≡ Ok s.order

none_some : {X : Type 0} {w : List ℤ} → ◌≡◌ {A = Option (List ℤ)} None (Some w) → X
none_some h = let z : ◌≡◌ {A = ℕ} 0 1 = cc in absurd (omega arith)

unbounded : (b : Option (List ℤ)) → ((w : List ℤ) → b ≡ Some w → ⊥) → b ≡ None
unbounded None h = refl
unbounded (Some w) h = absurd (h w refl)

-- the state when the pairs before (i, j) are read
abbrev so_far : State → (i j : ℕ) → State
so_far s i j = record { events = s.events; bounds = part_of s.bounds i j; order = orderings.upto s.events; mode = Open }

-- the rest of the texts after the first m
rest_of : (f : ℕ → List ℕ) (m n : ℕ) → m ≤ n → (r : List ℕ) × (joined f n ≡ joined f m ++ r)
unfolding joined
rest_of f m zero l = let e : m ≡ 0 = omega arith in ([], rw e refl)
rest_of f m (suc n) l =
    elim (cases_lt m (suc n)) [
      | inl k ↦ let p = rest_of f m n (omega arith) in (p.0 ++ f n, ap (λ xs. xs ++ f n) p.1 ∙ append_assoc (joined f m) p.0 (f n))
      | inr k ↦ let e : suc n ≡ m = omega arith in ([], ap (joined f) e ∙ sym (append-nil (joined f m)))
    ]

module _ (K : Coding) (s : State) (cells : ℕ) (h : Restorable K s) (W : List ℕ) where
  pair_step : (pre rest : List ℕ) (i j : ℕ) (b : Option (List ℤ)) → s.bounds i j ≡ b → W ≡ (pre ++ pair_record K i j b) ++ rest → 2 ≤ length pre → i < s.events → j < s.events → run K.arithmetic cells (entries_from K W (length pre)) (so_far s i j) ≡ run K.arithmetic cells (entries_from K W (length (pre ++ pair_record K i j b))) (so_far s i (j + 1))
  pair_step pre rest i j None e w l p q =
      ap (λ G. run K.arithmetic cells (entries_from K W (length pre)) (record { events = s.events; bounds = G; order = orderings.upto s.events; mode = Open })) (none_more s.bounds i j e)
      ∙ ap (λ xs. run K.arithmetic cells (entries_from K W (length xs)) (so_far s i (j + 1))) (sym (append-nil pre))
  pair_step pre rest i j (Some v) e w l p q =
      let at = length pre in
      let c = h.coded i j v e in
      let m = c.0 in
      let body = 2 ∷ (i ∷ (j ∷ K.encoded v)) in
      let n : length W ≡ length pre + (2 + length body) + length rest = ap length w ∙ simp length-append (omega arith) in
      let f = record_there W pre body rest (K.width + 3) w (omega arith) in
      let apart : i ≡ j → ⊥ = λ x. none_some (sym (h.sound.apart i) ∙ ap (s.bounds i) x ∙ e) in
      let u : part_of s.bounds i j i j ≡ None = outside s.bounds i j i j (omega arith) (λ _. omega arith) in
      let r = required_accepts K.arithmetic i j v (so_far s i j) p q apart (h.sound.sized i j v e) in
      let g = asked_bound K at i j v (λ x. omega arith) c in
      let t : rebound (so_far s i j) i j (Some (lesser K.arithmetic (part_of s.bounds i j i j) v)) ≡ so_far s i (j + 1) = ap (λ o. rebound (so_far s i j) i j (Some (lesser K.arithmetic o v))) u ∙ ap (λ G. record { events = s.events; bounds = G; order = orderings.upto s.events; mode = Open }) (some_more s.bounds i j v e) in
      let d : entered K.arithmetic cells (entry at (asked K at body)) (so_far s i j) ≡ Ok (so_far s i (j + 1)) = ap (λ x. entered K.arithmetic cells (entry at x) (so_far s i j)) g ∙ ap (located at) r ∙ ap Ok t in
      let k : length pre + 2 + (K.width + 3) ≡ length (pre ++ bound_record K i j v) = sym (length-append pre (bound_record K i j v) ∙ omega arith) in
      goes K W (omega arith) K.arithmetic cells at (so_far s i j) (omega arith) at (length pre + 2 + (K.width + 3)) body (so_far s i (j + 1)) f d
      ∙ ap (λ x. run K.arithmetic cells (entries_from K W x) (so_far s i (j + 1))) k

  row_steps : (pre rest : List ℕ) (i : ℕ) → W ≡ (pre ++ row_records K s.bounds i s.events) ++ rest → 2 ≤ length pre → i < s.events → (j : ℕ) → j ≤ s.events → run K.arithmetic cells (entries_from K W (length pre)) (so_far s i 0) ≡ run K.arithmetic cells (entries_from K W (length (pre ++ row_records K s.bounds i j))) (so_far s i j)
  unfolding joined
  row_steps pre rest i w l p zero q = ap (λ xs. run K.arithmetic cells (entries_from K W (length xs)) (so_far s i 0)) (sym (append-nil pre))
  row_steps pre rest i w l p (suc j) q =
      let F = s.bounds in
      let P = pair_record K i j (F i j) in
      let R = row_records K F i j in
      let one : row_records K F i (suc j) ≡ R ++ P = ap (row_records K F i) (sym (add-one j)) ∙ joined_more (λ y. pair_record K i y (F i y)) j in
      let sp = rest_of (λ y. pair_record K i y (F i y)) (suc j) s.events q in
      let v : W ≡ ((pre ++ R) ++ P) ++ (sp.0 ++ rest) =
      w ∙ ap (λ xs. (pre ++ xs) ++ rest) (sp.1 ∙ ap (λ xs. xs ++ sp.0) one) ∙ simp append_assoc in
      let k : 2 ≤ length (pre ++ R) = simp length-append (omega arith) in
      let b = row_steps pre rest i w l p j (omega arith) in
      let c = pair_step (pre ++ R) (sp.0 ++ rest) i j (F i j) refl v k p (omega arith) in
      let e : (pre ++ R) ++ P ≡ pre ++ row_records K F i (suc j) = append_assoc pre R P ∙ ap (λ xs. pre ++ xs) (sym one) in
      b ∙ c ∙ ap (λ xs. run K.arithmetic cells (entries_from K W (length xs)) (so_far s i (j + 1))) e ∙ ap (λ m. run K.arithmetic cells (entries_from K W (length (pre ++ row_records K F i (suc j)))) (so_far s i m)) (add-one j)

  beyond : (x y : ℕ) → (s.events ≤ x) ⊎ (s.events ≤ y) → s.bounds x y ≡ None
  beyond x y (inl l) = unbounded (s.bounds x y) (λ w e. let k = (h.sound.within x y w e).0 in omega arith)
  beyond x y (inr l) = unbounded (s.bounds x y) (λ w e. let k = (h.sound.within x y w e).1 in omega arith)

  all_steps : (pre rest : List ℕ) → W ≡ (pre ++ all_records K s.bounds s.events s.events) ++ rest → 2 ≤ length pre → (i : ℕ) → i ≤ s.events → run K.arithmetic cells (entries_from K W (length pre)) (so_far s 0 0) ≡ run K.arithmetic cells (entries_from K W (length (pre ++ all_records K s.bounds s.events i))) (so_far s i 0)
  unfolding joined
  all_steps pre rest w l zero q = ap (λ xs. run K.arithmetic cells (entries_from K W (length xs)) (so_far s 0 0)) (sym (append-nil pre))
  all_steps pre rest w l (suc i) q =
      let F = s.bounds in
      let n = s.events in
      let R = row_records K F i n in
      let B = all_records K F n i in
      let one : all_records K F n (suc i) ≡ B ++ R = ap (all_records K F n) (sym (add-one i)) ∙ joined_more (λ x. row_records K F x n) i in
      let sp = rest_of (λ x. row_records K F x n) (suc i) n q in
      let v : W ≡ ((pre ++ B) ++ R) ++ (sp.0 ++ rest) =
      w ∙ ap (λ xs. (pre ++ xs) ++ rest) (sp.1 ∙ ap (λ xs. xs ++ sp.0) one) ∙ simp append_assoc in
      let k : 2 ≤ length (pre ++ B) = simp length-append (omega arith) in
      let b = all_steps pre rest w l i (omega arith) in
      let c = row_steps (pre ++ B) (sp.0 ++ rest) i v k (omega arith) n (omega arith) in
      let e : (pre ++ B) ++ R ≡ pre ++ all_records K F n (suc i) = append_assoc pre B R ∙ ap (λ xs. pre ++ xs) (sym one) in
      b ∙ c ∙ ap (λ xs. run K.arithmetic cells (entries_from K W (length xs)) (so_far s i n)) e
      ∙ ap (λ G. run K.arithmetic cells (entries_from K W (length (pre ++ all_records K F n (suc i)))) (record { events = n; bounds = G; order = orderings.upto n; mode = Open })) (row_whole F n i (λ y m. beyond i y (inr m)))
      ∙ ap (λ m. run K.arithmetic cells (entries_from K W (length (pre ++ all_records K F n (suc i)))) (so_far s m 0)) (add-one i)

-- a sheet that was written is accepted over any table that suffices, and gives the same events, bounds and ordering
pub reads_back : (K : Coding) (s : State) (cells : ℕ) → Restorable K s → cells_needed s.events ≤ cells → (t : State) → run K.arithmetic cells (entries_of K (written K s)) t ≡ Ok (restored s)
reads_back K s cells h fits t =
    let W = written K s in
    let F = s.bounds in
    let n = s.events in
    let E = 1 ∷ events_record K n in
    let R = all_records K F n n in
    let O = ordering_record s.order in
    let body = 1 ∷ (n ∷ (K.number ∷ [])) in
    let z = h.some in
    let lw : 1 ≤ length W = omega arith in
    -- begin
    let f0 = record_there W (1 ∷ []) body (R ++ O) 3 refl refl in
    let d0 : entered K.arithmetic cells (entry 1 (asked K 1 body)) t ≡ Ok (so_far s 0 0) =
    ap (λ x. entered K.arithmetic cells (entry 1 x) t) (asked_events K n) ∙ ap (located 1) (begun_accepts cells n t z h.few fits) ∙ ap (λ G. Ok (record { events = n; bounds = G; order = orderings.upto n; mode = Open })) (none_yet F) in
    let g0 = goes K W lw K.arithmetic cells 1 t (omega arith) 1 6 body (so_far s 0 0) f0 d0 in
    -- the bounds
    let g1 = all_steps K s cells h W E O (sym (append_assoc E R O)) (omega arith) n (omega arith) in
    -- the ordering
    let pre = E ++ R in
    let lp : length pre ≡ 6 + length R = length-append E R in
    let lo : length (3 ∷ s.order) ≡ length s.order + 1 = omega arith in
    let w2 : W ≡ (pre ++ O) ++ [] = sym (append-nil (pre ++ O) ∙ append_assoc E R O) in
    let f2 = record_there W pre (3 ∷ s.order) [] (length s.order + 1) w2 lo in
    let whole : reordered (so_far s n 0) s.order ≡ restored s = ap (λ G. record { events = n; bounds = G; order = s.order; mode = Open }) (all_whole F n (λ x y m. beyond K s cells h W x y (inl m))) in
    let d2 : entered K.arithmetic cells (entry (length pre) (asked K (length pre) (3 ∷ s.order))) (so_far s n 0) ≡ Ok (restored s) =
    ap (λ x. entered K.arithmetic cells (entry (length pre) x) (so_far s n 0)) (asked_ordering K (length pre) s.order (λ x. omega arith)) ∙ ap (located (length pre)) (arranged_accepts s.order (so_far s n 0) h.ordered) ∙ ap Ok whole in
    let g2 = goes K W lw K.arithmetic cells (length pre) (so_far s n 0) (omega arith) (length pre) (length pre + 2 + (length s.order + 1)) (3 ∷ s.order) (restored s) f2 d2 in
    -- the end
    let lW : length W ≡ length pre + 2 + (length s.order + 1) = ap length w2 ∙ simp length-append (omega arith) in
    let fin = ends K W lw K.arithmetic cells (length pre + 2 + (length s.order + 1)) (restored s) (omega arith) (at_end W (length pre + 2 + (length s.order + 1)) (omega arith) (λ x. omega arith)) in
    ap (λ es. run K.arithmetic cells es t) (versioned K W refl) ∙ g0 ∙ g1 ∙ g2 ∙ fin

pub restores : (K : Coding) (s : State) → Coded K s → 1 ≤ s.events → s.events ≤ most_events → orderings.arranged s.events s.order ≡ Ok s.order → ReadsBack K s (written K s)
restores K s c a b o h cells fits t = ap (concluded t) (reads_back K s cells (record { coded = c; sound = h; some = a; few = b; ordered = o }) fits t)

-- also from the front of a place that holds more
pub restores_front : (K : Coding) (s : State) (n : ℕ) (place rest : List ℕ) → place ≡ written K s ++ rest → length (written K s) ≡ n → ReadsBack K s (written K s) → ReadsBack K s (take n place)
restores_front K s n place rest e l h = subst (ReadsBack K s) (sym (ap (take n) e ∙ take_at (written K s) rest n l)) h
