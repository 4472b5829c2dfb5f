-- What a request makes of a net's state.
use Rattle.std.proofs.Common.{◌≡◌, ℕ, ◌≤◌, Bool, true, false, cond, not, ◌&&◌, eqb, ltb, leb, List, ℤ, Some, None, Ok, Err, Option, Result, sym, refl, ap, ◌∙◌, subst, inl, inr, arith}
use Rattle.std.proofs.lemmas.Bool.{cases_Bool, eqb-false, ltb-true, and_parts}
use Rattle.kinds.specs.Arithmetic.{Arithmetic}
use Rattle.order.specs.declared.event_order.Misordered.{Misordered}
use Rattle.order.specs.Orderings as orderings
use Rattle.net.specs.Refusals.{Reason}
use Rattle.net.specs.State.{State, Outcome, need, accepted, fresh, rebound, reordered, lesser, begun, required, arranged, ordered_by, both_events}
use Rattle.net.specs.Limits.{most_events, cells_needed, most_size}
use Rattle.sheet.specs.Records.{Coding, Said, events, bound, ordering, begin, said, placed, asked}
use Rattle.sheet.specs.Sheets.{entry, after_call, located, entered}
use Rattle.sheet.specs.Codes.{Codes, Coded, Full, EntryCodes}

-- no answer is both
never : {T E X : Type 0} {x : T} {e : E} → ◌≡◌ {A = Result T E} (Err e) (Ok x) → X
never h = let z : ◌≡◌ {A = ℕ} 0 1 = cc in absurd (omega arith)

same : {T E : Type 0} {x y : T} → ◌≡◌ {A = Result T E} (Ok x) (Ok y) → x ≡ y
same h = cc

located_ok : (at : ℕ) (r : Result State Reason) (t : State) → located at r ≡ Ok t → r ≡ Ok t
located_ok at (Ok s) t h = ap Ok (same h)
located_ok at (Err e) t h = never h

need_ok : (b : Bool) (number : ℕ) (s t : State) (further : Outcome) → after_call (need b number s further) ≡ Ok t → after_call further ≡ Ok t
need_ok true number s t further h = h
need_ok false number s t further h = never h

pub begun_ok : (cells n : ℕ) (s t : State) → after_call (begun cells n s) ≡ Ok t → t ≡ fresh n
unfolding begun
begun_ok cells n s t h =
    let two = need (leb (cells_needed n) cells) 2 s (accepted (fresh n)) in
    sym (same (need_ok (leb (cells_needed n) cells) 2 s t (accepted (fresh n)) (need_ok (ltb 0 n && leb n most_events) 1 s t two h)))

pub begun_some : (cells n : ℕ) (s t : State) → after_call (begun cells n s) ≡ Ok t → 1 ≤ n
unfolding begun
begun_some cells n s t h =
    elim (cases_Bool (ltb 0 n && leb n most_events)) [
      | inl b ↦ let l = ltb-true 0 n (and_parts (ltb 0 n) (leb n most_events) b).0 in omega arith
      | inr b ↦ never (ap (λ x. after_call (need x 1 s (need (leb (cells_needed n) cells) 2 s (accepted (fresh n))))) (sym b) ∙ h)
    ]

pub required_ok : (A : Arithmetic) (i j : ℕ) (w : List ℤ) (s t : State) → after_call (required A i j w s) ≡ Ok t → t ≡ rebound s i j (Some (lesser A (s.bounds i j) w))
unfolding required
required_ok A i j w s t h =
    let done = accepted (rebound s i j (Some (lesser A (s.bounds i j) w))) in
    let size = need (leb (A.size w) most_size) 11 s done in
    let apart = need (not (eqb i j)) 4 s size in
    sym (same (need_ok (leb (A.size w) most_size) 11 s t done (need_ok (not (eqb i j)) 4 s t size (need_ok (both_events s i j) 3 s t apart h))))

ordered_ok : (s t : State) (r : Result (List ℕ) Misordered) → after_call (ordered_by s r) ≡ Ok t → (es : List ℕ) × (t ≡ reordered s es)
ordered_ok s t (Ok es) h = (es, sym (same h))
ordered_ok s t (Err why) h = never h

pub arranged_ok : (list : List ℕ) (s t : State) → after_call (arranged list s) ≡ Ok t → (es : List ℕ) × (t ≡ reordered s es)
unfolding arranged
arranged_ok list s t h = ordered_ok s t (orderings.arranged s.events list) h

none_some : {T X : Type 0} {w : T} → ◌≡◌ {A = Option T} None (Some w) → X
none_some h = let z : ◌≡◌ {A = ℕ} 0 1 = cc in absurd (omega arith)

coded_lesser : (K : Coding) (A : Arithmetic) (b : Option (List ℤ)) (w : List ℤ) → ((v : List ℤ) → b ≡ Some v → Codes K v) → Codes K w → Codes K (lesser A b w)
coded_lesser K A None w h c = c
coded_lesser K A (Some v) w h c = pick_codes (A.at_most v w)
  where
    pick_codes : (t : Bool) → Codes K (cond t v w)
    pick_codes true = h v refl
    pick_codes false = c

coded_rebound : (K : Coding) (s : State) (i j : ℕ) (w : List ℤ) → Coded K s → Codes K w → Coded K (rebound s i j (Some w))
coded_rebound K s i j w h c x y v e = at_pair (eqb x i && eqb y j) e
  where
    at_pair : (t : Bool) → cond t (Some w) (s.bounds x y) ≡ Some v → Codes K v
    at_pair true p = let q : w ≡ v = cc in subst (Codes K) q c
    at_pair false p = h x y v p

module _ (K : Coding) (A : Arithmetic) (cells at : ℕ) (s t : State) where
  coded_placed : (first : Bool) (m : Option Said) → EntryCodes K (entry at (placed K.number first m)) → entered A cells (entry at (placed K.number first m)) s ≡ Ok t → (first ≡ false → Full K s) → Full K t
  coded_placed first None c e h = never e
  coded_placed true (Some (events n kind)) c e h = by_kind (eqb kind K.number) e
    where
      by_kind : (b : Bool) → entered A cells (entry at (cond b (Ok (begin n)) (Err 25))) s ≡ Ok t → Full K t
      by_kind true p = let q = located_ok at _ t p in subst (Full K) (sym (begun_ok cells n s t q)) (λ i j w e. none_some e, begun_some cells n s t q)
      by_kind false p = never p
  coded_placed false (Some (events n kind)) c e h = never e
  coded_placed true (Some (bound i j w)) c e h = never e
  coded_placed false (Some (bound i j w)) c e h =
      subst (Full K) (sym (required_ok A i j w s t (located_ok at _ t e))) (coded_rebound K s i j _ (h refl).0 (coded_lesser K A (s.bounds i j) w ((h refl).0 i j) c.0), (h refl).1)
  coded_placed true (Some (ordering list)) c e h = never e
  coded_placed false (Some (ordering list)) c e h =
      let p = arranged_ok list s t (located_ok at _ t e) in subst (Full K) (sym p.1) ((h refl).0, (h refl).1)

  -- after a record there are events, and every bound in force is named by its bytes: the first record leaves none
  pub coded_entered : (body : List ℕ) → EntryCodes K (entry at (asked K at body)) → entered A cells (entry at (asked K at body)) s ≡ Ok t → ((at ≡ 1 → ⊥) → Full K s) → Full K t
  coded_entered body c e h = coded_placed (eqb at 1) (said K body) c e (λ f. h (eqb-false at 1 f))
