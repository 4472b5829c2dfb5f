-- Pairs of members that are not neighbours, counted by visiting the members from the lowest up.
use Rattle.std.proofs.Common.{◌≡◌, ℕ, zero, suc, ◌+◌, ◌*◌, ◌<◌, ◌≤◌, Bool, true, false, not, ◌&&◌, ◌||◌, eqb, List, sym, refl, ap, ◌∙◌, ap₂, ⊎_elim, add-zero, arith}
use Rattle.std.proofs.lemmas.Bool.{cases_eq, cases_lt, cases_Bool, eq-eqb, eqb-true, both_ways, or_cases, or_right}
use Rattle.marks.specs.declared.set.Marks.{Marks}
use Rattle.marks.specs.Sets.{has, how_many, Taken}
use Rattle.order.specs.Elimination.{pairs, not_joined}
use Rattle.order.specs.Neighbours.{graph_of}
use Rattle.marks.proofs.Taking.{taken_still}
use Rattle.marks.proofs.Counting.{count_agree, count_none, count_up, count_le, fewer}
use Rattle.order.proofs.Eliminations.{keep}

-- rows without a pair add nothing
pairs_skip : (p : ℕ → ℕ → Bool) (a k : ℕ) → a ≤ k → ((i j : ℕ) → a ≤ i → i < k → p i j ≡ false) → pairs p k ≡ pairs p a
unfolding pairs
pairs_skip p a zero l f = ap (pairs p) (let e : 0 ≡ a = omega arith in e)
pairs_skip p a (suc k) l f = ⊎_elim
    (λ e. ap (pairs p) (sym e))
    (λ ne. ap (λ x. pairs p k + x) (count_none (p k) k (λ j b. f k j (omega arith) (omega arith))) ∙ add-zero (pairs p k) ∙ pairs_skip p a k (omega arith) (λ i j b c. f i j b (omega arith)))
    (cases_eq a (suc k))

pairs_none : (p : ℕ → ℕ → Bool) (k : ℕ) → ((i j : ℕ) → i < k → p i j ≡ false) → pairs p k ≡ 0
unfolding pairs
pairs_none p k f = pairs_skip p 0 k (omega arith) (λ i j a b. f i j b)

pairs_more : (p : ℕ → ℕ → Bool) (k : ℕ) → pairs p (suc k) ≡ pairs p k + how_many (p k) k
unfolding pairs
pairs_more p k = refl

-- rest is still to be visited, seen was, and the pairs among those seen are counted
pub record Pairing (sets : List Marks) (members rest seen : Marks) (total : ℕ) : Type 0 where
  pub part : (q : ℕ) → has rest q ≡ true → has members q ≡ true
  pub seen_is : (q : ℕ) → has seen q ≡ (has members q && not (has rest q))
  pub ascending : (x y : ℕ) → has seen x ≡ true → has rest y ≡ true → x < y
  pub counted : (k : ℕ) → ((q : ℕ) → q < k → has rest q ≡ false) → ((q : ℕ) → k ≤ q → has seen q ≡ false) → total ≡ pairs (not_joined (graph_of sets) (has members)) k
  pub bounded : total + 128 * how_many (has rest) 128 ≤ 16384

none_left : (b : Bool) → false ≡ (b && not b)
none_left true = refl
none_left false = refl

pub pairing_starts : (sets : List Marks) (members seen : Marks) → ((q : ℕ) → has seen q ≡ false) → Pairing sets members members seen 0
pairing_starts sets members seen none = record {
  part = λ q h. h;
  seen_is = λ q. none q ∙ none_left (has members q);
  ascending = λ x y h l. absurd (both_ways (has seen x) (none x) h);
  counted = λ k low high. sym (pairs_none _ k (λ i j l. ap (λ b. (b && has members j) && not (graph_of sets i j)) (low i l)));
  bounded = omega (arith, count_le (has members) 128);
}

one_gone : (m r e : Bool) → (e ≡ true → m ≡ true) → ((m && not r) || e) ≡ (m && not (r && not e))
one_gone true true true h = refl
one_gone true true false h = refl
one_gone true false true h = refl
one_gone true false false h = refl
one_gone false r true h = sym (h refl)
one_gone false r false h = refl

no_row : (a b c : Bool) → a ≡ false → ((a && b) && c) ≡ false
no_row true b c h = absurd (both_ways true h refl)
no_row false b c h = refl

with_one : (a b c : Bool) → a ≡ true → (b && c) ≡ ((a && b) && c)
with_one true b c h = refl
with_one false b c h = absurd (both_ways false refl h)

pub pairing_turn : (sets : List Marks) (members rest rest' seen seen' news : Marks) (total d e : ℕ) → Taken rest e rest'
    → ((q : ℕ) → has news q ≡ (has seen q && not (graph_of sets e q))) → ((q : ℕ) → has seen' q ≡ (has seen q || eqb q e))
    → d ≡ how_many (has news) 128 → d ≤ 128 → Pairing sets members rest seen total → Pairing sets members rest' seen' (total + d)
pairing_turn sets members rest rest' seen seen' news total d e taken g s de small_d h =
    let p : ℕ → ℕ → Bool = not_joined (graph_of sets) (has members) in
    let mine : has members e ≡ true = h.part e taken.here in
    let still : (q : ℕ) → has rest' q ≡ true → (has rest q ≡ true) × (e < q) = λ q r. taken_still rest e rest' taken q r in
    let seen_is' : (q : ℕ) → has seen' q ≡ (has members q && not (has rest' q)) = λ q. s q ∙ ap (λ b. b || eqb q e) (h.seen_is q)
    ∙ one_gone (has members q) (has rest q) (eqb q e) (λ t. ap (has members) (eqb-true q e t) ∙ mine) ∙ ap (λ b. has members q && not b) (sym (taken.others q)) in
    let unseen : (q : ℕ) → e ≤ q → has seen q ≡ false = λ q l. ⊎_elim (λ t. absurd (omega (arith, h.ascending q e t taken.here))) (λ t. t) (cases_Bool (has seen q)) in
    let old : total ≡ pairs p e = h.counted e taken.lowest unseen in
    let below : (j : ℕ) → j < e → has seen j ≡ has members j = λ j l. h.seen_is j ∙ ap (λ b. has members j && not b) (taken.lowest j l) ∙ keep (has members j) in
    let new : d ≡ how_many (p e) e = de ∙ count_up (has news) e 128 (let small = taken.small in omega arith) (λ j l. g j ∙ ap (λ b. b && not (graph_of sets e j)) (unseen j l))
    ∙ count_agree (has news) (p e) e (λ j l. g j ∙ ap (λ b. b && not (graph_of sets e j)) (below j l) ∙ with_one (has members e) (has members j) (not (graph_of sets e j)) mine) in
    let now_seen : has seen' e ≡ true = s e ∙ or_right (has seen e) (eqb e e) (eq-eqb e e refl) in
    let past : (k : ℕ) → ((q : ℕ) → q < k → has rest' q ≡ false) → (i : ℕ) → suc e ≤ i → i < k → has members i ≡ false = λ k lo i a b. ⊎_elim
    (λ m. let t : has seen' i ≡ true = seen_is' i ∙ ap₂ (λ x y. x && not y) m (lo i b) in
    absurd (⊎_elim (λ old_one. omega (arith, h.ascending i e old_one taken.here)) (λ same. omega (arith, eqb-true i e same)) (or_cases (has seen i) (eqb i e) (sym (s i) ∙ t))))
    (λ m. m) (cases_Bool (has members i)) in
    record {
      part = λ q r. h.part q (still q r).0;
      seen_is = seen_is';
      ascending = λ x y a r. ⊎_elim
          (λ t. h.ascending x y t (still y r).0)
          (λ same. let xe : x ≡ e = eqb-true x e same in omega (arith, (still y r).1))
          (or_cases (has seen x) (eqb x e) (sym (s x) ∙ a));
      counted = λ k lo hi.
          let le : e < k = ⊎_elim (λ l. l) (λ l. absurd (both_ways (has seen' e) (hi e l) now_seen)) (cases_lt e k) in
          ap₂ (λ x y. x + y) old new ∙ sym (pairs_more p e)
          ∙ sym (pairs_skip p (suc e) k (omega arith) (λ i j a b. no_row (has members i) (has members j) (not (graph_of sets i j)) (past k lo i a b)));
      bounded = omega (arith, h.bounded, fewer rest rest' e taken);
    }
