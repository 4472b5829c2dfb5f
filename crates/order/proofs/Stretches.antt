-- What stands at a stretch of places, and the ranks of events in it.
use Rattle.std.proofs.Common.{◌≡◌, ℕ, zero, suc, ◌+◌, ◌-◌, ◌<◌, ◌≤◌, false, eqb, ◌≢◌, List, [], ◌∷◌, length, get_or, set, Some, None, sym, refl, ap, ◌∙◌, ap₂, ⊎_elim, arith, get_or-set_other, get_or-set_same}
use Rattle.std.proofs.lemmas.Bool.{cases_eq, cond-true, cond-false, eq-eqb, ne_eqb, both_ways, or_parts}
use Rattle.order.specs.Orderings.{stretch, among, numbers, rank_of_event, one_higher}

pub stretch_length : (xs : List ℕ) (k m : ℕ) → length (stretch xs k m) ≡ m
unfolding stretch
stretch_length xs k zero = refl
stretch_length xs k (suc m) = ap suc (stretch_length xs (suc k) m)

pub stretch_at : (xs : List ℕ) (k m q : ℕ) → q < m → get_or (stretch xs k m) q 0 ≡ get_or xs (k + q) 0
unfolding stretch
stretch_at xs k zero q l = absurd (omega arith)
stretch_at xs k (suc m) zero l = ap (λ x. get_or xs x 0) (omega arith)
stretch_at xs k (suc m) (suc q) l = stretch_at xs (suc k) m q (omega arith) ∙ ap (λ x. get_or xs x 0) (omega arith)

-- equal places, equal stretches
pub stretch_same : (xs ys : List ℕ) (k m : ℕ) → ((q : ℕ) → k ≤ q → q < k + m → get_or xs q 0 ≡ get_or ys q 0) → stretch xs k m ≡ stretch ys k m
unfolding stretch
stretch_same xs ys k zero h = refl
stretch_same xs ys k (suc m) h = ap₂ ◌∷◌ (h k (omega arith) (omega arith)) (stretch_same xs ys (suc k) m (λ q a b. h q (omega arith) (omega arith)))

stretch_tail : (x : ℕ) (xs : List ℕ) (k m : ℕ) → stretch (x ∷ xs) (suc k) m ≡ stretch xs k m
unfolding stretch
stretch_tail x xs k zero = refl
stretch_tail x xs k (suc m) = ap₂ ◌∷◌ refl (stretch_tail x xs (suc k) m)

pub stretch_whole : (xs : List ℕ) → stretch xs 0 (length xs) ≡ xs
unfolding stretch
stretch_whole [] = refl
stretch_whole (x ∷ xs) = ap₂ ◌∷◌ refl (stretch_tail x xs 0 (length xs) ∙ stretch_whole xs)

pub stretch_numbers : (xs : List ℕ) (k m : ℕ) → ((q : ℕ) → k ≤ q → q < k + m → get_or xs q 0 ≡ q) → stretch xs k m ≡ numbers k m
unfolding stretch numbers
stretch_numbers xs k zero h = refl
stretch_numbers xs k (suc m) h = ap₂ ◌∷◌ (h k (omega arith) (omega arith)) (stretch_numbers xs (suc k) m (λ q a b. h q (omega arith) (omega arith)))

-- the rank of an event that stands at the place q and at none before
pub rank_there : (xs : List ℕ) (k m q e : ℕ) → k ≤ q → q < k + m → get_or xs q 0 ≡ e → ((p : ℕ) → k ≤ p → p < q → get_or xs p 0 ≡ e → ⊥) → rank_of_event (stretch xs k m) e ≡ Some (suc (q - k))
unfolding stretch rank_of_event
rank_there xs k zero q e a b h f = absurd (omega arith)
rank_there xs k (suc m) q e a b h f = ⊎_elim
    (λ s. cond-true (eqb e (get_or xs k 0)) _ _ (eq-eqb e _ (sym h ∙ ap (λ x. get_or xs x 0) s)) ∙ ap (λ x. Some (suc x)) (omega arith))
    (λ ne. cond-false (eqb e (get_or xs k 0)) _ _ (ne_eqb e _ (λ s. f k (omega arith) (omega arith) (sym s)))
    ∙ ap one_higher (rank_there xs (suc k) m q e (omega arith) (omega arith) h (λ p c d. f p (omega arith) d))
    ∙ ap (λ x. Some (suc x)) (omega arith))
    (cases_eq q k)

pub rank_nowhere : (xs : List ℕ) (k m e : ℕ) → ((p : ℕ) → k ≤ p → p < k + m → get_or xs p 0 ≡ e → ⊥) → rank_of_event (stretch xs k m) e ≡ None
unfolding stretch rank_of_event
rank_nowhere xs k zero e f = refl
rank_nowhere xs k (suc m) e f = cond-false (eqb e (get_or xs k 0)) _ _ (ne_eqb e _ (λ s. f k (omega arith) (omega arith) (sym s)))
    ∙ ap one_higher (rank_nowhere xs (suc k) m e (λ p c d. f p (omega arith) (omega arith)))

-- a write before the stretch, and one at its new first place
pub stretch_before : (xs : List ℕ) (k v r m : ℕ) → k < r → stretch (set xs k v) r m ≡ stretch xs r m
unfolding stretch
stretch_before xs k v r zero l = refl
stretch_before xs k v r (suc m) l = ap₂ ◌∷◌ (let ne : r ≢ k = (λ e. omega arith) in get_or-set_other xs k r v 0 ne) (stretch_before xs k v (suc r) m (omega arith))

pub stretch_set : (xs : List ℕ) (v r n : ℕ) → 0 < r → r ≤ n → r ≤ length xs → stretch (set xs (r - 1) v) (r - 1) (n - (r - 1)) ≡ v ∷ stretch xs r (n - r)
unfolding stretch
stretch_set xs v r n p l h =
    let e : n - (r - 1) ≡ suc (n - r) = omega arith in
    let f : suc (r - 1) ≡ r = omega arith in
    ap (stretch (set xs (r - 1) v) (r - 1)) e
    ∙ ap₂ ◌∷◌ (get_or-set_same xs (r - 1) v 0 (omega arith)) (ap (λ x. stretch (set xs (r - 1) v) x (n - r)) f ∙ stretch_before xs (r - 1) v r (n - r) (omega arith))

pub stretch_none : (at : List ℕ) (n : ℕ) → stretch at n 0 ≡ []
unfolding stretch
stretch_none at n = refl

pub stretch_step : (xs : List ℕ) (r n : ℕ) → 0 < r → r ≤ n → stretch xs (r - 1) (n - (r - 1)) ≡ get_or xs (r - 1) 0 ∷ stretch xs r (n - r)
unfolding stretch
stretch_step xs r n p l =
    let e : n - (r - 1) ≡ suc (n - r) = omega arith in
    let f : suc (r - 1) ≡ r = omega arith in
    ap (stretch xs (r - 1)) e ∙ ap (λ x. get_or xs (r - 1) 0 ∷ stretch xs x (n - r)) f

-- what is not among some places stands at none of them
pub absent : (xs : List ℕ) (x r m : ℕ) → among (stretch xs r m) x ≡ false → (q : ℕ) → r ≤ q → q < r + m → get_or xs q 0 ≡ x → ⊥
unfolding stretch
absent xs x r zero h q l u e = omega arith
absent xs x r (suc m) h q l u e =
    let t = or_parts (eqb x (get_or xs r 0)) (among (stretch xs (suc r) m) x) h in
    ⊎_elim (λ s. both_ways (eqb x (get_or xs r 0)) t.0 (eq-eqb x (get_or xs r 0) (sym e ∙ ap (λ y. get_or xs y 0) s))) (λ ne. absent xs x (suc r) m t.1 q (omega arith) (omega arith) e) (cases_eq q r)
