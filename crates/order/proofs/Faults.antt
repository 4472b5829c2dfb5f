-- The first event at fault, met by going along the list.
use Rattle.std.proofs.Common.{◌≡◌, ℕ, zero, suc, ◌-◌, ◌<◌, ◌≤◌, true, false, ◌&&◌, eqb, ltb, leb, List, [], ◌∷◌, length, get_or, Some, None, Err, Option, sym, refl, ap, ◌∙◌, ⊎_elim, arith}
use Rattle.std.proofs.lemmas.Bool.{cases_eq, cond-true, cond-false, eq-eqb, ne_eqb, lt-ltb, le-ltb, le-leb, lt-leb, and_from, and_left, and_right, or_from, or_left, or_right}
use Rattle.order.specs.declared.event_order.Misordered.{Misordered}
use Rattle.order.specs.declared.event_order.Misordered.TheVariants.{Count, Outside, Again}
use Rattle.order.specs.Orderings.{stretch, among, first_fault, arranged, unless}
use Rattle.order.proofs.Stretches.{stretch_whole}

-- what stands before the place k, the latest first
abbrev pub earlier : List ℕ → ℕ → List ℕ
earlier xs zero = []
earlier xs (suc k) = get_or xs k 0 ∷ earlier xs k

pub stood : (xs : List ℕ) (k q e : ℕ) → q < k → get_or xs q 0 ≡ e → among (earlier xs k) e ≡ true
stood xs zero q e l h = absurd (omega arith)
stood xs (suc k) q e l h = ⊎_elim
    (λ s. or_left (eqb e (get_or xs k 0)) _ (eq-eqb e _ (sym h ∙ ap (λ x. get_or xs x 0) s)))
    (λ ne. or_right (eqb e (get_or xs k 0)) _ (stood xs k q e (omega arith) h))
    (cases_eq q k)

pub new : (xs : List ℕ) (k e : ℕ) → ((q : ℕ) → q < k → get_or xs q 0 ≡ e → ⊥) → among (earlier xs k) e ≡ false
new xs zero e f = refl
new xs (suc k) e f = or_from (eqb e (get_or xs k 0)) _ (ne_eqb e _ (λ s. f k (omega arith) (sym s))) (new xs k e (λ q l. f q (omega arith)))

-- nothing is at fault before the place k
abbrev pub Sound : ℕ → List ℕ → ℕ → Type 0
Sound n xs k = first_fault n [] xs ≡ first_fault n (earlier xs k) (stretch xs k (n - k))

pub sound_starts : (n : ℕ) (xs : List ℕ) → length xs ≡ n → Sound n xs 0
sound_starts n xs e = ap (first_fault n []) (sym (stretch_whole xs) ∙ ap (stretch xs 0) (e ∙ omega arith))

more : (n : ℕ) (xs : List ℕ) (k : ℕ) → k < n → stretch xs k (n - k) ≡ get_or xs k 0 ∷ stretch xs (suc k) (n - suc k)
unfolding stretch
more n xs k l = ap (stretch xs k) (let e : n - k ≡ suc (n - suc k) = omega arith in e)

pub sound_more : (n : ℕ) (xs : List ℕ) (k : ℕ) → k < n → get_or xs k 0 < n → ((q : ℕ) → q < k → get_or xs q 0 ≡ get_or xs k 0 → ⊥) → Sound n xs k → Sound n xs (suc k)
unfolding first_fault
sound_more n xs k l low f h = h ∙ ap (first_fault n (earlier xs k)) (more n xs k l)
    ∙ cond-true (ltb (get_or xs k 0) n) _ _ (lt-ltb _ n low) ∙ cond-false (among (earlier xs k) (get_or xs k 0)) _ _ (new xs k (get_or xs k 0) f)

pub sound_outside : (n : ℕ) (xs : List ℕ) (k : ℕ) → k < n → n ≤ get_or xs k 0 → Sound n xs k → first_fault n [] xs ≡ Some Outside
unfolding first_fault
sound_outside n xs k l out h = h ∙ ap (first_fault n (earlier xs k)) (more n xs k l) ∙ cond-false (ltb (get_or xs k 0) n) _ _ (le-ltb _ n out)

pub sound_again : (n : ℕ) (xs : List ℕ) (k q : ℕ) → k < n → get_or xs k 0 < n → q < k → get_or xs q 0 ≡ get_or xs k 0 → Sound n xs k → first_fault n [] xs ≡ Some Again
unfolding first_fault
sound_again n xs k q l low p e h = h ∙ ap (first_fault n (earlier xs k)) (more n xs k l)
    ∙ cond-true (ltb (get_or xs k 0) n) _ _ (lt-ltb _ n low) ∙ cond-true (among (earlier xs k) (get_or xs k 0)) _ _ (stood xs k q _ p e)

pub sound_ends : (n k : ℕ) (xs : List ℕ) → n ≤ k → Sound n xs k → first_fault n [] xs ≡ None
unfolding first_fault stretch
sound_ends n k xs l h = h ∙ ap (λ m. first_fault n (earlier xs k) (stretch xs k m)) (let e : n - k ≡ 0 = omega arith in e)

-- what the list comes to, by what is known of its events
pub arranged_by : (n : ℕ) (xs : List ℕ) (why : Option Misordered) → n ≤ 128 → length xs ≡ n → first_fault n [] xs ≡ why → arranged n xs ≡ unless xs why
arranged_by n xs why small e h = ap (unless xs) (cond-true (leb n 128 && eqb (length xs) n) _ _ (and_from _ _ (le-leb n 128 small) (eq-eqb _ n e)) ∙ h)

pub arranged_large : (n : ℕ) (xs : List ℕ) → 128 < n → arranged n xs ≡ Err Count
arranged_large n xs l = ap (unless xs) (cond-false (leb n 128 && eqb (length xs) n) _ _ (and_left _ _ (lt-leb n 128 l)))

pub arranged_count : (n : ℕ) (xs : List ℕ) → (length xs ≡ n → ⊥) → arranged n xs ≡ Err Count
arranged_count n xs ne = ap (unless xs) (cond-false (leb n 128 && eqb (length xs) n) _ _ (and_right _ _ (ne_eqb _ n ne)))
