-- The digits of a number in base two, and the marks that they are.
use Rattle.std.proofs.Common.{◌≡◌, ℕ, zero, suc, ◌+◌, ◌-◌, ◌/◌, ◌%◌, ◌^◌, ◌<◌, ◌≤◌, min, max, Bool, true, false, cond, not, ◌&&◌, ◌||◌, ◌==◌, nat_lt, refl, sym, ap, ap₂, ◌∙◌, ⊎_elim, pow-suc, arith}
use lib.Bits.{bit_and, bit_or}
use lib.Count.{ones, ones_step, count_trailing_zeros}
use Rattle.std.specs.Int.{bit_at, w128}
use Rattle.std.proofs.lemmas.Nat.Bits.{bit_at_lowest, bit_at-suc, bit_at-zero, bit_at_and, bit_at_or, bit_at_not, bit_at-pow_same, bit_at-pow_other, bit_at_ones, bit_at_ones_above, bit_at-trailing_zeros}
use Rattle.std.proofs.lemmas.Bool.{cases_eq, cases_lt, lt-ltb, le-ltb}
use Rattle.std.proofs.lemmas.Bool.Decides.{nat_tests}
use Rattle.marks.specs.declared.set.Marks.{Marks}
use Rattle.marks.specs.Sets.{on, has, how_many, Taken}
use Rattle.marks.proofs.Counting.{count_agree, count_front}

digit_le : (n q : ℕ) → bit_at n q ≤ 1
digit_le n q = omega arith

min_and : (x y : ℕ) → x ≤ 1 → y ≤ 1 → (min x y == 1) ≡ (x == 1 && y == 1)
min_and x y p q = grind (arith, nat_tests)

max_or : (x y : ℕ) → x ≤ 1 → y ≤ 1 → (max x y == 1) ≡ (x == 1 || y == 1)
max_or x y p q = grind (arith, nat_tests)

sub_not : (x : ℕ) → x ≤ 1 → (1 - x == 1) ≡ not (x == 1)
sub_not x p = grind (arith, nat_tests)

both : (s a b : Bool) → (s && (a && b)) ≡ ((s && a) && (s && b))
both true a b = refl
both false a b = refl

either : (s a b : Bool) → (s && (a || b)) ≡ ((s && a) || (s && b))
either true a b = refl
either false a b = refl

minus : (s a b : Bool) → (s && (a && not b)) ≡ ((s && a) && not (s && b))
minus true a b = refl
minus false a b = refl

-- below 128 the digits decide
below : (q : ℕ) (a b : Bool) → (q < 128 → a ≡ b) → (nat_lt q 128 && a) ≡ (nat_lt q 128 && b)
below q a b h = ⊎_elim (λ l. ap (λ x. nat_lt q 128 && x) (h l)) (λ l. ap₂ (λ x y. x && y) (le-ltb q 128 l) refl ∙ ap (λ x. x && b) (sym (le-ltb q 128 l))) (cases_lt q 128)

pub has_and : (a b : Marks) (q : ℕ) → has record { digits = bit_and a.digits b.digits } q ≡ (has a q && has b q)
has_and a b q = ap (λ x. nat_lt q 128 && x) (ap (λ x. x == 1) (bit_at_and a.digits b.digits q) ∙ min_and _ _ (digit_le a.digits q) (digit_le b.digits q)) ∙ both (nat_lt q 128) (on a.digits q) (on b.digits q)

pub has_or : (a b : Marks) (q : ℕ) → has record { digits = bit_or a.digits b.digits } q ≡ (has a q || has b q)
has_or a b q = ap (λ x. nat_lt q 128 && x) (ap (λ x. x == 1) (bit_at_or a.digits b.digits q) ∙ max_or _ _ (digit_le a.digits q) (digit_le b.digits q)) ∙ either (nat_lt q 128) (on a.digits q) (on b.digits q)

pub has_minus : (a b : Marks) (q : ℕ) → b.digits < 2 ^ 128 → has record { digits = bit_and a.digits (2 ^ 128 - 1 - b.digits) } q ≡ (has a q && not (has b q))
has_minus a b q fits =
    let n : q < 128 → on (2 ^ 128 - 1 - b.digits) q ≡ not (on b.digits q) = λ l. ap (λ x. x == 1) (bit_at_not w128 b.digits q fits l) ∙ sub_not _ (digit_le b.digits q) in
    ap (λ x. nat_lt q 128 && x) (ap (λ x. x == 1) (bit_at_and a.digits (2 ^ 128 - 1 - b.digits) q) ∙ min_and _ _ (digit_le a.digits q) (digit_le (2 ^ 128 - 1 - b.digits) q))
    ∙ below q _ _ (λ l. ap (λ x. on a.digits q && x) (n l)) ∙ minus (nat_lt q 128) (on a.digits q) (on b.digits q)

pub has_none : (q : ℕ) → has record { digits = 0 } q ≡ false
has_none q = grind (arith, nat_tests, bit_at-zero q)

pub has_one : (e q : ℕ) → e < 128 → has record { digits = 2 ^ e } q ≡ (q == e)
has_one e q l = ⊎_elim (λ same. grind (arith, nat_tests, bit_at-pow_same e)) (λ other. grind (arith, nat_tests, bit_at-pow_other e q other)) (cases_eq q e)

pub has_below : (n q : ℕ) → n ≤ 128 → has record { digits = 2 ^ n - 1 } q ≡ nat_lt q n
has_below n q l = ⊎_elim
    (λ b. grind (arith, nat_tests, bit_at_ones n q b))
    (λ b. grind (arith, nat_tests, bit_at_ones_above n q b))
    (cases_lt q n)

as_digit : (x : ℕ) → x ≤ 1 → cond (x == 1) 1 0 ≡ x
as_digit zero p = refl
as_digit (suc zero) p = refl
as_digit (suc (suc x)) p = absurd (omega arith)

-- the digits that are 1, counted
ones_counted : (k n : ℕ) → n < 2 ^ k → ones n ≡ how_many (on n) k
unfolding ones how_many
ones_counted zero n h = let z : n ≡ 0 = omega arith in ap ones z
ones_counted (suc k) n h = ones_step n
    ∙ ap₂ (λ x y. x + y) (sym (bit_at_lowest n) ∙ sym (as_digit (bit_at n 0) (digit_le n 0))) (ones_counted k (n / 2) (omega (arith, pow-suc 2 k)) ∙ count_agree _ _ k (λ q l. ap (λ x. x == 1) (sym (bit_at-suc n q))))
    ∙ sym (count_front (on n) k)

pub marks_counted : (m : Marks) → m.digits < 2 ^ 128 → ones m.digits ≡ how_many (has m) 128
marks_counted m fits = ones_counted 128 m.digits fits ∙ count_agree _ _ 128 (λ q l. ap (λ x. x && on m.digits q) (sym (lt-ltb q 128 l)))

pub lowest_mark : (m : Marks) → 0 < m.digits → m.digits < 2 ^ 128 → (count_trailing_zeros 128 m.digits < 128) × (has m (count_trailing_zeros 128 m.digits) ≡ true) × ((q : ℕ) → q < count_trailing_zeros 128 m.digits → has m q ≡ false)
lowest_mark m some fits =
    let h = bit_at-trailing_zeros w128 m.digits some fits in
    (h.0, grind (arith, nat_tests, h.0, h.1), λ q l. grind (arith, nat_tests, h.2 q l))

-- one less: the lowest 1 is gone, and the digits above it stay
one_less : (t n q : ℕ) → bit_at n t ≡ 1 → ((i : ℕ) → i < t → bit_at n i ≡ 0) → (t ≡ q → bit_at (n - 1) q ≡ 0) × (t < q → bit_at (n - 1) q ≡ bit_at n q)
one_less zero n zero on low = (λ e. let odd : n % 2 ≡ 1 = sym (bit_at_lowest n) ∙ on in bit_at_lowest (n - 1) ∙ omega arith, λ l. absurd (omega arith))
one_less zero n (suc q) on low =
    let odd : n % 2 ≡ 1 = sym (bit_at_lowest n) ∙ on in
    let half : (n - 1) / 2 ≡ n / 2 = omega arith in
    (λ e. absurd (omega arith), λ l. bit_at-suc (n - 1) q ∙ ap (λ x. bit_at x q) half ∙ sym (bit_at-suc n q))
one_less (suc t) n zero on low = (λ e. absurd (omega arith), λ l. absurd (omega arith))
one_less (suc t) n (suc q) on low =
    let even : n % 2 ≡ 0 = sym (bit_at_lowest n) ∙ low 0 (omega arith) in
    let here : bit_at (n / 2) t ≡ 1 = sym (bit_at-suc n t) ∙ on in
    let some : 0 < n / 2 = ⊎_elim (λ l. l) (λ z. absurd (let none : n / 2 ≡ 0 = omega arith in omega (arith, here, ap (λ x. bit_at x t) none, bit_at-zero t))) (cases_lt 0 (n / 2)) in
    let half : (n - 1) / 2 ≡ n / 2 - 1 = omega arith in
    let rest = one_less t (n / 2) q here (λ i l. sym (bit_at-suc n i) ∙ low (suc i) (omega arith)) in
    (λ e. bit_at-suc (n - 1) q ∙ ap (λ x. bit_at x q) half ∙ rest.0 (omega arith), λ l. bit_at-suc (n - 1) q ∙ ap (λ x. bit_at x q) half ∙ rest.1 (omega arith) ∙ sym (bit_at-suc n q))

-- the lowest mark is out, and the others stay
pub popped : (m : Marks) (e : ℕ) → e < 128 → has m e ≡ true → ((q : ℕ) → q < e → has m q ≡ false) → Taken m e record { digits = bit_and m.digits (m.digits - 1) }
popped m e small here lowest =
    let one : bit_at m.digits e ≡ 1 = grind (arith, nat_tests, here) in
    let none : (i : ℕ) → i < e → bit_at m.digits i ≡ 0 = λ i l. grind (arith, nat_tests, lowest i l, digit_le m.digits i) in
    record {
      small = small;
      here = here;
      lowest = lowest;
      others = λ q.
          let less = one_less e m.digits q one none in
          has_and m record { digits = m.digits - 1 } q ∙ ⊎_elim
          (λ l. grind (arith, nat_tests, lowest q l))
          (λ ge. ⊎_elim (λ same. grind (arith, nat_tests, less.0 (sym same))) (λ other. grind (arith, nat_tests, less.1 (omega arith))) (cases_eq q e))
          (cases_lt q e);
    }
