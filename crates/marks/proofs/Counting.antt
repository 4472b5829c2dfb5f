-- How many numbers have a property.
use Rattle.std.proofs.Common.{◌≡◌, ℕ, zero, suc, ◌+◌, ◌-◌, ◌<◌, ◌≤◌, Bool, true, false, cond, not, ◌&&◌, eqb, ltb, sym, refl, ap, ◌∙◌, ap₂, ⊎_elim, add-zero, add-suc, arith}
use Rattle.std.proofs.lemmas.Bool.{cases_eq, cases_Bool, lt-ltb, eq-eqb, ne_eqb}
use mathlib.Core.Path.{fun_ext}
use Rattle.marks.specs.declared.set.Marks.{Marks}
use Rattle.marks.specs.Sets.{has, how_many, Taken}

pub count_agree : (p q : ℕ → Bool) (k : ℕ) → ((x : ℕ) → x < k → p x ≡ q x) → how_many p k ≡ how_many q k
unfolding how_many
count_agree p q zero h = refl
count_agree p q (suc k) h = ap₂ (λ x b. x + cond b 1 0) (count_agree p q k (λ x l. h x (omega arith))) (h k (omega arith))

pub count_none : (p : ℕ → Bool) (k : ℕ) → ((x : ℕ) → x < k → p x ≡ false) → how_many p k ≡ 0
unfolding how_many
count_none p zero h = refl
count_none p (suc k) h = ap₂ (λ x b. x + cond b 1 0) (count_none p k (λ x l. h x (omega arith))) (h k (omega arith))

pub count_past : (p : ℕ → Bool) (n d : ℕ) → ((x : ℕ) → n ≤ x → p x ≡ false) → how_many p (n + d) ≡ how_many p n
unfolding how_many
count_past p n zero h = ap (how_many p) (add-zero n)
count_past p n (suc d) h = ap (how_many p) (add-suc n d) ∙ ap₂ (λ x b. x + cond b 1 0) (count_past p n d h) (h (n + d) (omega arith)) ∙ add-zero (how_many p n)

pub count_up : (p : ℕ → Bool) (n m : ℕ) → n ≤ m → ((x : ℕ) → n ≤ x → p x ≡ false) → how_many p m ≡ how_many p n
count_up p n m l h = ap (how_many p) (omega arith) ∙ count_past p n (m - n) h

pub count_without : (p : ℕ → Bool) (e k : ℕ) → p e ≡ true → e < k → how_many (λ x. p x && not (eqb x e)) k + 1 ≡ how_many p k
unfolding how_many
count_without p e zero h l = absurd (omega arith)
count_without p e (suc k) h l = ⊎_elim
    (λ same.
    let a : how_many (λ x. p x && not (eqb x e)) k ≡ how_many p k = count_agree _ _ k (λ x m. ap (λ b. p x && not b) (ne_eqb x e (λ s. omega arith)) ∙ keep (p x)) in
    let b : ◌≡◌ {A = ℕ} (cond (p k && not (eqb k e)) 1 0) 0 = ap (λ b. cond (p k && not b) 1 0) (eq-eqb k e (sym same)) ∙ none (p k) in
    let d : ◌≡◌ {A = ℕ} (cond (p k) 1 0) 1 = ap (λ x. cond (p x) 1 0) (sym same) ∙ ap (λ b. cond b 1 0) h in
    omega arith)
    (λ other.
    let a : how_many (λ x. p x && not (eqb x e)) k + 1 ≡ how_many p k = count_without p e k h (omega arith) in
    let b : ◌≡◌ {A = ℕ} (cond (p k && not (eqb k e)) 1 0) (cond (p k) 1 0) = ap (λ b. cond (p k && not b) 1 0) (ne_eqb k e (λ s. other (sym s))) ∙ ap (λ b. cond b 1 0) (keep (p k)) in
    omega arith)
    (cases_eq e k)
  where
    keep : (b : Bool) → (b && not false) ≡ b
    keep true = refl
    keep false = refl

    none : (b : Bool) → ◌≡◌ {A = ℕ} (cond (b && not true) 1 0) 0
    none true = refl
    none false = refl

every : (k : ℕ) → how_many (λ x. true) k ≡ k
unfolding how_many
every zero = refl
every (suc k) = omega (arith, every k)

pub count_all : (k : ℕ) → how_many (λ x. ltb x k && not false) k ≡ k
count_all k = count_agree _ (λ x. true) k (λ x l. ap (λ b. b && not false) (lt-ltb x k l)) ∙ every k

pub count_le : (p : ℕ → Bool) (k : ℕ) → how_many p k ≤ k
unfolding how_many
count_le p zero = omega arith
count_le p (suc k) = ⊎_elim
    (λ e. let a : ◌≡◌ {A = ℕ} (cond (p k) 1 0) 1 = ap (λ b. cond b 1 0) e in omega (arith, count_le p k))
    (λ e. let a : ◌≡◌ {A = ℕ} (cond (p k) 1 0) 0 = ap (λ b. cond b 1 0) e in omega (arith, count_le p k))
    (cases_Bool (p k))

-- a set has more marks than are left once its lowest is taken
pub fewer : (s t : Marks) (e : ℕ) → Taken s e t → how_many (has t) 128 < how_many (has s) 128
fewer s t e h = let a : how_many (has t) 128 ≡ how_many (λ x. has s x && not (eqb x e)) 128 = ap (λ p. how_many p 128) (fun_ext h.others) in omega (arith, count_without (has s) e 128 h.here h.small)

-- a count from the front
pub count_front : (p : ℕ → Bool) (k : ℕ) → how_many p (suc k) ≡ cond (p 0) 1 0 + how_many (λ x. p (suc x)) k
unfolding how_many
count_front p zero = omega arith
count_front p (suc k) = omega (arith, count_front p k)
