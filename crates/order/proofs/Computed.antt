-- The computed ranking is the only one by the rule.
use Rattle.std.proofs.Common.{◌≡◌, ℕ, zero, suc, ◌<◌, ◌≤◌, Bool, true, false, ltb, List, [], ◌∷◌, length, IfSome, Some, None, Option, sym, refl, ap, ◌∙◌, subst, ⊎_elim, arith, MatchOption}
use Rattle.std.proofs.lemmas.Bool.{cases_eq, cond_both, cond-true, cond-false, le-ltb, ltb-false}
use Rattle.marks.specs.declared.set.Marks.{Marks}
use Rattle.marks.specs.Sets.{has}
use Rattle.order.specs.Orderings.{stretch}
use Rattle.order.specs.Elimination.{Graph, left, degree, after}
use Rattle.order.specs.Ranking.{Ranked, ranking, best, better, put}
use Rattle.order.specs.Neighbours.{Chosen, free_degree}
use Rattle.order.proofs.Stretches.{stretch_length}
use Rattle.order.proofs.Eliminations.{left_below}

abbrev Taken : (ℕ → Bool) → ℕ → Option ℕ → Type 0
Taken may k o = IfSome o (λ b. (b < k) × (may b ≡ true))

wider : (may : ℕ → Bool) (k : ℕ) (o : Option ℕ) → Taken may k o → Taken may (suc k) o
wider may k None h = tt
wider may k (Some b) h = (omega (arith, h.0), h.1)

better_taken : (cost : ℕ → ℕ) (may : ℕ → Bool) (k : ℕ) (o : Option ℕ) → may k ≡ true → Taken may k o → Taken may (suc k) (better cost o k)
better_taken cost may k None on h = (omega arith, on)
better_taken cost may k (Some b) on h = cond_both (ltb (cost k) (cost b)) (Some k) (Some b) (Taken may (suc k)) (λ e. (omega arith, on)) (λ e. (omega (arith, h.0), h.1))

best_taken : (cost : ℕ → ℕ) (may : ℕ → Bool) (k : ℕ) → Taken may k (best cost may k)
unfolding best
best_taken cost may zero = tt
best_taken cost may (suc k) = cond_both (may k) (better cost (best cost may k) k) (best cost may k) (Taken may (suc k))
    (λ e. better_taken cost may k (best cost may k) e (best_taken cost may k)) (λ e. wider may k (best cost may k) (best_taken cost may k))

last_best : (cost : ℕ → ℕ) (may : ℕ → Bool) (k : ℕ) (o : Option ℕ) → Taken may k o → ((x : ℕ) → x < suc k → may x ≡ true → cost x ≤ cost k → k ≤ x) → better cost o k ≡ Some k
last_best cost may k None t h = refl
last_best cost may k (Some b) t h = cond_both (ltb (cost k) (cost b)) (Some k) (Some b) (λ o. o ≡ Some k) (λ e. refl)
    (λ e. absurd (omega (arith, t.0, h b (omega (arith, t.0)) t.1 (ltb-false (cost k) (cost b) e))))

pub best_is : (cost : ℕ → ℕ) (may : ℕ → Bool) (k e : ℕ) → e < k → may e ≡ true → ((x : ℕ) → x < k → may x ≡ true → cost e ≤ cost x) → ((x : ℕ) → x < k → may x ≡ true → cost x ≤ cost e → e ≤ x) → best cost may k ≡ Some e
unfolding best
best_is cost may zero e l on a b = absurd (omega arith)
best_is cost may (suc k) e l on a b = ⊎_elim
    (λ s. let here : may k ≡ true = ap may (sym s) ∙ on in
    cond-true (may k) _ _ here ∙ last_best cost may k (best cost may k) (best_taken cost may k) (subst (λ y. (x : ℕ) → x < suc k → may x ≡ true → cost x ≤ cost y → y ≤ x) s b) ∙ ap Some (sym s))
    (λ ne. let i : best cost may k ≡ Some e = best_is cost may k e (omega arith) on (λ x p. a x (omega arith)) (λ x p. b x (omega arith)) in
    cond_both (may k) (better cost (best cost may k) k) (best cost may k) (λ o. o ≡ Some e)
    (λ m. ap (λ o. better cost o k) i ∙ cond-false (ltb (cost k) (cost e)) _ _ (le-ltb (cost k) (cost e) (a k (omega arith) m)))
    (λ m. i))
    (cases_eq e k)

-- what is ranked by the rule is the ranking computed
pub computed : (n : ℕ) (graph : Graph) (gone : List ℕ) → Ranked n graph gone → gone ≡ ranking n graph (length gone)
unfolding Ranked ranking
computed n graph [] h = refl
computed n graph (e ∷ gone) h =
    let i : gone ≡ ranking n graph (length gone) = computed n graph gone h.1 in
    let b : best (degree n (after n graph gone) gone) (left n gone) n ≡ Some e =
    best_is (degree n (after n graph gone) gone) (left n gone) n e (left_below n gone e h.0.here) h.0.here (λ x p. h.0.least x) (λ x p. h.0.lowest x) in
    sym (ap (λ o. put o gone) b) ∙ ap (λ fs. put (best (degree n (after n graph fs) fs) (left n fs) n) fs) i

pub computed_whole : (n : ℕ) (graph : Graph) (events : List ℕ) → Ranked n graph (stretch events 0 n) → stretch events 0 n ≡ ranking n graph n
computed_whole n graph events h = computed n graph (stretch events 0 n) h ∙ ap (ranking n graph) (stretch_length events 0 n)

best_none : (cost : ℕ → ℕ) (may : ℕ → Bool) (k : ℕ) → ((x : ℕ) → may x ≡ false) → best cost may k ≡ None
unfolding best
best_none cost may zero h = refl
best_none cost may (suc k) h = cond-false (may k) _ _ (h k) ∙ best_none cost may k h

-- what is chosen among marks is the best computed
pub chosen_best : (sets : List Marks) (free : Marks) (n : ℕ) (found : Option ℕ) → MatchOption found ((x : ℕ) → has free x ≡ false) (Chosen sets free n) → found ≡ best (free_degree sets free) (has free) n
chosen_best sets free n None h = sym (best_none (free_degree sets free) (has free) n h)
chosen_best sets free n (Some e) h = sym (best_is (free_degree sets free) (has free) n e h.below h.here h.least h.lowest)
