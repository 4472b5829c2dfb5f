-- A ranking of n events names n.
use Rattle.std.proofs.Common.{◌≡◌, ℕ, zero, suc, ◌+◌, ◌<◌, ◌≤◌, Bool, true, false, not, ◌&&◌, eqb, ltb, List, ◌∷◌, length, Some, None, Option, sym, refl, ap, ◌∙◌, ⊎_elim, arith, MatchOption}
use Rattle.std.proofs.lemmas.Bool.{cases_eq, cond_both}
use Rattle.marks.specs.Sets.{how_many}
use Rattle.order.specs.declared.event_order.EventOrder.{EventOrder}
use Rattle.order.specs.Orderings.{events_of}
use Rattle.order.specs.Elimination.{Graph, left, degree, after}
use Rattle.order.specs.Ranking.{best, better, put, ranking}
use Rattle.order.proofs.Counting.{count_agree, count_none, count_without, count_all}
use Rattle.order.proofs.Eliminations.{left_more}
use Rattle.order.proofs.Orders.{events_count}

-- what is found may be taken, and nothing is found only where nothing may
abbrev Found : (ℕ → Bool) → ℕ → Option ℕ → Type 0
Found may k o = MatchOption o ((x : ℕ) → x < k → may x ≡ false) (λ b. (b < k) × (may b ≡ true))

found_more : (cost : ℕ → ℕ) (may : ℕ → Bool) (k : ℕ) (o : Option ℕ) → may k ≡ true → Found may k o → Found may (suc k) (better cost o k)
found_more cost may k None on h = (omega arith, on)
found_more cost may k (Some b) on h = cond_both (ltb (cost k) (cost b)) (Some k) (Some b) (Found may (suc k)) (λ e. (omega arith, on)) (λ e. (omega (arith, h.0), h.1))

found_past : (may : ℕ → Bool) (k : ℕ) (o : Option ℕ) → may k ≡ false → Found may k o → Found may (suc k) o
found_past may k None off h = λ x l. ⊎_elim (λ e. ap may e ∙ off) (λ ne. h x (omega arith)) (cases_eq x k)
found_past may k (Some b) off h = (omega (arith, h.0), h.1)

found : (cost : ℕ → ℕ) (may : ℕ → Bool) (k : ℕ) → Found may k (best cost may k)
unfolding best
found cost may zero = λ x l. absurd (omega arith)
found cost may (suc k) = cond_both (may k) (better cost (best cost may k) k) (best cost may k) (Found may (suc k))
    (λ e. found_more cost may k (best cost may k) e (found cost may k)) (λ e. found_past may k (best cost may k) e (found cost may k))

-- with m events gone, n less m are left
abbrev Gone : ℕ → ℕ → List ℕ → Type 0
Gone n m gone = (length gone ≡ m) × (how_many (left n gone) n + m ≡ n)

gone_more : (n m : ℕ) (gone : List ℕ) (o : Option ℕ) → suc m ≤ n → Found (left n gone) n o → Gone n m gone → Gone n (suc m) (put o gone)
gone_more n m gone None l h g = absurd (omega (arith, g.1, count_none (left n gone) n h))
gone_more n m gone (Some e) l h g =
    let less : how_many (left n (e ∷ gone)) n ≡ how_many (λ x. left n gone x && not (eqb x e)) n = count_agree _ _ n (λ x p. sym (left_more n gone e x)) in
    let one = count_without (left n gone) e n h.1 h.0 in
    (ap suc g.0, omega (arith, g.1, less, one))

gone_all : (n m : ℕ) (graph : Graph) → m ≤ n → Gone n m (ranking n graph m)
unfolding ranking
gone_all n zero graph l = (refl, omega (arith, count_all n))
gone_all n (suc m) graph l = gone_more n m (ranking n graph m) _ l (found (degree n (after n graph (ranking n graph m)) (ranking n graph m)) (left n (ranking n graph m)) n) (gone_all n m graph (omega arith))

pub ranking_count : (n : ℕ) (graph : Graph) (order : EventOrder) → events_of order ≡ ranking n graph n → order.count ≡ n
ranking_count n graph order e = sym (events_count order) ∙ ap length e ∙ (gone_all n n graph (omega arith)).0
