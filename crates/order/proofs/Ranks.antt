-- Ranks given out one after the other over sets of marks.
use Rattle.std.proofs.Common.{◌≡◌, ℕ, ◌-◌, ◌<◌, ◌≤◌, true, false, not, ◌&&◌, ◌||◌, eqb, ltb, ◌≢◌, List, [], ◌∷◌, length, get_or, set, sym, ap, ◌∙◌, subst, ap₂, ⊎_elim, arith, length-set, get_or-set_other, get_or-set_same}
use mathlib.Core.Path.{fun_ext}
use Rattle.std.proofs.lemmas.Bool.{cases_eq, and_parts}
use Rattle.marks.specs.declared.set.Marks.{Marks}
use Rattle.marks.specs.Sets.{has, how_many}
use Rattle.order.specs.Orderings.{stretch}
use Rattle.order.specs.Elimination.{Graph, left, beside, degree, joined, after}
use Rattle.order.specs.Ranking.{Fewest, Ranked}
use Rattle.order.specs.Neighbours.{graph_of, Chosen, free_degree}
use Rattle.marks.proofs.Counting.{count_agree, count_none, count_up, count_without, count_all}
use Rattle.order.proofs.Stretches.{stretch_set, stretch_none, absent}
use Rattle.order.proofs.Eliminations.{keep, and_off, left_below, left_absent, left_past, left_more, after_none, after_more}

-- While ranks are given out: the ranks stretch r on are given.
pub record Ranking (n : ℕ) (t0 t : List Marks) (free : Marks) (events ranks : List ℕ) (r : ℕ) : Type 0 where
  pub events_long : length events ≡ 128
  pub ranks_long : length ranks ≡ 128
  pub low : r ≤ n
  pub size : length t ≡ n
  pub near : graph_of t ≡ after n (graph_of t0) (stretch events r (n - r))
  pub frees : (q : ℕ) → has free q ≡ left n (stretch events r (n - r)) q
  pub more : how_many (left n (stretch events r (n - r))) n ≡ r
  pub ranked : Ranked n (graph_of t0) (stretch events r (n - r))
  pub within : (q : ℕ) → r ≤ q → q < n → get_or events q 0 < n
  pub there : (q : ℕ) → r ≤ q → q < n → get_or ranks (get_or events q 0) 0 ≡ q

-- the number of free neighbours, counted in marks and by definition
degrees : (n : ℕ) (t : List Marks) (free : Marks) (es : List ℕ) (x : ℕ) → n ≤ 128 → ((q : ℕ) → has free q ≡ left n es q) → free_degree t free x ≡ degree n (graph_of t) es x
degrees n t free es x s h =
    count_agree (λ y. graph_of t x y && has free y) (beside n (graph_of t) es x) 128 (λ y l. ap (λ b. graph_of t x y && b) (h y))
    ∙ count_up (beside n (graph_of t) es x) n 128 s (λ y l. ap (λ b. graph_of t x y && b) (left_past n es y l) ∙ and_off (graph_of t x y))

-- the choice made in marks is the one defined
pub chosen_fewest : (n : ℕ) (t : List Marks) (free : Marks) (es : List ℕ) (e : ℕ) → n ≤ 128 → ((q : ℕ) → has free q ≡ left n es q) → Chosen t free n e → Fewest n (graph_of t) es e
chosen_fewest n t free es e s h c = record {
  here = sym (h e) ∙ c.here;
  least = λ x l. let a = degrees n t free es x s h in let b = degrees n t free es e s h in omega (arith, c.least x (left_below n es x l) (h x ∙ l));
  lowest = λ x l d. let a = degrees n t free es x s h in let b = degrees n t free es e s h in c.lowest x (left_below n es x l) (h x ∙ l) (omega arith);
}

pub ranking_more : (n : ℕ) (t0 t : List Marks) (free : Marks) (events ranks : List ℕ) (r e : ℕ) → Ranking n t0 t free events ranks r → Chosen t free n e → 0 < r
ranking_more n t0 t free events ranks r e k c =
    omega (arith, k.more, count_without (left n (stretch events r (n - r))) e n (sym (k.frees e) ∙ c.here) c.below)

-- the neighbours after a joining, events every pair
pub joined_all : (n : ℕ) (t t' : List Marks) (free mine : Marks) (es : List ℕ) (e : ℕ)
    → ((i j : ℕ) → graph_of t' i j ≡ joined (graph_of t) (has mine) i j) → ((q : ℕ) → has mine q ≡ (graph_of t e q && has free q)) → ((q : ℕ) → has free q ≡ left n es q)
    → graph_of t' ≡ joined (graph_of t) (beside n (graph_of t) es e)
joined_all n t t' free mine es e f m h =
    let mine_is : (q : ℕ) → has mine q ≡ beside n (graph_of t) es e q = λ q. m q ∙ ap (λ b. graph_of t e q && b) (h q) in
    fun_ext (λ i. fun_ext (λ j. f i j ∙ ap₂ (λ a b. graph_of t i j || ((a && b) && not (eqb i j))) (mine_is i) (mine_is j)))

ranked_more : (n : ℕ) (f : Graph) (e : ℕ) (es : List ℕ) → Fewest n (after n f es) es e → Ranked n f es → Ranked n f (e ∷ es)
unfolding Ranked
ranked_more n f e es a b = (a, b)

pub ranking_turn : (n : ℕ) (t0 t t' : List Marks) (free free' mine : Marks) (events ranks : List ℕ) (r e : ℕ) → n ≤ 128
    → Ranking n t0 t free events ranks r → Chosen t free n e → length t' ≡ length t
    → ((i j : ℕ) → graph_of t' i j ≡ joined (graph_of t) (has mine) i j)
    → ((q : ℕ) → has mine q ≡ (graph_of t e q && has free' q)) → ((q : ℕ) → has free' q ≡ (has free q && not (eqb q e)))
    → Ranking n t0 t' free' (set events (r - 1) e) (set ranks e (r - 1)) (r - 1)
ranking_turn n t0 t t' free free' mine events ranks r e small k c s' f m g =
    let es : List ℕ = stretch events r (n - r) in
    let pos : 0 < r = ranking_more n t0 t free events ranks r e k c in
    let grown : stretch (set events (r - 1) e) (r - 1) (n - (r - 1)) ≡ e ∷ es = stretch_set events e r n pos k.low (omega (arith, k.events_long, k.low)) in
    let is_left : left n es e ≡ true = sym (k.frees e) ∙ c.here in
    let below : e < n = c.below in
    let few : Fewest n (after n (graph_of t0) es) es e = subst (λ a. Fewest n a es e) k.near (chosen_fewest n t free es e small k.frees c) in
    record {
      events_long = simp length-set k.events_long;
      ranks_long = simp length-set k.ranks_long;
      low = omega (arith, k.low);
      size = s' ∙ k.size;
      near = joined_all n t t' free' mine (e ∷ es) e f m (λ q. g q ∙ ap (λ b. b && not (eqb q e)) (k.frees q) ∙ left_more n es e q) ∙ ap (λ a. joined a (beside n a (e ∷ es) e)) k.near ∙ after_more n (graph_of t0) e es ∙ ap (after n (graph_of t0)) (sym grown);
      frees = λ q. g q ∙ ap (λ b. b && not (eqb q e)) (k.frees q) ∙ left_more n es e q ∙ ap (λ l. left n l q) (sym grown);
      more = ap (λ l. how_many (left n l) n) grown ∙ sym (ap (λ p. how_many p n) (fun_ext (left_more n es e))) ∙ omega (arith, k.more, count_without (left n es) e n is_left below);
      ranked = subst (Ranked n (graph_of t0)) (sym grown) (ranked_more n (graph_of t0) e es few k.ranked);
      within = λ q l u. ⊎_elim
          (λ same. subst (λ x. x < n) (sym (ap (λ x. get_or (set events (r - 1) e) x 0) same ∙ get_or-set_same events (r - 1) e 0 (omega (arith, k.events_long, k.low)))) below)
          (λ ne. let off : q ≢ r - 1 = ne in subst (λ x. x < n) (sym (get_or-set_other events (r - 1) q e 0 off)) (k.within q (omega arith) u))
          (cases_eq q (r - 1));
      there = λ q l u. ⊎_elim
          (λ same. let a : get_or (set events (r - 1) e) q 0 ≡ e = ap (λ x. get_or (set events (r - 1) e) x 0) same ∙ get_or-set_same events (r - 1) e 0 (omega (arith, k.events_long, k.low)) in
          ap (λ x. get_or (set ranks e (r - 1)) x 0) a ∙ get_or-set_same ranks e (r - 1) 0 (omega (arith, k.ranks_long)) ∙ sym same)
          (λ ne. let off : q ≢ r - 1 = ne in let a : get_or (set events (r - 1) e) q 0 ≡ get_or events q 0 = get_or-set_other events (r - 1) q e 0 off in
          let apart : get_or events q 0 ≢ e = absent events e r (n - r) (left_absent n es e is_left) q (omega arith) (omega (arith, k.low)) in
          ap (λ x. get_or (set ranks e (r - 1)) x 0) a ∙ get_or-set_other ranks e (get_or events q 0) (r - 1) 0 apart ∙ k.there q (omega arith) u)
          (cases_eq q (r - 1));
    }

trivial : (n : ℕ) (f : Graph) → Ranked n f []
unfolding Ranked
trivial n f = tt

pub ranking_starts : (n : ℕ) (t0 : List Marks) (free : Marks) (events ranks : List ℕ) → length events ≡ 128 → length ranks ≡ 128 → length t0 ≡ n → ((q : ℕ) → has free q ≡ ltb q n) → Ranking n t0 t0 free events ranks n
ranking_starts n t0 free events ranks a b s f =
    let z : stretch events n (n - n) ≡ [] = ap (stretch events n) (omega arith) ∙ stretch_none events n in
    record {
      events_long = a;
      ranks_long = b;
      low = omega arith;
      size = s;
      near = sym (ap (after n (graph_of t0)) z ∙ after_none n (graph_of t0));
      frees = λ q. f q ∙ sym (ap (λ l. left n l q) z ∙ keep (ltb q n));
      more = ap (λ l. how_many (left n l) n) z ∙ count_all n;
      ranked = subst (Ranked n (graph_of t0)) (sym z) (trivial n (graph_of t0));
      within = λ q l u. absurd (omega arith);
      there = λ q l u. absurd (omega arith);
    }

pub ranking_ends : (n : ℕ) (t0 t : List Marks) (free : Marks) (events ranks : List ℕ) (r : ℕ) → Ranking n t0 t free events ranks r → ((x : ℕ) → has free x ≡ false) → r ≡ 0
ranking_ends n t0 t free events ranks r k h = sym k.more ∙ count_none (left n (stretch events r (n - r))) n (λ x l. sym (k.frees x) ∙ h x)

pub whole : (n : ℕ) (f : Graph) (events : List ℕ) (r : ℕ) → r ≡ 0 → Ranked n f (stretch events r (n - r)) → Ranked n f (stretch events 0 n)
whole n f events r e h = subst (λ m. Ranked n f (stretch events 0 m)) (omega arith) (subst (λ x. Ranked n f (stretch events x (n - r))) e h)

pub ranking_within : (n : ℕ) (t0 t : List Marks) (free : Marks) (events ranks : List ℕ) (r : ℕ) → Ranking n t0 t free events ranks r → (q : ℕ) → has free q ≡ true → q < length t
ranking_within n t0 t free events ranks r k q h = subst (λ m. q < m) (sym k.size) (left_below n (stretch events r (n - r)) q (sym (k.frees q) ∙ h))

-- neighbours that are free are free
pub lower_free : (t : List Marks) (free free' mine : Marks) (e : ℕ) → ((q : ℕ) → has mine q ≡ (graph_of t e q && has free' q)) → ((q : ℕ) → has free' q ≡ (has free q && not (eqb q e))) → (q : ℕ) → has mine q ≡ true → has free q ≡ true
lower_free t free free' mine e m g q h = (and_parts _ _ (sym (g q) ∙ (and_parts _ _ (sym (m q) ∙ h)).1)).0

pub whole_after : (n : ℕ) (f g : Graph) (events : List ℕ) (r : ℕ) → r ≡ 0 → g ≡ after n f (stretch events r (n - r)) → g ≡ after n f (stretch events 0 n)
whole_after n f g events r e h = subst (λ m. g ≡ after n f (stretch events 0 m)) (omega arith) (subst (λ x. g ≡ after n f (stretch events x (n - r))) e h)
