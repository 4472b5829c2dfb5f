-- The counts of an elimination over sets of marks.
use Rattle.std.proofs.Common.{◌≡◌, ℕ, ◌+◌, ◌-◌, ◌*◌, ◌/◌, ◌<◌, ◌≤◌, max, Bool, true, not, ◌&&◌, eqb, ltb, List, [], ◌∷◌, length, get_or, sym, refl, ap, ◌∙◌, subst, ap₂, arith}
use mathlib.Core.Path.{fun_ext}
use Rattle.std.proofs.lemmas.Nat.{mul-le}
use Rattle.marks.specs.declared.set.Marks.{Marks}
use Rattle.marks.specs.Sets.{has, how_many}
use Rattle.order.specs.Orderings.{stretch}
use Rattle.order.specs.Elimination.{Graph, left, beside, degree, joined, after, pairs, not_joined, width_of, fill_of, looks_of}
use Rattle.order.specs.Neighbours.{graph_of}
use Rattle.order.specs.declared.counts.Counts.{Counts}
use Rattle.order.specs.Counted.{counts_of}
use Rattle.marks.proofs.Counting.{count_up}
use Rattle.order.proofs.Stretches.{stretch_step, stretch_length, stretch_none}
use Rattle.order.proofs.Eliminations.{keep, and_off, left_below, left_more, left_past, after_none, after_more}
use Rattle.order.proofs.Ranks.{joined_all}
use Rattle.order.proofs.Looks.{looks_bounded}

-- While counts are told: the events of rank r and above are gone.
pub record Telling (n : ℕ) (t0 t : List Marks) (free : Marks) (events : List ℕ) (r width fill looks : ℕ) : Type 0 where
  pub low : r ≤ n
  pub size : length t ≡ n
  pub near : graph_of t ≡ after n (graph_of t0) (stretch events r (n - r))
  pub frees : (q : ℕ) → has free q ≡ left n (stretch events r (n - r)) q
  pub width_is : width ≡ width_of n (graph_of t0) (stretch events r (n - r))
  pub fill_is : fill ≡ fill_of n (graph_of t0) (stretch events r (n - r))
  pub looks_is : looks ≡ looks_of n (graph_of t0) (stretch events r (n - r))
  pub fill_fits : fill ≤ (n - r) * 16384
  pub looks_fits : looks ≤ (n - r) * 16384

pub telling_starts : (n : ℕ) (t0 : List Marks) (free : Marks) (events : List ℕ) → length t0 ≡ n → ((q : ℕ) → has free q ≡ ltb q n) → Telling n t0 t0 free events n 0 0 0
unfolding width_of fill_of looks_of
telling_starts n t0 free events s f =
    let z : stretch events n (n - n) ≡ [] = ap (stretch events n) (omega arith) ∙ stretch_none events n in
    record {
      low = omega arith;
      size = s;
      near = sym (ap (after n (graph_of t0)) z ∙ after_none n (graph_of t0));
      frees = λ q. f q ∙ sym (ap (λ l. left n l q) z ∙ keep (ltb q n));
      width_is = sym (ap (width_of n (graph_of t0)) z);
      fill_is = sym (ap (fill_of n (graph_of t0)) z);
      looks_is = sym (ap (looks_of n (graph_of t0)) z);
      fill_fits = omega arith;
      looks_fits = omega arith;
    }

width_more : (n : ℕ) (f : Graph) (e : ℕ) (es : List ℕ) → width_of n f (e ∷ es) ≡ max (width_of n f es) (degree n (after n f es) (e ∷ es) e)
unfolding width_of
width_more n f e es = refl

fill_more : (n : ℕ) (f : Graph) (e : ℕ) (es : List ℕ) → fill_of n f (e ∷ es) ≡ fill_of n f es + pairs (not_joined (after n f es) (beside n (after n f es) (e ∷ es) e)) n
unfolding fill_of
fill_more n f e es = refl

looks_more : (n : ℕ) (f : Graph) (e : ℕ) (es : List ℕ) → looks_of n f (e ∷ es) ≡ looks_of n f es + (n - length es - 1) * degree n (after n f es) (e ∷ es) e
unfolding looks_of
looks_more n f e es = refl

pub telling_turn : (n : ℕ) (t0 t t' : List Marks) (free free' mine : Marks) (events : List ℕ) (r e d a width fill looks : ℕ) → n ≤ 128 → 0 < r → e ≡ get_or events (r - 1) 0
    → Telling n t0 t free events r width fill looks → length t' ≡ length t
    → ((i j : ℕ) → graph_of t' i j ≡ joined (graph_of t) (has mine) i j)
    → ((q : ℕ) → has mine q ≡ (graph_of t e q && has free' q)) → ((q : ℕ) → has free' q ≡ (has free q && not (eqb q e)))
    → d ≡ how_many (has mine) 128 → d ≤ 128
    → a ≡ pairs (not_joined (graph_of t) (has mine)) (length t) → a ≤ 16384
    → Telling n t0 t' free' events (r - 1) (max width d) (fill + a) (looks + (r - 1) * d)
telling_turn n t0 t t' free free' mine events r e d a width fill looks small pos is k s' f m g de db ae ab =
    let es : List ℕ = stretch events r (n - r) in
    let fs : ℕ → ℕ → Bool = after n (graph_of t0) es in
    let grown : stretch events (r - 1) (n - (r - 1)) ≡ e ∷ es = stretch_step events r n pos k.low ∙ ap (λ x. x ∷ es) (sym is) in
    let frees' : (q : ℕ) → has free' q ≡ left n (e ∷ es) q = λ q. g q ∙ ap (λ b. b && not (eqb q e)) (k.frees q) ∙ left_more n es e q in
    let mine_is : has mine ≡ beside n fs (e ∷ es) e = fun_ext (λ q. m q ∙ ap₂ (λ x b. x e q && b) k.near (frees' q)) in
    let d_is : d ≡ degree n fs (e ∷ es) e = de ∙ ap (λ p. how_many p 128) mine_is
    ∙ count_up (beside n fs (e ∷ es) e) n 128 small (λ y l. ap (λ b. fs e y && b) (left_past n (e ∷ es) y l) ∙ and_off (fs e y)) in
    let a_is : a ≡ pairs (not_joined fs (beside n fs (e ∷ es) e)) n =
    ae ∙ ap₂ (λ p x. pairs (not_joined x p) (length t)) mine_is k.near ∙ ap (pairs _) k.size in
    let rank : n - length es - 1 ≡ r - 1 = omega (arith, stretch_length events r (n - r), k.low) in
    record {
      low = omega (arith, k.low);
      size = s' ∙ k.size;
      near = joined_all n t t' free' mine (e ∷ es) e f m frees' ∙ ap (λ x. joined x (beside n x (e ∷ es) e)) k.near ∙ after_more n (graph_of t0) e es ∙ ap (after n (graph_of t0)) (sym grown);
      frees = λ q. frees' q ∙ ap (λ l. left n l q) (sym grown);
      width_is = ap₂ max k.width_is d_is ∙ sym (ap (width_of n (graph_of t0)) grown ∙ width_more n (graph_of t0) e es);
      fill_is = ap₂ (λ x y. x + y) k.fill_is a_is ∙ sym (ap (fill_of n (graph_of t0)) grown ∙ fill_more n (graph_of t0) e es);
      looks_is = ap₂ (λ x y. x + y) k.looks_is (ap₂ (λ x y. x * y) (sym rank) d_is) ∙ sym (ap (looks_of n (graph_of t0)) grown ∙ looks_more n (graph_of t0) e es);
      fill_fits = omega (arith, k.fill_fits, k.low, k.size);
      looks_fits = omega (arith, k.looks_fits, k.low, mul-le (r - 1) d 128 128 (omega (arith, k.low)) db);
    }

pub telling_width : (n : ℕ) (t0 t : List Marks) (free : Marks) (events : List ℕ) (r m m' fill looks : ℕ) → m' ≡ m → Telling n t0 t free events r m fill looks → Telling n t0 t free events r m' fill looks
telling_width n t0 t free events r m m' fill looks e h = subst (λ x. Telling n t0 t free events r x fill looks) (sym e) h

zero_less : (n : ℕ) → n - 0 ≡ n
zero_less n = omega arith

pub telling_within : (n : ℕ) (t0 t : List Marks) (free : Marks) (events : List ℕ) (r width fill looks : ℕ) → Telling n t0 t free events r width fill looks → (q : ℕ) → has free q ≡ true → q < length t
telling_within n t0 t free events r width fill looks k q h = subst (λ m. q < m) (sym k.size) (left_below n (stretch events r (n - r)) q (sym (k.frees q) ∙ h))

-- when no rank is left, the counts are those of the whole ordering
pub telling_ends : (n : ℕ) (t0 t : List Marks) (free : Marks) (events : List ℕ) (r width fill looks : ℕ) → r ≤ 0 → Telling n t0 t free events r width fill looks → Telling n t0 t free events 0 width fill looks
telling_ends n t0 t free events r width fill looks l k = subst (λ x. Telling n t0 t free events x width fill looks) (omega arith) k

pub told_all : (n : ℕ) (t0 t : List Marks) (free : Marks) (events : List ℕ) (width fill looks : ℕ) → Telling n t0 t free events 0 width fill looks
    → ◌≡◌ {A = Counts} (record { width = width; fill = fill; looks = looks }) (counts_of n (graph_of t0) (stretch events 0 n))
told_all n t0 t free events width fill looks k =
    let e : stretch events 0 (n - 0) ≡ stretch events 0 n = ap (stretch events 0) (zero_less n) in
    let a = k.width_is ∙ ap (width_of n (graph_of t0)) e in
    let b = k.fill_is ∙ ap (fill_of n (graph_of t0)) e in
    let d = k.looks_is ∙ ap (looks_of n (graph_of t0)) e in
    same_counts a b d
  where
    same_counts : {a b c x y z : ℕ} → a ≡ x → b ≡ y → c ≡ z → ◌≡◌ {A = Counts} (record { width = a; fill = b; looks = c }) (record { width = x; fill = y; looks = z })
    same_counts p q r = cc

pub told_after : (n : ℕ) (t0 t : List Marks) (free : Marks) (events : List ℕ) (width fill looks : ℕ) → Telling n t0 t free events 0 width fill looks → graph_of t ≡ after n (graph_of t0) (stretch events 0 n)
told_after n t0 t free events width fill looks k = k.near ∙ ap (λ m. after n (graph_of t0) (stretch events 0 m)) (zero_less n)

pub told_bounded : (n : ℕ) (t0 t : List Marks) (free : Marks) (events : List ℕ) (width fill looks : ℕ) → Telling n t0 t free events 0 width fill looks → looks ≤ width * n * (n - 1) / 2
told_bounded n t0 t free events width fill looks k =
    subst (λ w. looks ≤ w * n * (n - 1) / 2) (sym k.width_is) (subst (λ x. x ≤ width_of n (graph_of t0) (stretch events 0 (n - 0)) * n * (n - 1) / 2) (sym k.looks_is) (looks_bounded n (graph_of t0) (stretch events 0 (n - 0))))
