-- Who is left and who becomes a neighbour as events go.
use Rattle.std.proofs.Common.{◌≡◌, ℕ, ◌<◌, ◌≤◌, Bool, true, false, not, ◌&&◌, ◌||◌, eqb, ltb, List, [], ◌∷◌, sym, refl, ap, ◌∙◌, ap₂, ⊎_elim}
use Rattle.std.proofs.lemmas.Bool.{cases_eq, ltb-true, le-ltb, eq-eqb, ne_eqb, and_parts, not-true}
use Rattle.order.specs.Orderings.{among}
use Rattle.order.specs.Elimination.{Graph, left, beside, joined, after}

pub keep : (b : Bool) → (b && not false) ≡ b
keep true = refl
keep false = refl

pub and_off : (b : Bool) → (b && false) ≡ false
and_off true = refl
and_off false = refl

pub left_below : (n : ℕ) (es : List ℕ) (x : ℕ) → left n es x ≡ true → x < n
left_below n es x h = ltb-true x n (and_parts _ _ h).0

pub left_absent : (n : ℕ) (es : List ℕ) (x : ℕ) → left n es x ≡ true → among es x ≡ false
left_absent n es x h = not-true (among es x) (and_parts _ _ h).1

pub left_past : (n : ℕ) (es : List ℕ) (x : ℕ) → n ≤ x → left n es x ≡ false
left_past n es x h = ap (λ b. b && not (among es x)) (le-ltb x n h)

regroup : (a b d : Bool) → ((a && not b) && not d) ≡ (a && not (d || b))
regroup true true true = refl
regroup true true false = refl
regroup true false true = refl
regroup true false false = refl
regroup false b d = refl

pub left_more : (n : ℕ) (es : List ℕ) (e x : ℕ) → (left n es x && not (eqb x e)) ≡ left n (e ∷ es) x
left_more n es e x = regroup (ltb x n) (among es x) (eqb x e)

pub after_none : (n : ℕ) (f : Graph) → after n f [] ≡ f
unfolding after
after_none n f = refl

pub after_more : (n : ℕ) (f : Graph) (e : ℕ) (es : List ℕ) → joined (after n f es) (beside n (after n f es) (e ∷ es) e) ≡ after n f (e ∷ es)
unfolding after
after_more n f e es = refl

-- being neighbours stays mutual, and no event becomes its own neighbour
pub symmetric : (i j : ℕ) → eqb j i ≡ eqb i j
symmetric i j = ⊎_elim (λ e. eq-eqb j i (sym e) ∙ sym (eq-eqb i j e)) (λ ne. ne_eqb j i (λ e. ne (sym e)) ∙ sym (ne_eqb i j ne)) (cases_eq i j)

swap : (a b : Bool) → (a && b) ≡ (b && a)
swap true true = refl
swap true false = refl
swap false true = refl
swap false false = refl

pub stays_mutual : (n : ℕ) (graph : Graph) (gone : List ℕ) → ((i j : ℕ) → graph i j ≡ graph j i) → (i j : ℕ) → after n graph gone i j ≡ after n graph gone j i
unfolding after
stays_mutual n graph [] h i j = h i j
stays_mutual n graph (e ∷ gone) h i j =
    let p : ℕ → Bool = beside n (after n graph gone) (e ∷ gone) e in
    ap₂ (λ a b. a || (b && not (eqb i j))) (stays_mutual n graph gone h i j) (swap (p i) (p j))
    ∙ ap (λ b. after n graph gone j i || ((p j && p i) && not b)) (sym (symmetric i j))

never_own : (a : Bool) → (false || (a && not true)) ≡ false
never_own true = refl
never_own false = refl

pub stays_apart : (n : ℕ) (graph : Graph) (gone : List ℕ) → ((i : ℕ) → graph i i ≡ false) → (i : ℕ) → after n graph gone i i ≡ false
unfolding after
stays_apart n graph [] h i = h i
stays_apart n graph (e ∷ gone) h i =
    let p : ℕ → Bool = beside n (after n graph gone) (e ∷ gone) e in
    ap₂ (λ a b. a || ((p i && p i) && not b)) (stays_apart n graph gone h i) (eq-eqb i i refl) ∙ never_own (p i && p i)
