-- A row of events that keeps each once.
use Rattle.std.proofs.Common.{◌≡◌, ℕ, zero, suc, ◌+◌, ◌<◌, ◌≤◌, ◌⊎◌, List, [], ◌∷◌, ◌++◌, length, get_or, take, set, sym, refl, ap, ◌∙◌, inl, inr, add-one, arith, length-take-le, get_or-take, take-take, take-suc-set}
use native.Mathlib.Decide.{ℕ_discrete}
use Rattle.elimination.specs.Simple.{Member, Distinct}
use Rattle.elimination.proofs.Short.{pigeons}
use Rattle.closing.specs.Trace.{Names, choose, pushed}

pub choose_yes : {P : Type 0} (d : Dec P) (x y : List ℕ) → P → choose d x y ≡ x
choose_yes (yes p) x y h = refl
choose_yes (no p) x y h = absurd (p h)

pub choose_no : {P : Type 0} (d : Dec P) (x y : List ℕ) → ¬ P → choose d x y ≡ y
choose_no (yes p) x y h = absurd (h p)
choose_no (no p) x y h = refl

pub pushed_found : (xs : List ℕ) (p v : ℕ) → p < length xs → get_or xs p 0 ≡ v → ((q : ℕ) → q < p → get_or xs q 0 ≡ v → ⊥) → pushed xs v ≡ take (suc p) xs
pushed_found [] p v h e f = absurd (omega arith)
pushed_found (x ∷ xs) zero v h e f = choose_yes (ℕ_discrete x v) _ _ e
pushed_found (x ∷ xs) (suc p) v h e f = choose_no (ℕ_discrete x v) _ _ (f 0 (omega arith)) ∙ ap (λ (t : List ℕ). x ∷ t) (pushed_found xs p v (omega arith) e (λ q l. f (suc q) (omega arith)))

pub pushed_new : (xs : List ℕ) (v : ℕ) → ((q : ℕ) → q < length xs → get_or xs q 0 ≡ v → ⊥) → pushed xs v ≡ xs ++ (v ∷ [])
pushed_new [] v f = refl
pushed_new (x ∷ xs) v f = choose_no (ℕ_discrete x v) _ _ (f 0 (omega arith)) ∙ ap (λ (t : List ℕ). x ∷ t) (pushed_new xs v (λ q l. f (suc q) (omega arith)))

no_member : (xs : List ℕ) (v : ℕ) → ((q : ℕ) → q < length xs → get_or xs q 0 ≡ v → ⊥) → ¬ (Member v xs)
no_member [] v f m = m
no_member (x ∷ xs) v f (inl e) = f 0 (omega arith) (sym e)
no_member (x ∷ xs) v f (inr m) = no_member xs v (λ q l. f (suc q) (omega arith)) m

member_pushed : (xs : List ℕ) (v z : ℕ) → Member z (pushed xs v) → Member z xs ⊎ (z ≡ v)
member_pushed [] v z (inl e) = inr e
member_pushed [] v z (inr m) = absurd m
member_pushed (x ∷ xs) v z m = go (ℕ_discrete x v) m (member_pushed xs v z)
  where
    go : (d : Dec (x ≡ v)) → Member z (choose d (x ∷ []) (x ∷ pushed xs v)) → (Member z (pushed xs v) → Member z xs ⊎ (z ≡ v)) → Member z (x ∷ xs) ⊎ (z ≡ v)
    go (yes e) (inl q) f = inl (inl q)
    go (yes e) (inr q) f = absurd q
    go (no d) (inl q) f = inl (inl q)
    go (no d) (inr q) f = elim (f q) [ inl t ↦ inl (inr t) | inr t ↦ inr t ]

distinct_pushed : (xs : List ℕ) (v : ℕ) → Distinct xs → Distinct (pushed xs v)
distinct_pushed [] v d = (λ m. m, tt)
distinct_pushed (x ∷ xs) v d = go (ℕ_discrete x v) (distinct_pushed xs v d.1)
  where
    go : (e : Dec (x ≡ v)) → Distinct (pushed xs v) → Distinct (choose e (x ∷ []) (x ∷ pushed xs v))
    go (yes e) h = (λ m. m, tt)
    go (no e) h = (λ m. elim (member_pushed xs v x m) [ inl t ↦ d.0 t | inr t ↦ e t ], h)

pub names_pushed : (n : ℕ) (xs : List ℕ) (v : ℕ) → v < n → Names n xs → Names n (pushed xs v)
names_pushed n xs v h s = record {
  once = distinct_pushed xs v s.once;
  below = λ x m. elim (member_pushed xs v x m) [ inl t ↦ s.below x t | inr e ↦ rw e h ];
}

-- at most n events
pub few_names : (n : ℕ) (xs : List ℕ) → Names n xs → length xs ≤ n
few_names n xs s = pigeons n xs s.once s.below

-- there is room for one more
pub room : (n : ℕ) (xs : List ℕ) (v : ℕ) → v < n → Names n xs → ((q : ℕ) → q < length xs → get_or xs q 0 ≡ v → ⊥) → length xs < n
room n xs v h s f = pigeons n (v ∷ xs) (no_member xs v f, s.once) (λ x m. elim m [ inl e ↦ rw e h | inr t ↦ s.below x t ])

-- as the loop has it: the first len of out
module _ (n len v : ℕ) (out : List ℕ) (held : len ≤ length out) where
  none_of : ((q : ℕ) → q < len → get_or out q 0 ≡ v → ⊥) → (q : ℕ) → q < length (take len out) → get_or (take len out) q 0 ≡ v → ⊥
  none_of f q h e = let l = length-take-le len out held in let k : q < len = omega arith in f q k (sym (get_or-take len out q 0 k) ∙ e)

  pub has_room : v < n → Names n (take len out) → ((q : ℕ) → q < len → get_or out q 0 ≡ v → ⊥) → len < n
  has_room h s f = let r = room n (take len out) v h s (none_of f) in let l = length-take-le len out held in omega arith

  pub at_old : (p : ℕ) → p < len → get_or out p 0 ≡ v → ((q : ℕ) → q < p → get_or out q 0 ≡ v → ⊥) → take (p + 1) out ≡ pushed (take len out) v
  at_old p h e f =
      let l = length-take-le len out held in
      ap (λ (t : ℕ). take t out) (add-one p) ∙ sym (take-take (suc p) len out (omega arith)) ∙ sym (pushed_found (take len out) p v (omega arith) (get_or-take len out p 0 h ∙ e) (λ q k t. f q k (sym (get_or-take len out q 0 (omega arith)) ∙ t)))

  pub at_new : len < length out → ((q : ℕ) → q < len → get_or out q 0 ≡ v → ⊥) → take (len + 1) (set out len v) ≡ pushed (take len out) v
  at_new h f = ap (λ (t : ℕ). take t (set out len v)) (add-one len) ∙ take-suc-set out len v h ∙ sym (pushed_new (take len out) v (none_of f))
