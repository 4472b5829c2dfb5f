-- A distance is the sum of a walk that names no event twice.
use Rattle.std.proofs.Common.{◌≡◌, ℕ, ◌<◌, ◌⊎◌, List, [], ◌∷◌, ◌++◌, ℤ, sym, refl, subst, inl, inr}
use Rattle.kinds.specs.Arithmetic.{Arithmetic, Lawful}
use Rattle.walks.specs.Bounds.{Bounds, InForce, Within}
use Rattle.walks.specs.Walks.{Member, Distinct, Walk}
use Rattle.walks.specs.Walks.Walk.{alone, on}
use Rattle.walks.specs.Claims.{DistanceHasRoute}
use Rattle.walks.proofs.Names.{pigeons}
use Rattle.walks.proofs.Least.{walk_amount}
use Rattle.walks.proofs.Cuts.{names_within}
use Rattle.walks.proofs.Distances.{short, least_one}

pub last_member : (xs : List ℕ) (j z : ℕ) → Member z (xs ++ (j ∷ [])) → Member z xs ⊎ (z ≡ j)
last_member [] j z (inl e) = inr e
last_member [] j z (inr m) = absurd m
last_member (x ∷ xs) j z (inl e) = inl (inl e)
last_member (x ∷ xs) j z (inr m) = elim (last_member xs j z m) [ inl h ↦ inl (inr h) | inr e ↦ inr e ]

pub last_distinct : (xs : List ℕ) (j : ℕ) → Distinct xs → ¬ (Member j xs) → Distinct (xs ++ (j ∷ []))
last_distinct [] j d h = (λ m. m, tt)
last_distinct (x ∷ xs) j d h = (λ m. elim (last_member xs j x m) [ inl k ↦ d.0 k | inr e ↦ h (inl (sym e)) ], last_distinct xs j d.1 (λ m. h (inr m)))

module _ {A : Arithmetic} (L : Lawful A) (n : ℕ) (F : Bounds) (net : Within A n F) where
  pub ends_within : {i j : ℕ} {vs : List ℕ} {s : List ℤ} → Walk A (InForce F) i vs j s → i < n → j < n
  ends_within alone h = h
  ends_within (on e w q) h = ends_within w (net.below _ _ _ e).1

pub route : DistanceHasRoute
route A L n F net calm i j d e =
    let o = least_one L n F net calm i j d e in
    let c = short L n F net calm o.0.1 in
    let pd = walk_amount A L n F net o.0.1 in
    let same : c.sum ≡ d = L.antisymmetric c.sum d (walk_amount A L n F net c.walk) pd c.less (o.1 _ _ c.walk) in
    let once = last_distinct c.names j c.once c.out in (
      c.names ++ (j ∷ []),
      record { front = c.names; shown = refl; walk = subst (λ (z : List ℤ). Walk A (InForce F) i c.names j z) same c.walk; once = once },
      λ h. pigeons n (c.names ++ (j ∷ [])) once (λ z m. elim (last_member c.names j z m) [
        | inl k ↦ names_within L n F net c.walk z k
        | inr q ↦ subst (λ (y : ℕ). y < n) (sym q) (ends_within L n F net c.walk h)
      ]),
    )
