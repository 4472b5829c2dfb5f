-- Ranks written as events.
use Rattle.std.proofs.Common.{◌≡◌, ℕ, zero, suc, ◌+◌, ◌<◌, List, [], ◌∷◌, ◌++◌, map, length, get_or, take, set, sym, refl, ap, ◌∙◌, ap₂, inl, inr, arith}
use Rattle.std.proofs.lemmas.List.{take_more, take_more_set, map-append}
use Rattle.elimination.specs.Simple.{Member}
use Rattle.closing.specs.Trace.{Names}

member_at : (xs : List ℕ) (p : ℕ) → p < length xs → Member (get_or xs p 0) xs
member_at [] p h = absurd (omega arith)
member_at (x ∷ xs) zero h = inl refl
member_at (x ∷ xs) (suc p) h = inr (member_at xs p (omega arith))

pub rank_below : (n p : ℕ) (xs : List ℕ) → p < length xs → Names n xs → get_or xs p 0 < n
rank_below n p xs h names = names.below (get_or xs p 0) (member_at xs p h)

pub told_more : (f : ℕ → ℕ) (p v : ℕ) (place ranks : List ℕ) → p < length place → p < length ranks → v ≡ f (get_or ranks p 0) → take p place ≡ map f (take p ranks) → take (p + 1) (set place p v) ≡ map f (take (p + 1) ranks)
told_more f p v place ranks h l e t =
    take_more_set place p v h ∙ ap₂ (λ (xs : List ℕ) (x : ℕ). xs ++ (x ∷ [])) t e ∙ sym (ap (map f) (take_more ranks p 0 l) ∙ map-append f (take p ranks) (get_or ranks p 0 ∷ []))
