-- An ordering made from a list, place by place.
use Rattle.std.proofs.Common.{◌≡◌, ℕ, suc, ◌+◌, ◌<◌, ◌≤◌, ◌≢◌, List, length, get_or, set, sym, ap, ◌∙◌, subst, ⊎_elim, arith, length-set, get_or-set_other, get_or-set_same}
use Rattle.std.proofs.lemmas.Bool.{cases_eq}
use Rattle.order.proofs.Pigeons.{covered}
use Rattle.order.proofs.Faults.{Sound, sound_starts, sound_more}

-- the first k events of the list xs have their places; 255 is no place
pub record Placed (n : ℕ) (xs events ranks : List ℕ) (k : ℕ) : Type 0 where
  pub ranks_sized : length ranks ≡ 128
  pub events_sized : length events ≡ 128
  pub same : (q : ℕ) → q < k → get_or events q 0 ≡ get_or xs q 0
  pub below : (q : ℕ) → q < k → get_or xs q 0 < n
  pub there : (q : ℕ) → q < k → get_or ranks (get_or xs q 0) 0 ≡ q
  pub back : (e : ℕ) → e < n → (get_or ranks e 0 ≡ 255 → ⊥) → (get_or ranks e 0 < k) × (get_or xs (get_or ranks e 0) 0 ≡ e)
  pub sound : Sound n xs k

pub placed_starts : (n : ℕ) (xs events ranks : List ℕ) → n ≤ 128 → length xs ≡ n → length events ≡ 128 → length ranks ≡ 128 → ((e : ℕ) → e < 128 → get_or ranks e 0 ≡ 255) → Placed n xs events ranks 0
placed_starts n xs events ranks small e le lr free = record {
  ranks_sized = lr;
  events_sized = le;
  same = λ q p. absurd (omega arith);
  below = λ q p. absurd (omega arith);
  there = λ q p. absurd (omega arith);
  back = λ x p ne. absurd (ne (free x (omega arith)));
  sound = sound_starts n xs e;
}

pub placed_more : (n : ℕ) (xs events ranks : List ℕ) (k : ℕ) → n ≤ 128 → k < n → get_or xs k 0 < n → get_or ranks (get_or xs k 0) 0 ≡ 255 → Placed n xs events ranks k
    → Placed n xs (set events k (get_or xs k 0)) (set ranks (get_or xs k 0) k) (k + 1)
placed_more n xs events ranks k small l low free h =
    let x : ℕ = get_or xs k 0 in
    let new : (q : ℕ) → q < k → get_or xs q 0 ≡ x → ⊥ = λ q p e. let f : q ≡ 255 = sym (h.there q p) ∙ ap (λ y. get_or ranks y 0) e ∙ free in omega arith in
    let one : suc k ≡ k + 1 = omega arith in
    let last : (q : ℕ) → q < k + 1 → (q ≡ k → ⊥) → q < k = λ q p ne. omega arith in
    record {
      ranks_sized = length-set ranks x k ∙ h.ranks_sized;
      events_sized = length-set events k x ∙ h.events_sized;
      same = λ q p. ⊎_elim
          (λ e. ap (λ y. get_or (set events k x) y 0) e ∙ get_or-set_same events k x 0 (omega (arith, h.events_sized)) ∙ ap (λ y. get_or xs y 0) (sym e))
          (λ ne. let off : q ≢ k = ne in get_or-set_other events k q x 0 off ∙ h.same q (last q p ne)) (cases_eq q k);
      below = λ q p. ⊎_elim (λ e. subst (λ y. get_or xs y 0 < n) (sym e) low) (λ ne. h.below q (last q p ne)) (cases_eq q k);
      there = λ q p. ⊎_elim
          (λ e. ap (λ y. get_or (set ranks x k) (get_or xs y 0) 0) e ∙ get_or-set_same ranks x k 0 (omega (arith, h.ranks_sized, low)) ∙ sym e)
          (λ ne. let off : get_or xs q 0 ≢ x = new q (last q p ne) in get_or-set_other ranks x (get_or xs q 0) k 0 off ∙ h.there q (last q p ne)) (cases_eq q k);
      back = λ e p ne. ⊎_elim
          (λ s. let r : get_or (set ranks x k) e 0 ≡ k = ap (λ y. get_or (set ranks x k) y 0) s ∙ get_or-set_same ranks x k 0 (omega (arith, h.ranks_sized, low)) in
          (omega arith, ap (λ y. get_or xs y 0) r ∙ sym s))
          (λ off. let o : e ≢ x = off in
          let r : get_or (set ranks x k) e 0 ≡ get_or ranks e 0 = get_or-set_other ranks x e k 0 o in
          let b : (get_or ranks e 0 < k) × (get_or xs (get_or ranks e 0) 0 ≡ e) = h.back e p (λ z. ne (r ∙ z)) in
          (omega (arith, b.0), ap (λ y. get_or xs y 0) r ∙ b.1))
          (cases_eq e x);
      sound = subst (Sound n xs) one (sound_more n xs k l low new h.sound);
    }

-- places and events that undo each other
pub record Permutes (n : ℕ) (events ranks : List ℕ) : Type 0 where
  pub events_below : (place : ℕ) → place < n → get_or events place 0 < n
  pub ranks_below : (event : ℕ) → event < n → get_or ranks event 0 < n
  pub there : (place : ℕ) → place < n → get_or ranks (get_or events place 0) 0 ≡ place
  pub back : (event : ℕ) → event < n → get_or events (get_or ranks event 0) 0 ≡ event

-- n different places are all n
pub permutes : (n : ℕ) (events ranks : List ℕ) → ((r : ℕ) → r < n → get_or events r 0 < n) → ((r : ℕ) → r < n → get_or ranks (get_or events r 0) 0 ≡ r) → Permutes n events ranks
permutes n events ranks low there =
    let at : ℕ → ℕ = λ r. get_or events r 0 in
    let rk : ℕ → ℕ = λ e. get_or ranks e 0 in
    let inj : (r s : ℕ) → r < n → s < n → at r ≡ at s → r ≡ s = λ r s p q e. sym (there r p) ∙ ap rk e ∙ there s q in
    record {
      events_below = low;
      ranks_below = λ e p. let t = covered n at low inj e p in subst (λ x. x < n) (sym (there t.0 t.1) ∙ ap rk t.2) t.1;
      there = there;
      back = λ e p. let t = covered n at low inj e p in ap (λ x. at (rk x)) (sym t.2) ∙ ap at (there t.0 t.1) ∙ t.2;
    }

pub placed_permutes : (n k : ℕ) (xs events ranks : List ℕ) → n ≤ k → Placed n xs events ranks k → Permutes n events ranks
placed_permutes n k xs events ranks l h = permutes n events ranks
    (λ r p. subst (λ x. x < n) (sym (h.same r (omega arith))) (h.below r (omega arith)))
    (λ r p. ap (λ x. get_or ranks x 0) (h.same r (omega arith)) ∙ h.there r (omega arith))
