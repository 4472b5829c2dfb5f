-- Each walk comes to no less than one that names no event twice, or else there is a loop of less than zero.
use Rattle.std.proofs.Common.{◌≡◌, ℕ, ◌<◌, ◌⊎◌, List, [], ◌∷◌, ℤ, sym, refl, ap, ◌∙◌, subst, inl, inr}
use native.Mathlib.Decide.{ℕ_discrete}
use Rattle.kinds.specs.Arithmetic.{Arithmetic, Amount, AtMost, Lawful}
use Rattle.walks.specs.Bounds.{Bounds, InForce, Within}
use Rattle.walks.specs.Walks.{Walk, UnderZero, Loop, Member, Distinct}
use Rattle.walks.specs.Walks.Walk.{alone, on}
use Rattle.walks.proofs.Order.{decide, clash, mono_right, drop_front}
use Rattle.walks.proofs.Names.{member?}
use Rattle.walks.proofs.Least.{walk_amount}

module _ {A : Arithmetic} (L : Lawful A) (n : ℕ) (F : Bounds) (net : Within A n F) where
  -- a loop under zero that names no event twice
  abbrev pub Looped : Type 0
  Looped = (events : List ℕ) × Loop A (InForce F) events

  -- a walk in two, where it first comes to i
  record Split (k i j : ℕ) (vs : List ℕ) (s : List ℤ) : Type 0 where
    us : List ℕ
    ws : List ℕ
    b : List ℤ
    c : List ℤ
    front : Walk A (InForce F) k us i b
    back : Walk A (InForce F) i ws j c
    sums : s ≡ A.plus b c
    once_front : Distinct us
    out : ¬ (Member i us)
    sub_front : (z : ℕ) → Member z us → Member z vs
    once_back : Distinct ws
    sub_back : (z : ℕ) → Member z ws → Member z vs

  split_here : {k j : ℕ} {vs : List ℕ} {s : List ℤ} (i : ℕ) → i ≡ k → Walk A (InForce F) k vs j s → Distinct vs → Split k i j vs s
  split_here {k} {vs = vs} {s = s} i p w d = rw p record {
    us = [];
    ws = vs;
    b = A.zero;
    c = s;
    front = alone;
    back = w;
    sums = sym (L.neutral s (walk_amount A L n F net w));
    once_front = tt;
    out = λ h. h;
    sub_front = λ z h. absurd h;
    once_back = d;
    sub_back = λ z h. h;
  }

  split : {k j : ℕ} {vs : List ℕ} {s : List ℤ} (i : ℕ) → Walk A (InForce F) k vs j s → Member i vs → Distinct vs → Split k i j vs s
  split i alone m d = absurd m
  split i (on {i = x} {vs = vs} {a = a} {s = s} {t = t} e w q) m d = elim (ℕ_discrete i x) [
    | yes p ↦ split_here i p (on e w q) d
    | no ne ↦
        let h : Member i vs = elim m [ inl p ↦ absurd (ne p) | inr h ↦ h ] in
        let c = split i w h d.1 in
        record {
          us = x ∷ c.us;
          ws = c.ws;
          b = A.plus a c.b;
          c = c.c;
          front = on e c.front refl;
          back = c.back;
          sums = q ∙ ap (A.plus a) c.sums ∙ sym (L.assoc a c.b c.c (net.amounts _ _ a e) (walk_amount A L n F net c.front) (walk_amount A L n F net c.back));
          once_front = (λ h. d.0 (c.sub_front x h), c.once_front);
          out = λ h. elim h [ inl p ↦ ne p | inr h ↦ c.out h ];
          sub_front = λ z h. elim h [ inl p ↦ inl p | inr h ↦ inr (c.sub_front z h) ];
          once_back = c.once_back;
          sub_back = λ z h. inr (c.sub_back z h);
        }
  ]

  pub record Short (i j : ℕ) (s : List ℤ) : Type 0 where
    pub names : List ℕ
    pub sum : List ℤ
    pub walk : Walk A (InForce F) i names j sum
    pub out : ¬ (Member j names)
    pub once : Distinct names
    pub less : AtMost A sum s

  -- back at the end
  home : {k j : ℕ} {a s : List ℤ} → InForce F j k a → Amount A s → Short k j s → Short j j (A.plus a s) ⊎ Looped
  home {j = j} {a = a} {s = s} e ps c = elim (decide (A.at_most A.zero (A.plus a c.sum))) [
    | inl h ↦ inl (record {
      names = [];
      sum = A.zero;
      walk = alone;
      out = λ h. h;
      once = tt;
      less = L.transitive _ _ _ L.zero_amount (L.plus_amount _ _ pa pc) (L.plus_amount _ _ pa ps) h (mono_right L _ _ a pc ps pa c.less);
    })
    | inr h ↦ inr (j ∷ c.names, record { at = j; rest = c.names; shown = refl; sum = A.plus a c.sum; walk = on e c.walk refl; once = (c.out, c.once); negative = h })
  ]
    where
      pa : Amount A a
      pa = net.amounts _ _ a e

      pc : Amount A c.sum
      pc = walk_amount A L n F net c.walk

  -- back inside
  meets : {i k j : ℕ} {a s : List ℤ} → InForce F i k a → Amount A s → (c : Short k j s) → Member i c.names → Short i j (A.plus a s) ⊎ Looped
  meets {i = i} {k} {j} {a = a} {s = s} e ps c m = go (split i c.walk m c.once)
    where
      pa : Amount A a
      pa = net.amounts _ _ a e

      pc : Amount A c.sum
      pc = walk_amount A L n F net c.walk

      go : Split k i j c.names c.sum → Short i j (A.plus a s) ⊎ Looped
      go d =
          let pb : Amount A d.b = walk_amount A L n F net d.front in
          let pd : Amount A d.c = walk_amount A L n F net d.back in
          let pab = L.plus_amount _ _ pa pb in
          elim (decide (A.at_most A.zero (A.plus a d.b))) [
            | inl h ↦
                let same : A.plus (A.plus a d.b) d.c ≡ A.plus a c.sum = L.assoc a d.b d.c pa pb pd ∙ ap (A.plus a) (sym d.sums) in
                let less : AtMost A d.c (A.plus a c.sum) = subst (λ (z : List ℤ). AtMost A d.c z) same (drop_front L _ _ pab pd h) in
                inl (record {
                  names = d.ws;
                  sum = d.c;
                  walk = d.back;
                  out = λ h. c.out (d.sub_back j h);
                  once = d.once_back;
                  less = L.transitive _ _ _ pd (L.plus_amount _ _ pa pc) (L.plus_amount _ _ pa ps) less (mono_right L _ _ a pc ps pa c.less);
                })
            | inr h ↦ inr (i ∷ d.us, record { at = i; rest = d.us; shown = refl; sum = A.plus a d.b; walk = on e d.front refl; once = (d.out, d.once_front); negative = h })
          ]

  extend : {i k j : ℕ} {a s : List ℤ} → InForce F i k a → Amount A s → Short k j s → Short i j (A.plus a s) ⊎ Looped
  extend {i = i} {k} {j} {a = a} {s = s} e ps c = elim (ℕ_discrete i j) [
    | yes p ↦ rw p (home (rw p at e) ps c)
    | no ne ↦ elim (member? i c.names) [
      | yes m ↦ meets e ps c m
      | no m ↦ inl (record {
        names = i ∷ c.names;
        sum = A.plus a c.sum;
        walk = on e c.walk refl;
        out = λ h. elim h [ inl p ↦ ne (sym p) | inr h ↦ c.out h ];
        once = (m, c.once);
        less = mono_right L _ _ a (walk_amount A L n F net c.walk) ps (net.amounts _ _ a e) c.less;
      })
    ]
  ]

  pub reduce : {i j : ℕ} {vs : List ℕ} {s : List ℤ} → Walk A (InForce F) i vs j s → Short i j s ⊎ Looped
  reduce alone = inl (record { names = []; sum = A.zero; walk = alone; out = λ h. h; once = tt; less = L.reflexive _ L.zero_amount })
  reduce (on e w q) = elim (reduce w) [ inl c ↦ rw q (extend e (walk_amount A L n F net w) c) | inr l ↦ inr l ]

  home_alone : {i j : ℕ} {vs : List ℕ} {s : List ℤ} → Walk A (InForce F) i vs j s → i ≡ j → ¬ (Member j vs) → s ≡ A.zero
  home_alone alone p h = refl
  home_alone (on e w q) p h = absurd (h (inl (sym p)))

  -- a walk back of less than zero holds a loop
  pub loop_in : {events : List ℕ} → UnderZero A (InForce F) events → Looped
  loop_in w = elim (reduce w.walk) [
    | inl c ↦
        let e : c.sum ≡ A.zero = home_alone c.walk refl c.out in
        clash (A.at_most A.zero w.sum) (subst (λ (z : List ℤ). AtMost A z w.sum) e c.less) w.negative
    | inr l ↦ l
  ]

  pub names_within : {i j : ℕ} {vs : List ℕ} {s : List ℤ} → Walk A (InForce F) i vs j s → (z : ℕ) → Member z vs → z < n
  names_within alone z m = absurd m
  names_within (on e w q) z (inl p) = rw p (net.below _ _ _ e).0
  names_within (on e w q) z (inr m) = names_within w z m
