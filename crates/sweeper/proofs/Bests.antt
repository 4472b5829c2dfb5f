-- One turn of the sweep.
use Rattle.std.proofs.Common.{◌≡◌, ℕ, ◌+◌, ◌^◌, ◌<◌, ◌≤◌, true, ◌≢◌, ◌⊎◌, List, get_or, ℤ, Some, None, Option, sym, refl, ap, ◌∙◌, subst, inl, inr, arith}
use Rattle.std.proofs.lemmas.Bool.{cases_eq, cases_Bool}
use Rattle.kinds.specs.Arithmetic.{Arithmetic, Amount, AtMost, Lawful}
use Rattle.elimination.proofs.Sweep.{up_to}
use Rattle.table.specs.declared.cell.Cell.{Cell}
use Rattle.eliminator.specs.Views.{Grid, Written}
use Rattle.sweeper.specs.declared.least.Least.{Least}
use Rattle.sweeper.specs.Sums.{Leasts, least_of, leasts, Parts}
use Rattle.marks.specs.declared.set.Marks.{Marks}
use Rattle.marks.specs.Sets.{has}
use Rattle.eliminator.specs.Steps.{Shorter, NoShorter, Lower, Near}
use Rattle.sweeper.specs.Best.{Best, SameWork, Settles, Paired, Into, Out, Done}
use Rattle.eliminator.specs.Members.{Among, Lists}

abbrev pub made : {K : Type 0} → Option K → Least K
made o = record { sum = o; by = None }

pub among_more : (ranks : List ℕ) (t q : ℕ) → Among ranks t q → Among ranks (t + 1) q
among_more ranks t q s = (s.0, omega (arith, s.1), s.2)

pub among_less : (ranks : List ℕ) (t q : ℕ) → Among ranks (t + 1) q → Among ranks t q ⊎ (q ≡ get_or ranks t 0)
among_less ranks t q s = elim (up_to t s.0 (omega (arith, s.1))) [
  | inl a ↦ inl (s.0, a, s.2)
  | inr e ↦ inr (sym s.2 ∙ ap (λ (z : ℕ). get_or ranks z 0) e)
]

-- r fell to the sum of y and z, by j
pub record Fell {K : Type 0} (A : Arithmetic) (amount : K → List ℤ) (j : ℕ) (r old : Least K) (y z : Option K) : Type 0 where
  pub front : K
  pub back : K
  pub sum : K
  pub front_is : y ≡ Some front
  pub back_is : z ≡ Some back
  pub sum_is : r.sum ≡ Some sum
  pub by_is : r.by ≡ Some j
  pub adds : amount sum ≡ A.plus (amount front) (amount back)
  pub less : (a : K) → old.sum ≡ Some a → AtMost A (amount a) (amount sum) → ⊥

-- r is old, or fell where the sum is less
pub record Lows {K : Type 0} (A : Arithmetic) (amount : K → List ℤ) (j : ℕ) (r old : Least K) (y z : Option K) : Type 0 where
  pub either : (r ≡ old) ⊎ Fell A amount j r old y z
  pub tries : (b c : K) → y ≡ Some b → z ≡ Some c → A.size (amount b) + A.size (amount c) ≤ 2 ^ 60 → (a : K) × (r.sum ≡ Some a) × AtMost A (amount a) (A.plus (amount b) (amount c))

pub fell : {K : Type 0} {A : Arithmetic} (L : Lawful A) (amount : K → List ℤ) (proper : (x : K) → Amount A (amount x)) (j : ℕ) (old : Least K) (s : K) (y z : Option K) → Shorter A amount y z old.sum s → Lows A amount j (record { sum = Some s; by = Some j }) old y z
fell {A = A} L amount proper j old s y z h = record {
  either = inr (record { front = h.front; back = h.back; sum = s; front_is = h.front_is; back_is = h.back_is; sum_is = refl; by_is = refl; adds = h.adds; less = h.less });
  tries = λ b c p q _.
      let e : b ≡ h.front = cc in
      let f : c ≡ h.back = cc in
      (s, refl, rw (e, f, ← h.adds) (L.reflexive (amount s) (proper s)));
}

pub stayed : {K : Type 0} {A : Arithmetic} (amount : K → List ℤ) (j : ℕ) (old : Least K) (y z : Option K) → NoShorter A amount y z old.sum → Lows A amount j old old y z
stayed amount j old y z h = record { either = inl refl; tries = h }

pub least_is : {K : Type 0} {a b : Option K} {x y : Option ℕ} → a ≡ b → x ≡ y → ◌≡◌ {A = Least K} (record { sum = a; by = x }) (record { sum = b; by = y })
least_is p q = rw (p, q) refl

module _ {K : Type 0} {A : Arithmetic} (L : Lawful A) (amount : K → List ℤ) (proper : (x : K) → Amount A (amount x)) (skip : ℕ) (d : Option K) (f g : ℕ → Option K) where
  pub best_start : (S : ℕ → Type 0) (r : Least K) → r ≡ made d → ((q : ℕ) → ¬ (S q)) → Best A amount S skip d f g r
  best_start S r e none = rw e record {
    plain = λ _. refl;
    parts = λ j p. let z : ◌≡◌ {A = ℕ} 0 1 = cc in absurd (omega arith);
    keeps = λ a p. (a, p, L.reflexive (amount a) (proper a));
    tries = λ j b c h. absurd (none j h);
  }

  pub best_next : (S S' : ℕ → Type 0) (j : ℕ) (r r' : Least K) (y z : Option K) → S' j → ((q : ℕ) → S q → S' q) → ((q : ℕ) → S' q → S q ⊎ (q ≡ j)) → j ≢ skip → y ≡ f j → z ≡ g j → Best A amount S skip d f g r → Lows A amount j r' r y z → Best A amount S' skip d f g r'
  best_next S S' j r r' y z here more less off p q b l = record {
    plain = λ e. elim l.either [
      | inl s ↦ ap (λ (t : Least K). t.sum) s ∙ b.plain (ap (λ (t : Least K). t.by) (sym s) ∙ e)
      | inr w ↦ let v = w.by_is in let z : ◌≡◌ {A = ℕ} 0 1 = cc in absurd (omega arith)
    ];
    parts = λ i e. elim l.either [
      | inl s ↦ let (h, o, t) = b.parts i (ap (λ (t : Least K). t.by) (sym s) ∙ e) in (more i h, o, subst (λ (v : Least K). Parts A amount v.sum (f i) (g i)) (sym s) t)
      | inr w ↦
          let v = w.by_is in
          let m : j ≡ i = cc in
          subst (λ (i : ℕ). S' i × (i ≢ skip) × Parts A amount r'.sum (f i) (g i)) m (here, off, record { front = w.front; back = w.back; sum = w.sum; front_is = sym p ∙ w.front_is; back_is = sym q ∙ w.back_is; sum_is = w.sum_is; adds = w.adds })
    ];
    keeps = λ a e. let (x, h, t) = b.keeps a e in below x (amount a) h (proper a) t;
    tries = λ i x y' h o s t fits. elim (less i h) [
      | inl lt ↦ let (v, k, m) = b.tries i x y' lt o s t fits in below v (A.plus (amount x) (amount y')) k (L.plus_amount (amount x) (amount y') (proper x) (proper y')) m
      | inr e ↦ l.tries x y' (p ∙ ap f (sym e) ∙ s) (q ∙ ap g (sym e) ∙ t) fits
    ];
  }
    where
      below : (x : K) (a : List ℤ) → r.sum ≡ Some x → Amount A a → AtMost A (amount x) a → (b : K) × (r'.sum ≡ Some b) × AtMost A (amount b) a
      below x a e h t = elim l.either [
        | inl s ↦ (x, ap (λ (t : Least K). t.sum) s ∙ e, t)
        | inr w ↦ (
          w.sum,
          w.sum_is,
          L.transitive (amount w.sum) (amount x) a (proper w.sum) (proper x) h
              (elim (L.total (amount x) (amount w.sum) (proper x) (proper w.sum)) [ inl u ↦ absurd (w.less x e u) | inr u ↦ u ]) t,
        )
      ]

  -- one more of a list
  pub best_turn : (ranks : List ℕ) (t : ℕ) (r r' : Least K) (y z : Option K) → get_or ranks t 0 ≢ skip → y ≡ f (get_or ranks t 0) → z ≡ g (get_or ranks t 0) → Best A amount (Among ranks t) skip d f g r → Lows A amount (get_or ranks t 0) r' r y z → Best A amount (Among ranks (t + 1)) skip d f g r'
  best_turn ranks t r r' y z off p q b l = best_next (Among ranks t) (Among ranks (t + 1)) (get_or ranks t 0) r r' y z (t, omega arith, refl) (among_more ranks t) (among_less ranks t) off p q b l

  -- and the one to skip
  pub best_skip : (ranks : List ℕ) (t : ℕ) (r : Least K) → get_or ranks t 0 ≡ skip → Best A amount (Among ranks t) skip d f g r → Best A amount (Among ranks (t + 1)) skip d f g r
  best_skip ranks t r e b = record {
    plain = b.plain;
    parts = λ j p. let (h, o, w) = b.parts j p in (among_more ranks t j h, o, w);
    keeps = b.keeps;
    tries = λ j x y h o. elim (among_less ranks t j h) [ inl s ↦ b.tries j x y s o | inr s ↦ absurd (o (s ∙ e)) ];
  }

-- the two parts that a rule answered
pub both_parts : {X Y : Type 0} {r : X × Y} {a : X} {b : Y} → r ≡ (a, b) → (r.0 ≡ a) × (r.1 ≡ b)
both_parts e = (ap (λ p. p.0) e, ap (λ p. p.1) e)

-- the bound that it starts from, read off a cell
pub best_worked : {K : Type 0} (A : Arithmetic) (amount : K → List ℤ) (S : ℕ → Type 0) (skip : ℕ) (f g : ℕ → Option K) (r : Least K) {a b : Cell K} → a ≡ b → Best A amount S skip a.worked f g r → Best A amount S skip b.worked f g r
best_worked A amount S skip f g r e b = subst (λ (c : Cell _). Best A amount S skip c.worked f g r) e b

-- the same at members named another way, and sums that agree there
pub best_as : {K : Type 0} {A : Arithmetic} {amount : K → List ℤ} (S S' : ℕ → Type 0) (skip : ℕ) (d d' : Option K) (f g f' g' : ℕ → Option K) (r : Least K) → d' ≡ d → ((j : ℕ) → S j → S' j) → ((j : ℕ) → S' j → S j) →
    ((j : ℕ) → S j → f' j ≡ f j) → ((j : ℕ) → S j → g' j ≡ g j) → Best A amount S skip d f g r → Best A amount S' skip d' f' g' r
best_as S S' skip d d' f g f' g' r k more less p q b = record {
  plain = λ z. b.plain z ∙ sym k;
  parts = λ j z. let (s, o, t) = b.parts j z in (more j s, o, record { front = t.front; back = t.back; sum = t.sum; front_is = p j s ∙ t.front_is; back_is = q j s ∙ t.back_is; sum_is = t.sum_is; adds = t.adds });
  keeps = λ a z. b.keeps a (sym k ∙ z);
  tries = λ j x y h o s t. let u = less j h in b.tries j x y u o (sym (p j u) ∙ s) (sym (q j u) ∙ t);
}

-- the same where lower ranks that are no members have nothing to add
pub best_all : {K : Type 0} {A : Arithmetic} {amount : K → List ℤ} (S : ℕ → Type 0) (m skip : ℕ) (d d' : Option K) (f g f' g' : ℕ → Option K) (r r' : Least K) → r' ≡ r → d' ≡ d → ((j : ℕ) → S j → j < m) →
    ((j : ℕ) → j < m → j ≢ skip → f' j ≡ f j) → ((j : ℕ) → j < m → j ≢ skip → g' j ≡ g j) → ((j : ℕ) → j < m → S j ⊎ ((f' j ≡ None) ⊎ (g' j ≡ None))) → Best A amount S skip d f g r → Best A amount (λ q. q < m) skip d' f' g' r'
best_all {A = A} {amount} S m skip d d' f g f' g' r r' e k low p q all b = rw e record {
  plain = λ z. b.plain z ∙ sym k;
  parts = λ j z. let (s, o, t) = b.parts j z in let h = low j s in (h, o, record { front = t.front; back = t.back; sum = t.sum; front_is = p j h o ∙ t.front_is; back_is = q j h o ∙ t.back_is; sum_is = t.sum_is; adds = t.adds });
  keeps = λ a z. b.keeps a (sym k ∙ z);
  tries = λ j x y h o s t fits. elim (all j h) [
    | inl u ↦ b.tries j x y u o (sym (p j h o) ∙ s) (sym (q j h o) ∙ t) fits
    | inr u ↦ elim u [ inl v ↦ let z : ◌≡◌ {A = ℕ} 0 1 = cc in absurd (omega arith) | inr v ↦ let z : ◌≡◌ {A = ℕ} 0 1 = cc in absurd (omega arith) ]
  ];
}

-- the same at other sums that agree
pub best_same : {K : Type 0} {A : Arithmetic} {amount : K → List ℤ} (m skip : ℕ) (d : Option K) (f g f' g' : ℕ → Option K) (r r' : Least K) → r' ≡ r → ((j : ℕ) → j < m → j ≢ skip → f' j ≡ f j) → ((j : ℕ) → j < m → j ≢ skip → g' j ≡ g j) → Best A amount (λ q. q < m) skip d f g r → Best A amount (λ q. q < m) skip d f' g' r'
best_same m skip d f g f' g' r r' e p q b = best_all (λ q. q < m) m skip d d f g f' g' r r' e refl (λ j h. h) p q (λ j h. inl h) b

-- what a write of a distance leaves
pub settled : {K : Type 0} (n r s : ℕ) (least : Least K) (old new : Cell K) (xs ys : Grid K) → old ≡ xs r s → new ≡ record { bound = old.bound; worked = old.worked; via = old.via; distance = least.sum; by = least.by } → Written n r s new xs ys → Settles n r s least xs ys
settled {K} n r s least old new xs ys p q w = record {
  here = ap least_of (w.here ∙ q);
  elsewhere = λ x y hx hy off. ap least_of (w.elsewhere x y hx hy off);
  work = λ x y hx hy. elim (cases_eq x r) [
    | inl a ↦ elim (cases_eq y s) [
      | inl b ↦ subst (λ (x : ℕ). ((ys x y).bound ≡ (xs x y).bound) × ((ys x y).worked ≡ (xs x y).worked) × ((ys x y).via ≡ (xs x y).via)) (sym a) (subst (λ (y : ℕ). ((ys r y).bound ≡ (xs r y).bound) × ((ys r y).worked ≡ (xs r y).worked) × ((ys r y).via ≡ (xs r y).via)) (sym b)
          (let e = w.here ∙ q in (ap (λ (t : Cell K). t.bound) e ∙ ap (λ (t : Cell K). t.bound) p, ap (λ (t : Cell K). t.worked) e ∙ ap (λ (t : Cell K). t.worked) p, ap (λ (t : Cell K). t.via) e ∙ ap (λ (t : Cell K). t.via) p)))
      | inr b ↦ kept x y (w.elsewhere x y hx hy (λ t. b t.1))
    ]
    | inr a ↦ kept x y (w.elsewhere x y hx hy (λ t. a t.0))
  ];
}
  where
    kept : (x y : ℕ) → ys x y ≡ xs x y → ((ys x y).bound ≡ (xs x y).bound) × ((ys x y).worked ≡ (xs x y).worked) × ((ys x y).via ≡ (xs x y).via)
    kept x y e = (ap (λ (t : Cell K). t.bound) e, ap (λ (t : Cell K). t.worked) e, ap (λ (t : Cell K). t.via) e)

pub same_more : {K : Type 0} (n : ℕ) (xs ys zs : Grid K) → SameWork n xs ys → SameWork n ys zs → SameWork n xs zs
same_more n xs ys zs p q i j hi hj = let (a, b, c) = p i j hi hj in let (x, y, z) = q i j hi hj in (x ∙ a, y ∙ b, z ∙ c)

pub same_self : {K : Type 0} (n : ℕ) (xs : Grid K) → SameWork n xs xs
same_self n xs i j hi hj = (refl, refl, refl)

-- two writes
pub paired : {K : Type 0} {A : Arithmetic} {amount : K → List ℤ} (n k i : ℕ) (S : ℕ → Type 0) (a b : Least K) (xs ys zs : Grid K) → i < k → k < n →
    Best A amount S i (xs i k).worked (λ q. (xs i q).distance) (λ q. (xs q k).worked) a → Best A amount S i (xs k i).worked (λ q. (xs k q).worked) (λ q. (xs q i).distance) b →
    Settles n i k a xs ys → Settles n k i b ys zs → Paired A amount n k i S xs zs
paired {A = A} {amount} n k i S a b xs ys zs low within into out p q = record {
  into = subst (Best A amount S i (xs i k).worked (λ q. (xs i q).distance) (λ q. (xs q k).worked)) (sym (q.elsewhere i k (omega arith) within (λ e. omega arith) ∙ p.here)) into;
  out = subst (Best A amount S i (xs k i).worked (λ q. (xs k q).worked) (λ q. (xs q i).distance)) (sym q.here) out;
  elsewhere = λ x y hx hy u v. q.elsewhere x y hx hy v ∙ p.elsewhere x y hx hy u;
  work = same_more n xs ys zs p.work q.work;
}

-- the members of a list by their marks
pub paired_as : {K : Type 0} {A : Arithmetic} {amount : K → List ℤ} (n k i m : ℕ) (mine : Marks) (ranks : List ℕ) (xs ys : Grid K) → Lists (λ q. has mine q ≡ true) ranks m → Paired A amount n k i (Among ranks m) xs ys → Paired A amount n k i (λ q. has mine q ≡ true) xs ys
paired_as n k i m mine ranks xs ys l p = record {
  into = best_as (Among ranks m) (λ q. has mine q ≡ true) i _ _ _ _ _ _ _ refl inside l.found (λ j h. refl) (λ j h. refl) p.into;
  out = best_as (Among ranks m) (λ q. has mine q ≡ true) i _ _ _ _ _ _ _ refl inside l.found (λ j h. refl) (λ j h. refl) p.out;
  elsewhere = p.elsewhere;
  work = p.work;
}
  where
    inside : (q : ℕ) → Among ranks m q → has mine q ≡ true
    inside q s = subst (λ (z : ℕ). has mine z ≡ true) s.2 (l.member s.0 s.1)

which : (k i y x : ℕ) → (y < k) ⊎ ((y ≡ k) × (x < i + 1)) → ((y < k) ⊎ ((y ≡ k) × (x < i))) ⊎ ((y ≡ k) × (x ≡ i))
which k i y x (inl h) = inl (inl h)
which k i y x (inr h) = elim (up_to i x (let l = h.1 in omega arith)) [ inl l ↦ inl (inr (h.0, l)) | inr e ↦ inr (h.0, e) ]

module _ {K : Type 0} {A : Arithmetic} {amount : K → List ℤ} (n : ℕ) (xs : Grid K) where
  pub done_start : (ds : Leasts K) → Done A amount n xs 0 0 ds
  done_start ds = record { into = λ x y h o. absurd (omega arith); out = λ x y h o. absurd (omega arith); selves = λ x h. absurd (omega arith) }

  -- k with each lower one, and with itself
  pub done_row : (k i : ℕ) (ys zs : Grid K) (z : K) → i ≡ k → k < n → amount z ≡ A.zero → Settles n k k (record { sum = Some z; by = None }) ys zs → Done A amount n xs k i (leasts ys) → Done A amount n xs (k + 1) 0 (leasts zs)
  done_row k i ys zs z e within zero s t = record {
    into = λ x y h o. best_same y x _ _ _ _ _ _ _ (s.elsewhere x y (omega arith) (omega arith) (λ e. omega arith)) (λ j l d. ap (λ (t : Least K). t.sum) (s.elsewhere x j (omega arith) (omega arith) (λ e. omega arith))) (λ j l d. refl)
        (t.into x y h (elim (up_to k y (omega arith)) [ inl l ↦ inl l | inr q ↦ inr (q, omega arith) ]));
    out = λ x y h o. best_same x y _ _ _ _ _ _ _ (s.elsewhere x y (omega arith) (omega arith) (λ e. omega arith)) (λ j l d. refl) (λ j l d. ap (λ (t : Least K). t.sum) (s.elsewhere j y (omega arith) (omega arith) (λ e. omega arith)))
        (t.out x y h (elim (up_to k x (omega arith)) [ inl l ↦ inl l | inr q ↦ inr (q, omega arith) ]));
    selves = λ x h. elim (up_to k x (omega arith)) [
      | inl l ↦ let (w, p, q) = t.selves x l in (w, ap (λ (t : Least K). t.sum) (s.elsewhere x x (omega arith) (omega arith) (λ e. omega arith)) ∙ p, q)
      | inr q ↦ subst (λ (x : ℕ). (w : K) × ((leasts zs x x).sum ≡ Some w) × (amount w ≡ A.zero)) (sym q) (z, ap (λ (t : Least K). t.sum) s.here, zero)
    ];
  }

  -- k with i
  module _ (k i : ℕ) (near : List Marks) (mine : Marks) (ys zs : Grid K) (low : i < k) (within : k < n) (lower : Lower near k mine) (marks : Near n xs near) (same : SameWork n xs ys) (p : Paired A amount n k i (λ q. has mine q ≡ true) ys zs) where
    member : (j : ℕ) → j < k → (has mine j ≡ true) ⊎ (((xs k j).worked ≡ None) × ((xs j k).worked ≡ None))
    member j h = elim (cases_Bool (has mine j)) [ inl a ↦ inl a | inr a ↦ inr (marks k j within (omega arith) (omega arith) (lower.strangers j h a)) ]

    new_into : Into A amount n xs (leasts zs) i k (leasts zs i k)
    new_into = best_all (λ q. has mine q ≡ true) k i (ys i k).worked (xs i k).worked (λ q. (ys i q).distance) (λ q. (ys q k).worked) (λ q. (zs i q).distance) (λ q. (xs q k).worked) (leasts zs i k) (leasts zs i k) refl (sym (same i k (omega arith) within).1) lower.members
        (λ j h d. ap (λ (t : Least K). t.sum) (p.elsewhere i j (omega arith) (omega arith) (λ e. omega arith) (λ e. omega arith))) (λ j h d. sym (same j k (omega arith) within).1)
        (λ j h. elim (member j h) [ inl a ↦ inl a | inr a ↦ inr (inr a.1) ]) p.into

    new_out : Out A amount n xs (leasts zs) k i (leasts zs k i)
    new_out = best_all (λ q. has mine q ≡ true) k i (ys k i).worked (xs k i).worked (λ q. (ys k q).worked) (λ q. (ys q i).distance) (λ q. (xs k q).worked) (λ q. (zs q i).distance) (leasts zs k i) (leasts zs k i) refl (sym (same k i within (omega arith)).1) lower.members
        (λ j h d. sym (same k j within (omega arith)).1) (λ j h d. ap (λ (t : Least K). t.sum) (p.elsewhere j i (omega arith) (omega arith) (λ e. omega arith) (λ e. omega arith)))
        (λ j h. elim (member j h) [ inl a ↦ inl a | inr a ↦ inr (inl a.0) ]) p.out

    pub done_next : Done A amount n xs k i (leasts ys) → Done A amount n xs k (i + 1) (leasts zs)
    done_next t = record {
      into = λ x y h o. elim (which k i y x o) [
        | inl w ↦ best_same y x _ _ _ _ _ _ _ (p.elsewhere x y (omega arith) (omega arith) (λ e. omega arith) (λ e. omega arith)) (λ j l s. ap (λ (t : Least K). t.sum) (p.elsewhere x j (omega arith) (omega arith) (λ e. omega arith) (λ e. omega arith))) (λ j l s. refl) (t.into x y h w)
        | inr w ↦ subst (λ (x : ℕ). Into A amount n xs (leasts zs) x y (leasts zs x y)) (sym w.1) (subst (λ (y : ℕ). Into A amount n xs (leasts zs) i y (leasts zs i y)) (sym w.0) new_into)
      ];
      out = λ x y h o. elim (which k i x y o) [
        | inl w ↦ best_same x y _ _ _ _ _ _ _ (p.elsewhere x y (omega arith) (omega arith) (λ e. omega arith) (λ e. omega arith)) (λ j l s. refl) (λ j l s. ap (λ (t : Least K). t.sum) (p.elsewhere j y (omega arith) (omega arith) (λ e. omega arith) (λ e. omega arith))) (t.out x y h w)
        | inr w ↦ subst (λ (y : ℕ). Out A amount n xs (leasts zs) x y (leasts zs x y)) (sym w.1) (subst (λ (x : ℕ). Out A amount n xs (leasts zs) x i (leasts zs x i)) (sym w.0) new_out)
      ];
      selves = λ x h. let (w, u, v) = t.selves x h in (w, ap (λ (t : Least K). t.sum) (p.elsewhere x x (omega arith) (omega arith) (λ e. omega arith) (λ e. omega arith)) ∙ u, v);
    }
