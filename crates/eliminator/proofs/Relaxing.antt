-- What relaxing a cell, a row and all pairs of lower neighbours comes to.
use Rattle.std.proofs.Common.{◌≡◌, ℕ, ◌+◌, ◌<◌, Bool, true, false, not, ◌&&◌, ◌||◌, eqb, ltb, ◌≢◌, ◌⊎◌, List, length, get_or, set, ℤ, Some, None, Option, sym, refl, ap, ◌∙◌, subst, inl, inr, ⊎_elim, arith, get_or-set_other, get_or-set_same}
use Rattle.std.proofs.lemmas.Bool.{cases_eq, cases_Bool, ltb-true, lt-ltb}
use Rattle.kinds.specs.Arithmetic.{Arithmetic, Amount, Lawful}
use Rattle.marks.specs.declared.set.Marks.{Marks}
use Rattle.marks.specs.Sets.{has}
use Rattle.table.specs.declared.cell.Cell.{Cell}
use Rattle.eliminator.specs.Views.{Grid, Written}
use Rattle.elimination.proofs.Sweep.{up_to}
use Rattle.eliminator.specs.Members.{Apart, Lists, Others}
use Rattle.eliminator.specs.Steps.{Shorter, NoShorter, Relaxed, marked, OneCell, RowPart, Part, Whole, Lower, Near, Joined}
use Rattle.eliminator.specs.State.{Bears}
use Rattle.eliminator.proofs.Visiting.{Seen, Waits, never, other, still, seen_more, seen_here, seen_less}

swapped : {K : Type 0} {A : Arithmetic} {amount : K → List ℤ} {k : ℕ} {r x r' x' : Cell K} {y z y' z' : Option K} → r' ≡ r → x' ≡ x → y' ≡ y → z' ≡ z → Relaxed A amount k r x y z → Relaxed A amount k r' x' y' z'
swapped p q s t l = rw (p, q, s, t) l

-- a lower sum as the new worked bound, and a worked bound that stays
lowered : {K : Type 0} {A : Arithmetic} (L : Lawful A) (amount : K → List ℤ) (proper : (x : K) → Amount A (amount x)) (k : ℕ) (old : Cell K) (s : K) (y z : Option K) → Shorter A amount y z old.worked s →
    Relaxed A amount k (record { bound = old.bound; worked = Some s; via = Some k; distance = old.distance; by = old.by }) old y z
lowered {K} {A} L amount proper k old s y z h = record {
  force = refl;
  either = inr (record { front = h.front; back = h.back; sum = s; front_is = h.front_is; back_is = h.back_is; sum_is = refl; via_is = refl; adds = h.adds; less = h.less });
  tries = λ b c p q _.
      let e : b ≡ h.front = cc in
      let f : c ≡ h.back = cc in
      (s, refl, rw (e, f, ← h.adds) (L.reflexive (amount s) (proper s)));
}

kept : {K : Type 0} {A : Arithmetic} {amount : K → List ℤ} {k : ℕ} {old : Cell K} {y z : Option K} → NoShorter A amount y z old.worked → Relaxed A amount k old old y z
kept h = record { force = refl; either = inl refl; tries = h }

module _ {K : Type 0} {A : Arithmetic} {amount : K → List ℤ} {n k : ℕ} where
  -- a written cell, and none written
  pub cell_lowered : (L : Lawful A) (proper : (x : K) → Amount A (amount x)) (i j : ℕ) (xs ys : Grid K) (a c v : Cell K) (f : Option K) (s : K) → a ≡ xs i j → f ≡ (xs i k).worked → c ≡ xs k j → Shorter A amount f c.worked a.worked s →
      v ≡ record { bound = a.bound; worked = Some s; via = Some k; distance = a.distance; by = a.by } → Written n i j v xs ys → OneCell A amount n k i j xs ys
  cell_lowered L proper i j xs ys a c v f s p q r h e w = record {
    here = swapped (w.here ∙ e) (sym p) (sym q) (ap (λ (t : Cell K). t.worked) (sym r)) (lowered L amount proper k a s f c.worked h);
    elsewhere = w.elsewhere;
  }

  pub cell_kept : (i j : ℕ) (xs : Grid K) (a c : Cell K) (f : Option K) → a ≡ xs i j → f ≡ (xs i k).worked → c ≡ xs k j → NoShorter A amount f c.worked a.worked → OneCell A amount n k i j xs xs
  cell_kept i j xs a c f p q r h = record {
    here = swapped (sym p) (sym p) (sym q) (ap (λ (t : Cell K). t.worked) (sym r)) (kept h);
    elsewhere = λ x y hx hy off. refl;
  }

  pub row_start : (i : ℕ) (ranks : List ℕ) (xs : Grid K) → RowPart A amount n k i (Others ranks 0 i) xs xs
  row_start i ranks xs = record { done = λ j s. absurd (omega (arith, s.0.1)); same = λ x y p q o. refl }

  -- one more column
  pub row_next : (i j : ℕ) (S S' : ℕ → Type 0) (xs ys zs : Grid K) → i < k → k < n → j < k → ¬ (S j) → S' j → ((q : ℕ) → S q → S' q) → ((q : ℕ) → S' q → S q ⊎ (q ≡ j)) → ((q : ℕ) → S' q → q < k) →
      RowPart A amount n k i S xs ys → OneCell A amount n k i j ys zs → RowPart A amount n k i S' xs zs
  row_next i j S S' xs ys zs hi hk hj off here more less low r c = record {
    done = λ y s. elim (less y s) [
      | inl t ↦ swapped (c.elsewhere i y (omega arith) (let l = low y s in omega arith) (λ e. off (subst S e.1 t))) refl refl refl (r.done y t)
      | inr e ↦ subst (λ (y : ℕ). Relaxed A amount k (zs i y) (xs i y) (xs i k).worked (xs k y).worked) (sym e)
          (swapped refl (sym (r.same i j (omega arith) (omega arith) (inr off)))
          (ap (λ (t : Cell K). t.worked) (sym (r.same i k (omega arith) hk (inr (λ t. let l = low k (more k t) in omega arith)))))
          (ap (λ (t : Cell K). t.worked) (sym (r.same k j hk (omega arith) (inl (omega arith)))))
          c.here)
    ];
    same = λ x y p q o.
        c.elsewhere x y p q (λ e. elim o [ inl d ↦ d e.0 | inr d ↦ d (subst S' (sym e.1) here) ])
        ∙ r.same x y p q (elim o [ inl d ↦ inl d | inr d ↦ inr (λ s. d (more y s)) ]);
  }

  -- the same row at columns named another way
  pub row_as : (i : ℕ) (S S' : ℕ → Type 0) (xs ys : Grid K) → ((q : ℕ) → S q → S' q) → ((q : ℕ) → S' q → S q) → RowPart A amount n k i S xs ys → RowPart A amount n k i S' xs ys
  row_as i S S' xs ys more less r = record {
    done = λ j s. r.done j (less j s);
    same = λ x y p q o. r.same x y p q (elim o [ inl d ↦ inl d | inr d ↦ inr (λ s. d (more y s)) ]);
  }

  -- one more of a list
  module _ (i m t : ℕ) (ranks : List ℕ) (xs ys : Grid K) (columns : (s : ℕ) → s < m → get_or ranks s 0 < k) (within : t < m) (r : RowPart A amount n k i (Others ranks t i) xs ys) where
    more : (q : ℕ) → Others ranks t i q → Others ranks (t + 1) i q
    more q s = ((s.0.0, omega (arith, s.0.1), s.0.2), s.1)

    less : (q : ℕ) → Others ranks (t + 1) i q → Others ranks t i q ⊎ (q ≡ get_or ranks t 0)
    less q s = elim (up_to t s.0.0 (omega (arith, s.0.1))) [
      | inl a ↦ inl ((s.0.0, a, s.0.2), s.1)
      | inr e ↦ inr (sym s.0.2 ∙ ap (λ (z : ℕ). get_or ranks z 0) e)
    ]

    pub row_front : i < k → k < n → (ys i k).worked ≡ (xs i k).worked
    row_front hi hk = ap (λ (c : Cell K). c.worked) (r.same i k (omega arith) hk (inr (λ s. let l = columns s.0.0 (omega (arith, s.0.1)) in omega (arith, s.0.2))))

    pub row_turn : (zs : Grid K) → i < k → k < n → Apart ranks m → get_or ranks t 0 ≢ i → OneCell A amount n k i (get_or ranks t 0) ys zs → RowPart A amount n k i (Others ranks (t + 1) i) xs zs
    row_turn zs hi hk apart off c =
        row_next i (get_or ranks t 0) (Others ranks t i) (Others ranks (t + 1) i) xs ys zs hi hk (columns t within) (λ s. apart s.0.0 t s.0.1 within s.0.2) ((t, omega arith, refl), off) more less
        (λ q s. subst (λ (z : ℕ). z < k) s.0.2 (columns s.0.0 (omega (arith, s.0.1)))) r c

    pub row_skip : get_or ranks t 0 ≡ i → RowPart A amount n k i (Others ranks (t + 1) i) xs ys
    row_skip e = row_as i (Others ranks t i) (Others ranks (t + 1) i) xs ys more (λ q s. elim (less q s) [ inl a ↦ a | inr f ↦ absurd (s.1 (f ∙ e)) ]) r

  -- all of a list of members
  pub row_all : (i m : ℕ) (mine others : Marks) (ranks : List ℕ) (xs ys : Grid K) → Lists (λ q. has mine q ≡ true) ranks m → ((q : ℕ) → has others q ≡ (has mine q && not (eqb q i))) →
      RowPart A amount n k i (Others ranks m i) xs ys → RowPart A amount n k i (λ q. has others q ≡ true) xs ys
  row_all i m mine others ranks xs ys l g r = row_as i (Others ranks m i) (λ q. has others q ≡ true) xs ys
      (λ q s. other mine others i g q s.1 ∙ subst (λ (z : ℕ). has mine z ≡ true) s.0.2 (l.member s.0.0 s.0.1))
      (λ q h. let w = still mine others i g q h in (l.found q w.0, w.1)) r

  pub part_start : (mine : Marks) (xs : Grid K) → Part A amount n k (Seen mine mine) (λ q. has mine q ≡ true) xs xs
  part_start mine xs = record { done = λ x y r s d. never r.0 r.1; same = λ x y p q o. refl }

  -- one more row
  pub part_turn : (i : ℕ) (mine rest less others : Marks) (xs ys zs : Grid K) → k < n → ((q : ℕ) → has mine q ≡ true → q < k) → Waits mine rest → has rest i ≡ true → ((q : ℕ) → has less q ≡ (has rest q && not (eqb q i))) →
      ((q : ℕ) → has others q ≡ (has mine q && not (eqb q i))) →
      Part A amount n k (Seen mine rest) (λ q. has mine q ≡ true) xs ys → RowPart A amount n k i (λ q. has others q ≡ true) ys zs → Part A amount n k (Seen mine less) (λ q. has mine q ≡ true) xs zs
  part_turn i mine rest less others xs ys zs hk low w h f g p r =
      let hi = low i (w i h) in
      record {
        done = λ x y a b d. elim (seen_less rest less i f mine x a) [
          | inl t ↦ swapped (r.same x y (let l = low x a.0 in omega arith) (let l = low y b in omega arith) (inl (λ e. never (subst (λ (z : ℕ). has rest z ≡ true) (sym e) h) t.1))) refl refl refl (p.done x y t b d)
          | inr e ↦ subst (λ (x : ℕ). Relaxed A amount k (zs x y) (xs x y) (xs x k).worked (xs k y).worked) (sym e)
              (swapped refl
              (sym (p.same i y (omega arith) (let l = low y b in omega arith) (inl (λ s. never h s.1))))
              (ap (λ (t : Cell K). t.worked) (sym (p.same i k (omega arith) hk (inl (λ s. never h s.1)))))
              (ap (λ (t : Cell K). t.worked) (sym (p.same k y hk (let l = low y b in omega arith) (inl (λ s. let l = low k s.0 in omega arith)))))
              (r.done y (other mine others i g y (λ q. d (e ∙ sym q)) ∙ b)))
        ];
        same = λ x y a b o.
            r.same x y a b (elim o [
              | inl s ↦ inl (λ e. s (subst (Seen mine less) (sym e) (seen_here rest less i f mine w h)))
              | inr t ↦ elim t [
                | inl s ↦ inr (λ z. s (still mine others i g y z).0)
                | inr e ↦ elim (cases_eq x i) [ inl q ↦ inr (λ z. (still mine others i g y z).1 (sym e ∙ q)) | inr ne ↦ inl ne ]
              ]
            ])
            ∙ p.same x y a b (elim o [ inl s ↦ inl (λ z. s (seen_more rest less i f mine x z)) | inr t ↦ inr t ]);
      }

  pub part_done : (mine rest : Marks) (xs ys : Grid K) → ((q : ℕ) → has rest q ≡ false) → Part A amount n k (Seen mine rest) (λ q. has mine q ≡ true) xs ys → Part A amount n k (λ q. has mine q ≡ true) (λ q. has mine q ≡ true) xs ys
  part_done mine rest xs ys e p = record {
    done = λ x y r s d. p.done x y (r, e x) s d;
    same = λ x y a b o. p.same x y a b (elim o [ inl s ↦ inl (λ z. s z.0) | inr t ↦ inr t ]);
  }

-- the marks of the members: one row after the other
pub joined_start : (mine : Marks) (near : List Marks) → Joined (Seen mine mine) mine near near
joined_start mine near i j h = (h, λ s. never s.0 s.1)

or_false : (a b : Bool) → (a || b) ≡ false → (a ≡ false) × (b ≡ false)
or_false true b e = never refl e
or_false false b e = (refl, e)

pub joined_turn : (i : ℕ) (mine rest less others new : Marks) (before near : List Marks) → i < length near → ((q : ℕ) → has less q ≡ (has rest q && not (eqb q i))) → ((q : ℕ) → has others q ≡ (has mine q && not (eqb q i))) →
    ((q : ℕ) → has new q ≡ (has (marked near i) q || has others q)) → Joined (Seen mine rest) mine before near → Joined (Seen mine less) mine before (set near i new)
joined_turn i mine rest less others new before near lt f g m t x j h = ⊎_elim
    (λ e.
    let z : has new j ≡ false = sym (ap (λ (y : Marks). has y j) (ap (λ (y : ℕ). marked (set near i new) y) e ∙ get_or-set_same near i new _ lt)) ∙ h in
    let (p, q) = or_false (has (marked near i) j) (has others j) (sym (m j) ∙ z) in
    (ap (λ (y : ℕ). has (marked before y) j) e ∙ (t i j p).0, λ s o. ⊎_elim (λ same. e ∙ sym same) (λ ne. never (other mine others i g j ne ∙ o) q) (cases_eq j i)))
    (λ ne.
    let (p, q) = t x j (sym (ap (λ (y : Marks). has y j) (let off : x ≢ i = ne in get_or-set_other near i x new _ off)) ∙ h) in
    (p, λ s o. elim (seen_less rest less i f mine x s) [ inl old ↦ q old o | inr e ↦ absurd (ne e) ]))
    (cases_eq x i)

pub joined_done : (mine rest : Marks) (before near : List Marks) → ((q : ℕ) → has rest q ≡ false) → Joined (Seen mine rest) mine before near → Joined (λ q. has mine q ≡ true) mine before near
joined_done mine rest before near e t i j h = let (p, q) = t i j h in (p, λ s o. q (s, e i) o)

and_true : (a b : Bool) → (a && b) ≡ true → b ≡ true
and_true true b e = e
and_true false b e = never e refl

and_false : (a b : Bool) → (a && b) ≡ false → b ≡ true → a ≡ false
and_false true b e h = never h e
and_false false b e h = refl

pub lower_of : (near : List Marks) (k : ℕ) (below mine : Marks) → ((q : ℕ) → has below q ≡ ltb q k) → ((q : ℕ) → has mine q ≡ (has (marked near k) q && has below q)) → Lower near k mine
lower_of near k below mine f g = record {
  members = λ q h. ltb-true q k (sym (f q) ∙ and_true (has (marked near k) q) (has below q) (sym (g q) ∙ h));
  strangers = λ q l h. and_false (has (marked near k) q) (has below q) (sym (g q) ∙ h) (f q ∙ lt-ltb q k l);
}

not_member : {b : Bool} → b ≡ false → ¬ (b ≡ true)
not_member h t = never t h

-- a cell that has nothing to relax it
idle : {K : Type 0} {A : Arithmetic} {amount : K → List ℤ} {k : ℕ} {r old : Cell K} {y z : Option K} → r ≡ old → (y ≡ None) ⊎ (z ≡ None) → Relaxed A amount k r old y z
idle {K} e o = record {
  force = ap (λ (t : Cell K). t.bound) e;
  either = inl e;
  tries = λ b c p q s. elim o [ inl h ↦ let z : ◌≡◌ {A = ℕ} 0 1 = cc in absurd (omega arith) | inr h ↦ let z : ◌≡◌ {A = ℕ} 0 1 = cc in absurd (omega arith) ];
}

module _ {K : Type 0} {A : Arithmetic} {amount : K → List ℤ} {n k : ℕ} where
  module _ (near : List Marks) (mine : Marks) (xs ys : Grid K) (hk : k < n) (lower : Lower near k mine) (marks : Near n xs near) (p : Part A amount n k (λ q. has mine q ≡ true) (λ q. has mine q ≡ true) xs ys) where
    -- pairs that were not visited have nothing to relax
    pub whole : Whole A amount n k xs ys
    whole = record {
      done = λ x y hx hy d. elim (cases_Bool (has mine x)) [
        | inl a ↦ elim (cases_Bool (has mine y)) [
          | inl b ↦ p.done x y a b d
          | inr b ↦ idle (p.same x y (omega arith) (omega arith) (inr (inl (not_member b)))) (inr (marks k y hk (omega arith) (omega arith) (lower.strangers y hy b)).0)
        ]
        | inr a ↦ idle (p.same x y (omega arith) (omega arith) (inl (not_member a))) (inl (marks k x hk (omega arith) (omega arith) (lower.strangers x hx a)).1)
      ];
      same = λ x y a b o. p.same x y a b (elim o [
        | inl h ↦ inl (λ s. let l = lower.members x s in omega arith)
        | inr t ↦ inr (elim t [ inl h ↦ inl (λ s. let l = lower.members y s in omega arith) | inr e ↦ inr e ])
      ]);
    }

    pub near_next : (after : List Marks) → Joined (λ q. has mine q ≡ true) mine near after → Near n ys after
    near_next after joined i j hi hj d h =
        let (a, b) = joined i j h in
        let (u, v) = marks i j hi hj d a in
        let z : ¬ (has mine i ≡ true) ⊎ ¬ (has mine j ≡ true) = elim (cases_Bool (has mine i)) [
          | inl s ↦ inr (λ t. d (b s t))
          | inr s ↦ inl (not_member s)
        ] in (
          ap (λ (t : Cell K). t.worked) (p.same i j hi hj (elim z [ inl s ↦ inl s | inr s ↦ inr (inl s) ])) ∙ u,
          ap (λ (t : Cell K). t.worked) (p.same j i hj hi (elim z [ inl s ↦ inr (inl s) | inr s ↦ inl s ])) ∙ v,
        )

-- the tests: members that wait no more bear
pub bears_start : {K : Type 0} (A : Arithmetic) (amount : K → List ℤ) (k : ℕ) (mine : Marks) (ys : Grid K) → (x : ℕ) → Seen mine mine x → Bears A amount (ys x k).worked (ys k x).worked
bears_start A amount k mine ys x s = never s.0 s.1

pub bears_turn : {K : Type 0} (A : Arithmetic) (amount : K → List ℤ) (k i : ℕ) (mine rest less : Marks) (ys : Grid K) → Bears A amount (ys i k).worked (ys k i).worked → ((q : ℕ) → has less q ≡ (has rest q && not (eqb q i))) →
    ((x : ℕ) → Seen mine rest x → Bears A amount (ys x k).worked (ys k x).worked) → (x : ℕ) → Seen mine less x → Bears A amount (ys x k).worked (ys k x).worked
bears_turn A amount k i mine rest less ys here f before x s = elim (seen_less rest less i f mine x s) [
  | inl t ↦ before x t
  | inr e ↦ subst (λ (z : ℕ). Bears A amount (ys z k).worked (ys k z).worked) (sym e) here
]

-- strangers have no bounds to test
pub bears_all : {K : Type 0} (A : Arithmetic) (amount : K → List ℤ) (n k : ℕ) (near : List Marks) (mine : Marks) (ys : Grid K) → k < n → Lower near k mine → Near n ys near →
    ((x : ℕ) → has mine x ≡ true → Bears A amount (ys x k).worked (ys k x).worked) → (x : ℕ) → x < k → Bears A amount (ys x k).worked (ys k x).worked
bears_all A amount n k near mine ys hk lower marks f x h = elim (cases_Bool (has mine x)) [
  | inl a ↦ f x a
  | inr a ↦ λ b c p q s. let w = (marks k x hk (omega arith) (omega arith) (lower.strangers x h a)).0 in let z : ◌≡◌ {A = ℕ} 0 1 = cc in absurd (omega arith)
]
