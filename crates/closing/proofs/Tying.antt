-- From ranks to events, and from the theory of elimination to walks and distances.
use Rattle.std.proofs.Common.{◌≡◌, ℕ, ◌+◌, ◌*◌, ◌^◌, ◌<◌, ◌≤◌, Bool, true, false, ◌&&◌, ltb, ◌≢◌, ◌⊎◌, List, [], ◌∷◌, ◌++◌, map, length, take, ℤ, Some, None, Option, sym, refl, ap, ◌∙◌, subst, ap₂, inl, inr, arith, length-take-le}
use mathlib.Core.Path.{fun_ext}
use Rattle.std.proofs.lemmas.Bool.{and_parts, cases_eq, cases_lt, cases_Bool, ltb-true, lt-ltb}
use Rattle.kinds.specs.Arithmetic.{Arithmetic, Amount, AtMost, Lawful}
use Rattle.kinds.specs.Answers.{pick}
use Rattle.order.specs.declared.event_order.EventOrder.{EventOrder}
use Rattle.table.specs.declared.cell.Cell.{Cell}
use Rattle.table.specs.Cells.{at_cell, amount_of, bounds}
use Rattle.walks.specs.Bounds.{Bounds, InForce, Within, Apart, Sized}
use Rattle.walks.specs.Walks as events
use Rattle.walks.specs.Walks.{Route, Loop, UnderZero, Told}
use Rattle.walks.specs.Walks.Walk.{alone, on}
use Rattle.walks.specs.Least.{distance, contradictory}
use Rattle.walks.proofs.Distances.{contradiction, told, under_zero}
use Rattle.walks.proofs.Metric.{metric}
use Rattle.elimination.specs.Walks as theory
use Rattle.elimination.specs.Walks.{Any, Exact}
use Rattle.elimination.specs.Walks.Walk.{one, step}
use Rattle.elimination.specs.Simple as rows
use Rattle.elimination.specs.Simple.Row.{stop, on as along}
use Rattle.elimination.specs.Held.{Held, nil, plus, le}
use Rattle.elimination.proofs.Laws.{same, amounts, measured}
use Rattle.elimination.proofs.Sized.{swept_small, into_small, out_small}
use Rattle.eliminator.specs.Views.{Grid, event_at, rank_at, view}
use Rattle.eliminator.specs.Begun.{Begun}
use Rattle.eliminator.specs.State.{Forced, SameForce, Ready, Traced, Stage, Failed}
use Rattle.closing.specs.Trace.{Names, Shown, Shows}
use Rattle.sweeper.specs.Sums.{Leasts, leasts, Led}
use Rattle.closing.specs.Walked.{Walked}
use Rattle.sweeper.specs.Best.{SameWork, Table, Swept}
use Rattle.closing.specs.Closed.{Holds, Walks}
use Rattle.eliminator.proofs.Viewing.{view_is, one_rank}
use Rattle.eliminator.proofs.Visiting.{never}
use Rattle.eliminator.proofs.Stages.{net, single}
use Rattle.closing.proofs.Pushes.{few_names as few}
use Rattle.closing.proofs.Loops.{turned_row, turned_walk, shown_of}

-- the bounds in force of a table
module _ {K : Type 0} (amount : K → List ℤ) where
  amount_some : (o : Option K) (a : List ℤ) → amount_of amount o ≡ Some a → (b : K) × (o ≡ Some b) × (a ≡ amount b)
  amount_some None a e = cc
  amount_some (Some b) a e = (b, refl, cc)

  picked : (t : Bool) (o : Option K) (a : List ℤ) → pick t (amount_of amount o) None ≡ Some a → (t ≡ true) × ((b : K) × (o ≡ Some b) × (a ≡ amount b))
  picked true o a e = (refl, amount_some o a e)
  picked false o a e = cc

  pub bounds_some : (n : ℕ) (xs : List (Cell K)) (i j : ℕ) (a : List ℤ) → bounds amount n xs i j ≡ Some a → (i < n) × (j < n) × ((b : K) × ((at_cell n xs i j).bound ≡ Some b) × (a ≡ amount b))
  bounds_some n xs i j a e =
      let (p, q) = picked (ltb i n && ltb j n) (at_cell n xs i j).bound a e in
      let (u, v) = and_parts (ltb i n) (ltb j n) p in
      (ltb-true i n u, ltb-true j n v, q)

  pub bounds_at : (n : ℕ) (xs : List (Cell K)) (i j : ℕ) → i < n → j < n → bounds amount n xs i j ≡ amount_of amount (at_cell n xs i j).bound
  bounds_at n xs i j p q = ap (λ (t : Bool). pick t (amount_of amount (at_cell n xs i j).bound) None) (ap₂ ◌&&◌ (lt-ltb i n p) (lt-ltb j n q))

  -- equal bounds in force are equal
  pub bounds_same : (n : ℕ) (xs ys : List (Cell K)) → ((i j : ℕ) → i < n → j < n → (at_cell n ys i j).bound ≡ (at_cell n xs i j).bound) → bounds amount n ys ≡ bounds amount n xs
  bounds_same n xs ys f = fun_ext (λ i. fun_ext (λ j. go i j (ltb i n && ltb j n) refl))
    where
      go : (i j : ℕ) (t : Bool) → (ltb i n && ltb j n) ≡ t → pick t (amount_of amount (at_cell n ys i j).bound) None ≡ pick t (amount_of amount (at_cell n xs i j).bound) None
      go i j true e = let (u, v) = and_parts (ltb i n) (ltb j n) e in ap (amount_of amount) (f i j (ltb-true i n u) (ltb-true j n v))
      go i j false e = refl

  pub within_table : (A : Arithmetic) → ((x : K) → Amount A (amount x)) → (n : ℕ) (xs : List (Cell K)) → Within A n (bounds amount n xs)
  within_table A proper n xs = record {
    below = λ i j a e. let z = bounds_some n xs i j a e in (z.0, z.1);
    amounts = λ i j a e. let z = bounds_some n xs i j a e in subst (λ (y : List ℤ). Amount A y) (sym z.2.2) (proper z.2.0);
  }

-- by rank and by event
module _ {K : Type 0} (order : EventOrder) where
  at_events : (xs : List (Cell K)) (i j : ℕ) → i < order.count → j < order.count → view order xs (rank_at order i) (rank_at order j) ≡ at_cell order.count xs i j
  at_events xs i j p q = view_is order xs (rank_at order i) (rank_at order j) ∙ ap₂ (at_cell order.count xs) (order.back i p) (order.back j q)

  pub force_events : (xs ys : List (Cell K)) → SameForce order.count (view order xs) (view order ys) → (i j : ℕ) → i < order.count → j < order.count → (at_cell order.count ys i j).bound ≡ (at_cell order.count xs i j).bound
  force_events xs ys f i j p q =
      sym (ap (λ (c : Cell K). c.bound) (at_events ys i j p q)) ∙ f (rank_at order i) (rank_at order j) (order.ranks_below i p) (order.ranks_below j q) ∙ ap (λ (c : Cell K). c.bound) (at_events xs i j p q)

-- bounds in force among ranks are those among events
pub record Ties {K : Type 0} (amount : K → List ℤ) (order : EventOrder) (F : Bounds) (us : Grid K) : Type 0 where
  pub to : (r s : ℕ) (a : List ℤ) → Forced amount order.count us r s a → F (event_at order r) (event_at order s) ≡ Some a
  pub of : (i j : ℕ) (a : List ℤ) → F i j ≡ Some a → Forced amount order.count us (rank_at order i) (rank_at order j) a

pub ties : {K : Type 0} (amount : K → List ℤ) (order : EventOrder) (xs : List (Cell K)) (us : Grid K) → SameForce order.count (view order xs) us → Ties amount order (bounds amount order.count xs) us
ties {K} amount order xs us f = record {
  to = λ r s a e.
      let (p, q, (b, x, y)) = e in
      let z : (at_cell order.count xs (event_at order r) (event_at order s)).bound ≡ Some b = sym (ap (λ (c : Cell K). c.bound) (view_is order xs r s)) ∙ sym (f r s p q) ∙ x in
      bounds_at amount order.count xs (event_at order r) (event_at order s) (order.events_below r p) (order.events_below s q) ∙ ap (amount_of amount) z ∙ ap Some (sym y);
  of = λ i j a e.
      let (p, q, (b, x, y)) = bounds_some amount order.count xs i j a e in
      let u = order.ranks_below i p in
      let v = order.ranks_below j q in
      (u, v, (b, f (rank_at order i) (rank_at order j) u v ∙ ap (λ (c : Cell K). c.bound) (at_events order xs i j p q) ∙ x, y));
}

module _ {K : Type 0} {A : Arithmetic} (L : Lawful A) (amount : K → List ℤ) (proper : (x : K) → Amount A (amount x)) (order : EventOrder) (F : Bounds) (us : Grid K) (net : Within A order.count F) (tie : Ties amount order F us) where
  abbrev E : ℕ → ℕ → Held A → Type 0
  E r s a = Forced amount order.count us r s a.0

  unit_right : (a : Held A) → A.plus a.0 A.zero ≡ a.0
  unit_right a = L.comm a.0 A.zero a.1 L.zero_amount ∙ L.neutral a.0 a.1

  -- a walk of ranks is a walk of events
  pub down : {P : ℕ → Type 0} {r s : ℕ} {h : Held A} → theory.Walk (plus L) E P r s h → (vs : List ℕ) × events.Walk A (InForce F) (event_at order r) vs (event_at order s) h.0
  down (one {i = i} {j = j} {a = a} e) = (event_at order i ∷ [], on (tie.to i j a.0 e) alone (sym (unit_right a)))
  down (step {i = i} {k = k} {a = a} e p v q) = let (vs, z) = down v in (event_at order i ∷ vs, on (tie.to i k a.0 e) z (ap (λ (y : Held A). y.0) q))

  -- and the other way round
  pub up : {i j : ℕ} {vs : List ℕ} {s : List ℤ} → events.Walk A (InForce F) i vs j s → ((i ≡ j) × (s ≡ A.zero)) ⊎ ((h : Held A) × (h.0 ≡ s) × theory.Walk (plus L) E Any (rank_at order i) (rank_at order j) h)
  up alone = inl (refl, refl)
  up (on {i = i} {k = k} {j = j} {a = a} {s = s} {t = r} e v q) =
      let x : Held A = (a, net.amounts i k a e) in
      elim (up v) [
        | inl z ↦ inr (x, sym (q ∙ ap (A.plus a) z.1 ∙ unit_right x), one (subst (λ (y : ℕ). Forced amount order.count us (rank_at order i) (rank_at order y) a) z.0 (tie.of i k a e)))
        | inr z ↦ inr (plus L x z.0, ap (A.plus a) z.1 ∙ sym q, step {a = x} (tie.of i k a e) tt z.2 refl)
      ]

  -- no contradiction where no loop of ranks is under zero
  pub no_contradiction : ((r : ℕ) (h : Held A) → r < order.count → theory.Walk (plus L) E Any r r h → le A (nil L) h) → contradictory A order.count F ≡ false
  no_contradiction loops = elim (cases_Bool (contradictory A order.count F)) [
    | inr e ↦ e
    | inl e ↦
        let (shown, l) = (contradiction A L order.count F net).0.0 e in
        elim (up l.walk) [
          | inl z ↦ never (subst (λ (y : List ℤ). AtMost A A.zero y) (sym z.1) (L.reflexive A.zero L.zero_amount)) l.negative
          | inr z ↦ never (subst (λ (y : List ℤ). AtMost A A.zero y) z.1 (loops (rank_at order l.at) z.0 (inside z.2) z.2)) l.negative
        ]
  ]
    where
      inside : {r s : ℕ} {h : Held A} → theory.Walk (plus L) E Any r s h → r < order.count
      inside (one e) = e.0
      inside (step e p v q) = e.0

  -- and the other way round
  pub no_loop : contradictory A order.count F ≡ false → {P : ℕ → Type 0} (r : ℕ) (h : Held A) → theory.Walk (plus L) E P r r h → le A (nil L) h
  no_loop calm r h v = elim (cases_Bool (A.at_most A.zero h.0)) [
    | inl e ↦ e
    | inr e ↦ let (vs, z) = down v in never ((contradiction A L order.count F net).0.1 (vs, under_zero L order.count F net z e)) calm
  ]

  -- distances among ranks are distances among events
  module _ (ds : Leasts K) (swept : theory.Swept (nil L) (plus L) (le A) E order.count (Table L amount order.count ds)) (selves : (x : ℕ) → x < order.count → (z : K) × ((ds x x).sum ≡ Some z) × (amount z ≡ A.zero)) where
    pub calm_swept : contradictory A order.count F ≡ false
    calm_swept = no_contradiction (λ r h p v. swept.loops r h p v)

    told_swept : (i j : ℕ) → i < order.count → j < order.count → i ≢ j → (o : Option K) → (ds (rank_at order i) (rank_at order j)).sum ≡ o → Told A (InForce F) i j (amount_of amount o)
    told_swept i j hi hj d o e = go o e
      where
        r : ℕ
        r = rank_at order i

        s : ℕ
        s = rank_at order j

        hr : rank_at order i < order.count
        hr = order.ranks_below i hi

        hs : rank_at order j < order.count
        hs = order.ranks_below j hj

        ne : rank_at order i ≢ rank_at order j
        ne e = d (sym (order.back i hi) ∙ ap (event_at order) e ∙ order.back j hj)

        x : Exact (nil L) (plus L) (le A) E Any (Table L amount order.count ds (rank_at order i) (rank_at order j)) (rank_at order i) (rank_at order j)
        x = swept.pair (rank_at order i) (rank_at order j) hr hs ne

        go : (o : Option K) → (ds (rank_at order i) (rank_at order j)).sum ≡ o → Told A (InForce F) i j (amount_of amount o)
        go None e = λ vs z v. elim (up v) [
          | inl q ↦ d q.0
          | inr q ↦
              let (a, k, l) = x.least q.0 q.2 in
              elim k [ inl m ↦ ne m.0 | inr m ↦ let u = m.1.2.1 in cc ]
        ]
        go (Some b) e =
            let (vs, v) = down (x.sound (amount b, proper b) (inr (ne, (hr, hs, (b, e, refl))))) in (
              (vs, subst (λ (y : ℕ). events.Walk A (InForce F) y vs j (amount b)) (order.back i hi) (subst (λ (y : ℕ). events.Walk A (InForce F) (event_at order (rank_at order i)) vs y (amount b)) (order.back j hj) v)),
              λ us z u. elim (up u) [
                | inl q ↦ absurd (d q.0)
                | inr q ↦
                    let (a, k, l) = x.least q.0 q.2 in
                    elim k [
                      | inl m ↦ absurd (ne m.0)
                      | inr m ↦
                          let y = m.1.2.1 in
                          let f : m.1.2.0 ≡ b = cc in
                          subst (λ (y : List ℤ). AtMost A (amount b) y) q.1 (subst (λ (y : List ℤ). AtMost A y q.0.0) (m.1.2.2 ∙ ap amount f) l)
                    ]
              ],
            )

    pub distances_swept : (i j : ℕ) → i < order.count → j < order.count → amount_of amount (ds (rank_at order i) (rank_at order j)).sum ≡ distance A order.count F i j
    distances_swept i j hi hj = elim (cases_eq i j) [
      | inl e ↦
          let (z, p, q) = selves (rank_at order i) (order.ranks_below i hi) in
          subst (λ (y : ℕ). amount_of amount (ds (rank_at order i) (rank_at order y)).sum ≡ distance A order.count F i y) e (ap (amount_of amount) p ∙ ap Some q ∙ sym ((metric A L order.count F net calm_swept).self i))
      | inr d ↦ (told A L order.count F net calm_swept i j (amount_of amount (ds (rank_at order i) (rank_at order j)).sum)).0 (told_swept i j hi hj d (ds (rank_at order i) (rank_at order j)).sum refl)
    ]

  -- rows of ranks as walks of events: all events, and then one bound more
  row_loop : {r s u : ℕ} {vs : List ℕ} {h : Held A} → rows.Row (nil L) (plus L) E r vs s h → (c : Held A) → E s u c → events.Walk A (InForce F) (event_at order r) (map (event_at order) vs) (event_at order u) (A.plus h.0 c.0)
  row_loop {s = s} {u} stop c e = on (tie.to s u c.0 e) alone (L.neutral c.0 c.1 ∙ sym (unit_right c))
  row_loop (along {i = i} {k = k} {a = a} {t = r} f v q) c e = on (tie.to i k a.0 f) (row_loop v c e) (ap (λ (y : Held A). A.plus y.0 c.0) q ∙ L.assoc a.0 r.0 c.0 a.1 r.1 c.1)

  -- all events but the last
  row_walk : {r s : ℕ} {vs : List ℕ} {h : Held A} → rows.Row (nil L) (plus L) E r vs s h → (front : List ℕ) × (map (event_at order) vs ≡ front ++ (event_at order s ∷ [])) × events.Walk A (InForce F) (event_at order r) front (event_at order s) h.0
  row_walk stop = ([], refl, alone)
  row_walk (along {i = i} {k = k} {a = a} f v q) = let (front, e, z) = row_walk v in (event_at order i ∷ front, ap (λ (y : List ℕ). event_at order i ∷ y) e, on (tie.to i k a.0 f) z (ap (λ (y : Held A). y.0) q))

  -- events of different ranks are different
  once_map : (vs : List ℕ) → rows.Distinct vs → ((x : ℕ) → rows.Member x vs → x < order.count) → events.Distinct (map (event_at order) vs)
  once_map [] d b = tt
  once_map (x ∷ xs) d b = (λ m. go xs d.0 (λ y k. b y (inr k)) m, once_map xs d.1 (λ y k. b y (inr k)))
    where
      go : (ys : List ℕ) → ¬ (rows.Member x ys) → ((y : ℕ) → rows.Member y ys → y < order.count) → ¬ (events.Member (event_at order x) (map (event_at order) ys))
      go [] f g m = m
      go (y ∷ ys) f g (inl e) = f (inl (one_rank order x y (b x (inl refl)) (g y (inl refl)) e))
      go (y ∷ ys) f g (inr m) = go ys (λ k. f (inr k)) (λ z k. g z (inr k)) m

  pub loop_shown : (vs : List ℕ) → Names order.count vs → Shown L amount order.count us vs → Loop A (InForce F) (map (event_at order) vs)
  loop_shown vs names shown =
      let z = row_loop shown.row shown.back shown.closes in
      let (rest, e) = starts shown.row in
      record {
        at = event_at order shown.first;
        rest = rest;
        shown = e;
        sum = A.plus shown.sum.0 shown.back.0;
        walk = z;
        once = once_map vs names.once names.below;
        negative = elim (cases_Bool (A.at_most A.zero (A.plus shown.sum.0 shown.back.0))) [ inl h ↦ absurd (shown.negative h) | inr h ↦ h ];
      }
    where
      starts : {r s : ℕ} {us : List ℕ} {h : Held A} → rows.Row (nil L) (plus L) E r us s h → (rest : List ℕ) × (map (event_at order) us ≡ event_at order r ∷ rest)
      starts stop = ([], refl)
      starts (along {vs = vs} f v q) = (map (event_at order) vs, refl)

  -- a row of no greater sum than the distance is a walk of least sum
  pub route_shown : contradictory A order.count F ≡ false → (r s : ℕ) (vs : List ℕ) (h : Held A) (d : List ℤ) → Amount A d → Names order.count vs → rows.Row (nil L) (plus L) E r vs s h → AtMost A h.0 d → distance A order.count F (event_at order r) (event_at order s) ≡ Some d →
      Route A (InForce F) (event_at order r) (event_at order s) (map (event_at order) vs) d
  route_shown calm r s vs h d pd names v l e =
      let (front, q, z) = row_walk v in
      let t : Told A (InForce F) (event_at order r) (event_at order s) (Some d) = (told A L order.count F net calm (event_at order r) (event_at order s) (Some d)).1 (sym e) in
      let k : h.0 ≡ d = L.antisymmetric h.0 d h.1 pd l (t.1 front h.0 z) in
      record { front = front; shown = q; walk = subst (events.Walk A (InForce F) (event_at order r) front (event_at order s)) k z; once = once_map vs names.once names.below }

-- the table is ready for the elimination
pub ready : {K : Type 0} {A : Arithmetic} (amount : K → List ℤ) (order : EventOrder) (xs : List (Cell K)) (us : Grid K) → Begun order.count (view order xs) us → Apart (bounds amount order.count xs) → Sized A (2 ^ 40) (bounds amount order.count xs) → Ready A amount order.count us
ready {K} amount order xs us b apart sized =
    let tie = ties amount order xs us (λ i j p q. ap (λ (c : Cell K). c.bound) (b i j p q)) in
    record {
      fresh = λ i j p q. ap (λ (c : Cell K). c.worked) (b i j p q) ∙ sym (ap (λ (c : Cell K). c.bound) (b i j p q));
      plain = λ i j p q. ap (λ (c : Cell K). c.via) (b i j p q);
      calm = λ i p. none i p (us i i).bound refl;
      small = λ i j w p q e. sized (event_at order i) (event_at order j) (amount w) (tie.to i j (amount w) (p, q, (w, e, refl)));
    }
  where
    none : (i : ℕ) → i < order.count → (o : Option K) → (us i i).bound ≡ o → (us i i).bound ≡ None
    none i p None e = e
    none i p (Some w) e =
        let tie = ties amount order xs us (λ i j p q. ap (λ (c : Cell K). c.bound) (b i j p q)) in
        let f = tie.to i i (amount w) (p, p, (w, e, refl)) in
        let g = apart (event_at order i) in
        cc (f, g)

-- at most n events are written
pub few_names : (n m : ℕ) (out : List ℕ) → m ≤ length out → Names n (take m out) → m ≤ n
few_names n m out h names = let l = length-take-le m out h in let p = few n (take m out) names in omega arith

-- what the sweep left of the elimination
pub traced_same : {K : Type 0} {A : Arithmetic} {amount : K → List ℤ} (n lo : ℕ) (xs ys : Grid K) → SameWork n xs ys → Traced A amount n lo xs → Traced A amount n lo ys
traced_same n lo xs ys f t = record {
  plain = λ i j p q d e. let (a, b, c) = f i j p q in b ∙ t.plain i j p q d (sym c ∙ e) ∙ sym a;
  split = λ i j v p q d e.
      let (a, b, c) = f i j p q in
      let s = t.split i j v p q d (sym c ∙ e) in
      record {
        low_i = s.low_i;
        low_j = s.low_j;
        past = s.past;
        within = s.within;
        front = s.front;
        back = s.back;
        sum = s.sum;
        front_is = (f i v p s.within).1 ∙ s.front_is;
        back_is = (f v j s.within q).1 ∙ s.back_is;
        sum_is = b ∙ s.sum_is;
        adds = s.adds;
      };
}

pub led_same : {K : Type 0} {A : Arithmetic} {amount : K → List ℤ} (n : ℕ) (xs ys : Grid K) (ds : Leasts K) → SameWork n xs ys → Led A amount n xs ds → Led A amount n ys ds
led_same n xs ys ds f t = record {
  plain = λ i j p q d e. t.plain i j p q d e ∙ sym (f i j p q).1;
  leads = t.leads;
  ahead = λ i j m h q e.
      let z = t.ahead i j m h q e in
      let l = (t.leads i j m (omega arith) q (omega arith) e).low in
      record { front = z.front; back = z.back; sum = z.sum; front_is = z.front_is; back_is = (f m j (omega arith) q).1 ∙ z.back_is; sum_is = z.sum_is; adds = z.adds };
  back = λ i j m h p e.
      let z = t.back i j m h p e in
      let l = (t.leads i j m p (omega arith) (omega arith) e).low in
      record { front = z.front; back = z.back; sum = z.sum; front_is = (f i m p (omega arith)).1 ∙ z.front_is; back_is = z.back_is; sum_is = z.sum_is; adds = z.adds };
}

-- sizes of what closing leaves
module _ {K : Type 0} {A : Arithmetic} (L : Lawful A) (amount : K → List ℤ) (proper : (x : K) → Amount A (amount x)) (n : ℕ) (us xs : Grid K) (rdy : Ready A amount n us) (stage : Stage L amount n 0 us xs) where
  work_small : (r s : ℕ) (b : K) → r < n → s < n → r ≢ s → (xs r s).worked ≡ Some b → A.size (amount b) + 2 ^ 40 ≤ n * 2 ^ 40
  work_small r s b hr hs d e = elim (cases_lt r s) [
    | inl h ↦ into_small (amounts L) (measured L) n (net L amount proper n us rdy) stage.kept s r (single L amount proper n xs r s) hs h (amount b, proper b) (hr, hs, (b, e, refl))
    | inr h ↦ out_small (amounts L) (measured L) n (net L amount proper n us rdy) stage.kept r s (single L amount proper n xs r s) hr (omega arith) (amount b, proper b) (hr, hs, (b, e, refl))
  ]

  sum_small : (ds : Leasts K) → theory.Swept (nil L) (plus L) (le A) (λ i j a. Forced amount n us i j a.0) n (Table L amount n ds) → (r s : ℕ) (b : K) → r < n → s < n → r ≢ s → (ds r s).sum ≡ Some b → A.size (amount b) + 2 ^ 40 ≤ n * 2 ^ 40
  sum_small ds sw r s b hr hs d e = swept_small (amounts L) (measured L) n (net L amount proper n us rdy) stage.kept n sw r s (only ds r s d) (omega arith) hr hs d (amount b, proper b) (inr (d, (hr, hs, (b, e, refl))))
    where
      only : (ds : Leasts K) (r s : ℕ) → r ≢ s → (a b : Held A) → Table L amount n ds r s a → Table L amount n ds r s b → a ≡ b
      only ds r s d a b (inl p) q = absurd (d p.0)
      only ds r s d a b (inr p) (inl q) = absurd (d q.0)
      only ds r s d a b (inr p) (inr q) =
          let e = p.1.2.1 in
          let f = q.1.2.1 in
          let z : p.1.2.0 ≡ q.1.2.0 = cc in
          same L a b (p.1.2.2 ∙ ap amount z ∙ sym q.1.2.2)

under : (n m : ℕ) → n ≤ 128 → m + 2 ^ 40 ≤ n * 2 ^ 40 → m < 2 ^ 47
under n m h l = omega arith

-- what closing comes to
module _ {K : Type 0} (A : Arithmetic) (amount : K → List ℤ) (proper : (x : K) → Amount A (amount x)) (order : EventOrder) (xs xs1 xs2 : List (Cell K)) (begun : Begun order.count (view order xs) (view order xs1)) (force : SameForce order.count (view order xs1) (view order xs2)) where
  begun_force : SameForce order.count (view order xs) (view order xs1)
  begun_force i j p q = ap (λ (c : Cell K). c.bound) (begun i j p q)

  pub kept_eliminated : bounds amount order.count xs2 ≡ bounds amount order.count xs
  kept_eliminated = bounds_same amount order.count xs xs2 (force_events order xs xs2 (λ i j p q. force i j p q ∙ begun_force i j p q))

  pub loop_ends : (i k : ℕ) (vs place : List ℕ) (m : ℕ) → i < k → k < order.count → Names order.count vs → Failed A amount order.count i k (view order xs1) (view order xs2) → Shows A amount order.count (view order xs2) i k vs → take m place ≡ map (event_at order) vs →
      Lawful A → Within A order.count (bounds amount order.count xs) → Apart (bounds amount order.count xs) → Sized A (2 ^ 40) (bounds amount order.count xs) → Loop A (InForce (bounds amount order.count xs)) (take m place)
  loop_ends i k vs place m low within names failed shows e L net apart sized =
      subst (Loop A (InForce (bounds amount order.count xs))) (sym e)
      (loop_shown L amount proper order (bounds amount order.count xs) (view order xs1) net (ties amount order xs (view order xs1) begun_force) vs names
      (shown_of order.count (view order xs2) i k low within proper (view order xs1) vs force failed shows L (ready amount order xs (view order xs1) begun apart sized)))

  module _ (xs3 : List (Cell K)) (swept : Swept A amount order.count (view order xs2) (view order xs3)) where
    pub kept_swept : bounds amount order.count xs3 ≡ bounds amount order.count xs
    kept_swept = bounds_same amount order.count xs xs3 (force_events order xs xs3 (λ i j p q. (swept.work i j p q).0 ∙ force i j p q ∙ begun_force i j p q))

    pub closed_ends : ((L : Lawful A) → Ready A amount order.count (view order xs1) → Stage L amount order.count 0 (view order xs1) (view order xs2)) →
        Lawful A → Within A order.count (bounds amount order.count xs) → Apart (bounds amount order.count xs) → Sized A (2 ^ 40) (bounds amount order.count xs) → (contradictory A order.count (bounds amount order.count xs) ≡ false) × Holds A amount order xs3
    closed_ends stages L net apart sized =
        let rdy = ready amount order xs (view order xs1) begun apart sized in
        let stage = stages L rdy in
        let tie = ties amount order xs (view order xs1) begun_force in
        let sum = swept.summed in
        let sw = sum.swept L (view order xs1) rdy stage in
        let calm = calm_swept L amount proper order (bounds amount order.count xs) (view order xs1) net tie (leasts (view order xs3)) sw sum.selves in (
          calm,
          record {
            calm = ap (contradictory A order.count) kept_swept ∙ calm;
            distances = λ i j p q.
                sym (ap (λ (c : Cell K). amount_of amount c.distance) (at_events order xs3 i j p q))
                ∙ distances_swept L amount proper order (bounds amount order.count xs) (view order xs1) net tie (leasts (view order xs3)) sw sum.selves i j p q
                ∙ ap (λ (G : Bounds). distance A order.count G i j) (sym kept_swept);
            small = λ i j b p q d o.
                let hr = order.ranks_below i p in
                let hs = order.ranks_below j q in
                let ne = λ (e : rank_at order i ≡ rank_at order j). d (sym (order.back i p) ∙ ap (event_at order) e ∙ order.back j q) in
                let c = at_events order xs3 i j p q in
                elim o [
                  | inl e ↦ under order.count (A.size (amount b)) order.fits (work_small L amount proper order.count (view order xs1) (view order xs2) rdy stage (rank_at order i) (rank_at order j) b hr hs ne (sym (swept.work (rank_at order i) (rank_at order j) hr hs).1 ∙ ap (λ (c : Cell K). c.worked) c ∙ e))
                  | inr e ↦ under order.count (A.size (amount b)) order.fits (sum_small L amount proper order.count (view order xs1) (view order xs2) rdy stage (leasts (view order xs3)) sw (rank_at order i) (rank_at order j) b hr hs ne (ap (λ (c : Cell K). c.distance) c ∙ e))
                ];
            traced = traced_same order.count 0 (view order xs2) (view order xs3) swept.work stage.traced;
            led = led_same order.count (view order xs2) (view order xs3) (leasts (view order xs3)) swept.work sum.led;
          },
        )

-- the walk that is told
module _ {K : Type 0} (A : Arithmetic) (amount : K → List ℤ) (proper : (x : K) → Amount A (amount x)) (order : EventOrder) (xs : List (Cell K)) where
  pub walk_told : (i j m : ℕ) (vs place : List ℕ) → i < order.count → j < order.count → Names order.count vs → (rank_at order i ≡ rank_at order j → vs ≡ rank_at order i ∷ []) →
      Walked A amount order.count (view order xs) (leasts (view order xs)) (rank_at order i) (rank_at order j) vs → take m place ≡ map (event_at order) vs → Walks A amount order xs i j (take m place)
  walk_told i j m vs place hi hj names lone walked e L holds d at =
      let F : Bounds = bounds amount order.count xs in
      let us : Grid K = view order xs in
      let net = within_table amount A proper order.count xs in
      let tie = ties amount order xs us (λ r s p q. refl) in
      let far : distance A order.count F (event_at order (rank_at order i)) (event_at order (rank_at order j)) ≡ Some (amount d) =
      ap₂ (distance A order.count F) (order.back i hi) (order.back j hj) ∙ sym (holds.distances i j hi hj) ∙ ap (amount_of amount) at in
      let end : Route A (InForce F) (event_at order (rank_at order i)) (event_at order (rank_at order j)) (map (event_at order) vs) (amount d) = elim (cases_eq (rank_at order i) (rank_at order j)) [
        | inl same_rank ↦
            let z : distance A order.count F (event_at order (rank_at order i)) (event_at order (rank_at order i)) ≡ Some A.zero = (metric A L order.count F net holds.calm).self (event_at order (rank_at order i)) in
            let y : distance A order.count F (event_at order (rank_at order i)) (event_at order (rank_at order i)) ≡ Some (amount d) = ap (λ (s : ℕ). distance A order.count F (event_at order (rank_at order i)) (event_at order s)) same_rank ∙ far in
            let k : amount d ≡ A.zero = cc (z, y) in
            route_shown L amount proper order F us net tie holds.calm (rank_at order i) (rank_at order j) vs (nil L) (amount d) (proper d) names
            (subst (λ (ws : List ℕ). rows.Row (nil L) (plus L) (λ r s a. Forced amount order.count us r s a.0) (rank_at order i) ws (rank_at order j) (nil L)) (sym (lone same_rank)) (subst (λ (s : ℕ). rows.Row (nil L) (plus L) (λ r s a. Forced amount order.count us r s a.0) (rank_at order i) (rank_at order i ∷ []) s (nil L)) same_rank stop))
            (subst (λ (y : List ℤ). AtMost A A.zero y) (sym k) (L.reflexive A.zero L.zero_amount)) far
        | inr ne ↦
            let (h, r, l) = walked L 0 (amount d, proper d) holds.traced holds.led
            (λ x s v. no_loop L amount proper order F us net tie holds.calm x s (turned_walk (amounts L) 0 (λ r s a e. (e.0, omega arith)) v).0) ne
            (order.ranks_below i hi, order.ranks_below j hj, (d, ap (λ (c : Cell K). c.distance) (at_events order xs i j hi hj) ∙ at, refl)) in
            route_shown L amount proper order F us net tie holds.calm (rank_at order i) (rank_at order j) vs h (amount d) (proper d) names (turned_row (amounts L) (λ x y a e. e.0) r) l far
      ] in
      subst (λ (ws : List ℕ). Route A (InForce F) i j ws (amount d)) (sym e) (subst (λ (x : ℕ). Route A (InForce F) x j (map (event_at order) vs) (amount d)) (order.back i hi) (subst (λ (y : ℕ). Route A (InForce F) (event_at order (rank_at order i)) y (map (event_at order) vs) (amount d)) (order.back j hj) end))
