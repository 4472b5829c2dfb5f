-- The loop that is shown.
use Rattle.std.proofs.Common.{◌≡◌, ℕ, suc, ◌<◌, ◌≤◌, List, [], ◌∷◌, length, take, set, ℤ, sym, refl, ◌∙◌, subst, inl, inr, eq-or-lt_of_le, arith}
use Rattle.kinds.specs.Arithmetic.{Arithmetic, Amount, Lawful}
use Rattle.elimination.specs.Amounts.{Amounts}
use Rattle.elimination.specs.Walks.{Walk, Any, Ring}
use Rattle.elimination.specs.Walks.Walk.{one, step}
use Rattle.elimination.specs.Simple.{Row}
use Rattle.elimination.specs.Simple.Row.{stop, on}
use Rattle.elimination.proofs.Steps.{ring}
use Rattle.elimination.proofs.Sized.{upper_calm}
use Rattle.elimination.specs.Held.{Held, nil, plus, le}
use Rattle.elimination.proofs.Laws.{amounts}
use Rattle.eliminator.specs.Views.{Grid}
use Rattle.eliminator.specs.State.{Forced, Works, SameForce, Ready, Stage, Failed}
use Rattle.closing.specs.Trace.{Names, Calm, Onward, Splits, Shown, Shows, Partway}
use Rattle.closing.proofs.Traces.{unsplit, in_parts}

module _ {A : Type 0} {nil : A} {plus : A → A → A} {le : A → A → Type 0} (L : Amounts nil plus le) where
  first_less : (t c d : A) → le t (plus nil c) → le (plus t d) (plus c d)
  first_less t c d h = L.mono _ _ d (rw (L.unit c) at h)

  next_less : (t b e f u z : A) → le u (plus t b) → e ≡ plus b f → le (plus t e) z → le (plus u f) z
  next_less t b e f u z h q l = L.trans _ _ _ (L.mono _ _ f h) (rw (L.assoc t b f, ← q) l)

  pub turned_row : {E G : ℕ → ℕ → A → Type 0} → ((x y : ℕ) (a : A) → E x y a → G x y a) → {i j : ℕ} {vs : List ℕ} {s : A} → Row nil plus E i vs j s → Row nil plus G i vs j s
  turned_row f stop = stop
  turned_row f (on e r q) = on (f _ _ _ e) (turned_row f r) q

  -- a walk over bounds whose ends are from k on
  pub turned_walk : (k : ℕ) {E G : ℕ → ℕ → A → Type 0} → ((x y : ℕ) (a : A) → E x y a → G x y a × (k ≤ y)) → {i j : ℕ} {s : A} → Walk plus E Any i j s → Walk plus G (λ z. k ≤ z) i j s × (k ≤ j)
  turned_walk k f (one e) = let (g, h) = f _ _ _ e in (one g, h)
  turned_walk k f (step e p w q) = let (g, h) = f _ _ _ e in let (v, l) = turned_walk k f w in (step g h v q, l)

pub one_name : (n i : ℕ) → i < n → Names n (i ∷ [])
one_name n i h = record { once = (λ m. m, tt); below = λ x m. elim m [ inl e ↦ rw e h | inr t ↦ absurd t ] }

pub first_event : (out : List ℕ) (i : ℕ) → 0 < length out → take 1 (set out 0 i) ≡ i ∷ []
first_event [] i h = absurd (omega arith)
first_event (x ∷ xs) i h = refl

module _ {K : Type 0} {A : Arithmetic} {amount : K → List ℤ} (n : ℕ) (xs : Grid K) (i k : ℕ) (low : i < k) (within : k < n) where
  pub part_start : (us vs : List ℕ) → us ≡ i ∷ [] → Onward A amount n xs i k us vs → Partway A amount n xs i k k vs
  part_start us vs z f L hi c d t calm p q =
      let (u, r, l) = f L k hi i (nil L) c t calm (omega arith) (omega arith) p (rw z stop) in
      (u, d, r, q, first_less (amounts L) u c d l)

  pub part_next : ((x : K) → Amount A (amount x)) → (x v : ℕ) (vs ws : List ℕ) → x < n → k ≤ x → Splits n xs x i v → Onward A amount n xs x v vs ws → Partway A amount n xs i k x vs → Partway A amount n xs i k v ws
  part_next proper x v vs ws hx past z f g L hi c d t calm p q =
      let (u, e, r, w, l) = g L hi c d t calm p q in
      let s = t.split x i v hx (omega arith) (omega arith) z.via_is in
      let b : Held A = (amount s.front, proper s.front) in
      let y : Held A = (amount s.back, proper s.back) in
      let (o, ro, lo) = f L k hi i u b t calm (let q = z.low_i in omega arith) (let q = z.low_i in omega arith) (hx, z.within, (s.front, s.front_is, refl)) r in
      (o, y, ro, (z.within, omega arith, (s.back, s.back_is, refl)), next_less (amounts L) u b e y o (plus L c d) lo (in_parts L amount b y e w.2 s.sum_is s.adds) l)

  pub part_done : (x : ℕ) (vs : List ℕ) → x < n → k ≤ x → Names n vs → ((v : ℕ) → Splits n xs x i v → ⊥) → Partway A amount n xs i k x vs → Shows A amount n xs i k vs
  part_done x vs hx past names none g L hi c d t calm p q neg =
      let (u, e, r, w, l) = g L hi c d t calm p q in
      record {
        first = i;
        last = x;
        sum = u;
        back = e;
        row = turned_row (amounts L) (λ x y a e. e.0) r;
        once = names.once;
        closes = (w.0, w.1, (w.2.0, sym (unsplit n xs x i hx (omega arith) hi t (omega arith) none) ∙ w.2.1, w.2.2));
        negative = λ h. neg ((amounts L).trans (nil L) (plus L u e) (plus L c d) h l);
      }

  -- where the elimination failed: over the events from k on no loop sums to less than zero
  calm_of : (L : Lawful A) (us : Grid K) → SameForce n us xs → Stage L amount n (suc k) us xs → Calm L amount n k xs
  calm_of L us eq stage x s w =
      let (v, h) = turned_walk (amounts L) k {G = λ x y a. Forced amount n us x y a.0} (λ x y a e. ((e.0.0, e.0.1, (e.0.2.0, sym (eq x y e.0.0 e.0.1) ∙ e.0.2.1, e.0.2.2)), e.1)) w in
      upper_calm (amounts L) n k (λ x y a e. (e.0, e.1))
      (λ m p q. elim (eq-or-lt_of_le p) [ inl e ↦ subst (λ (z : ℕ). Ring (nil L) (plus L) (le A) (λ x y a. Forced amount n us x y a.0) z (λ x y a. Works amount n xs x y a.0)) e (ring (amounts L) k stage.kept.worked) | inr l ↦ stage.kept.rings m l q ])
      (omega arith) x s h v

  pub shown_of : ((x : K) → Amount A (amount x)) → (us : Grid K) (vs : List ℕ) → SameForce n us xs → Failed A amount n i k us xs → Shows A amount n xs i k vs → (L : Lawful A) → Ready A amount n us → Shown L amount n us vs
  shown_of proper us vs eq f s L ready =
      let stage = f.stage L ready in
      let b : Held A = (amount f.falls.front, proper f.falls.front) in
      let c : Held A = (amount f.falls.back, proper f.falls.back) in
      let r = s L (suc k) b c stage.traced (calm_of L us eq stage) (omega arith, within, (f.falls.front, f.falls.front_is, refl)) (within, omega arith, (f.falls.back, f.falls.back_is, refl)) f.falls.negative in
      record {
        first = r.first;
        last = r.last;
        sum = r.sum;
        back = r.back;
        row = turned_row (amounts L) (λ x y a e. (e.0, e.1, (e.2.0, sym (eq x y e.0 e.1) ∙ e.2.1, e.2.2))) r.row;
        once = r.once;
        closes = let e = r.closes in (e.0, e.1, (e.2.0, sym (eq _ _ e.0 e.1) ∙ e.2.1, e.2.2));
        negative = r.negative;
      }
