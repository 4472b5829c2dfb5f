-- A list of calls has one past, and each pair one bound in force.
use Rattle.std.proofs.Common.{◌≡◌, ℕ, List, [], ◌∷◌, ℤ, Some, None, Option, sym, refl, ap, ◌∙◌, subst, inl, inr, arith}
use Rattle.kinds.specs.Arithmetic.{Arithmetic, Amount, Lawful}
use Rattle.history.specs.Deeds.{Deed, Action, Answer, Entry, accepted, refused}
use Rattle.history.specs.History.{Laid, InForce, Need, First, Reading, Step, History}
use Rattle.history.specs.History.Reading.{whole, further, stopped, faulty}
use Rattle.history.specs.History.Step.{taken, turned_down, sheet_taken, sheet_turned_down}
use Rattle.history.specs.History.History.{start, next}
use Rattle.history.specs.Standing.{Holds}

pub never : {X : Type 0} → ◌≡◌ {A = ℕ} 0 1 → X
never z = absurd (omega arith)

-- needs are met or refuse in one way
pub clash : (ns : List Need) (number : ℕ) → First ns accepted → First ns (refused number) → ⊥
clash [] number a b = b
clash (n ∷ ns) number a (inl h) = h.0 a.0
clash (n ∷ ns) number a (inr h) = clash ns number a.1 h.1

same_number : (ns : List Need) (x y : ℕ) → First ns (refused x) → First ns (refused y) → x ≡ y
same_number [] x y a b = absurd a
same_number (n ∷ ns) x y (inl h) (inl k) = h.1 ∙ sym k.1
same_number (n ∷ ns) x y (inl h) (inr k) = absurd (h.0 k.0)
same_number (n ∷ ns) x y (inr h) (inl k) = absurd (k.0 h.0)
same_number (n ∷ ns) x y (inr h) (inr k) = same_number ns x y h.1 k.1

not_both : {n : ℕ} → accepted ≡ refused n → ⊥
not_both e = never (cc)

module _ {A : Arithmetic} {sheet : List ℕ → List Entry} {cells : ℕ} where
  one_reading : {past p q : List Deed} {entries : List Entry} {x y : Answer} → Reading A sheet cells past entries x p → Reading A sheet cells past entries y q → (x ≡ y) × (p ≡ q)
  one_reading whole whole = (refl, refl)
  one_reading (further a h) (further b k) = one_reading h k
  one_reading (further a h) (stopped b) = absurd (clash _ _ a b)
  one_reading (stopped a) (further b k) = absurd (clash _ _ b a)
  one_reading (stopped a) (stopped b) = (ap refused (same_number _ _ _ a b), refl)
  one_reading faulty faulty = (refl, refl)

  pub one_step : {past p q : List Deed} {c : Action} {x y : Answer} → Step A sheet cells past c x p → Step A sheet cells past c y q → (x ≡ y) × (p ≡ q)
  one_step (taken a) (taken b) = (refl, refl)
  one_step (taken a) (turned_down b) = absurd (clash _ _ a b)
  one_step (turned_down a) (taken b) = absurd (clash _ _ b a)
  one_step (turned_down a) (turned_down b) = (ap refused (same_number _ _ _ a b), refl)
  one_step (sheet_taken a) (sheet_taken b) = (refl, (one_reading a b).1)
  one_step (sheet_taken a) (sheet_turned_down b) = absurd (not_both (one_reading a b).0)
  one_step (sheet_turned_down a) (sheet_taken b) = absurd (not_both (one_reading b a).0)
  one_step (sheet_turned_down a) (sheet_turned_down b) = ((one_reading a b).0, refl)

  -- a list of calls has one past, and ends in one way
  pub one_past : {calls : List Action} {xs ys : List Answer} {p q : List Deed} → History A sheet cells calls xs p → History A sheet cells calls ys q → (xs ≡ ys) × (p ≡ q)
  one_past start start = (refl, refl)
  one_past (next {after = after} {c = c} {answer = answer} h a) (next k b) =
      let (e, f) = one_past h k in
      let (u, v) = one_step (subst (λ (x : List Deed). Step A sheet cells x c answer after) f a) b in
      ((cc), v)

module _ {A : Arithmetic} (law : Lawful A) where
  -- the same bounds were laid down
  pub same_force : {p q : List Deed} {i j : ℕ} → ((w : List ℤ) → Laid p i j w → Laid q i j w) → ((w : List ℤ) → Laid q i j w → Laid p i j w) → (w : List ℤ) → InForce A p i j w → InForce A q i j w
  same_force f g w h = record { laid = f w h.laid; least = λ v l. h.least v (g v l) }

  pub same_holds : (p q : List Deed) (i j : ℕ) → ((w : List ℤ) → Laid p i j w → Laid q i j w) → ((w : List ℤ) → Laid q i j w → Laid p i j w) → (o : Option (List ℤ)) → Holds A p i j o → Holds A q i j o
  same_holds p q i j f g None h = λ w l. h w (g w l)
  same_holds p q i j f g (Some w) h = same_force f g w h

  -- what is held is the bound in force, and nothing else is
  pub only : (past : List Deed) (i j : ℕ) → ((w : List ℤ) → Laid past i j w → Amount A w) → (a : List ℤ) (o : Option (List ℤ)) → Holds A past i j o → InForce A past i j a → o ≡ Some a
  only past i j fit a None h f = absurd (h a f.laid)
  only past i j fit a (Some v) h f = ap (λ x. Some x) (law.antisymmetric v a (fit v h.laid) (fit a f.laid) (h.least a f.laid) (f.least v h.laid))
