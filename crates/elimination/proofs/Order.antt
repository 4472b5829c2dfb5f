-- What the laws of amounts give.
use mathlib.Core.Path.{◌≡◌, ◌∙◌}
use Rattle.elimination.specs.Amounts.{Amounts}

module _ {A : Type 0} {zero : A} {plus : A → A → A} {le : A → A → Type 0} (L : Amounts zero plus le) where
  pub unit_right : (a : A) → plus a zero ≡ a
  unit_right a = L.comm a zero ∙ L.unit a

  pub mono_right : (a b c : A) → le a b → le (plus c a) (plus c b)
  mono_right a b c h = rw (L.comm c a, L.comm c b) (L.mono a b c h)

  pub mono_both : (a b c d : A) → le a b → le c d → le (plus a c) (plus b d)
  mono_both a b c d h k = L.trans _ _ _ (L.mono a b c h) (mono_right c d b k)

  -- what is not negative can be left out in front, or behind
  pub drop_front : (a b : A) → le zero a → le b (plus a b)
  drop_front a b h = rw (L.unit b) at (L.mono zero a b h)

  pub drop_back : (a b : A) → le zero b → le a (plus a b)
  drop_back a b h = rw (unit_right a) at (mono_right zero b a h)

  pub le_eq : (a b : A) → a ≡ b → le a b
  le_eq a b e = rw e (L.refl_le b)
