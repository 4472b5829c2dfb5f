-- The bounds in force of a table, after a write and after clearing.
use Rattle.std.proofs.Common.{◌≡◌, ℕ, ◌+◌, ◌*◌, ◌<◌, ◌≤◌, Bool, true, false, ◌&&◌, eqb, ltb, ◌⊎◌, List, length, set, ℤ, None, Option, sym, refl, ap, ◌∙◌, inl, inr, ⊎_elim}
use mathlib.Core.Path.{fun_ext}
use Rattle.std.proofs.lemmas.Bool.{cases_lt, cases_eq, lt-ltb, le-ltb, eq-eqb, ne_eqb, and_from, and_left, and_right, cond-true, cond-false}
use Rattle.kinds.specs.Answers.{pick}
use Rattle.table.specs.declared.cell.Cell.{Cell}
use Rattle.table.specs.Cells.{at_cell, cleared, amount_of, bounds}
use Rattle.table.proofs.Tables.{put_same, put_other, clear_at}
use Rattle.net.specs.State.{unbound, with_bound}

pick_true : {X : Type 0} (b : Bool) (x y : X) → b ≡ true → pick b x y ≡ x
pick_true b x y e = ap (λ t. pick t x y) e

pick_false : {X : Type 0} (b : Bool) (x y : X) → b ≡ false → pick b x y ≡ y
pick_false b x y e = ap (λ t. pick t x y) e

module _ {K : Type 0} (amount : K → List ℤ) (n : ℕ) where
  -- among the n events, the cell's bound
  pub bounds_within : (xs : List (Cell K)) (i j : ℕ) → i < n → j < n → bounds amount n xs i j ≡ amount_of amount (at_cell n xs i j).bound
  bounds_within xs i j p q = pick_true (ltb i n && ltb j n) _ _ (and_from (ltb i n) (ltb j n) (lt-ltb i n p) (lt-ltb j n q))

  -- and none elsewhere
  pub bounds_outside : (xs : List (Cell K)) (i j : ℕ) → (n ≤ i) ⊎ (n ≤ j) → bounds amount n xs i j ≡ None
  bounds_outside xs i j o = pick_false (ltb i n && ltb j n) _ _ (⊎_elim (λ l. and_left (ltb i n) (ltb j n) (le-ltb i n l)) (λ l. and_right (ltb i n) (ltb j n) (le-ltb j n l)) o)

  -- equal wherever the cells of the n events are
  pub bounds_same : (xs : List (Cell K)) (F : ℕ → ℕ → Option (List ℤ)) (i j : ℕ) → (i < n → j < n → amount_of amount (at_cell n xs i j).bound ≡ F i j) → ((n ≤ i) ⊎ (n ≤ j) → None ≡ F i j) → bounds amount n xs i j ≡ F i j
  bounds_same xs F i j inside outside = ⊎_elim
      (λ p. ⊎_elim (λ q. bounds_within xs i j p q ∙ inside p q) (λ q. bounds_outside xs i j (inr q) ∙ outside (inr q)) (cases_lt j n))
      (λ p. bounds_outside xs i j (inl p) ∙ outside (inl p))
      (cases_lt i n)

  -- a cleared table holds none
  pub bounds_cleared : (xs : List (Cell K)) → bounds amount n (cleared (n * n) xs) ≡ unbound
  bounds_cleared xs = fun_ext (λ i. fun_ext (λ j. bounds_same (cleared (n * n) xs) unbound i j (λ p q. ap (λ (c : Cell K). amount_of amount c.bound) (clear_at n i j xs p q)) (λ o. refl)))

  -- one cell written changes the bound of its pair alone
  pub bounds_put : (xs : List (Cell K)) (i j : ℕ) (c : Cell K) → i < n → j < n → n * n ≤ length xs → bounds amount n (set xs (i * n + j) c) ≡ with_bound (bounds amount n xs) i j (amount_of amount c.bound)
  bounds_put xs i j c p q h = fun_ext (λ x. fun_ext (λ y. at x y))
    where
      away : (x y : ℕ) → ((x ≡ i) × (y ≡ j) → ⊥) → (eqb x i && eqb y j) ≡ false
      away x y ne = ⊎_elim (λ e. and_right (eqb x i) (eqb y j) (ne_eqb y j (λ f. ne (e, f)))) (λ d. and_left (eqb x i) (eqb y j) (ne_eqb x i d)) (cases_eq x i)

      here : (x y : ℕ) → x ≡ i → y ≡ j → bounds amount n (set xs (i * n + j) c) x y ≡ with_bound (bounds amount n xs) i j (amount_of amount c.bound) x y
      here x y e f =
          ap (λ t. bounds amount n (set xs (i * n + j) c) t y) e ∙ ap (λ t. bounds amount n (set xs (i * n + j) c) i t) f
          ∙ bounds_within (set xs (i * n + j) c) i j p q ∙ ap (λ (d : Cell K). amount_of amount d.bound) (put_same n i j xs c p q h)
          ∙ sym (cond-true (eqb x i && eqb y j) _ _ (and_from (eqb x i) (eqb y j) (eq-eqb x i e) (eq-eqb y j f)))

      there : (x y : ℕ) → ((x ≡ i) × (y ≡ j) → ⊥) → bounds amount n (set xs (i * n + j) c) x y ≡ with_bound (bounds amount n xs) i j (amount_of amount c.bound) x y
      there x y ne =
          bounds_same (set xs (i * n + j) c) (bounds amount n xs) x y
          (λ a b. ap (λ (d : Cell K). amount_of amount d.bound) (put_other n i j x y xs c q b ne) ∙ sym (bounds_within xs x y a b))
          (λ o. sym (bounds_outside xs x y o))
          ∙ sym (cond-false (eqb x i && eqb y j) _ _ (away x y ne))

      at : (x y : ℕ) → bounds amount n (set xs (i * n + j) c) x y ≡ with_bound (bounds amount n xs) i j (amount_of amount c.bound) x y
      at x y = ⊎_elim (λ e. ⊎_elim (λ f. here x y e f) (λ d. there x y (λ t. d t.1)) (cases_eq y j)) (λ d. there x y (λ t. d t.0)) (cases_eq x i)
