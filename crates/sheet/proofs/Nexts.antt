-- What stands at an offset of a sheet, and what a reader there comes to.
use Rattle.std.proofs.Common.{◌≡◌, ℕ, ◌+◌, ◌-◌, ◌<◌, ◌≤◌, true, false, ◌&&◌, eqb, leb, List, length, get_or, take, drop, Bor, Some, None, Ok, Err, Option, Result, sym, refl, ap, ◌∙◌, subst, inl, inr, add-zero, arith, length-drop, length-take}
use Rattle.std.specs.Bool.{then_some}
use Rattle.std.proofs.lemmas.Bool.{cases_Bool, cases_lt, le-leb, lt-leb, and_parts, leb-true, eqb-true, eqb-false, lt-ltb, le-ltb, eq-eqb, ne_eqb}
use Rattle.std.proofs.lemmas.List.{get_or-drop, drop-drop, take_all}
use Rattle.sheet.specs.Records.{length_at, whole, body_at, after_record}
use Rattle.sheet.specs.Faults.{in_bytes, in_records}
use Rattle.sheet.specs.Sheets.{ended, found, faulty, next_at}
use Rattle.sheet.specs.Told.{Comes, ComesTo, next_from}
use Rattle.sheet.specs.declared.fault.RecordFault.TheVariants.{Misplaced}
use Rattle.sheet.specs.declared.fault.SheetFault.{SheetFault}
use Rattle.sheet.specs.declared.fault.SheetFault.TheVariants.{AtRecord, Cut}
use Rattle.sheet.specs.declared.reader.Record.{Record}
use Rattle.sheet.specs.declared.reader.Reader.{Reader}

shifted : (k n at : ℕ) → 1 ≤ k → leb k (n - at) ≡ leb (at + k) n
shifted k n at h =
    elim (cases_lt n (at + k)) [
      | inl l ↦ lt-leb k (n - at) (omega arith) ∙ sym (lt-leb (at + k) n l)
      | inr l ↦ le-leb k (n - at) (omega arith) ∙ sym (le-leb (at + k) n l)
    ]

module _ (xs : List ℕ) (at : ℕ) where
  pub at_missing : length xs ≤ at → at ≡ 1 → next_at xs at ≡ faulty (in_records 24 at)
  unfolding next_at
  at_missing h e =
      let a = le-ltb at (length xs) h in
      let b = eq-eqb at 1 e in
      rw (a, b)

  pub at_end : length xs ≤ at → (at ≡ 1 → ⊥) → next_at xs at ≡ ended
  unfolding next_at
  at_end h e =
      let a = le-ltb at (length xs) h in
      let b = ne_eqb at 1 e in
      rw (a, b)

  at_cut : at < length xs → whole xs at ≡ false → next_at xs at ≡ faulty (in_bytes 22 at)
  unfolding next_at
  at_cut h e =
      let a = lt-ltb at (length xs) h in
      rw (a, e)

  pub at_found : at < length xs → whole xs at ≡ true → next_at xs at ≡ found at (body_at xs at) (after_record xs at)
  unfolding next_at
  at_found h e =
      let a = lt-ltb at (length xs) h in
      rw (a, e)

  -- the bytes from the offset on
  module _ (o : Option ℕ) (is : o ≡ Some at) (rest : List ℕ) (from : rest ≡ take (length xs - at) (drop at xs)) where
    reader_at : (r : Option (Result Record SheetFault)) (n : Option ℕ) → ComesTo (next_at xs at) r n → ComesTo (next_from xs o) r n
    reader_at r n = subst (λ p. ComesTo (next_from xs p) r n) (sym is)

    tail : rest ≡ drop at xs
    tail = from ∙ take_all (length xs - at) (drop at xs) (let l = length-drop at xs in omega arith)

    long : length rest ≡ length xs - at
    long = ap length tail ∙ length-drop at xs

    length_rest : length_at rest 0 ≡ length_at xs at
    length_rest =
        let a : get_or (drop at xs) 0 0 ≡ get_or xs at 0 = get_or-drop at xs 0 0 ∙ ap (λ k. get_or xs k 0) (add-zero at) in
        rw (tail, a, get_or-drop at xs 1 0)

    whole_rest : whole rest 0 ≡ whole xs at
    whole_rest =
        let e : at + (2 + length_at xs at) ≡ at + 2 + length_at xs at = omega arith in
        ap (λ m. leb 2 (length rest) && leb (2 + m) (length rest)) length_rest
        ∙ ap (λ n. leb 2 n && leb (2 + length_at xs at) n) long
        ∙ ap (λ b. b && leb (2 + length_at xs at) (length xs - at)) (shifted 2 (length xs) at (omega arith))
        ∙ ap (λ b. leb (at + 2) (length xs) && b) (shifted (2 + length_at xs at) (length xs) at (omega arith) ∙ ap (λ k. leb k (length xs)) e)

    pub comes_last : (n : Option ℕ) → length rest < 1 → ComesTo (next_from xs o) (then_some (eqb at 1) (Err (AtRecord at Misplaced))) n
    comes_last n h =
        let l = long in
        elim (cases_Bool (eqb at 1)) [
          | inl t ↦ rw t (reader_at (Some (Err (AtRecord at Misplaced))) n (at_missing (omega arith) (eqb-true at 1 t)))
          | inr t ↦ rw t (reader_at None n (at_end (omega arith) (eqb-false at 1 t)))
        ]

    pub comes_cut : (n : Option ℕ) → 0 < length rest → whole rest 0 ≡ false → ComesTo (next_from xs o) (Some (Err (Cut at))) n
    comes_cut n h e = reader_at (Some (Err (Cut at))) n (at_cut (let l = long in omega arith) (sym whole_rest ∙ e))

    pub comes_found : (b : Bor (List ℕ)) → 0 < length rest → whole rest 0 ≡ true → b.now ≡ body_at rest 0 → ComesTo (next_from xs o) (Some (Ok (record { offset = at; body = b }))) (Some (at + 2 + length b.now))
    comes_found b h e p =
        let l = long in
        let w = sym whole_rest ∙ e in
        let q : b.now ≡ body_at xs at = p ∙ ap (λ m. take m (drop 2 rest)) length_rest ∙ ap (λ ys. take (length_at xs at) (drop 2 ys)) tail ∙ ap (take (length_at xs at)) (drop-drop 2 at xs) in
        let k = leb-true (after_record xs at) (length xs) ((and_parts (leb (at + 2) (length xs)) (leb (after_record xs at) (length xs)) w).1) in
        let n : length b.now ≡ length_at xs at = ap length q ∙ simp (length-take, length-drop) (omega arith) in
        reader_at (Some (Ok (record { offset = at; body = b }))) (Some (at + 2 + length b.now)) (at + 2 + length b.now, refl, at_found (omega arith) w ∙ ap (λ ys. found at ys (after_record xs at)) (sym q) ∙ ap (λ m. found at b.now (at + 2 + m)) (sym n))

-- a reader at an offset comes to what stands there
pub stands : (x y : Reader) (r : Option (Result Record SheetFault)) (xs : List ℕ) (at : ℕ) → Comes x r y → x.sheet.now ≡ xs → x.at ≡ Some at → ComesTo (next_at xs at) r y.at
stands x y r xs at h e o = let p : next_from x.sheet.now x.at ≡ next_at xs at = ap (λ zs. next_from zs x.at) e ∙ ap (next_from xs) o in subst (λ z. ComesTo z r y.at) p h.told
