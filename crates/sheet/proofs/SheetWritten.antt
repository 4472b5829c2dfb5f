-- A whole sheet laid down.
use Rattle.std.proofs.Common.{◌≡◌, ℕ, ◌+◌, ◌-◌, ◌<◌, ◌≤◌, ◌&&◌, eqb, ltb, leb, List, ◌∷◌, ◌++◌, length, drop, ℤ, Some, None, Ok, Err, sym, refl, ap, ◌∙◌, inl, inr, arith}
use borrow.Rule.Slice.PartMut.{put_mid}
use Rattle.std.specs.List.{between}
use Rattle.std.proofs.lemmas.Bool.{cases_Bool, and_parts, ltb-true, cond-true, cond-false, ne_eqb, le-leb, lt-leb}
use Rattle.std.proofs.lemmas.List.{append_assoc, length-append}
use Rattle.kinds.specs.Answers.{pick}
use Rattle.table.specs.declared.cell.Cell.{Cell}
use Rattle.table.specs.Cells.{bounds, amount_of, in_force, at_cell}
use Rattle.net.specs.Refusals.{by}
use Rattle.net.specs.State.{State}
use Rattle.sheet.specs.Records.{Coding}
use Rattle.sheet.specs.Written.{events_record, bounds_records, bounds_length, ordering_record, written, sheet_length, writing, write_sheet}
use Rattle.sheet.proofs.Places.{part_more}

-- the records after each other
pub sheet_laid : (K : Coding) (s : State) (zs xs ys part last : List ℕ) (used at : ℕ) →
    sheet_length K s ≤ length zs →
    length s.order ≡ s.events →
    xs ≡ (1 ∷ events_record K s.events) ++ drop 6 zs →
    used ≡ bounds_length K s →
    length (bounds_records K s) ≡ bounds_length K s →
    part ≡ bounds_records K s ++ drop (bounds_length K s) (between 6 (length xs) xs) →
    ys ≡ put_mid 6 (length xs - 6) xs part →
    at ≡ 6 + used →
    last ≡ ordering_record s.order ++ drop (s.events + 3) (between at (length ys) ys) →
    put_mid at (length ys - at) ys last ≡ written K s ++ drop (sheet_length K s) zs
sheet_laid K s zs xs ys part last used at f o e u l p y a q =
    let L = bounds_length K s in
    let R = bounds_records K s in
    let H = 1 ∷ events_record K s.events in
    let O = ordering_record s.order in
    let b = y ∙ ap (put_mid 6 (length xs - 6) xs) p ∙ part_more xs zs H R 6 L refl (omega arith) e in
    let b2 = b ∙ ap (λ m. (H ++ R) ++ drop m zs) (let t : 6 + L ≡ at = omega arith in t) in
    let k : length (H ++ R) ≡ at = simp length-append (omega arith) in
    let d = ap (put_mid at (length ys - at) ys) q ∙ part_more ys zs (H ++ R) O at (s.events + 3) k (omega arith) b2 in
    let m : at + (s.events + 3) ≡ sheet_length K s = omega arith in
    d ∙ ap (λ j. ((H ++ R) ++ O) ++ drop j zs) m ∙ ap (λ x. x ++ drop (sheet_length K s) zs) (append_assoc H R O)

-- a bound in force joins two events of the net
pub held_within : {K : Type 0} (amount : K → List ℤ) (n : ℕ) (cells : List (Cell K)) (i j : ℕ) (w : List ℤ) → bounds amount n cells i j ≡ Some w → (i < n) × (j < n)
held_within amount n cells i j w e =
    elim (cases_Bool (ltb i n && ltb j n)) [
      | inl t ↦ let p = and_parts (ltb i n) (ltb j n) t in (ltb-true i n p.0, ltb-true j n p.1)
      | inr t ↦ let q : None ≡ Some w = ap (λ b. pick b (amount_of amount (in_force (at_cell n cells i j))) None) (sym t) ∙ e in let z : ◌≡◌ {A = ℕ} 0 1 = cc in absurd (omega arith)
    ]

-- what write answers, by each test
pub write_short : (K : Coding) (s : State) (place : List ℕ) → (s.events ≡ 0 → ⊥) → length place < sheet_length K s → writing (Err (by 5)) place ≡ write_sheet K s place
write_short K s place e h = sym (cond-false (eqb s.events 0) _ _ (ne_eqb s.events 0 e) ∙ cond-false (leb (sheet_length K s) (length place)) _ _ (lt-leb (sheet_length K s) (length place) h))

pub write_done : (K : Coding) (s : State) (place after : List ℕ) (n : ℕ) → (s.events ≡ 0 → ⊥) → sheet_length K s ≤ length place → n ≡ sheet_length K s → after ≡ written K s ++ drop (sheet_length K s) place → writing (Ok n) after ≡ write_sheet K s place
write_done K s place after n e h p q =
    ap (λ m. writing (Ok m) after) p ∙ ap (writing (Ok (sheet_length K s))) q ∙ sym (cond-false (eqb s.events 0) _ _ (ne_eqb s.events 0 e) ∙ cond-true (leb (sheet_length K s) (length place)) _ _ (le-leb (sheet_length K s) (length place) h))

pub written_long : (K : Coding) (s : State) → length (bounds_records K s) ≡ bounds_length K s → length (written K s) ≡ sheet_length K s
written_long K s l =
    let R = bounds_records K s in
    let O = ordering_record s.order in
    let a = length-append R O in
    omega arith
