-- Records laid one after another at the front of a place.
use Rattle.std.proofs.Common.{◌≡◌, ℕ, zero, suc, ◌+◌, ◌-◌, ◌<◌, ◌≤◌, cond, ◌&&◌, ltb, List, [], ◌++◌, length, take, drop, ℤ, Some, None, Ok, Err, Option, Result, sym, refl, ap, ◌∙◌, subst, inl, inr, add-one, arith, below_more}
use borrow.Rule.Slice.PartMut.{put_mid}
use Rattle.std.specs.List.{between}
use Rattle.std.specs.Option.{option_flatten}
use Rattle.std.specs.Result.{result_ok}
use Rattle.std.proofs.lemmas.Bool.{cases_Bool, cases_lt}
use Rattle.std.proofs.lemmas.List.{append-nil, append_assoc, length-append, length-drop, take_at, drop_at, drop_all, drop-drop}
use Rattle.std.proofs.lemmas.Slice.{between_to_end}
use Rattle.kinds.specs.Answers.{pick}
use Rattle.table.specs.Cells.{amount_of, in_force, at_cell}
use Rattle.net.specs.declared.net.Net.{Net}
use Rattle.net.specs.Refusals.{answered, by}
use Rattle.net.specs.Told.{amounts_told}
use Rattle.net.specs.declared.refusal.Refusal.{Refusal}
use Rattle.net.specs.State.{state, bound_told, cells_of}
use Rattle.sheet.specs.Codes.{Codes}
use Rattle.sheet.specs.Records.{Coding}
use Rattle.sheet.specs.Written.{joined, summed, pair_length, row_length, all_length, pair_record, bound_record, row_records, all_records}

-- the bound told is the one in force; where none is told, none is in force
pub told : {K : Type 0} (amount : K → List ℤ) (net : Net K) (i j : ℕ) (r : Result (Option K) Refusal) → amounts_told amount (answered r) ≡ bound_told i j (state amount net) → amount_of amount (option_flatten (result_ok r)) ≡ (state amount net).bounds i j
unfolding bound_told
told {K = K} amount net i j r e =
    elim (cases_Bool (ltb i net.table.order.count && ltb j net.table.order.count)) [
      | inl t ↦ by_ok r (e ∙ ap (λ q. cond q (Ok ((state amount net).bounds i j)) (Err (by 3))) t)
      | inr t ↦ by_err r (e ∙ ap (λ q. cond q (Ok ((state amount net).bounds i j)) (Err (by 3))) t) ∙ sym (ap (λ q. pick q (amount_of amount (in_force (at_cell net.table.order.count (cells_of net) i j))) None) t)
    ]
  where
    by_ok : (r : Result (Option K) Refusal) → amounts_told amount (answered r) ≡ Ok ((state amount net).bounds i j) → amount_of amount (option_flatten (result_ok r)) ≡ (state amount net).bounds i j
    by_ok (Ok b) h = cc
    by_ok (Err why) h = let z : ◌≡◌ {A = ℕ} 0 1 = cc in absurd (omega arith)

    by_err : (r : Result (Option K) Refusal) → amounts_told amount (answered r) ≡ Err (by 3) → amount_of amount (option_flatten (result_ok r)) ≡ None
    by_err (Ok b) h = let z : ◌≡◌ {A = ℕ} 0 1 = cc in absurd (omega arith)
    by_err (Err why) h = refl

-- a text written at the front of the part from `at` on, after what stands before it
pub part_more : (xs zs ls text : List ℕ) (at n : ℕ) → length ls ≡ at → at ≤ length zs → xs ≡ ls ++ drop at zs → put_mid at (length xs - at) xs (text ++ drop n (between at (length xs) xs)) ≡ (ls ++ text) ++ drop (at + n) zs
part_more xs zs ls text at n l b e =
    let rest : drop at xs ≡ drop at zs = ap (drop at) e ∙ drop_at ls (drop at zs) at l in
    let front : take at xs ≡ ls = ap (take at) e ∙ take_at ls (drop at zs) at l in
    let whole = between_to_end xs at (length xs) (omega arith) in
    let none : drop (length xs - at) (drop at xs) ≡ [] = drop_all (length xs - at) (drop at xs) (simp length-drop (omega arith)) in
    simp (whole, none, front) (simp (rest, append-nil, drop-drop, append_assoc))

-- one text or one number more
pub joined_more : (f : ℕ → List ℕ) (m : ℕ) → joined f (m + 1) ≡ joined f m ++ f m
unfolding joined
joined_more f m = ap (joined f) (add-one m)

pub summed_more : (f : ℕ → ℕ) (m : ℕ) → summed f (m + 1) ≡ summed f m + f m
unfolding summed
summed_more f m = ap (summed f) (add-one m)

-- a part is at most as long as the whole
summed_fits : (f : ℕ → ℕ) (m n : ℕ) → m ≤ n → summed f m ≤ summed f n
unfolding summed
summed_fits f m zero h = let e : m ≡ 0 = omega arith in rw e (omega arith)
summed_fits f m (suc n) h =
    elim (cases_lt m (suc n)) [
      | inl l ↦ let r = summed_fits f m n (omega arith) in omega arith
      | inr l ↦ let e : m ≡ suc n = omega arith in rw e (omega arith)
    ]

module _ (K : Coding) (F : ℕ → ℕ → Option (List ℤ)) where
  -- the records of the bounds before the pair (i, m), at the front of a place that held zs
  pub record Laid (n i m at : ℕ) (out zs : List ℕ) : Type 0 where
    pub ends : at ≡ all_length K F n i + row_length K F i m
    pub long : length (all_records K F n i ++ row_records K F i m) ≡ at
    pub bytes : out ≡ (all_records K F n i ++ row_records K F i m) ++ drop at zs
    pub above : (x : ℕ) → x < i → (y : ℕ) → y < n → (w : List ℤ) → F x y ≡ Some w → Codes K w
    pub before : (y : ℕ) → y < m → (w : List ℤ) → F i y ≡ Some w → Codes K w

  pub laid_start : (n : ℕ) (zs : List ℕ) → Laid n 0 0 0 zs zs
  unfolding summed joined
  laid_start n zs = record { ends = refl; long = refl; bytes = refl; above = λ x h. absurd (omega arith); before = λ y h. absurd (omega arith) }

  pub laid_row : (n i at : ℕ) (out zs : List ℕ) → Laid n i n at out zs → Laid n (i + 1) 0 at out zs
  unfolding summed joined
  laid_row n i at out zs h =
      let r : all_records K F n i ++ row_records K F i n ≡ all_records K F n (i + 1) ++ row_records K F (i + 1) 0 = rw (joined_more (λ x. row_records K F x n) i) (sym (append-nil (all_records K F n i ++ row_records K F i n))) in
      record {
        ends = (let a = summed_more (λ x. row_length K F x n) i in let k = h.ends in omega arith);
        long = ap length (sym r) ∙ h.long;
        bytes = h.bytes ∙ ap (λ xs. xs ++ drop at zs) r;
        above = below_more (λ x. (y : ℕ) → y < n → (w : List ℤ) → F x y ≡ Some w → Codes K w) i h.above h.before;
        before = λ y l. absurd (omega arith);
      }

  -- one pair more, which has no bound in force
  pub laid_none : (n i m at : ℕ) (out zs : List ℕ) → Laid n i m at out zs → F i m ≡ None → Laid n i (m + 1) at out zs
  laid_none n i m at out zs h e =
      let r : all_records K F n i ++ row_records K F i m ≡ all_records K F n i ++ row_records K F i (m + 1) = rw (joined_more (λ j. pair_record K i j (F i j)) m, e) (ap (λ ys. all_records K F n i ++ ys) (sym (append-nil (row_records K F i m)))) in
      record {
        ends = (let a = summed_more (λ j. pair_length K (F i j)) m in let b = ap (pair_length K) e in let k = h.ends in omega arith);
        long = ap length (sym r) ∙ h.long;
        bytes = h.bytes ∙ ap (λ xs. xs ++ drop at zs) r;
        above = h.above;
        before = below_more (λ y. (w : List ℤ) → F i y ≡ Some w → Codes K w) m h.before (λ w p. let z : ◌≡◌ {A = ℕ} 0 1 = cc in absurd (omega arith));
      }

  -- the record of the next pair has its place
  pub laid_room : (n i m at : ℕ) (out zs : List ℕ) (w : List ℤ) → Laid n i m at out zs → F i m ≡ Some w → i < n → m < n → all_length K F n n ≤ length zs → at + (K.width + 5) ≤ length zs
  laid_room n i m at out zs w h e p q f =
      let a = summed_more (λ j. pair_length K (F i j)) m in
      let b = ap (pair_length K) e in
      let c = summed_fits (λ j. pair_length K (F i j)) (m + 1) n (omega arith) in
      let d = summed_more (λ x. row_length K F x n) i in
      let g = summed_fits (λ x. row_length K F x n) (i + 1) n (omega arith) in
      let k = h.ends in
      omega arith

  pub laid_some : (n i m at used : ℕ) (out part zs : List ℕ) (w : List ℤ) → Laid n i m at out zs → F i m ≡ Some w → i < n → m < n → all_length K F n n ≤ length zs → used ≡ K.width + 5 → part ≡ bound_record K i m w ++ drop (K.width + 5) (between at (length out) out) → Codes K w → Laid n i (m + 1) (at + used) (put_mid at (length out - at) out part) zs
  laid_some n i m at used out part zs w h e p q f u b c =
      let room = laid_room n i m at out zs w h e p q f in
      let r : (all_records K F n i ++ row_records K F i m) ++ bound_record K i m w ≡ all_records K F n i ++ row_records K F i (m + 1) = rw (joined_more (λ j. pair_record K i j (F i j)) m, e) (append_assoc (all_records K F n i) (row_records K F i m) (bound_record K i m w)) in
      let x = part_more out zs (all_records K F n i ++ row_records K F i m) (bound_record K i m w) at (K.width + 5) h.long (omega arith) h.bytes in
      record {
        ends = (let a = summed_more (λ j. pair_length K (F i j)) m in let d = ap (pair_length K) e in let k = h.ends in omega arith);
        long = ap length (sym r) ∙ length-append (all_records K F n i ++ row_records K F i m) (bound_record K i m w) ∙ (let k = h.long in let l = c.0 in omega arith);
        bytes = ap (put_mid at (length out - at) out) b ∙ x ∙ ap (λ ys. ys ++ drop (at + (K.width + 5)) zs) r ∙ ap (λ d. (all_records K F n i ++ row_records K F i (m + 1)) ++ drop (at + d) zs) (sym u);
        above = h.above;
        before = below_more (λ y. (v : List ℤ) → F i y ≡ Some v → Codes K v) m h.before (λ v k. let t : w ≡ v = cc in subst (Codes K) t c);
      }

  -- so it is in the end with the records of all bounds
  pub record AllLaid (n at : ℕ) (out zs : List ℕ) : Type 0 where
    pub ends : at ≡ all_length K F n n
    pub long : length (all_records K F n n) ≡ all_length K F n n
    pub bytes : out ≡ all_records K F n n ++ drop (all_length K F n n) zs
    pub codes : (x : ℕ) → x < n → (y : ℕ) → y < n → (w : List ℤ) → F x y ≡ Some w → Codes K w

  pub laid_all : (n i at : ℕ) (out zs : List ℕ) → Laid n i 0 at out zs → i ≡ n → AllLaid n at out zs
  unfolding summed joined
  laid_all n i at out zs h e =
      let l = subst (λ k. Laid n k 0 at out zs) e h in
      let r : all_records K F n n ++ row_records K F n 0 ≡ all_records K F n n = append-nil (all_records K F n n) in
      let a : at ≡ all_length K F n n = (let k = l.ends in omega arith) in
      record { ends = a; long = ap length (sym r) ∙ l.long ∙ a; bytes = l.bytes ∙ ap (λ xs. xs ++ drop at zs) r ∙ ap (λ d. all_records K F n n ++ drop d zs) a; codes = l.above }
