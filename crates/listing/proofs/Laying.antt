-- Texts written one after another, each from where the one before ended.
use Rattle.std.proofs.Common.{◌≡◌, ℕ, suc, ◌+◌, ◌-◌, ◌≤◌, List, [], ◌++◌, length, take, drop, refl, ap, ◌∙◌, append_assoc, add-one, arith}
use borrow.Rule.Slice.PartMut.{put_mid}
use Rattle.std.specs.List.{between}
use Rattle.std.proofs.lemmas.List.{append-nil, length-append, length-drop, take_at, drop_at, drop_all, drop-drop}
use Rattle.std.proofs.lemmas.Slice.{between_to_end}
use Rattle.listing.specs.Standing.{Stands}
use Rattle.listing.specs.Texts.{texts}

-- one text more
pub texts_more : (text : ℕ → List ℕ) (k j : ℕ) → k ≤ j → texts text k (j + 1 - k) ≡ texts text k (j - k) ++ text j
unfolding texts
texts_more text k j h =
    let e : j + 1 - k ≡ suc (j - k) = omega arith in
    let f : k + (j - k) ≡ j = omega arith in
    ap (texts text k) e ∙ ap (λ (i : ℕ). texts text k (j - k) ++ text i) f

-- counted from zero
pub texts_next : (text : ℕ → List ℕ) (m : ℕ) → texts text 0 (m + 1) ≡ texts text 0 m ++ text m
unfolding texts
texts_next text m =
    let f : 0 + m ≡ m = omega arith in
    ap (texts text 0) (add-one m) ∙ ap (λ (i : ℕ). texts text 0 m ++ text i) f

pub texts_zero : (text : ℕ → List ℕ) (k : ℕ) → texts text k 0 ≡ []
unfolding texts
texts_zero text k = refl

pub texts_none : (text : ℕ → List ℕ) (k : ℕ) → texts text k (k - k) ≡ []
unfolding texts
texts_none text k = let e : k - k ≡ 0 = omega arith in ap (texts text k) e

-- nothing written yet
pub stands_none : {before : List ℕ} → Stands before before [] 0 0
stands_none = record { ends = refl; fits = omega arith; place = refl }

-- a text written at the front of the part from `at` on, after what stands before it
part_more : (xs zs ls text : List ℕ) (at n : ℕ) → length ls ≡ at → at ≤ length zs → xs ≡ ls ++ drop at zs → put_mid at (length xs - at) xs (text ++ drop n (between at (length xs) xs)) ≡ (ls ++ text) ++ drop (at + n) zs
part_more xs zs ls text at n l b e =
    let rest : drop at xs ≡ drop at zs = ap (drop at) e ∙ drop_at ls (drop at zs) at l in
    let front : take at xs ≡ ls = ap (take at) e ∙ take_at ls (drop at zs) at l in
    let whole = between_to_end xs at (length xs) (omega arith) in
    let none : drop (length xs - at) (drop at xs) ≡ [] = drop_all (length xs - at) (drop at xs) (simp length-drop (omega arith)) in
    simp (whole, none, front) (simp (rest, append-nil, drop-drop, append_assoc))

-- one text more, in the part from where those before it end
pub stands_more : {before now front text part : List ℕ} {at n : ℕ} → Stands before now front 0 at → Stands (between at (length now) now) part text 0 n → at + n ≤ length before →
    Stands before (put_mid at (length now - at) now part) (front ++ text) 0 (at + n)
stands_more {before = before} {now = now} {front = front} {text = text} {at = at} {n = n} s t h =
    let ends = s.ends in
    let more = t.ends in
    record {
      ends = simp length-append (omega arith);
      fits = h;
      place = ap (put_mid at (length now - at) now) t.place ∙ part_more now before front text at n (omega arith) s.fits s.place;
    }
