-- A list of members grows by one at each turn.
use Rattle.std.proofs.Common.{◌≡◌, ℕ, zero, suc, ◌+◌, ◌<◌, ◌≤◌, Bool, true, false, cond, not, ◌&&◌, eqb, ◌≢◌, List, length, get_or, set, take, sym, ap, ◌∙◌, subst, inl, inr, arith, get_or-set_other, get_or-set_same}
use Rattle.std.proofs.lemmas.List.{get_or-take, length-take-le}
use Rattle.elimination.proofs.Sweep.{up_to}
use Rattle.marks.specs.declared.set.Marks.{Marks}
use Rattle.marks.specs.Sets.{has, how_many}
use Rattle.eliminator.specs.Members.{Lists}
use Rattle.eliminator.proofs.Visiting.{Seen, Waits, never, seen_more, seen_here, seen_less}

pub list_start : (mine : Marks) (ranks : List ℕ) → Lists (Seen mine mine) ranks 0
list_start mine ranks = record { member = λ t l. absurd (omega arith); found = λ q s. never s.0 s.1; apart = λ s t l r. absurd (omega arith) }

pub list_turn : (mine rest less : Marks) (ranks : List ℕ) (m j : ℕ) → m < length ranks → Waits mine rest → has rest j ≡ true → ((q : ℕ) → has less q ≡ (has rest q && not (eqb q j))) →
    Lists (Seen mine rest) ranks m → Lists (Seen mine less) (set ranks m j) (m + 1)
list_turn mine rest less ranks m j room w h f l = record {
  member = λ t b. elim (up_to m t (omega arith)) [
    | inl a ↦ subst (Seen mine less) (sym (old t a)) (seen_more rest less j f mine (get_or ranks t 0) (l.member t a))
    | inr e ↦ subst (λ (t : ℕ). Seen mine less (get_or (set ranks m j) t 0)) (sym e) (subst (Seen mine less) (sym new) (seen_here rest less j f mine w h))
  ];
  found = λ q s. elim (seen_less rest less j f mine q s) [
    | inl a ↦ let (t, b, e) = l.found q a in (t, omega arith, old t b ∙ e)
    | inr e ↦ (m, omega arith, new ∙ sym e)
  ];
  apart = λ s t a b. elim (up_to m t (omega arith)) [
    | inl c ↦ λ e. l.apart s t a c (sym (old s (omega arith)) ∙ e ∙ old t c)
    | inr c ↦ λ e. never h (subst (λ (q : ℕ). has rest q ≡ false) (sym (old s (omega arith)) ∙ e ∙ ap (λ (t : ℕ). get_or (set ranks m j) t 0) c ∙ new) (l.member s (omega arith)).1)
  ];
}
  where
    new : get_or (set ranks m j) m 0 ≡ j
    new = get_or-set_same ranks m j 0 room

    old : (t : ℕ) → t < m → get_or (set ranks m j) t 0 ≡ get_or ranks t 0
    old t a = let off : t ≢ m = λ e. omega arith in get_or-set_other ranks m t j 0 off

pub list_done : (mine rest : Marks) (ranks : List ℕ) (m : ℕ) → ((q : ℕ) → has rest q ≡ false) → Lists (Seen mine rest) ranks m → Lists (λ q. has mine q ≡ true) ranks m
list_done mine rest ranks m e l = record { member = λ t b. (l.member t b).0; found = λ q s. l.found q (s, e q); apart = l.apart }

-- the part of the place that was written
pub list_taken : (S : ℕ → Type 0) (ranks : List ℕ) (m : ℕ) → m ≤ length ranks → Lists S ranks m → Lists S (take m ranks) (length (take m ranks))
list_taken S ranks m h l = rw (length-take-le m ranks h) (record {
  member = λ t b. subst S (sym (get_or-take m ranks t 0 b)) (l.member t b);
  found = λ q s. let (t, b, e) = l.found q s in (t, b, get_or-take m ranks t 0 b ∙ e);
  apart = λ s t a b e. l.apart s t a b (sym (get_or-take m ranks s 0 (omega arith)) ∙ e ∙ get_or-take m ranks t 0 b);
})
