-- The lowest digit that is 1.
use Rattle.std.proofs.Common.{◌≡◌, ℕ, false, None, Some, arith, rules, ap, ◌∙◌}
use Rattle.marks.specs.Sets.{has}
use Rattle.marks.proofs.Digits.{has_none, lowest_mark}
use Rattle.marks.proofs.Lowest.{lowest_is}
use Rattle.marks.proofs.set.Marks.first.Goals as goal

pub returns-then-self-eq0 : goal.returns-then-self-eq0
returns-then-self-eq0 c =
    let l : (q : ℕ) → has c.args.self q ≡ false = λ q. ap (λ x. has record { digits = x } q) c.if-self-eq0.true ∙ has_none q in
    record { value = lowest_is (has c.args.self) 128 None l; least = l }

pub returns : goal.returns
returns c =
    let l = lowest_mark c.args.self (omega (arith, c.if-self-eq0.false)) (search rules) in
    record { value = lowest_is (has c.args.self) 128 (Some _) l; least = l }
