-- One less than a power of two.
use Rattle.std.proofs.Common.{◌-◌, nat_lt, ap, sym, ◌∙◌, arith}
use Rattle.std.proofs.lemmas.Nat.{one_shl}
use Rattle.marks.specs.Sets.{has}
use Rattle.marks.proofs.Digits.{has_below}
use Rattle.marks.proofs.set.Marks.all_below.Goals as goal

pub returns-then-n-eq128 : goal.returns-then-n-eq128
returns-then-n-eq128 c q = has_below 128 q (omega arith) ∙ ap (nat_lt q) (sym c.if-n-eq128.true)

pub returns : goal.returns
returns c q = ap (λ x. has record { digits = x - 1 } q) (one_shl c.args.n 128 (omega (arith, c.requires, c.if-n-eq128.false))) ∙ has_below c.args.n q c.requires
