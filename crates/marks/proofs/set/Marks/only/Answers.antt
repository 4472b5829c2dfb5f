-- A power of two, made of the half that it lies in.
use Rattle.std.proofs.Common.{◌≡◌, ◌-◌, ◌*◌, ◌%◌, ◌^◌, sym, ap, ◌∙◌, arith}
use Rattle.std.proofs.lemmas.Nat.{one_shl, pow-add, pow_below}
use Rattle.marks.specs.Sets.{has}
use Rattle.marks.proofs.Digits.{has_one}
use Rattle.marks.proofs.set.Marks.only.Goals as goal

pub returns-then-event-lt64 : goal.returns-then-event-lt64
returns-then-event-lt64 c q =
    let same : c.args.event % 64 ≡ c.args.event = omega arith in
    ap (λ x. has record { digits = x } q) (one_shl (c.args.event % 64) 64 (omega arith) ∙ ap (λ k. 2 ^ k) same) ∙ has_one c.args.event q c.requires

pub returns-else-event-lt64 : goal.returns-else-event-lt64
returns-else-event-lt64 c q =
    let e = c.args.event in
    let place : e % 64 ≡ e - 64 = omega arith in
    let sum : 2 ^ (e - 64) * 2 ^ 64 ≡ 2 ^ e = sym (pow-add 2 (e - 64) 64) ∙ ap (λ k. 2 ^ k) (omega arith) in
    let half : 1 * 2 ^ (e % 64) % 2 ^ 64 ≡ 2 ^ (e - 64) = one_shl (e % 64) 64 (omega arith) ∙ ap (λ k. 2 ^ k) place in
    let fits = pow_below e 128 c.requires in
    let whole : 1 * 2 ^ (e % 64) % 2 ^ 64 * 2 ^ 64 % 2 ^ 128 ≡ 2 ^ e = ap (λ x. x * 2 ^ 64 % 2 ^ 128) half ∙ omega (arith, sum, fits) in
    ap (λ x. has record { digits = x } q) whole ∙ has_one e q c.requires
