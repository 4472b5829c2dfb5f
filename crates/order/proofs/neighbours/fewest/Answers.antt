-- The counts of free neighbours are the keys.
use Rattle.std.proofs.Common.{length, ap, sym, ◌∙◌, rules}
use Rattle.marks.specs.Sets.{has}
use Rattle.order.proofs.Fewest.{callable, picked}
use Rattle.order.proofs.Computed.{chosen_best}
use Rattle.order.proofs.neighbours.fewest.Goals as goal

pub min_by_key-requires-clause-callable : goal.min_by_key-requires-clause-callable
min_by_key-requires-clause-callable c = callable c.args.near.now c.args.free _ _ (λ x k q called. search rules) c.members.result
    (λ x h. let below = c.requires x (ap (λ m. has m x) (sym c.members.ensures) ∙ h) in search rules)

pub returns : goal.returns
returns c =
    let n = length c.args.near.now in
    let found = picked c.args.near.now c.args.free _ _ (λ x k q called. search rules) n c.requires c.members.result c.min_by_key.result c.members.ensures c.min_by_key.ensures.ran in
    record { value = chosen_best c.args.near.now c.args.free n c.min_by_key.result found; chosen = found }
