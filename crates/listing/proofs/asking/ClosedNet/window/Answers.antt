-- The window that a closed net tells, as numbers.
use Rattle.std.proofs.Common.{◌≡◌, arith}
use Rattle.std.proofs.lemmas.Grind.{common_steps}
use Rattle.std.proofs.Math.Logic.{∥∥₁_elim}
use Rattle.std.proofs.Props.{props}
use Rattle.listing.specs.ClosedNets.{state_in}
use Rattle.listing.proofs.Answering.{number_told, ends_are, not_refused, pair_is}
use Rattle.listing.proofs.asking.ClosedNet.window.Goals as goal

pub unwrap-low-requires : goal.unwrap-low-requires
unwrap-low-requires c = not_refused (state_in c.args.self.now) c.args.from c.args.to c.window.result c.requires.row c.requires.column c.args.self.now.closed c.window.ensures.refused

pub returns : goal.returns
returns c =
    let ends = c.unwrap-low.result in
    let low : c.map.result ≡ number_told ends.0 = grind (arith, common_steps, c.map.ensures) in
    let high : c.map-2.result ≡ number_told ends.1 = grind (arith, common_steps, c.map-2.ensures) in
    pair_is low high (∥∥₁_elim c.args.self.now.kept (hlevel props) (λ kept. ends_are (state_in c.args.self.now) c.args.from c.args.to ends c.window.result c.requires.row c.requires.column c.args.self.now.closed c.unwrap-low.ensures (c.window.ensures.told kept)))
