-- What the listing asks of a net of whole microseconds.
use Rattle.std.specs.Prelude.{◌≡◌, ℕ, ◌≤◌, true, false, List, [], ◌∷◌, take, ℤ, Ok, Err, Result}
use Rattle.kinds.specs.declared.micros.Micros.{Micros}
use Rattle.order.specs.declared.counts.Counts.{Counts}
use Rattle.walks.specs.Bounds.{InForce}
use Rattle.walks.specs.Walks.{Loop}
use Rattle.closing.specs.declared.close.Contradiction.{Contradiction}
use Rattle.net.specs.declared.mode.Mode.TheVariants.{Closed}
use Rattle.net.specs.declared.net.Net.{Net}
use Rattle.net.specs.Kept as net_kept
use Rattle.net.specs.State.{State, state}
use Rattle.listing.specs.Listings.{micros, counts_in, contradicts}

-- the amount of a bound
abbrev pub amount : Micros → List ℤ
amount m = m.0 ∷ []

abbrev pub state_of : Net Micros → State
state_of net = state amount net

-- what a net keeps to from its making on
abbrev pub Kept : Net Micros → Type 0
Kept net = net_kept.Kept micros amount net

-- closed with its counts, or a loop of so many events in the place
abbrev pub Closes : Net Micros → Net Micros → List ℕ → Result Counts Contradiction → Type 0
Closes before after place (Ok counts) = (contradicts (state_of before) ≡ false) × (counts ≡ counts_in (state_of before)) × (after.mode ≡ Closed)
Closes before after place (Err why) = (contradicts (state_of before) ≡ true) × (why.shown ≤ (state_of before).events) × Loop micros (InForce (state_of before).bounds) (take why.shown place)
