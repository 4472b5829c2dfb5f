-- The state of a closed net.
use Rattle.net.specs.State.{State}
use Rattle.listing.specs.declared.asking.ClosedNet.{ClosedNet}
use Rattle.listing.specs.Asked.{state_of}

abbrev pub state_in : ClosedNet → State
state_in closed = state_of closed.net.now
