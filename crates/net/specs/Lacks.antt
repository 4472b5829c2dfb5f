-- The refusal of a list that is no ordering.
use Rattle.order.specs.declared.event_order.Misordered.{Misordered}
use Rattle.order.specs.declared.event_order.Misordered.TheVariants.{Count, Outside, Again}
use Rattle.net.specs.declared.refusal.Refusal.{Refusal}
use Rattle.net.specs.declared.refusal.Refusal.TheVariants.{WrongCount, OutsideNet, NamedTwice}

abbrev pub refusal_of : Misordered → Refusal
refusal_of Count = WrongCount
refusal_of Outside = OutsideNet
refusal_of Again = NamedTwice
