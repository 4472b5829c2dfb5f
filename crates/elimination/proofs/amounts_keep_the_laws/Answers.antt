-- The laws, as proved.
use Rattle.elimination.proofs.Laws.{amounts, measured}
use Rattle.elimination.proofs.amounts_keep_the_laws.Goals as goal

pub returns : goal.returns
returns c A L = (amounts L, measured L)
