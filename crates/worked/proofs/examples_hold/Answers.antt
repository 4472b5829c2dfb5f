use Rattle.worked.specs.Table.{table, computed, expected_of}
use Rattle.worked.proofs.Computing.{all_equal, computes}
use Rattle.std.proofs.Common.{refl}
use Rattle.worked.proofs.examples_hold.Goals as goal

pub returns : goal.returns
returns c = record { each = all_equal computed expected_of table computes; long = refl }
