use Rattle.walks.proofs.Windows.{windows}
use Rattle.walks.proofs.windows_are_exact.Goals as goal

pub returns : goal.returns
returns c = windows
