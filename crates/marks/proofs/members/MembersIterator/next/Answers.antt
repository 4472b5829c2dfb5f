-- One mark fewer is left.
use Rattle.marks.proofs.Progress.{progress}
use Rattle.marks.proofs.members.MembersIterator.next.Goals as goal

pub returns-clause-goes : goal.returns-clause-goes
returns-clause-goes c = progress c.args.self.now c.pop_first.result _ c.pop_first.ensures
