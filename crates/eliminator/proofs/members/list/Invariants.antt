-- The members that wait no more are listed.
use Rattle.std.proofs.Common.{◌≡◌, ◌+◌, ◌≤◌, length}
use Rattle.marks.specs.Sets.{has, how_many}
use Rattle.eliminator.specs.Members.{Lists}
use Rattle.eliminator.proofs.Visiting.{Seen, Waits}
use Rattle.eliminator.proofs.members.list.Given as goal

abbrev pub invariant-loop-rank : goal.invariant-loop-rank
invariant-loop-rank l =
    let mine = l.fn.mine in
    let rest = l.rank-iterator.rest in
    (length l.ranks ≡ length l.initial.ranks) × Waits mine rest × (l.m + how_many (has rest) 128 ≤ 128) × Lists (Seen mine rest) l.ranks l.m
