-- The events met so far are marked where the test holds, and no other.
use Rattle.std.proofs.Common.{◌≡◌, ℕ, ◌<◌, ◌≤◌, false}
use Rattle.marks.specs.Sets.{has}
use Rattle.marks.proofs.set.Marks.of.Given as goal

abbrev pub invariant-loop-event : goal.invariant-loop-event
invariant-loop-event g l =
    ((q : ℕ) → q < l.event → goal.F-post g l.test q (has l.marks q))
    × ((q : ℕ) → l.event ≤ q → has l.marks q ≡ false)
