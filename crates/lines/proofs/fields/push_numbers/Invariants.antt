-- The numbers written so far.
use Rattle.std.proofs.Common.{◌≡◌, ◌+◌, ◌*◌, ◌≤◌, ◌++◌, length, take}
use Rattle.lines.specs.Fields.{numbered}
use Rattle.lines.proofs.fields.push_numbers.Given as goal

abbrev pub invariant-loop-number : goal.invariant-loop-number
invariant-loop-number l = record {
  text : l.text.bytes ≡ l.initial.text.bytes ++ numbered (take l.number-index l.numbers);
  short : length l.text.bytes ≤ length l.initial.text.bytes + 4 * l.number-index;
}
