use Rattle.std.proofs.Common.{◌≡◌, drop, take, rules, take_all, take-append-drop}
use Rattle.kinds.proofs.strict.StrictMicrosKind.read.Goals as goal

pub returns : goal.returns
returns c =
    let all : take 8 (drop 8 c.args.from.now) ≡ drop 8 c.args.from.now = take_all 8 (drop 8 c.args.from.now) (search rules) in
    (search rules, search rules, search (rules, take-append-drop))
