use Rattle.std.proofs.Common.{◌≡◌, length, take}
use Rattle.net.specs.State.{state, room, made}
use Rattle.net.specs.Kept.{Kept}
use Rattle.sheet.specs.Told.{coding_of}
use Rattle.history.specs.Runs.{Ran}
use Rattle.history.specs.Told.{actions, note_of}
use Rattle.history.proofs.performing.run.Given as goal

abbrev pub invariant-loop-k : goal.invariant-loop-k
invariant-loop-k g l =
    let amount = g.K.Kind.amount in
    (room l.net ≡ room l.initial.net) ×
    (Kept g.K.Kind.arithmetic amount l.initial.net → Kept g.K.Kind.arithmetic amount l.net) ×
    (state amount l.initial.net ≡ made → Ran (coding_of g.K.Kind) (room l.initial.net) (actions amount (length l.initial.place) (take l.k l.calls)) note_of l.initial.answers l.answers l.initial.place l.place (state amount l.net))
