use Rattle.std.proofs.Common.{◌≡◌, ℕ, length, Ok, Err, Result, MatchResult, IsOkAnd, sym, refl, ap, subst}
use Rattle.net.specs.declared.refusal.Refusal.{Refusal}
use Rattle.net.specs.Refusals.{answered}
use Rattle.net.specs.State.{state}
use Rattle.net.specs.Asking.{done}
use Rattle.sheet.specs.Told.{coding_of}
use Rattle.history.specs.Standing.{Closes}
use Rattle.history.specs.Runs.{Ran}
use Rattle.history.specs.Told.{actions, note_of, reported}
use Rattle.history.proofs.Shown.{closes_of, closes_done}
use Rattle.history.proofs.Laws.{notes_whole, law_whole}
use Rattle.history.proofs.Notes.{note_tells}
use Rattle.history.proofs.performing.perform.Goals as goal

-- without the counts
mapped : {T : Type 0} (P : T → Unit {0} → Type 0) (r : Result T Refusal) (x : Result (Unit {0}) Refusal) → MatchResult r (λ v. IsOkAnd x (P v)) (λ e. x ≡ Err e) → done (answered r) ≡ answered x
mapped P (Ok v) (Ok u) h = refl
mapped P (Ok v) (Err e) h = absurd h
mapped P (Err e) x h = ap answered (sym h)

pub returns : goal.returns
returns g c =
    let k = g.met.K.Kind in
    let K = coding_of g.K.Kind in
    let A = g.K.Kind.arithmetic in
    let amount = g.K.Kind.amount in
    let all = actions amount (length c.args.place.now) c.args.calls.now in
    let s = state amount c.run.new.net in
    let t = state amount c.close.new.self in
    let before = c.run.new.place in
    let place = c.close.new.place in
    let kept = c.run.ensures.faithful c.make-net.ensures.faithful in
    let sound = kept.sound in
    let ran = subst (λ (m : ℕ). Ran K m all note_of c.args.answers.now c.run.new.answers c.args.place.now before s) c.make-net.ensures.kept (c.run.ensures.ran c.make-net.ensures.made) in
    let closes = subst (Closes A (length place) s t before place) (mapped _ c.close.result c.map-closing.result c.map-closing.ensures.cases)
    (closes_done A _ s t before place _
    (subst (λ (m : ℕ). Closes A m s t before place (answered c.close.result)) (sym c.close.auto.place)
    (closes_of A s t before place c.close.result c.close.auto.place (c.close.ensures.outcome sound) (c.close.ensures.shows sound) c.close.ensures.rest))) in
    record {
      law = law_whole K k.lawful k.inverse _ all note_of _ _ _ before place s t ran c.args.from c.args.to (reported amount record { before = c.ask-before.result; closing = c.map-closing.result; after = c.ask-after.result }) (c.ask-before.ensures kept) closes (c.ask-after.ensures (c.close.ensures.faithful kept));
      notes = notes_whole K k.lawful k.inverse _ all note_of _ _ _ before place s t ran note_tells (answered c.map-closing.result) closes;
    }
