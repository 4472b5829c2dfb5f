use Rattle.std.proofs.Common.{◌≡◌, ℕ, List, length, set, sym, refl, ◌∙◌, subst, take_all}
use Rattle.std.proofs.lemmas.List.{set_past}
use Rattle.net.specs.State.{state, room}
use Rattle.sheet.specs.Told.{coding_of}
use Rattle.history.specs.declared.call.Call.{Call}
use Rattle.history.specs.Runs.{Takes, Ran}
use Rattle.history.specs.Told.{action, actions, note_of}
use Rattle.history.proofs.Runs.{ran_start, ran_turn}
use Rattle.history.proofs.performing.run.Goals as goal
use Rattle.history.proofs.performing.run.Goals.{then-k-answers, else-k-answers}

pub loop-k-init : goal.loop-k-init
loop-k-init g c = (refl, λ kept. kept, λ made. ran_start (coding_of g.K.Kind) g.met.K.Kind.lawful _ note_of _ _ _ made)

pub loop-k-preserved : goal.loop-k-preserved
loop-k-preserved g c =
    let amount = g.K.Kind.amount in
    let wrote : c.if-k-answers.answers ≡ set c.loop-k.answers c.loop-k.k c.apply-answer.result = elim c.if-k-answers.branch [
      | then-k-answers w ↦ w.answers-is
      | else-k-answers w ↦ w.answers-is ∙ sym (set_past c.loop-k.answers c.loop-k.k c.apply-answer.result w.if-k-answers.false)
    ] in (
      c.apply-answer.ensures.kept ∙ c.loop-k.invariant.0,
      λ kept. c.apply-answer.ensures.faithful (c.loop-k.invariant.1 kept),
      λ made. ran_turn (coding_of g.K.Kind) g.met.K.Kind.lawful _ (action amount (length c.args.place.now)) c.args.calls.now c.loop-k.k c.index-calls-k.result note_of c.apply-answer.result _ _ _ _ _ _ _ _ c.loop-k-test.true c.index-calls-k.is
          (subst (λ (m : ℕ). Takes (coding_of g.K.Kind) m (action amount (length c.args.place.now) c.index-calls-k.result) (note_of c.apply-answer.result) c.loop-k.place c.apply-answer.new.place (state amount c.loop-k.net) (state amount c.apply-answer.new.net)) c.loop-k.invariant.0
          (subst (λ (m : ℕ). Takes (coding_of g.K.Kind) (room c.loop-k.net) (action amount m c.index-calls-k.result) (note_of c.apply-answer.result) c.loop-k.place c.apply-answer.new.place (state amount c.loop-k.net) (state amount c.apply-answer.new.net)) c.loop-k.auto.place c.apply-answer.ensures.takes))
          wrote (c.loop-k.invariant.2 made),
    )

pub returns-clause-ran : goal.returns-clause-ran
returns-clause-ran g c made = subst (λ (m : List (Call g.row.K.Denot)). Ran (coding_of g.K.Kind) (room c.args.net.now) (actions g.K.Kind.amount (length c.args.place.now) m) note_of c.args.answers.now c.loop-k.answers c.args.place.now c.loop-k.place (state g.K.Kind.amount c.loop-k.net)) (take_all c.loop-k.k c.args.calls.now c.loop-k-test.false) (c.loop-k.invariant.2 made)
