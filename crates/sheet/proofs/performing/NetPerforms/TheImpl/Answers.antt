-- The net stands for its state.
use Rattle.std.proofs.Common.{◌≡◌, Result, sym, ap, ◌∙◌}
use Rattle.net.specs.Refusals.{Reason, answered}
use Rattle.net.specs.State.{State, Outcome, outcome, state, room}
use Rattle.sheet.specs.Outlines.{Performed}
use Rattle.sheet.specs.Sheets.{performed}
use Rattle.sheet.specs.Told.{asking}
use Rattle.sheet.proofs.performing.NetPerforms.TheImpl.Goals as goal

told : (o : Outcome) (answer : Result (Unit {0}) Reason) (t : State) → outcome answer t ≡ o → Performed o answer (λ u. t ≡ u)
told o answer t e = record { answers = ap (λ x. x.answer) (sym e); leaves = ap (λ x. x.after) e }

pub perform-tells : goal.perform-tells
perform-tells g c = record {
  performed = λ s e. told _ (answered c.result) (state g.K.Kind.amount c.new.self.now) (c.ensures.outcome ∙ ap (performed g.K.Kind.arithmetic (room c.args.self.now) (asking g.K.Kind.amount c.args.request)) e);
  room = c.ensures.kept;
  kept = (c.ensures.sound, c.ensures.faithful);
}
