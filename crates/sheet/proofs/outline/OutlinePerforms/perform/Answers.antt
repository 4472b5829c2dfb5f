-- Each call answers by the number of events and of cells alone.
use Rattle.std.proofs.Common.{◌≡◌, Err, sym, refl, ap, ◌∙◌}
use Rattle.std.proofs.lemmas.Result.{err_from_is_err_and}
use Rattle.net.specs.Refusals.{reason, answered}
use Rattle.sheet.specs.Records.{begin, require, arrange}
use Rattle.sheet.specs.Told.{asking}
use Rattle.sheet.proofs.Foreseeing.{seen_as, seen_call, begin_answer, begin_kept, begin_done, require_answer, require_told, arrange_told}
use Rattle.sheet.proofs.outline.OutlinePerforms.perform.Goals as goal

pub returns-in_err-check_begin-in-Begin : goal.returns-in_err-check_begin-in-Begin
returns-in_err-check_begin-in-Begin g c =
    let p = err_from_is_err_and c.from_residual.result c.from_residual.ensures.1 in
    let why = c.in_err-check_begin-in-Begin.field-0.0 in
    let told : answered c.from_residual.result ≡ Err (reason why) = ap answered p.1 ∙ ap (λ y. Err (reason y)) p.2 in
    let call = ap (asking g.K.Kind.amount) c.in-Begin.is ∙ ap begin (sym c.from-n.ensures) in
    record {
      same = refl;
      foreseen = λ s e. seen_call g.K.Kind.arithmetic c.args.self.now.cells s (asking g.K.Kind.amount c.args.request) (begin c.from-n.result) call (seen_as (begin_kept c.args.self.now.cells c.from-n.result s (reason why) c.args.self.now.events (c.in_err-check_begin-in-Begin.ensures.value s ∙ begin_answer c.args.self.now.cells c.from-n.result s) e) (sym told) refl);
    }

pub returns-in_ok-check_begin-in-Begin : goal.returns-in_ok-check_begin-in-Begin
returns-in_ok-check_begin-in-Begin g c =
    let call = ap (asking g.K.Kind.amount) c.in-Begin.is ∙ ap begin (sym c.from-n.ensures) in
    record {
      same = refl;
      foreseen = λ s e. seen_call g.K.Kind.arithmetic c.args.self.now.cells s (asking g.K.Kind.amount c.args.request) (begin c.from-n.result) call (begin_done c.args.self.now.cells c.from-n.result s (c.in_ok-check_begin-in-Begin.ensures.value s ∙ begin_answer c.args.self.now.cells c.from-n.result s));
    }

pub returns-in-Require : goal.returns-in-Require
returns-in-Require g c =
    let w = g.K.Kind.amount c.in-Require.bound in
    let call = ap (asking g.K.Kind.amount) c.in-Require.is ∙ ap (λ i. require i c.in-Require.to w) (sym c.from.ensures) ∙ ap (λ j. require c.from.result j w) (sym c.from-in-Require.ensures) in
    record {
      same = refl;
      foreseen = λ s e. seen_call g.K.Kind.arithmetic c.args.self.now.cells s (asking g.K.Kind.amount c.args.request) (require c.from.result c.from-in-Require.result w) call (require_told g.K.Kind.arithmetic c.from.result c.from-in-Require.result w s c.args.self.now.events (answered c.check_require.result) (c.check_require.ensures.value s e ∙ require_answer g.K.Kind.arithmetic c.from.result c.from-in-Require.result w s c.args.self.now.events e) e);
    }

pub returns-in-Arrange : goal.returns-in-Arrange
returns-in-Arrange g c =
    let list = c.in-Arrange.events.now in
    record {
      same = refl;
      foreseen = λ s e. seen_call g.K.Kind.arithmetic c.args.self.now.cells s (asking g.K.Kind.amount c.args.request) (arrange list) (ap (asking g.K.Kind.amount) c.in-Arrange.is) (arrange_told list s c.args.self.now.events (answered c.may_arrange.result) c.may_arrange.ensures e);
    }
