-- What stands where the reader is.
use Rattle.std.proofs.Common.{sym, refl, ◌∙◌, arith}
use Rattle.std.proofs.lemmas.Grind.{common_steps}
use Rattle.sheet.proofs.Nexts.{comes_last, comes_cut, comes_found}
use Rattle.sheet.proofs.reader.ReaderIterator.next.Goals as goal

pub returns-then-is_empty-clause-steps : goal.returns-then-is_empty-clause-steps
returns-then-is_empty-clause-steps c = record {
  same = refl;
  told = rw c.then_some.ensures (comes_last c.args.self.now.sheet.now c.in_ok-offset.offset c.args.self.now.at (sym c.take.ensures.value ∙ c.in_ok-offset.was) _ refl _ (grind (arith, common_steps)));
}

pub returns-in_default-clause-steps : goal.returns-in_default-clause-steps
returns-in_default-clause-steps c = record {
  same = refl;
  told = comes_cut c.args.self.now.sheet.now c.in_ok-offset.offset c.args.self.now.at (sym c.take.ensures.value ∙ c.in_ok-offset.was) _ refl c.take.new.self (grind (arith, common_steps)) c.in_default.ensures;
}

pub returns-clause-steps : goal.returns-clause-steps
returns-clause-steps c = record {
  same = refl;
  told = comes_found c.args.self.now.sheet.now c.in_ok-offset.offset c.args.self.now.at (sym c.take.ensures.value ∙ c.in_ok-offset.was) _ refl c.in-Some.body (grind (arith, common_steps)) c.in-Some.ensures.0 c.in-Some.ensures.1;
}
