-- The name is noted, and the product goes on.
use Rattle.std.proofs.Common.{ℕ, List}
use Rattle.test_refusal.proofs.MakersLemmas.Products.{counted, option_noted}
use Rattle.test_refusal.proofs.makers.added.Added.add.Goals as goal

pub returns-clause-ok : goal.returns-clause-ok
returns-clause-ok c = λ cs g vs e old. record {
  options = option_noted c.args.self.now.options c.note.new.self cs (record { name = c.args.option.now; values = vs }) (λ n. c.in_ok-note.ensures.ok n) old.options;
  counted = counted cs (record { name = c.args.option.now; values = vs }) c.args.self.now.case_count c.args.value_count c.saturating_mul.result c.cut-self.result
      old.counted e c.saturating_mul.ensures c.cut-self.ensures;
  tests = old.tests;
}
