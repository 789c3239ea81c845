-- One parameter more is given.
use Rattle.std.proofs.Common.{◌-◌, arith, length, sym, ap}
use Rattle.std.proofs.lemmas.List.{drop_all}
use Rattle.test_meaning.specs.Rules.Rules.{are_given}
use Rattle.test_names.proofs.ArgumentsLemmas.Marked.{given_more}
use Rattle.test_names.proofs.arguments.arguments.are_given.Goals as goal

pub back-init : goal.back-init
back-init c = record {
  within = omega arith;
  all = λ ks m. ap (λ qs. are_given ks (length c.args.parameters.now) qs) (sym (drop_all (length c.args.parameters.now) c.args.parameters.now (omega arith)));
}

pub back-preserved : goal.back-preserved
back-preserved c = record {
  within = omega (arith, c.back.invariant.within);
  all = λ ks m. given_more ks c.args.parameters.now c.back.number (c.back.number - 1) _ _ _ _ _ (omega (arith, c.back-test.true))
      (omega (arith, c.back.invariant.within, c.back-test.true)) c.index-parameters-number.is m c.has_value-value_is_there.ensures c.both-all_given.ensures
      (c.back.invariant.all ks m);
}
