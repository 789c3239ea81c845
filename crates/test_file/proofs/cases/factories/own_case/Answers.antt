use Rattle.test_file.proofs.CasesLemmas.Numbers.{own_tested}
use Rattle.test_file.proofs.cases.factories.own_case.Goals as goal

pub returns : goal.returns
returns g c =
    own_tested c.test_case.result (g.V.Values.file c.args.values.now) c.args.function.now c.in_ok-name.name c.in_ok-args.args c.in_ok-name.ensures c.in_ok-args.ensures
    c.test_case.ensures
