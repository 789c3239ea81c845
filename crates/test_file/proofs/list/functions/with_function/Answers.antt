-- One function more, or none.
use Rattle.std.proofs.Common.{List, [], ◌++◌, Option, subst}
use Rattle.std.specs.List.{cons_option}
use Rattle.test_meaning.specs.Rules.File.{Definition}
use Rattle.test_file.specs.declared.cases.factories.TestedFunction.{TestedFunction}
use Rattle.test_file.specs.List.SoFar.{AreFunctions, AreOne}
use Rattle.test_file.proofs.ListLemmas.Steps.{no_function, one_function}
use Rattle.std.proofs.lemmas.Result.{IfOk-weaker}
use Rattle.test_file.proofs.list.functions.with_function.Goals as goal

pub returns-in-Some : goal.returns-in-Some
returns-in-Some c =
    IfOk-weaker c.with.result _
    (λ after. (ds : List Definition) (d : Option Definition) → AreFunctions ds c.args.functions → AreOne d c.args.function → AreFunctions (ds ++ cons_option d []) after)
    (λ after step ds d old one. one_function ds d c.args.functions after c.in-Some.function (subst (λ (v : Option TestedFunction). AreOne d v) c.in-Some.is one) old step)
    c.with.ensures

pub returns-in-None : goal.returns-in-None
returns-in-None c = λ ds d old one. no_function ds d c.args.functions (subst (λ (v : Option TestedFunction). AreOne d v) c.in-None.is one) old
