-- One parameter more.
use Rattle.std.proofs.Common.{map, refl}
use Rattle.test_meaning.specs.Body.Views.{view_operand}
use Rattle.test_functions.proofs.StatementsLemmas.Defaults.{defaults_more, all_defaults}
use Rattle.test_functions.proofs.statements.operands.with_defaults.Goals as goal

pub loop-number-init : goal.loop-number-init
loop-number-init g c = λ ks m. refl

pub loop-number-preserved : goal.loop-number-preserved
loop-number-preserved g c = λ ks m.
    defaults_more (g.M.Meanings.inside c.args.meanings.now).file ks c.args.parameters.now c.loop-number.number _ (map view_operand c.args.written.items)
    (map view_operand c.loop-number.all.items) (map view_operand c.in_ok-all.all.items) c.loop-number-test.true c.index-parameters-number.is
    (c.in_ok-all.ensures ks (m.marks c.loop-number.number c.loop-number-test.true)) (c.loop-number.invariant ks m)

pub returns : goal.returns
returns g c = λ ks m. all_defaults (g.M.Meanings.inside c.args.meanings.now).file ks _ _ _ _ c.loop-number-test.false (c.loop-number.invariant ks m)
