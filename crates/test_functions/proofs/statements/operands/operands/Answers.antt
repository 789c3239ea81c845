-- The operands that are written, and the defaults.
use Rattle.std.proofs.Common.{Bool, List, length, map, refl, sym, subst}
use Rattle.test_names.specs.Arguments.Marks.{AreMarks}
use Rattle.test_meaning.specs.declared.body.call.Operand.{Operand}
use Rattle.test_functions.proofs.StatementsLemmas.Written.{operands_done}
use Rattle.test_functions.proofs.statements.operands.operands.Goals as goal

pub returns : goal.returns
returns g c =
    let n = length c.args.parameters.now in
    let given = c.in_ok-given.given.items in
    let marks : AreMarks n (map (λ (o : Operand). o.parameter) c.in_ok-written.written.items) given =
    subst (λ (os : List Operand). AreMarks n (map (λ (o : Operand). o.parameter) os) given) c.deref.ensures.value c.in_ok-given.ensures in
    operands_done c.with_defaults.result (g.M.Meanings.inside c.args.meanings.now) c.args.parameters.now c.args.arguments.now c.in_ok-written.written.items
    c.deref-2.result.now n refl c.in_ok-written.ensures
    (subst (λ (bs : List Bool). AreMarks n (map (λ (o : Operand). o.parameter) c.in_ok-written.written.items) bs) (sym c.deref-2.ensures.value) marks)
    c.with_defaults.ensures
