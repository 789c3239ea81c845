use Rattle.vcd_text.specs.declared.forms.Pair.{Pair}
use Rattle.vcd_text.proofs.FormLaws.{scalar_said, vector_said}
use Rattle.vcd_text.proofs.forms.pair_of.Goals as goal

pub returns-in-Some : goal.returns-in-Some
returns-in-Some c =
    vector_said {P = Pair} (λ (pair : Pair). pair.digits.now) (λ (pair : Pair). pair.code.now) c.args.line.now c.in_ok-text.text.now c.in-Some.rest.now c.in_ok-text.ensures c.in-Some.ensures
    c.vector_of.result c.vector_of.ensures

pub returns-in-None : goal.returns-in-None
returns-in-None c =
    scalar_said {P = Pair} (λ (pair : Pair). pair.digits.now) (λ (pair : Pair). pair.code.now) c.args.line.now c.in_ok-text.text.now c.in_ok-text.ensures c.in-None.ensures
    c.scalar_of.result c.scalar_of.ensures
