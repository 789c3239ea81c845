use Rattle.std.proofs.Common.{◌≡◌, sym, subst, length, ℕ, List, rules}
use Rattle.std.specs.Prelude.{IfOk}
use Rattle.four_value.specs.declared.Digit.{Digit}
use Rattle.py_evaluate.specs.Attribute.Look.{width}
use Rattle.py_value.specs.Answer.{Answer}
use Rattle.rig_model.proofs.TaskLemmas.PartsKnown.{bits_length}
use Rattle.task_step.proofs.statement_values.writes.bits_at.Goals as goal

pub returns-clause-digits : goal.returns-clause-digits
returns-clause-digits g c =
    let w = c.width.result in
    let is : w ≡ width (g.V.Look.view c.args.view.now) c.args.sig = search rules in
    subst (λ (n : ℕ). IfOk c.to_bits.result (λ bits. length bits ≡ n)) is
    (subst (λ (r : Answer (List Digit)). IfOk r (λ bits. length bits ≡ w)) (sym c.to_bits.ensures) (bits_length w c.args.v.now))
