use Rattle.std.proofs.Common.{◌∙◌, sym, ap, length}
use Rattle.four_value.specs.Back.{digits_length}
use Rattle.four_value.proofs.Numbers.{number_of_known, number_of_unknown}
use Rattle.four_value.proofs.vector.Bits.to_number.Goals as goal

pub returns-then-self-eq0-clause-is : goal.returns-then-self-eq0-clause-is
returns-then-self-eq0-clause-is c = sym (number_of_known _ _ _ _ c.self.view_is c.self.invariant.value_fits c.if-self-eq0.true)

pub returns-then-self-eq0-clause-fits : goal.returns-then-self-eq0-clause-fits
returns-then-self-eq0-clause-fits c = rw (sym (digits_length _ _ _) ∙ ap length c.self.view_is) at c.self.invariant.value_fits

pub returns-else-self-eq0-clause-is : goal.returns-else-self-eq0-clause-is
returns-else-self-eq0-clause-is c = sym (number_of_unknown _ _ _ _ c.self.view_is c.self.invariant.unknown_fits c.if-self-eq0.false)
