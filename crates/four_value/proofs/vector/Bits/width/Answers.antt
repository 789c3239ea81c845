use Rattle.std.proofs.Common.{◌∙◌, sym, ap, length}
use Rattle.four_value.specs.Back.{digits_length}
use Rattle.four_value.proofs.vector.Bits.width.Goals as goal

pub returns-clause-is : goal.returns-clause-is
returns-clause-is c = sym (digits_length _ _ _) ∙ ap length c.self.view_is
