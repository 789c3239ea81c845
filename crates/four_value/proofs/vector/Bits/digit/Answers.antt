use Rattle.std.proofs.Common.{◌<◌, ◌∙◌, sym, ap, length, List, get_or, arith}
use Rattle.std.proofs.lemmas.Nat.Bits.{shr_and_one}
use Rattle.four_value.specs.declared.Digit.{Digit}
use Rattle.four_value.specs.declared.Digit.TheVariants.{X}
use Rattle.four_value.specs.Back.{digits_length}
use Rattle.four_value.proofs.Digits.{get_or-digits}
use Rattle.four_value.proofs.vector.Bits.digit.Goals as goal

pub returns : goal.returns
returns c =
    let long = digits_length c.self.inside.width c.self.inside.value c.self.inside.unknown in
    let same = ap length c.self.view_is in
    let below : c.args.i < c.self.inside.width = omega arith in
    rw (c.digit_of_bits.ensures, shr_and_one c.self.inside.value c.args.i, shr_and_one c.self.inside.unknown c.args.i)
    (sym (get_or-digits _ _ _ c.args.i X below) ∙ ap (λ (q : List Digit). get_or q c.args.i X) c.self.view_is)
