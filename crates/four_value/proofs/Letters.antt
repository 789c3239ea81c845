-- The text of a vector begins with its digits.
use Rattle.std.proofs.Common.{◌≡◌, ◌-◌, List, length, reverse, take, replicate, ◌∙◌}
use Rattle.std.proofs.lemmas.List.{length-map, length-reverse, take_at}
use Rattle.four_value.specs.Limits.{most_digits}
use Rattle.four_value.specs.Vector.{digit_byte, digit_letters, text}
use Rattle.four_value.specs.declared.Digit.{Digit}

pub text_front : (ds : List Digit) → take (length ds) (text ds) ≡ digit_letters ds
text_front ds =
    take_at (digit_letters ds) (replicate (most_digits - length ds) 32) (length ds)
    (length-map (reverse ds) digit_byte ∙ length-reverse ds)
