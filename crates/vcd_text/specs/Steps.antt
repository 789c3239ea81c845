-- A means of proof: a step as the code keeps its parts.
use Rattle.std.specs.Prelude.{ℕ, List, ◌++◌, Option}
use Rattle.std.specs.Option.{option_map}
use Rattle.vcd_text.specs.declared.spelling.SpelledStep.{SpelledStep}

abbrev pub spelled_in : Option SpelledStep → Option (List ℕ)
spelled_in words = option_map (λ step. step.count.now ++ step.unit.now) words
