-- No signal has a value.
use Rattle.std.proofs.Common.{◌≡◌, ℕ, List, [], ap, ◌∙◌, arith}
use Rattle.std.proofs.lemmas.List.{get_or_past}
use Rattle.four_value.specs.declared.Digit.{Digit}
use Rattle.four_value.specs.Vector.{number}
use Rattle.gpi.specs.Terms.{read, value}
use Rattle.v_flat.specs.Expressions.{no_signals}
use Rattle.v_process.proofs.target.driven.fixed_index.Goals as goal

none_read : read [] ≡ no_signals
none_read = λ i s. get_or_past (let ms : List (List Digit) = [] in ms) s [] (omega arith) i

pub returns : goal.returns
returns c =
    c.to_number.ensures.is ∙ ap (λ (ds : List Digit). number ds) c.eval.ensures.is ∙ ap (λ (m : ℕ → List Digit). number (value c.args.index.now m)) none_read
