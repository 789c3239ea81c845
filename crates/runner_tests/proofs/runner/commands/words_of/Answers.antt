use Rattle.std.proofs.Common.{◌≡◌, ℕ, List, [], ◌∷◌, ◌++◌, map, refl, ap, ◌∙◌, arith, Bor}
use Rattle.std.specs.List.{flat_map}
use Rattle.std.proofs.lemmas.List.{take_all}
use Rattle.runner_tests.specs.Runner.Commands.{word_in}
use Rattle.runner_tests.proofs.runner.commands.words_of.Goals as goal

words_read : (parts : List (Bor (List ℕ))) → flat_map (λ part. word_in part.now) parts ≡ flat_map word_in (map (λ part. part.now) parts)
words_read [] = refl
words_read (part ∷ parts) = ap (λ (l : List (List ℕ)). word_in part.now ++ l) (words_read parts)

pub returns : goal.returns
returns c =
    c.loop-part.invariant
    ∙ ap (flat_map (λ (part : Bor (List ℕ)). word_in part.now))
    (take_all c.loop-part.part-index c.deref-part-items.result.now (omega arith))
    ∙ words_read c.deref-part-items.result.now
    ∙ ap (λ (parts : List (Bor (List ℕ))). flat_map word_in (map (λ part. part.now) parts)) c.deref-part-items.ensures.value
    ∙ ap (flat_map word_in) c.in_ok-parts.ensures
