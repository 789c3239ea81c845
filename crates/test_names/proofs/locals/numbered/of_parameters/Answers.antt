-- One parameter more.
use Rattle.std.proofs.Common.{ℕ, List, Option, ap, ◌∙◌}
use Rattle.test_names.proofs.LocalsLemmas.Numbers.{parameter_more, parameter_named}
use Rattle.test_names.proofs.locals.numbered.of_parameters.Goals as goal

pub loop-place-init : goal.loop-place-init
loop-place-init c = (c.new-names.ensures, λ n. ap (λ (s : List ℕ → Option ℕ). s n) c.new-places.ensures)

pub loop-place-preserved : goal.loop-place-preserved
loop-place-preserved c = (
  c.in_ok-push.ensures.ok ∙ parameter_named _ _ _ _ _ c.loop-place-test.true c.index-parameters-place.is (c.in_ok-of.ensures ∙ c.bytes-in-loop-place.ensures) c.loop-place.invariant.0,
  parameter_more _ _ _ _ _ _ c.loop-place-test.true c.index-parameters-place.is c.bytes.ensures c.in_ok-note.ensures.ok c.loop-place.invariant.1,
)
