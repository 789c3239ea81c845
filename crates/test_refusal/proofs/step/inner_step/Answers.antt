-- What the scope says of the block.
use Rattle.std.proofs.Common.{◌∙◌, sym}
use Rattle.test_refusal.proofs.Scopes.{inner_at}
use Rattle.test_refusal.proofs.step.inner_step.Goals as goal

pub returns-in-Some : goal.returns-in-Some
returns-in-Some c = sym (inner_at c.args.place.now c.scope.result c.scope.ensures) ∙ sym c.in_ok-found.ensures ∙ c.in-Some.is

pub returns-in-None : goal.returns-in-None
returns-in-None c = (sym (inner_at c.args.place.now c.scope.result c.scope.ensures) ∙ sym c.in_ok-found.ensures ∙ c.in-None.is, c.requires)
