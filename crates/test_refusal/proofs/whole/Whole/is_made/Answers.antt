-- What the table of such functions says.
use Rattle.std.proofs.Common.{ℕ, Option, ap, ◌∙◌}
use Rattle.std.specs.Option.{is_some}
use Rattle.test_refusal.proofs.whole.Whole.is_made.Goals as goal

pub returns : goal.returns
returns c = c.is_some.ensures ∙ ap (λ (o : Option ℕ). is_some o) c.find.ensures ∙ c.args.self.now.are_made c.args.function.now
