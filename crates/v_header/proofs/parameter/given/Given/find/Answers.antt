-- What the table of values holds is what is given to a name.
use Rattle.std.proofs.Common.{◌∙◌}
use Rattle.v_header.proofs.ParameterLemmas.Stored.{found}
use Rattle.v_header.proofs.parameter.given.Given.find.Goals as goal

pub returns : goal.returns
returns c = found (λ k. k.items) c.self.inside.values.entries c.args.self.now c.args.name.now c.copied.result (c.copied.ensures ∙ c.get.ensures.value) c.self.view_is
