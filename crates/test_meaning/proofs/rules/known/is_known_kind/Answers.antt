use Rattle.std.proofs.Common.{◌∙◌, sym}
use Rattle.test_meaning.proofs.RulesLemmas.KnownKinds.{kind_is_known, no_kind_is_known}
use Rattle.test_meaning.proofs.rules.known.is_known_kind.Goals as goal

pub returns-in-Some : goal.returns-in-Some
returns-in-Some c = c.is_always_known.ensures ∙ sym (kind_is_known c.args.name.now c.in-Some.kind (sym c.of.ensures ∙ c.in-Some.is))

pub returns-in-None : goal.returns-in-None
returns-in-None c = sym (no_kind_is_known c.args.name.now (sym c.of.ensures ∙ c.in-None.is))
