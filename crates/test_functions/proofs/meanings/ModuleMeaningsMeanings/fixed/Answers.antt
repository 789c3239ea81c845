-- A name of the function's own, or a constant's.
use Rattle.std.proofs.Common.{◌∙◌}
use Rattle.test_functions.specs.Inside.{inside_of}
use Rattle.test_functions.proofs.Named.{own, other}
use Rattle.test_functions.proofs.meanings.ModuleMeaningsMeanings.fixed.Goals as goal

pub returns-in-Some : goal.returns-in-Some
returns-in-Some c =
    own (inside_of c.args.self.now) c.args.name.now c.find.result _ (c.find.ensures ∙ c.args.self.now.are_numbered.places c.args.name.now) c.in-Some.is

pub returns-in-None : goal.returns-in-None
returns-in-None c =
    other (inside_of c.args.self.now) c.args.name.now c.find.result c.fixed.result (c.find.ensures ∙ c.args.self.now.are_numbered.places c.args.name.now) c.in-None.is
    c.fixed.ensures
