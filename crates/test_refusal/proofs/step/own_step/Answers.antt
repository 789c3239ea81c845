-- What counts before definitions, or else what they break.
use Rattle.std.proofs.Common.{Option, IfOk, subst, sym}
use Rattle.test_meaning.specs.Rules.File.{line_of}
use Rattle.test_meaning.specs.declared.rules.rule.Refusal.{Refusal}
use Rattle.test_refusal.specs.Pass.{IsStepTo}
use Rattle.test_refusal.specs.Places.{file_of_whole, items_to, place_of}
use Rattle.test_refusal.proofs.Parts.{own_defined, own_placed}
use Rattle.test_refusal.proofs.step.own_step.Goals as goal

pub placed_rule-requires : goal.placed_rule-requires
placed_rule-requires c = record { stands = c.requires.stands; decorated = c.requires.seen.decorated }

pub returns-in-Some : goal.returns-in-Some
returns-in-Some c = own_placed (file_of_whole c.args.place.now.whole.now) (place_of c.args.place.now) (line_of (place_of c.args.place.now).item) c.in_ok-found.found c.in-Some.rule c.refusal.result c.in_ok-found.ensures c.in-Some.is c.refusal.ensures

pub returns-in-None : goal.returns-in-None
returns-in-None c =
    subst (λ (r : Option Refusal). IfOk c.defined_step.result (IsStepTo (file_of_whole c.args.place.now.whole.now) (items_to c.args.place.now) r)) (sym (own_defined (file_of_whole c.args.place.now.whole.now) (place_of c.args.place.now) (line_of (place_of c.args.place.now).item) c.in_ok-found.found c.in_ok-found.ensures c.in-None.is))
    c.defined_step.ensures
