-- The item's own line, and then its block.
use Rattle.std.proofs.Common.{Option, IfOk, subst, sym}
use Rattle.test_refusal.specs.Items.OwnLine.{own_rule}
use Rattle.test_meaning.specs.Rules.File.{line_of}
use Rattle.test_meaning.specs.Rules.Rules.{refused_at}
use Rattle.test_meaning.specs.declared.rules.rule.Refusal.{Refusal}
use Rattle.test_refusal.specs.Pass.{IsStepTo}
use Rattle.test_refusal.specs.Places.{file_of_whole, items_to, place_of}
use Rattle.test_refusal.specs.declared.seen.Step as code
use Rattle.test_refusal.proofs.Parts.{inner_alone, own_alone}
use Rattle.test_refusal.proofs.step.step.Goals as goal

pub inner_step-requires : goal.inner_step-requires
inner_step-requires c = (subst (λ (s : code.Step). IsStepTo (file_of_whole c.args.place.now.whole.now) (items_to c.args.place.now) (refused_at (line_of (place_of c.args.place.now).item) (own_rule (file_of_whole c.args.place.now.whole.now) (place_of c.args.place.now))) s) c.in-On.is c.in_ok-own.ensures).1

pub returns-in-On : goal.returns-in-On
returns-in-On c =
    subst (λ (r : Option Refusal). IfOk c.inner_step.result (IsStepTo (file_of_whole c.args.place.now.whole.now) (items_to c.args.place.now) r))
    (sym (inner_alone (file_of_whole c.args.place.now.whole.now) (place_of c.args.place.now) (subst (λ (s : code.Step). IsStepTo (file_of_whole c.args.place.now.whole.now) (items_to c.args.place.now) (refused_at (line_of (place_of c.args.place.now).item) (own_rule (file_of_whole c.args.place.now.whole.now) (place_of c.args.place.now))) s) c.in-On.is c.in_ok-own.ensures).0))
    c.inner_step.ensures

pub returns-in-Refused : goal.returns-in-Refused
returns-in-Refused c =
    own_alone (file_of_whole c.args.place.now.whole.now) (place_of c.args.place.now) c.in-Refused.refusal (subst (λ (s : code.Step). IsStepTo (file_of_whole c.args.place.now.whole.now) (items_to c.args.place.now) (refused_at (line_of (place_of c.args.place.now).item) (own_rule (file_of_whole c.args.place.now.whole.now) (place_of c.args.place.now))) s) c.in-Refused.is c.in_ok-own.ensures)
