-- A means of proof: what a pass knows of the items above, and what it comes to at an item.
use Rattle.std.specs.Prelude.{◌≡◌, ◌||◌, not, List, ◌∷◌, [], ◌++◌, Option, Some, None, if◌then◌else◌}
use Rattle.std.specs.List.{flat_map, list_any}
use Rattle.std.specs.Option.{option_or}
use Rattle.py_syntax.specs.BlockTrees.{ModuleItem}
use Rattle.test_names.specs.Duplicates.Twice.{AreNames}
use Rattle.test_refusal.specs.Items.Functions.{is_decorated_behind}
use Rattle.test_refusal.specs.Items.OwnLine.{own_rule}
use Rattle.test_refusal.specs.Makers.SoFar.{StandsFor, cut}
use Rattle.test_meaning.specs.Rules.File.{File, Place, file_of, is_test, line_of, names_of, places}
use Rattle.test_meaning.specs.Rules.Rules.{defines_twice, first_broken, has_misfit, has_right_options, is_generation, is_overfull, is_stray, is_unknown_import, refused_at, tests_among}
use Rattle.test_meaning.specs.Rules.Uses.{inner_lines, own_uses, with_names}
use Rattle.test_meaning.specs.declared.rules.rule.FileRule.{FileRule}
use Rattle.test_meaning.specs.declared.rules.rule.FileRule.TheVariants as rule
use Rattle.test_meaning.specs.declared.rules.rule.Refusal.{Refusal}
use Rattle.test_names.specs.Uses.Answer.{answer, first_of}
use Rattle.test_refusal.specs.declared.seen.Seen.{Seen}
use Rattle.test_refusal.specs.declared.seen.Step.{Step}
use Rattle.test_refusal.specs.declared.seen.Step.TheVariants as step

-- what these items have in this file
pub record IsSeen (f : File) (xs : List ModuleItem) (s : Seen) : Type 0 where
  pub names : AreNames (flat_map names_of xs) s.names
  pub makers : StandsFor xs s.makers
  pub tests : s.tests ≡ cut (tests_among f (places xs))
  pub has_tests : s.has_tests ≡ (list_any (is_test f) (file_of xs).functions || list_any is_generation xs)
  pub decorated : s.is_decorated ≡ is_decorated_behind xs

-- what is refused of these items, of which some lines break this first; or what they have, where none does
abbrev pub IsStepTo : File → List ModuleItem → Option Refusal → Step → Type 0
IsStepTo f xs r (step.Refused q) = r ≡ Some q
IsStepTo f xs r (step.On s) = (r ≡ None) × IsSeen f xs s

-- the first rule that an item's own line breaks by what it imports, by what it uses and by where it stands
abbrev pub placed_rule : File → Place → Option FileRule
placed_rule f p =
    if is_unknown_import p.item then Some rule.UnknownImport
    else first_of (answer f (with_names (file_of p.above) []) (own_uses p.item)) (if is_stray p || has_misfit f p then Some rule.Misplaced else None)

-- by its options and by the number of tests
abbrev pub later_rule : File → Place → Option FileRule
later_rule f p = if not (has_right_options f (file_of p.above) p.item) then Some rule.BadOption else (if is_overfull f p then Some rule.TooManyCases else None)

-- by what it defines, and by these
abbrev pub defined_rule : File → Place → Option FileRule
defined_rule f p = if defines_twice p then Some rule.DuplicateName else later_rule f p

-- the first line of an item that breaks a rule
abbrev pub first_of_item : File → Place → Option Refusal
first_of_item f p = option_or (refused_at (line_of p.item) (own_rule f p)) (first_broken f (inner_lines (file_of p.above) p.item))
