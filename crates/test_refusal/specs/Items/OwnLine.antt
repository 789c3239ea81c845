-- A means of proof: the line of an item itself, without those of its block, for the proofs of the check of a tests file.
use Rattle.std.specs.Prelude.{Bool, List, Option, Some, None, [], if◌then◌else◌}
use Rattle.std.specs.List.{find, flat_map}
use Rattle.std.specs.Option.{option_or}
use Rattle.py_syntax.specs.BlockTrees.{ModuleItem}
use Rattle.test_meaning.specs.Rules.File.{File, Place, file_of, line_of, places_below}
use Rattle.test_meaning.specs.Rules.Rules.{breaks, rules}
use Rattle.test_meaning.specs.Rules.Uses.{FileLine, lines_at, own_uses, with_names}
use Rattle.test_meaning.specs.declared.rules.rule.FileRule.{FileRule}
use Rattle.test_meaning.specs.declared.rules.rule.FileRule.TheVariants as rule
use Rattle.test_names.specs.Uses.Answer.{first_of}

abbrev pub own_line : Place → FileLine
own_line p = record { number = line_of p.item; around = with_names (file_of p.above) []; uses = own_uses p.item; place = Some p }

-- the first rule that it breaks
abbrev pub own_rule : File → Place → Option FileRule
own_rule f p = find (λ r. breaks r f (own_line p)) rules

-- the lines of these items, which stand below those
abbrev pub lines_below : List ModuleItem → List ModuleItem → List FileLine
lines_below xs ys = flat_map lines_at (places_below xs ys)

-- The first rule that a line breaks: an unknown import, what its uses break or Misplaced, a second definition, a wrong option, too many tests.
abbrev pub first_rule : Bool → Option FileRule → Bool → Bool → Bool → Bool → Option FileRule
first_rule unknown of_uses misplaced twice wrong overfull =
    if unknown then Some rule.UnknownImport
    else option_or (first_of of_uses (if misplaced then Some rule.Misplaced else None))
    (if twice then Some rule.DuplicateName else (if wrong then Some rule.BadOption else (if overfull then Some rule.TooManyCases else None)))
