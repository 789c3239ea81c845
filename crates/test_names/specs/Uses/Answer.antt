-- A means of proof: which rule uses break, for the proofs of the check of a tests file.
use Rattle.std.specs.Prelude.{nat_le, List, Option, Some, None, if◌then◌else◌}
use Rattle.std.specs.List.{list_any}
use Rattle.test_meaning.specs.Rules.File.{File}
use Rattle.test_meaning.specs.Rules.Rules.{is_unknown, astray, order}
use Rattle.test_meaning.specs.Rules.Uses.{Use, Around}
use Rattle.test_meaning.specs.declared.rules.rule.FileRule.{FileRule}
use Rattle.test_meaning.specs.declared.rules.rule.FileRule.TheVariants as rule

-- The rule that uses in one place break: an unknown name counts before what is out of place.
unfoldable pub answer : File → Around → List Use → Option FileRule
answer f a us =
    if list_any (is_unknown f a) us then Some rule.UnknownName
    else (if list_any (astray f a) us then Some rule.Misplaced else None)

-- the rule of two that counts on one line
abbrev pub first_of : Option FileRule → Option FileRule → Option FileRule
first_of None s = s
first_of (Some r) None = Some r
first_of (Some r) (Some s) = if nat_le (order r) (order s) then Some r else Some s
