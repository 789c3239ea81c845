-- A means of proof: the rule that one use breaks.
use Rattle.std.specs.Prelude.{Bool, Option, Some, None, if◌then◌else◌}
use Rattle.test_meaning.specs.declared.rules.rule.FileRule.{FileRule}
use Rattle.test_meaning.specs.declared.rules.rule.FileRule.TheVariants as rule

-- its name is known or isn't, and it is in place or isn't
abbrev pub judged : Bool → Bool → Option FileRule
judged known placed = if known then (if placed then None else Some rule.Misplaced) else Some rule.UnknownName
