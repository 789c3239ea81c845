-- Broken rules, and which of them counts.
use Rattle.std.specs.Prelude.{ℕ, if◌then◌else◌, nat_lt}
use Rattle.v_flat.specs.declared.scope.rule.Broken.{Broken}
use Rattle.v_flat.specs.declared.scope.rule.ElabRule.{ElabRule}
use Rattle.v_flat.specs.declared.scope.rule.ElabRule.TheVariants as rule

-- the place of a rule in the table
abbrev pub number_of : ElabRule → ℕ
number_of rule.NoTop = 1
number_of rule.UnknownModule = 2
number_of rule.RecursiveInstance = 3
number_of rule.DuplicateName = 4
number_of rule.UnknownName = 5
number_of rule.BadPort = 6
number_of rule.NotConstant = 7
number_of rule.BadRange = 8
number_of rule.TooWide = 9
number_of rule.TwoDrivers = 10
number_of rule.BadTarget = 11
number_of rule.LoopTooLong = 12
number_of rule.TooMany = 13
number_of rule.BadDelay = 14

-- the earlier one by place; at one place the one that stands first in the table
abbrev pub earlier : Broken → Broken → Broken
earlier a b =
    if nat_lt b.place a.place then b
    else (if nat_lt a.place b.place then a
    else (if nat_lt (number_of b.rule) (number_of a.rule) then b else a))

abbrev pub at : ElabRule → ℕ → Broken
at r p = record { rule = r; place = p }
