-- How the refusal of a text reads.
use Rattle.std.specs.Prelude.{ℕ, List, ◌++◌, codes}
use Rattle.std.specs.Fmt.{decimal}
use Rattle.port_io.specs.declared.pos.Pos.{Pos}
use Rattle.v_flat.specs.declared.scope.rule.ElabRule.{ElabRule}
use Rattle.v_flat.specs.declared.scope.rule.ElabRule.TheVariants as elab
use Rattle.v_design.specs.declared.rule.DesignRule.{DesignRule}
use Rattle.v_design.specs.declared.rule.DesignRule.TheVariants as rule
use Rattle.v_design.specs.declared.fault.DesignRefusal.{DesignRefusal}
use Rattle.v_design.specs.declared.fault.DesignRefusal.TheVariants as refusal

abbrev pub elaboration_word : ElabRule → List ℕ
elaboration_word elab.NoTop = codes "NoTop"
elaboration_word elab.UnknownModule = codes "UnknownModule"
elaboration_word elab.RecursiveInstance = codes "RecursiveInstance"
elaboration_word elab.DuplicateName = codes "DuplicateName"
elaboration_word elab.UnknownName = codes "UnknownName"
elaboration_word elab.BadPort = codes "BadPort"
elaboration_word elab.NotConstant = codes "NotConstant"
elaboration_word elab.BadRange = codes "BadRange"
elaboration_word elab.TooWide = codes "TooWide"
elaboration_word elab.TwoDrivers = codes "TwoDrivers"
elaboration_word elab.BadTarget = codes "BadTarget"
elaboration_word elab.LoopTooLong = codes "LoopTooLong"
elaboration_word elab.TooMany = codes "TooMany"
elaboration_word elab.BadDelay = codes "BadDelay"

abbrev pub rule_word : DesignRule → List ℕ
rule_word rule.BadByte = codes "BadByte"
rule_word rule.BadNumber = codes "BadNumber"
rule_word rule.UnclosedText = codes "UnclosedText"
rule_word rule.Directive = codes "Directive"
rule_word rule.Syntax = codes "Syntax"
rule_word rule.TooDeep = codes "TooDeep"
rule_word (rule.Elaboration r) = elaboration_word r

-- a rule, and the line and the column at which it is broken
abbrev pub broken_word : DesignRule → Pos → List ℕ
broken_word r pos = rule_word r ++ codes " at " ++ decimal pos.line ++ codes ":" ++ decimal pos.column

abbrev pub refusal_word : DesignRefusal → List ℕ
refusal_word refusal.TooLong = codes "TooLong"
refusal_word (refusal.Broken r pos) = broken_word r pos
