-- A means of proof: what it means that the statements of a block and the items of a case statement were checked, whole (IEEE 1364-2005,
-- clauses 9.5 and 9.8.1), for the proofs of elaboration.
use Rattle.std.specs.Prelude.{List, map}
use Rattle.v_syntax.specs.declared.statement.Statement as code
use Rattle.v_syntax.specs.declared.statement.CaseItem as code_item
use Rattle.v_syntax.specs.StatementTrees.{StatementTrees, CaseTree, CaseTrees, more_cases, statement_trees, case_trees, view, view_case}
use Rattle.v_flat.specs.declared.scope.found.Found.{Found}
use Rattle.v_flat.specs.Scope.Scope.{Scope}
use Rattle.v_flat.specs.declared.timing.Timing.{Timing}
use Rattle.v_flat.specs.Statements.{statements_checked, cases_checked}
use Rattle.v_process.specs.declared.act.sequences.BlockParts.{BlockParts}
use Rattle.v_process.specs.declared.act.cases.CaseParts.{CaseParts}
use Rattle.v_process.specs.Act.Statements.{AreStatements}
use Rattle.v_process.specs.Act.Cases.{AreCases}

-- the trees of the code's statements, and of its items
abbrev pub statement_list : List code.Statement → StatementTrees
statement_list xs = statement_trees (map view xs)

abbrev pub case_list : List code_item.CaseItem → CaseTrees
case_list xs = case_trees (map view_case xs)

-- statements of a block, with the rule that the definition finds
abbrev pub AreFoundStatements : Timing → Scope → StatementTrees → Found BlockParts → Type 0
AreFoundStatements timing s ss f = AreStatements timing s ss (statements_checked timing s ss) f

-- items of a case statement, with the rule that the definition finds
abbrev pub AreFoundCases : Timing → Scope → CaseTrees → Found CaseParts → Type 0
AreFoundCases timing s cs f = AreCases timing s cs (cases_checked timing s cs) f

-- an item before others, of which rest was found
abbrev pub IsFoundCase : Timing → Scope → CaseTree → Found CaseParts → Found CaseParts → Type 0
IsFoundCase timing s c rest f = (cs : CaseTrees) → AreFoundCases timing s cs rest → AreFoundCases timing s (more_cases c cs) f
