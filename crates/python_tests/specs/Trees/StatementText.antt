-- A means of proof: statements and headers as texts, for the test program of Python's texts.
use Rattle.std.specs.Prelude.{ℕ, List, [], ◌∷◌, ◌++◌, Option, None, Some, codes}
use Rattle.std.specs.List.{concat, flat_map}
use Rattle.py_syntax.specs.ExpressionTrees.{Tree}
use Rattle.py_syntax.specs.StatementTables.{fault_name, action_name, level_name}
use Rattle.py_syntax.specs.StatementTrees.{Logger, CocotbLog, HierarchyLog, RightSide, Statement, Caught, Span, Header}
use Rattle.py_syntax.specs.StatementTrees as node
use Rattle.py_syntax.specs.declared.constant.Const.{Const}
use Rattle.py_syntax.specs.declared.fault_kind.FaultKind.{FaultKind}
use Rattle.python_tests.specs.Trees.TreeText.{constant_text, infix_mark, pair_text, tree_text}
use Rattle.python_tests.specs.Trees.CallText.{await_text, member_call, optional_text, right_text, spaced_text, start_text, write_action_text}

-- what is returned, behind a space, if anything is
abbrev pub returned_text : Option RightSide → List ℕ
returned_text None = []
returned_text (Some s) = codes " " ++ right_text s

-- a kind, or a call of it with its value
abbrev pub raised_text : FaultKind → Option Tree → List ℕ
raised_text k None = fault_name k
raised_text k (Some e) = concat (codes "(call " ∷ fault_name k ∷ spaced_text e ∷ codes ")" ∷ [])

abbrev pub logger_text : Logger → List ℕ
logger_text CocotbLog = pair_text (codes ".") (codes "cocotb") (codes "log")
logger_text (HierarchyLog e) = pair_text (codes ".") (tree_text e) (codes "_log")

-- a statement that is an expression alone
abbrev pub alone : List ℕ → List ℕ
alone text = concat (codes "(expr " ∷ text ∷ codes ")" ∷ [])

abbrev pub statement_text : Statement → List ℕ
statement_text node.Pass = codes "(pass)"
statement_text node.Break = codes "(break)"
statement_text node.Continue = codes "(continue)"
statement_text (node.Return s) = concat (codes "(return" ∷ returned_text s ∷ codes ")" ∷ [])
statement_text (node.Raise k e) = concat (codes "(raise " ∷ raised_text k e ∷ codes ")" ∷ [])
statement_text (node.Assert c e) = concat (codes "(assert" ∷ spaced_text c ∷ optional_text e ∷ codes ")" ∷ [])
statement_text (node.Assign n s) = pair_text (codes "=") n (right_text s)
statement_text (node.AugmentedAssign n op e) =
    pair_text (codes "augment") n (concat (codes "(" ∷ infix_mark op ∷ codes " " ∷ tree_text e ∷ codes ")" ∷ []))
statement_text (node.AssignValue e s) = pair_text (codes "=") (pair_text (codes ".") (tree_text e) (codes "value")) (right_text s)
statement_text (node.SetImmediateValue e v) = alone (member_call (tree_text e) (codes "setimmediatevalue") (spaced_text v))
statement_text (node.Await a) = alone (await_text a)
statement_text (node.Act e a) = alone (member_call (tree_text e) (action_name a) [])
statement_text (node.Log g l e es) = alone (member_call (logger_text g) (level_name l) (spaced_text e ++ flat_map spaced_text es))
statement_text (node.StartSoon f) = alone (start_text (codes "start_soon") f)
statement_text (node.PutNow e x) = alone (member_call (tree_text e) (codes "put_nowait") (spaced_text x))
statement_text (node.AssignAction e w) = pair_text (codes "=") (pair_text (codes ".") (tree_text e) (codes "value")) (write_action_text w)
statement_text (node.SetImmediateAction e w) = alone (member_call (tree_text e) (codes "setimmediatevalue") (codes " " ++ write_action_text w))

-- a constant behind a space
abbrev pub spaced_constant : Const → List ℕ
spaced_constant c = codes " " ++ constant_text c

-- a list of constants
abbrev pub constants_text : List Const → List ℕ
constants_text cs = concat (codes "(list" ∷ flat_map spaced_constant cs ∷ codes ")" ∷ [])

-- what a loop goes over
abbrev pub span_text : Span → List ℕ
span_text (node.Stop e) = concat (codes "(call range" ∷ spaced_text e ∷ codes ")" ∷ [])
span_text (node.StartStop e f) = concat (codes "(call range" ∷ spaced_text e ∷ spaced_text f ∷ codes ")" ∷ [])
span_text (node.StartStopStep e f g) = concat (codes "(call range" ∷ spaced_text e ∷ spaced_text f ∷ spaced_text g ∷ codes ")" ∷ [])
span_text (node.Constants cs) = constants_text cs

-- the name of a kind behind a space
abbrev pub spaced_kind : FaultKind → List ℕ
spaced_kind k = codes " " ++ fault_name k

-- what an `except` catches
abbrev pub caught_text : Caught → List ℕ
caught_text node.All = []
caught_text (node.Kind k) = spaced_kind k
caught_text (node.Kinds ks) = concat (codes " (tuple" ∷ flat_map spaced_kind ks ∷ codes ")" ∷ [])
caught_text (node.KindAs k n) = concat (codes " " ∷ fault_name k ∷ codes " as " ∷ n ∷ [])

-- a header, whose bracket stays open
abbrev pub header_text : Header → List ℕ
header_text (node.If e) = codes "(if" ++ spaced_text e
header_text (node.Elif e) = codes "(elif" ++ spaced_text e
header_text node.Else = codes "(else"
header_text (node.While e) = codes "(while" ++ spaced_text e
header_text (node.For n s) = concat (codes "(for " ∷ n ∷ codes " " ∷ span_text s ∷ [])
header_text node.Try = codes "(try"
header_text (node.Except c) = codes "(except" ++ caught_text c
header_text (node.With e) = codes "(with" ++ spaced_text e
