-- A means of proof: worked files, the tests that they have and refusals, by which the definition of a file's tests is tried. What is
-- expected was read from the rules of the language and from cocotb 1.8.
use Rattle.std.specs.Prelude.{◌≡◌, ℕ, true, false, List, [], ◌∷◌, ◌++◌, map, Option, Some, None, Ok, Err, codes, slice_get}
use Rattle.py_syntax.specs.BlockTrees.{ModuleItem, LineAt}
use Rattle.py_syntax.specs.ExpressionTrees.{Constant, Infix}
use Rattle.py_syntax.specs.ExpressionTrees as tree
use Rattle.py_syntax.specs.Line.{physical_line}
use Rattle.py_syntax.specs.ModuleTrees.{Test, Factory, AddOption, GenerateTests}
use Rattle.py_syntax.specs.StatementTrees.{Pass, Break, Assert, Assign, RightValue}
use Rattle.py_syntax.specs.declared.constant.Const.{Const}
use Rattle.py_syntax.specs.declared.constant.Const.TheVariants as constant
use Rattle.py_syntax.specs.declared.expression.BinOp.TheVariants as binary
use Rattle.py_syntax.specs.declared.expression.Operation.TheVariants.{Binary}
use Rattle.py_syntax.specs.declared.fault_kind.FaultKind.TheVariants as kind
use Rattle.py_syntax.specs.declared.module.Setting.{Setting}
use Rattle.test_meaning.specs.Body.BodyTrees as body
use Rattle.test_meaning.specs.Body.BodyTrees.{Case, Limit, TestFile}
use Rattle.test_meaning.specs.Body.Sound.{is_sound}
use Rattle.test_meaning.specs.Cases.{case_name, cases}
use Rattle.test_meaning.specs.Check.{check, meaning}
use Rattle.test_meaning.specs.Library.{library}
use Rattle.test_meaning.specs.Rules.File.{file_of}
use Rattle.test_meaning.specs.Rules.Names.{Name}
use Rattle.test_meaning.specs.Rules.Rows.{whole, truth, text, named, parameter, defaulted, setting, function, lines, import_cocotb, from_cocotb, file, make_factory, generate, test_with, made, constant_at}
use Rattle.test_meaning.specs.declared.rules.rule.FileRule.{FileRule}
use Rattle.test_meaning.specs.declared.rules.rule.FileRule.TheVariants as rule

-- ---- files that are refused

abbrev pub Refuses : List ModuleItem → FileRule → ℕ → Type 0
Refuses xs r l = check xs ≡ Err (record { rule = r; line = physical_line l })

-- `import os`; `break`, `x = y` and `@cocotb.test(skip=1)` in the frame of one test; and `import cocotb` alone
abbrev pub Refused_rows : Type 0
Refused_rows =
    Refuses (file (codes "os") [] Pass) rule.UnknownImport 1
    × Refuses (import_cocotb ∷ []) rule.NoTests 1
    × Refuses (file (codes "cocotb") [] Break) rule.Misplaced 4
    × Refuses (file (codes "cocotb") [] (Assign (codes "x") (RightValue (tree.Name (codes "y"))))) rule.UnknownName 4
    × Refuses (file (codes "cocotb") (setting (codes "skip") (whole 1) ∷ []) Pass) rule.BadOption 2

-- ---- tests without options

-- a test of the function of this number with these arguments
abbrev pub plain : Name → ℕ → List Const → Case
plain n k args = record { name = n; function = k; arguments = args; time = None; expect_fail = false; expect_error = None; skip = false }

abbrev pub pass : body.Block
pass = body.Then (body.Simple body.Pass) body.NoItem

-- the whole of what one test with `pass` stands for
abbrev pub Whole_row : Type 0
Whole_row = check (file (codes "cocotb") [] Pass)
    ≡ Ok (record {
      functions = record { parameters = codes "dut" ∷ []; others = []; body = pass } ∷ library;
      cases = plain (codes "t") 0 [] ∷ [];
    })

-- ---- six tests of a factory, whose function is expected to fail

-- `import cocotb`, `from cocotb.regression import TestFactory`, `@cocotb.test(expect_fail=True)`, `async def f(dut, x, y):`,
-- `assert x * 3 + y == 4`, `tf = TestFactory(f)`, `tf.add_option("x", [0, 1])`, `tf.add_option("y", ys)` and `tf.generate_tests(prefix="p_")`
abbrev pub product_file : List Const → List ModuleItem
product_file ys =
    import_cocotb ∷ LineAt 2 (from_cocotb (codes "regression") (codes "TestFactory" ∷ [])) ∷ LineAt 3 (Test (setting (codes "expect_fail") truth ∷ []))
    ∷ function 4 (codes "f") (parameter (codes "dut") ∷ parameter (codes "x") ∷ parameter (codes "y") ∷ []) (
    Assert (Infix (Binary binary.Equal) (Infix (Binary binary.Add) (Infix (Binary binary.Multiply) (tree.Name (codes "x")) (Constant (whole 3)))
    (tree.Name (codes "y"))) (Constant (whole 4))) None ∷ [])
    ∷ lines 6 (make_factory ∷ AddOption (codes "tf") (codes "x") (whole 0 ∷ whole 1 ∷ []) ∷ AddOption (codes "tf") (codes "y") ys
    ∷ GenerateTests (codes "tf") (Some (codes "p_")) None ∷ [])

abbrev pub worked : List ModuleItem
worked = product_file (whole 0 ∷ whole 1 ∷ whole 2 ∷ [])

abbrev pub failing : Name → ℕ → ℕ → Case
failing n x y = record (plain n 0 (whole x ∷ whole y ∷ [])) { expect_fail = true }

-- the last option changes fastest, so case number 3, from 0, has x = 1 and y = 0; without a value of `y` there is no test
abbrev pub Product_rows : Type 0
Product_rows =
    (cases (file_of worked) ≡
    failing (codes "p_f_001") 0 0 ∷ failing (codes "p_f_002") 0 1 ∷ failing (codes "p_f_003") 0 2
    ∷ failing (codes "p_f_004") 1 0 ∷ failing (codes "p_f_005") 1 1 ∷ failing (codes "p_f_006") 1 2 ∷ [])
    × (slice_get (cases (file_of worked)) 3 ≡ Some (failing (codes "p_f_004") 1 0))
    × (check worked ≡ Ok (meaning (file_of worked)))
    × (is_sound (meaning (file_of worked)) ≡ true)
    × (check (product_file []) ≡ Ok (meaning (file_of (product_file [])))) × (cases (file_of (product_file [])) ≡ [])

-- ---- names of cases

abbrev pub numbered_name : ℕ → Name
numbered_name k = case_name None (codes "f") None k

abbrev pub Name_rows : Type 0
Name_rows =
    (map numbered_name (1 ∷ 9 ∷ 10 ∷ 99 ∷ 100 ∷ 999 ∷ 1000 ∷ 65536 ∷ [])
    ≡ codes "f_001" ∷ codes "f_009" ∷ codes "f_010" ∷ codes "f_099" ∷ codes "f_100" ∷ codes "f_999" ∷ codes "f_1000" ∷ codes "f_65536" ∷ [])
    × (case_name (Some (codes "p_")) (codes "f") (Some (codes "_q")) 1 ≡ codes "p_f_q_001") × (case_name None (codes "f") (Some (codes "q")) 7 ≡ codes "fq_007")

-- ---- the options of the decorator

abbrev pub text_of : List ℕ → Const
text_of t = constant.Text t

abbrev pub limited : Const → Const → Option Limit
limited n u = Some (record { number = n; unit = u })

-- `import cocotb`, `K = 7`, `A = K`, and a test with these options
abbrev pub with_options : List Setting → List ModuleItem
with_options ss = import_cocotb ∷ constant_at 2 (codes "K") (whole 7) ∷ constant_at 3 (codes "A") (named (codes "K")) ∷ test_with 4 ss

abbrev pub t : Case
t = plain (codes "t") 0 []

-- A limit in steps, and one with its unit; options that are constants of the module, at the end of a chain too; a kind of faults, also where a
-- constant of the module has its name; `skip=False` is as if it weren't there.
abbrev pub Option_rows : Type 0
Option_rows =
    (cases (file_of (with_options (setting (codes "timeout_time") (whole 5) ∷ []))) ≡ record t { time = limited (whole 5) (text_of (codes "step")) } ∷ [])
    × (cases (file_of (with_options (setting (codes "timeout_unit") text ∷ setting (codes "timeout_time") (named (codes "A")) ∷ [])))
    ≡ record t { time = limited (whole 7) text } ∷ [])
    × (cases (file_of (with_options (setting (codes "skip") truth ∷ setting (codes "expect_error") (named (codes "Exception")) ∷ [])))
    ≡ record t { skip = true; expect_error = Some kind.Exception } ∷ [])
    × (cases (file_of (constant_at 1 (codes "ValueError") (whole 6) ∷ test_with 2 (setting (codes "expect_error") (named (codes "ValueError")) ∷ [])))
    ≡ record t { expect_error = Some kind.ValueError } ∷ [])
    × (cases (file_of (with_options (setting (codes "skip") (constant.Truth false) ∷ setting (codes "expect_fail") (constant.Truth false) ∷ []))) ≡ t ∷ [])

-- ---- arguments, and the order of tests

-- `import cocotb`, `K = 7`, and `@cocotb.test()` before `async def u(dut, x=K):`; `async def f(dut, x, y=0):` with a factory that has an option for
-- `x` alone; another factory of `f` that has both; and `@cocotb.test()` before `async def v(dut):`
abbrev pub several : List ModuleItem
several =
    made (AddOption (codes "tf") (codes "x") (whole 5 ∷ named (codes "K") ∷ []) ∷ [])
    ++ lines 6 (Factory (codes "tg") (codes "f") ∷ AddOption (codes "tg") (codes "y") (whole 8 ∷ []) ∷ AddOption (codes "tg") (codes "x") (whole 9 ∷ [])
    ∷ GenerateTests (codes "tg") None (Some (codes "_g")) ∷ [])
    ++ constant_at 10 (codes "K") (whole 7) ∷ LineAt 11 (Test [])
    ∷ function 12 (codes "u") (parameter (codes "dut") ∷ defaulted (codes "x") (named (codes "K")) ∷ []) (Pass ∷ [])
    ∷ LineAt 14 generate ∷ LineAt 15 (Test []) ∷ function 16 (codes "v") (parameter (codes "dut") ∷ []) (Pass ∷ []) ∷ []

-- Tests stand where they are generated, or at their function; a default stands where no option gives a value, and arguments in the order of the
-- parameters. A function that isn't decorated is no test by itself.
abbrev pub Order_row : Type 0
Order_row = cases (file_of several)
    ≡ plain (codes "f_g_001") 0 (whole 9 ∷ whole 8 ∷ []) ∷ plain (codes "u") 1 (whole 7 ∷ [])
    ∷ plain (codes "f_001") 0 (whole 5 ∷ whole 0 ∷ []) ∷ plain (codes "f_002") 0 (whole 7 ∷ whole 0 ∷ []) ∷ plain (codes "v") 2 [] ∷ []
