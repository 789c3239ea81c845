-- A means of proof: worked rows, calls and tests that are sound and some that are not, by which the definition of soundness is tried.
use Rattle.std.specs.Prelude.{◌≡◌, ℕ, true, false, List, [], ◌∷◌, map, None, codes}
use Rattle.py_syntax.specs.ExpressionTrees.{Tree, Name}
use Rattle.py_syntax.specs.declared.constant.Const.{Const}
use Rattle.py_syntax.specs.declared.constant.Const.TheVariants.{Absent}
use Rattle.test_meaning.specs.Body.BodyTrees.{Operand, FunctionCall, ClockStart, QueuePut, QueueGet, NoItem, Function, Case}
use Rattle.test_meaning.specs.Body.Sound.{is_sound_call, is_sound_case}

-- `f(a, b)`, and `Clock.start`, `Queue.put` and `Queue.get` behind it
abbrev functions : List Function
functions =
    record { parameters = codes "a" ∷ codes "b" ∷ []; others = []; body = NoItem }
    ∷ record { parameters = codes "cycles" ∷ codes "start_high" ∷ []; others = []; body = NoItem }
    ∷ record { parameters = codes "q" ∷ codes "x" ∷ []; others = []; body = NoItem } ∷ record { parameters = codes "q" ∷ []; others = []; body = NoItem } ∷ []

abbrev x : Tree
x = Name (codes "x")

-- an operand for the parameter of this number
abbrev for : ℕ → Operand
for i = record { parameter = i; value = x }

abbrev pub Call_rows : Type 0
Call_rows = map (is_sound_call functions) (
    FunctionCall 0 (for 0 ∷ for 1 ∷ []) ∷ FunctionCall 0 (for 1 ∷ for 0 ∷ [])
    ∷ FunctionCall 0 (for 0 ∷ []) ∷ FunctionCall 0 (for 0 ∷ for 0 ∷ for 1 ∷ []) ∷ FunctionCall 0 (for 0 ∷ for 1 ∷ for 2 ∷ []) ∷ FunctionCall 2 []
    ∷ ClockStart 1 x [] ∷ ClockStart 1 x (for 1 ∷ []) ∷ ClockStart 1 x (for 1 ∷ for 1 ∷ []) ∷ ClockStart 1 x (for 2 ∷ []) ∷ ClockStart 0 x []
    ∷ QueuePut 2 x x ∷ QueuePut 3 x x ∷ QueueGet 3 x ∷ QueueGet 2 x ∷ [])
    ≡ true ∷ true ∷ false ∷ false ∷ false ∷ false ∷ true ∷ true ∷ false ∷ false ∷ false ∷ true ∷ false ∷ true ∷ false ∷ []

-- a test of the function of this number, with these values
abbrev test : ℕ → List Const → Case
test n cs = record { name = codes "t"; function = n; arguments = cs; time = None; expect_fail = false; expect_error = None; skip = false }

abbrev pub Test_rows : Type 0
Test_rows = map (is_sound_case functions) (test 0 (Absent ∷ []) ∷ test 0 [] ∷ test 0 (Absent ∷ Absent ∷ []) ∷ test 2 [] ∷ []) ≡ true ∷ false ∷ false ∷ false ∷ []
