-- A means of proof: short words for the trees, designs and tests of worked runs.
use Rattle.std.specs.Prelude.{◌≡◌, ℕ, ◌==◌, ◌+◌, ◌&&◌, zero, suc, Bool, true, false, List, [], ◌∷◌, ◌++◌, None, codes}
use Rattle.four_value.specs.declared.Digit.TheVariants.{X, Z}
use Rattle.gpi.specs.declared.acts.Act.TheVariants.{Nonblocking}
use Rattle.gpi.specs.declared.design.Flat.{Flat}
use Rattle.gpi.specs.declared.design.Kind.TheVariants.{Always}
use Rattle.gpi.specs.declared.design.Spot.TheVariants.{Sig}
use Rattle.gpi.specs.declared.design.WakeEdge.TheVariants.{Pos}
use Rattle.gpi.specs.declared.targets.Object.TheVariants as object
use Rattle.gpi.specs.declared.targets.Target.TheVariants.{Whole}
use Rattle.gpi.specs.declared.terms.Term.TheVariants as term
use Rattle.gpi.specs.declared.types.SigId.{SigId}
use Rattle.py_syntax.specs.ExpressionTrees.{Tree, FormatString, Name, Attribute, Call, MethodCall, NoPart, TextThen, FormattedThen}
use Rattle.py_syntax.specs.ExpressionTrees as tree
use Rattle.py_syntax.specs.StatementTrees.{Kind}
use Rattle.py_syntax.specs.declared.expression.Function.{Function as Builtin}
use Rattle.py_syntax.specs.declared.expression.Function.TheVariants as function
use Rattle.py_syntax.specs.declared.expression.Method.{Method}
use Rattle.py_syntax.specs.declared.fault_kind.FaultKind.{FaultKind}
use Rattle.py_syntax.specs.declared.statement.Action.{Action}
use Rattle.test_meaning.specs.Body.BodyTrees as body
use Rattle.test_meaning.specs.Body.BodyTrees.{RightValue, RightStart, Item, Simple, Handlers, NoHandler, Catch, Function, Case}
use Rattle.test_meaning.specs.Library.{clock_start}
use Rattle.rig_model.specs.Task.Texts.{num, text, dut, calls, set, info, awaits, block, function_of}
use Rattle.await_tree.specs.WaitList.Counts.{count_keys}
use Rattle.rig_model.specs.Run.Line.{line}
use Rattle.rig_model.specs.Run.Rig.{Setup, Rig, awaited}
use Rattle.rig_model.specs.Run.Run.{Run, step, steps, opening, written}

-- ---- expressions

-- `dut.n`
abbrev pub handle : List ℕ → Tree
handle n = Attribute dut n

-- `f()`
abbrev pub call0 : Builtin → Tree
call0 f = Call f tree.NoTree

-- `f(a, b)`
abbrev pub call2 : Builtin → Tree → Tree → Tree
call2 f a b = Call f (tree.Then a (tree.Then b tree.NoTree))

-- `Timer(n, "step")`
abbrev pub wait_of : ℕ → Tree
wait_of n = call2 function.Timer (num n) (text (codes "step"))

-- `n.m()`
abbrev pub method : List ℕ → Method → Tree
method n m = MethodCall (Name n) m

-- `f"text {e}"`
abbrev pub with_shown : List ℕ → Tree → Tree
with_shown t e = FormatString (TextThen (t ++ codes " ") (FormattedThen e NoPart))

-- ---- statements

abbrev pub says : List ℕ → Item
says t = info (text t)

-- `await Timer(n, "step")`
abbrev pub sleeps : ℕ → Item
sleeps n = awaits (wait_of n)

-- `dut.n.value = k`
abbrev pub stages : List ℕ → ℕ → Item
stages n k = Simple (body.AssignValue (handle n) (RightValue (num k)))

-- `dut.n.setimmediatevalue(k)`
abbrev pub puts : List ℕ → ℕ → Item
puts n k = Simple (body.SetImmediateValue (handle n) (num k))

-- `n = e`
abbrev pub lets : List ℕ → Tree → Item
lets n e = set n (RightValue e)

-- `cocotb.start_soon(f(..))`, and with a name for the task
abbrev pub starts : ℕ → List Tree → Item
starts f es = Simple (body.StartSoon (calls f es))

abbrev pub lets_start : List ℕ → ℕ → List Tree → Item
lets_start n f es = set n (RightStart (calls f es))

-- `n.set()` and the like
abbrev pub acts : List ℕ → Action → Item
acts n action = Simple (body.Act (Name n) action)

-- `try:` with this statement, and `except kind:` with that one
abbrev pub tries : Item → FaultKind → Item → Item
tries i k handler = body.Try (block (i ∷ [])) (Catch (Kind k) (block (handler ∷ [])) NoHandler)

-- `async def f(dut):`, and with further parameters
abbrev pub coroutine : List (List ℕ) → List (List ℕ) → List Item → Function
coroutine parameters others is = function_of (codes "dut" ∷ parameters) others is

-- ---- the design
--
--     module top(input clk, input [7:0] a, output reg [7:0] q);
--       always @(posedge clk) q <= a;
--     endmodule

abbrev pub clk : SigId
clk = record { 0 = 0 }

abbrev pub a : SigId
a = record { 0 = 1 }

abbrev pub q : SigId
q = record { 0 = 2 }

abbrev pub flip_flop : Flat
flip_flop = record {
  signals = record { path = codes "top.clk"; width = 1; start = Z } ∷ record { path = codes "top.a"; width = 8; start = Z }
      ∷ record { path = codes "top.q"; width = 8; start = X } ∷ [];
  nodes = record { path = codes "top"; children = (codes "clk", Sig clk) ∷ (codes "a", Sig a) ∷ (codes "q", Sig q) ∷ [] } ∷ [];
  processes = record {
    kind = Always;
    wakes = record { sig = clk; edge = Pos } ∷ [];
    body = Nonblocking (Whole (object.Signal q 8)) (term.Signal a 8) 0;
  } ∷ [];
  step_fs = 1000000;
}

-- ---- tests

-- runs of a tests file with these functions on that design, without and with told changes
abbrev pub plain : List Function → Setup
plain functions = record { functions = functions ++ clock_start ∷ []; flat = flip_flop; trace = false }

abbrev pub traced : List Function → Setup
traced functions = record { functions = functions ++ clock_start ∷ []; flat = flip_flop; trace = true }

-- a test of this name that runs the function of that number, without options
abbrev pub case_of : List ℕ → ℕ → Case
case_of name func =
    record { name = name; function = func; arguments = []; time = None; expect_fail = false; expect_error = None; skip = false }

-- one test, `t`
abbrev pub t_alone : ℕ → List Case
t_alone func = case_of (codes "t") func ∷ []

-- the lines of a run of one test, and of one that passes at this time
abbrev pub begins : List (List ℕ) → List (List ℕ)
begins lines = line (codes "0 TEST t") ∷ lines

abbrev pub passes : List ℕ → List (List ℕ)
passes time = line (time ++ codes " PASS t") ∷ line (codes "** TESTS=1 PASS=1 FAIL=0 SKIP=0 TIME=" ++ time ++ codes " **") ∷ []

-- ---- worked runs

-- where a run of a budget stands once it stopped
abbrev pub stopped : Setup → ℕ → List Case → Run
stopped setup budget cases = steps setup budget 150 (opening setup 0 cases)

abbrev pub all_lines : Setup → ℕ → List Case → List (List ℕ)
all_lines setup budget cases = written setup budget (stopped setup budget cases)

-- how many keys were registered, removed and fired
abbrev pub counts_of : Run → List ℕ
counts_of c = c.rig.counts.primed ∷ c.rig.counts.removed ∷ c.rig.counts.fired ∷ []

-- as many keys were registered as were removed, fired, and are awaited now
abbrev pub is_balanced : Rig → Bool
is_balanced c = c.counts.primed == c.counts.removed + c.counts.fired + count_keys (λ k. true) (awaited c)

-- so many steps keep the balance
unfoldable pub stays_balanced : Setup → ℕ → Run → Bool
stays_balanced setup zero c = is_balanced c.rig
stays_balanced setup (suc n) c = is_balanced c.rig && stays_balanced setup n (step setup c)

-- The run writes these lines, has these counts of registered, removed and fired keys at its end, and costs so much. At each step as many keys are
-- awaited as the counts say.
pub record Works (setup : Setup) (cases : List Case) (lines : List (List ℕ)) (counts : List ℕ) (cost : ℕ) : Type 0 where
  pub lines_are : all_lines setup 1000 cases ≡ lines
  pub counts_are : counts_of (stopped setup 1000 cases) ≡ counts
  pub cost_is : (stopped setup 1000 cases).cost ≡ cost
  pub balanced : stays_balanced setup 150 (opening setup 0 cases) ≡ true
