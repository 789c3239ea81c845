-- A means of proof: what the code returns, without where it lies in memory, for the proofs of Python's parser.
use Rattle.std.specs.Prelude.{ℕ, List, map, Option, Box}
use Rattle.std.specs.Borrow.{Bor}
use Rattle.std.specs.declared.vec.Vec.{Vec}
use Rattle.py_syntax.specs.ExpressionTrees.{Tree, view}
use Rattle.py_syntax.specs.StatementTrees.{Argument, view_argument, optional}
use Rattle.py_syntax.specs.declared.token.Token.{Token}
use Rattle.py_syntax.specs.declared.expression.Expression.{Expression}
use Rattle.py_expression.specs.declared.measured.Measured.{Measured}
use Rattle.py_expression.specs.Kept.{measured}
use Rattle.py_expression.specs.Shown.{Shown}
use Rattle.py_statement.specs.Call.Reading
use Rattle.py_statement.specs.declared.call.arguments.Arguments.{Arguments}
use Rattle.py_statement.specs.declared.call.arguments.Step.{Step}
use Rattle.py_statement.specs.declared.call.arguments.Step.TheVariants as step

-- a form and its height
abbrev pub tall : {A B : Type 0} → (A → B) → A × ℕ → B × ℕ
tall see x = (see x.0, x.1)

-- that, and the tokens after it
abbrev pub ahead : {A B : Type 0} → (A → B) → (A × ℕ) × Bor (List Token) → (B × ℕ) × List Token
ahead see x = (tall see x.0, x.1.now)

abbrev pub arguments_in : Arguments → List Argument × ℕ
arguments_in xs = (map view_argument xs.list.items, xs.height)

abbrev pub arguments_ahead : Arguments × Bor (List Token) → (List Argument × ℕ) × List Token
arguments_ahead x = (arguments_in x.0, x.1.now)

abbrev pub step_in : Step → Reading.Step
step_in (step.Going xs ts) = Reading.going (arguments_in xs) ts.now
step_in (step.Done xs ts) = Reading.done (arguments_in xs) ts.now

abbrev pub measured_ahead : Measured × Bor (List Token) → Shown × List Token
measured_ahead x = (measured x.0, x.1.now)

abbrev pub times_in : Expression × Option Expression → Tree × Option Tree
times_in t = (view t.0, optional view t.1)

abbrev pub values_ahead : {Z : Type 0} → (Vec Expression Z × ℕ) × Bor (List Token) → (List Tree × ℕ) × List Token
values_ahead x = ((map view x.0.0.items, x.0.1), x.1.now)

abbrev pub method_ahead : {Z : Type 0} → (Box Expression Z × ℕ) × (List ℕ × Bor (List Token)) → (Tree × ℕ) × (List ℕ × List Token)
method_ahead x = ((view x.0.0.value, x.0.1), (x.1.0, x.1.1.now))
