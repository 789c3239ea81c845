-- The defaults so far, and those that stand behind them.
use Rattle.std.proofs.Common.{◌≡◌, ℕ, List, ◌++◌, length, map, drop}
use Rattle.test_names.specs.Arguments.Marks.{AreMarks}
use Rattle.test_meaning.specs.Body.Views.{view_operand}
use Rattle.test_meaning.specs.Bodies.{default_operands}
use Rattle.test_functions.proofs.statements.operands.with_defaults.Given as goal

abbrev pub invariant-loop-number : goal.invariant-loop-number
invariant-loop-number g l =
    let f = (g.M.Meanings.inside l.meanings).file in
    (ks : List ℕ) → AreMarks (length l.parameters) ks l.given
    → map view_operand l.all.items ++ default_operands f ks l.number (drop l.number l.parameters)
    ≡ map view_operand l.fn.written.items ++ default_operands f ks 0 l.parameters
