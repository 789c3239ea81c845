use Rattle.std.proofs.Common.{◌≡◌, drop, [], ◌∷◌}
use Rattle.py_syntax.specs.Logical
use Rattle.py_lex.proofs.rules.first_dedent.Given as goal

abbrev pub invariant-loop-line : goal.invariant-loop-line
invariant-loop-line l = Logical.first_dedent l.blocks.items (drop l.line-index l.lines) ≡ Logical.first_dedent (0 ∷ []) l.lines
