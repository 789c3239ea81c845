use Rattle.std.proofs.Common.{◌≡◌, ◌+◌, drop, ℕ}
use Rattle.std.specs.Prelude.{option_map}
use Rattle.v_lex.specs.Comments.{comment_end}
use Rattle.v_lex.proofs.gaps.comment_end.Given as goal

abbrev pub invariant-loop-i : goal.invariant-loop-i
invariant-loop-i l = option_map (λ (n : ℕ). l.i + n) (comment_end (drop l.i l.text)) ≡ comment_end l.text
