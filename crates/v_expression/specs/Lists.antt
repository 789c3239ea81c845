-- A means of proof: one list of trees behind another, for the proofs of Verilog's parser.
use Rattle.std.specs.Prelude.{Ok}
use Rattle.v_syntax.specs.ExpressionTrees.{Tree, Trees, none, more, TargetTree, TargetTrees, no_target, more_targets}
use Rattle.v_expression.specs.Phrase.Stops.{Answer, ◌>>=◌}

abbrev pub joined : Trees → Trees → Trees
joined none es = es
joined (more e ds) es = more e (joined ds es)

abbrev pub and_last : Trees → Tree → Trees
and_last es e = joined es (more e none)

abbrev pub joined_targets : TargetTrees → TargetTrees → TargetTrees
joined_targets no_target ts = ts
joined_targets (more_targets t ss) ts = more_targets t (joined_targets ss ts)

abbrev pub and_last_target : TargetTrees → TargetTree → TargetTrees
and_last_target ts t = joined_targets ts (more_targets t no_target)

-- what is read behind a list of trees, with the list
abbrev pub with_front : Trees → Answer Trees → Answer Trees
with_front es read = read >>= λ x. Ok (joined es x.0, x.1)

abbrev pub with_front_targets : TargetTrees → Answer TargetTrees → Answer TargetTrees
with_front_targets ts read = read >>= λ x. Ok (joined_targets ts x.0, x.1)
