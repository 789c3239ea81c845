-- The values of a line of the log, as trees.
use Rattle.std.proofs.Common.{List, map, ap, ◌∙◌}
use Rattle.py_syntax.specs.ExpressionTrees.{Tree, view}
use Rattle.py_syntax.specs.StatementTrees.{view_logger}
use Rattle.test_meaning.specs.Body.BodyTrees.{Logger, Log}
use Rattle.test_meaning.specs.Bodies.{logger_in, tree_in}
use Rattle.test_functions.proofs.StatementsLemmas.Written.{in_row}
use Rattle.test_functions.proofs.statements.statements.log.Goals as goal

pub returns : goal.returns
returns g c =
    let s = g.M.Meanings.inside c.args.meanings.now in
    let level = c.args.level in
    let es = c.in_ok-expressions.field-0.items in
    ap (λ (l : Logger). Log l level (view c.in_ok-text.text) (map view es)) c.in_ok-source.ensures
    ∙ ap (λ (t : Tree). Log (logger_in s (view_logger c.args.source.now)) level t (map view es)) c.in_ok-text.ensures
    ∙ ap (λ (ts : List Tree). Log (logger_in s (view_logger c.args.source.now)) level (tree_in s (view c.args.text.now)) ts)
    (c.in_ok-expressions.ensures ∙ in_row s c.args.values.now)
