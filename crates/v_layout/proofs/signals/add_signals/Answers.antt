-- The signals by any path that has the text.
use Rattle.std.proofs.lemmas.Result.{on_ok_weaker}
use Rattle.v_layout.specs.Order.{lines_in}
use Rattle.v_layout.proofs.ByText.{added_all}
use Rattle.v_layout.proofs.signals.add_signals.Goals as goal

pub returns-clause-ok : goal.returns-clause-ok
returns-clause-ok c = λ p first h.
    on_ok_weaker c.add_lines.result (λ e. added_all c.args.path.now (lines_in c.args.lines.now) c.args.signals.now c.add_lines.new.signals e p first h) c.add_lines.ensures.ok
