-- The signals of a name, by the text of its own path.
use Rattle.std.proofs.Common.{List, ◌++◌, ◌∙◌, ap, subst}
use Rattle.std.proofs.lemmas.Result.{on_ok_weaker, on_err_weaker}
use Rattle.gpi.specs.declared.design.Signal.{Signal}
use Rattle.v_layout.specs.Adds.{AddsSome}
use Rattle.v_layout.proofs.Turns.{named_signals}
use Rattle.v_layout.proofs.signals.add_line.Goals as goal

pub returns-clause-ok : goal.returns-clause-ok
returns-clause-ok c =
    let same = named_signals c.in_ok-path.path.items c.deref.result.now c.args.path.now c.args.line.now c.deref.ensures.value c.in_ok-path.ensures in
    on_ok_weaker c.add_declared.result (λ e. e ∙ ap (λ (ss : List Signal). c.args.signals.now ++ ss) same) (c.add_declared.ensures.ok c.args.line.now.name.now)

pub returns-clause-err : goal.returns-clause-err
returns-clause-err c =
    let same = named_signals c.in_ok-path.path.items c.deref.result.now c.args.path.now c.args.line.now c.deref.ensures.value c.in_ok-path.ensures in
    on_err_weaker c.add_declared.result (λ a. subst (λ (ss : List Signal). AddsSome c.args.signals.now ss c.add_declared.new.signals) same a) (c.add_declared.ensures.err c.args.line.now.name.now)
