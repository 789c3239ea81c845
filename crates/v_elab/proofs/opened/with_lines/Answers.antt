-- The state, by what it is made of.
use Rattle.std.proofs.Common.{◌∙◌, ◌++◌, ap, length}
use Rattle.v_flat.specs.Scope.Scope.{means}
use Rattle.v_flat.specs.Design.{children, entries}
use Rattle.v_header.specs.Parameter.Constants.{entries_of}
use Rattle.v_layout.specs.Order.{lines_in}
use Rattle.v_elab.proofs.Begun.{is_ready, more_there, node_there, opens}
use Rattle.v_elab.proofs.opened.with_lines.Goals as goal

pub returns-clause-opens : goal.returns-clause-opens
returns-clause-opens c =
    opens c.args.path.now c.args.constants.now (lines_in c.args.lines.now) c.args.parts c.in_ok-parts.parts c.in_ok-scope.scope c.in_ok-scope.children c.none.result
    c.add_signals.new.signals
    (c.in_ok-scope.ensures.scope ∙ ap (λ cs. means (entries_of cs ++ entries c.len-first.result (lines_in c.args.lines.now))) c.deref.ensures.value
    ∙ ap (λ n. means (entries_of c.args.constants.now.list.items ++ entries n (lines_in c.args.lines.now))) c.len-first.ensures)
    (c.in_ok-scope.ensures.children ∙ ap (λ n. children n (lines_in c.args.lines.now)) c.len-first.ensures)
    (λ d p h t. c.in_ok-parts.ensures.so_far d p h t) (λ p first t. c.in_ok-add_signals.ensures.ok p first t) c.none.ensures

pub returns-clause-ready : goal.returns-clause-ready
returns-clause-ready c =
    is_ready c.args.path.now c.args.constants.now (lines_in c.args.lines.now) c.args.parts c.in_ok-parts.parts c.in_ok-scope.scope c.in_ok-scope.children c.none.result
    c.add_signals.new.signals c.requires.constants c.requires.fit
    (c.in_ok-scope.ensures.scope ∙ ap (λ cs. means (entries_of cs ++ entries c.len-first.result (lines_in c.args.lines.now))) c.deref.ensures.value
    ∙ ap (λ n. means (entries_of c.args.constants.now.list.items ++ entries n (lines_in c.args.lines.now))) c.len-first.ensures)
    c.in_ok-parts.ensures.made.signals (λ p first t. c.in_ok-add_signals.ensures.ok p first t)

pub returns-clause-grows : goal.returns-clause-grows
returns-clause-grows c =
    more_there c.args.parts c.in_ok-parts.parts c.args.path.now c.add_signals.new.signals (lines_in c.args.lines.now) c.in_ok-parts.ensures.made
    (λ p first t. c.in_ok-add_signals.ensures.ok p first t)

pub returns-clause-node : goal.returns-clause-node
returns-clause-node c = node_there c.args.parts c.in_ok-parts.parts c.args.path.now c.in_ok-parts.ensures.made
