-- The next item behind those that have numbers.
use Rattle.std.proofs.Common.{◌≡◌, ℕ, ◌∙◌}
use Rattle.gpi.specs.Activation.{acts_of}
use Rattle.v_process.proofs.ActLemmas.CaseStatements.{item_added}
use Rattle.v_process.proofs.ActLemmas.Done.{was_done, was_made}
use Rattle.v_process.proofs.act.cases.add_item.Goals as goal

pub returns : goal.returns
returns c =
    let first = c.in_ok-number.ensures.made in
    let second = c.in_ok-statement.ensures.made in
    item_added c.args.width c.in_ok-number.number c.args.item c.in_ok-number.item c.in_ok-statement.statement c.args.labels.now c.add_labels-added.new.labels
    (acts_of c.args.statements.now) (acts_of c.push.new.self) first.1 second.1
    (was_made c.item_number.result c.in_ok-number.number (λ (n : ℕ). n ≡ c.len.result) first.0 c.item_number.ensures ∙ c.len.ensures)
    (was_done c.add_labels-added.result tt second.0 c.add_labels-added.ensures) c.in_ok-push.ensures.ok
