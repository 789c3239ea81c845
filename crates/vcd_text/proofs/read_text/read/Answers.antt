use Rattle.std.proofs.Common.{ℕ, ◌∙◌, refl, subst, sym}
use Rattle.std.proofs.lemmas.Bool.{true≢false}
use Rattle.vcd_text.specs.Reader.{state_of}
use Rattle.vcd_text.specs.Rules.{IsRefused}
use Rattle.vcd_text.proofs.ReadLaws.{behind_ended, behind_read}
use Rattle.vcd_text.proofs.TakeLaws.{bad_said}
use Rattle.vcd_text.proofs.read_text.read.Goals as goal

pub returns-then-can_end-clause-changes : goal.returns-then-can_end-clause-changes
returns-then-can_end-clause-changes c =
    let d = c.can_end.ensures.0 c.if-can_end.true in
    behind_read c.args.text.now c.in_ok-number.rest.now c.in_ok-number.number (state_of c.read_lines.new.reader) c.in_ok-number.ensures.read.0 c.in_ok-number.ensures.read.1 d.0 d.1
    c.read_lines.new.reader.changes.items refl

pub returns-clause-refused : goal.returns-clause-refused
returns-clause-refused c =
    λ line h.
    subst (λ (k : ℕ). IsRefused c.args.text.now k) (sym c.last_number.ensures ∙ bad_said c.last_number.result line h)
    (behind_ended c.args.text.now c.in_ok-number.rest.now c.in_ok-number.number (state_of c.read_lines.new.reader) c.in_ok-number.ensures.read.0 c.in_ok-number.ensures.read.1
    (λ none over. true≢false (sym (c.can_end.ensures.1 (none, over)) ∙ c.if-can_end.false)))
