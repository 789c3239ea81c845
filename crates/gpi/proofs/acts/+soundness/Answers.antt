use Rattle.std.proofs.Common.{rules, sym, subst, IsTrue, ◌↔◌}
use Rattle.gpi.specs.declared.acts.Act.{Act}
use Rattle.gpi.specs.Design.{widths}
use Rattle.gpi.specs.Activation.{acts_of, IsSound}
use Rattle.gpi.proofs.Sound.{no_fact, go_fact, statements_fact, block_is, case_is, case_no}
use Rattle.gpi.proofs.acts.+soundness.Goals.{Act::is_sound-then-is_choice, Act::is_sound-else-is_choice}
use Rattle.gpi.proofs.acts.+soundness.Goals as goal

pub Act::is_sound-returns-in-Block : goal.Act::is_sound-returns-in-Block
Act::is_sound-returns-in-Block t c =
    let ws = widths c.args.table.now.signals.now in
    let block = block_is c.in-Block.acts ws c.are_sound.result c.are_sound.ensures in
    subst (λ (a : Act). IsTrue c.are_sound.result ↔ IsSound a ws) (sym c.in-Block.is) block

pub Act::is_sound-returns-then-are_sound : goal.Act::is_sound-returns-then-are_sound
Act::is_sound-returns-then-are_sound t c =
    let ws = widths c.args.table.now.signals.now in
    let r = c.is_sound-then-are_sound.result in
    elim c.if-is_choice.branch [
      | Act::is_sound-then-is_choice w ↦
          subst (λ (a : Act). IsTrue r ↔ IsSound a ws) (sym c.in-Case.is)
          (case_is c.in-Case.value c.in-Case.labels c.in-Case.items c.in-Case.other.value ws r c.len.result c.len.ensures
          (c.is_choice.ensures.0 (search rules)) (w.are_sound-then-is_choice.ensures.0 (search rules))
          (subst (λ (a : Act). IsTrue r ↔ IsSound a ws) c.deref-then-are_sound.ensures c.is_sound-then-are_sound.ensures))
      | Act::is_sound-else-is_choice w ↦ absurd (cc)
    ]

pub Act::is_sound-returns-else-are_sound : goal.Act::is_sound-returns-else-are_sound
Act::is_sound-returns-else-are_sound t c =
    let ws = widths c.args.table.now.signals.now in
    let r = c.if-is_choice.value in
    subst (λ (a : Act). IsTrue r ↔ IsSound a ws) (sym c.in-Case.is)
    (case_no c.in-Case.value c.in-Case.labels c.in-Case.items c.in-Case.other.value ws r c.len.result c.len.ensures (search rules)
    (λ p s. elim c.if-is_choice.branch [
      | Act::is_sound-then-is_choice w ↦ let k = w.are_sound-then-is_choice.ensures.1 s in cc
      | Act::is_sound-else-is_choice w ↦ let k = c.is_choice.ensures.1 p in cc
    ]))

pub Acts::are_sound-returns-then-not-is_sound : goal.Acts::are_sound-returns-then-not-is_sound
Acts::are_sound-returns-then-not-is_sound t c =
    let ws = widths c.args.table.now.signals.now in
    let here = statements_fact (acts_of c.args.self.now) c.loop-at.at c.get.result.now ws c.get.ensures in
    no_fact c.is_sound.result c.loop-at.invariant here c.is_sound.ensures (search rules)

pub Acts::are_sound-loop-at-preserved : goal.Acts::are_sound-loop-at-preserved
Acts::are_sound-loop-at-preserved t c =
    let ws = widths c.args.table.now.signals.now in
    let here = statements_fact (acts_of c.args.self.now) c.loop-at.at c.get.result.now ws c.get.ensures in
    go_fact c.is_sound.result c.loop-at.invariant here c.is_sound.ensures (search rules)
