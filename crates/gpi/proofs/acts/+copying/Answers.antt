use Rattle.std.proofs.Common.{List, subst, Box, Global}
use Rattle.gpi.specs.declared.acts.Act.{Act}
use Rattle.gpi.specs.declared.acts.Acts.{Acts}
use Rattle.gpi.specs.Made.{IsCopy}
use Rattle.gpi.specs.Cases.{AreLabelCopies}
use Rattle.gpi.specs.Activation.{acts_of, IsActCopy, AreActCopies}
use Rattle.gpi.proofs.Copies.{both_made, copied_block, copied_case, acts_more, acts_end}
use Rattle.gpi.proofs.acts.+copying.Goals as goal

pub copy_act-returns-in_ok-copy_acts-in-Block : goal.copy_act-returns-in_ok-copy_acts-in-Block
copy_act-returns-in_ok-copy_acts-in-Block t c =
    let copies = c.in_ok-copy_acts-in-Block in
    copied_block c.args.act.now c.in-Block.list copies.field-0 c.block.result c.in-Block.is copies.ensures c.block.ensures

pub copy_act-returns-in_ok-value-in-Case : goal.copy_act-returns-in_ok-value-in-Case
copy_act-returns-in_ok-value-in-Case t c =
    let made = c.in_ok-value-in-Case in
    let e = made.ensures.made in
    let choice = both_made (IsCopy c.in-Case.value) (AreLabelCopies c.in-Case.labels)
    c.copy-in-Case.result c.copy_labels.result c.both_ok-choice.result made.value made.labels
    c.both_ok-choice.ensures.made e.0 c.copy-in-Case.ensures c.copy_labels.ensures in
    let branches = both_made (λ (xs : Acts). AreActCopies (acts_of c.in-Case.items) (acts_of xs))
    (λ (a : Box Act Global). IsActCopy c.deref-in-Case.result.now a.value)
    c.copy_acts-in-Case.result c.copy_boxed-in-Case.result c.both_ok-branches-in-Case.result made.items made.other
    c.both_ok-branches-in-Case.ensures.made e.1 c.copy_acts-in-Case.ensures c.copy_boxed-in-Case.ensures in
    copied_case c.args.act.now c.in-Case.kind c.in-Case.value made.value c.in-Case.labels made.labels
    c.in-Case.items made.items c.in-Case.other made.other.value c.case_of.result
    c.in-Case.is choice.0 choice.1 branches.0
    (subst (λ (a : Act). IsActCopy a made.other.value) c.deref-in-Case.ensures branches.1) c.case_of.ensures

pub copy_acts-loop-act-preserved : goal.copy_acts-loop-act-preserved
copy_acts-loop-act-preserved t c =
    rw c.in_ok-push.ensures.ok
    (acts_more c.deref-act-items.result.now (acts_of c.loop-act.copies) c.loop-act.act-index c.act-item.result c.in_ok-copy_act.field-0
    c.loop-act-test.true c.act-item.is c.loop-act.invariant c.in_ok-copy_act.ensures)

pub copy_acts-returns : goal.copy_acts-returns
copy_acts-returns t c =
    subst (λ (xs : List Act). AreActCopies xs (acts_of c.loop-act.copies)) c.deref-act-items.ensures.value
    (acts_end c.deref-act-items.result.now (acts_of c.loop-act.copies) c.loop-act.act-index c.loop-act-test.false c.loop-act.invariant)
