use Rattle.std.proofs.Common.{rules, ◌-◌, subst, arith}
use Rattle.gpi.specs.declared.acts.Act.{Act, Blocking, Nonblocking, the_lemmas}
use Rattle.gpi.specs.Activation.{acts_of, IsSound}
use Rattle.gpi.specs.Design.{widths}
use Rattle.gpi.proofs.Made.{block_back, case_back}
use Rattle.v_exec.proofs.Statements.{packs_block, packs_if, packs_case_act, packs_same, acts_next, items_push, starts_inside, items_known}
use Rattle.v_exec.proofs.packing.backwards.Backwards.+acts.Goals as goal

pub act-acts-requires : goal.act-acts-requires
act-acts-requires t c =
    let ws = widths c.args.signals.now in
    let sound = block_back c.in-Block.acts ws (subst (λ (a : Act). IsSound a ws) c.in-Block.is c.requires.sound) in
    (first_of (search rules, search (rules, the_lemmas)), (c.requires.small, sound))

pub act-items-requires : goal.act-items-requires
act-items-requires t c =
    let ws = widths c.args.signals.now in
    let s = case_back c.in-Case.value c.in-Case.labels c.in-Case.items c.in-Case.other.value ws (subst (λ (a : Act). IsSound a ws) c.in-Case.is c.requires.sound) in
    (first_of (search rules, search (rules, the_lemmas)), (c.requires.small, (s.3, c.new-starts.ensures.items)))

pub act-labels-requires-clause-items : goal.act-labels-requires-clause-items
act-labels-requires-clause-items t c =
    items_known c.in-Case.value c.args.act.now c.in-Case.kind c.in-Case.labels c.in-Case.items c.in-Case.other (widths c.args.signals.now)
    c.args.self.now c.items.new.self c.items.new.starts.items c.deref-in-Case-2.result.now c.in_ok-items-in-Case.items
    c.in-Case.is c.requires.sound c.in_ok-items-in-Case.ensures.packs c.deref-in-Case-2.ensures.value

pub act-labels-requires-clause-starts : goal.act-labels-requires-clause-starts
act-labels-requires-clause-starts t c =
    starts_inside c.args.self.now c.items.new.self c.skip-in-Case.new.self c.act-in-Case.new.self c.put-in-Case.new.self
    c.items.new.starts.items c.deref-in-Case-2.result.now (acts_of c.in-Case.items) c.deref-in-Case.result.now _
    c.in_ok-items-in-Case.items c.in_ok-other-in-Case.other
    c.in_ok-items-in-Case.ensures.packs c.deref-in-Case-2.ensures.value c.in_ok-skip-in-Case.ensures.is c.in_ok-other-in-Case.ensures.packs
    c.in_ok-put-in-Case.ensures.is

pub act-returns-in-Block-clause-packs : goal.act-returns-in-Block-clause-packs
act-returns-in-Block-clause-packs t c =
    packs_block c.args.act.now c.in-Block.acts c.args.self.now c.acts.new.self c.acts.result c.in-Block.is c.acts.ensures.packs

pub act-returns-in_ok-term-in-If-clause-packs : goal.act-returns-in_ok-term-in-If-clause-packs
act-returns-in_ok-term-in-If-clause-packs t c =
    packs_if c.args.act.now c.deref-in-If.result.now c.deref.result.now c.in-If.condition c.in-If.first c.in-If.second
    c.args.self.now c.act.new.self c.skip.new.self c.act-in-If.new.self c.put.new.self c.term.new.self
    (c.len-other.result - c.len-end.result) (c.len.result - c.len-other.result) c.in_ok-term-in-If.field-0
    c.in_ok-first-in-If.first c.in_ok-second-in-If.second c.or.result c.behind.result
    c.in-If.is c.deref-in-If.ensures c.deref.ensures
    c.in_ok-second-in-If.ensures.packs
    (let a = c.len-other.ensures in let b = c.len-end.ensures in omega (arith, a, b))
    c.in_ok-skip-in-If.ensures.is
    c.in_ok-first-in-If.ensures.packs
    (let a = c.len-other.ensures in let b = c.len.ensures in omega (arith, a, b))
    c.in_ok-put-in-If.ensures.is
    c.in_ok-term-in-If.ensures.is c.in_ok-term-in-If.ensures.depth c.in_ok-term-in-If.ensures.few
    c.or.ensures c.behind.ensures

pub act-returns-in_ok-term-in-Case-clause-packs : goal.act-returns-in_ok-term-in-Case-clause-packs
act-returns-in_ok-term-in-Case-clause-packs t c =
    packs_case_act c.args.act.now c.deref-in-Case.result.now c.in-Case.kind c.in-Case.value c.in-Case.labels c.in-Case.items c.in-Case.other
    c.items.new.starts.items c.deref-in-Case-2.result.now
    c.args.self.now c.items.new.self c.skip-in-Case.new.self c.act-in-Case.new.self c.put-in-Case.new.self c.labels.new.self c.term-in-Case.new.self
    (c.len-in-Case.result - c.len-end-in-Case.result) c.in_ok-labels-in-Case.labels c.in_ok-term-in-Case.field-0
    c.in_ok-items-in-Case.items c.in_ok-other-in-Case.other c.or-in-Case.result c.behind-in-Case.result c.behind-in-Case-2.result
    (widths c.args.signals.now)
    c.in-Case.is c.deref-in-Case.ensures c.deref-in-Case-2.ensures.value c.requires.sound
    c.in_ok-items-in-Case.ensures.packs
    (let a = c.len-in-Case.ensures in let b = c.len-end-in-Case.ensures in omega (arith, a, b))
    c.in_ok-skip-in-Case.ensures.is
    c.in_ok-other-in-Case.ensures.packs c.in_ok-put-in-Case.ensures.is
    c.in_ok-labels-in-Case.ensures.is c.in_ok-labels-in-Case.ensures.depth c.in_ok-labels-in-Case.ensures.few
    c.in_ok-term-in-Case.ensures.is c.in_ok-term-in-Case.ensures.depth c.in_ok-term-in-Case.ensures.few
    c.or-in-Case.ensures c.behind-in-Case.ensures c.behind-in-Case-2.ensures

pub act-returns-in-Blocking-clause-packs : goal.act-returns-in-Blocking-clause-packs
act-returns-in-Blocking-clause-packs t c =
    packs_same c.args.act.now (Blocking c.in-Blocking.target c.in-Blocking.value) c.args.self.now c.at_once.new.self c.at_once.result
    c.in-Blocking.is c.at_once.ensures.packs

pub act-returns-in-Nonblocking-clause-packs : goal.act-returns-in-Nonblocking-clause-packs
act-returns-in-Nonblocking-clause-packs t c =
    packs_same c.args.act.now (Nonblocking c.in-Nonblocking.target c.in-Nonblocking.value c.in-Nonblocking.delay) c.args.self.now c.later.new.self
    c.later.result c.in-Nonblocking.is c.later.ensures.packs

pub acts-back-preserved : goal.acts-back-preserved
acts-back-preserved t c = record {
  inside = omega arith;
  packs = acts_next (acts_of c.args.acts.now) c.back.at c.sound_statement.result.now c.args.self.now c.back.self c.act.new.self c.in_ok-act.field-0 c.back.needs c.then-needs.result
      c.back-test.true c.sound_statement.ensures.is c.back.invariant.packs c.in_ok-act.ensures.packs c.then-needs.ensures;
  fits = c.in_ok-act.ensures.fits;
}

pub items-loop-at-preserved : goal.items-loop-at-preserved
items-loop-at-preserved t c = record {
  stand = items_push (acts_of c.args.items.now) c.loop-at.at c.sound_statement.result.now c.args.self.now c.loop-at.self c.skip.new.self c.act.new.self c.put.new.self
      c.loop-at.starts.items c.push.new.self.items (c.len.result - c.len-end.result) c.len-in-loop-at.result c.loop-at.needs c.in_ok-item.item c.or-needs.result
      c.sound_statement.ensures.is c.loop-at.invariant.stand
      (let a = c.len.ensures in let b = c.len-end.ensures in omega (arith, a, b))
      c.in_ok-skip.ensures.is c.in_ok-item.ensures.packs c.in_ok-put.ensures.is c.len-in-loop-at.ensures c.in_ok-push.ensures.items c.or-needs.ensures;
  fits = c.in_ok-put.ensures.fits;
}
