-- One name more.
use Rattle.std.proofs.Common.{List, ◌+◌, refl, sym, ◌∙◌, subst, arith}
use Rattle.test_meaning.specs.Rules.Names.{Name}
use Rattle.test_functions.proofs.Copied.{AreCopied, none_copied, one_copied, all_copied}
use Rattle.test_functions.proofs.function.names_between.Goals as goal

pub loop-at-init : goal.loop-at-init
loop-at-init c = none_copied _ _ _ _ _ refl c.new-some.ensures

pub loop-at-preserved : goal.loop-at-preserved
loop-at-preserved c =
    subst (λ (ns : List Name). AreCopied c.args.names.now c.args.start c.args.end (c.loop-at.at + 1) ns) (sym c.in_ok-push.ensures.ok)
    (one_copied c.args.names.now c.args.start c.args.end c.loop-at.at c.get.result.now _ c.loop-at.some (let t = c.loop-at-test.true in omega (arith, t)) c.get.ensures
    (c.in_ok-of.ensures ∙ c.bytes.ensures) c.loop-at.invariant)

pub returns : goal.returns
returns c =
    all_copied c.args.names.now c.args.start c.args.end c.loop-at.at c.loop-at.some (let t = c.loop-at-test.false in omega (arith, t)) c.loop-at.invariant
