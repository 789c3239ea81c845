use Rattle.std.proofs.Common.{◌∙◌, ap, refl, subst}
use Rattle.gpi.specs.Terms.{widths_of}
use Rattle.gpi.specs.Targets.{AreFitting}
use Rattle.gpi.specs.Activation.{Map}
use Rattle.list_kernel.proofs.Hiding.{values_back}
use Rattle.list_kernel.proofs.Queues.{updates_after, has_run}
use Rattle.list_kernel.proofs.run.activate.Goals as goal

pub returns-in-Ok-clause-updates : goal.returns-in-Ok-clause-updates
returns-in-Ok-clause-updates c =
    updates_after c.args.now c.run.new.updates.appended.items c.args.updates.now c.enqueue_appended.new.self (widths_of c.args.values.now.shown.items) c.requires.updates
    (subst (λ (m : Map). AreFitting c.run.new.updates.appended.items (widths_of m)) c.keep.ensures.shown c.in-Ok.ensures.fits)
    (ap (λ v. v.items) c.enqueue_appended.ensures.due ∙ c.run.ensures.due)
    (rw c.run.ensures.later at c.enqueue_appended.ensures.later)
    (rw c.run.ensures.delayed at c.enqueue_appended.ensures.delayed)
    c.enqueue_appended.ensures.appended c.enqueue_appended.ensures.room

pub returns-in-Ok-clause-is : goal.returns-in-Ok-clause-is
returns-in-Ok-clause-is c =
    has_run c.args.act.now c.args.now c.keep.new.self.shown.items c.run.new.values.shown.items c.args.values.now.shown.items c.keep.new.self.hidden.items c.run.new.values.hidden.items
    c.args.values.now.hidden.items c.run.new.updates.appended.items c.args.updates.now c.enqueue_appended.new.self c.run.new.values c.keep.ensures.shown c.keep.ensures.hidden
    c.in-Ok.ensures.is refl refl
    (rw c.run.ensures.later at c.enqueue_appended.ensures.later)
    (rw c.run.ensures.delayed at c.enqueue_appended.ensures.delayed)

pub returns-in-Err-clause-values : goal.returns-in-Err-clause-values
returns-in-Err-clause-values c =
    values_back c.args.values.now c.put_back.new.self c.requires.values
    (c.put_back.ensures.shown ∙ (c.run.ensures.shown_kept ∙ c.keep.ensures.shown_kept))
    (c.put_back.ensures.hidden ∙ (c.run.ensures.hidden_kept ∙ c.keep.ensures.hidden_kept))
    (c.put_back.ensures.shown_before ∙ (c.run.ensures.shown_kept ∙ c.keep.ensures.shown_kept))
    (c.put_back.ensures.hidden_before ∙ (c.run.ensures.hidden_kept ∙ c.keep.ensures.hidden_kept))
    (c.put_back.ensures.any_forced ∙ (c.run.ensures.any_forced ∙ c.keep.ensures.any_forced))
