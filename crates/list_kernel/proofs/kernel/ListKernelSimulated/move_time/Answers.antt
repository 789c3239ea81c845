use Rattle.std.proofs.Common.{◌∙◌, sym, refl, ◌++◌}
use Rattle.gpi.specs.declared.types.Key.TheVariants.{At, NextStep}
use Rattle.gpi.specs.Events.{if_has}
use Rattle.gpi.specs.Terms.{widths_of}
use Rattle.kernel_base.proofs.Told.{time_case_is}
use Rattle.list_kernel.specs.Kernel.{content_of}
use Rattle.list_kernel.proofs.Queues.{updates_arrived}
use Rattle.list_kernel.proofs.kernel.ListKernelSimulated.move_time.Goals as goal

pub returns-clause-held : goal.returns-clause-held
returns-clause-held c =
    let h = c.requires in record {
      values = h.values;
      updates = updates_arrived c.in_ok-time.time c.args.self.now.updates c.arrive.new.self (widths_of c.args.self.now.values.shown.items) h.updates
          c.arrive.ensures.due c.arrive.ensures.appended c.arrive.ensures.later c.arrive.ensures.delayed c.arrive.ensures.room c.arrive.ensures.fewer;
      few_processes = h.few_processes;
      bodies = h.bodies;
      nets = h.nets;
      watches = c.begin_step-fired.ensures.is.signals ∙ h.watches;
      below = h.below;
      distinct = h.distinct;
      active_room = h.active_room;
      reports_room = h.reports_room;
      reports = h.reports;
    }

pub returns-clause-is : goal.returns-clause-is
returns-clause-is c =
    let b = content_of c.args.self.now in
    let t = c.in_ok-time.time in
    time_case_is b _ t _ _ (if_has NextStep b.keys ++ if_has (At t) b.keys) (sym c.next_time.ensures ∙ c.in_ok-time.was) refl
    (rw c.begin_step-fired.ensures.fired refl) refl refl (rw (c.arrive.ensures.due, c.arrive.ensures.later, c.arrive.ensures.delayed) refl) c.begin_step-fired.ensures.is.keys c.begin_step-fired.ensures.is.counts
