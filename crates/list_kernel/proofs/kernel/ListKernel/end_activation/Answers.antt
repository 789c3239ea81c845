use Rattle.std.proofs.Common.{◌≡◌, ◌++◌, List, ap, ◌∙◌, arith, zero-add}
use Rattle.gpi.specs.declared.design.Process.{Process}
use Rattle.gpi.specs.declared.types.Report.{Report}
use Rattle.gpi.specs.State.{changes, woken}
use Rattle.gpi.specs.Design.{procs_of}
use Rattle.kernel_base.specs.Lists.{barred}
use Rattle.list_kernel.specs.Kernel.{content_of}
use Rattle.kernel_base.proofs.Activated.{changes_of}
use Rattle.list_kernel.proofs.Procs.{ended_is}
use Rattle.list_kernel.proofs.kernel.ListKernel.end_activation.Goals as goal

reports_are : (c : goal.After-self-1) → c.tell_changes.new.reports.items ≡ changes 0 c.args.self.now.values.shown_before.items c.args.self.now.values.shown.items
reports_are c = cc

pub returns-clause-loaded : goal.returns-clause-loaded
returns-clause-loaded c =
    let h = c.requires.loaded in record {
      values = h.values;
      updates = h.updates;
      few_processes = h.few_processes;
      bodies = h.bodies;
      nets = h.nets;
      watches = h.watches;
      below = grind arith;
      distinct = grind arith;
      active_room = grind arith;
      reports_room = grind arith;
      reports =
          rw (reports_are c) (changes_of 0 c.args.self.now.values.shown_before.items c.args.self.now.values.shown.items _ (rw zero-add (let b = h.values.sized.shown_before in omega arith)));
    }

pub returns-clause-is : goal.returns-clause-is
returns-clause-is c =
    let active = c.args.self.now.active.items in
    let active_is : c.wake.new.active.items ≡ active ++ woken 0 (procs_of c.args.self.now.processes.items) c.tell_changes.new.reports.items (barred c.own_of.result active) =
    c.wake.ensures.is
    ∙ (ap (λ (ps : List Process). active ++ woken 0 (procs_of ps) c.deref-4.result.now (barred c.own_of.result active)) c.deref-3.ensures.value
    ∙ ap (λ (rs : List Report). active ++ woken 0 (procs_of c.args.self.now.processes.items) rs (barred c.own_of.result active)) c.deref-4.ensures.value) in
    ended_is c.args.self.now.processes.items (content_of c.args.self.now).state c.args.self.now.values.shown_before.items c.args.p c.index-process.result.now c.own_of.result
    c.wake.new.active.items c.tell_changes.new.reports.items c.requires.below c.index-process.ensures (reports_are c) c.own_of.ensures active_is
