use Rattle.std.proofs.Common.{◌≡◌, ℕ, List, length, ap, sym, ◌∙◌, subst, arith}
use Rattle.gpi.specs.Terms.{widths_of}
use Rattle.gpi.specs.Soundness.{AreProcesses}
use Rattle.gpi.proofs.Steps.{on_ok}
use Rattle.gpi.proofs.Widths.{length_widths}
use Rattle.kernel_base.specs.Steps.{AreInside}
use Rattle.list_kernel.specs.Kernel.{content_of}
use Rattle.list_kernel.specs.Updates.{AreUpdates}
use Rattle.list_kernel.proofs.Procs.{sound_at, ran_is}
use Rattle.list_kernel.proofs.kernel.ListKernel.run_body.Goals as goal

pub activate-requires-clause-sound : goal.activate-requires-clause-sound
activate-requires-clause-sound c =
    sound_at c.args.self.now.processes.items c.args.p c.index-process.result.now (widths_of c.args.self.now.values.shown.items) c.requires.below c.index-process.ensures
    c.requires.loaded.bodies

pub returns-clause-stays : goal.returns-clause-stays
returns-clause-stays c =
    let e = c.activate.ensures.widths in
    let l : length c.activate.new.values.shown.items ≡ length c.args.self.now.values.shown.items =
    sym (length_widths c.activate.new.values.shown.items) ∙ (ap length e ∙ length_widths c.args.self.now.values.shown.items) in
    let h = c.requires.loaded in record {
      widths = e;
      loaded = record {
        values = c.activate.ensures.values;
        updates = subst (λ (ws : List ℕ). AreUpdates c.activate.new.updates ws) (sym e) c.activate.ensures.updates;
        few_processes = h.few_processes;
        bodies = subst (λ (ws : List ℕ). AreProcesses c.args.self.now.processes.items ws) (sym e) h.bodies;
        nets = h.nets ∙ sym l;
        watches = h.watches ∙ sym l;
        below = h.below;
        distinct = h.distinct;
        active_room = h.active_room;
        reports_room = let f = h.reports_room in omega arith;
        reports = subst (λ (n : ℕ). AreInside c.args.self.now.reports.items n) (sym l) h.reports;
      };
    }

pub returns-clause-is : goal.returns-clause-is
returns-clause-is c =
    on_ok c.activate.result c.activate.ensures.is (λ r.
    rw c.activate.ensures.due
    (ran_is c.args.self.now.processes.items (content_of c.args.self.now).state c.args.p c.index-process.result.now c.activate.new.values.shown.items c.activate.new.values.hidden.items
    c.activate.new.updates.later.items c.activate.new.updates.delayed.items c.requires.below c.index-process.ensures (r.shown, r.hidden, r.later, r.delayed)))
