use Rattle.std.proofs.Common.{◌≡◌, List, refl, ◌∙◌, ap, arith, length, zero-add}
use Rattle.std.proofs.lemmas.Grind.{common_steps}
use Rattle.gpi.specs.Terms.{widths_of}
use Rattle.gpi.specs.declared.design.Process.{Process}
use Rattle.gpi.specs.Design.{procs_of, nets_of, widths, starters, start_map, start_hidden}
use Rattle.kernel_base.proofs.Opening.{length_procs, length_nets, start_widths, start_length, starters_below, starters_distinct}
use Rattle.list_kernel.proofs.kernel.opened.Goals as goal

pub returns : goal.returns
returns c =
    let procs : procs_of c.in_ok-processes.processes.items ≡ procs_of c.args.flat.now.processes = c.in_ok-processes.ensures.procs in
    let nets : c.in_ok-nets.nets.items ≡ nets_of c.args.flat.now.signals = c.in_ok-nets.ensures in
    let map : c.in_ok-values.values.shown.items ≡ start_map c.args.flat.now.signals = c.in_ok-values.ensures.shown in
    let hidden : c.in_ok-values.values.hidden.items ≡ start_hidden c.args.flat.now.signals = c.in_ok-values.ensures.hidden in
    let active : c.in_ok-active.active.items ≡ starters 0 (procs_of c.in_ok-processes.processes.items) =
    c.in_ok-active.ensures.0 ∙ ap (λ (q : List Process). starters 0 (procs_of q)) c.deref.ensures.value in
    let ws : widths_of c.in_ok-values.values.shown.items ≡ widths c.args.flat.now.signals = ap widths_of map ∙ start_widths c.args.flat.now.signals in
    let count : length c.in_ok-processes.processes.items ≡ length c.args.flat.now.processes = c.in_ok-processes.ensures.count in
    let signals : length c.in_ok-values.values.shown.items ≡ length c.args.flat.now.signals = ap length map ∙ start_length c.args.flat.now.signals in
    let places : length c.in_ok-nets.nets.items ≡ length c.args.flat.now.signals = ap length nets ∙ length_nets c.args.flat.now.signals in
    let same : length (procs_of c.in_ok-processes.processes.items) ≡ length c.in_ok-processes.processes.items = length_procs c.in_ok-processes.processes.items in (
      rw (
        active,
        procs,
        nets,
        map,
        hidden,
        c.in_ok-reports.ensures.items,
        c.new-2.ensures.due,
        c.new-2.ensures.later,
        c.new-2.ensures.delayed,
        c.in_ok-book.ensures.keys,
        c.in_ok-book.ensures.counts,
      ) refl,
      record {
        values = c.in_ok-values.ensures.values;
        updates = c.new-2.ensures.updates (widths_of c.in_ok-values.values.shown.items);
        few_processes = rw count c.requires.processes;
        bodies = rw ws (c.in_ok-processes.ensures.sound (widths c.args.flat.now.signals) c.requires.bodies);
        nets = grind (arith, common_steps);
        watches = grind (arith, common_steps);
        below = rw active (starters_below 0 (procs_of c.in_ok-processes.processes.items) (length c.in_ok-processes.processes.items) (rw (zero-add, same) (omega arith)));
        distinct = rw active (starters_distinct 0 (procs_of c.in_ok-processes.processes.items));
        active_room = grind (arith, common_steps);
        reports_room = grind (arith, common_steps);
        reports = rw c.in_ok-reports.ensures.items tt;
      },
    )
