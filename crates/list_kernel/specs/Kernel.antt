-- A means of proof: what the plain simulator holds, for its proofs.
use Rattle.std.specs.Prelude.{◌≡◌, ◌≤◌, length, vec_capacity}
use Rattle.gpi.specs.Limits.{most_elements}
use Rattle.gpi.specs.Terms.{widths_of}
use Rattle.gpi.specs.Design.{procs_of}
use Rattle.gpi.specs.Soundness.{AreProcesses}
use Rattle.gpi.specs.Content.{Content}
use Rattle.list_kernel.specs.declared.kernel.ListKernel.{ListKernel}
use Rattle.list_kernel.specs.Registered.{keys_of, counts_of, signals_of}
use Rattle.kernel_base.specs.Steps.{AreInside}
use Rattle.list_kernel.specs.Values.{AreValues}
use Rattle.list_kernel.specs.Updates.{AreUpdates}
use Rattle.kernel_base.specs.Lists.{AreBelow, AreDistinct}

abbrev pub content_of : ListKernel → Content
content_of k = record {
  procs = procs_of k.processes.items;
  nets = k.nets.items;
  state = record {
    signals = k.values.shown.items;
    hidden = k.values.hidden.items;
    active = k.active.items;
    reports = k.reports.items;
    due = k.updates.due.items;
    later = k.updates.later.items;
    delayed = k.updates.delayed.items;
    time = k.time;
    region = k.region;
  };
  keys = keys_of k.book;
  counts = counts_of k.book;
}

pub record IsLoaded (k : ListKernel) : Type 0 where
  pub values : AreValues k.values
  pub updates : AreUpdates k.updates (widths_of k.values.shown.items)
  pub few_processes : length k.processes.items ≤ most_elements
  pub bodies : AreProcesses k.processes.items (widths_of k.values.shown.items)
  pub nets : length k.nets.items ≡ length k.values.shown.items
  pub watches : signals_of k.book ≡ length k.values.shown.items
  pub below : AreBelow (length k.processes.items) k.active.items
  pub distinct : AreDistinct k.active.items
  pub active_room : length k.processes.items ≤ vec_capacity k.active
  pub reports_room : length k.values.shown.items ≤ vec_capacity k.reports
  pub reports : AreInside k.reports.items (length k.values.shown.items)

-- it still holds its design, and each signal has the width that it had
pub record Stays (before after : ListKernel) : Type 0 where
  pub loaded : IsLoaded after
  pub widths : widths_of after.values.shown.items ≡ widths_of before.values.shown.items
