use Rattle.std.proofs.Common.{◌≡◌, ◌≤◌, length, take, drop}
use Rattle.gpi.specs.Terms.{widths_of}
use Rattle.gpi.specs.Targets.{AreFitting}
use Rattle.gpi.specs.Activation.{run_list, AreHidden, SoundList}
use Rattle.gpi.proofs.acts.Act.+run.Given as goal

abbrev pub invariant-loop-act : goal.invariant-loop-act
invariant-loop-act l = record {
  few : length l.signals.items ≤ 65536;
  widths : widths_of l.signals.items ≡ widths_of l.initial.signals.items;
  runs : run_list (drop l.act-index l.act-items) (record { signals = l.signals.items; hidden = l.hidden.items; updates = l.updates.items })
      ≡ run_list l.act-items (record { signals = l.initial.signals.items; hidden = l.initial.hidden.items; updates = l.initial.updates.items });
  sound : SoundList (drop l.act-index l.act-items) (widths_of l.signals.items);
  hidden : AreHidden l.hidden.items (widths_of l.signals.items);
  fits : AreFitting l.updates.items (widths_of l.signals.items);
  kept : take (length l.initial.updates.items) l.updates.items ≡ l.initial.updates.items;
}
