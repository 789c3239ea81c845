use Rattle.std.proofs.Common.{◌∙◌, length, sym, ap}
use Rattle.std.specs.Vec.{with_items}
use Rattle.kernel_base.proofs.Hiding.{same_places}
use Rattle.fast_kernel.proofs.Ran.{touched_below, touched_distinct, all_shown, all_hidden, changes_are, ready_now, body_content, body_stays}
use Rattle.fast_kernel.proofs.simulation.Simulation.run_body.Goals as goal

pub note_changes-requires-clause-below : goal.note_changes-requires-clause-below
note_changes-requires-clause-below c =
    let m = c.deref_mut.result.now in
    let shown = c.run_process.new.shown in
    let all = c.deref-2.ensures.value ∙ all_shown c.args.self.now.shown m shown c.deref_mut.ensures.value c.run_process.ensures.widths in
    touched_below m c.run_process.new.work.touched.items (length c.deref-2.result.now) (sym (same_places shown m c.run_process.ensures.widths) ∙ sym (ap length all))
    c.in_ok-run_process.ensures.touched.earlier

pub note_changes-requires-clause-distinct : goal.note_changes-requires-clause-distinct
note_changes-requires-clause-distinct c = touched_distinct c.deref_mut.result.now c.run_process.new.work.touched.items c.in_ok-run_process.ensures.touched.earlier

pub returns-clause-stays : goal.returns-clause-stays
returns-clause-stays c =
    let s = c.args.self.now in
    let m = c.deref_mut.result.now in
    let shown = c.run_process.new.shown in
    let e = c.deref_mut.ensures.value in
    let w = c.run_process.ensures.widths in
    let all = all_shown s.shown m shown e w in
    let hides = all_hidden s.hidden c.run_process.new.hidden m s.shown.items c.run_process.ensures.hidden e c.requires.loaded.hidden in
    let told = changes_are m shown c.deref-2.result.now c.run_process.new.work.touched.items c.note_changes.new.reports.items w (c.deref-2.ensures.value ∙ all)
    c.in_ok-run_process.ensures.touched c.note_changes.ensures.is in
    let ready = ready_now s.code m s.shown.items shown c.run_process.new.work c.note_changes.new.work e w c.run_process.ensures.work c.note_changes.ensures.ready in
    body_stays s m shown c.run_process.new.hidden c.run_process.new.later.items c.deref.result.now c.make_room.new.self c.enqueue.new.self
    (with_items s.shown shown) (with_items s.hidden c.run_process.new.hidden) c.note_changes.new.reports c.note_changes.new.work c.clear.new.self
    c.requires.loaded e w c.run_process.ensures.hidden c.run_process.ensures.fits all hides c.deref.ensures.value c.make_room.ensures.held c.enqueue.ensures.held
    (c.enqueue.ensures.processes ∙ c.make_room.ensures.processes) told c.note_changes.ensures.room ready c.clear.ensures.items

pub returns-clause-is : goal.returns-clause-is
returns-clause-is c =
    let s = c.args.self.now in
    let m = c.deref_mut.result.now in
    let shown = c.run_process.new.shown in
    let e = c.deref_mut.ensures.value in
    let w = c.run_process.ensures.widths in
    let all = all_shown s.shown m shown e w in
    let hides = all_hidden s.hidden c.run_process.new.hidden m s.shown.items c.run_process.ensures.hidden e c.requires.loaded.hidden in
    let told = changes_are m shown c.deref-2.result.now c.run_process.new.work.touched.items c.note_changes.new.reports.items w (c.deref-2.ensures.value ∙ all)
    c.in_ok-run_process.ensures.touched c.note_changes.ensures.is in
    body_content s c.args.process m c.deref_mut-2.result.now shown c.run_process.new.hidden c.run_process.new.later.items c.deref.result.now
    c.run_process.new.work c.make_room.new.self c.enqueue.new.self (with_items s.shown shown) (with_items s.hidden c.run_process.new.hidden) c.note_changes.new.reports
    c.note_changes.new.work c.clear.new.self c.requires.below e c.deref_mut-2.ensures.value c.in_ok-run_process.ensures.is c.requires.loaded.appended
    all hides c.deref.ensures.value c.make_room.ensures.held c.enqueue.ensures.held told
