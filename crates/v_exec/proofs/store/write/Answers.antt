use Rattle.std.proofs.Common.{set, ◌<◌, List, length, refl, sym, subst, ◌∙◌, arith}
use Rattle.std.proofs.lemmas.Option.{slice_get_read}
use Rattle.gpi.proofs.Widths.{length_widths}
use Rattle.v_exec.specs.declared.workspace.Touched.{Touched}
use Rattle.v_exec.specs.Workspace.{AreTouched}
use Rattle.v_exec.proofs.Touches.{touched_again, touched_now, flag_tells}
use Rattle.v_exec.proofs.store.write.Goals as goal

pub returns-then-not-index-clause-touched : goal.returns-then-not-index-clause-touched
returns-then-not-index-clause-touched g c =
    let s = c.args.update.sig.0 in
    let long = length_widths c.args.shown.now in
    let inside : s < length c.args.flags.now.items = omega arith in
    let seen : s < length c.args.shown.now = omega arith in
    let flag = slice_get_read c.args.flags.now.items (length c.args.flags.now.items) s c.index.result.now refl inside c.index.ensures in
    let held = flag_tells c.args.flags.now.items c.args.touched.now.items s c.index.result.now c.requires.1.1.1.0 flag inside in
    let t : Touched = record { sig = c.args.update.sig; before = c.index-shown-at.result } in
    subst (λ (ts : List Touched). AreTouched g.before (set c.args.shown.now s c.placed-in-None.result) ts) (sym c.push_reserved.ensures.items)
    (touched_now g.before c.args.shown.now c.args.touched.now.items t c.placed-in-None.result c.requires.1.1.1.1.0 (held ∙ c.if-not-index.true)
    (slice_get_read c.args.shown.now (length c.args.shown.now) s c.index-shown-at.result refl seen c.index-shown-at.is))

pub returns-else-not-index-clause-touched : goal.returns-else-not-index-clause-touched
returns-else-not-index-clause-touched g c =
    let s = c.args.update.sig.0 in
    let long = length_widths c.args.shown.now in
    let inside : s < length c.args.flags.now.items = omega arith in
    let flag = slice_get_read c.args.flags.now.items (length c.args.flags.now.items) s c.index.result.now refl inside c.index.ensures in
    let held = flag_tells c.args.flags.now.items c.args.touched.now.items s c.index.result.now c.requires.1.1.1.0 flag inside in
    touched_again g.before c.args.shown.now c.args.touched.now.items s c.placed-in-None.result c.requires.1.1.1.1.0 (held ∙ c.if-not-index.false)
