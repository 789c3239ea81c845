use Rattle.std.proofs.Common.{ℕ, List, length, refl, sym, ap, subst, arith}
use Rattle.std.proofs.lemmas.Option.{slice_get_read, get_or_from_slice_get}
use Rattle.gpi.specs.declared.types.Update.{Update}
use Rattle.gpi.specs.Terms.{widths_of}
use Rattle.gpi.specs.Targets.{AreFitting}
use Rattle.gpi.proofs.Widths.{length_widths}
use Rattle.v_exec.specs.declared.workspace.Touched.{Touched}
use Rattle.v_exec.specs.Machine.{exec}
use Rattle.v_exec.specs.Fits.{Fits}
use Rattle.v_exec.specs.Code.{room_of, code_at, begun, HasRun}
use Rattle.v_exec.specs.Stack.{stack_of}
use Rattle.v_exec.specs.Workspace.{AreEarlier}
use Rattle.v_exec.proofs.Steps.{has_run}
use Rattle.v_exec.proofs.code.Code.run_process.Goals as goal

pub run_from-requires : goal.run_from-requires
run_from-requires c =
    let code = c.args.self.now in
    let ws = widths_of c.args.shown.now in
    let start = c.index.result.now in
    let work = c.requires.ready.workspace in
    let untouched = ap (λ (ts : List Touched). length ts) c.requires.ready.untouched in
    let cleared = ap (λ (us : List Update). length us) c.clear-2.ensures.items in
    let there = slice_get_read code.starts.items (length code.starts.items) c.args.process start refl c.requires.known c.index.ensures in
    let fit = c.requires.sound.each c.args.process start there in
    let long = length_widths c.args.shown.now in (
      (
        0,
        record {
          fit = subst (λ (x : List (List _)). Fits (room_of code) ws (code_at code start) 0 (record { stack = widths_of x; stores = 0 })) (sym c.clear.ensures.none) fit;
          bounded = omega arith;
          waits = omega arith;
          counts = omega (arith, untouched, cleared);
          depth = omega (arith, work.depth, c.clear.ensures.room);
          noted_space = omega (arith, work.noted, c.clear-2.ensures.capacity);
          touched_space = work.touched;
          later_space = omega (arith, c.in_ok-reserve.ensures.ok);
        },
      ),
      (
        record {
          few = omega (arith, long, c.requires.sound.few);
          hidden_fit = c.requires.hidden;
          noted_fit = subst (λ (us : List Update). AreFitting us ws) (sym c.clear-2.ensures.items) tt;
          count = work.count;
          marks = work.marks;
          touched = record {
            earlier = subst (λ (ts : List Touched). AreEarlier c.args.shown.now ts) (sym c.requires.ready.untouched) tt;
            others = λ s h. refl;
          };
          space = omega (arith, untouched, cleared);
        },
        subst (λ (us : List Update). AreFitting us ws) (sym c.in_ok-reserve.ensures.items) c.requires.fits,
      ),
    )

pub returns-clause-is : goal.returns-clause-is
returns-clause-is c =
    let code = c.args.self.now in
    let start = c.index.result.now in
    let there = slice_get_read code.starts.items (length code.starts.items) c.args.process start refl c.requires.known c.index.ensures in
    let place = get_or_from_slice_get code.starts.items c.args.process start 0 there in
    let ran = has_run (code_at code start) c.args.later.now.items c.reserve.new.self.items c.run_from.new.later.items c.args.shown.now c.run_from.new.shown
    c.args.hidden.now c.run_from.new.hidden (stack_of c.clear.new.self) (stack_of c.run_from.new.work.stack) c.clear-2.new.self.items
    c.run_from.new.work.noted.items c.run_from.ensures.is c.clear.ensures.none c.clear-2.ensures.items c.in_ok-reserve.ensures.items in
    subst (λ (n : ℕ). HasRun (exec (code_at code n) 0 (begun c.args.shown.now c.args.hidden.now)).run c.args.later.now.items c.run_from.new.shown
    c.run_from.new.hidden c.run_from.new.later.items) (sym place) ran

pub returns-clause-touched : goal.returns-clause-touched
returns-clause-touched c = c.run_from.ensures.running.touched
