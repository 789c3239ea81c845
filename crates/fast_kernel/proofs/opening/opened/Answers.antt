use Rattle.std.proofs.Common.{◌≡◌, ◌∙◌, ◌≤◌, ℕ, List, None, length, replicate, refl, sym, ap, subst, arith, vec_capacity}
use Rattle.gpi.specs.Design.{widths, start_hidden}
use Rattle.v_exec.specs.Workspace.{IsReady}
use Rattle.kernel_base.proofs.Hiding.{start_unforced}
use Rattle.gpi.specs.declared.types.Region.TheVariants as region
use Rattle.fast_kernel.specs.declared.simulation.Simulation.{Simulation}
use Rattle.fast_kernel.specs.declared.header.Header.{Header}
use Rattle.fast_kernel.specs.Kernel.{procs_from}
use Rattle.fast_kernel.proofs.Opened.{have_signals, length_design_widths, stands_procs, opened_content, opened_loaded}
use Rattle.fast_kernel.proofs.opening.opened.Goals as goal

pub of-requires-3-clause-wakes : goal.of-requires-3-clause-wakes
of-requires-3-clause-wakes c =
    have_signals c.args.flat.now.processes (widths c.args.flat.now.signals) c.len-signals.result (length_design_widths c.args.flat.now.signals ∙ sym c.len-signals.ensures) c.requires.bodies

pub returns : goal.returns
returns c =
    let flat = c.args.flat.now in
    let n : c.len-signals.result ≡ length flat.signals = c.len-signals.ensures in
    let code = c.in_ok-code.code in
    let s : Simulation = record {
      headers = c.in_ok-headers.headers;
      code = code;
      work = c.in_ok-work.work;
      waiters = c.in_ok-waiters.waiters;
      nets = c.in_ok-nets.nets;
      shown = c.in_ok-shown.shown;
      hidden = c.in_ok-hidden.hidden;
      queue = c.in_ok-queue.queue;
      reports = c.in_ok-reports.reports;
      told = 0;
      appended = c.new-2.result;
      time = 0;
      region = region.Begin;
      book = c.in_ok-book.book;
    } in
    let procs = ap (λ (hs : List Header). procs_from 0 hs code) c.in_ok-headers.ensures ∙ stands_procs flat code c.in_ok-code.ensures.stands in
    let hidden : c.in_ok-hidden.hidden.items ≡ start_hidden flat.signals =
    c.in_ok-hidden.ensures ∙ (ap (λ (k : ℕ). replicate k None) n ∙ sym (start_unforced flat.signals)) in
    let ready : IsReady code (length flat.signals) c.in_ok-work.work = subst (λ (k : ℕ). IsReady code k c.in_ok-work.work) n c.in_ok-work.ensures in
    let room : length flat.signals ≤ vec_capacity c.in_ok-reports.reports = (let k = c.in_ok-reports.ensures.capacity in omega arith) in (
      opened_content s flat procs c.in_ok-nets.ensures c.in_ok-shown.ensures hidden c.in_ok-queue.ensures.held c.in_ok-reports.ensures.items refl refl c.in_ok-book.ensures.keys c.in_ok-book.ensures.counts,
      opened_loaded s flat c.requires c.in_ok-headers.ensures c.in_ok-code.ensures.stands c.in_ok-code.ensures.sound ready c.in_ok-waiters.ensures.waiters c.in_ok-waiters.ensures.of
          (c.in_ok-waiters.ensures.signals ∙ n) c.in_ok-nets.ensures c.in_ok-shown.ensures hidden c.in_ok-queue.ensures.held c.in_ok-queue.ensures.processes c.in_ok-reports.ensures.items room
          c.new-2.ensures.items (c.in_ok-book.ensures.signals ∙ n),
    )
