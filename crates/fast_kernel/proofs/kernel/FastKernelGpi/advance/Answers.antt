use Rattle.std.proofs.Common.{◌≡◌, ◌∙◌, Option, Some, IfOk, length, ap, sym, subst}
use Rattle.std.specs.Option.{option_copied_mut}
use Rattle.gpi.specs.Events.{event}
use Rattle.gpi.specs.Content.{Answers, IsToldOf}
use Rattle.kernel_base.specs.Steps.{from_reports}
use Rattle.kernel_base.proofs.Told.{told_answers, event_tells}
use Rattle.fast_kernel.specs.declared.simulation.Simulation.{Simulation}
use Rattle.fast_kernel.specs.Kernel.{content_of, IsLoaded}
use Rattle.fast_kernel.specs.Whole.{content_in, IsLoadedIn}
use Rattle.fast_kernel.proofs.kernel.FastKernelGpi.advance.Goals as goal

pub returns-clause-is : goal.returns-clause-is
returns-clause-is c =
    subst (λ (o : Option Simulation). IfOk c.one_event.result (λ answer. Answers (content_in o) (event (content_in o).procs (content_in o).state (content_in o).keys) answer (content_of c.one_event.new.self)))
    (ap option_copied_mut (sym c.unwrap.ensures) ∙ c.as_mut.ensures.value) c.one_event.ensures.is

pub returns-clause-told : goal.returns-clause-told
returns-clause-told c =
    let s = c.unwrap.result.now in
    let e : Some s ≡ c.args.self.now.simulation = ap option_copied_mut (sym c.unwrap.ensures) ∙ c.as_mut.ensures.value in
    let h : IsLoaded s = subst (λ (o : Option Simulation). IsLoadedIn o) (sym e) c.requires in
    subst (λ (o : Option Simulation). IfOk c.one_event.result (IsToldOf (length (content_in o).state.signals))) e
    (told_answers (content_of s) (content_of c.one_event.new.self) (from_reports (content_of s)) c.one_event.result (length s.shown.items) c.one_event.ensures.is
    (event_tells (content_of s) h.reports h.queued.due h.queued.later))
