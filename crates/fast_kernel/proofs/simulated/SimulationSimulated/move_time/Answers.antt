use Rattle.std.proofs.Common.{◌≡◌, ◌∙◌, sym, ap, subst, IsTrue, List}
use Rattle.gpi.specs.declared.types.Delayed.{Delayed}
use Rattle.gpi.specs.Terms.{widths_of}
use Rattle.event_queue.specs.Queues.{Held, held}
use Rattle.event_queue.specs.Waiting.{are_from}
use Rattle.fast_kernel.proofs.Next.{from_least}
use Rattle.fast_kernel.proofs.Loaded.{arrived_queued, same_queued, time_stays}
use Rattle.fast_kernel.proofs.Fired.{steps}
use Rattle.fast_kernel.proofs.simulated.SimulationSimulated.move_time.Goals as goal

pub arrive-requires : goal.arrive-requires
arrive-requires c =
    let s = c.args.self.now in
    let e : (held c.take_time-there.new.self).delayed ≡ (held s.queue).delayed = ap (λ (x : Held). x.delayed) c.take_time-there.ensures.others in
    subst (λ (ds : List Delayed). IsTrue (are_from c.in_ok-time.time ds)) (sym e)
    (from_least c.in_ok-time.time (held s.queue).delayed (held s.queue).times (sym c.next_time.ensures ∙ c.in_ok-time.was))

pub returns-clause-held : goal.returns-clause-held
returns-clause-held c =
    let s = c.args.self.now in
    let h = held s.queue in
    let q = c.take_time-there.new.self in
    let o = c.take_time-there.ensures.others in
    let f = c.begin_step-fired.ensures.is h.times (held q).times c.take_time-there.ensures.there c.take_time-there.ensures.times in
    let queued = same_queued h (held q) (widths_of s.shown.items) c.requires.queued (ap (λ (x : Held). x.due) o) (ap (λ (x : Held). x.later) o) (ap (λ (x : Held). x.delayed) o) in
    let stays = time_stays s c.arrive.new.self c.in_ok-time.time _ c.begin_step-fired.new.self c.requires (c.arrive.ensures.processes ∙ c.take_time-there.ensures.processes)
    (arrived_queued (held q) (held c.arrive.new.self) c.in_ok-time.time (widths_of s.shown.items) queued c.arrive.ensures.held) f.signals in
    stays.loaded

pub returns-clause-is : goal.returns-clause-is
returns-clause-is c =
    steps c.args.self.now c.in_ok-time.time _ c.take_time-there.new.self c.arrive.new.self c.begin_step-fired.new.self c.take_time-there.result c.begin_step-fired.result
    (sym c.next_time.ensures ∙ c.in_ok-time.was) c.take_time-there.ensures.there c.take_time-there.ensures.times c.take_time-there.ensures.others c.arrive.ensures.held
    c.begin_step-fired.ensures.fired c.begin_step-fired.ensures.is
