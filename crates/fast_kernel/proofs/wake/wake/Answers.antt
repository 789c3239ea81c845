use Rattle.std.proofs.Common.{◌∙◌, ◌++◌, ℕ, List, length, ap, arith}
use Rattle.kernel_base.specs.Lists.{barred}
use Rattle.event_queue.specs.Queues.{held, processes_of}
use Rattle.fast_kernel.specs.Waiters.{is_reached}
use Rattle.fast_kernel.specs.Woken.{unbarred}
use Rattle.fast_kernel.proofs.Woken.{picked_below, picked_distinct, found_woken}
use Rattle.fast_kernel.proofs.wake.wake.Goals as goal

pub wake_found-requires-clause-below : goal.wake_found-requires-clause-below
wake_found-requires-clause-below c =
    let n = length c.args.waiters.now.finds.is_found.items in
    rw (c.found.ensures, c.find.ensures.is)
    (picked_below n 0 (processes_of c.args.queue.now) (is_reached c.args.waiters.now.chains c.args.reports.now) (let e = c.requires.processes in omega arith))

pub wake_found-requires-clause-distinct : goal.wake_found-requires-clause-distinct
wake_found-requires-clause-distinct c =
    let n = length c.args.waiters.now.finds.is_found.items in
    rw (c.found.ensures, c.find.ensures.is) (picked_distinct n 0 (is_reached c.args.waiters.now.chains c.args.reports.now))

pub returns-clause-woken : goal.returns-clause-woken
returns-clause-woken c = λ ps a.
    let h = held c.args.queue.now in
    let bar = barred c.args.own h.active in
    c.wake_found.ensures.woken
    ∙ ap (λ (xs : List ℕ). record h { active = h.active ++ xs })
    (ap (unbarred bar) (c.found.ensures ∙ c.find.ensures.is) ∙ found_woken c.args.waiters.now ps c.args.reports.now bar a c.requires.inside)
