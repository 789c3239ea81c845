-- One more event, and all of them.
use Rattle.std.proofs.Common.{rules}
use Rattle.v_flat.specs.Scope.Scope.{means}
use Rattle.v_loop.proofs.WakesLemmas.Faults.{gathers_none, gathers_sound, gathers_lost, sound_end, lost_end}
use Rattle.v_loop.proofs.wakes.control.events.Goals.{in-Ok+in_ok-push-in-Ok, in-Err}
use Rattle.v_loop.proofs.wakes.control.events.Goals as goal

pub loop-event-init : goal.loop-event-init
loop-event-init c = search (rules, gathers_none)

pub loop-event-preserved : goal.loop-event-preserved
loop-event-preserved c =
    let s = means c.args.scope.now in
    let es = c.args.events.now in
    let i = c.loop-event.event-index in
    let below = c.loop-event-test.true in
    let e = c.event-item.result in
    let f = c.loop-event.fault in
    let ws = c.loop-event.wakes in
    elim c.match-wake.branch [
      | in-Ok+in_ok-push-in-Ok w ↦ gathers_sound s es i e f c.match-wake.fault ws c.match-wake.wakes c.wake.result w.in-Ok.wake below c.event-item.is c.wake.ensures w.in-Ok.is
          (search rules) (search rules) c.loop-event.invariant
      | in-Err w ↦ gathers_lost s es i e f c.match-wake.fault ws c.match-wake.wakes c.wake.result w.in-Err.other w.earliest.result below c.event-item.is c.wake.ensures w.in-Err.is
          w.earliest.ensures (search rules) (search rules) c.loop-event.invariant
    ]

pub returns-in-None : goal.returns-in-None
returns-in-None c =
    sound_end (means c.args.scope.now) c.args.events.now c.loop-event.event-index c.loop-event.fault c.loop-event.wakes c.loop-event-test.false c.loop-event.invariant c.in-None.is

pub returns-in-Some : goal.returns-in-Some
returns-in-Some c =
    lost_end (means c.args.scope.now) c.args.events.now c.loop-event.event-index c.loop-event.fault c.loop-event.wakes c.in-Some.fault c.loop-event-test.false
    c.loop-event.invariant c.in-Some.is
