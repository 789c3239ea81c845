-- What each thing does that a task wants.
use mir.Syntax.{w128}
use mir.Val.{SFits}
use Rattle.std.proofs.Common.{refl, ap, sym, subst, rules}
use Rattle.std.proofs.lemmas.Int.{to_z-of_z}
use Rattle.std.specs.Prelude.{ℤ, pos, ◌+ℤ◌, ◌-ℤ◌, IsTrue, Ok}
use Rattle.py_value.specs.Integer.Integer.{is_whole}
use Rattle.port_io.specs.Means.{sink_means}
use Rattle.rig_model.specs.declared.task.task.Turned.TheVariants as turned
use Rattle.scheduler.specs.Setups.{setup_of}
use Rattle.scheduler.specs.Turns.{LeadsTo}
use Rattle.run_state.specs.declared.test_tasks.tasks.TestTasks.{TestTasks}
use Rattle.scheduler.specs.Parts.{means, rig_of}
use Rattle.scheduler.proofs.Nexts.{fits_keeps, fits_next, has_turn, logged_leads, none_put, room_same}
use Rattle.scheduler.proofs.Quiet.{fits_if, if_ok, knows_queue, knows_task, knows_wait, on_ok, quiet_lines, sound_write}
use Rattle.scheduler.proofs.test.RunningTest.apply.Goals as goal

pub wait-requires-clause-turn : goal.wait-requires-clause-turn
wait-requires-clause-turn g c = has_turn (means g.M.FlowMaker g.M.Flow.Flow g.W.Awaits) g.K.Gpi c.args.task c.args.teller.now.flat.now c.args.self.now c.args.kernel.now c.requires.loaded c.requires.fits

pub wait-requires-clause-known : goal.wait-requires-clause-known
wait-requires-clause-known g c = knows_wait (setup_of (g.M.FlowMaker.functions c.args.self.now.tasks.maker) c.args.teller.now) (rig_of (means g.M.FlowMaker g.M.Flow.Flow g.W.Awaits) c.args.self.now (g.K.Gpi.content c.args.kernel.now)) c.in-Await.trig (rw c.in-Await.is at c.requires.known)

pub returns-in-Await-clause-leads : goal.returns-in-Await-clause-leads
returns-in-Await-clause-leads g c = rw c.in-Await.is (if_ok c.wait.result c.wait.ensures.leads (λ next h. h.effect (setup_of (g.M.FlowMaker.functions c.args.self.now.tasks.maker) c.args.teller.now)))

pub returns-in-Await-clause-puts : goal.returns-in-Await-clause-puts
returns-in-Await-clause-puts g c = rw c.in-Await.is (none_put (sink_means g.O.Sink) c.args.out.now c.wait.result _ (quiet_lines c.args.task (rig_of (means g.M.FlowMaker g.M.Flow.Flow g.W.Awaits) c.args.self.now (g.K.Gpi.content c.args.kernel.now)) (setup_of (g.M.FlowMaker.functions c.args.self.now.tasks.maker) c.args.teller.now) (turned.Await c.in-Await.trig) tt) (if_ok c.wait.result c.wait.ensures.leads (λ next h. h.fine)))

pub returns-in-Await-clause-fits : goal.returns-in-Await-clause-fits
returns-in-Await-clause-fits g c = fits_if (means g.M.FlowMaker g.M.Flow.Flow g.W.Awaits) c.args.teller.now.flat.now (setup_of (g.M.FlowMaker.functions c.args.self.now.tasks.maker) c.args.teller.now) c.args.task (turned.Await c.in-Await.trig) (rig_of (means g.M.FlowMaker g.M.Flow.Flow g.W.Awaits) c.args.self.now (g.K.Gpi.content c.args.kernel.now)) refl c.requires.fits.stands c.wait.new.self (g.K.Gpi.content c.wait.new.kernel) (c.wait.ensures.stays.fits c.args.teller.now.flat.now c.requires.fits.queue) c.wait.result (if_ok c.wait.result c.wait.ensures.leads (λ next h. h.effect (setup_of (g.M.FlowMaker.functions c.args.self.now.tasks.maker) c.args.teller.now))) (if_ok c.wait.result c.wait.ensures.leads (λ next h. h.room))

pub returns-in-Await-clause-kept : goal.returns-in-Await-clause-kept
returns-in-Await-clause-kept g c = c.wait.ensures.stays.kept

pub stage_write-requires-clause-keeps : goal.stage_write-requires-clause-keeps
stage_write-requires-clause-keeps g c = fits_keeps c.args.teller.now.flat.now g.W.Awaits.waiting g.W.Awaits.held c.args.self.now.queue (g.K.Gpi.content c.args.kernel.now) c.requires.fits.queue

pub stage_write-requires-clause-room : goal.stage_write-requires-clause-room
stage_write-requires-clause-room g c = c.requires.fits.room

pub returns-in-Stage-clause-leads : goal.returns-in-Stage-clause-leads
returns-in-Stage-clause-leads g c = rw c.in-Stage.is (if_ok c.stage_write.result c.stage_write.ensures.leads (λ next h. (h c.args.task).effect (setup_of (g.M.FlowMaker.functions c.args.self.now.tasks.maker) c.args.teller.now)))

pub returns-in-Stage-clause-puts : goal.returns-in-Stage-clause-puts
returns-in-Stage-clause-puts g c = rw c.in-Stage.is (none_put (sink_means g.O.Sink) c.args.out.now c.stage_write.result _ (quiet_lines c.args.task (rig_of (means g.M.FlowMaker g.M.Flow.Flow g.W.Awaits) c.args.self.now (g.K.Gpi.content c.args.kernel.now)) (setup_of (g.M.FlowMaker.functions c.args.self.now.tasks.maker) c.args.teller.now) (turned.Stage c.in-Stage.sig c.in-Stage.act) tt) (if_ok c.stage_write.result c.stage_write.ensures.leads (λ next h. (h c.args.task).fine)))

pub returns-in-Stage-clause-fits : goal.returns-in-Stage-clause-fits
returns-in-Stage-clause-fits g c = fits_if (means g.M.FlowMaker g.M.Flow.Flow g.W.Awaits) c.args.teller.now.flat.now (setup_of (g.M.FlowMaker.functions c.args.self.now.tasks.maker) c.args.teller.now) c.args.task (turned.Stage c.in-Stage.sig c.in-Stage.act) (rig_of (means g.M.FlowMaker g.M.Flow.Flow g.W.Awaits) c.args.self.now (g.K.Gpi.content c.args.kernel.now)) refl c.requires.fits.stands c.stage_write.new.self (g.K.Gpi.content c.stage_write.new.kernel) (c.stage_write.ensures.fits c.args.teller.now.flat.now (sound_write (setup_of (g.M.FlowMaker.functions c.args.self.now.tasks.maker) c.args.teller.now) (rig_of (means g.M.FlowMaker g.M.Flow.Flow g.W.Awaits) c.args.self.now (g.K.Gpi.content c.args.kernel.now)) c.args.teller.now.flat.now c.in-Stage.sig c.in-Stage.act c.requires.fits.queue.queue.signals (rw c.in-Stage.is at c.requires.known)) c.requires.fits.queue) c.stage_write.result (if_ok c.stage_write.result c.stage_write.ensures.leads (λ next h. (h c.args.task).effect (setup_of (g.M.FlowMaker.functions c.args.self.now.tasks.maker) c.args.teller.now))) (if_ok c.stage_write.result c.stage_write.ensures.leads (λ next h. (h c.args.task).room))

pub returns-in-Stage-clause-kept : goal.returns-in-Stage-clause-kept
returns-in-Stage-clause-kept g c = c.stage_write.ensures.kept

pub start_task-requires-clause-room : goal.start_task-requires-clause-room
start_task-requires-clause-room g c = c.requires.fits.room

pub start_task-requires-clause-stands : goal.start_task-requires-clause-stands
start_task-requires-clause-stands g c = λ content. record { placed_are = c.requires.fits.stands.placed_are; live = c.requires.fits.stands.live }

pub start_task-requires-clause-func : goal.start_task-requires-clause-func
start_task-requires-clause-func g c = (rw c.in-Start.is at c.requires.known).0

pub returns-in-Start-clause-leads : goal.returns-in-Start-clause-leads
returns-in-Start-clause-leads g c = rw c.in-Start.is (if_ok c.start_task.result c.start_task.ensures.leads (λ next h. h (setup_of (g.M.FlowMaker.functions c.args.self.now.tasks.maker) c.args.teller.now) (g.K.Gpi.content c.args.kernel.now) refl))

pub returns-in-Start-clause-puts : goal.returns-in-Start-clause-puts
returns-in-Start-clause-puts g c = rw c.in-Start.is (none_put (sink_means g.O.Sink) c.args.out.now c.start_task.result _ (quiet_lines c.args.task (rig_of (means g.M.FlowMaker g.M.Flow.Flow g.W.Awaits) c.args.self.now (g.K.Gpi.content c.args.kernel.now)) (setup_of (g.M.FlowMaker.functions c.args.self.now.tasks.maker) c.args.teller.now) (turned.Start c.in-Start.func c.in-Start.args c.in-Start.give_way) tt) c.start_task.ensures.fine)

pub returns-in-Start-clause-fits : goal.returns-in-Start-clause-fits
returns-in-Start-clause-fits g c = fits_if (means g.M.FlowMaker g.M.Flow.Flow g.W.Awaits) c.args.teller.now.flat.now (setup_of (g.M.FlowMaker.functions c.args.self.now.tasks.maker) c.args.teller.now) c.args.task (turned.Start c.in-Start.func c.in-Start.args c.in-Start.give_way) (rig_of (means g.M.FlowMaker g.M.Flow.Flow g.W.Awaits) c.args.self.now (g.K.Gpi.content c.args.kernel.now)) refl c.requires.fits.stands c.start_task.new.self (g.K.Gpi.content c.args.kernel.now) (c.start_task.ensures.stays.fits (g.K.Gpi.content c.args.kernel.now) c.args.teller.now.flat.now c.requires.fits.queue) c.start_task.result (if_ok c.start_task.result c.start_task.ensures.leads (λ next h. h (setup_of (g.M.FlowMaker.functions c.args.self.now.tasks.maker) c.args.teller.now) (g.K.Gpi.content c.args.kernel.now) refl)) c.start_task.ensures.room

pub returns-in-Start-clause-kept : goal.returns-in-Start-clause-kept
returns-in-Start-clause-kept g c = record { loaded = c.requires.loaded; keeps = c.start_task.ensures.stays.keeps (g.K.Gpi.content c.args.kernel.now) (fits_keeps c.args.teller.now.flat.now g.W.Awaits.waiting g.W.Awaits.held c.args.self.now.queue (g.K.Gpi.content c.args.kernel.now) c.requires.fits.queue); maker = c.start_task.ensures.stays.maker }

pub kill-requires-clause-turn : goal.kill-requires-clause-turn
kill-requires-clause-turn g c = has_turn (means g.M.FlowMaker g.M.Flow.Flow g.W.Awaits) g.K.Gpi c.args.task c.args.teller.now.flat.now c.args.self.now c.args.kernel.now c.requires.loaded c.requires.fits

pub kill-requires-clause-other : goal.kill-requires-clause-other
kill-requires-clause-other g c = knows_task (setup_of (g.M.FlowMaker.functions c.args.self.now.tasks.maker) c.args.teller.now) (rig_of (means g.M.FlowMaker g.M.Flow.Flow g.W.Awaits) c.args.self.now (g.K.Gpi.content c.args.kernel.now)) c.in-Kill.other.0 (rw c.in-Kill.is at c.requires.known)

pub returns-in-Kill-clause-leads : goal.returns-in-Kill-clause-leads
returns-in-Kill-clause-leads g c = rw c.in-Kill.is (c.kill.ensures.leads.effect (setup_of (g.M.FlowMaker.functions c.args.self.now.tasks.maker) c.args.teller.now))

pub returns-in-Kill-clause-puts : goal.returns-in-Kill-clause-puts
returns-in-Kill-clause-puts g c = rw c.in-Kill.is (none_put (sink_means g.O.Sink) c.args.out.now (Ok c.kill.result) _ (quiet_lines c.args.task (rig_of (means g.M.FlowMaker g.M.Flow.Flow g.W.Awaits) c.args.self.now (g.K.Gpi.content c.args.kernel.now)) (setup_of (g.M.FlowMaker.functions c.args.self.now.tasks.maker) c.args.teller.now) (turned.Kill c.in-Kill.other) tt) c.kill.ensures.leads.fine)

pub returns-in-Kill-clause-fits : goal.returns-in-Kill-clause-fits
returns-in-Kill-clause-fits g c = fits_next (means g.M.FlowMaker g.M.Flow.Flow g.W.Awaits) c.args.teller.now.flat.now (setup_of (g.M.FlowMaker.functions c.args.self.now.tasks.maker) c.args.teller.now) c.args.task (turned.Kill c.in-Kill.other) (rig_of (means g.M.FlowMaker g.M.Flow.Flow g.W.Awaits) c.args.self.now (g.K.Gpi.content c.args.kernel.now)) refl c.requires.fits.stands c.kill.new.self (g.K.Gpi.content c.kill.new.kernel) (c.kill.ensures.stays.fits c.args.teller.now.flat.now c.requires.fits.queue) c.kill.ensures.leads.room c.kill.result (c.kill.ensures.leads.effect (setup_of (g.M.FlowMaker.functions c.args.self.now.tasks.maker) c.args.teller.now))

pub returns-in-Kill-clause-kept : goal.returns-in-Kill-clause-kept
returns-in-Kill-clause-kept g c = c.kill.ensures.stays.kept

pub returns-in-NewEvent-clause-leads : goal.returns-in-NewEvent-clause-leads
returns-in-NewEvent-clause-leads g c = rw c.in-NewEvent.is (if_ok c.new_event.result c.new_event.ensures.leads (λ next h. h (setup_of (g.M.FlowMaker.functions c.args.self.now.tasks.maker) c.args.teller.now) c.args.task (g.K.Gpi.content c.args.kernel.now)))

pub returns-in-NewEvent-clause-puts : goal.returns-in-NewEvent-clause-puts
returns-in-NewEvent-clause-puts g c = rw c.in-NewEvent.is (none_put (sink_means g.O.Sink) c.args.out.now c.new_event.result _ (quiet_lines c.args.task (rig_of (means g.M.FlowMaker g.M.Flow.Flow g.W.Awaits) c.args.self.now (g.K.Gpi.content c.args.kernel.now)) (setup_of (g.M.FlowMaker.functions c.args.self.now.tasks.maker) c.args.teller.now) turned.NewEvent tt) c.new_event.ensures.fine)

pub returns-in-NewEvent-clause-fits : goal.returns-in-NewEvent-clause-fits
returns-in-NewEvent-clause-fits g c = fits_if (means g.M.FlowMaker g.M.Flow.Flow g.W.Awaits) c.args.teller.now.flat.now (setup_of (g.M.FlowMaker.functions c.args.self.now.tasks.maker) c.args.teller.now) c.args.task turned.NewEvent (rig_of (means g.M.FlowMaker g.M.Flow.Flow g.W.Awaits) c.args.self.now (g.K.Gpi.content c.args.kernel.now)) refl c.requires.fits.stands c.new_event.new.self (g.K.Gpi.content c.args.kernel.now) (rw c.new_event.ensures.queue c.requires.fits.queue) c.new_event.result (if_ok c.new_event.result c.new_event.ensures.leads (λ next h. h (setup_of (g.M.FlowMaker.functions c.args.self.now.tasks.maker) c.args.teller.now) c.args.task (g.K.Gpi.content c.args.kernel.now))) (on_ok c.new_event.result (room_same (means g.M.FlowMaker g.M.Flow.Flow g.W.Awaits) c.args.self.now c.requires.fits.room c.new_event.new.self c.new_event.ensures.tasks (ap (λ (x : _). x.ready.room) c.new_event.ensures.queue)))

pub returns-in-NewEvent-clause-kept : goal.returns-in-NewEvent-clause-kept
returns-in-NewEvent-clause-kept g c = record { loaded = c.requires.loaded; keeps = rw c.new_event.ensures.queue (fits_keeps c.args.teller.now.flat.now g.W.Awaits.waiting g.W.Awaits.held c.args.self.now.queue (g.K.Gpi.content c.args.kernel.now) c.requires.fits.queue); maker = ap (λ (x : TestTasks _ _). x.maker) c.new_event.ensures.tasks }

pub set_event-requires-clause-turn : goal.set_event-requires-clause-turn
set_event-requires-clause-turn g c = has_turn (means g.M.FlowMaker g.M.Flow.Flow g.W.Awaits) g.K.Gpi c.args.task c.args.teller.now.flat.now c.args.self.now c.args.kernel.now c.requires.loaded c.requires.fits

pub set_event-requires-clause-event : goal.set_event-requires-clause-event
set_event-requires-clause-event g c = (rw c.in-SetEvent.is at c.requires.known)

pub returns-in-SetEvent-clause-leads : goal.returns-in-SetEvent-clause-leads
returns-in-SetEvent-clause-leads g c = rw c.in-SetEvent.is (c.set_event.ensures.leads.effect (setup_of (g.M.FlowMaker.functions c.args.self.now.tasks.maker) c.args.teller.now))

pub returns-in-SetEvent-clause-puts : goal.returns-in-SetEvent-clause-puts
returns-in-SetEvent-clause-puts g c = rw c.in-SetEvent.is (none_put (sink_means g.O.Sink) c.args.out.now (Ok c.set_event.result) _ (quiet_lines c.args.task (rig_of (means g.M.FlowMaker g.M.Flow.Flow g.W.Awaits) c.args.self.now (g.K.Gpi.content c.args.kernel.now)) (setup_of (g.M.FlowMaker.functions c.args.self.now.tasks.maker) c.args.teller.now) (turned.SetEvent c.in-SetEvent.event) tt) c.set_event.ensures.leads.fine)

pub returns-in-SetEvent-clause-fits : goal.returns-in-SetEvent-clause-fits
returns-in-SetEvent-clause-fits g c = fits_next (means g.M.FlowMaker g.M.Flow.Flow g.W.Awaits) c.args.teller.now.flat.now (setup_of (g.M.FlowMaker.functions c.args.self.now.tasks.maker) c.args.teller.now) c.args.task (turned.SetEvent c.in-SetEvent.event) (rig_of (means g.M.FlowMaker g.M.Flow.Flow g.W.Awaits) c.args.self.now (g.K.Gpi.content c.args.kernel.now)) refl c.requires.fits.stands c.set_event.new.self (g.K.Gpi.content c.set_event.new.kernel) (c.set_event.ensures.stays.fits c.args.teller.now.flat.now c.requires.fits.queue) c.set_event.ensures.leads.room c.set_event.result (c.set_event.ensures.leads.effect (setup_of (g.M.FlowMaker.functions c.args.self.now.tasks.maker) c.args.teller.now))

pub returns-in-SetEvent-clause-kept : goal.returns-in-SetEvent-clause-kept
returns-in-SetEvent-clause-kept g c = c.set_event.ensures.stays.kept

pub clear_event-requires : goal.clear_event-requires
clear_event-requires g c = (rw c.in-ClearEvent.is at c.requires.known)

pub returns-in-ClearEvent-clause-leads : goal.returns-in-ClearEvent-clause-leads
returns-in-ClearEvent-clause-leads g c = rw c.in-ClearEvent.is (c.clear_event.ensures.leads (setup_of (g.M.FlowMaker.functions c.args.self.now.tasks.maker) c.args.teller.now) c.args.task (g.K.Gpi.content c.args.kernel.now))

pub returns-in-ClearEvent-clause-puts : goal.returns-in-ClearEvent-clause-puts
returns-in-ClearEvent-clause-puts g c = rw c.in-ClearEvent.is (none_put (sink_means g.O.Sink) c.args.out.now (Ok c.clear_event.result) _ (quiet_lines c.args.task (rig_of (means g.M.FlowMaker g.M.Flow.Flow g.W.Awaits) c.args.self.now (g.K.Gpi.content c.args.kernel.now)) (setup_of (g.M.FlowMaker.functions c.args.self.now.tasks.maker) c.args.teller.now) (turned.ClearEvent c.in-ClearEvent.event) tt) c.clear_event.ensures.fine)

pub returns-in-ClearEvent-clause-fits : goal.returns-in-ClearEvent-clause-fits
returns-in-ClearEvent-clause-fits g c = fits_next (means g.M.FlowMaker g.M.Flow.Flow g.W.Awaits) c.args.teller.now.flat.now (setup_of (g.M.FlowMaker.functions c.args.self.now.tasks.maker) c.args.teller.now) c.args.task (turned.ClearEvent c.in-ClearEvent.event) (rig_of (means g.M.FlowMaker g.M.Flow.Flow g.W.Awaits) c.args.self.now (g.K.Gpi.content c.args.kernel.now)) refl c.requires.fits.stands c.clear_event.new.self (g.K.Gpi.content c.args.kernel.now) (rw c.clear_event.ensures.queue c.requires.fits.queue) (room_same (means g.M.FlowMaker g.M.Flow.Flow g.W.Awaits) c.args.self.now c.requires.fits.room c.clear_event.new.self c.clear_event.ensures.tasks (ap (λ (x : _). x.ready.room) c.clear_event.ensures.queue)) c.clear_event.result (c.clear_event.ensures.leads (setup_of (g.M.FlowMaker.functions c.args.self.now.tasks.maker) c.args.teller.now) c.args.task (g.K.Gpi.content c.args.kernel.now))

pub returns-in-ClearEvent-clause-kept : goal.returns-in-ClearEvent-clause-kept
returns-in-ClearEvent-clause-kept g c = record { loaded = c.requires.loaded; keeps = rw c.clear_event.ensures.queue (fits_keeps c.args.teller.now.flat.now g.W.Awaits.waiting g.W.Awaits.held c.args.self.now.queue (g.K.Gpi.content c.args.kernel.now) c.requires.fits.queue); maker = ap (λ (x : TestTasks _ _). x.maker) c.clear_event.ensures.tasks }

pub returns-in-NewLock-clause-leads : goal.returns-in-NewLock-clause-leads
returns-in-NewLock-clause-leads g c = rw c.in-NewLock.is (if_ok c.new_lock.result c.new_lock.ensures.leads (λ next h. h (setup_of (g.M.FlowMaker.functions c.args.self.now.tasks.maker) c.args.teller.now) c.args.task (g.K.Gpi.content c.args.kernel.now)))

pub returns-in-NewLock-clause-puts : goal.returns-in-NewLock-clause-puts
returns-in-NewLock-clause-puts g c = rw c.in-NewLock.is (none_put (sink_means g.O.Sink) c.args.out.now c.new_lock.result _ (quiet_lines c.args.task (rig_of (means g.M.FlowMaker g.M.Flow.Flow g.W.Awaits) c.args.self.now (g.K.Gpi.content c.args.kernel.now)) (setup_of (g.M.FlowMaker.functions c.args.self.now.tasks.maker) c.args.teller.now) turned.NewLock tt) c.new_lock.ensures.fine)

pub returns-in-NewLock-clause-fits : goal.returns-in-NewLock-clause-fits
returns-in-NewLock-clause-fits g c = fits_if (means g.M.FlowMaker g.M.Flow.Flow g.W.Awaits) c.args.teller.now.flat.now (setup_of (g.M.FlowMaker.functions c.args.self.now.tasks.maker) c.args.teller.now) c.args.task turned.NewLock (rig_of (means g.M.FlowMaker g.M.Flow.Flow g.W.Awaits) c.args.self.now (g.K.Gpi.content c.args.kernel.now)) refl c.requires.fits.stands c.new_lock.new.self (g.K.Gpi.content c.args.kernel.now) (rw c.new_lock.ensures.queue c.requires.fits.queue) c.new_lock.result (if_ok c.new_lock.result c.new_lock.ensures.leads (λ next h. h (setup_of (g.M.FlowMaker.functions c.args.self.now.tasks.maker) c.args.teller.now) c.args.task (g.K.Gpi.content c.args.kernel.now))) (on_ok c.new_lock.result (room_same (means g.M.FlowMaker g.M.Flow.Flow g.W.Awaits) c.args.self.now c.requires.fits.room c.new_lock.new.self c.new_lock.ensures.tasks (ap (λ (x : _). x.ready.room) c.new_lock.ensures.queue)))

pub returns-in-NewLock-clause-kept : goal.returns-in-NewLock-clause-kept
returns-in-NewLock-clause-kept g c = record { loaded = c.requires.loaded; keeps = rw c.new_lock.ensures.queue (fits_keeps c.args.teller.now.flat.now g.W.Awaits.waiting g.W.Awaits.held c.args.self.now.queue (g.K.Gpi.content c.args.kernel.now) c.requires.fits.queue); maker = ap (λ (x : TestTasks _ _). x.maker) c.new_lock.ensures.tasks }

pub release-requires-clause-turn : goal.release-requires-clause-turn
release-requires-clause-turn g c = has_turn (means g.M.FlowMaker g.M.Flow.Flow g.W.Awaits) g.K.Gpi c.args.task c.args.teller.now.flat.now c.args.self.now c.args.kernel.now c.requires.loaded c.requires.fits

pub release-requires-clause-lock : goal.release-requires-clause-lock
release-requires-clause-lock g c = (rw c.in-Release.is at c.requires.known)

pub returns-in-Release-clause-leads : goal.returns-in-Release-clause-leads
returns-in-Release-clause-leads g c = rw c.in-Release.is (c.release.ensures.leads.effect (setup_of (g.M.FlowMaker.functions c.args.self.now.tasks.maker) c.args.teller.now))

pub returns-in-Release-clause-puts : goal.returns-in-Release-clause-puts
returns-in-Release-clause-puts g c = rw c.in-Release.is (none_put (sink_means g.O.Sink) c.args.out.now (Ok c.release.result) _ (quiet_lines c.args.task (rig_of (means g.M.FlowMaker g.M.Flow.Flow g.W.Awaits) c.args.self.now (g.K.Gpi.content c.args.kernel.now)) (setup_of (g.M.FlowMaker.functions c.args.self.now.tasks.maker) c.args.teller.now) (turned.Release c.in-Release.lock) tt) c.release.ensures.leads.fine)

pub returns-in-Release-clause-fits : goal.returns-in-Release-clause-fits
returns-in-Release-clause-fits g c = fits_next (means g.M.FlowMaker g.M.Flow.Flow g.W.Awaits) c.args.teller.now.flat.now (setup_of (g.M.FlowMaker.functions c.args.self.now.tasks.maker) c.args.teller.now) c.args.task (turned.Release c.in-Release.lock) (rig_of (means g.M.FlowMaker g.M.Flow.Flow g.W.Awaits) c.args.self.now (g.K.Gpi.content c.args.kernel.now)) refl c.requires.fits.stands c.release.new.self (g.K.Gpi.content c.release.new.kernel) (c.release.ensures.stays.fits c.args.teller.now.flat.now c.requires.fits.queue) c.release.ensures.leads.room c.release.result (c.release.ensures.leads.effect (setup_of (g.M.FlowMaker.functions c.args.self.now.tasks.maker) c.args.teller.now))

pub returns-in-Release-clause-kept : goal.returns-in-Release-clause-kept
returns-in-Release-clause-kept g c = c.release.ensures.stays.kept

pub draw-requires-clause-some : goal.draw-requires-clause-some
draw-requires-clause-some g c = (rw c.in-Draw.is at c.requires.known).0

pub draw-requires-clause-low : goal.draw-requires-clause-low
draw-requires-clause-low g c = let f : SFits w128 c.in-Draw.low = search rules in subst (λ (z : ℤ). IsTrue (is_whole z)) (sym (to_z-of_z w128 c.in-Draw.low f)) (rw c.in-Draw.is at c.requires.known).1

pub draw-requires-clause-high : goal.draw-requires-clause-high
draw-requires-clause-high g c = let f : SFits w128 c.in-Draw.low = search rules in subst (λ (z : ℤ). IsTrue (is_whole (z +ℤ pos c.in-Draw.span -ℤ pos 1))) (sym (to_z-of_z w128 c.in-Draw.low f)) (rw c.in-Draw.is at c.requires.known).2

pub returns-in-Draw-clause-leads : goal.returns-in-Draw-clause-leads
returns-in-Draw-clause-leads g c = let f : SFits w128 c.in-Draw.low = search rules in rw c.in-Draw.is (subst (λ (z : ℤ). LeadsTo (setup_of (g.M.FlowMaker.functions c.args.self.now.tasks.maker) c.args.teller.now) c.args.task (turned.Draw z c.in-Draw.span) (rig_of (means g.M.FlowMaker g.M.Flow.Flow g.W.Awaits) c.args.self.now (g.K.Gpi.content c.args.kernel.now)) c.draw.result (rig_of (means g.M.FlowMaker g.M.Flow.Flow g.W.Awaits) c.draw.new.self (g.K.Gpi.content c.args.kernel.now))) (to_z-of_z w128 c.in-Draw.low f) (c.draw.ensures.leads (setup_of (g.M.FlowMaker.functions c.args.self.now.tasks.maker) c.args.teller.now) c.args.task (g.K.Gpi.content c.args.kernel.now)))

pub returns-in-Draw-clause-puts : goal.returns-in-Draw-clause-puts
returns-in-Draw-clause-puts g c = rw c.in-Draw.is (none_put (sink_means g.O.Sink) c.args.out.now (Ok c.draw.result) _ (quiet_lines c.args.task (rig_of (means g.M.FlowMaker g.M.Flow.Flow g.W.Awaits) c.args.self.now (g.K.Gpi.content c.args.kernel.now)) (setup_of (g.M.FlowMaker.functions c.args.self.now.tasks.maker) c.args.teller.now) (turned.Draw c.in-Draw.low c.in-Draw.span) tt) c.draw.ensures.fine)

pub returns-in-Draw-clause-fits : goal.returns-in-Draw-clause-fits
returns-in-Draw-clause-fits g c = let f : SFits w128 c.in-Draw.low = search rules in fits_next (means g.M.FlowMaker g.M.Flow.Flow g.W.Awaits) c.args.teller.now.flat.now (setup_of (g.M.FlowMaker.functions c.args.self.now.tasks.maker) c.args.teller.now) c.args.task (turned.Draw c.in-Draw.low c.in-Draw.span) (rig_of (means g.M.FlowMaker g.M.Flow.Flow g.W.Awaits) c.args.self.now (g.K.Gpi.content c.args.kernel.now)) refl c.requires.fits.stands c.draw.new.self (g.K.Gpi.content c.args.kernel.now) (rw c.draw.ensures.queue c.requires.fits.queue) (room_same (means g.M.FlowMaker g.M.Flow.Flow g.W.Awaits) c.args.self.now c.requires.fits.room c.draw.new.self c.draw.ensures.tasks (ap (λ (x : _). x.ready.room) c.draw.ensures.queue)) c.draw.result (subst (λ (z : ℤ). LeadsTo (setup_of (g.M.FlowMaker.functions c.args.self.now.tasks.maker) c.args.teller.now) c.args.task (turned.Draw z c.in-Draw.span) (rig_of (means g.M.FlowMaker g.M.Flow.Flow g.W.Awaits) c.args.self.now (g.K.Gpi.content c.args.kernel.now)) c.draw.result (rig_of (means g.M.FlowMaker g.M.Flow.Flow g.W.Awaits) c.draw.new.self (g.K.Gpi.content c.args.kernel.now))) (to_z-of_z w128 c.in-Draw.low f) (c.draw.ensures.leads (setup_of (g.M.FlowMaker.functions c.args.self.now.tasks.maker) c.args.teller.now) c.args.task (g.K.Gpi.content c.args.kernel.now)))

pub returns-in-Draw-clause-kept : goal.returns-in-Draw-clause-kept
returns-in-Draw-clause-kept g c = record { loaded = c.requires.loaded; keeps = rw c.draw.ensures.queue (fits_keeps c.args.teller.now.flat.now g.W.Awaits.waiting g.W.Awaits.held c.args.self.now.queue (g.K.Gpi.content c.args.kernel.now) c.requires.fits.queue); maker = ap (λ (x : TestTasks _ _). x.maker) c.draw.ensures.tasks }

pub finish-requires : goal.finish-requires
finish-requires g c = record { turn = has_turn (means g.M.FlowMaker g.M.Flow.Flow g.W.Awaits) g.K.Gpi c.args.task c.args.teller.now.flat.now c.args.self.now c.args.kernel.now c.requires.loaded c.requires.fits }

pub returns-in-Done-clause-leads : goal.returns-in-Done-clause-leads
returns-in-Done-clause-leads g c = rw c.in-Done.is (c.finish.ensures.leads.effect (setup_of (g.M.FlowMaker.functions c.args.self.now.tasks.maker) c.args.teller.now))

pub returns-in-Done-clause-puts : goal.returns-in-Done-clause-puts
returns-in-Done-clause-puts g c = rw c.in-Done.is (none_put (sink_means g.O.Sink) c.args.out.now (Ok c.finish.result) _ (quiet_lines c.args.task (rig_of (means g.M.FlowMaker g.M.Flow.Flow g.W.Awaits) c.args.self.now (g.K.Gpi.content c.args.kernel.now)) (setup_of (g.M.FlowMaker.functions c.args.self.now.tasks.maker) c.args.teller.now) (turned.Done c.in-Done.value) tt) c.finish.ensures.leads.fine)

pub returns-in-Done-clause-fits : goal.returns-in-Done-clause-fits
returns-in-Done-clause-fits g c = fits_next (means g.M.FlowMaker g.M.Flow.Flow g.W.Awaits) c.args.teller.now.flat.now (setup_of (g.M.FlowMaker.functions c.args.self.now.tasks.maker) c.args.teller.now) c.args.task (turned.Done c.in-Done.value) (rig_of (means g.M.FlowMaker g.M.Flow.Flow g.W.Awaits) c.args.self.now (g.K.Gpi.content c.args.kernel.now)) refl c.requires.fits.stands c.finish.new.self (g.K.Gpi.content c.finish.new.kernel) (c.finish.ensures.stays.fits c.args.teller.now.flat.now c.requires.fits.queue) c.finish.ensures.leads.room c.finish.result (c.finish.ensures.leads.effect (setup_of (g.M.FlowMaker.functions c.args.self.now.tasks.maker) c.args.teller.now))

pub returns-in-Done-clause-kept : goal.returns-in-Done-clause-kept
returns-in-Done-clause-kept g c = c.finish.ensures.stays.kept

pub fail-requires-clause-turn : goal.fail-requires-clause-turn
fail-requires-clause-turn g c = has_turn (means g.M.FlowMaker g.M.Flow.Flow g.W.Awaits) g.K.Gpi c.args.task c.args.teller.now.flat.now c.args.self.now c.args.kernel.now c.requires.loaded c.requires.fits

pub fail-requires-clause-still : goal.fail-requires-clause-still
fail-requires-clause-still g c = c.requires.fits.queue.still

pub returns-in-Raised-clause-leads : goal.returns-in-Raised-clause-leads
returns-in-Raised-clause-leads g c = rw c.in-Raised.is (if_ok c.fail.result c.fail.ensures.leads (λ next h. h.effect (setup_of (g.M.FlowMaker.functions c.args.self.now.tasks.maker) c.args.teller.now)))

pub returns-in-Raised-clause-puts : goal.returns-in-Raised-clause-puts
returns-in-Raised-clause-puts g c = rw c.in-Raised.is (none_put (sink_means g.O.Sink) c.args.out.now c.fail.result _ (quiet_lines c.args.task (rig_of (means g.M.FlowMaker g.M.Flow.Flow g.W.Awaits) c.args.self.now (g.K.Gpi.content c.args.kernel.now)) (setup_of (g.M.FlowMaker.functions c.args.self.now.tasks.maker) c.args.teller.now) (turned.Raised c.in-Raised.fault) tt) (if_ok c.fail.result c.fail.ensures.leads (λ next h. h.fine)))

pub returns-in-Raised-clause-fits : goal.returns-in-Raised-clause-fits
returns-in-Raised-clause-fits g c = fits_if (means g.M.FlowMaker g.M.Flow.Flow g.W.Awaits) c.args.teller.now.flat.now (setup_of (g.M.FlowMaker.functions c.args.self.now.tasks.maker) c.args.teller.now) c.args.task (turned.Raised c.in-Raised.fault) (rig_of (means g.M.FlowMaker g.M.Flow.Flow g.W.Awaits) c.args.self.now (g.K.Gpi.content c.args.kernel.now)) refl c.requires.fits.stands c.fail.new.self (g.K.Gpi.content c.fail.new.kernel) (c.fail.ensures.stays.fits c.args.teller.now.flat.now c.requires.fits.queue) c.fail.result (if_ok c.fail.result c.fail.ensures.leads (λ next h. h.effect (setup_of (g.M.FlowMaker.functions c.args.self.now.tasks.maker) c.args.teller.now))) (if_ok c.fail.result c.fail.ensures.leads (λ next h. h.room))

pub returns-in-Raised-clause-kept : goal.returns-in-Raised-clause-kept
returns-in-Raised-clause-kept g c = c.fail.ensures.stays.kept

pub put_write-requires-clause-fits : goal.put_write-requires-clause-fits
put_write-requires-clause-fits g c = c.requires.fits.queue

pub put_write-requires-clause-sound : goal.put_write-requires-clause-sound
put_write-requires-clause-sound g c = sound_write (setup_of (g.M.FlowMaker.functions c.args.self.now.tasks.maker) c.args.teller.now) (rig_of (means g.M.FlowMaker g.M.Flow.Flow g.W.Awaits) c.args.self.now (g.K.Gpi.content c.args.kernel.now)) c.args.teller.now.flat.now c.in-Put.sig c.in-Put.act c.requires.fits.queue.queue.signals (rw c.in-Put.is at c.requires.known)

pub put_write-requires-clause-room : goal.put_write-requires-clause-room
put_write-requires-clause-room g c = c.requires.fits.room

pub returns-in-Put-clause-leads : goal.returns-in-Put-clause-leads
returns-in-Put-clause-leads g c = rw c.in-Put.is (if_ok c.put_write.result c.put_write.ensures.leads (λ next h. h (g.M.FlowMaker.functions c.args.self.now.tasks.maker) c.args.task))

pub returns-in-Put-clause-puts : goal.returns-in-Put-clause-puts
returns-in-Put-clause-puts g c = rw c.in-Put.is (c.put_write.ensures.puts (g.M.FlowMaker.functions c.args.self.now.tasks.maker) c.args.task)

pub returns-in-Put-clause-fits : goal.returns-in-Put-clause-fits
returns-in-Put-clause-fits g c = fits_if (means g.M.FlowMaker g.M.Flow.Flow g.W.Awaits) c.args.teller.now.flat.now (setup_of (g.M.FlowMaker.functions c.args.self.now.tasks.maker) c.args.teller.now) c.args.task (turned.Put c.in-Put.sig c.in-Put.act) (rig_of (means g.M.FlowMaker g.M.Flow.Flow g.W.Awaits) c.args.self.now (g.K.Gpi.content c.args.kernel.now)) refl c.requires.fits.stands c.put_write.new.self (g.K.Gpi.content c.put_write.new.kernel) c.put_write.ensures.fits c.put_write.result (if_ok c.put_write.result c.put_write.ensures.leads (λ next h. h (g.M.FlowMaker.functions c.args.self.now.tasks.maker) c.args.task)) c.put_write.ensures.room

pub returns-in-Put-clause-kept : goal.returns-in-Put-clause-kept
returns-in-Put-clause-kept g c = c.put_write.ensures.kept

pub returns-in-Log-clause-leads : goal.returns-in-Log-clause-leads
returns-in-Log-clause-leads g c = rw c.in-Log.is (if_ok c.write_log.result c.write_log.ensures.next (λ next logged. logged_leads (setup_of (g.M.FlowMaker.functions c.args.self.now.tasks.maker) c.args.teller.now) c.args.task (turned.Log c.in-Log.level c.in-Log.text) (rig_of (means g.M.FlowMaker g.M.Flow.Flow g.W.Awaits) c.args.self.now (g.K.Gpi.content c.args.kernel.now)) (rig_of (means g.M.FlowMaker g.M.Flow.Flow g.W.Awaits) c.args.self.now (g.K.Gpi.content c.args.kernel.now)) next refl logged))

pub returns-in-Log-clause-puts : goal.returns-in-Log-clause-puts
returns-in-Log-clause-puts g c = rw c.in-Log.is (rw c.now.ensures at c.write_log.ensures.puts)

pub returns-in-Log-clause-fits : goal.returns-in-Log-clause-fits
returns-in-Log-clause-fits g c = fits_if (means g.M.FlowMaker g.M.Flow.Flow g.W.Awaits) c.args.teller.now.flat.now (setup_of (g.M.FlowMaker.functions c.args.self.now.tasks.maker) c.args.teller.now) c.args.task (turned.Log c.in-Log.level c.in-Log.text) (rig_of (means g.M.FlowMaker g.M.Flow.Flow g.W.Awaits) c.args.self.now (g.K.Gpi.content c.args.kernel.now)) refl c.requires.fits.stands c.args.self.now (g.K.Gpi.content c.args.kernel.now) c.requires.fits.queue c.write_log.result (if_ok c.write_log.result c.write_log.ensures.next (λ next logged. logged_leads (setup_of (g.M.FlowMaker.functions c.args.self.now.tasks.maker) c.args.teller.now) c.args.task (turned.Log c.in-Log.level c.in-Log.text) (rig_of (means g.M.FlowMaker g.M.Flow.Flow g.W.Awaits) c.args.self.now (g.K.Gpi.content c.args.kernel.now)) (rig_of (means g.M.FlowMaker g.M.Flow.Flow g.W.Awaits) c.args.self.now (g.K.Gpi.content c.args.kernel.now)) next refl logged)) (on_ok c.write_log.result c.requires.fits.room)

pub returns-in-Log-clause-kept : goal.returns-in-Log-clause-kept
returns-in-Log-clause-kept g c = record { loaded = c.requires.loaded; keeps = fits_keeps c.args.teller.now.flat.now g.W.Awaits.waiting g.W.Awaits.held c.args.self.now.queue (g.K.Gpi.content c.args.kernel.now) c.requires.fits.queue; maker = refl }

pub returns-in-NewQueue-clause-leads : goal.returns-in-NewQueue-clause-leads
returns-in-NewQueue-clause-leads g c = rw c.in-NewQueue.is (if_ok c.new_queue.result c.new_queue.ensures.leads (λ next h. h (setup_of (g.M.FlowMaker.functions c.args.self.now.tasks.maker) c.args.teller.now) c.args.task (g.K.Gpi.content c.args.kernel.now)))

pub returns-in-NewQueue-clause-puts : goal.returns-in-NewQueue-clause-puts
returns-in-NewQueue-clause-puts g c = rw c.in-NewQueue.is (none_put (sink_means g.O.Sink) c.args.out.now c.new_queue.result _ (quiet_lines c.args.task (rig_of (means g.M.FlowMaker g.M.Flow.Flow g.W.Awaits) c.args.self.now (g.K.Gpi.content c.args.kernel.now)) (setup_of (g.M.FlowMaker.functions c.args.self.now.tasks.maker) c.args.teller.now) (turned.NewQueue c.in-NewQueue.bound) tt) c.new_queue.ensures.fine)

pub returns-in-NewQueue-clause-fits : goal.returns-in-NewQueue-clause-fits
returns-in-NewQueue-clause-fits g c = fits_if (means g.M.FlowMaker g.M.Flow.Flow g.W.Awaits) c.args.teller.now.flat.now (setup_of (g.M.FlowMaker.functions c.args.self.now.tasks.maker) c.args.teller.now) c.args.task (turned.NewQueue c.in-NewQueue.bound) (rig_of (means g.M.FlowMaker g.M.Flow.Flow g.W.Awaits) c.args.self.now (g.K.Gpi.content c.args.kernel.now)) refl c.requires.fits.stands c.new_queue.new.self (g.K.Gpi.content c.args.kernel.now) (rw c.new_queue.ensures.queue c.requires.fits.queue) c.new_queue.result (if_ok c.new_queue.result c.new_queue.ensures.leads (λ next h. h (setup_of (g.M.FlowMaker.functions c.args.self.now.tasks.maker) c.args.teller.now) c.args.task (g.K.Gpi.content c.args.kernel.now))) (on_ok c.new_queue.result (room_same (means g.M.FlowMaker g.M.Flow.Flow g.W.Awaits) c.args.self.now c.requires.fits.room c.new_queue.new.self c.new_queue.ensures.tasks (ap (λ (x : _). x.ready.room) c.new_queue.ensures.queue)))

pub returns-in-NewQueue-clause-kept : goal.returns-in-NewQueue-clause-kept
returns-in-NewQueue-clause-kept g c = record { loaded = c.requires.loaded; keeps = rw c.new_queue.ensures.queue (fits_keeps c.args.teller.now.flat.now g.W.Awaits.waiting g.W.Awaits.held c.args.self.now.queue (g.K.Gpi.content c.args.kernel.now) c.requires.fits.queue); maker = ap (λ (x : TestTasks _ _). x.maker) c.new_queue.ensures.tasks }

pub put_item-requires-clause-turn : goal.put_item-requires-clause-turn
put_item-requires-clause-turn g c = has_turn (means g.M.FlowMaker g.M.Flow.Flow g.W.Awaits) g.K.Gpi c.args.task c.args.teller.now.flat.now c.args.self.now c.args.kernel.now c.requires.loaded c.requires.fits

pub returns-in-PutNow-clause-leads : goal.returns-in-PutNow-clause-leads
returns-in-PutNow-clause-leads g c = rw c.in-PutNow.is (if_ok c.put_item.result c.put_item.ensures.leads (λ next h. h.effect (setup_of (g.M.FlowMaker.functions c.args.self.now.tasks.maker) c.args.teller.now)))

pub returns-in-PutNow-clause-puts : goal.returns-in-PutNow-clause-puts
returns-in-PutNow-clause-puts g c = rw c.in-PutNow.is (none_put (sink_means g.O.Sink) c.args.out.now c.put_item.result _ (quiet_lines c.args.task (rig_of (means g.M.FlowMaker g.M.Flow.Flow g.W.Awaits) c.args.self.now (g.K.Gpi.content c.args.kernel.now)) (setup_of (g.M.FlowMaker.functions c.args.self.now.tasks.maker) c.args.teller.now) (turned.PutNow c.in-PutNow.queue c.in-PutNow.item) tt) (if_ok c.put_item.result c.put_item.ensures.leads (λ next h. h.fine)))

pub returns-in-PutNow-clause-fits : goal.returns-in-PutNow-clause-fits
returns-in-PutNow-clause-fits g c = fits_if (means g.M.FlowMaker g.M.Flow.Flow g.W.Awaits) c.args.teller.now.flat.now (setup_of (g.M.FlowMaker.functions c.args.self.now.tasks.maker) c.args.teller.now) c.args.task (turned.PutNow c.in-PutNow.queue c.in-PutNow.item) (rig_of (means g.M.FlowMaker g.M.Flow.Flow g.W.Awaits) c.args.self.now (g.K.Gpi.content c.args.kernel.now)) refl c.requires.fits.stands c.put_item.new.self (g.K.Gpi.content c.put_item.new.kernel) (c.put_item.ensures.stays.fits c.args.teller.now.flat.now c.requires.fits.queue) c.put_item.result (if_ok c.put_item.result c.put_item.ensures.leads (λ next h. h.effect (setup_of (g.M.FlowMaker.functions c.args.self.now.tasks.maker) c.args.teller.now))) (if_ok c.put_item.result c.put_item.ensures.leads (λ next h. h.room))

pub returns-in-PutNow-clause-kept : goal.returns-in-PutNow-clause-kept
returns-in-PutNow-clause-kept g c = c.put_item.ensures.stays.kept

pub get_item-requires-clause-turn : goal.get_item-requires-clause-turn
get_item-requires-clause-turn g c = has_turn (means g.M.FlowMaker g.M.Flow.Flow g.W.Awaits) g.K.Gpi c.args.task c.args.teller.now.flat.now c.args.self.now c.args.kernel.now c.requires.loaded c.requires.fits

pub returns-in-GetNow-clause-leads : goal.returns-in-GetNow-clause-leads
returns-in-GetNow-clause-leads g c = rw c.in-GetNow.is (c.get_item.ensures.leads.effect (setup_of (g.M.FlowMaker.functions c.args.self.now.tasks.maker) c.args.teller.now))

pub returns-in-GetNow-clause-puts : goal.returns-in-GetNow-clause-puts
returns-in-GetNow-clause-puts g c = rw c.in-GetNow.is (none_put (sink_means g.O.Sink) c.args.out.now (Ok c.get_item.result) _ (quiet_lines c.args.task (rig_of (means g.M.FlowMaker g.M.Flow.Flow g.W.Awaits) c.args.self.now (g.K.Gpi.content c.args.kernel.now)) (setup_of (g.M.FlowMaker.functions c.args.self.now.tasks.maker) c.args.teller.now) (turned.GetNow c.in-GetNow.queue) tt) c.get_item.ensures.leads.fine)

pub returns-in-GetNow-clause-fits : goal.returns-in-GetNow-clause-fits
returns-in-GetNow-clause-fits g c = fits_next (means g.M.FlowMaker g.M.Flow.Flow g.W.Awaits) c.args.teller.now.flat.now (setup_of (g.M.FlowMaker.functions c.args.self.now.tasks.maker) c.args.teller.now) c.args.task (turned.GetNow c.in-GetNow.queue) (rig_of (means g.M.FlowMaker g.M.Flow.Flow g.W.Awaits) c.args.self.now (g.K.Gpi.content c.args.kernel.now)) refl c.requires.fits.stands c.get_item.new.self (g.K.Gpi.content c.get_item.new.kernel) (c.get_item.ensures.stays.fits c.args.teller.now.flat.now c.requires.fits.queue) c.get_item.ensures.leads.room c.get_item.result (c.get_item.ensures.leads.effect (setup_of (g.M.FlowMaker.functions c.args.self.now.tasks.maker) c.args.teller.now))

pub returns-in-GetNow-clause-kept : goal.returns-in-GetNow-clause-kept
returns-in-GetNow-clause-kept g c = c.get_item.ensures.stays.kept

pub put_item-requires-clause-queue : goal.put_item-requires-clause-queue
put_item-requires-clause-queue g c = knows_queue (setup_of (g.M.FlowMaker.functions c.args.self.now.tasks.maker) c.args.teller.now) (rig_of (means g.M.FlowMaker g.M.Flow.Flow g.W.Awaits) c.args.self.now (g.K.Gpi.content c.args.kernel.now)) c.in-PutNow.queue.0 (rw c.in-PutNow.is at c.requires.known).0

pub get_item-requires-clause-queue : goal.get_item-requires-clause-queue
get_item-requires-clause-queue g c = knows_queue (setup_of (g.M.FlowMaker.functions c.args.self.now.tasks.maker) c.args.teller.now) (rig_of (means g.M.FlowMaker g.M.Flow.Flow g.W.Awaits) c.args.self.now (g.K.Gpi.content c.args.kernel.now)) c.in-GetNow.queue.0 (rw c.in-GetNow.is at c.requires.known)
