use Rattle.std.proofs.Common.{◌∙◌, sym, ap, subst, length, ℕ, List}
use Rattle.port_io.specs.Means.{sink_means}
use Rattle.four_value.specs.declared.Digit.{Digit}
use Rattle.gpi.specs.State.{State}
use Rattle.run_state.specs.Queue.Fits.{queue_of}
use Rattle.scheduler.specs.Puts.{PutsOn}
use Rattle.scheduler.specs.Setups.{setup_of}
use Rattle.scheduler.proofs.DepositLaws.{put_but, put_fired, put_held, put_serves, told_same}
use Rattle.scheduler.proofs.FireLaws.{write_region}
use Rattle.scheduler.proofs.SignalLaws.{is_inside, same_width, written_fits}
use Rattle.scheduler.proofs.teller.Teller.put_out.Goals as goal

pub read-old-requires-clause-sig : goal.read-old-requires-clause-sig
read-old-requires-clause-sig g c = is_inside (g.K.Gpi.content c.args.kernel.now).state.signals c.args.self.now.flat.now.signals c.args.write.sig c.requires.amid.amid.stands.signals c.requires.sound.0

pub write_signal-fired-requires-clause-digits : goal.write_signal-fired-requires-clause-digits
write_signal-fired-requires-clause-digits g c = written_fits (g.K.Gpi.content c.args.kernel.now).state.signals c.args.self.now.flat.now.signals c.args.write c.requires.amid.amid.stands.signals c.requires.sound

pub read-shown-requires-clause-sig : goal.read-shown-requires-clause-sig
read-shown-requires-clause-sig g c =
    is_inside (g.K.Gpi.content c.write_signal-fired.new.kernel).state.signals c.args.self.now.flat.now.signals c.args.write.sig
    (c.write_signal-fired.ensures.widths ∙ c.requires.amid.amid.stands.signals) c.requires.sound.0

pub change_of-change-requires : goal.change_of-change-requires
change_of-change-requires g c =
    ap (λ (ds : List Digit). length ds) c.read-old.ensures
    ∙ same_width (g.K.Gpi.content c.args.kernel.now).state.signals (g.K.Gpi.content c.write_signal-fired.new.kernel).state.signals c.args.self.now.flat.now.signals c.args.write.sig
    c.requires.amid.amid.stands.signals c.write_signal-fired.ensures.widths c.requires.sound.0
    ∙ sym (ap (λ (ds : List Digit). length ds) c.read-shown.ensures)

pub fire-requires-clause-fired : goal.fire-requires-clause-fired
fire-requires-clause-fired g c = put_fired c.args.self.now.flat.now c.args.queue.now.ready.room (g.W.Awaits.held c.args.queue.now.awaits) (queue_of g.W.Awaits.waiting c.args.queue.now)
    (g.K.Gpi.content c.args.kernel.now) (g.K.Gpi.content c.write_signal-fired.new.kernel) c.args.write c.write_signal-fired.result c.write_signal-fired.ensures.is.0 c.write_signal-fired.ensures.is.1 c.write_signal-fired.ensures.widths c.requires.amid c.requires.sound

pub fire-requires-clause-keys : goal.fire-requires-clause-keys
fire-requires-clause-keys g c = put_but c.args.self.now.flat.now c.args.queue.now.ready.room (g.W.Awaits.held c.args.queue.now.awaits) (queue_of g.W.Awaits.waiting c.args.queue.now)
    (g.K.Gpi.content c.args.kernel.now) (g.K.Gpi.content c.write_signal-fired.new.kernel) c.args.write c.write_signal-fired.result c.write_signal-fired.ensures.is.0 c.write_signal-fired.ensures.is.1 c.write_signal-fired.ensures.widths c.requires.amid

pub returns-clause-serves : goal.returns-clause-serves
returns-clause-serves g c = λ functions others counts s.
    put_serves c.args.self.now.flat.now c.args.queue.now.ready.room (g.W.Awaits.held c.args.queue.now.awaits) (g.W.Awaits.held c.fire.new.self) (queue_of g.W.Awaits.waiting c.args.queue.now)
    (g.K.Gpi.content c.args.kernel.now) (g.K.Gpi.content c.write_signal-fired.new.kernel) (g.K.Gpi.content c.fire.new.kernel) c.args.write c.write_signal-fired.result c.fire.new.ready.entries (g.W.Awaits.waiting c.fire.new.self)
    c.write_signal-fired.ensures.is.0 c.write_signal-fired.ensures.is.1 c.write_signal-fired.ensures.widths c.fire.ensures.waiting c.fire.ensures.held c.fire.ensures.ready c.fire.ensures.keys
    others counts s (sink_means g.O.Sink) functions c.args.self.now.trace c.args.fault c.args.out.now c.tell-fault.result c.tell-fault.new.out
    (subst (λ (lines : List (List ℕ)). PutsOn (sink_means g.O.Sink) c.args.fault c.args.out.now lines c.tell-fault.result c.tell-fault.new.out)
    (told_same (setup_of functions c.args.self.now) (g.K.Gpi.content c.args.kernel.now) (g.K.Gpi.content c.write_signal-fired.new.kernel) c.args.write.sig c.args.write.act
    c.read-old.result c.read-shown.result c.now-time.result c.change_of-change.result
    (is_inside (g.K.Gpi.content c.args.kernel.now).state.signals c.args.self.now.flat.now.signals c.args.write.sig c.requires.amid.amid.stands.signals c.requires.sound.0)
    c.now-time.ensures c.read-old.ensures c.read-shown.ensures c.write_signal-fired.ensures.is.1.state c.change_of-change.ensures)
    (c.tell-fault.ensures functions))

pub returns-clause-held : goal.returns-clause-held
returns-clause-held g c =
    put_held c.args.self.now.flat.now c.args.queue.now.ready.room (g.W.Awaits.held c.args.queue.now.awaits) (g.W.Awaits.held c.fire.new.self) (queue_of g.W.Awaits.waiting c.args.queue.now)
    (g.K.Gpi.content c.args.kernel.now) (g.K.Gpi.content c.write_signal-fired.new.kernel) (g.K.Gpi.content c.fire.new.kernel) c.args.write c.write_signal-fired.result c.fire.new.ready.entries (g.W.Awaits.waiting c.fire.new.self)
    c.write_signal-fired.ensures.is.0 c.write_signal-fired.ensures.is.1 c.write_signal-fired.ensures.widths c.fire.ensures.waiting c.fire.ensures.held c.fire.ensures.ready c.fire.ensures.keys
    c.requires.amid.fired c.requires.amid.amid.counts c.requires.amid.amid.stands

pub returns-clause-region : goal.returns-clause-region
returns-clause-region g c =
    ap (λ (st : State). st.region) (c.fire.ensures.keys.state ∙ c.write_signal-fired.ensures.is.1.state)
    ∙ write_region (g.K.Gpi.content c.args.kernel.now) c.args.write.sig c.args.write.act
