use Rattle.std.proofs.Common.{sym, subst, ℕ, []}
use Rattle.port_io.specs.Means.{sink_means}
use Rattle.rig_model.specs.Run.Serve.{deposit}
use Rattle.rig_model.specs.Parts.Fits.{FitsQueue}
use Rattle.run_state.specs.Queue.Fits.{queue_of}
use Rattle.scheduler.specs.Setups.{setup_of}
use Rattle.scheduler.proofs.EventLaws.{amid_fits, fits_amid, put_leads}
use Rattle.scheduler.proofs.teller.Teller.put_now.Goals as goal

pub put_out-requires-clause-amid : goal.put_out-requires-clause-amid
put_out-requires-clause-amid g c = record {
  fired = [];
  amid = record {
    counts = (g.K.Gpi.content c.args.kernel.now).counts;
    stands = fits_amid c.args.self.now.flat.now c.args.queue.now.ready.room (g.W.Awaits.held c.args.queue.now.awaits) (queue_of g.W.Awaits.waiting c.args.queue.now) (g.K.Gpi.content c.args.kernel.now) c.requires.fits.queue c.requires.fits.still;
  };
  covered = λ x m. cc;
}

pub returns-clause-fits : goal.returns-clause-fits
returns-clause-fits g c =
    let s = c.put_out.ensures.serves [] [] (g.K.Gpi.content c.args.kernel.now).counts
    (fits_amid c.args.self.now.flat.now c.args.queue.now.ready.room (g.W.Awaits.held c.args.queue.now.awaits) (queue_of g.W.Awaits.waiting c.args.queue.now) (g.K.Gpi.content c.args.kernel.now) c.requires.fits.queue c.requires.fits.still) in
    record {
      queue = subst (λ (room : ℕ). FitsQueue c.args.self.now.flat.now room (g.W.Awaits.held c.put_out.new.queue.awaits) (queue_of g.W.Awaits.waiting c.put_out.new.queue) (g.K.Gpi.content c.put_out.new.kernel)) (sym c.put_out.ensures.room)
          (amid_fits c.args.self.now.flat.now c.args.queue.now.ready.room s.after (g.W.Awaits.held c.put_out.new.queue.awaits) (queue_of g.W.Awaits.waiting c.put_out.new.queue) (g.K.Gpi.content c.put_out.new.kernel) s.stands);
      still = s.stands.still;
    }

pub returns-clause-done : goal.returns-clause-done
returns-clause-done g c = record {
  leads = λ functions.
      put_leads (sink_means g.O.Sink) (deposit (setup_of functions c.args.self.now) c.args.write.sig c.args.write.act) c.args.self.now.flat.now c.args.queue.now.ready.room (queue_of g.W.Awaits.waiting c.args.queue.now) (g.K.Gpi.content c.args.kernel.now)
      (g.W.Awaits.held c.put_out.new.queue.awaits) (queue_of g.W.Awaits.waiting c.put_out.new.queue) (g.K.Gpi.content c.put_out.new.kernel) c.args.out.now c.put_out.result c.put_out.new.out
      (c.put_out.ensures.serves functions [] (g.K.Gpi.content c.args.kernel.now).counts
      (fits_amid c.args.self.now.flat.now c.args.queue.now.ready.room (g.W.Awaits.held c.args.queue.now.awaits) (queue_of g.W.Awaits.waiting c.args.queue.now) (g.K.Gpi.content c.args.kernel.now) c.requires.fits.queue c.requires.fits.still));
  puts = λ functions.
      let s = c.put_out.ensures.serves functions [] (g.K.Gpi.content c.args.kernel.now).counts
      (fits_amid c.args.self.now.flat.now c.args.queue.now.ready.room (g.W.Awaits.held c.args.queue.now.awaits) (queue_of g.W.Awaits.waiting c.args.queue.now) (g.K.Gpi.content c.args.kernel.now) c.requires.fits.queue c.requires.fits.still) in
      s.puts;
}
