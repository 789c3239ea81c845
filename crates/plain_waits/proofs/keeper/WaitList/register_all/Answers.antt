use Rattle.std.proofs.Common.{[], ◌++◌, take, sym, subst, arith}
use Rattle.gpi.specs.Content.{Content}
use Rattle.await_tree.specs.WaitList.Waiting.{keys_among}
use Rattle.plain_waits.specs.Kept.{names_of}
use Rattle.await_tree.specs.WaitList.Parts.{Fits, Narrows}
use Rattle.await_tree.proofs.WaitListLemmas.Awaited.{asked_upto, fits_again, kept_again, keys_upto, registered_all, registered_first, registered_next}
use Rattle.plain_waits.proofs.keeper.WaitList.register_all.Goals as goal

pub loop-at-init : goal.loop-at-init
loop-at-init g c = record { inside = omega arith; loaded = c.requires.loaded; keys = registered_first (g.K.Gpi.content c.args.kernel.now) c.args.awaited.now (names_of c.args.self.now) c.requires.keys }

pub register_at-requires-clause-keys : goal.register_at-requires-clause-keys
register_at-requires-clause-keys g c = keys_upto (g.K.Gpi.content c.args.kernel.now) (g.K.Gpi.content c.loop-at.kernel) c.args.awaited.now c.loop-at.at (names_of c.args.self.now) c.requires.keys c.loop-at.invariant.keys

pub register_at-requires-clause-asked : goal.register_at-requires-clause-asked
register_at-requires-clause-asked g c = asked_upto (g.K.Gpi.content c.args.kernel.now) (g.K.Gpi.content c.loop-at.kernel) c.args.awaited.now c.loop-at.at (names_of c.args.self.now) c.requires.keys c.loop-at.invariant.keys c.requires.asked

pub let_go-requires-clause-fits : goal.let_go-requires-clause-fits
let_go-requires-clause-fits g c = subst (λ (x : Content). Fits x [] c.args.self.now.held.items ((keys_among (take c.loop-at.at c.args.awaited.now)) ++ (names_of c.args.self.now))) (sym c.in-Err.ensures.err)
    (fits_again (g.K.Gpi.content c.loop-at.kernel) c.args.self.now.held.items ((keys_among (take c.loop-at.at c.args.awaited.now)) ++ (names_of c.args.self.now)) (keys_upto (g.K.Gpi.content c.args.kernel.now) (g.K.Gpi.content c.loop-at.kernel) c.args.awaited.now c.loop-at.at (names_of c.args.self.now) c.requires.keys c.loop-at.invariant.keys))

pub returns-in-Err-clause-err : goal.returns-in-Err-clause-err
returns-in-Err-clause-err g c = kept_again (g.K.Gpi.content c.args.kernel.now) (g.K.Gpi.content c.loop-at.kernel) (g.K.Gpi.content c.let_go.new.kernel) (keys_among (take c.loop-at.at c.args.awaited.now)) (keys_among (take c.loop-at.at c.args.awaited.now)) (names_of c.args.self.now) (keys_among c.args.awaited.now ++ (names_of c.args.self.now)) c.requires.keys c.loop-at.invariant.keys (keys_upto (g.K.Gpi.content c.args.kernel.now) (g.K.Gpi.content c.loop-at.kernel) c.args.awaited.now c.loop-at.at (names_of c.args.self.now) c.requires.keys c.loop-at.invariant.keys)
    (subst (λ (x : Content). Narrows x (g.K.Gpi.content c.let_go.new.kernel) ((keys_among (take c.loop-at.at c.args.awaited.now)) ++ (names_of c.args.self.now)) (names_of c.args.self.now)) c.in-Err.ensures.err c.let_go.ensures.keys)

pub loop-at-preserved : goal.loop-at-preserved
loop-at-preserved g c = record { inside = omega arith; loaded = c.register_at.ensures.loaded; keys = registered_next (g.K.Gpi.content c.args.kernel.now) (g.K.Gpi.content c.loop-at.kernel) (g.K.Gpi.content c.register_at.new.kernel) c.args.awaited.now c.loop-at.at (names_of c.args.self.now) c.loop-at.invariant.keys c.in_default.ensures.ok }

pub returns-clause-ok : goal.returns-clause-ok
returns-clause-ok g c = registered_all (g.K.Gpi.content c.args.kernel.now) (g.K.Gpi.content c.loop-at.kernel) c.args.awaited.now c.loop-at.at (names_of c.args.self.now) (omega arith) c.loop-at.invariant.keys
