use Rattle.std.proofs.Common.{◌||◌, List, [], ◌++◌, sym, ap, ◌∙◌}
use Rattle.gpi.specs.Keys.{among, has}
use Rattle.await_tree.specs.WaitList.Waiting.{Waiting, all_waiting, all_woken, fired_keys}
use Rattle.plain_waits.specs.Kept.{names_of}
use Rattle.await_tree.proofs.WaitListLemmas.Awaited.{fired_again, fired_kept}
use Rattle.plain_waits.proofs.Calls.{fits_taken, held_items, narrows_taken, served_edges, waiting_same}
use Rattle.await_tree.proofs.WaitListLemmas.Members.{and_left, without_all_gone}
use Rattle.plain_waits.proofs.awaits.WaitListAwaits.fire.Goals as goal

pub serve_all-requires-clause-fits : goal.serve_all-requires-clause-fits
serve_all-requires-clause-fits g c = fits_taken (g.K.Gpi.content c.args.kernel.now) (fired_keys c.args.fired) c.args.self.now c.take_out_all.new.self c.take_out_all.ensures.held c.take_out_all.ensures.waiting c.requires.fired c.requires.keys

pub serve_all-requires-clause-room : goal.serve_all-requires-clause-room
serve_all-requires-clause-room g c = rw (waiting_same c.take_out_all.new.self c.args.self.now c.take_out_all.ensures.waiting) c.requires.room

pub register_fired-requires-clause-fired : goal.register_fired-requires-clause-fired
register_fired-requires-clause-fired g c = fired_kept (g.K.Gpi.content c.args.kernel.now) (g.K.Gpi.content c.serve_all.new.kernel) (fired_keys c.args.fired) (names_of c.take_out_all.new.self) (names_of c.serve_all.new.self) c.requires.fired c.serve_all.ensures.keys

pub register_fired-requires-clause-edges : goal.register_fired-requires-clause-edges
register_fired-requires-clause-edges g c = λ k m n. served_edges c.take_out_all.new.self c.serve_all.new.self (fired_keys c.args.fired) c.serve_all.ensures.waiting k m (ap (among k) (held_items c.serve_all.new.self c.take_out_all.new.self c.serve_all.ensures.held ∙ c.take_out_all.ensures.held) ∙ without_all_gone k (fired_keys c.args.fired) c.args.self.now.held.items m) n

pub register_fired-requires-clause-named : goal.register_fired-requires-clause-named
register_fired-requires-clause-named g c = λ k h. and_left (among k (names_of c.serve_all.new.self)) (has k (g.K.Gpi.content c.args.kernel.now).keys || among k []) (sym (c.serve_all.ensures.keys.keys.keys k) ∙ h)

pub returns-clause-waiting : goal.returns-clause-waiting
returns-clause-waiting g c = c.serve_all.ensures.waiting ∙ ap (all_waiting (fired_keys c.args.fired)) (waiting_same c.take_out_all.new.self c.args.self.now c.take_out_all.ensures.waiting)

pub returns-clause-ready : goal.returns-clause-ready
returns-clause-ready g c = c.serve_all.ensures.ready ∙ ap (λ (xs : List Waiting). c.args.ready.now.entries ++ all_woken (fired_keys c.args.fired) xs) (waiting_same c.take_out_all.new.self c.args.self.now c.take_out_all.ensures.waiting)

pub returns-clause-held : goal.returns-clause-held
returns-clause-held g c = λ k. ap (among k) (held_items c.serve_all.new.self c.take_out_all.new.self c.serve_all.ensures.held ∙ c.take_out_all.ensures.held)

pub returns-clause-keys : goal.returns-clause-keys
returns-clause-keys g c = fired_again (g.K.Gpi.content c.args.kernel.now) (g.K.Gpi.content c.serve_all.new.kernel) (g.K.Gpi.content c.register_fired.new.kernel) (fired_keys c.args.fired) (names_of c.args.self.now) (names_of c.serve_all.new.self) (narrows_taken (g.K.Gpi.content c.args.kernel.now) (g.K.Gpi.content c.serve_all.new.kernel) (fired_keys c.args.fired) c.args.self.now c.take_out_all.new.self (names_of c.serve_all.new.self) c.take_out_all.ensures.held c.take_out_all.ensures.waiting c.requires.fired c.requires.keys c.serve_all.ensures.keys) c.register_fired.ensures.keys
