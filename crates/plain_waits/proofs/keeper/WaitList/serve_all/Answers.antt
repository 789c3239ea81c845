use Rattle.std.proofs.Common.{List, ◌++◌, refl, sym, ap, ◌∙◌, append_assoc}
use Rattle.await_tree.specs.WaitList.Waiting.{Waiting, all_waiting, all_woken, fired_keys, key_list}
use Rattle.await_tree.specs.declared.wait_list.ready.Entry.{Entry}
use Rattle.plain_waits.specs.Kept.{names_of, waiting_in}
use Rattle.plain_waits.proofs.Calls.{fits_on}
use Rattle.await_tree.proofs.WaitListLemmas.Served.{all_both, woken_both}
use Rattle.await_tree.proofs.WaitListLemmas.Rekeys.{narrows_through}
use Rattle.plain_waits.proofs.Walks.{served_room}
use Rattle.plain_waits.proofs.keeper.WaitList.serve_all.Goals as goal

pub serve_one-requires-2-clause-room : goal.serve_one-requires-2-clause-room
serve_one-requires-2-clause-room g c = served_room (key_list c.args.fired.first) (waiting_in c.args.self.now) c.args.ready.now.entries c.serve_one.new.ready.entries (waiting_in c.serve_one.new.self) c.args.ready.now.room c.serve_one.new.ready.room c.serve_one.ensures.waiting c.serve_one.ensures.ready c.serve_one.ensures.room c.requires.room

pub serve_one-requires-2-clause-fits : goal.serve_one-requires-2-clause-fits
serve_one-requires-2-clause-fits g c = fits_on (g.K.Gpi.content c.args.kernel.now) (g.K.Gpi.content c.serve_one.new.kernel) (fired_keys c.args.fired) c.args.self.now.held.items (names_of c.args.self.now) c.args.self.now c.serve_one.new.self c.serve_one.ensures.held refl c.requires.fits c.serve_one.ensures.keys

pub returns-clause-waiting : goal.returns-clause-waiting
returns-clause-waiting g c = c.serve_one-2.ensures.waiting ∙ ap (all_waiting (key_list c.args.fired.second)) c.serve_one.ensures.waiting ∙ sym (all_both (key_list c.args.fired.first) (key_list c.args.fired.second) (waiting_in c.args.self.now))

pub returns-clause-ready : goal.returns-clause-ready
returns-clause-ready g c = c.serve_one-2.ensures.ready
    ∙ ap (λ (es : List Entry). es ++ all_woken (key_list c.args.fired.second) (waiting_in c.serve_one.new.self)) c.serve_one.ensures.ready
    ∙ append_assoc c.args.ready.now.entries (all_woken (key_list c.args.fired.first) (waiting_in c.args.self.now)) (all_woken (key_list c.args.fired.second) (waiting_in c.serve_one.new.self))
    ∙ ap (λ (ws : List Waiting). c.args.ready.now.entries ++ (all_woken (key_list c.args.fired.first) (waiting_in c.args.self.now) ++ all_woken (key_list c.args.fired.second) ws)) c.serve_one.ensures.waiting
    ∙ ap (λ (es : List Entry). c.args.ready.now.entries ++ es) (sym (woken_both (key_list c.args.fired.first) (key_list c.args.fired.second) (waiting_in c.args.self.now)))

pub returns-clause-keys : goal.returns-clause-keys
returns-clause-keys g c = narrows_through (g.K.Gpi.content c.args.kernel.now) (g.K.Gpi.content c.serve_one.new.kernel) (g.K.Gpi.content c.serve_one-2.new.kernel) (names_of c.args.self.now) (names_of c.serve_one.new.self) (names_of c.serve_one-2.new.self) c.serve_one.ensures.keys c.serve_one-2.ensures.keys
