use Rattle.std.proofs.Common.{List, ◌++◌, length, take, drop, refl, ap, ◌∙◌, arith}
use Rattle.std.proofs.lemmas.List.{length-map}
use Rattle.await_tree.specs.Fire.{fire}
use Rattle.await_tree.specs.WaitList.Waiting.{fired_keys}
use Rattle.await_tree.specs.declared.wait_list.ready.Entry.{Entry}
use Rattle.plain_waits.specs.Kept.{names_of, waiting_in, waiting_of}
use Rattle.plain_waits.specs.Parts.{left_after, woken_after}
use Rattle.plain_waits.proofs.Calls.{fits_on}
use Rattle.await_tree.proofs.WaitListLemmas.Members.{within_self}
use Rattle.await_tree.proofs.WaitListLemmas.Rekeys.{narrows_none, narrows_through}
use Rattle.plain_waits.proofs.Walks.{each_left, left_still, room_here, room_walked, walk_falls, walked, walked_all, woken_all, woken_still, woken_walked}
use Rattle.plain_waits.proofs.keeper.WaitList.serve.Goals as goal

pub loop-at-init : goal.loop-at-init
loop-at-init g c = record {
  inside = omega arith;
  waiting = refl;
  ready = refl;
  room = c.requires.room;
  same_room = refl;
  held = refl;
  loaded = c.requires.loaded;
  keys = narrows_none (g.K.Gpi.content c.args.kernel.now) (names_of c.args.self.now) (names_of c.args.self.now) (λ k h. c.requires.fits.keys.within k h) (within_self (names_of c.args.self.now));
}

pub serve_at-at-requires-clause-room : goal.serve_at-at-requires-clause-room
serve_at-at-requires-clause-room g c = room_here (waiting_in c.loop-at.self) c.loop-at.at (length c.loop-at.ready.entries) c.loop-at.ready.room (omega (arith, length-map c.loop-at.self.waiting.items waiting_of)) c.loop-at.invariant.room

pub serve_at-at-requires-clause-fits : goal.serve_at-at-requires-clause-fits
serve_at-at-requires-clause-fits g c = fits_on (g.K.Gpi.content c.args.kernel.now) (g.K.Gpi.content c.loop-at.kernel) (fired_keys c.args.fired) c.args.self.now.held.items (names_of c.args.self.now) c.args.self.now c.loop-at.self c.loop-at.invariant.held refl c.requires.fits c.loop-at.invariant.keys

pub loop-at-smaller : goal.loop-at-smaller
loop-at-smaller g c = walk_falls (waiting_in c.loop-at.self) (waiting_in c.serve_at-at.new.self) c.loop-at.at c.serve_at-at.result (left_after (fire c.args.cause) (take 1 (drop c.loop-at.at (waiting_in c.loop-at.self)))) c.serve_at-at.ensures.passes (omega (arith, length-map c.loop-at.self.waiting.items waiting_of))

pub loop-at-preserved : goal.loop-at-preserved
loop-at-preserved g c = record {
  inside = c.serve_at-at.ensures.passes.inside;
  waiting = walked (left_after (fire c.args.cause)) (each_left (fire c.args.cause)) (waiting_in c.loop-at.self) (waiting_in c.serve_at-at.new.self) (left_after (fire c.args.cause) (waiting_in c.args.self.now)) c.loop-at.at c.serve_at-at.result (left_after (fire c.args.cause) (take 1 (drop c.loop-at.at (waiting_in c.loop-at.self)))) c.serve_at-at.ensures.passes refl c.loop-at.invariant.waiting;
  ready = woken_walked (fire c.args.cause) (waiting_in c.loop-at.self) (waiting_in c.serve_at-at.new.self) (left_after (fire c.args.cause) (take 1 (drop c.loop-at.at (waiting_in c.loop-at.self)))) c.loop-at.at c.serve_at-at.result c.loop-at.ready.entries c.serve_at-at.new.ready.entries (c.args.ready.now.entries ++ woken_after (fire c.args.cause) (waiting_in c.args.self.now)) c.serve_at-at.ensures.passes c.serve_at-at.ensures.ready c.loop-at.invariant.ready;
  room = rw c.serve_at-at.ensures.room (room_walked (fire c.args.cause) (waiting_in c.loop-at.self) (waiting_in c.serve_at-at.new.self) (left_after (fire c.args.cause) (take 1 (drop c.loop-at.at (waiting_in c.loop-at.self)))) c.loop-at.at c.serve_at-at.result c.loop-at.ready.room c.loop-at.ready.entries c.serve_at-at.new.ready.entries c.serve_at-at.ensures.passes c.serve_at-at.ensures.ready c.loop-at.invariant.room);
  same_room = c.serve_at-at.ensures.room ∙ c.loop-at.invariant.same_room;
  held = c.serve_at-at.ensures.held ∙ c.loop-at.invariant.held;
  loaded = c.serve_at-at.ensures.loaded;
  keys = narrows_through (g.K.Gpi.content c.args.kernel.now) (g.K.Gpi.content c.loop-at.kernel) (g.K.Gpi.content c.serve_at-at.new.kernel) (names_of c.args.self.now) (names_of c.loop-at.self) (names_of c.serve_at-at.new.self) c.loop-at.invariant.keys c.serve_at-at.ensures.keys;
}

pub returns-clause-waiting : goal.returns-clause-waiting
returns-clause-waiting g c = walked_all (left_after (fire c.args.cause)) (each_left (fire c.args.cause)) (waiting_in c.loop-at.self) (left_after (fire c.args.cause) (waiting_in c.args.self.now)) c.loop-at.at (omega (arith, length-map c.loop-at.self.waiting.items waiting_of)) c.loop-at.invariant.waiting ∙ left_still c.args.cause (waiting_in c.args.self.now)

pub returns-clause-ready : goal.returns-clause-ready
returns-clause-ready g c = woken_all (fire c.args.cause) (waiting_in c.loop-at.self) c.loop-at.at c.loop-at.ready.entries (c.args.ready.now.entries ++ woken_after (fire c.args.cause) (waiting_in c.args.self.now)) (omega (arith, length-map c.loop-at.self.waiting.items waiting_of)) c.loop-at.invariant.ready
    ∙ ap (λ (es : List Entry). c.args.ready.now.entries ++ es) (woken_still c.args.cause (waiting_in c.args.self.now))
