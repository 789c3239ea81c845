use Rattle.std.proofs.Common.{List, refl, sym, ap, ◌∙◌, subst, arith}
use Rattle.std.specs.Prelude.{map}
use Rattle.std.proofs.lemmas.List.{length-map}
use Rattle.await_tree.specs.Whole.{tree_in}
use Rattle.await_tree.specs.declared.cause.Awaited.{Awaited}
use Rattle.await_tree.specs.WaitList.Keys.{AreAsked}
use Rattle.await_tree.specs.WaitList.Waiting.{Waiting, keys_among}
use Rattle.plain_waits.specs.Kept.{waiting_in, waiting_of}
use Rattle.plain_waits.proofs.Calls.{begun_few, begun_list, held_items}
use Rattle.await_tree.proofs.WaitListLemmas.Served.{begun_rekeyed}
use Rattle.plain_waits.proofs.awaits.WaitListAwaits.begin.Goals as goal

pub prepare-requires-clause-keys : goal.prepare-requires-clause-keys
prepare-requires-clause-keys g c = c.requires.keys

pub prepare-requires-clause-asked : goal.prepare-requires-clause-asked
prepare-requires-clause-asked g c = subst (λ (xs : List Awaited). AreAsked (g.K.Gpi.content c.args.kernel.now) (keys_among xs)) (sym (c.as_slice.ensures.is ∙ c.leaves-leaves.ensures)) c.requires.asked

pub invariant_of-self : goal.invariant_of-self
invariant_of-self g c = record { few = begun_few c.args.self.now.waiting.items c.prepare.new.self.waiting.items c.push_reserved.new.self.items c.new.result 65536 c.push_reserved.ensures.items c.in-Ok.ensures.waiting (omega (arith, c.requires.few, length-map c.args.self.now.waiting.items waiting_of)) }

pub returns-in-Ok-clause-ok : goal.returns-in-Ok-clause-ok
returns-in-Ok-clause-ok g c = begun_list c.args.self.now.waiting.items c.prepare.new.self.waiting.items c.push_reserved.new.self.items c.new.result c.args.task c.args.tree c.push_reserved.ensures.items c.in-Ok.ensures.waiting c.new.ensures.task c.new.ensures.tree

pub returns-in-Ok-clause-held : goal.returns-in-Ok-clause-held
returns-in-Ok-clause-held g c = rw c.in-Ok.ensures.held (λ k. refl)

pub returns-in-Ok-clause-keys : goal.returns-in-Ok-clause-keys
returns-in-Ok-clause-keys g c = begun_rekeyed (g.K.Gpi.content c.args.kernel.now) (g.K.Gpi.content c.prepare.new.kernel) c.as_slice.result.now (waiting_in c.args.self.now) (map waiting_of c.push_reserved.new.self.items) (let w : Waiting = record { task = c.args.task; tree = tree_in c.args.tree } in w)
    c.args.self.now.held.items c.prepare.new.self.held.items (c.as_slice.ensures.is ∙ c.leaves-leaves.ensures)
    (begun_list c.args.self.now.waiting.items c.prepare.new.self.waiting.items c.push_reserved.new.self.items c.new.result c.args.task c.args.tree c.push_reserved.ensures.items c.in-Ok.ensures.waiting c.new.ensures.task c.new.ensures.tree)
    (held_items c.prepare.new.self c.args.self.now c.in-Ok.ensures.held) c.in-Ok.ensures.ok

pub returns-in-Err-clause-err : goal.returns-in-Err-clause-err
returns-in-Err-clause-err g c = ap (map waiting_of) c.in-Err.ensures.waiting

pub returns-in-Err-clause-held : goal.returns-in-Err-clause-held
returns-in-Err-clause-held g c = rw c.in-Err.ensures.held (λ k. refl)

pub returns-in-Err-clause-kept : goal.returns-in-Err-clause-kept
returns-in-Err-clause-kept g c = c.in-Err.ensures.err
