use Rattle.std.proofs.Common.{sym, arith}
use Rattle.trigger_table.proofs.RingLemmas.{before_below, after_below, key_out, nobody_goes}
use Rattle.trigger_table.proofs.rings.Rings.unlink.Goals as goal

pub returns-in_err-list-clause-lists : goal.returns-in_err-list-clause-lists
returns-in_err-list-clause-lists c =
    nobody_goes c.args.self.now.next.items c.args.self.now.prev.items c.args.self.now.owners.items c.args.self.now.linked c.args.key (sym c.in_err-list.ensures)

pub index_mut-requires : goal.index_mut-requires
index_mut-requires c =
    omega (arith, before_below c.args.self.now.next.items c.args.self.now.prev.items c.args.self.now.owners.items c.args.self.now.linked c.args.key c.in_ok-list.list _ _ (sym c.in_ok-list.ensures) c.index-before.ensures c.index-after.ensures, c.args.self.now.next.ok)

pub index_mut-requires-3 : goal.index_mut-requires-3
index_mut-requires-3 c =
    omega (arith, after_below c.args.self.now.next.items c.args.self.now.prev.items c.args.self.now.owners.items c.args.self.now.linked c.args.key c.in_ok-list.list _ _ (sym c.in_ok-list.ensures) c.index-before.ensures c.index-after.ensures, c.args.self.now.prev.ok)

pub invariant_of-self : goal.invariant_of-self
invariant_of-self c = record {
  linked = (key_out c.args.self.now.next.items c.args.self.now.prev.items c.args.self.now.owners.items c.args.self.now.linked c.args.key c.in_ok-list.list _ _ (sym c.in_ok-list.ensures) c.index-before.ensures c.index-after.ensures).linked;
}

pub returns-clause-lists : goal.returns-clause-lists
returns-clause-lists c =
    (key_out c.args.self.now.next.items c.args.self.now.prev.items c.args.self.now.owners.items c.args.self.now.linked c.args.key c.in_ok-list.list _ _ (sym c.in_ok-list.ensures) c.index-before.ensures c.index-after.ensures).keys
