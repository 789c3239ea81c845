use Rattle.std.proofs.Common.{arith}
use Rattle.trigger_table.proofs.RingLemmas.{last_below, key_in_linked, key_in_here, key_in_past}
use Rattle.trigger_table.proofs.rings.Rings.push_back.Goals as goal

pub index_mut-requires : goal.index_mut-requires
index_mut-requires c =
    omega (arith, last_below c.args.self.now.next.items c.args.self.now.prev.items c.args.self.now.owners.items c.args.self.now.linked c.args.list c.args.key _ c.requires.unlinked c.requires.list_in c.requires.key_in c.index-last.ensures, c.args.self.now.next.ok)

pub invariant_of-self : goal.invariant_of-self
invariant_of-self c = record {
  linked = key_in_linked c.args.self.now.next.items c.args.self.now.prev.items c.args.self.now.owners.items c.args.self.now.linked c.args.list c.args.key _ c.requires.unlinked c.requires.list_in c.requires.key_in c.index-last.ensures;
}

pub returns-clause-last : goal.returns-clause-last
returns-clause-last c =
    key_in_here c.args.self.now.next.items c.args.self.now.prev.items c.args.self.now.owners.items c.args.self.now.linked c.args.list c.args.key _ c.requires.unlinked c.requires.list_in c.requires.key_in c.index-last.ensures

pub returns-clause-others : goal.returns-clause-others
returns-clause-others c =
    key_in_past c.args.self.now.next.items c.args.self.now.prev.items c.args.self.now.owners.items c.args.self.now.linked c.args.list c.args.key _ c.requires.unlinked c.requires.list_in c.requires.key_in c.index-last.ensures
