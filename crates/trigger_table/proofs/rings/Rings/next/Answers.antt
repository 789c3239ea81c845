use Rattle.std.proofs.Common.{◌∙◌}
use Rattle.trigger_table.proofs.RingLemmas.{behind_is, next_member}
use Rattle.trigger_table.proofs.rings.Rings.next.Goals as goal

pub returns-clause-value : goal.returns-clause-value
returns-clause-value c =
    c.key_at.ensures
    ∙ behind_is c.args.self.now.next.items c.args.self.now.prev.items c.args.self.now.owners.items c.args.self.now.linked c.args.list c.args.key c.index.result.now c.requires c.index.ensures

pub returns-clause-member : goal.returns-clause-member
returns-clause-member c =
    next_member c.args.self.now.next.items c.args.self.now.prev.items c.args.self.now.owners.items c.args.self.now.linked c.args.list c.args.key c.key_at.result
    (c.key_at.ensures
    ∙ behind_is c.args.self.now.next.items c.args.self.now.prev.items c.args.self.now.owners.items c.args.self.now.linked c.args.list c.args.key c.index.result.now c.requires c.index.ensures)
