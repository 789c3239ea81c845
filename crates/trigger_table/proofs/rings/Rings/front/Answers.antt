use Rattle.std.proofs.Common.{slice_get, sym, ap, ◌∙◌, arith}
use Rattle.trigger_table.proofs.RingLemmas.{front_is, none_beyond, first_member}
use Rattle.trigger_table.proofs.rings.Rings.front.Goals as goal

pub returns-then-list-len-clause-value : goal.returns-then-list-len-clause-value
returns-then-list-len-clause-value c =
    ap (λ ks. slice_get ks 0) (sym (none_beyond c.args.self.now.next.items c.args.self.now.prev.items c.args.self.now.owners.items c.args.self.now.linked c.args.list (omega arith)))

pub returns-clause-value : goal.returns-clause-value
returns-clause-value c =
    c.key_at.ensures
    ∙ front_is c.args.self.now.next.items c.args.self.now.prev.items c.args.self.now.owners.items c.args.self.now.linked c.args.list c.index.result.now (omega arith) c.index.ensures

pub returns-clause-member : goal.returns-clause-member
returns-clause-member c =
    first_member c.args.self.now.next.items c.args.self.now.prev.items c.args.self.now.owners.items c.args.self.now.linked c.args.list c.key_at.result
    (c.key_at.ensures
    ∙ front_is c.args.self.now.next.items c.args.self.now.prev.items c.args.self.now.owners.items c.args.self.now.linked c.args.list c.index.result.now (omega arith) c.index.ensures)
