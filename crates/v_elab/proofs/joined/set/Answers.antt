-- The name has the value, and each other what it had.
use Rattle.v_elab.proofs.Table.{put}
use Rattle.v_elab.proofs.joined.set.Goals as goal

pub returns : goal.returns
returns g c =
    put (λ k. k.items) c.args.name c.args.value c.args.table.now.entries c.insert.new.self.entries c.in_ok-insert.ensures.updates.1
    c.in_ok-insert.ensures.updates.3
