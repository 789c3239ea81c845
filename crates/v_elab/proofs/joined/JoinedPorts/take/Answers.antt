-- Another name is joined to what it was.
use Rattle.v_elab.proofs.Table.{others_stay}
use Rattle.v_elab.proofs.joined.JoinedPorts.take.Goals as goal

pub returns-clause-others : goal.returns-clause-others
returns-clause-others c = λ n e. others_stay (λ k. k.items) c.args.name.now n c.args.self.now.by_name.entries c.remove.new.self.entries c.remove.ensures.updates.3 e
