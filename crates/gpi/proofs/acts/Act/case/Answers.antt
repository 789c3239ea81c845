use Rattle.std.proofs.Common.{subst}
use Rattle.gpi.specs.declared.acts.Act.{Act}
use Rattle.gpi.specs.Activation.{MakesCase}
use Rattle.gpi.proofs.acts.Act.case.Goals as goal

pub returns : goal.returns
returns c =
    subst (λ (a : Act). MakesCase c.args.kind c.args.value c.args.labels c.args.items a c.case_of.result) c.in_ok-other.ensures c.case_of.ensures
