-- A default before items.
use Rattle.std.proofs.Common.{subst}
use Rattle.gpi.specs.declared.acts.Act.{Act}
use Rattle.v_flat.specs.declared.scope.found.Found.{Found}
use Rattle.v_process.specs.declared.act.cases.CaseParts.{CaseParts}
use Rattle.v_process.specs.Act.MadeCases.{AreMoreDefaults}
use Rattle.v_process.proofs.ActLemmas.CaseItems.{defaults_are}
use Rattle.v_process.proofs.act.cases.CaseParts.default.Goals as goal

pub returns : goal.returns
returns c =
    defaults_are c.args.statement c.args.rest c.more_defaults.result
    (subst (λ (x : Found (Act × CaseParts)). AreMoreDefaults x c.more_defaults.result) c.both.ensures c.more_defaults.ensures)
