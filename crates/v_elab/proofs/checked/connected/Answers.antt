-- The values of parameters, and the joints.
use Rattle.std.proofs.Common.{ap, subst, ◌∙◌}
use Rattle.v_syntax.specs.SourceTrees.{view_module}
use Rattle.v_flat.specs.Scope.Scope.{means}
use Rattle.v_header.specs.Names.{texts}
use Rattle.v_header.specs.Parameters.{parameters_in}
use Rattle.v_flat.specs.Headers.{open_parameters}
use Rattle.v_flat.specs.Design.{given_of}
use Rattle.v_header.specs.Given.Given.{FindsTheSame}
use Rattle.v_elab.specs.Enters.{connections_in}
use Rattle.v_elab.proofs.Checks.{both_found}
use Rattle.v_elab.proofs.checked.connected.Goals as goal

pub returns : goal.returns
returns c =
    both_found (means c.args.scope.now) c.args.inner.now (view_module c.args.module.now) c.args.ports.now c.args.driven.now c.in_ok-given.given c.in_ok-joints.joints c.joints.new.driven
    c.both.result
    (subst (λ ns. FindsTheSame (given_of (means c.args.scope.now) (connections_in c.args.inner.now.parameters) ns) c.in_ok-given.given)
    (ap texts c.deref-2.ensures.value ∙ c.in_ok-names.ensures ∙ ap open_parameters (ap parameters_in c.deref.ensures.value ∙ c.in_ok-declared.ensures)) c.in_ok-given.ensures)
    c.in_ok-joints.ensures.ok c.both.ensures
