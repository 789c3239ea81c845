-- One assignment more.
use Rattle.std.proofs.Common.{ℕ, refl, subst}
use Rattle.v_elab.specs.PortsSteps.{AssignsPort}
use Rattle.v_elab.proofs.port.add_assignment.Goals as goal

pub returns : goal.returns
returns c = record {
  signals = refl;
  nodes = refl;
  processes = (
    c.in_ok-process.process,
    (subst (λ (n : ℕ). AssignsPort c.args.port c.args.joined n c.in_ok-process.process) c.len.ensures c.in_ok-process.ensures, c.in_ok-push.ensures.ok),
  );
}
