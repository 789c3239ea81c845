use Rattle.v_layout.proofs.Scopes.{scopes_are_proper}
use Rattle.v_layout.proofs.laws.scopes_are_proper.Goals as goal

pub returns : goal.returns
returns c = scopes_are_proper
