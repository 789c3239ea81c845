-- The joint that is added.
use Rattle.std.proofs.Common.{refl, sym, subst}
use Rattle.v_flat.specs.declared.scope.found.Found.{Found}
use Rattle.v_flat.specs.declared.scope.found.Found.TheVariants.{Sound}
use Rattle.v_elab.specs.declared.connect.joint.Joined.{Joined}
use Rattle.v_elab.specs.declared.connect.joint.Joint as code
use Rattle.v_elab.specs.Connect.Found.{IsAdded}
use Rattle.v_elab.proofs.connect.connection.add.Goals as goal

pub returns-in_ok-push-in-Sound : goal.returns-in_ok-push-in-Sound
returns-in_ok-push-in-Sound c =
    let made : code.Joint = record { port = c.args.port; joined = c.in-Sound.joined } in
    subst (λ (f : Found Joined). IsAdded c.args.port.items f c.args.joints.now.items (Sound tt) c.push.new.self.items) (sym c.in-Sound.is)
    (made, (c.in_ok-push-in-Sound.ensures.items, (refl, refl)))
