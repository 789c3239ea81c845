-- What is so of the register that is found.
use Rattle.std.proofs.Common.{◌≡◌, Some, ap, ◌∙◌}
use Rattle.v_flat.specs.declared.scope.found.Found.{Found}
use Rattle.v_flat.specs.declared.scope.meaning.DataObject.{DataObject}
use Rattle.v_flat.specs.declared.scope.meaning.Meaning.TheVariants.{Object}
use Rattle.v_flat.specs.Scope.Found.{ended}
use Rattle.v_flat.specs.Scope.Scope.{find, means}
use Rattle.v_process.proofs.Ended.{plain_result, value_result}
use Rattle.v_process.proofs.header.register.Goals as goal

pub returns-clause-object : goal.returns-clause-object
returns-clause-object c =
    value_result (λ (o : DataObject). find c.args.name.now.name (means c.args.scope.now) ≡ Some (Object o)) c.counter.result c.ended.result c.ended.ensures
    c.counter.ensures.object

pub returns-clause-plain : goal.returns-clause-plain
returns-clause-plain c =
    plain_result c.args.name.now.at (find c.args.name.now.name (means c.args.scope.now)) c.ended.result
    (c.ended.ensures ∙ ap (λ (x : Found DataObject). ended x) c.counter.ensures.is)
