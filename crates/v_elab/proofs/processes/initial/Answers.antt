-- The process that was found is added.
use Rattle.std.proofs.Common.{refl}
use Rattle.std.proofs.lemmas.Result.{IfOk-weaker}
use Rattle.v_flat.specs.declared.scope.found.Found.{Found}
use Rattle.v_elab.specs.declared.state.State as code
use Rattle.v_elab.specs.ItemsSteps.{AddsFound, IsStep}
use Rattle.v_syntax.specs.StatementTrees.{view}
use Rattle.v_flat.specs.Design.{initial_item}
use Rattle.v_elab.proofs.Adding.{Amid}
use Rattle.v_elab.proofs.Made.{initial_step}
use Rattle.v_elab.proofs.processes.initial.Goals as goal

pub returns : goal.returns
returns c =
    let w : code.State = record { scope = c.initial.new.scope; parts = c.args.state.parts; driven = c.args.state.driven; children = c.args.state.children } in
    let amid : Amid c.args.state w = record { scope = c.in_ok-found.ensures.scope; parts = refl; children = refl } in
    IfOk-weaker c.with_found.result (AddsFound w c.in_ok-found.found) (IsStep (initial_item c.args.timing (view c.args.statement.now)) c.args.state)
    (λ (g : Found code.State) added. initial_step c.args.timing (view c.args.statement.now) c.args.state w c.in_ok-found.found g c.requires c.in_ok-found.ensures.found amid refl added)
    c.with_found.ensures
