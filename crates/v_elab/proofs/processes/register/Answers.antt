-- The process that was found is added.
use Rattle.std.proofs.Common.{refl, Some}
use Rattle.std.proofs.lemmas.Result.{IfOk-weaker}
use Rattle.v_flat.specs.declared.scope.found.Found.{Found}
use Rattle.v_elab.specs.declared.state.State as code
use Rattle.v_elab.specs.ItemsSteps.{AddsFound, IsStep}
use Rattle.v_syntax.specs.ExpressionTrees.{view}
use Rattle.v_syntax.specs.SourceTrees.{Register, Initially}
use Rattle.v_flat.specs.Design.{register}
use Rattle.v_elab.proofs.Adding.{Amid}
use Rattle.v_elab.proofs.Made.{register_step}
use Rattle.v_elab.proofs.processes.register.Goals as goal

pub returns : goal.returns
returns c =
    let w : code.State = record { scope = c.args.state.scope; parts = c.args.state.parts; driven = c.args.state.driven; children = c.args.state.children } in
    let amid : Amid c.args.state w = record { scope = refl; parts = refl; children = refl } in
    IfOk-weaker c.with_found.result (AddsFound w c.in_ok-found.found) (IsStep (register (Register c.args.name.now (Some (Initially (view c.args.value.now))))) c.args.state)
    (λ (g : Found code.State) added. register_step c.args.name.now (view c.args.value.now) c.args.state w c.in_ok-found.found g c.requires c.in_ok-found.ensures amid refl added)
    c.with_found.ensures
