-- The process that was found is added.
use Rattle.std.proofs.Common.{refl}
use Rattle.std.proofs.lemmas.Result.{IfOk-weaker}
use Rattle.v_flat.specs.declared.scope.found.Found.{Found}
use Rattle.v_elab.specs.declared.state.State as code
use Rattle.v_elab.specs.ItemsSteps.{AddsFound, IsStep}
use Rattle.v_syntax.specs.ExpressionTrees.{view, view_target}
use Rattle.v_syntax.specs.SourceTrees.{Driver}
use Rattle.v_flat.specs.Design.{driver}
use Rattle.v_elab.proofs.Adding.{Amid}
use Rattle.v_elab.proofs.Made.{driver_step}
use Rattle.v_elab.proofs.processes.driver.Goals as goal

pub returns : goal.returns
returns c =
    let w : code.State = record { scope = c.args.state.scope; parts = c.args.state.parts; driven = c.continuous.new.driven; children = c.args.state.children } in
    let amid : Amid c.args.state w = record { scope = refl; parts = refl; children = refl } in
    IfOk-weaker c.with_found.result (AddsFound w c.in_ok-found.found) (IsStep (driver (Driver (view_target c.args.target.now) (view c.args.value.now))) c.args.state)
    (λ (g : Found code.State) added. driver_step (view_target c.args.target.now) (view c.args.value.now) c.signal_count-signals.result c.in_ok-wakes.wakes c.args.state w c.in_ok-found.found g c.requires c.in_ok-wakes.ensures c.signal_count-signals.ensures c.in_ok-found.ensures.ok amid added)
    c.with_found.ensures
