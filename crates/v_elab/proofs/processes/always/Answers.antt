-- The process that was found is added.
use Rattle.std.proofs.Common.{refl, ◌∙◌, subst}
use Rattle.std.proofs.lemmas.Result.{IfOk-weaker}
use Rattle.v_flat.specs.declared.scope.found.Found.{Found}
use Rattle.v_elab.specs.declared.state.State as code
use Rattle.v_elab.specs.ItemsSteps.{AddsFound, IsStep}
use Rattle.v_syntax.specs.StatementTrees.{view}
use Rattle.v_syntax.specs.SourceTrees.{view_control}
use Rattle.v_process.specs.Processes.{IsAlways}
use Rattle.v_flat.specs.Design.{always_item}
use Rattle.v_elab.proofs.Adding.{Amid}
use Rattle.v_elab.proofs.Made.{always_step}
use Rattle.v_elab.proofs.processes.always.Goals as goal

pub returns : goal.returns
returns c =
    let w : code.State = record { scope = c.always.new.scope; parts = c.args.state.parts; driven = c.args.state.driven; children = c.args.state.children } in
    let amid : Amid c.args.state w = record { scope = c.in_ok-found.ensures.scope ∙ c.in_ok-wakes.ensures.scope; parts = refl; children = refl } in
    IfOk-weaker c.with_found.result (AddsFound w c.in_ok-found.found) (IsStep (always_item c.args.timing (view_control c.args.control.now) (view c.args.statement.now)) c.args.state)
    (λ (g : Found code.State) added. always_step c.args.timing (view_control c.args.control.now) (view c.args.statement.now) c.signal_count-signals.result c.in_ok-wakes.wakes c.args.state w c.in_ok-found.found g c.requires c.in_ok-wakes.ensures.waits c.signal_count-signals.ensures (subst (λ s. IsAlways c.args.timing c.in_ok-wakes.wakes s (view c.args.statement.now) c.in_ok-found.found) c.in_ok-wakes.ensures.scope c.in_ok-found.ensures.found) amid refl added)
    c.with_found.ensures
