-- The opening value of a register.
use Rattle.std.proofs.Common.{◌≡◌, ℕ, List, [], Option, refl, ap, ◌∙◌, subst}
use Rattle.gpi.specs.declared.design.Kind.TheVariants.{Initial}
use Rattle.gpi.specs.declared.design.Wake.{Wake}
use Rattle.v_syntax.specs.declared.statement.AssignmentKind.TheVariants.{Blocking}
use Rattle.v_syntax.specs.ExpressionTrees.{view}
use Rattle.v_syntax.specs.StatementTrees.{Assignment}
use Rattle.v_flat.specs.Scope.Found.{each}
use Rattle.v_flat.specs.Scope.Scope.{find, means}
use Rattle.v_flat.specs.Checks.{checked}
use Rattle.v_flat.specs.Statements.{done}
use Rattle.v_flat.specs.Design.{whole_of}
use Rattle.v_process.specs.declared.target.checked.CheckedTarget.{CheckedTarget}
use Rattle.v_process.specs.Processes.{untimed}
use Rattle.v_process.specs.Made.{process, whole_target, OpensWith}
use Rattle.v_process.proofs.Run.{found_process}
use Rattle.v_process.proofs.Opened.{opened}
use Rattle.v_process.proofs.registers.register.Goals as goal

pub returns : goal.returns
returns c =
    let s = means c.args.scope.now in
    let i = c.args.name.now in
    let e = view c.args.value.now in
    let t : c.whole-target.result ≡ whole_target (find i.name s) = c.whole-target.ensures ∙ ap (λ (n : List ℕ). whole_target (find n s)) c.bytes.ensures in
    found_process untimed Initial [] s (Assignment Blocking (whole_of i) e) (done (checked s e)) c.in_ok-body.body c.of_kind.result
    (c.of_kind.ensures ∙ ap (λ (ws : List Wake). each (process Initial ws) c.in_ok-body.body) c.new.ensures)
    (opened s i e (find i.name s) refl (c.requires i.name) c.in_ok-value.value c.in_ok-body.body
    (subst (λ (x : Option CheckedTarget). OpensWith x c.in_ok-value.value c.in_ok-body.body) t c.in_ok-body.ensures) c.in_ok-value.ensures)
