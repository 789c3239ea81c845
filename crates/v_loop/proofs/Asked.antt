-- A step in which a rule is broken.
use Rattle.std.proofs.Common.{◌≡◌, ℕ, Err, sym, ap, ◌∙◌}
use Rattle.v_syntax.specs.ExpressionTrees.{Tree, first_at}
use Rattle.v_flat.specs.declared.scope.rule.Broken.{Broken}
use Rattle.v_flat.specs.declared.scope.rule.ElabRule.TheVariants as rule
use Rattle.v_flat.specs.declared.scope.found.Found.{Found}
use Rattle.v_flat.specs.declared.scope.found.Found.TheVariants.{Sound, Noted, Lost}
use Rattle.v_flat.specs.Scope.Found.{each, ended, needs, settled}
use Rattle.v_flat.specs.Scope.Scope.{Scope}
use Rattle.v_flat.specs.Scope.Limits.{counted_width}
use Rattle.v_flat.proofs.ScopeLemmas.Gathered.{each_needs}
use Rattle.v_flat.specs.Checks.{checked, made}
use Rattle.v_flat.specs.Statements.{done, step_checked}
use Rattle.v_check.specs.declared.constants.checked.Checked.{Checked}
use Rattle.v_check.specs.Constants.Checked.{IsChecked}
use Rattle.v_check.proofs.ConstantsLemmas.Values.{asked, lost_is, noted_is}

same_rule : (f : Found Checked) (x : Found ℕ) (b : Broken) → each (λ (c : Checked). c.width) f ≡ each counted_width x → ended f ≡ Err b → settled x ≡ Lost b
same_rule (Sound a) x b h q = absurd (cc)
same_rule (Noted d a) x b h q = let e : d ≡ b = cc in noted_is d a.width x h ∙ ap (λ (z : Broken). (let r : Found ℕ = Lost z in r)) e
same_rule (Lost d) x b h q = let e : d ≡ b = cc in lost_is d x h ∙ ap (λ (z : Broken). (let r : Found ℕ = Lost z in r)) e

pub step_lost : (s : Scope) (e : Tree) (f : Found Checked) (b : Broken) → IsChecked s e f → ended (asked s e f) ≡ Err b → ended (step_checked s e) ≡ Err b
step_lost s e f b h q =
    let finds = each_needs (λ (c : Checked). c.width) (made s e) rule.NotConstant (first_at e) f
    ∙ ap (λ (z : Found ℕ). needs (made s e) rule.NotConstant (first_at e) z) h.finds
    ∙ sym (each_needs counted_width (made s e) rule.NotConstant (first_at e) (checked s e)) in
    ap (λ (x : Found ℕ). ended (done x)) (same_rule (asked s e f) (needs (made s e) rule.NotConstant (first_at e) (checked s e)) b finds q)
