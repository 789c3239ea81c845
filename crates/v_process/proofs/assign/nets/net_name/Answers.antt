-- What is found in a name that is assigned to continuously, by what it means.
use Rattle.std.proofs.Common.{rules, ◌≡◌, ◌∙◌, ℕ, List, subst, Some}
use Rattle.v_syntax.specs.ExpressionTrees.{view_selects}
use Rattle.v_flat.specs.declared.scope.meaning.Meaning.TheVariants as meant
use Rattle.v_flat.specs.Scope.Scope.{means, find}
use Rattle.v_flat.specs.declared.manner.Manner.TheVariants.{Continuous}
use Rattle.v_process.specs.Target.Targets.{IsNamedTarget}
use Rattle.v_process.proofs.AssignLemmas.Names.{fixed_found, input_answer, net_result, placed}
use Rattle.v_process.proofs.assign.nets.net_name.Goals as goal

pub net-requires : goal.net-requires
net-requires c =
    let s = means c.args.scope.now in
    let sel = view_selects c.args.operand.now.selects in
    let p = c.args.operand.now.at in
    fixed_found s p sel (find c.bytes-name.result.now s) c.named-found.result (c.named-found.ensures sel c.in_ok-selects.ensures)

pub returns-in-Input-clause-ok : goal.returns-in-Input-clause-ok
returns-in-Input-clause-ok c =
    let s = means c.args.scope.now in
    let sel = view_selects c.args.operand.now.selects in
    let p = c.args.operand.now.at in
    let n = c.args.operand.now.name in
    let o = c.in-Some-Object.object in
    let g = c.named-found.result in
    let same : c.bytes-name.result.now ≡ n = search rules in
    let found : find c.bytes-name.result.now s ≡ Some (meant.Object o) = search rules in
    let h : IsNamedTarget Continuous s p sel (find c.bytes-name.result.now s) g = c.named-found.ensures sel c.in_ok-selects.ensures in
    input_answer s c.args.place p c.unwrap_or-at.result n sel o g c.needs.result c.args.driven.now
    (c.unwrap_or-at.ensures ∙ placed c.args.place p)
    (subst (λ (m : List ℕ). find m s ≡ Some (meant.Object o)) same found) c.in-Input.is
    (subst (λ (m : List ℕ). IsNamedTarget Continuous s p sel (find m s) g) same h) c.needs.ensures

pub returns-in-Net-clause-ok : goal.returns-in-Net-clause-ok
returns-in-Net-clause-ok c =
    let s = means c.args.scope.now in
    let sel = view_selects c.args.operand.now.selects in
    let p = c.args.operand.now.at in
    let n = c.args.operand.now.name in
    let o = c.in-Some-Object.object in
    let g = c.named-found.result in
    let same : c.bytes-name.result.now ≡ n = search rules in
    let found : find c.bytes-name.result.now s ≡ Some (meant.Object o) = search rules in
    let h : IsNamedTarget Continuous s p sel (find c.bytes-name.result.now s) g = c.named-found.ensures sel c.in_ok-selects.ensures in
    net_result s c.args.place p c.unwrap_or-at.result n sel o g c.net.result c.args.driven.now c.net.new.driven
    (c.unwrap_or-at.ensures ∙ placed c.args.place p)
    (subst (λ (m : List ℕ). find m s ≡ Some (meant.Object o)) same found) c.in-Net.is
    (subst (λ (m : List ℕ). IsNamedTarget Continuous s p sel (find m s) g) same h) c.net.ensures.ok
