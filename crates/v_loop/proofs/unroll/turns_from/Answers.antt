-- One more turn, and the ends of a loop.
use Rattle.std.proofs.Common.{rules, ◌≡◌, ℕ, ◌-◌, ◌+◌, ◌<◌, ◌≤◌, List, Option, Result, Ok, sym, ap, ◌∙◌, subst}
use Rattle.four_value.specs.declared.Digit.{Digit}
use Rattle.v_flat.specs.declared.scope.rule.Broken.{Broken}
use Rattle.v_flat.specs.Scope.Found.{each}
use Rattle.v_flat.specs.Scope.Scope.{Scope, means, width_of}
use Rattle.v_syntax.specs.ExpressionTrees.{view}
use Rattle.v_flat.specs.Statements.{turn, turns_from}
use Rattle.v_loop.specs.Steps.{condition_of, next_value}
use Rattle.v_loop.proofs.Turning.{after, on_broken, on_end, on_last_broken, on_more}
use Rattle.v_loop.proofs.unroll.turns_from.Goals as goal

pub returns-in-Ok-None-clause-value : goal.returns-in-Ok-None-clause-value
returns-in-Ok-None-clause-value c =
    let p = c.args.place in
    let n = c.args.header.now.initial.name.name in
    let o = c.args.object in
    let e = view c.args.header.now.condition in
    let d = view c.args.header.now.step.value in
    let s = means c.args.scope.now in
    let v = c.loop-turn.value in
    let within : c.loop-turn._turn < c.args.most = search rules in
    let same = ap (λ (t : Scope). next_value (width_of o.bounds) e d (turn n o v t)) c.loop-turn.invariant.1 in
    on_end p n o e d s (turns_from c.args.most p n o e d s c.args.first) c.loop-turn.values.items v c.args.most c.loop-turn._turn within c.loop-turn.invariant.0
    (sym (c.in_ok-next.ensures.value ∙ same) ∙ c.in-Ok-None.is
    ∙ ap (λ (x : Option (List Digit)). (let r : Result (Option (List Digit)) Broken = Ok x in r)) c.in-Ok-None.field-0-is)

pub returns-in-Err-clause-value : goal.returns-in-Err-clause-value
returns-in-Err-clause-value c =
    let p = c.args.place in
    let n = c.args.header.now.initial.name.name in
    let o = c.args.object in
    let e = view c.args.header.now.condition in
    let d = view c.args.header.now.step.value in
    let s = means c.args.scope.now in
    let v = c.loop-turn.value in
    let within : c.loop-turn._turn < c.args.most = search rules in
    let same = ap (λ (t : Scope). next_value (width_of o.bounds) e d (turn n o v t)) c.loop-turn.invariant.1 in
    on_broken p n o e d s (turns_from c.args.most p n o e d s c.args.first) c.loop-turn.values.items v c.args.most c.loop-turn._turn c.in-Err.fault within c.loop-turn.invariant.0
    (sym (c.in_ok-next.ensures.value ∙ same) ∙ c.in-Err.is)

pub loop-turn-preserved : goal.loop-turn-preserved
loop-turn-preserved c =
    let p = c.args.place in
    let n = c.args.header.now.initial.name.name in
    let o = c.args.object in
    let e = view c.args.header.now.condition in
    let d = view c.args.header.now.step.value in
    let s = means c.args.scope.now in
    let v = c.loop-turn.value in
    let r = turns_from c.args.most p n o e d s c.args.first in
    let next = c.in-Ok-Some.next in
    let within : c.loop-turn._turn < c.args.most = search rules in
    let same = ap (λ (t : Scope). next_value (width_of o.bounds) e d (turn n o v t)) c.loop-turn.invariant.1 in (
      subst (λ (vs : List (List Digit)). each (after vs) (turns_from (c.args.most - (c.loop-turn._turn + 1)) p n o e d s next) ≡ r) (sym c.in_ok-push-in-Ok-Some.ensures.items)
          (on_more p n o e d s r c.loop-turn.values.items v c.args.most c.loop-turn._turn next within c.loop-turn.invariant.0
          (sym (c.in_ok-next.ensures.value ∙ same) ∙ c.in-Ok-Some.is
          ∙ ap (λ (x : Option (List Digit)). (let q : Result (Option (List Digit)) Broken = Ok x in q)) c.in-Ok-Some.field-0-is)),
      c.in_ok-next.ensures.scope ∙ c.loop-turn.invariant.1,
      search rules,
    )

pub returns-in-Err-2-clause-value : goal.returns-in-Err-2-clause-value
returns-in-Err-2-clause-value c =
    let p = c.args.place in
    let n = c.args.header.now.initial.name.name in
    let o = c.args.object in
    let e = view c.args.header.now.condition in
    let d = view c.args.header.now.step.value in
    let s = means c.args.scope.now in
    let v = c.loop-turn.value in
    let all : c.args.most ≤ c.loop-turn._turn = search rules in
    let same = ap (λ (m : List ℕ). condition_of (turn m o v (means c.loop-turn.scope)) e) c.bytes-name.ensures
    ∙ ap (λ (t : Scope). condition_of (turn n o v t) e) c.loop-turn.invariant.1 in
    on_last_broken p n o e d s (turns_from c.args.most p n o e d s c.args.first) c.loop-turn.values.items v c.args.most c.loop-turn._turn c.in-Err-2.fault all c.loop-turn.invariant.0
    (sym (c.in_ok-holds_in_turn.ensures.value ∙ same) ∙ c.in-Err-2.is)
