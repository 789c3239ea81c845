-- A value before those behind it.
use Rattle.std.proofs.Common.{rules, ◌≡◌, ℕ, ◌+◌, ◌-◌, ◌≤◌, ◌<◌, length, subst, arith}
use Rattle.std.proofs.lemmas.List.{drop_more}
use Rattle.v_flat.specs.Scope.Scope.{means}
use Rattle.v_header.specs.Given.Given.{FindsTheSame}
use Rattle.v_header.proofs.GivenLemmas.Orders.{here, ordered_behind, ordered_next, ordered_end}
use Rattle.v_header.proofs.given.ordered.ordered.Goals as goal

pub loop-at-init : goal.loop-at-init
loop-at-init c = ordered_end (means c.args.scope.now) c.args.values.now c.args.names.now c.min-at.result c.in_ok-found.found c.min-at.ensures c.in_ok-found.ensures

pub loop-at-preserved : goal.loop-at-preserved
loop-at-preserved c =
    let s = means c.args.scope.now in
    let es = c.args.values.now in
    let ns = c.args.names.now in
    let i = c.loop-at.at in
    let some : 1 ≤ i = search rules in
    let inside : i ≤ c.min-at.result = search rules in
    let fewer = c.min-at.ensures in
    let next : i ≡ i - 1 + 1 = omega (arith, some) in
    let lt : i - 1 < length es = omega (arith, some, inside, fewer) in
    let few : i - 1 < length ns = omega (arith, some, inside, fewer) in
    ordered_next s es ns (i - 1) c.index-values-at.result _ c.in_ok-value.value c.loop-at.found c.in_ok-found-2.found
    (here es (i - 1) c.index-values-at.result lt c.index-values-at.is) (drop_more ns (i - 1) _ few) c.in_ok-value.ensures
    (subst (λ (n : ℕ). FindsTheSame (ordered_behind s es ns n) c.loop-at.found) next c.loop-at.invariant) c.in_ok-found-2.ensures
