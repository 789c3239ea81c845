-- One parameter more, the rule that is broken in one, and the end.
use Rattle.std.proofs.Common.{rules, ◌≡◌, length, ◌≤◌, arith}
use Rattle.v_flat.specs.Scope.Scope.{means}
use Rattle.v_header.specs.declared.parameter.constants.Constants.{Constants}
use Rattle.v_header.proofs.ParameterLemmas.Known.{broken_at, grown_at, have_values}
use Rattle.v_header.proofs.parameter.parameter_list.parameters.Goals as goal

pub returns-in-Err : goal.returns-in-Err
returns-in-Err c =
    let k : Constants = record { list = c.loop-parameter.list; scope = c.loop-parameter.scope } in
    broken_at (means c.args.others) c.args.declared.now c.loop-parameter.parameter-index c.parameter-item.result c.args.given.now k c.in_ok-value.field-0 c.in-Err.fault _
    c.requires.none c.loop-parameter.invariant.known c.loop-parameter-test.true c.parameter-item.is c.in_ok-value.ensures c.in-Err.is c.loop-parameter.invariant.rest

pub loop-parameter-preserved : goal.loop-parameter-preserved
loop-parameter-preserved c =
    let k : Constants = record { list = c.loop-parameter.list; scope = c.loop-parameter.scope } in
    let new : Constants = record { list = c.push.new.self; scope = c.declare.new.self } in
    let same : c.bytes-name.result.now ≡ c.parameter-item.result.name.now.name = search rules in
    let g = grown_at (means c.args.others) c.args.declared.now c.loop-parameter.parameter-index c.parameter-item.result c.args.given.now k new c.in_ok-constant-in-Ok.field-0 c.in-Ok.value
    c.in_ok-value.field-0 c.bytes-name.result.now c.meaning.result _
    c.requires.none c.loop-parameter.invariant.known c.loop-parameter-test.true c.parameter-item.is c.in_ok-value.ensures c.in-Ok.is
    same c.meaning.ensures c.in_ok-constant-in-Ok.ensures c.in_ok-push-in-Ok.ensures.items c.in_ok-declare-in-Ok.ensures.ok c.loop-parameter.invariant.rest in
    record { rest = g.rest; known = g.known }

pub returns : goal.returns
returns c =
    let k : Constants = record { list = c.loop-parameter.list; scope = c.loop-parameter.scope } in
    let done : length c.args.declared.now ≤ c.loop-parameter.parameter-index = omega arith in
    have_values (means c.args.others) c.args.declared.now c.loop-parameter.parameter-index c.args.given.now k _ c.requires.none c.loop-parameter.invariant.known done c.loop-parameter.invariant.rest
