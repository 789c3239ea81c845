-- The value that is given, or the parameter's own.
use Rattle.std.proofs.Common.{rules, ◌≡◌}
use Rattle.v_flat.specs.Scope.Scope.{means}
use Rattle.v_syntax.specs.ExpressionTrees.{view}
use Rattle.v_flat.specs.Checks.{constant_of}
use Rattle.v_header.proofs.ParameterLemmas.Alike.{given_there, given_not}
use Rattle.v_header.proofs.parameter.one.value.Goals as goal

pub returns-in-Some : goal.returns-in-Some
returns-in-Some c =
    let same : c.bytes.result.now ≡ c.args.parameter.now.name.now.name = search rules in
    given_there c.args.parameter.now.name.now.name c.bytes.result.now c.args.given.now (constant_of (means c.args.scope.now) (view c.args.parameter.now.value.now)) c.in-Some.value
    same c.in-Some.ensures

pub returns-in_ok-constant-in-None : goal.returns-in_ok-constant-in-None
returns-in_ok-constant-in-None c =
    let same : c.bytes.result.now ≡ c.args.parameter.now.name.now.name = search rules in
    given_not c.args.parameter.now.name.now.name c.bytes.result.now c.args.given.now (constant_of (means c.args.scope.now) (view c.args.parameter.now.value.now))
    c.in_ok-constant-in-None.field-0 same c.in-None.ensures c.in_ok-constant-in-None.ensures
