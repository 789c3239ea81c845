-- What is found in the name of a constant.
use Rattle.std.proofs.Common.{rules, ◌≡◌, ◌∙◌, sym, subst, length, Option, Some, arith}
use Rattle.gpi.specs.declared.terms.Term.TheVariants.{Const}
use Rattle.gpi.specs.Terms.{IsWidth}
use Rattle.v_flat.specs.declared.scope.meaning.Meaning.{Meaning}
use Rattle.v_flat.specs.declared.scope.meaning.Meaning.TheVariants.{Constant}
use Rattle.v_flat.specs.Scope.Scope.{means, width_of}
use Rattle.v_check.specs.Names.Proper.{IsProper}
use Rattle.v_check.specs.Names.Made.{IsName}
use Rattle.v_check.proofs.NamesLemmas.Names.{constant_vector, name_checked, vector_named}
use Rattle.v_check.proofs.names.name.named.Goals as goal

pub returns-in_ok-vector-in-Some-Constant : goal.returns-in_ok-vector-in-Some-Constant
returns-in_ok-vector-in-Some-Constant c = λ sel h.
    let s = means c.args.scope.now in
    let p = c.args.place in
    let ds = c.in-Some-Constant.value in
    let b = c.in-Some-Constant.bounds in
    let w = c.width-width.result in
    let f = c.in_ok-vector-in-Some-Constant.field-0 in
    let e : s c.args.name.now ≡ Some (Constant ds b) = search rules in
    let wide : length ds ≡ width_of b = subst (λ (x : Option Meaning). IsProper x) e (c.requires c.args.name.now) in
    let i : w ≡ width_of b = c.width-width.ensures.is ∙ wide in
    let proper : IsWidth (width_of b) = (let low = c.width-width.ensures.low in let high = c.width-width.ensures.high in (omega (arith, low, i), omega (arith, high, i))) in
    name_checked s p c.args.name.now sel f
    (subst (λ (x : Option Meaning). IsName s p sel x f) (sym e)
    (vector_named s p sel (Some (Constant ds b)) (Const ds) w b c.args.selects f i (constant_vector ds b proper) h c.in_ok-vector-in-Some-Constant.ensures))
