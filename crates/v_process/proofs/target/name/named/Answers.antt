-- What is found in a name, by what it means.
use Rattle.std.proofs.Common.{rules, ◌≡◌, ◌∙◌, sym, ap, subst, length, Bool, Option, None, Some, arith}
use Rattle.gpi.specs.declared.targets.Object.TheVariants.{Signal}
use Rattle.gpi.specs.Terms.{IsWidth}
use Rattle.v_flat.specs.declared.scope.rule.ElabRule.TheVariants as rule
use Rattle.v_flat.specs.declared.scope.found.Found.{Found}
use Rattle.v_flat.specs.Scope.Found.{needs}
use Rattle.v_flat.specs.declared.scope.meaning.Meaning.{Meaning}
use Rattle.v_flat.specs.declared.scope.meaning.Meaning.TheVariants.{Constant, Later}
use Rattle.v_flat.specs.declared.scope.meaning.Meaning.TheVariants as meant
use Rattle.v_flat.specs.Scope.Scope.{means, width_of}
use Rattle.v_flat.specs.Targets.{fits_kind}
use Rattle.v_check.specs.Names.Proper.{HasFewWords, IsProper}
use Rattle.v_process.specs.declared.target.checked.CheckedTarget.{CheckedTarget}
use Rattle.v_process.specs.Target.Targets.{IsNamedTarget}
use Rattle.v_process.proofs.TargetLemmas.Names.{constant_named, later_named, object_named, unknown_named}
use Rattle.v_process.proofs.target.name.named.Goals as goal

pub returns-in-None : goal.returns-in-None
returns-in-None c = λ sel h.
    let s = means c.args.scope.now in
    let how = c.args.manner in
    let p = c.args.place in
    let e : s c.args.name.now ≡ None = search rules in
    subst (λ (x : Option Meaning). IsNamedTarget how s p sel x c.broken.result) (sym e)
    (subst (λ (f : Found CheckedTarget). IsNamedTarget how s p sel None f) (sym c.broken.ensures) (unknown_named how s p sel))

pub returns-in-Some-Later : goal.returns-in-Some-Later
returns-in-Some-Later c = λ sel h.
    let s = means c.args.scope.now in
    let how = c.args.manner in
    let p = c.args.place in
    let e : s c.args.name.now ≡ Some Later = search rules in
    subst (λ (x : Option Meaning). IsNamedTarget how s p sel x c.broken-in-Some-Later.result) (sym e)
    (subst (λ (f : Found CheckedTarget). IsNamedTarget how s p sel (Some Later) f) (sym c.broken-in-Some-Later.ensures)
    (later_named how s p sel))

pub returns-in-Some-Constant : goal.returns-in-Some-Constant
returns-in-Some-Constant c = λ sel h.
    let s = means c.args.scope.now in
    let how = c.args.manner in
    let p = c.args.place in
    let ds = c.in-Some-Constant.value in
    let b = c.in-Some-Constant.bounds in
    let w = c.width-width.result in
    let e : s c.args.name.now ≡ Some (Constant ds b) = search rules in
    let wide : length ds ≡ width_of b = subst (λ (x : Option Meaning). IsProper x) e (c.requires c.args.name.now) in
    let i : w ≡ width_of b = c.width-width.ensures.is ∙ wide in
    let proper : IsWidth (width_of b) =
    (let low = c.width-width.ensures.low in let high = c.width-width.ensures.high in (omega (arith, low, i), omega (arith, high, i))) in
    subst (λ (x : Option Meaning). IsNamedTarget how s p sel x c.needs.result) (sym e)
    (subst (λ (f : Found CheckedTarget). IsNamedTarget how s p sel (Some (Constant ds b)) f) (sym c.needs.ensures)
    (constant_named how s p sel ds b (Signal (record { 0 = 0 }) w) c.args.selects c.vector-found.result i proper h c.vector-found.ensures))

pub returns-in-Some-Object : goal.returns-in-Some-Object
returns-in-Some-Object c = λ sel h.
    let s = means c.args.scope.now in
    let how = c.args.manner in
    let p = c.args.place in
    let o = c.in-Some-Object.declared in
    let f = c.object-found.result in
    let e : s c.args.name.now ≡ Some (meant.Object o) = search rules in
    let wide : IsWidth (width_of o.bounds) × HasFewWords o.words = subst (λ (x : Option Meaning). IsProper x) e
    (c.requires c.args.name.now) in
    let made : c.needs-in-Some-Object.result ≡ needs (fits_kind how o.kind) rule.BadTarget p f =
    c.needs-in-Some-Object.ensures ∙ ap (λ (ok : Bool). needs ok rule.BadTarget p f) c.fits.ensures in
    subst (λ (x : Option Meaning). IsNamedTarget how s p sel x c.needs-in-Some-Object.result) (sym e)
    (subst (λ (g : Found CheckedTarget). IsNamedTarget how s p sel (Some (meant.Object o)) g) (sym made)
    (object_named how s p sel o c.args.selects f wide.0 h c.object-found.ensures))
