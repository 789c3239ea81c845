-- The map of names has the entry with the new meaning.
use Rattle.std.proofs.Common.{rules, ◌≡◌, ◌∙◌, ap, bytes_eq, Option, None, Some}
use Rattle.std.specs.Map.{set_value}
use Rattle.v_flat.specs.declared.scope.meaning.Meaning.{Meaning}
use Rattle.v_flat.proofs.ScopeLemmas.Stored.{looked, replaced, not_replaced}
use Rattle.v_flat.proofs.scope.scope.Scope.replace.Goals as goal

pub returns-in_err-current-clause-old : goal.returns-in_err-current-clause-old
returns-in_err-current-clause-old c =
    let none : c.from_residual.result ≡ None = search rules in
    none ∙ looked (λ k. k.items) c.self.inside.names.entries c.args.self.now c.args.name.now None c.in_err-current.ensures.value c.self.view_is

pub returns-in_err-current-clause-new : goal.returns-in_err-current-clause-new
returns-in_err-current-clause-new c =
    let none = looked (λ k. k.items) c.self.inside.names.entries c.args.self.now c.args.name.now None c.in_err-current.ensures.value c.self.view_is in
    not_replaced (λ k. k.items) c.args.name.now c.args.meaning c.self.inside.names.entries _ c.args.self.now
    (ap (λ m. m.entries) c.get_mut.follows.holds-at-none) none c.self.view_is

pub returns-clause-old : goal.returns-clause-old
returns-clause-old c =
    ap (λ (m : Meaning). (let o : Option Meaning = Some m in o)) c.replace.ensures.value
    ∙ looked (λ k. k.items) c.self.inside.names.entries c.args.self.now c.args.name.now (Some c.in_ok-current.current.now) c.in_ok-current.ensures.value c.self.view_is

pub returns-clause-new : goal.returns-clause-new
returns-clause-new c =
    let written = (c.get_mut.follows.holds c.replace.new.dest).0 in
    let after = written ∙ ap (λ w. set_value (λ k. bytes_eq c.args.name.now k.items) c.self.inside.names.entries w) c.replace.ensures.after in
    replaced (λ k. k.items) c.args.name.now c.args.meaning c.self.inside.names.entries _ c.args.self.now after c.self.view_is
