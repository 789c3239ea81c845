use Rattle.std.proofs.Common.{◌≡◌, drop, sym, ap, ◌∙◌, arith}
use Rattle.gpi.specs.declared.types.Key.TheVariants.{At}
use Rattle.await_tree.specs.declared.cause.Awaited.{Awaited}
use Rattle.await_tree.specs.declared.cause.Awaited.TheVariants as awaited
use Rattle.trigger_table.specs.Serving.{is_first}
use Rattle.trigger_table.proofs.TrimLemmas.{first_at}
use Rattle.std.proofs.lemmas.Option.{none-some, same_Some}
use Rattle.trigger_table.proofs.parting.is_on.Goals as goal

pub returns-in-None-clause-value : goal.returns-in-None-clause-value
returns-in-None-clause-value g c number cause on has found at known = absurd (none-some on (sym c.in-None.is ∙ c.on_of.ensures.value number cause on has found at known))

pub returns-then-at-leaves-clause-value : goal.returns-then-at-leaves-clause-value
returns-then-at-leaves-clause-value g c number cause on has found at known =
    let same : c.in-Some.on ≡ on = same_Some _ _ (sym c.in-Some.is ∙ c.on_of.ensures.value number cause on has found at known) in
    c.is_same.ensures ∙ sym (first_at c.in-Some.on c.args.leaves.now c.args.at (awaited.Key (At 0)) (omega (arith, c.if-at-leaves.true))) ∙ ap (λ (a : Awaited). is_first a (drop c.args.at c.args.leaves.now)) same
