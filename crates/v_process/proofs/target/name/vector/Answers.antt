-- Digits of a vector.
use Rattle.std.proofs.Common.{rules, sym, subst}
use Rattle.gpi.specs.declared.targets.Object.TheVariants.{Signal}
use Rattle.v_flat.proofs.ScopeLemmas.Gathered.{made_each}
use Rattle.v_flat.specs.Objects.{range_of}
use Rattle.v_check.specs.declared.names.choice.Choice.{Choice}
use Rattle.v_check.specs.declared.names.selects.CheckedSelects.{CheckedSelects}
use Rattle.v_process.specs.Target.Made.{VectorMade, part_target}
use Rattle.v_process.proofs.target.name.vector.Goals as goal

pub returns-in-One : goal.returns-in-One
returns-in-One c =
    let p = c.args.place in
    let o = Signal c.args.signal c.args.width in
    let b = c.args.bounds in
    let f = c.each.result in
    subst (λ (x : CheckedSelects). VectorMade p o b x f) (sym c.in-One.is) (
      c.chosen.result,
      (
        c.chosen.ensures.checks,
        made_each _ (λ (z : Choice). part_target o (range_of b) z) c.chosen.result f (λ z t k. search rules) c.each.ensures,
      ),
    )
