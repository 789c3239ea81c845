-- Digits of a word of a memory.
use Rattle.std.proofs.Common.{◌∙◌, rules, sym, ap, subst}
use Rattle.gpi.specs.declared.terms.Term.{Term}
use Rattle.v_flat.specs.declared.scope.found.Found.{Found}
use Rattle.v_flat.specs.Scope.Found.{each}
use Rattle.v_flat.proofs.ScopeLemmas.Gathered.{made_each}
use Rattle.v_check.specs.declared.names.choice.Choice.{Choice}
use Rattle.v_check.specs.declared.names.selects.CheckedSelects.{CheckedSelects}
use Rattle.v_process.specs.Target.Made.{MemoryMade, word_part_target}
use Rattle.v_process.proofs.target.name.memory.Goals as goal

pub returns-in-OfWord : goal.returns-in-OfWord
returns-in-OfWord c =
    let p = c.args.place in
    let words = c.args.words in
    let w = c.args.width in
    let b = c.args.bounds in
    let f = c.each.result in
    subst (λ (x : CheckedSelects). MemoryMade p words w b x f) (sym c.in-OfWord.is) (
      c.chosen.result,
      (
        c.chosen.ensures.checks,
        (made_each _ (λ (z : Term × Choice). word_part_target words w b z) c.followed_by.result f (λ z t k. search rules) c.each.ensures
            ∙ ap (λ (y : Found (Term × Choice)). each (λ (z : Term × Choice). word_part_target words w b z) y) c.followed_by.ensures),
      ),
    )
