-- A word of a memory.
use Rattle.std.proofs.Common.{◌∙◌, rules, sym, ap}
use Rattle.gpi.specs.declared.terms.Term.{Term}
use Rattle.gpi.specs.declared.targets.Object.TheVariants.{Word}
use Rattle.v_flat.proofs.ScopeLemmas.Gathered.{made_each}
use Rattle.v_check.specs.declared.names.selects.CheckedSelect.{CheckedSelect}
use Rattle.v_process.specs.Target.Made.{whole_target, word_target}
use Rattle.v_process.proofs.target.name.word_select.Goals as goal

pub returns-in-Bit : goal.returns-in-Bit
returns-in-Bit c =
    let words = c.args.words in
    let w = c.args.width in
    made_each _ (λ (t : Term). whole_target (Word words t w)) c.in-Bit.index c.each.result (λ t x k. search rules) c.each.ensures
    ∙ sym (ap (λ (x : CheckedSelect). word_target words w x) c.in-Bit.is)
