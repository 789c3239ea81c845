use Rattle.std.proofs.Common.{◌∙◌, sym, subst, codes, refl, List}
use Rattle.std.specs.Prelude.{IsTrue}
use Rattle.clap.specs.Matches.{found_of}
use Rattle.clap.specs.Walk.{Text}
use Rattle.command.specs.CommandWords.Forms.{IsBudget, IsSeed, asked_of}
use Rattle.command.proofs.CommandWordsLemmas.Found.{asked_by, files_or}
use Rattle.command.proofs.CommandWordsLemmas.Whole.{asked_once, both_apart, flag_once}
use Rattle.command.proofs.command_words.top.reading.Goals as goal

pub returns-in_default : goal.returns-in_default
returns-in_default c =
    let files = files_or (found_of c.args.matches.now) (codes "files") c.get_strs.result _ c.unwrap_or-files.result c.get_strs.ensures c.unwrap_or-files.ensures refl in
    λ form h. c.in_default.ensures form.asked (asked_by _ _ _ _ _ _ form.asked (sym files) (sym c.value_of.ensures) (sym c.value_of-2.ensures) h.asked)

pub returns : goal.returns
returns c =
    let files = files_or (found_of c.args.matches.now) (codes "files") c.get_strs.result _ c.unwrap_or-files.result c.get_strs.ensures c.unwrap_or-files.ensures refl in
    record {
      asked = asked_by _ _ _ _ _ _ _ files c.value_of.ensures c.value_of-2.ensures c.in-Some.ensures;
      budget = subst (λ (l : List Text). IsBudget l c.in-Some-number_or.budget) c.value_of-3.ensures c.in-Some-number_or.ensures;
      seed = subst (λ (l : List Text). IsSeed l c.in-Some-number_or-2.seed) c.value_of-4.ensures c.in-Some-number_or-2.ensures;
      trace = c.is_flagged-trace.ensures;
      vcd = c.is_flagged-vcd.ensures;
      apart = subst IsTrue (sym c.if-not-stands_apart.false ∙ c.stands_apart.ensures) refl;
    }

-- another form of these words has the same texts and flags
pub returns-then-not-stands_apart : goal.returns-then-not-stands_apart
returns-then-not-stands_apart c =
    let files = files_or (found_of c.args.matches.now) (codes "files") c.get_strs.result _ c.unwrap_or-files.result c.get_strs.ensures c.unwrap_or-files.ensures refl in
    λ form h. both_apart form.asked (asked_of c.in-Some.work) form.trace c.is_flagged-trace.result form.vcd c.is_flagged-vcd.result
    (asked_once _ _ _ form.asked (asked_of c.in-Some.work) h.asked (asked_by _ _ _ _ _ _ _ files c.value_of.ensures c.value_of-2.ensures c.in-Some.ensures))
    (flag_once _ form.trace c.is_flagged-trace.result h.trace c.is_flagged-trace.ensures)
    (flag_once _ form.vcd c.is_flagged-vcd.result h.vcd c.is_flagged-vcd.ensures)
    (sym c.stands_apart.ensures ∙ c.if-not-stands_apart.true) h.apart
