use Rattle.std.proofs.Common.{ap, arith, refl}
use Rattle.command.specs.CommandWords.Arguments.{listed}
use Rattle.command.proofs.CommandWordsLemmas.Found.{no_texts, tells, two_texts}
use Rattle.command.proofs.command_words.top.work.Goals as goal

pub returns-in-empty-None-Some : goal.returns-in-empty-None-Some
returns-in-empty-None-Some c = tells c.made_work.result _ _ _ _ _ _ (no_texts c.args.files.now (omega (arith, c.in-empty-None-Some.len_below)))
    (ap listed c.in-empty-None-Some.is-1) (ap listed c.in-empty-None-Some.is-2) c.made_work.ensures

pub returns-in-len2-default-None : goal.returns-in-len2-default-None
returns-in-len2-default-None c = tells c.files_work.result _ _ _ _ _ _
    (two_texts c.args.files.now _ _ (omega (arith, c.in-len2-default-None.len_at_least)) (omega (arith, c.in-len2-default-None.len_below)))
    refl (ap listed c.in-len2-default-None.is-2) c.files_work.ensures
