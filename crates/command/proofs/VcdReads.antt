-- The VCD text of an answer reads as the changes that its run tells.
use Rattle.std.proofs.Common.{◌≡◌, ℕ, ◌≤◌, ◌<◌, ◌^◌, List, length, map, true, sym, subst, arith}
use Rattle.std.proofs.lemmas.Bool.{and_parts, leb-true}
use Rattle.port_io.specs.ToldLaws.{joined}
use Rattle.vcd_text.specs.Readable.{told_change}
use Rattle.vcd_text.specs.Rules.{IsRead}
use Rattle.test_meaning.specs.Body.BodyTrees.{TestFile}
use Rattle.test_meaning.specs.Body.Sound.{is_sound, most_cases}
use Rattle.rig_model.specs.Run.Rig.{Setup}
use Rattle.rig_model.specs.Run.Run.{written}
use Rattle.run_laws.specs.Waves.Texts.{TellsChanges}
use Rattle.run_laws.proofs.WavesLemmas.Texts.{read_back}
use Rattle.command.specs.declared.options.Shown.{Shown}
use Rattle.command.specs.declared.options.Shown.TheVariants.{VcdText}
use Rattle.command.specs.Answer.{AreShown, setup_with}
use Rattle.command.specs.OneAnswer.{VcdAnswersReadBack}

few_tests : (file : TestFile) → is_sound file ≡ true → length file.cases < 2 ^ 63
few_tests file sound = let few : length file.cases ≤ most_cases = leb-true (length file.cases) most_cases (and_parts _ _ sound).1 in omega (arith, few)

pub vcd_answers_read_back : VcdAnswersReadBack
vcd_answers_read_back options flat file lines own shown traceable sound (run, is_run, are, status_is) =
    let setup : Setup = setup_with options.trace flat file in
    let text : AreShown VcdText flat (written setup options.budget run) lines = subst (λ (s : Shown). AreShown s flat (written setup options.budget run) lines) shown are in
    let tells : TellsChanges setup options.seed file.cases options.budget run text.0 = record {
      few = few_tests file sound;
      reached = record { budget = options.budget; count = is_run.count; is = is_run.reached };
      tell = text.1;
    } in (
      run,
      is_run,
      status_is,
      record {
        changes = text.0;
        tell = text.1;
        text = text.2;
        read = subst (λ (l : List (List ℕ)). IsRead (joined l) (map (told_change flat.signals) text.0)) (sym text.2) (read_back setup options.seed file.cases options.budget run text.0 traceable tells);
      },
    )
