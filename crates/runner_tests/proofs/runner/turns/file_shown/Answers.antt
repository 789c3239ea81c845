use Rattle.std.proofs.Common.{map, refl}
use Rattle.std.specs.Prelude.{string_bytes}
use Rattle.test_meaning.specs.Body.Sound.{is_sound_case}
use Rattle.test_meaning.specs.Body.Views.{view_file, view_function}
use Rattle.command.proofs.RegressionLemmas.Skipping.{sound_at}
use Rattle.command.specs.Answer.{setup_with}
use Rattle.command.proofs.FileRuns.{engine_cases}
use Rattle.runner_tests.proofs.RunnerLemmas.Told.{first_is, options}
use Rattle.runner_tests.proofs.runner.turns.file_shown.Goals as goal

pub test_shown-requires-clause-case : goal.test_shown-requires-clause-case
test_shown-requires-clause-case c =
    sound_at (is_sound_case (map view_function c.args.file.now.functions)) c.args.file.now.cases 0 c.get.result.now
    (engine_cases options c.args.flat.now c.args.file.now (map view_function c.args.file.now.functions) (setup_with options.trace c.args.flat.now (view_file c.args.file.now)) refl refl c.requires.file)
    c.get.ensures

pub returns : goal.returns
returns c = first_is string_bytes c.args.flat.now c.args.file.now c.get.result.now c.get.ensures c.test_shown.result c.test_shown.ensures
