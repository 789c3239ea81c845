use Rattle.test_meaning.specs.Body.Views.{view_case}
use Rattle.check_tests.specs.Files.{case_text, most_shown}
use Rattle.check_tests.proofs.Fronts.{seen_front}
use Rattle.check_tests.proofs.file.front_text.Goals as goal

pub returns : goal.returns
returns c = seen_front case_text view_case most_shown c.args.cases.now c.texts.result c.texts.ensures
