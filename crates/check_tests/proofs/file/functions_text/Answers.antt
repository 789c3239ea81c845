use Rattle.test_meaning.specs.Body.Views.{view_function}
use Rattle.check_tests.specs.Files.{function_text}
use Rattle.check_tests.proofs.Fronts.{seen_all}
use Rattle.check_tests.proofs.file.functions_text.Goals as goal

pub returns : goal.returns
returns c = seen_all function_text view_function c.args.functions.now c.all_texts.result c.all_texts.ensures
