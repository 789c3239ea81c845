use Rattle.test_file.proofs.TextLemmas.AnswerLaws as laws
use Rattle.test_file.proofs.text.laws.tests_are_sound.Goals as goal

pub returns : goal.returns
returns c = laws.tests_are_sound
