use Rattle.test_file.proofs.TextLemmas.StartLaws as starts
use Rattle.test_file.proofs.text.laws.starts_are_right.Goals as goal

pub returns : goal.returns
returns c = starts.starts_are_right
