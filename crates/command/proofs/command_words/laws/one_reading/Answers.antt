use Rattle.command.proofs.CommandWordsLemmas.Whole.{read_once}
use Rattle.command.proofs.command_words.laws.one_reading.Goals as goal

pub returns : goal.returns
returns c = read_once
