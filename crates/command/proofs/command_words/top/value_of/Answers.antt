use Rattle.clap.specs.Matches.{found_of}
use Rattle.command.proofs.CommandWordsLemmas.Found.{value_found}
use Rattle.command.proofs.command_words.top.value_of.Goals as goal

pub returns : goal.returns
returns c = value_found (found_of c.args.matches.now) c.args.name.now c.get_str.result c.get_str.ensures
