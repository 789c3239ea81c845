use Rattle.std.proofs.Common.{rules}
use Rattle.clap.specs.Matches.{found_of}
use Rattle.command.proofs.CommandWordsLemmas.Found.{flag_found, no_flag_found}
use Rattle.command.proofs.command_words.top.is_flagged.Goals as goal

pub returns-in-Some : goal.returns-in-Some
returns-in-Some c =
    flag_found (found_of c.args.matches.now) c.args.name.now c.get_str.result c.get_str.ensures c.in-Some.text c.in-Some.is c.eq.result (search rules)

pub returns-in-None : goal.returns-in-None
returns-in-None c = no_flag_found (found_of c.args.matches.now) c.args.name.now c.get_str.result c.get_str.ensures c.in-None.is
