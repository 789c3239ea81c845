use Rattle.std.proofs.Common.{rules, arith}
use Rattle.std.proofs.lemmas.Grind.{common_steps}
use Rattle.port_io.proofs.dir_store.DirStoreStore.read_file.Goals as goal

pub returns-in-Err-Failed-clause-missed : goal.returns-in-Err-Failed-clause-missed
returns-in-Err-Failed-clause-missed g c =
    rw (← c.self.view_is)
    (λ e. record {
      failed = (c.args.most, c.read_named-read.ensures.failed e);
      counted = first_of (search rules, grind (arith, common_steps));
    })
