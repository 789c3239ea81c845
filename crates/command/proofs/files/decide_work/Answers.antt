use Rattle.std.specs.Prelude.{IfOk}
use Rattle.std.proofs.Common.{subst, sym}
use Rattle.port_io.specs.Means.{store_means}
use Rattle.command.specs.CommandWords.Forms.{asked_of}
use Rattle.command.specs.declared.command_words.reading.Work.{Work}
use Rattle.command.specs.Reading.{ReadsAsked, reading_of}
use Rattle.command.proofs.files.decide_work.Goals as goal

pub returns-in-Files-clause-reads : goal.returns-in-Files-clause-reads
returns-in-Files-clause-reads g c =
    subst (λ (work : Work). IfOk c.decide.result (λ decision. ReadsAsked (store_means g.S.Store) (asked_of work) c.args.store.now (reading_of decision) c.decide.new.store))
    (sym c.in-Files.is) c.decide.ensures.reads
