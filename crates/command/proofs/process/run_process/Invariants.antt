use Rattle.command.proofs.process.run_process.Given as goal

-- the ledger of the counter is the one that was made for it
abbrev pub ghosts-run_words : goal.ghosts-run_words
ghosts-run_words g a = record { name = a.blank.name; parts = a.blank.parts }
