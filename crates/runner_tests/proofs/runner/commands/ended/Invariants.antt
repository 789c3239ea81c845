use Rattle.runner_tests.proofs.runner.commands.ended.Given as goal

-- the ledger of the counter is the one that was made for it
abbrev pub ghosts-run : goal.ghosts-run
ghosts-run g a = record { name = a.blank.name; parts = a.blank.parts }
