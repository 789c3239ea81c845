use Rattle.runner_tests.proofs.runner.turns.file_shown.Given as goal

-- the ledger of the counter is the one that was made for it
abbrev pub ghosts-test_shown : goal.ghosts-test_shown
ghosts-test_shown a = record { name = a.blank.name; parts = a.blank.parts }
