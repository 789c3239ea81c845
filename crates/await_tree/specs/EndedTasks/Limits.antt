-- A means of proof: how many tasks may be started in a test, for the proofs of a test's tasks that have ended.
use Rattle.std.specs.Prelude.{ℕ}

abbrev pub start_limit : ℕ
start_limit = 16777216
