-- A means of proof: how many tasks may wait at once, for the proofs of the keepers of waiting tasks.
use Rattle.std.specs.Prelude.{ℕ}

abbrev pub waiting_limit : ℕ
waiting_limit = 65536
