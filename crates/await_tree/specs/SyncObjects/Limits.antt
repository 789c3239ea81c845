-- A means of proof: how many events and how many locks may be made in a test, for the proofs of events and locks.
use Rattle.std.specs.Prelude.{ℕ}

abbrev pub event_limit : ℕ
event_limit = 65536

abbrev pub lock_limit : ℕ
lock_limit = 65536
