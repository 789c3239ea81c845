-- A means of proof: what a fault says of a text, for the proofs of the reading of a tests file.
use Rattle.std.specs.Prelude.{ℕ, List}
use Rattle.test_file.specs.declared.text.fault.TestsFault.{TestsFault}
use Rattle.test_file.specs.declared.text.fault.TestsFault.TheVariants as fault
use Rattle.test_file.specs.Text.Tests.{IsRefused}

-- The text is refused so, or memory ran out.
abbrev pub IsFault : TestsFault → List ℕ → Type 0
IsFault (fault.Refused r) text = IsRefused r text
IsFault fault.OutOfMemory text = Unit {0}
