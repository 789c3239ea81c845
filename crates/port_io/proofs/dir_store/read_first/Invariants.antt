use Rattle.std.proofs.Common.{◌≡◌, ◌≤◌, ◌-◌, List, ℕ, vec_len}
use Rattle.port_io.specs.Reading.{GivesEach}
use Rattle.port_io.specs.ToldLaws.{joined}
use Rattle.port_io.proofs.dir_store.read_first.Given as goal

-- what was read so far is what the reader has given, piece by piece
abbrev pub invariant-loop-buffer : goal.invariant-loop-buffer
invariant-loop-buffer g l = (vec_len l.bytes ≤ l.most) × ((pieces : List (List ℕ)) × GivesEach g.S.Source.gives l.fn.source pieces l.source × (l.bytes.items ≡ joined pieces))

abbrev pub decreases-loop-buffer : goal.decreases-loop-buffer
decreases-loop-buffer g l = l.most - vec_len l.bytes
