-- A means of proof: the event of a write that is done to what a simulator holds (IEEE 1364-2005, clause 9.3.2), for the proofs of the runner's turns.
use Rattle.gpi.specs.Content.{Content}
use Rattle.gpi.specs.Events.{Event, force, put, release, value_at}
use Rattle.gpi.specs.declared.types.SigId.{SigId}
use Rattle.gpi.specs.declared.types.Write.{Write}
use Rattle.gpi.specs.declared.types.Write.TheVariants as write

abbrev pub written_in : Content → SigId → Write → Event
written_in k sig (write.Plain bits) = put k.procs k.state k.keys sig bits
written_in k sig (write.Force bits) = force k.procs k.state k.keys sig bits
written_in k sig write.Freeze = force k.procs k.state k.keys sig (value_at k.state sig)
written_in k sig write.Release = release k.procs k.nets k.state k.keys sig
