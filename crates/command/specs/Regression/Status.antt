-- The statuses: their numbers, and the one after puts.
use Rattle.std.specs.Prelude.{ℕ, Option, None, Some}
use Rattle.port_io.specs.declared.ports.SinkFault.{SinkFault}
use Rattle.port_io.specs.declared.ports.SinkFault.TheVariants as fault
use Rattle.command.specs.declared.regression.status.Status.{Status}
use Rattle.command.specs.declared.regression.status.Status.TheVariants.{Passed, Failed, Usage, DesignRefused, TestsRefused, ReadFault, WriteFault, NoMemory, Budget}

abbrev pub code_of : Status → ℕ
code_of Passed = 0
code_of Failed = 1
code_of Usage = 2
code_of DesignRefused = 3
code_of TestsRefused = 4
code_of ReadFault = 5
code_of WriteFault = 6
code_of NoMemory = 7
code_of Budget = 8

-- the status after puts that were to end in this one: so it is where all were taken, and else it says why one failed
abbrev pub put_status : Status → Option SinkFault → Status
put_status own None = own
put_status own (Some fault.Failed) = WriteFault
put_status own (Some fault.OutOfMemory) = NoMemory
