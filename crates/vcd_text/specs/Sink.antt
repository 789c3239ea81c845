-- A means of proof: what a sink that writes the VCD text of a run does with the lines that it is given.
use Rattle.std.specs.Prelude.{◌≡◌, ℕ, false, List}
use Rattle.std.specs.Borrow.{MutBor}
use Rattle.port_io.specs.Ports.{TakesAll, Puts}
use Rattle.gpi.specs.declared.design.Flat.{Flat}
use Rattle.vcd_text.specs.TracedLines.{Becomes}
use Rattle.vcd_text.specs.declared.sink.VcdSink.{VcdSink}

-- a sink over this one, for runs on this design, to which no line was given
pub record IsOver {O : Type 0} (flat : Flat) (out : MutBor O) (sink : VcdSink O) : Type 0 where
  pub same_reference : sink.out.ghost_name ≡ out.ghost_name
  pub now : sink.out.now ≡ out.now
  pub design : sink.signals.now.flat.now ≡ flat
  pub last : sink.last ≡ 0

-- both write into one sink, for runs on one design
pub record IsSameSink {O : Type 0} (before after : VcdSink O) : Type 0 where
  pub same_reference : after.out.ghost_name ≡ before.out.ghost_name
  pub design : after.signals.now.flat.now ≡ before.signals.now.flat.now

-- what is written for the line is taken by the sink behind this one, one put each
pub record TakesLine {O : Type 0} (takes : O → List ℕ → O → Type 0) (before : VcdSink O) (text : List ℕ) (after : VcdSink O) : Type 0 where
  pub lines : List (List ℕ)
  pub becomes : Becomes before.signals.now.flat.now before.last text lines after.last
  pub taken : TakesAll takes before.out.now lines after.out.now
  pub same : IsSameSink before after

-- of what is written for the line one put breaks, and nothing is put behind it
pub record BreaksLine {O : Type 0} (takes breaks : O → List ℕ → O → Type 0) (before : VcdSink O) (text : List ℕ) (after : VcdSink O) : Type 0 where
  pub lines : List (List ℕ)
  pub next : ℕ
  pub becomes : Becomes before.signals.now.flat.now before.last text lines next
  pub broken : Puts takes breaks before.out.now lines false after.out.now
  pub same : IsSameSink before after
