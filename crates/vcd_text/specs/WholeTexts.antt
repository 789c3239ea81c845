-- A means of proof: what a sink of a VCD text has written of a run.
use Rattle.std.specs.Prelude.{◌≡◌, ℕ, false, List, ◌++◌}
use Rattle.port_io.specs.Ports.{TakesAll, Puts}
use Rattle.gpi.specs.declared.design.Flat.{Flat}
use Rattle.vcd_text.specs.Changes.{ValueChange}
use Rattle.vcd_text.specs.Text.{begin_lines, vcd}
use Rattle.vcd_text.specs.TracedLines.{TellAll}
use Rattle.vcd_text.specs.Sink.{TakesLine, BreaksLine, IsSameSink}
use Rattle.vcd_text.specs.declared.sink.VcdSink.{VcdSink}

-- a sink for a run on this design has begun its text in a sink that was like this before, and was given no line
pub record HasBegun {O : Type 0} (takes : O → List ℕ → O → Type 0) (flat : Flat) (out : O) (sink : VcdSink O) : Type 0 where
  pub design : sink.signals.now.flat.now ≡ flat
  pub last : sink.last ≡ 0
  pub begun : TakesAll takes out (begin_lines flat) sink.out.now

-- where all lines of a run were taken, all lines of the text of the changes that they tell were, in order
abbrev pub WritesWhole : {O : Type 0} → (O → List ℕ → O → Type 0) → Type 0
WritesWhole {O} takes = (flat : Flat) (out : O) (before after : VcdSink O) (texts : List (List ℕ)) → HasBegun takes flat out before → TakesAll (TakesLine takes) before texts after
    → (changes : List ValueChange) × TellAll flat texts changes × TakesAll takes out (vcd flat changes) after.out.now × IsSameSink before after

-- where a line broke, the lines of the text of the changes that it and those before it tell were put in order, up to one that broke
abbrev pub WritesFront : {O : Type 0} → (O → List ℕ → O → Type 0) → (O → List ℕ → O → Type 0) → Type 0
WritesFront {O} takes breaks = (flat : Flat) (out : O) (before after : VcdSink O) (texts : List (List ℕ)) → HasBegun takes flat out before
    → Puts (TakesLine takes) (BreaksLine takes breaks) before texts false after
    → (front : List (List ℕ)) × (more : List (List ℕ)) × (changes : List ValueChange) × (texts ≡ front ++ more) × TellAll flat front changes
    × Puts takes breaks out (vcd flat changes) false after.out.now × IsSameSink before after
