-- What a store and a sink mean: what each tells, and what a read and a put do to it.
use Rattle.std.specs.Prelude.{ℕ, false, List, Option, None, Some}
use Rattle.port_io.specs.Ports.{TakesAll, Puts}
use Rattle.port_io.specs.PutsPart.{PutsPart}
use Rattle.port_io.specs.declared.ports.Store.{Ghosts as StoreGhosts}
use Rattle.port_io.specs.declared.ports.Sink.{Ghosts as SinkGhosts}
use Rattle.port_io.specs.declared.ports.SinkFault.{SinkFault}
use Rattle.port_io.specs.declared.ports.SinkFault.TheVariants.{Failed, OutOfMemory}

-- the files that a store tells, a read that gives the first bytes of a file, and one that fails
pub record StoreMeans (S : Type 0) : Type 1 where
  pub files : S → Option (List ℕ → Option (List ℕ))
  pub gives : S → List ℕ → ℕ → List ℕ → S → Type 0
  pub misses : S → List ℕ → S → Type 0

-- a put that takes its piece, one that breaks, and the bytes that a sink tells
pub record SinkMeans (O : Type 0) : Type 1 where
  pub takes : O → List ℕ → O → Type 0
  pub breaks : O → List ℕ → O → Type 0
  pub told : O → Option (List ℕ)

-- those of a type that is a store
abbrev pub store_means : {S : Type 0} → StoreGhosts S → StoreMeans S
store_means store = record { files = store.files; gives = store.gives; misses = store.misses }

-- those of a type that is a sink
abbrev pub sink_means : {O : Type 0} → SinkGhosts O → SinkMeans O
sink_means sink = record { takes = sink.takes; breaks = sink.breaks; told = sink.told }

-- The pieces were put in order, one put each: all were taken, or, where there is a fault, one broke or memory was short.
abbrev pub PutsTo : {O : Type 0} → SinkMeans O → O → List (List ℕ) → Option SinkFault → O → Type 0
PutsTo sink before pieces None after = TakesAll sink.takes before pieces after
PutsTo sink before pieces (Some Failed) after = Puts sink.takes sink.breaks before pieces false after
PutsTo sink before pieces (Some OutOfMemory) after = PutsPart sink.takes sink.told before pieces after
