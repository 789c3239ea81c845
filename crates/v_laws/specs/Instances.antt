-- A means of proof: laws of the names of instances (IEEE 1364-2005, clause 12.5), for the proofs of elaboration.
use Rattle.std.specs.Prelude.{◌≡◌, ◌+◌, ◌<◌, ℕ, List, Option, Some, None, slice_get}
use Rattle.gpi.specs.declared.design.Spot.{Spot}
use Rattle.gpi.specs.declared.design.Spot.TheVariants.{Inner, Sig, Words}
use Rattle.v_flat.specs.Scope.Found.{HoldsOk}
use Rattle.v_flat.specs.Paths.{NodeAt, Path, SignalAt, below}
use Rattle.v_flat.specs.Design.{Design, Modules, flat_design}

-- instance k has this path
pub record IsNodeAt (d : Design) (k : ℕ) (path : Path) : Type 0 where
  pub node : NodeAt
  pub there : slice_get d.nodes k ≡ Some node
  pub path_is : node.path ≡ path

-- signal n has this path; a word of a memory has this index too
pub record IsSignalAt (d : Design) (n : ℕ) (path : Path) (word : Option ℕ) : Type 0 where
  pub signal : SignalAt
  pub there : slice_get d.signals n ≡ Some signal
  pub path_is : signal.path ≡ path
  pub word_is : signal.word ≡ word

-- what a name of an instance stands for has that name behind the instance's path: an instance, a signal, or all words of a memory, by rising index
abbrev pub IsAt : Design → Path → Spot → Type 0
IsAt d path (Inner k) = IsNodeAt d k path
IsAt d path (Sig s) = IsSignalAt d s.0 path None
IsAt d path (Words first low count) = (i : ℕ) → i < count → IsSignalAt d (first.0 + i) path (Some (low + i))

-- each name of each instance stands for a part of the design at that name
abbrev pub Names_have_their_paths : Type 0
Names_have_their_paths = (ms : Modules) (top : Option (List ℕ)) → HoldsOk (λ (d : Design). (v j : ℕ) (x : NodeAt) (c : List ℕ × Spot)
    → slice_get d.nodes v ≡ Some x → slice_get x.children j ≡ Some c → IsAt d (below x.path c.0) c.1) (flat_design ms top)

-- the names of an instance differ
abbrev pub Names_differ : Type 0
Names_differ = (ms : Modules) (top : Option (List ℕ)) → HoldsOk (λ (d : Design). (v i j : ℕ) (x : NodeAt) (b c : List ℕ × Spot)
    → slice_get d.nodes v ≡ Some x → slice_get x.children i ≡ Some b → slice_get x.children j ≡ Some c → b.0 ≡ c.0 → i ≡ j) (flat_design ms top)
