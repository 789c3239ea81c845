-- A means of proof: an instance between two of its items, as the code has it and as the definition has it, and what items make of it, for
-- the proofs of elaboration.
use Rattle.std.specs.Prelude.{◌≡◌, ◌≤◌, ℕ, length, Result, Ok, Err}
use Rattle.gpi.specs.Design.{widths}
use Rattle.v_syntax.specs.SourceTrees.{KindTree}
use Rattle.v_flat.specs.declared.scope.rule.Broken.{Broken}
use Rattle.v_flat.specs.Scope.Found.{HoldsOk, ended}
use Rattle.v_flat.specs.Scope.Limits.{most_parts}
use Rattle.v_flat.specs.Scope.Scope.{means}
use Rattle.v_flat.specs.declared.timing.Timing.{Timing}
use Rattle.v_flat.specs.Design.{State, plain_item}
use Rattle.v_check.specs.Names.Proper.{AreProper}
use Rattle.v_process.specs.Drive.Digits.{Keeps}
use Rattle.v_layout.specs.Build.Parts.{IsSoFar}
use Rattle.v_layout.specs.Named.{StaySignals}
use Rattle.v_elab.specs.declared.state.State as code

-- x has what further items ask of the state s: what names mean, how many signals there are, and which digits are driven
pub record GoesOn (s : State) (x : code.State) : Type 0 where
  pub scope : means x.scope ≡ s.scope
  pub signals : length x.parts.signals ≡ length s.design.signals
  pub driven : Keeps x.driven s.driven

-- x is the state s
pub record IsState (s : State) (x : code.State) : Type 0 where
  pub goes_on : GoesOn s x
  pub parts : IsSoFar s.design x.parts
  pub children : x.children ≡ s.children

-- each name is a signal of the design, also where it gets more signals, with a width that signals may have; and there are no more signals
-- than a design may have
pub record IsReady (x : code.State) : Type 0 where
  pub proper : AreProper (means x.scope)
  pub signals : StaySignals (means x.scope) (widths x.parts.signals)
  pub few : length x.parts.signals ≤ most_parts

-- names mean in y what they mean in x; and y has the same signals, instances and known names
pub record Stays (x y : code.State) : Type 0 where
  pub scope : means y.scope ≡ means x.scope
  pub signals : y.parts.signals ≡ x.parts.signals
  pub nodes : y.parts.nodes.items ≡ x.parts.nodes.items
  pub children : y.children ≡ x.children

-- the same rule is broken, or P holds of both values
abbrev pub EndsAs : {A B : Type 0} → (A → B → Type 0) → Result A Broken → Result B Broken → Type 0
EndsAs P (Ok a) (Ok b) = P a b
EndsAs P (Ok a) (Err y) = ⊥
EndsAs P (Err x) (Ok b) = ⊥
EndsAs P (Err x) (Err y) = x ≡ y

-- r is what is found in a whole item, whose first token is p, in the state that x is, in a module of this timing
pub record EndsItem (timing : Timing) (p : ℕ) (k : KindTree) (x : code.State) (r : Result code.State Broken) : Type 0 where
  pub is : (s : State) → IsState s x → EndsAs IsState (ended (plain_item timing p k s)) r
  pub stays : HoldsOk (λ (y : code.State). Stays x y) r
