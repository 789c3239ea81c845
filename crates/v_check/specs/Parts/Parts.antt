-- A means of proof: what it means that the parts of braces were checked (IEEE 1364-2005, clause 5.1.14), and what is found in the whole,
-- for the proofs of elaboration.
use Rattle.std.specs.Prelude.{◌≡◌, ℕ, List}
use Rattle.four_value.specs.declared.Digit.{Digit}
use Rattle.v_syntax.specs.ExpressionTrees.{Tree, Concatenation, Replication, Trees, none, more}
use Rattle.v_flat.specs.declared.scope.found.Found.{Found}
use Rattle.v_flat.specs.Scope.Found.{each, Holds}
use Rattle.v_flat.specs.Scope.Scope.{Scope}
use Rattle.v_flat.specs.Scope.Limits.{counted_width}
use Rattle.v_check.specs.Contextual.Concatenations.{AreSound}
use Rattle.v_check.specs.Contextual.Concatenations as term
use Rattle.v_flat.specs.Expressions.{widths, joined}
use Rattle.v_flat.specs.Checks.{all_checked}
use Rattle.v_check.specs.declared.constants.checked.Checked.{Checked}
use Rattle.v_check.specs.Constants.Checked.{AllNamesOf, IsChecked, IsCount}
use Rattle.v_check.specs.declared.parts.parts.Parts.{Parts}

-- together they have the digits of these expressions, on every map of the signals; and they are sound wherever the names are
-- signals of the design
pub record StandFor (s : Scope) (es : Trees) (x : Parts) : Type 0 where
  pub own : x.width ≡ counted_width (widths s es)
  pub sum : term.widths x.terms.items ≡ widths s es
  pub mean : (m : ℕ → List Digit) → term.values x.terms.items m ≡ joined s es m
  pub sound : (ws : List ℕ) → AllNamesOf s es ws → AreSound x.terms.items ws

-- the same rule is broken first as in the definition, with the same width; and where none is they stand for the expressions
pub record AreChecked (s : Scope) (es : Trees) (f : Found Parts) : Type 0 where
  pub finds : each (λ (x : Parts). x.width) f ≡ each counted_width (all_checked s es)
  pub holds : Holds (λ (x : Parts). StandFor s es x) f

-- ---- what is found in the whole, from what was found in the parts

abbrev pub ChecksNone : Found Parts → Type 0
ChecksNone f = (s : Scope) → AreChecked s none f

abbrev pub ChecksMore : Found Checked → Found Parts → Found Parts → Type 0
ChecksMore x y f = (s : Scope) (e : Tree) (es : Trees) → IsChecked s e x → AreChecked s es y → AreChecked s (more e es) f

abbrev pub ChecksConcatenation : ℕ → Found Parts → Found Checked → Type 0
ChecksConcatenation p y f = (s : Scope) (es : Trees) → AreChecked s es y → IsChecked s (Concatenation p es) f

abbrev pub ChecksReplication : ℕ → Found ℕ → Found Parts → Found Checked → Type 0
ChecksReplication p n y f = (s : Scope) (c : Tree) (es : Trees) → IsCount s c n → AreChecked s es y → IsChecked s (Replication p c es) f
