-- Targets of assignments (IEEE 1364-2005, clauses 6.1 and 9.2): what is broken first, what they drive, and the updates that they get.
use Rattle.std.specs.Prelude.{ℕ, ◌+◌, ◌==◌, ◌&&◌, List, [], ◌∷◌, ◌++◌, min, max, Option, None, Some, Bool, true, false, nat_lt}
use Rattle.std.specs.List.{list_any}
use Rattle.four_value.specs.declared.Digit.{Digit}
use Rattle.four_value.specs.Vector.{number, slice}
use Rattle.gpi.specs.declared.types.Update.{Update}
use Rattle.gpi.specs.declared.selects.Overlap.{Overlap}
use Rattle.gpi.specs.Selects.{overlap_of, word_at}
use Rattle.gpi.specs.Targets.{whole_update, part_update}
use Rattle.v_syntax.specs.ExpressionTrees.{Tree, Named, Concatenation, SelectsTree, Whole, One, OfWord, Trees, none, more, TargetTree, NamedTarget, JoinedTarget, TargetTrees, no_target, more_targets}
use Rattle.v_flat.specs.declared.scope.rule.ElabRule.TheVariants as rule
use Rattle.v_flat.specs.declared.scope.found.Found.{Found}
use Rattle.v_flat.specs.declared.scope.found.Found.TheVariants.{Sound, Noted, Lost}
use Rattle.v_flat.specs.Scope.Rules.{at}
use Rattle.v_flat.specs.Scope.Found.{lost, each, both, needs}
use Rattle.v_flat.specs.declared.scope.meaning.Bounds.{Bounds}
use Rattle.v_flat.specs.declared.scope.meaning.DataKind.{DataKind}
use Rattle.v_flat.specs.declared.scope.meaning.DataKind.TheVariants.{Input, Net, Register}
use Rattle.v_flat.specs.declared.scope.meaning.DataObject.{DataObject}
use Rattle.v_flat.specs.declared.scope.meaning.Meaning.{Meaning}
use Rattle.v_flat.specs.declared.scope.meaning.Meaning.TheVariants.{Constant, Object, Later}
use Rattle.v_flat.specs.Scope.Scope.{width_of, Scope, find}
use Rattle.v_flat.specs.declared.manner.Manner.{Manner}
use Rattle.v_flat.specs.declared.manner.Manner.TheVariants.{Procedural, Continuous}
use Rattle.v_flat.specs.Objects.{range_of, words_of, nature_of}
use Rattle.v_flat.specs.Expressions.{Values, no_signals, own_value, named_width, select_base, select_width}
use Rattle.v_flat.specs.Checks.{sized, filled, by_nature, of_vector, of_memory}

-- ---- what is broken

-- a procedure gives values to registers and words, a continuous assignment to nets (clause 6)
abbrev pub fits_kind : Manner → DataKind → Bool
fits_kind Procedural Register = true
fits_kind Procedural Net = false
fits_kind Procedural Input = false
fits_kind Continuous Register = false
fits_kind Continuous Net = true
fits_kind Continuous Input = true

abbrev pub fits : Manner → Option Meaning → Bool
fits how (Some (Constant ds b)) = false
fits how (Some (Object o)) = fits_kind how o.kind
fits how (Some Later) = true
fits how None = true

abbrev pub is_fixed : Manner → Bool
is_fixed Procedural = false
is_fixed Continuous = true

-- one of the wrong kind has no width
abbrev pub named_target : Manner → Scope → ℕ → SelectsTree → Option Meaning → Found ℕ
named_target how s p sel x = needs (fits how x) rule.BadTarget p (by_nature p (nature_of x) (λ b. of_vector (is_fixed how) s p b sel) (λ b. of_memory (is_fixed how) s p b sel))

-- the width of a target of a procedure
abbrev mutual
  pub target_checked : Scope → TargetTree → Found ℕ
  target_checked s (NamedTarget p n sel) = named_target Procedural s p sel (find n s)
  target_checked s (JoinedTarget p ts) = sized p (filled p (targets_checked s ts))

  pub targets_checked : Scope → TargetTrees → Found ℕ
  targets_checked s no_target = Sound 0
  targets_checked s (more_targets t ts) = each (λ x. x.0 + x.1) (both (target_checked s t) (targets_checked s ts))

-- ---- what is driven: digits of a net, by their places (clause 6.1)

pub record Drive : Type 0 where
  pub signal : ℕ
  pub low : ℕ
  pub count : ℕ

-- two of them have a digit in common
abbrev pub meets : Drive → Drive → Bool
meets a b = (a.signal == b.signal) && nat_lt (max a.low b.low) (min (a.low + a.count) (b.low + b.count))

abbrev pub is_driven : Drive → List Drive → Bool
is_driven d ds = list_any (λ x. meets d x) ds

abbrev pub inside_drive : ℕ → Option Overlap → Drive
inside_drive signal None = record { signal = signal; low = 0; count = 0 }
inside_drive signal (Some o) = record { signal = signal; low = o.place; count = o.count }

-- the digits of a net that a select with constant indices chooses; words of memories are no nets, and none of theirs count
abbrev pub selected_drive : Scope → DataObject → SelectsTree → Drive
selected_drive s o Whole = record { signal = o.first; low = 0; count = width_of o.bounds }
selected_drive s o (One sel) = inside_drive o.first (overlap_of (range_of o.bounds) (width_of o.bounds) (select_base s sel no_signals) (select_width s sel))
selected_drive s o (OfWord p i sel) = record { signal = o.first; low = 0; count = 0 }

-- what is found in a target, and the digits that are driven after it. A name in which a rule is broken drives nothing; braces that are
-- too wide drive what their parts drive. What is broken in one part hides no other part's digits
pub record Driving : Type 0 where
  pub width : Found ℕ
  pub driven : List Drive

-- the digits d of a net, where they are driven before or not; w is what is found in the name, and p where it is broken that
-- they are driven already
abbrev pub once_more : Bool → ℕ → Drive → List Drive → Found ℕ → Driving
once_more true p d driven w = record { width = lost (at rule.TwoDrivers p) w; driven = driven }
once_more false p d driven w = record { width = w; driven = driven ++ (d ∷ []) }

abbrev pub net_driving : ℕ → Drive → List Drive → Found ℕ → Driving
net_driving p d driven (Lost b) = record { width = Lost b; driven = driven }
net_driving p d driven (Sound w) = once_more (is_driven d driven) p d driven (Sound w)
net_driving p d driven (Noted b w) = once_more (is_driven d driven) p d driven (Noted b w)

-- an input is driven from outside, whatever the target selects of it; a register isn't driven
abbrev pub object_driving : ℕ → DataKind → Drive → List Drive → Found ℕ → Driving
object_driving p Input d driven w = record { width = lost (at rule.TwoDrivers p) w; driven = driven }
object_driving p Net d driven w = net_driving p d driven w
object_driving p Register d driven w = record { width = w; driven = driven }

abbrev pub name_driving : ℕ → Scope → SelectsTree → List Drive → Option Meaning → Found ℕ → Driving
name_driving p s sel driven (Some (Object o)) w = object_driving p o.kind (selected_drive s o sel) driven w
name_driving p s sel driven _ w = record { width = w; driven = driven }

-- a part before others
abbrev pub with_part : Found ℕ → Driving → Driving
with_part w x = record { width = each (λ y. y.0 + y.1) (both w x.width); driven = x.driven }

abbrev pub part_first : Driving → (List Drive → Driving) → Driving
part_first x rest = with_part x.width (rest x.driven)

abbrev pub in_braces : ℕ → Driving → Driving
in_braces p x = record { width = sized p (filled p x.width); driven = x.driven }

abbrev pub place_or : Option ℕ → ℕ → ℕ
place_or None p = p
place_or (Some q) p = q

-- the target of a continuous assignment, part by part from left to right, with what drives afterwards, also where a rule is noted; where digits
-- are driven twice, a connection has one place for all parts
abbrev mutual
  pub driving : Option ℕ → Scope → TargetTree → List Drive → Driving
  driving q s (NamedTarget p n sel) driven = name_driving (place_or q p) s sel driven (find n s) (named_target Continuous s p sel (find n s))
  driving q s (JoinedTarget p ts) driven = in_braces p (all_driving q s ts driven)

  pub all_driving : Option ℕ → Scope → TargetTrees → List Drive → Driving
  all_driving q s no_target driven = record { width = Sound 0; driven = driven }
  all_driving q s (more_targets t ts) driven = part_first (driving q s t driven) (λ ds. all_driving q s ts ds)

-- the target that an expression spells
abbrev pub one_target : Option TargetTree → Option TargetTrees → Option TargetTrees
one_target (Some t) (Some ts) = Some (more_targets t ts)
one_target (Some t) None = None
one_target None ts = None

abbrev pub joined_target : ℕ → Option TargetTrees → Option TargetTree
joined_target p None = None
joined_target p (Some ts) = Some (JoinedTarget p ts)

abbrev mutual
  pub as_target : Tree → Option TargetTree
  as_target (Named p n sel) = Some (NamedTarget p n sel)
  as_target (Concatenation p es) = joined_target p (as_targets es)
  as_target _ = None

  pub as_targets : Trees → Option TargetTrees
  as_targets none = Some no_target
  as_targets (more e es) = one_target (as_target e) (as_targets es)

-- ---- what an assignment does (clauses 6.1 and 9.2)

abbrev mutual
  pub target_width : Scope → TargetTree → ℕ
  target_width s (NamedTarget p n sel) = named_width s sel (find n s)
  target_width s (JoinedTarget p ts) = targets_width s ts

  pub targets_width : Scope → TargetTrees → ℕ
  targets_width s no_target = 0
  targets_width s (more_targets t ts) = target_width s t + targets_width s ts

-- the updates of a name; a word that isn't there gets none
abbrev pub object_update : DataObject → Option Bounds → Scope → SelectsTree → Values → List Digit → List Update
object_update o None s (One sel) m ds =
    part_update (Some o.first) (overlap_of (range_of o.bounds) (width_of o.bounds) (select_base s sel m) (select_width s sel)) ds
object_update o None s _ m ds = whole_update (Some o.first) ds
object_update o (Some w) s Whole m ds = []
object_update o (Some w) s (One sel) m ds = whole_update (word_at (words_of o.first w) (select_base s sel m)) ds
object_update o (Some w) s (OfWord p i sel) m ds =
    part_update (word_at (words_of o.first w) (number (own_value s i m))) (overlap_of (range_of o.bounds) (width_of o.bounds) (select_base s sel m) (select_width s sel)) ds

abbrev pub name_update : Option Meaning → Scope → SelectsTree → Values → List Digit → List Update
name_update (Some (Object o)) s sel m ds = object_update o o.words s sel m ds
name_update _ s sel m ds = []

-- from left to right; the leftmost part gets the highest digits, and all indices are those on one map
abbrev mutual
  pub updates : Scope → TargetTree → Values → List Digit → List Update
  updates s (NamedTarget p n sel) m ds = name_update (find n s) s sel m ds
  updates s (JoinedTarget p ts) m ds = all_updates s ts m ds

  pub all_updates : Scope → TargetTrees → Values → List Digit → List Update
  all_updates s no_target m ds = []
  all_updates s (more_targets t ts) m ds =
      updates s t m (slice ds (targets_width s ts) (target_width s t)) ++ all_updates s ts m (slice ds 0 (targets_width s ts))
