-- A means of proof: trees in short, for worked designs, and a design without its functions. What each process does is shown on
-- a map of the signals, of which none is forced.
use Rattle.std.specs.Prelude.{ℕ, suc, ◌==◌, List, [], ◌∷◌, map, Result, Ok, Err, if◌then◌else◌}
use Rattle.four_value.specs.declared.Digit.{Digit}
use Rattle.four_value.specs.declared.Digit.TheVariants.{Zero, One, X, Z}
use Rattle.four_value.specs.Vector.{vector, same_digits}
use Rattle.gpi.specs.declared.types.Update.{Update}
use Rattle.gpi.specs.declared.design.Signal.{Signal}
use Rattle.gpi.specs.declared.design.Node.{Node}
use Rattle.gpi.specs.declared.design.Kind.{Kind}
use Rattle.gpi.specs.declared.design.Wake.{Wake}
use Rattle.gpi.specs.declared.design.WakeEdge.{WakeEdge}
use Rattle.gpi.specs.Activation.{Map, Run}
use Rattle.gpi.specs.Design.{Proc}
use Rattle.v_syntax.specs.declared.statement.Identifier.{Identifier}
use Rattle.v_syntax.specs.declared.statement.AssignmentKind.{AssignmentKind}
use Rattle.v_syntax.specs.declared.statement.AssignmentKind.TheVariants.{Delayed}
use Rattle.v_syntax.specs.ExpressionTrees.{Tree, Number, Named, Whole, Trees, none, more, TargetTree, NamedTarget, TargetTrees, no_target, more_targets}
use Rattle.v_flat.specs.declared.scope.rule.Broken.{Broken}
use Rattle.v_flat.specs.Paths.{signal_of, node_of}
use Rattle.v_syntax.specs.SourceTrees.{ModuleTree}
use Rattle.v_flat.specs.Design.{Design, Modules}

-- the modules of a text without directives
abbrev pub plain : List ModuleTree → Modules
plain ms = record { list = ms; units = map (λ m. 1000000) ms; step_fs = 1000000 }

abbrev pub num : ℕ → ℕ → ℕ → Tree
num p w n = Number p (vector w n)

abbrev pub nm : ℕ → List ℕ → Tree
nm p n = Named p n Whole

abbrev pub delayed : ℕ → ℕ → AssignmentKind
delayed p n = Delayed p (vector 32 n)

abbrev pub tg : ℕ → List ℕ → TargetTree
tg p n = NamedTarget p n Whole

abbrev pub id : ℕ → List ℕ → Identifier
id p n = record { at = p; name = n }

abbrev pub trees : List Tree → Trees
trees [] = none
trees (e ∷ es) = more e (trees es)

abbrev pub targets : List TargetTree → TargetTrees
targets [] = no_target
targets (e ∷ es) = more_targets e (targets es)

-- the digits of a text of 0, 1, x, z, lowest first
abbrev pub bits : List ℕ → List Digit
bits [] = []
bits (c ∷ cs) = (if c == 48 then Zero else (if c == 49 then One else (if c == 120 then X else Z))) ∷ bits cs

pub record Seen : Type 0 where
  pub kind : Kind
  pub wakes : List Wake
  pub changes : List (ℕ × List Digit)
  pub updates : List Update

pub record Shown : Type 0 where
  pub signals : List Signal
  pub nodes : List Node
  pub processes : List Seen

-- the signals that differ, from number n on
abbrev pub changed : ℕ → Map → Map → List (ℕ × List Digit)
changed n [] after = []
changed n (x ∷ xs) [] = []
changed n (x ∷ xs) (y ∷ ys) = if same_digits x y then changed (suc n) xs ys else (n, y) ∷ changed (suc n) xs ys

abbrev pub seen_after : Map → Proc → Run → Seen
seen_after m p r = record { kind = p.kind; wakes = p.wakes; changes = changed 0 m r.signals; updates = r.updates }

abbrev pub seen : Map → Proc → Seen
seen m p = seen_after m p (p.run m [])

abbrev pub shown : Map → Result Design Broken → Result Shown Broken
shown m (Ok d) = Ok (record { signals = map signal_of d.signals; nodes = map node_of d.nodes; processes = map (seen m) d.processes })
shown m (Err b) = Err b

abbrev pub sg : List ℕ → ℕ → Digit → Signal
sg p w d = record { path = p; width = w; start = d }

abbrev pub wk : ℕ → WakeEdge → Wake
wk n e = record { sig = record { 0 = n }; edge = e }

abbrev pub up : ℕ → ℕ → List Digit → Update
up s l ds = record { sig = record { 0 = s }; low = l; bits = ds; delay = 0 }
