-- A means of proof: how far a design may be unrolled, for the proofs of elaboration: a limit of its own, since the standard has none for
-- loops (IEEE 1364-2005, clause 9.6).
use Rattle.std.specs.Prelude.{◌≡◌, ◌≤◌, ◌<◌, ◌+◌, ℕ, List, [], ◌∷◌, Result, Ok, Err}
use Rattle.port_io.specs.declared.ports.NoMemory.{NoMemory}
use Rattle.v_syntax.specs.ExpressionTrees.{Tree, Number, Named, Bracketed, Unary, Binary, Conditional, Concatenation, Replication, SelectsTree, Whole, One, OfWord, SelectTree, Bit, Part, IndexedPart, Trees, none, more, TargetTree, NamedTarget, JoinedTarget, TargetTrees, no_target, more_targets}
use Rattle.v_syntax.specs.StatementTrees.{StatementTree, Assignment, If, IfElse, Case, Match, Default, CaseTrees, no_case, more_cases}

-- the nodes of the statements of all procedures, each of them in each turn of the loops around it, and the turns
abbrev pub most_unrolled : ℕ
most_unrolled = 16777216

-- ---- nodes: numbers, names, operators, brackets and braces

abbrev mutual
  pub nodes : Tree → ℕ
  nodes (Number at ds) = 1
  nodes (Named at name s) = 1 + selects_nodes s
  nodes (Bracketed at e) = 1 + nodes e
  nodes (Unary at op e) = 1 + nodes e
  nodes (Binary op l r) = 1 + (nodes l + nodes r)
  nodes (Conditional c a b) = 1 + (nodes c + (nodes a + nodes b))
  nodes (Concatenation at es) = 1 + all_nodes es
  nodes (Replication at e es) = 1 + (nodes e + all_nodes es)

  pub selects_nodes : SelectsTree → ℕ
  selects_nodes Whole = 0
  selects_nodes (One s) = select_nodes s
  selects_nodes (OfWord at e s) = nodes e + select_nodes s

  pub select_nodes : SelectTree → ℕ
  select_nodes (Bit at e) = nodes e
  select_nodes (Part at l r) = nodes l + nodes r
  select_nodes (IndexedPart at b w) = nodes b + nodes w

  pub all_nodes : Trees → ℕ
  all_nodes none = 0
  all_nodes (more e es) = nodes e + all_nodes es

abbrev mutual
  pub target_nodes : TargetTree → ℕ
  target_nodes (NamedTarget at name s) = 1 + selects_nodes s
  target_nodes (JoinedTarget at ts) = 1 + targets_nodes ts

  pub targets_nodes : TargetTrees → ℕ
  targets_nodes no_target = 0
  targets_nodes (more_targets t ts) = target_nodes t + targets_nodes ts

abbrev pub label_nodes : List Tree → ℕ
label_nodes [] = 0
label_nodes (e ∷ es) = nodes e + label_nodes es

abbrev pub labels_nodes : CaseTrees → ℕ
labels_nodes no_case = 0
labels_nodes (more_cases (Match es a) cs) = label_nodes es + labels_nodes cs
labels_nodes (more_cases (Default a) cs) = labels_nodes cs

-- the statement itself and what stands in it, but for the statements in it and for the header of a loop, whose parts are constants
abbrev pub own_nodes : StatementTree → ℕ
own_nodes (Assignment k t e) = 1 + (target_nodes t + nodes e)
own_nodes (If c a) = 1 + nodes c
own_nodes (IfElse c a b) = 1 + nodes c
own_nodes (Case k e cs) = 1 + (nodes e + labels_nodes cs)
own_nodes a = 1

-- so many more are counted; or else they are too many, and as many of them as still may be are
abbrev pub Counts : ℕ → ℕ → ℕ → Result (Unit {0}) NoMemory → Type 0
Counts old new n (Ok u) = (new ≡ old + n) × (old ≤ most_unrolled → new ≤ most_unrolled)
Counts old new n (Err e) = (old ≤ new) × ((most_unrolled ≤ new) × (new < old + n))
