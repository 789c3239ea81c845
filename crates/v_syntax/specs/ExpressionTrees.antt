-- Expressions and targets as trees, without where they lie in memory (IEEE 1364-2005, annex A.8). The names are those of the code's types.
use Rattle.std.specs.Prelude.{ℕ, ◌+◌, max, List, [], ◌∷◌}
use Rattle.four_value.specs.declared.Digit.{Digit}
use Rattle.v_syntax.specs.declared.expression.UnaryOperator.{UnaryOperator}
use Rattle.v_syntax.specs.declared.expression.BinaryOperator.{BinaryOperator}
use Rattle.v_syntax.specs.declared.expression.Expression as code
use Rattle.v_syntax.specs.declared.expression.Expression.{Row_of-Expression, end_of-Expression, more_of-Expression}
use Rattle.v_syntax.specs.declared.expression.Selects as code_selects
use Rattle.v_syntax.specs.declared.expression.Select as code_select
use Rattle.v_syntax.specs.declared.expression.Target as code_target
use Rattle.v_syntax.specs.declared.expression.Target.{Row_of-Target, end_of-Target, more_of-Target}

-- A number behind `Number`, `Named`, a select or a bracket is that of the node's first token.
mutual
  pub data Tree : Type 0 where
    Number : ℕ → List Digit → Tree
    Named : ℕ → List ℕ → SelectsTree → Tree
    Bracketed : ℕ → Tree → Tree
    Unary : ℕ → UnaryOperator → Tree → Tree
    Binary : BinaryOperator → Tree → Tree → Tree
    Conditional : Tree → Tree → Tree → Tree
    Concatenation : ℕ → Trees → Tree
    Replication : ℕ → Tree → Trees → Tree

  pub data SelectsTree : Type 0 where
    Whole : SelectsTree
    One : SelectTree → SelectsTree
    OfWord : ℕ → Tree → SelectTree → SelectsTree

  pub data SelectTree : Type 0 where
    Bit : ℕ → Tree → SelectTree
    Part : ℕ → Tree → Tree → SelectTree
    IndexedPart : ℕ → Tree → Tree → SelectTree

  pub data Trees : Type 0 where
    none : Trees
    more : Tree → Trees → Trees

mutual
  pub data TargetTree : Type 0 where
    NamedTarget : ℕ → List ℕ → SelectsTree → TargetTree
    JoinedTarget : ℕ → TargetTrees → TargetTree

  pub data TargetTrees : Type 0 where
    no_target : TargetTrees
    more_targets : TargetTree → TargetTrees → TargetTrees

-- ---- the trees of the code's values

abbrev mutual
  pub view : code.Expression → Tree
  view (code.Number at ds) = Number at ds
  view (code.Operand' at name s) = Named at name (view_selects s)
  view (code.Bracketed' at p e) = Bracketed at (view e)
  view (code.Unary' at op p e) = Unary at op (view e)
  view (code.Binary' op p l q r) = Binary op (view l) (view r)
  view (code.Conditional' p c q a r b) = Conditional (view c) (view a) (view b)
  view (code.Concatenation' at shape all) = Concatenation at (view_row all)
  view (code.Replication' at p e shape all) = Replication at (view e) (view_row all)

  pub view_selects : code_selects.Selects → SelectsTree
  view_selects code_selects.Whole = Whole
  view_selects (code_selects.One s) = One (view_select s)
  view_selects (code_selects.OfWord' at p e s) = OfWord at (view e) (view_select s)

  pub view_select : code_select.Select → SelectTree
  view_select (code_select.Bit' at p e) = Bit at (view e)
  view_select (code_select.Part' at p l q r) = Part at (view l) (view r)
  view_select (code_select.IndexedPart' at p b q w) = IndexedPart at (view b) (view w)

  pub view_row : {m : _} → Row_of-Expression m → Trees
  view_row end_of-Expression = none
  view_row (more_of-Expression e rest) = more (view e) (view_row rest)

abbrev pub views : List code.Expression → Trees
views [] = none
views (e ∷ es) = more (view e) (views es)

abbrev mutual
  pub view_target : code_target.Target → TargetTree
  view_target (code_target.Operand o) = NamedTarget o.at o.name (view_selects o.selects)
  view_target (code_target.Concatenation' at shape all) = JoinedTarget at (view_target_row all)

  pub view_target_row : {m : _} → Row_of-Target m → TargetTrees
  view_target_row end_of-Target = no_target
  view_target_row (more_of-Target t rest) = more_targets (view_target t) (view_target_row rest)

abbrev pub view_targets : List code_target.Target → TargetTrees
view_targets [] = no_target
view_targets (t ∷ ts) = more_targets (view_target t) (view_targets ts)

-- ---- heights

-- A number or a name is 1; a bracketed expression, an operator, a select and a concatenation are one more than their
-- highest part. Two selects stand beside one another.
unfoldable mutual
  pub height : Tree → ℕ
  height (Number at ds) = 1
  height (Named at name s) = selects_height s
  height (Bracketed at e) = 1 + height e
  height (Unary at op e) = 1 + height e
  height (Binary op l r) = 1 + max (height l) (height r)
  height (Conditional c a b) = 1 + max (height c) (max (height a) (height b))
  height (Concatenation at es) = 1 + trees_height es
  height (Replication at e es) = 1 + max (height e) (trees_height es)

  -- of a name with these selects
  pub selects_height : SelectsTree → ℕ
  selects_height Whole = 1
  selects_height (One s) = 1 + select_height s
  selects_height (OfWord at e s) = max (1 + height e) (1 + select_height s)

  -- of the highest part
  pub select_height : SelectTree → ℕ
  select_height (Bit at e) = height e
  select_height (Part at l r) = max (height l) (height r)
  select_height (IndexedPart at b w) = max (height b) (height w)

  pub trees_height : Trees → ℕ
  trees_height none = 0
  trees_height (more e es) = max (height e) (trees_height es)

-- A target counts as the expression that it spells.
unfoldable mutual
  pub target_height : TargetTree → ℕ
  target_height (NamedTarget at name s) = selects_height s
  target_height (JoinedTarget at ts) = 1 + targets_height ts

  pub targets_height : TargetTrees → ℕ
  targets_height no_target = 0
  targets_height (more_targets t ts) = max (target_height t) (targets_height ts)

-- the number of an expression's first token
unfoldable pub first_at : Tree → ℕ
first_at (Number at ds) = at
first_at (Named at name s) = at
first_at (Bracketed at e) = at
first_at (Unary at op e) = at
first_at (Binary op l r) = first_at l
first_at (Conditional c a b) = first_at c
first_at (Concatenation at es) = at
first_at (Replication at e es) = at
