-- A means of proof: which of several broken rules counts, for the proofs of laws of a design.
use Rattle.std.specs.Prelude.{◌≡◌, ◌<◌, ◌≤◌, ◌⊎◌, ℕ, List, [], ◌∷◌, Option, Some, None, Err, length, slice_get}
use Rattle.v_syntax.specs.ExpressionTrees.{Tree, Number, Named, Bracketed, Unary, Binary, Conditional, Concatenation, Replication, Trees, none, more}
use Rattle.v_syntax.specs.StatementTrees.{StatementTree, Null, Block, Assignment, If, IfElse, Case, For, TaskEnable, Delay, StatementTrees, no_statement, more_statements, CaseTree, Match, Default, CaseTrees, no_case, more_cases}
use Rattle.v_syntax.specs.SourceTrees.{Always, Initial, KindTree}
use Rattle.v_flat.specs.declared.scope.rule.Broken.{Broken}
use Rattle.v_flat.specs.declared.scope.found.Found.{Found}
use Rattle.v_flat.specs.declared.scope.found.Found.TheVariants.{Sound, Noted, Lost}
use Rattle.v_flat.specs.Scope.Found.{ended}
use Rattle.v_flat.specs.Scope.Rules.{number_of}
use Rattle.v_flat.specs.Scope.Scope.{Scope}
use Rattle.v_flat.specs.Checks.{checked}
use Rattle.v_flat.specs.declared.timing.Timing.{Timing}
use Rattle.v_flat.specs.Design.{State, plain_item}

-- a stands before b in the text, or at one place its rule stands in the table no later than that of b
abbrev pub IsFirst : Broken → Broken → Type 0
IsFirst a b = (a.place < b.place) ⊎ ((a.place ≡ b.place) × (number_of a.rule ≤ number_of b.rule))

-- the one of these that counts: it is one of them, and the first; none where none is broken
abbrev pub Counts : List Broken → Option Broken → Type 0
Counts bs None = length bs ≡ 0
Counts bs (Some b) = ((i : ℕ) × (slice_get bs i ≡ Some b)) × ((i : ℕ) (c : Broken) → slice_get bs i ≡ Some c → IsFirst b c)

-- what is broken first in a part
abbrev pub fault : {A : Type 0} → Found A → Option Broken
fault (Sound a) = None
fault (Noted b a) = Some b
fault (Lost b) = Some b

-- x is e, or an operand in it, however deep; what a select chooses by is none
abbrev mutual
  pub IsIn : Tree → Tree → Type 0
  IsIn x (Number p ds) = x ≡ Number p ds
  IsIn x (Named p n sel) = x ≡ Named p n sel
  IsIn x (Bracketed p e) = (x ≡ Bracketed p e) ⊎ IsIn x e
  IsIn x (Unary p op e) = (x ≡ Unary p op e) ⊎ IsIn x e
  IsIn x (Binary op l r) = (x ≡ Binary op l r) ⊎ (IsIn x l ⊎ IsIn x r)
  IsIn x (Conditional c a b) = (x ≡ Conditional c a b) ⊎ (IsIn x c ⊎ (IsIn x a ⊎ IsIn x b))
  IsIn x (Concatenation p es) = (x ≡ Concatenation p es) ⊎ IsInOne x es
  IsIn x (Replication p c es) = (x ≡ Replication p c es) ⊎ (IsIn x c ⊎ IsInOne x es)

  pub IsInOne : Tree → Trees → Type 0
  IsInOne x none = ⊥
  IsInOne x (more e es) = IsIn x e ⊎ IsInOne x es

-- a rule that is broken in an operand is hidden by none that is broken later: the rule that counts in the whole is that one or an earlier
abbrev pub First_faults_count : Type 0
First_faults_count = (s : Scope) (x e : Tree) (b : Broken) → IsIn x e → fault (checked s x) ≡ Some b → (c : Broken) × (fault (checked s e) ≡ Some c) × IsFirst c b

-- ---- in a procedure

abbrev pub IsALabel : Tree → List Tree → Type 0
IsALabel x [] = ⊥
IsALabel x (e ∷ es) = IsIn x e ⊎ IsALabel x es

-- x stands in the statement, as a condition, a label or a value, or in one of these; a loop is asked turn by turn, so what stands in it isn't meant
abbrev mutual
  pub StandsIn : Tree → StatementTree → Type 0
  StandsIn x Null = ⊥
  StandsIn x (Block l ss) = StandsInOne x ss
  StandsIn x (Assignment k t e) = IsIn x e
  StandsIn x (If c a) = IsIn x c ⊎ StandsIn x a
  StandsIn x (IfElse c a b) = IsIn x c ⊎ (StandsIn x a ⊎ StandsIn x b)
  StandsIn x (Case k e cs) = IsIn x e ⊎ StandsInCases x cs
  StandsIn x (For p h body) = ⊥
  StandsIn x (TaskEnable t es) = ⊥
  StandsIn x (Delay p ds) = ⊥

  pub StandsInOne : Tree → StatementTrees → Type 0
  StandsInOne x no_statement = ⊥
  StandsInOne x (more_statements a rest) = StandsIn x a ⊎ StandsInOne x rest

  pub StandsInCase : Tree → CaseTree → Type 0
  StandsInCase x (Match es a) = IsALabel x es ⊎ StandsIn x a
  StandsInCase x (Default a) = StandsIn x a

  pub StandsInCases : Tree → CaseTrees → Type 0
  StandsInCases x no_case = ⊥
  StandsInCases x (more_cases c cs) = StandsInCase x c ⊎ StandsInCases x cs

-- the item is a procedure with this statement
abbrev pub IsProcedure : StatementTree → KindTree → Type 0
IsProcedure a (Always c b) = a ≡ b
IsProcedure a (Initial b) = a ≡ b
IsProcedure a _ = ⊥

-- a rule that is broken in an expression of a procedure ends the walk at that item, with that rule or an earlier one
abbrev pub First_faults_end_procedures : Type 0
First_faults_end_procedures = (timing : Timing) (p : ℕ) (k : KindTree) (a : StatementTree) (s : State) (x : Tree) (b : Broken) → IsProcedure a k → StandsIn x a → fault (checked s.scope x) ≡ Some b
    → (c : Broken) × (ended (plain_item timing p k s) ≡ Err c) × IsFirst c b
