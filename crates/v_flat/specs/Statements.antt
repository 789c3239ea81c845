-- Statements (IEEE 1364-2005, clause 9): what is broken first, which signals are read, and one activation.
use Rattle.std.specs.Prelude.{ℕ, zero, suc, List, [], ◌∷◌, ◌++◌, max, Option, None, Some, is_some, unwrap_or, Bool, true, false, ◌||◌, bytes_eq, if◌then◌else◌}
use Rattle.four_value.specs.declared.Digit.{Digit}
use Rattle.four_value.specs.declared.Digit.TheVariants.{Zero, One as OneDigit, X, Z}
use Rattle.four_value.specs.Vector.{resize}
use Rattle.gpi.specs.declared.acts.CaseKind.{CaseKind as Agreement}
use Rattle.gpi.specs.declared.acts.CaseKind.TheVariants.{Exact, AnyZ, AnyXz}
use Rattle.gpi.specs.declared.types.Update.{Update}
use Rattle.gpi.specs.Operators.{truth}
use Rattle.gpi.specs.Terms.{read}
use Rattle.gpi.specs.Cases.{all_agree}
use Rattle.gpi.specs.Targets.{whole_update}
use Rattle.gpi.specs.Activation.{Run, blocking, nonblocking, by_truth}
use Rattle.v_syntax.specs.declared.statement.Identifier.{Identifier}
use Rattle.v_syntax.specs.declared.statement.AssignmentKind.{AssignmentKind}
use Rattle.v_syntax.specs.declared.statement.AssignmentKind.TheVariants as assignment
use Rattle.v_syntax.specs.declared.statement.CaseKind.{CaseKind}
use Rattle.v_syntax.specs.declared.statement.CaseKind.TheVariants as case_kind
use Rattle.v_syntax.specs.ExpressionTrees.{Tree, Number, Named, Bracketed, Unary, Binary, Conditional, Concatenation, Replication, SelectsTree, Whole, One, OfWord, SelectTree, Bit, Part, IndexedPart, Trees, none, more, TargetTree, NamedTarget, JoinedTarget, TargetTrees, no_target, more_targets}
use Rattle.v_syntax.specs.StatementTrees.{Variable as Assigned, HeaderTree, Header, StatementTree, Null, Block, Assignment, If, IfElse, Case, For, TaskEnable, Delay, StatementTrees, no_statement, more_statements, CaseTree, Match, Default, CaseTrees, no_case, more_cases}
use Rattle.v_flat.specs.declared.scope.rule.ElabRule.TheVariants as rule
use Rattle.v_flat.specs.declared.scope.found.Found.{Found}
use Rattle.v_flat.specs.declared.scope.found.Found.TheVariants.{Sound, Noted, Lost}
use Rattle.v_flat.specs.Scope.Rules.{at}
use Rattle.v_flat.specs.Scope.Found.{fine, lost, each, both, and_then, broken, wants}
use Rattle.v_flat.specs.declared.scope.meaning.Bounds.{Bounds}
use Rattle.v_flat.specs.declared.scope.meaning.DataKind.{DataKind}
use Rattle.v_flat.specs.declared.scope.meaning.DataKind.TheVariants.{Input, Net, Register}
use Rattle.v_flat.specs.declared.scope.meaning.DataObject.{DataObject}
use Rattle.v_flat.specs.declared.scope.meaning.Meaning.{Meaning}
use Rattle.v_flat.specs.declared.scope.meaning.Meaning.TheVariants.{Constant, Object, Later}
use Rattle.v_flat.specs.Scope.Scope.{width_of, Scope, find, named}
use Rattle.v_flat.specs.Objects.{count_of}
use Rattle.v_flat.specs.Expressions.{Values, width, meaning, own_value}
use Rattle.v_flat.specs.Checks.{checked, constant_width, constant_of, given_to}
use Rattle.v_flat.specs.Targets.{target_checked, target_width, updates}
use Rattle.v_flat.specs.declared.timing.Timing.{Timing}
use Rattle.v_flat.specs.Delays.{steps_of}

-- nothing but that nothing is broken
abbrev pub done : {A : Type 0} → Found A → Found (Unit {0})
done x = each (λ a. tt) x

-- ---- loops (clause 9.6)

-- the register that a loop counts in
abbrev pub counter_in : ℕ → DataObject → Option Bounds → DataKind → Found DataObject
counter_in p o (Some w) k = broken rule.BadRange p
counter_in p o None Register = Sound o
counter_in p o None Net = broken rule.BadTarget p
counter_in p o None Input = broken rule.BadTarget p

abbrev pub counter : ℕ → Option Meaning → Found DataObject
counter p None = broken rule.UnknownName p
counter p (Some Later) = broken rule.UnknownName p
counter p (Some (Constant ds b)) = broken rule.BadTarget p
counter p (Some (Object o)) = counter_in p o o.words o.kind

-- the second assignment has the name of the first
abbrev pub same_counter : Identifier → Identifier → Scope → Found (Unit {0})
same_counter i j s = if bytes_eq i.name j.name then fine else lost (at rule.BadTarget j.at) (counter j.at (find j.name s))

-- the scope of a turn: its counter is a constant
abbrev pub turn : List ℕ → DataObject → List Digit → Scope → Scope
turn n o v s = named n (Constant v o.bounds) s

-- the values of the turns, and the last value
abbrev pub Turns : Type 0
Turns = List (List Digit) × List Digit

abbrev pub more_turn : List Digit → Turns → Turns
more_turn v x = (v ∷ x.0, x.1)

abbrev pub where_true : Digit → List Digit → (Unit {0} → Found Turns) → Found Turns
where_true OneDigit v go = go tt
where_true Zero v go = Sound ([], v)
where_true X v go = Sound ([], v)
where_true Z v go = Sound ([], v)

-- from the value v on, with so many turns left; p is the place of the `for`
abbrev pub turns_from : ℕ → ℕ → List ℕ → DataObject → Tree → Tree → Scope → List Digit → Found Turns
turns_from zero p n o c d s v =
    and_then (constant_of (turn n o v s) c) (λ t. where_true (truth t) v (λ u. broken rule.LoopTooLong p))
turns_from (suc left) p n o c d s v =
    and_then (constant_of (turn n o v s) c) (λ t. where_true (truth t) v (λ u.
    and_then (given_to (width_of o.bounds) (turn n o v s) d) (λ e. each (more_turn v) (turns_from left p n o c d s (resize e (width_of o.bounds))))))

abbrev pub most_turns : ℕ
most_turns = 4096

-- the first value; the condition is asked before the second name
abbrev pub first_value : List ℕ → DataObject → Tree → Tree → Scope → Found (List Digit)
first_value n o e c s =
    and_then (given_to (width_of o.bounds) s e) (λ v. each (λ t. resize v (width_of o.bounds)) (constant_of (turn n o (resize v (width_of o.bounds)) s) c))

-- what each turn ends with is a constant, also where there is no turn; s is the scope of a turn
abbrev pub step_checked : Scope → Tree → Found (Unit {0})
step_checked s d = done (constant_width s d (checked s d))

abbrev pub turns : ℕ → HeaderTree → Scope → DataObject → Found Turns
turns p (Header (Assigned i e) c (Assigned j d)) s o =
    and_then (first_value i.name o e c s) (λ v. and_then (same_counter i j s) (λ u. and_then (step_checked (turn i.name o v s) d) (λ w.
    turns_from most_turns p i.name o c d s v)))

abbrev pub loop_name : HeaderTree → Identifier
loop_name (Header (Assigned i e) c (Assigned j d)) = i

-- ---- what is broken

abbrev pub all_turns : (List Digit → Found (Unit {0})) → List (List Digit) → Found (Unit {0})
all_turns f [] = fine
all_turns f (v ∷ vs) = each (λ x. tt) (both (f v) (all_turns f vs))

abbrev pub labels_checked : Scope → List Tree → Found (Unit {0})
labels_checked s [] = fine
labels_checked s (e ∷ es) = done (both (checked s e) (labels_checked s es))

-- the delay of an assignment, at its number; the others have none (clause 9.7.1)
abbrev pub delay_checked : {A : Type 0} → Timing → AssignmentKind → Found A → Found A
delay_checked q (assignment.Delayed p ds) x = wants (is_some (steps_of q ds)) rule.BadDelay p x
delay_checked q assignment.Blocking x = x
delay_checked q assignment.Nonblocking x = x

-- q is the timing of the module
abbrev mutual
  pub statement_checked : Timing → Scope → StatementTree → Found (Unit {0})
  statement_checked q s Null = fine
  statement_checked q s (Block l ss) = statements_checked q s ss
  statement_checked q s (Assignment k t e) = delay_checked q k (done (both (target_checked s t) (checked s e)))
  statement_checked q s (If c a) = done (both (checked s c) (statement_checked q s a))
  statement_checked q s (IfElse c a b) = done (both (checked s c) (both (statement_checked q s a) (statement_checked q s b)))
  statement_checked q s (Case k e cs) = done (both (checked s e) (cases_checked q s cs))
  statement_checked q s (For p h body) =
      and_then (counter (loop_name h).at (find (loop_name h).name s)) (λ o. and_then (turns p h s o) (λ x.
      all_turns (λ v. statement_checked q (turn (loop_name h).name o v s) body) x.0))
  statement_checked q s (TaskEnable t es) = fine
  statement_checked q s (Delay p ds) = fine

  pub statements_checked : Timing → Scope → StatementTrees → Found (Unit {0})
  statements_checked q s no_statement = fine
  statements_checked q s (more_statements a rest) = done (both (statement_checked q s a) (statements_checked q s rest))

  pub case_checked : Timing → Scope → CaseTree → Found (Unit {0})
  case_checked q s (Match es a) = done (both (labels_checked s es) (statement_checked q s a))
  case_checked q s (Default a) = statement_checked q s a

  pub cases_checked : Timing → Scope → CaseTrees → Found (Unit {0})
  cases_checked q s no_case = fine
  cases_checked q s (more_cases c cs) = done (both (case_checked q s c) (cases_checked q s cs))

-- ---- the turns of a sound loop, and its register

abbrev pub known_turns : Found Turns → Turns
known_turns (Sound x) = x
known_turns (Noted b x) = x
known_turns (Lost b) = ([], [])

-- what is made of the register that a name means, or else something other
abbrev pub with_counter : {A : Type 0} → Option Meaning → (DataObject → A) → A → A
with_counter (Some (Object o)) f other = f o
with_counter _ f other = other

-- ---- what is read: signals, as a first one and a count (clauses 6.1.2 and 9.7.5)

pub record Span : Type 0 where
  pub first : ℕ
  pub count : ℕ

abbrev pub name_read : Option Meaning → List Span
name_read (Some (Object o)) = record { first = o.first; count = count_of o.words } ∷ []
name_read _ = []

-- constants read nothing
abbrev mutual
  pub reads : Scope → Tree → List Span
  reads s (Number p ds) = []
  reads s (Named p n sel) = name_read (find n s) ++ selects_read s sel
  reads s (Bracketed p e) = reads s e
  reads s (Unary p op e) = reads s e
  reads s (Binary op l r) = reads s l ++ reads s r
  reads s (Conditional c a b) = reads s c ++ (reads s a ++ reads s b)
  reads s (Concatenation p es) = all_read s es
  reads s (Replication p c es) = all_read s es

  pub all_read : Scope → Trees → List Span
  all_read s none = []
  all_read s (more e es) = reads s e ++ all_read s es

  pub selects_read : Scope → SelectsTree → List Span
  selects_read s Whole = []
  selects_read s (One sel) = select_read s sel
  selects_read s (OfWord p i sel) = reads s i ++ select_read s sel

  pub select_read : Scope → SelectTree → List Span
  select_read s (Bit p i) = reads s i
  select_read s (Part p l r) = []
  select_read s (IndexedPart p b n) = reads s b

-- a target's indices are read
abbrev mutual
  pub target_read : Scope → TargetTree → List Span
  target_read s (NamedTarget p n sel) = selects_read s sel
  target_read s (JoinedTarget p ts) = targets_read s ts

  pub targets_read : Scope → TargetTrees → List Span
  targets_read s no_target = []
  targets_read s (more_targets t ts) = target_read s t ++ targets_read s ts

abbrev pub labels_read : Scope → List Tree → List Span
labels_read s [] = []
labels_read s (e ∷ es) = reads s e ++ labels_read s es

abbrev pub read_in_turns : (List Digit → List Span) → List (List Digit) → List Span
read_in_turns f [] = []
read_in_turns f (v ∷ vs) = f v ++ read_in_turns f vs

abbrev mutual
  pub statement_reads : Scope → StatementTree → List Span
  statement_reads s Null = []
  statement_reads s (Block l ss) = statements_read s ss
  statement_reads s (Assignment k t e) = target_read s t ++ reads s e
  statement_reads s (If c a) = reads s c ++ statement_reads s a
  statement_reads s (IfElse c a b) = reads s c ++ (statement_reads s a ++ statement_reads s b)
  statement_reads s (Case k e cs) = reads s e ++ cases_read s cs
  statement_reads s (For p h body) =
      with_counter (find (loop_name h).name s) (λ o. read_in_turns (λ v. statement_reads (turn (loop_name h).name o v s) body) (known_turns (turns p h s o)).0) []
  statement_reads s (TaskEnable t es) = []
  statement_reads s (Delay p ds) = []

  pub statements_read : Scope → StatementTrees → List Span
  statements_read s no_statement = []
  statements_read s (more_statements a rest) = statement_reads s a ++ statements_read s rest

  pub case_read : Scope → CaseTree → List Span
  case_read s (Match es a) = labels_read s es ++ statement_reads s a
  case_read s (Default a) = statement_reads s a

  pub cases_read : Scope → CaseTrees → List Span
  cases_read s no_case = []
  cases_read s (more_cases c cs) = case_read s c ++ cases_read s cs

-- ---- an activation

abbrev pub values_of : Run → Values
values_of r = read r.signals

-- where no rule is broken a delay has steps
abbrev pub take_updates : Timing → AssignmentKind → List Update → Run → Run
take_updates q assignment.Blocking us r = blocking us r
take_updates q assignment.Nonblocking us r = nonblocking 0 us r
take_updates q (assignment.Delayed p ds) us r = nonblocking (unwrap_or (steps_of q ds) 0) us r

-- in the context of the greater width, and then resized (clauses 5.4.1 and 5.6)
abbrev pub assigned_value : ℕ → Scope → Tree → Values → List Digit
assigned_value w s e m = resize (meaning s e (max w (width s e)) m) w

abbrev pub assigned_updates : Scope → TargetTree → Tree → Values → List Update
assigned_updates s t e m = updates s t m (assigned_value (target_width s t) s e m)

abbrev pub assign : Timing → AssignmentKind → Scope → TargetTree → Tree → Run → Run
assign q k s t e r = take_updates q k (assigned_updates s t e (values_of r)) r

abbrev pub agreement_of : CaseKind → Agreement
agreement_of case_kind.Case = Exact
agreement_of case_kind.CaseZ = AnyZ
agreement_of case_kind.CaseX = AnyXz

abbrev pub any_agrees : Agreement → List Digit → ℕ → Scope → List Tree → Values → Bool
any_agrees k v w s [] m = false
any_agrees k v w s (e ∷ es) m = all_agree k v (meaning s e w m) || any_agrees k v w s es m

abbrev pub widest : Scope → List Tree → ℕ
widest s [] = 0
widest s (e ∷ es) = max (width s e) (widest s es)

abbrev pub case_width : Scope → CaseTrees → ℕ
case_width s no_case = 0
case_width s (more_cases (Match es a) cs) = max (widest s es) (case_width s cs)
case_width s (more_cases (Default a) cs) = case_width s cs

abbrev pub either_run : Bool → Run → Run → Run
either_run true a b = a
either_run false a b = b

-- turn by turn
abbrev pub run_turns : (List Digit → Run → Run) → List (List Digit) → Run → Run
run_turns f [] r = r
run_turns f (v ∷ vs) r = run_turns f vs (f v r)

-- the last value of a loop
abbrev pub leave_counter : DataObject → List Digit → Run → Run
leave_counter o v r = blocking (whole_update (Some o.first) v) r

abbrev mutual
  pub activation : Timing → Scope → StatementTree → Run → Run
  activation q s Null r = r
  activation q s (Block l ss) r = activations q s ss r
  activation q s (Assignment k t e) r = assign q k s t e r
  activation q s (If c a) r = by_truth (truth (own_value s c (values_of r))) (activation q s a r) r
  activation q s (IfElse c a b) r = by_truth (truth (own_value s c (values_of r))) (activation q s a r) (activation q s b r)
  activation q s (Case k e cs) r =
      chosen q (agreement_of k) (meaning s e (max (width s e) (case_width s cs)) (values_of r)) (max (width s e) (case_width s cs)) s cs r (default_run q s cs r)
  activation q s (For p h body) r =
      with_counter (find (loop_name h).name s) (λ o. leave_counter o (known_turns (turns p h s o)).1
      (run_turns (λ v. activation q (turn (loop_name h).name o v s) body) (known_turns (turns p h s o)).0 r)) r
  activation q s (TaskEnable t es) r = r
  activation q s (Delay p ds) r = r

  pub activations : Timing → Scope → StatementTrees → Run → Run
  activations q s no_statement r = r
  activations q s (more_statements a rest) r = activations q s rest (activation q s a r)

  -- the first item with a label that agrees, else the first default (clause 9.5)
  pub chosen : Timing → Agreement → List Digit → ℕ → Scope → CaseTrees → Run → Run → Run
  chosen q k v w s no_case r other = other
  chosen q k v w s (more_cases c cs) r other = chosen_item q k v w s c r (chosen q k v w s cs r other)

  pub chosen_item : Timing → Agreement → List Digit → ℕ → Scope → CaseTree → Run → Run → Run
  chosen_item q k v w s (Match es a) r other = either_run (any_agrees k v w s es (values_of r)) (activation q s a r) other
  chosen_item q k v w s (Default a) r other = other

  pub default_run : Timing → Scope → CaseTrees → Run → Run
  default_run q s no_case r = r
  default_run q s (more_cases c cs) r = default_item q s c r (default_run q s cs r)

  pub default_item : Timing → Scope → CaseTree → Run → Run → Run
  default_item q s (Match es a) r other = other
  default_item q s (Default a) r other = activation q s a r
