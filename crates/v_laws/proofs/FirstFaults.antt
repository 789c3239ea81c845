-- A rule that is broken in an expression of a procedure is hidden by none that is broken later.
use Rattle.std.proofs.Common.{◌≡◌, ◌+◌, inl, inr, ℕ, Bool, true, false, List, [], ◌∷◌, length, nat_le, Some, is_some, Err, sym, ap, subst}
use Rattle.v_syntax.specs.declared.statement.AssignmentKind.{AssignmentKind}
use Rattle.v_syntax.specs.declared.statement.AssignmentKind.TheVariants.{Blocking, Delayed, Nonblocking}
use Rattle.v_syntax.specs.ExpressionTrees.{Tree}
use Rattle.v_syntax.specs.StatementTrees.{StatementTree, Null, Block, Assignment, If, IfElse, Case, For, TaskEnable, Delay, StatementTrees, no_statement, more_statements, CaseTree, Match, Default, CaseTrees, no_case, more_cases}
use Rattle.v_syntax.specs.SourceTrees.{Always, ControlTree, Drivers, Events, Implicit, Initial, Instance, Integers, KindTree, Nets, Parameters, Ports, Registers}
use Rattle.v_flat.specs.declared.scope.rule.Broken.{Broken}
use Rattle.v_flat.specs.declared.scope.rule.ElabRule.{ElabRule}
use Rattle.v_flat.specs.declared.scope.rule.ElabRule.TheVariants as rule
use Rattle.v_flat.specs.declared.scope.found.Found.{Found}
use Rattle.v_flat.specs.declared.scope.found.Found.TheVariants.{Sound, Noted, Lost}
use Rattle.v_flat.specs.Scope.Found.{both, each, ended, wants}
use Rattle.v_flat.specs.Scope.Limits.{most_parts}
use Rattle.v_flat.specs.Scope.Rules.{at}
use Rattle.v_flat.specs.Scope.Scope.{Scope}
use Rattle.gpi.specs.declared.design.Kind.TheVariants as process_kind
use Rattle.v_flat.specs.Checks.{checked}
use Rattle.v_flat.specs.Targets.{target_checked}
use Rattle.v_flat.specs.declared.timing.Timing.{Timing}
use Rattle.v_flat.specs.Delays.{steps_of}
use Rattle.v_flat.specs.Statements.{case_checked, cases_checked, delay_checked, done, labels_checked, statement_checked, statement_reads, statements_checked}
use Rattle.v_flat.specs.Design.{State, adding, always, always_item, events_of, initial_item, plain_item, running, wakes_of}
use Rattle.v_laws.specs.Least.{First_faults_end_procedures, IsALabel, IsProcedure, StandsIn, StandsInCase, StandsInCases, StandsInOne, fault}
use Rattle.v_laws.proofs.Least.{Reaches, each_reaches, in_reaches, left_reaches, noted_reaches, reaches_itself, reaches_on, right_reaches}

-- what is asked beside it
first_done : {A B C : Type 0} (f : A × B → C) (x : Found A) (y : Found B) → Reaches x (each f (both x y))
first_done f x y = reaches_on x (both x y) (each f (both x y)) (left_reaches x y) (each_reaches f (both x y))

second_done : {A B C : Type 0} (f : A × B → C) (x : Found A) (y : Found B) → Reaches y (each f (both x y))
second_done f x y = reaches_on y (both x y) (each f (both x y)) (right_reaches x y) (each_reaches f (both x y))

wants_reaches : {A : Type 0} (ok : Bool) (r : ElabRule) (p : ℕ) (x : Found A) → Reaches x (wants ok r p x)
wants_reaches true r p x = reaches_itself x
wants_reaches false r p x = noted_reaches (at r p) x

-- the delay is asked beside it too
delay_reaches : {A : Type 0} (timing : Timing) (k : AssignmentKind) (x : Found A) → Reaches x (delay_checked timing k x)
delay_reaches timing Blocking x = reaches_itself x
delay_reaches timing Nonblocking x = reaches_itself x
delay_reaches timing (Delayed p ds) x = wants_reaches (is_some (steps_of timing ds)) rule.BadDelay p x

module _ (timing : Timing) (s : Scope) (x : Tree) where
  label_reaches : (es : List Tree) → IsALabel x es → Reaches (checked s x) (labels_checked s es)
  label_reaches [] h = absurd h
  label_reaches (e ∷ es) (inl h) = reaches_on (checked s x) (checked s e) (labels_checked s (e ∷ es)) (in_reaches s x e h) (first_done (λ a. tt) (checked s e) (labels_checked s es))
  label_reaches (e ∷ es) (inr h) = reaches_on (checked s x) (labels_checked s es) (labels_checked s (e ∷ es)) (label_reaches es h) (second_done (λ a. tt) (checked s e) (labels_checked s es))

  mutual
    statement_reaches : (a : StatementTree) → StandsIn x a → Reaches (checked s x) (statement_checked timing s a)
    statement_reaches Null h = absurd h
    statement_reaches (Block l ss) h = one_reaches ss h
    statement_reaches (Assignment k t e) h =
        let both_asked : Found (Unit {0}) = done (both (target_checked s t) (checked s e)) in
        reaches_on (checked s x) (checked s e) (statement_checked timing s (Assignment k t e)) (in_reaches s x e h)
        (reaches_on (checked s e) both_asked (statement_checked timing s (Assignment k t e)) (second_done (λ a. tt) (target_checked s t) (checked s e)) (delay_reaches timing k both_asked))
    statement_reaches (If c a) (inl h) = reaches_on (checked s x) (checked s c) (statement_checked timing s (If c a)) (in_reaches s x c h) (first_done (λ a. tt) (checked s c) (statement_checked timing s a))
    statement_reaches (If c a) (inr h) = reaches_on (checked s x) (statement_checked timing s a) (statement_checked timing s (If c a)) (statement_reaches a h) (second_done (λ a. tt) (checked s c) (statement_checked timing s a))
    statement_reaches (IfElse c a b) (inl h) =
        reaches_on (checked s x) (checked s c) (statement_checked timing s (IfElse c a b)) (in_reaches s x c h) (first_done (λ a. tt) (checked s c) (both (statement_checked timing s a) (statement_checked timing s b)))
    statement_reaches (IfElse c a b) (inr (inl h)) =
        reaches_on (checked s x) (both (statement_checked timing s a) (statement_checked timing s b)) (statement_checked timing s (IfElse c a b))
        (reaches_on (checked s x) (statement_checked timing s a) (both (statement_checked timing s a) (statement_checked timing s b)) (statement_reaches a h) (left_reaches (statement_checked timing s a) (statement_checked timing s b)))
        (second_done (λ a. tt) (checked s c) (both (statement_checked timing s a) (statement_checked timing s b)))
    statement_reaches (IfElse c a b) (inr (inr h)) =
        reaches_on (checked s x) (both (statement_checked timing s a) (statement_checked timing s b)) (statement_checked timing s (IfElse c a b))
        (reaches_on (checked s x) (statement_checked timing s b) (both (statement_checked timing s a) (statement_checked timing s b)) (statement_reaches b h) (right_reaches (statement_checked timing s a) (statement_checked timing s b)))
        (second_done (λ a. tt) (checked s c) (both (statement_checked timing s a) (statement_checked timing s b)))
    statement_reaches (Case k e cs) (inl h) = reaches_on (checked s x) (checked s e) (statement_checked timing s (Case k e cs)) (in_reaches s x e h) (first_done (λ a. tt) (checked s e) (cases_checked timing s cs))
    statement_reaches (Case k e cs) (inr h) = reaches_on (checked s x) (cases_checked timing s cs) (statement_checked timing s (Case k e cs)) (cases_reach cs h) (second_done (λ a. tt) (checked s e) (cases_checked timing s cs))
    statement_reaches (For p g body) h = absurd h
    statement_reaches (TaskEnable t es) h = absurd h
    statement_reaches (Delay p ds) h = absurd h

    one_reaches : (ss : StatementTrees) → StandsInOne x ss → Reaches (checked s x) (statements_checked timing s ss)
    one_reaches no_statement h = absurd h
    one_reaches (more_statements a rest) (inl h) =
        reaches_on (checked s x) (statement_checked timing s a) (statements_checked timing s (more_statements a rest)) (statement_reaches a h) (first_done (λ a. tt) (statement_checked timing s a) (statements_checked timing s rest))
    one_reaches (more_statements a rest) (inr h) =
        reaches_on (checked s x) (statements_checked timing s rest) (statements_checked timing s (more_statements a rest)) (one_reaches rest h) (second_done (λ a. tt) (statement_checked timing s a) (statements_checked timing s rest))

    case_reaches : (c : CaseTree) → StandsInCase x c → Reaches (checked s x) (case_checked timing s c)
    case_reaches (Match es a) (inl h) = reaches_on (checked s x) (labels_checked s es) (case_checked timing s (Match es a)) (label_reaches es h) (first_done (λ a. tt) (labels_checked s es) (statement_checked timing s a))
    case_reaches (Match es a) (inr h) = reaches_on (checked s x) (statement_checked timing s a) (case_checked timing s (Match es a)) (statement_reaches a h) (second_done (λ a. tt) (labels_checked s es) (statement_checked timing s a))
    case_reaches (Default a) h = statement_reaches a h

    cases_reach : (cs : CaseTrees) → StandsInCases x cs → Reaches (checked s x) (cases_checked timing s cs)
    cases_reach no_case h = absurd h
    cases_reach (more_cases c cs) (inl h) = reaches_on (checked s x) (case_checked timing s c) (cases_checked timing s (more_cases c cs)) (case_reaches c h) (first_done (λ a. tt) (case_checked timing s c) (cases_checked timing s cs))
    cases_reach (more_cases c cs) (inr h) = reaches_on (checked s x) (cases_checked timing s cs) (cases_checked timing s (more_cases c cs)) (cases_reach cs h) (second_done (λ a. tt) (case_checked timing s c) (cases_checked timing s cs))

-- ---- the item

always_reaches : (timing : Timing) (c : ControlTree) (a : StatementTree) (s : State) → Reaches (statement_checked timing s.scope a) (always_item timing c a s)
always_reaches timing Implicit a s = each_reaches (λ u. always timing (wakes_of (statement_reads s.scope a) s.design) a s) (statement_checked timing s.scope a)
always_reaches timing (Events es) a s = second_done (λ x. always timing x.0 a s) (events_of s.scope es) (statement_checked timing s.scope a)

initial_reaches : (timing : Timing) (a : StatementTree) (s : State) → Reaches (statement_checked timing s.scope a) (initial_item timing a s)
initial_reaches timing a s = each_reaches (λ u. adding (record { kind = process_kind.Initial; wakes = []; run = running timing s.scope a }) s.driven s) (statement_checked timing s.scope a)

item_reaches : (p : ℕ) (s : State) (x : Found State) → Reaches x (wants (nat_le (length s.design.processes + 1) most_parts) rule.TooMany p x)
item_reaches p s x = wants_reaches (nat_le (length s.design.processes + 1) most_parts) rule.TooMany p x

procedure_reaches : (timing : Timing) (p : ℕ) (k : KindTree) (a : StatementTree) (s : State) → IsProcedure a k → Reaches (statement_checked timing s.scope a) (plain_item timing p k s)
procedure_reaches timing p (Always c b) a s e =
    subst (λ (y : StatementTree). Reaches (statement_checked timing s.scope y) (plain_item timing p (Always c b) s)) (sym e)
    (reaches_on (statement_checked timing s.scope b) (always_item timing c b s) (plain_item timing p (Always c b) s) (always_reaches timing c b s) (item_reaches p s (always_item timing c b s)))
procedure_reaches timing p (Initial b) a s e =
    subst (λ (y : StatementTree). Reaches (statement_checked timing s.scope y) (plain_item timing p (Initial b) s)) (sym e)
    (reaches_on (statement_checked timing s.scope b) (initial_item timing b s) (plain_item timing p (Initial b) s) (initial_reaches timing b s) (item_reaches p s (initial_item timing b s)))
procedure_reaches timing p (Ports h is) a s e = absurd e
procedure_reaches timing p (Nets r ns) a s e = absurd e
procedure_reaches timing p (Registers r rs) a s e = absurd e
procedure_reaches timing p (Integers is) a s e = absurd e
procedure_reaches timing p (Parameters k r ps) a s e = absurd e
procedure_reaches timing p (Drivers xs) a s e = absurd e
procedure_reaches timing p (Instance m v i c) a s e = absurd e

ends : {A : Type 0} (x : Found A) (c : Broken) → fault x ≡ Some c → ended x ≡ Err c
ends (Sound a) c e = cc
ends (Noted b a) c e = let f : b ≡ c = cc in ap Err f
ends (Lost b) c e = let f : b ≡ c = cc in ap Err f

pub first_faults_end_procedures : First_faults_end_procedures
first_faults_end_procedures timing p k a s x b is here f =
    let r = reaches_on (checked s.scope x) (statement_checked timing s.scope a) (plain_item timing p k s) (statement_reaches timing s.scope x a here) (procedure_reaches timing p k a s is) b f in (r.0, ends (plain_item timing p k s) r.0 r.1, r.2)
