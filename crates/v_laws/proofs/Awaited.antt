-- What is read is awaited, so what a process waits for suffices for what it does.
use Rattle.std.proofs.Common.{◌≡◌, ◌+◌, ◌<◌, ◌≤◌, ◌||◌, ◌⊎◌, inl, inr, ◌∙◌, ℕ, zero, suc, Bool, true, false, nat_le, cond, max, List, [], ◌∷◌, ◌++◌, length, map, Option, Some, None, refl, sym, ap, subst, arith, if◌then◌else◌}
use Rattle.std.specs.List.{filter, range_with_len}
use Rattle.std.specs.Prelude.{bytes_eq}
use Rattle.std.proofs.lemmas.Bool.Decides.{nat_tests}
use Rattle.std.proofs.lemmas.List.Folds.{list_any-append}
use Rattle.four_value.specs.declared.Digit.{Digit}
use Rattle.four_value.specs.Vector.{resize}
use Rattle.gpi.specs.declared.design.Kind.TheVariants as process_kind
use Rattle.gpi.specs.declared.types.Update.{Update}
use Rattle.gpi.specs.Activation.{Map, blocking}
use Rattle.gpi.specs.Targets.{whole_update}
use Rattle.gpi.specs.Terms.{read}
use Rattle.v_syntax.specs.ExpressionTrees.{Tree, Number, Named, Bracketed, Unary, Binary, Conditional, Concatenation, Replication, SelectsTree, Whole, One, OfWord, SelectTree, Bit, Part, IndexedPart, Trees, none, more, TargetTree, NamedTarget, JoinedTarget, TargetTrees, no_target, more_targets}
use Rattle.v_syntax.specs.StatementTrees.{StatementTree, Null, Block, Assignment, If, IfElse, Case, For, TaskEnable, Delay, StatementTrees, no_statement, more_statements, CaseTree, Match, Default, CaseTrees, no_case, more_cases}
use Rattle.v_flat.specs.declared.scope.meaning.DataObject.{DataObject}
use Rattle.v_flat.specs.declared.scope.meaning.Meaning.{Meaning}
use Rattle.v_flat.specs.declared.scope.meaning.Meaning.TheVariants.{Constant, Object, Later}
use Rattle.v_flat.specs.Scope.Scope.{Scope, find, width_of}
use Rattle.v_flat.specs.Objects.{count_of}
use Rattle.v_flat.specs.Expressions.{width}
use Rattle.v_flat.specs.Targets.{target_width, updates}
use Rattle.v_flat.specs.declared.timing.Timing.{Timing}
use Rattle.v_flat.specs.Statements.{Span, all_read, assigned_value, case_read, cases_read, known_turns, labels_read, loop_name, name_read, read_in_turns, reads, select_read, selects_read, statement_checked, statement_reads, statements_read, target_read, targets_read, turn, turns, with_counter}
use Rattle.v_flat.specs.Design.{Design, always, any_change, assigning, from, input_run, is_read, output_run, running, wakes_of}
use Rattle.v_flat.proofs.Holds.{holds_each}
use Rattle.v_laws.specs.Reads.{AddsWaiting, AgreeOn, Implicit_controls_wait_for_enough, IsAwaited, IsSettled, Lies, Suffices, WaitsForEnough}
use Rattle.v_laws.proofs.Members.{Member}
use Rattle.v_laws.proofs.Settled.{made_apart, statements_read_enough}
use Rattle.v_laws.proofs.Steady.{Steady}
use Rattle.v_laws.proofs.Sufficient.{is_in}

-- ---- what is read are signals of the design

or_either : (a b : Bool) → (a || b) ≡ true → (a ≡ true) ⊎ (b ≡ true)
or_either true b h = inl refl
or_either false b h = inr h

module _ (most : ℕ) where
  abbrev AreLow : List Span → Type 0
  AreLow xs = (k : ℕ) → is_read k xs ≡ true → k < most

  none_low : AreLow []
  none_low k e = cc

  both_low : (xs ys : List Span) → AreLow xs → AreLow ys → AreLow (xs ++ ys)
  both_low xs ys f g k e = go (or_either (is_read k xs) (is_read k ys) (sym (list_any-append (is_in k) xs ys) ∙ e))
    where
      go : (is_read k xs ≡ true) ⊎ (is_read k ys ≡ true) → k < most
      go (inl h) = f k h
      go (inr h) = g k h

  span_low : (first count : ℕ) → first + count ≤ most → AreLow (record { first = first; count = count } ∷ [])
  span_low first count h k e = grind (arith, nat_tests)

  name_low : (s : Scope) → Lies s most → (n : List ℕ) (x : Option Meaning) → find n s ≡ x → AreLow (name_read x)
  name_low s h n (Some (Object o)) e = span_low o.first (count_of o.words) (h n o e)
  name_low s h n (Some (Constant ds b)) e = none_low
  name_low s h n (Some Later) e = none_low
  name_low s h n None e = none_low

  mutual
    pub reads_low : (s : Scope) → Lies s most → (e : Tree) → AreLow (reads s e)
    reads_low s h (Number p ds) = none_low
    reads_low s h (Named p n sel) = both_low (name_read (find n s)) (selects_read s sel) (name_low s h n (find n s) refl) (selects_low s h sel)
    reads_low s h (Bracketed p e) = reads_low s h e
    reads_low s h (Unary p op e) = reads_low s h e
    reads_low s h (Binary op l r) = both_low (reads s l) (reads s r) (reads_low s h l) (reads_low s h r)
    reads_low s h (Conditional c a b) = both_low (reads s c) (reads s a ++ reads s b) (reads_low s h c) (both_low (reads s a) (reads s b) (reads_low s h a) (reads_low s h b))
    reads_low s h (Concatenation p es) = all_low s h es
    reads_low s h (Replication p c es) = all_low s h es

    all_low : (s : Scope) → Lies s most → (es : Trees) → AreLow (all_read s es)
    all_low s h none = none_low
    all_low s h (more e es) = both_low (reads s e) (all_read s es) (reads_low s h e) (all_low s h es)

    selects_low : (s : Scope) → Lies s most → (sel : SelectsTree) → AreLow (selects_read s sel)
    selects_low s h Whole = none_low
    selects_low s h (One sel) = select_low s h sel
    selects_low s h (OfWord p i sel) = both_low (reads s i) (select_read s sel) (reads_low s h i) (select_low s h sel)

    select_low : (s : Scope) → Lies s most → (sel : SelectTree) → AreLow (select_read s sel)
    select_low s h (Bit p i) = reads_low s h i
    select_low s h (Part p l r) = none_low
    select_low s h (IndexedPart p b n) = reads_low s h b

  mutual
    target_low : (s : Scope) → Lies s most → (t : TargetTree) → AreLow (target_read s t)
    target_low s h (NamedTarget p n sel) = selects_low s h sel
    target_low s h (JoinedTarget p ts) = targets_low s h ts

    targets_low : (s : Scope) → Lies s most → (ts : TargetTrees) → AreLow (targets_read s ts)
    targets_low s h no_target = none_low
    targets_low s h (more_targets t ts) = both_low (target_read s t) (targets_read s ts) (target_low s h t) (targets_low s h ts)

  labels_low : (s : Scope) → Lies s most → (es : List Tree) → AreLow (labels_read s es)
  labels_low s h [] = none_low
  labels_low s h (e ∷ es) = both_low (reads s e) (labels_read s es) (reads_low s h e) (labels_low s h es)

  turn_lies : (s : Scope) (name : List ℕ) (o : DataObject) (v : List Digit) → Lies s most → Lies (turn name o v s) most
  turn_lies s name o v h other p e = go (bytes_eq other name) e
    where
      go : (b : Bool) → (if b then Some (Constant v o.bounds) else s other) ≡ Some (Object p) → p.first + count_of p.words ≤ most
      go true f = cc
      go false f = h other p f

  turns_low : (f : List Digit → List Span) → ((v : List Digit) → AreLow (f v)) → (vs : List (List Digit)) → AreLow (read_in_turns f vs)
  turns_low f h [] = none_low
  turns_low f h (v ∷ vs) = both_low (f v) (read_in_turns f vs) (h v) (turns_low f h vs)

  counter_low : (x : Option Meaning) (f : DataObject → List Span) → ((o : DataObject) → AreLow (f o)) → AreLow (with_counter x f [])
  counter_low (Some (Object o)) f h = h o
  counter_low (Some (Constant ds b)) f h = none_low
  counter_low (Some Later) f h = none_low
  counter_low None f h = none_low

  mutual
    pub statement_low : (s : Scope) → Lies s most → (a : StatementTree) → AreLow (statement_reads s a)
    statement_low s h Null = none_low
    statement_low s h (Block l ss) = statements_low s h ss
    statement_low s h (Assignment k t e) = both_low (target_read s t) (reads s e) (target_low s h t) (reads_low s h e)
    statement_low s h (If c a) = both_low (reads s c) (statement_reads s a) (reads_low s h c) (statement_low s h a)
    statement_low s h (IfElse c a b) =
        both_low (reads s c) (statement_reads s a ++ statement_reads s b) (reads_low s h c) (both_low (statement_reads s a) (statement_reads s b) (statement_low s h a) (statement_low s h b))
    statement_low s h (Case k e cs) = both_low (reads s e) (cases_read s cs) (reads_low s h e) (cases_low s h cs)
    statement_low s h (For p x body) =
        counter_low (find (loop_name x).name s) (λ o. read_in_turns (λ v. statement_reads (turn (loop_name x).name o v s) body) (known_turns (turns p x s o)).0)
        (λ o. turns_low (λ v. statement_reads (turn (loop_name x).name o v s) body) (λ v. statement_low (turn (loop_name x).name o v s) (turn_lies s (loop_name x).name o v h) body) (known_turns (turns p x s o)).0)
    statement_low s h (TaskEnable t es) = none_low
    statement_low s h (Delay p ds) = none_low

    statements_low : (s : Scope) → Lies s most → (ss : StatementTrees) → AreLow (statements_read s ss)
    statements_low s h no_statement = none_low
    statements_low s h (more_statements a rest) = both_low (statement_reads s a) (statements_read s rest) (statement_low s h a) (statements_low s h rest)

    case_low : (s : Scope) → Lies s most → (c : CaseTree) → AreLow (case_read s c)
    case_low s h (Match es a) = both_low (labels_read s es) (statement_reads s a) (labels_low s h es) (statement_low s h a)
    case_low s h (Default a) = statement_low s h a

    cases_low : (s : Scope) → Lies s most → (cs : CaseTrees) → AreLow (cases_read s cs)
    cases_low s h no_case = none_low
    cases_low s h (more_cases c cs) = both_low (case_read s c) (cases_read s cs) (case_low s h c) (cases_low s h cs)

-- ---- what is read is awaited

in_range : (first count k : ℕ) → first ≤ k → k < first + count → Member k (range_with_len first count)
in_range first zero k l u = absurd (omega (arith, l, u))
in_range first (suc n) k l u = go (nat_le k first) refl (in_range (first + 1) n k)
  where
    go : (b : Bool) → nat_le k first ≡ b → (first + 1 ≤ k → k < first + 1 + n → Member k (range_with_len (first + 1) n)) → Member k (first ∷ range_with_len (first + 1) n)
    go true e later = inl (grind (arith, nat_tests))
    go false e later = inr (later (grind (arith, nat_tests)) (omega (arith, u)))

first_awaited : (b : Bool) (k : ℕ) (ns : List ℕ) → b ≡ true → IsAwaited (map any_change (cond b (k ∷ ns) ns)) k
first_awaited true k ns e = inl (refl, refl)
first_awaited false k ns e = cc

later_awaited : (b : Bool) (n k : ℕ) (ns : List ℕ) → IsAwaited (map any_change ns) k → IsAwaited (map any_change (cond b (n ∷ ns) ns)) k
later_awaited true n k ns h = inr h
later_awaited false n k ns h = h

awaited_among : (xs : List Span) (ns : List ℕ) (k : ℕ) → Member k ns → is_read k xs ≡ true → IsAwaited (map any_change (filter (λ n. is_read n xs) ns)) k
awaited_among xs [] k h e = absurd h
awaited_among xs (n ∷ ns) k (inl f) e =
    subst (λ (i : ℕ). IsAwaited (map any_change (filter (λ (j : ℕ). is_read j xs) (i ∷ ns))) k) f (first_awaited (is_read k xs) k (filter (λ (j : ℕ). is_read j xs) ns) e)
awaited_among xs (n ∷ ns) k (inr h) e = later_awaited (is_read n xs) n k (filter (λ (j : ℕ). is_read j xs) ns) (awaited_among xs ns k h e)

pub awaited : (xs : List Span) (d : Design) (k : ℕ) → k < length d.signals → is_read k xs ≡ true → IsAwaited (wakes_of xs d) k
awaited xs d k l e = awaited_among xs (range_with_len 0 (length d.signals)) k (in_range 0 (length d.signals) k (omega arith) (omega (arith, l))) e

-- maps that agree on what is awaited agree on what is read
agree_awaited : (xs : List Span) (d : Design) (m n : Map) → AreLow (length d.signals) xs → ((k : ℕ) → IsAwaited (wakes_of xs d) k → read m k ≡ read n k) → AgreeOn xs (read m) (read n)
agree_awaited xs d m n low h k e = h k (awaited xs d k (low k e) e)

-- ---- processes

module _ (s : Scope) (d : Design) (lies : Lies s (length d.signals)) where
  pub assigning_waits : (t : TargetTree) (e : Tree) → Steady s t → Suffices s e → WaitsForEnough (assigning s t e d)
  assigning_waits t e f g m h = record {
    at_once = updates s t (read m) (assigned_value (target_width s t) s e (read m));
    later = [];
    same = λ n i l a same. ap (λ (us : List Update). blocking us (from n i)) (
        f (read n) (read m) (assigned_value (target_width s t) s e (read n))
        ∙ ap (λ (ds : List Digit). updates s t (read m) (resize ds (target_width s t)))
        (sym (g (max (target_width s t) (width s e)) (read m) (read n) (agree_awaited (reads s e) d m n (reads_low (length d.signals) s lies e) a)))
        ) ∙ made_apart (updates s t (read m) (assigned_value (target_width s t) s e (read m))) [] (from n i);
  }

  pub input_waits : (o : DataObject) (e : Tree) → Suffices s e → WaitsForEnough (record { kind = process_kind.Assign; wakes = wakes_of (reads s e) d; run = input_run s o e })
  input_waits o e g m h = record {
    at_once = whole_update (Some o.first) (assigned_value (width_of o.bounds) s e (read m));
    later = [];
    same = λ n i l a same. ap (λ (ds : List Digit). blocking (whole_update (Some o.first) (resize ds (width_of o.bounds))) (from n i))
        (sym (g (max (width_of o.bounds) (width s e)) (read m) (read n) (agree_awaited (reads s e) d m n (reads_low (length d.signals) s lies e) a)))
        ∙ made_apart (whole_update (Some o.first) (assigned_value (width_of o.bounds) s e (read m))) [] (from n i);
  }

  pub implicit_waits : (timing : Timing) (a : StatementTree) → IsSettled timing s a
      → WaitsForEnough (record { kind = process_kind.Always; wakes = wakes_of (statement_reads s a) d; run = running timing s a })
  implicit_waits timing a settled m h =
      let x = settled m h in
      record { at_once = x.at_once; later = x.later; same = λ n g l k same. x.same n g (l, agree_awaited (statement_reads s a) d m n (statement_low (length d.signals) s lies a) k) same }

pub output_waits : (s : Scope) (o : DataObject) (t : TargetTree) → Steady s t → WaitsForEnough (record { kind = process_kind.Assign; wakes = any_change o.first ∷ []; run = output_run s o t })
output_waits s o t f m h = record {
  at_once = updates s t (read m) (resize (read m o.first) (target_width s t));
  later = [];
  same = λ n i l a same. ap (λ (us : List Update). blocking us (from n i)) (
      f (read n) (read m) (resize (read n o.first) (target_width s t))
      ∙ ap (λ (ds : List Digit). updates s t (read m) (resize ds (target_width s t))) (sym (a o.first (inl (refl, refl))))
      ) ∙ made_apart (updates s t (read m) (resize (read m o.first) (target_width s t))) [] (from n i);
}

pub implicit_controls_wait : Implicit_controls_wait_for_enough
implicit_controls_wait timing s a lies =
    holds_each (λ (u : Unit {0}). IsSettled timing s.scope a) (AddsWaiting s) (λ u. always timing (wakes_of (statement_reads s.scope a) s.design) a s) (statement_checked timing s.scope a)
    (statements_read_enough timing s.scope a)
    (λ u h. record {
      process = record { kind = process_kind.Always; wakes = wakes_of (statement_reads s.scope a) s.design; run = running timing s.scope a };
      added = refl;
      waits = implicit_waits s.scope s.design lies timing a h;
    })
