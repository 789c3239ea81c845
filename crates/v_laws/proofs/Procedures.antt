-- A procedure gives values to registers alone, at once or by updates that it leaves.
use Rattle.std.proofs.Common.{◌≡◌, ◌+◌, ◌-◌, ◌<◌, ◌≤◌, ◌&&◌, ◌⊎◌, inl, inr, ℕ, Bool, true, false, nat_le, nat_lt, List, [], ◌∷◌, ◌++◌, map, max, slice_get, unwrap_or, Option, Some, None, refl, ap, subst, arith, if◌then◌else◌}
use Rattle.std.specs.Prelude.{bytes_eq}
use Rattle.std.proofs.lemmas.Bool.Decides.{nat_tests}
use Rattle.four_value.specs.declared.Digit.{Digit}
use Rattle.four_value.specs.declared.Digit.TheVariants.{Zero, One as OneDigit, X, Z}
use Rattle.four_value.specs.Vector.{number}
use Rattle.gpi.specs.declared.acts.CaseKind.{CaseKind as Agreement}
use Rattle.gpi.specs.declared.selects.Overlap.{Overlap}
use Rattle.gpi.specs.declared.selects.Words.{Words as WordsOf}
use Rattle.gpi.specs.declared.types.Update.{Update}
use Rattle.gpi.specs.Activation.{Run, after, blocking, by_truth, nonblocking}
use Rattle.gpi.specs.Operators.{truth}
use Rattle.gpi.specs.Selects.{overlap_of, word_at}
use Rattle.gpi.specs.Targets.{part_update, whole_update}
use Rattle.v_syntax.specs.declared.statement.AssignmentKind.{AssignmentKind}
use Rattle.v_syntax.specs.declared.statement.AssignmentKind.TheVariants as assignment
use Rattle.v_syntax.specs.ExpressionTrees.{Tree, SelectsTree, Whole, One, OfWord, TargetTree, NamedTarget, JoinedTarget, TargetTrees, no_target, more_targets}
use Rattle.v_syntax.specs.StatementTrees.{HeaderTree, StatementTree, Null, Block, Assignment, If, IfElse, Case, For, TaskEnable, Delay, StatementTrees, no_statement, more_statements, CaseTree, Match, Default, CaseTrees, no_case, more_cases}
use Rattle.v_flat.specs.declared.scope.rule.ElabRule.TheVariants as rule
use Rattle.v_flat.specs.declared.scope.found.Found.{Found}
use Rattle.v_flat.specs.declared.scope.found.Found.TheVariants.{Sound, Noted, Lost}
use Rattle.v_flat.specs.declared.scope.meaning.Bounds.{Bounds}
use Rattle.v_flat.specs.declared.scope.meaning.DataKind.{DataKind}
use Rattle.v_flat.specs.declared.scope.meaning.DataKind.TheVariants.{Input, Net, Register}
use Rattle.v_flat.specs.declared.scope.meaning.DataObject.{DataObject}
use Rattle.v_flat.specs.declared.scope.meaning.Meaning.{Meaning}
use Rattle.v_flat.specs.declared.scope.meaning.Meaning.TheVariants.{Constant, Object, Later}
use Rattle.v_flat.specs.Scope.Found.{Holds, and_then, both}
use Rattle.v_flat.specs.Scope.Scope.{Scope, find, width_of}
use Rattle.v_flat.specs.Objects.{count_of, nature_of, range_of, words_of}
use Rattle.v_flat.specs.Expressions.{Values, meaning, own_value, select_base, select_width, width}
use Rattle.v_flat.specs.Checks.{by_nature, checked, of_memory, of_vector}
use Rattle.v_flat.specs.declared.manner.Manner.TheVariants.{Procedural}
use Rattle.v_flat.specs.Targets.{all_updates, fits_kind, name_update, named_target, object_update, target_checked, target_width, targets_checked, updates}
use Rattle.v_flat.specs.declared.timing.Timing.{Timing}
use Rattle.v_flat.specs.Delays.{steps_of}
use Rattle.v_flat.specs.Statements.{Turns, activation, activations, agreement_of, all_turns, any_agrees, assign, assigned_updates, assigned_value, case_checked, case_width, cases_checked, chosen, chosen_item, counter, counter_in, default_item, default_run, done, either_run, known_turns, labels_checked, leave_counter, loop_name, run_turns, statement_checked, statements_checked, take_updates, turn, turns, values_of, with_counter}
use Rattle.v_flat.proofs.Holds.{holds_any, holds_both, holds_each, holds_needs, holds_noted}
use Rattle.v_laws.proofs.Delays.{holds_delay}
use Rattle.v_laws.specs.Digits.{IsWritten, given_value}
use Rattle.v_laws.proofs.Applied.{all_keep, blocking_leaves}
use Rattle.v_laws.proofs.Fixed.{holds_all}
use Rattle.v_laws.proofs.Places.{some_signals}
use Rattle.v_laws.proofs.Recorded.{holds_braces, written_both}

module _ (Q : ℕ → Type 0) where
  -- Q holds of each signal of a register of the scope
  abbrev pub KnowsRegisters : Scope → Type 0
  KnowsRegisters s = (name : List ℕ) (o : DataObject) (n : ℕ) → find name s ≡ Some (Object o) → o.kind ≡ Register → o.first ≤ n → n < o.first + count_of o.words → Q n

  -- r goes over into t, and only what Q holds of gets values
  pub record Only (r t : Run) : Type 0 where
    pub signals : (n k : ℕ) (a : Digit) → (Q n → ⊥) → slice_get (given_value r n) k ≡ Some a → slice_get (given_value t n) k ≡ Some a
    pub updates : (n k : ℕ) → IsWritten t.updates n k → IsWritten r.updates n k ⊎ Q n

  only_itself : (r : Run) → Only r r
  only_itself r = record { signals = λ n k a q e. e; updates = λ n k w. inl w }

  only_on : (r t u : Run) → Only r t → Only t u → Only r u
  only_on r t u h g = record { signals = λ n k a q e. g.signals n k a q (h.signals n k a q e); updates = λ n k w. join n k (g.updates n k w) }
    where
      join : (n k : ℕ) → IsWritten t.updates n k ⊎ Q n → IsWritten r.updates n k ⊎ Q n
      join n k (inl w) = h.updates n k w
      join n k (inr q) = inr q

  -- ---- targets

  abbrev pub AllKnown : List Update → Type 0
  AllKnown us = (n k : ℕ) → IsWritten us n k → Q n

  whole_known : (first : Option ℕ) (bits : List Digit) → ((n : ℕ) → first ≡ Some n → Q n) → AllKnown (whole_update first bits)
  whole_known None bits f n k w = absurd w
  whole_known (Some m) bits f n k (inl w) = f n (ap Some w.0)
  whole_known (Some m) bits f n k (inr w) = absurd w

  part_known : (first : Option ℕ) (o : Option Overlap) (bits : List Digit) → ((n : ℕ) → first ≡ Some n → Q n) → AllKnown (part_update first o bits)
  part_known None o bits f n k w = absurd w
  part_known (Some m) None bits f n k w = absurd w
  part_known (Some m) (Some o) bits f n k (inl w) = f n (ap Some w.0)
  part_known (Some m) (Some o) bits f n k (inr w) = absurd w

  -- a word is one of the memory's
  word_in : (ws : WordsOf) (i : Option ℕ) (n : ℕ) → word_at ws i ≡ Some n → (ws.first.0 ≤ n) × (n < ws.first.0 + ws.count)
  word_in ws None n e = cc
  word_in ws (Some i) n e = go (nat_le ws.low i && nat_lt i (ws.low + ws.count)) refl e
    where
      go : (b : Bool) → (nat_le ws.low i && nat_lt i (ws.low + ws.count)) ≡ b → (if b then Some (ws.first.0 + (i - ws.low)) else None) ≡ Some n → (ws.first.0 ≤ n) × (n < ws.first.0 + ws.count)
      go true f g = let h : ws.first.0 + (i - ws.low) ≡ n = cc in (grind (arith, nat_tests), grind (arith, nat_tests))
      go false f g = cc

  pub object_known : (s : Scope) (o : DataObject) (w : Option Bounds) (sel : SelectsTree) (m : Values) (bits : List Digit) → ((n : ℕ) → o.first ≤ n → n < o.first + count_of w → Q n) → AllKnown (object_update o w s sel m bits)
  object_known s o None Whole m bits f = whole_known (Some o.first) bits (λ n e. (let g : o.first ≡ n = cc in f n (omega (arith, g)) (omega (arith, g))))
  object_known s o None (One sel) m bits f =
      part_known (Some o.first) (overlap_of (range_of o.bounds) (width_of o.bounds) (select_base s sel m) (select_width s sel)) bits (λ n e. (let g : o.first ≡ n = cc in f n (omega (arith, g)) (omega (arith, g))))
  object_known s o None (OfWord p i sel) m bits f = whole_known (Some o.first) bits (λ n e. (let g : o.first ≡ n = cc in f n (omega (arith, g)) (omega (arith, g))))
  object_known s o (Some w) Whole m bits f = λ n k x. absurd x
  object_known s o (Some w) (One sel) m bits f =
      whole_known (word_at (words_of o.first w) (select_base s sel m)) bits (λ n e. (let g = word_in (words_of o.first w) (select_base s sel m) n e in f n g.0 g.1))
  object_known s o (Some w) (OfWord p i sel) m bits f =
      part_known (word_at (words_of o.first w) (number (own_value s i m))) (overlap_of (range_of o.bounds) (width_of o.bounds) (select_base s sel m) (select_width s sel)) bits
      (λ n e. (let g = word_in (words_of o.first w) (number (own_value s i m)) n e in f n g.0 g.1))

  is_register : (k : DataKind) → fits_kind Procedural k ≡ true → k ≡ Register
  is_register Register h = refl
  is_register Net h = cc
  is_register Input h = cc

  abbrev NameKnown : Scope → SelectsTree → Option Meaning → Type 0
  NameKnown s sel x = (m : Values) (bits : List Digit) → AllKnown (name_update x s sel m bits)

  name_known : (s : Scope) (knows : KnowsRegisters s) (p : ℕ) (name : List ℕ) (sel : SelectsTree) (x : Option Meaning) → find name s ≡ x → Holds (λ (w : ℕ). NameKnown s sel x) (named_target Procedural s p sel x)
  name_known s knows p name sel None e = holds_all (NameKnown s sel None) (named_target Procedural s p sel None) (λ m bits n k w. absurd w)
  name_known s knows p name sel (Some Later) e = holds_all (NameKnown s sel (Some Later)) (named_target Procedural s p sel (Some Later)) (λ m bits n k w. absurd w)
  name_known s knows p name sel (Some (Constant v b)) e = holds_all (NameKnown s sel (Some (Constant v b))) (named_target Procedural s p sel (Some (Constant v b))) (λ m bits n k w. absurd w)
  name_known s knows p name sel (Some (Object o)) e =
      holds_needs (λ (w : ℕ). NameKnown s sel (Some (Object o))) (fits_kind Procedural o.kind) rule.BadTarget p found
      (λ ok. holds_all (NameKnown s sel (Some (Object o))) found (λ m bits. object_known s o o.words sel m bits (λ n l u. knows name o n e (is_register o.kind ok) l u)))
    where
      found : Found ℕ
      found = by_nature p (nature_of (Some (Object o))) (λ b. of_vector false s p b sel) (λ b. of_memory false s p b sel)

  abbrev TargetKnown : Scope → TargetTree → Type 0
  TargetKnown s t = (m : Values) (bits : List Digit) → AllKnown (updates s t m bits)

  abbrev TargetsKnown : Scope → TargetTrees → Type 0
  TargetsKnown s ts = (m : Values) (bits : List Digit) → AllKnown (all_updates s ts m bits)

  both_known : (xs ys : List Update) → AllKnown xs → AllKnown ys → AllKnown (xs ++ ys)
  both_known xs ys f g n k w = go (written_both xs ys n k w)
    where
      go : IsWritten xs n k ⊎ IsWritten ys n k → Q n
      go (inl a) = f n k a
      go (inr b) = g n k b

  mutual
    target_known : (s : Scope) → KnowsRegisters s → (t : TargetTree) → Holds (λ (w : ℕ). TargetKnown s t) (target_checked s t)
    target_known s knows (NamedTarget p n sel) = name_known s knows p n sel (find n s) refl
    target_known s knows (JoinedTarget p ts) = holds_braces (TargetsKnown s ts) p (targets_checked s ts) (targets_known s knows ts)

    targets_known : (s : Scope) → KnowsRegisters s → (ts : TargetTrees) → Holds (λ (w : ℕ). TargetsKnown s ts) (targets_checked s ts)
    targets_known s knows no_target = λ m bits n k w. absurd w
    targets_known s knows (more_targets t ts) =
        holds_each (λ (y : ℕ × ℕ). TargetKnown s t × TargetsKnown s ts) (λ (w : ℕ). TargetsKnown s (more_targets t ts)) (λ y. y.0 + y.1) (both (target_checked s t) (targets_checked s ts))
        (holds_both (λ (w : ℕ). TargetKnown s t) (λ (w : ℕ). TargetsKnown s ts) (target_checked s t) (targets_checked s ts) (target_known s knows t) (targets_known s knows ts))
        (λ y h m bits. both_known (updates s t m _) (all_updates s ts m _) (h.0 m _) (h.1 m _))

  -- ---- runs

  pub blocking_only : (us : List Update) (r : Run) → AllKnown us → Only r (blocking us r)
  blocking_only us r f = record {
    signals = λ n k a q e. all_keep us r n k a e (λ w. q (f n k w));
    updates = λ n k w. inl (subst (λ (vs : List Update). IsWritten vs n k) (blocking_leaves us r) w);
  }

  delayed_written : (d : ℕ) (us : List Update) (n k : ℕ) → IsWritten (map (after d) us) n k → IsWritten us n k
  delayed_written d [] n k w = w
  delayed_written d (u ∷ us) n k (inl w) = inl w
  delayed_written d (u ∷ us) n k (inr w) = inr (delayed_written d us n k w)

  nonblocking_only : (d : ℕ) (us : List Update) (r : Run) → AllKnown us → Only r (nonblocking d us r)
  nonblocking_only d us r f = record { signals = λ n k a q e. e; updates = λ n k w. go n k (written_both r.updates (map (after d) us) n k w) }
    where
      go : (n k : ℕ) → IsWritten r.updates n k ⊎ IsWritten (map (after d) us) n k → IsWritten r.updates n k ⊎ Q n
      go n k (inl w) = inl w
      go n k (inr w) = inr (f n k (delayed_written d us n k w))

  take_only : (timing : Timing) (kind : AssignmentKind) (us : List Update) (r : Run) → AllKnown us → Only r (take_updates timing kind us r)
  take_only timing assignment.Blocking us r f = blocking_only us r f
  take_only timing assignment.Nonblocking us r f = nonblocking_only 0 us r f
  take_only timing (assignment.Delayed p ds) us r f = nonblocking_only (unwrap_or (steps_of timing ds) 0) us r f

  truth_only : (d : Digit) (r a b : Run) → Only r a → Only r b → Only r (by_truth d a b)
  truth_only OneDigit r a b h g = h
  truth_only Zero r a b h g = g
  truth_only X r a b h g = g
  truth_only Z r a b h g = g

  either_only : (t : Bool) (r a b : Run) → Only r a → Only r b → Only r (either_run t a b)
  either_only true r a b h g = h
  either_only false r a b h g = g

  -- ---- statements, in a module of this timing

  module _ (timing : Timing) where
    abbrev pub Keeps : (Run → Run) → Type 0
    Keeps f = (r : Run) → Only r (f r)

    abbrev CaseKeeps : Scope → CaseTree → Type 0
    CaseKeeps s (Match es a) = Keeps (activation timing s a)
    CaseKeeps s (Default a) = Keeps (activation timing s a)

    abbrev CasesKeep : Scope → CaseTrees → Type 0
    CasesKeep s no_case = Unit {0}
    CasesKeep s (more_cases c cs) = CaseKeeps s c × CasesKeep s cs

    item_only : (k : Agreement) (v : List Digit) (w : ℕ) (s : Scope) (c : CaseTree) (r other : Run) → CaseKeeps s c → Only r other → Only r (chosen_item timing k v w s c r other)
    item_only k v w s (Match es a) r other h g = either_only (any_agrees k v w s es (values_of r)) r (activation timing s a r) other (h r) g
    item_only k v w s (Default a) r other h g = g

    chosen_only : (k : Agreement) (v : List Digit) (w : ℕ) (s : Scope) (cs : CaseTrees) (r other : Run) → CasesKeep s cs → Only r other → Only r (chosen timing k v w s cs r other)
    chosen_only k v w s no_case r other h g = g
    chosen_only k v w s (more_cases c cs) r other h g = item_only k v w s c r (chosen timing k v w s cs r other) h.0 (chosen_only k v w s cs r other h.1 g)

    default_item_only : (s : Scope) (c : CaseTree) (r other : Run) → CaseKeeps s c → Only r other → Only r (default_item timing s c r other)
    default_item_only s (Match es a) r other h g = g
    default_item_only s (Default a) r other h g = h r

    default_only : (s : Scope) (cs : CaseTrees) (r : Run) → CasesKeep s cs → Only r (default_run timing s cs r)
    default_only s no_case r h = only_itself r
    default_only s (more_cases c cs) r h = default_item_only s c r (default_run timing s cs r) h.0 (default_only s cs r h.1)

    turns_keep : (f : List Digit → Run → Run) (g : List Digit → Found (Unit {0})) → ((v : List Digit) → Holds (λ (u : Unit {0}). Keeps (f v)) (g v)) → (vs : List (List Digit))
        → Holds (λ (u : Unit {0}). Keeps (run_turns f vs)) (all_turns g vs)
    turns_keep f g h [] = only_itself
    turns_keep f g h (v ∷ vs) =
        holds_each (λ (x : Unit {0} × Unit {0}). Keeps (f v) × Keeps (run_turns f vs)) (λ (u : Unit {0}). Keeps (run_turns f (v ∷ vs))) (λ x. tt) (both (g v) (all_turns g vs))
        (holds_both (λ (u : Unit {0}). Keeps (f v)) (λ (u : Unit {0}). Keeps (run_turns f vs)) (g v) (all_turns g vs) (h v) (turns_keep f g h vs))
        (λ x k r. only_on r (f v r) (run_turns f vs (f v r)) (k.0 r) (k.1 (f v r)))

    -- a loop over these turns leaves its last value in the register
    abbrev looping : DataObject → (List Digit → Run → Run) → Turns → Run → Run
    looping o f x r = leave_counter o x.1 (run_turns f x.0 r)

    left_only : (o : DataObject) (v : List Digit) (r : Run) → Q o.first → Only r (leave_counter o v r)
    left_only o v r q = blocking_only (whole_update (Some o.first) v) r (whole_known (Some o.first) v (λ n e. (let g : o.first ≡ n = cc in subst Q g q)))

    loop_keeps : (o : DataObject) (f : List Digit → Run → Run) (g : List Digit → Found (Unit {0})) → Q o.first → ((v : List Digit) → Holds (λ (u : Unit {0}). Keeps (f v)) (g v)) → (y : Found Turns)
        → Holds (λ (u : Unit {0}). Keeps (looping o f (known_turns y))) (and_then y (λ x. all_turns g x.0))
    loop_keeps o f g q h (Sound x) = weaker (all_turns g x.0) (turns_keep f g h x.0)
      where
        weaker : (y : Found (Unit {0})) → Holds (λ (u : Unit {0}). Keeps (run_turns f x.0)) y → Holds (λ (u : Unit {0}). Keeps (looping o f x)) y
        weaker (Sound u) k = λ r. only_on r (run_turns f x.0 r) (looping o f x r) (k r) (left_only o x.1 (run_turns f x.0 r) q)
        weaker (Noted b u) k = tt
        weaker (Lost b) k = tt
    loop_keeps o f g q h (Noted b x) = holds_noted (λ (u : Unit {0}). Keeps (looping o f x)) b (all_turns g x.0)
    loop_keeps o f g q h (Lost b) = tt

    -- the register of a loop, which has no words
    counted_keeps : (P : DataObject → Type 0) (at : ℕ) (o : DataObject) (w : Option Bounds) (k : DataKind) (f : DataObject → Found (Unit {0})) → (k ≡ Register → Holds (λ (u : Unit {0}). P o) (f o))
        → Holds (λ (u : Unit {0}). P o) (and_then (counter_in at o w k) f)
    counted_keeps P at o (Some w) k f h = tt
    counted_keeps P at o None Register f h = h refl
    counted_keeps P at o None Net f h = tt
    counted_keeps P at o None Input f h = tt

    knows_turn : (s : Scope) (name : List ℕ) (o : DataObject) (v : List Digit) → KnowsRegisters s → KnowsRegisters (turn name o v s)
    knows_turn s name o v knows other p n e = go (bytes_eq other name) e
      where
        go : (b : Bool) → (if b then Some (Constant v o.bounds) else s other) ≡ Some (Object p) → p.kind ≡ Register → p.first ≤ n → n < p.first + count_of p.words → Q n
        go true f = cc
        go false f = knows other p n f

    module _ (s : Scope) (knows : KnowsRegisters s) (p : ℕ) (h : HeaderTree) (body : StatementTree) where
      abbrev in_turn : DataObject → List Digit → Run → Run
      in_turn o v = activation timing (turn (loop_name h).name o v s) body

      abbrev asked_in : DataObject → List Digit → Found (Unit {0})
      asked_in o v = statement_checked timing (turn (loop_name h).name o v s) body

      for_keeps : ((o : DataObject) (v : List Digit) → Holds (λ (u : Unit {0}). Keeps (in_turn o v)) (asked_in o v)) → (x : Option Meaning) → find (loop_name h).name s ≡ x
          → Holds (λ (u : Unit {0}). Keeps (λ r. with_counter x (λ o. looping o (in_turn o) (known_turns (turns p h s o)) r) r)) (and_then (counter (loop_name h).at x) (λ o. and_then (turns p h s o) (λ y. all_turns (asked_in o) y.0)))
      for_keeps g None e = tt
      for_keeps g (Some Later) e = tt
      for_keeps g (Some (Constant v b)) e = tt
      for_keeps g (Some (Object o)) e =
          counted_keeps (λ (o : DataObject). Keeps (looping o (in_turn o) (known_turns (turns p h s o)))) (loop_name h).at o o.words o.kind (λ o. and_then (turns p h s o) (λ y. all_turns (asked_in o) y.0))
          (λ k. loop_keeps o (in_turn o) (asked_in o) (knows (loop_name h).name o o.first e k (omega arith) (let c = some_signals o.words in omega (arith, c))) (g o) (turns p h s o))

    assigned_keeps : (s : Scope) (k : AssignmentKind) (t : TargetTree) (e : Tree) → TargetKnown s t → Keeps (assign timing k s t e)
    assigned_keeps s k t e h r = take_only timing k (assigned_updates s t e (values_of r)) r (h (values_of r) (assigned_value (target_width s t) s e (values_of r)))

    mutual
      pub statement_keeps : (s : Scope) → KnowsRegisters s → (a : StatementTree) → Holds (λ (u : Unit {0}). Keeps (activation timing s a)) (statement_checked timing s a)
      statement_keeps s knows Null = only_itself
      statement_keeps s knows (Block l ss) = statements_keep s knows ss
      statement_keeps s knows (Assignment k t e) =
          holds_delay (λ (u : Unit {0}). Keeps (assign timing k s t e)) timing k (done (both (target_checked s t) (checked s e)))
          (holds_each (λ (x : ℕ × ℕ). TargetKnown s t × Unit {0}) (λ (u : Unit {0}). Keeps (assign timing k s t e)) (λ x. tt) (both (target_checked s t) (checked s e))
          (holds_both (λ (w : ℕ). TargetKnown s t) (λ (w : ℕ). Unit {0}) (target_checked s t) (checked s e) (target_known s knows t) (holds_any (checked s e)))
          (λ x h. assigned_keeps s k t e h.0))
      statement_keeps s knows (If c a) =
          holds_each (λ (x : ℕ × Unit {0}). Unit {0} × Keeps (activation timing s a)) (λ (u : Unit {0}). Keeps (activation timing s (If c a))) (λ x. tt) (both (checked s c) (statement_checked timing s a))
          (holds_both (λ (w : ℕ). Unit {0}) (λ (u : Unit {0}). Keeps (activation timing s a)) (checked s c) (statement_checked timing s a) (holds_any (checked s c)) (statement_keeps s knows a))
          (λ x h r. truth_only (truth (own_value s c (values_of r))) r (activation timing s a r) r (h.1 r) (only_itself r))
      statement_keeps s knows (IfElse c a b) =
          holds_each (λ (x : ℕ × (Unit {0} × Unit {0})). Unit {0} × (Keeps (activation timing s a) × Keeps (activation timing s b))) (λ (u : Unit {0}). Keeps (activation timing s (IfElse c a b))) (λ x. tt)
          (both (checked s c) (both (statement_checked timing s a) (statement_checked timing s b)))
          (holds_both (λ (w : ℕ). Unit {0}) (λ (u : Unit {0} × Unit {0}). Keeps (activation timing s a) × Keeps (activation timing s b)) (checked s c) (both (statement_checked timing s a) (statement_checked timing s b)) (holds_any (checked s c))
          (holds_both (λ (u : Unit {0}). Keeps (activation timing s a)) (λ (u : Unit {0}). Keeps (activation timing s b)) (statement_checked timing s a) (statement_checked timing s b) (statement_keeps s knows a) (statement_keeps s knows b)))
          (λ x h r. truth_only (truth (own_value s c (values_of r))) r (activation timing s a r) (activation timing s b r) (h.1.0 r) (h.1.1 r))
      statement_keeps s knows (Case k e cs) =
          holds_each (λ (x : ℕ × Unit {0}). Unit {0} × CasesKeep s cs) (λ (u : Unit {0}). Keeps (activation timing s (Case k e cs))) (λ x. tt) (both (checked s e) (cases_checked timing s cs))
          (holds_both (λ (w : ℕ). Unit {0}) (λ (u : Unit {0}). CasesKeep s cs) (checked s e) (cases_checked timing s cs) (holds_any (checked s e)) (cases_keep s knows cs))
          (λ x h r. chosen_only (agreement_of k) (meaning s e (max (width s e) (case_width s cs)) (values_of r)) (max (width s e) (case_width s cs)) s cs r (default_run timing s cs r) h.1 (default_only s cs r h.1))
      statement_keeps s knows (For p h body) =
          for_keeps s knows p h body (λ o v. statement_keeps (turn (loop_name h).name o v s) (knows_turn s (loop_name h).name o v knows) body) (find (loop_name h).name s) refl
      statement_keeps s knows (TaskEnable t es) = only_itself
      statement_keeps s knows (Delay p ds) = only_itself

      statements_keep : (s : Scope) → KnowsRegisters s → (ss : StatementTrees) → Holds (λ (u : Unit {0}). Keeps (activations timing s ss)) (statements_checked timing s ss)
      statements_keep s knows no_statement = only_itself
      statements_keep s knows (more_statements a rest) =
          holds_each (λ (x : Unit {0} × Unit {0}). Keeps (activation timing s a) × Keeps (activations timing s rest)) (λ (u : Unit {0}). Keeps (activations timing s (more_statements a rest))) (λ x. tt) (both (statement_checked timing s a) (statements_checked timing s rest))
          (holds_both (λ (u : Unit {0}). Keeps (activation timing s a)) (λ (u : Unit {0}). Keeps (activations timing s rest)) (statement_checked timing s a) (statements_checked timing s rest) (statement_keeps s knows a) (statements_keep s knows rest))
          (λ x h r. only_on r (activation timing s a r) (activations timing s rest (activation timing s a r)) (h.0 r) (h.1 (activation timing s a r)))

      case_keeps : (s : Scope) → KnowsRegisters s → (c : CaseTree) → Holds (λ (u : Unit {0}). CaseKeeps s c) (case_checked timing s c)
      case_keeps s knows (Match es a) =
          holds_each (λ (x : Unit {0} × Unit {0}). Unit {0} × Keeps (activation timing s a)) (λ (u : Unit {0}). Keeps (activation timing s a)) (λ x. tt) (both (labels_checked s es) (statement_checked timing s a))
          (holds_both (λ (u : Unit {0}). Unit {0}) (λ (u : Unit {0}). Keeps (activation timing s a)) (labels_checked s es) (statement_checked timing s a) (holds_any (labels_checked s es)) (statement_keeps s knows a))
          (λ x h. h.1)
      case_keeps s knows (Default a) = statement_keeps s knows a

      cases_keep : (s : Scope) → KnowsRegisters s → (cs : CaseTrees) → Holds (λ (u : Unit {0}). CasesKeep s cs) (cases_checked timing s cs)
      cases_keep s knows no_case = tt
      cases_keep s knows (more_cases c cs) =
          holds_each (λ (x : Unit {0} × Unit {0}). CaseKeeps s c × CasesKeep s cs) (λ (u : Unit {0}). CaseKeeps s c × CasesKeep s cs) (λ x. tt) (both (case_checked timing s c) (cases_checked timing s cs))
          (holds_both (λ (u : Unit {0}). CaseKeeps s c) (λ (u : Unit {0}). CasesKeep s cs) (case_checked timing s c) (cases_checked timing s cs) (case_keeps s knows c) (cases_keep s knows cs))
          (λ x h. h)
