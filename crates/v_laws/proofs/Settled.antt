-- What a statement reads suffices for all that an activation of it does.
use Rattle.std.proofs.Common.{◌≡◌, ◌+◌, ◌||◌, ◌∙◌, ℕ, zero, suc, Bool, true, false, max, List, [], ◌∷◌, ◌++◌, length, map, slice_set, unwrap_or, Option, Some, None, is_some, refl, sym, ap, arith}
use Rattle.std.proofs.lemmas.List.{append_assoc}
use Rattle.four_value.specs.declared.Digit.{Digit}
use Rattle.four_value.specs.declared.Digit.TheVariants.{Zero, One as OneDigit, X, Z}
use Rattle.four_value.specs.Vector.{number, resize, slice}
use Rattle.gpi.specs.declared.acts.CaseKind.{CaseKind as Agreement}
use Rattle.gpi.specs.declared.types.Update.{Update}
use Rattle.gpi.specs.Activation.{Map, Hidden, Run, after, blocking, by_truth, hidden_in, with_part, written, written_over}
use Rattle.gpi.specs.Cases.{all_agree}
use Rattle.gpi.specs.Operators.{truth}
use Rattle.gpi.specs.Selects.{overlap_of, word_at}
use Rattle.gpi.specs.Targets.{part_update, whole_update}
use Rattle.gpi.specs.Terms.{read}
use Rattle.v_syntax.specs.declared.statement.AssignmentKind.{AssignmentKind}
use Rattle.v_syntax.specs.declared.statement.AssignmentKind.TheVariants as assignment
use Rattle.v_syntax.specs.ExpressionTrees.{Tree, SelectsTree, Whole, One, OfWord, SelectTree, TargetTree, NamedTarget, JoinedTarget, TargetTrees, no_target, more_targets}
use Rattle.v_syntax.specs.StatementTrees.{HeaderTree, StatementTree, Null, Block, Assignment, If, IfElse, Case, For, TaskEnable, Delay, StatementTrees, no_statement, more_statements, CaseTree, Match, Default, CaseTrees, no_case, more_cases}
use Rattle.v_flat.specs.declared.scope.rule.ElabRule.TheVariants as rule
use Rattle.v_flat.specs.declared.scope.found.Found.{Found}
use Rattle.v_flat.specs.declared.scope.found.Found.TheVariants.{Sound, Noted, Lost}
use Rattle.v_flat.specs.declared.scope.meaning.Bounds.{Bounds}
use Rattle.v_flat.specs.declared.scope.meaning.DataKind.{DataKind}
use Rattle.v_flat.specs.declared.scope.meaning.DataKind.TheVariants.{Input, Net, Register}
use Rattle.v_flat.specs.declared.scope.meaning.DataObject.{DataObject}
use Rattle.v_flat.specs.declared.scope.meaning.Meaning.{Meaning}
use Rattle.v_flat.specs.declared.scope.meaning.Meaning.TheVariants.{Constant, Object, Later}
use Rattle.v_flat.specs.Scope.Found.{Holds, and_then, both}
use Rattle.v_flat.specs.Scope.Scope.{Scope, find, width_of}
use Rattle.v_flat.specs.Objects.{nature_of, nature_of_object, range_of, words_of}
use Rattle.v_flat.specs.Expressions.{Values, meaning, own_value, select_base, select_width, width}
use Rattle.v_flat.specs.Checks.{by_nature, checked, of_memory, of_vector}
use Rattle.v_flat.specs.declared.manner.Manner.TheVariants.{Procedural}
use Rattle.v_flat.specs.Targets.{all_updates, fits, name_update, named_target, object_update, target_checked, target_width, targets_checked, targets_width, updates}
use Rattle.v_flat.specs.declared.timing.Timing.{Timing}
use Rattle.v_flat.specs.Delays.{steps_of}
use Rattle.v_flat.specs.Statements.{Span, Turns, activation, activations, agreement_of, all_turns, any_agrees, assign, assigned_updates, assigned_value, case_checked, case_read, case_width, cases_checked, cases_read, chosen, chosen_item, counter, counter_in, default_item, default_run, done, either_run, known_turns, labels_checked, labels_read, leave_counter, loop_name, read_in_turns, reads, run_turns, select_read, selects_read, statement_checked, statement_reads, statements_checked, statements_read, take_updates, target_read, targets_read, turn, turns, values_of, with_counter}
use Rattle.v_flat.specs.Design.{from, is_read}
use Rattle.v_flat.proofs.Holds.{holds_both, holds_each, holds_needs, holds_noted}
use Rattle.v_laws.specs.Reads.{AgreeOn, AreAlike, AreForcedAlike, IsSettled, SettlesTarget, Statements_read_enough, Suffices, Targets_read_enough, leaving}
use Rattle.v_laws.proofs.Delays.{holds_delay}
use Rattle.v_laws.proofs.Fixed.{holds_all}
use Rattle.v_laws.proofs.Recorded.{holds_braces}
use Rattle.v_laws.proofs.Sufficient.{BaseSuffices, agree_first, agree_second, base_suffices, one_found, read_first, read_second, suffices, two_found, weaker, word_suffices}

-- ---- targets

abbrev NameSettles : Scope → SelectsTree → Option Meaning → Type 0
NameSettles s sel x = (m n : Values) (bits : List Digit) → AgreeOn (selects_read s sel) m n → name_update x s sel m bits ≡ name_update x s sel n bits

pub one_update : (s : Scope) (o : DataObject) (ws : Option Bounds) (sel : SelectTree) (m n : Values) (bits : List Digit) → select_base s sel m ≡ select_base s sel n
    → object_update o ws s (One sel) m bits ≡ object_update o ws s (One sel) n bits
one_update s o None sel m n bits h = ap (λ (base : Option ℕ). part_update (Some o.first) (overlap_of (range_of o.bounds) (width_of o.bounds) base (select_width s sel)) bits) h
one_update s o (Some w) sel m n bits h = ap (λ (base : Option ℕ). whole_update (word_at (words_of o.first w) base) bits) h

pub two_update : (s : Scope) (o : DataObject) (ws : Option Bounds) (p : ℕ) (i : Tree) (sel : SelectTree) (m n : Values) (bits : List Digit) → own_value s i m ≡ own_value s i n
    → select_base s sel m ≡ select_base s sel n → object_update o ws s (OfWord p i sel) m bits ≡ object_update o ws s (OfWord p i sel) n bits
two_update s o None p i sel m n bits f h = refl
two_update s o (Some w) p i sel m n bits f h =
    ap (λ (ds : List Digit). part_update (word_at (words_of o.first w) (number ds)) (overlap_of (range_of o.bounds) (width_of o.bounds) (select_base s sel m) (select_width s sel)) bits) f
    ∙ ap (λ (base : Option ℕ). part_update (word_at (words_of o.first w) (number (own_value s i n))) (overlap_of (range_of o.bounds) (width_of o.bounds) base (select_width s sel)) bits) h

pub whole_settles : (s : Scope) (o : DataObject) (ws : Option Bounds) (m n : Values) (bits : List Digit) → object_update o ws s Whole m bits ≡ object_update o ws s Whole n bits
whole_settles s o None m n bits = refl
whole_settles s o (Some w) m n bits = refl

nature_settles : (s : Scope) (p : ℕ) (sel : SelectsTree) (o : DataObject)
    → Holds (λ (w : ℕ). NameSettles s sel (Some (Object o))) (by_nature p (nature_of_object o.words o.bounds) (λ b. of_vector false s p b sel) (λ b. of_memory false s p b sel))
nature_settles s p Whole o =
    holds_all (NameSettles s Whole (Some (Object o))) (by_nature p (nature_of_object o.words o.bounds) (λ b. of_vector false s p b Whole) (λ b. of_memory false s p b Whole)) (λ m n bits a. whole_settles s o o.words m n bits)
nature_settles s p (One sel) o =
    weaker (BaseSuffices s sel) (NameSettles s (One sel) (Some (Object o))) (by_nature p (nature_of_object o.words o.bounds) (λ b. of_vector false s p b (One sel)) (λ b. of_memory false s p b (One sel)))
    (one_found s p sel o.bounds o.words (base_suffices s p o.bounds sel) (word_suffices s o.bounds sel)) (λ h m n bits a. one_update s o o.words sel m n bits (h m n a))
nature_settles s p (OfWord q i sel) o =
    weaker (Suffices s i × BaseSuffices s sel) (NameSettles s (OfWord q i sel) (Some (Object o)))
    (by_nature p (nature_of_object o.words o.bounds) (λ b. of_vector false s p b (OfWord q i sel)) (λ b. of_memory false s p b (OfWord q i sel)))
    (two_found s p q i sel o.bounds o.words (suffices s i) (base_suffices s p o.bounds sel)) (λ h m n bits a. two_update s o o.words q i sel m n bits
    (h.0 (width s i) m n (agree_first (reads s i) (select_read s sel) m n a)) (h.1 m n (agree_second (reads s i) (select_read s sel) m n a)))

name_settles : (s : Scope) (p : ℕ) (sel : SelectsTree) (x : Option Meaning) → Holds (λ (w : ℕ). NameSettles s sel x) (named_target Procedural s p sel x)
name_settles s p sel None = holds_all (NameSettles s sel None) (named_target Procedural s p sel None) (λ m n bits a. refl)
name_settles s p sel (Some Later) = holds_all (NameSettles s sel (Some Later)) (named_target Procedural s p sel (Some Later)) (λ m n bits a. refl)
name_settles s p sel (Some (Constant ds b)) = holds_all (NameSettles s sel (Some (Constant ds b))) (named_target Procedural s p sel (Some (Constant ds b))) (λ m n bits a. refl)
name_settles s p sel (Some (Object o)) =
    holds_needs (λ (w : ℕ). NameSettles s sel (Some (Object o))) (fits Procedural (Some (Object o))) rule.BadTarget p
    (by_nature p (nature_of (Some (Object o))) (λ b. of_vector false s p b sel) (λ b. of_memory false s p b sel)) (λ ok. nature_settles s p sel o)

abbrev SettlesTargets : Scope → TargetTrees → Type 0
SettlesTargets s ts = (m n : Values) (bits : List Digit) → AgreeOn (targets_read s ts) m n → all_updates s ts m bits ≡ all_updates s ts n bits

both_settle : (s : Scope) (t : TargetTree) (ts : TargetTrees) → SettlesTarget s t → SettlesTargets s ts → SettlesTargets s (more_targets t ts)
both_settle s t ts f g m n bits a =
    ap (λ (us : List Update). us ++ all_updates s ts m (slice bits 0 (targets_width s ts)))
    (f m n (slice bits (targets_width s ts) (target_width s t)) (agree_first (target_read s t) (targets_read s ts) m n a))
    ∙ ap (λ (us : List Update). updates s t n (slice bits (targets_width s ts) (target_width s t)) ++ us)
    (g m n (slice bits 0 (targets_width s ts)) (agree_second (target_read s t) (targets_read s ts) m n a))

mutual
  pub settles_target : (s : Scope) (t : TargetTree) → Holds (λ (w : ℕ). SettlesTarget s t) (target_checked s t)
  settles_target s (NamedTarget p n sel) = name_settles s p sel (find n s)
  settles_target s (JoinedTarget p ts) = holds_braces (SettlesTargets s ts) p (targets_checked s ts) (settles_targets s ts)

  settles_targets : (s : Scope) (ts : TargetTrees) → Holds (λ (w : ℕ). SettlesTargets s ts) (targets_checked s ts)
  settles_targets s no_target = λ m n bits a. refl
  settles_targets s (more_targets t ts) =
      holds_each (λ (x : ℕ × ℕ). SettlesTarget s t × SettlesTargets s ts) (λ (w : ℕ). SettlesTargets s (more_targets t ts)) (λ x. x.0 + x.1) (both (target_checked s t) (targets_checked s ts))
      (holds_both (λ (w : ℕ). SettlesTarget s t) (λ (w : ℕ). SettlesTargets s ts) (target_checked s t) (targets_checked s ts) (settles_target s t) (settles_targets s ts))
      (λ x h. both_settle s t ts h.0 h.1)

pub targets_read_enough : Targets_read_enough
targets_read_enough = settles_target

-- ---- updates on maps that are alike

append_none : {A : Type 0} (xs : List A) → xs ≡ xs ++ []
append_none [] = refl
append_none (x ∷ xs) = ap (λ ys. x ∷ ys) (append_none xs)

set_length : (m : Map) (i : ℕ) (a : List Digit) → length (slice_set m i a) ≡ length m
set_length [] i a = refl
set_length (x ∷ m) zero a = refl
set_length (x ∷ m) (suc i) a = ap suc (set_length m i a)

set_same : (m n : Map) (i k : ℕ) (a b : List Digit) → length m ≡ length n → (i ≡ k → a ≡ b) → read m k ≡ read n k → read (slice_set m i a) k ≡ read (slice_set n i b) k
set_same [] [] i k a b l h e = refl
set_same [] (y ∷ n) i k a b l h e = cc
set_same (x ∷ m) [] i k a b l h e = cc
set_same (x ∷ m) (y ∷ n) zero zero a b l h e = h refl
set_same (x ∷ m) (y ∷ n) zero (suc k) a b l h e = e
set_same (x ∷ m) (y ∷ n) (suc i) zero a b l h e = e
set_same (x ∷ m) (y ∷ n) (suc i) (suc k) a b l h e = let f : length m ≡ length n = omega (arith, l) in set_same m n i k a b f (λ g. h (ap suc g)) e

shown_alike : (xs : List Span) (u : Update) (m n : Map) → AreAlike xs m n
    → AreAlike xs (slice_set m u.sig.0 (with_part (read m u.sig.0) u.low u.bits)) (slice_set n u.sig.0 (with_part (read n u.sig.0) u.low u.bits))
shown_alike xs u m n a = (
  set_length m u.sig.0 (with_part (read m u.sig.0) u.low u.bits) ∙ a.0 ∙ sym (set_length n u.sig.0 (with_part (read n u.sig.0) u.low u.bits)),
  λ k e. set_same m n u.sig.0 k (with_part (read m u.sig.0) u.low u.bits) (with_part (read n u.sig.0) u.low u.bits) a.0
      (λ f. ap (λ (ds : List Digit). with_part ds u.low u.bits) (ap (read m) f ∙ a.1 k e ∙ ap (read n) (sym f))) (a.1 k e),
)

-- a write leaves the same signals forced
set_forced : (h : Hidden) (i k : ℕ) (ds x : List Digit) → hidden_in h i ≡ Some ds → is_some (hidden_in (slice_set h i (Some x)) k) ≡ is_some (hidden_in h k)
set_forced [] i k ds x e = cc
set_forced (y ∷ h) zero zero ds x e = sym (ap (λ (o : Option (List Digit)). is_some o) e)
set_forced (y ∷ h) zero (suc k) ds x e = refl
set_forced (y ∷ h) (suc i) zero ds x e = refl
set_forced (y ∷ h) (suc i) (suc k) ds x e = set_forced h i k ds x e

-- runs that agree on what is read, with the same signals forced
abbrev AreLike : List Span → Run → Run → Type 0
AreLike xs r t = AreAlike xs r.signals t.signals × AreForcedAlike r.hidden t.hidden

over_alike : (xs : List Span) (u : Update) (r t : Run) (o p : Option (List Digit)) → hidden_in r.hidden u.sig.0 ≡ o → hidden_in t.hidden u.sig.0 ≡ p → is_some o ≡ is_some p → AreLike xs r t
    → AreLike xs (written_over o u r) (written_over p u t)
over_alike xs u r t None None e f same a = (shown_alike xs u r.signals t.signals a.0, a.1)
over_alike xs u r t None (Some es) e f same a = cc
over_alike xs u r t (Some ds) None e f same a = cc
over_alike xs u r t (Some ds) (Some es) e f same a = (
  a.0,
  λ k. set_forced r.hidden u.sig.0 k ds (with_part ds u.low u.bits) e ∙ a.1 k ∙ sym (set_forced t.hidden u.sig.0 k es (with_part es u.low u.bits) f),
)

all_alike : (xs : List Span) (us : List Update) (r t : Run) → AreLike xs r t → AreLike xs (blocking us r) (blocking us t)
all_alike xs [] r t a = a
all_alike xs (u ∷ us) r t a =
    all_alike xs us (written u r) (written u t) (over_alike xs u r t (hidden_in r.hidden u.sig.0) (hidden_in t.hidden u.sig.0) refl refl (a.1 u.sig.0) a)

all_both : (us vs : List Update) (r : Run) → blocking (us ++ vs) r ≡ blocking vs (blocking us r)
all_both [] vs r = refl
all_both (u ∷ us) vs r = all_both us vs (written u r)

-- what is left is no matter for what is made at once
over_apart : (o : Option (List Digit)) (u : Update) (later : List Update) (r : Run) → written_over o u (leaving later r) ≡ leaving later (written_over o u r)
over_apart None u later r = refl
over_apart (Some ds) u later r = refl

pub made_apart : (us later : List Update) (r : Run) → blocking us (leaving later r) ≡ leaving later (blocking us r)
made_apart [] later r = refl
made_apart (u ∷ us) later r = ap (blocking us) (over_apart (hidden_in r.hidden u.sig.0) u later r) ∙ made_apart us later (written u r)

-- ---- runs

-- with these updates at once, and these left
abbrev with_updates : List Update → List Update → Run → Run
with_updates us vs r = leaving (r.updates ++ vs) (blocking us r)

with_both : (us vs xs ys : List Update) (t : Run) → with_updates vs ys (with_updates us xs t) ≡ with_updates (us ++ vs) (xs ++ ys) t
with_both us vs xs ys t =
    ap (leaving ((t.updates ++ xs) ++ ys)) (made_apart vs (t.updates ++ xs) (blocking us t) ∙ ap (leaving (t.updates ++ xs)) (sym (all_both us vs t)))
    ∙ ap (λ (zs : List Update). leaving zs (blocking (us ++ vs) t)) (append_assoc t.updates xs ys)

-- the updates of an assignment at once, and those that it leaves
abbrev at_once : AssignmentKind → List Update → List Update
at_once assignment.Blocking us = us
at_once assignment.Nonblocking us = []
at_once (assignment.Delayed p ds) us = []

abbrev left_over : Timing → AssignmentKind → List Update → List Update
left_over timing assignment.Blocking us = []
left_over timing assignment.Nonblocking us = map (after 0) us
left_over timing (assignment.Delayed p ds) us = map (after (unwrap_or (steps_of timing ds) 0)) us

taken : (timing : Timing) (k : AssignmentKind) (us : List Update) (t : Run) → take_updates timing k us t ≡ with_updates (at_once k us) (left_over timing k us) t
taken timing assignment.Blocking us t = made_apart us t.updates t ∙ ap (λ (vs : List Update). leaving vs (blocking us t)) (append_none t.updates)
taken timing assignment.Nonblocking us t = refl
taken timing (assignment.Delayed p ds) us t = refl

-- ---- labels

abbrev LabelsSuffice : Scope → List Tree → Type 0
LabelsSuffice s es = (k : Agreement) (v : List Digit) (w : ℕ) (m n : Values) → AgreeOn (labels_read s es) m n → any_agrees k v w s es m ≡ any_agrees k v w s es n

label_same : (s : Scope) (e : Tree) (es : List Tree) → Suffices s e → LabelsSuffice s es → LabelsSuffice s (e ∷ es)
label_same s e es f g k v w m n a =
    ap (λ (ds : List Digit). all_agree k v ds || any_agrees k v w s es m) (f w m n (agree_first (reads s e) (labels_read s es) m n a))
    ∙ ap (λ (b : Bool). all_agree k v (meaning s e w n) || b) (g k v w m n (agree_second (reads s e) (labels_read s es) m n a))

labels_suffice : (s : Scope) (es : List Tree) → Holds (λ (u : Unit {0}). LabelsSuffice s es) (labels_checked s es)
labels_suffice s [] = λ k v w m n a. refl
labels_suffice s (e ∷ es) =
    holds_each (λ (x : ℕ × Unit {0}). Suffices s e × LabelsSuffice s es) (λ (u : Unit {0}). LabelsSuffice s (e ∷ es)) (λ x. tt) (both (checked s e) (labels_checked s es))
    (holds_both (λ (w : ℕ). Suffices s e) (λ (u : Unit {0}). LabelsSuffice s es) (checked s e) (labels_checked s es) (suffices s e) (labels_suffice s es))
    (λ x h. label_same s e es h.0 h.1)

-- a loop over these turns leaves its last value in the register
abbrev looping : DataObject → (List Digit → Run → Run) → Turns → Run → Run
looping o f x r = leave_counter o x.1 (run_turns f x.0 r)

-- the register of a loop, which has no words
counted_does : (P : DataObject → Type 0) (at : ℕ) (o : DataObject) (w : Option Bounds) (k : DataKind) (f : DataObject → Found (Unit {0})) → Holds (λ (u : Unit {0}). P o) (f o)
    → Holds (λ (u : Unit {0}). P o) (and_then (counter_in at o w k) f)
counted_does P at o (Some w) k f h = tt
counted_does P at o None Register f h = h
counted_does P at o None Net f h = tt
counted_does P at o None Input f h = tt

-- ---- what is done on maps that agree on what xs reads

module _ (xs : List Span) where
  abbrev Covers : List Span → Type 0
  Covers ys = (k : ℕ) → is_read k ys ≡ true → is_read k xs ≡ true

  covers_first : (ys zs : List Span) → Covers (ys ++ zs) → Covers ys
  covers_first ys zs c k e = c k (read_first k ys zs e)

  covers_second : (ys zs : List Span) → Covers (ys ++ zs) → Covers zs
  covers_second ys zs c k e = c k (read_second k ys zs e)

  abbrev Like : Run → Run → Type 0
  Like r t = AreLike xs r t

  agree_on : (ys : List Span) → Covers ys → (r t : Run) → Like r t → AgreeOn ys (values_of r) (values_of t)
  agree_on ys c r t a k e = a.0.1 k (c k e)

  -- what f does on r, it does on each run that is like it
  record Done (f : Run → Run) (r : Run) : Type 0 where
    now : List Update
    later : List Update
    same : (t : Run) → Like r t → f t ≡ with_updates now later t

  abbrev Does : (Run → Run) → Type 0
  Does f = (r : Run) → Done f r

  nothing_does : Does (λ r. r)
  nothing_does r = record { now = []; later = []; same = λ t a. ap (λ (us : List Update). leaving us t) (append_none t.updates) }

  does_then : (f g : Run → Run) → Does f → Does g → Does (λ r. g (f r))
  does_then f g h k r =
      let a = h r in let b = k (with_updates a.now a.later r) in
      record {
        now = a.now ++ b.now;
        later = a.later ++ b.later;
        same = λ t l. ap g (a.same t l) ∙ b.same (with_updates a.now a.later t) (all_alike xs a.now r t l) ∙ with_both a.now b.now a.later b.later t;
      }

  truth_does : (c : Run → Digit) (f g : Run → Run) → ((r t : Run) → Like r t → c r ≡ c t) → Does f → Does g → Does (λ r. by_truth (c r) (f r) (g r))
  truth_does c f g e h k r = go (c r) refl
    where
      go : (d : Digit) → c r ≡ d → Done (λ t. by_truth (c t) (f t) (g t)) r
      go OneDigit i = let a = h r in record { now = a.now; later = a.later; same = λ t l. ap (λ (d : Digit). by_truth d (f t) (g t)) (sym (e r t l) ∙ i) ∙ a.same t l }
      go Zero i = let a = k r in record { now = a.now; later = a.later; same = λ t l. ap (λ (d : Digit). by_truth d (f t) (g t)) (sym (e r t l) ∙ i) ∙ a.same t l }
      go X i = let a = k r in record { now = a.now; later = a.later; same = λ t l. ap (λ (d : Digit). by_truth d (f t) (g t)) (sym (e r t l) ∙ i) ∙ a.same t l }
      go Z i = let a = k r in record { now = a.now; later = a.later; same = λ t l. ap (λ (d : Digit). by_truth d (f t) (g t)) (sym (e r t l) ∙ i) ∙ a.same t l }

  either_does : (c : Run → Bool) (f g : Run → Run) → ((r t : Run) → Like r t → c r ≡ c t) → Does f → Does g → Does (λ r. either_run (c r) (f r) (g r))
  either_does c f g e h k r = go (c r) refl
    where
      go : (b : Bool) → c r ≡ b → Done (λ t. either_run (c t) (f t) (g t)) r
      go true i = let a = h r in record { now = a.now; later = a.later; same = λ t l. ap (λ (b : Bool). either_run b (f t) (g t)) (sym (e r t l) ∙ i) ∙ a.same t l }
      go false i = let a = k r in record { now = a.now; later = a.later; same = λ t l. ap (λ (b : Bool). either_run b (f t) (g t)) (sym (e r t l) ∙ i) ∙ a.same t l }

  -- ---- in a module of this timing: an assignment

  module _ (timing : Timing) where
    module _ (s : Scope) (k : AssignmentKind) (target : TargetTree) (e : Tree) where
      abbrev updates_on : Run → List Update
      updates_on r = assigned_updates s target e (values_of r)

      updates_same : SettlesTarget s target → Suffices s e → Covers (target_read s target ++ reads s e) → (r t : Run) → Like r t → updates_on r ≡ updates_on t
      updates_same h g c r t l =
          let a = agree_on (target_read s target ++ reads s e) c r t l in
          h (values_of r) (values_of t) (assigned_value (target_width s target) s e (values_of r)) (agree_first (target_read s target) (reads s e) (values_of r) (values_of t) a)
          ∙ ap (λ (ds : List Digit). updates s target (values_of t) (resize ds (target_width s target)))
          (g (max (target_width s target) (width s e)) (values_of r) (values_of t) (agree_second (target_read s target) (reads s e) (values_of r) (values_of t) a))

      assign_does : SettlesTarget s target → Suffices s e → Covers (target_read s target ++ reads s e) → Does (assign timing k s target e)
      assign_does h g c r = record {
        now = at_once k (updates_on r);
        later = left_over timing k (updates_on r);
        same = λ t l. ap (λ (us : List Update). take_updates timing k us t) (sym (updates_same h g c r t l)) ∙ taken timing k (updates_on r) t;
      }

    -- ---- cases

    abbrev CaseDoes : Scope → CaseTree → Type 0
    CaseDoes s (Match es a) = LabelsSuffice s es × Covers (labels_read s es) × Does (activation timing s a)
    CaseDoes s (Default a) = Does (activation timing s a)

    abbrev CasesDo : Scope → CaseTrees → Type 0
    CasesDo s no_case = Unit {0}
    CasesDo s (more_cases c cs) = CaseDoes s c × CasesDo s cs

    module _ (k : Agreement) (v : Run → List Digit) (e : (r t : Run) → Like r t → v r ≡ v t) (w : ℕ) (s : Scope) where
      item_does : (c : CaseTree) (other : Run → Run) → CaseDoes s c → Does other → Does (λ r. chosen_item timing k (v r) w s c r (other r))
      item_does (Match es a) other h g =
          either_does (λ r. any_agrees k (v r) w s es (values_of r)) (activation timing s a) other
          (λ r t l. ap (λ (ds : List Digit). any_agrees k ds w s es (values_of r)) (e r t l) ∙ h.0 k (v t) w (values_of r) (values_of t) (agree_on (labels_read s es) h.1 r t l)) h.2 g
      item_does (Default a) other h g = g

      chosen_does : (cs : CaseTrees) (other : Run → Run) → CasesDo s cs → Does other → Does (λ r. chosen timing k (v r) w s cs r (other r))
      chosen_does no_case other h g = g
      chosen_does (more_cases c cs) other h g = item_does c (λ r. chosen timing k (v r) w s cs r (other r)) h.0 (chosen_does cs other h.1 g)

    default_item_does : (s : Scope) (c : CaseTree) (other : Run → Run) → CaseDoes s c → Does other → Does (λ r. default_item timing s c r (other r))
    default_item_does s (Match es a) other h g = g
    default_item_does s (Default a) other h g = h

    default_does : (s : Scope) (cs : CaseTrees) → CasesDo s cs → Does (λ r. default_run timing s cs r)
    default_does s no_case h = nothing_does
    default_does s (more_cases c cs) h = default_item_does s c (λ r. default_run timing s cs r) h.0 (default_does s cs h.1)

    case_does : (s : Scope) (k : Agreement) (e : Tree) (w : ℕ) (cs : CaseTrees) → Suffices s e → Covers (reads s e) → CasesDo s cs
        → Does (λ r. chosen timing k (meaning s e w (values_of r)) w s cs r (default_run timing s cs r))
    case_does s k e w cs h c g =
        chosen_does k (λ r. meaning s e w (values_of r)) (λ r t l. h w (values_of r) (values_of t) (agree_on (reads s e) c r t l)) w s cs (λ r. default_run timing s cs r) g (default_does s cs g)

    -- ---- loops

    turns_do : (f : List Digit → Run → Run) (g : List Digit → Found (Unit {0})) (ys : List Digit → List Span) → ((v : List Digit) → Covers (ys v) → Holds (λ (u : Unit {0}). Does (f v)) (g v))
        → (vs : List (List Digit)) → Covers (read_in_turns ys vs) → Holds (λ (u : Unit {0}). Does (run_turns f vs)) (all_turns g vs)
    turns_do f g ys h [] c = nothing_does
    turns_do f g ys h (v ∷ vs) c =
        holds_each (λ (x : Unit {0} × Unit {0}). Does (f v) × Does (run_turns f vs)) (λ (u : Unit {0}). Does (run_turns f (v ∷ vs))) (λ x. tt) (both (g v) (all_turns g vs))
        (holds_both (λ (u : Unit {0}). Does (f v)) (λ (u : Unit {0}). Does (run_turns f vs)) (g v) (all_turns g vs) (h v (covers_first (ys v) (read_in_turns ys vs) c))
        (turns_do f g ys h vs (covers_second (ys v) (read_in_turns ys vs) c)))
        (λ x k. does_then (f v) (run_turns f vs) k.0 k.1)

    left_does : (o : DataObject) (v : List Digit) → Does (leave_counter o v)
    left_does o v r = record { now = whole_update (Some o.first) v; later = []; same = λ t l. taken timing assignment.Blocking (whole_update (Some o.first) v) t }

    loop_does : (o : DataObject) (f : List Digit → Run → Run) (g : List Digit → Found (Unit {0})) (ys : List Digit → List Span) → ((v : List Digit) → Covers (ys v) → Holds (λ (u : Unit {0}). Does (f v)) (g v))
        → (y : Found Turns) → Covers (read_in_turns ys (known_turns y).0) → Holds (λ (u : Unit {0}). Does (looping o f (known_turns y))) (and_then y (λ x. all_turns g x.0))
    loop_does o f g ys h (Sound x) c =
        weaker (Does (run_turns f x.0)) (Does (looping o f x)) (all_turns g x.0) (turns_do f g ys h x.0 c) (λ k. does_then (run_turns f x.0) (leave_counter o x.1) k (left_does o x.1))
    loop_does o f g ys h (Noted b x) c = holds_noted (λ (u : Unit {0}). Does (looping o f x)) b (all_turns g x.0)
    loop_does o f g ys h (Lost b) c = tt

    module _ (s : Scope) (p : ℕ) (h : HeaderTree) (body : StatementTree) where
      abbrev in_turn : DataObject → List Digit → Run → Run
      in_turn o v = activation timing (turn (loop_name h).name o v s) body

      abbrev asked_in : DataObject → List Digit → Found (Unit {0})
      asked_in o v = statement_checked timing (turn (loop_name h).name o v s) body

      abbrev read_in : DataObject → List Digit → List Span
      read_in o v = statement_reads (turn (loop_name h).name o v s) body

      for_does : ((o : DataObject) (v : List Digit) → Covers (read_in o v) → Holds (λ (u : Unit {0}). Does (in_turn o v)) (asked_in o v)) → (x : Option Meaning)
          → Covers (with_counter x (λ o. read_in_turns (read_in o) (known_turns (turns p h s o)).0) [])
          → Holds (λ (u : Unit {0}). Does (λ r. with_counter x (λ o. looping o (in_turn o) (known_turns (turns p h s o)) r) r)) (and_then (counter (loop_name h).at x) (λ o. and_then (turns p h s o) (λ y. all_turns (asked_in o) y.0)))
      for_does g None c = tt
      for_does g (Some Later) c = tt
      for_does g (Some (Constant v b)) c = tt
      for_does g (Some (Object o)) c =
          counted_does (λ (o : DataObject). Does (looping o (in_turn o) (known_turns (turns p h s o)))) (loop_name h).at o o.words o.kind (λ o. and_then (turns p h s o) (λ y. all_turns (asked_in o) y.0))
          (loop_does o (in_turn o) (asked_in o) (read_in o) (g o) (turns p h s o) c)

    -- ---- statements

    own_same : (s : Scope) (c : Tree) → Suffices s c → Covers (reads s c) → (r t : Run) → Like r t → truth (own_value s c (values_of r)) ≡ truth (own_value s c (values_of t))
    own_same s c h k r t l = ap (λ (ds : List Digit). truth ds) (h (width s c) (values_of r) (values_of t) (agree_on (reads s c) k r t l))

    mutual
      statement_does : (s : Scope) (a : StatementTree) → Covers (statement_reads s a) → Holds (λ (u : Unit {0}). Does (activation timing s a)) (statement_checked timing s a)
      statement_does s Null c = nothing_does
      statement_does s (Block l ss) c = statements_do s ss c
      statement_does s (Assignment k t e) c =
          holds_delay (λ (u : Unit {0}). Does (assign timing k s t e)) timing k (done (both (target_checked s t) (checked s e)))
          (holds_each (λ (x : ℕ × ℕ). SettlesTarget s t × Suffices s e) (λ (u : Unit {0}). Does (assign timing k s t e)) (λ x. tt) (both (target_checked s t) (checked s e))
          (holds_both (λ (w : ℕ). SettlesTarget s t) (λ (w : ℕ). Suffices s e) (target_checked s t) (checked s e) (settles_target s t) (suffices s e))
          (λ x h. assign_does s k t e h.0 h.1 c))
      statement_does s (If d a) c =
          holds_each (λ (x : ℕ × Unit {0}). Suffices s d × Does (activation timing s a)) (λ (u : Unit {0}). Does (activation timing s (If d a))) (λ x. tt) (both (checked s d) (statement_checked timing s a))
          (holds_both (λ (w : ℕ). Suffices s d) (λ (u : Unit {0}). Does (activation timing s a)) (checked s d) (statement_checked timing s a) (suffices s d) (statement_does s a (covers_second (reads s d) (statement_reads s a) c)))
          (λ x h. truth_does (λ r. truth (own_value s d (values_of r))) (activation timing s a) (λ r. r) (own_same s d h.0 (covers_first (reads s d) (statement_reads s a) c)) h.1 nothing_does)
      statement_does s (IfElse d a b) c =
          let rest = covers_second (reads s d) (statement_reads s a ++ statement_reads s b) c in
          holds_each (λ (x : ℕ × (Unit {0} × Unit {0})). Suffices s d × (Does (activation timing s a) × Does (activation timing s b))) (λ (u : Unit {0}). Does (activation timing s (IfElse d a b))) (λ x. tt)
          (both (checked s d) (both (statement_checked timing s a) (statement_checked timing s b)))
          (holds_both (λ (w : ℕ). Suffices s d) (λ (u : Unit {0} × Unit {0}). Does (activation timing s a) × Does (activation timing s b)) (checked s d) (both (statement_checked timing s a) (statement_checked timing s b)) (suffices s d)
          (holds_both (λ (u : Unit {0}). Does (activation timing s a)) (λ (u : Unit {0}). Does (activation timing s b)) (statement_checked timing s a) (statement_checked timing s b)
          (statement_does s a (covers_first (statement_reads s a) (statement_reads s b) rest)) (statement_does s b (covers_second (statement_reads s a) (statement_reads s b) rest))))
          (λ x h. truth_does (λ r. truth (own_value s d (values_of r))) (activation timing s a) (activation timing s b)
          (own_same s d h.0 (covers_first (reads s d) (statement_reads s a ++ statement_reads s b) c)) h.1.0 h.1.1)
      statement_does s (Case k e cs) c =
          holds_each (λ (x : ℕ × Unit {0}). Suffices s e × CasesDo s cs) (λ (u : Unit {0}). Does (activation timing s (Case k e cs))) (λ x. tt) (both (checked s e) (cases_checked timing s cs))
          (holds_both (λ (w : ℕ). Suffices s e) (λ (u : Unit {0}). CasesDo s cs) (checked s e) (cases_checked timing s cs) (suffices s e) (cases_do s cs (covers_second (reads s e) (cases_read s cs) c)))
          (λ x h. case_does s (agreement_of k) e (max (width s e) (case_width s cs)) cs h.0 (covers_first (reads s e) (cases_read s cs) c) h.1)
      statement_does s (For p h body) c = for_does s p h body (λ o v. statement_does (turn (loop_name h).name o v s) body) (find (loop_name h).name s) c
      statement_does s (TaskEnable t es) c = nothing_does
      statement_does s (Delay p ds) c = nothing_does

      statements_do : (s : Scope) (ss : StatementTrees) → Covers (statements_read s ss) → Holds (λ (u : Unit {0}). Does (activations timing s ss)) (statements_checked timing s ss)
      statements_do s no_statement c = nothing_does
      statements_do s (more_statements a rest) c =
          holds_each (λ (x : Unit {0} × Unit {0}). Does (activation timing s a) × Does (activations timing s rest)) (λ (u : Unit {0}). Does (activations timing s (more_statements a rest))) (λ x. tt) (both (statement_checked timing s a) (statements_checked timing s rest))
          (holds_both (λ (u : Unit {0}). Does (activation timing s a)) (λ (u : Unit {0}). Does (activations timing s rest)) (statement_checked timing s a) (statements_checked timing s rest)
          (statement_does s a (covers_first (statement_reads s a) (statements_read s rest) c)) (statements_do s rest (covers_second (statement_reads s a) (statements_read s rest) c)))
          (λ x h. does_then (activation timing s a) (activations timing s rest) h.0 h.1)

      one_case_does : (s : Scope) (k : CaseTree) → Covers (case_read s k) → Holds (λ (u : Unit {0}). CaseDoes s k) (case_checked timing s k)
      one_case_does s (Match es a) c =
          holds_each (λ (x : Unit {0} × Unit {0}). LabelsSuffice s es × Does (activation timing s a)) (λ (u : Unit {0}). CaseDoes s (Match es a)) (λ x. tt) (both (labels_checked s es) (statement_checked timing s a))
          (holds_both (λ (u : Unit {0}). LabelsSuffice s es) (λ (u : Unit {0}). Does (activation timing s a)) (labels_checked s es) (statement_checked timing s a) (labels_suffice s es)
          (statement_does s a (covers_second (labels_read s es) (statement_reads s a) c)))
          (λ x h. (h.0, covers_first (labels_read s es) (statement_reads s a) c, h.1))
      one_case_does s (Default a) c = statement_does s a c

      cases_do : (s : Scope) (cs : CaseTrees) → Covers (cases_read s cs) → Holds (λ (u : Unit {0}). CasesDo s cs) (cases_checked timing s cs)
      cases_do s no_case c = tt
      cases_do s (more_cases k cs) c =
          holds_each (λ (x : Unit {0} × Unit {0}). CaseDoes s k × CasesDo s cs) (λ (u : Unit {0}). CaseDoes s k × CasesDo s cs) (λ x. tt) (both (case_checked timing s k) (cases_checked timing s cs))
          (holds_both (λ (u : Unit {0}). CaseDoes s k) (λ (u : Unit {0}). CasesDo s cs) (case_checked timing s k) (cases_checked timing s cs)
          (one_case_does s k (covers_first (case_read s k) (cases_read s cs) c)) (cases_do s cs (covers_second (case_read s k) (cases_read s cs) c)))
          (λ x h. h)

pub statements_read_enough : Statements_read_enough
statements_read_enough timing s a =
    weaker (Does (statement_reads s a) (activation timing s a)) (IsSettled timing s a) (statement_checked timing s a) (statement_does (statement_reads s a) timing s a (λ k e. e))
    (λ does m h. let d = does (from m h) in record { at_once = d.now; later = d.later; same = λ n g l f. d.same (from n g) (l, f) })
