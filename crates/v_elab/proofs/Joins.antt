-- The parts of a design with the assignments of ports.
use Rattle.std.proofs.Common.{◌≡◌, ℕ, zero, suc, ◌+◌, ◌-◌, ◌≤◌, ◌<◌, Bool, true, false, ◌&&◌, nat_le, nat_lt, List, [], ◌∷◌, ◌++◌, map, length, Option, None, Some, slice_get, if◌then◌else◌, refl, sym, ap, subst, ◌∙◌, arith, length-append}
use Rattle.std.proofs.lemmas.Bool.Decides.{nat_tests}
use Rattle.std.specs.List.{filter, range_with_len}
use Rattle.gpi.specs.declared.design.Process.{Process}
use Rattle.gpi.specs.declared.design.Signal.{Signal}
use Rattle.gpi.specs.declared.design.Wake.{Wake}
use Rattle.gpi.specs.Design.{Proc, proc_of, widths}
use Rattle.gpi.specs.Soundness.{are_wakes}
use Rattle.v_syntax.specs.declared.item.Direction.{Direction}
use Rattle.v_syntax.specs.declared.item.Direction.TheVariants as direction
use Rattle.v_syntax.specs.ExpressionTrees.{Tree, TargetTree}
use Rattle.v_flat.specs.declared.scope.meaning.Bounds.{Bounds}
use Rattle.v_flat.specs.declared.scope.meaning.DataObject.{DataObject}
use Rattle.v_flat.specs.declared.scope.meaning.Meaning.{Meaning}
use Rattle.v_flat.specs.declared.scope.meaning.Meaning.TheVariants.{Constant, Object, Later}
use Rattle.v_flat.specs.Scope.Scope.{Scope, find, width_of}
use Rattle.v_flat.specs.Headers.{Port, port_name}
use Rattle.v_flat.specs.Paths.{SignalAt, signal_of}
use Rattle.v_flat.specs.Statements.{reads}
use Rattle.v_flat.specs.Targets.{as_target}
use Rattle.v_flat.specs.Design.{Design, Joint, any_change, find_joint, input_joint, is_read, output_target, port_joint, port_joints, wakes_of, with_process}
use Rattle.v_check.specs.declared.constants.checked.Checked.{Checked}
use Rattle.v_check.specs.Constants.Checked.{IsNameOf, IsObjectOf}
use Rattle.v_process.specs.declared.target.checked.CheckedTarget.{CheckedTarget}
use Rattle.v_loop.specs.declared.reads.span.Span as code
use Rattle.v_loop.specs.Reads.Reads.{spans_of}
use Rattle.v_loop.specs.Wakes.Wakes.{WaitForAll}
use Rattle.v_process.specs.Ports.{AssignsInput, AssignsOutput}
use Rattle.v_process.proofs.Items.{input_joins, output_joins}
use Rattle.v_elab.specs.declared.connect.joint.Joined.{Joined}
use Rattle.v_elab.specs.declared.connect.joint.Joined.TheVariants as joined_kind
use Rattle.v_elab.specs.declared.connect.joint.Joint as code_joint
use Rattle.v_elab.specs.Connect.Joints.{AreJoints, IsJoined, IsTargetOf, IsValue}
use Rattle.v_layout.specs.Build.Parts.{IsSoFar, IsSoundIn}
use Rattle.v_layout.specs.declared.build.parts.Parts.{Parts}
use Rattle.v_layout.proofs.BuildLemmas.More.{process_more}
use Rattle.v_layout.specs.Named.{StaySignals}
use Rattle.v_elab.proofs.NamedLemmas.Trees.{expression_names, target_names}
use Rattle.v_elab.specs.Ports.{Differ}
use Rattle.v_elab.specs.PortsSteps.{AddsProcess, first_joined, object_in}
use Rattle.v_elab.proofs.Matches.{Matches, matches}

-- ---- wakes are signals

both_true : (a b : Bool) → a ≡ true → b ≡ true → (a && b) ≡ true
both_true true b h k = k
both_true false b h k = absurd (cc)

is_below : (a n : ℕ) → a < n → nat_lt a n ≡ true
is_below a n h = grind (arith, nat_tests, h)

wakes_by : (b : Bool) (a n : ℕ) (ks : List ℕ) → a < n → are_wakes (map any_change ks) n ≡ true → are_wakes (map any_change (if b then a ∷ ks else ks)) n ≡ true
wakes_by true a n ks h k = both_true (nat_lt a n) (are_wakes (map any_change ks) n) (is_below a n h) k
wakes_by false a n ks h k = k

some_wakes : (f : ℕ → Bool) (a k n : ℕ) → a + k ≤ n → are_wakes (map any_change (filter f (range_with_len a k))) n ≡ true
some_wakes f a zero n h = refl
some_wakes f a (suc k) n h =
    wakes_by (f a) a n (filter f (range_with_len (a + 1) k)) (omega (arith, h)) (some_wakes f (a + 1) k n (omega (arith, h)))

-- ---- how many signals there are

length_widths : (ss : List Signal) → length (widths ss) ≡ length ss
length_widths [] = refl
length_widths (s ∷ ss) = ap suc (length_widths ss)

length_signals : (xs : List SignalAt) → length (map signal_of xs) ≡ length xs
length_signals [] = refl
length_signals (x ∷ xs) = ap suc (length_signals xs)

as_many : (d : Design) (x : Parts) → IsSoFar d x → length d.signals ≡ length x.signals
as_many d x h = sym (length_signals d.signals) ∙ ap length (sym h.signals)

enough : (d : Design) (x : Parts) (more : List ℕ) → IsSoFar d x → length d.signals ≤ length (widths x.signals ++ more)
enough d x more h =
    let a = length-append (widths x.signals) more in
    let b = length_widths x.signals in
    let e = as_many d x h in
    omega (arith, a, b, e)

-- ---- the first signal of a data object is one of the design, with its width

some_index : (a b : ℕ) (t : Bool) → 1 ≤ (if t then (b - a) + 1 else (a - b) + 1)
some_index a b true = omega arith
some_index a b false = omega arith

has_index : (w : Bounds) → 1 ≤ width_of w
has_index w = some_index w.left w.right (nat_le w.left w.right)

first_signal : (o : DataObject) (w : Option Bounds) (ws : List ℕ) → IsObjectOf o w ws → IsObjectOf o None ws
first_signal o None ws h = h
first_signal o (Some w) ws h = (h.first, h.each o.first (omega arith) (let e = has_index w in omega (arith, e)))

-- ---- parts with other processes

abbrev pub with_processes : Parts → List Process → Parts
with_processes x ps = record { signals = x.signals; nodes = x.nodes; processes = ps }

module _ (outer : Scope) (x : Parts) (around : StaySignals outer (widths x.signals)) where
  one_more : (p : Process) (old new : List Process) (d u : Design) → new ≡ old ++ p ∷ [] → IsSoundIn p (widths x.signals) → u ≡ with_process (proc_of p) d
      → IsSoFar d (with_processes x old) → IsSoFar u (with_processes x new)
  one_more p old new d u e s is h =
      subst (λ (v : Design). IsSoFar v (with_processes x new)) (sym is) (process_more p (with_processes x old) (with_processes x new) refl refl e s d h)

  no_more : (old new : List Process) (d : Design) → new ≡ old → IsSoFar d (with_processes x old) → IsSoFar d (with_processes x new)
  no_more old new d e h = subst (λ (ps : List Process). IsSoFar d (with_processes x ps)) (sym e) h

  -- an input is assigned its expression
  input_more : (o : DataObject) (e : Tree) (c : Checked) (xs : List code.Span) (ws : List Wake) (p : Process) (old new : List Process) (d : Design)
      → ((more : List ℕ) → IsObjectOf o None (widths x.signals ++ more)) → IsValue outer e c xs → WaitForAll (spans_of xs) (length x.signals) ws → AssignsInput o c ws p
      → new ≡ old ++ p ∷ [] → IsSoFar d (with_processes x old) → IsSoFar (input_joint outer o e d) (with_processes x new)
  input_more o e c xs ws p old new d here v waits assigns added h =
      let waiting : ws ≡ wakes_of (reads outer e) d = waits d (as_many d (with_processes x old) h) ∙ ap (λ ys. wakes_of ys d) v.reads_are in
      let made : AssignsInput o c (wakes_of (reads outer e) d) p = subst (λ (us : List Wake). AssignsInput o c us p) waiting assigns in
      let runs = made outer e v.stands in
      one_more p old new d (input_joint outer o e d) added (record {
        body = λ more. runs.sound (widths x.signals ++ more) (here more, expression_names outer (widths x.signals ++ more) (around more) e);
        wakes = λ more. ap (λ (y : Proc). are_wakes y.wakes (length (widths x.signals ++ more))) runs.is
            ∙ some_wakes (λ n. is_read n (reads outer e)) 0 (length d.signals) (length (widths x.signals ++ more)) (let k = enough d (with_processes x old) more h in omega (arith, k));
      }) (input_joins outer o e c d p made v.stands) h

  -- what an output is joined to is assigned its value
  output_more : (o : DataObject) (t : Option TargetTree) (c : CheckedTarget) (p : Process) (old new : List Process) (d : Design)
      → ((more : List ℕ) → IsObjectOf o None (widths x.signals ++ more)) → IsTargetOf outer t c → AssignsOutput o c p
      → new ≡ old ++ p ∷ [] → IsSoFar d (with_processes x old) → IsSoFar (output_target outer o t d) (with_processes x new)
  output_more o None c p old new d here v assigns added h = absurd v
  output_more o (Some t) c p old new d here v assigns added h =
      let runs = assigns outer t v in
      one_more p old new d (output_target outer o (Some t) d) added (record {
        body = λ more. runs.sound (widths x.signals ++ more) (here more, target_names outer (widths x.signals ++ more) (around more) t);
        wakes = λ more. ap (λ (y : Proc). are_wakes y.wakes (length (widths x.signals ++ more))) runs.is
            ∙ both_true (nat_lt o.first (length (widths x.signals ++ more))) true (is_below o.first (length (widths x.signals ++ more)) (here more).0) refl;
      }) (output_joins outer o t c d p assigns v) h

  -- a port that is a data object
  object_more : (g : Option Direction) (e : Tree) (j : Joined) (o : DataObject) (old new : List Process) (d : Design)
      → ((more : List ℕ) → IsObjectOf o None (widths x.signals ++ more)) → IsJoined outer g e j → AddsProcess (Some j) (Some o) (length x.signals) old new
      → IsSoFar d (with_processes x old) → IsSoFar (port_joint outer (Some e) g (Some (Object o)) d) (with_processes x new)
  object_more (Some direction.Output) e (joined_kind.Target c) o old new d here v a h = output_more o (as_target e) c a.0 old new d here v a.1.0 a.1.1 h
  object_more (Some direction.Output) e (joined_kind.Value c xs) o old new d here v a h = absurd v
  object_more (Some direction.Input) e (joined_kind.Target c) o old new d here v a h = absurd v
  object_more (Some direction.Input) e (joined_kind.Value c xs) o old new d here v a h =
      input_more o e c xs.items a.1.0.0 a.0 old new d here v a.1.0.1.0 a.1.0.1.1 a.1.1 h
  object_more None e (joined_kind.Target c) o old new d here v a h = absurd v
  object_more None e (joined_kind.Value c xs) o old new d here v a h =
      input_more o e c xs.items a.1.0.0 a.0 old new d here v a.1.0.1.0 a.1.0.1.1 a.1.1 h

  -- a port that is none
  no_object : (g : Option Direction) (e : Tree) (m : Option Meaning) (d : Design) → object_in m ≡ None → port_joint outer (Some e) g m d ≡ d
  no_object (Some direction.Output) e None d h = refl
  no_object (Some direction.Output) e (Some Later) d h = refl
  no_object (Some direction.Output) e (Some (Constant ds b)) d h = refl
  no_object (Some direction.Input) e None d h = refl
  no_object (Some direction.Input) e (Some Later) d h = refl
  no_object (Some direction.Input) e (Some (Constant ds b)) d h = refl
  no_object None e None d h = refl
  no_object None e (Some Later) d h = refl
  no_object None e (Some (Constant ds b)) d h = refl
  no_object g e (Some (Object o)) d h = absurd (cc)

  left_out : (g : Option Direction) (e : Tree) (m : Option Meaning) (old new : List Process) (d : Design) → object_in m ≡ None → new ≡ old
      → IsSoFar d (with_processes x old) → IsSoFar (port_joint outer (Some e) g m d) (with_processes x new)
  left_out g e m old new d k a h =
      subst (λ (v : Design). IsSoFar v (with_processes x new)) (sym (no_object g e m d k)) (no_more old new d a h)

  some_more : (g : Option Direction) (e : Tree) (j : Joined) (m : Option Meaning) (old new : List Process) (d : Design)
      → ((more : List ℕ) → IsNameOf m (widths x.signals ++ more)) → IsJoined outer g e j → AddsProcess (Some j) (object_in m) (length x.signals) old new
      → IsSoFar d (with_processes x old) → IsSoFar (port_joint outer (Some e) g m d) (with_processes x new)
  some_more g e j None old new d here v a h = left_out g e None old new d refl a h
  some_more g e j (Some Later) old new d here v a h = left_out g e (Some Later) old new d refl a h
  some_more g e j (Some (Constant ds b)) old new d here v a h = left_out g e (Some (Constant ds b)) old new d refl a h
  some_more g e j (Some (Object o)) old new d here v a h = object_more g e j o old new d (λ more. first_signal o o.words (widths x.signals ++ more) (here more)) v a h

  -- one port
  pub joined_more : (g : Option Direction) (e : Option Tree) (j : Option Joined) (m : Option Meaning) (old new : List Process) (d : Design)
      → ((more : List ℕ) → IsNameOf m (widths x.signals ++ more)) → Matches outer g e j → AddsProcess j (object_in m) (length x.signals) old new
      → IsSoFar d (with_processes x old) → IsSoFar (port_joint outer e g m d) (with_processes x new)
  joined_more g None None m old new d here v a h = no_more old new d a h
  joined_more g None (Some j) m old new d here v a h = absurd v
  joined_more g (Some e) None m old new d here v a h = absurd v
  joined_more g (Some e) (Some j) m old new d here v a h = some_more g e j m old new d here v a h

-- ---- all ports

-- what ports add, one after the other, where f tells what a name is joined to
abbrev pub AddsAll : (List ℕ → Option Joined) → Scope → ℕ → List Port → List Process → List Process → Type 0
AddsAll f s count [] old new = new ≡ old
AddsAll f s count (p ∷ ps) old new = (mid : List Process) × (AddsProcess (f p.name) (object_in (find p.name s)) count old mid × AddsAll f s count ps mid new)

-- each of these ports is one of all
abbrev AreOf : List Port → List Port → Type 0
AreOf all ps = (k : ℕ) (p : Port) → slice_get ps k ≡ Some p → (i : ℕ) × (slice_get all i ≡ Some p)

module _ (outer s : Scope) (all : List Port) (js : List Joint) (cs : List code_joint.Joint) (x : Parts) (around : StaySignals outer (widths x.signals)) (inside : StaySignals s (widths x.signals))
    (differ : Differ (map port_name all)) (are : AreJoints outer all js cs) where
  these_more : (ps : List Port) (old new : List Process) (d : Design) → AreOf all ps → AddsAll (first_joined cs) s (length x.signals) ps old new
      → IsSoFar d (with_processes x old) → IsSoFar (port_joints outer js s ps d) (with_processes x new)
  these_more [] old new d l a h = no_more outer x around old new d a h
  these_more (p ∷ ps) old new d l a h =
      let here = l 0 p refl in
      these_more ps a.0 new (port_joint outer (find_joint p.name js) p.direction (find p.name s) d) (λ k q e. l (suc k) q e) a.1.1
      (joined_more outer x around p.direction (find_joint p.name js) (first_joined cs p.name) (find p.name s) old a.0 d (λ more. inside more p.name)
      (matches outer all here.0 p js cs differ here.1 are) a.1.0 h)

  pub all_more : (new : List Process) (d : Design) → AddsAll (first_joined cs) s (length x.signals) all x.processes new → IsSoFar d x
      → IsSoFar (port_joints outer js s all d) (with_processes x new)
  all_more new d a h = these_more all x.processes new d (λ k p e. (k, e)) a h
