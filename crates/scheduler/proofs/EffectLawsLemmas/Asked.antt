-- The keys of a tree that may begin may be registered.
use Rattle.std.specs.Prelude.{◌==◌, ◌||◌, nat_lt, if◌then◌else◌}
use Rattle.std.proofs.Common.{◌≡◌, ℕ, ◌+◌, ◌<◌, ◌≤◌, Bool, true, false, List, [], ◌∷◌, ◌++◌, length, Option, None, Some, refl, ap, sym, ◌∙◌, subst, arith, rules, eqb-true}
use Rattle.gpi.specs.Content.{Content, IsAsked}
use Rattle.gpi.specs.Keys.{among, same_key}
use Rattle.gpi.specs.Limits.{latest_time}
use Rattle.gpi.specs.State.{State, is_end}
use Rattle.gpi.specs.declared.types.Key.{Key}
use Rattle.gpi.specs.declared.types.Key.TheVariants as key
use Rattle.gpi.specs.declared.types.SigId.{SigId}
use Rattle.py_value.specs.Trigger.{Trig, Made, Form, Trigs, NoTrig, IsSound, IsSoundForm, AreSound}
use Rattle.py_value.specs.Trigger as trigger
use Rattle.py_value.specs.declared.value.Fault.{Fault}
use Rattle.py_evaluate.specs.Attribute.Look.{View}
use Rattle.py_evaluate.specs.Attribute.Knows.{KnowsTrig, KnowsForm, KnowsTrigs, KnowsSignal}
use Rattle.await_tree.specs.declared.cause.Awaited.{Awaited}
use Rattle.await_tree.specs.declared.cause.Awaited.TheVariants as awaited
use Rattle.await_tree.specs.Tree.{Tree, Trees, NoTree, Then, leaves, all_leaves}
use Rattle.await_tree.specs.Begin.{Facts, begin}
use Rattle.await_tree.specs.Check.{edge, only, tree_of, form_tree, all_trees, refusal, refusals, or_fault, check, last_time}
use Rattle.await_tree.specs.Fire.{is_among}
use Rattle.await_tree.proofs.Within.{leaves_only_go}
use Rattle.await_tree.specs.WaitList.Keys.{AreAsked}
use Rattle.await_tree.specs.WaitList.Waiting.{keys_among, tree_keys}
use Rattle.rig_model.specs.Run.Known.{KnowsTrigger}

one_signal : (s t : SigId) → (s.0 == t.0) ≡ true → s ≡ t
one_signal s t h = ap (λ (n : ℕ). let x : SigId = record { 0 = n } in x) (eqb-true s.0 t.0 h)

-- keys that are one are equal
same_is : (x y : Key) → same_key x y ≡ true → x ≡ y
same_is (key.At s) (key.At t) h = ap key.At (eqb-true s t h)
same_is (key.Rise s) (key.Rise t) h = ap key.Rise (one_signal s t h)
same_is (key.Fall s) (key.Fall t) h = ap key.Fall (one_signal s t h)
same_is (key.Change s) (key.Change t) h = ap key.Change (one_signal s t h)
same_is key.ReadWrite key.ReadWrite h = refl
same_is key.ReadOnly key.ReadOnly h = refl
same_is key.NextStep key.NextStep h = refl
same_is x y h = cc

-- the keys among what is awaited
among_keys : (k : Key) (ws : List Awaited) → among k (keys_among ws) ≡ is_among (awaited.Key k) ws
among_keys k [] = refl
among_keys k (awaited.Key own ∷ ws) = ap (λ (b : Bool). same_key k own || b) (among_keys k ws)
among_keys k (awaited.Event e ∷ ws) = among_keys k ws
among_keys k (awaited.Lock l ∷ ws) = among_keys k ws
among_keys k (awaited.Join t ∷ ws) = among_keys k ws

module _ (n : ℕ) (s : State) where
  -- a time that comes, or a signal that there is
  abbrev IsSoon : Key → Type 0
  IsSoon (key.At due) = s.time < due
  IsSoon (key.Rise sig) = sig.0 < n
  IsSoon (key.Fall sig) = sig.0 < n
  IsSoon (key.Change sig) = sig.0 < n
  IsSoon _ = Unit {0}

  abbrev AreSoon : List Awaited → Type 0
  AreSoon [] = Unit {0}
  AreSoon (awaited.Key k ∷ ws) = IsSoon k × AreSoon ws
  AreSoon (awaited.Event e ∷ ws) = AreSoon ws
  AreSoon (awaited.Lock l ∷ ws) = AreSoon ws
  AreSoon (awaited.Join t ∷ ws) = AreSoon ws

  soon_more : (xs ys : List Awaited) → AreSoon xs → AreSoon ys → AreSoon (xs ++ ys)
  soon_more [] ys h k = k
  soon_more (awaited.Key x ∷ xs) ys h k = (h.0, soon_more xs ys h.1 k)
  soon_more (awaited.Event e ∷ xs) ys h k = soon_more xs ys h k
  soon_more (awaited.Lock l ∷ xs) ys h k = soon_more xs ys h k
  soon_more (awaited.Join t ∷ xs) ys h k = soon_more xs ys h k

  -- ---- what isn't refused may be registered

  not_late : (due : ℕ) (f : Fault) (b : Bool) → nat_lt last_time due ≡ b → (if b then Some f else None) ≡ None → due ≤ latest_time
  not_late due f true e h = absurd (cc)
  not_late due f false e h = not_above due e
    where
      not_above : (m : ℕ) → nat_lt last_time m ≡ false → m ≤ latest_time
      not_above m q = search rules

  both_none : (a b : Option Fault) → or_fault a b ≡ None → (a ≡ None) × (b ≡ None)
  both_none (Some f) b h = absurd (cc)
  both_none None b h = (refl, h)

  open_phase : (f : Fault) (b : Bool) → (if b then Some f else None) ≡ None → b ≡ false
  open_phase f true h = absurd (cc)
  open_phase f false h = refl

  key_asked : (k : Key) → refusal (awaited.Key k) s.region ≡ None → IsSoon k → IsAsked n s k
  key_asked (key.At due) r h = (h, not_late due _ (nat_lt last_time due) refl r)
  key_asked (key.Rise sig) r h = h
  key_asked (key.Fall sig) r h = h
  key_asked (key.Change sig) r h = h
  key_asked key.ReadWrite r h = open_phase _ (is_end s.region) r
  key_asked key.ReadOnly r h = open_phase _ (is_end s.region) r
  key_asked key.NextStep r h = tt

  asked_by : (k : Key) (ws : List Awaited) → refusals ws s.region ≡ None → AreSoon ws → among k (keys_among ws) ≡ true → IsAsked n s k
  asked_by k [] r h m = absurd (cc)
  asked_by k (awaited.Key own ∷ ws) r h m =
      let both : (refusal (awaited.Key own) s.region ≡ None) × (refusals ws s.region ≡ None) = both_none (refusal (awaited.Key own) s.region) (refusals ws s.region) r in
      by_same (same_key k own) refl both.0 m (λ o. asked_by k ws both.1 h.1 o)
    where
      by_same : (b : Bool) → same_key k own ≡ b → refusal (awaited.Key own) s.region ≡ None
          → (same_key k own || among k (keys_among ws)) ≡ true → (among k (keys_among ws) ≡ true → IsAsked n s k) → IsAsked n s k
      by_same true e q o more = subst (λ (x : Key). IsAsked n s x) (sym (same_is k own e)) (key_asked own q h.0)
      by_same false e q o more = more (rw e at o)
  asked_by k (awaited.Event e ∷ ws) r h m = asked_by k ws r h m
  asked_by k (awaited.Lock l ∷ ws) r h m = asked_by k ws r h m
  asked_by k (awaited.Join t ∷ ws) r h m = asked_by k ws r h m

  -- ---- the leaves of the tree of a known trigger

  abbrev AllSoon : Trees → Type 0
  AllSoon NoTree = Unit {0}
  AllSoon (Then t ts) = AreSoon (leaves t) × AllSoon ts

  all_soon : (ts : Trees) → AllSoon ts → AreSoon (all_leaves ts)
  all_soon NoTree h = tt
  all_soon (Then t ts) h = soon_more (leaves t) (all_leaves ts) h.0 (all_soon ts h.1)

  only_soon : (ts : Trees) → AllSoon ts → AreSoon (leaves (only ts))
  only_soon NoTree h = tt
  only_soon (Then t ts) h = h.0

  module _ (v : View) (signals : n ≡ length v.signals) where
    known_signal : (sig : SigId) → KnowsSignal v sig.0 → sig.0 < n
    known_signal sig h = omega (arith, h.0, signals)

    edge_soon : (rising : Bool) (sig : SigId) → KnowsSignal v sig.0 → IsSoon (edge rising sig)
    edge_soon true sig h = known_signal sig h
    edge_soon false sig h = known_signal sig h

    mutual
      trig_soon : (t : Trig) → KnowsTrig v t → IsSound t → AreSoon (leaves (tree_of t s.time))
      trig_soon (Made id form) h g = form_soon form (Made id form) h g

      form_soon : (form : Form) (t : Trig) → KnowsForm v form → IsSoundForm form → AreSoon (leaves (form_tree form t s.time))
      form_soon (trigger.Time steps) t h g = (omega (arith, g.0), tt)
      form_soon (trigger.Rise sig) t h g = (known_signal sig h, tt)
      form_soon (trigger.Fall sig) t h g = (known_signal sig h, tt)
      form_soon (trigger.Change sig) t h g = (known_signal sig h, tt)
      form_soon trigger.ReadWrite t h g = (tt, tt)
      form_soon trigger.ReadOnly t h g = (tt, tt)
      form_soon trigger.NextStep t h g = (tt, tt)
      form_soon (trigger.Cycles sig count rising) t h g = (edge_soon rising sig h, tt)
      form_soon (trigger.Event e) t h g = tt
      form_soon (trigger.Lock l) t h g = tt
      form_soon (trigger.Join task) t h g = tt
      form_soon (trigger.First ts) t h g = all_soon (all_trees ts s.time) (row_soon ts h g.1)
      form_soon (trigger.Combine ts) t h g = all_soon (all_trees ts s.time) (row_soon ts h g.1)
      form_soon (trigger.Limit ts steps) t h g =
          soon_more (leaves (only (all_trees ts s.time))) (awaited.Key (key.At (s.time + steps)) ∷ [])
          (only_soon (all_trees ts s.time) (row_soon ts h g.1)) (omega (arith, g.3.0), tt)

      row_soon : (ts : Trigs) → KnowsTrigs v ts → AreSound ts → AllSoon (all_trees ts s.time)
      row_soon NoTrig h g = tt
      row_soon (trigger.Then t ts) h g = (trig_soon t h.0 g.0, row_soon ts h.1 g.1)

-- What a known trigger waits for that isn't refused, once its tree has begun.
pub begun_asked : (content : Content) (v : View) (trig : Trig) (facts : Facts) → length content.state.signals ≡ length v.signals → KnowsTrigger v trig
    → check trig content.state.time content.state.region ≡ None → AreAsked content (tree_keys (begin (tree_of trig content.state.time) facts).tree)
begun_asked content v trig facts signals known good k m out =
    let tree : Tree = tree_of trig content.state.time in
    let before : is_among (awaited.Key k) (leaves tree) ≡ true = leaves_only_go.begins tree facts (awaited.Key k) (sym (among_keys k (leaves (begin tree facts).tree)) ∙ m) in
    asked_by (length content.state.signals) content.state k (leaves tree) good
    (trig_soon (length content.state.signals) content.state v signals trig known.0 known.1) (among_keys k (leaves tree) ∙ before)
