-- What the names of a sound design mean is known.
use Rattle.std.proofs.Common.{ℕ, zero, suc, ◌+◌, ◌<◌, ◌≤◌, nat_lt, nat_le, Bool, true, false, IsTrue, List, [], ◌∷◌, length, Option, Some, IfSome, if◌then◌else◌, bytes_eq, refl, arith}
use Rattle.std.specs.Prelude.{slice_index_or}
use Rattle.std.proofs.lemmas.Bool.{ltb-true, leb-true, and_parts}
use Rattle.std.proofs.lemmas.List.{length-map}
use Rattle.std.proofs.lemmas.Option.{IfSome_then}
use Rattle.std.specs.List.{find}
use Rattle.std.specs.Option.{option_map}
use Rattle.gpi.specs.Soundness.{is_spot, are_spots, are_nodes}
use Rattle.gpi.specs.State.{State}
use Rattle.gpi.specs.declared.design.Flat.{Flat}
use Rattle.gpi.specs.declared.design.Node.{Node}
use Rattle.gpi.specs.declared.design.Signal.{Signal}
use Rattle.gpi.specs.declared.design.Spot.{Spot}
use Rattle.gpi.specs.declared.design.Spot.TheVariants as spot
use Rattle.py_evaluate.specs.Attribute.Knows.{Knows, KnowsDesign}
use Rattle.py_evaluate.specs.Attribute.Look.{spot_of, spot_value}
use Rattle.run_view.specs.DesignNames.Names.{names_of, child_of}
use Rattle.task_queue.specs.Queues.{TaskQueue}
use Rattle.await_tree.specs.SyncObjects.States.{States}
use Rattle.await_tree.specs.EndedTasks.Endings.{Endings}
use Rattle.run_view.specs.View.{view_of, IsOf}

abbrev Meant : Type 0
Meant = List ℕ × Spot

-- ---- what a name means is one of the nodes, or of the signals

first_of : (P : Spot → Type 0) (m : Meant) (o : Option Meant) (b : Bool) → P m.1 → IfSome (option_map (λ (c : Meant). c.1) o) P
    → IfSome (option_map (λ (c : Meant). c.1) (if b then Some m else o)) P
first_of P m o true p q = p
first_of P m o false p q = q

meant : (nodes signals : ℕ) (cs : List Meant) (name : List ℕ) → IsTrue (are_spots nodes signals cs) → IfSome (spot_of cs name) (λ s. IsTrue (is_spot nodes signals s))
meant nodes signals [] name h = tt
meant nodes signals (c ∷ cs) name h =
    let both : IsTrue (is_spot nodes signals c.1) × IsTrue (are_spots nodes signals cs) = and_parts (is_spot nodes signals c.1) (are_spots nodes signals cs) h in
    first_of (λ s. IsTrue (is_spot nodes signals s)) c (find (λ (d : Meant). bytes_eq d.0 name) cs) (bytes_eq c.0 name) both.0 (meant nodes signals cs name both.1)

children : (nodes signals : ℕ) (ns : List Node) (n : ℕ) → IsTrue (are_nodes nodes signals ns) → IsTrue (are_spots nodes signals (slice_index_or (names_of ns) n []))
children nodes signals [] n h = refl
children nodes signals (x ∷ xs) zero h = (and_parts (are_spots nodes signals x.children) (are_nodes nodes signals xs) h).0
children nodes signals (x ∷ xs) (suc n) h = children nodes signals xs n (and_parts (are_spots nodes signals x.children) (are_nodes nodes signals xs) h).1

-- ---- such a thing is known

module _ (flat : Flat) (nodes : List Node) (state : State) (objects : States) (queues : List TaskQueue) (endings : Endings) (h : IsOf flat nodes state) where
  spot_known : (s : Spot) → IsTrue (is_spot (length flat.nodes) (length flat.signals) s) → Knows (view_of flat state objects queues endings) (spot_value s)
  spot_known (spot.Inner k) e =
      let below : k < length flat.nodes = ltb-true k (length flat.nodes) e in
      (omega (arith, length-map flat.nodes (λ (n : Node). n.children)), omega (arith, length-map flat.nodes (λ (n : Node). n.path)))
  spot_known (spot.Sig s) e =
      let below : s.0 < length flat.signals = ltb-true s.0 (length flat.signals) e in
      (omega (arith, h.values), omega (arith, length-map flat.signals (λ (s : Signal). s.path)))
  spot_known (spot.Words first low count) e =
      let both : IsTrue (nat_lt first.0 (length flat.signals)) × IsTrue (nat_le (first.0 + count) (length flat.signals))
      = and_parts (nat_lt first.0 (length flat.signals)) (nat_le (first.0 + count) (length flat.signals)) e in
      let below : first.0 + count ≤ length flat.signals = leb-true (first.0 + count) (length flat.signals) both.1 in
      record {
        signals = omega (arith, h.values);
        places = omega (arith, length-map flat.signals (λ (s : Signal). s.path));
        numbers = omega (arith, h.sound.signals);
      }

  pub names_known : KnowsDesign (view_of flat state objects queues endings)
  names_known node name =
      IfSome_then (child_of flat.nodes node name)
      (meant (length flat.nodes) (length flat.signals) (slice_index_or (names_of flat.nodes) node []) name
      (children (length flat.nodes) (length flat.signals) flat.nodes node h.sound.spots)) spot_known
