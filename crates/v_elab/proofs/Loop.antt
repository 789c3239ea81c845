-- The loop over all ports.
use Rattle.std.proofs.Common.{◌≡◌, ℕ, ◌+◌, ◌≤◌, ◌<◌, false, List, [], ◌∷◌, map, length, drop, Option, None, Some, bytes_eq, slice_get, Vec, refl, sym, ap, subst, ◌∙◌}
use Rattle.std.proofs.lemmas.List.{drop_all, drop_more}
use Rattle.std.proofs.lemmas.Option.{get_or_from_slice_get, slice_get_within, slice_get-get_or}
use Rattle.std.proofs.lemmas.Map.Keys.{IsDistinct-head, IsDistinct-tail}
use Rattle.std.specs.List.{AllByRecursion}
use Rattle.gpi.specs.declared.design.Node.{Node}
use Rattle.gpi.specs.declared.design.Process.{Process}
use Rattle.gpi.specs.Design.{widths}
use Rattle.v_flat.specs.Scope.Scope.{Scope, find}
use Rattle.v_flat.specs.Headers.{Port, port_name}
use Rattle.v_elab.specs.declared.connect.joint.Joined.{Joined}
use Rattle.v_elab.specs.declared.connect.joint.Joint as code
use Rattle.v_layout.specs.Build.Parts.{AreSoundIn}
use Rattle.v_layout.specs.declared.build.parts.Parts.{Parts}
use Rattle.v_elab.specs.Ports.{Differ, WithPorts}
use Rattle.v_elab.specs.declared.joined.JoinedPorts.{JoinedPorts}
use Rattle.v_elab.specs.PortsSteps.{AddsPort, AddsProcess, first_joined, joined_at, object_in}
use Rattle.v_elab.proofs.Joins.{AddsAll, all_more}

-- the table still has what these ports are joined to
abbrev Kept : (List ℕ → Option Joined) → (List ℕ → Option Joined) → List Port → Type 0
Kept f g [] = Unit {0}
Kept f g (p ∷ ps) = (g p.name ≡ f p.name) × Kept f g ps

all_kept : (f g : List ℕ → Option Joined) (ps : List Port) → ((n : List ℕ) → g n ≡ f n) → Kept f g ps
all_kept f g [] h = tt
all_kept f g (p ∷ ps) h = (h p.name, all_kept f g ps h)

still_kept : (f g h : List ℕ → Option Joined) (n : List ℕ) (ps : List Port) → ((m : List ℕ) → bytes_eq n m ≡ false → h m ≡ g m)
    → AllByRecursion (λ m. bytes_eq n m ≡ false) (map port_name ps) → Kept f g ps → Kept f h ps
still_kept f g h n [] same d k = tt
still_kept f g h n (p ∷ ps) same d k = (same p.name d.0 ∙ k.0, still_kept f g h n ps same d.1 k.1)

-- the ports before i have added theirs to x, which gives y; f tells what a name is joined to, and g what the table has
pub record Going (f g : List ℕ → Option Joined) (s : Scope) (ps : List Port) (i : ℕ) (x y : Parts) : Type 0 where
  pub signals : y.signals ≡ x.signals
  pub nodes : y.nodes ≡ x.nodes
  pub goes_on : (new : List Process) → AddsAll f s (length x.signals) (drop i ps) y.processes new → AddsAll f s (length x.signals) ps x.processes new
  pub kept : Kept f g (drop i ps)
  pub differ : Differ (map port_name (drop i ps))

pub going_none : (f g : List ℕ → Option Joined) (s : Scope) (ps : List Port) (x : Parts) → ((n : List ℕ) → g n ≡ f n) → Differ (map port_name ps) → Going f g s ps 0 x x
going_none f g s ps x h d = record { signals = refl; nodes = refl; goes_on = λ new a. a; kept = all_kept f g ps h; differ = d }

pub going_more : (f g h : List ℕ → Option Joined) (s : Scope) (ps : List Port) (i : ℕ) (x y z : Parts) (p : Port) (j : Option Joined) → Some p ≡ slice_get ps i → j ≡ g p.name
    → ((m : List ℕ) → bytes_eq p.name m ≡ false → h m ≡ g m) → AddsPort j (object_in (find p.name s)) y z → Going f g s ps i x y → Going f h s ps (i + 1) x z
going_more f g h s ps i x y z p j at taken same adds so_far =
    let here : drop i ps ≡ p ∷ drop (i + 1) ps =
    drop_more ps i p (slice_get_within ps i p (sym at)) ∙ ap (λ (q : Port). q ∷ drop (i + 1) ps) (get_or_from_slice_get ps i p p (sym at)) in
    let kept : Kept f g (p ∷ drop (i + 1) ps) = subst (Kept f g) here so_far.kept in
    let differ : Differ (map port_name (p ∷ drop (i + 1) ps)) = subst (λ (qs : List Port). Differ (map port_name qs)) here so_far.differ in
    let step : AddsProcess (f p.name) (object_in (find p.name s)) (length x.signals) y.processes z.processes =
    subst (λ (n : ℕ). AddsProcess (f p.name) (object_in (find p.name s)) n y.processes z.processes) (ap length so_far.signals)
    (subst (λ (k : Option Joined). AddsProcess k (object_in (find p.name s)) (length y.signals) y.processes z.processes) (taken ∙ kept.0) adds.processes) in
    record {
      signals = adds.signals ∙ so_far.signals;
      nodes = adds.nodes ∙ so_far.nodes;
      goes_on = λ new a. so_far.goes_on new (subst (λ (qs : List Port). AddsAll f s (length x.signals) qs y.processes new) (sym here) (z.processes, (step, a)));
      kept = still_kept f g h p.name (drop (i + 1) ps) same (IsDistinct-head bytes_eq p.name (map port_name (drop (i + 1) ps)) differ) kept.1;
      differ = IsDistinct-tail bytes_eq p.name (map port_name (drop (i + 1) ps)) differ;
    }

-- there is a port at each place
pub a_port : {A : Type 0} (ps : List Port) (i : ℕ) (d : Port) → None ≡ slice_get ps i → i < length ps → A
a_port ps i d e h = let f = slice_get-get_or ps i d h in absurd (cc)

pub going_end : (g : List ℕ → Option Joined) (s : Scope) (ps : List Port) (cs : List code.Joint) (i : ℕ) (x y : Parts) → length ps ≤ i → Differ (map port_name ps)
    → Going (first_joined cs) g s ps i x y → WithPorts s ps cs x y
going_end g s ps cs i x y l differ h = record {
  signals = h.signals;
  nodes = h.nodes;
  processes = λ outer js d are around inside so_far.
      let added = h.goes_on y.processes (subst (λ (qs : List Port). AddsAll (first_joined cs) s (length x.signals) qs y.processes y.processes) (sym (drop_all i ps l)) refl) in
      let done = all_more outer s ps js cs x around inside differ are y.processes d added so_far in record {
        signals = h.signals ∙ done.signals;
        nodes = ap (λ (v : Vec Node _). v.items) h.nodes ∙ done.nodes;
        processes = done.processes;
        sound = subst (λ ss. AreSoundIn y.processes (widths ss)) (sym h.signals) done.sound;
      };
}

-- what the table and the parts are
pub same_end : (f : List ℕ → Option Joined) (s : Scope) (ps : List Port) (i : ℕ) (x y z : Parts) (t u : JoinedPorts) → u ≡ t → z ≡ y → Going f (joined_at t) s ps i x y
    → Going f (joined_at u) s ps i x z
same_end f s ps i x y z t u a b h =
    subst (λ (w : Parts). Going f (joined_at u) s ps i x w) (sym b) (subst (λ (v : JoinedPorts). Going f (joined_at v) s ps i x y) (sym a) h)
