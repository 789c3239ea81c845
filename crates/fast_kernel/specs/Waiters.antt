-- A means of proof: who waits for which signal, for the proofs of the fast simulator.
use Rattle.std.specs.Prelude.{◌≡◌, ℕ, zero, suc, ◌<◌, ◌≤◌, ◌==◌, ◌&&◌, ◌||◌, Bool, false, IsTrue, List, [], ◌∷◌, ◌++◌, length, vec_capacity, slice_index_or, if◌then◌else◌}
use Rattle.four_value.specs.Vector.{digit_at, edge_of}
use Rattle.gpi.specs.declared.design.Wake.{Wake}
use Rattle.gpi.specs.declared.design.WakeEdge.{WakeEdge}
use Rattle.gpi.specs.declared.design.WakeEdge.TheVariants.{Any}
use Rattle.gpi.specs.declared.design.Process.{Process}
use Rattle.gpi.specs.declared.types.Report.{Report}
use Rattle.gpi.specs.Limits.{most_elements}
use Rattle.gpi.specs.Design.{Proc}
use Rattle.gpi.specs.Keys.{holds}
use Rattle.gpi.specs.Soundness.{are_wakes}
use Rattle.gpi.specs.State.{edge_fits, waits}
use Rattle.kernel_base.specs.Lists.{AreBelow, AreDistinct}
use Rattle.fast_kernel.specs.declared.waiters.Link.{Link}
use Rattle.fast_kernel.specs.declared.waiters.Chains.{Chains}
use Rattle.fast_kernel.specs.declared.waiters.Finds.{Finds}
use Rattle.fast_kernel.specs.declared.waiters.Waiters.{Waiters}

-- a process that waits for an edge of a signal
pub record Waiting : Type 0 where
  pub process : ℕ
  pub edge : WakeEdge

-- the wakes of process n that are of this signal
abbrev pub own : ℕ → ℕ → List Wake → List Waiting
own s n [] = []
own s n (w ∷ ws) = if w.sig.0 == s then record { process = n; edge = w.edge } ∷ own s n ws else own s n ws

-- who waits for a signal, by rising number from n
abbrev pub awaiting : ℕ → ℕ → List Proc → List Waiting
awaiting s n [] = []
awaiting s n (p ∷ ps) = own s n p.wakes ++ awaiting s (suc n) ps

-- ---- chains of links

abbrev pub no_link : Link
no_link = record { process = 0; edge = Any; next = 0 }

abbrev pub link_at : List Link → ℕ → Link
link_at ls k = slice_index_or ls k no_link

abbrev pub waiting_of : Link → Waiting
waiting_of l = record { process = l.process; edge = l.edge }

-- the chain that begins with link n, where links count from 1 and 0 is the end, among the first k links
abbrev pub chain_within : ℕ → List Link → ℕ → List Waiting
chain_within zero ls n = []
chain_within (suc k) ls n =
    if n == suc k then waiting_of (link_at ls k) ∷ chain_within k ls (link_at ls k).next else chain_within k ls n

abbrev pub chain : List Link → ℕ → List Waiting
chain ls n = chain_within n ls n

-- each link leads to one before it
abbrev pub LeadBack : List Link → Type 0
LeadBack ls = (k : ℕ) → k < length ls → (link_at ls k).next ≤ k

-- each is of one of the n processes
abbrev pub AreOfProcesses : ℕ → List Link → Type 0
AreOfProcesses n ls = (k : ℕ) → k < length ls → (link_at ls k).process < n

-- the chain of a signal
abbrev pub first_at : Chains → ℕ → ℕ
first_at c s = slice_index_or c.first.items s 0

abbrev pub chain_of : Chains → ℕ → List Waiting
chain_of c s = chain c.links.items (first_at c s)

-- the numbers lie in their lists, where there are n processes
pub record IsChained (n : ℕ) (c : Chains) : Type 0 where
  pub back : LeadBack c.links.items
  pub firsts : (s : ℕ) → first_at c s ≤ length c.links.items
  pub processes : AreOfProcesses n c.links.items

abbrev pub is_marked : Finds → ℕ → Bool
is_marked f q = slice_index_or f.is_found.items q false

-- the found processes stand there once each, and they alone are marked
pub record AreMarked (f : Finds) : Type 0 where
  pub marked : (q : ℕ) → is_marked f q ≡ holds q f.processes.items
  pub below : AreBelow (length f.is_found.items) f.processes.items
  pub distinct : AreDistinct f.processes.items
  pub few : length f.is_found.items ≤ most_elements
  pub room : length f.is_found.items ≤ vec_capacity f.processes

-- no process is marked, as between two calls
pub record AreUnmarked (f : Finds) : Type 0 where
  pub unmarked : (q : ℕ) → is_marked f q ≡ false
  pub few : length f.is_found.items ≤ most_elements
  pub room : length f.is_found.items ≤ vec_capacity f.processes

pub record AreWaiters (w : Waiters) : Type 0 where
  pub chains : IsChained (length w.finds.is_found.items) w.chains
  pub finds : AreUnmarked w.finds

-- these processes wait
pub record AreOf (w : Waiters) (ps : List Proc) : Type 0 where
  pub count : length w.finds.is_found.items ≡ length ps
  pub chains : (s : ℕ) → s < length w.chains.first.items → chain_of w.chains s ≡ awaiting s 0 ps

-- ---- who is reached by changes

abbrev pub is_met : Report → WakeEdge → Bool
is_met c e = edge_fits e (edge_of (digit_at c.before 0) (digit_at c.after 0))

-- the change reaches process q by one of these
abbrev pub is_among : ℕ → Report → List Waiting → Bool
is_among q c [] = false
is_among q c (w ∷ ws) = ((q == w.process) && is_met c w.edge) || is_among q c ws

abbrev pub is_reached : Chains → List Report → ℕ → Bool
is_reached chains [] q = false
is_reached chains (c ∷ cs) q = is_among q c (chain_of chains c.sig.0) || is_reached chains cs q

-- the numbers of n, n + 1, .., as many as k, that pass a test
abbrev pub picked : ℕ → ℕ → (ℕ → Bool) → List ℕ
picked n zero test = []
picked n (suc k) test = if test n then n ∷ picked (suc n) k test else picked (suc n) k test

-- the processes, by rising number from n, that wait for one of the changes
abbrev pub waiting : ℕ → List Proc → List Report → List ℕ
waiting n [] cs = []
waiting n (p ∷ ps) cs = if waits p.wakes cs then n ∷ waiting (suc n) ps cs else waiting (suc n) ps cs

-- each wake is of one of the n signals
abbrev pub HaveSignals : List Process → ℕ → Type 0
HaveSignals [] n = Unit {0}
HaveSignals (p ∷ ps) n = IsTrue (are_wakes p.wakes n) × HaveSignals ps n
