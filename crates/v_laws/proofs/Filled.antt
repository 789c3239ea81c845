-- Each instance of a design but the first has a path with a name, and each signal is x or z at the start.
use Rattle.std.proofs.Common.{◌≡◌, ◌⊎◌, ◌∙◌, ◌+◌, inl, inr, ℕ, zero, suc, List, [], ◌∷◌, ◌++◌, length, slice_set, Option, None, Some, refl, sym, ap, subst, append_assoc}
use Rattle.std.specs.List.{AllByRecursion}
use Rattle.four_value.specs.declared.Digit.{Digit}
use Rattle.four_value.specs.declared.Digit.TheVariants.{X, Z}
use Rattle.v_syntax.specs.SourceTrees.{ModuleTree}
use Rattle.v_flat.specs.declared.scope.meaning.Bounds.{Bounds}
use Rattle.v_flat.specs.declared.scope.meaning.DataKind.{DataKind}
use Rattle.v_flat.specs.declared.scope.meaning.DataKind.TheVariants.{Input, Net, Register}
use Rattle.v_flat.specs.declared.scope.meaning.DataObject.{DataObject}
use Rattle.v_flat.specs.Scope.Found.{HoldsOk}
use Rattle.v_flat.specs.Scope.Scope.{low_of, width_of}
use Rattle.v_flat.specs.Objects.{count_of}
use Rattle.v_flat.specs.Headers.{ports_of}
use Rattle.v_flat.specs.Declarations.{Declared, Entries, in_order}
use Rattle.v_flat.specs.Paths.{NodeAt, Path, SignalAt, below}
use Rattle.v_flat.specs.Design.{Design, Modules, Outside, State, all_signals, closed, flat_design, object_of, opened, signals_of, start_of, word_signals}
use Rattle.v_flat.proofs.ShapeLemmas.Kept.{KeepsParts, joints_keep, plain_holds}
use Rattle.v_flat.proofs.ShapeLemmas.Nodes.{set_behind}
use Rattle.v_flat.proofs.ShapeLemmas.Walk.{Steps, design_holds, opening, scope_of}

-- ---- lists

pub each_both : {A : Type 0} (P : A → Type 0) (xs ys : List A) → AllByRecursion P xs → AllByRecursion P ys → AllByRecursion P (xs ++ ys)
each_both P [] ys h k = k
each_both P (x ∷ xs) ys h k = (h.0, each_both P xs ys h.1 k)

-- ---- what is known

-- the path has a name
abbrev pub IsFilled : Path → Type 0
IsFilled [] = ⊥
IsFilled (name ∷ names) = Unit {0}

abbrev pub HasPath : NodeAt → Type 0
HasPath node = IsFilled node.path

-- all digits are x, or all are z
abbrev pub Starts : SignalAt → Type 0
Starts signal = (signal.start ≡ X) ⊎ (signal.start ≡ Z)

below_filled : (path : Path) (name : List ℕ) → IsFilled (below path name)
below_filled [] name = tt
below_filled (first ∷ path) name = tt

-- ---- signals that are declared

start_known : (kind : DataKind) → (start_of kind ≡ X) ⊎ (start_of kind ≡ Z)
start_known Register = inl refl
start_known Input = inr refl
start_known Net = inr refl

words_start : (path : Path) (w : ℕ) (start : Digit) (low n : ℕ) → (start ≡ X) ⊎ (start ≡ Z) → AllByRecursion Starts (word_signals path w start low n)
words_start path w start low zero h = tt
words_start path w start low (suc n) h = (h, words_start path w start (low + 1) n h)

signals_start : (path : Path) (o : DataObject) (w : Option Bounds) → AllByRecursion Starts (signals_of path o w)
signals_start path o None = (start_known o.kind, tt)
signals_start path o (Some w) = words_start path (width_of o.bounds) (start_of o.kind) (low_of w) (width_of w) (start_known o.kind)

all_start : (path : Path) (first : ℕ) (ds : List Declared) → AllByRecursion Starts (all_signals path first ds)
all_start path first [] = tt
all_start path first (d ∷ ds) =
    each_both Starts (signals_of (below path d.name) (object_of first d) d.words) (all_signals path (first + count_of d.words) ds)
    (signals_start (below path d.name) (object_of first d) d.words) (all_start path (first + count_of d.words) ds)

-- ---- along the walk

-- the instance of this path stands behind those before it, and more stand behind it, each with a path
record Adds (path : Path) (d e : Design) : Type 0 where
  first : NodeAt
  path_is : first.path ≡ path
  more : List NodeAt
  nodes_are : e.nodes ≡ d.nodes ++ (first ∷ more)
  filled : AllByRecursion HasPath more
  start : AllByRecursion Starts d.signals → AllByRecursion Starts e.signals

abbrev Begin : ModuleTree → Outside → Design → Type 0
Begin m out d = Unit {0}

abbrev Amid : Path → Design → List Declared → State → Type 0
Amid path d ds s = Adds path d s.design

adds_kept : (path : Path) (d c e : Design) → e.nodes ≡ c.nodes → e.signals ≡ c.signals → Adds path d c → Adds path d e
adds_kept path d c e n s h = record {
  first = h.first;
  path_is = h.path_is;
  more = h.more;
  nodes_are = n ∙ h.nodes_are;
  filled = h.filled;
  start = λ before. subst (AllByRecursion Starts) (sym s) (h.start before);
}

opened_adds : (path : Path) (ds : List Declared) (d : Design) → Adds path d (opened path ds d)
opened_adds path ds d = record {
  first = record { path = path; children = [] };
  path_is = refl;
  more = [];
  nodes_are = refl;
  filled = tt;
  start = λ before. each_both Starts d.signals (all_signals path (length d.signals) ds) before (all_start path (length d.signals) ds);
}

opens_adds : (m : ModuleTree) (path : Path) (out : Outside) (d : Design) (constants : Entries) (ds : List Declared)
    → Adds path d (opening m path out d (scope_of constants d ds) ds).design
opens_adds m path out d constants ds =
    let after : Design = (opening m path out d (scope_of constants d ds) ds).design in
    let keeps : KeepsParts (opened path ds d) after = joints_keep out.scope out.joints (scope_of constants d ds) (ports_of m) (opened path ds d) in
    adds_kept path d (opened path ds d) after keeps.nodes keeps.signals (opened_adds path ds d)

inner_adds : (path inner : Path) (d c e : Design) → IsFilled inner → Adds path d c → Adds inner c e → Adds path d e
inner_adds path inner d c e filled h k = record {
  first = h.first;
  path_is = h.path_is;
  more = h.more ++ (k.first ∷ k.more);
  nodes_are = k.nodes_are ∙ ap (λ (l : List NodeAt). l ++ (k.first ∷ k.more)) h.nodes_are ∙ append_assoc d.nodes (h.first ∷ h.more) (k.first ∷ k.more);
  filled = each_both HasPath h.more (k.first ∷ k.more) h.filled (subst IsFilled (sym k.path_is) filled, k.filled);
  start = λ before. k.start (h.start before);
}

closes_adds : (path : Path) (d : Design) (ds : List Declared) (t : State) → Amid path d ds t → Adds path d (closed path (length d.nodes) t)
closes_adds path d ds t h = record {
  first = node;
  path_is = refl;
  more = h.more;
  nodes_are = ap (λ (l : List NodeAt). slice_set l (length d.nodes) node) h.nodes_are ∙ set_behind d.nodes h.first node h.more;
  filled = h.filled;
  start = h.start;
}
  where
    node : NodeAt
    node = record { path = path; children = t.children }

filled_steps : Steps Begin Adds Amid
filled_steps = record {
  opens = λ m path out d constants ds h e. opens_adds m path out d constants (in_order (ports_of m) ds);
  plain = λ timing path d ds p k s h. plain_holds (Amid path d ds) timing p k s (λ t keeps. adds_kept path d s.design t.design keeps.nodes keeps.signals h);
  given = λ path d ds p v i c s m x h few e. tt;
  inner = λ path d ds i driven s e h few is b. inner_adds path (below path i.name) d s.design e (below_filled path i.name) h b;
  closes = closes_adds;
}

-- ---- the whole

-- a first instance, behind it instances with paths alone, and signals that are x or z at the start
pub record IsFull (d : Design) : Type 0 where
  pub first : NodeAt
  pub more : List NodeAt
  pub nodes_are : d.nodes ≡ first ∷ more
  pub filled : AllByRecursion HasPath more
  pub start : AllByRecursion Starts d.signals

pub designs_full : (ms : Modules) (top : Option (List ℕ)) → HoldsOk IsFull (flat_design ms top)
designs_full ms top =
    design_holds Begin Adds Amid filled_steps IsFull (λ m. tt)
    (λ path e h. record { first = h.first; more = h.more; nodes_are = h.nodes_are; filled = h.filled; start = h.start tt }) ms top
