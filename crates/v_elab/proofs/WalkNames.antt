-- Before the first item the names that are known are those that are declared, and each means something.
use Rattle.std.proofs.Common.{◌≡◌, ◌∙◌, ◌||◌, ◌+◌, ℕ, Bool, true, false, List, [], ◌∷◌, ◌++◌, map, length, Option, Some, None, is_none, is_some, bytes_eq, if◌then◌else◌, Result, Ok, Err, refl, sym, ap, subst}
use Rattle.std.specs.List.{list_any}
use Rattle.name_table.specs.Places.{first_place, nowhere}
use Rattle.v_syntax.specs.SourceTrees.{ModuleTree}
use Rattle.v_flat.specs.declared.scope.rule.Broken.{Broken}
use Rattle.v_flat.specs.declared.scope.meaning.Meaning.{Meaning}
use Rattle.v_flat.specs.declared.scope.meaning.Meaning.TheVariants.{Object}
use Rattle.v_flat.specs.Scope.Found.{next}
use Rattle.v_flat.specs.Scope.Scope.{find, means}
use Rattle.v_flat.specs.Objects.{count_of}
use Rattle.v_flat.specs.Headers.{all_names, later, parameters_of, ports_of}
use Rattle.v_flat.specs.Declarations.{Declared, Entries, declarations, in_order, parameters}
use Rattle.v_flat.specs.Paths.{Path}
use Rattle.v_flat.specs.Design.{Design, Outside, State, child_name, children, entries, object_of, place_of}
use Rattle.v_elab.specs.Begins.{beginning, first_state}

-- a name that means nothing is none of those declared
by_one : (b : Bool) (m : Meaning) (o : Option Meaning) (rest : Bool) → is_none (if b then Some m else o) ≡ true → (is_none o ≡ true → rest ≡ false) → (b || rest) ≡ false
by_one true m o rest h k = cc
by_one false m o rest h k = k h

declared_names : (n : List ℕ) (first k : ℕ) (ds : List Declared) → is_none (means (entries first ds) n) ≡ true → list_any (bytes_eq n) (map child_name (children k ds)) ≡ false
declared_names n first k [] h = refl
declared_names n first k (d ∷ ds) h =
    by_one (bytes_eq n d.name) (Object (object_of first d)) (means (entries (first + count_of d.words) ds) n) (list_any (bytes_eq n) (map child_name (children (k + count_of d.words) ds))) h
    (λ e. declared_names n (first + count_of d.words) (k + count_of d.words) ds e)

behind_one : (b : Bool) (m : Meaning) (o : Option Meaning) → is_none (if b then Some m else o) ≡ true → is_none o ≡ true
behind_one true m o h = cc
behind_one false m o h = h

behind_constants : (n : List ℕ) (cs es : Entries) → is_none (means (cs ++ es) n) ≡ true → is_none (means es n) ≡ true
behind_constants n [] es h = h
behind_constants n (c ∷ cs) es h = behind_constants n cs es (behind_one (bytes_eq n c.0) c.1 (means (cs ++ es) n) h)

-- ---- the first state

abbrev NamesKnown : List (List ℕ × ℕ) → State → Type 0
NamesKnown names s = (n : List ℕ) → is_none (find n s.scope) ≡ true → list_any (bytes_eq n) (map child_name s.children) ≡ is_some (first_place names n)

known_at : (m : ModuleTree) (path : Path) (out : Outside) (d : Design) (constants : Entries) (ds : List Declared) (names : List (List ℕ × ℕ)) → first_place names ≡ nowhere
    → NamesKnown names (first_state m path out d (means (constants ++ entries (length d.signals) ds)) ds)
known_at m path out d constants ds names none = λ n free.
    declared_names n (length d.signals) (length d.signals) ds (behind_constants n constants (entries (length d.signals) ds) free)
    ∙ ap (λ (p : List ℕ → Option ℕ). is_some (p n)) (sym none)

by_declarations : (m : ModuleTree) (path : Path) (out : Outside) (d : Design) (constants : Entries) (r : Result (List Declared) Broken) (s : State) (names : List (List ℕ × ℕ))
    → next r (λ ds. (let q : Result State Broken = Ok (first_state m path out d (means (constants ++ entries (length d.signals) (in_order (ports_of m) ds))) (in_order (ports_of m) ds)) in q)) ≡ Ok s
    → first_place names ≡ nowhere → NamesKnown names s
by_declarations m path out d constants (Ok ds) s names e none =
    let f : first_state m path out d (means (constants ++ entries (length d.signals) (in_order (ports_of m) ds))) (in_order (ports_of m) ds) ≡ s = cc in
    subst (λ (t : State). NamesKnown names t) f (known_at m path out d constants (in_order (ports_of m) ds) names none)
by_declarations m path out d constants (Err b) s names e none = cc

by_parameters : (m : ModuleTree) (path : Path) (out : Outside) (d : Design) (r : Result Entries Broken) (s : State) (names : List (List ℕ × ℕ))
    → next r (λ constants. next (declarations (place_of m constants d) m) (λ ds.
    (let q : Result State Broken = Ok (first_state m path out d (means (constants ++ entries (length d.signals) (in_order (ports_of m) ds))) (in_order (ports_of m) ds)) in q))) ≡ Ok s
    → first_place names ≡ nowhere → NamesKnown names s
by_parameters m path out d (Ok constants) s names e none = by_declarations m path out d constants (declarations (place_of m constants d) m) s names e none
by_parameters m path out d (Err b) s names e none = cc

pub first_names : (m : ModuleTree) (path : Path) (out : Outside) (d : Design) (s : State) (names : List (List ℕ × ℕ)) → beginning m path out d ≡ Ok s → first_place names ≡ nowhere
    → NamesKnown names s
first_names m path out d s names e none = by_parameters m path out d (parameters (parameters_of m) out.given (later (all_names m)) []) s names e none
