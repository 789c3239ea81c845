-- Parameters and declarations, and then the first state.
use Rattle.std.proofs.Common.{◌≡◌, ◌≤◌, ℕ, List, [], ◌++◌, length, map, IfOk, Result, Ok, Err, refl, sym, ap, ◌∙◌, subst}
use Rattle.std.proofs.lemmas.List.{length-map}
use Rattle.port_io.specs.declared.ports.NoMemory.{NoMemory}
use Rattle.gpi.specs.Design.{widths}
use Rattle.v_syntax.specs.SourceTrees.{ModuleTree}
use Rattle.v_flat.specs.declared.scope.rule.Broken.{Broken}
use Rattle.v_flat.specs.Scope.Found.{HoldsOk, next}
use Rattle.v_flat.specs.Scope.Limits.{most_parts}
use Rattle.v_flat.specs.Scope.Scope.{Scope, before, means}
use Rattle.v_flat.specs.Headers.{Parameter, Port, all_names, later, parameters_of, port_name, ports_of}
use Rattle.v_flat.specs.Declarations.{Declared, Entries, Given, Place, declarations, in_order, parameters}
use Rattle.v_flat.specs.Paths.{Path, signal_of}
use Rattle.v_flat.specs.Design.{Design, Outside, State, entries, place_of}
use Rattle.v_flat.proofs.ShapeLemmas.Ports.{ports_apart}
use Rattle.v_header.specs.declared.parameter.constants.Constants.{Constants}
use Rattle.v_header.specs.Parameter.Constants.{AreParameters, HaveValues, entries_of}
use Rattle.v_header.specs.Parameter.Given.{GiveTheSame}
use Rattle.v_header.proofs.ParameterLemmas.Alike.{same_parameters}
use Rattle.v_elab.specs.declared.connect.joint.Joint as code_joint
use Rattle.v_elab.specs.Connect.Joints.{AreJoints}
use Rattle.v_layout.specs.declared.build.parts.Parts.{Parts}
use Rattle.v_layout.specs.Build.Parts.{IsSoFar}
use Rattle.v_layout.specs.Fits.{Fit}
use Rattle.v_layout.specs.Named.{StaySignals}
use Rattle.v_layout.specs.Texts.{HasText}
use Rattle.v_layout.proofs.Fitting.{declarations_fit}
use Rattle.v_elab.specs.declared.state.State as code_state
use Rattle.v_elab.specs.Ports.{Differ}
use Rattle.v_elab.specs.States.{EndsAs, IsState}
use Rattle.v_elab.specs.declared.outside.Outside as code
use Rattle.v_elab.specs.Begins.{Begins, IsBegun, IsOutside, beginning, first_state}
use Rattle.v_elab.specs.BeginSteps.{Declares, HaveConstants, OpensWith, declared_state}
use Rattle.v_elab.proofs.BeginEnds.{of_ok}
use Rattle.v_elab.proofs.Names.{differ}

-- parameters by the scope in which they are read
pub constants_as : (m : ModuleTree) (others : Scope) (ps : List Parameter) (gs : List Given) (r : Result (Result Constants Broken) NoMemory) → others ≡ later (all_names m)
    → ps ≡ parameters_of m → IfOk r (AreParameters others (parameters ps gs others [])) → IfOk r (HaveConstants m gs)
constants_as m others ps gs r e k h =
    subst (λ (s : Scope). IfOk r (AreParameters s (parameters (parameters_of m) gs s []))) e (subst (λ (qs : List Parameter). IfOk r (AreParameters others (parameters qs gs others []))) k h)

-- what is declared, or the rule that is broken first, by the scope of the parameters
abbrev pub Finds : ModuleTree → Constants → List Port → ℕ → Result (List Declared) Broken → Type 0
Finds m c ps n r =
    (others : Scope) → means c.scope ≡ before (means (entries_of c.list.items)) others
    → r ≡ declarations (record { constants = entries_of c.list.items; others = others; ports = ps; first = n }) m

abbrev HasScope : ModuleTree → Constants → Type 0
HasScope m c = means c.scope ≡ before (means (entries_of c.list.items)) (later (all_names m))

-- the place of the code is that of the definition
found_as : (m : ModuleTree) (c : Constants) (ps : List Port) (n : ℕ) (r : Result (List Declared) Broken) (d : Design) → Finds m c ps n r → HasScope m c → ps ≡ ports_of m
    → n ≡ length d.signals → r ≡ declarations (place_of m (entries_of c.list.items) d) m
found_as m c ps n r d f s e k =
    f (later (all_names m)) s
    ∙ ap (λ (qs : List Port). declarations (record { constants = entries_of c.list.items; others = later (all_names m); ports = qs; first = n }) m) e
    ∙ ap (λ (i : ℕ). declarations (record { constants = entries_of c.list.items; others = later (all_names m); ports = ports_of m; first = i }) m) k

-- what is declared fits
pub names_fit : (m : ModuleTree) (c : Constants) (ps : List Port) (n k : ℕ) (r : Result (List Declared) Broken) (ds : List Declared) → Finds m c ps n r → HasScope m c → ps ≡ ports_of m
    → n ≡ k → k ≤ most_parts → r ≡ Ok ds → Fit k (in_order ps ds)
names_fit m c ps n k r ds f s e same few is =
    subst (λ (i : ℕ). Fit i (in_order ps ds)) same (subst (λ (qs : List Port). Fit n (in_order qs ds)) (sym e)
    (of_ok (λ (xs : List Declared). Fit n (in_order (ports_of m) xs)) (declarations w m) ds (declarations_fit w m (subst (λ (i : ℕ). i ≤ most_parts) (sym same) few)) (sym (f (later (all_names m)) s) ∙ is)))
  where
    w : Place
    w = record { constants = entries_of c.list.items; others = later (all_names m); ports = ps; first = n }

-- and the names of the ports differ
pub names_differ : (m : ModuleTree) (c : Constants) (ps : List Port) (n : ℕ) (r : Result (List Declared) Broken) (ds : List Declared) → Finds m c ps n r → HasScope m c → ps ≡ ports_of m
    → r ≡ Ok ds → Differ (map port_name ps)
names_differ m c ps n r ds f s e is =
    subst (λ (qs : List Port). Differ (map port_name qs)) (sym e) (differ (map port_name (ports_of m)) (ports_apart w m ds (sym (f (later (all_names m)) s) ∙ is)))
  where
    w : Place
    w = record { constants = entries_of c.list.items; others = later (all_names m); ports = ps; first = n }

as_many : (d : Design) (x : Parts) → IsSoFar d x → length x.signals ≡ length d.signals
as_many d x h = ap length h.signals ∙ length-map d.signals signal_of

pub declared_ok : (m : ModuleTree) (text : List ℕ) (c : Constants) (ps : List Port) (n : ℕ) (r : Result (List Declared) Broken) (ds : List Declared) (cs : List code_joint.Joint) (x : Parts)
    (y : code_state.State) → Finds m c ps n r → HasScope m c → ps ≡ ports_of m → n ≡ length x.signals → r ≡ Ok ds → OpensWith text c ps (in_order ps ds) cs x y
    → Declares m text c cs x (Ok y)
declared_ok m text c ps n r ds cs x y f s e k is o = record {
  is = λ path out d t a around h.
      subst (λ (z : Result (List Declared) Broken). EndsAs IsState (next z (λ xs. (let q : Result State Broken = Ok (state path out d xs) in q))) (Ok y))
      (sym is ∙ found_as m c ps n r d f s e (k ∙ as_many d x h)) (p.is path out.scope out.joints d t a around h);
  begun = p.begun;
}
  where
    state : Path → Outside → Design → List Declared → State
    state path out d xs =
        first_state m path out d (means (entries_of c.list.items ++ entries (length d.signals) (in_order (ports_of m) xs))) (in_order (ports_of m) xs)

    p : OpensWith text c (ports_of m) (in_order (ports_of m) ds) cs x y
    p = subst (λ (qs : List Port). OpensWith text c qs (in_order qs ds) cs x y) e o

pub declared_broken : (m : ModuleTree) (text : List ℕ) (c : Constants) (ps : List Port) (n : ℕ) (r : Result (List Declared) Broken) (b : Broken) (cs : List code_joint.Joint) (x : Parts)
    → Finds m c ps n r → HasScope m c → ps ≡ ports_of m → n ≡ length x.signals → r ≡ Err b → Declares m text c cs x (Err b)
declared_broken m text c ps n r b cs x f s e k is = record {
  is = λ path out d t a around h.
      subst (λ (z : Result (List Declared) Broken). EndsAs IsState (next z (λ xs. (let q : Result State Broken = Ok (state path out d xs) in q))) (Err b))
      (sym is ∙ found_as m c ps n r d f s e (k ∙ as_many d x h)) refl;
  begun = tt;
}
  where
    state : Path → Outside → Design → List Declared → State
    state path out d xs =
        first_state m path out d (means (entries_of c.list.items ++ entries (length d.signals) (in_order (ports_of m) xs))) (in_order (ports_of m) xs)

-- ---- the whole

pub begins_ok : (m : ModuleTree) (text : List ℕ) (o : code.Outside) (x : Parts) (q : Result Constants Broken) (c : Constants) (r : Result code_state.State Broken) → HaveConstants m o.given q
    → q ≡ Ok c → Declares m text c o.joints.list.items x r → Begins m text o x r
begins_ok m text o x q c r h e k = record {
  is = λ path out d t i s.
      subst (λ (z : Result Entries Broken). EndsAs IsState (next z (declared_state m path out d)) r)
      (sym v.is ∙ same_parameters (parameters_of m) o.given out.given (later (all_names m)) [] i.given) (k.is path out d t i.joints i.around s);
  begun = k.begun;
}
  where
    v : HaveValues (later (all_names m)) (parameters (parameters_of m) o.given (later (all_names m)) []) c
    v = subst (HaveConstants m o.given) e h

pub begins_broken : (m : ModuleTree) (text : List ℕ) (o : code.Outside) (x : Parts) (q : Result Constants Broken) (b : Broken) → HaveConstants m o.given q → q ≡ Err b
    → Begins m text o x (Err b)
begins_broken m text o x q b h e = record {
  is = λ path out d t i s.
      subst (λ (z : Result Entries Broken). EndsAs IsState (next z (declared_state m path out d)) (Err b))
      (sym v ∙ same_parameters (parameters_of m) o.given out.given (later (all_names m)) [] i.given) refl;
  begun = tt;
}
  where
    v : parameters (parameters_of m) o.given (later (all_names m)) [] ≡ Err b
    v = subst (HaveConstants m o.given) e h
