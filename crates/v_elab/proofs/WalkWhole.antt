-- An instance from its beginning to its end.
use Rattle.std.proofs.Common.{◌≡◌, ◌<◌, ◌≤◌, ◌∙◌, ℕ, List, [], length, Result, Ok, Err, refl, sym, ap, subst, arith}
use Rattle.std.proofs.lemmas.List.{length-map}
use Rattle.gpi.specs.declared.design.Signal.{Signal}
use Rattle.name_table.specs.Places.{first_place, nowhere}
use Rattle.v_syntax.specs.SourceTrees.{ItemTree, ModuleTree}
use Rattle.v_flat.specs.declared.scope.rule.Broken.{Broken}
use Rattle.v_flat.specs.Scope.Found.{HoldsOk, next}
use Rattle.v_flat.specs.Scope.Limits.{most_parts}
use Rattle.v_header.specs.Names.{texts}
use Rattle.v_flat.specs.Headers.{items_in, module_name, ports_of}
use Rattle.v_flat.specs.Paths.{Path, node_of}
use Rattle.v_flat.specs.declared.timing.Timing.{Timing}
use Rattle.v_flat.specs.Design.{Design, Outside, State, closed, items, timing_of, walk}
use Rattle.v_layout.specs.declared.build.parts.Parts.{Parts}
use Rattle.v_layout.specs.Build.Parts.{Grows, IsSoFar}
use Rattle.v_layout.specs.Texts.{HasText}
use Rattle.v_elab.specs.declared.state.State as code_state
use Rattle.v_elab.specs.States.{EndsAs, IsState}
use Rattle.v_header.specs.Top.Found.{modules_of}
use Rattle.v_elab.specs.declared.outside.Outside as code
use Rattle.v_elab.specs.Begins.{Begins, IsBegun, IsOutside, beginning}
use Rattle.v_elab.proofs.BeginEnds.{ends_broken, ends_next, of_ok}
use Rattle.v_elab.proofs.Grown.{grown_more}
use Rattle.v_elab.specs.declared.level.Level.{Level}
use Rattle.v_elab.specs.declared.walked.Walked.{Walked}
use Rattle.v_elab.specs.Instances.{IsWalked}
use Rattle.v_elab.specs.Enters.{HaveTheSame}
use Rattle.v_elab.specs.Closes.{Closes}
use Rattle.v_elab.specs.WalkSteps.{GoesOn, Passes, over_items, walk_below}
use Rattle.v_elab.specs.Walks.{IsMore, Walks}
use Rattle.v_elab.proofs.Levels.{walk_by}
use Rattle.v_elab.proofs.WalkNames.{first_names}

many_nodes : (d : Design) (x : Parts) → IsSoFar d x → length x.nodes.items ≡ length d.nodes
many_nodes d x h = ap length h.nodes ∙ length-map d.nodes node_of

-- at a level that has the timing of the module
at_level : (l : Level) (above : List (List ℕ)) (m : ModuleTree) (path : Path) (out : Outside) (d : Design) → l.timing ≡ timing_of (modules_of l.modules.now) (module_name m).name
    → walk (modules_of l.modules.now) l.room above m path out d
    ≡ next (beginning m path out d) (λ s. next (over_items l (items_in m) above path s) (λ t. Ok (closed path (length d.nodes) t)))
at_level l above m path out d timed =
    let ms = modules_of l.modules.now in
    walk_by ms l.room above m path out d
    ∙ ap (λ (timing : Timing). next (beginning m path out d) (λ s. next (items timing (walk_below ms l.room) l.room ms above path (items_in m) s) (λ t. (let u : Result Design Broken = Ok (closed path (length d.nodes) t) in u))))
    (sym timed)

module _ (l : Level) (m : ModuleTree) (c : code.Outside) (x : Parts) (r : Result code_state.State Broken) (y : code_state.State) (v : Walked) (q : Result Walked Broken)
    (begins : Begins m l.path.now c x r) (begun : r ≡ Ok y) (state : v.state ≡ y) (none : first_place v.instances ≡ nowhere) (passes : Passes l (over_items l (items_in m)) v q) where
  is_begun : IsBegun x y
  is_begun = of_ok (IsBegun x) r y begins.begun begun

  first_walked : (path : Path) (out : Outside) (d : Design) (s : State) → beginning m path out d ≡ Ok s → IsState s y → IsWalked s v
  first_walked path out d s e h = record {
    is = subst (λ (z : code_state.State). IsState s z) (sym state) h;
    instances = first_names m path out d s v.instances e none;
  }

  abbrev last : Path → Design → State → Result Design Broken
  last path d t = Ok (closed path (length d.nodes) t)

  pub instance_walked : (w : Walked) (p : Parts) → q ≡ Ok w → Closes l.path.now (length x.nodes.items) w.state p → Walks l m c x (Ok p)
  instance_walked w p passed closes = record {
    is = λ above path out d same t timed o h.
        subst (λ (z : Result Design Broken). EndsAs IsSoFar z (let u : Result Parts Broken = Ok p in u)) (sym (at_level l above m path out d timed))
        (ends_next IsState IsSoFar (beginning m path out d) (λ s. next (over_items l (items_in m) above path s) (last path d)) r y (let u : Result Parts Broken = Ok p in u)
        (begins.is path out d t o h) begun (λ s e k.
        ends_next IsWalked IsSoFar (over_items l (items_in m) above path s) (last path d) q w (let u : Result Parts Broken = Ok p in u)
        (passes.is above path s same t (first_walked path out d s e k)) passed
        (λ z f g. subst (λ (i : ℕ). IsSoFar (closed path i z) p) (many_nodes d x h) (closes.is z path g.is t.is))));
    more =
        let g : GoesOn v w = of_ok (GoesOn v) q w passes.goes_on passed in
        let i = is_begun.grows in
        let k : Grows y.parts w.state.parts = subst (λ (z : code_state.State). Grows z.parts w.state.parts) state g.grows in
        let n = closes.made in
        record {
          grows = record {
            more = (grown_more x y.parts w.state.parts i k).more;
            signals = n.signals ∙ (grown_more x y.parts w.state.parts i k).signals;
            nodes = let a = (grown_more x y.parts w.state.parts i k).nodes in let b = n.nodes in omega (arith, a, b);
          };
          few = subst (λ (ss : List Signal). length ss ≤ most_parts) (sym n.signals) g.ready.few;
        };
  }

  pub items_broken : (f : Broken) → q ≡ Err f → Walks l m c x (Err f)
  items_broken f broken = record {
    is = λ above path out d same t timed o h.
        subst (λ (z : Result Design Broken). EndsAs IsSoFar z (let u : Result Parts Broken = Err f in u)) (sym (at_level l above m path out d timed))
        (ends_next IsState IsSoFar (beginning m path out d) (λ s. next (over_items l (items_in m) above path s) (last path d)) r y (let u : Result Parts Broken = Err f in u)
        (begins.is path out d t o h) begun (λ s e k.
        ends_broken IsWalked IsSoFar (over_items l (items_in m) above path s) (last path d) q f (let u : Result Parts Broken = Err f in u)
        (passes.is above path s same t (first_walked path out d s e k)) broken refl));
    more = tt;
  }

  -- the node of the instance is there
  pub node_there : (w : Walked) → q ≡ Ok w → length x.nodes.items < length w.state.parts.nodes.items
  node_there w passed =
      let g : GoesOn v w = of_ok (GoesOn v) q w passes.goes_on passed in
      let k : Grows y.parts w.state.parts = subst (λ (z : code_state.State). Grows z.parts w.state.parts) state g.grows in
      let a = is_begun.node in
      let b = k.nodes in
      omega (arith, a, b)

pub beginning_broken : (l : Level) (m : ModuleTree) (c : code.Outside) (x : Parts) (r : Result code_state.State Broken) (f : Broken) → Begins m l.path.now c x r → r ≡ Err f
    → Walks l m c x (Err f)
beginning_broken l m c x r f begins broken = record {
  is = λ above path out d same t timed o h.
      subst (λ (z : Result Design Broken). EndsAs IsSoFar z (let u : Result Parts Broken = Err f in u)) (sym (at_level l above m path out d timed))
      (ends_broken IsState IsSoFar (beginning m path out d) (λ s. next (over_items l (items_in m) above path s) (λ t. (let u : Result Design Broken = Ok (closed path (length d.nodes) t) in u))) r f
      (let u : Result Parts Broken = Err f in u) (begins.is path out d t o h) broken refl);
  more = tt;
}
