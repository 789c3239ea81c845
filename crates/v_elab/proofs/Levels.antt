-- The walk as the beginning of an instance, its items, and its end.
use Rattle.std.proofs.Common.{◌≡◌, ◌<◌, ◌-◌, ◌∙◌, ℕ, zero, suc, List, [], ◌++◌, length, Result, Ok, refl, sym, ap, arith}
use Rattle.v_syntax.specs.SourceTrees.{ModuleTree}
use Rattle.v_flat.specs.declared.scope.rule.Broken.{Broken}
use Rattle.v_flat.specs.Scope.Found.{next}
use Rattle.v_flat.specs.Scope.Scope.{means}
use Rattle.v_flat.specs.Declarations.{Declared, Entries, declarations, in_order, parameters}
use Rattle.v_flat.specs.Headers.{all_names, items_in, later, module_name, parameters_of, ports_of}
use Rattle.v_flat.specs.Paths.{Path}
use Rattle.v_flat.specs.Design.{Design, Modules, Outside, State, Sub, closed, entries, instance, items, place_of, timing_of, walk}
use Rattle.v_elab.specs.Begins.{beginning, first_state}
use Rattle.v_elab.specs.WalkSteps.{walk_below}
use Rattle.v_elab.proofs.Chains.{next_next, next_same}

module _ (sub : Sub) (room : ℕ) (ms : Modules) (above : List (List ℕ)) (m : ModuleTree) (path : Path) (out : Outside) (d : Design) where
  abbrev behind : State → Result Design Broken
  behind s = next (items (timing_of ms (module_name m).name) sub room ms above path (items_in m) s) (λ t. Ok (closed path (length d.nodes) t))

  abbrev first : Entries → List Declared → State
  first constants ds = first_state m path out d (means (constants ++ entries (length d.signals) (in_order (ports_of m) ds))) (in_order (ports_of m) ds)

  abbrev declared : Entries → Result State Broken
  declared constants = next (declarations (place_of m constants d) m) (λ ds. Ok (first constants ds))

  instance_by : instance sub room ms above m path out d ≡ next (beginning m path out d) behind
  instance_by =
      sym (next_next (parameters (parameters_of m) out.given (later (all_names m)) []) declared behind
      ∙ next_same (parameters (parameters_of m) out.given (later (all_names m)) []) (λ constants. next (declared constants) behind)
      (λ constants. next (declarations (place_of m constants d) m) (λ ds. behind (first constants ds)))
      (λ constants. next_next (declarations (place_of m constants d) m) (λ ds. (let r : Result State Broken = Ok (first constants ds) in r)) behind))

pub walk_by : (ms : Modules) (room : ℕ) (above : List (List ℕ)) (m : ModuleTree) (path : Path) (out : Outside) (d : Design)
    → walk ms room above m path out d
    ≡ next (beginning m path out d) (λ s. next (items (timing_of ms (module_name m).name) (walk_below ms room) room ms above path (items_in m) s) (λ t. Ok (closed path (length d.nodes) t)))
unfolding walk
walk_by ms zero above m path out d = instance_by (λ a n q o e. Ok e) 0 ms above m path out d
walk_by ms (suc room) above m path out d = instance_by (walk ms room) (suc room) ms above m path out d

pub one_below : (ms : Modules) (room : ℕ) → 0 < room → walk_below ms room ≡ walk ms (room - 1)
one_below ms zero h = absurd (omega (arith, h))
one_below ms (suc room) h = ap (λ (n : ℕ). walk ms n) (let e : room ≡ suc room - 1 = omega arith in e)
