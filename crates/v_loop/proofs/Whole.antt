-- The turns, from the first value and what is asked of the step.
use Rattle.std.proofs.Common.{◌≡◌, ℕ, List, Result, Ok, Err, IfOk, sym, ap, ◌∙◌, subst}
use Rattle.port_io.specs.declared.ports.NoMemory.{NoMemory}
use Rattle.four_value.specs.declared.Digit.{Digit}
use Rattle.v_syntax.specs.declared.statement.Identifier.{Identifier}
use Rattle.v_syntax.specs.ExpressionTrees.{Tree}
use Rattle.v_syntax.specs.StatementTrees.{Header, Variable as Assigned}
use Rattle.v_flat.specs.declared.scope.meaning.DataObject.{DataObject}
use Rattle.v_flat.specs.declared.scope.found.Found.{Found}
use Rattle.v_flat.specs.Scope.Found.{ForValue, and_then, ended}
use Rattle.v_flat.specs.Scope.Scope.{Scope, width_of}
use Rattle.v_flat.specs.Statements.{Turns, first_value, most_turns, same_counter, step_checked, turn, turns, turns_from}
use Rattle.v_loop.specs.Turns.{HaveWidth}
use Rattle.v_loop.proofs.Steps.{behind_sound, second_sound}
use Rattle.v_loop.proofs.Widths.{wide_turns}

if_same : {A E : Type 0} (x y : A) (r : Result A E) → x ≡ y → IfOk r (λ f. f ≡ x) → IfOk r (λ f. f ≡ y)
if_same x y (Ok a) e h = h ∙ e
if_same x y (Err b) e h = tt

if_so : {A E : Type 0} (P : A → Type 0) (x : A) (r : Result A E) → P x → IfOk r (λ f. f ≡ x) → IfOk r P
if_so P x (Ok a) p h = subst P (sym h) p
if_so P x (Err b) p h = tt

module _ (p : ℕ) (i j : Identifier) (c d : Tree) (o : DataObject) where
  abbrev all_turns : Scope → List Digit → Found Turns
  all_turns s v = turns_from most_turns p i.name o c d s v

  -- the turns, where the first value is v
  abbrev behind_first : Scope → List Digit → Found Turns
  behind_first s v = and_then (same_counter i j s) (λ u. and_then (step_checked (turn i.name o v s) d) (λ w. all_turns s v))

  pub step_is_sound : (s t : Scope) (v : List Digit) (r : Result (Found Turns) NoMemory) → t ≡ s
      → ended (and_then (same_counter i j s) (λ u. step_checked (turn i.name o v s) d)) ≡ Ok tt → IfOk r (λ f. f ≡ all_turns t v) → IfOk r (λ f. f ≡ behind_first s v)
  step_is_sound s t v r e q h =
      if_same (all_turns t v) (behind_first s v) r
      (ap (λ (x : Scope). all_turns x v) e ∙ sym (second_sound (same_counter i j s) (step_checked (turn i.name o v s) d) (all_turns s v) q)) h

  pub first_is_sound : (e : Tree) (s t : Scope) (v : List Digit) (r : Result (Found Turns) NoMemory) → t ≡ s
      → ended (first_value i.name o e c s) ≡ Ok v → IfOk r (λ f. f ≡ behind_first t v) → IfOk r (λ f. f ≡ turns p (Header (Assigned i e) c (Assigned j d)) s o)
  first_is_sound e s t v r k q h =
      if_same (behind_first t v) (turns p (Header (Assigned i e) c (Assigned j d)) s o) r
      (ap (λ (x : Scope). behind_first x v) k ∙ sym (behind_sound (first_value i.name o e c s) (λ y. behind_first s y) v q)) h

  pub first_is_wide : (e : Tree) (s t : Scope) (v : List Digit) (r : Result (Found Turns) NoMemory) → t ≡ s
      → ended (first_value i.name o e c s) ≡ Ok v → IfOk r (λ f. f ≡ behind_first t v) → IfOk r (λ f. ForValue (HaveWidth (width_of o.bounds)) f)
  first_is_wide e s t v r k q h =
      if_so (λ (f : Found Turns). ForValue (HaveWidth (width_of o.bounds)) f) (turns p (Header (Assigned i e) c (Assigned j d)) s o) r
      (wide_turns p (Header (Assigned i e) c (Assigned j d)) s o) (first_is_sound e s t v r k q h)
