-- Opening values.
use Rattle.std.proofs.Common.{◌≡◌, ℕ, List, [], Option, Some, None, refl, sym, ap, ◌∙◌, subst, arith}
use Rattle.four_value.specs.declared.Digit.{Digit}
use Rattle.gpi.specs.declared.acts.Act.{Act, Empty}
use Rattle.gpi.specs.declared.types.Update.{Update}
use Rattle.gpi.specs.Terms.{IsWidth}
use Rattle.gpi.specs.Activation.{Run, blocking}
use Rattle.v_syntax.specs.declared.statement.Identifier.{Identifier}
use Rattle.v_syntax.specs.declared.statement.AssignmentKind.TheVariants.{Blocking}
use Rattle.v_syntax.specs.ExpressionTrees.{Tree, Whole}
use Rattle.v_syntax.specs.StatementTrees.{Assignment}
use Rattle.v_flat.specs.declared.scope.found.Found.{Found}
use Rattle.v_flat.specs.declared.scope.found.Found.TheVariants.{Sound, Noted, Lost}
use Rattle.v_flat.specs.Scope.Found.{each, both, Holds}
use Rattle.v_flat.specs.Scope.Limits.{counted_width}
use Rattle.v_flat.specs.declared.scope.meaning.Bounds.{Bounds}
use Rattle.v_flat.specs.declared.scope.meaning.DataObject.{DataObject}
use Rattle.v_flat.specs.declared.scope.meaning.Meaning.{Meaning}
use Rattle.v_flat.specs.declared.scope.meaning.Meaning.TheVariants.{Constant, Object, Later}
use Rattle.v_flat.specs.Scope.Scope.{Scope, find, width_of}
use Rattle.v_flat.specs.Expressions.{Values, whole_width}
use Rattle.v_flat.specs.Checks.{checked}
use Rattle.v_flat.specs.Targets.{name_update, object_update, target_width}
use Rattle.v_flat.specs.Statements.{done, values_of, assigned_value}
use Rattle.v_flat.specs.Design.{whole_of}
use Rattle.v_check.specs.declared.constants.checked.Checked.{Checked}
use Rattle.v_check.specs.Constants.Checked.{IsNameOf, IsObjectOf, IsChecked}
use Rattle.v_check.specs.Names.Proper.{IsProper}
use Rattle.v_process.specs.Assign.Targets.{GetsAs, IsTarget}
use Rattle.v_process.specs.Act.Statements.{DoesAs, IsStatement}
use Rattle.v_process.proofs.ActLemmas.Done.{done_each, done_as}
use Rattle.v_process.specs.Processes.{untimed}
use Rattle.v_process.specs.Made.{whole_object, whole_in, whole_target, OpensWith}

done_value : {A : Type 0} (n : ℕ) (x : Found A) → done (both (let r : Found ℕ = Sound n in r) x) ≡ done x
done_value n (Sound a) = refl
done_value n (Noted b a) = refl
done_value n (Lost b) = refl

-- ---- a name that gets nothing

no_updates : (r : Run) → r ≡ blocking [] r
no_updates r = refl

nothing_does : (s : Scope) (i : Identifier) (e : Tree) → ((m : Values) (ds : List Digit) → name_update (find i.name s) s Whole m ds ≡ [])
    → DoesAs untimed s (Assignment Blocking (whole_of i) e) Empty
nothing_does s i e h = record {
  runs = λ r. no_updates r
      ∙ sym (ap (λ (us : List Update). blocking us r) (h (values_of r) (assigned_value (target_width s (whole_of i)) s e (values_of r))));
  sound = λ ws names. tt;
}

empty_holds : (P : Act → Type 0) (x : Found Checked) → P Empty → Holds P (each (λ (v : Checked). Empty) x)
empty_holds P (Sound v) h = h
empty_holds P (Noted b v) h = tt
empty_holds P (Lost b) h = tt

opens_nothing : (s : Scope) (i : Identifier) (e : Tree) (y : Found Checked) (z : Found Act)
    → ((m : Values) (ds : List Digit) → name_update (find i.name s) s Whole m ds ≡ []) → IsChecked s e y → z ≡ each (λ (v : Checked). Empty) y
    → IsStatement untimed s (Assignment Blocking (whole_of i) e) (done (checked s e)) z
opens_nothing s i e y z none h made =
    subst (λ (a : Found Act). IsStatement untimed s (Assignment Blocking (whole_of i) e) (done (checked s e)) a) (sym made) (record {
      finds = done_each (λ (v : Checked). Empty) y ∙ done_as (λ (c : Checked). c.width) counted_width y (checked s e) h.finds;
      holds = empty_holds (λ (a : Act). DoesAs untimed s (Assignment Blocking (whole_of i) e) a) y (nothing_does s i e none);
    })

-- ---- a vector

whole_gets : (s : Scope) (i : Identifier) (o : DataObject) → find i.name s ≡ Some (Object o) → o.words ≡ None → IsWidth (width_of o.bounds)
    → GetsAs s (whole_of i) (whole_object o)
whole_gets s i o e f w = record {
  proper = w;
  own = ap (λ (x : Option Meaning). whole_width x) e;
  width_is = refl;
  gets = λ m ds l. sym (ap (λ (x : Option Meaning). name_update x s Whole m ds) e ∙ ap (λ (b : Option Bounds). object_update o b s Whole m ds) f);
  sound = λ ws names.
      let h = subst (λ (b : Option Bounds). IsObjectOf o b ws) f (subst (λ (x : Option Meaning). IsNameOf x ws) e names.0) in
      (h.0, h.1, w);
  balanced = omega arith;
}

whole_is : (s : Scope) (i : Identifier) (o : DataObject) → find i.name s ≡ Some (Object o) → o.words ≡ None → IsWidth (width_of o.bounds)
    → IsTarget s (whole_of i) (Sound (width_of o.bounds)) (Sound (whole_object o))
whole_is s i o e f w = record {
  finds = ap (λ (n : ℕ). (let r : Found ℕ = Sound n in r)) (omega (arith, w.1));
  holds = whole_gets s i o e f w;
}

-- ---- whatever the name means

opened_in : (s : Scope) (i : Identifier) (e : Tree) (o : DataObject) (b : Option Bounds) → find i.name s ≡ Some (Object o) → o.words ≡ b → IsWidth (width_of o.bounds)
    → (y : Found Checked) (z : Found Act) → OpensWith (whole_in o b) y z → IsChecked s e y
    → IsStatement untimed s (Assignment Blocking (whole_of i) e) (done (checked s e)) z
opened_in s i e o None h f w y z made k =
    subst (λ (b : Found (Unit {0})). IsStatement untimed s (Assignment Blocking (whole_of i) e) b z) (done_value (width_of o.bounds) (checked s e))
    (made untimed s Blocking (whole_of i) e (Sound (width_of o.bounds)) (λ us r. refl) (whole_is s i o h f w) k)
opened_in s i e o (Some r) h f w y z made k =
    opens_nothing s i e y z
    (λ m ds. ap (λ (x : Option Meaning). name_update x s Whole m ds) h ∙ ap (λ (b : Option Bounds). object_update o b s Whole m ds) f) k made

pub opened : (s : Scope) (i : Identifier) (e : Tree) (x : Option Meaning) → find i.name s ≡ x → IsProper x → (y : Found Checked) (z : Found Act)
    → OpensWith (whole_target x) y z → IsChecked s e y → IsStatement untimed s (Assignment Blocking (whole_of i) e) (done (checked s e)) z
opened s i e (Some (Object o)) h p y z made k = opened_in s i e o o.words h refl p.0 y z made k
opened s i e (Some (Constant ds b)) h p y z made k = opens_nothing s i e y z (λ m us. ap (λ (x : Option Meaning). name_update x s Whole m us) h) k made
opened s i e (Some Later) h p y z made k = opens_nothing s i e y z (λ m us. ap (λ (x : Option Meaning). name_update x s Whole m us) h) k made
opened s i e None h p y z made k = opens_nothing s i e y z (λ m us. ap (λ (x : Option Meaning). name_update x s Whole m us) h) k made
