-- Signals that are added behind leave those before them where they are.
use Rattle.std.proofs.Common.{ℕ, ◌+◌, ◌<◌, ◌≤◌, List, ◌++◌, length, Option, Some, None, sym, ◌∙◌, subst, arith}
use Rattle.std.proofs.lemmas.List.{length-append, get_or_append_left}
use Rattle.gpi.specs.Terms.{AreWords}
use Rattle.v_flat.specs.declared.scope.meaning.Bounds.{Bounds}
use Rattle.v_flat.specs.declared.scope.meaning.DataObject.{DataObject}
use Rattle.v_flat.specs.declared.scope.meaning.Meaning.{Meaning}
use Rattle.v_flat.specs.declared.scope.meaning.Meaning.TheVariants.{Constant, Object, Later}
use Rattle.v_flat.specs.Scope.Scope.{Scope, find, width_of}
use Rattle.v_flat.specs.Objects.{words_of}
use Rattle.v_check.specs.Constants.Checked.{IsNameOf, IsObjectOf}
use Rattle.v_flat.specs.Paths.{SignalAt}
use Rattle.v_layout.specs.Named.{AreSignals}
use Rattle.v_layout.proofs.Scopes.{widths_at, widths_both}

longer : (ws more : List ℕ) (n : ℕ) → n ≤ length ws → n ≤ length (ws ++ more)
longer ws more n h = let e = length-append ws more in omega (arith, e)

below : (ws more : List ℕ) (n : ℕ) → n < length ws → n < length (ws ++ more)
below ws more n h = let e = length-append ws more in omega (arith, e, h)

words_stay : (o : DataObject) (w : Bounds) (ws more : List ℕ) → AreWords (words_of o.first w) (width_of o.bounds) ws → AreWords (words_of o.first w) (width_of o.bounds) (ws ++ more)
words_stay o w ws more h = record {
  first = below ws more o.first h.first;
  inside = longer ws more (o.first + width_of w) h.inside;
  width = h.width;
  each = λ s a b. get_or_append_left ws more 0 s (omega (arith, b, h.inside)) ∙ h.each s a b;
}

object_stays : (o : DataObject) (w : Option Bounds) (ws more : List ℕ) → IsObjectOf o w ws → IsObjectOf o w (ws ++ more)
object_stays o None ws more h = (below ws more o.first h.0, get_or_append_left ws more 0 o.first h.0 ∙ h.1)
object_stays o (Some w) ws more h = words_stay o w ws more h

name_stays : (x : Option Meaning) (ws more : List ℕ) → IsNameOf x ws → IsNameOf x (ws ++ more)
name_stays None ws more h = tt
name_stays (Some Later) ws more h = tt
name_stays (Some (Constant ds b)) ws more h = tt
name_stays (Some (Object o)) ws more h = object_stays o o.words ws more h

more_names : (s : Scope) (ws more : List ℕ) → AreSignals s ws → AreSignals s (ws ++ more)
more_names s ws more h = λ n. name_stays (find n s) ws more (h n)

pub names_stay : (s : Scope) (signals more : List SignalAt) → AreSignals s (widths_at signals) → AreSignals s (widths_at (signals ++ more))
names_stay s signals more h = subst (λ (ws : List ℕ). AreSignals s ws) (sym (widths_both signals more)) (more_names s (widths_at signals) (widths_at more) h)
