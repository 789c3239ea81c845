-- What is declared without a broken rule fits into the design, with the ports first too.
use Rattle.std.proofs.Common.{ℕ, ◌+◌, ◌≤◌, List, [], ◌∷◌, Option, Some, None, Result, Ok, Err, arith}
use Rattle.std.specs.List.{All}
use Rattle.std.proofs.lemmas.List.Elements.{All-nil, All-cons}
use Rattle.v_syntax.specs.SourceTrees.{ModuleTree}
use Rattle.v_flat.specs.declared.scope.rule.Broken.{Broken}
use Rattle.v_flat.specs.Scope.Found.{HoldsOk}
use Rattle.v_flat.specs.declared.scope.meaning.Bounds.{Bounds}
use Rattle.v_flat.specs.Scope.Limits.{most_parts}
use Rattle.v_flat.specs.Objects.{count_of}
use Rattle.v_flat.specs.Headers.{ports_of}
use Rattle.v_flat.specs.Declarations.{Declared, Place, declarations, in_order, signals_in}
use Rattle.v_check.specs.Names.Proper.{HasFewWords}
use Rattle.v_flat.proofs.ShapeLemmas.Order.{AllWide, AreGood, ordered_good}
use Rattle.v_layout.specs.Fits.{IsProperDeclared, Fit}

few_words : (ws : Option Bounds) (n : ℕ) → count_of ws + n ≤ most_parts → HasFewWords ws
few_words None n h = tt
few_words (Some w) n h = omega (arith, h)

each_proper : (ds : List Declared) → AllWide ds → signals_in ds ≤ most_parts → All IsProperDeclared ds
each_proper [] w h = All-nil IsProperDeclared
each_proper (d ∷ ds) w h =
    All-cons IsProperDeclared d ds (w.0, few_words d.words (signals_in ds) h) (each_proper ds w.1 (omega (arith, h)))

good_fits : (first : ℕ) (ds : List Declared) → AreGood first ds → Fit first ds
good_fits first ds h = let r = h.room in record { proper = each_proper ds h.wide (omega (arith, r)); room = h.room }

ordered : (first : ℕ) (m : ModuleTree) (r : Result (List Declared) Broken) → HoldsOk (λ (ds : List Declared). AreGood first (in_order (ports_of m) ds)) r
    → HoldsOk (λ (ds : List Declared). Fit first (in_order (ports_of m) ds)) r
ordered first m (Ok ds) h = good_fits first (in_order (ports_of m) ds) h
ordered first m (Err b) h = tt

pub declarations_fit : (w : Place) (m : ModuleTree) → w.first ≤ most_parts → HoldsOk (λ (ds : List Declared). Fit w.first (in_order (ports_of m) ds)) (declarations w m)
declarations_fit w m h = ordered w.first m (declarations w m) (ordered_good w m h)
