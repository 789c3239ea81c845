-- A means of proof: laws of the definitions of a design.
use Rattle.std.specs.Prelude.{◌≡◌, ℕ, false, List, [], ◌∷◌}
use Rattle.v_syntax.specs.ExpressionTrees.{Tree}
use Rattle.v_syntax.specs.SourceTrees.{ItemTree}
use Rattle.v_flat.specs.Scope.Found.{Holds, HoldsOk}
use Rattle.v_flat.specs.Scope.Scope.{Scope}
use Rattle.v_flat.specs.Expressions.{width}
use Rattle.v_flat.specs.Checks.{checked}
use Rattle.v_flat.specs.Targets.{Drive, meets}
use Rattle.v_flat.specs.Paths.{Path}
use Rattle.v_flat.specs.declared.timing.Timing.{Timing}
use Rattle.v_flat.specs.Design.{Modules, State, Sub, items}

-- the width that is found where nothing is broken is the width
abbrev pub Widths_are_found : Type 0
Widths_are_found = (s : Scope) (e : Tree) → Holds (λ (w : ℕ). width s e ≡ w) (checked s e)

-- no later one has a digit in common with an earlier one
abbrev pub Missed : Drive → List Drive → Type 0
Missed d [] = Unit {0}
Missed d (x ∷ xs) = (meets x d ≡ false) × Missed d xs

abbrev pub Apart : List Drive → Type 0
Apart [] = Unit {0}
Apart (d ∷ ds) = Missed d ds × Apart ds

-- over the items of an instance each digit of a net is driven once, whatever the walks below do
abbrev pub Digits_are_driven_once : Type 0
Digits_are_driven_once = (q : Timing) (sub : Sub) (room : ℕ) (ms : Modules) (above : List (List ℕ)) (path : Path) (is : List ItemTree) (s : State)
    → Apart s.driven → HoldsOk (λ (t : State). Apart t.driven) (items q sub room ms above path is s)
