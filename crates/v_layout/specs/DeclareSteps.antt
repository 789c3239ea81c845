-- A means of proof: what stands under a name after one more declaration of it, before it is put there.
use Rattle.std.specs.Prelude.{ℕ, ◌+◌, ◌&&◌, List, Option, None, Some, Bool, not, is_none, nat_le}
use Rattle.v_syntax.specs.declared.statement.Identifier.{Identifier}
use Rattle.v_flat.specs.declared.scope.rule.ElabRule.TheVariants as rule
use Rattle.v_flat.specs.declared.scope.found.Found.{Found}
use Rattle.v_flat.specs.declared.scope.found.Found.TheVariants.{Sound}
use Rattle.v_flat.specs.Scope.Found.{and_then, wants, needs}
use Rattle.v_flat.specs.declared.scope.meaning.Bounds.{Bounds}
use Rattle.v_flat.specs.Scope.Limits.{most_parts}
use Rattle.v_syntax.specs.SourceTrees.{RangeTree}
use Rattle.v_flat.specs.Objects.{count_of}
use Rattle.v_flat.specs.Declarations.{Declared, Reg, Place, is_free, is_new, is_port, is_input_reg, are_halves, same_bounds, whole_of, find_declared, signals_in, declared_as, bounds_in, known_names}

abbrev pub may_be : Place → Declared → Bool
may_be w d = is_port d.direction d.name w.ports && not (is_input_reg d.direction d.sort)

abbrev pub has_room : Place → Declared → List Declared → Bool
has_room w d ds = nat_le (w.first + (signals_in ds + count_of d.words)) most_parts

abbrev pub first_found : Place → ℕ → Declared → List Declared → Found Declared
first_found w p d ds = wants (may_be w d) rule.BadPort p (wants (has_room w d ds) rule.TooMany p (Sound d))

abbrev pub again_found : Place → ℕ → Declared → Declared → Found Declared
again_found w p old d =
    needs (are_halves old d && same_bounds old.bounds d.bounds) rule.DuplicateName p (wants (may_be w (whole_of old d)) rule.BadPort p (Sound (whole_of old d)))

abbrev pub either_found : Place → ℕ → Declared → List Declared → Option Declared → Found Declared
either_found w p d ds None = first_found w p d ds
either_found w p d ds (Some old) = again_found w p old d

abbrev pub name_found : Place → ℕ → Declared → List Declared → Found Declared
name_found w p d ds = needs (is_free d.name w.constants) rule.DuplicateName p (either_found w p d ds (find_declared d.name ds))

abbrev pub memory_of : Bounds → List ℕ → Bounds → Declared
memory_of b n x = declared_as None (Some Reg) b (Some x) n

abbrev pub sized_found : Place → ℕ → Bounds → List ℕ → List Declared → Found Bounds → Found Declared
sized_found w p b n ds x = and_then x (λ y. wants (has_room w (memory_of b n y) ds) rule.TooMany p (Sound (memory_of b n y)))

abbrev pub memory_found : Place → Bounds → Identifier → RangeTree → List Declared → Found Declared
memory_found w b i r ds = needs (is_new i.name w ds) rule.DuplicateName i.at (sized_found w i.at b i.name ds (bounds_in r (known_names w)))
