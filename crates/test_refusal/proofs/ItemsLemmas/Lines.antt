-- What an item's own line breaks, and the names of a function's own.
use Rattle.std.proofs.Common.{◌≡◌, ◌||◌, not, ℕ, Bool, true, false, List, [], ◌∷◌, ◌++◌, Option, Some, None, refl, sym, ap, ◌∙◌, if◌then◌else◌}
use Rattle.std.specs.List.{list_any, position_from}
use Rattle.std.specs.Option.{option_or, is_some}
use Rattle.std.specs.Str.{bytes_eq}
use Rattle.py_syntax.specs.BlockTrees.{Block, ModuleItem}
use Rattle.name_table.specs.Places.{first_place}
use Rattle.test_names.proofs.DefinitionsLemmas.FirstPlaces.{any_by_place}
use Rattle.test_meaning.specs.Rules.File.{File, Place, file_of, line_of}
use Rattle.test_meaning.specs.Rules.Names.{Name, is_among}
use Rattle.test_meaning.specs.Rules.Rules.{astray, defines_twice, first_broken, has_misfit, has_right_options, is_overfull, is_stray, is_unknown, is_unknown_import, refused_at}
use Rattle.test_meaning.specs.Rules.Uses.{block_lines, inner_lines, lines_at, own_uses, with_names}
use Rattle.test_meaning.specs.declared.rules.rule.FileRule.TheVariants as rule
use Rattle.test_names.specs.Scope.Around.{names_in}
use Rattle.test_names.proofs.ScopeLemmas.Known.{local}
use Rattle.test_names.proofs.ScopeLemmas.Agreeing.{same_block}
use Rattle.test_names.proofs.UsesLemmas.Blocks.{broken_behind}
use Rattle.test_names.specs.Uses.Answer.{answer}
use Rattle.test_refusal.specs.Items.OwnLine.{first_rule, lines_below, own_rule}

-- which rule is the first, from which are broken
parts : (u n m s t o v : Bool)
    → (if u then Some rule.UnknownImport else (if n then Some rule.UnknownName else (if m || s then Some rule.Misplaced else (if t then Some rule.DuplicateName
    else (if o then Some rule.BadOption else (if v then Some rule.TooManyCases else None))))))
    ≡ first_rule u (if n then Some rule.UnknownName else (if m then Some rule.Misplaced else None)) s t o v
parts true n m s t o v = refl
parts false true m true t o v = refl
parts false true m false t o v = refl
parts false false true true t o v = refl
parts false false true false t o v = refl
parts false false false true t o v = refl
parts false false false false t o v = refl

pub by_parts : (f : File) (p : Place) → own_rule f p ≡ first_rule (is_unknown_import p.item) (answer f (with_names (file_of p.above) []) (own_uses p.item))
    (is_stray p || has_misfit f p) (defines_twice p) (not (has_right_options f (file_of p.above) p.item)) (is_overfull f p)
unfolding answer
by_parts f p =
    parts (is_unknown_import p.item) (list_any (is_unknown f (with_names (file_of p.above) [])) (own_uses p.item))
    (list_any (astray f (with_names (file_of p.above) [])) (own_uses p.item)) (is_stray p || has_misfit f p) (defines_twice p)
    (not (has_right_options f (file_of p.above) p.item)) (is_overfull f p)

-- the names that have places are those that were numbered
same_names : (t : List (Name × ℕ)) (ns : List Name) → ((n : Name) → first_place t n ≡ position_from (bytes_eq n) 0 ns)
    → (n : Name) → is_among n (names_in t) ≡ is_among n ns
same_names t ns h n = sym (local t n) ∙ ap (λ (o : Option ℕ). is_some o) (h n) ∙ sym (any_by_place (bytes_eq n) ns)

-- the first broken line of a block, where the names of the function's own were numbered
pub numbered_block : (f above : File) (t : List (Name × ℕ)) (ns : List Name) (b : Block) → ((n : Name) → first_place t n ≡ position_from (bytes_eq n) 0 ns)
    → first_broken f (block_lines (with_names above (names_in t)) false b) ≡ first_broken f (block_lines (with_names above ns) false b)
numbered_block f above t ns b h = same_block f above (names_in t) ns (same_names t ns h) false b

alternative : {A : Type 0} (x y z : Option A) → option_or (option_or x y) z ≡ option_or x (option_or y z)
alternative (Some a) y z = refl
alternative None y z = refl

-- the lines of an item, and those of the items behind it
pub by_items : (f : File) (xs ys : List ModuleItem) (x : ModuleItem) → first_broken f (lines_below xs (x ∷ ys))
    ≡ option_or (refused_at (line_of x) (own_rule f (record { item = x; above = xs; below = ys })))
    (option_or (first_broken f (inner_lines (file_of xs) x)) (first_broken f (lines_below (xs ++ x ∷ []) ys)))
by_items f xs ys x =
    let p : Place = record { item = x; above = xs; below = ys } in
    broken_behind f (lines_at p) (lines_below (xs ++ x ∷ []) ys)
    ∙ alternative (refused_at (line_of x) (own_rule f p)) (first_broken f (inner_lines (file_of xs) x)) (first_broken f (lines_below (xs ++ x ∷ []) ys))
