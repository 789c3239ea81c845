-- What a name stands for inside of a function.
use Rattle.std.proofs.Common.{◌≡◌, ℕ, List, Option, Some, None, MatchOption, Bor, option_copied, sym, ap, ◌∙◌, if◌then◌else◌}
use Rattle.std.specs.List.{position_from}
use Rattle.std.specs.Option.{is_some, option_map}
use Rattle.std.specs.Str.{bytes_eq}
use Rattle.py_syntax.specs.ExpressionTrees.{Constant}
use Rattle.py_syntax.specs.ExpressionTrees as tree
use Rattle.py_syntax.specs.declared.constant.Const.{Const}
use Rattle.test_names.proofs.DefinitionsLemmas.FirstPlaces.{any_by_place}
use Rattle.test_meaning.specs.Bodies.{Inside, fixed_tree, name_in}
use Rattle.test_meaning.specs.Rules.File.{Fixed, fixed_of}
use Rattle.test_meaning.specs.Rules.Names.{Name, is_among}

among : (n : Name) (ns : List Name) (o p : Option ℕ) → o ≡ position_from (bytes_eq n) 0 ns → o ≡ p → is_among n ns ≡ is_some p
among n ns o p e is = any_by_place (bytes_eq n) ns ∙ ap (λ (q : Option ℕ). is_some q) (sym e ∙ is)

-- a name of the function's own stays
pub own : (s : Inside) (n : Name) (o : Option ℕ) (i : ℕ) → o ≡ position_from (bytes_eq n) 0 s.locals → o ≡ Some i → name_in s n ≡ tree.Name n
own s n o i e is = ap (λ b. if b then tree.Name n else fixed_tree n (fixed_of s.file.constants n)) (among n s.locals o (Some i) e is)

-- another is that of a constant, or stays
pub other : (s : Inside) (n : Name) (o : Option ℕ) (r : Option (Bor Const)) → o ≡ position_from (bytes_eq n) 0 s.locals → o ≡ None
    → option_copied r ≡ option_map (λ (k : Fixed). k.value) (fixed_of s.file.constants n)
    → MatchOption r (name_in s n ≡ tree.Name n) (λ c. name_in s n ≡ Constant c.now)
other s n o r e is h = go r (fixed_of s.file.constants n) h gone
  where
    gone : name_in s n ≡ fixed_tree n (fixed_of s.file.constants n)
    gone = ap (λ b. if b then tree.Name n else fixed_tree n (fixed_of s.file.constants n)) (among n s.locals o None e is)

    go : (q : Option (Bor Const)) (k : Option Fixed) → option_copied q ≡ option_map (λ (k : Fixed). k.value) k → name_in s n ≡ fixed_tree n k
        → MatchOption q (name_in s n ≡ tree.Name n) (λ c. name_in s n ≡ Constant c.now)
    go None None p g = g
    go (Some c) (Some k) p g = g ∙ ap (λ v. Constant v) (same k.value c.now (sym p))
      where
        same : (a b : Const) → Some a ≡ Some b → a ≡ b
        same a b q = cc
    go None (Some k) p g = cc
    go (Some c) None p g = cc
