-- The first broken line of a block.
use Rattle.std.proofs.Common.{◌≡◌, ℕ, Bool, true, false, List, [], ◌∷◌, ◌++◌, Option, Some, None, refl, sym, ap, ◌∙◌, ◌<◌, ◌+◌, length, get_or, drop, suc, drop-cons, add-one}
use Rattle.std.specs.Option.{is_some, option_or}
use Rattle.std.specs.List.{list_any}
use Rattle.py_syntax.specs.BlockTrees.{Then, view_item, view_block, block_of}
use Rattle.py_syntax.specs.declared.tree.BlockItem as code
use Rattle.py_syntax.specs.declared.tree.BlockItem.{Row_of-BlockItem, end_of-BlockItem, more_of-BlockItem}
use Rattle.py_syntax.specs.declared.tree.BlockItem.TheBlock.{items-the_row-BlockItem}
use Rattle.test_meaning.specs.Rules.File.{File}
use Rattle.test_meaning.specs.Rules.Rules.{is_unknown, astray, broken_at, refused_at, first_broken}
use Rattle.test_meaning.specs.Rules.Uses.{Use, Around, FileLine, body_line, block_lines, item_lines}
use Rattle.test_meaning.specs.declared.rules.rule.FileRule.{FileRule}
use Rattle.test_meaning.specs.declared.rules.rule.Refusal.{Refusal}
use Rattle.test_names.specs.Uses.Answer.{answer}

-- a line of a body breaks what its uses break
pub body_broken : (f : File) (l : ℕ) (a : Around) (us : List Use) → broken_at f (body_line l a us) ≡ refused_at l (answer f a us)
unfolding answer
body_broken f l a us = cases (list_any (is_unknown f a) us) (list_any (astray f a) us) refl refl
  where
    cases : (u m : Bool) → list_any (is_unknown f a) us ≡ u → list_any (astray f a) us ≡ m
        → broken_at f (body_line l a us) ≡ refused_at l (answer f a us)
    cases true m p q = rw p refl
    cases false true p q = rw (p, q) refl
    cases false false p q = rw (p, q) refl

alternative : {A : Type 0} (x y z : Option A) → option_or (option_or x y) z ≡ option_or x (option_or y z)
alternative (Some a) y z = refl
alternative None y z = refl

pub broken_behind : (f : File) (ks ls : List FileLine) → first_broken f (ks ++ ls) ≡ option_or (first_broken f ks) (first_broken f ls)
broken_behind f [] ls = refl
broken_behind f (k ∷ ks) ls = ap (λ r. option_or (broken_at f k) r) (broken_behind f ks ls) ∙ sym (alternative (broken_at f k) (first_broken f ks) (first_broken f ls))

pub row_block : (n : _) (k : Row_of-BlockItem n) → view_block k ≡ block_of (items-the_row-BlockItem n k)
row_block n end_of-BlockItem = refl
row_block n (more_of-BlockItem x rest) = ap (λ b. Then (view_item x) b) (row_block _ rest)

or_none : {A : Type 0} (x : Option A) → option_or x None ≡ x
or_none (Some a) = refl
or_none None = refl

-- a line alone
pub line_alone : (f : File) (l : ℕ) (a : Around) (us : List Use) (r : Option Refusal) (x : Option FileRule)
    → r ≡ refused_at l x → x ≡ answer f a us → r ≡ first_broken f (body_line l a us ∷ [])
line_alone f l a us r x e p =
    e ∙ ap (λ y. refused_at l y) p ∙ sym (body_broken f l a us) ∙ sym (or_none (broken_at f (body_line l a us)))

-- a line that breaks a rule, before others
pub line_first : (f : File) (l : ℕ) (a : Around) (us : List Use) (ls all : List FileLine) (r : Option Refusal) (k : Refusal) (x : Option FileRule)
    → all ≡ body_line l a us ∷ ls → r ≡ refused_at l x → x ≡ answer f a us → r ≡ Some k → Some k ≡ first_broken f all
line_first f l a us ls all r k x is e p q =
    ap (λ y. option_or y (first_broken f ls)) (sym q ∙ e ∙ ap (λ y. refused_at l y) p ∙ sym (body_broken f l a us)) ∙ ap (λ ks. first_broken f ks) (sym is)

-- a line that breaks none, before others
pub line_before : (f : File) (l : ℕ) (a : Around) (us : List Use) (ls all : List FileLine) (r : Option Refusal) (x : Option FileRule)
    → all ≡ body_line l a us ∷ ls → r ≡ refused_at l x → x ≡ answer f a us → r ≡ None → first_broken f ls ≡ first_broken f all
line_before f l a us ls all r x is e p q =
    ap (λ y. option_or y (first_broken f ls)) (sym q ∙ e ∙ ap (λ y. refused_at l y) p ∙ sym (body_broken f l a us)) ∙ ap (λ ks. first_broken f ks) (sym is)

-- the item at a place of a block, and those behind it
pub item_first : (f : File) (a : Around) (b : Bool) (xs : List code.BlockItem) (i : ℕ) (x : code.BlockItem) → i < length xs → x ≡ get_or xs i x
    → first_broken f (block_lines a b (block_of (drop i xs)))
    ≡ option_or (first_broken f (item_lines a b (view_item x))) (first_broken f (block_lines a b (block_of (drop (i + 1) xs))))
item_first f a b xs i x h is =
    ap (λ ys. first_broken f (block_lines a b (block_of ys))) (drop-cons xs i x h ∙ ap (λ y. y ∷ drop (suc i) xs) (sym is) ∙ ap (λ j. x ∷ drop j xs) (sym (add-one i)))
    ∙ broken_behind f (item_lines a b (view_item x)) (block_lines a b (block_of (drop (i + 1) xs)))

pub some_first : (x y : Option Refusal) → is_some x ≡ true → option_or x y ≡ x
some_first (Some a) y h = refl
some_first None y h = cc

pub none_first : (x y : Option Refusal) → is_some x ≡ false → option_or x y ≡ y
none_first (Some a) y h = cc
none_first None y h = refl

-- an item's line breaks a rule, so it is the block's first
pub stopped : (found items rest whole left : Option Refusal) (b : Bool) → found ≡ items → b ≡ is_some found → b ≡ true
    → whole ≡ left → left ≡ option_or items rest → found ≡ whole
stopped found items rest whole left b e q h w d =
    let s : is_some items ≡ true = ap (λ r. is_some r) (sym e) ∙ sym q ∙ h in
    e ∙ sym (some_first items rest s) ∙ sym d ∙ sym w

-- an item's lines break none, so those behind it count
pub went_on : (found items rest whole left : Option Refusal) (b : Bool) → found ≡ items → b ≡ is_some found → b ≡ false
    → whole ≡ left → left ≡ option_or items rest → whole ≡ rest
went_on found items rest whole left b e q h w d =
    let s : is_some items ≡ false = ap (λ r. is_some r) (sym e) ∙ sym q ∙ h in
    w ∙ d ∙ none_first items rest s
