-- The module that is made of a module's lines is this module.
use Rattle.std.proofs.Common.{◌≡◌, ℕ, zero, suc, eqb, true, false, List, [], ◌∷◌, refl, sym, ap, ◌∙◌, arith, ◌⊎◌, inl, inr}
use Rattle.std.proofs.lemmas.Bool.{cases_Bool, ltb-false, lt-ltb, le-ltb, eqb-true, eq-eqb}
use Rattle.py_syntax.specs.ModuleTrees.{ModuleLine, Import, FromImport, Constant, Test, Factory, AddOption, GenerateTests, Function}
use Rattle.py_syntax.specs.BlockTrees.{Block, BlockItem, DocstringAt, StatementAt, ClauseAt, NoItem, Then, ModuleItem, TextAt, LineAt, FunctionAt}
use Rattle.py_syntax.specs.Modules.{placed, is_function, IsItem, AreItems, block_lines, item_lines, module_item_lines, module_lines}
use Rattle.py_syntax.specs.Outline.{Content, Docstring, InModule, InBody, Placed}
use Rattle.py_parse.specs.Nesting.{PartialBlock, Nest, nothing, is_deeper, block_under, blocks_over, block_with, with_item, item_of, module_item_of, add, all_from, module_of}
use Rattle.py_parse.proofs.AddLaws.{all_from_more, add_is}

no_head : {X : Type 0} → false ≡ true → X
no_head e = absurd (let f : false ≡ true = e in cc)

-- the blocks, with all items of a block in front of their own
abbrev pushed : ℕ → Block → List PartialBlock → List PartialBlock
pushed d NoItem ls = ls
pushed d (Then x b) ls = with_item d x (pushed d b ls)

abbrev partial_of : ℕ → Block → PartialBlock
partial_of d b = record { depth = d; block = b }

abbrev with_blocks : Nest → List PartialBlock → Nest
with_blocks nest ls = record { items = nest.items; blocks = ls }

not_at : (d : ℕ) (x : BlockItem) (ls : List PartialBlock) → is_deeper d ls ≡ false → with_item (suc d) x ls ≡ block_with (suc d) x NoItem ∷ ls
not_at d x [] h = refl
not_at d x (l ∷ ls) h = go (cases_Bool (eqb l.depth (suc d)))
  where
    go : (eqb l.depth (suc d) ≡ true) ⊎ (eqb l.depth (suc d) ≡ false) → with_item (suc d) x (l ∷ ls) ≡ block_with (suc d) x NoItem ∷ (l ∷ ls)
    go (inl k) = absurd (omega (arith, eqb-true l.depth (suc d) k, ltb-false d l.depth h))
    go (inr k) = rw k refl

at_top : (d : ℕ) (x : BlockItem) (b : Block) (ls : List PartialBlock) → with_item d x (partial_of d b ∷ ls) ≡ partial_of d (Then x b) ∷ ls
at_top d x b ls = rw (eq-eqb d d refl) refl

pushed_is : (d : ℕ) (x : BlockItem) (b : Block) (ls : List PartialBlock) → is_deeper d ls ≡ false → pushed (suc d) (Then x b) ls ≡ partial_of (suc d) (Then x b) ∷ ls
pushed_is d x NoItem ls h = not_at d x ls h
pushed_is d x (Then y b) ls h = rw (pushed_is d y b ls h) (at_top (suc d) x (Then y b) ls)

deeper_top : (d : ℕ) (b : Block) (ls : List PartialBlock) → is_deeper d (partial_of (suc d) b ∷ ls) ≡ true
deeper_top d b ls = lt-ltb d (suc d) (omega arith)

pushed_under : (d : ℕ) (b : Block) (ls : List PartialBlock) → is_deeper d ls ≡ false → block_under d (pushed (suc d) b ls) ≡ b
pushed_under d NoItem ls h = rw h refl
pushed_under d (Then x b) ls h = rw (pushed_is d x b ls h, deeper_top d (Then x b) ls) refl

pushed_over : (d : ℕ) (b : Block) (ls : List PartialBlock) → is_deeper d ls ≡ false → blocks_over d (pushed (suc d) b ls) ≡ ls
pushed_over d NoItem ls h = rw h refl
pushed_over d (Then x b) ls h = rw (pushed_is d x b ls h, deeper_top d (Then x b) ls) refl

put_not_deeper : (d : ℕ) (x : BlockItem) (ls : List PartialBlock) → is_deeper d (with_item d x ls) ≡ false
put_not_deeper d x [] = le-ltb d d (omega arith)
put_not_deeper d x (l ∷ ls) = go (cases_Bool (eqb l.depth d))
  where
    go : (eqb l.depth d ≡ true) ⊎ (eqb l.depth d ≡ false) → is_deeper d (with_item d x (l ∷ ls)) ≡ false
    go (inl k) = rw k (le-ltb d d (omega arith))
    go (inr k) = rw k (le-ltb d d (omega arith))

pushed_not_deeper : (d : ℕ) (b : Block) (ls : List PartialBlock) → is_deeper d ls ≡ false → is_deeper d (pushed d b ls) ≡ false
pushed_not_deeper d NoItem ls h = h
pushed_not_deeper d (Then x b) ls h = put_not_deeper d x (pushed d b ls)

not_deeper_more : (d : ℕ) (ls : List PartialBlock) → is_deeper d ls ≡ false → is_deeper (suc d) ls ≡ false
not_deeper_more d [] h = refl
not_deeper_more d (l ∷ ls) h = le-ltb (suc d) l.depth (omega (arith, ltb-false d l.depth h))

add_to_block : (d n : ℕ) (c : Content) (nest : Nest) (b : Block) (ls : List PartialBlock) → block_under (suc d) nest.blocks ≡ b → blocks_over (suc d) nest.blocks ≡ ls
    → add (placed (suc d) n c) nest ≡ with_blocks nest (with_item (suc d) (item_of n c b) ls)
add_to_block d n c nest b ls e f = add_is d n c nest ∙ (rw (e, f) refl)

mutual
  unfolding item_lines item_of

  item_back : (d : ℕ) (x : BlockItem) (nest : Nest) → is_deeper (suc d) nest.blocks ≡ false → all_from (item_lines (suc d) x) nest ≡ with_blocks nest (with_item (suc d) x nest.blocks)
  item_back d (DocstringAt n) nest h = add_to_block d n _ nest NoItem nest.blocks (rw h refl) (rw h refl)
  item_back d (StatementAt n s) nest h = add_to_block d n _ nest NoItem nest.blocks (rw h refl) (rw h refl)
  item_back d (ClauseAt n k b) nest h =
      let ls = nest.blocks in
      rw (block_back (suc d) b nest (not_deeper_more (suc d) ls h))
      (add_to_block d n _ (with_blocks nest (pushed (suc (suc d)) b ls)) b ls (pushed_under (suc d) b ls h) (pushed_over (suc d) b ls h))

  block_back : (d : ℕ) (b : Block) (nest : Nest) → is_deeper (suc d) nest.blocks ≡ false → all_from (block_lines (suc d) b) nest ≡ with_blocks nest (pushed (suc d) b nest.blocks)
  block_back d NoItem nest h = refl
  block_back d (Then x b) nest h =
      all_from_more (item_lines (suc d) x) (block_lines (suc d) b) nest
      ∙ (rw (block_back d b nest h) (item_back d x (with_blocks nest (pushed (suc d) b nest.blocks)) (pushed_not_deeper (suc d) b nest.blocks h)))

line_back : (n : ℕ) (l : ModuleLine) → is_function l ≡ false → module_item_of n (InModule l) NoItem ≡ LineAt n l
unfolding module_item_of
line_back n (Function g ps) h = no_head (sym h)
line_back n (Import m) h = refl
line_back n (FromImport ms ns) h = refl
line_back n (Constant m c) h = refl
line_back n (Test ss) h = refl
line_back n (Factory m g) h = refl
line_back n (AddOption m o cs) h = refl
line_back n (GenerateTests m p q) h = refl

abbrev of_items : List ModuleItem → Nest
of_items xs = record { items = xs; blocks = [] }

module_item_back : (x : ModuleItem) (xs : List ModuleItem) → IsItem x → all_from (module_item_lines x) (of_items xs) ≡ of_items (x ∷ xs)
unfolding module_item_lines add module_item_of
module_item_back (TextAt n) xs i = refl
module_item_back (LineAt n l) xs i = ap (λ y. of_items (y ∷ xs)) (line_back n l i)
module_item_back (FunctionAt n f ps b) xs i = rw (block_back 0 b (of_items xs) refl, pushed_under 0 b [] refl, pushed_over 0 b [] refl) refl

all_back : (m : List ModuleItem) → AreItems m → all_from (module_lines m) nothing ≡ of_items m
unfolding module_lines
all_back [] i = refl
all_back (x ∷ xs) (i, j) = all_from_more (module_item_lines x) (module_lines xs) nothing ∙ (rw (all_back xs j) (module_item_back x xs i))

pub module_back : (m : List ModuleItem) → AreItems m → module_of (module_lines m) ≡ m
unfolding module_of
module_back m i = ap (λ (n : Nest). n.items) (all_back m i)

-- ---- what is made is a module

is_item : (n : ℕ) (c : Content) (b : Block) → IsItem (module_item_of n c b)
unfolding module_item_of
is_item n Docstring b = tt
is_item n (InBody l) b = tt
is_item n (InModule (Function g ps)) b = tt
is_item n (InModule (Import m)) b = refl
is_item n (InModule (FromImport ms ns)) b = refl
is_item n (InModule (Constant m c)) b = refl
is_item n (InModule (Test ss)) b = refl
is_item n (InModule (Factory m g)) b = refl
is_item n (InModule (AddOption m o cs)) b = refl
is_item n (InModule (GenerateTests m p q)) b = refl

added_items : (d n : ℕ) (c : Content) (nest : Nest) → AreItems nest.items → AreItems (add (placed d n c) nest).items
unfolding add
added_items zero n c nest i = (is_item n c (block_under 0 nest.blocks), i)
added_items (suc d) n c nest i = rw (add_is d n c nest) i

all_items : (ps : List Placed) → AreItems (all_from ps nothing).items
all_items [] = tt
all_items (p ∷ ps) = added_items p.depth p.number p.content (all_from ps nothing) (all_items ps)

pub are_items : (ps : List Placed) → AreItems (module_of ps)
unfolding module_of
are_items ps = all_items ps
