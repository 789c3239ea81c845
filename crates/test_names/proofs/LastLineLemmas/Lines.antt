-- The last line of those so far.
use Rattle.std.proofs.Common.{◌≡◌, ◌<◌, ◌≤◌, ◌+◌, ℕ, suc, Bool, true, false, List, [], ◌∷◌, ◌++◌, length, map, drop, drop-cons, add-one, get_or, Option, Some, None, refl, sym, ap, ◌∙◌, cond, if◌then◌else◌}
use Rattle.std.proofs.lemmas.List.{drop_all}
use Rattle.std.specs.List.{filter, last_or}
use Rattle.std.specs.Option.{option_map_or}
use Rattle.py_syntax.specs.BlockTrees as tree
use Rattle.py_syntax.specs.BlockTrees.{Block, DocstringAt, StatementAt, ClauseAt, TextAt, LineAt, FunctionAt, NoItem, Then, view_item, view_block, block_of, view_module_item}
use Rattle.py_syntax.specs.ModuleTrees.{ModuleLine}
use Rattle.py_syntax.specs.Modules.{block_lines, item_lines, module_item_lines, module_lines}
use Rattle.py_syntax.specs.Outline.{Placed}
use Rattle.py_syntax.specs.StatementTrees.{Header, Statement}
use Rattle.py_syntax.specs.declared.module.Parameter.{Parameter}
use Rattle.py_syntax.specs.declared.tree.BlockItem.{BlockItem, Row_of-BlockItem, end_of-BlockItem, more_of-BlockItem}
use Rattle.py_syntax.specs.declared.tree.BlockItem.TheBlock.{items-the_row-BlockItem}
use Rattle.py_syntax.specs.declared.tree.ModuleItem.{ModuleItem}
use Rattle.test_meaning.specs.Rules.Rules.{is_code, last_line}
use Rattle.test_names.specs.LastLine.Behind.{number_behind}

behind_more : (n : ℕ) (ps qs : List Placed) → number_behind n (ps ++ qs) ≡ number_behind (number_behind n ps) qs
behind_more n [] qs = refl
behind_more n (p ∷ ps) qs = behind_more (if is_code p.content then p.number else n) ps qs

last_behind : (n : ℕ) (o : Option Placed) (ps : List Placed)
    → option_map_or (λ p. p.number) (last_or o (filter (λ p. is_code p.content) ps)) n ≡ number_behind (option_map_or (λ p. p.number) o n) ps
last_behind n o [] = refl
last_behind n o (p ∷ ps) = go (is_code p.content) (last_behind n (Some p) ps) (last_behind n o ps)
  where
    go : (b : Bool)
        → option_map_or (λ (q : Placed). q.number) (last_or (Some p) (filter (λ q. is_code q.content) ps)) n ≡ number_behind p.number ps
        → option_map_or (λ (q : Placed). q.number) (last_or o (filter (λ q. is_code q.content) ps)) n ≡ number_behind (option_map_or (λ (q : Placed). q.number) o n) ps
        → option_map_or (λ (q : Placed). q.number) (last_or o (cond b (p ∷ filter (λ q. is_code q.content) ps) (filter (λ q. is_code q.content) ps))) n
        ≡ number_behind (if b then p.number else option_map_or (λ (q : Placed). q.number) o n) ps
    go true h k = h
    go false h k = k

pub last_is : (ps : List Placed) → number_behind 1 ps ≡ last_line ps
last_is ps = sym (last_behind 1 None ps)

-- ---- one item

pub docstring_lines : (n d l : ℕ) → n ≡ number_behind n (item_lines d (DocstringAt l))
unfolding item_lines
docstring_lines n d l = refl

pub statement_lines : (n d l : ℕ) (s : Statement) → l ≡ number_behind n (item_lines d (StatementAt l s))
unfolding item_lines
statement_lines n d l s = refl

pub clause_lines : (n d l : ℕ) (h : Header) (b : Block) → number_behind l (block_lines (suc d) b) ≡ number_behind n (item_lines d (ClauseAt l h b))
unfolding item_lines
clause_lines n d l h b = refl

pub text_lines : (n l : ℕ) → n ≡ number_behind n (module_item_lines (TextAt l))
unfolding module_item_lines
text_lines n l = refl

pub line_lines : (n l : ℕ) (x : ModuleLine) → l ≡ number_behind n (module_item_lines (LineAt l x))
unfolding module_item_lines
line_lines n l x = refl

pub function_lines : (n l : ℕ) (f : List ℕ) (ps : List Parameter) (b : Block)
    → number_behind l (block_lines 1 b) ≡ number_behind n (module_item_lines (FunctionAt l f ps b))
unfolding module_item_lines
function_lines n l f ps b = refl

pub row_block : (n : _) (k : Row_of-BlockItem n) → view_block k ≡ block_of (items-the_row-BlockItem n k)
row_block n end_of-BlockItem = refl
row_block n (more_of-BlockItem x rest) = ap (λ b. Then (view_item x) b) (row_block _ rest)

-- a header and its block
pub clause_is : (n d l r : ℕ) (x : tree.BlockItem) (h : Header) (row b : Block) → x ≡ ClauseAt l h row → row ≡ b
    → ((e : ℕ) → r ≡ number_behind l (block_lines e b)) → r ≡ number_behind n (item_lines d x)
clause_is n d l r x h row b e q so =
    so (suc d) ∙ ap (λ c. number_behind l (block_lines (suc d) c)) (sym q) ∙ clause_lines n d l h row ∙ ap (λ y. number_behind n (item_lines d y)) (sym e)

-- ---- loops

two_items : (d : ℕ) (x : tree.BlockItem) (b : Block) → block_lines d (Then x b) ≡ item_lines d x ++ block_lines d b
unfolding block_lines
two_items d x b = refl

no_items : (n d : ℕ) → number_behind n (block_lines d NoItem) ≡ n
unfolding block_lines
no_items n d = refl

-- one item of a block
pub item_more : (xs : List BlockItem) (i : ℕ) (x : BlockItem) (n k m : ℕ) → i < length xs → x ≡ get_or xs i x
    → ((d : ℕ) → m ≡ number_behind k (item_lines d (view_item x)))
    → ((d : ℕ) → number_behind n (block_lines d (block_of xs)) ≡ number_behind k (block_lines d (block_of (drop i xs))))
    → (d : ℕ) → number_behind n (block_lines d (block_of xs)) ≡ number_behind m (block_lines d (block_of (drop (i + 1) xs)))
item_more xs i x n k m h is one so d =
    so d ∙ ap (λ ys. number_behind k (block_lines d (block_of ys))) (drop-cons xs i x h ∙ ap (λ y. y ∷ drop (suc i) xs) (sym is))
    ∙ ap (λ ls. number_behind k ls) (two_items d (view_item x) (block_of (drop (suc i) xs)))
    ∙ behind_more k (item_lines d (view_item x)) (block_lines d (block_of (drop (suc i) xs)))
    ∙ ap (λ j. number_behind j (block_lines d (block_of (drop (suc i) xs)))) (sym (one d))
    ∙ ap (λ j. number_behind m (block_lines d (block_of (drop j xs)))) (sym (add-one i))

-- behind the last item of a block
pub block_done : (xs : List BlockItem) (i n k : ℕ) → length xs ≤ i
    → ((d : ℕ) → number_behind n (block_lines d (block_of xs)) ≡ number_behind k (block_lines d (block_of (drop i xs))))
    → (d : ℕ) → k ≡ number_behind n (block_lines d (block_of xs))
block_done xs i n k h so d = sym (so d ∙ ap (λ ys. number_behind k (block_lines d (block_of ys))) (drop_all i xs h) ∙ no_items k d)

first_lines : (x : tree.ModuleItem) (xs : List tree.ModuleItem) → module_lines (x ∷ xs) ≡ module_item_lines x ++ module_lines xs
unfolding module_lines
first_lines x xs = refl

no_lines : (n : ℕ) → number_behind n (module_lines []) ≡ n
unfolding module_lines
no_lines n = refl

-- one item of a module
pub module_more : (xs : List ModuleItem) (i : ℕ) (x : ModuleItem) (n k m : ℕ) → i < length xs → x ≡ get_or xs i x
    → m ≡ number_behind k (module_item_lines (view_module_item x))
    → number_behind n (module_lines (map view_module_item xs)) ≡ number_behind k (module_lines (map view_module_item (drop i xs)))
    → number_behind n (module_lines (map view_module_item xs)) ≡ number_behind m (module_lines (map view_module_item (drop (i + 1) xs)))
module_more xs i x n k m h is one so =
    so ∙ ap (λ ys. number_behind k (module_lines (map view_module_item ys))) (drop-cons xs i x h ∙ ap (λ y. y ∷ drop (suc i) xs) (sym is))
    ∙ ap (λ ls. number_behind k ls) (first_lines (view_module_item x) (map view_module_item (drop (suc i) xs)))
    ∙ behind_more k (module_item_lines (view_module_item x)) (module_lines (map view_module_item (drop (suc i) xs)))
    ∙ ap (λ j. number_behind j (module_lines (map view_module_item (drop (suc i) xs)))) (sym one)
    ∙ ap (λ j. number_behind m (module_lines (map view_module_item (drop j xs)))) (sym (add-one i))

-- behind the last item of a module
pub module_done : (xs : List ModuleItem) (i k : ℕ) → length xs ≤ i
    → number_behind 1 (module_lines (map view_module_item xs)) ≡ number_behind k (module_lines (map view_module_item (drop i xs)))
    → k ≡ last_line (module_lines (map view_module_item xs))
module_done xs i k h so =
    sym (sym (last_is (module_lines (map view_module_item xs))) ∙ so ∙ ap (λ ys. number_behind k (module_lines (map view_module_item ys))) (drop_all i xs h) ∙ no_lines k)
