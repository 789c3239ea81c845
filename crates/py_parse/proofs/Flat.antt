-- The lines of the module that is made of lines are these lines.
use Rattle.std.proofs.Common.{◌≡◌, ℕ, zero, suc, ◌<◌, ◌≤◌, ltb, eqb, Bool, true, false, List, [], ◌∷◌, ◌++◌, refl, sym, ap, ◌∙◌, append_assoc, arith, ◌⊎◌, inl, inr}
use Rattle.std.proofs.lemmas.List.{append-nil}
use Rattle.std.proofs.lemmas.Bool.{cases_Bool, ltb-true, ltb-false, eqb-true, eq-eqb}
use Rattle.py_syntax.specs.ModuleTrees.{ModuleLine, Import, FromImport, Constant, Test, Factory, AddOption, GenerateTests, Function}
use Rattle.py_syntax.specs.StatementTrees.{BodyLine, Simple, Heads}
use Rattle.py_syntax.specs.BlockTrees.{Block, BlockItem, NoItem, Then}
use Rattle.py_syntax.specs.Modules.{placed, is_function, block_lines, item_lines, module_item_lines, module_lines}
use Rattle.py_syntax.specs.Outline.{Content, Docstring, InModule, InBody, Placed}
use Rattle.py_parse.specs.Nesting.{PartialBlock, Nest, nothing, block_under, blocks_over, with_item, item_of, module_item_of, add, all_from, module_of}
use Rattle.py_parse.proofs.AddLaws.{add_is}
use Rattle.py_parse.proofs.Shape.{heads_body, heads, MayStand, MayFollow, AreBelow, IsUnder, blocks_lines, nest_lines}

-- ---- one line with its block

no_head : {X : Type 0} → false ≡ true → X
no_head e = absurd (let f : false ≡ true = e in cc)

body_item_flat : (d n : ℕ) (l : BodyLine) (b : Block) → ((b ≡ NoItem → ⊥) → heads_body l ≡ true) → item_lines d (item_of n (InBody l) b) ≡ placed d n (InBody l) ∷ block_lines (suc d) b
unfolding item_lines item_of block_lines
body_item_flat d n (Heads h) b f = refl
body_item_flat d n (Simple s) NoItem f = refl
body_item_flat d n (Simple s) (Then x b) f = no_head (f (λ e. let g : Then x b ≡ NoItem = e in cc))

item_flat : (d n : ℕ) (c : Content) (b : Block) → MayStand (suc d) c → ((b ≡ NoItem → ⊥) → heads c ≡ true) → item_lines (suc d) (item_of n c b) ≡ placed (suc d) n c ∷ block_lines (suc (suc d)) b
unfolding item_lines item_of block_lines
item_flat d n (InBody l) b m f = body_item_flat (suc d) n l b f
item_flat d n (InModule l) b m f = absurd m
item_flat d n Docstring NoItem m f = refl
item_flat d n Docstring (Then x b) m f = no_head (f (λ e. let g : Then x b ≡ NoItem = e in cc))

line_flat : (n : ℕ) (l : ModuleLine) (b : Block) → ((b ≡ NoItem → ⊥) → is_function l ≡ true) → module_item_lines (module_item_of n (InModule l) b) ≡ placed 0 n (InModule l) ∷ block_lines 1 b
unfolding module_item_lines module_item_of block_lines
line_flat n (Function g ps) b f = refl
line_flat n (Import m) NoItem f = refl
line_flat n (FromImport ms ns) NoItem f = refl
line_flat n (Constant m c) NoItem f = refl
line_flat n (Test ss) NoItem f = refl
line_flat n (Factory m g) NoItem f = refl
line_flat n (AddOption m o cs) NoItem f = refl
line_flat n (GenerateTests m p q) NoItem f = refl
line_flat n (Import m) (Then x b) f = no_head (f (λ e. let g : Then x b ≡ NoItem = e in cc))
line_flat n (FromImport ms ns) (Then x b) f = no_head (f (λ e. let g : Then x b ≡ NoItem = e in cc))
line_flat n (Constant m c) (Then x b) f = no_head (f (λ e. let g : Then x b ≡ NoItem = e in cc))
line_flat n (Test ss) (Then x b) f = no_head (f (λ e. let g : Then x b ≡ NoItem = e in cc))
line_flat n (Factory m h) (Then x b) f = no_head (f (λ e. let g : Then x b ≡ NoItem = e in cc))
line_flat n (AddOption m o cs) (Then x b) f = no_head (f (λ e. let g : Then x b ≡ NoItem = e in cc))
line_flat n (GenerateTests m p q) (Then x b) f = no_head (f (λ e. let g : Then x b ≡ NoItem = e in cc))

module_item_flat : (n : ℕ) (c : Content) (b : Block) → MayStand 0 c → ((b ≡ NoItem → ⊥) → heads c ≡ true) → module_item_lines (module_item_of n c b) ≡ placed 0 n c ∷ block_lines 1 b
unfolding module_item_lines module_item_of block_lines
module_item_flat n (InModule l) b m f = line_flat n l b f
module_item_flat n (InBody l) b m f = absurd m
module_item_flat n Docstring NoItem m f = refl
module_item_flat n Docstring (Then x b) m f = no_head (f (λ e. let g : Then x b ≡ NoItem = e in cc))

-- ---- the blocks that are open

-- What stands under a line, and what is left: their lines are all lines, and a block under it is one deeper.
pub record Taken (d : ℕ) (is_head : Bool) (ls : List PartialBlock) (b : Block) (rest : List PartialBlock) : Type 0 where
  pub lines : block_lines (suc d) b ++ blocks_lines rest ≡ blocks_lines ls
  pub headed : (b ≡ NoItem → ⊥) → is_head ≡ true
  pub below : AreBelow (suc d) rest

taken_deeper : (d : ℕ) (is_head : Bool) (l : PartialBlock) (ls : List PartialBlock) → AreBelow (suc (suc d)) (l ∷ ls) → IsUnder d is_head (l ∷ ls) → d < l.depth → Taken d is_head (l ∷ ls) l.block ls
unfolding AreBelow blocks_lines
taken_deeper d is_head l ls (a, o, b) u h =
    let e : l.depth ≡ suc d = omega (arith, a, h) in record {
      lines = rw e refl;
      headed = λ x. u h;
      below = rw e at b;
    }

taken_other : (d : ℕ) (is_head : Bool) (ls : List PartialBlock) → AreBelow (suc d) ls → Taken d is_head ls NoItem ls
unfolding block_lines
taken_other d is_head ls b = record { lines = refl; headed = λ x. absurd (x refl); below = b }

pub taken : (d : ℕ) (is_head : Bool) (ls : List PartialBlock) → AreBelow (suc (suc d)) ls → IsUnder d is_head ls → Taken d is_head ls (block_under d ls) (blocks_over d ls)
unfolding AreBelow
taken d is_head [] b u = taken_other d is_head [] tt
taken d is_head (l ∷ ls) (a, o, b) u = go (cases_Bool (ltb d l.depth))
  where
    go : (ltb d l.depth ≡ true) ⊎ (ltb d l.depth ≡ false) → Taken d is_head (l ∷ ls) (block_under d (l ∷ ls)) (blocks_over d (l ∷ ls))
    go (inl h) = rw h (taken_deeper d is_head l ls (a, o, b) u (ltb-true d l.depth h))
    go (inr h) = rw h (taken_other d is_head (l ∷ ls) (omega (arith, ltb-false d l.depth h), o, b))

below_one : (ls : List PartialBlock) → AreBelow 1 ls → ls ≡ []
unfolding AreBelow
below_one [] b = refl
below_one (l ∷ ls) (a, o, b) = absurd (omega (arith, a, o))

below_more : (d e : ℕ) (ls : List PartialBlock) → d ≤ e → AreBelow d ls → AreBelow e ls
unfolding AreBelow
below_more d e [] h b = tt
below_more d e (l ∷ ls) h (a, o, b) = (omega (arith, a, h), o, b)

-- ---- an item in front of its block

first_lines : (d : ℕ) (x : BlockItem) (ps : List Placed) → block_lines d (Then x NoItem) ++ ps ≡ item_lines d x ++ ps
unfolding block_lines
first_lines d x ps = ap (λ qs. qs ++ ps) (append-nil (item_lines d x))

put_lines : (d : ℕ) (x : BlockItem) (ls : List PartialBlock) → blocks_lines (with_item d x ls) ≡ item_lines d x ++ blocks_lines ls
unfolding blocks_lines block_lines
put_lines d x [] = first_lines d x []
put_lines d x (l ∷ ls) = go (cases_Bool (eqb l.depth d))
  where
    same : l.depth ≡ d → (item_lines d x ++ block_lines d l.block) ++ blocks_lines ls ≡ item_lines d x ++ (block_lines l.depth l.block ++ blocks_lines ls)
    same e = rw e (append_assoc (item_lines d x) (block_lines d l.block) (blocks_lines ls))

    go : (eqb l.depth d ≡ true) ⊎ (eqb l.depth d ≡ false) → blocks_lines (with_item d x (l ∷ ls)) ≡ item_lines d x ++ blocks_lines (l ∷ ls)
    go (inl h) = rw h (same (eqb-true l.depth d h))
    go (inr h) = rw h (first_lines d x (blocks_lines (l ∷ ls)))

less_or_same : (a d : ℕ) → a < suc d → (eqb a d ≡ false) → a < d
less_or_same a d h e = go (cases_Bool (ltb a d))
  where
    go : (ltb a d ≡ true) ⊎ (ltb a d ≡ false) → a < d
    go (inl k) = ltb-true a d k
    go (inr k) = no_head (let q : a ≡ d = omega (arith, ltb-false a d k, h) in sym e ∙ eq-eqb a d q)

put_below : (d : ℕ) (x : BlockItem) (ls : List PartialBlock) → AreBelow (suc (suc d)) ls → AreBelow (suc (suc d)) (with_item (suc d) x ls)
unfolding AreBelow
put_below d x [] b = (omega arith, omega arith, tt)
put_below d x (l ∷ ls) (a, o, b) = go (cases_Bool (eqb l.depth (suc d)))
  where
    go : (eqb l.depth (suc d) ≡ true) ⊎ (eqb l.depth (suc d) ≡ false) → AreBelow (suc (suc d)) (with_item (suc d) x (l ∷ ls))
    go (inl h) = rw h (omega arith, omega arith, rw (eqb-true l.depth (suc d) h) at b)
    go (inr h) = rw h (omega arith, omega arith, (less_or_same l.depth (suc d) a h, o, b))

put_under : (e : ℕ) (is_head : Bool) (d : ℕ) (x : BlockItem) (ls : List PartialBlock) → (e < d → is_head ≡ true) → IsUnder e is_head (with_item d x ls)
put_under e is_head d x [] h = h
put_under e is_head d x (l ∷ ls) h = go (cases_Bool (eqb l.depth d))
  where
    go : (eqb l.depth d ≡ true) ⊎ (eqb l.depth d ≡ false) → IsUnder e is_head (with_item d x (l ∷ ls))
    go (inl k) = rw k h
    go (inr k) = rw k h

-- ---- all lines

pub record Made (d : ℕ) (is_head : Bool) (ps : List Placed) (nest : Nest) : Type 0 where
  pub lines : nest_lines nest ≡ ps
  pub below : AreBelow (suc (suc d)) nest.blocks
  pub under : IsUnder d is_head nest.blocks

added_to_module : (d n : ℕ) (is_head : Bool) (c : Content) (ps : List Placed) (nest : Nest) → MayStand 0 c → Made 0 (heads c) ps nest → Made d is_head (placed 0 n c ∷ ps) (add (placed 0 n c) nest)
unfolding add nest_lines module_lines blocks_lines AreBelow
added_to_module d n is_head c ps nest m ih =
    let t = taken 0 (heads c) nest.blocks ih.below ih.under in
    let b = block_under 0 nest.blocks in
    let e : blocks_over 0 nest.blocks ≡ [] = below_one (blocks_over 0 nest.blocks) t.below in
    let k : block_lines 1 b ≡ blocks_lines nest.blocks = sym (append-nil (block_lines 1 b)) ∙ (rw e at t.lines) in
    record {
      lines = rw (e, module_item_flat n c b m t.headed, k) (ap (λ qs. placed 0 n c ∷ qs) ih.lines);
      below = rw e tt;
      under = rw e tt;
    }

added_to_block : (d e n : ℕ) (is_head : Bool) (c : Content) (ps : List Placed) (nest : Nest) → suc e ≤ suc d → (d < suc e → is_head ≡ true) → MayStand (suc e) c → Made (suc e) (heads c) ps nest → Made d is_head (placed (suc e) n c ∷ ps) (add (placed (suc e) n c) nest)
unfolding nest_lines
added_to_block d e n is_head c ps nest h f m ih =
    let t = taken (suc e) (heads c) nest.blocks ih.below ih.under in
    let b = block_under (suc e) nest.blocks in
    let rest = blocks_over (suc e) nest.blocks in
    let x = item_of n c b in
    let k : item_lines (suc e) x ++ blocks_lines rest ≡ placed (suc e) n c ∷ blocks_lines nest.blocks = rw (item_flat e n c b m t.headed) (ap (λ qs. placed (suc e) n c ∷ qs) t.lines) in
    rw (add_is e n c nest) (record {
      lines = rw (put_lines (suc e) x rest, k) (ap (λ qs. placed (suc e) n c ∷ qs) ih.lines);
      below = below_more (suc (suc e)) (suc (suc d)) (with_item (suc e) x rest) (omega (arith, h)) (put_below e x rest t.below);
      under = put_under d is_head (suc e) x rest f;
    })

added : (d e n : ℕ) (is_head : Bool) (c : Content) (ps : List Placed) (nest : Nest) → e ≤ suc d → (d < e → is_head ≡ true) → MayStand e c → Made e (heads c) ps nest → Made d is_head (placed e n c ∷ ps) (add (placed e n c) nest)
added d zero n is_head c ps nest h f m ih = added_to_module d n is_head c ps nest m ih
added d (suc e) n is_head c ps nest h f m ih = added_to_block d e n is_head c ps nest h f m ih

pub made : (d : ℕ) (is_head : Bool) (ps : List Placed) → MayFollow d is_head ps → Made d is_head ps (all_from ps nothing)
unfolding MayFollow nest_lines blocks_lines module_lines AreBelow
made d is_head [] m = record { lines = refl; below = tt; under = tt }
made d is_head (p ∷ ps) (a, b, s, m) = added d p.depth p.number is_head p.content ps (all_from ps nothing) a b s (made p.depth (heads p.content) ps m)

-- ---- the module

none_open : (ls : List PartialBlock) → AreBelow 2 ls → IsUnder 0 false ls → ls ≡ []
unfolding AreBelow
none_open [] b u = refl
none_open (l ∷ ls) (a, o, b) u = no_head (u o)

pub module_lines_are : (ps : List Placed) → MayFollow 0 false ps → module_lines (module_of ps) ≡ ps
unfolding module_of nest_lines blocks_lines
module_lines_are ps m =
    let k = made 0 false ps m in
    let nest = all_from ps nothing in
    let e : nest.blocks ≡ [] = none_open nest.blocks k.below k.under in
    rw e at k.lines
