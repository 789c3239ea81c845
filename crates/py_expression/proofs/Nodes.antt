-- What is kept of a node is made of what is kept of its parts.
use Rattle.std.proofs.Common.{◌≡◌, ℕ, ◌+◌, ◌<◌, ◌≤◌, max, List, refl, sym, ap, ◌∙◌, arith, ◌⊎◌, inl, inr}
use Rattle.py_syntax.specs.ExpressionTrees.{Tree, Constant, FormatString, Name, Bracketed, Attribute, Subscript, Call, MethodCall, Unary, Infix, Trees, NoTree, Then, Parts, NoPart, TextThen, FormattedThen, height, all_height, parts_height}
use Rattle.py_syntax.specs.declared.constant.Const.{Const}
use Rattle.py_syntax.specs.declared.expression.UnOp.{UnOp}
use Rattle.py_syntax.specs.declared.expression.Operation.{Operation}
use Rattle.py_syntax.specs.declared.expression.Function.{Function}
use Rattle.py_syntax.specs.declared.expression.Method.{Method}
use Rattle.py_expression.specs.Shown.{Shown, ShownTrees, ShownParts, cut, hollow, shown, fitted, constant, name, bracketed, attribute, subscript, method_call, unary, infix_of, snoc, with_tree, call, joined, with_text, with_formatted, format_string}

pub at_most_or_more : (a b : ℕ) → (a ≤ b) ⊎ (b < a)
at_most_or_more a b = grind arith

-- a tree within the limit is kept whole
pub shown_whole : (limit : ℕ) (e : Tree) → height e ≤ limit + 2 → shown limit e ≡ record { tree = e; height = height e }
unfolding shown
shown_whole limit e h = grind arith

pub shown_high : (limit : ℕ) (e : Tree) → limit + 2 < height e → shown limit e ≡ record { tree = hollow e; height = limit + 3 }
unfolding shown
shown_high limit e h = grind arith

pub fitted_whole : (limit : ℕ) (e : Tree) (h : ℕ) → h < limit + 2 → fitted limit e h ≡ record { tree = e; height = h + 1 }
unfolding fitted
fitted_whole limit e h l = grind arith

pub fitted_high : (limit : ℕ) (e : Tree) (h : ℕ) → limit + 2 ≤ h → fitted limit e h ≡ record { tree = hollow e; height = limit + 3 }
unfolding fitted
fitted_high limit e h l = grind arith

-- a node of parts that are kept whole
pub fitted_shown : (limit : ℕ) (e : Tree) (h : ℕ) → height e ≡ 1 + h → fitted limit e h ≡ shown limit e
fitted_shown limit e h eq = go (at_most_or_more (height e) (limit + 2))
  where
    go : (height e ≤ limit + 2) ⊎ (limit + 2 < height e) → fitted limit e h ≡ shown limit e
    go (inl l) = fitted_whole limit e h (omega arith) ∙ ap (λ n. record { tree = e; height = n }) (let k : h + 1 ≡ height e = omega arith in k) ∙ sym (shown_whole limit e l)
    go (inr l) = fitted_high limit e h (omega arith) ∙ sym (shown_high limit e l)

-- a node of which a part is too high
pub fitted_over : (limit : ℕ) (e f : Tree) (h : ℕ) → limit + 2 ≤ h → limit + 2 < height f → hollow e ≡ hollow f → fitted limit e h ≡ shown limit f
fitted_over limit e f h l m eq = fitted_high limit e h l ∙ ap (λ t. record { tree = t; height = limit + 3 }) eq ∙ sym (shown_high limit f m)

pub cut_hollow : (e : Tree) → cut (hollow e) ≡ cut e
unfolding cut hollow
cut_hollow (Constant c) = refl
cut_hollow (FormatString ps) = refl
cut_hollow (Name n) = refl
cut_hollow (Bracketed e) = refl
cut_hollow (Attribute e n) = refl
cut_hollow (Subscript e i) = refl
cut_hollow (Call f es) = refl
cut_hollow (MethodCall e m) = refl
cut_hollow (Unary op e) = refl
cut_hollow (Infix op l r) = refl

pub shown_constant : (limit : ℕ) (c : Const) → constant c ≡ shown limit (Constant c)
unfolding shown height
shown_constant limit c = sym (shown_whole limit (Constant c) (omega arith))

pub shown_name : (limit : ℕ) (n : List ℕ) → name n ≡ shown limit (Name n)
unfolding shown height
shown_name limit n = sym (shown_whole limit (Name n) (omega arith))

pub shown_bracketed : (limit : ℕ) (e : Tree) → bracketed limit (shown limit e) ≡ shown limit (Bracketed e)
unfolding bracketed height hollow
shown_bracketed limit e = go (at_most_or_more (height e) (limit + 2))
  where
    go : (height e ≤ limit + 2) ⊎ (limit + 2 < height e) → bracketed limit (shown limit e) ≡ shown limit (Bracketed e)
    go (inl l) = rw (shown_whole limit e l) (fitted_shown limit (Bracketed e) (height e) refl)
    go (inr l) = rw (shown_high limit e l) (fitted_over limit (Bracketed (hollow e)) (Bracketed e) (limit + 3) (omega arith) (omega arith) refl)

pub shown_attribute : (limit : ℕ) (e : Tree) (n : List ℕ) → attribute limit (shown limit e) n ≡ shown limit (Attribute e n)
unfolding attribute height hollow
shown_attribute limit e n = go (at_most_or_more (height e) (limit + 2))
  where
    go : (height e ≤ limit + 2) ⊎ (limit + 2 < height e) → attribute limit (shown limit e) n ≡ shown limit (Attribute e n)
    go (inl l) = rw (shown_whole limit e l) (fitted_shown limit (Attribute e n) (height e) refl)
    go (inr l) = rw (shown_high limit e l) (fitted_over limit (Attribute (hollow e) n) (Attribute e n) (limit + 3) (omega arith) (omega arith) (ap (λ t. Attribute t n) (cut_hollow e)))

pub shown_method_call : (limit : ℕ) (e : Tree) (m : Method) → method_call limit (shown limit e) m ≡ shown limit (MethodCall e m)
unfolding method_call height hollow
shown_method_call limit e m = go (at_most_or_more (height e) (limit + 2))
  where
    go : (height e ≤ limit + 2) ⊎ (limit + 2 < height e) → method_call limit (shown limit e) m ≡ shown limit (MethodCall e m)
    go (inl l) = rw (shown_whole limit e l) (fitted_shown limit (MethodCall e m) (height e) refl)
    go (inr l) = rw (shown_high limit e l) (fitted_over limit (MethodCall (hollow e) m) (MethodCall e m) (limit + 3) (omega arith) (omega arith) refl)

pub shown_unary : (limit : ℕ) (op : UnOp) (e : Tree) → unary limit op (shown limit e) ≡ shown limit (Unary op e)
unfolding unary height hollow
shown_unary limit op e = go (at_most_or_more (height e) (limit + 2))
  where
    go : (height e ≤ limit + 2) ⊎ (limit + 2 < height e) → unary limit op (shown limit e) ≡ shown limit (Unary op e)
    go (inl l) = rw (shown_whole limit e l) (fitted_shown limit (Unary op e) (height e) refl)
    go (inr l) = rw (shown_high limit e l) (fitted_over limit (Unary op (hollow e)) (Unary op e) (limit + 3) (omega arith) (omega arith) refl)

pub shown_infix : (limit : ℕ) (op : Operation) (l r : Tree) → infix_of limit op (shown limit l) (shown limit r) ≡ shown limit (Infix op l r)
unfolding infix_of height hollow
shown_infix limit op l r = go (at_most_or_more (height l) (limit + 2)) (at_most_or_more (height r) (limit + 2))
  where
    go : (height l ≤ limit + 2) ⊎ (limit + 2 < height l) → (height r ≤ limit + 2) ⊎ (limit + 2 < height r) → infix_of limit op (shown limit l) (shown limit r) ≡ shown limit (Infix op l r)
    go (inl hl) (inl hr) = rw (shown_whole limit l hl, shown_whole limit r hr) (fitted_shown limit (Infix op l r) (max (height l) (height r)) refl)
    go (inl hl) (inr hr) = rw (shown_whole limit l hl, shown_high limit r hr) (fitted_over limit (Infix op l (hollow r)) (Infix op l r) (max (height l) (limit + 3)) (omega arith) (omega arith) refl)
    go (inr hl) (inl hr) = rw (shown_high limit l hl, shown_whole limit r hr) (fitted_over limit (Infix op (hollow l) r) (Infix op l r) (max (limit + 3) (height r)) (omega arith) (omega arith) refl)
    go (inr hl) (inr hr) = rw (shown_high limit l hl, shown_high limit r hr) (fitted_over limit (Infix op (hollow l) (hollow r)) (Infix op l r) (max (limit + 3) (limit + 3)) (omega arith) (omega arith) refl)

pub shown_subscript : (limit : ℕ) (e i : Tree) → subscript limit (shown limit e) (shown limit i) ≡ shown limit (Subscript e i)
unfolding subscript height hollow
shown_subscript limit e i = go (at_most_or_more (height e) (limit + 2)) (at_most_or_more (height i) (limit + 2))
  where
    go : (height e ≤ limit + 2) ⊎ (limit + 2 < height e) → (height i ≤ limit + 2) ⊎ (limit + 2 < height i) → subscript limit (shown limit e) (shown limit i) ≡ shown limit (Subscript e i)
    go (inl he) (inl hi) = rw (shown_whole limit e he, shown_whole limit i hi) (fitted_shown limit (Subscript e i) (max (height e) (height i)) refl)
    go (inl he) (inr hi) = rw (shown_whole limit e he, shown_high limit i hi) (fitted_over limit (Subscript e (hollow i)) (Subscript e i) (max (height e) (limit + 3)) (omega arith) (omega arith) refl)
    go (inr he) (inl hi) = rw (shown_high limit e he, shown_whole limit i hi) (fitted_over limit (Subscript (hollow e) i) (Subscript e i) (max (limit + 3) (height i)) (omega arith) (omega arith) refl)
    go (inr he) (inr hi) = rw (shown_high limit e he, shown_high limit i hi) (fitted_over limit (Subscript (hollow e) (hollow i)) (Subscript e i) (max (limit + 3) (limit + 3)) (omega arith) (omega arith) refl)

-- Arguments.

unfoldable pub count_of : Trees → ℕ
count_of NoTree = 0
count_of (Then e es) = count_of es + 1

-- each as it is kept
unfoldable pub each_shown : ℕ → Trees → Trees
each_shown limit NoTree = NoTree
each_shown limit (Then e es) = Then (shown limit e).tree (each_shown limit es)

unfoldable pub greatest : ℕ → Trees → ℕ
greatest limit NoTree = 0
greatest limit (Then e es) = max (shown limit e).height (greatest limit es)

abbrev pub shown_trees : ℕ → Trees → ShownTrees
shown_trees limit es = record { trees = each_shown limit es; count = count_of es; height = greatest limit es }

pub count_snoc : (es : Trees) (e : Tree) → count_of (snoc es e) ≡ count_of es + 1
unfolding count_of snoc
count_snoc NoTree e = refl
count_snoc (Then x es) e = ap (λ n. n + 1) (count_snoc es e)

each_snoc : (limit : ℕ) (es : Trees) (e : Tree) → each_shown limit (snoc es e) ≡ snoc (each_shown limit es) (shown limit e).tree
unfolding each_shown snoc
each_snoc limit NoTree e = refl
each_snoc limit (Then x es) e = ap (λ t. Then (shown limit x).tree t) (each_snoc limit es e)

greatest_snoc : (limit : ℕ) (es : Trees) (e : Tree) → greatest limit (snoc es e) ≡ max (greatest limit es) (shown limit e).height
unfolding greatest snoc
greatest_snoc limit NoTree e = omega arith
greatest_snoc limit (Then x es) e = omega (arith, greatest_snoc limit es e)

pub shown_with_tree : (limit : ℕ) (es : Trees) (e : Tree) → with_tree (shown_trees limit es) (shown limit e) ≡ shown_trees limit (snoc es e)
unfolding with_tree
shown_with_tree limit es e = rw (count_snoc es e, each_snoc limit es e, greatest_snoc limit es e)

height_whole : (limit : ℕ) (e : Tree) → height e ≤ limit + 2 → (shown limit e).height ≡ height e
height_whole limit e h = ap (λ (s : Shown). s.height) (shown_whole limit e h)

tree_whole : (limit : ℕ) (e : Tree) → height e ≤ limit + 2 → (shown limit e).tree ≡ e
tree_whole limit e h = ap (λ (s : Shown). s.tree) (shown_whole limit e h)

height_high : (limit : ℕ) (e : Tree) → limit + 2 < height e → (shown limit e).height ≡ limit + 3
height_high limit e h = ap (λ (s : Shown). s.height) (shown_high limit e h)

greatest_whole : (limit : ℕ) (es : Trees) → all_height es ≤ limit + 2 → greatest limit es ≡ all_height es
unfolding greatest all_height
greatest_whole limit NoTree h = refl
greatest_whole limit (Then e es) h = let a : height e ≤ (limit + 2) = omega arith in rw (height_whole limit e a, greatest_whole limit es (omega arith))

each_whole : (limit : ℕ) (es : Trees) → all_height es ≤ limit + 2 → each_shown limit es ≡ es
unfolding each_shown all_height
each_whole limit NoTree h = refl
each_whole limit (Then e es) h = let a : height e ≤ (limit + 2) = omega arith in rw (tree_whole limit e a, each_whole limit es (omega arith))

greatest_high : (limit : ℕ) (es : Trees) → limit + 2 < all_height es → limit + 2 < greatest limit es
unfolding greatest all_height
greatest_high limit NoTree h = absurd (omega arith)
greatest_high limit (Then e es) h = go (at_most_or_more (height e) (limit + 2)) (λ k. greatest_high limit es k)
  where
    go : (height e ≤ limit + 2) ⊎ (limit + 2 < height e) → (limit + 2 < all_height es → limit + 2 < greatest limit es) → limit + 2 < max (shown limit e).height (greatest limit es)
    go (inl l) ih = let k : limit + 2 < greatest limit es = ih (omega arith) in omega arith
    go (inr l) ih = omega (arith, height_high limit e l)

pub shown_call : (limit : ℕ) (f : Function) (es : Trees) → call limit f (shown_trees limit es) ≡ shown limit (Call f es)
unfolding call height hollow
shown_call limit f es = go (at_most_or_more (all_height es) (limit + 2))
  where
    go : (all_height es ≤ limit + 2) ⊎ (limit + 2 < all_height es) → call limit f (shown_trees limit es) ≡ shown limit (Call f es)
    go (inl l) = rw (greatest_whole limit es l, each_whole limit es l) (fitted_shown limit (Call f es) (all_height es) refl)
    go (inr l) = fitted_over limit (Call f (each_shown limit es)) (Call f es) (greatest limit es) (omega (arith, greatest_high limit es l)) (omega arith) refl

-- Parts of an f-string.

unfoldable pub each_part : ℕ → Parts → Parts
each_part limit NoPart = NoPart
each_part limit (TextThen t ps) = TextThen t (each_part limit ps)
each_part limit (FormattedThen e ps) = FormattedThen (shown limit e).tree (each_part limit ps)

unfoldable pub greatest_part : ℕ → Parts → ℕ
greatest_part limit NoPart = 0
greatest_part limit (TextThen t ps) = greatest_part limit ps
greatest_part limit (FormattedThen e ps) = max (shown limit e).height (greatest_part limit ps)

abbrev pub shown_parts : ℕ → Parts → ShownParts
shown_parts limit ps = record { parts = each_part limit ps; height = greatest_part limit ps }

each_joined : (limit : ℕ) (ps qs : Parts) → each_part limit (joined ps qs) ≡ joined (each_part limit ps) (each_part limit qs)
unfolding each_part joined
each_joined limit NoPart qs = refl
each_joined limit (TextThen t ps) qs = ap (λ z. TextThen t z) (each_joined limit ps qs)
each_joined limit (FormattedThen e ps) qs = ap (λ z. FormattedThen (shown limit e).tree z) (each_joined limit ps qs)

greatest_joined : (limit : ℕ) (ps qs : Parts) → greatest_part limit (joined ps qs) ≡ max (greatest_part limit ps) (greatest_part limit qs)
unfolding greatest_part joined
greatest_joined limit NoPart qs = omega arith
greatest_joined limit (TextThen t ps) qs = greatest_joined limit ps qs
greatest_joined limit (FormattedThen e ps) qs = omega (arith, greatest_joined limit ps qs)

pub shown_with_text : (limit : ℕ) (ps : Parts) (t : List ℕ) → with_text (shown_parts limit ps) t ≡ shown_parts limit (joined ps (TextThen t NoPart))
unfolding with_text each_part greatest_part
shown_with_text limit ps t = rw (each_joined limit ps (TextThen t NoPart), greatest_joined limit ps (TextThen t NoPart)) (ap (λ n. record { parts = joined (each_part limit ps) (TextThen t NoPart); height = n }) (omega arith))

pub shown_with_formatted : (limit : ℕ) (ps : Parts) (e : Tree) → with_formatted (shown_parts limit ps) (shown limit e) ≡ shown_parts limit (joined ps (FormattedThen e NoPart))
unfolding with_formatted each_part greatest_part
shown_with_formatted limit ps e = rw (each_joined limit ps (FormattedThen e NoPart), greatest_joined limit ps (FormattedThen e NoPart)) (ap (λ n. record { parts = joined (each_part limit ps) (FormattedThen (shown limit e).tree NoPart); height = n }) (omega arith))

part_whole : (limit : ℕ) (ps : Parts) → parts_height ps ≤ limit + 2 → greatest_part limit ps ≡ parts_height ps
unfolding greatest_part parts_height
part_whole limit NoPart h = refl
part_whole limit (TextThen t ps) h = part_whole limit ps h
part_whole limit (FormattedThen e ps) h = let a : height e ≤ (limit + 2) = omega arith in rw (height_whole limit e a, part_whole limit ps (omega arith))

each_part_whole : (limit : ℕ) (ps : Parts) → parts_height ps ≤ limit + 2 → each_part limit ps ≡ ps
unfolding each_part parts_height
each_part_whole limit NoPart h = refl
each_part_whole limit (TextThen t ps) h = ap (λ z. TextThen t z) (each_part_whole limit ps h)
each_part_whole limit (FormattedThen e ps) h = let a : height e ≤ (limit + 2) = omega arith in rw (tree_whole limit e a, each_part_whole limit ps (omega arith))

part_high : (limit : ℕ) (ps : Parts) → limit + 2 < parts_height ps → limit + 2 < greatest_part limit ps
unfolding greatest_part parts_height
part_high limit NoPart h = absurd (omega arith)
part_high limit (TextThen t ps) h = part_high limit ps h
part_high limit (FormattedThen e ps) h = go (at_most_or_more (height e) (limit + 2)) (λ k. part_high limit ps k)
  where
    go : (height e ≤ limit + 2) ⊎ (limit + 2 < height e) → (limit + 2 < parts_height ps → limit + 2 < greatest_part limit ps) → limit + 2 < max (shown limit e).height (greatest_part limit ps)
    go (inl l) ih = let k : limit + 2 < greatest_part limit ps = ih (omega arith) in omega arith
    go (inr l) ih = omega (arith, height_high limit e l)

pub shown_format : (limit : ℕ) (ps : Parts) → format_string limit (shown_parts limit ps) ≡ shown limit (FormatString ps)
unfolding format_string height hollow
shown_format limit ps = go (at_most_or_more (parts_height ps) (limit + 2))
  where
    go : (parts_height ps ≤ limit + 2) ⊎ (limit + 2 < parts_height ps) → format_string limit (shown_parts limit ps) ≡ shown limit (FormatString ps)
    go (inl l) = rw (part_whole limit ps l, each_part_whole limit ps l) (fitted_shown limit (FormatString ps) (parts_height ps) refl)
    go (inr l) = fitted_over limit (FormatString (each_part limit ps)) (FormatString ps) (greatest_part limit ps) (omega (arith, part_high limit ps l)) (omega arith) refl

-- Lists that are put together.

-- arguments, and then others
unfoldable pub followed : Trees → Trees → Trees
followed NoTree fs = fs
followed (Then e es) fs = Then e (followed es fs)

pub followed_snoc : (es : Trees) (e : Tree) (fs : Trees) → followed (snoc es e) fs ≡ followed es (Then e fs)
unfolding followed snoc
followed_snoc NoTree e fs = refl
followed_snoc (Then x es) e fs = ap (λ t. Then x t) (followed_snoc es e fs)

pub followed_none : (es : Trees) → followed es NoTree ≡ es
unfolding followed
followed_none NoTree = refl
followed_none (Then e es) = ap (λ t. Then e t) (followed_none es)

pub joined_assoc : (ps qs rs : Parts) → joined (joined ps qs) rs ≡ joined ps (joined qs rs)
unfolding joined
joined_assoc NoPart qs rs = refl
joined_assoc (TextThen t ps) qs rs = ap (λ z. TextThen t z) (joined_assoc ps qs rs)
joined_assoc (FormattedThen e ps) qs rs = ap (λ z. FormattedThen e z) (joined_assoc ps qs rs)

pub joined_none : (ps : Parts) → joined ps NoPart ≡ ps
unfolding joined
joined_none NoPart = refl
joined_none (TextThen t ps) = ap (λ z. TextThen t z) (joined_none ps)
joined_none (FormattedThen e ps) = ap (λ z. FormattedThen e z) (joined_none ps)
