-- What a tree that is shown tells of the tree: names, and attributes of which two are taken off.
use Rattle.std.proofs.Common.{◌≡◌, ℕ, ◌+◌, ◌<◌, ◌≤◌, List, ◌∷◌, Some, sym, ap, ◌∙◌, arith, ◌⊎◌, inl, inr, subst, true}
use Rattle.py_syntax.specs.ExpressionTrees.{Tree, Constant, FormatString, Name, Bracketed, Attribute, Subscript, Call, MethodCall, Unary, Infix, height}
use Rattle.py_syntax.specs.ExpressionSpells.{Spells}
use Rattle.py_syntax.specs.declared.token.Token.{Token}
use Rattle.py_syntax.specs.declared.token.Token.TheVariants as token
use Rattle.py_expression.specs.Shown.{Shown, shown, cut, hollow, nothing}
use Rattle.py_expression.specs.Reading.{primary_of}
use Rattle.py_expression.specs.Ends.{IsRead}
use Rattle.py_expression.proofs.Nodes.{at_most_or_more, shown_whole, shown_high}
use Rattle.py_expression.proofs.ReaderLaws.{primary_sound}
use Rattle.py_expression.proofs.PhraseLemmas.Facts.{bytes_are}
use Rattle.py_statement.specs.Call.Kept.{lowered, kept}
use Rattle.py_statement.proofs.CallLemmas.ValueLaws.{same_base, same_attribute, lowered_same, lowered_high}
use Rattle.py_statement.specs.Reading.{is_word}

pub tree_whole : (limit : ℕ) (t : Tree) → height t ≤ limit + 2 → (shown limit t).tree ≡ t
tree_whole limit t h = ap (λ (s : Shown). s.tree) (shown_whole limit t h)

tree_high : (limit : ℕ) (t : Tree) → limit + 2 < height t → (shown limit t).tree ≡ hollow t
tree_high limit t h = ap (λ (s : Shown). s.tree) (shown_high limit t h)

hollow_no_name : (t : Tree) (n : List ℕ) → hollow t ≡ Name n → ⊥
unfolding hollow
hollow_no_name (Attribute e m) n h = absurd cc
hollow_no_name (Constant c) n h = absurd cc
hollow_no_name (FormatString ps) n h = absurd cc
hollow_no_name (Name m) n h = absurd cc
hollow_no_name (Bracketed e) n h = absurd cc
hollow_no_name (Subscript e i) n h = absurd cc
hollow_no_name (Call f es) n h = absurd cc
hollow_no_name (MethodCall e m) n h = absurd cc
hollow_no_name (Unary op e) n h = absurd cc
hollow_no_name (Infix op l r) n h = absurd cc

cut_no_name : (t : Tree) (n : List ℕ) → cut t ≡ Name n → ⊥
unfolding cut
cut_no_name (Attribute e m) n h = absurd cc
cut_no_name (Constant c) n h = absurd cc
cut_no_name (FormatString ps) n h = absurd cc
cut_no_name (Name m) n h = absurd cc
cut_no_name (Bracketed e) n h = absurd cc
cut_no_name (Subscript e i) n h = absurd cc
cut_no_name (Call f es) n h = absurd cc
cut_no_name (MethodCall e m) n h = absurd cc
cut_no_name (Unary op e) n h = absurd cc
cut_no_name (Infix op l r) n h = absurd cc

cut_is : (t c : Tree) (n : List ℕ) → cut t ≡ Attribute c n → (e : Tree) × (t ≡ Attribute e n) × (c ≡ nothing)
unfolding cut
cut_is (Attribute e m) c n h = (e, ap (λ k. Attribute e k) (same_attribute nothing c m n h), sym (same_base nothing c m n h))
cut_is (Constant x) c n h = absurd cc
cut_is (FormatString ps) c n h = absurd cc
cut_is (Name m) c n h = absurd cc
cut_is (Bracketed e) c n h = absurd cc
cut_is (Subscript e i) c n h = absurd cc
cut_is (Call f es) c n h = absurd cc
cut_is (MethodCall e m) c n h = absurd cc
cut_is (Unary op e) c n h = absurd cc
cut_is (Infix op l r) c n h = absurd cc

-- a tree that is shown as a name is that name
pub shown_is_name : (limit : ℕ) (t : Tree) (n : List ℕ) → (shown limit t).tree ≡ Name n → t ≡ Name n
shown_is_name limit t n h = go (at_most_or_more (height t) (limit + 2))
  where
    go : (height t ≤ limit + 2) ⊎ (limit + 2 < height t) → t ≡ Name n
    go (inl l) = sym (tree_whole limit t l) ∙ h
    go (inr l) = absurd (hollow_no_name t n (sym (tree_high limit t l) ∙ h))

pub name_read : (limit : ℕ) (ts rest : List Token) (x : Shown) (n : List ℕ) → primary_of limit ts ≡ Some (x, rest) → x.tree ≡ Name n → ts ≡ token.Name n ∷ rest
unfolding Spells
name_read limit ts rest x n h at =
    let is : IsRead limit 12 ts x rest = primary_sound limit ts rest x h in
    let tree : is.tree ≡ Name n = shown_is_name limit is.tree n (ap (λ (s : Shown). s.tree) (sym is.kept) ∙ at) in
    subst (λ t. Spells t ts rest) tree is.spells

-- the object of an attribute that is shown, where a name stands for it
pub base_is_name : (limit : ℕ) (e : Tree) (n w : List ℕ) → (shown limit (Attribute e n)).tree ≡ Attribute (Name w) n → e ≡ Name w
unfolding hollow
base_is_name limit e n w h = go (at_most_or_more (height (Attribute e n)) (limit + 2))
  where
    go : (height (Attribute e n) ≤ limit + 2) ⊎ (limit + 2 < height (Attribute e n)) → e ≡ Name w
    go (inl l) = same_base e (Name w) n n (sym (tree_whole limit (Attribute e n) l) ∙ h)
    go (inr l) = absurd (cut_no_name e w (same_base (cut e) (Name w) n n (sym (tree_high limit (Attribute e n) l) ∙ h)))

nothing_no_name : (w : List ℕ) → nothing ≡ Name w → ⊥
nothing_no_name w h = cc

-- two attributes that are shown
pub base_is_attribute : (limit : ℕ) (e c : Tree) (n m : List ℕ) → (shown limit (Attribute e n)).tree ≡ Attribute (Attribute c m) n
    → (f : Tree) × (e ≡ Attribute f m) × (lowered limit 2 c (shown limit (Attribute e n)).height ≡ kept limit f) × ((w : List ℕ) → c ≡ Name w → f ≡ Name w)
unfolding hollow height
base_is_attribute limit e c n m h = go (at_most_or_more (1 + height e) (limit + 2))
  where
    go : (1 + height e ≤ limit + 2) ⊎ (limit + 2 < 1 + height e)
        → (f : Tree) × (e ≡ Attribute f m) × (lowered limit 2 c (shown limit (Attribute e n)).height ≡ kept limit f) × ((w : List ℕ) → c ≡ Name w → f ≡ Name w)
    go (inl l) =
        let whole : shown limit (Attribute e n) ≡ record { tree = Attribute e n; height = 1 + height e } = shown_whole limit (Attribute e n) l in
        let same : e ≡ Attribute c m = same_base e (Attribute c m) n n (sym (tree_whole limit (Attribute e n) l) ∙ h) in (
          c,
          same,
          ap (λ (s : Shown). lowered limit 2 c s.height) whole ∙ ap (λ t. lowered limit 2 c (1 + height t)) same
              ∙ ap (λ k. lowered limit 2 c k) (let k : 1 + (1 + height c) ≡ 2 + height c = omega arith in k) ∙ lowered_same limit 2 c,
          λ w k. k,
        )
    go (inr l) =
        let (f, is, none) = cut_is e c m (same_base (cut e) (Attribute c m) n n (sym (tree_high limit (Attribute e n) l) ∙ h)) in
        (f, is, over f is l, λ w k. absurd (nothing_no_name w (sym none ∙ k)))
      where
        over : (f : Tree) → e ≡ Attribute f m → limit + 2 < 1 + height e → lowered limit 2 c (shown limit (Attribute e n)).height ≡ kept limit f
        over f is k =
            let tall : height e ≡ 1 + height f = ap height is in
            ap (λ (s : Shown). lowered limit 2 c s.height) (shown_high limit (Attribute e n) k)
            ∙ lowered_high limit 2 c (limit + 3) (omega arith) ∙ sym (lowered_high limit 0 f (height f) (omega (arith, tall)))

-- two attributes, shown
pub attributes_shown : (limit : ℕ) (f : Tree) (m n : List ℕ) → (c : Tree) × ((shown limit (Attribute (Attribute f m) n)).tree ≡ Attribute (Attribute c m) n)
unfolding hollow cut
attributes_shown limit f m n = go (at_most_or_more (height (Attribute (Attribute f m) n)) (limit + 2))
  where
    go : (height (Attribute (Attribute f m) n) ≤ limit + 2) ⊎ (limit + 2 < height (Attribute (Attribute f m) n)) → (c : Tree) × ((shown limit (Attribute (Attribute f m) n)).tree ≡ Attribute (Attribute c m) n)
    go (inl l) = (f, tree_whole limit (Attribute (Attribute f m) n) l)
    go (inr l) = (nothing, tree_high limit (Attribute (Attribute f m) n) l)

pub word_is : (word : List ℕ) (t : Tree) → is_word word t ≡ true → t ≡ Name word
word_is word (Name n) h = ap (λ m. Name m) (bytes_are n word h)
word_is word (Constant c) h = absurd cc
word_is word (FormatString ps) h = absurd cc
word_is word (Bracketed e) h = absurd cc
word_is word (Attribute e n) h = absurd cc
word_is word (Subscript e i) h = absurd cc
word_is word (Call f es) h = absurd cc
word_is word (MethodCall e m) h = absurd cc
word_is word (Unary op e) h = absurd cc
word_is word (Infix op l r) h = absurd cc
