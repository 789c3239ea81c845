-- Expressions within the limit, and what is kept of an expression from which attributes are taken.
use Rattle.std.proofs.Common.{◌≡◌, ℕ, ◌+◌, ◌-◌, ◌<◌, ◌≤◌, List, [], ◌∷◌, Some, refl, sym, ap, ◌∙◌, arith, ◌⊎◌, inl, inr, subst}
use Rattle.py_syntax.specs.ExpressionTrees.{Tree, Constant, FormatString, Name, Bracketed, Attribute, Subscript, Call, MethodCall, Unary, Infix, height}
use Rattle.py_syntax.specs.ExpressionTables.{prefix_level}
use Rattle.py_syntax.specs.ExpressionSpells.{level, Spells}
use Rattle.py_syntax.specs.CallForms.{SpellsPrimary}
use Rattle.py_syntax.specs.declared.operator.Bracket.TheVariants as bracket
use Rattle.py_syntax.specs.declared.token.Token.{Token}
use Rattle.py_syntax.specs.declared.token.Token.TheVariants as token
use Rattle.py_expression.specs.Phrase.Marks.{after}
use Rattle.py_expression.specs.Shown.{Shown, shown, cut, hollow, nothing}
use Rattle.py_expression.specs.Tokens.{operation_at}
use Rattle.py_expression.specs.Reading.{expression_of, primary_of}
use Rattle.py_expression.specs.Ends.{IsPlain, Stops, IsRead}
use Rattle.py_expression.proofs.Again.{Quiet}
use Rattle.py_expression.proofs.Tables.{prefix_range, level_below}
use Rattle.py_expression.proofs.Nodes.{at_most_or_more, shown_whole, shown_high}
use Rattle.py_expression.proofs.ReaderLaws.{expression_sound, expression_again, primary_sound, primary_again}
use Rattle.py_statement.specs.Call.Kept.{lowered, kept}
use Rattle.py_statement.specs.Call.Chosen.{made, ended}
use Rattle.py_statement.specs.Call.Reading.{limited, value_of, whole_value_of, whole_primary_of}
use Rattle.py_statement.proofs.CallLemmas.Chosen.{also_is, made_is, ended_is}

pub lowered_low : (limit n : ℕ) (e : Tree) (h : ℕ) → h ≤ limit + n → lowered limit n e h ≡ (e, h - n)
unfolding lowered
lowered_low limit n e h l = grind arith

pub lowered_high : (limit n : ℕ) (e : Tree) (h : ℕ) → limit + n < h → lowered limit n e h ≡ (nothing, limit + 1)
unfolding lowered
lowered_high limit n e h l = grind arith

pub kept_shown : (limit : ℕ) (e : Tree) → lowered limit 0 (shown limit e).tree (shown limit e).height ≡ kept limit e
kept_shown limit e = go (at_most_or_more (height e) (limit + 2))
  where
    go : (height e ≤ limit + 2) ⊎ (limit + 2 < height e) → lowered limit 0 (shown limit e).tree (shown limit e).height ≡ kept limit e
    go (inl l) = rw (shown_whole limit e l)
    go (inr l) = rw (shown_high limit e l) (lowered_high limit 0 (hollow e) (limit + 3) (omega arith) ∙ sym (lowered_high limit 0 e (height e) (omega arith)))

-- Attributes.

base_of : Tree → Tree
base_of (Attribute e n) = e
base_of _ = nothing

name_of : Tree → List ℕ
name_of (Attribute e n) = n
name_of _ = []

pub same_base : (e f : Tree) (m n : List ℕ) → Attribute e m ≡ Attribute f n → e ≡ f
unfolding base_of
same_base e f m n h = ap base_of h

pub same_attribute : (e f : Tree) (m n : List ℕ) → Attribute e m ≡ Attribute f n → m ≡ n
unfolding name_of
same_attribute e f m n h = ap name_of h

-- what is left when n attributes are taken off a tree of which f is shown
pub lowered_same : (limit n : ℕ) (e : Tree) → lowered limit n e (n + height e) ≡ kept limit e
lowered_same limit n e = go (at_most_or_more (height e) limit)
  where
    go : (height e ≤ limit) ⊎ (limit < height e) → lowered limit n e (n + height e) ≡ kept limit e
    go (inl l) = lowered_low limit n e (n + height e) (omega arith) ∙ ap (λ h. (e, h)) (let k : n + height e - n ≡ height e - 0 = omega arith in k) ∙ sym (lowered_low limit 0 e (height e) (omega arith))
    go (inr l) = lowered_high limit n e (n + height e) (omega arith) ∙ sym (lowered_high limit 0 e (height e) (omega arith))

pub kept_attribute : (limit : ℕ) (e : Tree) (n : List ℕ) (b : Tree) (m : List ℕ) → (shown limit (Attribute e n)).tree ≡ Attribute b m → lowered limit 1 b (shown limit (Attribute e n)).height ≡ kept limit e
unfolding height
kept_attribute limit e n b m h = go (at_most_or_more (1 + height e) (limit + 2))
  where
    go : (1 + height e ≤ limit + 2) ⊎ (limit + 2 < 1 + height e) → lowered limit 1 b (shown limit (Attribute e n)).height ≡ kept limit e
    go (inl l) =
        let w : shown limit (Attribute e n) ≡ record { tree = Attribute e n; height = 1 + height e } = shown_whole limit (Attribute e n) l in
        let same : e ≡ b = same_base e b n m (sym (ap (λ (s : Shown). s.tree) w) ∙ h) in
        rw w (subst (λ c. lowered limit 1 c (1 + height e) ≡ kept limit e) same (lowered_same limit 1 e))
    go (inr l) = rw (shown_high limit (Attribute e n) l) (lowered_high limit 1 b (limit + 3) (omega arith) ∙ sym (lowered_high limit 0 e (height e) (omega arith)))

hollow_is : (t b : Tree) (n : List ℕ) → hollow t ≡ Attribute b n → (e : Tree) × (t ≡ Attribute e n)
unfolding hollow
hollow_is (Attribute e m) b n h = (e, ap (λ k. Attribute e k) (same_attribute (cut e) b m n h))
hollow_is (Constant c) b n h = absurd cc
hollow_is (FormatString ps) b n h = absurd cc
hollow_is (Name m) b n h = absurd cc
hollow_is (Bracketed e) b n h = absurd cc
hollow_is (Subscript e i) b n h = absurd cc
hollow_is (Call f es) b n h = absurd cc
hollow_is (MethodCall e m) b n h = absurd cc
hollow_is (Unary op e) b n h = absurd cc
hollow_is (Infix op l r) b n h = absurd cc

-- a tree that is shown as an attribute is one
pub shown_is_attribute : (limit : ℕ) (t b : Tree) (n : List ℕ) → (shown limit t).tree ≡ Attribute b n → (e : Tree) × (t ≡ Attribute e n)
shown_is_attribute limit t b n h = go (at_most_or_more (height t) (limit + 2))
  where
    go : (height t ≤ limit + 2) ⊎ (limit + 2 < height t) → (e : Tree) × (t ≡ Attribute e n)
    go (inl l) = (b, sym (ap (λ (s : Shown). s.tree) (shown_whole limit t l)) ∙ h)
    go (inr l) = hollow_is t b n (sym (ap (λ (s : Shown). s.tree) (shown_high limit t l)) ∙ h)

pub attribute_is_shown : (limit : ℕ) (e : Tree) (n : List ℕ) → (b : Tree) × ((shown limit (Attribute e n)).tree ≡ Attribute b n)
unfolding hollow
attribute_is_shown limit e n = go (at_most_or_more (height (Attribute e n)) (limit + 2))
  where
    go : (height (Attribute e n) ≤ limit + 2) ⊎ (limit + 2 < height (Attribute e n)) → (b : Tree) × ((shown limit (Attribute e n)).tree ≡ Attribute b n)
    go (inl l) = (e, ap (λ (s : Shown). s.tree) (shown_whole limit (Attribute e n) l))
    go (inr l) = (cut e, ap (λ (s : Shown). s.tree) (shown_high limit (Attribute e n) l))

-- Where an expression ends.

pub quiet_end : Quiet []
unfolding operation_at after
quiet_end = (refl, refl, refl, refl)

pub stops_quiet : (least : ℕ) (e : Tree) (rest : List Token) → 1 ≤ least → Quiet rest → Stops least e rest
unfolding after
stops_quiet least e rest h q = record { no_operator = omega (arith, q.0); no_tail = (q.1, q.2); uncalled = inl q.3 }

pub stops_open : (least : ℕ) (e : Tree) (rest : List Token) → 1 ≤ least → IsPlain e → Stops least e (token.Open bracket.Round ∷ rest)
unfolding operation_at after
stops_open least e rest h p = record { no_operator = omega arith; no_tail = (refl, refl); uncalled = inr p }

pub value_sound : (limit : ℕ) (ts rest : List Token) (v : Tree × ℕ) → value_of limit ts ≡ Some (v, rest) → (e : Tree) × Spells e ts rest × (v ≡ kept limit e)
unfolding value_of
value_sound limit ts rest v h =
    let (x, a, b) = made_is (expression_of limit ts) (limited limit) (v, rest) h in
    let is : IsRead limit 1 ts x.0 x.1 = expression_sound limit ts x.1 x.0 a in (
      is.tree,
      subst (λ us. Spells is.tree ts us) (ap (λ (y : (Tree × ℕ) × List Token). y.1) b) is.spells,
      sym (ap (λ (y : (Tree × ℕ) × List Token). y.0) b) ∙ ap (λ (s : Shown). lowered limit 0 s.tree s.height) is.kept ∙ kept_shown limit is.tree,
    )

pub value_again : (limit : ℕ) (e : Tree) (ts rest : List Token) → Spells e ts rest → Quiet rest → value_of limit ts ≡ Some (kept limit e, rest)
unfolding value_of after
value_again limit e ts rest s q = rw (expression_again limit e ts rest s (stops_quiet 1 e rest (omega arith) q)) (ap (λ (v : Tree × ℕ). Some (v, rest)) (kept_shown limit e))

pub whole_value_sound : (limit : ℕ) (ts : List Token) (v : Tree × ℕ) → whole_value_of limit ts ≡ Some v → (e : Tree) × Spells e ts [] × (v ≡ kept limit e)
unfolding whole_value_of
whole_value_sound limit ts v h =
    let (x, a, b) = also_is (value_of limit ts) (λ y. ended y.0 y.1) v h in
    let (end, same) = ended_is x.0 v x.1 b in
    let (e, s, k) = value_sound limit ts x.1 x.0 a in
    (e, subst (λ us. Spells e ts us) end s, sym same ∙ k)

pub whole_value_again : (limit : ℕ) (e : Tree) (ts : List Token) → Spells e ts [] → whole_value_of limit ts ≡ Some (kept limit e)
unfolding whole_value_of after
whole_value_again limit e ts s = rw (value_again limit e ts [] s quiet_end)

pub primary_level : (e : Tree) → 12 ≤ level e → level e ≡ 12
unfolding level
primary_level (Constant c) h = refl
primary_level (FormatString ps) h = refl
primary_level (Name n) h = refl
primary_level (Bracketed e) h = refl
primary_level (Attribute e n) h = refl
primary_level (Subscript e i) h = refl
primary_level (Call f es) h = refl
primary_level (MethodCall e m) h = refl
primary_level (Unary op e) h = go (prefix_range op)
  where
    go : (prefix_level op ≡ 3) ⊎ (prefix_level op ≡ 11) → prefix_level op ≡ 12
    go (inl k) = absurd (omega arith)
    go (inr k) = absurd (omega arith)
primary_level (Infix op l r) h = absurd (omega (arith, (level_below op).1))

pub whole_primary_sound : (limit : ℕ) (ts : List Token) (v : Tree × ℕ) → whole_primary_of limit ts ≡ Some v → (e : Tree) × SpellsPrimary e ts × (v ≡ kept limit e)
unfolding whole_primary_of
whole_primary_sound limit ts v h =
    let (x, a, b) = also_is (made (limited limit) (primary_of limit ts)) (λ y. ended y.0 y.1) v h in
    let (y, c, d) = made_is (primary_of limit ts) (limited limit) x a in
    let (end, same) = ended_is x.0 v x.1 b in
    let is : IsRead limit 12 ts y.0 y.1 = primary_sound limit ts y.1 y.0 c in (
      is.tree,
      (subst (λ us. Spells is.tree ts us) (ap (λ (z : (Tree × ℕ) × List Token). z.1) d ∙ end) is.spells, primary_level is.tree is.binds),
      sym same ∙ sym (ap (λ (z : (Tree × ℕ) × List Token). z.0) d) ∙ ap (λ (s : Shown). lowered limit 0 s.tree s.height) is.kept ∙ kept_shown limit is.tree,
    )

pub whole_primary_again : (limit : ℕ) (e : Tree) (ts : List Token) → SpellsPrimary e ts → whole_primary_of limit ts ≡ Some (kept limit e)
unfolding whole_primary_of after
whole_primary_again limit e ts (s, l) = rw (primary_again limit e ts [] s (omega arith) (stops_quiet 12 e [] (omega arith) quiet_end)) (ap (λ (v : Tree × ℕ). Some v) (kept_shown limit e))
