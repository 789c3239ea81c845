-- The laws of reading the call of a method.
use Rattle.std.proofs.Common.{◌≡◌, ℕ, List, ◌∷◌, Some, refl, sym, ap, ◌∙◌, arith, subst}
use Rattle.py_syntax.specs.ExpressionTrees.{Tree, Attribute}
use Rattle.py_syntax.specs.ExpressionSpells.{level, Spells}
use Rattle.py_syntax.specs.CallForms.{method_tokens}
use Rattle.py_syntax.specs.declared.operator.Operator.TheVariants as operator
use Rattle.py_syntax.specs.declared.operator.Bracket.TheVariants as bracket
use Rattle.py_syntax.specs.declared.token.Token.{Token}
use Rattle.py_syntax.specs.declared.token.Token.TheVariants as token
use Rattle.py_expression.specs.Shown.{Shown, shown}
use Rattle.py_expression.specs.Attributes.{split_of}
use Rattle.py_expression.proofs.AttributeLaws.{split_is}
use Rattle.py_expression.specs.Phrase.Marks.{after, after_open}
use Rattle.py_expression.specs.Reading.{primary_of}
use Rattle.py_expression.specs.Ends.{IsPlain, IsRead}
use Rattle.py_expression.proofs.ReaderLaws.{primary_sound, primary_again}
use Rattle.py_expression.proofs.PhraseLemmas.Facts.{after_open_is}
use Rattle.py_statement.specs.Call.Kept.{lowered, kept}
use Rattle.py_statement.specs.Call.Chosen.{made}
use Rattle.py_statement.specs.Call.Reading.{method_from, method_at}
use Rattle.py_statement.proofs.CallLemmas.Chosen.{also_is, made_is}
use Rattle.py_statement.proofs.CallLemmas.ValueLaws.{shown_is_attribute, attribute_is_shown, kept_attribute, stops_open}

-- an attribute that is read, and the tokens after it
pub attribute_read : (limit : ℕ) (ts rest : List Token) (x : Shown) (b : Tree) (name : List ℕ) → primary_of limit ts ≡ Some (x, rest) → x.tree ≡ Attribute b name
    → (e : Tree) × Spells e ts (token.Operator operator.Dot ∷ token.Name name ∷ rest) × (level e ≡ 12) × (lowered limit 1 b x.height ≡ kept limit e) × (x ≡ shown limit (Attribute e name))
unfolding Spells
attribute_read limit ts rest x b name h at =
    let is : IsRead limit 12 ts x rest = primary_sound limit ts rest x h in
    let (e, tree) = shown_is_attribute limit is.tree b name (ap (λ (s : Shown). s.tree) (sym is.kept) ∙ at) in
    let same : x ≡ shown limit (Attribute e name) = is.kept ∙ ap (shown limit) tree in
    let (us, s, l, eq) = subst (λ t. Spells t ts rest) tree is.spells in (
      e,
      subst (λ vs. Spells e ts vs) eq s,
      l,
      ap (λ (s : Shown). lowered limit 1 b s.height) same ∙ kept_attribute limit e name b name (ap (λ (s : Shown). s.tree) (sym same) ∙ at),
      same,
    )

-- an attribute that an opening bracket follows is read
pub attribute_again : (limit : ℕ) (e : Tree) (name : List ℕ) (ts us : List Token) → Spells e ts (method_tokens name us) → level e ≡ 12 → IsPlain (Attribute e name)
    → primary_of limit ts ≡ Some (shown limit (Attribute e name), token.Open bracket.Round ∷ us)
unfolding Spells level
attribute_again limit e name ts us s l p =
    primary_again limit (Attribute e name) ts (token.Open bracket.Round ∷ us) (method_tokens name us, s, l, refl) (omega arith) (stops_open 12 (Attribute e name) us (omega arith) p)

-- a method that is called, its name, and the tokens behind the bracket
abbrev pub Callee : Type 0
Callee = (Tree × ℕ) × (List ℕ × List Token)

pub method_sound : (limit : ℕ) (ts : List Token) (m : Callee) → method_at limit ts ≡ Some m
    → (t : Tree) × Spells t ts (method_tokens m.1.0 m.1.1) × (level t ≡ 12) × (m.0 ≡ kept limit t)
unfolding method_at after
method_sound limit ts m h =
    let (x, a, b) = also_is (primary_of limit ts) (method_from limit) m h in
    let (y, c, d) = also_is (split_of x.0.tree) (λ z. made (λ ws. (lowered limit 1 z.0 x.0.height, (z.1, ws))) (after_open x.1)) m b in
    let (us, e, f) = made_is (after_open x.1) (λ ws. (lowered limit 1 y.0 x.0.height, (y.1, ws))) m d in
    let (t, s, l, low, is) = attribute_read limit ts x.1 x.0 y.0 y.1 a (split_is x.0.tree y c) in
    let opens : Spells t ts (method_tokens y.1 us) = subst (λ ws. Spells t ts (token.Operator operator.Dot ∷ token.Name y.1 ∷ ws)) (after_open_is x.1 us e) s in
    (t, subst (λ (w : Callee). Spells t ts (method_tokens w.1.0 w.1.1)) f opens, l, sym (ap (λ (w : Callee). w.0) f) ∙ low)

method_from_again : (limit : ℕ) (e b : Tree) (name : List ℕ) (us : List Token) → (shown limit (Attribute e name)).tree ≡ Attribute b name
    → method_from limit (shown limit (Attribute e name), token.Open bracket.Round ∷ us) ≡ Some (kept limit e, (name, us))
unfolding split_of after
method_from_again limit e b name us at = rw (at, kept_attribute limit e name b name at)

pub method_again : (limit : ℕ) (e : Tree) (name : List ℕ) (ts us : List Token) → Spells e ts (method_tokens name us) → level e ≡ 12 → IsPlain (Attribute e name)
    → method_at limit ts ≡ Some (kept limit e, (name, us))
unfolding method_at
method_again limit e name ts us s l p =
    let (b, at) = attribute_is_shown limit e name in
    rw (attribute_again limit e name ts us s l p) (method_from_again limit e b name us at)
