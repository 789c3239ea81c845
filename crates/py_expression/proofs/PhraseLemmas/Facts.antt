-- Facts on single tokens.
use Rattle.std.proofs.Common.{◌≡◌, ℕ, ◌<◌, ◌^◌, Bool, true, false, List, [], ◌∷◌, Option, Some, None, refl, sym, ap, ◌∙◌, arith, inl, inr, pos, if◌then◌else◌}
use Rattle.std.specs.Prelude.{nat_lt}
use Rattle.std.specs.Str.{bytes_eq}
use Rattle.std.proofs.lemmas.Slice.Eq.{bytes_eq-Decides}
use denote.Enum.Bare.{same_true, true_same}
use Rattle.py_syntax.specs.ExpressionSpells.{IsConstant, Closes}
use Rattle.py_syntax.specs.declared.constant.Const.{Const}
use Rattle.py_syntax.specs.declared.constant.Const.TheVariants as constants
use Rattle.py_syntax.specs.declared.keyword.Keyword.{Keyword}
use Rattle.py_syntax.specs.declared.keyword.Keyword.TheVariants as keyword
use Rattle.py_syntax.specs.declared.operator.Operator.{Operator}
use Rattle.py_syntax.specs.declared.operator.Operator.TheVariants as operator
use Rattle.py_syntax.specs.declared.operator.Bracket.{Bracket}
use Rattle.py_syntax.specs.declared.operator.Bracket.TheVariants as bracket
use Rattle.py_syntax.specs.declared.token.Token.{Token}
use Rattle.py_syntax.specs.declared.token.Token.TheVariants as token
use Rattle.py_syntax.specs.contracts.keyword.Keyword as keyword_type
use Rattle.py_syntax.specs.contracts.operator.Operator as operator_type
use Rattle.py_syntax.specs.contracts.operator.Bracket as bracket_type
use Rattle.py_expression.specs.declared.phrase.mark.Mark.{Mark}
use Rattle.py_expression.specs.declared.phrase.mark.Mark.TheVariants as mark
use Rattle.py_expression.specs.Phrase.Marks.{token_of, is_keyword, is_operator, is_open, is_close, is_mark, is_word, after_if, after, after_word, comma, assign, after_open, after_close, after_open_square, after_close_square, after_comma, after_assign, after_dot, closing_by, after_last, name_at, named_by, named_from, named_at}
use Rattle.py_expression.specs.Phrase.Readers.{constant_of}

pub some_same : {A : Type 0} {a b : A} → Some a ≡ Some b → a ≡ b
some_same {A} {a} {b} e = ap (λ (o : Option A). elim o as (λ _. A) [ None ↦ a | Some x ↦ x ]) e

pub bytes_are : (xs ys : List ℕ) → bytes_eq xs ys ≡ true → xs ≡ ys
bytes_are xs ys e = (bytes_eq-Decides xs ys).0 e

pub bytes_same : (bs : List ℕ) → bytes_eq bs bs ≡ true
bytes_same [] = refl
bytes_same (b ∷ bs) = grind (arith, bytes_same bs)

pub keyword_is : (k : Keyword) (t : Token) → is_keyword k t ≡ true → t ≡ token.Keyword k
keyword_is k (token.Keyword j) e = ap (λ x. token.Keyword x) (same_true keyword_type.the_type tt j k e)
keyword_is k t e = cc

pub operator_is : (o : Operator) (t : Token) → is_operator o t ≡ true → t ≡ token.Operator o
operator_is o (token.Operator p) e = ap (λ x. token.Operator x) (same_true operator_type.the_type tt p o e)
operator_is o t e = cc

pub open_is : (b : Bracket) (t : Token) → is_open b t ≡ true → t ≡ token.Open b
open_is b (token.Open c) e = ap (λ x. token.Open x) (same_true bracket_type.the_type tt c b e)
open_is b t e = cc

pub close_is : (b : Bracket) (t : Token) → is_close b t ≡ true → t ≡ token.Close b
close_is b (token.Close c) e = ap (λ x. token.Close x) (same_true bracket_type.the_type tt c b e)
close_is b t e = cc

pub mark_is : (m : Mark) (t : Token) → is_mark m t ≡ true → t ≡ token_of m
mark_is (mark.Keyword k) t e = keyword_is k t e
mark_is (mark.Operator o) t e = operator_is o t e
mark_is (mark.Open b) t e = open_is b t e
mark_is (mark.Close b) t e = close_is b t e

pub mark_again : (m : Mark) → is_mark m (token_of m) ≡ true
mark_again (mark.Keyword k) = true_same keyword_type.the_type k k refl
mark_again (mark.Operator o) = true_same operator_type.the_type o o refl
mark_again (mark.Open b) = true_same bracket_type.the_type b b refl
mark_again (mark.Close b) = true_same bracket_type.the_type b b refl

pub word_is : (w : List ℕ) (t : Token) → is_word w t ≡ true → t ≡ token.Name w
word_is w (token.Name n) e = ap (λ x. token.Name x) (bytes_are n w e)
word_is w t e = cc

if_some : (ts us : List Token) (b : Bool) → after_if ts b ≡ Some us → (b ≡ true) × (ts ≡ us)
if_some ts us true e = (refl, some_same e)
if_some ts us false e = cc

pub after_is : (m : Mark) (ts us : List Token) → after m ts ≡ Some us → ts ≡ token_of m ∷ us
unfolding after
after_is m [] us e = cc
after_is m (t ∷ ts) us e = let k = if_some ts us (is_mark m t) e in ap (λ x. x ∷ ts) (mark_is m t k.0) ∙ ap (λ x. token_of m ∷ x) k.1

pub after_again : (m : Mark) (us : List Token) → after m (token_of m ∷ us) ≡ Some us
unfolding after
after_again m us = rw (mark_again m) refl

pub after_word_is : (w : List ℕ) (ts us : List Token) → after_word w ts ≡ Some us → ts ≡ token.Name w ∷ us
unfolding after_word
after_word_is w [] us e = cc
after_word_is w (t ∷ ts) us e = let k = if_some ts us (is_word w t) e in ap (λ x. x ∷ ts) (word_is w t k.0) ∙ ap (λ x. token.Name w ∷ x) k.1

pub after_word_again : (w : List ℕ) (us : List Token) → after_word w (token.Name w ∷ us) ≡ Some us
unfolding after_word
after_word_again w us = rw (bytes_same w) refl

pub after_open_is : (ts us : List Token) → after_open ts ≡ Some us → ts ≡ token.Open bracket.Round ∷ us
after_open_is ts us e = after_is (mark.Open bracket.Round) ts us e

pub after_close_is : (ts us : List Token) → after_close ts ≡ Some us → ts ≡ token.Close bracket.Round ∷ us
after_close_is ts us e = after_is (mark.Close bracket.Round) ts us e

pub after_open_square_is : (ts us : List Token) → after_open_square ts ≡ Some us → ts ≡ token.Open bracket.Square ∷ us
after_open_square_is ts us e = after_is (mark.Open bracket.Square) ts us e

pub after_close_square_is : (ts us : List Token) → after_close_square ts ≡ Some us → ts ≡ token.Close bracket.Square ∷ us
after_close_square_is ts us e = after_is (mark.Close bracket.Square) ts us e

pub after_comma_is : (ts us : List Token) → after_comma ts ≡ Some us → ts ≡ token.Operator operator.Comma ∷ us
after_comma_is ts us e = after_is comma ts us e

pub after_assign_is : (ts us : List Token) → after_assign ts ≡ Some us → ts ≡ token.Operator operator.Assign ∷ us
after_assign_is ts us e = after_is assign ts us e

pub after_dot_is : (ts us : List Token) → after_dot ts ≡ Some us → ts ≡ token.Operator operator.Dot ∷ us
after_dot_is ts us e = after_is (mark.Operator operator.Dot) ts us e

pub after_last_is : (ts us : List Token) → after_last ts ≡ Some us → Closes ts us
after_last_is ts us e = go (after_comma ts) refl e
  where
    go : (o : Option (List Token)) → after_comma ts ≡ o → closing_by (mark.Close bracket.Round) ts o ≡ Some us → Closes ts us
    go None q h = inl (after_close_is ts us h)
    go (Some vs) q h = inr (after_comma_is ts vs q ∙ ap (λ x. token.Operator operator.Comma ∷ x) (after_close_is vs us h))

pub name_at_is : (ts : List Token) (x : List ℕ × List Token) → name_at ts ≡ Some x → ts ≡ token.Name x.0 ∷ x.1
name_at_is (token.Name n ∷ ts) x e = ap (λ (y : List ℕ × List Token). token.Name y.0 ∷ y.1) (some_same e)
name_at_is _ x e = cc

named_by_is : (n : List ℕ) (o : Option (List Token)) (x : List ℕ × List Token) → named_by n o ≡ Some x → (n ≡ x.0) × (o ≡ Some x.1)
named_by_is n None x e = cc
named_by_is n (Some ts) x e = (ap (λ (y : List ℕ × List Token). y.0) (some_same e), ap (λ (y : List ℕ × List Token). Some y.1) (some_same e))

pub named_at_is : (ts : List Token) (x : List ℕ × List Token) → named_at ts ≡ Some x → ts ≡ token.Name x.0 ∷ token.Operator operator.Assign ∷ x.1
named_at_is ts x e = go (name_at ts) refl e
  where
    go : (o : Option (List ℕ × List Token)) → name_at ts ≡ o → named_from o ≡ Some x → ts ≡ token.Name x.0 ∷ token.Operator operator.Assign ∷ x.1
    go None q h = cc
    go (Some y) q h = let k = named_by_is y.0 (after_assign y.1) x h in
        name_at_is ts y q ∙ ap (λ n. token.Name n ∷ y.1) k.0 ∙ ap (λ us. token.Name x.0 ∷ us) (after_assign_is y.1 x.1 k.1)

-- a token that is a constant

number_is : (n : ℕ) (c : Const) → (if nat_lt n (2 ^ 127) then Some (constants.Whole (pos n)) else None) ≡ Some c → (c ≡ constants.Whole (pos n)) × (n < 2 ^ 127)
number_is n c e = grind arith

pub constant_is : (t : Token) (c : Const) → constant_of t ≡ Some c → IsConstant c t
constant_is (token.Number n) c e = let k = number_is n c e in rw k.0 (refl, k.1)
constant_is (token.Text bytes) c e = rw (sym (some_same e)) refl
constant_is (token.Keyword keyword.False) c e = rw (sym (some_same e)) refl
constant_is (token.Keyword keyword.None) c e = rw (sym (some_same e)) refl
constant_is (token.Keyword keyword.True) c e = rw (sym (some_same e)) refl
constant_is (token.Keyword keyword.And) c e = cc
constant_is (token.Keyword keyword.As) c e = cc
constant_is (token.Keyword keyword.Assert) c e = cc
constant_is (token.Keyword keyword.Async) c e = cc
constant_is (token.Keyword keyword.Await) c e = cc
constant_is (token.Keyword keyword.Break) c e = cc
constant_is (token.Keyword keyword.Class) c e = cc
constant_is (token.Keyword keyword.Continue) c e = cc
constant_is (token.Keyword keyword.Def) c e = cc
constant_is (token.Keyword keyword.Del) c e = cc
constant_is (token.Keyword keyword.Elif) c e = cc
constant_is (token.Keyword keyword.Else) c e = cc
constant_is (token.Keyword keyword.Except) c e = cc
constant_is (token.Keyword keyword.Finally) c e = cc
constant_is (token.Keyword keyword.For) c e = cc
constant_is (token.Keyword keyword.From) c e = cc
constant_is (token.Keyword keyword.Global) c e = cc
constant_is (token.Keyword keyword.If) c e = cc
constant_is (token.Keyword keyword.Import) c e = cc
constant_is (token.Keyword keyword.In) c e = cc
constant_is (token.Keyword keyword.Is) c e = cc
constant_is (token.Keyword keyword.Lambda) c e = cc
constant_is (token.Keyword keyword.Nonlocal) c e = cc
constant_is (token.Keyword keyword.Not) c e = cc
constant_is (token.Keyword keyword.Or) c e = cc
constant_is (token.Keyword keyword.Pass) c e = cc
constant_is (token.Keyword keyword.Raise) c e = cc
constant_is (token.Keyword keyword.Return) c e = cc
constant_is (token.Keyword keyword.Try) c e = cc
constant_is (token.Keyword keyword.While) c e = cc
constant_is (token.Keyword keyword.With) c e = cc
constant_is (token.Keyword keyword.Yield) c e = cc
constant_is (token.Operator m) c e = cc
constant_is (token.Name n) c e = cc
constant_is (token.Open b) c e = cc
constant_is (token.Close b) c e = cc
constant_is token.FormatStart c e = cc
constant_is (token.FormatText n) c e = cc
constant_is token.FormatOpen c e = cc
constant_is token.FormatClose c e = cc
constant_is token.FormatEnd c e = cc
constant_is token.Invalid c e = cc
