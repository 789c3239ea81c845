-- The reader of constants reads constants.
use Rattle.std.proofs.Common.{◌≡◌, inl, inr, ℕ, ◌<◌, ◌^◌, true, false, List, [], ◌∷◌, length, Option, Some, None, refl, sym, ap, ◌∙◌, arith, pos, negsuc, if◌then◌else◌, Result, Ok, Err, IfOk, Vec, Global, Bor}
use Rattle.std.specs.Prelude.{nat_lt, neg_ℤ}
use Rattle.py_syntax.specs.declared.constant.Const.{Const}
use Rattle.py_syntax.specs.declared.constant.Const.TheVariants as constants
use Rattle.py_syntax.specs.declared.operator.Operator.TheVariants as operator
use Rattle.py_syntax.specs.declared.operator.Bracket.TheVariants as bracket
use Rattle.py_syntax.specs.declared.token.Token.{Token}
use Rattle.py_syntax.specs.declared.token.Token.TheVariants as token
use Rattle.py_syntax.specs.ExpressionSpells.{IsConstant}
use Rattle.py_syntax.specs.ConstantForms.{SpellsConstant, SpellsOtherConstants, SpellsConstants}
use Rattle.py_syntax.specs.Phrases.{closes, others, listed}
use Rattle.py_expression.specs.declared.phrase.fault.ReadError.{ReadError}
use Rattle.py_expression.specs.declared.phrase.fault.ReadError.TheVariants as errors
use Rattle.py_expression.specs.Phrase.Gives.{Gives}
use Rattle.py_expression.specs.declared.phrase.mark.Mark.{Mark}
use Rattle.py_expression.specs.declared.phrase.mark.Mark.TheVariants as mark
use Rattle.py_expression.specs.Phrase.Marks.{token_of, after, comma}
use Rattle.py_expression.specs.Phrase.Readers.{constant_of, number, name, negative_of, negative, plain, named_by, constant_by, constant, constants_in}
use Rattle.py_expression.specs.Phrase.Found.{AreFound}
use Rattle.py_expression.proofs.PhraseLemmas.Facts.{after_is, constant_is}
use Rattle.py_expression.proofs.PhraseLemmas.Phrased.{Reads, Anything, bind_some, pair_same, name_reads}
use Rattle.py_expression.proofs.PhraseLemmas.Lists.{closing_parts, listed_reads}

abbrev minus : Mark
minus = mark.Operator operator.Minus

number_is : (ts rest : List Token) (n : ℕ) → number ts ≡ Some (n, rest) → ts ≡ token.Number n ∷ rest
number_is [] rest n e = cc
number_is (token.Number m ∷ ts) rest n e = let k = pair_same _ _ e in ap (λ w. token.Number w ∷ ts) k.0 ∙ ap (λ w. token.Number n ∷ w) k.1
number_is (t ∷ ts) rest n e = cc

negative_is : (n : ℕ) (ts rest : List Token) (c : Const) → negative_of n ts ≡ Some (c, rest) → (c ≡ constants.Whole (neg_ℤ (pos n))) × (n < 2 ^ 127) × (ts ≡ rest)
negative_is n ts rest c e = grind arith

constant_sound : (ts rest : List Token) (c : Const) → constant ts ≡ Some (c, rest) → SpellsConstant c ts rest
unfolding constant
constant_sound ts rest c e = by (after minus ts) refl e
  where
    signed : (us : List Token) → ts ≡ token_of minus ∷ us → negative us ≡ Some (c, rest) → SpellsConstant c ts rest
    signed us q h =
        let (x, ex, h1) = bind_some _ (number us) (c, rest) h in
        let k = negative_is x.0 x.1 rest c h1 in
        inr (inl (x.0, k.0, k.1, q ∙ ap (λ w. token_of minus ∷ w) (number_is us x.1 x.0 ex ∙ ap (λ w. token.Number x.0 ∷ w) k.2)))

    single : (us : List Token) → plain us ≡ Some (c, rest) → SpellsConstant c us rest
    single [] h = cc
    single (t ∷ us) h =
        let (x, ex, h1) = bind_some _ (constant_of t) (c, rest) h in
        let k = pair_same _ _ h1 in inl (t, constant_is t c (ex ∙ ap (λ (w : Const). Some w) k.0), ap (λ w. t ∷ w) k.1)

    named : (o : Option (List ℕ × List Token)) → name ts ≡ o → named_by ts o ≡ Some (c, rest) → SpellsConstant c ts rest
    named None q h = single ts h
    named (Some x) q h = let k = pair_same _ _ h in inr (inr (x.0, sym k.0, name_reads.sound ts x.1 x.0 q ∙ ap (λ w. token.Name x.0 ∷ w) k.1))

    by : (o : Option (List Token)) → after minus ts ≡ o → constant_by ts o ≡ Some (c, rest) → SpellsConstant c ts rest
    by None q h = named (name ts) refl h
    by (Some us) q h = signed us (after_is minus ts us q) h

if_less : {A : Type 0} → (n m : ℕ) (a b : A) → n < m → (if nat_lt n m then a else b) ≡ a
if_less n m a b h = grind arith

single_again : (c : Const) (t : Token) (rest : List Token) → IsConstant c t → constant (t ∷ rest) ≡ Some (c, rest)
unfolding constant after
single_again constants.Absent t rest h = rw h refl
single_again (constants.Truth true) t rest h = rw h refl
single_again (constants.Truth false) t rest h = rw h refl
single_again (constants.Whole (pos n)) t rest h = rw (h.0, if_less n (2 ^ 127) (Some (constants.Whole (pos n))) None h.1) refl
single_again (constants.Whole (negsuc n)) t rest h = absurd h
single_again (constants.Text bytes) t rest h = rw h refl
single_again (constants.Named n) t rest h = absurd h

constant_again : (ts rest : List Token) (c : Const) → SpellsConstant c ts rest → constant ts ≡ Some (c, rest)
unfolding constant after
constant_again ts rest c (inl (t, is, e)) = rw e (single_again c t rest is)
constant_again ts rest c (inr (inl (n, e, lt, h))) =
    let found : Option (Const × List Token) = Some (constants.Whole (neg_ℤ (pos n)), rest) in
    rw (h, if_less n (2 ^ 127) found None lt, e) refl
constant_again ts rest c (inr (inr (n, e, h))) = rw (h, e) refl

pub constant_reads : Reads SpellsConstant constant Anything
constant_reads = record { sound = constant_sound; again = λ ts rest c h f. constant_again ts rest c h }

length_of : (t : Token) (ts us : List Token) → ts ≡ t ∷ us → length us < length ts
length_of t ts us e = rw e (omega arith)

length_of_two : (t u : Token) (ts us : List Token) → ts ≡ t ∷ u ∷ us → length us < length ts
length_of_two t u ts us e = rw e (omega arith)

pub constant_shorter : (ts us : List Token) (c : Const) → SpellsConstant c ts us → length us < length ts
constant_shorter ts us c (inl (t, is, e)) = length_of t ts us e
constant_shorter ts us c (inr (inl (n, e, lt, h))) = length_of_two (token_of minus) (token.Number n) ts us h
constant_shorter ts us c (inr (inr (n, e, h))) = length_of (token.Name n) ts us h

is_open : (c : Const) (t : Token) (us : List Token) → IsConstant c t → after (mark.Close bracket.Square) (t ∷ us) ≡ None
unfolding after
is_open constants.Absent t us h = rw h refl
is_open (constants.Truth true) t us h = rw h refl
is_open (constants.Truth false) t us h = rw h refl
is_open (constants.Whole (pos n)) t us h = rw h.0 refl
is_open (constants.Whole (negsuc n)) t us h = absurd h
is_open (constants.Text bytes) t us h = rw h refl
is_open (constants.Named n) t us h = absurd h

constant_opens : (us vs : List Token) (c : Const) → SpellsConstant c us vs → after (mark.Close bracket.Square) us ≡ None
unfolding after
constant_opens us vs c (inl (t, is, e)) = rw e (is_open c t vs is)
constant_opens us vs c (inr (inl (n, e, lt, h))) = rw h refl
constant_opens us vs c (inr (inr (n, e, h))) = rw h refl

no_comma : (us : List Token) → after comma (token.Close bracket.Square ∷ us) ≡ None
unfolding after
no_comma us = refl

pub constants_reads : Reads (listed SpellsConstant (token.Close bracket.Square)) constants_in Anything
constants_reads = listed_reads SpellsConstant constant Anything (mark.Close bracket.Square) constant_reads
    (closing_parts SpellsConstant Anything (mark.Close bracket.Square) constant_shorter (λ us. tt) (λ us. tt) no_comma constant_opens) constant_opens

-- The same in the words of the constants that a `for` goes over.

others_as : (cs : List Const) (ts rest : List Token) → SpellsOtherConstants cs ts rest → others SpellsConstant (token_of comma) (closes (token.Close bracket.Square)) cs ts rest
others_as [] ts rest h = h
others_as (c ∷ cs) ts rest h = (h.0, h.1, h.2, h.3, others_as cs h.1 rest h.4)

as_others : (cs : List Const) (ts rest : List Token) → others SpellsConstant (token_of comma) (closes (token.Close bracket.Square)) cs ts rest → SpellsOtherConstants cs ts rest
as_others [] ts rest h = h
as_others (c ∷ cs) ts rest h = (h.0, h.1, h.2, h.3, as_others cs h.1 rest h.4)

listed_as : (cs : List Const) (ts rest : List Token) → SpellsConstants cs ts rest → listed SpellsConstant (token.Close bracket.Square) cs ts rest
listed_as [] ts rest h = h
listed_as (c ∷ cs) ts rest h = (h.0, h.1, others_as cs h.0 rest h.2)

as_listed : (cs : List Const) (ts rest : List Token) → listed SpellsConstant (token.Close bracket.Square) cs ts rest → SpellsConstants cs ts rest
as_listed [] ts rest h = h
as_listed (c ∷ cs) ts rest h = (h.0, h.1, as_others cs h.0 rest h.2)

pub constants_sound : (ts rest : List Token) (cs : List Const) → constants_in ts ≡ Some (cs, rest) → SpellsConstants cs ts rest
constants_sound ts rest cs e = as_listed cs ts rest (constants_reads.sound ts rest cs e)

pub constants_again : (ts rest : List Token) (cs : List Const) → SpellsConstants cs ts rest → constants_in ts ≡ Some (cs, rest)
constants_again ts rest cs h = constants_reads.again ts rest cs (listed_as cs ts rest h) tt

-- The call's further clauses.

abbrev Answer : Type 0
Answer = Result (Vec Const Global × Bor (List Token)) ReadError

pub found_law : (ts : List Token) (r : Answer) → Gives (λ x. (x.0.items, x.1.now)) r (constants_in ts) → IfOk r (λ x. SpellsConstants x.0.items ts x.1.now)
found_law ts (Ok x) g = constants_sound ts x.1.now x.0.items g
found_law ts (Err f) g = tt

none_some : {A : Type 0} (o : Option A) (x : A) → o ≡ None → o ≡ Some x → ⊥
none_some o x a b = cc

pub only_law : (ts : List Token) (r : Answer) (cs : List Const) (rest : List Token) → Gives (λ x. (x.0.items, x.1.now)) r (constants_in ts)
    → SpellsConstants cs ts rest → AreFound cs rest r
only_law ts (Ok x) cs rest g h =
    let y : List Const × List Token = (x.0.items, x.1.now) in let z : List Const × List Token = (cs, rest) in pair_same y z (sym g ∙ constants_again ts rest cs h)
only_law ts (Err errors.OutOfMemory) cs rest g h = refl
only_law ts (Err errors.Wrong) cs rest g h = absurd (none_some _ _ g (constants_again ts rest cs h))
