-- The readers of the forms read these.
use Rattle.std.proofs.Common.{◌≡◌, inl, inr, if◌then◌else◌, ℕ, Bool, true, false, ◌<◌, List, [], ◌∷◌, length, Option, Some, None, refl, sym, ap, ◌∙◌, arith}
use Rattle.std.specs.Prelude.{codes}
use Rattle.std.specs.Str.{bytes_eq}
use Rattle.py_syntax.specs.declared.constant.Const.{Const}
use Rattle.py_syntax.specs.declared.operator.Operator.TheVariants as operator
use Rattle.py_syntax.specs.declared.operator.Bracket.TheVariants as bracket
use Rattle.py_syntax.specs.declared.token.Token.{Token}
use Rattle.py_syntax.specs.declared.token.Token.TheVariants as token
use Rattle.py_syntax.specs.ModuleTrees.{Import, FromImport, Constant, Test, Factory, AddOption, GenerateTests, Function}
use Rattle.py_syntax.specs.ModuleForms as form
use Rattle.py_syntax.specs.Phrases.{Phrase, exactly, word, name, text, both, ◌◃◌, ◌▹◌, by_name, closes, nothing, elements, listed}
use Rattle.py_expression.specs.declared.phrase.mark.Mark.{Mark}
use Rattle.py_expression.specs.declared.phrase.mark.Mark.TheVariants as marks
use Rattle.py_expression.specs.Phrase.Marks.{token_of, after, after_word, named_at, after_name_by, comma, assign}
use Rattle.py_expression.specs.Phrase.Readers as read
use Rattle.py_expression.specs.Phrase.Readers.{Reader, bind, ending, elements_of, choose}
use Rattle.py_expression.proofs.PhraseLemmas.Facts.{bytes_are, bytes_same, named_at_is}
use Rattle.py_expression.proofs.PhraseLemmas.Phrased.{Reads, Anything, End, bind_some, pair_same, mark_reads, word_reads, name_reads, text_reads, both_reads, makes_reads, seq, left, right, weaker}
use Rattle.py_expression.proofs.PhraseLemmas.Choices.{either_reads, or_reads}
use Rattle.py_expression.proofs.PhraseLemmas.Lists.{Parts, closing_parts, open_parts, elements_reads}
use Rattle.py_expression.proofs.PhraseLemmas.ConstantLaws.{constant_reads, constants_reads}
use Rattle.py_expression.proofs.PhraseLemmas.SettingLaws.{settings_reads, parameters_reads}
use Rattle.py_parse.specs.ModuleLine.Reading

ends_any : (ts : List Token) → End ts → Anything ts
ends_any ts e = tt

-- Imports.

pub import_reads : Reads form.import_form Reading.import_of Anything
import_reads = seq (λ x n. Import n) (mark_reads Reading.import_word) name_reads

name_shorter : (ts us : List Token) (n : List ℕ) → name n ts us → length us < length ts
name_shorter ts us n e = rw e (omega arith)

-- no mark of this kind
abbrev No : Mark → List Token → Type 0
No m ts = after m ts ≡ None

dotted_parts : Parts name Anything Reading.dot None nothing (No Reading.dot)
dotted_parts = open_parts name Anything Reading.dot (No Reading.dot) name_shorter (λ us. tt) (λ us f. tt) (λ us f. f)

module_reads : Reads form.module_name Reading.module_name (No Reading.dot)
module_reads = elements_reads name read.name Anything Reading.dot None nothing (No Reading.dot) name_reads dotted_parts

bare_parts : Parts name Anything comma None nothing (No comma)
bare_parts = open_parts name Anything comma (No comma) name_shorter (λ us. tt) (λ us f. tt) (λ us f. f)

no_comma : (us : List Token) → No comma (token_of Reading.closing ∷ us)
unfolding after
no_comma us = refl

name_opens : (us vs : List Token) (n : List ℕ) → name n us vs → after Reading.closing us ≡ None
unfolding after
name_opens us vs n e = rw e refl

pub closed_parts : Parts name Anything comma (Some Reading.closing) (closes (token_of Reading.closing)) Anything
closed_parts = closing_parts name Anything Reading.closing name_shorter (λ us. tt) (λ us. tt) no_comma name_opens

bare_reads : Reads (elements name (token_of comma) nothing) (elements_of read.name comma None) (No comma)
bare_reads = elements_reads name read.name Anything comma None nothing (No comma) name_reads bare_parts

closed_reads : Reads (elements name (token_of comma) (closes (token_of Reading.closing))) (elements_of read.name comma (Some Reading.closing)) Anything
closed_reads = elements_reads name read.name Anything comma (Some Reading.closing) (closes (token_of Reading.closing)) Anything name_reads closed_parts

end_no_comma : (ts : List Token) → End ts → No comma ts
unfolding after
end_no_comma ts e = rw e refl

bare_no_bracket : (ts rest : List Token) (ns : List (List ℕ)) → elements name (token_of comma) nothing ns ts rest → End rest → Reading.starts Reading.opening ts ≡ false
unfolding after
bare_no_bracket ts rest [] h e = absurd h
bare_no_bracket ts rest (n ∷ ns) h e = rw h.1 refl

bracket_there : (ts rest : List Token) (ns : List (List ℕ)) → (exactly (token_of Reading.opening) ▹ elements name (token_of comma) (closes (token_of Reading.closing))) ns ts rest
    → End rest → Reading.starts Reading.opening ts ≡ true
unfolding after
bracket_there ts rest ns (x, ms, us, q, h, e) f = rw q refl

imported_reads : Reads form.imported Reading.imported End
unfolding Reading.imported
imported_reads = or_reads (elements name (token_of comma) nothing) (exactly (token_of Reading.opening) ▹ elements name (token_of comma) (closes (token_of Reading.closing)))
    (elements_of read.name comma None) (read.◌▹◌ (read.mark Reading.opening) (elements_of read.name comma (Some Reading.closing)))
    (No comma) Anything End (Reading.starts Reading.opening) bare_reads (right (mark_reads Reading.opening) closed_reads) end_no_comma ends_any bare_no_bracket bracket_there

import_no_dot : (mid rest : List Token) (x : Unit {0}) → exactly (token_of Reading.import_word) x mid rest → Anything rest → No Reading.dot mid
unfolding after
import_no_dot mid rest x q f = rw q refl

pub from_reads : Reads form.from_form Reading.from_of End
from_reads =
    seq FromImport
    (both_reads (λ x y. x) (exactly (token_of Reading.from_word) ▹ form.module_name) (exactly (token_of Reading.import_word))
    (read.◌▹◌ (read.mark Reading.from_word) Reading.module_name) (read.mark Reading.import_word) (No Reading.dot) Anything
    (right (mark_reads Reading.from_word) module_reads) (mark_reads Reading.import_word) import_no_dot)
    imported_reads

-- Constants and tests.

pub constant_line_reads : Reads form.constant_form Reading.constant_of Anything
constant_line_reads = seq Constant (left name_reads (mark_reads assign)) constant_reads

pub test_reads : Reads form.test_form Reading.test_of Anything
test_reads =
    seq (λ x ss. Test ss)
    (right (right (right (right (mark_reads Reading.at_sign) (word_reads (codes "cocotb"))) (mark_reads Reading.dot)) (word_reads (codes "test"))) (mark_reads Reading.opening))
    settings_reads

-- Factories.

last_reads : Reads form.last Reading.last Anything
last_reads = record {
  sound = λ ts rest x e. let (us, eu, e1) = bind_some _ (ending comma (Some Reading.closing) ts) (x, rest) e in
      let k = pair_same _ _ e1 in closed_parts.end_sound ts rest (eu ∙ ap (λ (w : List Token). Some w) k.1);
  again = λ ts rest x h f. rw (closed_parts.end_again ts rest h f) refl;
}

by_name_reads : {A : Type 0} (w : List ℕ) (p : Phrase A) (r : Reader A) (E : List Token → Type 0) → Reads p r E
    → ((ts rest : List Token) (x : A) → p x ts rest → E rest → named_at ts ≡ None) → Reads (by_name w p) (Reading.by_name_of w r) E
unfolding after
by_name_reads {A} w p r E a none = record { sound = sounds; again = agains }
  where
    sounds : (ts rest : List Token) (x : A) → Reading.by_name_of w r ts ≡ Some (x, rest) → by_name w p x ts rest
    sounds ts rest x e = by (named_at ts) refl e
      where
        named : (y : List ℕ × List Token) → named_at ts ≡ Some y → (b : Bool) → bytes_eq y.0 w ≡ b → r (if b then y.1 else ts) ≡ Some (x, rest) → by_name w p x ts rest
        named y q true k h =
            inr (
              tt,
              x,
              y.1,
              (tt, tt, token.Operator operator.Assign ∷ y.1, named_at_is ts y q ∙ ap (λ n. token.Name n ∷ token.Operator operator.Assign ∷ y.1) (bytes_are y.0 w k), refl, refl),
              a.sound y.1 rest x h,
              refl,
            )
        named y q false k h = inl (a.sound ts rest x h)

        by : (o : Option (List ℕ × List Token)) → named_at ts ≡ o → r (after_name_by w ts o) ≡ Some (x, rest) → by_name w p x ts rest
        by None q h = inl (a.sound ts rest x h)
        by (Some y) q h = named y q (bytes_eq y.0 w) refl h

    agains : (ts rest : List Token) (x : A) → by_name w p x ts rest → E rest → Reading.by_name_of w r ts ≡ Some (x, rest)
    agains ts rest x (inl h) f = rw (none ts rest x h f) (a.again ts rest x h f)
    agains ts rest x (inr (u, y, us, (v, z, vs, q1, q2, e1), h, e2)) f =
        rw (q1, q2, bytes_same w) (a.again us rest y h f ∙ ap (λ (k : A). Some (k, rest)) (sym e2))

name_unnamed : (ts rest : List Token) (n : List ℕ) → name n ts rest → No assign rest → named_at ts ≡ None
name_unnamed ts rest n q f = rw (q, f) refl

last_no_assign : (mid rest : List Token) (x : Unit {0}) → form.last x mid rest → Anything rest → No assign mid
unfolding after
last_no_assign mid rest x (inl h) f = rw h refl
last_no_assign mid rest x (inr h) f = rw h refl

given_reads : Reads (by_name (codes "test_function") name) Reading.function_given (No assign)
unfolding Reading.function_given
given_reads = by_name_reads (codes "test_function") name read.name (No assign) (weaker (No assign) (λ ts h. tt) name_reads) name_unnamed

pub factory_reads : Reads form.factory_form Reading.factory_of Anything
factory_reads =
    seq Factory (left (left (left name_reads (mark_reads assign)) (word_reads (codes "TestFactory"))) (mark_reads Reading.opening))
    (both_reads (λ x y. x) (by_name (codes "test_function") name) form.last Reading.function_given Reading.last (No assign) Anything given_reads last_reads last_no_assign)

bracketed_reads : Reads form.constants_form Reading.bracketed_constants Anything
bracketed_reads = right (mark_reads (marks.Open bracket.Square)) constants_reads

bracket_unnamed : (ts rest : List Token) (cs : List Const) → form.constants_form cs ts rest → Anything rest → named_at ts ≡ None
bracket_unnamed ts rest cs (x, ds, us, q, h, e) f = rw q refl

abbrev by_place : Phrase (List ℕ × List Const)
by_place = both (λ o cs. (o, cs)) (text ◃ exactly form.comma) (by_name (codes "optionlist") form.constants_form)

abbrev name_first : Phrase (List ℕ × List Const)
name_first =
    both (λ o cs. (o, cs)) (word (codes "name") ▹ exactly form.assign ▹ text ◃ exactly form.comma ◃ word (codes "optionlist") ◃ exactly form.assign) form.constants_form

abbrev list_first : Phrase (List ℕ × List Const)
list_first =
    both (λ cs o. (o, cs)) (word (codes "optionlist") ▹ exactly form.assign ▹ form.constants_form ◃ exactly form.comma ◃ word (codes "name") ◃ exactly form.assign) text

place_reads : Reads by_place Reading.option_by_place Anything
place_reads =
    seq (λ o cs. (o, cs)) (left text_reads (mark_reads comma))
    (by_name_reads (codes "optionlist") form.constants_form Reading.bracketed_constants Anything bracketed_reads bracket_unnamed)

name_first_reads : Reads name_first Reading.option_name_first Anything
name_first_reads =
    seq (λ o cs. (o, cs))
    (left (left (left (right (right (word_reads (codes "name")) (mark_reads assign)) text_reads) (mark_reads comma)) (word_reads (codes "optionlist"))) (mark_reads assign))
    bracketed_reads

list_first_reads : Reads list_first Reading.option_list_first Anything
list_first_reads =
    seq (λ cs o. (o, cs))
    (left (left (left (right (right (word_reads (codes "optionlist")) (mark_reads assign)) bracketed_reads) (mark_reads comma)) (word_reads (codes "name"))) (mark_reads assign))
    text_reads

name_first_word : (ts rest : List Token) (x : List ℕ × List Const) → name_first x ts rest → (us : List Token) × (ts ≡ token.Name (codes "name") ∷ us)
name_first_word ts rest x (o, cs, us, (o2, u2, us2, (o3, u3, us3, (o4, u4, us4, (u5, o5, us5, (u6, u7, us6, q, q7, e7), q5, e5), q4, e4), q3, e3), q2, e2), h, e) = (us6, q)

list_first_word : (ts rest : List Token) (x : List ℕ × List Const) → list_first x ts rest → (us : List Token) × (ts ≡ token.Name (codes "optionlist") ∷ us)
list_first_word ts rest x (o, cs, us, (o2, u2, us2, (o3, u3, us3, (o4, u4, us4, (u5, o5, us5, (u6, u7, us6, q, q7, e7), q5, e5), q4, e4), q3, e3), q2, e2), h, e) = (us6, q)

no_list_there : (ts rest : List Token) (x : List ℕ × List Const) → name_first x ts rest → Anything rest → Reading.is_there (after_word (codes "optionlist") ts) ≡ false
unfolding after_word
no_list_there ts rest x h f = rw (name_first_word ts rest x h).1 refl

list_there : (ts rest : List Token) (x : List ℕ × List Const) → list_first x ts rest → Anything rest → Reading.is_there (after_word (codes "optionlist") ts) ≡ true
unfolding after_word
list_there ts rest x h f = rw (list_first_word ts rest x h).1 refl

named_reads : Reads form.named_option Reading.option_by_name Anything
unfolding Reading.option_by_name
named_reads = or_reads name_first list_first Reading.option_name_first Reading.option_list_first Anything Anything Anything (λ ts. Reading.is_there (after_word (codes "optionlist") ts))
    name_first_reads list_first_reads (λ ts f. f) (λ ts f. f) no_list_there list_there

text_there : (ts rest : List Token) (x : List ℕ × List Const) → by_place x ts rest → Anything rest → Reading.begins_with_text ts ≡ true
text_there ts rest x (o, cs, us, (b, u, vs, q, r, e), h, e2) f = rw q refl

no_text_there : (ts rest : List Token) (x : List ℕ × List Const) → form.named_option x ts rest → Anything rest → Reading.begins_with_text ts ≡ false
no_text_there ts rest x (inl h) f = rw (name_first_word ts rest x h).1 refl
no_text_there ts rest x (inr h) f = rw (list_first_word ts rest x h).1 refl

option_reads : Reads form.option Reading.option Anything
unfolding Reading.option
option_reads = either_reads by_place form.named_option Reading.option_by_place Reading.option_by_name Anything Anything Anything Reading.begins_with_text
    place_reads named_reads (λ ts f. f) (λ ts f. f) text_there no_text_there

pub add_option_reads : Reads form.add_option_form Reading.add_option_of Anything
add_option_reads =
    seq (λ n x. AddOption n x.0 x.1) (left (left (left name_reads (mark_reads Reading.dot)) (word_reads (codes "add_option"))) (mark_reads Reading.opening))
    (left option_reads last_reads)

pub generate_reads : Reads form.generate_form Reading.generate_of Anything
generate_reads =
    seq (λ n x. GenerateTests n x.0 x.1) (left (left (left name_reads (mark_reads Reading.dot)) (word_reads (codes "generate_tests"))) (mark_reads Reading.opening))
    (makes_reads form.affixes (listed form.setting (token_of Reading.closing)) (read.listed_of read.setting Reading.closing) Anything settings_reads)

-- Functions.

pub function_reads : Reads form.function_form Reading.function_of Anything
function_reads =
    seq Function (left (right (right (mark_reads Reading.async_word) (mark_reads Reading.def_word)) name_reads) (mark_reads Reading.opening))
    (left (makes_reads form.parameters (listed form.parameter (token_of Reading.closing)) (read.listed_of read.parameter Reading.closing) Anything parameters_reads) (mark_reads Reading.colon))
