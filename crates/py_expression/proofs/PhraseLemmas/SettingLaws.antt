-- The readers of named arguments and of parameters read these.
use Rattle.std.proofs.Common.{◌≡◌, inl, inr, ℕ, ◌<◌, List, ◌∷◌, length, Option, Some, None, refl, sym, ap, ◌∙◌, arith}
use Rattle.py_syntax.specs.declared.module.Parameter.{Parameter}
use Rattle.py_syntax.specs.declared.module.Setting.{Setting}
use Rattle.py_syntax.specs.declared.operator.Bracket.TheVariants as bracket
use Rattle.py_syntax.specs.declared.token.Token.{Token}
use Rattle.py_syntax.specs.declared.token.Token.TheVariants as token
use Rattle.py_syntax.specs.ConstantForms.{SpellsConstant}
use Rattle.py_syntax.specs.ModuleForms as form
use Rattle.py_syntax.specs.ModuleForms.{required, optional}
use Rattle.py_syntax.specs.Phrases.{name, exactly, ◌◃◌, listed}
use Rattle.py_expression.specs.declared.phrase.mark.Mark.{Mark}
use Rattle.py_expression.specs.declared.phrase.mark.Mark.TheVariants as mark
use Rattle.py_expression.specs.Phrase.Marks.{token_of, after, comma, assign}
use Rattle.py_expression.specs.Phrase.Readers as read
use Rattle.py_expression.specs.Phrase.Readers.{bind, default_by, constant, setting, parameter, listed_of}
use Rattle.py_expression.proofs.PhraseLemmas.Facts.{after_is, after_again}
use Rattle.py_expression.proofs.PhraseLemmas.Phrased.{Reads, Anything, bind_some, pair_same, at_rest, mark_reads, name_reads, both_reads}
use Rattle.py_expression.proofs.PhraseLemmas.Lists.{closing_parts, listed_reads}
use Rattle.py_expression.proofs.PhraseLemmas.ConstantLaws.{constant_reads, constant_shorter}

-- `name=`
pub named_reads : Reads (name ◃ exactly (token_of assign)) (read.◌◃◌ read.name (read.mark assign)) Anything
named_reads = both_reads (λ x y. x) name (exactly (token_of assign)) read.name (read.mark assign) Anything Anything name_reads (mark_reads assign) (λ mid rest y h f. tt)

pub setting_reads : Reads form.setting setting Anything
setting_reads = both_reads (λ n c. record { name = n; value = c }) (name ◃ exactly (token_of assign)) SpellsConstant (read.◌◃◌ read.name (read.mark assign)) constant Anything Anything named_reads constant_reads (λ mid rest y h f. tt)

-- no `=`
abbrev pub NoDefault : List Token → Type 0
NoDefault ts = after assign ts ≡ None

parameter_sound : (ts rest : List Token) (p : Parameter) → parameter ts ≡ Some (p, rest) → form.parameter p ts rest
parameter_sound ts rest p e = let (x, ex, e1) = bind_some _ (read.name ts) (p, rest) e in by x.0 x.1 (name_reads.sound ts x.1 x.0 ex) (after assign x.1) refl e1
  where
    by : (n : List ℕ) (us : List Token) → ts ≡ token.Name n ∷ us → (o : Option (List Token)) → after assign us ≡ o → default_by n us o ≡ Some (p, rest) → form.parameter p ts rest
    by n us q None r h = let k = pair_same _ _ h in inl (n, q ∙ ap (λ w. token.Name n ∷ w) k.1, sym k.0)
    by n us q (Some vs) r h =
        let (c, ec, h1) = bind_some _ (constant vs) (p, rest) h in
        let k = pair_same _ _ h1 in
        inr (n, c.0, vs, (n, tt, us, q, after_is assign us vs r, refl), at_rest SpellsConstant c.0 vs c.1 rest k.1 (constant_reads.sound vs c.1 c.0 ec), sym k.0)

parameter_again : (ts rest : List Token) (p : Parameter) → form.parameter p ts rest → NoDefault rest → parameter ts ≡ Some (p, rest)
parameter_again ts rest p (inl (n, q, e)) f = rw (q, f) (ap (λ (w : Parameter). Some (w, rest)) (sym e))
parameter_again ts rest p (inr (n, c, us, (m, x, vs, q, r, e), h, e2)) f =
    rw (q, r, after_again assign us, constant_reads.again us rest c h tt) (ap (λ (w : Parameter). Some (w, rest)) (ap (λ (k : List ℕ). optional k c) (sym e) ∙ sym e2))

pub parameter_reads : Reads form.parameter parameter NoDefault
parameter_reads = record { sound = parameter_sound; again = parameter_again }

-- Both begin with a name.

length_of : (n : List ℕ) (ts us : List Token) → ts ≡ token.Name n ∷ us → length us < length ts
length_of n ts us e = rw e (omega arith)

setting_shorter : (ts us : List Token) (s : Setting) → form.setting s ts us → length us < length ts
setting_shorter ts us s (n, c, vs, (m, x, ws, q, r, e), h, e2) =
    let a : length ws < length ts = length_of m ts ws q in
    let b : length vs < length ws = rw r (omega arith) in
    let d : length us < length vs = constant_shorter vs us c h in omega (arith, a, b, d)

parameter_shorter : (ts us : List Token) (p : Parameter) → form.parameter p ts us → length us < length ts
parameter_shorter ts us p (inl (n, q, e)) = length_of n ts us q
parameter_shorter ts us p (inr (n, c, vs, (m, x, ws, q, r, e), h, e2)) =
    let a : length ws < length ts = length_of m ts ws q in
    let b : length vs < length ws = rw r (omega arith) in
    let d : length us < length vs = constant_shorter vs us c h in omega (arith, a, b, d)

abbrev pub close : Mark
close = mark.Close bracket.Round

setting_opens : (ts us : List Token) (s : Setting) → form.setting s ts us → after close ts ≡ None
unfolding after
setting_opens ts us s (n, c, vs, (m, x, ws, q, r, e), h, e2) = rw q refl

parameter_opens : (ts us : List Token) (p : Parameter) → form.parameter p ts us → after close ts ≡ None
unfolding after
parameter_opens ts us p (inl (n, q, e)) = rw q refl
parameter_opens ts us p (inr (n, c, vs, (m, x, ws, q, r, e), h, e2)) = rw q refl

no_comma : (us : List Token) → after comma (token_of close ∷ us) ≡ None
unfolding after
no_comma us = refl

pub settings_reads : Reads (listed form.setting (token_of close)) (listed_of setting close) Anything
settings_reads = listed_reads form.setting setting Anything close setting_reads
    (closing_parts form.setting Anything close setting_shorter (λ us. tt) (λ us. tt) no_comma setting_opens) setting_opens

comma_no_default : (us : List Token) → NoDefault (token_of comma ∷ us)
unfolding after
comma_no_default us = refl

close_no_default : (us : List Token) → NoDefault (token_of close ∷ us)
unfolding after
close_no_default us = refl

pub parameters_reads : Reads (listed form.parameter (token_of close)) (listed_of parameter close) Anything
parameters_reads = listed_reads form.parameter parameter NoDefault close parameter_reads
    (closing_parts form.parameter NoDefault close parameter_shorter comma_no_default close_no_default no_comma parameter_opens) parameter_opens
