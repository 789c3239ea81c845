-- The laws of reading lines.
use Rattle.std.proofs.Common.{◌≡◌, ℕ, ◌<◌, ◌≤◌, max, List, [], ◌∷◌, Option, Some, None, refl, sym, ap, ◌∙◌, arith, ◌⊎◌, inl, inr, subst, true}
use Rattle.py_syntax.specs.StatementTrees.{RightSide, CocotbLog, HierarchyLog, Statement, Pass, Break, Continue, Return, Raise, Assert, Assign, AugmentedAssign, AssignValue, SetImmediateValue, Await, Act, Log, StartSoon, PutNow, AssignAction, SetImmediateAction, Header, If, Elif, Else, While, For, Try, Except, With, BodyLine, Simple, Heads, line_height}
use Rattle.py_syntax.specs.StatementForms.{SpellsStatement, SpellsHeader, SpellsLine}
use Rattle.py_syntax.specs.declared.keyword.Keyword.{Keyword}
use Rattle.py_syntax.specs.declared.keyword.Keyword.TheVariants as keyword
use Rattle.py_syntax.specs.declared.token.Token.{Token}
use Rattle.py_syntax.specs.declared.token.Token.TheVariants as token
use Rattle.py_expression.specs.Ends.{starts_expression}
use Rattle.py_expression.proofs.Starts.{begins}
use Rattle.py_expression.proofs.Nodes.{at_most_or_more}
use Rattle.py_statement.specs.Call.Kept.{of_one}
use Rattle.py_statement.proofs.CallLemmas.Chosen.{made_is}
use Rattle.py_statement.specs.Kept.{kept_statement, kept_header, kept_line}
use Rattle.py_statement.specs.Words.{keyword_at}
use Rattle.py_statement.specs.Reading.{only, return_of, raise_of, assert_of, await_of, plain_of, test_of, for_of, header_only, except_of, with_of, if_of, elif_of, while_of, simple, heads, plain_line_of, worded_of, body_by, body_of}
use Rattle.py_statement.specs.Lines.{fits, too_high, no_form, form_by, line_of}
use Rattle.py_statement.proofs.TableLaws.{keyword_at_is}
use Rattle.py_statement.proofs.StatementLaws.{SpellsReturned, only_sound, only_again, return_sound, return_again, raise_sound, raise_again, assert_sound, assert_again, await_sound, await_again}
use Rattle.py_statement.proofs.PlainLaws.{plain_sound, plain_again}
use Rattle.py_statement.proofs.HeaderLaws.{test_sound, test_again, for_sound, for_again, except_sound, except_again, header_only_sound, header_only_again, with_sound, with_again}
use Rattle.py_statement.proofs.HeightLaws.{line_fits}

abbrev pub FoundLine : ℕ → List Token → BodyLine × ℕ → Type 0
FoundLine limit ts v = (l : BodyLine) × SpellsLine l ts × (v ≡ kept_line limit l)

simple_found : (limit : ℕ) (ts : List Token) (o : Option (Statement × ℕ)) (v : BodyLine × ℕ) → simple o ≡ Some v
    → ((w : Statement × ℕ) → o ≡ Some w → (s : Statement) × SpellsStatement s ts × (w ≡ kept_statement limit s)) → FoundLine limit ts v
simple_found limit ts o v h found =
    let (w, a, b) = made_is o (of_one Simple) v h in
    let (s, sp, k) = found w a in
    (Simple s, sp, sym b ∙ ap (λ z. of_one Simple z) k)

heads_found : (limit : ℕ) (ts : List Token) (o : Option (Header × ℕ)) (v : BodyLine × ℕ) → heads o ≡ Some v
    → ((w : Header × ℕ) → o ≡ Some w → (s : Header) × SpellsHeader s ts × (w ≡ kept_header limit s)) → FoundLine limit ts v
heads_found limit ts o v h found =
    let (w, a, b) = made_is o (of_one Heads) v h in
    let (s, sp, k) = found w a in
    (Heads s, sp, sym b ∙ ap (λ z. of_one Heads z) k)

plain_line_sound : (limit : ℕ) (positive : 1 ≤ limit) (ts : List Token) (v : BodyLine × ℕ) → plain_line_of limit ts ≡ Some v → FoundLine limit ts v
unfolding plain_line_of
plain_line_sound limit positive ts v h = simple_found limit ts (plain_of limit ts) v h (λ w k. plain_sound limit positive ts w k)

-- a statement or a header of a word alone
word_only : (k : Keyword) (ts us rest : List Token) → ts ≡ token.Keyword k ∷ us → us ≡ rest → ts ≡ token.Keyword k ∷ rest
word_only k ts us rest e h = e ∙ ap (λ ws. token.Keyword k ∷ ws) h

worded_sound : (limit : ℕ) (positive : 1 ≤ limit) (k : Keyword) (us ts : List Token) (v : BodyLine × ℕ) → ts ≡ token.Keyword k ∷ us → worded_of limit k us ts ≡ Some v → FoundLine limit ts v
worded_sound limit positive keyword.Pass us ts v e h = simple_found limit ts (only Pass us) v h (λ w a. let (end, k) = only_sound Pass us w a in (Pass, word_only keyword.Pass ts us [] e end, k))
worded_sound limit positive keyword.Break us ts v e h = simple_found limit ts (only Break us) v h (λ w a. let (end, k) = only_sound Break us w a in (Break, word_only keyword.Break ts us [] e end, k))
worded_sound limit positive keyword.Continue us ts v e h = simple_found limit ts (only Continue us) v h (λ w a. let (end, k) = only_sound Continue us w a in (Continue, word_only keyword.Continue ts us [] e end, k))
worded_sound limit positive keyword.Return us ts v e h = simple_found limit ts (return_of limit us) v h (λ w a. found w (return_sound limit us w a))
  where
    found : (w : Statement × ℕ) → (s : Option RightSide) × SpellsReturned s us × (w ≡ kept_statement limit (Return s)) → (s : Statement) × SpellsStatement s ts × (w ≡ kept_statement limit s)
    found w (None, sp, k) = (Return None, word_only keyword.Return ts us [] e sp, k)
    found w (Some s, sp, k) = (Return (Some s), (us, e, sp), k)
worded_sound limit positive keyword.Raise us ts v e h = simple_found limit ts (raise_of limit us) v h
    (λ w a. let (j, x, vs, name, s, k) = raise_sound limit us w a in (Raise j x, (vs, e ∙ ap (λ ws. token.Keyword keyword.Raise ∷ ws) name, s), k))
worded_sound limit positive keyword.Assert us ts v e h = simple_found limit ts (assert_of limit us) v h
    (λ w a. let (c, m, vs, s, t, k) = assert_sound limit us w a in (Assert c m, (us, vs, e, s, t), k))
worded_sound limit positive keyword.Await us ts v e h = simple_found limit ts (await_of limit us) v h (λ w a. let (x, s, k) = await_sound limit us w a in (Await x, (us, e, s), k))
worded_sound limit positive keyword.If us ts v e h = heads_found limit ts (if_of limit us) v h
    (λ w a. let (y, b, c) = made_is (test_of limit us) (of_one If) w a in let (x, s, k) = test_sound limit us y b in (If x, (us, e, s), sym c ∙ ap (λ z. of_one If z) k))
worded_sound limit positive keyword.Elif us ts v e h = heads_found limit ts (elif_of limit us) v h
    (λ w a. let (y, b, c) = made_is (test_of limit us) (of_one Elif) w a in let (x, s, k) = test_sound limit us y b in (Elif x, (us, e, s), sym c ∙ ap (λ z. of_one Elif z) k))
worded_sound limit positive keyword.While us ts v e h = heads_found limit ts (while_of limit us) v h
    (λ w a. let (y, b, c) = made_is (test_of limit us) (of_one While) w a in let (x, s, k) = test_sound limit us y b in (While x, (us, e, s), sym c ∙ ap (λ z. of_one While z) k))
worded_sound limit positive keyword.Else us ts v e h = heads_found limit ts (header_only Else us) v h (λ w a. let (end, k) = header_only_sound Else us w a in (Else, word_only keyword.Else ts us _ e end, k))
worded_sound limit positive keyword.Try us ts v e h = heads_found limit ts (header_only Try us) v h (λ w a. let (end, k) = header_only_sound Try us w a in (Try, word_only keyword.Try ts us _ e end, k))
worded_sound limit positive keyword.For us ts v e h = heads_found limit ts (for_of limit us) v h
    (λ w a. let (n, s, vs, name, sp, k) = for_sound limit us w a in (For n s, (vs, e ∙ ap (λ ws. token.Keyword keyword.For ∷ ws) name, sp), k))
worded_sound limit positive keyword.Except us ts v e h = heads_found limit ts (except_of limit us) v h (λ w a. let (c, s, k) = except_sound limit us w a in (Except c, (us, e, s), k))
worded_sound limit positive keyword.Async us ts v e h = heads_found limit ts (with_of limit us) v h
    (λ w a. let (x, vs, word, s, k) = with_sound limit us w a in (With x, (vs, e ∙ ap (λ ws. token.Keyword keyword.Async ∷ ws) word, s), k))
worded_sound limit positive _ us ts v e h = plain_line_sound limit positive ts v h

pub body_sound : (limit : ℕ) (positive : 1 ≤ limit) (ts : List Token) (v : BodyLine × ℕ) → body_of limit ts ≡ Some v → FoundLine limit ts v
unfolding body_of
body_sound limit positive ts v h = go (keyword_at ts) refl h
  where
    go : (o : Option (Keyword × List Token)) → keyword_at ts ≡ o → body_by limit ts o ≡ Some v → FoundLine limit ts v
    go (Some x) q k = worded_sound limit positive x.0 x.1 ts v (keyword_at_is ts x q) k
    go None q k = plain_line_sound limit positive ts v k

-- no form's first word begins an expression
body_plain : (limit : ℕ) (ts : List Token) → starts_expression ts ≡ true → body_of limit ts ≡ plain_line_of limit ts
unfolding body_of
body_plain limit [] h = absurd cc
body_plain limit (token.Keyword keyword.None ∷ ts) h = refl
body_plain limit (token.Keyword keyword.True ∷ ts) h = refl
body_plain limit (token.Keyword keyword.False ∷ ts) h = refl
body_plain limit (token.Keyword keyword.Not ∷ ts) h = refl
body_plain limit (token.Keyword k ∷ ts) h = absurd cc
body_plain limit (token.Name n ∷ ts) h = refl
body_plain limit (token.Number n ∷ ts) h = refl
body_plain limit (token.Text bytes ∷ ts) h = refl
body_plain limit (token.FormatStart ∷ ts) h = refl
body_plain limit (token.Open b ∷ ts) h = refl
body_plain limit (token.Operator mark ∷ ts) h = refl
body_plain limit (token.Close b ∷ ts) h = absurd cc
body_plain limit (token.FormatText n ∷ ts) h = absurd cc
body_plain limit (token.FormatOpen ∷ ts) h = absurd cc
body_plain limit (token.FormatClose ∷ ts) h = absurd cc
body_plain limit (token.FormatEnd ∷ ts) h = absurd cc
body_plain limit (token.Invalid ∷ ts) h = absurd cc

plain_line_is : (limit : ℕ) (s : Statement) (ts : List Token) → plain_of limit ts ≡ Some (kept_statement limit s) → plain_line_of limit ts ≡ Some (kept_line limit (Simple s))
unfolding plain_line_of
plain_line_is limit s ts h = rw h

plain_line_again : (limit : ℕ) (s : Statement) (ts : List Token) → plain_of limit ts ≡ Some (kept_statement limit s) → starts_expression ts ≡ true → body_of limit ts ≡ Some (kept_line limit (Simple s))
plain_line_again limit s ts h b = body_plain limit ts b ∙ plain_line_is limit s ts h

statement_again : (limit : ℕ) (positive : 1 ≤ limit) (s : Statement) (ts : List Token) → SpellsStatement s ts → body_of limit ts ≡ Some (kept_line limit (Simple s))
unfolding body_of
statement_again limit positive Pass ts e = rw (e, only_again Pass)
statement_again limit positive Break ts e = rw (e, only_again Break)
statement_again limit positive Continue ts e = rw (e, only_again Continue)
statement_again limit positive (Return None) ts e = rw (e, return_again limit None [] refl)
statement_again limit positive (Return (Some s)) ts (us, e, sp) = rw (e, return_again limit (Some s) us sp)
statement_again limit positive (Raise k x) ts (us, e, s) = rw (e, raise_again limit k x us s)
statement_again limit positive (Assert c m) ts (us, vs, e, s, t) = rw (e, assert_again limit c m us vs s t)
statement_again limit positive (Await a) ts (us, e, s) = rw (e, await_again limit a us s)
statement_again limit positive (Assign n s) ts (us, e, r) = plain_line_again limit (Assign n s) ts (plain_again limit positive (Assign n s) ts tt (us, e, r)) (rw e)
statement_again limit positive (AugmentedAssign n op x) ts (mark, us, e, is, s) =
    plain_line_again limit (AugmentedAssign n op x) ts (plain_again limit positive (AugmentedAssign n op x) ts tt (mark, us, e, is, s)) (rw e)
statement_again limit positive (AssignValue x s) ts (us, sp, r) = plain_line_again limit (AssignValue x s) ts (plain_again limit positive (AssignValue x s) ts tt (us, sp, r)) (begins x ts _ sp.0)
statement_again limit positive (SetImmediateValue x v) ts (us, sp, values) =
    plain_line_again limit (SetImmediateValue x v) ts (plain_again limit positive (SetImmediateValue x v) ts tt (us, sp, values)) (begins x ts _ sp.0)
statement_again limit positive (Act x a) ts sp = plain_line_again limit (Act x a) ts (plain_again limit positive (Act x a) ts tt sp) (begins x ts _ sp.0)
statement_again limit positive (Log CocotbLog l x xs) ts (us, e, s, can) = plain_line_again limit (Log CocotbLog l x xs) ts (plain_again limit positive (Log CocotbLog l x xs) ts tt (us, e, s, can)) (rw e)
statement_again limit positive (Log (HierarchyLog f) l x xs) ts (us, sp, s, can) =
    plain_line_again limit (Log (HierarchyLog f) l x xs) ts (plain_again limit positive (Log (HierarchyLog f) l x xs) ts tt (us, sp, s, can)) (begins f ts _ sp.0)
statement_again limit positive (StartSoon f) ts (us, vs, e, s, closes) = plain_line_again limit (StartSoon f) ts (plain_again limit positive (StartSoon f) ts tt (us, vs, e, s, closes)) (rw e)
statement_again limit positive (PutNow x v) ts (us, sp, values) = plain_line_again limit (PutNow x v) ts (plain_again limit positive (PutNow x v) ts tt (us, sp, values)) (begins x ts _ sp.0)
statement_again limit positive (AssignAction x w) ts (us, sp, a) = plain_line_again limit (AssignAction x w) ts (plain_again limit positive (AssignAction x w) ts tt (us, sp, a)) (begins x ts _ sp.0)
statement_again limit positive (SetImmediateAction x w) ts (us, vs, sp, a, closes) =
    plain_line_again limit (SetImmediateAction x w) ts (plain_again limit positive (SetImmediateAction x w) ts tt (us, vs, sp, a, closes)) (begins x ts _ sp.0)

header_again : (limit : ℕ) (positive : 1 ≤ limit) (h : Header) (ts : List Token) → SpellsHeader h ts → body_of limit ts ≡ Some (kept_line limit (Heads h))
unfolding body_of
header_again limit positive (If x) ts (us, e, s) = rw (e, test_again limit x us s)
header_again limit positive (Elif x) ts (us, e, s) = rw (e, test_again limit x us s)
header_again limit positive (While x) ts (us, e, s) = rw (e, test_again limit x us s)
header_again limit positive Else ts e = rw (e, header_only_again Else)
header_again limit positive Try ts e = rw (e, header_only_again Try)
header_again limit positive (For n s) ts (us, e, sp) = rw (e, for_again limit n s us sp)
header_again limit positive (Except c) ts (us, e, s) = rw (e, except_again limit positive c us s)
header_again limit positive (With x) ts (us, e, s) = rw (e, with_again limit x us s)

pub body_again : (limit : ℕ) (positive : 1 ≤ limit) (l : BodyLine) (ts : List Token) → SpellsLine l ts → body_of limit ts ≡ Some (kept_line limit l)
body_again limit positive (Simple s) ts sp = statement_again limit positive s ts sp
body_again limit positive (Heads h) ts sp = header_again limit positive h ts sp

-- ---- forms of lines

form_low : (limit : ℕ) (l : BodyLine) (n : ℕ) → n ≤ limit → form_by limit (Some (l, n)) ≡ fits l
form_low limit l n h = grind arith

form_high : (limit : ℕ) (l : BodyLine) (n : ℕ) → limit < n → form_by limit (Some (l, n)) ≡ too_high
form_high limit l n h = grind arith

pub line_again : (limit : ℕ) (positive : 1 ≤ limit) (l : BodyLine) (ts : List Token) → SpellsLine l ts → line_height l ≤ limit → line_of limit ts ≡ fits l
unfolding line_of
line_again limit positive l ts s h = rw (body_again limit positive l ts s) (ap (λ v. form_by limit (Some v)) ((line_fits limit l).whole h) ∙ form_low limit l (line_height l) h)

pub line_high_again : (limit : ℕ) (positive : 1 ≤ limit) (l : BodyLine) (ts : List Token) → SpellsLine l ts → limit < line_height l → line_of limit ts ≡ too_high
unfolding line_of
line_high_again limit positive l ts s h = rw (body_again limit positive l ts s) (form_high limit (kept_line limit l).0 (kept_line limit l).1 ((line_fits limit l).over h))

pub line_none_is : (limit : ℕ) (positive : 1 ≤ limit) (ts : List Token) → line_of limit ts ≡ no_form → (l : BodyLine) → SpellsLine l ts → ⊥
line_none_is limit positive ts h l s = go (at_most_or_more (line_height l) limit)
  where
    low : fits l ≡ no_form → ⊥
    low e = cc

    high : too_high ≡ no_form → ⊥
    high e = cc

    go : (line_height l ≤ limit) ⊎ (limit < line_height l) → ⊥
    go (inl k) = low (sym (line_again limit positive l ts s k) ∙ h)
    go (inr k) = high (sym (line_high_again limit positive l ts s k) ∙ h)

fits_same : (l m : BodyLine) → fits l ≡ fits m → l ≡ m
fits_same l m h = cc

pub one_line_law : (l m : BodyLine) (ts : List Token) → SpellsLine l ts → SpellsLine m ts → l ≡ m
one_line_law l m ts a b =
    let n : ℕ = max 1 (max (line_height l) (line_height m)) in
    fits_same l m (sym (line_again n (omega arith) l ts a (omega arith)) ∙ line_again n (omega arith) m ts b (omega arith))

pub line_fits_is : (limit : ℕ) (positive : 1 ≤ limit) (ts : List Token) (l : BodyLine) → line_of limit ts ≡ fits l → SpellsLine l ts × (line_height l ≤ limit)
unfolding line_of
line_fits_is limit positive ts l h = go (body_of limit ts) refl h
  where
    clash : too_high ≡ fits l → SpellsLine l ts × (line_height l ≤ limit)
    clash e = absurd cc

    none : no_form ≡ fits l → SpellsLine l ts × (line_height l ≤ limit)
    none e = absurd cc

    at : (m : BodyLine) → SpellsLine m ts → form_by limit (Some (kept_line limit m)) ≡ fits l → (line_height m ≤ limit) ⊎ (limit < line_height m) → SpellsLine l ts × (line_height l ≤ limit)
    at m s e (inl k) =
        let same : m ≡ l = fits_same m l (sym (ap (λ v. form_by limit (Some v)) ((line_fits limit m).whole k) ∙ form_low limit m (line_height m) k) ∙ e) in
        (subst (λ n. SpellsLine n ts) same s, subst (λ n. line_height n ≤ limit) same k)
    at m s e (inr k) = clash (sym (form_high limit (kept_line limit m).0 (kept_line limit m).1 ((line_fits limit m).over k)) ∙ e)

    go : (o : Option (BodyLine × ℕ)) → body_of limit ts ≡ o → form_by limit o ≡ fits l → SpellsLine l ts × (line_height l ≤ limit)
    go None q e = none e
    go (Some v) q e =
        let (m, s, k) = body_sound limit positive ts v q in
        at m s (ap (λ w. form_by limit (Some w)) (sym k) ∙ e) (at_most_or_more (line_height m) limit)

pub line_high_is : (limit : ℕ) (positive : 1 ≤ limit) (ts : List Token) → line_of limit ts ≡ too_high → (l : BodyLine) × SpellsLine l ts × (limit < line_height l)
unfolding line_of
line_high_is limit positive ts h = go (body_of limit ts) refl h
  where
    none : no_form ≡ too_high → (l : BodyLine) × SpellsLine l ts × (limit < line_height l)
    none e = absurd cc

    clash : (m : BodyLine) → fits m ≡ too_high → (l : BodyLine) × SpellsLine l ts × (limit < line_height l)
    clash m e = absurd cc

    at : (m : BodyLine) → SpellsLine m ts → form_by limit (Some (kept_line limit m)) ≡ too_high → (line_height m ≤ limit) ⊎ (limit < line_height m) → (l : BodyLine) × SpellsLine l ts × (limit < line_height l)
    at m s e (inl k) = clash m (sym (ap (λ v. form_by limit (Some v)) ((line_fits limit m).whole k) ∙ form_low limit m (line_height m) k) ∙ e)
    at m s e (inr k) = (m, s, k)

    go : (o : Option (BodyLine × ℕ)) → body_of limit ts ≡ o → form_by limit o ≡ too_high → (l : BodyLine) × SpellsLine l ts × (limit < line_height l)
    go None q e = none e
    go (Some v) q e =
        let (m, s, k) = body_sound limit positive ts v q in
        at m s (ap (λ w. form_by limit (Some w)) (sym k) ∙ e) (at_most_or_more (line_height m) limit)
