-- What is read of a line is what it says.
use Rattle.std.proofs.Common.{◌≡◌, ℕ, zero, suc, ◌<◌, ◌≤◌, Bool, true, false, List, [], ◌∷◌, Option, Some, None, refl, sym, ap, ◌∙◌, subst, arith}
use Rattle.py_syntax.specs.Line.{Line}
use Rattle.py_syntax.specs.ModuleTrees.{ModuleLine}
use Rattle.py_syntax.specs.StatementTrees.{BodyLine}
use Rattle.py_syntax.specs.Outline.{Content, Docstring, InModule, InBody, Says, content_height}
use Rattle.py_syntax.specs.declared.token.Token.{Token}
use Rattle.py_expression.specs.Shown.{height_limit}
use Rattle.py_parse.specs.ModuleLine.Reading.{line_of}
use Rattle.py_parse.proofs.ModuleLineLemmas.LineLaws.{line_sound, line_again}
use Rattle.py_statement.specs.Lines as body
use Rattle.py_statement.specs.Lines.{LineForm, fits, too_high, no_form}
use Rattle.py_parse.specs.Reading.{Said, says, high, nothing, said_docstring, said_module, said_body, said_by, said_of}
use Rattle.py_statement.proofs.LineLaws.{line_fits_is, line_high_is, line_none_is, one_line_law}
use Rattle.py_statement.proofs.LineLaws as body_laws

says_same : (a b : Content) → says a ≡ says b → a ≡ b
says_same a b e = ap (λ (s : Said). elim s as (λ _. Content) [ says c ↦ c | high ↦ a | nothing ↦ a ]) e

pub said_says : (d : ℕ) (l : Line) (c : Content) → said_of d l ≡ says c → Says d c l × (content_height c ≤ 64)
unfolding said_of Says content_height
said_says d l c e = by d l.is_docstring refl e
  where
    Right : ℕ → Content → Type 0
    Right n x = Says n x l × (content_height x ≤ 64)

    said_as : (n : ℕ) (x : Content) → says x ≡ says c → Right n x → Right n c
    said_as n x q h = let P : Content → Type 0 = λ y. Right n y in subst P (says_same x c q) h

    text : (n : ℕ) → l.is_docstring ≡ true → (ts : List Token) → l.tokens ≡ ts → said_docstring ts ≡ says c → Right n c
    text n q [] r h = said_as n Docstring h ((q, r), omega arith)
    text n q (t ∷ ts) r h = cc

    module_line : l.is_docstring ≡ false → (o : Option ModuleLine) → line_of l.tokens ≡ o → said_module o ≡ says c → Right zero c
    module_line q None r h = cc
    module_line q (Some m) r h = said_as zero (InModule m) h ((q, line_sound l.tokens m r), omega arith)

    body_line : (n : ℕ) → l.is_docstring ≡ false → (a : LineForm) → body.line_of height_limit l.tokens ≡ a → said_body a ≡ says c → Right (suc n) c
    body_line n q (fits m) r h = let k = line_fits_is height_limit (omega arith) l.tokens m r in said_as (suc n) (InBody m) h ((q, k.0), k.1)
    body_line n q too_high r h = cc
    body_line n q no_form r h = cc

    by : (n : ℕ) (b : Bool) → l.is_docstring ≡ b → said_by n l.tokens b ≡ says c → Right n c
    by n true q h = text n q l.tokens refl h
    by zero false q h = module_line q (line_of l.tokens) refl h
    by (suc n) false q h = body_line n q (body.line_of height_limit l.tokens) refl h

pub said_high : (d : ℕ) (l : Line) → said_of d l ≡ high → (c : Content) × Says d c l × (64 < content_height c)
unfolding said_of Says content_height
said_high d l e = by d l.is_docstring refl e
  where
    text : (n : ℕ) → (ts : List Token) → said_docstring ts ≡ high → (c : Content) × Says n c l × (64 < content_height c)
    text n [] h = cc
    text n (t ∷ ts) h = cc

    module_line : (o : Option ModuleLine) → said_module o ≡ high → (c : Content) × Says zero c l × (64 < content_height c)
    module_line None h = cc
    module_line (Some m) h = cc

    body_line : (n : ℕ) → l.is_docstring ≡ false → (a : LineForm) → body.line_of height_limit l.tokens ≡ a → said_body a ≡ high → (c : Content) × Says (suc n) c l × (64 < content_height c)
    body_line n q (fits m) r h = cc
    body_line n q too_high r h = let (m, s, k) = line_high_is height_limit (omega arith) l.tokens r in (InBody m, (q, s), k)
    body_line n q no_form r h = cc

    by : (n : ℕ) (b : Bool) → l.is_docstring ≡ b → said_by n l.tokens b ≡ high → (c : Content) × Says n c l × (64 < content_height c)
    by n true q h = text n l.tokens h
    by zero false q h = module_line (line_of l.tokens) h
    by (suc n) false q h = body_line n q (body.line_of height_limit l.tokens) refl h

pub said_again : (d : ℕ) (l : Line) (c : Content) → Says d c l → content_height c ≤ 64 → said_of d l ≡ says c
unfolding said_of Says content_height
said_again zero l Docstring h k = rw (h.0, h.1) refl
said_again (suc d) l Docstring h k = rw (h.0, h.1) refl
said_again zero l (InModule m) h k = rw (h.0, line_again l.tokens m h.1) refl
said_again (suc d) l (InModule m) h k = absurd h
said_again zero l (InBody b) h k = absurd h
said_again (suc d) l (InBody b) h k = rw (h.0, body_laws.line_again height_limit (omega arith) b l.tokens h.1 k) refl

pub said_nothing : (d : ℕ) (l : Line) (c : Content) → said_of d l ≡ nothing → Says d c l → ⊥
unfolding said_of Says content_height
said_nothing d l Docstring e h = differs (sym (said_again d l Docstring h (omega arith)) ∙ e)
  where
    differs : says Docstring ≡ nothing → ⊥
    differs q = cc
said_nothing d l (InModule m) e h = differs (sym (said_again d l (InModule m) h (omega arith)) ∙ e)
  where
    differs : says (InModule m) ≡ nothing → ⊥
    differs q = cc
said_nothing zero l (InBody b) e h = absurd h
said_nothing (suc d) l (InBody b) e h = by (body.line_of height_limit l.tokens) refl (sym (ap (λ (x : Bool). said_by (suc d) l.tokens x) h.0) ∙ e)
  where
    by : (a : LineForm) → body.line_of height_limit l.tokens ≡ a → said_body a ≡ nothing → ⊥
    by (fits m) q r = cc
    by too_high q r = cc
    by no_form q r = line_none_is height_limit (omega arith) l.tokens q b h.1

true_not_false : true ≡ false → ⊥
true_not_false e = cc

-- a line that says something says nothing else
pub content_one : (d : ℕ) (l : Line) (a b : Content) → Says d a l → Says d b l → a ≡ b
unfolding Says content_height
content_one d l Docstring Docstring ha hb = refl
content_one zero l Docstring (InModule m) ha hb = absurd (true_not_false (sym ha.0 ∙ hb.0))
content_one (suc d) l Docstring (InModule m) ha hb = absurd hb
content_one zero l Docstring (InBody b) ha hb = absurd hb
content_one (suc d) l Docstring (InBody b) ha hb = absurd (true_not_false (sym ha.0 ∙ hb.0))
content_one zero l (InModule m) Docstring ha hb = absurd (true_not_false (sym hb.0 ∙ ha.0))
content_one zero l (InModule m) (InModule n) ha hb =
    says_same (InModule m) (InModule n) (sym (said_again zero l (InModule m) ha (omega arith)) ∙ said_again zero l (InModule n) hb (omega arith))
content_one zero l (InModule m) (InBody b) ha hb = absurd hb
content_one (suc d) l (InModule m) b ha hb = absurd ha
content_one zero l (InBody a) b ha hb = absurd ha
content_one (suc d) l (InBody a) Docstring ha hb = absurd (true_not_false (sym hb.0 ∙ ha.0))
content_one (suc d) l (InBody a) (InModule m) ha hb = absurd hb
content_one (suc d) l (InBody a) (InBody b) ha hb = ap (λ (x : BodyLine). InBody x) (one_line_law a b l.tokens ha.1 hb.1)
