-- A text has one answer.
use Rattle.std.proofs.Common.{◌≡◌, ℕ, List, [], Option, None, Some, Result, Ok, Err, ap, sym, subst, ◌∙◌, refl, arith, ◌⊎◌, inl, inr, true}
use Rattle.py_syntax.specs.BlockTrees.{ModuleItem}
use Rattle.py_syntax.specs.Line.{Line, physical_line}
use Rattle.py_syntax.specs.Logical.{broken_on, first_broken, lines_of}
use Rattle.py_syntax.specs.Modules.{SpellsModule, module_lines}
use Rattle.py_syntax.specs.Outline.{Placed, Refusal, at_start, bad_line, no_block, too_deep}
use Rattle.py_syntax.specs.Places.{first_place}
use Rattle.py_syntax.specs.declared.piece.Broken.{Broken}
use Rattle.py_syntax.specs.declared.piece.LineRule.{LineRule}
use Rattle.py_syntax.specs.declared.piece.LineRule.TheVariants as lines
use Rattle.py_syntax.specs.declared.piece.Piece.{Piece}
use Rattle.py_syntax.proofs.Once.{spelled_once}
use Rattle.py_parse.specs.Reading.{outline_onto}
use Rattle.py_parse.proofs.OutlineLaws.{err_same, outline_again, outline_refused_again}
use Rattle.py_parse.proofs.ParseLaws.{one_module_law}
use Rattle.test_meaning.specs.Body.BodyTrees.{TestFile}
use Rattle.test_meaning.specs.Body.Sound.{is_sound}
use Rattle.test_meaning.specs.Check.{check, checked, meaning}
use Rattle.test_meaning.specs.Rules.File.{file_of}
use Rattle.test_meaning.specs.Rules.Rules.{refusal}
use Rattle.test_meaning.specs.declared.rules.rule.FileRule.{FileRule}
use Rattle.test_meaning.specs.declared.rules.rule.Refusal as broken
use Rattle.test_file.proofs.SoundLemmas.Files.{accepted_is_sound}
use Rattle.test_file.specs.Text.Tests.{BreaksAt, BreaksFile, BreaksForm, BreaksLines, HasLines, IsModuleOf, IsRefused, IsTests}
use Rattle.test_file.specs.declared.text.fault.TestsRefusal.{TestsRefusal}
use Rattle.test_file.specs.declared.text.fault.TestsRefusal.TheVariants as tests
use Rattle.test_file.specs.declared.text.rule.TestsRule.{TestsRule}
use Rattle.test_file.specs.declared.text.rule.TestsRule.TheVariants as rule
use Rattle.test_file.proofs.TextLemmas.StartLaws.{starts_are_right}

-- ---- lines and modules

one_lines : (text : List ℕ) (a b : List Line) → HasLines text a → HasLines text b → a ≡ b
one_lines text a b h k =
    h.are ∙ ap (λ (ps : List Piece). lines_of ps) (spelled_once first_place text h.pieces k.pieces h.spells k.spells) ∙ sym k.are

one_module : (text : List ℕ) (a b : List ModuleItem) → IsModuleOf text a → IsModuleOf text b → a ≡ b
one_module text a b h k =
    one_module_law a b k.lines (subst (λ (ls : List Line). SpellsModule a ls) (one_lines text h.lines k.lines h.has k.has) h.spells) k.spells

-- ---- broken rules of lines

rule_or : LineRule → Option Broken → LineRule
rule_or l None = l
rule_or l (Some b) = b.rule

line_or : Option Broken → ℕ
line_or None = 0
line_or (Some b) = b.line.0

one_broken : (text : List ℕ) (l m : LineRule) (p q : ℕ) → BreaksLines text l p → BreaksLines text m q → (l ≡ m) × (p ≡ q)
unfolding rule_or line_or
one_broken text l m p q h k =
    let same : first_broken h.pieces ≡ first_broken k.pieces =
    ap (λ (ps : List Piece). first_broken ps) (spelled_once first_place text h.pieces k.pieces h.spells k.spells) in
    let all : (let x : Option Broken = Some (broken_on p l) in x) ≡ Some (broken_on q m) = sym h.breaks ∙ same ∙ k.breaks in
    (ap (λ (o : Option Broken). rule_or l o) all, ap (λ (o : Option Broken). line_or o) all)

unbroken : (text : List ℕ) (l : LineRule) (p : ℕ) (ls : List Line) → BreaksLines text l p → HasLines text ls → ⊥
unbroken text l p ls h k =
    let same : first_broken h.pieces ≡ first_broken k.pieces =
    ap (λ (ps : List Piece). first_broken ps) (spelled_once first_place text h.pieces k.pieces h.spells k.spells) in
    let all : (let x : Option Broken = Some (broken_on p l) in x) ≡ None = sym h.breaks ∙ same ∙ k.breaks_none in
    cc

-- ---- broken rules of forms, blocks and limits

outline_refused : (text : List ℕ) (r : Refusal) (ls : List Line) → BreaksForm text r → HasLines text ls → outline_onto [] at_start ls ≡ Err r
outline_refused text r ls h k =
    subst (λ (xs : List Line). outline_onto [] at_start xs ≡ Err r) (one_lines text h.lines ls h.has k)
    (outline_refused_again h.lines [] at_start r h.refused)

one_form : (text : List ℕ) (r s : Refusal) → BreaksForm text r → BreaksForm text s → r ≡ s
one_form text r s h k = err_same r s (sym (outline_refused text r k.lines h k.has) ∙ outline_refused text s k.lines k k.has)

formed : (text : List ℕ) (r : Refusal) (items : List ModuleItem) → BreaksForm text r → IsModuleOf text items → ⊥
formed text r items h k =
    let all : (let x : Result (List Placed) Refusal = Err r in x) ≡ Ok (module_lines items) =
    sym (outline_refused text r k.lines h k.has) ∙ outline_again k.lines [] (module_lines items) at_start k.spells.1 k.is_within in
    cc

-- ---- broken rules of a file

broken_or : broken.Refusal → Result TestFile broken.Refusal → broken.Refusal
broken_or b (Ok f) = b
broken_or b (Err e) = e

file_or : TestFile → Result TestFile broken.Refusal → TestFile
file_or f (Ok g) = g
file_or f (Err e) = f

at : FileRule → ℕ → broken.Refusal
at r l = record { rule = r; line = physical_line l }

one_file_rule : (text : List ℕ) (r s : FileRule) (p q : ℕ) → BreaksFile text r p → BreaksFile text s q → (r ≡ s) × (p ≡ q)
unfolding broken_or at
one_file_rule text r s p q h k =
    let same : h.items ≡ k.items = one_module text h.items k.items h.is_module k.is_module in
    let all : (let x : Result TestFile broken.Refusal = Err (at r p) in x) ≡ Err (at s q) =
    sym h.is ∙ ap (λ (xs : List ModuleItem). check xs) same ∙ k.is in
    let e : at r p ≡ at s q = ap (λ (x : Result TestFile broken.Refusal). broken_or (at r p) x) all in
    (ap (λ (b : broken.Refusal). b.rule) e, ap (λ (b : broken.Refusal). b.line.0) e)

pub one_file : (text : List ℕ) (a b : TestFile) → IsTests text a → IsTests text b → a ≡ b
unfolding file_or
one_file text a b h k =
    let same : h.items ≡ k.items = one_module text h.items k.items h.is_module k.is_module in
    let all : (let x : Result TestFile broken.Refusal = Ok a in x) ≡ Ok b = sym h.is ∙ ap (λ (xs : List ModuleItem). check xs) same ∙ k.is in
    ap (λ (x : Result TestFile broken.Refusal). file_or a x) all

accepted : (text : List ℕ) (f : TestFile) (r : FileRule) (p : ℕ) → IsTests text f → BreaksFile text r p → ⊥
accepted text f r p h k =
    let same : h.items ≡ k.items = one_module text h.items k.items h.is_module k.is_module in
    let all : (let x : Result TestFile broken.Refusal = Ok f in x) ≡ Err (record { rule = r; line = physical_line p }) =
    sym h.is ∙ ap (λ (xs : List ModuleItem). check xs) same ∙ k.is in
    cc

-- ---- all rules

rule_of : LineRule → TestsRule
rule_of lines.Tab = rule.Tab
rule_of lines.Dedent = rule.Dedent
rule_of lines.UnclosedText = rule.UnclosedText
rule_of lines.BadByte = rule.BadByte

form_rule : Refusal → TestsRule
form_rule (bad_line n) = rule.BadLine
form_rule (no_block n) = rule.NoBlock
form_rule (too_deep n) = rule.TooDeep

form_line : Refusal → ℕ
form_line (bad_line n) = n
form_line (no_block n) = n
form_line (too_deep n) = n

-- a broken rule by its part: lines, forms, or a file
abbrev Cause : TestsRule → List ℕ → ℕ → Type 0
Cause r text p =
    ((l : LineRule) × (r ≡ rule_of l) × BreaksLines text l p)
    ⊎ (((f : Refusal) × (r ≡ form_rule f) × (p ≡ form_line f) × BreaksForm text f)
    ⊎ ((e : FileRule) × (r ≡ rule.File e) × BreaksFile text e p))

cause : (r : TestsRule) (text : List ℕ) (p : ℕ) → BreaksAt r text p → Cause r text p
unfolding rule_of form_rule form_line
cause rule.Tab text p h = inl (lines.Tab, refl, h)
cause rule.Dedent text p h = inl (lines.Dedent, refl, h)
cause rule.UnclosedText text p h = inl (lines.UnclosedText, refl, h)
cause rule.BadByte text p h = inl (lines.BadByte, refl, h)
cause rule.BadLine text p h = inr (inl (bad_line p, refl, refl, h))
cause rule.NoBlock text p h = inr (inl (no_block p, refl, refl, h))
cause rule.TooDeep text p h = inr (inl (too_deep p, refl, refl, h))
cause (rule.File e) text p h = inr (inr (e, refl, h))

one_cause : (text : List ℕ) (r s : TestsRule) (p q : ℕ) → Cause r text p → Cause s text q → (r ≡ s) × (p ≡ q)
one_cause text r s p q (inl (l, e, h)) (inl (m, f, k)) =
    let o : (l ≡ m) × (p ≡ q) = one_broken text l m p q h k in
    (e ∙ ap (λ (x : LineRule). rule_of x) o.0 ∙ sym f, o.1)
one_cause text r s p q (inl (l, e, h)) (inr (inl (g, f, i, k))) = absurd (unbroken text l p k.lines h k.has)
one_cause text r s p q (inl (l, e, h)) (inr (inr (x, f, k))) = absurd (unbroken text l p k.is_module.lines h k.is_module.has)
one_cause text r s p q (inr (inl (g, e, i, h))) (inl (m, f, k)) = absurd (unbroken text m q h.lines k h.has)
one_cause text r s p q (inr (inl (g, e, i, h))) (inr (inl (o, f, j, k))) =
    let same : g ≡ o = one_form text g o h k in
    (e ∙ ap (λ (x : Refusal). form_rule x) same ∙ sym f, i ∙ ap (λ (x : Refusal). form_line x) same ∙ sym j)
one_cause text r s p q (inr (inl (g, e, i, h))) (inr (inr (x, f, k))) = absurd (formed text g k.items h k.is_module)
one_cause text r s p q (inr (inr (x, e, h))) (inl (m, f, k)) = absurd (unbroken text m q h.is_module.lines k h.is_module.has)
one_cause text r s p q (inr (inr (x, e, h))) (inr (inl (g, f, j, k))) = absurd (formed text g h.items k h.is_module)
one_cause text r s p q (inr (inr (x, e, h))) (inr (inr (y, f, k))) =
    let o : (x ≡ y) × (p ≡ q) = one_file_rule text x y p q h k in
    (e ∙ ap (λ (z : FileRule). rule.File z) o.0 ∙ sym f, o.1)

-- ---- refusals

pub one_refusal : (text : List ℕ) (a b : TestsRefusal) → IsRefused a text → IsRefused b text → a ≡ b
one_refusal text tests.TooLong tests.TooLong h k = refl
one_refusal text tests.TooLong (tests.Broken s q) h k = absurd (omega (arith, h, k.0))
one_refusal text (tests.Broken r p) tests.TooLong h k = absurd (omega (arith, h.0, k))
one_refusal text (tests.Broken r p) (tests.Broken s q) h k =
    let same : (r ≡ s) × (p ≡ q) = one_cause text r s p q (cause r text p h.1) (cause s text q k.1) in
    ap (λ (x : TestsRule). tests.Broken x p) same.0 ∙ ap (λ (n : ℕ). tests.Broken s n) same.1

not_broken : (text : List ℕ) (f : TestFile) (r : TestsRule) (p : ℕ) → IsTests text f → Cause r text p → ⊥
not_broken text f r p h (inl (l, e, k)) = unbroken text l p h.is_module.lines k h.is_module.has
not_broken text f r p h (inr (inl (g, e, i, k))) = formed text g h.items k h.is_module
not_broken text f r p h (inr (inr (x, e, k))) = accepted text f x p h k

pub apart : (text : List ℕ) (f : TestFile) (b : TestsRefusal) → IsTests text f → IsRefused b text → ⊥
apart text f tests.TooLong h k = omega (arith, h.short, k)
apart text f (tests.Broken r p) h k = not_broken text f r p h (cause r text p k.1)

-- ---- soundness

kept : (xs : List ModuleItem) (o : Option broken.Refusal) (f : TestFile) → refusal (file_of xs) ≡ o → check xs ≡ Ok f → (o ≡ None) × (f ≡ meaning (file_of xs))
unfolding file_or
kept xs None f e h =
    let all : (let x : Result TestFile broken.Refusal = Ok (meaning (file_of xs)) in x) ≡ Ok f = sym (ap (λ (o : Option broken.Refusal). checked (file_of xs) o) e) ∙ h in
    (refl, sym (ap (λ (x : Result TestFile broken.Refusal). file_or f x) all))
kept xs (Some r) f e h =
    let all : (let x : Result TestFile broken.Refusal = Err r in x) ≡ Ok f = sym (ap (λ (o : Option broken.Refusal). checked (file_of xs) o) e) ∙ h in
    cc

pub tests_are_sound : (text : List ℕ) (f : TestFile) → IsTests text f → is_sound f ≡ true
tests_are_sound text f h =
    let k : (refusal (file_of h.items) ≡ None) × (f ≡ meaning (file_of h.items)) = kept h.items (refusal (file_of h.items)) f refl h.is in
    ap (λ (t : TestFile). is_sound t) k.1 ∙ accepted_is_sound h.items (starts_are_right h.items h.is_module.lines h.is_module.spells) k.0
