-- The step of a text is 1, 10 or 100 of a unit of time, so that a VCD text can spell it.
use Rattle.std.proofs.Common.{◌≡◌, ◌⊎◌, ℕ, ◌+◌, ◌*◌, ◌<◌, Bool, true, false, if◌then◌else◌, List, [], ◌∷◌, length, min, Option, None, Some, inl, inr, ap, sym, subst, arith, refl, unwrap_or}
use Rattle.std.specs.Prelude.{is_some}
use Rattle.std.proofs.lemmas.Bool.{cases_order}
use Rattle.std.specs.Str.{bytes_eq}
use lib.Chars.{codes}
use Rattle.v_lex.specs.declared.directive.DirectiveWord.{DirectiveWord}
use Rattle.v_lex.specs.declared.directive.DirectiveWord.TheVariants as word
use Rattle.v_lex.specs.declared.directive.Directive.{Directive}
use Rattle.v_lex.specs.declared.directive.Directive.TheVariants as directive
use Rattle.v_lex.specs.declared.directive.LexRule.TheVariants as rule
use Rattle.v_lex.specs.declared.directive.Content.{Content}
use Rattle.v_lex.specs.declared.directive.Content.TheVariants as content
use Rattle.v_lex.specs.Times.{magnitude_of, unit_of}
use Rattle.v_lex.specs.Directives.{TimePart, Parts, IsDirective}
use Rattle.v_lex.specs.Lexing.{State, Scan, Lexed, least, after_directive, is_allowed, with_fault, with_content, after_content, is_taken, start, nanosecond}
use Rattle.v_lex.specs.Row.{Part, Stands, IsRow, told_of, told, Reads}
use Rattle.vcd_text.specs.Spelling.{spelled_step}
use Rattle.v_flat.specs.Design.{SourceText}
use Rattle.v_design.specs.Designs.{IsSourceOf}

-- a VCD text has a spelling for the step
abbrev Spells : ℕ → Type 0
Spells n = is_some (spelled_step n) ≡ true

-- a step that is there has one
abbrev AnySpells : Option ℕ → Type 0
AnySpells None = Unit {0}
AnySpells (Some n) = Spells n

-- ---- times

abbrev IsMagnitude : Option ℕ → Type 0
IsMagnitude None = Unit {0}
IsMagnitude (Some n) = (n ≡ 1) ⊎ ((n ≡ 10) ⊎ (n ≡ 100))

abbrev IsUnit : Option ℕ → Type 0
IsUnit None = Unit {0}
IsUnit (Some n) =
    (n ≡ 1000000000000000) ⊎ ((n ≡ 1000000000000) ⊎ ((n ≡ 1000000000) ⊎ ((n ≡ 1000000) ⊎ ((n ≡ 1000) ⊎ (n ≡ 1)))))

one_magnitude : (b : Bool) (n : ℕ) (rest : Option ℕ) → IsMagnitude (Some n) → IsMagnitude rest → IsMagnitude (if b then Some n else rest)
one_magnitude true n rest h k = h
one_magnitude false n rest h k = k

one_unit : (b : Bool) (n : ℕ) (rest : Option ℕ) → IsUnit (Some n) → IsUnit rest → IsUnit (if b then Some n else rest)
one_unit true n rest h k = h
one_unit false n rest h k = k

magnitude : (digits : List ℕ) → IsMagnitude (magnitude_of digits)
magnitude digits =
    one_magnitude (bytes_eq digits (codes "1")) 1 _ (inl refl) (
    one_magnitude (bytes_eq digits (codes "10")) 10 _ (inr (inl refl)) (
    one_magnitude (bytes_eq digits (codes "100")) 100 None (inr (inr refl)) tt))

unit : (letters : List ℕ) → IsUnit (unit_of letters)
unit letters =
    one_unit (bytes_eq letters (codes "s")) 1000000000000000 _ (inl refl) (
    one_unit (bytes_eq letters (codes "ms")) 1000000000000 _ (inr (inl refl)) (
    one_unit (bytes_eq letters (codes "us")) 1000000000 _ (inr (inr (inl refl))) (
    one_unit (bytes_eq letters (codes "ns")) 1000000 _ (inr (inr (inr (inl refl)))) (
    one_unit (bytes_eq letters (codes "ps")) 1000 _ (inr (inr (inr (inr (inl refl))))) (
    one_unit (bytes_eq letters (codes "fs")) 1 None (inr (inr (inr (inr (inr refl))))) tt)))))

-- one of the units, so often
by_unit : (count f : ℕ) → Spells (count * 1000000000000000) → Spells (count * 1000000000000) → Spells (count * 1000000000) → Spells (count * 1000000)
    → Spells (count * 1000) → Spells (count * 1) → IsUnit (Some f) → Spells (count * f)
by_unit count f a b c d e g (inl is) = subst (λ (n : ℕ). Spells (count * n)) (sym is) a
by_unit count f a b c d e g (inr (inl is)) = subst (λ (n : ℕ). Spells (count * n)) (sym is) b
by_unit count f a b c d e g (inr (inr (inl is))) = subst (λ (n : ℕ). Spells (count * n)) (sym is) c
by_unit count f a b c d e g (inr (inr (inr (inl is)))) = subst (λ (n : ℕ). Spells (count * n)) (sym is) d
by_unit count f a b c d e g (inr (inr (inr (inr (inl is))))) = subst (λ (n : ℕ). Spells (count * n)) (sym is) e
by_unit count f a b c d e g (inr (inr (inr (inr (inr is))))) = subst (λ (n : ℕ). Spells (count * n)) (sym is) g

by_count : (count f : ℕ) → IsMagnitude (Some count) → IsUnit (Some f) → Spells (count * f)
by_count count f (inl is) u = subst (λ (n : ℕ). Spells (n * f)) (sym is) (by_unit 1 f refl refl refl refl refl refl u)
by_count count f (inr (inl is)) u = subst (λ (n : ℕ). Spells (n * f)) (sym is) (by_unit 10 f refl refl refl refl refl refl u)
by_count count f (inr (inr is)) u = subst (λ (n : ℕ). Spells (n * f)) (sym is) (by_unit 100 f refl refl refl refl refl refl u)

time : (n : ℕ) (bytes : List ℕ) → TimePart n bytes → Spells n
time n bytes h =
    let m : IsMagnitude (Some h.magnitude) = subst (λ (o : Option ℕ). IsMagnitude o) h.counted (magnitude h.digits) in
    let f : IsUnit (Some h.femtoseconds) = subst (λ (o : Option ℕ). IsUnit o) h.measured (unit h.unit) in
    subst (λ (t : ℕ). Spells t) (sym h.total) (by_count h.magnitude h.femtoseconds m f)

-- ---- directives

scale : (u p : ℕ) (w : DirectiveWord) (parts behind : List ℕ) → Parts (directive.TimeScale u p) w parts behind → Spells p
scale u p word.TimeScale parts behind h = time p h.second h.precision_time
scale u p _ parts behind h = absurd h

lesser : (m n : ℕ) → (min m n ≡ m) ⊎ (min m n ≡ n)
lesser m n = by (cases_order m n)
  where
    by : (m ≡ n) ⊎ ((m < n) ⊎ (n < m)) → (min m n ≡ m) ⊎ (min m n ≡ n)
    by (inl h) = inl (omega (arith, h))
    by (inr (inl h)) = inl (omega (arith, h))
    by (inr (inr h)) = inr (omega (arith, h))

least_spells : (o : Option ℕ) (n : ℕ) → AnySpells o → Spells n → Spells (least o n)
least_spells None n h k = k
least_spells (Some m) n h k = by (lesser m n)
  where
    by : (min m n ≡ m) ⊎ (min m n ≡ n) → Spells (min m n)
    by (inl is) = subst (λ (t : ℕ). Spells t) (sym is) h
    by (inr is) = subst (λ (t : ℕ). Spells t) (sym is) k

behind_directive : (s : State) (place : ℕ) (d : Directive) (bytes behind : List ℕ) → AnySpells s.step → IsDirective d bytes behind
    → AnySpells (after_directive s place d).step
unfolding after_directive
behind_directive s place (directive.TimeScale u p) bytes behind h k = least_spells s.step p h (scale u p k.word k.parts behind k.has)
behind_directive s place _ bytes behind h k = h

-- ---- parts

behind_part : (taken : Bool) (s : State) (place : ℕ) (c : Content) (bytes behind : List ℕ) → AnySpells s.step → Stands taken c bytes behind
    → AnySpells (after_content s place c).step
unfolding after_content
behind_part taken s place content.Gap bytes behind h k = h
behind_part taken s place (content.Token t) bytes behind h k = h
behind_part taken s place (content.Broken r) bytes behind h k = h
behind_part taken s place (content.Directive d) bytes behind h (inl k) = absurd k
behind_part true s place (content.Directive d) bytes behind h (inr k) = behind_directive s place d bytes behind h k.1
behind_part false s place (content.Directive d) bytes behind h (inr k) = behind_directive s place d bytes behind h k.1.1

-- what stands before doesn't change how a scan ends
same_last : (s : State) (place : ℕ) (c : Content) (scan : Scan) → (with_content s place c scan).last ≡ scan.last
unfolding with_content
same_last s place content.Gap scan = refl
same_last s place (content.Token t) scan = refl
same_last s place (content.Broken r) scan = refl
same_last s place (content.Directive d) scan = go (is_allowed s d)
  where
    go : (b : Bool) → (if b then scan else with_fault place rule.Directive scan).last ≡ scan.last
    go true = refl
    go false = refl

behind_row : (s : State) (place : ℕ) (row : List Part) (text : List ℕ) → AnySpells s.step → IsRow s place row text
    → AnySpells (told_of s place row).last.step
unfolding IsRow told_of
behind_row s place [] text h k = h
behind_row s place (p ∷ ps) text h k =
    let next : State = after_content s place p.content in
    let rest : AnySpells (told_of next (place + length p.bytes) ps).last.step =
    behind_row next (place + length p.bytes) ps k.0 (behind_part (is_taken s.conditionals) s place p.content p.bytes k.0 h k.2) k.3 in
    subst (λ (t : State). AnySpells t.step) (sym (same_last s place p.content (told_of next (place + length p.bytes) ps))) rest

-- ---- texts

opening : AnySpells start.step
unfolding start
opening = tt

or_nanosecond : (o : Option ℕ) → AnySpells o → Spells (unwrap_or o nanosecond)
or_nanosecond None h = refl
or_nanosecond (Some n) h = h

text_spells : (text : List ℕ) (read : Lexed) → Reads text read → Spells read.step
text_spells text read (row, is, none, e) =
    subst (λ (n : ℕ). Spells n) (sym (ap (λ (l : Lexed). l.step) e)) (or_nanosecond (told row).last.step (behind_row start 0 row text opening is))

pub source_spells : (text : List ℕ) (source : SourceText) → IsSourceOf text source → is_some (spelled_step source.step_fs) ≡ true
source_spells text source h =
    subst (λ (n : ℕ). Spells n) (sym (ap (λ (s : SourceText). s.step_fs) h.is)) (text_spells text h.read h.reads)
