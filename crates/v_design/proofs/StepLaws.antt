-- The step of a text that breaks no lexical rule is at least 1.
use Rattle.std.proofs.Common.{◌≡◌, ℕ, ◌+◌, ◌≤◌, Bool, true, false, if◌then◌else◌, List, [], ◌∷◌, length, Option, None, Some, inl, inr, ap, sym, subst, arith, refl, unwrap_or}
use Rattle.std.specs.Str.{bytes_eq}
use Rattle.std.proofs.Math.Nat.{one-le-mul}
use lib.Chars.{codes}
use Rattle.v_lex.specs.declared.directive.DirectiveWord.{DirectiveWord}
use Rattle.v_lex.specs.declared.directive.DirectiveWord.TheVariants as word
use Rattle.v_lex.specs.declared.directive.Directive.{Directive}
use Rattle.v_lex.specs.declared.directive.Directive.TheVariants as directive
use Rattle.v_lex.specs.declared.directive.LexRule.TheVariants as rule
use Rattle.v_lex.specs.declared.directive.Content.{Content}
use Rattle.v_lex.specs.declared.directive.Content.TheVariants as content
use Rattle.v_lex.specs.Times.{magnitude_of, unit_of}
use Rattle.v_lex.specs.Directives.{TimePart, Parts, IsDirective}
use Rattle.v_lex.specs.Lexing.{State, Scan, Lexed, least, after_directive, is_allowed, with_fault, with_content, after_content, is_taken, start, nanosecond}
use Rattle.v_lex.specs.Row.{Part, Stands, IsRow, told_of, told, Reads}
use Rattle.v_flat.specs.Design.{SourceText}
use Rattle.v_design.specs.Designs.{IsSourceOf}

-- a number that is there is at least 1
abbrev IsPositive : Option ℕ → Type 0
IsPositive None = Unit {0}
IsPositive (Some n) = 1 ≤ n

either : (b : Bool) (n : ℕ) (rest : Option ℕ) → 1 ≤ n → IsPositive rest → IsPositive (if b then Some n else rest)
either true n rest h k = h
either false n rest h k = k

-- ---- times

magnitude : (digits : List ℕ) → IsPositive (magnitude_of digits)
magnitude digits =
    either (bytes_eq digits (codes "1")) 1 _ (omega arith) (
    either (bytes_eq digits (codes "10")) 10 _ (omega arith) (
    either (bytes_eq digits (codes "100")) 100 None (omega arith) tt))

unit : (letters : List ℕ) → IsPositive (unit_of letters)
unit letters =
    either (bytes_eq letters (codes "s")) 1000000000000000 _ (omega arith) (
    either (bytes_eq letters (codes "ms")) 1000000000000 _ (omega arith) (
    either (bytes_eq letters (codes "us")) 1000000000 _ (omega arith) (
    either (bytes_eq letters (codes "ns")) 1000000 _ (omega arith) (
    either (bytes_eq letters (codes "ps")) 1000 _ (omega arith) (
    either (bytes_eq letters (codes "fs")) 1 None (omega arith) tt)))))

time : (n : ℕ) (bytes : List ℕ) → TimePart n bytes → 1 ≤ n
time n bytes h =
    let m : IsPositive (Some h.magnitude) = subst (λ (o : Option ℕ). IsPositive o) h.counted (magnitude h.digits) in
    let f : IsPositive (Some h.femtoseconds) = subst (λ (o : Option ℕ). IsPositive o) h.measured (unit h.unit) in
    subst (λ (t : ℕ). 1 ≤ t) (sym h.total) (one-le-mul m f)

-- ---- directives

scale : (u p : ℕ) (w : DirectiveWord) (parts behind : List ℕ) → Parts (directive.TimeScale u p) w parts behind → 1 ≤ p
scale u p word.TimeScale parts behind h = time p h.second h.precision_time
scale u p _ parts behind h = absurd h

least_one : (o : Option ℕ) (n : ℕ) → IsPositive o → 1 ≤ n → 1 ≤ least o n
least_one None n h k = k
least_one (Some m) n h k = omega (arith, h, k)

behind_directive : (s : State) (place : ℕ) (d : Directive) (bytes behind : List ℕ) → IsPositive s.step → IsDirective d bytes behind
    → IsPositive (after_directive s place d).step
unfolding after_directive
behind_directive s place (directive.TimeScale u p) bytes behind h k = least_one s.step p h (scale u p k.word k.parts behind k.has)
behind_directive s place _ bytes behind h k = h

-- ---- parts

behind_part : (taken : Bool) (s : State) (place : ℕ) (c : Content) (bytes behind : List ℕ) → IsPositive s.step → Stands taken c bytes behind
    → IsPositive (after_content s place c).step
unfolding after_content
behind_part taken s place content.Gap bytes behind h k = h
behind_part taken s place (content.Token t) bytes behind h k = h
behind_part taken s place (content.Broken r) bytes behind h k = h
behind_part taken s place (content.Directive d) bytes behind h (inl k) = absurd k
behind_part true s place (content.Directive d) bytes behind h (inr k) = behind_directive s place d bytes behind h k.1
behind_part false s place (content.Directive d) bytes behind h (inr k) = behind_directive s place d bytes behind h k.1.1

-- what stands before doesn't change how a scan ends
same_last : (s : State) (place : ℕ) (c : Content) (scan : Scan) → (with_content s place c scan).last ≡ scan.last
unfolding with_content
same_last s place content.Gap scan = refl
same_last s place (content.Token t) scan = refl
same_last s place (content.Broken r) scan = refl
same_last s place (content.Directive d) scan = go (is_allowed s d)
  where
    go : (b : Bool) → (if b then scan else with_fault place rule.Directive scan).last ≡ scan.last
    go true = refl
    go false = refl

behind_row : (s : State) (place : ℕ) (row : List Part) (text : List ℕ) → IsPositive s.step → IsRow s place row text
    → IsPositive (told_of s place row).last.step
unfolding IsRow told_of
behind_row s place [] text h k = h
behind_row s place (p ∷ ps) text h k =
    let next : State = after_content s place p.content in
    let rest : IsPositive (told_of next (place + length p.bytes) ps).last.step =
    behind_row next (place + length p.bytes) ps k.0 (behind_part (is_taken s.conditionals) s place p.content p.bytes k.0 h k.2) k.3 in
    subst (λ (t : State). IsPositive t.step) (sym (same_last s place p.content (told_of next (place + length p.bytes) ps))) rest

-- ---- texts

opening : IsPositive start.step
unfolding start
opening = tt

or_one : (o : Option ℕ) → IsPositive o → 1 ≤ unwrap_or o nanosecond
or_one None h = omega arith
or_one (Some n) h = h

pub step_is_positive : (text : List ℕ) (read : Lexed) → Reads text read → 1 ≤ read.step
step_is_positive text read (row, is, none, e) =
    subst (λ (n : ℕ). 1 ≤ n) (sym (ap (λ (l : Lexed). l.step) e)) (or_one (told row).last.step (behind_row start 0 row text opening is))

pub source_step : (text : List ℕ) (source : SourceText) → IsSourceOf text source → 1 ≤ source.step_fs
source_step text source h =
    subst (λ (n : ℕ). 1 ≤ n) (sym (ap (λ (s : SourceText). s.step_fs) h.is)) (step_is_positive text h.read h.reads)
