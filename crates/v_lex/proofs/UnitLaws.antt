-- The unit of time is that of the last directive that sets one, and each `module` has the unit that holds there.
use Rattle.std.proofs.Common.{◌≡◌, ℕ, suc, ◌+◌, Bool, true, false, cond, List, [], ◌∷◌, ◌++◌, length, Option, Some, None, ap, subst, ◌⊎◌, inl, inr, ◌∙◌, sym, refl, arith}
use Rattle.std.specs.Prelude.{All}
use Rattle.std.proofs.lemmas.List.Elements.{All-cons, All-nil}
use Rattle.v_syntax.specs.declared.token.Token.{Token}
use Rattle.v_syntax.specs.declared.token.Token.TheVariants as token
use Rattle.v_syntax.specs.declared.word.Keyword.TheVariants as word
use Rattle.v_lex.specs.declared.directive.Directive.TheVariants as directive
use Rattle.v_lex.specs.declared.directive.LexRule.TheVariants as rule
use Rattle.v_lex.specs.declared.directive.Content.{Content}
use Rattle.v_lex.specs.declared.directive.Content.TheVariants as content
use Rattle.v_lex.specs.Lexing.{State, Scan, is_allowed, with_fault, with_content, after_content, after_directive, start, nanosecond, is_module, with_unit, at_modules}
use Rattle.v_lex.specs.Row.{Part, told_of}
use Rattle.v_lex.specs.Conditionals.{state_after, place_behind}
use Rattle.v_lex.specs.Units.{set_unit, LeavesUnit, IsUnitOfLast, IsUnit, units_of}

-- ---- one part

abbrev Effect : State → ℕ → Content → Option ℕ → Type 0
Effect s place c None = (after_content s place c).unit ≡ s.unit
Effect s place c (Some unit) = (after_content s place c).unit ≡ unit

effect : (s : State) (place : ℕ) (c : Content) → Effect s place c (set_unit c)
unfolding after_content after_directive
effect s place (content.Directive (directive.TimeScale unit precision)) = refl
effect s place (content.Directive directive.ResetAll) = refl
effect s place (content.Directive _) = refl
effect s place _ = refl

effect_is : (s : State) (place : ℕ) (c : Content) (o : Option ℕ) → set_unit c ≡ o → Effect s place c o
effect_is s place c o h = subst (λ (x : Option ℕ). Effect s place c x) h (effect s place c)

-- ---- the parts of a text

-- the unit is that of the last part that sets one, or the one before where none does
abbrev IsLeft : ℕ → State → List Part → Type 0
IsLeft unit s ps = IsUnitOfLast unit ps ⊎ (All LeavesUnit ps × (unit ≡ s.unit))

one_before : (unit : ℕ) (p : Part) (ps : List Part) → IsUnitOfLast unit ps → IsUnitOfLast unit (p ∷ ps)
one_before unit p ps h = record {
  before = p ∷ h.before;
  part = h.part;
  behind = h.behind;
  is = ap (λ (xs : List Part). p ∷ xs) h.is;
  sets = h.sets;
  leave = h.leave;
}

is_left : (s : State) (place : ℕ) (ps : List Part) → IsLeft (state_after s place ps).unit s ps
unfolding state_after
is_left s place [] = inr (All-nil LeavesUnit, refl)
is_left s place (p ∷ ps) =
    go (is_left behind at ps) (set_unit p.content) refl
  where
    behind : State
    behind = after_content s place p.content

    at : ℕ
    at = place + length p.bytes

    unit : ℕ
    unit = (state_after behind at ps).unit

    go : IsLeft unit behind ps → (o : Option ℕ) → set_unit p.content ≡ o → IsLeft unit s (p ∷ ps)
    go (inl l) o e = inl (one_before unit p ps l)
    go (inr l) None e = inr (All-cons LeavesUnit p ps e l.0, l.1 ∙ effect_is s place p.content None e)
    go (inr l) (Some u) e = inl (record {
      before = [];
      part = p;
      behind = ps;
      is = refl;
      sets = e ∙ ap (λ (n : ℕ). Some n) (sym (l.1 ∙ effect_is s place p.content (Some u) e));
      leave = l.0;
    })

tail_leaves : (p : Part) (ps : List Part) → All LeavesUnit (p ∷ ps) → All LeavesUnit ps
tail_leaves p ps h = λ k d less. h (suc k) d (omega arith)

left_as_it_was : (s : State) (place : ℕ) (ps : List Part) → All LeavesUnit ps → (state_after s place ps).unit ≡ s.unit
unfolding state_after
left_as_it_was s place [] h = refl
left_as_it_was s place (p ∷ ps) h =
    left_as_it_was (after_content s place p.content) (place + length p.bytes) ps (tail_leaves p ps h)
    ∙ effect_is s place p.content None (h 0 p (omega arith))

set_last : (s : State) (place : ℕ) (unit : ℕ) (before : List Part) (p : Part) (ps : List Part) → set_unit p.content ≡ Some unit
    → All LeavesUnit ps → (state_after s place (before ++ p ∷ ps)).unit ≡ unit
unfolding state_after
set_last s place unit [] p ps e h =
    left_as_it_was (after_content s place p.content) (place + length p.bytes) ps h ∙ effect_is s place p.content (Some unit) e
set_last s place unit (q ∷ qs) p ps e h = set_last (after_content s place q.content) (place + length q.bytes) unit qs p ps e h

-- ---- from the start of a text on

start_unit : start.unit ≡ nanosecond
unfolding start
start_unit = refl

pub is_unit : (ps : List Part) (unit : ℕ) → (state_after start 0 ps).unit ≡ unit → IsUnit unit ps
is_unit ps unit h = subst (λ (n : ℕ). IsUnit n ps) h (go (is_left start 0 ps))
  where
    go : IsLeft (state_after start 0 ps).unit start ps → IsUnit (state_after start 0 ps).unit ps
    go (inl l) = inl l
    go (inr l) = inr (l.0, l.1 ∙ start_unit)

pub unit_is : (ps : List Part) (unit : ℕ) → IsUnit unit ps → (state_after start 0 ps).unit ≡ unit
unit_is ps unit (inl l) =
    ap (λ (xs : List Part). (state_after start 0 xs).unit) l.is ∙ set_last start 0 unit l.before l.part l.behind l.sets l.leave
unit_is ps unit (inr l) = left_as_it_was start 0 ps l.0 ∙ start_unit ∙ sym l.1

-- ---- the units at each `module`

abbrev units_from : State → ℕ → List Part → List ℕ
units_from s place ps = at_modules (told_of s place ps).tokens (told_of s place ps).units

-- the units of what a part tells, and of what stands behind it
abbrev with_part : State → Content → List ℕ → List ℕ
with_part s (content.Token t) units = with_unit t s.unit units
with_part s _ units = units

part_told : (s : State) (place : ℕ) (c : Content) (scan : Scan) → at_modules (with_content s place c scan).tokens (with_content s place c scan).units
    ≡ with_part s c (at_modules scan.tokens scan.units)
unfolding with_content at_modules
part_told s place content.Gap scan = refl
part_told s place (content.Token t) scan = refl
part_told s place (content.Directive d) scan =
    elim (is_allowed s d) as (λ b. at_modules (cond b scan (with_fault place rule.Directive scan)).tokens (cond b scan (with_fault place rule.Directive scan)).units ≡ at_modules scan.tokens scan.units)
    [ true ↦ refl | false ↦ refl ]
part_told s place (content.Broken r) scan = refl

part_appended : (s : State) (c : Content) (us vs : List ℕ) → with_part s c (us ++ vs) ≡ with_part s c us ++ vs
part_appended s (content.Token t) us vs = elim (is_module t) as (λ b. cond b (s.unit ∷ us ++ vs) (us ++ vs) ≡ cond b (s.unit ∷ us) us ++ vs) [ true ↦ refl | false ↦ refl ]
part_appended s content.Gap us vs = refl
part_appended s (content.Directive d) us vs = refl
part_appended s (content.Broken r) us vs = refl

first_told : (s : State) (place : ℕ) (p : Part) (ps : List Part)
    → units_from s place (p ∷ ps) ≡ with_part s p.content (units_from (after_content s place p.content) (place + length p.bytes) ps)
unfolding told_of
first_told s place p ps = part_told s place p.content (told_of (after_content s place p.content) (place + length p.bytes) ps)

none_told : (s : State) (place : ℕ) → units_from s place [] ≡ []
unfolding told_of at_modules
none_told s place = refl

told_behind : (s : State) (place : ℕ) (ps qs : List Part)
    → units_from s place (ps ++ qs) ≡ units_from s place ps ++ units_from (state_after s place ps) (place_behind place ps) qs
unfolding state_after
told_behind s place [] qs = sym (ap (λ (us : List ℕ). us ++ units_from s place qs) (none_told s place))
told_behind s place (p ∷ ps) qs =
    let behind = after_content s place p.content in
    let at = place + length p.bytes in
    let rest = units_from (state_after behind at ps) (place_behind at ps) qs in
    first_told s place p (ps ++ qs) ∙ ap (with_part s p.content) (told_behind behind at ps qs)
    ∙ part_appended s p.content (units_from behind at ps) rest ∙ sym (ap (λ (us : List ℕ). us ++ rest) (first_told s place p ps))

module_told : (s : State) (place : ℕ) (p : Part) (ps : List Part) → p.content ≡ content.Token (token.Keyword word.Module)
    → units_from s place (p ∷ ps) ≡ s.unit ∷ units_from (after_content s place p.content) (place + length p.bytes) ps
module_told s place p ps h =
    first_told s place p ps ∙ ap (λ (c : Content). with_part s c (units_from (after_content s place p.content) (place + length p.bytes) ps)) h

pub unit_told : (before : List Part) (p : Part) (ps : List Part) → p.content ≡ content.Token (token.Keyword word.Module)
    → (later : List ℕ) × (units_of (before ++ p ∷ ps) ≡ units_of before ++ (state_after start 0 before).unit ∷ later)
unit_told before p ps h =
    let s = state_after start 0 before in
    let at = place_behind 0 before in (
      units_from (after_content s at p.content) (at + length p.bytes) ps,
      told_behind start 0 before (p ∷ ps) ∙ ap (λ (us : List ℕ). units_of before ++ us) (module_told s at p ps h),
    )
