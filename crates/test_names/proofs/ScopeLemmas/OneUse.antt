-- The rule that one use breaks.
use Rattle.std.proofs.Common.{◌≡◌, Bool, true, false, not, ◌&&◌, ◌||◌, List, [], ◌∷◌, Option, Some, None, refl, sym, ap, ◌∙◌, if◌then◌else◌}
use Rattle.std.specs.Option.{is_some, option_map}
use Rattle.test_meaning.specs.Rules.File.{File, Definition, factory, fixed_of, function, is_known}
use Rattle.test_meaning.specs.Rules.Names.{Name, is_among}
use Rattle.test_meaning.specs.Rules.Rules.{is_unknown, astray, takes, fits, parameter_places}
use Rattle.test_meaning.specs.Rules.Uses.{Use, Around, Reads, Needs, Takes, Calls, Makes, Extends}
use Rattle.py_syntax.specs.declared.constant.Const.{Const}
use Rattle.py_syntax.specs.declared.constant.Const.TheVariants as constant
use Rattle.py_syntax.specs.declared.module.Parameter.{Parameter}
use Rattle.test_meaning.specs.declared.rules.rule.FileRule.{FileRule}
use Rattle.test_meaning.specs.declared.rules.rule.FileRule.TheVariants as rule
use Rattle.test_names.specs.Uses.Answer.{answer}
use Rattle.test_names.specs.Scope.Judged.{judged}

-- by what is unknown (b) and astray (c)
broken : (b c k m : Bool) → b ≡ not k → (k ≡ true → c ≡ not m)
    → judged k m ≡ (if b || false then Some rule.UnknownName else (if c || false then Some rule.Misplaced else None))
broken true c false m e p = refl
broken false true true false e p = refl
broken false false true true e p = refl
broken false false true false e p = let h : false ≡ true = p refl in cc
broken false true true true e p = let h : true ≡ false = p refl in cc
broken true c true m e p = cc
broken false c false m e p = cc

-- what is asked of a use, by whether its name is known and whether it is in place
pub one_use : (f : File) (a : Around) (u : Use) (k m : Bool) → is_unknown f a u ≡ not k → (k ≡ true → astray f a u ≡ not m) → judged k m ≡ answer f a (u ∷ [])
unfolding answer
one_use f a u k m e p = broken (is_unknown f a u) (astray f a u) k m e p

-- what was asked, by what it says
pub by_parts : (r x : Option FileRule) (k m l n : Bool) → r ≡ judged k m → k ≡ l → m ≡ n → judged l n ≡ x → r ≡ x
by_parts r x k m l n e p q h = e ∙ ap (λ b. judged b m) p ∙ ap (λ c. judged l c) q ∙ h

-- a name that is known as the function's own, or in the file, and perhaps as a constant
value : (l f c : Bool) → (l || f) ≡ true → (f && not (l || c)) ≡ not (l || c)
value true true c e = refl
value true false c e = refl
value false true c e = refl
value false false c e = cc

pub read : (f : File) (a : Around) (n : Name)
    → judged (is_among n a.locals || is_known f n) (is_among n a.locals || is_some (fixed_of f.constants n)) ≡ answer f a (Reads n ∷ [])
read f a n = one_use f a (Reads n) _ _ refl (value (is_among n a.locals) (is_known f n) (is_some (fixed_of f.constants n)))

pub needed : (f : File) (a : Around) (n : Name) → judged (is_among n a.locals || is_known f n) true ≡ answer f a (Needs n ∷ [])
needed f a n = one_use f a (Needs n) _ true refl (λ h. refl)

pub taken : (f : File) (a : Around) (n : Name)
    → judged (is_among n a.locals || is_known f n) (is_some (fixed_of a.above.constants n)) ≡ answer f a (Takes (constant.Named n) ∷ [])
taken f a n = one_use f a (Takes (constant.Named n)) _ _ refl (λ h. refl)

pub called : (f : File) (a : Around) (n : Name) (xs : List (Option Name))
    → judged (is_among n a.locals || is_known f n) (takes xs (function f n)) ≡ answer f a (Calls n xs ∷ [])
called f a n xs = one_use f a (Calls n xs) _ _ refl (λ h. refl)

pub made : (f : File) (a : Around) (n : Name)
    → judged (is_among n a.locals || is_known f n) (is_some (function a.above n)) ≡ answer f a (Makes n ∷ [])
made f a n = one_use f a (Makes n) _ _ refl (λ h. refl)

pub extended : (f : File) (a : Around) (n : Name)
    → judged (is_among n a.locals || is_known f n) (is_some (factory a.above n)) ≡ answer f a (Extends n ∷ [])
extended f a n = one_use f a (Extends n) _ _ refl (λ h. refl)

-- a constant that is a name
pub taken_by : (f : File) (a : Around) (c : Const) (n b d : Name) (r : Option FileRule) (k m : Bool)
    → r ≡ judged k m → k ≡ (is_among b a.locals || is_known f b) → m ≡ is_some (fixed_of a.above.constants d) → b ≡ n → d ≡ n → c ≡ constant.Named n
    → r ≡ answer f a (Takes c ∷ [])
taken_by f a c n b d r k m e p q s t is =
    by_parts r (answer f a (Takes (constant.Named n) ∷ [])) k m _ (is_some (fixed_of a.above.constants n)) e
    (p ∙ ap (λ x. is_among x a.locals || is_known f x) s) (q ∙ ap (λ x. is_some (fixed_of a.above.constants x)) t) (taken f a n)
    ∙ ap (λ x. answer f a (Takes x ∷ [])) (sym is)

-- another constant
pub plain : (f : File) (a : Around) (c : Const) → ((n : Name) → c ≡ constant.Named n → ⊥) → None ≡ answer f a (Takes c ∷ [])
plain f a constant.Absent h = one_use f a (Takes constant.Absent) true true refl (λ e. refl)
plain f a (constant.Truth b) h = one_use f a (Takes (constant.Truth b)) true true refl (λ e. refl)
plain f a (constant.Whole z) h = one_use f a (Takes (constant.Whole z)) true true refl (λ e. refl)
plain f a (constant.Text t) h = one_use f a (Takes (constant.Text t)) true true refl (λ e. refl)
plain f a (constant.Named n) h = absurd (h n refl)

-- arguments of a call, by the parameters of its function
pub accepted : (xs : List (Option Name)) (o : Option Definition) (ps : List Parameter) (fit : Bool)
    → Some ps ≡ option_map (λ (d : Definition). d.parameters) o → fit ≡ fits ps (parameter_places ps 0 xs) → fit ≡ takes xs o
accepted xs None ps fit e p = cc
accepted xs (Some d) ps fit e p = p ∙ ap (λ qs. fits qs (parameter_places qs 0 xs)) (same ps d.parameters e)
  where
    same : (qs rs : List Parameter) → Some qs ≡ Some rs → qs ≡ rs
    same qs rs h = cc

pub refused : (xs : List (Option Name)) (o : Option Definition) → None ≡ option_map (λ (d : Definition). d.parameters) o → false ≡ takes xs o
refused xs None e = refl
refused xs (Some d) e = cc
