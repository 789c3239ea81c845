-- The lines of a VCD text, taken apart: each stands for one thing at the most, and is found to stand for it.
use Rattle.std.specs.Prelude.{◌≡◌, ◌≢◌, ◌⊎◌, ◌<◌, ◌≤◌, ◌^◌, ◌==◌, ◌+◌, ◌-◌, ◌*◌, ◌/◌, ◌%◌, ◌||◌, ◌&&◌, ℕ, zero, suc, not, nat_lt, Bool, true, false, List, [], ◌∷◌, ◌++◌, codes, drop, get_or, length, Option, None, Some, Result, Ok, Err, IfOk, MatchOption, Decides, bytes_eq, if◌then◌else◌, refl}
use Rattle.std.specs.List.{list_all}
use Rattle.std.specs.Option.{option_or}
use Rattle.std.specs.Fmt.{decimal}
use Rattle.std.proofs.Common.{ap, sym, subst, ◌∙◌, append_assoc, arith, inl, inr}
use Rattle.std.proofs.lemmas.Bool.{true≢false}
use Rattle.std.proofs.lemmas.Bool.Decides.{nat_tests}
use Rattle.std.proofs.lemmas.Slice.Eq.{bytes_eq-Decides}
use Rattle.std.proofs.lemmas.List.{append_cancel_left, append_cancel_right}
use Rattle.std.proofs.lemmas.Fmt.{decimal_injective}
use Rattle.port_io.specs.declared.ports.NoMemory.{NoMemory}
use Rattle.four_value.specs.declared.Digit.{Digit}
use Rattle.four_value.specs.declared.Digit.TheVariants.{X, Z, Zero, One}
use Rattle.vcd_text.specs.Names.{is_name}
use Rattle.vcd_text.specs.Splits.{has_no_blank, SplitsFirst}
use Rattle.vcd_text.specs.Spelling.{TimeUnit, is_digit, line, spelled_step, step_among, step_in, time_units, code, code_digits, value_front}
use Rattle.vcd_text.specs.Text.{kind_word, range_text, scope_line, step_line}
use Rattle.vcd_text.specs.Forms.{IsStep, IsScope, IsStart, IsVar, IsTime, IsCut, IsPair, IsCounted, is_unit_end, name_end, number_of, var_line}
use Rattle.vcd_text.proofs.SplitLaws.{decimal_no_blank, digits_no_blank, first_once, has_blank}
use Rattle.vcd_text.proofs.OneList.{code_lacks, lacks, lacks_both, number_is, one_digit, len_one, not_b, head_digit, code_once}

-- ---- `$scope`

scope_is : (name : List ℕ) → scope_line name ≡ codes "$scope module " ++ (name ++ line (codes " $end"))
scope_is name = ap (λ (l : List ℕ). codes "$scope module " ++ l) (append_assoc name (codes " $end") (10 ∷ []))

pub scope_cut : (text rest name : List ℕ) → text ≡ codes "$scope module " ++ rest → rest ≡ name ++ line (codes " $end") → text ≡ scope_line name
scope_cut text rest name e f = e ∙ (ap (λ (l : List ℕ). codes "$scope module " ++ l) f ∙ sym (scope_is name))

pub scope_rest : (text rest name : List ℕ) → text ≡ codes "$scope module " ++ rest → IsScope text name → rest ≡ name ++ line (codes " $end")
scope_rest text rest name e s = append_cancel_left (codes "$scope module ") rest (name ++ line (codes " $end")) (sym e ∙ (s.spelled ∙ scope_is name))

pub no_scope_front : (text : List ℕ) → ((rest : List ℕ) → text ≢ codes "$scope module " ++ rest) → (name : List ℕ) → IsScope text name → ⊥
no_scope_front text none name s = none (name ++ line (codes " $end")) (s.spelled ∙ scope_is name)

pub no_scope_name : (text rest : List ℕ) → text ≡ codes "$scope module " ++ rest → ((name : List ℕ) → is_name name ≡ true → rest ≢ name ++ line (codes " $end")) → (name : List ℕ) → IsScope text name → ⊥
no_scope_name text rest e none name s = none name s.named (scope_rest text rest name e s)

pub scope_once : (text a b : List ℕ) → IsScope text a → IsScope text b → a ≡ b
scope_once text a b s t =
    append_cancel_right a b (line (codes " $end"))
    (append_cancel_left (codes "$scope module ") (a ++ line (codes " $end")) (b ++ line (codes " $end")) (sym (scope_is a) ∙ (sym s.spelled ∙ (t.spelled ∙ scope_is b))))

-- ---- `$timescale`

some_once : {T : Type 0} (a b : T) → Some a ≡ Some b → a ≡ b
some_once a b e = cc

none_some : {T : Type 0} (a : T) → None ≡ Some a → ⊥
none_some a e = absurd (cc)

-- one of these units has this name
abbrev HasName : List TimeUnit → List ℕ → Type 0
HasName [] name = ⊥
HasName (unit ∷ units) name = (unit.name ≡ name) ⊎ HasName units name

in_unit : (name words : List ℕ) (u v w : Bool) → (if u then Some (codes "1 " ++ name) else (if v then Some (codes "10 " ++ name) else (if w then Some (codes "100 " ++ name) else None))) ≡ Some words
    → IsCounted words name
in_unit name words true v w e = inl (sym (some_once (codes "1 " ++ name) words e))
in_unit name words false true w e = inr (inl (sym (some_once (codes "10 " ++ name) words e)))
in_unit name words false false true e = inr (inr (sym (some_once (codes "100 " ++ name) words e)))
in_unit name words false false false e = absurd (none_some words e)

among_by : (step : ℕ) (unit : TimeUnit) (units : List TimeUnit) (words : List ℕ) (o : Option (List ℕ)) → step_in step unit ≡ o
    → (step_among step units ≡ Some words → (name : List ℕ) × HasName units name × IsCounted words name) → option_or o (step_among step units) ≡ Some words
    → (name : List ℕ) × HasName (unit ∷ units) name × IsCounted words name
among_by step unit units words None is others f = let more = others f in (more.0, inr more.1, more.2)
among_by step unit units words (Some found) is others f =
    (unit.name, inl refl, in_unit unit.name words (step == unit.femtoseconds) (step == 10 * unit.femtoseconds) (step == 100 * unit.femtoseconds) (is ∙ f))

among : (step : ℕ) (units : List TimeUnit) (words : List ℕ) → step_among step units ≡ Some words → (name : List ℕ) × HasName units name × IsCounted words name
among step [] words e = absurd (none_some words e)
among step (unit ∷ units) words e = among_by step unit units words (step_in step unit) refl (among step units words) e

end_is : (name : List ℕ) → line (name ++ codes " $end") ≡ name ++ line (codes " $end")
end_is name = append_assoc name (codes " $end") (10 ∷ [])

or_left : (a b : Bool) → a ≡ true → (a || b) ≡ true
or_left true b e = refl
or_left false b e = absurd (true≢false (sym e))

or_right : (a b : Bool) → b ≡ true → (a || b) ≡ true
or_right true b e = refl
or_right false b e = e

or_parts : (a b : Bool) → (a || b) ≡ true → (a ≡ true) ⊎ (b ≡ true)
or_parts true b e = inl refl
or_parts false b e = inr e

-- the text is a unit's name and the end of its line
abbrev EndsUnit : List ℕ → Type 0
EndsUnit text = (name : List ℕ) × HasName time_units name × (text ≡ name ++ line (codes " $end"))

module _ (text : List ℕ) where
  is_end : List ℕ → Bool
  is_end name = bytes_eq text (name ++ line (codes " $end"))

  as_end : (own name : List ℕ) → text ≡ name ++ line (codes " $end") → own ≡ name → bytes_eq text (own ++ line (codes " $end")) ≡ true
  as_end own name e n = (bytes_eq-Decides text (own ++ line (codes " $end"))).1 (e ∙ ap (λ (l : List ℕ). l ++ line (codes " $end")) (sym n))

  abbrev e1 : Bool
  e1 = bytes_eq text (line (codes "s $end"))

  abbrev e2 : Bool
  e2 = bytes_eq text (line (codes "ms $end"))

  abbrev e3 : Bool
  e3 = bytes_eq text (line (codes "us $end"))

  abbrev e4 : Bool
  e4 = bytes_eq text (line (codes "ns $end"))

  abbrev e5 : Bool
  e5 = bytes_eq text (line (codes "ps $end"))

  abbrev e6 : Bool
  e6 = bytes_eq text (line (codes "fs $end"))

  ends_with : (name : List ℕ) → text ≡ name ++ line (codes " $end") → HasName time_units name → is_unit_end text ≡ true
  ends_with name e (inl n) =
      or_left ((((e1 || e2) || e3) || e4) || e5) e6 (or_left (((e1 || e2) || e3) || e4) e5 (or_left ((e1 || e2) || e3) e4 (or_left (e1 || e2) e3 (or_left e1 e2 (as_end (codes "s") name e n)))))
  ends_with name e (inr (inl n)) =
      or_left ((((e1 || e2) || e3) || e4) || e5) e6 (or_left (((e1 || e2) || e3) || e4) e5 (or_left ((e1 || e2) || e3) e4 (or_left (e1 || e2) e3 (or_right e1 e2 (as_end (codes "ms") name e n)))))
  ends_with name e (inr (inr (inl n))) =
      or_left ((((e1 || e2) || e3) || e4) || e5) e6 (or_left (((e1 || e2) || e3) || e4) e5 (or_left ((e1 || e2) || e3) e4 (or_right (e1 || e2) e3 (as_end (codes "us") name e n))))
  ends_with name e (inr (inr (inr (inl n)))) =
      or_left ((((e1 || e2) || e3) || e4) || e5) e6 (or_left (((e1 || e2) || e3) || e4) e5 (or_right ((e1 || e2) || e3) e4 (as_end (codes "ns") name e n)))
  ends_with name e (inr (inr (inr (inr (inl n))))) =
      or_left ((((e1 || e2) || e3) || e4) || e5) e6 (or_right (((e1 || e2) || e3) || e4) e5 (as_end (codes "ps") name e n))
  ends_with name e (inr (inr (inr (inr (inr (inl n)))))) = or_right ((((e1 || e2) || e3) || e4) || e5) e6 (as_end (codes "fs") name e n)
  ends_with name e (inr (inr (inr (inr (inr (inr n)))))) = absurd n

  end_of : (name : List ℕ) → bytes_eq text (name ++ line (codes " $end")) ≡ true → text ≡ name ++ line (codes " $end")
  end_of name h = (bytes_eq-Decides text (name ++ line (codes " $end"))).0 h

  named_by : is_unit_end text ≡ true → EndsUnit text
  named_by h = by6 (or_parts ((((e1 || e2) || e3) || e4) || e5) e6 h)
    where
      by2 : (e1 ≡ true) ⊎ (e2 ≡ true) → EndsUnit text
      by2 (inl k) = (codes "s", inl refl, end_of (codes "s") k)
      by2 (inr k) = (codes "ms", inr (inl refl), end_of (codes "ms") k)

      by3 : ((e1 || e2) ≡ true) ⊎ (e3 ≡ true) → EndsUnit text
      by3 (inl k) = by2 (or_parts e1 e2 k)
      by3 (inr k) = (codes "us", inr (inr (inl refl)), end_of (codes "us") k)

      by4 : (((e1 || e2) || e3) ≡ true) ⊎ (e4 ≡ true) → EndsUnit text
      by4 (inl k) = by3 (or_parts (e1 || e2) e3 k)
      by4 (inr k) = (codes "ns", inr (inr (inr (inl refl))), end_of (codes "ns") k)

      by5 : ((((e1 || e2) || e3) || e4) ≡ true) ⊎ (e5 ≡ true) → EndsUnit text
      by5 (inl k) = by4 (or_parts ((e1 || e2) || e3) e4 k)
      by5 (inr k) = (codes "ps", inr (inr (inr (inr (inl refl)))), end_of (codes "ps") k)

      by6 : (((((e1 || e2) || e3) || e4) || e5) ≡ true) ⊎ (e6 ≡ true) → EndsUnit text
      by6 (inl k) = by5 (or_parts (((e1 || e2) || e3) || e4) e5 k)
      by6 (inr k) = (codes "fs", inr (inr (inr (inr (inr (inl refl))))), end_of (codes "fs") k)

-- the parts of the line of a step
record StepParts (text rest unit : List ℕ) : Type 0 where
  is : text ≡ codes "$timescale " ++ rest
  counted : IsCounted rest unit
  ends : EndsUnit unit

with_unit : (fs : ℕ) (name : List ℕ) → spelled_step fs ≡ Some (codes "1 " ++ name) → spelled_step (10 * fs) ≡ Some (codes "10 " ++ name) → spelled_step (100 * fs) ≡ Some (codes "100 " ++ name)
    → (text rest unit : List ℕ) → text ≡ codes "$timescale " ++ rest → unit ≡ name ++ line (codes " $end") → IsCounted rest unit → (step : ℕ) × IsStep text step
with_unit fs name one ten hundred text rest unit is ends counted = by counted
  where
    text_is : (count : List ℕ) → rest ≡ count ++ unit → text ≡ codes "$timescale " ++ (count ++ line (name ++ codes " $end"))
    text_is count c = is ∙ ap (λ (l : List ℕ). codes "$timescale " ++ l) (c ∙ ap (λ (l : List ℕ). count ++ l) (ends ∙ sym (end_is name)))

    by : IsCounted rest unit → (step : ℕ) × IsStep text step
    by (inl c) = (fs, record { words = codes "1 " ++ name; known = one; spelled = text_is (codes "1 ") c })
    by (inr (inl c)) = (10 * fs, record { words = codes "10 " ++ name; known = ten; spelled = text_is (codes "10 ") c })
    by (inr (inr c)) = (100 * fs, record { words = codes "100 " ++ name; known = hundred; spelled = text_is (codes "100 ") c })

step_made : (text rest unit : List ℕ) → StepParts text rest unit → (step : ℕ) × IsStep text step
step_made text rest unit p = by p.ends.0 p.ends.1 p.ends.2
  where
    by : (name : List ℕ) → HasName time_units name → unit ≡ name ++ line (codes " $end") → (step : ℕ) × IsStep text step
    by name (inl n) e = with_unit (10 ^ 15) (codes "s") refl refl refl text rest unit p.is (e ∙ ap (λ (l : List ℕ). l ++ line (codes " $end")) (sym n)) p.counted
    by name (inr (inl n)) e = with_unit (10 ^ 12) (codes "ms") refl refl refl text rest unit p.is (e ∙ ap (λ (l : List ℕ). l ++ line (codes " $end")) (sym n)) p.counted
    by name (inr (inr (inl n))) e = with_unit (10 ^ 9) (codes "us") refl refl refl text rest unit p.is (e ∙ ap (λ (l : List ℕ). l ++ line (codes " $end")) (sym n)) p.counted
    by name (inr (inr (inr (inl n)))) e = with_unit (10 ^ 6) (codes "ns") refl refl refl text rest unit p.is (e ∙ ap (λ (l : List ℕ). l ++ line (codes " $end")) (sym n)) p.counted
    by name (inr (inr (inr (inr (inl n))))) e = with_unit (10 ^ 3) (codes "ps") refl refl refl text rest unit p.is (e ∙ ap (λ (l : List ℕ). l ++ line (codes " $end")) (sym n)) p.counted
    by name (inr (inr (inr (inr (inr (inl n)))))) e = with_unit 1 (codes "fs") refl refl refl text rest unit p.is (e ∙ ap (λ (l : List ℕ). l ++ line (codes " $end")) (sym n)) p.counted
    by name (inr (inr (inr (inr (inr (inr n)))))) e = absurd n

step_parts : (text : List ℕ) (step : ℕ) → IsStep text step → (rest : List ℕ) × (unit : List ℕ) × StepParts text rest unit
step_parts text step s = by (among step time_units s.words s.known)
  where
    parts : (name count : List ℕ) → HasName time_units name → s.words ≡ count ++ name → IsCounted (count ++ (name ++ line (codes " $end"))) (name ++ line (codes " $end"))
        → line (codes "$timescale " ++ (count ++ name) ++ codes " $end") ≡ codes "$timescale " ++ (count ++ line (name ++ codes " $end"))
        → (rest : List ℕ) × (unit : List ℕ) × StepParts text rest unit
    parts name count has e counted is = (
      count ++ (name ++ line (codes " $end")),
      name ++ line (codes " $end"),
      record {
        is = s.spelled ∙ (ap (λ (l : List ℕ). step_line (Some l)) e ∙ (is ∙ ap (λ (l : List ℕ). codes "$timescale " ++ (count ++ l)) (end_is name)));
        counted = counted;
        ends = (name, has, refl);
      },
    )

    by : (name : List ℕ) × HasName time_units name × IsCounted s.words name → (rest : List ℕ) × (unit : List ℕ) × StepParts text rest unit
    by (name, has, inl c) = parts name (codes "1 ") has c (inl refl) refl
    by (name, has, inr (inl c)) = parts name (codes "10 ") has c (inr (inl refl)) refl
    by (name, has, inr (inr c)) = parts name (codes "100 ") has c (inr (inr refl)) refl

second : (a b x y : ℕ) (xs ys : List ℕ) → a ∷ x ∷ xs ≡ b ∷ y ∷ ys → x ≡ y
second a b x y xs ys e = cc

third : (a b c d x y : ℕ) (xs ys : List ℕ) → a ∷ c ∷ x ∷ xs ≡ b ∷ d ∷ y ∷ ys → x ≡ y
third a b c d x y xs ys e = cc

counted_once : (text a b : List ℕ) → IsCounted text a → IsCounted text b → a ≡ b
counted_once text a b (inl p) (inl q) = ap (drop 2) (sym p ∙ q)
counted_once text a b (inl p) (inr (inl q)) = let h = second 49 49 32 48 a (32 ∷ b) (sym p ∙ q) in absurd (omega (arith, h))
counted_once text a b (inl p) (inr (inr q)) = let h = second 49 49 32 48 a (48 ∷ 32 ∷ b) (sym p ∙ q) in absurd (omega (arith, h))
counted_once text a b (inr (inl p)) (inl q) = let h = second 49 49 48 32 (32 ∷ a) b (sym p ∙ q) in absurd (omega (arith, h))
counted_once text a b (inr (inl p)) (inr (inl q)) = ap (drop 3) (sym p ∙ q)
counted_once text a b (inr (inl p)) (inr (inr q)) = let h = third 49 49 48 48 32 48 a (32 ∷ b) (sym p ∙ q) in absurd (omega (arith, h))
counted_once text a b (inr (inr p)) (inl q) = let h = second 49 49 48 32 (48 ∷ 32 ∷ a) b (sym p ∙ q) in absurd (omega (arith, h))
counted_once text a b (inr (inr p)) (inr (inl q)) = let h = third 49 49 48 48 48 32 (32 ∷ a) b (sym p ∙ q) in absurd (omega (arith, h))
counted_once text a b (inr (inr p)) (inr (inr q)) = ap (drop 4) (sym p ∙ q)

pub no_step_front : (text : List ℕ) → ((rest : List ℕ) → text ≢ codes "$timescale " ++ rest) → (step : ℕ) × IsStep text step → ⊥
no_step_front text none (step, s) = let p = step_parts text step s in none p.0 p.2.is

same_rest : (text a b : List ℕ) → text ≡ codes "$timescale " ++ a → text ≡ codes "$timescale " ++ b → a ≡ b
same_rest text a b e f = append_cancel_left (codes "$timescale ") a b (sym e ∙ f)

pub no_step_count : (text rest : List ℕ) → text ≡ codes "$timescale " ++ rest → ((unit : List ℕ) → IsCounted rest unit → ⊥) → (step : ℕ) × IsStep text step → ⊥
no_step_count text rest e none (step, s) =
    let p = step_parts text step s in none p.1 (subst (λ (l : List ℕ). IsCounted l p.1) (sym (same_rest text rest p.0 e p.2.is)) p.2.counted)

pub step_by_unit : (text rest unit : List ℕ) → text ≡ codes "$timescale " ++ rest → IsCounted rest unit → (ends : Bool) → ends ≡ is_unit_end unit → Decides ends ((step : ℕ) × IsStep text step)
step_by_unit text rest unit e counted ends is = (
  λ go. step_made text rest unit (record { is = e; counted = counted; ends = named_by unit (sym is ∙ go) }),
  λ found. let p = step_parts text found.0 found.1 in
      let same_unit : unit ≡ p.1 = counted_once rest unit p.1 counted (subst (λ (l : List ℕ). IsCounted l p.1) (sym (same_rest text rest p.0 e p.2.is)) p.2.counted) in
      is ∙ ends_with unit p.2.ends.0 (same_unit ∙ p.2.ends.2) p.2.ends.1,
)

-- ---- `$var`

cut_is : (v k w c n r e f : List ℕ)
    → (((((((((v ++ k) ++ 32 ∷ []) ++ w) ++ 32 ∷ []) ++ c) ++ 32 ∷ []) ++ n) ++ r) ++ e) ++ f ≡ v ++ (k ++ 32 ∷ (w ++ 32 ∷ (c ++ 32 ∷ (n ++ ((r ++ e) ++ f)))))
cut_is v k w c n r e f =
    append_assoc ((((((((v ++ k) ++ 32 ∷ []) ++ w) ++ 32 ∷ []) ++ c) ++ 32 ∷ []) ++ n) ++ r) e f
    ∙ (append_assoc (((((((v ++ k) ++ 32 ∷ []) ++ w) ++ 32 ∷ []) ++ c) ++ 32 ∷ []) ++ n) r (e ++ f)
    ∙ (ap (λ (l : List ℕ). (((((((v ++ k) ++ 32 ∷ []) ++ w) ++ 32 ∷ []) ++ c) ++ 32 ∷ []) ++ n) ++ l) (sym (append_assoc r e f))
    ∙ (append_assoc ((((((v ++ k) ++ 32 ∷ []) ++ w) ++ 32 ∷ []) ++ c) ++ 32 ∷ []) n ((r ++ e) ++ f)
    ∙ (append_assoc (((((v ++ k) ++ 32 ∷ []) ++ w) ++ 32 ∷ []) ++ c) (32 ∷ []) (n ++ ((r ++ e) ++ f))
    ∙ (append_assoc ((((v ++ k) ++ 32 ∷ []) ++ w) ++ 32 ∷ []) c (32 ∷ (n ++ ((r ++ e) ++ f)))
    ∙ (append_assoc (((v ++ k) ++ 32 ∷ []) ++ w) (32 ∷ []) (c ++ 32 ∷ (n ++ ((r ++ e) ++ f)))
    ∙ (append_assoc ((v ++ k) ++ 32 ∷ []) w (32 ∷ (c ++ 32 ∷ (n ++ ((r ++ e) ++ f))))
    ∙ (append_assoc (v ++ k) (32 ∷ []) (w ++ 32 ∷ (c ++ 32 ∷ (n ++ ((r ++ e) ++ f))))
    ∙ append_assoc v k (32 ∷ (w ++ 32 ∷ (c ++ 32 ∷ (n ++ ((r ++ e) ++ f)))))))))))))

-- the line as it is cut
var_is : (number : ℕ) (name : List ℕ) (start : Digit) (width : ℕ)
    → var_line number name start width ≡ codes "$var " ++ (kind_word start ++ 32 ∷ (decimal width ++ 32 ∷ (code number ++ 32 ∷ (name ++ name_end width))))
var_is number name start width = cut_is (codes "$var ") (kind_word start) (decimal width) (code number) name (range_text width) (codes " $end") (10 ∷ [])

kind_whole : (start : Digit) → has_no_blank (kind_word start) ≡ true
kind_whole X = refl
kind_whole Z = refl
kind_whole Zero = refl
kind_whole One = refl

pub var_cut : (text : List ℕ) (number : ℕ) (name : List ℕ) (start : Digit) (width : ℕ) → IsVar text number name start width
    → IsCut text (kind_word start) (decimal width) (code number) (name ++ name_end width)
var_cut text number name start width v = record {
  is = v.spelled ∙ var_is number name start width;
  kind_whole = kind_whole start;
  width_whole = let m = v.most in decimal_no_blank width (omega (arith, m));
  code_whole = code_lacks 32 (omega arith) (suc number) number;
}

module _ (text kind width code rest : List ℕ) (cut : IsCut text kind width code rest) where
  behind_var : (r0 : List ℕ) → text ≡ codes "$var " ++ r0 → r0 ≡ kind ++ 32 ∷ (width ++ 32 ∷ (code ++ 32 ∷ rest))
  behind_var r0 e = append_cancel_left (codes "$var ") r0 (kind ++ 32 ∷ (width ++ 32 ∷ (code ++ 32 ∷ rest))) (sym e ∙ cut.is)

  behind_kind : (r0 k r1 : List ℕ) → text ≡ codes "$var " ++ r0 → SplitsFirst r0 k r1 → (k ≡ kind) × (r1 ≡ width ++ 32 ∷ (code ++ 32 ∷ rest))
  behind_kind r0 k r1 e s = first_once k r1 kind (width ++ 32 ∷ (code ++ 32 ∷ rest)) s.none cut.kind_whole (sym s.is ∙ behind_var r0 e)

  behind_width : (r0 k r1 w r2 : List ℕ) → text ≡ codes "$var " ++ r0 → SplitsFirst r0 k r1 → SplitsFirst r1 w r2 → (w ≡ width) × (r2 ≡ code ++ 32 ∷ rest)
  behind_width r0 k r1 w r2 e s t = first_once w r2 width (code ++ 32 ∷ rest) t.none cut.width_whole (sym t.is ∙ (behind_kind r0 k r1 e s).1)

pub no_var_front : (text : List ℕ) → ((rest : List ℕ) → text ≢ codes "$var " ++ rest) → (kind width code rest : List ℕ) → IsCut text kind width code rest → ⊥
no_var_front text none kind width code rest cut = none (kind ++ 32 ∷ (width ++ 32 ∷ (code ++ 32 ∷ rest))) cut.is

pub no_var_kind : (text r0 : List ℕ) → text ≡ codes "$var " ++ r0 → has_no_blank r0 ≡ true → (kind width code rest : List ℕ) → IsCut text kind width code rest → ⊥
no_var_kind text r0 e none kind width code rest cut =
    has_blank kind (width ++ 32 ∷ (code ++ 32 ∷ rest)) (subst (λ (l : List ℕ). has_no_blank l ≡ true) (behind_var text kind width code rest cut r0 e) none)

pub no_var_width : (text r0 k r1 : List ℕ) → text ≡ codes "$var " ++ r0 → SplitsFirst r0 k r1 → has_no_blank r1 ≡ true → (kind width code rest : List ℕ) → IsCut text kind width code rest → ⊥
no_var_width text r0 k r1 e s none kind width code rest cut =
    has_blank width (code ++ 32 ∷ rest) (subst (λ (l : List ℕ). has_no_blank l ≡ true) (behind_kind text kind width code rest cut r0 k r1 e s).1 none)

pub no_var_code : (text r0 k r1 w r2 : List ℕ) → text ≡ codes "$var " ++ r0 → SplitsFirst r0 k r1 → SplitsFirst r1 w r2 → has_no_blank r2 ≡ true
    → (kind width code rest : List ℕ) → IsCut text kind width code rest → ⊥
no_var_code text r0 k r1 w r2 e s t none kind width code rest cut =
    has_blank code rest (subst (λ (l : List ℕ). has_no_blank l ≡ true) (behind_width text kind width code rest cut r0 k r1 w r2 e s t).1 none)

pub cut_made : (text r0 k r1 w r2 c r3 : List ℕ) → text ≡ codes "$var " ++ r0 → SplitsFirst r0 k r1 → SplitsFirst r1 w r2 → SplitsFirst r2 c r3 → IsCut text k w c r3
cut_made text r0 k r1 w r2 c r3 e s t u = record {
  is = e ∙ ap (λ (l : List ℕ). codes "$var " ++ l) (s.is ∙ ap (λ (l : List ℕ). k ++ 32 ∷ l) (t.is ∙ ap (λ (l : List ℕ). w ++ 32 ∷ l) u.is));
  kind_whole = s.none;
  width_whole = t.none;
  code_whole = u.none;
}

-- two ways to cut a line are one
record SameCut (k w c r k' w' c' r' : List ℕ) : Type 0 where
  kind : k ≡ k'
  width : w ≡ w'
  code : c ≡ c'
  rest : r ≡ r'

cut_same : (text k w c r k' w' c' r' : List ℕ) → IsCut text k w c r → IsCut text k' w' c' r' → SameCut k w c r k' w' c' r'
cut_same text k w c r k' w' c' r' a b = record { kind = kinds.0; width = widths.0; code = codes_are.0; rest = codes_are.1 }
  where
    kinds : (k ≡ k') × ((w ++ 32 ∷ (c ++ 32 ∷ r)) ≡ (w' ++ 32 ∷ (c' ++ 32 ∷ r')))
    kinds = first_once k (w ++ 32 ∷ (c ++ 32 ∷ r)) k' (w' ++ 32 ∷ (c' ++ 32 ∷ r')) a.kind_whole b.kind_whole
        (append_cancel_left (codes "$var ") (k ++ 32 ∷ (w ++ 32 ∷ (c ++ 32 ∷ r))) (k' ++ 32 ∷ (w' ++ 32 ∷ (c' ++ 32 ∷ r'))) (sym a.is ∙ b.is))

    widths : (w ≡ w') × ((c ++ 32 ∷ r) ≡ (c' ++ 32 ∷ r'))
    widths = first_once w (c ++ 32 ∷ r) w' (c' ++ 32 ∷ r') a.width_whole b.width_whole kinds.1

    codes_are : (c ≡ c') × (r ≡ r')
    codes_are = first_once c r c' r' a.code_whole b.code_whole widths.1

-- no signal is declared
abbrev pub NoVar : List ℕ → Type 0
NoVar text = (number : ℕ) (name : List ℕ) (start : Digit) (width : ℕ) → IsVar text number name start width → ⊥

pub no_var_cut : (text : List ℕ) → ((kind width code rest : List ℕ) → IsCut text kind width code rest → ⊥) → NoVar text
no_var_cut text none number name start width v =
    none (kind_word start) (decimal width) (code number) (name ++ name_end width) (var_cut text number name start width v)

module _ (text k w c r : List ℕ) (cut : IsCut text k w c r) where
  same_var : (number : ℕ) (name : List ℕ) (start : Digit) (width : ℕ) → IsVar text number name start width
      → SameCut k w c r (kind_word start) (decimal width) (code number) (name ++ name_end width)
  same_var number name start width v =
      cut_same text k w c r (kind_word start) (decimal width) (code number) (name ++ name_end width) cut (var_cut text number name start width v)

  pub no_var_start : ((start : Digit) → IsStart start → k ≢ kind_word start) → NoVar text
  no_var_start none number name start width v = none start v.start_is (same_var number name start width v).kind

  pub no_var_wide : ((width : ℕ) → 1 ≤ width → width ≤ 128 → w ≢ decimal width) → NoVar text
  no_var_wide none number name start width v = none width v.least v.most (same_var number name start width v).width

  pub no_var_number : ((number : ℕ) → number < 65536 → c ≢ code number) → NoVar text
  no_var_number none number name start width v = none number v.numbered (same_var number name start width v).code

  pub no_var_name : (width : ℕ) → width ≤ 128 → w ≡ decimal width → ((name : List ℕ) → is_name name ≡ true → r ≢ name ++ name_end width) → NoVar text
  no_var_name own small e none number name start width v =
      let m = v.most in
      let same : own ≡ width = decimal_injective own width (omega (arith, small)) (omega (arith, m)) (sym e ∙ (same_var number name start width v).width) in
      none name v.named ((same_var number name start width v).rest ∙ ap (λ (n : ℕ). name ++ name_end n) (sym same))

  pub var_made : (number : ℕ) (name : List ℕ) (start : Digit) (width : ℕ) → IsStart start × (k ≡ kind_word start) → (1 ≤ width) × (width ≤ 128) × (w ≡ decimal width)
      → (number < 65536) × (c ≡ code number) → (is_name name ≡ true) × (r ≡ name ++ name_end width) → IsVar text number name start width
  var_made number name start width s d n m = record {
    spelled = cut.is
        ∙ (ap (λ (l : List ℕ). codes "$var " ++ (l ++ 32 ∷ (w ++ 32 ∷ (c ++ 32 ∷ r)))) s.1
        ∙ (ap (λ (l : List ℕ). codes "$var " ++ (kind_word start ++ 32 ∷ (l ++ 32 ∷ (c ++ 32 ∷ r)))) d.2
        ∙ (ap (λ (l : List ℕ). codes "$var " ++ (kind_word start ++ 32 ∷ (decimal width ++ 32 ∷ (l ++ 32 ∷ r)))) n.1
        ∙ (ap (λ (l : List ℕ). codes "$var " ++ (kind_word start ++ 32 ∷ (decimal width ++ 32 ∷ (code number ++ 32 ∷ l)))) m.1
        ∙ sym (var_is number name start width)))));
    named = m.0;
    start_is = s.0;
    least = d.0;
    most = d.1;
    numbered = n.0;
  }

-- a line declares one signal at the most
pub record SameVar (number : ℕ) (name : List ℕ) (start : Digit) (width number' : ℕ) (name' : List ℕ) (start' : Digit) (width' : ℕ) : Type 0 where
  pub number_is : number ≡ number'
  pub name_is : name ≡ name'
  pub start_is : start ≡ start'
  pub width_is : width ≡ width'

start_once : (a b : Digit) → IsStart a → IsStart b → kind_word a ≡ kind_word b → a ≡ b
start_once a b (inl p) (inl q) e = p ∙ sym q
start_once a b (inr p) (inr q) e = p ∙ sym q
start_once a b (inl p) (inr q) e =
    let f : codes "reg" ≡ codes "wire" = ap kind_word (sym p) ∙ (e ∙ ap kind_word q) in let h = second 114 119 101 105 (103 ∷ []) (114 ∷ 101 ∷ []) f in absurd (omega (arith, h))
start_once a b (inr p) (inl q) e =
    let f : codes "wire" ≡ codes "reg" = ap kind_word (sym p) ∙ (e ∙ ap kind_word q) in let h = second 119 114 105 101 (114 ∷ 101 ∷ []) (103 ∷ []) f in absurd (omega (arith, h))

pub var_once : (text : List ℕ) (n : ℕ) (m : List ℕ) (s : Digit) (w n' : ℕ) (m' : List ℕ) (s' : Digit) (w' : ℕ) → IsVar text n m s w → IsVar text n' m' s' w' → SameVar n m s w n' m' s' w'
var_once text n m s w n' m' s' w' a b = record {
  number_is = code_once n n' same.code;
  name_is = append_cancel_right m m' (name_end w') (ap (λ (k : ℕ). m ++ name_end k) (sym widths) ∙ same.rest);
  start_is = start_once s s' a.start_is b.start_is same.kind;
  width_is = widths;
}
  where
    same : SameCut (kind_word s) (decimal w) (code n) (m ++ name_end w) (kind_word s') (decimal w') (code n') (m' ++ name_end w')
    same = same_var text (kind_word s) (decimal w) (code n) (m ++ name_end w) (var_cut text n m s w a) n' m' s' w' b

    widths : w ≡ w'
    widths = let p = a.most in let q = b.most in decimal_injective w w' (omega (arith, p)) (omega (arith, q)) same.width

-- ---- the parts of that line

pub no_start : (kind : List ℕ) → kind ≢ codes "reg" → kind ≢ codes "wire" → (start : Digit) → IsStart start → kind ≢ kind_word start
no_start kind reg wire start (inl e) f = reg (f ∙ ap kind_word e)
no_start kind reg wire start (inr e) f = wire (f ∙ ap kind_word e)

pub width_said : (text : List ℕ) (number : ℕ) → text ≡ decimal number → number < 2 ^ 64 → (r : Option ℕ)
    → MatchOption r (1 ≤ number → number ≤ 128 → ⊥) (λ width. (width ≡ number) × (1 ≤ width) × (width ≤ 128))
    → MatchOption r ((width : ℕ) → 1 ≤ width → width ≤ 128 → text ≢ decimal width) (λ width. (1 ≤ width) × (width ≤ 128) × (text ≡ decimal width))
width_said text number e below None h = λ width least most f.
    let same : number ≡ width = decimal_injective number width below (omega (arith, most)) (sym e ∙ f) in
    h (subst (λ (n : ℕ). 1 ≤ n) (sym same) least) (subst (λ (n : ℕ). n ≤ 128) (sym same) most)
width_said text number e below (Some width) h = (h.1, h.2, e ∙ ap decimal (sym h.0))

pub no_width : (text : List ℕ) → ((time : ℕ) → time < 2 ^ 64 → text ≡ decimal time → ⊥) → (width : ℕ) → 1 ≤ width → width ≤ 128 → text ≢ decimal width
no_width text none width least most e = none width (omega (arith, most)) e

-- codes of numbers that aren't large are short
short : (last : Bool) (xs : List ℕ) (n : ℕ) → (last ≡ false → length xs ≤ n) → length (if last then [] else xs) ≤ n
short true xs n h = omega arith
short false xs n h = h refl

one_more : (x : ℕ) (xs : List ℕ) (n : ℕ) → length xs ≤ n → length (x ∷ xs) ≤ suc n
one_more x xs n h = omega (arith, h)

code_one : (k n : ℕ) → n < 94 → length (code_digits k n) ≤ 1
code_one zero n h = omega arith
code_one (suc k) n h = one_more (33 + n % 94) (if nat_lt n 94 then [] else code_digits k (n / 94)) 0 (short (nat_lt n 94) (code_digits k (n / 94)) 0 (λ e. absurd (grind (arith, nat_tests))))

code_two : (k n : ℕ) → n < 8836 → length (code_digits k n) ≤ 2
code_two zero n h = omega arith
code_two (suc k) n h =
    one_more (33 + n % 94) (if nat_lt n 94 then [] else code_digits k (n / 94)) 1 (short (nat_lt n 94) (code_digits k (n / 94)) 1 (λ e. code_one k (n / 94) (omega (arith, h))))

code_three : (k n : ℕ) → n < 830584 → length (code_digits k n) ≤ 3
code_three zero n h = omega arith
code_three (suc k) n h =
    one_more (33 + n % 94) (if nat_lt n 94 then [] else code_digits k (n / 94)) 2 (short (nat_lt n 94) (code_digits k (n / 94)) 2 (λ e. code_two k (n / 94) (omega (arith, h))))

pub no_code : (text : List ℕ) → 3 < length text → (number : ℕ) → number < 830584 → text ≢ code number
no_code text long number small e =
    let h : length (code number) ≤ 3 = code_three (suc number) number small in let f : length text ≤ 3 = subst (λ (l : List ℕ). length l ≤ 3) (sym e) h in omega (arith, f, long)

pub number_three : (text : List ℕ) → length text ≤ 3 → (get_or text 0 33 - 33) + 94 * ((get_or text 1 33 - 33) + 94 * (get_or text 2 33 - 33)) ≡ number_of text
number_three [] h = refl
number_three (a ∷ []) h = refl
number_three (a ∷ b ∷ []) h = refl
number_three (a ∷ b ∷ c ∷ []) h = omega arith
number_three (a ∷ b ∷ c ∷ d ∷ text) h = absurd (omega (arith, h))

number_same : (text : List ℕ) (number other : ℕ) → number ≡ number_of text → text ≡ code other → number ≡ other
number_same text number other e f = e ∙ (ap number_of f ∙ number_is (suc other) other (omega arith))

pub no_signal : (text : List ℕ) → ((number : ℕ) → number < 830584 → text ≢ code number) → (number : ℕ) → number < 65536 → text ≢ code number
no_signal text none number small e = none number (omega (arith, small)) e

pub large_signal : (text : List ℕ) (number : ℕ) → number ≡ number_of text → 65536 ≤ number → (other : ℕ) → other < 65536 → text ≢ code other
large_signal text number e large other small f = let same = number_same text number other e f in omega (arith, same, large, small)

pub signal_said : (text : List ℕ) (number : ℕ) → number ≡ number_of text → number < 65536 → (r : Result (Option ℕ) NoMemory)
    → IfOk r (λ found. MatchOption found (text ≢ code number) (λ own. (own ≡ number) × (text ≡ code number)))
    → IfOk r (λ found. MatchOption found ((other : ℕ) → other < 65536 → text ≢ code other) (λ own. (own < 65536) × (text ≡ code own)))
signal_said text number e small (Ok None) h = λ other below f. h (f ∙ ap code (sym (number_same text number other e f)))
signal_said text number e small (Ok (Some own)) h = let same = h.0 in (omega (arith, same, small), h.1 ∙ ap code (sym h.0))
signal_said text number e small (Err fault) h = tt

pub no_name : (text own end : List ℕ) (named : Bool) → text ≡ own ++ end → named ≡ is_name own → named ≡ false → (name : List ℕ) → is_name name ≡ true → text ≢ name ++ end
no_name text own end named e is none name good f =
    let same : own ≡ name = append_cancel_right own name end (sym e ∙ f) in true≢false (sym good ∙ (ap is_name (sym same) ∙ (sym is ∙ none)))

-- ---- times

pub no_time_front : (text : List ℕ) → ((rest : List ℕ) → text ≢ codes "#" ++ rest) → (time : ℕ) → IsTime text time → ⊥
no_time_front text none time t = none (decimal time ++ 10 ∷ []) t.spelled

pub time_said : (text rest : List ℕ) → text ≡ codes "#" ++ rest → (r : Result (Option ℕ) NoMemory)
    → IfOk r (λ found. MatchOption found ((time : ℕ) → time < 2 ^ 64 → rest ≢ decimal time ++ 10 ∷ []) (λ time. (time < 2 ^ 64) × (rest ≡ decimal time ++ 10 ∷ [])))
    → IfOk r (λ found. MatchOption found ((time : ℕ) → IsTime text time → ⊥) (λ time. IsTime text time))
time_said text rest e (Ok None) h = λ time t. h time t.below (append_cancel_left (codes "#") rest (decimal time ++ 10 ∷ []) (sym e ∙ t.spelled))
time_said text rest e (Ok (Some time)) h = record { spelled = e ∙ ap (λ (l : List ℕ). codes "#" ++ l) h.1; below = h.0 }
time_said text rest e (Err fault) h = tt

pub no_fed_time : (text digits : List ℕ) → text ≡ digits ++ 10 ∷ [] → ((time : ℕ) → time < 2 ^ 64 → digits ≡ decimal time → ⊥) → (time : ℕ) → time < 2 ^ 64 → text ≢ decimal time ++ 10 ∷ []
no_fed_time text digits e none time below f = none time below (append_cancel_right digits (decimal time) (10 ∷ []) (sym e ∙ f))

pub times_once : (text : List ℕ) (s t : ℕ) → IsTime text s → IsTime text t → s ≡ t
times_once text s t a b =
    decimal_injective s t a.below b.below (append_cancel_right (decimal s) (decimal t) (10 ∷ []) (append_cancel_left (codes "#") (decimal s ++ 10 ∷ []) (decimal t ++ 10 ∷ []) (sym a.spelled ∙ b.spelled)))

-- ---- values

-- a value is one digit, or `b`, digits and a blank, with a code behind it
abbrev OneDigit : List ℕ → List ℕ → List ℕ → Type 0
OneDigit text digits code = (digit : ℕ) × (digits ≡ digit ∷ []) × (is_digit digit ≡ true) × (text ≡ digit ∷ code)

abbrev ManyDigits : List ℕ → List ℕ → List ℕ → Type 0
ManyDigits text digits code = ((length digits == 1) ≡ false) × (list_all is_digit digits ≡ true) × (text ≡ 98 ∷ (digits ++ 32 ∷ code))

abbrev front_as : Bool → List ℕ → List ℕ
front_as one digits = if one then digits else codes "b" ++ digits ++ codes " "

pair_front : (text line_text digits code : List ℕ) → line_text ≡ text ++ 10 ∷ [] → IsPair line_text digits code → text ≡ value_front digits ++ code
pair_front text line_text digits code e p = append_cancel_right text (value_front digits ++ code) (10 ∷ []) (sym e ∙ p.is)

front_parts : (text digits code : List ℕ) (one : Bool) → (length digits == 1) ≡ one → list_all is_digit digits ≡ true → text ≡ front_as one digits ++ code
    → OneDigit text digits code ⊎ ManyDigits text digits code
front_parts text digits code true is all e =
    let x = one_digit digits (len_one digits is) in inl (x.0, x.1, head_digit x.0 digits x.1 all, e ∙ ap (λ (l : List ℕ). l ++ code) x.1)
front_parts text digits code false is all e = inr (is, all, e ∙ append_assoc (98 ∷ digits) (32 ∷ []) code)

pair_parts : (text line_text digits code : List ℕ) → line_text ≡ text ++ 10 ∷ [] → IsPair line_text digits code → OneDigit text digits code ⊎ ManyDigits text digits code
pair_parts text line_text digits code e p = front_parts text digits code (length digits == 1) refl p.digits_are (pair_front text line_text digits code e p)

pub no_pair_feed : (line_text : List ℕ) → ((text : List ℕ) → line_text ≡ text ++ 10 ∷ [] → ⊥) → (digits code : List ℕ) → IsPair line_text digits code → ⊥
no_pair_feed line_text none digits code p = none (value_front digits ++ code) p.is

pub no_vector : (line_text text rest : List ℕ) → line_text ≡ text ++ 10 ∷ [] → text ≡ codes "b" ++ rest
    → ((digits code : List ℕ) → (length digits == 1) ≡ false → list_all is_digit digits ≡ true → rest ≢ digits ++ 32 ∷ code) → (digits code : List ℕ) → IsPair line_text digits code → ⊥
no_vector line_text text rest e b none digits code p = by (pair_parts text line_text digits code e p)
  where
    head : (x y : ℕ) (xs ys : List ℕ) → x ∷ xs ≡ y ∷ ys → x ≡ y
    head x y xs ys e = cc

    by : OneDigit text digits code ⊎ ManyDigits text digits code → ⊥
    by (inl (x, is, good, t)) = not_b x good (head x 98 code rest (sym t ∙ b))
    by (inr (many, all, t)) = none digits code many all (append_cancel_left (codes "b") rest (digits ++ 32 ∷ code) (sym b ∙ t))

pub no_scalar : (line_text text : List ℕ) → line_text ≡ text ++ 10 ∷ [] → ((rest : List ℕ) → text ≢ codes "b" ++ rest)
    → ((digit : ℕ) (code : List ℕ) → is_digit digit ≡ true → text ≢ digit ∷ code) → (digits code : List ℕ) → IsPair line_text digits code → ⊥
no_scalar line_text text e no_b none digits code p = by (pair_parts text line_text digits code e p)
  where
    by : OneDigit text digits code ⊎ ManyDigits text digits code → ⊥
    by (inl (x, is, good, t)) = none x code good t
    by (inr (many, all, t)) = no_b (digits ++ 32 ∷ code) t

pub vector_made : (line_text text rest digits code : List ℕ) → line_text ≡ text ++ 10 ∷ [] → text ≡ codes "b" ++ rest
    → (length digits == 1) ≡ false → list_all is_digit digits ≡ true → rest ≡ digits ++ 32 ∷ code → IsPair line_text digits code
vector_made line_text text rest digits code e b many all r = record {
  is = e ∙ ap (λ (l : List ℕ). l ++ 10 ∷ []) (b ∙ (ap (λ (l : List ℕ). 98 ∷ l) r ∙ (sym (append_assoc (98 ∷ digits) (32 ∷ []) code) ∙ ap (λ (one : Bool). front_as one digits ++ code) (sym many))));
  digits_are = all;
}

pub scalar_made : (line_text text digits code : List ℕ) (digit : ℕ) → line_text ≡ text ++ 10 ∷ [] → digits ≡ digit ∷ [] → is_digit digit ≡ true → text ≡ digit ∷ code → IsPair line_text digits code
scalar_made line_text text digits code digit e d good t = record {
  is = e ∙ ap (λ (l : List ℕ). l ++ 10 ∷ []) (t ∙ ap (λ (l : List ℕ). value_front l ++ code) (sym d));
  digits_are = ap (list_all is_digit) d ∙ ap (λ (b : Bool). b && true) good;
}

-- a line has one value and one code at the most
pub pair_once : (line_text d c d' c' : List ℕ) → IsPair line_text d c → IsPair line_text d' c' → (d ≡ d') × (c ≡ c')
pair_once line_text d c d' c' p q = by (pair_parts (value_front d ++ c) line_text d c p.is p) (pair_parts (value_front d ++ c) line_text d' c' p.is q)
  where
    text : List ℕ
    text = value_front d ++ c

    head : (x y : ℕ) (xs ys : List ℕ) → x ∷ xs ≡ y ∷ ys → (x ≡ y) × (xs ≡ ys)
    head x y xs ys e = (cc, cc)

    blanks : (digits : List ℕ) → list_all is_digit digits ≡ true → has_no_blank digits ≡ true
    blanks digits all = digits_no_blank digits all

    by : OneDigit (value_front d ++ c) d c ⊎ ManyDigits (value_front d ++ c) d c → OneDigit (value_front d ++ c) d' c' ⊎ ManyDigits (value_front d ++ c) d' c' → (d ≡ d') × (c ≡ c')
    by (inl (x, is, good, t)) (inl (y, is', good', t')) =
        let same = head x y c c' (sym t ∙ t') in (is ∙ (ap (λ (n : ℕ). n ∷ []) same.0 ∙ sym is'), same.1)
    by (inl (x, is, good, t)) (inr (many, all, t')) = absurd (not_b x good (head x 98 c (d' ++ 32 ∷ c') (sym t ∙ t')).0)
    by (inr (many, all, t)) (inl (y, is, good, t')) = absurd (not_b y good (head y 98 c' (d ++ 32 ∷ c) (sym t' ∙ t)).0)
    by (inr (many, all, t)) (inr (many', all', t')) =
        first_once d c d' c' (blanks d all) (blanks d' all') (head 98 98 (d ++ 32 ∷ c) (d' ++ 32 ∷ c') (sym t ∙ t')).1

-- no value begins with `#`
pub pair_no_time : (line_text digits code : List ℕ) (time : ℕ) → IsPair line_text digits code → IsTime line_text time → ⊥
pair_no_time line_text digits code time p t = by (pair_parts (codes "#" ++ decimal time) line_text digits code t.spelled p)
  where
    head : (x y : ℕ) (xs ys : List ℕ) → x ∷ xs ≡ y ∷ ys → x ≡ y
    head x y xs ys e = cc

    by : OneDigit (codes "#" ++ decimal time) digits code ⊎ ManyDigits (codes "#" ++ decimal time) digits code → ⊥
    by (inl (x, is, good, e)) = let h : 35 ≡ x = head 35 x (decimal time) code e in true≢false (sym good ∙ ap is_digit (sym h))
    by (inr (many, all, e)) = let h : 35 ≡ 98 = head 35 98 (decimal time) (digits ++ 32 ∷ code) e in omega (arith, h)

-- ---- lines of different kinds

pub scope_no_var : (text name : List ℕ) → IsScope text name → NoVar text
scope_no_var text name s number own start width v =
    let h : 115 ≡ 118 = second 36 36 115 118 _ _ (sym (s.spelled ∙ scope_is name) ∙ (v.spelled ∙ var_is number own start width)) in omega (arith, h)

pub scope_no_end : (text name : List ℕ) → IsScope text name → text ≡ line (codes "$upscope $end") → ⊥
scope_no_end text name s e = let h : 115 ≡ 117 = second 36 36 115 117 _ _ (sym (s.spelled ∙ scope_is name) ∙ e) in omega (arith, h)

pub var_no_end : (text : List ℕ) (number : ℕ) (name : List ℕ) (start : Digit) (width : ℕ) → IsVar text number name start width → text ≡ line (codes "$upscope $end") → ⊥
var_no_end text number name start width v e =
    let h : 118 ≡ 117 = second 36 36 118 117 _ _ (sym (v.spelled ∙ var_is number name start width) ∙ e) in omega (arith, h)

-- ---- digits behind a `b`

pub no_vector_digits : (text digits code : List ℕ) (vector : Bool) → SplitsFirst text digits code → vector ≡ (not (length digits == 1) && list_all is_digit digits) → vector ≡ false
    → (digits' code' : List ℕ) → (length digits' == 1) ≡ false → list_all is_digit digits' ≡ true → text ≢ digits' ++ 32 ∷ code'
no_vector_digits text digits code vector s is none digits' code' many all e =
    let same = first_once digits code digits' code' s.none (digits_no_blank digits' all) (sym s.is ∙ e) in
    true≢false
    (sym (ap (λ (b : Bool). not b && list_all is_digit digits') many ∙ all)
    ∙ (ap (λ (l : List ℕ). not (length l == 1) && list_all is_digit l) (sym same.0) ∙ (sym is ∙ none)))

vector_parts : (one all : Bool) → (not one && all) ≡ true → (one ≡ false) × (all ≡ true)
vector_parts true all h = absurd (true≢false (sym h))
vector_parts false all h = (refl, h)

pub vector_is : (text digits code : List ℕ) (vector : Bool) → SplitsFirst text digits code → vector ≡ (not (length digits == 1) && list_all is_digit digits) → vector ≡ true
    → ((length digits == 1) ≡ false) × (list_all is_digit digits ≡ true) × (text ≡ digits ++ 32 ∷ code)
vector_is text digits code vector s is go = let p = vector_parts (length digits == 1) (list_all is_digit digits) (sym is ∙ go) in (p.0, p.1, s.is)

-- ---- the words of a step have no line feed

unit_lacks : (name : List ℕ) → HasName time_units name → lacks 10 name ≡ true
unit_lacks name (inl n) = ap (lacks 10) (sym n)
unit_lacks name (inr (inl n)) = ap (lacks 10) (sym n)
unit_lacks name (inr (inr (inl n))) = ap (lacks 10) (sym n)
unit_lacks name (inr (inr (inr (inl n)))) = ap (lacks 10) (sym n)
unit_lacks name (inr (inr (inr (inr (inl n))))) = ap (lacks 10) (sym n)
unit_lacks name (inr (inr (inr (inr (inr (inl n)))))) = ap (lacks 10) (sym n)
unit_lacks name (inr (inr (inr (inr (inr (inr n)))))) = absurd n

words_lack : (words name : List ℕ) → IsCounted words name → lacks 10 name ≡ true → lacks 10 words ≡ true
words_lack words name (inl c) h = ap (lacks 10) c ∙ lacks_both 10 (codes "1 ") name refl h
words_lack words name (inr (inl c)) h = ap (lacks 10) c ∙ lacks_both 10 (codes "10 ") name refl h
words_lack words name (inr (inr c)) h = ap (lacks 10) c ∙ lacks_both 10 (codes "100 ") name refl h

pub step_lacks : (step : ℕ) (words : List ℕ) → spelled_step step ≡ Some words → lacks 10 (codes "$timescale " ++ words ++ codes " $end") ≡ true
step_lacks step words e =
    let found = among step time_units words e in
    lacks_both 10 (codes "$timescale " ++ words) (codes " $end")
    (lacks_both 10 (codes "$timescale ") words refl (words_lack words found.0 found.2 (unit_lacks found.0 found.1))) refl

-- ---- the parts of a value, as they are found

pub vector_said : {P : Type 0} (digits code : P → List ℕ) (line_text text rest : List ℕ) → line_text ≡ text ++ 10 ∷ [] → text ≡ codes "b" ++ rest → (r : Option P)
    → MatchOption r ((digits code : List ℕ) → (length digits == 1) ≡ false → list_all is_digit digits ≡ true → rest ≢ digits ++ 32 ∷ code)
    (λ pair. ((length (digits pair) == 1) ≡ false) × (list_all is_digit (digits pair) ≡ true) × (rest ≡ digits pair ++ 32 ∷ code pair))
    → MatchOption r ((digits code : List ℕ) → IsPair line_text digits code → ⊥) (λ pair. IsPair line_text (digits pair) (code pair))
vector_said digits code line_text text rest e b None h = no_vector line_text text rest e b h
vector_said digits code line_text text rest e b (Some pair) h = vector_made line_text text rest (digits pair) (code pair) e b h.0 h.1 h.2

pub scalar_said : {P : Type 0} (digits code : P → List ℕ) (line_text text : List ℕ) → line_text ≡ text ++ 10 ∷ [] → ((rest : List ℕ) → text ≢ codes "b" ++ rest) → (r : Option P)
    → MatchOption r ((digit : ℕ) (code : List ℕ) → is_digit digit ≡ true → text ≢ digit ∷ code)
    (λ pair. (digit : ℕ) × (digits pair ≡ digit ∷ []) × (is_digit digit ≡ true) × (text ≡ digit ∷ code pair))
    → MatchOption r ((digits code : List ℕ) → IsPair line_text digits code → ⊥) (λ pair. IsPair line_text (digits pair) (code pair))
scalar_said digits code line_text text e none None h = no_scalar line_text text e none h
scalar_said digits code line_text text e none (Some pair) h = scalar_made line_text text (digits pair) (code pair) h.0 e h.1 h.2 h.3
