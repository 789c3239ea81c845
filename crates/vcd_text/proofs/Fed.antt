-- Each line that may stand in a text ends with its only line feed.
use Rattle.std.specs.Prelude.{◌≡◌, ◌<◌, ◌≤◌, ◌^◌, ◌==◌, ◌-◌, ◌&&◌, ℕ, zero, suc, Bool, true, false, List, [], ◌∷◌, ◌++◌, codes, map, replicate, if◌then◌else◌, refl}
use Rattle.std.specs.List.{AllByRecursion, list_all}
use Rattle.std.specs.Fmt.{decimal}
use Rattle.std.proofs.Common.{ap, sym, ◌∙◌, arith, inl, inr}
use Rattle.std.proofs.lemmas.Bool.{and_parts, true≢false}
use Rattle.std.proofs.lemmas.Fmt.{decimal_is_IsNumeral}
use Rattle.four_value.specs.declared.Digit.{Digit}
use Rattle.four_value.specs.declared.Digit.TheVariants.{X, Z, Zero, One}
use Rattle.four_value.specs.Vector.{digit_byte}
use Rattle.vcd_text.specs.Names.{is_in_name, is_name, begins_name}
use Rattle.vcd_text.specs.Spelling.{line, is_digit, code, value_front, value_line}
use Rattle.vcd_text.specs.Text.{kind_word, range_text}
use Rattle.vcd_text.specs.Reading.{IsOneLine}
use Rattle.vcd_text.specs.Forms.{IsScope, IsTime, IsVar}
use Rattle.vcd_text.specs.Rules.{ReadState, TakesIn, TakesLines}
use Rattle.vcd_text.specs.declared.reader.Part.{Part}
use Rattle.vcd_text.specs.declared.reader.Part.TheVariants.{Step, Top, Inside, Ended, Start, Dump, Opening, Changes}
use Rattle.vcd_text.proofs.OneList.{code_lacks, lacks, lacks_both, lacks_more, numeral_lacks, value_lacks}
use Rattle.vcd_text.proofs.LinesOf.{one_line}
use Rattle.vcd_text.proofs.FormLaws.{step_lacks}

abbrev Fed : List ℕ → Type 0
Fed text = (body : List ℕ) × IsOneLine body × (text ≡ line body)

fed : (text body : List ℕ) → lacks 10 body ≡ true → text ≡ line body → Fed text
fed text body h e = (body, one_line body h, e)

-- ---- names and numbers

name_byte : (b : ℕ) → is_in_name b ≡ true → b ≡ 10 → ⊥
name_byte b h e = true≢false (sym h ∙ ap is_in_name e)

names_lack : (text : List ℕ) → list_all is_in_name text ≡ true → lacks 10 text ≡ true
names_lack [] h = refl
names_lack (b ∷ text) h = let p = and_parts (is_in_name b) (list_all is_in_name text) h in lacks_more 10 b text (name_byte b p.0) (names_lack text p.1)

first_byte : (b : ℕ) → begins_name b ≡ true → b ≡ 10 → ⊥
first_byte b h e = true≢false (sym h ∙ ap begins_name e)

name_lacks : (name : List ℕ) → is_name name ≡ true → lacks 10 name ≡ true
name_lacks [] h = absurd (true≢false (sym h))
name_lacks (b ∷ name) h = let p = and_parts (begins_name b) (list_all is_in_name name) h in lacks_more 10 b name (first_byte b p.0) (names_lack name p.1)

decimal_lacks : (n : ℕ) → n < 2 ^ 64 → lacks 10 (decimal n) ≡ true
decimal_lacks n h = numeral_lacks (decimal n) (decimal_is_IsNumeral n h).0.1

kind_lacks : (d : Digit) → lacks 10 (kind_word d) ≡ true
kind_lacks X = refl
kind_lacks Z = refl
kind_lacks Zero = refl
kind_lacks One = refl

range_lacks : (width : ℕ) (one : Bool) → width ≤ 128 → lacks 10 (if one then [] else codes " [" ++ decimal (width - 1) ++ codes ":0]") ≡ true
range_lacks width true h = refl
range_lacks width false h =
    lacks_both 10 (codes " [" ++ decimal (width - 1)) (codes ":0]") (lacks_both 10 (codes " [") (decimal (width - 1)) refl (decimal_lacks (width - 1) (omega (arith, h)))) refl

digit_is : (d : Digit) → is_digit (digit_byte d) ≡ true
digit_is X = refl
digit_is Z = refl
digit_is Zero = refl
digit_is One = refl

digits_are : (b n : ℕ) → is_digit b ≡ true → list_all is_digit (replicate n b) ≡ true
digits_are b zero h = refl
digits_are b (suc n) h = ap (λ (x : Bool). x && list_all is_digit (replicate n b)) h ∙ digits_are b n h

-- ---- lines

scope_fed : (text name : List ℕ) → IsScope text name → Fed text
scope_fed text name s =
    fed text (codes "$scope module " ++ name ++ codes " $end")
    (lacks_both 10 (codes "$scope module " ++ name) (codes " $end") (lacks_both 10 (codes "$scope module ") name refl (name_lacks name s.named)) refl) s.spelled

var_fed : (text : List ℕ) (number : ℕ) (name : List ℕ) (start : Digit) (width : ℕ) → IsVar text number name start width → Fed text
var_fed text number name start width v =
    let most = v.most in
    fed text (codes "$var " ++ kind_word start ++ codes " " ++ decimal width ++ codes " " ++ code number ++ codes " " ++ name ++ range_text width ++ codes " $end")
    (lacks_both 10 (codes "$var " ++ kind_word start ++ codes " " ++ decimal width ++ codes " " ++ code number ++ codes " " ++ name ++ range_text width) (codes " $end")
    (lacks_both 10 (codes "$var " ++ kind_word start ++ codes " " ++ decimal width ++ codes " " ++ code number ++ codes " " ++ name) (range_text width)
    (lacks_both 10 (codes "$var " ++ kind_word start ++ codes " " ++ decimal width ++ codes " " ++ code number ++ codes " ") name
    (lacks_both 10 (codes "$var " ++ kind_word start ++ codes " " ++ decimal width ++ codes " " ++ code number) (codes " ")
    (lacks_both 10 (codes "$var " ++ kind_word start ++ codes " " ++ decimal width ++ codes " ") (code number)
    (lacks_both 10 (codes "$var " ++ kind_word start ++ codes " " ++ decimal width) (codes " ")
    (lacks_both 10 (codes "$var " ++ kind_word start ++ codes " ") (decimal width)
    (lacks_both 10 (codes "$var " ++ kind_word start) (codes " ")
    (lacks_both 10 (codes "$var ") (kind_word start) refl (kind_lacks start)) refl) (decimal_lacks width (omega (arith, most)))) refl)
    (code_lacks 10 (omega arith) (suc number) number)) refl) (name_lacks name v.named)) (range_lacks width (width == 1) most)) refl) v.spelled

time_fed : (text : List ℕ) (time : ℕ) → IsTime text time → Fed text
time_fed text time t = fed text (codes "#" ++ decimal time) (lacks_both 10 (codes "#") (decimal time) refl (decimal_lacks time t.below)) t.spelled

value_fed : (text : List ℕ) (signal : ℕ) (digits : List ℕ) → list_all is_digit digits ≡ true → text ≡ value_line signal digits → Fed text
value_fed text signal digits h e = fed text (value_front digits ++ code signal) (value_lacks signal digits h) e

taken_fed : (p : Part) (s : ReadState) (text : List ℕ) (a : ReadState) → TakesIn p s text a → Fed text
taken_fed Step s text a t = fed text (codes "$timescale " ++ t.is.words ++ codes " $end") (step_lacks t.step t.is.words t.is.known) t.is.spelled
taken_fed Top s text a t = scope_fed text t.name t.is
taken_fed Inside s text a (inl t) = scope_fed text t.name t.is
taken_fed Inside s text a (inr (inl t)) = var_fed text t.number t.name t.start t.width t.is
taken_fed Inside s text a (inr (inr t)) = fed text (codes "$upscope $end") refl t.is
taken_fed Ended s text a t = fed text (codes "$enddefinitions $end") refl t.is
taken_fed Start s text a t = fed text (codes "#" ++ decimal 0) (lacks_both 10 (codes "#") (decimal 0) refl (decimal_lacks 0 (omega arith))) t.is
taken_fed Dump s text a t = fed text (codes "$dumpvars") refl t.is
taken_fed Opening s text a (inl t) =
    value_fed text t.signal.number (replicate t.signal.width (digit_byte t.signal.start)) (digits_are (digit_byte t.signal.start) t.signal.width (digit_is t.signal.start)) t.is
taken_fed Opening s text a (inr t) = fed text (codes "$end") refl t.is
taken_fed Changes s text a (inl t) = time_fed text t.time t.is
taken_fed Changes s text a (inr t) = value_fed text t.signal.number t.digits t.is.digits_are t.is.spelled

-- the lines of a text that may stand so
pub bodies : (s : ReadState) (texts : List (List ℕ)) (a : ReadState) → TakesLines s texts a → (lines : List (List ℕ)) × AllByRecursion IsOneLine lines × (texts ≡ map line lines)
bodies s [] a t = ([], tt, refl)
bodies s (text ∷ texts) a (mid, t, more) =
    let first = taken_fed s.part s text mid t in let rest = bodies mid texts a more in (
      first.0 ∷ rest.0,
      (first.1, rest.1),
      ap (λ (l : List ℕ). l ∷ texts) first.2 ∙ ap (λ (l : List (List ℕ)). line first.0 ∷ l) rest.2,
    )
