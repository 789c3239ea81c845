-- The parts of a line of a traced run: there is one way to tell them at the most.
use Rattle.std.specs.Prelude.{◌≡◌, ◌≢◌, ◌⊎◌, ◌<◌, ◌^◌, ◌==◌, ◌&&◌, ℕ, not, Bool, true, false, List, [], ◌∷◌, ◌++◌, codes, drop, Option, None, Some, Result, Ok, Err, IfOk, MatchOption, refl}
use Rattle.std.specs.List.{list_all}
use Rattle.std.specs.Fmt.{decimal}
use Rattle.std.specs.Str.Parse.{AllDigits, digits_value}
use Rattle.port_io.specs.declared.ports.NoMemory.{NoMemory}
use Rattle.std.specs.Char.{digit_value}
use Rattle.std.proofs.Common.{ap, sym, subst, ◌∙◌, append_assoc, arith, inl, inr}
use Rattle.std.proofs.lemmas.Bool.{and_parts, true≢false}
use Rattle.std.proofs.lemmas.Bool.Decides.{eqb_tells}
use Rattle.std.specs.Str.{IsUtf8}
use Rattle.std.proofs.lemmas.Str.{IsUtf8-from_ascii}
use Rattle.std.proofs.lemmas.Fmt.{decimal_is_IsNumeral, decimal_injective, IsAscii-decimal}
use Rattle.std.proofs.lemmas.List.{append_cancel_right}
use Rattle.vcd_text.specs.Spelling.{is_digit}
use Rattle.vcd_text.specs.Splits.{has_no_blank, SplitsFirst, SplitsLast, IsSplit, HasParts, SaysNumber}

-- ---- bytes that are no blanks

is_blank : (b : ℕ) → not (b == 32) ≡ true → b ≡ 32 → ⊥
is_blank b h e = let f : false ≡ true = subst (λ (k : ℕ). not (k == 32) ≡ true) e h in true≢false (sym f)

no_blank_by : (b : ℕ) → (((b == 32) ≡ true) × (b ≡ 32)) ⊎ (((b == 32) ≡ false) × (b ≢ 32)) → (b ≡ 32 → ⊥) → not (b == 32) ≡ true
no_blank_by b (inl h) other = absurd (other h.1)
no_blank_by b (inr h) other = ap not h.0

pub no_blank_byte : (b : ℕ) → (b ≡ 32 → ⊥) → not (b == 32) ≡ true
no_blank_byte b other = no_blank_by b (eqb_tells b 32) other

no_blank_head : (b : ℕ) (bs : List ℕ) → has_no_blank (b ∷ bs) ≡ true → not (b == 32) ≡ true
no_blank_head b bs h = (and_parts (not (b == 32)) (has_no_blank bs) h).0

no_blank_tail : (b : ℕ) (bs : List ℕ) → has_no_blank (b ∷ bs) ≡ true → has_no_blank bs ≡ true
no_blank_tail b bs h = (and_parts (not (b == 32)) (has_no_blank bs) h).1

pub no_blank_both : (b : ℕ) (bs : List ℕ) → not (b == 32) ≡ true → has_no_blank bs ≡ true → has_no_blank (b ∷ bs) ≡ true
no_blank_both b bs h k = ap (λ (x : Bool). x && has_no_blank bs) h ∙ k

-- a text with a blank in it
pub has_blank : (front back : List ℕ) → has_no_blank (front ++ 32 ∷ back) ≡ true → ⊥
has_blank [] back h = is_blank 32 (no_blank_head 32 back h) refl
has_blank (b ∷ front) back h = has_blank front back (no_blank_tail b (front ++ 32 ∷ back) h)

-- digits are none
digit_is : (b : ℕ) → is_digit b ≡ true → b ≡ 32 → ⊥
digit_is b h e = let f : false ≡ true = subst (λ (k : ℕ). is_digit k ≡ true) e h in true≢false (sym f)

pub digits_no_blank : (digits : List ℕ) → list_all is_digit digits ≡ true → has_no_blank digits ≡ true
digits_no_blank [] h = refl
digits_no_blank (b ∷ digits) h =
    let parts = and_parts (is_digit b) (list_all is_digit digits) h in
    no_blank_both b digits (no_blank_byte b (digit_is b parts.0)) (digits_no_blank digits parts.1)

decimal_digit_is : (b : ℕ) → digit_value b < 10 → b ≡ 32 → ⊥
decimal_digit_is b h e = let f : digit_value 32 < 10 = subst (λ (k : ℕ). digit_value k < 10) e h in omega (arith, f)

numeral_no_blank : (digits : List ℕ) → AllDigits 10 digits → has_no_blank digits ≡ true
numeral_no_blank [] h = refl
numeral_no_blank (b ∷ digits) h = no_blank_both b digits (no_blank_byte b (decimal_digit_is b h.0)) (numeral_no_blank digits h.1)

pub decimal_no_blank : (time : ℕ) → time < 2 ^ 64 → has_no_blank (decimal time) ≡ true
decimal_no_blank time h = numeral_no_blank (decimal time) (decimal_is_IsNumeral time h).0.1

-- ---- one way at the most

pub first_once : (a b c d : List ℕ) → has_no_blank a ≡ true → has_no_blank c ≡ true → a ++ 32 ∷ b ≡ c ++ 32 ∷ d → (a ≡ c) × (b ≡ d)
first_once [] b [] d p q e = let t : b ≡ d = cc in (refl, t)
first_once [] b (y ∷ c) d p q e = let h : 32 ≡ y = cc in absurd (is_blank y (no_blank_head y c q) (sym h))
first_once (x ∷ a) b [] d p q e = let h : x ≡ 32 = cc in absurd (is_blank x (no_blank_head x a p) h)
first_once (x ∷ a) b (y ∷ c) d p q e =
    let h : x ≡ y = cc in let t : a ++ 32 ∷ b ≡ c ++ 32 ∷ d = cc in
    let more = first_once a b c d (no_blank_tail x a p) (no_blank_tail y c q) t in
    (ap (λ (k : ℕ). k ∷ a) h ∙ ap (λ (l : List ℕ). y ∷ l) more.0, more.1)

pub last_once : (a b c d : List ℕ) → has_no_blank b ≡ true → has_no_blank d ≡ true → a ++ 32 ∷ b ≡ c ++ 32 ∷ d → (a ≡ c) × (b ≡ d)
last_once [] b [] d p q e = let t : b ≡ d = cc in (refl, t)
last_once [] b (y ∷ c) d p q e = let t : b ≡ c ++ 32 ∷ d = cc in absurd (has_blank c d (subst (λ (l : List ℕ). has_no_blank l ≡ true) t p))
last_once (x ∷ a) b [] d p q e = let t : d ≡ a ++ 32 ∷ b = cc in absurd (has_blank a b (subst (λ (l : List ℕ). has_no_blank l ≡ true) t q))
last_once (x ∷ a) b (y ∷ c) d p q e =
    let h : x ≡ y = cc in let t : a ++ 32 ∷ b ≡ c ++ 32 ∷ d = cc in
    let more = last_once a b c d p q t in
    (ap (λ (k : ℕ). k ∷ a) h ∙ ap (λ (l : List ℕ). y ∷ l) more.0, more.1)

-- what stands before the line feed
abbrev inside : List ℕ → List ℕ → List ℕ → List ℕ
inside time path digits = time ++ codes " SIG " ++ path ++ codes " " ++ digits

inside_is : (time path digits : List ℕ) → inside time path digits ≡ time ++ 32 ∷ 83 ∷ 73 ∷ 71 ∷ 32 ∷ (path ++ 32 ∷ digits)
inside_is time path digits =
    append_assoc ((time ++ codes " SIG ") ++ path) (codes " ") digits
    ∙ (append_assoc (time ++ codes " SIG ") path (32 ∷ digits) ∙ append_assoc time (codes " SIG ") (path ++ 32 ∷ digits))

same_inside : (text t p d t' p' d' : List ℕ) → IsSplit text t p d → IsSplit text t' p' d'
    → t ++ 32 ∷ 83 ∷ 73 ∷ 71 ∷ 32 ∷ (p ++ 32 ∷ d) ≡ t' ++ 32 ∷ 83 ∷ 73 ∷ 71 ∷ 32 ∷ (p' ++ 32 ∷ d')
same_inside text t p d t' p' d' a b =
    sym (inside_is t p d) ∙ (append_cancel_right (inside t p d) (inside t' p' d') (10 ∷ []) (sym a.spelled ∙ b.spelled) ∙ inside_is t' p' d')

pub split_once : (text t p d t' p' d' : List ℕ) → IsSplit text t p d → IsSplit text t' p' d' → (t ≡ t') × (p ≡ p') × (d ≡ d')
split_once text t p d t' p' d' a b = (times.0, both.0, both.1)
  where
    times : (t ≡ t') × ((83 ∷ 73 ∷ 71 ∷ 32 ∷ (p ++ 32 ∷ d)) ≡ (83 ∷ 73 ∷ 71 ∷ 32 ∷ (p' ++ 32 ∷ d')))
    times = first_once t (83 ∷ 73 ∷ 71 ∷ 32 ∷ (p ++ 32 ∷ d)) t' (83 ∷ 73 ∷ 71 ∷ 32 ∷ (p' ++ 32 ∷ d')) a.time_is b.time_is (same_inside text t p d t' p' d' a b)

    rest : p ++ 32 ∷ d ≡ p' ++ 32 ∷ d'
    rest = ap (drop 4) times.1

    both : (p ≡ p') × (d ≡ d')
    both = last_once p d p' d' (digits_no_blank d a.digits_are) (digits_no_blank d' b.digits_are) rest

pub parts_once : (text : List ℕ) (t : ℕ) (p d : List ℕ) (t' : ℕ) (p' d' : List ℕ) → HasParts text t p d → HasParts text t' p' d' → (t ≡ t') × (p ≡ p') × (d ≡ d')
parts_once text t p d t' p' d' a b =
    let same = split_once text (decimal t) p d (decimal t') p' d' a.split b.split in (decimal_injective t t' a.below b.below same.0, same.1, same.2)

-- ---- parts that aren't there

pub not_last : (text path digits : List ℕ) (all : Bool) → SplitsLast text path digits → all ≡ list_all is_digit digits → all ≡ false
    → (path' digits' : List ℕ) → text ≡ path' ++ 32 ∷ digits' → list_all is_digit digits' ≡ true → ⊥
not_last text path digits all s is false_is path' digits' e are =
    let same = last_once path digits path' digits' s.none (digits_no_blank digits' are) (sym s.is ∙ e) in
    true≢false (sym are ∙ (ap (list_all is_digit) (sym same.1) ∙ (sym is ∙ false_is)))

pub no_last : (text : List ℕ) → has_no_blank text ≡ true → (path digits : List ℕ) → text ≡ path ++ 32 ∷ digits → ⊥
no_last text none path digits e = has_blank path digits (subst (λ (l : List ℕ). has_no_blank l ≡ true) e none)

pub not_utf8 : (text : List ℕ) → (IsUtf8 text → ⊥) → (time : ℕ) → time < 2 ^ 64 → text ≡ decimal time → ⊥
not_utf8 text none time h e = none (subst IsUtf8 (sym e) (IsUtf8-from_ascii (decimal time) (IsAscii-decimal time h)))

-- a line that has no line feed, no blank, no word or no digits tells no change
pub no_feed : (text : List ℕ) → ((front : List ℕ) → text ≡ front ++ 10 ∷ [] → ⊥) → (time path digits : List ℕ) → IsSplit text time path digits → ⊥
no_feed text none time path digits s = none (inside time path digits) s.spelled

module _ (text front : List ℕ) (fed : text ≡ front ++ 10 ∷ []) where
  front_is : (time path digits : List ℕ) → IsSplit text time path digits → front ≡ time ++ 32 ∷ 83 ∷ 73 ∷ 71 ∷ 32 ∷ (path ++ 32 ∷ digits)
  front_is time path digits s = append_cancel_right front (inside time path digits) (10 ∷ []) (sym fed ∙ s.spelled) ∙ inside_is time path digits

  pub no_first : has_no_blank front ≡ true → (time path digits : List ℕ) → IsSplit text time path digits → ⊥
  no_first none time path digits s =
      has_blank time (83 ∷ 73 ∷ 71 ∷ 32 ∷ (path ++ 32 ∷ digits)) (subst (λ (l : List ℕ). has_no_blank l ≡ true) (front_is time path digits s) none)

  module _ (time rest : List ℕ) (cut : SplitsFirst front time rest) where
    rest_is : (time' path digits : List ℕ) → IsSplit text time' path digits → rest ≡ 83 ∷ 73 ∷ 71 ∷ 32 ∷ (path ++ 32 ∷ digits)
    rest_is time' path digits s =
        (first_once time rest time' (83 ∷ 73 ∷ 71 ∷ 32 ∷ (path ++ 32 ∷ digits)) cut.none s.time_is (sym cut.is ∙ front_is time' path digits s)).1

    pub no_word : ((more : List ℕ) → rest ≡ codes "SIG " ++ more → ⊥) → (time' path digits : List ℕ) → IsSplit text time' path digits → ⊥
    no_word none time' path digits s = none (path ++ 32 ∷ digits) (rest_is time' path digits s)

    module _ (more : List ℕ) (word : rest ≡ codes "SIG " ++ more) where
      pub no_digits : ((path digits : List ℕ) → more ≡ path ++ 32 ∷ digits → list_all is_digit digits ≡ true → ⊥)
          → (time' path digits : List ℕ) → IsSplit text time' path digits → ⊥
      no_digits none time' path digits s = none path digits (ap (drop 4) (sym word ∙ rest_is time' path digits s)) s.digits_are

      pub split_is : (path digits : List ℕ) → more ≡ path ++ 32 ∷ digits → list_all is_digit digits ≡ true → IsSplit text time path digits
      split_is path digits e are = record {
        spelled = fed ∙ ap (λ (l : List ℕ). l ++ 10 ∷ []) (cut.is ∙ ap (λ (l : List ℕ). time ++ 32 ∷ l) (word ∙ ap (λ (l : List ℕ). codes "SIG " ++ l) e) ∙ sym (inside_is time path digits));
        time_is = cut.none;
        digits_are = are;
      }

-- ---- times that aren't there

pub no_parts : (text : List ℕ) → ((time path digits : List ℕ) → IsSplit text time path digits → ⊥) → (time : ℕ) (path digits : List ℕ) → HasParts text time path digits → ⊥
no_parts text none time path digits h = none (decimal time) path digits h.split

pub no_time : (text said path digits : List ℕ) → IsSplit text said path digits → ((time : ℕ) → time < 2 ^ 64 → said ≡ decimal time → ⊥)
    → (time : ℕ) (path' digits' : List ℕ) → HasParts text time path' digits' → ⊥
no_time text said path digits s none time path' digits' h = none time h.below (split_once text said path digits (decimal time) path' digits' s h.split).0

pub has_parts : (text said path digits : List ℕ) (time : ℕ) → IsSplit text said path digits → said ≡ decimal time → time < 2 ^ 64 → HasParts text time path digits
has_parts text said path digits time s e below =
    record { split = subst (λ (l : List ℕ). IsSplit text l path digits) e s; below = below }

pub not_number : (text said : List ℕ) → said ≡ text → ((number : ℕ) → SaysNumber said number → ⊥) → (time : ℕ) → time < 2 ^ 64 → text ≡ decimal time → ⊥
not_number text said same none time below e =
    let d = decimal_is_IsNumeral time below in
    none time (subst (λ (l : List ℕ). SaysNumber l time) (sym (same ∙ e)) (d.0, sym d.1, omega (arith, below)))

pub same_found : (text said : List ℕ) (number : ℕ) → said ≡ text → SaysNumber said number → (r : Result (Option ℕ) NoMemory)
    → IfOk r (λ found. MatchOption found (text ≡ decimal number → ⊥) (λ own. (own ≡ number) × (text ≡ decimal number)))
    → IfOk r (λ found. MatchOption found ((time : ℕ) → time < 2 ^ 64 → text ≡ decimal time → ⊥) (λ time. text ≡ decimal time))
same_found text said number same says (Ok None) h = λ time below e.
    let value : number ≡ time = says.1 ∙ (ap (digits_value 10) (same ∙ e) ∙ (decimal_is_IsNumeral time below).1) in h (e ∙ ap decimal (sym value))
same_found text said number same says (Ok (Some own)) h = h.1 ∙ ap decimal (sym h.0)
same_found text said number same says (Err fault) h = tt
