-- Each line of a run tells one change or none, and it is found which.
use Rattle.std.specs.Prelude.{◌≡◌, ◌≢◌, ◌⊎◌, ◌<◌, ◌≤◌, ◌^◌, ◌==◌, ℕ, Bool, true, false, List, [], ◌∷◌, ◌++◌, codes, length, Option, None, Some, find, slice_get, bytes_eq, leb, refl}
use Rattle.std.specs.List.{list_all}
use Rattle.std.specs.Fmt.{decimal}
use Rattle.std.specs.Str.Parse.{digits_value}
use Rattle.std.proofs.Common.{ap, sym, subst, ◌∙◌, arith, inl, inr}
use Rattle.std.proofs.lemmas.Bool.{true≢false}
use Rattle.std.proofs.lemmas.Bool.Decides.{eqb_tells, leb_tells}
use Rattle.std.proofs.lemmas.Slice.Eq.{bytes_eq-Decides}
use Rattle.std.proofs.lemmas.Fmt.{decimal_is_IsNumeral}
use Rattle.gpi.specs.declared.design.Flat.{Flat}
use Rattle.vcd_text.specs.Spelling.{is_digit}
use Rattle.vcd_text.specs.Hierarchy.{traced_signals}
use Rattle.vcd_text.specs.Changes.{ValueChange}
use Rattle.vcd_text.specs.TracedLines.{TellsChange, TellsNone, TellAll}
use Rattle.vcd_text.specs.Splits.{has_no_blank, SplitsFirst, SplitsLast, IsSplit, HasParts}
use Rattle.vcd_text.specs.Paths.{has_path, is_wide}
use Rattle.vcd_text.proofs.SplitLaws.{no_blank_both, no_blank_byte, no_feed, no_first, no_word, no_digits, split_is, no_parts, no_time, has_parts, has_blank, not_last}
use Rattle.vcd_text.proofs.ToldLaws.{no_parts_told, no_path_told, no_width_told, change_told, told_once}

-- ---- cuts

cut_first : (text : List ℕ) → ((front : List ℕ) × (back : List ℕ) × SplitsFirst text front back) ⊎ (has_no_blank text ≡ true)
cut_first [] = inr refl
cut_first (b ∷ text) = by (eqb_tells b 32) (cut_first text)
  where
    by : (((b == 32) ≡ true) × (b ≡ 32)) ⊎ (((b == 32) ≡ false) × (b ≢ 32)) → ((front : List ℕ) × (back : List ℕ) × SplitsFirst text front back) ⊎ (has_no_blank text ≡ true)
        → ((front : List ℕ) × (back : List ℕ) × SplitsFirst (b ∷ text) front back) ⊎ (has_no_blank (b ∷ text) ≡ true)
    by (inl h) more = inl ([], text, record { is = ap (λ (k : ℕ). k ∷ text) h.1; none = refl })
    by (inr h) (inl (front, back, s)) = inl (b ∷ front, back, record { is = ap (λ (l : List ℕ). b ∷ l) s.is; none = no_blank_both b front (no_blank_byte b h.1) s.none })
    by (inr h) (inr none) = inr (no_blank_both b text (no_blank_byte b h.1) none)

cut_last : (text : List ℕ) → ((front : List ℕ) × (back : List ℕ) × SplitsLast text front back) ⊎ (has_no_blank text ≡ true)
cut_last [] = inr refl
cut_last (b ∷ text) = by (cut_last text) (eqb_tells b 32)
  where
    by : ((front : List ℕ) × (back : List ℕ) × SplitsLast text front back) ⊎ (has_no_blank text ≡ true) → (((b == 32) ≡ true) × (b ≡ 32)) ⊎ (((b == 32) ≡ false) × (b ≢ 32))
        → ((front : List ℕ) × (back : List ℕ) × SplitsLast (b ∷ text) front back) ⊎ (has_no_blank (b ∷ text) ≡ true)
    by (inl (front, back, s)) h = inl (b ∷ front, back, record { is = ap (λ (l : List ℕ). b ∷ l) s.is; none = s.none })
    by (inr none) (inl h) = inl ([], text, record { is = ap (λ (k : ℕ). k ∷ text) h.1; none = none })
    by (inr none) (inr h) = inr (no_blank_both b text (no_blank_byte b h.1) none)

no_end : (front : List ℕ) → [] ≡ front ++ 10 ∷ [] → ⊥
no_end [] e = absurd (cc)
no_end (b ∷ front) e = absurd (cc)

short_end : (b : ℕ) (front : List ℕ) → b ∷ [] ≡ front ++ 10 ∷ [] → b ≡ 10
short_end b [] e = cc
short_end b (c ∷ front) e = let t : [] ≡ front ++ 10 ∷ [] = cc in absurd (no_end front t)

long_end : (b c : ℕ) (text front : List ℕ) → b ∷ c ∷ text ≡ front ++ 10 ∷ [] → (rest : List ℕ) × (c ∷ text ≡ rest ++ 10 ∷ [])
long_end b c text [] e = let t : c ∷ text ≡ [] = cc in absurd (cc)
long_end b c text (d ∷ front) e = let t : c ∷ text ≡ front ++ 10 ∷ [] = cc in (front, t)

cut_feed : (text : List ℕ) → ((front : List ℕ) × (text ≡ front ++ 10 ∷ [])) ⊎ ((front : List ℕ) → text ≡ front ++ 10 ∷ [] → ⊥)
cut_feed [] = inr no_end
cut_feed (b ∷ []) = by (eqb_tells b 10)
  where
    by : (((b == 10) ≡ true) × (b ≡ 10)) ⊎ (((b == 10) ≡ false) × (b ≢ 10)) → ((front : List ℕ) × (b ∷ [] ≡ front ++ 10 ∷ [])) ⊎ ((front : List ℕ) → b ∷ [] ≡ front ++ 10 ∷ [] → ⊥)
    by (inl h) = inl ([], ap (λ (k : ℕ). k ∷ []) h.1)
    by (inr h) = inr (λ front e. h.1 (short_end b front e))
cut_feed (b ∷ c ∷ text) = by (cut_feed (c ∷ text))
  where
    by : ((front : List ℕ) × (c ∷ text ≡ front ++ 10 ∷ [])) ⊎ ((front : List ℕ) → c ∷ text ≡ front ++ 10 ∷ [] → ⊥)
        → ((front : List ℕ) × (b ∷ c ∷ text ≡ front ++ 10 ∷ [])) ⊎ ((front : List ℕ) → b ∷ c ∷ text ≡ front ++ 10 ∷ [] → ⊥)
    by (inl (front, e)) = inl (b ∷ front, ap (λ (l : List ℕ). b ∷ l) e)
    by (inr none) = inr (λ front e. let t = long_end b c text front e in none t.0 t.1)

cut_word : (word text : List ℕ) → ((more : List ℕ) × (text ≡ word ++ more)) ⊎ ((more : List ℕ) → text ≡ word ++ more → ⊥)
cut_word [] text = inl (text, refl)
cut_word (a ∷ word) [] = inr (λ more e. absurd (cc))
cut_word (a ∷ word) (b ∷ text) = by (eqb_tells b a) (cut_word word text)
  where
    by : (((b == a) ≡ true) × (b ≡ a)) ⊎ (((b == a) ≡ false) × (b ≢ a)) → ((more : List ℕ) × (text ≡ word ++ more)) ⊎ ((more : List ℕ) → text ≡ word ++ more → ⊥)
        → ((more : List ℕ) × (b ∷ text ≡ (a ∷ word) ++ more)) ⊎ ((more : List ℕ) → b ∷ text ≡ (a ∷ word) ++ more → ⊥)
    by (inl h) (inl (more, e)) = inl (more, ap (λ (k : ℕ). k ∷ text) h.1 ∙ ap (λ (l : List ℕ). a ∷ l) e)
    by (inl h) (inr none) = inr (λ more e. let t : text ≡ word ++ more = cc in none more t)
    by (inr h) more = inr (λ rest e. let t : b ≡ a = cc in h.1 t)

-- ---- parts

abbrev Splits : List ℕ → Type 0
Splits text = ((time : List ℕ) × (path : List ℕ) × (digits : List ℕ) × IsSplit text time path digits) ⊎ ((time path digits : List ℕ) → IsSplit text time path digits → ⊥)

splits_or_not : (text : List ℕ) → Splits text
splits_or_not text = by_feed (cut_feed text)
  where
    by_digits : (front time rest more : List ℕ) (fed : text ≡ front ++ 10 ∷ []) (cut : SplitsFirst front time rest) (word : rest ≡ codes "SIG " ++ more)
        → ((path : List ℕ) × (digits : List ℕ) × SplitsLast more path digits) ⊎ (has_no_blank more ≡ true) → Splits text
    by_digits front time rest more fed cut word (inr none) =
        inr (no_digits text front fed time rest cut more word (λ path digits e _. has_blank path digits (subst (λ (l : List ℕ). has_no_blank l ≡ true) e none)))
    by_digits front time rest more fed cut word (inl (path, digits, s)) = by_bool (list_all is_digit digits) refl
      where
        by_bool : (all : Bool) → list_all is_digit digits ≡ all → Splits text
        by_bool true e = inl (time, path, digits, split_is text front fed time rest cut more word path digits s.is e)
        by_bool false e = inr (no_digits text front fed time rest cut more word (not_last more path digits false s (sym e) refl))

    by_word : (front time rest : List ℕ) (fed : text ≡ front ++ 10 ∷ []) (cut : SplitsFirst front time rest)
        → ((more : List ℕ) × (rest ≡ codes "SIG " ++ more)) ⊎ ((more : List ℕ) → rest ≡ codes "SIG " ++ more → ⊥) → Splits text
    by_word front time rest fed cut (inl (more, word)) = by_digits front time rest more fed cut word (cut_last more)
    by_word front time rest fed cut (inr none) = inr (no_word text front fed time rest cut none)

    by_first : (front : List ℕ) (fed : text ≡ front ++ 10 ∷ []) → ((time : List ℕ) × (rest : List ℕ) × SplitsFirst front time rest) ⊎ (has_no_blank front ≡ true) → Splits text
    by_first front fed (inl (time, rest, cut)) = by_word front time rest fed cut (cut_word (codes "SIG ") rest)
    by_first front fed (inr none) = inr (no_first text front fed none)

    by_feed : ((front : List ℕ) × (text ≡ front ++ 10 ∷ [])) ⊎ ((front : List ℕ) → text ≡ front ++ 10 ∷ [] → ⊥) → Splits text
    by_feed (inl (front, fed)) = by_first front fed (cut_first front)
    by_feed (inr none) = inr (no_feed text none)

-- the text is that of a time, or of none
abbrev Said : List ℕ → Type 0
Said text = ((time : ℕ) × (time < 2 ^ 64) × (text ≡ decimal time)) ⊎ ((time : ℕ) → time < 2 ^ 64 → text ≡ decimal time → ⊥)

value_is : (text : List ℕ) (time : ℕ) → time < 2 ^ 64 → text ≡ decimal time → digits_value 10 text ≡ time
value_is text time below e = ap (digits_value 10) e ∙ (decimal_is_IsNumeral time below).1

said_or_not : (text : List ℕ) → Said text
said_or_not text = by (bytes_eq text (decimal (digits_value 10 text))) refl (leb_tells (2 ^ 64) (digits_value 10 text))
  where
    by : (same : Bool) → bytes_eq text (decimal (digits_value 10 text)) ≡ same
        → ((leb (2 ^ 64) (digits_value 10 text) ≡ true) × (2 ^ 64 ≤ digits_value 10 text)) ⊎ ((leb (2 ^ 64) (digits_value 10 text) ≡ false) × (digits_value 10 text < 2 ^ 64)) → Said text
    by true e (inr h) = inl (digits_value 10 text, h.1, (bytes_eq-Decides text (decimal (digits_value 10 text))).0 e)
    by true e (inl h) = inr (λ time below is. let v = value_is text time below is in let k = h.1 in absurd (omega (arith, v, k, below)))
    by false e h = inr (λ time below is.
        true≢false (sym ((bytes_eq-Decides text (decimal (digits_value 10 text))).1 (is ∙ ap decimal (sym (value_is text time below is)))) ∙ e))

-- ---- changes

abbrev pub Tells : Flat → List ℕ → Type 0
Tells flat text = ((change : ValueChange) × TellsChange flat text change) ⊎ TellsNone flat text

pub tells_or_not : (flat : Flat) (text : List ℕ) → Tells flat text
tells_or_not flat text = by_split (splits_or_not text)
  where
    by_width : (time : ℕ) (path digits : List ℕ) (parts : HasParts text time path digits) (n : ℕ) → find (has_path flat.signals path) (traced_signals flat) ≡ Some n
        → (wide : Bool) → is_wide (slice_get flat.signals n) (length digits) ≡ wide → Tells flat text
    by_width time path digits parts n found true e = inl (record { time = time; signal = n; digits = digits }, change_told flat text time path digits parts n found e)
    by_width time path digits parts n found false e = inr (no_width_told flat text time path digits parts n found e)

    by_path : (time : ℕ) (path digits : List ℕ) (parts : HasParts text time path digits) (o : Option ℕ) → find (has_path flat.signals path) (traced_signals flat) ≡ o → Tells flat text
    by_path time path digits parts None e = inr (no_path_told flat text time path digits parts e)
    by_path time path digits parts (Some n) e = by_width time path digits parts n e (is_wide (slice_get flat.signals n) (length digits)) refl

    by_time : (said path digits : List ℕ) (s : IsSplit text said path digits) → Said said → Tells flat text
    by_time said path digits s (inl (time, below, e)) =
        by_path time path digits (has_parts text said path digits time s e below) (find (has_path flat.signals path) (traced_signals flat)) refl
    by_time said path digits s (inr none) = inr (no_parts_told flat text (no_time text said path digits s none))

    by_split : Splits text → Tells flat text
    by_split (inl (said, path, digits, s)) = by_time said path digits s (said_or_not said)
    by_split (inr none) = inr (no_parts_told flat text (no_parts text none))

-- each list of lines tells some changes
pub some_changes : (flat : Flat) (texts : List (List ℕ)) → (changes : List ValueChange) × TellAll flat texts changes
some_changes flat [] = ([], refl)
some_changes flat (text ∷ texts) = by (tells_or_not flat text) (some_changes flat texts)
  where
    by : Tells flat text → (changes : List ValueChange) × TellAll flat texts changes → (changes : List ValueChange) × TellAll flat (text ∷ texts) changes
    by (inl (change, tells)) (changes, others) = (change ∷ changes, inl (change, changes, tells, refl, others))
    by (inr none) (changes, others) = (changes, inr (none, others))

-- and no two lists of them
pub same_changes : (flat : Flat) (texts : List (List ℕ)) (a b : List ValueChange) → TellAll flat texts a → TellAll flat texts b → a ≡ b
same_changes flat [] a b h k = h ∙ sym k
same_changes flat (text ∷ texts) a b (inl (x, xs, tells_x, a_is, more_a)) (inl (y, ys, tells_y, b_is, more_b)) =
    a_is ∙ (ap (λ (c : ValueChange). c ∷ xs) (told_once flat text x y tells_x tells_y)
    ∙ (ap (λ (l : List ValueChange). y ∷ l) (same_changes flat texts xs ys more_a more_b) ∙ sym b_is))
same_changes flat (text ∷ texts) a b (inl (x, xs, tells_x, a_is, more_a)) (inr (none, more_b)) = absurd (none x tells_x)
same_changes flat (text ∷ texts) a b (inr (none, more_a)) (inl (y, ys, tells_y, b_is, more_b)) = absurd (none y tells_y)
same_changes flat (text ∷ texts) a b (inr (none, more_a)) (inr (none', more_b)) = same_changes flat texts a b more_a more_b
