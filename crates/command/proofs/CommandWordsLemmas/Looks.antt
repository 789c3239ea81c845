-- What a word can be: a file, one of the options, `--`, or one that `clap` refuses.
use Rattle.std.proofs.Common.{◌≡◌, ◌∙◌, ◌<◌, ◌≤◌, ◌||◌, true≢false, not-suc-le-zero, le_of_eq, ◌++◌, ◌∷◌, ◌⊎◌, ℕ, Bool, cond, true, false, not, suc, zero, refl, sym, ap, subst, arith, List, [], length, Option, Some, None, inl, inr, ⊎_elim, eqb, eqb-true, codes, slice_get, encode_utf8_all, IsAscii, IsUtf8}
use Rattle.std.proofs.lemmas.Bool.{cases_Bool}
use Rattle.std.proofs.lemmas.Slice.Eq.{bytes_eq-Decides}
use Rattle.std.proofs.lemmas.List.{take_all}
use Rattle.std.proofs.lemmas.List.Sums.{passes_at_first, split_at_first}
use Rattle.std.proofs.lemmas.Str.{encodes-IsAscii, encodes-chars}
use Rattle.std.specs.List.{before_first, after_first, prefix_len}
use Rattle.std.specs.Option.{option_map_or}
use Rattle.std.specs.Str.{bytes_eq, chars}
use Rattle.clap.specs.Lexer.{has_byte, long_of, short_of}
use Rattle.clap.specs.Walk.{Held, Row, Text, Waiting, arg_by_long}
use Rattle.clap.specs.Kinds.{Kinds}
use Rattle.clap.specs.Faults.{bundle_fault, bundle_step_fault, flag_word_fault, flags_fault, long_fault, other_fault, word_fault}
use Rattle.clap.specs.declared.error.kind.ErrorKind.{ErrorKind}
use Rattle.clap.specs.declared.error.kind.ErrorKind.TheVariants.{TooManyValues, UnknownArgument}
use Rattle.command.specs.CommandWords.Words.{Flag, IsPlain, Setting, budget, dumps, flag_name, made, name_of, seed, top, traces}
use Rattle.command.proofs.CommandWordsLemmas.Steps.{Pending, alone, held_at, joined, marked, no_sub, rules, shape}

-- some fault
abbrev pub Fails : Kinds → Type 0
Fails faults = (k : ErrorKind) × (ks : Kinds) × (faults ≡ k ∷ ks)

abbrev pub IsRefused : Text → Type 0
IsRefused word = (w : Waiting) (rows : List Row) (p : Pending) → Fails (word_fault shape [] false w word (held_at rows p))

pub data Look : Text → Type 0 where
  Plainly : (word : Text) → IsPlain word → Look word
  Dashes : Look (codes "--")
  With : (s : Setting) (v : Text) → Look (joined s v)
  Alone : (s : Setting) → Look (alone s)
  Marked : (f : Flag) → Look (marked f)
  Refused : (word : Text) → IsRefused word → Look word

-- ---- the first `=`

inside : (t : Text) → has_byte 61 t ≡ true → prefix_len (λ y. not (eqb y 61)) t < length t
inside [] e = absurd (true≢false (sym e))
inside (x ∷ xs) e = ⊎_elim
    (λ (t : eqb x 61 ≡ true). rw t (omega arith))
    (λ (t : eqb x 61 ≡ false). let i = inside xs (sym (ap (λ b. b || has_byte 61 xs) t) ∙ e) in rw t (omega (arith, i)))
    (cases_Bool (eqb x 61))

outside : (t : Text) → has_byte 61 t ≡ false → length t ≤ prefix_len (λ y. not (eqb y 61)) t
outside [] e = omega arith
outside (x ∷ xs) e = ⊎_elim
    (λ (t : eqb x 61 ≡ true). absurd (true≢false (sym (ap (λ b. b || has_byte 61 xs) t) ∙ e)))
    (λ (t : eqb x 61 ≡ false). let i = outside xs (sym (ap (λ b. b || has_byte 61 xs) t) ∙ e) in rw t (omega (arith, i)))
    (cases_Bool (eqb x 61))

split : (t : Text) → has_byte 61 t ≡ true → t ≡ before_first (λ x. eqb x 61) t ++ 61 ∷ after_first (λ x. eqb x 61) t
split t e = split_at_first (λ x. eqb x 61) t 0 (inside t e)
    ∙ ap (λ (y : ℕ). before_first (λ x. eqb x 61) t ++ y ∷ after_first (λ x. eqb x 61) t) (eqb-true _ 61 (passes_at_first (λ x. eqb x 61) t 0 (inside t e)))

no_split : (t : Text) → has_byte 61 t ≡ false → before_first (λ x. eqb x 61) t ≡ t
no_split t e = take_all (prefix_len (λ y. not (eqb y 61)) t) t (outside t e)

-- ---- words that begin with `--`

-- two texts are one, or told apart
tell : (a b : Text) → (a ≡ b) ⊎ (bytes_eq a b ≡ false)
tell a b = go (bytes_eq a b) refl
  where
    go : (x : Bool) → bytes_eq a b ≡ x → (a ≡ b) ⊎ (bytes_eq a b ≡ false)
    go true e = inl ((bytes_eq-Decides a b).0 e)
    go false e = inr e

-- which argument has this name
data Named (name : Text) : Type 0 where
  Valued : (s : Setting) → name_of s ≡ name → Named name
  Marks : (f : Flag) → flag_name f ≡ name → Named name
  Unknown : arg_by_long rules name ≡ None → Named name

named : (name : Text) → Named name
named name = elim (tell (codes "top") name) [
  | inl e ↦ Valued top e
  | inr t ↦ elim (tell (codes "budget") name) [
    | inl e ↦ Valued budget e
    | inr b ↦ elim (tell (codes "seed") name) [
      | inl e ↦ Valued seed e
      | inr s ↦ elim (tell (codes "made") name) [
        | inl e ↦ Valued made e
        | inr m ↦ elim (tell (codes "trace") name) [
          | inl e ↦ Marks traces e
          | inr f ↦ elim (tell (codes "vcd") name) [
            | inl e ↦ Marks dumps e
            | inr v ↦ Unknown (rw (t, b, s, m, f, v) refl)
          ]
        ]
      ]
    ]
  ]
]

refused_long : (x : ℕ) (xs : Text) (name : Text) (value : Option Text) → long_of (45 ∷ 45 ∷ x ∷ xs) ≡ Some (name, value)
    → ((h : Held) → Fails (long_fault rules false (arg_by_long rules name) value h)) → IsRefused (45 ∷ 45 ∷ x ∷ xs)
refused_long x xs name value is fails w rows p =
    let h = held_at rows p in
    let f = fails h in (
      f.0,
      f.1,
      ap (λ o. other_fault shape o (45 ∷ 45 ∷ x ∷ xs) h) (no_sub w (45 ∷ 45 ∷ x ∷ xs))
          ∙ ap (λ o. flag_word_fault rules false o (45 ∷ 45 ∷ x ∷ xs) h) is ∙ f.2,
    )

unknown_fails : (name : Text) (value : Option Text) → arg_by_long rules name ≡ None → (h : Held) → Fails (long_fault rules false (arg_by_long rules name) value h)
unknown_fails name value e h = (UnknownArgument, [], ap (λ o. long_fault rules false o value h) e)

flag_fails : (f : Flag) (name value : Text) → flag_name f ≡ name → (h : Held) → Fails (long_fault rules false (arg_by_long rules name) (Some value) h)
flag_fails traces name value n h = (TooManyValues, [], ap (λ (m : Text). long_fault rules false (arg_by_long rules m) (Some value) h) (sym n))
flag_fails dumps name value n h = (TooManyValues, [], ap (λ (m : Text). long_fault rules false (arg_by_long rules m) (Some value) h) (sym n))

abbrev first_part : Text → Text
first_part t = before_first (λ x. eqb x 61) t

abbrev second_part : Text → Text
second_part t = after_first (λ x. eqb x 61) t

written : (s : Setting) (v : Text) → joined s v ≡ 45 ∷ 45 ∷ (name_of s ++ 61 ∷ v)
written top v = refl
written budget v = refl
written seed v = refl
written made v = refl

long_with : (x : ℕ) (xs : Text) → has_byte 61 (x ∷ xs) ≡ true → Look (45 ∷ 45 ∷ x ∷ xs)
long_with x xs e =
    let t : Text = x ∷ xs in
    let is : long_of (45 ∷ 45 ∷ x ∷ xs) ≡ Some (first_part t, Some (second_part t)) =
    ap (λ b. Some (first_part t, cond b (Some (second_part t)) None)) e in
    let parts : t ≡ first_part t ++ 61 ∷ second_part t = split t e in
    go (named (first_part t)) is parts
  where
    go : Named (first_part (x ∷ xs)) → long_of (45 ∷ 45 ∷ x ∷ xs) ≡ Some (first_part (x ∷ xs), Some (second_part (x ∷ xs)))
        → x ∷ xs ≡ first_part (x ∷ xs) ++ 61 ∷ second_part (x ∷ xs) → Look (45 ∷ 45 ∷ x ∷ xs)
    go (Valued s n) is parts =
        subst Look (written s (second_part (x ∷ xs)) ∙ ap (λ (u : Text). 45 ∷ 45 ∷ u) (ap (λ (m : Text). m ++ 61 ∷ second_part (x ∷ xs)) n ∙ sym parts))
        (With s (second_part (x ∷ xs)))
    go (Marks f n) is parts = Refused (45 ∷ 45 ∷ x ∷ xs) (refused_long x xs (first_part (x ∷ xs)) (Some (second_part (x ∷ xs))) is
        (flag_fails f (first_part (x ∷ xs)) (second_part (x ∷ xs)) n))
    go (Unknown n) is parts = Refused (45 ∷ 45 ∷ x ∷ xs) (refused_long x xs (first_part (x ∷ xs)) (Some (second_part (x ∷ xs))) is
        (unknown_fails (first_part (x ∷ xs)) (Some (second_part (x ∷ xs))) n))

long_alone : (x : ℕ) (xs : Text) → has_byte 61 (x ∷ xs) ≡ false → Look (45 ∷ 45 ∷ x ∷ xs)
long_alone x xs e = go (named (x ∷ xs))
  where
    is : long_of (45 ∷ 45 ∷ x ∷ xs) ≡ Some (x ∷ xs, None)
    is = ap (λ b. Some (first_part (x ∷ xs), cond b (Some (second_part (x ∷ xs))) None)) e
        ∙ ap (λ (n : Text). Some (n, None)) (no_split (x ∷ xs) e)

    go : Named (x ∷ xs) → Look (45 ∷ 45 ∷ x ∷ xs)
    go (Valued s n) = subst Look (ap (λ (u : Text). 45 ∷ 45 ∷ u) n) (Alone s)
    go (Marks f n) = subst Look (ap (λ (u : Text). 45 ∷ 45 ∷ u) n) (Marked f)
    go (Unknown n) = Refused (45 ∷ 45 ∷ x ∷ xs) (refused_long x xs (x ∷ xs) None is (unknown_fails (x ∷ xs) None n))

-- ---- words that begin with one `-`

dash_is_ascii : IsAscii (45 ∷ [])
dash_is_ascii zero = omega arith
dash_is_ascii (suc i) = omega arith

dash_chars : (x : ℕ) (xs : Text) → chars (45 ∷ x ∷ xs) ≡ 45 ∷ chars (x ∷ xs)
unfolding chars
dash_chars x xs = refl

first_char : (x : ℕ) (xs : Text) → IsUtf8 (45 ∷ x ∷ xs) → (c : ℕ) × (slice_get (chars (x ∷ xs)) 0 ≡ Some c)
first_char x xs u = go (chars (x ∷ xs)) refl
  where
    go : (cs : List ℕ) → chars (x ∷ xs) ≡ cs → (c : ℕ) × (slice_get (chars (x ∷ xs)) 0 ≡ Some c)
    go (c ∷ cs) e = (c, ap (λ (l : List ℕ). slice_get l 0) e)
    go [] e =
        let one : chars (45 ∷ x ∷ xs) ≡ 45 ∷ [] = dash_chars x xs ∙ ap (λ (cs : List ℕ). 45 ∷ cs) e in
        let short : encode_utf8_all (45 ∷ []) ≡ 45 ∷ x ∷ xs = ap encode_utf8_all (sym one) ∙ encodes-chars (45 ∷ x ∷ xs) u in
        let ascii : encode_utf8_all (45 ∷ []) ≡ 45 ∷ [] = encodes-IsAscii (45 ∷ []) dash_is_ascii in
        let n : 1 ≡ length (45 ∷ x ∷ xs) = ap (λ (l : List ℕ). length l) (sym ascii ∙ short) in
        absurd (omega (arith, n))

flags_fail : (x : ℕ) (xs : Text) (c : ℕ) → slice_get (chars (x ∷ xs)) 0 ≡ Some c → (n : ℕ) (h : Held)
    → flags_fault rules false (suc n) (x ∷ xs) 0 h ≡ UnknownArgument ∷ []
unfolding flags_fault
flags_fail x xs c e n h = ap (λ o. bundle_step_fault rules false o (x ∷ xs) 0 h (flags_fault rules false n)) e

short_facts : (x : ℕ) (xs : Text) → eqb x 45 ≡ false
    → (bytes_eq (45 ∷ x ∷ xs) (45 ∷ 45 ∷ []) ≡ false) × (long_of (45 ∷ x ∷ xs) ≡ None) × (short_of (45 ∷ x ∷ xs) ≡ Some (x ∷ xs))
short_facts x xs t = (rw t refl, rw t refl, rw t refl)

refused_short : (x : ℕ) (xs : Text) → eqb x 45 ≡ false → IsUtf8 (45 ∷ x ∷ xs) → IsRefused (45 ∷ x ∷ xs)
refused_short x xs t u w rows p =
    let h = held_at rows p in
    let word : Text = 45 ∷ x ∷ xs in
    let c = first_char x xs u in
    let f = short_facts x xs t in (
      UnknownArgument,
      [],
      ap (λ o. other_fault shape o word h) (no_sub w word)
          ∙ ap (λ b. cond b [] (flag_word_fault rules false (long_of word) word h)) f.0
          ∙ ap (λ o. flag_word_fault rules false o word h) f.1
          ∙ ap (λ o. option_map_or (λ flags. bundle_fault rules false flags h) o []) f.2
          ∙ flags_fail x xs c.0 c.1 (length xs) h,
    )

-- ---- all words

pub look : (word : Text) → IsUtf8 word → Look word
look [] u = Plainly [] (inr (λ rest e. absurd (not-suc-le-zero (le_of_eq (ap (λ (l : Text). length l) (sym e))))))
look (x ∷ xs) u = ⊎_elim
    (λ (t : eqb x 45 ≡ true). dashed x xs (eqb-true x 45 t) u)
    (λ (t : eqb x 45 ≡ false). Plainly (x ∷ xs) (inr (λ rest e. true≢false (sym (ap (λ (l : Text). eqb (head l) 45) e) ∙ t))))
    (cases_Bool (eqb x 45))
  where
    head : Text → ℕ
    head [] = 0
    head (y ∷ ys) = y

    longer : (ys : Text) → Look (45 ∷ 45 ∷ ys)
    longer [] = Dashes
    longer (y ∷ ys) = ⊎_elim (long_with y ys) (long_alone y ys) (cases_Bool (has_byte 61 (y ∷ ys)))

    after : (ys : Text) → IsUtf8 (45 ∷ ys) → Look (45 ∷ ys)
    after [] v = Plainly (45 ∷ []) (inl refl)
    after (y ∷ ys) v = ⊎_elim
        (λ (t : eqb y 45 ≡ true). subst (λ (z : ℕ). Look (45 ∷ z ∷ ys)) (sym (eqb-true y 45 t)) (longer ys))
        (λ (t : eqb y 45 ≡ false). Refused (45 ∷ y ∷ ys) (refused_short y ys t v))
        (cases_Bool (eqb y 45))

    dashed : (y : ℕ) (ys : Text) → y ≡ 45 → IsUtf8 (y ∷ ys) → Look (y ∷ ys)
    dashed y ys e v = subst (λ (z : ℕ). Look (z ∷ ys)) (sym e) (after ys (subst (λ (z : ℕ). IsUtf8 (z ∷ ys)) e v))
