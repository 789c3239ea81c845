-- Tokens at the front of a text, as they stand and as the code finds them.
use Rattle.std.proofs.Common.{◌≡◌, ℕ, suc, ◌+◌, true, false, eqb, List, [], ◌∷◌, ◌++◌, length, take, drop, Option, Some, None, ap, ◌∙◌}
use Rattle.std.proofs.Common.{sym, refl, subst, ⊎_elim, inl, inr, append_assoc, ne_eqb, eqb-true, arith}
use Rattle.std.specs.List.{list_all}
use lib.Seq.{take-append_seam, drop-append_seam}
use Rattle.std.proofs.lemmas.Bool.{cases_Bool, or_left, and_parts, cond-true, cond-false, false≢true}
use Rattle.std.proofs.lemmas.List.{length-append}
use Rattle.four_value.specs.declared.Digit.{Digit}
use Rattle.v_syntax.specs.declared.token.Token.{Token}
use Rattle.v_syntax.specs.declared.token.Token.TheVariants as token
use Rattle.v_syntax.specs.Words.{task_of}
use Rattle.v_lex.specs.declared.base.Base.{Base}
use Rattle.v_lex.specs.declared.bytes.ByteClass.TheVariants as class
use Rattle.v_lex.specs.declared.directive.LexRule.TheVariants as rule
use Rattle.v_lex.specs.declared.directive.Piece.{Piece}
use Rattle.v_lex.specs.Bytes.{run, is_in, is_digit}
use Rattle.v_lex.specs.Digits.{base_of}
use Rattle.v_lex.specs.Comments.{broken, token_of}
use Rattle.v_lex.specs.Pieces.{number_or_bad, plain_value, based_value, base_at, number_with, number_at, word_size, word_token, word_at}
use Rattle.v_lex.specs.Pieces.{task_or_bad, task_at}
use Rattle.v_lex.specs.Spelling.{AllIn, Form, Word, SystemName, Number, Quoted, Sign, HasForm, IsLongest, IsWord, IsSystemName, IsDecimal}
use Rattle.v_lex.specs.Spelling.{IsSize, IsBased, IsNumber, PlainVector, BasedVector, NumberOf, Spells}
use Rattle.v_lex.specs.Gaps.{Stops}
use Rattle.v_lex.specs.Row.{TakenStands}
use Rattle.v_lex.proofs.Splits.{run_is, one_split, nothing_more, all_parts, all_from, all_one, stops_here}
use Rattle.v_lex.proofs.FormKinds.{has_some, one_form}
use Rattle.v_lex.proofs.WrittenNumbers.{based_is, based_of, plain_is, plain_of}
use Rattle.v_lex.proofs.WordLaws.{longest_of, keyword_word, reserved_word, task_name}

-- what stands at the front of a text in a part that is taken
pub record Standing (text : List ℕ) (p : Piece) : Type 0 where
  pub bytes : List ℕ
  pub behind : List ℕ
  pub is : text ≡ bytes ++ behind
  pub size : p.size ≡ length bytes
  pub stands : TakenStands p.content bytes behind

pub not_nil : (b : ℕ) (bs : List ℕ) → b ∷ bs ≡ [] → ⊥
not_nil b bs e = let n = ap (λ (xs : List ℕ). length xs) e in omega (arith, n)

-- ---- forms of tokens

abbrev pub form_of : Token → Form
form_of (token.Name name) = Word
form_of (token.Keyword k) = Word
form_of (token.Reserved r) = Word
form_of (token.SystemTask t) = SystemName
form_of (token.Number ds) = Number
form_of (token.Text inside) = Quoted
form_of (token.Mark m) = Sign

pub number_form : (bytes : List ℕ) (ds : List Digit) → NumberOf bytes ds → IsNumber bytes
number_form bytes ds h = ⊎_elim
    (λ (k : PlainVector bytes ds). inl k.0)
    (λ (k : (size written : List ℕ) × (base : Base) × IsBased bytes size written base × BasedVector size written base ds).
    inr (k.0, k.1, k.2, k.3))
    h

pub spells_form : (t : Token) (bytes : List ℕ) → Spells bytes t → HasForm (form_of t) bytes
spells_form (token.Name name) bytes h = subst IsWord (sym h.0) h.1.0
spells_form (token.Keyword k) bytes h = subst IsWord (sym h) (keyword_word k)
spells_form (token.Reserved r) bytes h = subst IsWord (sym h) (reserved_word r)
spells_form (token.SystemTask t) bytes h = subst IsSystemName (sym h) (task_name t)
spells_form (token.Number ds) bytes h = number_form bytes ds h
spells_form (token.Text inside) bytes h = (inside, h)
spells_form (token.Mark m) bytes h = (m, h)

pub form_same : (f g : Form) (bytes : List ℕ) → HasForm f bytes → HasForm g bytes → f ≡ g
form_same f g [] h k = absurd (has_some f h)
form_same f g (b ∷ bs) h k = one_form f g b bs bs h k

-- ---- words and names of system tasks

pub word_stops : (bytes behind : List ℕ) → IsLongest Word bytes behind → Stops class.Name behind
word_stops [] behind h = absurd h.has
word_stops (b ∷ bs) behind h = stops_here class.Name behind
    (λ c rest e t. not_nil c [] (h.most Word (c ∷ []) rest e (h.has.0, all_from class.Name bs (c ∷ []) h.has.1 (all_one class.Name c t))))

pub name_stops : (bytes behind : List ℕ) → IsLongest SystemName bytes behind → Stops class.Name behind
name_stops [] behind h = absurd h.has
name_stops (b ∷ bs) behind h = stops_here class.Name behind
    (λ c rest e t.
    not_nil c [] (h.most SystemName (c ∷ []) rest e (h.has.0, all_from class.Name bs (c ∷ []) h.has.1 (all_one class.Name c t))))

pub word_longest : (bytes behind : List ℕ) → IsWord bytes → Stops class.Name behind → IsLongest Word bytes behind
word_longest [] behind h s = absurd h
word_longest (b ∷ bs) behind h s = longest_of Word (b ∷ bs) behind h
    (λ more rest e k. nothing_more class.Name more rest (all_parts class.Name bs more k.1).1 (subst (Stops class.Name) e s))

pub name_longest : (bytes behind : List ℕ) → IsSystemName bytes → Stops class.Name behind → IsLongest SystemName bytes behind
name_longest [] behind h s = absurd h
name_longest (b ∷ bs) behind h s = longest_of SystemName (b ∷ bs) behind h
    (λ more rest e k. nothing_more class.Name more rest (all_parts class.Name bs more k.1).1 (subst (Stops class.Name) e s))

-- the size and the bytes of a word at the front
pub size_is : (b : ℕ) (bs behind : List ℕ) → AllIn class.Name bs → Stops class.Name behind
    → word_size (b ∷ bs ++ behind) ≡ suc (length bs)
size_is b bs behind h s = omega (arith, run_is class.Name bs behind h s)

pub front_is : (b : ℕ) (bs behind : List ℕ) → AllIn class.Name bs → Stops class.Name behind
    → take (word_size (b ∷ bs ++ behind)) (b ∷ bs ++ behind) ≡ b ∷ bs
front_is b bs behind h s =
    ap (λ (n : ℕ). take n (b ∷ bs ++ behind)) (size_is b bs behind h s) ∙ ap (λ (xs : List ℕ). b ∷ xs) (take-append_seam bs behind)

pub word_step : (text : List ℕ) → word_at text ≡ token_of (word_size text) (word_token (take (word_size text) text))
unfolding word_at
word_step text = refl

pub task_step : (text : List ℕ) → task_at text ≡ task_or_bad (word_size text) (task_of (take (word_size text) text))
unfolding task_at
task_step text = refl

pub word_piece : (bytes behind : List ℕ) → IsWord bytes → Stops class.Name behind
    → word_at (bytes ++ behind) ≡ token_of (length bytes) (word_token bytes)
word_piece [] behind h s = absurd h
word_piece (b ∷ bs) behind h s =
    word_step (b ∷ bs ++ behind)
    ∙ ap (λ (n : ℕ). token_of n (word_token (take (word_size (b ∷ bs ++ behind)) (b ∷ bs ++ behind)))) (size_is b bs behind h.1 s)
    ∙ ap (λ (xs : List ℕ). token_of (suc (length bs)) (word_token xs)) (front_is b bs behind h.1 s)

pub task_piece : (bytes behind : List ℕ) → IsSystemName bytes → Stops class.Name behind
    → task_at (bytes ++ behind) ≡ task_or_bad (length bytes) (task_of bytes)
task_piece [] behind h s = absurd h
task_piece (b ∷ bs) behind h s =
    task_step (b ∷ bs ++ behind)
    ∙ ap (λ (n : ℕ). task_or_bad n (task_of (take (word_size (b ∷ bs ++ behind)) (b ∷ bs ++ behind)))) (size_is b bs behind h.1 s)
    ∙ ap (λ (xs : List ℕ). task_or_bad (suc (length bs)) (task_of xs)) (front_is b bs behind h.1 s)

-- ---- numbers

pub decimal_all : (bytes : List ℕ) → IsDecimal bytes → AllIn class.Decimal bytes
decimal_all [] h = absurd h
decimal_all (b ∷ bs) h = all_from class.Decimal (b ∷ []) bs (all_one class.Decimal b (or_left (is_digit b) (eqb b 95) h.0)) h.1

pub decimal_more : (bytes more : List ℕ) → IsDecimal bytes → AllIn class.Decimal more → IsDecimal (bytes ++ more)
decimal_more [] more h k = absurd h
decimal_more (b ∷ bs) more h k = (h.0, all_from class.Decimal bs more h.1 k)

pub size_all : (size : List ℕ) → IsSize size → AllIn class.Decimal size
size_all size h = ⊎_elim (λ (e : size ≡ []). subst (AllIn class.Decimal) (sym e) refl) (λ (k : IsDecimal size). decimal_all size k) h

pub at_step : (text : List ℕ)
    → number_at text ≡ number_with (take (run class.Decimal text) text) (drop (run class.Decimal text) text)
    (base_at (drop (run class.Decimal text) text))
unfolding number_at
at_step text = refl

pub at_split : (digits rest : List ℕ) → AllIn class.Decimal digits → Stops class.Decimal rest
    → number_at (digits ++ rest) ≡ number_with digits rest (base_at rest)
at_split digits rest h s =
    let n = run_is class.Decimal digits rest h s in
    let d : take (run class.Decimal (digits ++ rest)) (digits ++ rest) ≡ digits =
    ap (λ (k : ℕ). take k (digits ++ rest)) n ∙ take-append_seam digits rest in
    let r : drop (run class.Decimal (digits ++ rest)) (digits ++ rest) ≡ rest =
    ap (λ (k : ℕ). drop k (digits ++ rest)) n ∙ drop-append_seam digits rest in
    at_step (digits ++ rest)
    ∙ ap (λ (xs : List ℕ). number_with xs (drop (run class.Decimal (digits ++ rest)) (digits ++ rest))
    (base_at (drop (run class.Decimal (digits ++ rest)) (digits ++ rest)))) d
    ∙ ap (λ (xs : List ℕ). number_with digits xs (base_at xs)) r

pub base_is : (letter : ℕ) (rest : List ℕ) → base_at (39 ∷ letter ∷ rest) ≡ base_of letter
unfolding base_at
base_is letter rest = refl

pub record BaseFront (text : List ℕ) (base : Base) : Type 0 where
  pub letter : ℕ
  pub rest : List ℕ
  pub is : text ≡ 39 ∷ letter ∷ rest
  pub based : base_of letter ≡ Some base

pub base_front : (text : List ℕ) (base : Base) → base_at text ≡ Some base → BaseFront text base
unfolding base_at
base_front [] base e = absurd cc
base_front (q ∷ []) base e = absurd cc
base_front (q ∷ b ∷ bs) base e =
    ⊎_elim
    (λ (t : eqb q 39 ≡ true). record {
      letter = b;
      rest = bs;
      is = ap (λ (x : ℕ). x ∷ b ∷ bs) (eqb-true q 39 t);
      based = sym (cond-true (eqb q 39) (base_of b) None t) ∙ e;
    })
    (λ (t : eqb q 39 ≡ false). let bad : None ≡ Some base = sym (cond-false (eqb q 39) (base_of b) None t) ∙ e in absurd cc)
    (cases_Bool (eqb q 39))

-- decimal digits alone
pub plain_stops : (bytes behind : List ℕ) → IsDecimal bytes → IsLongest Number bytes behind → Stops class.Decimal behind
plain_stops bytes behind d h = stops_here class.Decimal behind
    (λ c rest e t. not_nil c [] (h.most Number (c ∷ []) rest e (inl (decimal_more bytes (c ∷ []) d (all_one class.Decimal c t)))))

pub plain_no_base : (bytes behind : List ℕ) → IsDecimal bytes → IsLongest Number bytes behind → base_at behind ≡ None
plain_no_base bytes behind d h = go (base_at behind) refl
  where
    go : (o : Option Base) → base_at behind ≡ o → o ≡ None
    go None e = refl
    go (Some base) e =
        let f = base_front behind base e in
        let with : IsBased (bytes ++ 39 ∷ f.letter ∷ []) bytes [] base =
        record { letter = f.letter; is = refl; sized = inr d; based = f.based; digits = refl } in
        absurd (not_nil 39 (f.letter ∷ []) (h.most Number (39 ∷ f.letter ∷ []) f.rest f.is (inr (bytes, [], base, with))))

pub some_bytes : (bytes : List ℕ) → IsDecimal bytes → eqb (length bytes) 0 ≡ false
some_bytes [] h = absurd h
some_bytes (b ∷ bs) h = ne_eqb (suc (length bs)) 0 (λ e. omega (arith, e))

pub plain_piece : (bytes behind : List ℕ) → IsDecimal bytes → IsLongest Number bytes behind
    → number_at (bytes ++ behind) ≡ number_or_bad (length bytes) (plain_value bytes)
plain_piece bytes behind d h =
    at_split bytes behind (decimal_all bytes d) (plain_stops bytes behind d h)
    ∙ ap (number_with bytes behind) (plain_no_base bytes behind d h)
    ∙ cond-false (eqb (length bytes) 0) _ _ (some_bytes bytes d)

-- a number with a base
pub based_split : (size written behind : List ℕ) (letter : ℕ) (base : Base) → IsSize size → base_of letter ≡ Some base
    → AllIn class.Written written → Stops class.Written behind
    → number_at (size ++ (39 ∷ letter ∷ (written ++ behind)))
    ≡ number_or_bad (length size + 2 + length written) (based_value size base written)
based_split size written behind letter base s b w stops =
    let rest = 39 ∷ letter ∷ (written ++ behind) in
    let n = run_is class.Written written behind w stops in
    let f : take (run class.Written (written ++ behind)) (written ++ behind) ≡ written =
    ap (λ (k : ℕ). take k (written ++ behind)) n ∙ take-append_seam written behind in
    at_split size rest (size_all size s) refl
    ∙ ap (number_with size rest) (base_is letter (written ++ behind) ∙ b)
    ∙ ap (λ (xs : List ℕ). number_or_bad (length size + 2 + length xs) (based_value size base xs)) f

pub based_again : (bytes behind size written : List ℕ) (letter : ℕ) → bytes ≡ size ++ 39 ∷ letter ∷ written
    → bytes ++ behind ≡ size ++ (39 ∷ letter ∷ (written ++ behind))
based_again bytes behind size written letter e = ap (λ (xs : List ℕ). xs ++ behind) e ∙ append_assoc size (39 ∷ letter ∷ written) behind

pub based_stops : (bytes behind size written : List ℕ) (base : Base) → IsBased bytes size written base → IsLongest Number bytes behind
    → Stops class.Written behind
based_stops bytes behind size written base b h = stops_here class.Written behind
    (λ c rest e t.
    let with : IsBased (bytes ++ c ∷ []) size (written ++ c ∷ []) base =
    record {
      letter = b.letter;
      is = based_again bytes (c ∷ []) size written b.letter b.is;
      sized = b.sized;
      based = b.based;
      digits = all_from class.Written written (c ∷ []) b.digits (all_one class.Written c t);
    } in
    not_nil c [] (h.most Number (c ∷ []) rest e (inr (size, written ++ c ∷ [], base, with))))

pub based_length : (bytes size written : List ℕ) (base : Base) → IsBased bytes size written base
    → length size + 2 + length written ≡ length bytes
based_length bytes size written base b = omega (arith, ap (λ (xs : List ℕ). length xs) b.is, length-append size (39 ∷ b.letter ∷ written))

pub based_piece : (bytes behind size written : List ℕ) (base : Base) → IsBased bytes size written base → IsLongest Number bytes behind
    → number_at (bytes ++ behind) ≡ number_or_bad (length bytes) (based_value size base written)
based_piece bytes behind size written base b h =
    ap number_at (based_again bytes behind size written b.letter b.is)
    ∙ based_split size written behind b.letter base b.sized b.based b.digits (based_stops bytes behind size written base b h)
    ∙ ap (λ (n : ℕ). number_or_bad n (based_value size base written)) (based_length bytes size written base b)

pub number_token : (bytes behind : List ℕ) (ds : List Digit) → IsLongest Number bytes behind → NumberOf bytes ds
    → number_at (bytes ++ behind) ≡ token_of (length bytes) (token.Number ds)
number_token bytes behind ds h k = ⊎_elim
    (λ (p : PlainVector bytes ds). plain_piece bytes behind p.0 h ∙ ap (number_or_bad (length bytes)) (plain_is bytes ds p))
    (λ (p : (size written : List ℕ) × (base : Base) × IsBased bytes size written base × BasedVector size written base ds).
    based_piece bytes behind p.0 p.1 p.2 p.3 h ∙ ap (number_or_bad (length bytes)) (based_is p.0 p.1 p.2 ds p.4))
    k

pub number_bad : (bytes behind : List ℕ) → IsLongest Number bytes behind → ((t : Token) → Spells bytes t → ⊥)
    → number_at (bytes ++ behind) ≡ broken (length bytes) rule.BadNumber
number_bad bytes behind h refused = ⊎_elim
    (λ (d : IsDecimal bytes). plain_piece bytes behind d h ∙ plain d (plain_value bytes) refl)
    (λ (p : (size written : List ℕ) × (base : Base) × IsBased bytes size written base).
    based_piece bytes behind p.0 p.1 p.2 p.3 h ∙ based p.0 p.1 p.2 p.3 (based_value p.0 p.2 p.1) refl)
    h.has
  where
    plain : IsDecimal bytes → (o : Option (List Digit)) → plain_value bytes ≡ o → number_or_bad (length bytes) (plain_value bytes)
        ≡ broken (length bytes) rule.BadNumber
    plain d None e = ap (number_or_bad (length bytes)) e
    plain d (Some ds) e = absurd (refused (token.Number ds) (inl (plain_of bytes ds d e)))

    based : (size written : List ℕ) (base : Base) → IsBased bytes size written base → (o : Option (List Digit))
        → based_value size base written ≡ o → number_or_bad (length bytes) (based_value size base written)
        ≡ broken (length bytes) rule.BadNumber
    based size written base b None e = ap (number_or_bad (length bytes)) e
    based size written base b (Some ds) e =
        absurd (refused (token.Number ds) (inr (size, written, base, b, based_of size written base ds e)))

-- a front of decimal digits and one with a base, of one text
pub decimal_in_based : (bytes more size written : List ℕ) (base : Base) → IsDecimal bytes → AllIn class.Decimal more
    → IsBased (bytes ++ more) size written base → ⊥
decimal_in_based bytes more size written base d m b =
    let all = all_from class.Decimal bytes more (decimal_all bytes d) m in
    let e = subst (AllIn class.Decimal) b.is all in
    let k = all_parts class.Decimal size (39 ∷ b.letter ∷ written) e in
    false≢true (and_parts (is_in class.Decimal 39) (list_all (is_in class.Decimal) (b.letter ∷ written)) k.1).0

pub plain_longest : (bytes behind : List ℕ) → IsDecimal bytes → Stops class.Decimal behind → base_at behind ≡ None
    → IsLongest Number bytes behind
plain_longest bytes behind d s n = longest_of Number bytes behind (inl d)
    (λ more rest e k. ⊎_elim
    (λ (p : IsDecimal (bytes ++ more)).
    nothing_more class.Decimal more rest (all_parts class.Decimal bytes more (decimal_all (bytes ++ more) p)).1
    (subst (Stops class.Decimal) e s))
    (λ (p : (size written : List ℕ) × (base : Base) × IsBased (bytes ++ more) size written base).
    absurd (based_none more rest e p.0 p.1 p.2 p.3))
    k)
  where
    based_none : (more rest : List ℕ) → behind ≡ more ++ rest → (size written : List ℕ) (base : Base)
        → IsBased (bytes ++ more) size written base → ⊥
    based_none [] rest e size written base b = decimal_in_based bytes [] size written base d refl b
    based_none (m ∷ more) rest e size written base b =
        let same =
        one_split class.Decimal bytes (m ∷ more) size (39 ∷ b.letter ∷ written) b.is (decimal_all bytes d)
        (subst (Stops class.Decimal) e s) (size_all size b.sized) refl in
        let front : behind ≡ 39 ∷ b.letter ∷ (written ++ rest) = e ∙ ap (λ (xs : List ℕ). xs ++ rest) same.1 in
        let bad : None ≡ Some base = sym n ∙ ap base_at front ∙ base_is b.letter (written ++ rest) ∙ b.based in
        cc

pub based_longest : (bytes behind size written : List ℕ) (base : Base) → IsBased bytes size written base → Stops class.Written behind
    → IsLongest Number bytes behind
based_longest bytes behind size written base b s = longest_of Number bytes behind (inr (size, written, base, b))
    (λ more rest e k. ⊎_elim
    (λ (p : IsDecimal (bytes ++ more)). absurd (no_base more p))
    (λ (p : (others digits : List ℕ) × (other : Base) × IsBased (bytes ++ more) others digits other).
    let c = p.3 in
    let whole : size ++ (39 ∷ b.letter ∷ (written ++ more)) ≡ p.0 ++ (39 ∷ c.letter ∷ p.1) =
    sym (based_again bytes more size written b.letter b.is) ∙ c.is in
    let same =
    one_split class.Decimal size (39 ∷ b.letter ∷ (written ++ more)) p.0 (39 ∷ c.letter ∷ p.1) whole (size_all size b.sized) refl
    (size_all p.0 c.sized) refl in
    let tail : written ++ more ≡ p.1 = ap (drop 2) same.1 in
    let all = subst (AllIn class.Written) (sym tail) c.digits in
    nothing_more class.Written more rest (all_parts class.Written written more all).1 (subst (Stops class.Written) e s))
    k)
  where
    no_base : (more : List ℕ) → IsDecimal (bytes ++ more) → ⊥
    no_base more p =
        let all = subst (AllIn class.Decimal) (based_again bytes more size written b.letter b.is) (decimal_all (bytes ++ more) p) in
        let k = all_parts class.Decimal size (39 ∷ b.letter ∷ (written ++ more)) all in
        false≢true (and_parts (is_in class.Decimal 39) (list_all (is_in class.Decimal) (b.letter ∷ (written ++ more))) k.1).0
