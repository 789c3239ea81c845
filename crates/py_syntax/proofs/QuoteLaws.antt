-- Texts, f-strings and docstrings: what is found byte by byte is what their items tell.
use Rattle.std.proofs.Common.{◌≡◌, ◌≢◌, ◌⊎◌, inl, inr, ℕ, zero, suc, ◌+◌, ◌≤◌, Bool, true, false, not, ◌==◌, ◌&&◌, ◌||◌, List, [], ◌∷◌, ◌++◌, length, take, Option, None, Some, refl, sym, ap, subst, ◌∙◌, arith, append_assoc, length-append, replicate}
use Rattle.std.proofs.lemmas.List.{length-replicate}
use Rattle.std.specs.Prelude.{if◌then◌else◌}
use Rattle.py_syntax.specs.Bytes.{is_quote, is_brace, is_escapable, not_line_feed}
use Rattle.py_syntax.specs.Items.{Item, plain, escaped, bytes_of, said_by, with_byte, AreInText, AreInLiteral, closing, AreInDocstring}
use Rattle.py_syntax.specs.Texts.{text_end, said_from, literal_len, docstring_end, after}
use Rattle.py_syntax.specs.Standing.{EndsBefore, StaysOpen, StaysOpenOnLine}
use Rattle.py_syntax.proofs.Tests.{equal, different, not_equal, same, neither, not_true, to_false}

-- Texts.

pub after_some : (k : ℕ) (x : Option ℕ) (n : ℕ) → after k x ≡ Some n → (m : ℕ) × (x ≡ Some m) × (n ≡ k + m)
after_some k None n e = cc
after_some k (Some m) n e = (m, refl, (let q : n ≡ k + m = cc in q))

-- A text that is closed behind n bytes: its items, its quote and the rest.
pub record Closed (quote : ℕ) (bs : List ℕ) (n : ℕ) : Type 0 where
  pub items : List Item
  pub rest : List ℕ
  pub split : bs ≡ bytes_of items ++ quote ∷ rest
  pub size : n ≡ length (bytes_of items) + 1
  pub proper : AreInText quote items

pub closed_plain : (quote b : ℕ) (bs : List ℕ) (n : ℕ) → (b ≢ 10) → (b ≢ 92) → (b ≢ quote) → (m : ℕ) → n ≡ 1 + m → Closed quote bs m → Closed quote (b ∷ bs) n
closed_plain quote b bs n e f g m k h = record {
  items = plain b ∷ h.items;
  rest = h.rest;
  split = ap (λ (xs : List ℕ). b ∷ xs) h.split;
  size = omega (arith, h.size);
  proper = (e, f, g, h.proper);
}

pub closed_escaped : (quote d : ℕ) (bs : List ℕ) (n : ℕ) → (d ≢ 10) → (m : ℕ) → n ≡ 2 + m → Closed quote bs m → Closed quote (92 ∷ d ∷ bs) n
closed_escaped quote d bs n e m k h = record {
  items = escaped d ∷ h.items;
  rest = h.rest;
  split = ap (λ (xs : List ℕ). 92 ∷ d ∷ xs) h.split;
  size = omega (arith, h.size);
  proper = (e, h.proper);
}

pub closed : (quote : ℕ) (bs : List ℕ) (n : ℕ) → text_end quote false bs ≡ Some n → Closed quote bs n
unfolding text_end
closed quote [] n e = cc
closed quote (b ∷ []) n e = go (b == 10) (b == quote) (b == 92) refl refl refl e
  where
    go : (x y z : Bool) → (b == 10) ≡ x → (b == quote) ≡ y → (b == 92) ≡ z
        → (if x then None else (if y then Some 1 else after 1 (text_end quote z []))) ≡ Some n → Closed quote (b ∷ []) n
    go true y z p q r e = cc
    go false true z p q r e = record { items = []; rest = []; split = ap (λ (x : ℕ). x ∷ []) (equal b quote q); size = (let k : n ≡ 1 = cc in omega arith); proper = tt }
    go false false z p q r e = cc
closed quote (b ∷ d ∷ ds) n e = go (b == 10) (b == quote) (b == 92) refl refl refl (λ m k. closed quote (d ∷ ds) m k) (λ m k. closed quote ds m k) e
  where
    escape : (x : Bool) → (d == 10) ≡ x → (b ≡ 92) → ((m : ℕ) → text_end quote false ds ≡ Some m → Closed quote ds m)
        → after 1 (if x then None else after 1 (text_end quote false ds)) ≡ Some n → Closed quote (b ∷ d ∷ ds) n
    escape true p f ih e = cc
    escape false p f ih e =
        let k = after_some 1 _ n e in
        let l = after_some 1 _ k.0 k.1 in
        rw f (closed_escaped quote d ds n (different d 10 p) l.0 (omega (arith, k.2, l.2)) (ih l.0 l.1))

    go : (x y z : Bool) → (b == 10) ≡ x → (b == quote) ≡ y → (b == 92) ≡ z
        → ((m : ℕ) → text_end quote false (d ∷ ds) ≡ Some m → Closed quote (d ∷ ds) m)
        → ((m : ℕ) → text_end quote false ds ≡ Some m → Closed quote ds m)
        → (if x then None else (if y then Some 1 else after 1 (text_end quote z (d ∷ ds)))) ≡ Some n → Closed quote (b ∷ d ∷ ds) n
    go true y z p q r i j e = cc
    go false true z p q r i j e = record { items = []; rest = d ∷ ds; split = ap (λ (x : ℕ). x ∷ d ∷ ds) (equal b quote q); size = (let k : n ≡ 1 = cc in omega arith); proper = tt }
    go false false true p q r i j e = escape (d == 10) refl (equal b 92 r) j e
    go false false false p q r i j e =
        let k = after_some 1 _ n e in
        closed_plain quote b (d ∷ ds) n (different b 10 p) (different b 92 r) (different b quote q) k.0 k.2 (i k.0 k.1)

pub said_items : (quote : ℕ) (items : List Item) → AreInText quote items → said_from false (bytes_of items) ≡ said_by items
unfolding said_from
said_items quote [] h = refl
said_items quote (plain b ∷ items) h = rw (not_equal b 92 h.1) (ap (λ (x : Option (List ℕ)). with_byte b x) (said_items quote items h.3))
said_items quote (escaped b ∷ items) h = ap (λ (x : Option (List ℕ)). if is_escapable b then with_byte b x else None) (said_items quote items h.1)

quote_is_not : (n quote : ℕ) → is_quote quote ≡ true → is_quote n ≡ false → (n == quote) ≡ false
quote_is_not n quote h k = to_false (n == quote) (λ e. let q : n ≡ quote = equal n quote e in not_true (is_quote n) k (rw q h))

pub quote_no_feed : (quote : ℕ) → is_quote quote ≡ true → (quote == 10) ≡ false
quote_no_feed quote h = to_false (quote == 10) (λ e. let q : quote ≡ 10 = equal quote 10 e in not_true (is_quote 10) refl (rw q at h))

-- The first such quote closes a text.
pub text_closed : (quote : ℕ) (items : List Item) (rest : List ℕ) → is_quote quote ≡ true → AreInText quote items
    → text_end quote false (bytes_of items ++ quote ∷ rest) ≡ Some (length (bytes_of items) + 1)
unfolding text_end
text_closed quote [] rest h k = rw (quote_no_feed quote h, same quote) refl
text_closed quote (plain b ∷ items) rest h k =
    rw (not_equal b 10 k.0, not_equal b quote k.2, not_equal b 92 k.1, text_closed quote items rest h k.3) (ap Some (let e : 1 + (length (bytes_of items) + 1) ≡ suc (length (bytes_of items)) + 1 = omega arith in e))
text_closed quote (escaped b ∷ items) rest h k =
    rw (quote_is_not 92 quote h refl, not_equal b 10 k.0, text_closed quote items rest h k.1)
    (ap Some (let e : 1 + (1 + (length (bytes_of items) + 1)) ≡ suc (suc (length (bytes_of items))) + 1 = omega arith in e))

-- A text that no quote closes has no end,
pub text_open : (quote : ℕ) (bs : List ℕ) → StaysOpenOnLine quote bs → text_end quote false bs ≡ None
text_open quote bs h = go (text_end quote false bs) refl
  where
    go : (o : Option ℕ) → text_end quote false bs ≡ o → o ≡ None
    go None e = refl
    go (Some n) e = let k = closed quote bs n e in absurd (h k.items k.rest k.proper k.split)

-- and one without an end is closed by none.
pub open_text_stays : (quote : ℕ) (bs : List ℕ) → is_quote quote ≡ true → text_end quote false bs ≡ None → StaysOpenOnLine quote bs
open_text_stays quote bs h e items behind proper split =
    let k : text_end quote false bs ≡ Some (length (bytes_of items) + 1) = rw split (text_closed quote items behind h proper) in
    cc

-- What stands for itself in an f-string.

pub said_literal : (quote : ℕ) (items : List Item) → AreInLiteral quote items → said_from false (bytes_of items) ≡ said_by items
unfolding said_from
said_literal quote [] h = refl
said_literal quote (plain b ∷ items) h = rw (not_equal b 92 h.1) (ap (λ (x : Option (List ℕ)). with_byte b x) (said_literal quote items h.4))
said_literal quote (escaped b ∷ items) h = ap (λ (x : Option (List ℕ)). if is_escapable b then with_byte b x else None) (said_literal quote items h.1)

pub said_cut : (quote : ℕ) (items : List Item) → AreInLiteral quote items → said_from false (bytes_of items ++ 92 ∷ []) ≡ None
unfolding said_from
said_cut quote [] h = refl
said_cut quote (plain b ∷ items) h = rw (not_equal b 92 h.1, said_cut quote items h.4) refl
said_cut quote (escaped b ∷ items) h = go (is_escapable b) (said_cut quote items h.1)
  where
    go : (x : Bool) → said_from false (bytes_of items ++ 92 ∷ []) ≡ None → (if x then with_byte b (said_from false (bytes_of items ++ 92 ∷ [])) else None) ≡ None
    go true e = rw e refl
    go false e = refl

pub literal_more : (quote : ℕ) (items : List Item) (rest : List ℕ) → is_quote quote ≡ true → AreInLiteral quote items
    → literal_len quote false (bytes_of items ++ rest) ≡ length (bytes_of items) + literal_len quote false rest
unfolding literal_len
literal_more quote [] rest h k = let e : literal_len quote false rest ≡ 0 + literal_len quote false rest = omega arith in e
literal_more quote (plain b ∷ items) rest h k =
    rw (not_equal b 10 k.0, not_equal b quote k.2, k.3, not_equal b 92 k.1, literal_more quote items rest h k.4)
    (let e : 1 + (length (bytes_of items) + literal_len quote false rest) ≡ suc (length (bytes_of items)) + literal_len quote false rest = omega arith in e)
literal_more quote (escaped b ∷ items) rest h k =
    rw (quote_is_not 92 quote h refl, not_equal b 10 k.0, literal_more quote items rest h k.1)
    (let e : 1 + (1 + (length (bytes_of items) + literal_len quote false rest)) ≡ suc (suc (length (bytes_of items))) + literal_len quote false rest = omega arith in e)

-- what an f-string's own text goes on with
abbrev pub goes_on : ℕ → ℕ → Bool
goes_on quote b = not (b == 10) && not ((b == quote) || is_brace b)

stops : (x y : Bool) → (not x && not y) ≡ false → (x ≡ true) ⊎ (y ≡ true)
stops true y e = inl refl
stops false true e = inr refl
stops false false e = cc

pub literal_ends : (quote : ℕ) (rest : List ℕ) → EndsBefore (goes_on quote) rest → literal_len quote false rest ≡ 0
unfolding literal_len
literal_ends quote [] h = refl
literal_ends quote (b ∷ bs) h = go (b == 10) ((b == quote) || is_brace b) (stops (b == 10) ((b == quote) || is_brace b) h)
  where
    go : (x y : Bool) → (x ≡ true) ⊎ (y ≡ true) → (if x then 0 else (if y then 0 else 1 + literal_len quote (b == 92) bs)) ≡ 0
    go true y e = refl
    go false true e = refl
    go false false (inl e) = cc
    go false false (inr e) = cc

pub cut_ends : (quote : ℕ) (rest : List ℕ) → is_quote quote ≡ true → EndsBefore not_line_feed rest → literal_len quote false (92 ∷ rest) ≡ 1
unfolding literal_len
cut_ends quote [] h k = rw (quote_is_not 92 quote h refl) refl
cut_ends quote (b ∷ bs) h k = rw (quote_is_not 92 quote h refl) (go (b == 10) k)
  where
    go : (x : Bool) → not x ≡ false → 1 + (if x then 0 else 1 + literal_len quote false bs) ≡ 1
    go true e = refl
    go false e = cc

-- The front of an f-string's own text: its items, and how it ends.
pub record Literal (quote : ℕ) (bs : List ℕ) : Type 0 where
  pub items : List Item
  pub rest : List ℕ
  pub split : bs ≡ bytes_of items ++ rest
  pub proper : AreInLiteral quote items
  pub ends : EndsBefore (goes_on quote) rest ⊎ ((behind : List ℕ) × (rest ≡ 92 ∷ behind) × EndsBefore not_line_feed behind)

literal_plain : (quote b : ℕ) (bs : List ℕ) → (b == 10) ≡ false → ((b == quote) || is_brace b) ≡ false → (b == 92) ≡ false → Literal quote bs → Literal quote (b ∷ bs)
literal_plain quote b bs e f g h =
    let t = neither (b == quote) (is_brace b) f in
    record {
      items = plain b ∷ h.items;
      rest = h.rest;
      split = ap (λ (xs : List ℕ). b ∷ xs) h.split;
      proper = (different b 10 e, different b 92 g, different b quote t.0, t.1, h.proper);
      ends = h.ends;
    }

literal_escaped : (quote b d : ℕ) (ds : List ℕ) → b ≡ 92 → (d == 10) ≡ false → Literal quote ds → Literal quote (b ∷ d ∷ ds)
literal_escaped quote b d ds e f h = record {
  items = escaped d ∷ h.items;
  rest = h.rest;
  split = rw e (ap (λ (xs : List ℕ). 92 ∷ d ∷ xs) h.split);
  proper = (different d 10 f, h.proper);
  ends = h.ends;
}

literal_stop : (quote b : ℕ) (bs : List ℕ) → goes_on quote b ≡ false → Literal quote (b ∷ bs)
literal_stop quote b bs e = record { items = []; rest = b ∷ bs; split = refl; proper = tt; ends = inl e }

literal_cut : (quote b : ℕ) (bs : List ℕ) → b ≡ 92 → EndsBefore not_line_feed bs → Literal quote (b ∷ bs)
literal_cut quote b bs e h = record { items = []; rest = b ∷ bs; split = refl; proper = tt; ends = inr (bs, ap (λ (x : ℕ). x ∷ bs) e, h) }

pub literal_of : (quote : ℕ) (bs : List ℕ) → Literal quote bs
literal_of quote [] = record { items = []; rest = []; split = refl; proper = tt; ends = inl tt }
literal_of quote (b ∷ []) = go (b == 10) ((b == quote) || is_brace b) (b == 92) refl refl refl
  where
    go : (x y z : Bool) → (b == 10) ≡ x → ((b == quote) || is_brace b) ≡ y → (b == 92) ≡ z → Literal quote (b ∷ [])
    go true y z p q r = literal_stop quote b [] (rw p refl)
    go false true z p q r = literal_stop quote b [] (rw (p, q) refl)
    go false false true p q r = literal_cut quote b [] (equal b 92 r) tt
    go false false false p q r = literal_plain quote b [] p q r (record { items = []; rest = []; split = refl; proper = tt; ends = inl tt })
literal_of quote (b ∷ d ∷ ds) = go (b == 10) ((b == quote) || is_brace b) (b == 92) (d == 10) refl refl refl refl (literal_of quote (d ∷ ds)) (literal_of quote ds)
  where
    go : (x y z w : Bool) → (b == 10) ≡ x → ((b == quote) || is_brace b) ≡ y → (b == 92) ≡ z → (d == 10) ≡ w → Literal quote (d ∷ ds) → Literal quote ds → Literal quote (b ∷ d ∷ ds)
    go true y z w p q r s i j = literal_stop quote b (d ∷ ds) (rw p refl)
    go false true z w p q r s i j = literal_stop quote b (d ∷ ds) (rw (p, q) refl)
    go false false true true p q r s i j = literal_cut quote b (d ∷ ds) (equal b 92 r) (rw s refl)
    go false false true false p q r s i j = literal_escaped quote b d ds (equal b 92 r) s j
    go false false false w p q r s i j = literal_plain quote b (d ∷ ds) p q r i

-- Docstrings.

-- A docstring that is closed behind n bytes, with so many quotes right before them.
pub record Tail (quotes : ℕ) (bs : List ℕ) (n : ℕ) : Type 0 where
  pub items : List Item
  pub rest : List ℕ
  pub split : replicate quotes 34 ++ bs ≡ bytes_of items ++ 34 ∷ 34 ∷ 34 ∷ rest
  pub size : n + quotes ≡ length (bytes_of items) + 3
  pub proper : AreInDocstring items

-- so many quotes before other items
abbrev quotes_before : ℕ → List Item → List Item
quotes_before zero items = items
quotes_before (suc n) items = plain 34 ∷ quotes_before n items

before_bytes : (n : ℕ) (items : List Item) → bytes_of (quotes_before n items) ≡ replicate n 34 ++ bytes_of items
before_bytes zero items = refl
before_bytes (suc n) items = ap (λ (xs : List ℕ). 34 ∷ xs) (before_bytes n items)

-- an item that isn't a quote
abbrev IsOther : Item → Type 0
IsOther (plain b) = (b ≢ 34) × (b ≢ 92)
IsOther (escaped b) = Unit {0}

not_closing : (i : Item) → IsOther i → (i ≡ plain 34) → ⊥
not_closing i o e = let k : IsOther (plain 34) = subst IsOther e o in k.0 refl

abbrev first_item : Item → List Item → Item
first_item i [] = i
first_item i (x ∷ xs) = x

other_first : (i : Item) (items : List Item) → IsOther i → AreInDocstring items → AreInDocstring (i ∷ items)
other_first (plain b) items o h = (o.1, (λ e. let k : b ≡ 34 = byte_of e in o.0 k), h)
  where
    byte_in : Item → ℕ
    byte_in (plain d) = d
    byte_in (escaped d) = 34

    byte_of : take 3 (plain b ∷ items ++ closing) ≡ closing → b ≡ 34
    byte_of e = ap (λ (xs : List Item). byte_in (first_item (plain b) xs)) e
other_first (escaped b) items o h = h

quote_stands : ◌≢◌ {A = ℕ} 34 92
quote_stands e = absurd (omega arith)

second_item : Item → List Item → Item
second_item i [] = i
second_item i (x ∷ xs) = first_item i xs

third_item : Item → List Item → Item
third_item i [] = i
third_item i (x ∷ xs) = second_item i xs

one_before : (i : Item) (items : List Item) → IsOther i → AreInDocstring items → AreInDocstring (plain 34 ∷ i ∷ items)
unfolding second_item
one_before i items o h = (quote_stands, (λ e. not_closing i o (ap (λ (xs : List Item). second_item i xs) e)), other_first i items o h)

two_before : (i : Item) (items : List Item) → IsOther i → AreInDocstring items → AreInDocstring (plain 34 ∷ plain 34 ∷ i ∷ items)
unfolding second_item third_item
two_before i items o h = (quote_stands, (λ e. not_closing i o (ap (λ (xs : List Item). third_item i xs) e)), one_before i items o h)

-- up to two quotes before another item
quotes_proper : (n : ℕ) (i : Item) (items : List Item) → n ≤ 2 → IsOther i → AreInDocstring items → AreInDocstring (quotes_before n (i ∷ items))
quotes_proper zero i items k o h = other_first i items o h
quotes_proper (suc zero) i items k o h = one_before i items o h
quotes_proper (suc (suc zero)) i items k o h = two_before i items o h
quotes_proper (suc (suc (suc n))) i items k o h = absurd (omega arith)

tail_more : (quotes : ℕ) (i : Item) (bs : List ℕ) (n m : ℕ) → quotes ≤ 2 → IsOther i → n ≡ length (bytes_of (i ∷ [])) + m → Tail 0 bs m → Tail quotes (bytes_of (i ∷ []) ++ bs) n
tail_more quotes i bs n m few o e h = record {
  items = quotes_before quotes (i ∷ h.items);
  rest = h.rest;
  split =
      ap (λ (xs : List ℕ). replicate quotes 34 ++ (bytes_of (i ∷ []) ++ xs)) h.split
      ∙ go i
      ∙ sym (append_assoc (replicate quotes 34) (bytes_of (i ∷ h.items)) (34 ∷ 34 ∷ 34 ∷ h.rest))
      ∙ ap (λ (xs : List ℕ). xs ++ 34 ∷ 34 ∷ 34 ∷ h.rest) (sym (before_bytes quotes (i ∷ h.items)));
  size =
      let b : length (bytes_of (quotes_before quotes (i ∷ h.items))) ≡ quotes + length (bytes_of (i ∷ h.items)) = ap length (before_bytes quotes (i ∷ h.items)) ∙ simp (length-append, length-replicate) refl in
      let c : length (bytes_of (i ∷ h.items)) ≡ length (bytes_of (i ∷ [])) + length (bytes_of h.items) = size_of i in
      omega (arith, h.size, b, c, e);
  proper = quotes_proper quotes i h.items few o h.proper;
}
  where
    go : (j : Item) → replicate quotes 34 ++ (bytes_of (j ∷ []) ++ (bytes_of h.items ++ 34 ∷ 34 ∷ 34 ∷ h.rest)) ≡ replicate quotes 34 ++ (bytes_of (j ∷ h.items) ++ 34 ∷ 34 ∷ 34 ∷ h.rest)
    go (plain b) = refl
    go (escaped b) = refl

    size_of : (j : Item) → length (bytes_of (j ∷ h.items)) ≡ length (bytes_of (j ∷ [])) + length (bytes_of h.items)
    size_of (plain b) = let k : suc (length (bytes_of h.items)) ≡ 1 + length (bytes_of h.items) = omega arith in k
    size_of (escaped b) = let k : suc (suc (length (bytes_of h.items))) ≡ 2 + length (bytes_of h.items) = omega arith in k

quote_more : (quotes : ℕ) (bs : List ℕ) → replicate quotes 34 ++ 34 ∷ bs ≡ replicate (suc quotes) 34 ++ bs
quote_more zero bs = refl
quote_more (suc n) bs = ap (λ (xs : List ℕ). 34 ∷ xs) (quote_more n bs)

tail_quote : (quotes b : ℕ) (bs : List ℕ) (n m : ℕ) → b ≡ 34 → n ≡ 1 + m → Tail (quotes + 1) bs m → Tail quotes (b ∷ bs) n
tail_quote quotes b bs n m q e h = record {
  items = h.items;
  rest = h.rest;
  split = rw q (quote_more quotes bs ∙ ap (λ (i : ℕ). replicate i 34 ++ bs) (let k : suc quotes ≡ quotes + 1 = omega arith in k) ∙ h.split);
  size = omega (arith, h.size);
  proper = h.proper;
}

tail_end : (quotes b : ℕ) (bs : List ℕ) (n : ℕ) → b ≡ 34 → quotes ≡ 2 → n ≡ 1 → Tail quotes (b ∷ bs) n
tail_end quotes b bs n q two_quotes e = record { items = []; rest = bs; split = rw (q, two_quotes) refl; size = omega arith; proper = tt }

pub tail : (quotes : ℕ) (bs : List ℕ) (n : ℕ) → quotes ≤ 2 → docstring_end false quotes bs ≡ Some n → Tail quotes bs n
unfolding docstring_end
tail quotes [] n few e = cc
tail quotes (b ∷ []) n few e = go (b == 34) (quotes == 2) (b == 92) refl refl refl e
  where
    go : (y z w : Bool) → (b == 34) ≡ y → (quotes == 2) ≡ z → (b == 92) ≡ w
        → (if y then (if z then Some 1 else after 1 (docstring_end false (quotes + 1) [])) else after 1 (docstring_end w 0 [])) ≡ Some n → Tail quotes (b ∷ []) n
    go true true w p q r e = tail_end quotes b [] n (equal b 34 p) (equal quotes 2 q) (let k : n ≡ 1 = cc in k)
    go true false w p q r e = cc
    go false z w p q r e = cc
tail quotes (b ∷ d ∷ ds) n few e =
    go (b == 34) (quotes == 2) (b == 92) refl refl refl (λ m k h. tail (quotes + 1) (d ∷ ds) m h k) (λ m k. tail 0 (d ∷ ds) m (omega arith) k) (λ m k. tail 0 ds m (omega arith) k) e
  where
    go : (y z w : Bool) → (b == 34) ≡ y → (quotes == 2) ≡ z → (b == 92) ≡ w
        → ((m : ℕ) → docstring_end false (quotes + 1) (d ∷ ds) ≡ Some m → quotes + 1 ≤ 2 → Tail (quotes + 1) (d ∷ ds) m)
        → ((m : ℕ) → docstring_end false 0 (d ∷ ds) ≡ Some m → Tail 0 (d ∷ ds) m)
        → ((m : ℕ) → docstring_end false 0 ds ≡ Some m → Tail 0 ds m)
        → (if y then (if z then Some 1 else after 1 (docstring_end false (quotes + 1) (d ∷ ds))) else after 1 (docstring_end w 0 (d ∷ ds))) ≡ Some n
        → Tail quotes (b ∷ d ∷ ds) n
    go true true w p q r i j k e = tail_end quotes b (d ∷ ds) n (equal b 34 p) (equal quotes 2 q) (let l : n ≡ 1 = cc in l)
    go true false w p q r i j k e =
        let t = after_some 1 _ n e in
        let f : quotes ≢ 2 = different quotes 2 q in
        tail_quote quotes b (d ∷ ds) n t.0 (equal b 34 p) t.2 (i t.0 t.1 (omega arith))
    go false z true p q r i j k e =
        let t = after_some 1 _ n e in
        let u = after_some 1 _ t.0 t.1 in
        rw (equal b 92 r) (tail_more quotes (escaped d) ds n u.0 few tt (let l : n ≡ 2 + u.0 = omega (arith, t.2, u.2) in l) (k u.0 u.1))
    go false z false p q r i j k e =
        let t = after_some 1 _ n e in
        tail_more quotes (plain b) (d ∷ ds) n t.0 few (different b 34 p, different b 92 r) t.2 (j t.0 t.1)

-- so many quotes stand right before these items, and no three of them in a row
abbrev IsFree : ℕ → List Item → Type 0
IsFree zero items = Unit {0}
IsFree (suc zero) items = take 2 (items ++ closing) ≢ plain 34 ∷ plain 34 ∷ []
IsFree (suc (suc n)) items = take 1 (items ++ closing) ≢ plain 34 ∷ []

-- The first three quotes in a row close a docstring.
module _ (rest : List ℕ) where
  abbrev Ends : ℕ → List Item → Type 0
  Ends k items = docstring_end false k (bytes_of items ++ 34 ∷ 34 ∷ 34 ∷ rest) ≡ Some (length (bytes_of items) + 3)

  one_more : (n : ℕ) (x : Option ℕ) → x ≡ Some (n + 3) → after 1 x ≡ Some (suc n + 3)
  one_more n x e = rw e (ap Some (let k : 1 + (n + 3) ≡ suc n + 3 = omega arith in k))

  pub closes : (k : ℕ) (items : List Item) → k ≤ 2 → AreInDocstring items → IsFree k items → Ends k items
  unfolding docstring_end
  closes zero [] few h f = refl
  closes (suc zero) [] few h f = absurd (f refl)
  closes (suc (suc k)) [] few h f = absurd (f refl)
  closes zero (plain b ∷ items) few h f = go (b == 34) refl (closes 1 items (omega arith) h.2) (closes 0 items (omega arith) h.2 tt)
    where
      go : (y : Bool) → (b == 34) ≡ y → (IsFree 1 items → Ends 1 items) → Ends 0 items
          → (if y then after 1 (docstring_end false 1 (bytes_of items ++ 34 ∷ 34 ∷ 34 ∷ rest)) else after 1 (docstring_end (b == 92) 0 (bytes_of items ++ 34 ∷ 34 ∷ 34 ∷ rest))) ≡ Some (suc (length (bytes_of items)) + 3)
      go true p i j =
          let q : b ≡ 34 = equal b 34 p in
          let free : take 2 (items ++ closing) ≢ plain 34 ∷ plain 34 ∷ [] = λ e. h.1 (let u : plain b ∷ take 2 (items ++ closing) ≡ closing = cc in u) in
          one_more (length (bytes_of items)) _ (i free)
      go false p i j = rw (not_equal b 92 h.0) (one_more (length (bytes_of items)) _ j)
  closes (suc zero) (plain b ∷ items) few h f = go (b == 34) refl (closes 2 items (omega arith) h.2) (closes 0 items (omega arith) h.2 tt)
    where
      go : (y : Bool) → (b == 34) ≡ y → (IsFree 2 items → Ends 2 items) → Ends 0 items
          → (if y then after 1 (docstring_end false 2 (bytes_of items ++ 34 ∷ 34 ∷ 34 ∷ rest)) else after 1 (docstring_end (b == 92) 0 (bytes_of items ++ 34 ∷ 34 ∷ 34 ∷ rest))) ≡ Some (suc (length (bytes_of items)) + 3)
      go true p i j =
          let q : b ≡ 34 = equal b 34 p in
          let free : take 1 (items ++ closing) ≢ plain 34 ∷ [] = λ e. f (let u : plain b ∷ take 1 (items ++ closing) ≡ plain 34 ∷ plain 34 ∷ [] = cc in u) in
          one_more (length (bytes_of items)) _ (i free)
      go false p i j = rw (not_equal b 92 h.0) (one_more (length (bytes_of items)) _ j)
  closes (suc (suc k)) (plain b ∷ items) few h f =
      let other : b ≢ 34 = λ q. f (let u : plain b ∷ [] ≡ plain 34 ∷ [] = cc in u) in
      rw (not_equal b 34 other, not_equal b 92 h.0) (one_more (length (bytes_of items)) _ (closes 0 items (omega arith) h.2 tt))
  closes k (escaped b ∷ items) few h f = one_more (suc (length (bytes_of items))) _ (one_more (length (bytes_of items)) _ (closes 0 items (omega arith) h tt))

-- A docstring without an end stays open,
pub endless_stays : (body : List ℕ) → docstring_end false 0 body ≡ None → StaysOpen body
endless_stays body e items behind proper split =
    let k : docstring_end false 0 body ≡ Some (length (bytes_of items) + 3) = rw split (closes behind 0 items (omega arith) proper tt) in
    cc

-- and one that stays open has none.
pub stays_endless : (body : List ℕ) → StaysOpen body → docstring_end false 0 body ≡ None
stays_endless body h = go (docstring_end false 0 body) refl
  where
    go : (o : Option ℕ) → docstring_end false 0 body ≡ o → o ≡ None
    go None e = refl
    go (Some n) e = let k = tail 0 body n (omega arith) e in absurd (h k.items k.rest k.proper k.split)
