-- A VCD text of a design is that of one list of changes: it is read line by line.
use Rattle.std.specs.Prelude.{◌≡◌, ◌≢◌, ◌⊎◌, ◌<◌, ◌≤◌, ◌^◌, ◌==◌, ◌&&◌, ◌+◌, ◌-◌, ◌*◌, ◌/◌, ◌%◌, ℕ, zero, suc, nat_lt, not, Bool, true, false, List, [], ◌∷◌, ◌++◌, codes, drop, length, if◌then◌else◌, refl}
use Rattle.std.specs.List.{AllByRecursion, list_all}
use Rattle.std.specs.Fmt.{decimal}
use Rattle.std.specs.Str.Parse.{AllDigits}
use Rattle.std.specs.Char.{digit_value}
use Rattle.std.proofs.Common.{ap, sym, subst, ◌∙◌, append_assoc, append-nil, arith, inl, inr}
use Rattle.std.proofs.lemmas.Bool.{and_parts, true≢false}
use Rattle.std.proofs.lemmas.Bool.Decides.{eqb_tells, nat_tests}
use Rattle.std.proofs.lemmas.List.{append_cancel_left}
use Rattle.std.proofs.lemmas.List.Folds.{list_all-append}
use Rattle.std.proofs.lemmas.Fmt.{decimal_is_IsNumeral, decimal_injective}
use Rattle.port_io.specs.ToldLaws.{joined, joined_then}
use Rattle.gpi.specs.declared.design.Flat.{Flat}
use Rattle.vcd_text.specs.Spelling.{is_digit, code, code_digits, value_front, value_line, time_line}
use Rattle.vcd_text.specs.Forms.{number_of}
use Rattle.vcd_text.specs.Changes.{ValueChange, IsChangeOf}
use Rattle.vcd_text.specs.Text.{begin_lines, lines_of_change, change_lines}
use Rattle.vcd_text.specs.Readable.{One_list}

-- ---- texts without a byte

abbrev pub lacks : ℕ → List ℕ → Bool
lacks k text = list_all (λ byte. not (byte == k)) text

pub is_there : (k b : ℕ) → not (b == k) ≡ true → b ≡ k → ⊥
is_there k b h e = by (eqb_tells b k)
  where
    by : (((b == k) ≡ true) × (b ≡ k)) ⊎ (((b == k) ≡ false) × (b ≢ k)) → ⊥
    by (inl t) = true≢false (sym h ∙ ap not t.0)
    by (inr t) = t.1 e

other_byte : (k b : ℕ) → (b ≡ k → ⊥) → not (b == k) ≡ true
other_byte k b other = by (eqb_tells b k)
  where
    by : (((b == k) ≡ true) × (b ≡ k)) ⊎ (((b == k) ≡ false) × (b ≢ k)) → not (b == k) ≡ true
    by (inl t) = absurd (other t.1)
    by (inr t) = ap not t.0

pub lacks_head : (k b : ℕ) (bs : List ℕ) → lacks k (b ∷ bs) ≡ true → b ≡ k → ⊥
lacks_head k b bs h = is_there k b (and_parts (not (b == k)) (lacks k bs) h).0

pub lacks_tail : (k b : ℕ) (bs : List ℕ) → lacks k (b ∷ bs) ≡ true → lacks k bs ≡ true
lacks_tail k b bs h = (and_parts (not (b == k)) (lacks k bs) h).1

pub lacks_more : (k b : ℕ) (bs : List ℕ) → (b ≡ k → ⊥) → lacks k bs ≡ true → lacks k (b ∷ bs) ≡ true
lacks_more k b bs other h = ap (λ (x : Bool). x && lacks k bs) (other_byte k b other) ∙ h

pub lacks_both : (k : ℕ) (xs ys : List ℕ) → lacks k xs ≡ true → lacks k ys ≡ true → lacks k (xs ++ ys) ≡ true
lacks_both k xs ys h g = list_all-append (λ byte. not (byte == k)) xs ys ∙ (ap (λ (x : Bool). x && lacks k ys) h ∙ g)

pub cut_once : (k : ℕ) (a b c d : List ℕ) → lacks k a ≡ true → lacks k c ≡ true → a ++ k ∷ b ≡ c ++ k ∷ d → (a ≡ c) × (b ≡ d)
cut_once k [] b [] d p q e = let t : b ≡ d = cc in (refl, t)
cut_once k [] b (y ∷ c) d p q e = let h : k ≡ y = cc in absurd (lacks_head k y c q (sym h))
cut_once k (x ∷ a) b [] d p q e = let h : x ≡ k = cc in absurd (lacks_head k x a p h)
cut_once k (x ∷ a) b (y ∷ c) d p q e =
    let h : x ≡ y = cc in let t : a ++ k ∷ b ≡ c ++ k ∷ d = cc in
    let more = cut_once k a b c d (lacks_tail k x a p) (lacks_tail k y c q) t in
    (ap (λ (n : ℕ). n ∷ a) h ∙ ap (λ (l : List ℕ). y ∷ l) more.0, more.1)

pub digits_lack : (k : ℕ) → is_digit k ≡ false → (digits : List ℕ) → list_all is_digit digits ≡ true → lacks k digits ≡ true
digits_lack k none [] h = refl
digits_lack k none (b ∷ digits) h =
    let parts = and_parts (is_digit b) (list_all is_digit digits) h in
    lacks_more k b digits (λ e. true≢false (sym parts.0 ∙ (ap is_digit e ∙ none))) (digits_lack k none digits parts.1)

no_feed_digit : (b : ℕ) → digit_value b < 10 → b ≡ 10 → ⊥
no_feed_digit b h e = let f : digit_value 10 < 10 = subst (λ (k : ℕ). digit_value k < 10) e h in omega (arith, f)

pub numeral_lacks : (digits : List ℕ) → AllDigits 10 digits → lacks 10 digits ≡ true
numeral_lacks [] h = refl
numeral_lacks (b ∷ digits) h = lacks_more 10 b digits (no_feed_digit b h.0) (numeral_lacks digits h.1)

-- ---- codes

rest_lacks : (k : ℕ) (last : Bool) (more : List ℕ) → lacks k more ≡ true → lacks k (if last then [] else more) ≡ true
rest_lacks k true more h = refl
rest_lacks k false more h = h

pub code_lacks : (k : ℕ) → k < 33 → (digits n : ℕ) → lacks k (code_digits digits n) ≡ true
code_lacks k small zero n = refl
code_lacks k small (suc digits) n =
    lacks_more k (33 + n % 94) (if nat_lt n 94 then [] else code_digits digits (n / 94)) (λ e. absurd (omega (arith, e, small)))
    (rest_lacks k (nat_lt n 94) (code_digits digits (n / 94)) (code_lacks k small digits (n / 94)))

number_last : (n : ℕ) (more : List ℕ) (last : Bool) → nat_lt n 94 ≡ last → (last ≡ false → number_of more ≡ n / 94)
    → ((33 + n % 94) - 33) + 94 * number_of (if last then [] else more) ≡ n
number_last n more true e h = let l : n < 94 = grind (arith, nat_tests) in omega (arith, l)
number_last n more false e h = let v = h refl in omega (arith, v)

pub number_is : (digits n : ℕ) → n < digits → number_of (code_digits digits n) ≡ n
number_is zero n h = absurd (omega (arith, h))
number_is (suc digits) n h =
    number_last n (code_digits digits (n / 94)) (nat_lt n 94) refl (λ big. number_is digits (n / 94) (let l : 94 ≤ n = grind (arith, nat_tests) in omega (arith, l, h)))

pub code_once : (m n : ℕ) → code m ≡ code n → m ≡ n
code_once m n e = sym (number_is (suc m) m (omega arith)) ∙ (ap number_of e ∙ number_is (suc n) n (omega arith))

-- ---- values

abbrev front_as : Bool → List ℕ → List ℕ
front_as one digits = if one then digits else codes "b" ++ digits ++ codes " "

pub one_digit : (digits : List ℕ) → length digits ≡ 1 → (x : ℕ) × (digits ≡ x ∷ [])
one_digit [] h = absurd (omega (arith, h))
one_digit (x ∷ []) h = (x, refl)
one_digit (x ∷ y ∷ digits) h = absurd (omega (arith, h))

pub len_one : (digits : List ℕ) → (length digits == 1) ≡ true → length digits ≡ 1
len_one digits h = grind (arith, nat_tests)

pub not_b : (x : ℕ) → is_digit x ≡ true → x ≡ 98 → ⊥
not_b x h e = true≢false (sym h ∙ ap is_digit e)

pub head_digit : (x : ℕ) (digits : List ℕ) → digits ≡ x ∷ [] → list_all is_digit digits ≡ true → is_digit x ≡ true
head_digit x digits e h = (and_parts (is_digit x) true (subst (λ (l : List ℕ). list_all is_digit l ≡ true) e h)).0

vector_is : (digits more : List ℕ) → front_as false digits ++ more ≡ 98 ∷ (digits ++ 32 ∷ more)
vector_is digits more = append_assoc (98 ∷ digits) (32 ∷ []) more

front_once : (c d : List ℕ) (m n : ℕ) (u v : Bool) → (length c == 1) ≡ u → (length d == 1) ≡ v → list_all is_digit c ≡ true → list_all is_digit d ≡ true
    → front_as u c ++ code m ≡ front_as v d ++ code n → (c ≡ d) × (code m ≡ code n)
front_once c d m n true true p q h g e = (x.1 ∙ (ap (λ (k : ℕ). k ∷ []) same ∙ sym y.1), rest)
  where
    x : (x : ℕ) × (c ≡ x ∷ [])
    x = one_digit c (len_one c p)

    y : (y : ℕ) × (d ≡ y ∷ [])
    y = one_digit d (len_one d q)

    heads : x.0 ∷ code m ≡ y.0 ∷ code n
    heads = sym (ap (λ (l : List ℕ). l ++ code m) x.1) ∙ (e ∙ ap (λ (l : List ℕ). l ++ code n) y.1)

    same : x.0 ≡ y.0
    same = let k = heads in cc

    rest : code m ≡ code n
    rest = ap (drop 1) heads
front_once c d m n true false p q h g e =
    let x = one_digit c (len_one c p) in
    let heads : x.0 ∷ code m ≡ 98 ∷ (d ++ 32 ∷ code n) = sym (ap (λ (l : List ℕ). l ++ code m) x.1) ∙ (e ∙ vector_is d (code n)) in
    let same : x.0 ≡ 98 = cc in absurd (not_b x.0 (head_digit x.0 c x.1 h) same)
front_once c d m n false true p q h g e =
    let y = one_digit d (len_one d q) in
    let heads : y.0 ∷ code n ≡ 98 ∷ (c ++ 32 ∷ code m) = sym (ap (λ (l : List ℕ). l ++ code n) y.1) ∙ (sym e ∙ vector_is c (code m)) in
    let same : y.0 ≡ 98 = cc in absurd (not_b y.0 (head_digit y.0 d y.1 g) same)
front_once c d m n false false p q h g e =
    cut_once 32 c (code m) d (code n) (digits_lack 32 refl c h) (digits_lack 32 refl d g) (ap (drop 1) (sym (vector_is c (code m)) ∙ (e ∙ vector_is d (code n))))

front_lacks : (one : Bool) (digits : List ℕ) → list_all is_digit digits ≡ true → lacks 10 (front_as one digits) ≡ true
front_lacks true digits h = digits_lack 10 refl digits h
front_lacks false digits h = lacks_both 10 (98 ∷ digits) (32 ∷ []) (digits_lack_b digits h) refl
  where
    digits_lack_b : (digits : List ℕ) → list_all is_digit digits ≡ true → lacks 10 (98 ∷ digits) ≡ true
    digits_lack_b digits h = lacks_more 10 98 digits (λ e. absurd (omega (arith, e))) (digits_lack 10 refl digits h)

pub value_lacks : (signal : ℕ) (digits : List ℕ) → list_all is_digit digits ≡ true → lacks 10 (value_front digits ++ code signal) ≡ true
value_lacks signal digits h =
    lacks_both 10 (value_front digits) (code signal) (front_lacks (length digits == 1) digits h) (code_lacks 10 (omega arith) (suc signal) signal)

-- a value and what stands behind its line
pub value_once : (m n : ℕ) (c d more others : List ℕ) → list_all is_digit c ≡ true → list_all is_digit d ≡ true → value_line m c ++ more ≡ value_line n d ++ others
    → (c ≡ d) × (m ≡ n) × (more ≡ others)
value_once m n c d more others h g e = (fronts.0, code_once m n fronts.1, lines.1)
  where
    lines : (value_front c ++ code m ≡ value_front d ++ code n) × (more ≡ others)
    lines = cut_once 10 (value_front c ++ code m) more (value_front d ++ code n) others (value_lacks m c h) (value_lacks n d g)
        (sym (append_assoc (value_front c ++ code m) (10 ∷ []) more) ∙ (e ∙ append_assoc (value_front d ++ code n) (10 ∷ []) others))

    fronts : (c ≡ d) × (code m ≡ code n)
    fronts = front_once c d m n (length c == 1) (length d == 1) refl refl h g lines.0

-- ---- times

pub time_once : (s t : ℕ) (more others : List ℕ) → s < 2 ^ 64 → t < 2 ^ 64 → time_line s ++ more ≡ time_line t ++ others → (s ≡ t) × (more ≡ others)
time_once s t more others h g e = (decimal_injective s t h g (ap (drop 1) lines.0), lines.1)
  where
    hash_lacks : (n : ℕ) → n < 2 ^ 64 → lacks 10 (35 ∷ decimal n) ≡ true
    hash_lacks n below = lacks_more 10 35 (decimal n) (λ k. absurd (omega (arith, k))) (numeral_lacks (decimal n) (decimal_is_IsNumeral n below).0.1)

    lines : (35 ∷ decimal s ≡ 35 ∷ decimal t) × (more ≡ others)
    lines = cut_once 10 (35 ∷ decimal s) more (35 ∷ decimal t) others (hash_lacks s h) (hash_lacks t g)
        (sym (append_assoc (35 ∷ decimal s) (10 ∷ []) more) ∙ (e ∙ append_assoc (35 ∷ decimal t) (10 ∷ []) others))

heads_same : (x y : ℕ) (xs ys : List ℕ) → x ∷ xs ≡ y ∷ ys → x ≡ y
heads_same x y xs ys e = cc

front_no_hash : (one : Bool) (digits more rest : List ℕ) → (length digits == 1) ≡ one → list_all is_digit digits ≡ true → front_as one digits ++ more ≡ 35 ∷ rest → ⊥
front_no_hash true digits more rest p h e =
    let x = one_digit digits (len_one digits p) in
    let heads : x.0 ∷ more ≡ 35 ∷ rest = sym (ap (λ (l : List ℕ). l ++ more) x.1) ∙ e in
    let same : x.0 ≡ 35 = cc in true≢false (sym (head_digit x.0 digits x.1 h) ∙ ap is_digit same)
front_no_hash false digits more rest p h e = let same = heads_same 98 35 ((digits ++ 32 ∷ []) ++ more) rest e in absurd (omega (arith, same))

pub value_no_hash : (signal : ℕ) (digits more rest : List ℕ) → list_all is_digit digits ≡ true → value_line signal digits ++ more ≡ 35 ∷ rest → ⊥
value_no_hash signal digits more rest h e =
    front_no_hash (length digits == 1) digits (code signal ++ (10 ∷ more)) rest refl h
    (sym (append_assoc (value_front digits) (code signal) (10 ∷ more)) ∙ (sym (append_assoc (value_front digits ++ code signal) (10 ∷ []) more) ∙ e))

-- ---- changes

abbrev after : ℕ → List ValueChange → List ℕ
after last changes = joined (change_lines last changes)

abbrev change_text : Bool → ValueChange → List ℕ → List ℕ
change_text same change more =
    if same then value_line change.signal change.digits ++ more else time_line change.time ++ (value_line change.signal change.digits ++ more)

change_is : (last : ℕ) (change : ValueChange) (changes : List ValueChange) → after last (change ∷ changes) ≡ change_text (change.time == last) change (after change.time changes)
change_is last change changes = joined_then (lines_of_change last change) (change_lines change.time changes) ∙ by (change.time == last)
  where
    by : (same : Bool) → joined (if same then value_line change.signal change.digits ∷ [] else time_line change.time ∷ value_line change.signal change.digits ∷ []) ++ after change.time changes
        ≡ change_text same change (after change.time changes)
    by true = ap (λ (l : List ℕ). l ++ after change.time changes) (append-nil (value_line change.signal change.digits))
    by false =
        append_assoc (time_line change.time) (value_line change.signal change.digits ++ []) (after change.time changes)
        ∙ ap (λ (l : List ℕ). time_line change.time ++ (l ++ after change.time changes)) (append-nil (value_line change.signal change.digits))

same_change : (c d : ValueChange) → c.time ≡ d.time → c.signal ≡ d.signal → c.digits ≡ d.digits → c ≡ d
same_change c d t s g =
    ap (λ (time : ℕ). record { time = time; signal = c.signal; digits = c.digits }) t
    ∙ (ap (λ (signal : ℕ). record { time = d.time; signal = signal; digits = c.digits }) s
    ∙ ap (λ (digits : List ℕ). record { time = d.time; signal = d.signal; digits = digits }) g)

pub time_is : (t last : ℕ) → (t == last) ≡ true → t ≡ last
time_is t last h = grind (arith, nat_tests)

text_once : (flat : Flat) (last : ℕ) (c d : ValueChange) (u v : Bool) (more others : List ℕ) → IsChangeOf flat c → IsChangeOf flat d → (c.time == last) ≡ u → (d.time == last) ≡ v
    → change_text u c more ≡ change_text v d others → (c ≡ d) × (more ≡ others)
text_once flat last c d true true more others x y p q e =
    let values = value_once c.signal d.signal c.digits d.digits more others x.digits y.digits e in
    (same_change c d (time_is c.time last p ∙ sym (time_is d.time last q)) values.1 values.0, values.2)
text_once flat last c d true false more others x y p q e =
    absurd (value_no_hash c.signal c.digits more ((decimal d.time ++ 10 ∷ []) ++ (value_line d.signal d.digits ++ others)) x.digits e)
text_once flat last c d false true more others x y p q e =
    absurd (value_no_hash d.signal d.digits others ((decimal c.time ++ 10 ∷ []) ++ (value_line c.signal c.digits ++ more)) y.digits (sym e))
text_once flat last c d false false more others x y p q e =
    let times = time_once c.time d.time (value_line c.signal c.digits ++ more) (value_line d.signal d.digits ++ others) x.time y.time e in
    let values = value_once c.signal d.signal c.digits d.digits more others x.digits y.digits times.1 in
    (same_change c d times.0 values.1 values.0, values.2)

text_some : (same : Bool) (change : ValueChange) (more : List ℕ) → [] ≡ change_text same change more → ⊥
text_some true change more e = no_line (value_front change.digits ++ code change.signal) more e
  where
    no_line : (body rest : List ℕ) → [] ≡ (body ++ 10 ∷ []) ++ rest → ⊥
    no_line [] rest e = absurd (cc)
    no_line (b ∷ body) rest e = absurd (cc)
text_some false change more e = absurd (cc)

changes_once : (flat : Flat) (last : ℕ) (a b : List ValueChange) → AllByRecursion (IsChangeOf flat) a → AllByRecursion (IsChangeOf flat) b → after last a ≡ after last b → a ≡ b
changes_once flat last [] [] x y e = refl
changes_once flat last [] (d ∷ b) x y e = absurd (text_some (d.time == last) d (after d.time b) (e ∙ change_is last d b))
changes_once flat last (c ∷ a) [] x y e = absurd (text_some (c.time == last) c (after c.time a) (sym e ∙ change_is last c a))
changes_once flat last (c ∷ a) (d ∷ b) x y e =
    let first = text_once flat last c d (c.time == last) (d.time == last) (after c.time a) (after d.time b) x.0 y.0 refl refl (sym (change_is last c a) ∙ (e ∙ change_is last d b)) in
    let rest = changes_once flat c.time a b x.1 y.1 (first.1 ∙ ap (λ (t : ℕ). after t b) (sym (ap (λ (z : ValueChange). z.time) first.0))) in
    ap (λ (z : ValueChange). z ∷ a) first.0 ∙ ap (λ (l : List ValueChange). d ∷ l) rest

pub one_list : One_list
one_list flat a b x y e =
    changes_once flat 0 a b x.each y.each
    (append_cancel_left (joined (begin_lines flat)) (after 0 a) (after 0 b)
    (sym (joined_then (begin_lines flat) (change_lines 0 a)) ∙ (e ∙ joined_then (begin_lines flat) (change_lines 0 b))))
