-- Facts of sets of kinds.
use Rattle.std.proofs.Common.{◌≡◌, ℕ, zero, suc, Bool, true, false, not, ◌&&◌, ◌||◌, List, [], ◌∷◌, Some, None, refl, sym, ap, ◌∙◌, arith, ◌⊎◌, inl, inr}
use Rattle.std.specs.Prelude.{slice_get}
use Rattle.std.specs.List.{list_all}
use Rattle.v_syntax.specs.declared.token.Token.TheVariants as token
use Rattle.v_syntax.specs.declared.mark.Mark.{Mark}
use Rattle.v_syntax.specs.declared.mark.Mark.TheVariants as mark
use Rattle.v_syntax.specs.declared.word.Keyword.{Keyword}
use Rattle.v_syntax.specs.declared.word.Keyword.TheVariants as word
use Rattle.v_syntax.specs.Marks.{marks}
use Rattle.v_syntax.specs.Words.{keywords}
use Rattle.v_syntax.specs.SameMarks.{mark_number, same_mark}
use Rattle.v_syntax.specs.SameWords.{word_number, same_word}
use Rattle.v_expression.specs.Phrase.Stops.{is_mark}
use Rattle.v_expression.specs.Phrase.Readers.{is_word, starts_with}
use Rattle.v_expression.specs.Phrase.Kinds.{Kind, AtEnd, AtName, AtKeyword, AtReserved, AtTask, AtNumber, AtText, AtMark, Kinds, a_mark, a_word, first_of, last_of, every, implies, same_truth, Within, SameKinds, Tells}

-- ---- truth

pub and_left : (a b : Bool) → (a && b) ≡ true → a ≡ true
and_left true b h = refl
and_left false b h = h

pub and_right : (a b : Bool) → (a && b) ≡ true → b ≡ true
and_right true b h = h
and_right false b h = absurd (let e : false ≡ true = h in cc)

pub and_both : (a b : Bool) → a ≡ true → b ≡ true → (a && b) ≡ true
and_both a b h k = rw (h, k) refl

pub or_left : (a b : Bool) → a ≡ true → (a || b) ≡ true
or_left a b h = rw h refl

pub or_right : (a b : Bool) → b ≡ true → (a || b) ≡ true
or_right true b h = refl
or_right false b h = h

pub or_case : (a b : Bool) → (a || b) ≡ true → (a ≡ true) ⊎ (b ≡ true)
or_case true b h = inl refl
or_case false b h = inr h

pub not_true : (a : Bool) → not a ≡ true → a ≡ false
not_true true h = absurd (let e : false ≡ true = h in cc)
not_true false h = refl

pub true_or_false : (a : Bool) → (a ≡ true) ⊎ (a ≡ false)
true_or_false true = inl refl
true_or_false false = inr refl

pub not_both : (a : Bool) → a ≡ true → a ≡ false → ⊥
not_both a h k = cc

-- ---- every kind

mark_numbered : (m : Mark) → slice_get marks (mark_number m) ≡ Some m
mark_numbered mark.CaseEqual = refl
mark_numbered _ = refl

word_numbered : (w : Keyword) → slice_get keywords (word_number w) ≡ Some w
word_numbered word.Always = refl
word_numbered _ = refl

none_some : {X : Type 0} (x : X) → None ≡ Some x → ⊥
none_some x h = cc

some_same : {X : Type 0} (x y : X) → Some x ≡ Some y → x ≡ y
some_same x y h = cc

all_got : {X : Type 0} (test : X → Bool) (xs : List X) (i : ℕ) (x : X) → list_all test xs ≡ true → slice_get xs i ≡ Some x → test x ≡ true
all_got test [] i x a g = absurd (none_some x g)
all_got test (y ∷ ys) zero x a g = ap test (sym (some_same y x g)) ∙ and_left (test y) (list_all test ys) a
all_got test (y ∷ ys) (suc i) x a g = all_got test ys i x (and_right (test y) (list_all test ys) a) g

module _ (is : Kinds) (h : every is ≡ true) where
  words : list_all (λ w. is (AtKeyword w)) keywords ≡ true
  words = and_right (is AtEnd && is AtName && is AtReserved && is AtTask && is AtNumber && is AtText && list_all (λ m. is (AtMark m)) marks) (list_all (λ w. is (AtKeyword w)) keywords) h

  front7 : (is AtEnd && is AtName && is AtReserved && is AtTask && is AtNumber && is AtText && list_all (λ m. is (AtMark m)) marks) ≡ true
  front7 = and_left _ (list_all (λ w. is (AtKeyword w)) keywords) h

  front6 : (is AtEnd && is AtName && is AtReserved && is AtTask && is AtNumber && is AtText) ≡ true
  front6 = and_left _ (list_all (λ m. is (AtMark m)) marks) front7

  front5 : (is AtEnd && is AtName && is AtReserved && is AtTask && is AtNumber) ≡ true
  front5 = and_left _ (is AtText) front6

  front4 : (is AtEnd && is AtName && is AtReserved && is AtTask) ≡ true
  front4 = and_left _ (is AtNumber) front5

  front3 : (is AtEnd && is AtName && is AtReserved) ≡ true
  front3 = and_left _ (is AtTask) front4

  front2 : (is AtEnd && is AtName) ≡ true
  front2 = and_left _ (is AtReserved) front3

  pub of_every : (k : Kind) → is k ≡ true
  of_every AtEnd = and_left (is AtEnd) (is AtName) front2
  of_every AtName = and_right (is AtEnd) (is AtName) front2
  of_every (AtKeyword w) = all_got (λ x. is (AtKeyword x)) keywords (word_number w) w words (word_numbered w)
  of_every AtReserved = and_right (is AtEnd && is AtName) (is AtReserved) front3
  of_every AtTask = and_right (is AtEnd && is AtName && is AtReserved) (is AtTask) front4
  of_every AtNumber = and_right (is AtEnd && is AtName && is AtReserved && is AtTask) (is AtNumber) front5
  of_every AtText = and_right (is AtEnd && is AtName && is AtReserved && is AtTask && is AtNumber) (is AtText) front6
  of_every (AtMark m) = all_got (λ x. is (AtMark x)) marks (mark_number m) m (and_right (is AtEnd && is AtName && is AtReserved && is AtTask && is AtNumber && is AtText) (list_all (λ x. is (AtMark x)) marks) front7) (mark_numbered m)

implied : (a b : Bool) → implies a b ≡ true → a ≡ true → b ≡ true
implied true b h k = h
implied false b h k = absurd (let e : false ≡ true = k in cc)

pub within : (a b : Kinds) → Within a b → (k : Kind) → a k ≡ true → b k ≡ true
within a b h k i = implied (a k) (b k) (of_every (λ x. implies (a x) (b x)) h k) i

truth_same : (a b : Bool) → same_truth a b ≡ true → a ≡ b
truth_same true true h = refl
truth_same true false h = sym h
truth_same false true h = h
truth_same false false h = refl

pub same_kinds : (a b : Kinds) → SameKinds a b → (k : Kind) → a k ≡ b k
same_kinds a b h k = truth_same (a k) (b k) (of_every (λ x. same_truth (a x) (b x)) h k)

-- ---- sets put together

pub in_first : (e : Bool) (a b : Kinds) (k : Kind) → a k ≡ true → first_of e a b k ≡ true
in_first false a b k h = h
in_first true a b k h = or_left (a k) (b k) h

pub in_second : (e : Bool) (a b : Kinds) (k : Kind) → e ≡ true → b k ≡ true → first_of e a b k ≡ true
in_second true a b k e h = or_right (a k) (b k) h
in_second false a b k e h = absurd (let f : false ≡ true = e in cc)

pub last_right : (e : Bool) (a b : Kinds) (k : Kind) → last_of e a b k ≡ true → b k ≡ true
last_right false a b k h = h
last_right true a b k h = and_right (a k) (b k) h

pub last_left : (e : Bool) (a b : Kinds) (k : Kind) → e ≡ true → last_of e a b k ≡ true → a k ≡ true
last_left true a b k e h = and_left (a k) (b k) h
last_left false a b k e h = absurd (let f : false ≡ true = e in cc)

-- ---- tests of the first token

pub tells_mark : (m : Mark) → Tells (starts_with (is_mark m)) (a_mark m)
tells_mark m [] = refl
tells_mark m (token.Mark k ∷ ts) = refl
tells_mark m (token.Name n ∷ ts) = refl
tells_mark m (token.Keyword w ∷ ts) = refl
tells_mark m (token.Reserved w ∷ ts) = refl
tells_mark m (token.SystemTask t ∷ ts) = refl
tells_mark m (token.Number ds ∷ ts) = refl
tells_mark m (token.Text t ∷ ts) = refl

pub tells_word : (w : Keyword) → Tells (starts_with (is_word w)) (a_word w)
tells_word k [] = refl
tells_word k (token.Mark m ∷ ts) = refl
tells_word k (token.Name n ∷ ts) = refl
tells_word k (token.Keyword w ∷ ts) = refl
tells_word k (token.Reserved w ∷ ts) = refl
tells_word k (token.SystemTask t ∷ ts) = refl
tells_word k (token.Number ds ∷ ts) = refl
tells_word k (token.Text t ∷ ts) = refl

pub same_mark_is : (m k : Mark) → same_mark m k ≡ true → m ≡ k
same_mark_is m k h =
    let e : mark_number m ≡ mark_number k = grind arith in
    some_same m k (sym (mark_numbered m) ∙ ap (slice_get marks) e ∙ mark_numbered k)

pub same_mark_self : (m : Mark) → same_mark m m ≡ true
same_mark_self m = grind arith

pub same_word_is : (m k : Keyword) → same_word m k ≡ true → m ≡ k
same_word_is m k h =
    let e : word_number m ≡ word_number k = grind arith in
    some_same m k (sym (word_numbered m) ∙ ap (slice_get keywords) e ∙ word_numbered k)

pub same_word_self : (m : Keyword) → same_word m m ≡ true
same_word_self m = grind arith
