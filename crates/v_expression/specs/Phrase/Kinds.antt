-- A means of proof: what token stands first, as far as the grammar looks at it, and sets of such kinds, for the proofs of Verilog's parser.
use Rattle.std.specs.Prelude.{◌≡◌, Bool, true, false, not, ◌&&◌, ◌||◌, List, [], ◌∷◌}
use Rattle.std.specs.List.{list_all}
use Rattle.v_syntax.specs.declared.token.Token.{Token}
use Rattle.v_syntax.specs.declared.token.Token.TheVariants as token
use Rattle.v_syntax.specs.declared.mark.Mark.{Mark}
use Rattle.v_syntax.specs.declared.word.Keyword.{Keyword}
use Rattle.v_syntax.specs.SameMarks.{same_mark}
use Rattle.v_syntax.specs.SameWords.{same_word}
use Rattle.v_syntax.specs.Marks.{marks}
use Rattle.v_syntax.specs.Words.{keywords}

pub data Kind : Type 0 where
  AtEnd : Kind
  AtName : Kind
  AtKeyword : Keyword → Kind
  AtReserved : Kind
  AtTask : Kind
  AtNumber : Kind
  AtText : Kind
  AtMark : Mark → Kind

abbrev pub kind_of : Token → Kind
kind_of (token.Name n) = AtName
kind_of (token.Keyword w) = AtKeyword w
kind_of (token.Reserved w) = AtReserved
kind_of (token.SystemTask t) = AtTask
kind_of (token.Number ds) = AtNumber
kind_of (token.Text t) = AtText
kind_of (token.Mark m) = AtMark m

-- the kind of the first token
abbrev pub kind_at : List Token → Kind
kind_at [] = AtEnd
kind_at (t ∷ ts) = kind_of t

-- a set of kinds
abbrev pub Kinds : Type 0
Kinds = Kind → Bool

abbrev pub no_kind : Kinds
no_kind k = false

abbrev pub any_kind : Kinds
any_kind k = true

abbrev pub a_mark : Mark → Kinds
a_mark m (AtMark k) = same_mark k m
a_mark m AtEnd = false
a_mark m AtName = false
a_mark m (AtKeyword w) = false
a_mark m AtReserved = false
a_mark m AtTask = false
a_mark m AtNumber = false
a_mark m AtText = false

abbrev pub a_word : Keyword → Kinds
a_word k (AtKeyword w) = same_word w k
a_word k AtEnd = false
a_word k AtName = false
a_word k AtReserved = false
a_word k AtTask = false
a_word k AtNumber = false
a_word k AtText = false
a_word k (AtMark m) = false

abbrev pub a_name : Kinds
a_name AtName = true
a_name _ = false

abbrev pub a_number : Kinds
a_number AtNumber = true
a_number _ = false

abbrev pub a_text : Kinds
a_text AtText = true
a_text _ = false

abbrev pub a_task : Kinds
a_task AtTask = true
a_task _ = false

-- with what two phrases begin, the first of which may be empty
abbrev pub first_of : Bool → Kinds → Kinds → Kinds
first_of false a b = a
first_of true a b = λ k. a k || b k

-- what may stand behind two phrases, the second of which may be empty
abbrev pub last_of : Bool → Kinds → Kinds → Kinds
last_of false a b = b
last_of true a b = λ k. a k && b k

-- the one and not the other
abbrev pub without : Kinds → Kinds → Kinds
without a b k = not (b k) && a k

abbrev pub either_of : Kinds → Kinds → Kinds
either_of a b k = a k || b k

-- ---- what is so of every kind

abbrev pub every : Kinds → Bool
every is = is AtEnd && is AtName && is AtReserved && is AtTask && is AtNumber && is AtText && list_all (λ m. is (AtMark m)) marks && list_all (λ w. is (AtKeyword w)) keywords

abbrev pub implies : Bool → Bool → Bool
implies true b = b
implies false b = true

abbrev pub same_truth : Bool → Bool → Bool
same_truth true b = b
same_truth false b = not b

-- what is in a is in b
abbrev pub Within : Kinds → Kinds → Type 0
Within a b = every (λ k. implies (a k) (b k)) ≡ true

abbrev pub SameKinds : Kinds → Kinds → Type 0
SameKinds a b = every (λ k. same_truth (a k) (b k)) ≡ true

-- A test of the first token tells whether it is of the set.
abbrev pub Tells : (List Token → Bool) → Kinds → Type 0
Tells test is = (ts : List Token) → test ts ≡ is (kind_at ts)
