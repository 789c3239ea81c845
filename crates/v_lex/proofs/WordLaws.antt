-- Words, names of system tasks and signs: which token their bytes spell, and what the code finds.
use Rattle.std.proofs.Common.{◌≡◌, ℕ, ◌≤◌, Bool, true, false, List, [], ◌∷◌, ◌++◌, length, get_or, drop, Option, Some, None, nat_eq, ap}
use Rattle.std.proofs.Common.{◌∙◌, sym, refl, subst, ⊎_elim, eq-eqb, eqb-true, Decides, append_assoc, append-nil, arith}
use Rattle.std.specs.List.{find, starts_with}
use Rattle.std.specs.Str.{bytes_eq}
use Rattle.std.specs.Cmp.Lexicographic.{bytes_decides}
use Rattle.std.proofs.lemmas.Bool.{cases_Bool, cond-true, cond-false}
use Rattle.std.proofs.lemmas.List.{length-append, nil_from_length}
use Rattle.std.proofs.lemmas.Slice.Eq.{starts_is}
use Rattle.v_syntax.specs.declared.token.Token.TheVariants as token
use Rattle.v_syntax.specs.declared.word.Keyword.{Keyword}
use Rattle.v_syntax.specs.declared.word.Keyword.TheVariants.{Always}
use Rattle.v_syntax.specs.declared.word.ReservedWord.{ReservedWord}
use Rattle.v_syntax.specs.declared.word.ReservedWord.TheVariants.{And}
use Rattle.v_syntax.specs.declared.word.SystemTask.{SystemTask}
use Rattle.v_syntax.specs.declared.word.SystemTask.TheVariants.{DumpFile, DumpVars}
use Rattle.v_syntax.specs.declared.mark.Mark.{Mark}
use Rattle.v_syntax.specs.declared.mark.Mark.TheVariants.{CaseEqual}
use Rattle.v_syntax.specs.Words.{keyword_of, keyword_spelling, keywords, reserved_of, reserved_spelling, reserved_words, task_of}
use Rattle.v_syntax.specs.Words.{task_spelling, system_tasks}
use Rattle.v_syntax.specs.Marks.{mark_spelling, marks, mark_at, IsMarkAt}
use Rattle.v_syntax.proofs.MarkLaws as marks_laws
use Rattle.v_lex.specs.Pieces.{keyword_or_name, reserved_or_name, word_token}
use Rattle.v_lex.specs.Spelling.{Form, Sign, HasForm, IsLongest, IsWord, IsSystemName, IsName, Spells}
use Rattle.v_lex.proofs.FormKinds.{longest, has_some}

-- ---- what is found in a table

pub find_test : {X : Type 0} (p : X → Bool) (xs : List X) (x : X) → find p xs ≡ Some x → p x ≡ true
find_test p [] x e = absurd cc
find_test p (y ∷ ys) x e =
    ⊎_elim
    (λ (t : p y ≡ true). let is : Some y ≡ Some x = sym (cond-true (p y) (Some y) (find p ys) t)
    ∙ e in let same : y ≡ x = cc in sym (ap p same) ∙ t)
    (λ (t : p y ≡ false). find_test p ys x (sym (cond-false (p y) (Some y) (find p ys) t) ∙ e))
    (cases_Bool (p y))

pub longest_of : (f : Form) (bytes behind : List ℕ) → HasForm f bytes
    → ((more rest : List ℕ) → behind ≡ more ++ rest → HasForm f (bytes ++ more) → more ≡ [])
    → IsLongest f bytes behind
longest_of f [] behind h most = absurd (has_some f h)
longest_of f (b ∷ bs) behind h most = longest f b bs behind h most

-- ---- words

pub keyword_word : (k : Keyword) → IsWord (keyword_spelling k)
keyword_word Always = (refl, refl)
keyword_word _ = (refl, refl)

keyword_found : (k : Keyword) → keyword_of (keyword_spelling k) ≡ Some k
unfolding keyword_of
keyword_found Always = refl
keyword_found _ = refl

pub reserved_word : (r : ReservedWord) → IsWord (reserved_spelling r)
reserved_word And = (refl, refl)
reserved_word _ = (refl, refl)

reserved_found : (r : ReservedWord) → (keyword_of (reserved_spelling r) ≡ None) × (reserved_of (reserved_spelling r) ≡ Some r)
unfolding keyword_of reserved_of
reserved_found And = (refl, refl)
reserved_found _ = (refl, refl)

pub task_name : (t : SystemTask) → IsSystemName (task_spelling t)
task_name DumpFile = (refl, refl)
task_name DumpVars = (refl, refl)

pub task_found : (t : SystemTask) → task_of (task_spelling t) ≡ Some t
unfolding task_of
task_found DumpFile = refl
task_found DumpVars = refl

keyword_is : (word : List ℕ) (k : Keyword) → keyword_of word ≡ Some k → word ≡ keyword_spelling k
unfolding keyword_of
keyword_is word k e = (bytes_decides word (keyword_spelling k)).0 (find_test (λ k. bytes_eq word (keyword_spelling k)) keywords k e)

reserved_is : (word : List ℕ) (r : ReservedWord) → reserved_of word ≡ Some r → word ≡ reserved_spelling r
unfolding reserved_of
reserved_is word r e =
    (bytes_decides word (reserved_spelling r)).0 (find_test (λ r. bytes_eq word (reserved_spelling r)) reserved_words r e)

pub task_is : (name : List ℕ) (t : SystemTask) → task_of name ≡ Some t → name ≡ task_spelling t
unfolding task_of
task_is name t e = (bytes_decides name (task_spelling t)).0 (find_test (λ t. bytes_eq name (task_spelling t)) system_tasks t e)

token_step : (word : List ℕ) → word_token word ≡ keyword_or_name word (keyword_of word)
unfolding word_token
token_step word = refl

reserved_spells : (word : List ℕ) → IsWord word → keyword_of word ≡ None → (o : Option ReservedWord) → reserved_of word ≡ o
    → Spells word (reserved_or_name word o)
reserved_spells word h k (Some r) e = reserved_is word r e
reserved_spells word h k None e = (refl, (h, k, e))

keyword_spells : (word : List ℕ) → IsWord word → (o : Option Keyword) → keyword_of word ≡ o → Spells word (keyword_or_name word o)
keyword_spells word h (Some k) e = keyword_is word k e
keyword_spells word h None e = reserved_spells word h e (reserved_of word) refl

-- a word spells the token that is found
pub word_spells : (word : List ℕ) → IsWord word → Spells word (word_token word)
word_spells word h = subst (Spells word) (sym (token_step word)) (keyword_spells word h (keyword_of word) refl)

pub name_token : (name : List ℕ) → IsName name → word_token name ≡ token.Name name
name_token name h = token_step name ∙ ap (keyword_or_name name) h.1 ∙ ap (reserved_or_name name) h.2

pub keyword_token : (k : Keyword) → word_token (keyword_spelling k) ≡ token.Keyword k
keyword_token k = token_step (keyword_spelling k) ∙ ap (keyword_or_name (keyword_spelling k)) (keyword_found k)

pub reserved_token : (r : ReservedWord) → word_token (reserved_spelling r) ≡ token.Reserved r
reserved_token r =
    token_step (reserved_spelling r) ∙ ap (keyword_or_name (reserved_spelling r)) (reserved_found r).0
    ∙ ap (reserved_or_name (reserved_spelling r)) (reserved_found r).1

-- ---- signs

nat_decides : (a b : ℕ) → Decides (nat_eq a b) (a ≡ b)
nat_decides a b = (eqb-true a b, eq-eqb a b)

pub begins_is : (text front rest : List ℕ) → text ≡ front ++ rest → starts_with nat_eq text front ≡ true
begins_is text front rest e = (starts_is nat_decides text front (starts_with nat_eq text front) refl).1 rest e

pub begins_of : (text front : List ℕ) → starts_with nat_eq text front ≡ true → text ≡ front ++ drop (length front) text
begins_of text front t = (starts_is nat_decides text front (starts_with nat_eq text front) refl).0 t

sign_found : (m : Mark) → mark_at (mark_spelling m) ≡ Some m
unfolding mark_at
sign_found CaseEqual = refl
sign_found _ = refl

sign_of : (text : List ℕ) (m : Mark) → mark_at text ≡ Some m → IsMarkAt text m
unfolding mark_at
sign_of text m e = find_test (λ m. starts_with nat_eq text (mark_spelling m)) marks m e

-- of two fronts of one text the longer goes on where the shorter ends
pub longer_front : (xs ys us vs : List ℕ) → xs ++ ys ≡ us ++ vs → length xs ≤ length us
    → (more : List ℕ) × (us ≡ xs ++ more) × (ys ≡ more ++ vs)
longer_front [] ys us vs e h = (us, refl, e)
longer_front (x ∷ xs) ys [] vs e h = absurd (omega arith)
longer_front (x ∷ xs) ys (u ∷ us) vs e h =
    let first : x ≡ u = ap (λ (zs : List ℕ). get_or zs 0 0) e in
    let r = longer_front xs ys us vs (ap (drop 1) e) (omega arith) in
    (r.0, ap (λ (zs : List ℕ). u ∷ zs) r.1 ∙ ap (λ (z : ℕ). z ∷ (xs ++ r.0)) (sym first), r.2)

-- the longest sign is found
pub sign_is : (bytes behind : List ℕ) (m : Mark) → IsLongest Sign bytes behind → bytes ≡ mark_spelling m
    → mark_at (bytes ++ behind) ≡ Some m
sign_is bytes behind m h e = go (mark_at (bytes ++ behind)) refl
  where
    here : IsMarkAt (bytes ++ behind) m
    here = begins_is (bytes ++ behind) (mark_spelling m) behind (ap (λ (xs : List ℕ). xs ++ behind) e)

    go : (o : Option Mark) → mark_at (bytes ++ behind) ≡ o → o ≡ Some m
    go None q = absurd (marks_laws.none (bytes ++ behind) m q here)
    go (Some k) q =
        let there = begins_of (bytes ++ behind) (mark_spelling k) (sign_of (bytes ++ behind) k q) in
        let l : length bytes ≤ length (mark_spelling k) =
        omega (arith, marks_laws.longest (bytes ++ behind) k m q here, ap (λ (xs : List ℕ). length xs) e) in
        let r = longer_front bytes behind (mark_spelling k) (drop (length (mark_spelling k)) (bytes ++ behind)) there l in
        let none = h.most Sign r.0 (drop (length (mark_spelling k)) (bytes ++ behind)) r.2 (k, sym r.1) in
        let same : mark_spelling k ≡ bytes ++ [] = r.1 ∙ ap (λ (xs : List ℕ). bytes ++ xs) none in
        let n : length (mark_spelling k) ≡ length (mark_spelling m) =
        ap (λ (xs : List ℕ). length xs) same ∙ omega (arith, length-append bytes [], ap (λ (xs : List ℕ). length xs) e) in
        let is : mark_spelling k ≡ mark_spelling m = same ∙ append-nil bytes ∙ e in
        sym (sign_found k) ∙ ap mark_at is ∙ sign_found m

-- what is found is the longest sign
pub sign_longest : (text : List ℕ) (m : Mark) → mark_at text ≡ Some m → (behind : List ℕ) × (text ≡ mark_spelling m ++ behind)
    × IsLongest Sign (mark_spelling m) behind
sign_longest text m e =
    let behind = drop (length (mark_spelling m)) text in
    let is = begins_of text (mark_spelling m) (sign_of text m e) in (
      behind,
      is,
      longest_of Sign (mark_spelling m) behind (m, refl)
          (λ more rest q k.
          let whole : text ≡ mark_spelling k.0 ++ rest =
          is ∙ ap (λ (xs : List ℕ). mark_spelling m ++ xs) q ∙ sym (append_assoc (mark_spelling m) more rest)
          ∙ ap (λ (xs : List ℕ). xs ++ rest) k.1 in
          let l = marks_laws.longest text m k.0 e (begins_is text (mark_spelling k.0) rest whole) in
          let n = ap (λ (xs : List ℕ). length xs) k.1 in
          nil_from_length more (omega (arith, l, n, length-append (mark_spelling m) more))),
    )

-- where no sign is found, none stands
pub no_sign : (text : List ℕ) (front rest : List ℕ) → mark_at text ≡ None → text ≡ front ++ rest → HasForm Sign front → ⊥
no_sign text front rest q e k =
    marks_laws.none text k.0 q (begins_is text (mark_spelling k.0) rest (e ∙ ap (λ (xs : List ℕ). xs ++ rest) k.1))
