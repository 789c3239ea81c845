-- Comments, as they stand and as the code finds them.
use Rattle.std.proofs.Common.{◌≡◌, ℕ, suc, ◌+◌, ◌≤◌, Bool, true, false, cond, List, [], ◌∷◌, ◌++◌, length, get_or, drop, Option, Some}
use Rattle.std.proofs.Common.{None, ap, ◌∙◌, sym, refl, subst, ⊎_elim, inl, inr, ◌⊎◌, nat_eq, append_assoc, arith}
use Rattle.std.specs.Prelude.{option_map}
use Rattle.std.specs.List.{starts_with}
use lib.Chars.{codes}
use Rattle.std.proofs.lemmas.Bool.{cases_Bool, cond-true, cond-false, false≢true}
use Rattle.std.proofs.lemmas.List.{length-append}
use Rattle.v_lex.specs.declared.bytes.ByteClass.TheVariants as class
use Rattle.v_lex.specs.declared.directive.Content.{Content}
use Rattle.v_lex.specs.declared.directive.Content.TheVariants as content
use Rattle.v_lex.specs.declared.directive.LexRule.TheVariants as rule
use Rattle.v_lex.specs.declared.directive.Piece.{Piece}
use Rattle.v_lex.specs.Bytes.{run}
use Rattle.v_lex.specs.Comments.{piece, gap, broken, comment_end, comment_at, block_comment_to}
use Rattle.v_lex.specs.Gaps.{IsOpen, IsLineComment, IsBlockComment, IsOpenComment, BeginsComment}
use Rattle.v_lex.specs.Row.{CommentStands}
use Rattle.v_lex.proofs.Splits.{split, run_is}
use Rattle.v_lex.proofs.WordLaws.{begins_is, begins_of}

abbrev closing : List ℕ → Bool
closing text = starts_with nat_eq text (codes "*/")

end_step : (b : ℕ) (bs : List ℕ) → comment_end (b ∷ bs) ≡ cond (closing (b ∷ bs)) (Some 2) (option_map suc (comment_end bs))
unfolding comment_end
end_step b bs = refl

end_nil : comment_end [] ≡ None
unfolding comment_end
end_nil = refl

-- a front that is no */ and goes on
is_open_tail : (b : ℕ) (bs : List ℕ) → IsOpen (b ∷ bs) → IsOpen bs
is_open_tail b bs h = λ front rest e. h (b ∷ front) rest (ap (λ (xs : List ℕ). b ∷ xs) e)

-- */ stands in front of nothing else than what it stands in front of
not_closing : (inside rest : List ℕ) (b : ℕ) → IsOpen (b ∷ inside ++ 42 ∷ []) → closing (b ∷ inside ++ 42 ∷ 47 ∷ rest) ≡ false
not_closing inside rest b h =
    ⊎_elim
    (λ (t : closing (b ∷ inside ++ 42 ∷ 47 ∷ rest) ≡ true).
    absurd (bad inside h (begins_of (b ∷ inside ++ 42 ∷ 47 ∷ rest) (codes "*/") t)))
    (λ (t : closing (b ∷ inside ++ 42 ∷ 47 ∷ rest) ≡ false). t)
    (cases_Bool (closing (b ∷ inside ++ 42 ∷ 47 ∷ rest)))
  where
    bad : (is : List ℕ) → IsOpen (b ∷ is ++ 42 ∷ []) → b ∷ is ++ 42 ∷ 47 ∷ rest ≡ 42 ∷ 47 ∷ drop 2 (b ∷ is ++ 42 ∷ 47 ∷ rest) → ⊥
    bad [] k e = let n : 42 ≡ 47 = ap (λ (xs : List ℕ). get_or xs 1 0) e in omega (arith, n)
    bad (i ∷ is) k e =
        let first : b ≡ 42 = ap (λ (xs : List ℕ). get_or xs 0 0) e in
        let second : i ≡ 47 = ap (λ (xs : List ℕ). get_or xs 1 0) e in
        k [] (is ++ 42 ∷ []) (ap (λ (x : ℕ). x ∷ i ∷ is ++ 42 ∷ []) first ∙ ap (λ (x : ℕ). 42 ∷ x ∷ is ++ 42 ∷ []) second)

closes : (inside rest : List ℕ) → IsOpen (inside ++ 42 ∷ []) → comment_end (inside ++ 42 ∷ 47 ∷ rest) ≡ Some (length inside + 2)
closes [] rest h = end_step 42 (47 ∷ rest)
closes (b ∷ inside) rest h =
    let n : suc (length inside + 2) ≡ suc (length inside) + 2 = omega arith in
    end_step b (inside ++ 42 ∷ 47 ∷ rest) ∙ cond-false _ _ _ (not_closing inside rest b h)
    ∙ ap (option_map suc) (closes inside rest (is_open_tail b (inside ++ 42 ∷ []) h)) ∙ ap Some n

stays_open : (text : List ℕ) → IsOpen text → comment_end text ≡ None
stays_open [] h = end_nil
stays_open (b ∷ bs) h =
    ⊎_elim
    (λ (t : closing (b ∷ bs) ≡ true). absurd (h [] (drop 2 (b ∷ bs)) (begins_of (b ∷ bs) (codes "*/") t)))
    (λ (t : closing (b ∷ bs) ≡ false). end_step b bs ∙ cond-false _ _ _ t ∙ ap (option_map suc) (stays_open bs (is_open_tail b bs h)))
    (cases_Bool (closing (b ∷ bs)))

record Closed (text : List ℕ) (n : ℕ) : Type 0 where
  inside : List ℕ
  rest : List ℕ
  is : text ≡ inside ++ 42 ∷ 47 ∷ rest
  opened : IsOpen (inside ++ 42 ∷ [])
  size : n ≡ length inside + 2

one_star : IsOpen (42 ∷ [])
one_star front rest e =
    let n = ap (λ (xs : List ℕ). length xs) e in
    omega (arith, n, length-append front (42 ∷ 47 ∷ rest))

-- one more byte in front, where no */ stands there
open_more : (b : ℕ) (bs inside rest : List ℕ) → closing (b ∷ bs) ≡ false → bs ≡ inside ++ 42 ∷ 47 ∷ rest → IsOpen (inside ++ 42 ∷ [])
    → IsOpen (b ∷ inside ++ 42 ∷ [])
open_more b bs inside rest t e h [] after q =
    let first : b ≡ 42 = ap (λ (xs : List ℕ). get_or xs 0 0) q in
    let tail : inside ++ 42 ∷ [] ≡ 47 ∷ after = ap (drop 1) q in
    let whole : b ∷ bs ≡ 42 ∷ 47 ∷ drop 1 bs = next inside e tail first in
    absurd (false≢true (sym t ∙ begins_is (b ∷ bs) (codes "*/") (drop 1 bs) whole))
  where
    next : (is : List ℕ) → bs ≡ is ++ 42 ∷ 47 ∷ rest → is ++ 42 ∷ [] ≡ 47 ∷ after → b ≡ 42 → b ∷ bs ≡ 42 ∷ 47 ∷ drop 1 bs
    next [] e k f = let n : 42 ≡ 47 = ap (λ (xs : List ℕ). get_or xs 0 0) k in absurd (omega (arith, n))
    next (i ∷ is) e k f =
        let second : i ≡ 47 = ap (λ (xs : List ℕ). get_or xs 0 0) k in
        let tail : drop 1 bs ≡ is ++ 42 ∷ 47 ∷ rest = ap (drop 1) e in
        ap (λ (xs : List ℕ). b ∷ xs) e ∙ ap (λ (x : ℕ). x ∷ i ∷ is ++ 42 ∷ 47 ∷ rest) f
        ∙ ap (λ (x : ℕ). 42 ∷ x ∷ is ++ 42 ∷ 47 ∷ rest) second ∙ ap (λ (xs : List ℕ). 42 ∷ 47 ∷ xs) (sym tail)
open_more b bs inside rest t e h (f ∷ front) after q = h front after (ap (drop 1) q)

some_none : {A : Type 0} (x : A) → Some x ≡ None → ⊥
some_none x e = cc

found_later : (b : ℕ) (bs : List ℕ) (n : ℕ) → ((m : ℕ) → comment_end bs ≡ Some m → Closed bs m) → closing (b ∷ bs) ≡ false
    → (o : Option ℕ) → comment_end bs ≡ o → option_map suc (comment_end bs) ≡ Some n → Closed (b ∷ bs) n
found_later b bs n closed t None q k = absurd (some_none n (sym k ∙ ap (option_map suc) q))
found_later b bs n closed t (Some m) q k =
    let c = closed m q in
    let same : Some (suc m) ≡ Some n = sym (ap (option_map suc) q) ∙ k in
    let is : suc m ≡ n = cc in
    record {
      inside = b ∷ c.inside;
      rest = c.rest;
      is = ap (λ (xs : List ℕ). b ∷ xs) c.is;
      opened = open_more b bs c.inside c.rest t c.is c.opened;
      size = omega (arith, is, c.size);
    }

found : (text : List ℕ) (n : ℕ) → comment_end text ≡ Some n → Closed text n
found [] n e = absurd (some_none n (sym e ∙ end_nil))
found (b ∷ bs) n e =
    ⊎_elim
    (λ (t : closing (b ∷ bs) ≡ true).
    let two : Some 2 ≡ Some n = sym (end_step b bs ∙ cond-true _ _ _ t) ∙ e in
    let is : n ≡ 2 = cc in
    record { inside = []; rest = drop 2 (b ∷ bs); is = begins_of (b ∷ bs) (codes "*/") t; opened = one_star; size = is })
    (λ (t : closing (b ∷ bs) ≡ false). found_later b bs n (found bs) t (comment_end bs) refl (sym (end_step b bs ∙ cond-false _ _ _ t)
    ∙ e))
    (cases_Bool (closing (b ∷ bs)))

map_none : (o : Option ℕ) → option_map suc o ≡ None → o ≡ None
map_none None q = refl
map_none (Some x) q = absurd (some_none (suc x) q)

some_end : (front rest : List ℕ) → comment_end (front ++ 42 ∷ 47 ∷ rest) ≡ None → ⊥
some_end [] rest e = some_none 2 (sym (end_step 42 (47 ∷ rest)) ∙ e)
some_end (f ∷ front) rest e =
    ⊎_elim
    (λ (t : closing (f ∷ front ++ 42 ∷ 47 ∷ rest) ≡ true). some_none 2 (sym (end_step f (front ++ 42 ∷ 47 ∷ rest) ∙ cond-true _ _ _ t)
    ∙ e))
    (λ (t : closing (f ∷ front ++ 42 ∷ 47 ∷ rest) ≡ false).
    some_end front rest
    (map_none (comment_end (front ++ 42 ∷ 47 ∷ rest)) (sym (end_step f (front ++ 42 ∷ 47 ∷ rest) ∙ cond-false _ _ _ t) ∙ e)))
    (cases_Bool (closing (f ∷ front ++ 42 ∷ 47 ∷ rest)))

none_open : (text : List ℕ) → comment_end text ≡ None → IsOpen text
none_open text e front rest q = some_end front rest (sym (ap comment_end q) ∙ e)

-- ---- the comment at the front

abbrev lines : List ℕ → Bool
lines text = starts_with nat_eq text (codes "//")

abbrev blocks : List ℕ → Bool
blocks text = starts_with nat_eq text (codes "/*")

at_step : (text : List ℕ)
    → comment_at text
    ≡ cond (lines text) (Some (gap (2 + run class.Line (drop 2 text))))
    (cond (blocks text) (Some (block_comment_to text (comment_end (drop 2 text)))) None)
unfolding comment_at
at_step text = refl

no_line : (rest : List ℕ) → lines (47 ∷ 42 ∷ rest) ≡ false
no_line rest = refl

at_line : (rest : List ℕ) → comment_at (47 ∷ 47 ∷ rest) ≡ Some (gap (2 + run class.Line rest))
at_line rest = at_step (47 ∷ 47 ∷ rest)

at_block : (rest : List ℕ) → comment_at (47 ∷ 42 ∷ rest) ≡ Some (block_comment_to (47 ∷ 42 ∷ rest) (comment_end rest))
at_block rest = at_step (47 ∷ 42 ∷ rest)

-- what stands, the code finds
line_is : (bytes behind : List ℕ) → IsLineComment bytes behind → comment_at (bytes ++ behind) ≡ Some (gap (length bytes))
line_is bytes behind h =
    let n : 2 + run class.Line (h.0 ++ behind) ≡ length bytes =
    omega (arith, run_is class.Line h.0 behind h.2 h.3, ap (λ (xs : List ℕ). length xs) h.1) in
    ap (λ (xs : List ℕ). comment_at (xs ++ behind)) h.1 ∙ at_line (h.0 ++ behind) ∙ ap (λ (k : ℕ). Some (gap k)) n

block_is : (bytes behind : List ℕ) → IsBlockComment bytes → comment_at (bytes ++ behind) ≡ Some (gap (length bytes))
block_is bytes behind h =
    let inside = h.0 in
    let e : (inside ++ 42 ∷ 47 ∷ []) ++ behind ≡ inside ++ 42 ∷ 47 ∷ behind = append_assoc inside (42 ∷ 47 ∷ []) behind in
    let k : comment_end ((inside ++ 42 ∷ 47 ∷ []) ++ behind) ≡ Some (length inside + 2) = ap comment_end e ∙ closes inside behind h.2 in
    let n : 2 + (length inside + 2) ≡ length bytes =
    omega (arith, length-append inside (42 ∷ 47 ∷ []), ap (λ (xs : List ℕ). length xs) h.1) in
    ap (λ (xs : List ℕ). comment_at (xs ++ behind)) h.1 ∙ at_block ((inside ++ 42 ∷ 47 ∷ []) ++ behind)
    ∙ ap (λ o. Some (block_comment_to (47 ∷ 42 ∷ (inside ++ 42 ∷ 47 ∷ []) ++ behind) o)) k ∙ ap (λ (m : ℕ). Some (gap m)) n

append_nil : (xs : List ℕ) → xs ++ [] ≡ xs
append_nil [] = refl
append_nil (x ∷ xs) = ap (λ (ys : List ℕ). x ∷ ys) (append_nil xs)

open_is : (bytes behind : List ℕ) → IsOpenComment bytes behind
    → comment_at (bytes ++ behind) ≡ Some (broken (length bytes) rule.UnclosedText)
open_is bytes behind h =
    let whole : bytes ++ behind ≡ 47 ∷ 42 ∷ h.0 = ap (λ (xs : List ℕ). bytes ++ xs) h.3 ∙ append_nil bytes ∙ h.1 in
    ap comment_at whole ∙ at_block h.0 ∙ ap (λ o. Some (block_comment_to (47 ∷ 42 ∷ h.0) o)) (stays_open h.0 h.2)
    ∙ ap (λ (n : ℕ). Some (broken n rule.UnclosedText)) (sym (ap (λ (xs : List ℕ). length xs) h.1))

pub comment_is : (c : Content) (bytes behind : List ℕ) → CommentStands c bytes behind
    → comment_at (bytes ++ behind) ≡ Some (piece (length bytes) c)
comment_is content.Gap bytes behind h =
    ⊎_elim (λ (k : IsLineComment bytes behind). line_is bytes behind k) (λ (k : IsBlockComment bytes). block_is bytes behind k) h
comment_is (content.Broken rule.UnclosedText) bytes behind h = open_is bytes behind h
comment_is (content.Broken rule.BadByte) bytes behind h = absurd h
comment_is (content.Broken rule.BadNumber) bytes behind h = absurd h
comment_is (content.Broken rule.Directive) bytes behind h = absurd h
comment_is (content.Token t) bytes behind h = absurd h
comment_is (content.Directive d) bytes behind h = absurd h

-- what the code finds, stands
pub record Standing (text : List ℕ) (p : Piece) : Type 0 where
  pub bytes : List ℕ
  pub behind : List ℕ
  pub is : text ≡ bytes ++ behind
  pub size : p.size ≡ length bytes
  pub stands : CommentStands p.content bytes behind

line_of : (rest : List ℕ) → Standing (47 ∷ 47 ∷ rest) (gap (2 + run class.Line rest))
line_of rest =
    let s = split class.Line rest in
    let n : run class.Line rest ≡ length s.front = ap (run class.Line) s.is ∙ run_is class.Line s.front s.rest s.all s.stops in
    record {
      bytes = 47 ∷ 47 ∷ s.front;
      behind = s.rest;
      is = ap (λ (xs : List ℕ). 47 ∷ 47 ∷ xs) s.is;
      size = omega (arith, n);
      stands = inl (s.front, refl, s.all, s.stops);
    }

block_of : (rest : List ℕ) (o : Option ℕ) → comment_end rest ≡ o → Standing (47 ∷ 42 ∷ rest) (block_comment_to (47 ∷ 42 ∷ rest) o)
block_of rest None e =
    record {
      bytes = 47 ∷ 42 ∷ rest;
      behind = [];
      is = sym (append_nil (47 ∷ 42 ∷ rest));
      size = refl;
      stands = (rest, refl, none_open rest e, refl);
    }
block_of rest (Some n) e =
    let c = found rest n e in
    record {
      bytes = 47 ∷ 42 ∷ c.inside ++ 42 ∷ 47 ∷ [];
      behind = c.rest;
      is = ap (λ (xs : List ℕ). 47 ∷ 42 ∷ xs) (c.is ∙ sym (append_assoc c.inside (42 ∷ 47 ∷ []) c.rest));
      size = omega (arith, c.size, length-append c.inside (42 ∷ 47 ∷ []));
      stands = inr (c.inside, refl, c.opened);
    }

pub record Found (text : List ℕ) : Type 0 where
  pub piece : Piece
  pub is : comment_at text ≡ Some piece
  pub standing : Standing text piece

pub begins_found : (text : List ℕ) → BeginsComment text → Found text
begins_found text h =
    ⊎_elim
    (λ (e : text ≡ 47 ∷ 47 ∷ h.0).
    subst Found (sym e) (record { piece = gap (2 + run class.Line h.0); is = at_line h.0; standing = line_of h.0 }))
    (λ (e : text ≡ 47 ∷ 42 ∷ h.0).
    subst Found (sym e)
    (record {
      piece = block_comment_to (47 ∷ 42 ∷ h.0) (comment_end h.0);
      is = at_block h.0;
      standing = block_of h.0 (comment_end h.0) refl;
    }))
    h.1

pub found_or_none : (text : List ℕ) → (Found text × BeginsComment text) ⊎ ((comment_at text ≡ None) × (BeginsComment text → ⊥))
found_or_none text =
    ⊎_elim
    (λ (t : lines text ≡ true).
    inl (begins_found text (drop 2 text, inl (begins_of text (codes "//") t)), (drop 2 text, inl (begins_of text (codes "//") t))))
    (λ (t : lines text ≡ false). ⊎_elim
    (λ (u : blocks text ≡ true).
    inl (begins_found text (drop 2 text, inr (begins_of text (codes "/*") u)), (drop 2 text, inr (begins_of text (codes "/*") u))))
    (λ (u : blocks text ≡ false). inr (
      at_step text ∙ cond-false _ _ _ t ∙ cond-false _ _ _ u,
      (λ h. ⊎_elim
          (λ (e : text ≡ 47 ∷ 47 ∷ h.0). false≢true (sym t ∙ begins_is text (codes "//") h.0 e))
          (λ (e : text ≡ 47 ∷ 42 ∷ h.0). false≢true (sym u ∙ begins_is text (codes "/*") h.0 e))
          h.1),
    ))
    (cases_Bool (blocks text)))
    (cases_Bool (lines text))

pub no_comment : (text : List ℕ) → (BeginsComment text → ⊥) → comment_at text ≡ None
no_comment text h =
    ⊎_elim
    (λ (t : lines text ≡ true). absurd (h (drop 2 text, inl (begins_of text (codes "//") t))))
    (λ (t : lines text ≡ false). ⊎_elim
    (λ (u : blocks text ≡ true). absurd (h (drop 2 text, inr (begins_of text (codes "/*") u))))
    (λ (u : blocks text ≡ false). at_step text ∙ cond-false _ _ _ t ∙ cond-false _ _ _ u)
    (cases_Bool (blocks text)))
    (cases_Bool (lines text))

-- ---- its first byte

pub one : (b : ℕ) (bytes rest : List ℕ) → bytes ≡ b ∷ rest → 1 ≤ length bytes
one b bytes rest e = let n = ap (λ (xs : List ℕ). length xs) e in omega (arith, n)

pub comment_first : (c : Content) (bytes behind : List ℕ) → CommentStands c bytes behind → (rest : List ℕ) × (bytes ++ behind ≡ 47 ∷ rest)
comment_first content.Gap bytes behind h = ⊎_elim
    (λ (k : IsLineComment bytes behind). (47 ∷ (k.0 ++ behind), ap (λ (xs : List ℕ). xs ++ behind) k.1))
    (λ (k : IsBlockComment bytes). (42 ∷ ((k.0 ++ (42 ∷ 47 ∷ [])) ++ behind), ap (λ (xs : List ℕ). xs ++ behind) k.1))
    h
comment_first (content.Broken rule.UnclosedText) bytes behind h = (42 ∷ (h.0 ++ behind), ap (λ (xs : List ℕ). xs ++ behind) h.1)
comment_first (content.Broken rule.BadByte) bytes behind h = absurd h
comment_first (content.Broken rule.BadNumber) bytes behind h = absurd h
comment_first (content.Broken rule.Directive) bytes behind h = absurd h
comment_first (content.Token t) bytes behind h = absurd h
comment_first (content.Directive d) bytes behind h = absurd h

pub comment_some : (c : Content) (bytes behind : List ℕ) → CommentStands c bytes behind → 1 ≤ length bytes
comment_some content.Gap bytes behind h = ⊎_elim
    (λ (k : IsLineComment bytes behind). one 47 bytes (47 ∷ k.0) k.1)
    (λ (k : IsBlockComment bytes). one 47 bytes (42 ∷ (k.0 ++ (42 ∷ 47 ∷ []))) k.1)
    h
comment_some (content.Broken rule.UnclosedText) bytes behind h = one 47 bytes (42 ∷ h.0) h.1
comment_some (content.Broken rule.BadByte) bytes behind h = absurd h
comment_some (content.Broken rule.BadNumber) bytes behind h = absurd h
comment_some (content.Broken rule.Directive) bytes behind h = absurd h
comment_some (content.Token t) bytes behind h = absurd h
comment_some (content.Directive d) bytes behind h = absurd h
