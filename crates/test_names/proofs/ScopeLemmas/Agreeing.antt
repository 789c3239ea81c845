-- Of the names that are a function's own, it matters alone which they are.
use Rattle.std.proofs.Common.{◌≡◌, ℕ, Bool, not, ◌&&◌, ◌||◌, List, [], ◌∷◌, Option, Some, None, refl, sym, ap, ◌∙◌, if◌then◌else◌}
use Rattle.std.specs.List.{list_any}
use Rattle.std.specs.Option.{is_some, option_or}
use Rattle.py_syntax.specs.BlockTrees.{BlockItem, DocstringAt, StatementAt, ClauseAt, Block, NoItem, Then}
use Rattle.py_syntax.specs.declared.constant.Const.TheVariants as constant
use Rattle.test_meaning.specs.Rules.File.{File, fixed_of, is_known}
use Rattle.test_meaning.specs.Rules.Names.{Name, is_among}
use Rattle.test_meaning.specs.Rules.Rules.{is_unknown, is_nowhere, astray, broken_at, first_broken, refused_at, name_in}
use Rattle.test_meaning.specs.Rules.Uses.{Use, FileLine, Reads, Needs, Takes, Calls, Leaves, Makes, Extends, with_names, block_lines, item_lines, statement_uses, header_uses, is_loop, body_line}
use Rattle.test_meaning.specs.declared.rules.rule.FileRule.TheVariants as rule
use Rattle.test_names.specs.Uses.Answer.{answer}
use Rattle.test_names.proofs.UsesLemmas.Blocks.{body_broken, broken_behind}

nowhere : (f : File) (ls ms : List Name) → ((n : Name) → is_among n ls ≡ is_among n ms) → (o : Option Name) → is_nowhere f ls o ≡ is_nowhere f ms o
nowhere f ls ms h None = refl
nowhere f ls ms h (Some n) = ap (λ b. not (b || is_known f n)) (h n)

out : (f above : File) (ls ms : List Name) → ((n : Name) → is_among n ls ≡ is_among n ms) → (u : Use)
    → astray f (with_names above ls) u ≡ astray f (with_names above ms) u
out f above ls ms h (Reads n) = ap (λ b. is_known f n && not (b || is_some (fixed_of f.constants n))) (h n)
out f above ls ms h (Needs n) = refl
out f above ls ms h (Calls n xs) = refl
out f above ls ms h (Takes constant.Absent) = refl
out f above ls ms h (Takes (constant.Truth b)) = refl
out f above ls ms h (Takes (constant.Whole z)) = refl
out f above ls ms h (Takes (constant.Text t)) = refl
out f above ls ms h (Takes (constant.Named n)) = refl
out f above ls ms h Leaves = refl
out f above ls ms h (Makes n) = refl
out f above ls ms h (Extends n) = refl

any_same : {A : Type 0} (p q : A → Bool) → ((x : A) → p x ≡ q x) → (xs : List A) → list_any p xs ≡ list_any q xs
any_same p q h [] = refl
any_same p q h (x ∷ xs) = ap (λ b. b || list_any p xs) (h x) ∙ ap (λ b. q x || b) (any_same p q h xs)

pub same_answer : (f above : File) (ls ms : List Name) → ((n : Name) → is_among n ls ≡ is_among n ms) → (us : List Use)
    → answer f (with_names above ls) us ≡ answer f (with_names above ms) us
unfolding answer
same_answer f above ls ms h us =
    ap (λ (b : Bool). if b then Some rule.UnknownName else (if list_any (astray f (with_names above ls)) us then Some rule.Misplaced else None))
    (any_same (is_unknown f (with_names above ls)) (is_unknown f (with_names above ms)) (λ u. nowhere f ls ms h (name_in u)) us)
    ∙ ap (λ (b : Bool). if list_any (is_unknown f (with_names above ms)) us then Some rule.UnknownName else (if b then Some rule.Misplaced else None))
    (any_same (astray f (with_names above ls)) (astray f (with_names above ms)) (out f above ls ms h) us)

-- one line, before others
same_line : (f above : File) (ls ms : List Name) → ((n : Name) → is_among n ls ≡ is_among n ms) → (l : ℕ) (us : List Use) (ks js : List FileLine)
    → first_broken f ks ≡ first_broken f js
    → first_broken f (body_line l (with_names above ls) us ∷ ks) ≡ first_broken f (body_line l (with_names above ms) us ∷ js)
same_line f above ls ms h l us ks js e =
    ap (λ r. option_or r (first_broken f ks)) (body_broken f l (with_names above ls) us ∙ ap (λ r. refused_at l r) (same_answer f above ls ms h us) ∙ sym (body_broken f l (with_names above ms) us))
    ∙ ap (λ r. option_or (broken_at f (body_line l (with_names above ms) us)) r) e

mutual
  pub same_block : (f above : File) (ls ms : List Name) → ((n : Name) → is_among n ls ≡ is_among n ms) → (looped : Bool) (b : Block)
      → first_broken f (block_lines (with_names above ls) looped b) ≡ first_broken f (block_lines (with_names above ms) looped b)
  same_block f above ls ms h looped NoItem = refl
  same_block f above ls ms h looped (Then x xs) =
      broken_behind f (item_lines (with_names above ls) looped x) (block_lines (with_names above ls) looped xs)
      ∙ ap (λ r. option_or r (first_broken f (block_lines (with_names above ls) looped xs))) (same_item f above ls ms h looped x)
      ∙ ap (λ r. option_or (first_broken f (item_lines (with_names above ms) looped x)) r) (same_block f above ls ms h looped xs)
      ∙ sym (broken_behind f (item_lines (with_names above ms) looped x) (block_lines (with_names above ms) looped xs))

  same_item : (f above : File) (ls ms : List Name) → ((n : Name) → is_among n ls ≡ is_among n ms) → (looped : Bool) (x : BlockItem)
      → first_broken f (item_lines (with_names above ls) looped x) ≡ first_broken f (item_lines (with_names above ms) looped x)
  same_item f above ls ms h looped (DocstringAt l) = refl
  same_item f above ls ms h looped (StatementAt l s) = same_line f above ls ms h l (statement_uses looped s) [] [] refl
  same_item f above ls ms h looped (ClauseAt l k b) =
      same_line f above ls ms h l (header_uses k) (block_lines (with_names above ls) (looped || is_loop k) b) (block_lines (with_names above ms) (looped || is_loop k) b)
      (same_block f above ls ms h (looped || is_loop k) b)
