-- Calls on lines that break no rule.
use Rattle.std.proofs.Common.{◌≡◌, ◌||◌, not, ℕ, Bool, true, false, List, [], ◌∷◌, ◌++◌, map, Option, Some, None, refl, sym, ap, ◌∙◌, if◌then◌else◌}
use Rattle.std.proofs.lemmas.List.Folds.{list_any-append}
use Rattle.std.specs.List.{flat_map, list_all, list_any}
use Rattle.std.specs.Option.{option_or}
use Rattle.py_syntax.specs.BlockTrees.{BlockItem, DocstringAt, StatementAt, ClauseAt, Block, NoItem, Then}
use Rattle.py_syntax.specs.StatementTrees as syntax
use Rattle.py_syntax.specs.StatementTrees.{StartedCall, FunctionCall, ClockStart, QueuePut, QueueGet}
use Rattle.test_meaning.specs.Rules.File.{File, function}
use Rattle.test_meaning.specs.Rules.Rules.{astray, broken_at, first_broken, is_unknown, refused_at, takes}
use Rattle.std.specs.Prelude.{codes}
use Rattle.py_syntax.specs.ExpressionTrees.{Tree}
use Rattle.test_meaning.specs.Rules.Uses.{Around, Needs, Use, argument_uses, awaited_uses, block_lines, body_line, call_uses, cocotb, header_uses, if_given, is_loop, item_lines, right_uses, statement_uses, timed_uses, tree_uses}
use Rattle.test_meaning.specs.declared.rules.rule.FileRule.TheVariants as rule
use Rattle.test_names.specs.Uses.Answer.{answer}
use Rattle.test_names.proofs.UsesLemmas.Blocks.{body_broken, broken_behind}
use Rattle.test_file.specs.Sound.Starts.{awaited_starts, block_starts, item_starts, right_starts, statement_starts, timed_starts}
use Rattle.test_file.proofs.SoundLemmas.Calls.{all_both, both}

-- a call that is started fits its function; of a clock's start nothing is asked here
abbrev pub fits_function : File → StartedCall → Bool
fits_function f (FunctionCall n xs) = takes (map (λ a. a.name) xs) (function f n)
fits_function f (ClockStart e xs) = true
fits_function f (QueuePut e x) = true
fits_function f (QueueGet e) = true

first_none : (a b : Bool) → (a || b) ≡ false → a ≡ false
first_none true b h = h
first_none false b h = refl

second_none : (a b : Bool) → (a || b) ≡ false → b ≡ false
second_none true b h = cc
second_none false b h = h

not_false : (b : Bool) → not b ≡ false → b ≡ true
not_false true h = refl
not_false false h = cc

abbrev None_astray : File → Around → List Use → Type 0
None_astray f a us = list_any (astray f a) us ≡ false

in_front : (f : File) (a : Around) (us vs : List Use) → None_astray f a (us ++ vs) → None_astray f a us
in_front f a us vs h = first_none (list_any (astray f a) us) (list_any (astray f a) vs) (sym (list_any-append (astray f a) us vs) ∙ h)

at_end : (f : File) (a : Around) (us vs : List Use) → None_astray f a (us ++ vs) → None_astray f a vs
at_end f a us vs h = second_none (list_any (astray f a) us) (list_any (astray f a) vs) (sym (list_any-append (astray f a) us vs) ∙ h)

behind_one : (f : File) (a : Around) (u : Use) (us : List Use) → None_astray f a (u ∷ us) → None_astray f a us
behind_one f a u us h = second_none (astray f a u) (list_any (astray f a) us) h

call_fits : (f : File) (a : Around) (c : StartedCall) → None_astray f a (call_uses c) → list_all (fits_function f) (c ∷ []) ≡ true
call_fits f a (FunctionCall n xs) h =
    both (takes (map (λ x. x.name) xs) (function f n)) true
    (not_false (takes (map (λ x. x.name) xs) (function f n))
    (first_none (not (takes (map (λ x. x.name) xs) (function f n))) (list_any (astray f a) (flat_map argument_uses xs)) h)) refl
call_fits f a (ClockStart e xs) h = refl
call_fits f a (QueuePut e x) h = refl
call_fits f a (QueueGet e) h = refl

timed_fits : (f : File) (a : Around) (x : syntax.Timed) → None_astray f a (timed_uses x) → list_all (fits_function f) (timed_starts x) ≡ true
timed_fits f a (syntax.TimedValue e) h = refl
timed_fits f a (syntax.TimedCall c) h = call_fits f a c h

awaited_fits : (f : File) (a : Around) (x : syntax.Awaited) → None_astray f a (awaited_uses x) → list_all (fits_function f) (awaited_starts x) ≡ true
awaited_fits f a (syntax.AwaitedValue e) h = refl
awaited_fits f a (syntax.AwaitedCall c) h = call_fits f a c h
awaited_fits f a (syntax.AwaitedStart c) h = call_fits f a c (behind_one f a cocotb (call_uses c) h)
awaited_fits f a (syntax.WithTimeout x e u) h = timed_fits f a x (within x e u (awaited_uses (syntax.WithTimeout x e u)) refl h)
  where
    within : (x : syntax.Timed) (e : Tree) (u : Option Tree) (us : List Use) → us ≡ awaited_uses (syntax.WithTimeout x e u) → None_astray f a us → None_astray f a (timed_uses x)
    within x e u us is h =
        in_front f a (timed_uses x) (tree_uses e) (in_front f a (timed_uses x ++ tree_uses e) (if_given tree_uses u)
        (second_none (astray f a (Needs (codes "with_timeout"))) (list_any (astray f a) ((timed_uses x ++ tree_uses e) ++ if_given tree_uses u)) (ap (λ vs. list_any (astray f a) vs) (sym is) ∙ h)))

right_fits : (f : File) (a : Around) (r : syntax.RightSide) → None_astray f a (right_uses r) → list_all (fits_function f) (right_starts r) ≡ true
right_fits f a (syntax.RightValue e) h = refl
right_fits f a (syntax.RightAwait x) h = awaited_fits f a x h
right_fits f a (syntax.RightStart c) h = call_fits f a c (behind_one f a cocotb (call_uses c) h)
right_fits f a syntax.NewEvent h = refl
right_fits f a syntax.NewLock h = refl
right_fits f a (syntax.RandomInt x y) h = refl
right_fits f a (syntax.NewQueue e) h = refl
right_fits f a (syntax.GetNow e) h = refl

statement_fits : (f : File) (a : Around) (looped : Bool) (t : syntax.Statement) → None_astray f a (statement_uses looped t) → list_all (fits_function f) (statement_starts t) ≡ true
statement_fits f a looped syntax.Pass h = refl
statement_fits f a looped syntax.Break h = refl
statement_fits f a looped syntax.Continue h = refl
statement_fits f a looped (syntax.Return None) h = refl
statement_fits f a looped (syntax.Return (Some r)) h = right_fits f a r h
statement_fits f a looped (syntax.Raise k e) h = refl
statement_fits f a looped (syntax.Assert c e) h = refl
statement_fits f a looped (syntax.Assign n r) h = right_fits f a r h
statement_fits f a looped (syntax.AugmentedAssign n o e) h = refl
statement_fits f a looped (syntax.AssignValue e r) h = right_fits f a r (at_end f a (tree_uses e) (right_uses r) h)
statement_fits f a looped (syntax.SetImmediateValue e v) h = refl
statement_fits f a looped (syntax.Await x) h = awaited_fits f a x h
statement_fits f a looped (syntax.Act e x) h = refl
statement_fits f a looped (syntax.Log g l e es) h = refl
statement_fits f a looped (syntax.StartSoon c) h = call_fits f a c (behind_one f a cocotb (call_uses c) h)
statement_fits f a looped (syntax.PutNow e x) h = refl
statement_fits f a looped (syntax.AssignAction e w) h = refl
statement_fits f a looped (syntax.SetImmediateAction e w) h = refl

-- ---- blocks

pub first_alone : {A : Type 0} (a b : Option A) → option_or a b ≡ None → a ≡ None
first_alone None b e = refl
first_alone (Some x) b e = e

pub second_alone : {A : Type 0} (a b : Option A) → option_or a b ≡ None → b ≡ None
second_alone None b e = e
second_alone (Some x) b e = cc

-- a line of a body that breaks no rule
none_astray : (f : File) (l : ℕ) (a : Around) (us : List Use) → broken_at f (body_line l a us) ≡ None → None_astray f a us
unfolding answer
none_astray f l a us h = go (list_any (is_unknown f a) us) (list_any (astray f a) us) (sym (body_broken f l a us) ∙ h)
  where
    go : (u m : Bool) → refused_at l (if u then Some rule.UnknownName else (if m then Some rule.Misplaced else None)) ≡ None → m ≡ false
    go true m e = cc
    go false true e = cc
    go false false e = refl

mutual
  pub block_fits : (f : File) (a : Around) (looped : Bool) (b : Block) → first_broken f (block_lines a looped b) ≡ None → list_all (fits_function f) (block_starts b) ≡ true
  block_fits f a looped NoItem h = refl
  block_fits f a looped (Then x xs) h =
      all_both (fits_function f) (item_starts x) (block_starts xs)
      (item_fits f a looped x (first_alone (first_broken f (item_lines a looped x)) (first_broken f (block_lines a looped xs)) (sym (broken_behind f (item_lines a looped x) (block_lines a looped xs)) ∙ h)))
      (block_fits f a looped xs (second_alone (first_broken f (item_lines a looped x)) (first_broken f (block_lines a looped xs)) (sym (broken_behind f (item_lines a looped x) (block_lines a looped xs)) ∙ h)))

  item_fits : (f : File) (a : Around) (looped : Bool) (x : BlockItem) → first_broken f (item_lines a looped x) ≡ None → list_all (fits_function f) (item_starts x) ≡ true
  item_fits f a looped (DocstringAt l) h = refl
  item_fits f a looped (StatementAt l t) h =
      statement_fits f a looped t (none_astray f l a (statement_uses looped t) (first_alone (broken_at f (body_line l a (statement_uses looped t))) None h))
  item_fits f a looped (ClauseAt l hd b) h =
      block_fits f a (looped || is_loop hd) b
      (second_alone (broken_at f (body_line l a (header_uses hd))) (first_broken f (block_lines a (looped || is_loop hd) b)) h)
