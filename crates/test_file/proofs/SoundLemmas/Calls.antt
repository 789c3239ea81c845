-- The calls of a made body are those that are started in its block.
use Rattle.std.proofs.Common.{◌≡◌, ◌&&◌, Bool, true, false, List, [], ◌++◌, map, Some, None, refl, sym, ap, ◌∙◌}
use Rattle.std.proofs.lemmas.List.Folds.{list_all-append, list_all-map}
use Rattle.std.specs.List.{list_all}
use Rattle.py_syntax.specs.BlockTrees as tree
use Rattle.py_syntax.specs.BlockTrees.{BlockItem, DocstringAt, StatementAt, ClauseAt}
use Rattle.py_syntax.specs.StatementTrees as syntax
use Rattle.test_meaning.specs.Body.BodyTrees.{Block, Call}
use Rattle.test_meaning.specs.Body.Sound.{awaited_calls, block_calls, handler_calls, right_calls, statement_calls, timed_calls}
use Rattle.test_meaning.specs.Bodies.{Inside, Tail, awaited_in, block_in, call_in, clause_in, item_in, right_in, statement_in, timed_in}
use Rattle.test_file.specs.Sound.Starts.{awaited_starts, block_starts, item_starts, right_starts, statement_starts, timed_starts}

timed_made : (s : Inside) (x : syntax.Timed) → timed_calls (timed_in s x) ≡ map (call_in s) (timed_starts x)
timed_made s (syntax.TimedValue e) = refl
timed_made s (syntax.TimedCall c) = refl

awaited_made : (s : Inside) (a : syntax.Awaited) → awaited_calls (awaited_in s a) ≡ map (call_in s) (awaited_starts a)
awaited_made s (syntax.AwaitedValue e) = refl
awaited_made s (syntax.AwaitedCall c) = refl
awaited_made s (syntax.AwaitedStart c) = refl
awaited_made s (syntax.WithTimeout x e u) = timed_made s x

right_made : (s : Inside) (r : syntax.RightSide) → right_calls (right_in s r) ≡ map (call_in s) (right_starts r)
right_made s (syntax.RightValue e) = refl
right_made s (syntax.RightAwait a) = awaited_made s a
right_made s (syntax.RightStart c) = refl
right_made s syntax.NewEvent = refl
right_made s syntax.NewLock = refl
right_made s (syntax.RandomInt a b) = refl
right_made s (syntax.NewQueue e) = refl
right_made s (syntax.GetNow e) = refl

statement_made : (s : Inside) (t : syntax.Statement) → statement_calls (statement_in s t) ≡ map (call_in s) (statement_starts t)
statement_made s syntax.Pass = refl
statement_made s syntax.Break = refl
statement_made s syntax.Continue = refl
statement_made s (syntax.Return None) = refl
statement_made s (syntax.Return (Some r)) = right_made s r
statement_made s (syntax.Raise k e) = refl
statement_made s (syntax.Assert c e) = refl
statement_made s (syntax.Assign n r) = right_made s r
statement_made s (syntax.AugmentedAssign n o e) = refl
statement_made s (syntax.AssignValue e r) = right_made s r
statement_made s (syntax.SetImmediateValue e v) = refl
statement_made s (syntax.Await a) = awaited_made s a
statement_made s (syntax.Act e a) = refl
statement_made s (syntax.Log g l e es) = refl
statement_made s (syntax.StartSoon c) = refl
statement_made s (syntax.PutNow e x) = refl
statement_made s (syntax.AssignAction e w) = refl
statement_made s (syntax.SetImmediateAction e w) = refl

-- ---- blocks

pub both : (a b : Bool) → a ≡ true → b ≡ true → (a && b) ≡ true
both true true p q = refl
both true false p q = q
both false b p q = p

pub first_of_both : (a b : Bool) → (a && b) ≡ true → a ≡ true
first_of_both true b p = refl
first_of_both false b p = p

pub second_of_both : (a b : Bool) → (a && b) ≡ true → b ≡ true
second_of_both true b p = p
second_of_both false b p = cc

pub all_both : {A : Type 0} (p : A → Bool) (xs ys : List A) → list_all p xs ≡ true → list_all p ys ≡ true → list_all p (xs ++ ys) ≡ true
all_both p xs ys h k = list_all-append p xs ys ∙ both (list_all p xs) (list_all p ys) h k

pub all_first : {A : Type 0} (p : A → Bool) (xs ys : List A) → list_all p (xs ++ ys) ≡ true → list_all p xs ≡ true
all_first p xs ys h = first_of_both (list_all p xs) (list_all p ys) (sym (list_all-append p xs ys) ∙ h)

pub all_second : {A : Type 0} (p : A → Bool) (xs ys : List A) → list_all p (xs ++ ys) ≡ true → list_all p ys ≡ true
all_second p xs ys h = second_of_both (list_all p xs) (list_all p ys) (sym (list_all-append p xs ys) ∙ h)

-- each call of what stands in a block from some place on passes
record Pass (p : Call → Bool) (t : Tail) : Type 0 where
  pub items : list_all p (block_calls t.items) ≡ true
  pub other : list_all p (block_calls t.other) ≡ true
  pub handlers : list_all p (handler_calls t.handlers) ≡ true

-- behind an item before the others
ahead : (p : Call → Bool) (cs : List Call) (rest : Tail) → list_all p cs ≡ true → Pass p rest → list_all p (cs ++ block_calls rest.items) ≡ true
ahead p cs rest h more = all_both p cs (block_calls rest.items) h more.items

clause_passes : (p : Call → Bool) (s : Inside) (h : syntax.Header) (b : Block) (rest : Tail) → list_all p (block_calls b) ≡ true → Pass p rest → Pass p (clause_in s h b rest)
clause_passes p s (syntax.If e) b rest fine more =
    record { items = ahead p (block_calls b ++ block_calls rest.other) rest (all_both p (block_calls b) (block_calls rest.other) fine more.other) more; other = refl; handlers = refl }
clause_passes p s (syntax.Elif e) b rest fine more =
    record { items = more.items; other = all_both p (block_calls b ++ block_calls rest.other) [] (all_both p (block_calls b) (block_calls rest.other) fine more.other) refl; handlers = refl }
clause_passes p s syntax.Else b rest fine more = record { items = more.items; other = fine; handlers = refl }
clause_passes p s (syntax.While e) b rest fine more = record { items = ahead p (block_calls b) rest fine more; other = refl; handlers = refl }
clause_passes p s (syntax.For n span) b rest fine more = record { items = ahead p (block_calls b) rest fine more; other = refl; handlers = refl }
clause_passes p s syntax.Try b rest fine more =
    record { items = ahead p (block_calls b ++ handler_calls rest.handlers) rest (all_both p (block_calls b) (handler_calls rest.handlers) fine more.handlers) more; other = refl; handlers = refl }
clause_passes p s (syntax.Except c) b rest fine more =
    record { items = more.items; other = refl; handlers = all_both p (block_calls b) (handler_calls rest.handlers) fine more.handlers }
clause_passes p s (syntax.With e) b rest fine more = record { items = ahead p (block_calls b) rest fine more; other = refl; handlers = refl }

mutual
  block_passes : (p : Call → Bool) (s : Inside) (b : tree.Block) → list_all (λ c. p (call_in s c)) (block_starts b) ≡ true → Pass p (block_in s b)
  block_passes p s tree.NoItem h = record { items = refl; other = refl; handlers = refl }
  block_passes p s (tree.Then x xs) h =
      item_passes p s x (block_in s xs) (all_first (λ c. p (call_in s c)) (item_starts x) (block_starts xs) h)
      (block_passes p s xs (all_second (λ c. p (call_in s c)) (item_starts x) (block_starts xs) h))

  item_passes : (p : Call → Bool) (s : Inside) (x : BlockItem) (rest : Tail) → list_all (λ c. p (call_in s c)) (item_starts x) ≡ true → Pass p rest → Pass p (item_in s x rest)
  item_passes p s (DocstringAt l) rest h more = record { items = more.items; other = refl; handlers = refl }
  item_passes p s (StatementAt l t) rest h more =
      record {
        items = ahead p (statement_calls (statement_in s t)) rest (ap (λ cs. list_all p cs) (statement_made s t) ∙ list_all-map p (call_in s) (statement_starts t) ∙ h) more;
        other = refl;
        handlers = refl;
      }
  item_passes p s (ClauseAt l hd b) rest h more = clause_passes p s hd (block_in s b).items rest (block_passes p s b h).items more

-- the calls of a body pass, if the starts of its block do when they are made
pub body_passes : (p : Call → Bool) (s : Inside) (b : tree.Block) → list_all (λ c. p (call_in s c)) (block_starts b) ≡ true → list_all p (block_calls (block_in s b).items) ≡ true
body_passes p s b h = (block_passes p s b h).items
