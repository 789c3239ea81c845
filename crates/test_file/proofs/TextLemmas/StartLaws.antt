-- Each start of a clock in a module that lines spell has such arguments as a text may give it, line by line.
use Rattle.std.proofs.Common.{◌≡◌, ℕ, zero, suc, true, List, [], ◌∷◌, ◌++◌, Some, None, refl, ◌∙◌}
use Rattle.std.proofs.lemmas.List.Concat.{flat_map-cons}
use Rattle.std.proofs.lemmas.List.Folds.{list_all-append}
use Rattle.std.specs.List.{flat_map, list_all}
use Rattle.py_syntax.specs.BlockTrees.{Block, BlockItem, ClauseAt, DocstringAt, FunctionAt, LineAt, ModuleItem, NoItem, StatementAt, TextAt, Then}
use Rattle.py_syntax.specs.CallForms.{SpellsAwaited, SpellsRight, SpellsStart, SpellsStarted, SpellsTimed}
use Rattle.py_syntax.specs.Line.{Line}
use Rattle.py_syntax.specs.Modules.{SpellsModule, block_lines, item_lines, module_item_lines, module_lines}
use Rattle.py_syntax.specs.Outline.{Content, Docstring, InBody, InModule, Placed, Says, SpellsOutline, at_start, depth, with_last, word_of}
use Rattle.py_syntax.specs.StatementForms.{SpellsStatement}
use Rattle.py_syntax.specs.StatementTrees as tree
use Rattle.py_syntax.specs.StatementTrees.{Awaited, AwaitedCall, AwaitedStart, AwaitedValue, ClockStart, FunctionCall, QueueGet, QueuePut, Heads, RightSide, Simple, StartedCall, Statement, Timed, TimedCall, TimedValue, WithTimeout}
use Rattle.py_syntax.specs.declared.outline.OpenBlock.{OpenBlock}
use Rattle.py_syntax.specs.declared.token.Token.{Token}
use Rattle.test_file.specs.Sound.Starts.{are_right_starts, awaited_starts, block_starts, is_right_start, item_starts, right_starts, starts_at, statement_starts, timed_starts}

-- all of these are such
abbrev AreRight : List StartedCall → Type 0
AreRight cs = list_all is_right_start cs ≡ true

alone : (c : StartedCall) → is_right_start c ≡ true → AreRight (c ∷ [])
alone c h = rw h refl

together : (cs ds : List StartedCall) → AreRight cs → AreRight ds → AreRight (cs ++ ds)
together cs ds h k = list_all-append is_right_start cs ds ∙ rw (h, k) refl

-- ---- calls

started : (c : StartedCall) (here rest : List Token) → SpellsStarted c here rest → is_right_start c ≡ true
started (FunctionCall n xs) here rest h = refl
started (ClockStart e xs) here rest (us, vs, spells, level, dot, arguments, starts) = starts
started (QueuePut e x) here rest h = refl
started (QueueGet e) here rest h = refl

begun : (name : List ℕ) (c : StartedCall) (here : List Token) → SpellsStart name c here → AreRight (c ∷ [])
begun name c here (us, vs, e, spells, closes) = alone c (started c us vs spells)

timed : (x : Timed) (here rest : List Token) → SpellsTimed x here rest → AreRight (timed_starts x)
timed (TimedValue e) here rest h = refl
timed (TimedCall c) here rest h = alone c (started c here _ h.0)

awaited : (a : Awaited) (here : List Token) → SpellsAwaited a here → AreRight (awaited_starts a)
awaited (AwaitedValue e) here h = refl
awaited (AwaitedCall c) here h = alone c (started c here [] h.0)
awaited (AwaitedStart c) here h = begun _ c here h
awaited (WithTimeout x e u) here (us, vs, ws, is, spells, time, unit) = timed x us vs spells

side : (r : RightSide) (here : List Token) → SpellsRight r here → AreRight (right_starts r)
side (tree.RightValue e) here h = refl
side (tree.RightAwait a) here (us, is, spells) = awaited a us spells
side (tree.RightStart c) here h = begun _ c here h
side tree.NewEvent here h = refl
side tree.NewLock here h = refl
side (tree.RandomInt a b) here h = refl
side (tree.NewQueue e) here h = refl
side (tree.GetNow e) here h = refl

-- ---- lines

statement : (s : Statement) (here : List Token) → SpellsStatement s here → AreRight (statement_starts s)
statement tree.Pass here h = refl
statement tree.Break here h = refl
statement tree.Continue here h = refl
statement (tree.Return None) here h = refl
statement (tree.Return (Some r)) here (us, is, spells) = side r us spells
statement (tree.Raise k e) here h = refl
statement (tree.Assert c e) here h = refl
statement (tree.Assign n r) here (us, is, spells) = side r us spells
statement (tree.AugmentedAssign n o e) here h = refl
statement (tree.AssignValue e r) here (us, is, spells) = side r us spells
statement (tree.SetImmediateValue e v) here h = refl
statement (tree.Await a) here (us, is, spells) = awaited a us spells
statement (tree.Act e a) here h = refl
statement (tree.Log g l e es) here h = refl
statement (tree.StartSoon c) here h = begun _ c here h
statement (tree.PutNow e x) here h = refl
statement (tree.AssignAction e w) here h = refl
statement (tree.SetImmediateAction e w) here h = refl

-- the calls that a line starts
abbrev line_starts : Content → List StartedCall
line_starts (InBody (Simple s)) = statement_starts s
line_starts _ = []

said : (d : ℕ) (c : Content) (l : Line) → Says d c l → AreRight (line_starts c)
unfolding Says
said d Docstring l h = refl
said d (InModule m) l h = refl
said zero (InBody b) l h = absurd h
said (suc d) (InBody (Simple s)) l h = statement s l.tokens h.1
said (suc d) (InBody (Heads x)) l h = refl

-- each of these lines
abbrev StartRight : List Placed → Type 0
StartRight [] = Unit {0}
StartRight (p ∷ ps) = AreRight (line_starts p.content) × StartRight ps

outline : (bs : List OpenBlock) (ps : List Placed) (ls : List Line) → SpellsOutline bs ps ls → StartRight ps
unfolding SpellsOutline
outline bs [] ls h = tt
outline bs (p ∷ ps) [] h = absurd h
outline bs (p ∷ ps) (l ∷ ls) (cs, place, deep, number, says, block, rest) =
    (said (depth cs) p.content l says, outline (with_last (word_of l.tokens) cs) ps ls rest)

parts : (ps qs : List Placed) → StartRight (ps ++ qs) → StartRight ps × StartRight qs
parts [] qs h = (tt, h)
parts (p ∷ ps) qs h = let k = parts ps qs h.1 in ((h.0, k.0), k.1)

-- ---- blocks and modules

mutual
  unfolding block_lines item_lines

  block : (d : ℕ) (b : Block) → StartRight (block_lines d b) → AreRight (block_starts b)
  block d NoItem h = refl
  block d (Then x b) h =
      let k = parts (item_lines d x) (block_lines d b) h in together (item_starts x) (block_starts b) (item d x k.0) (block d b k.1)

  item : (d : ℕ) (x : BlockItem) → StartRight (item_lines d x) → AreRight (item_starts x)
  item d (DocstringAt n) h = refl
  item d (StatementAt n s) h = h.0
  item d (ClauseAt n x b) h = block (suc d) b h.1

one : (x : ModuleItem) → StartRight (module_item_lines x) → AreRight (starts_at x)
unfolding module_item_lines
one (TextAt n) h = refl
one (LineAt n l) h = refl
one (FunctionAt n f ps b) h = block 1 b h.1

all : (xs : List ModuleItem) → StartRight (module_lines xs) → are_right_starts xs ≡ true
unfolding module_lines
all [] h = refl
all (x ∷ xs) h =
    let k = parts (module_item_lines x) (module_lines xs) h in
    rw (flat_map-cons starts_at x xs) (together (starts_at x) (flat_map starts_at xs) (one x k.0) (all xs k.1))

pub starts_are_right : (items : List ModuleItem) (lines : List Line) → SpellsModule items lines → are_right_starts items ≡ true
starts_are_right items lines h = all items (outline at_start (module_lines items) lines h.1)
