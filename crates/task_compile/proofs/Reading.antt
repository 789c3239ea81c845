-- What a number stands for, and that states which are added leave it.
use Rattle.std.proofs.Common.{◌≡◌, ℕ, zero, suc, ◌+◌, ◌<◌, ◌≤◌, nat_lt, Bool, true, false, if◌then◌else◌, List, [], ◌∷◌, ◌++◌, length, map, append_assoc, Option, None, Some, slice_get, drop, get_or, Bor, drop-cons, add-one, refl, sym, ap, ◌∙◌, arith}
use Rattle.std.proofs.lemmas.Bool.Decides.{nat_tests}
use Rattle.std.proofs.lemmas.List.{map-append}
use Rattle.py_syntax.specs.ExpressionTrees.{view}
use Rattle.py_syntax.specs.StatementTrees.{view_caught}
use Rattle.test_meaning.specs.Body.BodyTrees as body
use Rattle.test_meaning.specs.Body.BodyTrees.{Block, NoItem, Then, If, Handlers, NoHandler, Catch}
use Rattle.test_meaning.specs.Body.Views.{block_of, else_of, handlers_of, view_branch, view_function, view_item, with_handler}
use Rattle.test_meaning.specs.declared.body.item.Item.{Item}
use Rattle.test_meaning.specs.declared.body.item.Branch.{Branch}
use Rattle.test_meaning.specs.declared.body.item.Handler.{Handler}
use Rattle.py_syntax.specs.declared.expression.Expression.{Expression}
use Rattle.py_syntax.specs.declared.statement.Caught.{Caught}
use Rattle.task_compile.specs.declared.program.Action.{Action}
use Rattle.task_compile.specs.declared.program.Action.TheVariants.{Begin, Elif, Except}
use Rattle.task_compile.specs.declared.program.State.{State}
use Rattle.task_compile.specs.declared.program.CompiledFunction.{CompiledFunction}
use Rattle.test_meaning.specs.declared.body.file.Function.{Function}
use Rattle.task_compile.specs.Reading.{falling, with_blocks, action_from, block_from, caught_from, handlers_from, state_at, block_within, handlers_within, block_at, handlers_at, IsGrown, LeadsBack, IsAdded, Adds, AddsHandlers, function_in, stands_for, catches_for}

-- ---- lower numbers

at_most : (t : Bool) (m k : ℕ) → (t ≡ true → m ≤ k) → (if t then m else 0) ≤ k
at_most true m k h = h refl
at_most false m k h = omega arith

below : (m k : ℕ) → nat_lt m (suc k) ≡ true → m ≤ k
below m k t = grind (arith, nat_tests)

falls : (k m : ℕ) → falling (suc k) m ≤ k
falls k m = at_most (nat_lt m (suc k)) m k (λ t. below m k t)

lower : (m n : ℕ) → nat_lt m n ≡ true → m < n
lower m n t = grind (arith, nat_tests)

falls_from : (n m l : ℕ) → n ≤ l → falling n m ≤ l
falls_from n m l h = at_most (nat_lt m n) m l (λ t. let b = lower m n t in omega arith)

is_lower : (m n : ℕ) → m < n → nat_lt m n ≡ true
is_lower m n h = grind (arith, nat_tests)

stays : (n m : ℕ) → m < n → falling n m ≡ m
stays n m h = rw (is_lower m n h) refl

-- ---- what lower numbers stand for is all that counts

abbrev Agree : ℕ → (ℕ → Block) → (ℕ → Handlers) → (ℕ → Block) → (ℕ → Handlers) → Type 0
Agree n f g h k = ((m : ℕ) → f (falling n m) ≡ h (falling n m)) × ((m : ℕ) → g (falling n m) ≡ k (falling n m))

action_same : (f : ℕ → Block) (g : ℕ → Handlers) (h : ℕ → Block) (k : ℕ → Handlers) (n : ℕ) (s : State) (a : Action) → Agree n f g h k → action_from f g n s a ≡ action_from h k n s a
action_same f g h k n s (Begin i) e = rw (e.0 s.first, e.0 s.second, e.1 s.second, e.0 s.next) refl
action_same f g h k n s (Elif c) e = rw (e.0 s.first, e.0 s.second, e.0 s.next) refl
action_same f g h k n s (Except c) e = refl

caught_same : (f : ℕ → Block) (g : ℕ → Handlers) (h : ℕ → Block) (k : ℕ → Handlers) (n : ℕ) (s : State) (a : Action) → Agree n f g h k → caught_from f g n s a ≡ caught_from h k n s a
caught_same f g h k n s (Begin i) e = refl
caught_same f g h k n s (Elif c) e = refl
caught_same f g h k n s (Except c) e = rw (e.0 s.first, e.1 s.next) refl

block_same : (f : ℕ → Block) (g : ℕ → Handlers) (h : ℕ → Block) (k : ℕ → Handlers) (n : ℕ) (o : Option State) → Agree n f g h k → block_from f g n o ≡ block_from h k n o
block_same f g h k n None e = refl
block_same f g h k n (Some s) e = action_same f g h k n s s.action e

handlers_same : (f : ℕ → Block) (g : ℕ → Handlers) (h : ℕ → Block) (k : ℕ → Handlers) (n : ℕ) (o : Option State) → Agree n f g h k → handlers_from f g n o ≡ handlers_from h k n o
handlers_same f g h k n None e = refl
handlers_same f g h k n (Some s) e = caught_same f g h k n s s.action e

-- ---- as many steps as the number are enough

abbrev Enough : ℕ → ℕ → List State → ℕ → Type 0
Enough f g ss n = (block_within f ss n ≡ block_within g ss n) × (handlers_within f ss n ≡ handlers_within g ss n)

enough_for : (f g : ℕ) (ss : List State) (k : ℕ) → ((m : ℕ) → m ≤ k → Enough f g ss m) → Enough (suc f) (suc g) ss (suc k)
enough_for f g ss k h =
    let e : Agree (suc k) (block_within f ss) (handlers_within f ss) (block_within g ss) (handlers_within g ss) =
    (λ m. (h (falling (suc k) m) (falls k m)).0, λ m. (h (falling (suc k) m) (falls k m)).1) in (
      block_same (block_within f ss) (handlers_within f ss) (block_within g ss) (handlers_within g ss) (suc k) (state_at ss (suc k)) e,
      handlers_same (block_within f ss) (handlers_within f ss) (block_within g ss) (handlers_within g ss) (suc k) (state_at ss (suc k)) e,
    )

pub enough : (f g : ℕ) (ss : List State) (n : ℕ) → n ≤ f → n ≤ g → Enough f g ss n
enough zero zero ss n h k = (refl, refl)
enough zero (suc g) ss zero h k = (refl, refl)
enough zero (suc g) ss (suc n) h k = absurd (omega arith)
enough (suc f) zero ss zero h k = (refl, refl)
enough (suc f) zero ss (suc n) h k = absurd (omega arith)
enough (suc f) (suc g) ss zero h k = (refl, refl)
enough (suc f) (suc g) ss (suc n) h k = enough_for f g ss n (λ m l. enough f g ss m (omega arith) (omega arith))

-- a number stands for what its state says, over the numbers that this leads to
pub block_read : (ss : List State) (k : ℕ) → block_at ss (suc k) ≡ block_from (block_at ss) (handlers_at ss) (suc k) (state_at ss (suc k))
unfolding block_at handlers_at
block_read ss k =
    block_same (block_within k ss) (handlers_within k ss) (λ m. block_within m ss m) (λ m. handlers_within m ss m) (suc k) (state_at ss (suc k))
    (λ m. (enough k (falling (suc k) m) ss (falling (suc k) m) (falls k m) (omega arith)).0, λ m. (enough k (falling (suc k) m) ss (falling (suc k) m) (falls k m) (omega arith)).1)

pub handlers_read : (ss : List State) (k : ℕ) → handlers_at ss (suc k) ≡ handlers_from (block_at ss) (handlers_at ss) (suc k) (state_at ss (suc k))
unfolding block_at handlers_at
handlers_read ss k =
    handlers_same (block_within k ss) (handlers_within k ss) (λ m. block_within m ss m) (λ m. handlers_within m ss m) (suc k) (state_at ss (suc k))
    (λ m. (enough k (falling (suc k) m) ss (falling (suc k) m) (falls k m) (omega arith)).0, λ m. (enough k (falling (suc k) m) ss (falling (suc k) m) (falls k m) (omega arith)).1)

pub block_end : (ss : List State) → block_at ss 0 ≡ NoItem
unfolding block_at
block_end ss = refl

pub handlers_end : (ss : List State) → handlers_at ss 0 ≡ NoHandler
unfolding handlers_at
handlers_end ss = refl

-- ---- states that are added

abbrev Kept : ℕ → List State → List State → ℕ → Type 0
Kept f ss ts n = (block_within f ts n ≡ block_within f ss n) × (handlers_within f ts n ≡ handlers_within f ss n)

state_same : (ss ts : List State) (n : ℕ) → IsGrown ss ts → n ≤ length ss → state_at ts n ≡ state_at ss n
state_same ss ts zero g h = refl
state_same ss ts (suc n) g h = g.same n (omega arith)

kept : (f : ℕ) (ss ts : List State) (n : ℕ) → IsGrown ss ts → n ≤ length ss → Kept f ss ts n
kept zero ss ts n g h = (refl, refl)
kept (suc f) ss ts n g h =
    let e : Agree n (block_within f ts) (handlers_within f ts) (block_within f ss) (handlers_within f ss) =
    (λ m. (kept f ss ts (falling n m) g (falls_from n m (length ss) h)).0, λ m. (kept f ss ts (falling n m) g (falls_from n m (length ss) h)).1) in
    let s = state_same ss ts n g h in (
      rw s (block_same (block_within f ts) (handlers_within f ts) (block_within f ss) (handlers_within f ss) n (state_at ss n) e),
      rw s (handlers_same (block_within f ts) (handlers_within f ts) (block_within f ss) (handlers_within f ss) n (state_at ss n) e),
    )

pub block_kept : (ss ts : List State) (n : ℕ) → IsGrown ss ts → n ≤ length ss → block_at ts n ≡ block_at ss n
unfolding block_at
block_kept ss ts n g h = (kept n ss ts n g h).0

pub handlers_kept : (ss ts : List State) (n : ℕ) → IsGrown ss ts → n ≤ length ss → handlers_at ts n ≡ handlers_at ss n
unfolding handlers_at
handlers_kept ss ts n g h = (kept n ss ts n g h).1

pub grown_self : (ss : List State) → IsGrown ss ss
grown_self ss = record { longer = omega arith; same = λ k h. refl }

pub grown_both : (rs ss ts : List State) → IsGrown rs ss → IsGrown ss ts → IsGrown rs ts
grown_both rs ss ts g h =
    let a = g.longer in
    let b = h.longer in
    record { longer = omega arith; same = λ k l. h.same k (omega arith) ∙ g.same k l }

got_before : (ss : List State) (s : State) (k : ℕ) → k < length ss → slice_get (ss ++ s ∷ []) k ≡ slice_get ss k
got_before [] s k h = absurd (omega arith)
got_before (x ∷ ss) s zero h = refl
got_before (x ∷ ss) s (suc k) h = got_before ss s k (omega arith)

got_last : (ss : List State) (s : State) → slice_get (ss ++ s ∷ []) (length ss) ≡ Some s
got_last [] s = refl
got_last (x ∷ ss) s = got_last ss s

length_more : (ss : List State) (s : State) → length (ss ++ s ∷ []) ≡ suc (length ss)
length_more [] s = refl
length_more (x ∷ ss) s = rw (length_more ss s) refl

pub grown_by : (ss : List State) (s : State) → IsGrown ss (ss ++ s ∷ [])
grown_by ss s = record { longer = rw (length_more ss s) (omega arith); same = λ k h. got_before ss s k h }

action_stands : (ss ts : List State) (n : ℕ) (s : State) (a : Action) → IsGrown ss ts → LeadsBack ss s → length ss < n
    → action_from (block_at ts) (handlers_at ts) n s a ≡ stands_for ss s a
action_stands ss ts n s (Begin i) g l h =
    let p = l.first in
    let q = l.second in
    let r = l.next in
    rw (
      stays n s.first (omega arith),
      stays n s.second (omega arith),
      stays n s.next (omega arith),
      block_kept ss ts s.first g p,
      block_kept ss ts s.second g q,
      handlers_kept ss ts s.second g q,
      block_kept ss ts s.next g r,
    ) refl
action_stands ss ts n s (Elif e) g l h =
    let p = l.first in
    let q = l.second in
    let r = l.next in
    rw (
      stays n s.first (omega arith),
      stays n s.second (omega arith),
      stays n s.next (omega arith),
      block_kept ss ts s.first g p,
      block_kept ss ts s.second g q,
      block_kept ss ts s.next g r,
    ) refl
action_stands ss ts n s (Except c) g l h = refl

caught_stands : (ss ts : List State) (n : ℕ) (s : State) (a : Action) → IsGrown ss ts → LeadsBack ss s → length ss < n
    → caught_from (block_at ts) (handlers_at ts) n s a ≡ catches_for ss s a
caught_stands ss ts n s (Begin i) g l h = refl
caught_stands ss ts n s (Elif e) g l h = refl
caught_stands ss ts n s (Except c) g l h =
    let p = l.first in
    let r = l.next in
    rw (stays n s.first (omega arith), stays n s.next (omega arith), block_kept ss ts s.first g p, handlers_kept ss ts s.next g r) refl

-- one state more
pub added : (ss ts : List State) (s : State) (n : ℕ) → ts ≡ ss ++ s ∷ [] → LeadsBack ss s → n ≡ suc (length ss) → IsAdded ss ts s n
added ss ts s n e l h =
    let g : IsGrown ss (ss ++ s ∷ []) = grown_by ss s in
    rw (e, h) (record {
      grown = g;
      last = refl;
      inside = rw (length_more ss s) (omega arith);
      block = rw (block_read (ss ++ s ∷ []) (length ss), got_last ss s) (action_stands ss (ss ++ s ∷ []) (suc (length ss)) s s.action g l (omega arith));
      handlers = rw (handlers_read (ss ++ s ∷ []) (length ss), got_last ss s) (caught_stands ss (ss ++ s ∷ []) (suc (length ss)) s s.action g l (omega arith));
    })

-- ---- statements that are added

pub nothing_added : (ss : List State) → Adds ss ss 0 NoItem
nothing_added ss = record { grown = grown_self ss; inside = omega arith; is = block_end ss }

pub no_handler_added : (ss : List State) → AddsHandlers ss ss 0 NoHandler
no_handler_added ss = record { grown = grown_self ss; inside = omega arith; is = handlers_end ss }

inside_grown : (ss ts : List State) (n : ℕ) → IsGrown ss ts → n ≤ length ss → n ≤ length ts
inside_grown ss ts n g h = let l = g.longer in omega arith

still : (ss ts : List State) (n : ℕ) (b : Block) (rs : List State) → Adds rs ss n b → IsGrown ss ts → block_at ts n ≡ b
still ss ts n b rs a g = block_kept ss ts n g a.inside ∙ a.is

still_handled : (ss ts : List State) (n : ℕ) (hs : Handlers) (rs : List State) → AddsHandlers rs ss n hs → IsGrown ss ts → handlers_at ts n ≡ hs
still_handled ss ts n hs rs a g = handlers_kept ss ts n g a.inside ∙ a.is

pub begun_adds : (ss ts : List State) (s : State) (n : ℕ) (i : Item) → IsAdded ss ts s n → stands_for ss s s.action
    ≡ Then (with_blocks i (block_at ss s.first) (block_at ss s.second) (handlers_at ss s.second)) (block_at ss s.next)
    → Adds ss ts n (Then (with_blocks i (block_at ss s.first) (block_at ss s.second) (handlers_at ss s.second)) (block_at ss s.next))
begun_adds ss ts s n i a e = record { grown = a.grown; inside = a.inside; is = a.block ∙ e }

pub block_begun : (ss ts : List State) (n : ℕ) (i : Item) (a c : Block)
    → Adds ss ts n (Then (with_blocks i a (block_at ss 0) (handlers_at ss 0)) c) → Adds ss ts n (Then (with_blocks i a NoItem NoHandler) c)
block_begun ss ts n i a c g = record { grown = g.grown; inside = g.inside; is = rw (← block_end ss, ← handlers_end ss) g.is }

pub block_adds : (rs ss ts : List State) (first next n : ℕ) (i : Item) (x : body.Item) (a : Block) → next ≤ length rs → Adds rs ss first a
    → Adds ss ts n (Then (with_blocks i (block_at ss first) NoItem NoHandler) (block_at ss next)) → with_blocks i a NoItem NoHandler ≡ x
    → Adds rs ts n (Then x (block_at rs next))
block_adds rs ss ts first next n i x a h f g e = record {
  grown = grown_both rs ss ts f.grown g.grown;
  inside = g.inside;
  is = g.is ∙ rw (f.is, block_kept rs ss next f.grown h, e) refl;
}

pub if_adds : (qs rs ss ts us : List State) (first last second next n : ℕ) (i : Item) (x : body.Item) (a b : Block) (es : List Branch) → next ≤ length qs
    → Adds qs rs first a → Adds rs ss last b → Adds ss ts second (else_of es (block_at ss last))
    → Adds ts us n (Then (with_blocks i (block_at ts first) (block_at ts second) (handlers_at ts second)) (block_at ts next))
    → ((hs : Handlers) → with_blocks i a (else_of es b) hs ≡ x)
    → Adds qs us n (Then x (block_at qs next))
if_adds qs rs ss ts us first last second next n i x a b es h f l s g e =
    let grown : IsGrown rs ts = grown_both rs ss ts l.grown s.grown in
    let all : IsGrown qs ts = grown_both qs rs ts f.grown grown in
    let one : block_at ts first ≡ a = still rs ts first a qs f grown in
    let two : block_at ts second ≡ else_of es b = s.is ∙ ap (else_of es) l.is in
    record {
      grown = grown_both qs ts us all g.grown;
      inside = g.inside;
      is = g.is ∙ rw (one, two, block_kept qs ts next all h, e (handlers_at ts second)) refl;
    }

pub try_adds : (qs rs ss ts : List State) (first second next n : ℕ) (i : Item) (x : body.Item) (a : Block) (hs : Handlers) → next ≤ length qs
    → Adds qs rs first a → AddsHandlers rs ss second hs
    → Adds ss ts n (Then (with_blocks i (block_at ss first) (block_at ss second) (handlers_at ss second)) (block_at ss next))
    → ((b : Block) → with_blocks i a b hs ≡ x)
    → Adds qs ts n (Then x (block_at qs next))
try_adds qs rs ss ts first second next n i x a hs h f s g e =
    let all : IsGrown qs ss = grown_both qs rs ss f.grown s.grown in
    record {
      grown = grown_both qs ss ts all g.grown;
      inside = g.inside;
      is = g.is ∙ rw (still rs ss first a qs f s.grown, s.is, block_kept qs ss next all h, e (block_at ss second)) refl;
    }

pub elif_adds : (rs ss ts : List State) (first second n : ℕ) (c : Bor Expression) (a : Block) (x : body.Item) → second ≤ length rs → Adds rs ss first a
    → IsAdded ss ts (record { action = Elif c; next = 0; first = first; second = second }) n → If (view c.now) a (block_at rs second) ≡ x
    → Adds rs ts n (Then x NoItem)
elif_adds rs ss ts first second n c a x h f g e = record {
  grown = grown_both rs ss ts f.grown g.grown;
  inside = g.inside;
  is = g.block ∙ rw (f.is, block_kept rs ss second f.grown h, block_end ss, e) refl;
}

pub handler_adds : (rs ss ts : List State) (first next n : ℕ) (c : Bor Caught) (a : Block) (hs : Handlers) → next ≤ length rs → Adds rs ss first a
    → IsAdded ss ts (record { action = Except c; next = next; first = first; second = 0 }) n → Catch (view_caught c.now) a (handlers_at rs next) ≡ hs
    → AddsHandlers rs ts n hs
handler_adds rs ss ts first next n c a hs h f g e = record {
  grown = grown_both rs ss ts f.grown g.grown;
  inside = g.inside;
  is = g.handlers ∙ rw (f.is, handlers_kept rs ss next f.grown h, e) refl;
}

-- ---- one more of a list

pub item_more : (rs ss ts : List State) (n m at : ℕ) (xs : List Item) (x : Item) → at < length xs → x ≡ get_or xs at x → Adds rs ss n (block_of (drop (at + 1) xs))
    → Adds ss ts m (Then (view_item x) (block_at ss n)) → Adds rs ts m (block_of (drop at xs))
item_more rs ss ts n m at xs x h e f g = record {
  grown = grown_both rs ss ts f.grown g.grown;
  inside = g.inside;
  is = g.is ∙ rw (f.is, drop-cons xs at x h, add-one, ← e) refl;
}

pub elif_more : (rs ss ts : List State) (n m at : ℕ) (bs : List Branch) (b : Branch) (other : Block) → at < length bs → b ≡ get_or bs at b
    → Adds rs ss n (else_of (drop (at + 1) bs) other)
    → Adds ss ts m (Then (view_branch b (block_at ss n)) NoItem) → Adds rs ts m (else_of (drop at bs) other)
elif_more rs ss ts n m at bs b other h e f g = record {
  grown = grown_both rs ss ts f.grown g.grown;
  inside = g.inside;
  is = g.is ∙ rw (f.is, drop-cons bs at b h, add-one, ← e) refl;
}

pub handler_more : (rs ss ts : List State) (n m at : ℕ) (hs : List Handler) (x : Handler) → at < length hs → x ≡ get_or hs at x
    → AddsHandlers rs ss n (handlers_of (drop (at + 1) hs))
    → AddsHandlers ss ts m (with_handler x (handlers_at ss n)) → AddsHandlers rs ts m (handlers_of (drop at hs))
handler_more rs ss ts n m at hs x h e f g = record {
  grown = grown_both rs ss ts f.grown g.grown;
  inside = g.inside;
  is = g.is ∙ rw (f.is, drop-cons hs at x h, add-one, ← e) refl;
}

-- ---- functions

-- each begins with a state that is there
abbrev pub AreFirst : List CompiledFunction → ℕ → Type 0
AreFirst [] n = Unit {0}
AreFirst (f ∷ fs) n = (f.first ≤ n) × AreFirst fs n

firsts_more : (fs : List CompiledFunction) (n m : ℕ) → n ≤ m → AreFirst fs n → AreFirst fs m
firsts_more [] n m h a = tt
firsts_more (f ∷ fs) n m h a = (let b = a.0 in omega arith, firsts_more fs n m h a.1)

firsts_push : (fs : List CompiledFunction) (f : CompiledFunction) (n : ℕ) → AreFirst fs n → f.first ≤ n → AreFirst (fs ++ f ∷ []) n
firsts_push [] f n a h = (h, tt)
firsts_push (g ∷ fs) f n a h = (a.0, firsts_push fs f n a.1 h)

functions_kept : (ss ts : List State) (fs : List CompiledFunction) → IsGrown ss ts → AreFirst fs (length ss) → map (function_in ts) fs ≡ map (function_in ss) fs
functions_kept ss ts [] g a = refl
functions_kept ss ts (f ∷ fs) g a = rw (block_kept ss ts f.first g a.0, functions_kept ss ts fs g a.1) refl

-- the functions that were compiled are the first of the file
pub record AreCompiled (ss : List State) (fs : List CompiledFunction) (all : List Function) (n : ℕ) : Type 0 where
  pub firsts : AreFirst fs (length ss)
  pub made : map (function_in ss) fs ++ map view_function (drop n all) ≡ map view_function all

pub compiled_none : (all : List Function) → AreCompiled [] [] all 0
compiled_none all = record { firsts = tt; made = refl }

got_more : (all : List Function) (n : ℕ) (f : Function) → slice_get all n ≡ Some f → drop n all ≡ f ∷ drop (n + 1) all
got_more [] n f h = absurd (cc)
got_more (x ∷ all) zero f h = let e : x ≡ f = cc in rw (← e) refl
got_more (x ∷ all) (suc n) f h = rw add-one (rw add-one at (got_more all n f h))

pub compiled_more : (ss ts : List State) (fs gs : List CompiledFunction) (all : List Function) (n first : ℕ) (f : Function) (g : CompiledFunction)
    → slice_get all n ≡ Some f → AreCompiled ss fs all n → Adds ss ts first (block_of f.body.items) → gs ≡ fs ++ g ∷ [] → g.first ≡ first
    → g.parameters.now ≡ f.parameters → g.others.now ≡ f.others → AreCompiled ts gs all (n + 1)
compiled_more ss ts fs gs all n first f g h c a e i p o =
    let l = a.grown.longer in
    let one : function_in ts g ≡ view_function f = rw (p, o, i, a.is) refl in
    record {
      firsts = rw e (firsts_push fs g (length ts) (firsts_more fs (length ss) (length ts) l c.firsts) (rw i a.inside));
      made = rw (e, map-append, functions_kept ss ts fs a.grown c.firsts, one, append_assoc)
          (ap (λ (xs : List Function). map (function_in ss) fs ++ map view_function xs) (sym (got_more all n f h)) ∙ c.made);
    }
