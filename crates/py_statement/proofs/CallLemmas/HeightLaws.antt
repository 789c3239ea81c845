-- What is kept of a form is the form with its height, where that is within the limit.
use Rattle.std.proofs.Common.{◌≡◌, ℕ, ◌-◌, ◌<◌, ◌≤◌, max, List, [], ◌∷◌, Option, Some, None, refl, ap, ◌∙◌, arith, ◌⊎◌, inl, inr}
use Rattle.py_syntax.specs.ExpressionTrees.{Tree, height}
use Rattle.py_syntax.specs.StatementTrees.{Argument, StartedCall, FunctionCall, ClockStart, QueuePut, QueueGet, Timed, TimedValue, TimedCall, Awaited, AwaitedValue, AwaitedCall, AwaitedStart, WithTimeout, RightSide, RightValue, RightAwait, RightStart, NewEvent, NewLock, RandomInt, NewQueue, GetNow, WriteAction, Force, Freeze, Release, optional_height, greatest, argument_height, started_height, timed_height, awaited_height, right_height, write_action_height}
use Rattle.py_expression.proofs.Nodes.{at_most_or_more}
use Rattle.py_statement.specs.Call.Kept.{kept, of_one, of_two, kept_optional, kept_list, given_as, kept_argument, kept_arguments, kept_started, kept_timed, timeout_of, kept_times, kept_awaited, kept_right, kept_write_action}
use Rattle.py_statement.proofs.CallLemmas.ValueLaws.{lowered_low, lowered_high}

-- of a form of this height this is kept
pub record Fits (limit : ℕ) {A : Type 0} (x : A) (h : ℕ) (v : A × ℕ) : Type 0 where
  pub whole : h ≤ limit → v ≡ (x, h)
  pub over : limit < h → limit < v.1

pub kept_fits : (limit : ℕ) (e : Tree) → Fits limit e (height e) (kept limit e)
kept_fits limit e = record {
  whole = λ l. lowered_low limit 0 e (height e) (omega arith) ∙ ap (λ n. (e, n)) (let k : height e - 0 ≡ height e = omega arith in k);
  over = λ l. rw (lowered_high limit 0 e (height e) (omega arith)) (omega arith);
}

pub none_fits : (limit : ℕ) → {A : Type 0} (x : A) → Fits limit x 0 (x, 0)
none_fits limit x = record { whole = λ l. refl; over = λ l. absurd (omega arith) }

pub one_fits : (limit : ℕ) → {A B : Type 0} (make : A → B) (x : A) (h : ℕ) (v : A × ℕ) → Fits limit x h v → Fits limit (make x) h (of_one make v)
one_fits limit make x h v f = record { whole = λ l. ap (λ w. of_one make w) (f.whole l); over = λ l. f.over l }

pub two_fits : (limit : ℕ) → {A B C : Type 0} (make : A → B → C) (x : A) (y : B) (g h : ℕ) (v : A × ℕ) (w : B × ℕ) → Fits limit x g v → Fits limit y h w → Fits limit (make x y) (max g h) (of_two make v w)
two_fits limit make x y g h v w a b = record {
  whole = λ l. ap (λ z. of_two make z w) (a.whole (omega arith)) ∙ ap (λ z. of_two make (x, g) z) (b.whole (omega arith));
  over = λ l. go (at_most_or_more g limit) l;
}
  where
    go : (g ≤ limit) ⊎ (limit < g) → limit < max g h → limit < max v.1 w.1
    go (inl k) l = let m : limit < w.1 = b.over (omega arith) in omega arith
    go (inr k) l = let m : limit < v.1 = a.over k in omega arith

pub optional_fits : (limit : ℕ) → {A : Type 0} (of : A → ℕ) (keep : A → A × ℕ) → ((x : A) → Fits limit x (of x) (keep x)) → (o : Option A) → Fits limit o (optional_height of o) (kept_optional keep o)
optional_fits limit of keep each None = none_fits limit None
optional_fits limit of keep each (Some x) = one_fits limit (λ y. Some y) x (of x) (keep x) (each x)

pub list_fits : (limit : ℕ) → {A : Type 0} (of : A → ℕ) (keep : A → A × ℕ) → ((x : A) → Fits limit x (of x) (keep x)) → (xs : List A) → Fits limit xs (greatest of xs) (kept_list keep xs)
unfolding kept_list
list_fits limit of keep each [] = none_fits limit []
list_fits limit of keep each (x ∷ xs) = two_fits limit (λ y ys. y ∷ ys) x xs (of x) (greatest of xs) (keep x) (kept_list keep xs) (each x) (list_fits limit of keep each xs)

argument_fits : (limit : ℕ) (x : Argument) → Fits limit x (argument_height x) (kept_argument limit x)
argument_fits limit x = one_fits limit (given_as x.name) x.value (height x.value) (kept limit x.value) (kept_fits limit x.value)

arguments_fit : (limit : ℕ) (xs : List Argument) → Fits limit xs (greatest argument_height xs) (kept_arguments limit xs)
arguments_fit limit xs = list_fits limit argument_height (kept_argument limit) (argument_fits limit) xs

pub started_fits : (limit : ℕ) (f : StartedCall) → Fits limit f (started_height f) (kept_started limit f)
started_fits limit (FunctionCall n xs) = one_fits limit (FunctionCall n) xs _ _ (arguments_fit limit xs)
started_fits limit (ClockStart e xs) = two_fits limit ClockStart e xs _ _ _ _ (kept_fits limit e) (arguments_fit limit xs)
started_fits limit (QueuePut e x) = two_fits limit QueuePut e x _ _ _ _ (kept_fits limit e) (kept_fits limit x)
started_fits limit (QueueGet e) = one_fits limit QueueGet e _ _ (kept_fits limit e)

timed_fits : (limit : ℕ) (x : Timed) → Fits limit x (timed_height x) (kept_timed limit x)
timed_fits limit (TimedValue e) = one_fits limit TimedValue e _ _ (kept_fits limit e)
timed_fits limit (TimedCall f) = one_fits limit TimedCall f _ _ (started_fits limit f)

times_fit : (limit : ℕ) (e : Tree) (u : Option Tree) → Fits limit (e, u) (max (height e) (optional_height height u)) (kept_times limit e u)
times_fit limit e u = two_fits limit (λ t v. (t, v)) e u _ _ _ _ (kept_fits limit e) (optional_fits limit height (kept limit) (kept_fits limit) u)

pub awaited_fits : (limit : ℕ) (a : Awaited) → Fits limit a (awaited_height a) (kept_awaited limit a)
awaited_fits limit (AwaitedValue e) = one_fits limit AwaitedValue e _ _ (kept_fits limit e)
awaited_fits limit (AwaitedCall f) = one_fits limit AwaitedCall f _ _ (started_fits limit f)
awaited_fits limit (AwaitedStart f) = one_fits limit AwaitedStart f _ _ (started_fits limit f)
awaited_fits limit (WithTimeout x e u) = two_fits limit timeout_of x (e, u) _ _ _ _ (timed_fits limit x) (times_fit limit e u)

pub right_fits : (limit : ℕ) (s : RightSide) → Fits limit s (right_height s) (kept_right limit s)
right_fits limit (RightValue e) = one_fits limit RightValue e _ _ (kept_fits limit e)
right_fits limit (RightAwait a) = one_fits limit RightAwait a _ _ (awaited_fits limit a)
right_fits limit (RightStart f) = one_fits limit RightStart f _ _ (started_fits limit f)
right_fits limit NewEvent = none_fits limit NewEvent
right_fits limit NewLock = none_fits limit NewLock
right_fits limit (RandomInt a b) = two_fits limit RandomInt a b _ _ _ _ (kept_fits limit a) (kept_fits limit b)
right_fits limit (NewQueue e) = one_fits limit NewQueue e _ _ (optional_fits limit height (kept limit) (kept_fits limit) e)
right_fits limit (GetNow e) = one_fits limit GetNow e _ _ (kept_fits limit e)

pub write_action_fits : (limit : ℕ) (w : WriteAction) → Fits limit w (write_action_height w) (kept_write_action limit w)
write_action_fits limit (Force e) = one_fits limit Force e _ _ (kept_fits limit e)
write_action_fits limit Freeze = none_fits limit Freeze
write_action_fits limit Release = none_fits limit Release
