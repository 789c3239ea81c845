-- Which tokens a started call, what is awaited and a right side spell (the language reference, 6.3.4 and 6.4). A started call is followed
-- by others; what is awaited and a right side reach to the end of their line.
use Rattle.std.specs.Prelude.{◌≡◌, ◌⊎◌, ℕ, Bool, true, false, ◌||◌, ◌&&◌, List, [], ◌∷◌, map, Option, Some, None, codes, if◌then◌else◌}
use Rattle.std.specs.Str.{bytes_eq}
use Rattle.py_syntax.specs.ExpressionTrees.{Tree}
use Rattle.py_syntax.specs.ExpressionSpells.{level, Closes, Spells}
use Rattle.py_syntax.specs.StatementTrees.{Argument, StartedCall, FunctionCall, ClockStart, QueuePut, QueueGet, Timed, TimedValue, TimedCall, Awaited, AwaitedValue, AwaitedCall, AwaitedStart, WithTimeout, RightSide, RightValue, RightAwait, RightStart, NewEvent, NewLock, RandomInt, NewQueue, GetNow, WriteAction, Force, Freeze, Release}
use Rattle.py_syntax.specs.declared.keyword.Keyword.TheVariants as keyword
use Rattle.py_syntax.specs.declared.operator.Operator.TheVariants as operator
use Rattle.py_syntax.specs.declared.operator.Bracket.TheVariants as bracket
use Rattle.py_syntax.specs.declared.token.Token.{Token}
use Rattle.py_syntax.specs.declared.token.Token.TheVariants as token

-- Tokens.

-- `n(`
abbrev pub call_tokens : List ℕ → List Token → List Token
call_tokens n ts = token.Name n ∷ token.Open bracket.Round ∷ ts

-- `.n(`
abbrev pub method_tokens : List ℕ → List Token → List Token
method_tokens n ts = token.Operator operator.Dot ∷ call_tokens n ts

-- `m.n(`
abbrev pub member_tokens : List ℕ → List ℕ → List Token → List Token
member_tokens m n ts = token.Name m ∷ method_tokens n ts

-- Arguments.

-- an argument begins, by its place or by its name
abbrev pub IsGivenBy : Option (List ℕ) → List Token → List Token → Type 0
IsGivenBy None here rest = here ≡ rest
IsGivenBy (Some name) here rest = here ≡ token.Name name ∷ token.Operator operator.Assign ∷ rest

abbrev pub SpellsArgument : Argument → List Token → List Token → Type 0
SpellsArgument x here rest = (us : List Token) × IsGivenBy x.name here us × Spells x.value us rest

-- the arguments behind another, up to the closing bracket, before which a comma may stand
abbrev pub SpellsOthers : List Argument → List Token → List Token → Type 0
SpellsOthers [] here rest = Closes here rest
SpellsOthers (x ∷ xs) here rest =
    (us : List Token) × (vs : List Token) × (here ≡ token.Operator operator.Comma ∷ us) × SpellsArgument x us vs × SpellsOthers xs vs rest

-- arguments behind an opening bracket, up to the closing one
abbrev pub SpellsArguments : List Argument → List Token → List Token → Type 0
SpellsArguments [] here rest = here ≡ token.Close bracket.Round ∷ rest
SpellsArguments (x ∷ xs) here rest = (us : List Token) × SpellsArgument x here us × SpellsOthers xs us rest

-- an argument that is given by its place
abbrev pub placed : Tree → Argument
placed e = record { name = None; value = e }

-- such arguments alone
abbrev pub SpellsValues : List Tree → List Token → List Token → Type 0
SpellsValues es here rest = SpellsArguments (map placed es) here rest

abbrev pub is_given : Option (List ℕ) → Bool
is_given None = false
is_given (Some name) = true

-- Behind an argument that is given by its name each one is; the Bool tells whether one stands before these.
unfoldable pub in_order_behind : Bool → List Argument → Bool
in_order_behind named [] = true
in_order_behind named (x ∷ xs) = if is_given x.name then in_order_behind true xs else (if named then false else in_order_behind false xs)

abbrev pub in_order : List Argument → Bool
in_order xs = in_order_behind false xs

abbrev pub is_named : List ℕ → Option (List ℕ) → Bool
is_named name None = false
is_named name (Some n) = bytes_eq n name

abbrev pub is_placed : Option (List ℕ) → Bool
is_placed None = true
is_placed (Some name) = false

abbrev pub cycles : List ℕ
cycles = codes "cycles"

abbrev pub start_high : List ℕ
start_high = codes "start_high"

-- the arguments of a clock's start: `cycles`, then `start_high`, each of which may be left out or be given by its name
unfoldable pub starts_clock : List Argument → Bool
starts_clock [] = true
starts_clock (x ∷ []) = is_placed x.name || is_named cycles x.name || is_named start_high x.name
starts_clock (x ∷ y ∷ []) =
    (is_placed x.name && (is_placed y.name || is_named start_high y.name))
    || (is_named cycles x.name && is_named start_high y.name)
    || (is_named start_high x.name && is_named cycles y.name)
starts_clock (x ∷ y ∷ z ∷ xs) = false

-- Calls that are started.

abbrev pub SpellsStarted : StartedCall → List Token → List Token → Type 0
SpellsStarted (FunctionCall n xs) here rest =
    (us : List Token) × (here ≡ call_tokens n us) × SpellsArguments xs us rest × (in_order xs ≡ true)
SpellsStarted (ClockStart e xs) here rest =
    (us : List Token) × (vs : List Token)
    × Spells e here us × (level e ≡ 12) × (us ≡ method_tokens (codes "start") vs) × SpellsArguments xs vs rest × (starts_clock xs ≡ true)
SpellsStarted (QueuePut e x) here rest =
    (us : List Token) × (vs : List Token)
    × Spells e here us × (level e ≡ 12) × (us ≡ method_tokens (codes "put") vs) × SpellsValues (x ∷ []) vs rest
SpellsStarted (QueueGet e) here rest =
    (us : List Token) × Spells e here us × (level e ≡ 12) × (us ≡ method_tokens (codes "get") (token.Close bracket.Round ∷ rest))

-- What is awaited.

-- the first argument of `with_timeout`, and the comma behind it; a call stands there only where no expression does
abbrev pub SpellsTimed : Timed → List Token → List Token → Type 0
SpellsTimed (TimedValue e) here rest = Spells e here (token.Operator operator.Comma ∷ rest)
SpellsTimed (TimedCall f) here rest =
    SpellsStarted f here (token.Operator operator.Comma ∷ rest)
    × ((e : Tree) (us : List Token) → Spells e here (token.Operator operator.Comma ∷ us) → ⊥)

-- the unit by its place or by its name, and the end of the line
abbrev pub SpellsUnit : Option Tree → List Token → Type 0
SpellsUnit None here = Closes here []
SpellsUnit (Some e) here =
    (us : List Token) × (vs : List Token) × (ws : List Token)
    × (here ≡ token.Operator operator.Comma ∷ us) × (IsGivenBy None us vs ⊎ IsGivenBy (Some (codes "timeout_unit")) us vs) × Spells e vs ws × Closes ws []

abbrev pub SpellsTimeout : Timed → Tree → Option Tree → List Token → Type 0
SpellsTimeout x e u here =
    (us : List Token) × (vs : List Token) × (ws : List Token)
    × (here ≡ call_tokens (codes "with_timeout") us) × SpellsTimed x us vs × Spells e vs ws × SpellsUnit u ws

-- `cocotb.start(call)` or `cocotb.start_soon(call)`
abbrev pub SpellsStart : List ℕ → StartedCall → List Token → Type 0
SpellsStart name f here =
    (us : List Token) × (vs : List Token) × (here ≡ member_tokens (codes "cocotb") name us) × SpellsStarted f us vs × Closes vs []

abbrev pub SpellsPrimary : Tree → List Token → Type 0
SpellsPrimary e here = Spells e here [] × (level e ≡ 12)

-- a primary, `cocotb.start(..)` or `with_timeout(..)` stands there
abbrev pub IsNoPlainCall : List Token → Type 0
IsNoPlainCall here =
    ((e : Tree) × SpellsPrimary e here) ⊎ ((f : StartedCall) × SpellsStart (codes "start") f here)
    ⊎ ((x : Timed) × (e : Tree) × (u : Option Tree) × SpellsTimeout x e u here)

abbrev pub SpellsAwaited : Awaited → List Token → Type 0
SpellsAwaited (AwaitedValue e) here = SpellsPrimary e here
SpellsAwaited (AwaitedCall f) here = SpellsStarted f here [] × (IsNoPlainCall here → ⊥)
SpellsAwaited (AwaitedStart f) here = SpellsStart (codes "start") f here
SpellsAwaited (WithTimeout x e u) here = SpellsTimeout x e u here

-- Right sides.

-- a call with no argument, or with a text
abbrev pub SpellsNew : List ℕ → List Token → Type 0
SpellsNew name here =
    (here ≡ call_tokens name (token.Close bracket.Round ∷ []))
    ⊎ ((text : List ℕ) × (us : List Token) × (here ≡ call_tokens name (token.Text text ∷ us)) × Closes us [])

-- the bound of a queue behind an opening bracket, by its place or by its name, and the end of the line
abbrev pub SpellsBound : Option Tree → List Token → Type 0
SpellsBound None here = here ≡ token.Close bracket.Round ∷ []
SpellsBound (Some e) here =
    (us : List Token) × (vs : List Token) × (IsGivenBy None here us ⊎ IsGivenBy (Some (codes "maxsize")) here us) × Spells e us vs × Closes vs []

abbrev pub SpellsRight : RightSide → List Token → Type 0
SpellsRight (RightValue e) here = Spells e here []
SpellsRight (RightAwait a) here = (us : List Token) × (here ≡ token.Keyword keyword.Await ∷ us) × SpellsAwaited a us
SpellsRight (RightStart f) here = SpellsStart (codes "start_soon") f here
SpellsRight NewEvent here = SpellsNew (codes "Event") here
SpellsRight NewLock here = SpellsNew (codes "Lock") here
SpellsRight (RandomInt a b) here = (us : List Token) × (here ≡ member_tokens (codes "random") (codes "randint") us) × SpellsValues (a ∷ b ∷ []) us []
SpellsRight (NewQueue e) here = (us : List Token) × (here ≡ call_tokens (codes "Queue") us) × SpellsBound e us
SpellsRight (GetNow e) here =
    (us : List Token) × Spells e here us × (level e ≡ 12) × (us ≡ method_tokens (codes "get_nowait") (token.Close bracket.Round ∷ []))

-- Writes that are no values.

-- the call of an action, to the end of the brackets
abbrev pub SpellsAction : WriteAction → List Token → List Token → Type 0
SpellsAction (Force e) here rest = (us : List Token) × (here ≡ call_tokens (codes "Force") us) × SpellsValues (e ∷ []) us rest
SpellsAction Freeze here rest = here ≡ call_tokens (codes "Freeze") (token.Close bracket.Round ∷ rest)
SpellsAction Release here rest = here ≡ call_tokens (codes "Release") (token.Close bracket.Round ∷ rest)
