-- Which tokens a statement, a header and a line of a function's body spell (the language reference, 7 and 8). Each is a whole line.
use Rattle.std.specs.Prelude.{◌≡◌, ℕ, suc, Bool, true, false, ◌==◌, List, [], ◌∷◌, length, Option, Some, None, codes, if◌then◌else◌}
use Rattle.py_syntax.specs.ExpressionTrees.{Tree, Constant}
use Rattle.py_syntax.specs.ExpressionSpells.{level, Closes, Spells}
use Rattle.py_syntax.specs.StatementTables.{fault_name, action_name, level_name, augmenting}
use Rattle.py_syntax.specs.StatementTrees.{Logger, CocotbLog, HierarchyLog, Statement, Pass, Break, Continue, Return, Raise, Assert, Assign, AugmentedAssign, AssignValue, SetImmediateValue, Await, Act, Log, StartSoon, PutNow, AssignAction, SetImmediateAction, Caught, All, Kind, Kinds, KindAs, Span, Stop, StartStop, StartStopStep, Constants, Header, If, Elif, Else, While, For, Try, Except, With, BodyLine, Simple, Heads}
use Rattle.py_syntax.specs.ConstantForms.{SpellsConstants}
use Rattle.py_syntax.specs.CallForms.{method_tokens, call_tokens, SpellsValues, SpellsStart, SpellsAwaited, SpellsRight, SpellsAction}
use Rattle.py_syntax.specs.declared.constant.Const.TheVariants as constants
use Rattle.py_syntax.specs.declared.fault_kind.FaultKind.{FaultKind}
use Rattle.py_syntax.specs.declared.keyword.Keyword.{Keyword}
use Rattle.py_syntax.specs.declared.keyword.Keyword.TheVariants as keyword
use Rattle.py_syntax.specs.declared.operator.Operator.{Operator}
use Rattle.py_syntax.specs.declared.operator.Operator.TheVariants as operator
use Rattle.py_syntax.specs.declared.operator.Bracket.TheVariants as bracket
use Rattle.py_syntax.specs.declared.token.Token.{Token}
use Rattle.py_syntax.specs.declared.token.Token.TheVariants as token

-- Statements (7).

-- the fault's value in brackets, if there is one
abbrev pub SpellsRaised : Option Tree → List Token → Type 0
SpellsRaised None here = here ≡ []
SpellsRaised (Some e) here = (us : List Token) × (here ≡ token.Open bracket.Round ∷ us) × SpellsValues (e ∷ []) us []

-- the value behind an assertion's condition, if there is one
abbrev pub SpellsMessage : Option Tree → List Token → Type 0
SpellsMessage None here = here ≡ []
SpellsMessage (Some e) here = (us : List Token) × (here ≡ token.Operator operator.Comma ∷ us) × Spells e us []

-- a primary, and then these tokens
abbrev pub SpellsBefore : Tree → List Token → List Token → Type 0
SpellsBefore e here rest = Spells e here rest × (level e ≡ 12)

-- what is logged for
abbrev pub SpellsLogger : Logger → List Token → List Token → Type 0
SpellsLogger CocotbLog here rest = here ≡ token.Name (codes "cocotb") ∷ token.Operator operator.Dot ∷ token.Name (codes "log") ∷ rest
SpellsLogger (HierarchyLog e) here rest = SpellsBefore e here (token.Operator operator.Dot ∷ token.Name (codes "_log") ∷ rest)

abbrev pub one_more : Option ℕ → Option ℕ
one_more None = None
one_more (Some n) = Some (suc n)

-- how many `%s` a text holds, if it holds no other `%`
unfoldable pub places : List ℕ → Option ℕ
places [] = Some 0
places (b ∷ []) = if b == 37 then None else Some 0
places (b ∷ c ∷ bytes) = if b == 37 then (if c == 115 then one_more (places bytes) else None) else places (c ∷ bytes)

abbrev pub is_count : ℕ → Option ℕ → Bool
is_count n None = false
is_count n (Some m) = m == n

-- as many places as values
abbrev pub has_places : Tree → ℕ → Bool
has_places (Constant (constants.Text text)) n = is_count n (places text)
has_places _ n = false

-- One value alone is logged as it is; before others stands a text with a place for each.
unfoldable pub can_log : Tree → List Tree → Bool
can_log e [] = true
can_log e (x ∷ xs) = has_places e (length (x ∷ xs))

abbrev pub SpellsStatement : Statement → List Token → Type 0
SpellsStatement Pass here = here ≡ token.Keyword keyword.Pass ∷ []
SpellsStatement Break here = here ≡ token.Keyword keyword.Break ∷ []
SpellsStatement Continue here = here ≡ token.Keyword keyword.Continue ∷ []
SpellsStatement (Return None) here = here ≡ token.Keyword keyword.Return ∷ []
SpellsStatement (Return (Some s)) here = (us : List Token) × (here ≡ token.Keyword keyword.Return ∷ us) × SpellsRight s us
SpellsStatement (Raise k e) here =
    (us : List Token) × (here ≡ token.Keyword keyword.Raise ∷ token.Name (fault_name k) ∷ us) × SpellsRaised e us
SpellsStatement (Assert c e) here =
    (us : List Token) × (vs : List Token) × (here ≡ token.Keyword keyword.Assert ∷ us) × Spells c us vs × SpellsMessage e vs
SpellsStatement (Assign n s) here =
    (us : List Token) × (here ≡ token.Name n ∷ token.Operator operator.Assign ∷ us) × SpellsRight s us
SpellsStatement (AugmentedAssign n op e) here =
    (mark : Operator) × (us : List Token) × (here ≡ token.Name n ∷ token.Operator mark ∷ us) × (augmenting mark ≡ Some op) × Spells e us []
SpellsStatement (AssignValue e s) here =
    (us : List Token)
    × SpellsBefore e here (token.Operator operator.Dot ∷ token.Name (codes "value") ∷ token.Operator operator.Assign ∷ us) × SpellsRight s us
SpellsStatement (SetImmediateValue e v) here =
    (us : List Token) × SpellsBefore e here (method_tokens (codes "setimmediatevalue") us) × SpellsValues (v ∷ []) us []
SpellsStatement (Await a) here = (us : List Token) × (here ≡ token.Keyword keyword.Await ∷ us) × SpellsAwaited a us
SpellsStatement (Act e a) here = SpellsBefore e here (method_tokens (action_name a) (token.Close bracket.Round ∷ []))
SpellsStatement (Log g l e es) here =
    (us : List Token)
    × SpellsLogger g here (method_tokens (level_name l) us) × SpellsValues (e ∷ es) us [] × (can_log e es ≡ true)
SpellsStatement (StartSoon f) here = SpellsStart (codes "start_soon") f here
SpellsStatement (PutNow e x) here =
    (us : List Token) × SpellsBefore e here (method_tokens (codes "put_nowait") us) × SpellsValues (x ∷ []) us []
SpellsStatement (AssignAction e w) here =
    (us : List Token)
    × SpellsBefore e here (token.Operator operator.Dot ∷ token.Name (codes "value") ∷ token.Operator operator.Assign ∷ us) × SpellsAction w us []
SpellsStatement (SetImmediateAction e w) here =
    (us : List Token) × (vs : List Token)
    × SpellsBefore e here (method_tokens (codes "setimmediatevalue") us) × SpellsAction w us vs × Closes vs []

-- Headers (8).

-- `:` at the end of the line
abbrev pub colon : List Token
colon = token.Operator operator.Colon ∷ []

-- a word, an expression and `:`
abbrev pub SpellsTest : Keyword → Tree → List Token → Type 0
SpellsTest word e here = (us : List Token) × (here ≡ token.Keyword word ∷ us) × Spells e us colon

abbrev pub SpellsRange : List Tree → List Token → Type 0
SpellsRange es here = (us : List Token) × (here ≡ call_tokens (codes "range") us) × SpellsValues es us colon

abbrev pub SpellsSpan : Span → List Token → Type 0
SpellsSpan (Stop e) here = SpellsRange (e ∷ []) here
SpellsSpan (StartStop e f) here = SpellsRange (e ∷ f ∷ []) here
SpellsSpan (StartStopStep e f g) here = SpellsRange (e ∷ f ∷ g ∷ []) here
SpellsSpan (Constants cs) here = (us : List Token) × (here ≡ token.Open bracket.Square ∷ us) × SpellsConstants cs us colon

-- the kinds behind another
abbrev pub SpellsOtherKinds : List FaultKind → List Token → List Token → Type 0
SpellsOtherKinds [] here rest = Closes here rest
SpellsOtherKinds (k ∷ ks) here rest =
    (us : List Token) × (here ≡ token.Operator operator.Comma ∷ token.Name (fault_name k) ∷ us) × SpellsOtherKinds ks us rest

-- kinds behind an opening bracket, one at least
abbrev pub SpellsKinds : List FaultKind → List Token → List Token → Type 0
SpellsKinds [] here rest = ⊥
SpellsKinds (k ∷ ks) here rest = (us : List Token) × (here ≡ token.Name (fault_name k) ∷ us) × SpellsOtherKinds ks us rest

abbrev pub SpellsCaught : Caught → List Token → Type 0
SpellsCaught All here = here ≡ colon
SpellsCaught (Kind k) here = here ≡ token.Name (fault_name k) ∷ colon
SpellsCaught (Kinds ks) here = (us : List Token) × (here ≡ token.Open bracket.Round ∷ us) × SpellsKinds ks us colon
SpellsCaught (KindAs k n) here = here ≡ token.Name (fault_name k) ∷ token.Keyword keyword.As ∷ token.Name n ∷ colon

abbrev pub SpellsHeader : Header → List Token → Type 0
SpellsHeader (If e) here = SpellsTest keyword.If e here
SpellsHeader (Elif e) here = SpellsTest keyword.Elif e here
SpellsHeader Else here = here ≡ token.Keyword keyword.Else ∷ colon
SpellsHeader (While e) here = SpellsTest keyword.While e here
SpellsHeader (For n s) here =
    (us : List Token) × (here ≡ token.Keyword keyword.For ∷ token.Name n ∷ token.Keyword keyword.In ∷ us) × SpellsSpan s us
SpellsHeader Try here = here ≡ token.Keyword keyword.Try ∷ colon
SpellsHeader (Except c) here = (us : List Token) × (here ≡ token.Keyword keyword.Except ∷ us) × SpellsCaught c us
SpellsHeader (With e) here =
    (us : List Token) × (here ≡ token.Keyword keyword.Async ∷ token.Keyword keyword.With ∷ us) × Spells e us colon

-- A line of a function's body.
abbrev pub SpellsLine : BodyLine → List Token → Type 0
SpellsLine (Simple s) here = SpellsStatement s here
SpellsLine (Heads h) here = SpellsHeader h here
