-- What reading an expression says of the whole of the tokens.
use Rattle.std.proofs.Common.{◌≡◌, ◌+◌, ◌<◌, ◌≤◌, Bool, true, false, nat_le, List, [], ◌∷◌, length, Option, Some, None, Result, Ok, Err, if◌then◌else◌, refl, sym, ap, ◌∙◌, subst, inl, inr, ◌⊎◌, arith}
use Rattle.std.specs.Borrow.{Bor}
use Rattle.std.proofs.lemmas.Bool.Decides.{nat_tests}
use Rattle.py_syntax.specs.ExpressionTrees.{Tree, height}
use Rattle.py_syntax.specs.ExpressionSpells.{Spells}
use Rattle.py_syntax.specs.declared.token.Token.{Token}
use Rattle.py_expression.specs.Phrase.Marks.{after}
use Rattle.py_expression.specs.declared.phrase.fault.ReadError.{ReadError}
use Rattle.py_expression.specs.declared.phrase.fault.ReadError.TheVariants as errors
use Rattle.py_expression.specs.Ends.{Stops, IsRead, IsFound}
use Rattle.py_expression.specs.Kept.{measured}
use Rattle.py_expression.specs.Shown.{Shown, shown, height_limit}
use Rattle.py_expression.specs.Tokens.{operation_at}
use Rattle.py_expression.specs.declared.measured.Measured.{Measured}
use Rattle.py_expression.proofs.Nodes.{at_most_or_more, shown_whole, shown_high}
use Rattle.value_tests.specs.Expressions.Row.{IsWhole, IsReading}

stops_at_end : (e : Tree) → Stops 1 e []
unfolding operation_at after
stops_at_end e = record { no_operator = omega arith; no_tail = (refl, refl); uncalled = inl refl }

-- of a tree within the limit all is kept, and of a higher one a height above the limit
low_is_whole : (e : Tree) → (shown height_limit e).height ≤ height_limit → (height e ≤ height_limit) × ((shown height_limit e).tree ≡ e)
low_is_whole e h = go (at_most_or_more (height e) (height_limit + 2))
  where
    go : (height e ≤ height_limit + 2) ⊎ (height_limit + 2 < height e) → (height e ≤ height_limit) × ((shown height_limit e).tree ≡ e)
    go (inl l) =
        let w = shown_whole height_limit e l in
        (omega (arith, ap (λ (s : Shown). s.height) w), ap (λ (s : Shown). s.tree) w)
    go (inr l) = absurd (omega (arith, ap (λ (s : Shown). s.height) (shown_high height_limit e l)))

high_is_above : (e : Tree) → height e ≤ height_limit → (shown height_limit e).height ≤ height_limit
high_is_above e h = omega (arith, ap (λ (s : Shown). s.height) (shown_whole height_limit e (omega arith)))

abbrev pub Only : List Token → Result (Measured × Bor (List Token)) ReadError → Type 0
Only ts result = (e : Tree) (rest : List Token) → Spells e ts rest → Stops 1 e rest → IsFound height_limit e rest result

-- the tree that was read, where it isn't too high
abbrev pub kept : Shown → Option Tree
kept m = if nat_le m.height height_limit then Some m.tree else None

read_by : (ts : List Token) (m : Shown) (t : Bool) → nat_le m.height height_limit ≡ t → IsRead height_limit 1 ts m []
    → ((e : Tree) → IsWhole ts e → m ≡ shown height_limit e) → IsReading ts (if t then Some m.tree else None)
read_by ts m true b r only =
    let low : m.height ≤ height_limit = grind (arith, nat_tests) in
    let whole = low_is_whole r.tree (subst (λ (s : Shown). s.height ≤ height_limit) r.kept low) in
    let same : m.tree ≡ r.tree = ap (λ (s : Shown). s.tree) r.kept ∙ whole.1 in
    record { spells = subst (λ e. Spells e ts []) (sym same) r.spells; low = subst (λ e. height e ≤ height_limit) (sym same) whole.0 }
read_by ts m false b r only = λ e w.
    let low : m.height ≤ height_limit = subst (λ (s : Shown). s.height ≤ height_limit) (sym (only e w)) (high_is_above e w.low) in
    grind (arith, nat_tests)

no_tokens : (us : List Token) → length us < 1 → us ≡ []
no_tokens [] h = refl
no_tokens (u ∷ us) h = absurd (omega arith)

pub all_read : (ts : List Token) (x : Measured × Bor (List Token)) → length x.1.now < 1 → IsRead height_limit 1 ts (measured x.0) x.1.now → Only ts (Ok x)
    → IsReading ts (kept (measured x.0))
all_read ts x e r only =
    read_by ts (measured x.0) (nat_le (measured x.0).height height_limit) refl (subst (λ us. IsRead height_limit 1 ts (measured x.0) us) (no_tokens x.1.now e) r)
    (λ t w. (only t [] w.spells (stops_at_end t)).0)

pub more_left : (ts : List Token) (x : Measured × Bor (List Token)) → 1 ≤ length x.1.now → Only ts (Ok x) → IsReading ts None
more_left ts x e only = λ tree w.
    let none = (only tree [] w.spells (stops_at_end tree)).1 in
    absurd (omega (arith, ap length none))

pub none_read : (ts : List Token) → Only ts (Err errors.Wrong) → IsReading ts None
none_read ts only = λ tree w.
    let no = only tree [] w.spells (stops_at_end tree) in
    absurd cc
