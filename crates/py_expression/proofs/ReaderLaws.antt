-- The laws of reading: what is read is a tree, and a tree is read as it.
use Rattle.std.proofs.Common.{◌≡◌, ℕ, ◌<◌, ◌≤◌, List, Option, Some, None, Result, Ok, Err, IfOk, refl, sym, ap, ◌∙◌, arith, ◌⊎◌, inl, inr, ◌+◌}
use Rattle.std.specs.Borrow.{Bor}
use Rattle.py_syntax.specs.ExpressionTrees.{Tree, height}
use Rattle.py_syntax.specs.ExpressionSpells.{Spells, level}
use Rattle.py_syntax.specs.declared.token.Token.{Token}
use Rattle.py_expression.specs.Phrase.Marks.{after}
use Rattle.py_expression.specs.declared.phrase.fault.ReadError.{ReadError}
use Rattle.py_expression.specs.declared.phrase.fault.ReadError.TheVariants as errors
use Rattle.py_expression.specs.declared.measured.Measured.{Measured}
use Rattle.py_expression.specs.Phrase.Gives.{Gives}
use Rattle.py_expression.specs.Kept.{measured}
use Rattle.py_expression.specs.Shown.{Shown, shown}
use Rattle.py_expression.specs.Reading.{read_of, expression_of, primary_of}
use Rattle.py_expression.specs.Ends.{Stops, IsRead, IsFound}
use Rattle.py_expression.proofs.Again.{read_again, level_positive}
use Rattle.py_expression.proofs.Sound.{read_sound}
use Rattle.py_expression.proofs.Nodes.{at_most_or_more, shown_whole, shown_high}
use Rattle.py_expression.proofs.PhraseLemmas.Facts.{some_same}

pub expression_sound : (limit : ℕ) (ts rest : List Token) (v : Shown) → expression_of limit ts ≡ Some (v, rest) → IsRead limit 1 ts v rest
expression_sound limit ts rest v e = read_sound limit 1 ts (omega arith) (v, rest) e

pub expression_again : (limit : ℕ) (e : Tree) (ts rest : List Token) → Spells e ts rest → Stops 1 e rest → expression_of limit ts ≡ Some (shown limit e, rest)
unfolding after
expression_again limit e ts rest s stops = read_again limit 1 e ts rest s (level_positive e) stops

pub primary_sound : (limit : ℕ) (ts rest : List Token) (v : Shown) → primary_of limit ts ≡ Some (v, rest) → IsRead limit 12 ts v rest
primary_sound limit ts rest v e = read_sound limit 12 ts (omega arith) (v, rest) e

pub primary_again : (limit : ℕ) (e : Tree) (ts rest : List Token) → Spells e ts rest → 12 ≤ level e → Stops 12 e rest → primary_of limit ts ≡ Some (shown limit e, rest)
unfolding after
primary_again limit e ts rest s b stops = read_again limit 12 e ts rest s b stops

-- trees of which the same is kept are the same, if one is within the limit
pub shown_same : (limit : ℕ) (e f : Tree) → height e ≤ limit + 2 → shown limit e ≡ shown limit f → e ≡ f
shown_same limit e f h eq = go (at_most_or_more (height f) (limit + 2))
  where
    go : (height f ≤ limit + 2) ⊎ (limit + 2 < height f) → e ≡ f
    go (inl k) = ap (λ (s : Shown). s.tree) (sym (shown_whole limit e h) ∙ eq ∙ shown_whole limit f k)
    go (inr k) = absurd (omega (arith, ap (λ (s : Shown). s.height) (sym (shown_whole limit e h) ∙ eq ∙ shown_high limit f k)))

pub one_expression_law : (e f : Tree) (ts rest others : List Token) → Spells e ts rest → Stops 1 e rest → Spells f ts others → Stops 1 f others → (e ≡ f) × (rest ≡ others)
unfolding after
one_expression_law e f ts rest others s a t b =
    let n : ℕ = height e in
    let both : (shown n e, rest) ≡ (shown n f, others) = some_same (sym (expression_again n e ts rest s a) ∙ expression_again n f ts others t b) in
    (shown_same n e f (omega arith) (ap (λ (x : Shown × List Token). x.0) both), ap (λ (x : Shown × List Token). x.1) both)

-- The calls' further clauses.

pub found_law : (limit least : ℕ) (ts : List Token) (r : Result (Measured × Bor (List Token)) ReadError) → least ≤ 12 → Gives (λ x. (measured x.0, x.1.now)) r (read_of limit least ts)
    → IfOk r (λ x. IsRead limit least ts (measured x.0) x.1.now)
found_law limit least ts (Ok x) h g = read_sound limit least ts h (measured x.0, x.1.now) g
found_law limit least ts (Err f) h g = tt

none_some : {A : Type 0} (o : Option A) (x : A) → o ≡ None → o ≡ Some x → ⊥
none_some o x a b = cc

pub only_law : (limit least : ℕ) (ts : List Token) (r : Result (Measured × Bor (List Token)) ReadError) (e : Tree) (rest : List Token)
    → Gives (λ x. (measured x.0, x.1.now)) r (read_of limit least ts) → Spells e ts rest → least ≤ level e → Stops least e rest → IsFound limit e rest r
unfolding after
only_law limit least ts (Ok x) e rest g s b stops =
    let both : (measured x.0, x.1.now) ≡ (shown limit e, rest) = some_same (sym g ∙ read_again limit least e ts rest s b stops) in
    (ap (λ (y : Shown × List Token). y.0) both, ap (λ (y : Shown × List Token). y.1) both)
only_law limit least ts (Err errors.OutOfMemory) e rest g s b stops = refl
only_law limit least ts (Err errors.Wrong) e rest g s b stops = absurd (none_some (read_of limit least ts) (shown limit e, rest) g (read_again limit least e ts rest s b stops))
