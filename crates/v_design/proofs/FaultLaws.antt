-- The token that is refused.
use Rattle.std.proofs.Common.{◌≡◌, ℕ, ◌≤◌, ◌<◌, List, length, arith, ◌⊎◌, inl, inr}
use Rattle.std.specs.Prelude.{slice_index}
use Rattle.std.proofs.lemmas.Bool.{cases_lt}
use Rattle.v_syntax.specs.declared.token.Token.{Token}
use Rattle.v_syntax.specs.SourceTrees.{ModuleTree}
use Rattle.v_syntax.specs.Refusal.{IsSource, Reaches, IsRefused, height_limit}
use Rattle.v_lex.specs.Lexing.{Lexed}
use Rattle.v_lex.specs.Row.{Reads}
use Rattle.v_design.specs.Designs.{IsUnspelled}

-- where no modules spell the tokens, the refused one is a token or the end
pub is_within : (tokens : List Token) (p : ℕ) → ((ms : List ModuleTree) → IsSource height_limit tokens ms → ⊥) → IsRefused tokens p → p ≤ length tokens
is_within tokens p none h = go (cases_lt (length tokens) p)
  where
    at_end : Reaches height_limit tokens (length tokens) → ⊥
    at_end (inl r) = omega (arith, r.0)
    at_end (inr r) = none r.1 r.2

    go : (length tokens < p) ⊎ (p ≤ length tokens) → p ≤ length tokens
    go (inl l) = absurd (at_end (h.0 (length tokens) l))
    go (inr l) = l

-- the tokens of a text that no modules spell
pub unspelled : (A : List Token → ℕ → Type 0) (text : List ℕ) (read : Lexed) (token place : ℕ) → Reads text read
    → ((ms : List ModuleTree) → IsSource height_limit read.tokens ms → ⊥) → A read.tokens token → place ≡ slice_index read.places token
    → IsUnspelled A text place
unspelled A text read token place reads none refused is =
    record { read = read; reads = reads; spells_none = none; token = token; refused = refused; is = is }
