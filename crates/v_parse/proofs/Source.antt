-- What is read of a whole text, as the parser says it.
use Rattle.std.proofs.Common.{◌≡◌, ℕ, suc, ◌+◌, ◌-◌, List, length, Ok, Err, sym, subst, ap, ◌∙◌, arith}
use Rattle.v_syntax.specs.declared.token.Token.{Token}
use Rattle.v_syntax.specs.SourceTrees.{ModuleTree}
use Rattle.v_syntax.specs.Refusal.{IsSource, IsSyntaxAt, IsTooDeepAt}
use Rattle.v_expression.specs.Phrase.Stops.{Syntax, TooDeep}
use Rattle.v_parse.specs.Reading.{source_of}
use Rattle.v_lex.specs.Row.{Part, Reads, told}
use Rattle.v_lex.specs.Lexing.{Lexed, start}
use Rattle.v_lex.proofs.RowLaws.{one_row}
use Rattle.v_parse.proofs.SourceLaws as laws

one_more : (room : ℕ) → suc room ≡ room + 1
one_more room = omega arith

pub source_sound : (room : ℕ) (text : List Token) (ms : List ModuleTree) → source_of room text ≡ Ok ms → IsSource (room + 1) text ms
source_sound room text ms h = subst (λ n. IsSource n text ms) (one_more room) (laws.source_found text room ms h)

pub source_again : (room : ℕ) (text : List Token) (ms : List ModuleTree) → IsSource (room + 1) text ms → source_of room text ≡ Ok ms
source_again room text ms w = laws.source_only text room ms (subst (λ n. IsSource n text ms) (sym (one_more room)) w)

pub source_syntax : (text : List Token) (left : ℕ) → source_of 63 text ≡ Err (Syntax left) → IsSyntaxAt text (length text - left)
source_syntax text left h = laws.syntax_refused text left h

pub source_deep : (text : List Token) (left : ℕ) → source_of 63 text ≡ Err (TooDeep left) → IsTooDeepAt text (length text - left)
source_deep text left h = laws.deep_refused text left h

pub one_source : (n m : ℕ) (text : List Token) (a b : List ModuleTree) → IsSource n text a → IsSource m text b → a ≡ b
one_source n m text a b v w = laws.one_source n m text a b v w

one_list : (bytes : List ℕ) (read again : Lexed) → Reads bytes read → Reads bytes again → read.tokens ≡ again.tokens
one_list bytes read again r s =
    ap (λ (l : Lexed). l.tokens) r.3 ∙ ap (λ (parts : List Part). (told parts).tokens) (one_row start 0 r.0 s.0 bytes r.1 s.1) ∙ sym (ap (λ (l : Lexed). l.tokens) s.3)

pub one_source_of_bytes : (n m : ℕ) (bytes : List ℕ) (read again : Lexed) (a b : List ModuleTree) → Reads bytes read → Reads bytes again
    → IsSource n read.tokens a → IsSource m again.tokens b → a ≡ b
one_source_of_bytes n m bytes read again a b r s v w =
    one_source n m read.tokens a b v (subst (λ (ts : List Token). IsSource m ts b) (sym (one_list bytes read again r s)) w)
