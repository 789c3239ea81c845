-- What loops read, and what is added after something else.
use Rattle.std.proofs.Common.{◌≡◌, ℕ, List, [], ◌++◌, length, take, Option, None, Some, Result, Ok, Err, sym, ap, ◌∙◌}
use Rattle.std.proofs.lemmas.List.{append_assoc}
use Rattle.gpi.proofs.Steps.{kept_both}
use Rattle.port_io.specs.declared.ports.NoMemory.{NoMemory}
use Rattle.v_loop.specs.declared.reads.span.Span as code
use Rattle.v_loop.specs.Reads.Reads.{Adds, spans_of}
use Rattle.four_value.specs.declared.Digit.{Digit}
use Rattle.v_syntax.specs.StatementTrees.{HeaderTree, StatementTree}
use Rattle.v_flat.specs.declared.scope.found.Found.{Found}
use Rattle.v_flat.specs.declared.scope.meaning.DataObject.{DataObject}
use Rattle.v_flat.specs.declared.scope.meaning.Meaning.{Meaning}
use Rattle.v_flat.specs.declared.scope.meaning.Meaning.TheVariants.{Constant, Object, Later}
use Rattle.v_flat.specs.Scope.Scope.{Scope}
use Rattle.v_flat.specs.Statements.{Span, Turns, known_turns, read_in_turns, statement_reads, turn, turns, with_counter}

-- what the body reads in the turns that were found
pub counted_read : (s t : Scope) (n m : List ℕ) (o : DataObject) (p : ℕ) (h : HeaderTree) (b : StatementTree) (found : Found Turns) (x : Turns) (vs : List (List Digit))
    → t ≡ s → n ≡ m → found ≡ turns p h s o → known_turns found ≡ x → vs ≡ x.0
    → read_in_turns (λ v. statement_reads (turn n o v t) b) vs ≡ read_in_turns (λ v. statement_reads (turn m o v s) b) (known_turns (turns p h s o)).0
counted_read s t n m o p h b found x vs same name is known values =
    ap (λ (q : Scope). read_in_turns (λ v. statement_reads (turn n o v q) b) vs) same
    ∙ ap (λ (k : List ℕ). read_in_turns (λ v. statement_reads (turn k o v s) b) vs) name
    ∙ ap (λ (us : List (List Digit)). read_in_turns (λ v. statement_reads (turn m o v s) b) us) (values ∙ ap (λ (y : Turns). y.0) (sym known ∙ ap (λ (f : Found Turns). known_turns f) is))

-- by the data object that a name means
pub object_read : (m : Option Meaning) (o : DataObject) (f : DataObject → List Span) → with_counter m (λ (q : DataObject). Some q) None ≡ Some o → with_counter m f [] ≡ f o
object_read None o f h = absurd (cc)
object_read (Some Later) o f h = absurd (cc)
object_read (Some (Constant ds b)) o f h = absurd (cc)
object_read (Some (Object q)) o f h = let e : q ≡ o = cc in ap (λ (r : DataObject). f r) e

-- something, and then more
pub adds_then : (xs ys zs : List code.Span) (a b : List Span) (r : Result (Unit {0}) NoMemory) → spans_of ys ≡ spans_of xs ++ a → take (length xs) ys ≡ xs → Adds ys zs b r
    → Adds xs zs (a ++ b) r
adds_then xs ys zs a b (Ok u) e f h = record { all = h.all ∙ ap (λ (ks : List Span). ks ++ b) e ∙ append_assoc (spans_of xs) a b; front = kept_both xs ys zs f h.front }
adds_then xs ys zs a b (Err n) e f h = record { all = tt; front = kept_both xs ys zs f h.front }
