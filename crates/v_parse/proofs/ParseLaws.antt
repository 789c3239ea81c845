-- What a caller of the parser sees.
use Rattle.std.proofs.lemmas.List.{length-map}
use Rattle.std.proofs.Common.{◌≡◌, List, length, map, Result, Ok, Err, refl, sym, ap, subst, ◌∙◌}
use Rattle.std.specs.Prelude.{IfOk, IfErr}
use Rattle.v_syntax.specs.declared.token.Token.{Token}
use Rattle.v_syntax.specs.declared.source.Module.{Module}
use Rattle.v_syntax.specs.declared.source.Source.{Source}
use Rattle.v_syntax.specs.SourceTrees.{ModuleTree, view, view_module}
use Rattle.v_syntax.specs.Refusal.{IsSource, IsSyntaxAt, IsTooDeepAt, height_limit}
use Rattle.v_lex.specs.Lexing.{Lexed}
use Rattle.v_expression.specs.Phrase.Stops.{Stop, Syntax, TooDeep}
use Rattle.v_parse.specs.declared.fault.ParseFault.{ParseFault}
use Rattle.v_parse.specs.declared.fault.ParseFault.TheVariants as faults
use Rattle.v_parse.specs.Reading.{source_of}
use Rattle.v_parse.specs.Answers.{IsFault, IsPlaced, IsRead, MakesSource, Tells}
use Rattle.v_parse.proofs.ModuleCounts.{modules_counted}
use Rattle.v_parse.proofs.Source.{source_sound, source_again, source_syntax, source_deep}

abbrev Read : Type 0
Read = Result (List ModuleTree) Stop

abbrev ok_or : List ModuleTree → Read → List ModuleTree
ok_or ms (Ok x) = x
ok_or ms (Err e) = ms

ok_same : (a b : List ModuleTree) → (let x : Read = Ok a in x) ≡ Ok b → a ≡ b
ok_same a b e = ap (ok_or b) e

err_ok : (s : Stop) (a : List ModuleTree) → (let x : Read = Err s in x) ≡ Ok a → ⊥
err_ok s a e = cc

module _ {X : Type 0} (view : X → List ModuleTree) (text : List Token) where
  found_of : (r : Result X ParseFault) → Tells view text r (source_of 63 text) → IfOk r (λ s. IsSource height_limit text (view s))
  found_of (Ok x) g = source_sound 63 text (view x) g
  found_of (Err f) g = tt

  only_of : (r : Result X ParseFault) → Tells view text r (source_of 63 text) → (ms : List ModuleTree) → IsSource height_limit text ms → IsRead (λ s. view s ≡ ms) r
  only_of (Ok x) g ms h = ok_same (view x) ms (sym g ∙ source_again 63 text ms h)
  only_of (Err faults.OutOfMemory) g ms h = refl
  only_of (Err (faults.Syntax p)) (k, e, g) ms h = absurd (err_ok (Syntax k) ms (sym g ∙ source_again 63 text ms h))
  only_of (Err (faults.TooDeep p)) (k, e, g) ms h = absurd (err_ok (TooDeep k) ms (sym g ∙ source_again 63 text ms h))

  refused_of : (r : Result X ParseFault) → Tells view text r (source_of 63 text) → IfErr r (λ f. IsFault text f)
  refused_of (Ok x) g = tt
  refused_of (Err faults.OutOfMemory) g = tt
  refused_of (Err (faults.Syntax p)) (k, e, g) = subst (λ n. IsSyntaxAt text n) (sym e) (source_syntax text k g)
  refused_of (Err (faults.TooDeep p)) (k, e, g) = subst (λ n. IsTooDeepAt text n) (sym e) (source_deep text k g)

  -- the same where the tokens are read through a slice
  module _ (slice : List Token) (same : slice ≡ text) (r : Result X ParseFault) (g : Tells view slice r (source_of 63 slice)) where
    given : Tells view text r (source_of 63 text)
    given = subst (λ t. Tells view t r (source_of 63 t)) same g

    pub parse_found : IfOk r (λ s. IsSource height_limit text (view s))
    parse_found = found_of r given

    pub parse_only : (ms : List ModuleTree) → IsSource height_limit text ms → IsRead (λ s. view s ≡ ms) r
    parse_only ms h = only_of r given ms h

    pub parse_refused : IfErr r (λ f. IsFault text f)
    parse_refused = refused_of r given

-- ---- modules that are put into a source

pub made_tells : (text : List Token) (ms : List Module) (read : Lexed) (r : Result Source ParseFault) → source_of 63 text ≡ Ok (map view_module ms) → MakesSource ms read r
    → Tells view text r (source_of 63 text)
made_tells text ms read (Ok s) h made = h ∙ ap (λ (xs : List Module). (let x : Read = Ok (map view_module xs) in x)) (sym made.modules_are)
made_tells text ms read (Err faults.OutOfMemory) h made = tt
made_tells text ms read (Err (faults.Syntax p)) h made = absurd (cc)
made_tells text ms read (Err (faults.TooDeep p)) h made = absurd (cc)

-- each module has a unit
pub made_counts : (ms : List Module) (read : Lexed) (r : Result Source ParseFault) → MakesSource ms read r → IfOk r (λ s. IsSource height_limit read.tokens (view s))
    → IfOk r (λ s. length s.units.items ≡ length s.modules.items)
made_counts ms read (Ok s) made found = made.one_each ∙ sym (modules_counted height_limit read.tokens (view s) found) ∙ length-map s.modules.items view_module
made_counts ms read (Err f) made found = tt

pub placed_source : (ms : List Module) (read : Lexed) (r : Result Source ParseFault) → MakesSource ms read r → IfOk r (IsPlaced read)
placed_source ms read (Ok s) made = made.is_placed
placed_source ms read (Err f) made = tt
