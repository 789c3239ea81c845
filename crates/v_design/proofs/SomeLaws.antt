-- A text has an answer.
use Rattle.std.proofs.Common.{◌≡◌, ℕ, ◌-◌, ◌≤◌, ◌<◌, Bool, true, false, List, [], ◌∷◌, length, Option, None, Some, Result, Ok, Err, refl, ap, sym, ◌∙◌, ◌⊎◌, inl, inr}
use Rattle.std.specs.Prelude.{slice_index, nat_le}
use Rattle.std.proofs.lemmas.Bool.{cases_lt}
use Rattle.port_io.specs.Limits.{most_bytes}
use Rattle.port_io.specs.Pos.{pos_of}
use Rattle.v_syntax.specs.declared.token.Token.{Token}
use Rattle.v_syntax.specs.SourceTrees.{ModuleTree}
use Rattle.v_syntax.specs.Refusal.{IsSource, IsSyntaxAt, IsTooDeepAt, height_limit}
use Rattle.v_lex.specs.declared.directive.LexRule.{LexRule}
use Rattle.v_lex.specs.declared.directive.LexRule.TheVariants as lexical
use Rattle.v_lex.specs.declared.directive.BrokenRule.{BrokenRule}
use Rattle.v_lex.specs.Lexing.{Lexed, earlier, earliest}
use Rattle.v_lex.specs.Row.{Part, Reads, BreaksFirst, IsRowOf, told}
use Rattle.v_lex.proofs.RowLaws as rows
use Rattle.v_flat.specs.declared.scope.rule.Broken.{Broken}
use Rattle.v_flat.specs.Design.{Design, flatten}
use Rattle.v_expression.specs.Phrase.Stops.{Stop, Syntax, TooDeep}
use Rattle.v_parse.specs.Reading.{source_of}
use Rattle.v_parse.proofs.Source.{source_sound, source_again, source_syntax, source_deep}
use Rattle.v_design.specs.declared.rule.DesignRule.TheVariants as rule
use Rattle.v_design.specs.declared.fault.DesignRefusal.TheVariants as refusal
use Rattle.v_design.specs.Designs.{IsUnspelled, source_with}
use Rattle.v_design.specs.Answers.{HasAnswer}

-- ---- tokens

-- no modules within the height spell the tokens, and one is refused
abbrev IsRefusedToken : (List Token → ℕ → Type 0) → List Token → Type 0
IsRefusedToken A tokens = ((ms : List ModuleTree) → IsSource height_limit tokens ms → ⊥) × ((p : ℕ) × A tokens p)

abbrev Spelling : List Token → Type 0
Spelling tokens =
    ((ms : List ModuleTree) × IsSource height_limit tokens ms)
    ⊎ (IsRefusedToken IsSyntaxAt tokens ⊎ IsRefusedToken IsTooDeepAt tokens)

unread : (tokens : List Token) (s : Stop) → source_of 63 tokens ≡ Err s → (ms : List ModuleTree) → IsSource height_limit tokens ms → ⊥
unread tokens s e ms h =
    let no : (let x : Result (List ModuleTree) Stop = Err s in x) ≡ Ok ms = sym e ∙ source_again 63 tokens ms h in cc

spelling : (tokens : List Token) → Spelling tokens
spelling tokens = go (source_of 63 tokens) refl
  where
    go : (r : Result (List ModuleTree) Stop) → source_of 63 tokens ≡ r → Spelling tokens
    go (Ok ms) e = inl (ms, source_sound 63 tokens ms e)
    go (Err (Syntax left)) e = inr (inl (unread tokens (Syntax left) e, (length tokens - left, source_syntax tokens left e)))
    go (Err (TooDeep left)) e = inr (inr (unread tokens (TooDeep left) e, (length tokens - left, source_deep tokens left e)))

-- ---- texts

module _ (top : Option (List ℕ)) (text : List ℕ) (short : length text ≤ most_bytes) where
  module _ (read : Lexed) (reads : Reads text read) where
    unspelled : (A : List Token → ℕ → Type 0) (h : IsRefusedToken A read.tokens) → IsUnspelled A text (slice_index read.places h.1.0)
    unspelled A (none, (p, h)) = record { read = read; reads = reads; spells_none = none; token = p; refused = h; is = refl }

    elaborated : (ms : List ModuleTree) → IsSource height_limit read.tokens ms → HasAnswer top text
    elaborated ms h = go (flatten (source_with ms read) top) refl
      where
        go : (r : Result Design Broken) → flatten (source_with ms read) top ≡ r → HasAnswer top text
        go (Ok d) e =
            inl (source_with ms read, d, record { short = short; is_source = record { read = read; reads = reads; modules = ms; spells = h; is = refl }; is = e })
        go (Err b) e =
            inr (refusal.Broken (rule.Elaboration b.rule) (pos_of text b.place), (short, b.place, record { source = source_with ms read; is_source = record { read = read; reads = reads; modules = ms; spells = h; is = refl }; is = e }, refl))

    spelled : Spelling read.tokens → HasAnswer top text
    spelled (inl (ms, h)) = elaborated ms h
    spelled (inr (inl h)) =
        inr (refusal.Broken rule.Syntax (pos_of text (slice_index read.places h.1.0)), (short, slice_index read.places h.1.0, unspelled IsSyntaxAt h, refl))
    spelled (inr (inr h)) =
        inr (refusal.Broken rule.TooDeep (pos_of text (slice_index read.places h.1.0)), (short, slice_index read.places h.1.0, unspelled IsTooDeepAt h, refl))

  broken : (l : LexRule) (p : ℕ) → BreaksFirst text l p → HasAnswer top text
  broken lexical.BadByte p h = inr (refusal.Broken rule.BadByte (pos_of text p), (short, p, h, refl))
  broken lexical.BadNumber p h = inr (refusal.Broken rule.BadNumber (pos_of text p), (short, p, h, refl))
  broken lexical.UnclosedText p h = inr (refusal.Broken rule.UnclosedText (pos_of text p), (short, p, h, refl))
  broken lexical.Directive p h = inr (refusal.Broken rule.Directive (pos_of text p), (short, p, h, refl))

  by_row : (row : List Part) → IsRowOf row text → HasAnswer top text
  unfolding earliest
  by_row row is = go (told row).faults refl
    where
      first : (f : BrokenRule) (fs : List BrokenRule) (o : Option BrokenRule) → (told row).faults ≡ f ∷ fs → earliest fs ≡ o → HasAnswer top text
      first f fs None e n = broken f.rule f.place (row, is, ap earliest e ∙ ap (earlier (Some f)) n)
      first f fs (Some g) e n = order (nat_le f.place g.place) refl
        where
          order : (b : Bool) → nat_le f.place g.place ≡ b → HasAnswer top text
          order true o = broken f.rule f.place (row, is, ap earliest e ∙ ap (earlier (Some f)) n ∙ rw o refl)
          order false o = broken g.rule g.place (row, is, ap earliest e ∙ ap (earlier (Some f)) n ∙ rw o refl)

      go : (fs : List BrokenRule) → (told row).faults ≡ fs → HasAnswer top text
      go [] e = spelled _ (row, is, e, refl) (spelling _)
      go (f ∷ fs) e = first f fs (earliest fs) e refl

pub has_answer : (top : Option (List ℕ)) (text : List ℕ) → HasAnswer top text
has_answer top text = go (cases_lt most_bytes (length text))
  where
    go : (most_bytes < length text) ⊎ (length text ≤ most_bytes) → HasAnswer top text
    go (inl l) = inr (refusal.TooLong, l)
    go (inr l) = by_row top text l (rows.row text).parts (rows.row text).is
