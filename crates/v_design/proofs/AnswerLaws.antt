-- A text has one answer.
use Rattle.std.proofs.Common.{◌≡◌, map, ℕ, ◌<◌, List, [], ◌∷◌, length, Option, None, Some, Result, Ok, Err, ap, sym, subst, ◌∙◌, refl, arith, ◌⊎◌, inl, inr, unwrap_or, ◌++◌}
use Rattle.std.proofs.lemmas.Bool.{cases_order}
use Rattle.std.specs.Prelude.{slice_index}
use Rattle.port_io.specs.Pos.{pos_of}
use Rattle.port_io.specs.declared.pos.Pos.{Pos}
use Rattle.v_syntax.specs.declared.token.Token.{Token}
use Rattle.v_syntax.specs.SourceTrees.{ModuleTree}
use Rattle.v_syntax.specs.Refusal as refusals
use Rattle.v_syntax.specs.Refusal.{IsSource, Reaches, IsSyntaxAt, IsTooDeepAt, height_limit}
use Rattle.v_lex.specs.declared.directive.LexRule.{LexRule}
use Rattle.v_lex.specs.declared.directive.LexRule.TheVariants as lexical
use Rattle.v_lex.specs.declared.directive.BrokenRule.{BrokenRule}
use Rattle.v_lex.specs.Lexing.{Lexed, earliest, start, nanosecond, at_modules}
use Rattle.v_lex.specs.Row.{Part, Reads, BreaksFirst, told}
use Rattle.v_lex.proofs.RowLaws.{one_row}
use Rattle.v_flat.specs.declared.scope.rule.ElabRule.{ElabRule}
use Rattle.v_flat.specs.declared.scope.rule.Broken.{Broken}
use Rattle.v_flat.specs.Scope.Rules.{at}
use Rattle.v_flat.specs.Design.{Design, SourceText, flatten}
use Rattle.v_flat.specs.Paths.{signal_of, node_of}
use Rattle.gpi.specs.declared.design.Flat.{Flat}
use Rattle.v_design.specs.Answers.{AreAlike}
use Rattle.v_parse.proofs.Source.{one_source}
use Rattle.v_design.specs.declared.rule.DesignRule.{DesignRule}
use Rattle.v_design.specs.declared.rule.DesignRule.TheVariants as rule
use Rattle.v_design.specs.declared.fault.DesignRefusal.{DesignRefusal}
use Rattle.v_design.specs.declared.fault.DesignRefusal.TheVariants as refusal
use Rattle.v_design.specs.Designs.{IsSourceOf, IsUnspelled, IsBroken, BreaksAt, IsRefused, IsDesign, Means, source_with}

-- ---- tokens and modules

lexed_of : List ℕ → List Part → Lexed
lexed_of text row = record {
  tokens = (told row).tokens;
  places = (told row).places ++ length text ∷ [];
  units = at_modules (told row).tokens (told row).units;
  unit = (told row).last.unit;
  step = unwrap_or (told row).last.step nanosecond;
}

one_reading : (text : List ℕ) (a b : Lexed) → Reads text a → Reads text b → a ≡ b
unfolding lexed_of
one_reading text a b (row, is, none, e) (other, is', none', e') =
    e ∙ ap (λ (parts : List Part). lexed_of text parts) (one_row start 0 row other text is is') ∙ sym e'

one_source_text : (text : List ℕ) (a b : SourceText) → IsSourceOf text a → IsSourceOf text b → a ≡ b
one_source_text text a b h k =
    let r : h.read ≡ k.read = one_reading text h.read k.read h.reads k.reads in
    let m : h.modules ≡ k.modules =
    one_source height_limit height_limit h.read.tokens h.modules k.modules h.spells
    (subst (λ (l : Lexed). IsSource height_limit l.tokens k.modules) (sym r) k.spells) in
    h.is ∙ ap (λ (ms : List ModuleTree). source_with ms h.read) m ∙ ap (λ (l : Lexed). source_with k.modules l) r ∙ sym k.is

-- ---- broken rules of the bytes

rule_or : LexRule → Option BrokenRule → LexRule
rule_or l None = l
rule_or l (Some b) = b.rule

place_or : Option BrokenRule → ℕ
place_or None = 0
place_or (Some b) = b.place

one_broken : (text : List ℕ) (l m : LexRule) (p q : ℕ) → BreaksFirst text l p → BreaksFirst text m q → (l ≡ m) × (p ≡ q)
unfolding rule_or place_or
one_broken text l m p q (row, is, e) (other, is', e') =
    let same : earliest (told row).faults ≡ earliest (told other).faults =
    ap (λ (parts : List Part). earliest (told parts).faults) (one_row start 0 row other text is is') in
    let all : (let x : Option BrokenRule = Some (record { rule = l; place = p }) in x) ≡ Some (record { rule = m; place = q }) = sym e ∙ same ∙ e' in
    (ap (λ (o : Option BrokenRule). rule_or l o) all, ap (λ (o : Option BrokenRule). place_or o) all)

none_earliest : earliest [] ≡ None
unfolding earliest
none_earliest = refl

not_read : (text : List ℕ) (l : LexRule) (p : ℕ) (read : Lexed) → BreaksFirst text l p → Reads text read → ⊥
not_read text l p read (row, is, e) (other, is', none, e') =
    let same : earliest (told row).faults ≡ earliest (told other).faults =
    ap (λ (parts : List Part). earliest (told parts).faults) (one_row start 0 row other text is is') in
    let all : (let x : Option BrokenRule = Some (record { rule = l; place = p }) in x) ≡ None =
    sym e ∙ same ∙ ap (λ (fs : List BrokenRule). earliest fs) none ∙ none_earliest in
    cc

-- ---- refused tokens

one_least : (tokens : List Token) (p q : ℕ) → refusals.IsRefused tokens p → refusals.IsRefused tokens q → p ≡ q
one_least tokens p q h k = go (cases_order p q)
  where
    go : (p ≡ q) ⊎ ((p < q) ⊎ (q < p)) → p ≡ q
    go (inl e) = e
    go (inr (inl l)) = absurd (h.1 (k.0 p l))
    go (inr (inr l)) = absurd (k.1 (h.0 q l))

module _ {A B : List Token → ℕ → Type 0} (least : (tokens : List Token) (p : ℕ) → A tokens p → refusals.IsRefused tokens p)
    (least' : (tokens : List Token) (p : ℕ) → B tokens p → refusals.IsRefused tokens p) (text : List ℕ) (p q : ℕ)
    (h : IsUnspelled A text p) (k : IsUnspelled B text q) where
  one_read : h.read ≡ k.read
  one_read = one_reading text h.read k.read h.reads k.reads

  one_token : h.token ≡ k.token
  one_token =
      one_least k.read.tokens h.token k.token
      (subst (λ (l : Lexed). refusals.IsRefused l.tokens h.token) one_read (least h.read.tokens h.token h.refused))
      (least' k.read.tokens k.token k.refused)

  one_byte : p ≡ q
  one_byte =
      h.is ∙ ap (λ (l : Lexed). slice_index l.places h.token) one_read ∙ ap (λ (n : ℕ). slice_index k.read.places n) one_token ∙ sym k.is

syntax_least : (tokens : List Token) (p : ℕ) → IsSyntaxAt tokens p → refusals.IsRefused tokens p
syntax_least tokens p h = h.0

deep_least : (tokens : List Token) (p : ℕ) → IsTooDeepAt tokens p → refusals.IsRefused tokens p
deep_least tokens p h = h.0

not_deep : (text : List ℕ) (p q : ℕ) → IsUnspelled IsSyntaxAt text p → IsUnspelled IsTooDeepAt text q → ⊥
not_deep text p q h k =
    let token : h.token ≡ k.token = one_token syntax_least deep_least text p q h k in
    let read : h.read ≡ k.read = one_read syntax_least deep_least text p q h k in
    h.refused.1 k.refused.1.0
    (subst (λ (n : ℕ). Reaches k.refused.1.0 h.read.tokens n) (sym token)
    (subst (λ (l : Lexed). Reaches k.refused.1.0 l.tokens k.token) (sym read) k.refused.1.1))

not_spelled : (A : List Token → ℕ → Type 0) (text : List ℕ) (p : ℕ) (source : SourceText) → IsUnspelled A text p → IsSourceOf text source → ⊥
not_spelled A text p source h k =
    h.spells_none k.modules
    (subst (λ (l : Lexed). IsSource height_limit l.tokens k.modules) (sym (one_reading text h.read k.read h.reads k.reads)) k.spells)

-- ---- broken rules of elaboration

broken_or : Broken → Result Design Broken → Broken
broken_or b (Ok d) = b
broken_or b (Err e) = e

design_or : Design → Result Design Broken → Design
design_or d (Ok e) = e
design_or d (Err b) = d

one_elaborated : (top : Option (List ℕ)) (text : List ℕ) (r s : ElabRule) (p q : ℕ) → IsBroken top text r p → IsBroken top text s q → (r ≡ s) × (p ≡ q)
unfolding broken_or
one_elaborated top text r s p q h k =
    let same : h.source ≡ k.source = one_source_text text h.source k.source h.is_source k.is_source in
    let all : (let x : Result Design Broken = Err (at r p) in x) ≡ Err (at s q) =
    sym h.is ∙ ap (λ (t : SourceText). flatten t top) same ∙ k.is in
    let e : at r p ≡ at s q = ap (λ (x : Result Design Broken). broken_or (at r p) x) all in
    (ap (λ (b : Broken). b.rule) e, ap (λ (b : Broken). b.place) e)

pub one_design : (top : Option (List ℕ)) (text : List ℕ) (a b : SourceText) (d e : Design) → Means top text a d → Means top text b e → (a ≡ b) × (d ≡ e)
unfolding design_or
one_design top text a b d e h k =
    let same : a ≡ b = one_source_text text a b h.is_source k.is_source in
    let all : (let x : Result Design Broken = Ok d in x) ≡ Ok e = sym h.is ∙ ap (λ (t : SourceText). flatten t top) same ∙ k.is in
    (same, ap (λ (x : Result Design Broken). design_or d x) all)

-- ---- all rules

rule_of : LexRule → DesignRule
rule_of lexical.BadByte = rule.BadByte
rule_of lexical.BadNumber = rule.BadNumber
rule_of lexical.UnclosedText = rule.UnclosedText
rule_of lexical.Directive = rule.Directive

-- a broken rule by its part: the bytes, the tokens, or the modules
abbrev Cause : Option (List ℕ) → DesignRule → List ℕ → ℕ → Type 0
Cause top r text p =
    ((l : LexRule) × (r ≡ rule_of l) × BreaksFirst text l p)
    ⊎ (((r ≡ rule.Syntax) × IsUnspelled IsSyntaxAt text p)
    ⊎ (((r ≡ rule.TooDeep) × IsUnspelled IsTooDeepAt text p)
    ⊎ ((e : ElabRule) × (r ≡ rule.Elaboration e) × IsBroken top text e p)))

cause : (top : Option (List ℕ)) (r : DesignRule) (text : List ℕ) (p : ℕ) → BreaksAt top r text p → Cause top r text p
unfolding rule_of
cause top rule.BadByte text p h = inl (lexical.BadByte, refl, h)
cause top rule.BadNumber text p h = inl (lexical.BadNumber, refl, h)
cause top rule.UnclosedText text p h = inl (lexical.UnclosedText, refl, h)
cause top rule.Directive text p h = inl (lexical.Directive, refl, h)
cause top rule.Syntax text p h = inr (inl (refl, h))
cause top rule.TooDeep text p h = inr (inr (inl (refl, h)))
cause top (rule.Elaboration e) text p h = inr (inr (inr (e, refl, h)))

one_cause : (top : Option (List ℕ)) (text : List ℕ) (r s : DesignRule) (p q : ℕ) → Cause top r text p → Cause top s text q → (r ≡ s) × (p ≡ q)
one_cause top text r s p q (inl (l, e, h)) (inl (m, f, k)) =
    let o : (l ≡ m) × (p ≡ q) = one_broken text l m p q h k in
    (e ∙ ap (λ (x : LexRule). rule_of x) o.0 ∙ sym f, o.1)
one_cause top text r s p q (inl (l, e, h)) (inr (inl (f, k))) = absurd (not_read text l p k.read h k.reads)
one_cause top text r s p q (inl (l, e, h)) (inr (inr (inl (f, k)))) = absurd (not_read text l p k.read h k.reads)
one_cause top text r s p q (inl (l, e, h)) (inr (inr (inr (x, f, k)))) = absurd (not_read text l p k.is_source.read h k.is_source.reads)
one_cause top text r s p q (inr (inl (e, h))) (inl (m, f, k)) = absurd (not_read text m q h.read k h.reads)
one_cause top text r s p q (inr (inl (e, h))) (inr (inl (f, k))) = (e ∙ sym f, one_byte syntax_least syntax_least text p q h k)
one_cause top text r s p q (inr (inl (e, h))) (inr (inr (inl (f, k)))) = absurd (not_deep text p q h k)
one_cause top text r s p q (inr (inl (e, h))) (inr (inr (inr (x, f, k)))) = absurd (not_spelled IsSyntaxAt text p k.source h k.is_source)
one_cause top text r s p q (inr (inr (inl (e, h)))) (inl (m, f, k)) = absurd (not_read text m q h.read k h.reads)
one_cause top text r s p q (inr (inr (inl (e, h)))) (inr (inl (f, k))) = absurd (not_deep text q p k h)
one_cause top text r s p q (inr (inr (inl (e, h)))) (inr (inr (inl (f, k)))) = (e ∙ sym f, one_byte deep_least deep_least text p q h k)
one_cause top text r s p q (inr (inr (inl (e, h)))) (inr (inr (inr (x, f, k)))) = absurd (not_spelled IsTooDeepAt text p k.source h k.is_source)
one_cause top text r s p q (inr (inr (inr (x, e, h)))) (inl (m, f, k)) = absurd (not_read text m q h.is_source.read k h.is_source.reads)
one_cause top text r s p q (inr (inr (inr (x, e, h)))) (inr (inl (f, k))) = absurd (not_spelled IsSyntaxAt text q h.source k h.is_source)
one_cause top text r s p q (inr (inr (inr (x, e, h)))) (inr (inr (inl (f, k)))) = absurd (not_spelled IsTooDeepAt text q h.source k h.is_source)
one_cause top text r s p q (inr (inr (inr (x, e, h)))) (inr (inr (inr (y, f, k)))) =
    let o : (x ≡ y) × (p ≡ q) = one_elaborated top text x y p q h k in
    (e ∙ ap (λ (z : ElabRule). rule.Elaboration z) o.0 ∙ sym f, o.1)

-- ---- refusals

pub one_refusal : (top : Option (List ℕ)) (text : List ℕ) (a b : DesignRefusal) → IsRefused top a text → IsRefused top b text → a ≡ b
one_refusal top text refusal.TooLong refusal.TooLong h k = refl
one_refusal top text refusal.TooLong (refusal.Broken s o) h k = absurd (omega (arith, h, k.0))
one_refusal top text (refusal.Broken r n) refusal.TooLong h k = absurd (omega (arith, h.0, k))
one_refusal top text (refusal.Broken r n) (refusal.Broken s o) (_, p, h, i) (_, q, k, j) =
    let same : (r ≡ s) × (p ≡ q) = one_cause top text r s p q (cause top r text p h) (cause top s text q k) in
    ap (λ (x : DesignRule). refusal.Broken x n) same.0
    ∙ ap (λ (x : Pos). refusal.Broken s x) (i ∙ ap (λ (x : ℕ). pos_of text x) same.1 ∙ sym j)

not_broken : (top : Option (List ℕ)) (text : List ℕ) (source : SourceText) (design : Design) (r : DesignRule) (p : ℕ) → Means top text source design → Cause top r text p → ⊥
not_broken top text source design r p h (inl (l, e, k)) = not_read text l p h.is_source.read k h.is_source.reads
not_broken top text source design r p h (inr (inl (e, k))) = not_spelled IsSyntaxAt text p source k h.is_source
not_broken top text source design r p h (inr (inr (inl (e, k)))) = not_spelled IsTooDeepAt text p source k h.is_source
not_broken top text source design r p h (inr (inr (inr (x, e, k)))) =
    let same : source ≡ k.source = one_source_text text source k.source h.is_source k.is_source in
    let all : (let y : Result Design Broken = Ok design in y) ≡ Err (at x p) = sym h.is ∙ ap (λ (t : SourceText). flatten t top) same ∙ k.is in
    cc

pub apart : (top : Option (List ℕ)) (text : List ℕ) (source : SourceText) (design : Design) (b : DesignRefusal) → Means top text source design → IsRefused top b text → ⊥
apart top text source design refusal.TooLong h k = omega (arith, h.short, k)
apart top text source design (refusal.Broken r n) h (_, p, k, j) = not_broken top text source design r p h (cause top r text p k)

pub alike : (top : Option (List ℕ)) (text : List ℕ) (a b : Flat) → IsDesign top text a → IsDesign top text b → AreAlike a b
alike top text a b h k =
    let same : (h.source ≡ k.source) × (h.design ≡ k.design) = one_design top text h.source k.source h.design k.design h.means k.means in
    let d : h.design ≡ k.design = same.1 in
    record {
      signals = h.stands.signals ∙ ap (λ (x : Design). map signal_of x.signals) d ∙ sym k.stands.signals;
      nodes = h.stands.nodes ∙ ap (λ (x : Design). map node_of x.nodes) d ∙ sym k.stands.nodes;
      processes = h.stands.processes ∙ ap (λ (x : Design). x.processes) d ∙ sym k.stands.processes;
      step = h.stands.step ∙ ap (λ (s : SourceText). s.step_fs) same.0 ∙ sym k.stands.step;
    }
