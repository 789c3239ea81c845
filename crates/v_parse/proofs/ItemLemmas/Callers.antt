-- What a caller of the reader of items sees.
use Rattle.std.proofs.Common.{◌≡◌, ℕ, suc, true, false, List, Result, refl, sym, ◌∙◌}
use Rattle.std.specs.Prelude.{IfOk, IfErr}
use Rattle.v_syntax.specs.declared.token.Token.{Token}
use Rattle.v_syntax.specs.declared.word.Keyword.TheVariants as word
use Rattle.v_syntax.specs.SourceTrees.{ItemTree}
use Rattle.v_syntax.specs.Items.{item}
use Rattle.v_expression.specs.declared.phrase.read_error.ReadError.{ReadError}
use Rattle.v_expression.specs.Phrase.Stops.{Gives}
use Rattle.v_expression.specs.Phrase.Refusals.{IsRefusal, IsRead}
use Rattle.v_expression.specs.Phrase.Readers.{starts_word}
use Rattle.v_expression.specs.Phrase.Kinds.{kind_at, a_word}
use Rattle.v_expression.proofs.PhraseLemmas.Branches.{no_else}
use Rattle.v_expression.proofs.PhraseLemmas.KindLaws.{tells_word}
use Rattle.v_expression.proofs.PhraseLemmas.Callers as laws
use Rattle.v_parse.specs.Item.Reading.{item_of}
use Rattle.v_parse.proofs.ItemLemmas.Laws.{item_laws, item_missing}

-- before these tokens no `else` stands
ends : (rest : List Token) → starts_word word.Else rest ≡ false → no_else (kind_at rest) ≡ true
ends rest h = let k : a_word word.Else (kind_at rest) ≡ false = sym (tells_word word.Else rest) ∙ h in rw k refl

module _ (end room : ℕ) (here : List Token) {X : Type 0} (seen : X → ItemTree × List Token) (r : Result X ReadError) where
  pub item_found : Gives seen r (item_of end room here) → IfOk r (λ x. (item end (suc room)).whole (seen x).0 here (seen x).1)
  item_found g = laws.found (λ n. item_laws end n) room here seen r g

  pub item_only : Gives seen r (item_of end room here) → (x : ItemTree) (rest : List Token) → (item end (suc room)).whole x here rest → starts_word word.Else rest ≡ false
      → IsRead (λ y. ((seen y).0 ≡ x) × ((seen y).1 ≡ rest)) r
  item_only g x rest w h = laws.only (λ n. item_laws end n) room here seen r g x rest w (ends rest h)

  pub item_refused : Gives seen r (item_of end room here) → IfErr r (λ e. IsRefusal (λ n rest. (item end (suc n)).front here rest) room e)
  item_refused g = laws.refused (λ n. item_laws end n) room here seen (item_missing end room) r g
