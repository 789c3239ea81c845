-- What is read of a whole text, and which token of a refused one is told.
use Rattle.std.proofs.Common.{◌≡◌, ℕ, zero, suc, ◌+◌, ◌-◌, ◌≤◌, true, List, [], length, drop, Ok, Err, refl, sym, subst, ◌∙◌, arith, inl, inr}
use Rattle.v_syntax.specs.declared.token.Token.{Token}
use Rattle.v_syntax.specs.declared.word.Keyword.TheVariants as word
use Rattle.v_syntax.specs.Phrases.{Phrase}
use Rattle.v_syntax.specs.SourceTrees.{ModuleTree}
use Rattle.v_syntax.specs.Sources.{source}
use Rattle.v_syntax.specs.Refusal.{IsSource, Reaches, IsRefused, IsSyntaxAt, IsTooDeepAt}
use Rattle.v_expression.specs.Phrase.Stops.{Stop, Syntax, TooDeep}
use Rattle.v_expression.specs.Phrase.Readers.{to_the_end}
use Rattle.v_expression.specs.Phrase.Kinds.{any_kind, a_word, without}
use Rattle.v_expression.proofs.PhraseLemmas.Laws.{left, Laws}
use Rattle.v_expression.proofs.PhraseLemmas.Ending.{ReachesTo, all_found, all_read, reaches_before, reaches_no_further, reaches_above, never_reached}
use Rattle.v_expression.proofs.PhraseLemmas.Ending as whole
use Rattle.v_parse.specs.Reading.{modules_of, source_of}
use Rattle.v_parse.proofs.ModuleLaws.{source_laws}
use Rattle.v_parse.proofs.Lowest.{source_below}

module _ (text : List Token) where
  abbrev P : ℕ → Phrase Token (List ModuleTree)
  P m = source (length text) (suc m)

  laws : (n : ℕ) → 0 ≤ n → Laws n P (a_word word.Module) true (without any_kind (a_word word.Module)) (λ m. modules_of (length text) m)
  laws n h = source_laws (length text) n

  read_all : (room : ℕ) → source_of room text ≡ to_the_end (modules_of (length text) room) text
  unfolding source_of
  read_all room = refl

  module _ (room : ℕ) where
    pub source_found : (ms : List ModuleTree) → source_of room text ≡ Ok ms → IsSource (suc room) text ms
    source_found ms h = all_found P _ _ _ (λ m. modules_of (length text) m) 0 laws refl room (omega arith) text ms (sym (read_all room) ∙ h)

    pub source_only : (ms : List ModuleTree) → IsSource (suc room) text ms → source_of room text ≡ Ok ms
    source_only ms w = read_all room ∙ all_read P _ _ _ (λ m. modules_of (length text) m) 0 laws refl room (omega arith) text ms w

  abbrev place_of : ℕ → ℕ
  place_of k = length text - k

  -- ---- refusals within the limit

  module _ (k : ℕ) where
    refused_at : (stop : Stop) → left stop ≡ k → source_of 63 text ≡ Err stop → IsRefused text (place_of k)
    refused_at stop e h = subst (λ j. IsRefused text (place_of j)) e (
      reaches_before P _ _ _ (λ m. modules_of (length text) m) 0 laws refl 63 (omega arith) text stop tt (sym (read_all 63) ∙ h),
      reaches_no_further P _ _ _ (λ m. modules_of (length text) m) 0 laws refl 63 (omega arith) text stop tt (sym (read_all 63) ∙ h),
    )

    -- a text that is spelled through a token at some height is so at a greater one
    from_one : (limit i : ℕ) → Reaches limit text i → (m : ℕ) × ReachesTo (P m) text i
    from_one zero i (inl (a, f)) = (0, inl (a, (source_below (length text)).front text (drop (i + 1) text) f))
    from_one zero i (inr (a, x, w)) = (0, inr (a, x, (source_below (length text)).whole x text [] w))
    from_one (suc m) i r = (m, r)

    pub syntax_refused : source_of 63 text ≡ Err (Syntax k) → IsSyntaxAt text (place_of k)
    syntax_refused h = (
      refused_at (Syntax k) refl h,
      λ limit r. let d = from_one limit (place_of k) r in never_reached P _ _ _ (λ m. modules_of (length text) m) 0 laws refl 63 k (omega arith) text tt (sym (read_all 63) ∙ h) d.0 (omega arith) d.1,
    )

    pub deep_refused : source_of 63 text ≡ Err (TooDeep k) → IsTooDeepAt text (place_of k)
    deep_refused h =
        let d = reaches_above P _ _ _ (λ m. modules_of (length text) m) 0 laws refl 63 (omega arith) text k tt (sym (read_all 63) ∙ h) in
        (refused_at (TooDeep k) refl h, (suc d.0, d.1))

-- a text has at most one tree
pub one_source : (n m : ℕ) (text : List Token) (a b : List ModuleTree) → IsSource n text a → IsSource m text b → a ≡ b
one_source n m text a b v w = let x = at_one n a v in let y = at_one m b w in whole.one_tree (P text) _ _ _ (λ m. modules_of (length text) m) 0 (laws text) refl x.0 y.0 (omega arith) (omega arith) a b text x.1 y.1
  where
    at_one : (n : ℕ) (a : List ModuleTree) → IsSource n text a → (m : ℕ) × IsSource (suc m) text a
    at_one zero a v = (0, (source_below (length text)).whole a text [] v)
    at_one (suc m) a v = (m, v)
