-- A text has an answer.
use Rattle.std.proofs.Common.{◌≡◌, ℕ, ◌≤◌, ◌<◌, List, [], length, Option, None, Some, Result, Ok, Err, refl, sym, subst, ◌⊎◌, inl, inr}
use Rattle.std.proofs.lemmas.Bool.{cases_lt}
use Rattle.port_io.specs.Limits.{most_bytes}
use Rattle.py_syntax.specs.BlockTrees.{ModuleItem}
use Rattle.py_syntax.specs.Line.{Line}
use Rattle.py_syntax.specs.Logical.{first_broken, lines_of}
use Rattle.py_syntax.specs.Modules.{module_lines}
use Rattle.py_syntax.specs.Outline.{AreWithinLimits, Placed, Refusal, Refused, SpellsOutline, at_start, bad_line, no_block, too_deep}
use Rattle.py_syntax.specs.Places.{first_place}
use Rattle.py_syntax.specs.Spelled.{IsSpelled}
use Rattle.py_syntax.specs.declared.piece.Broken.{Broken}
use Rattle.py_syntax.specs.declared.piece.LineRule.{LineRule}
use Rattle.py_syntax.specs.declared.piece.LineRule.TheVariants as lines
use Rattle.py_syntax.specs.declared.piece.Piece.{Piece}
use Rattle.py_syntax.proofs.Stands.{spelled}
use Rattle.py_lex.proofs.Pieces.{made}
use Rattle.py_parse.specs.Nesting.{module_of}
use Rattle.py_parse.specs.Reading.{outline_onto}
use Rattle.py_parse.proofs.Back.{are_items}
use Rattle.py_parse.proofs.Flat.{module_lines_are}
use Rattle.py_parse.proofs.Follow.{text_follows}
use Rattle.py_parse.proofs.OutlineLaws.{outline_refused, outline_sound}
use Rattle.test_meaning.specs.Body.BodyTrees.{TestFile}
use Rattle.test_meaning.specs.Check.{check}
use Rattle.test_meaning.specs.declared.rules.rule.Refusal as broken
use Rattle.test_file.specs.Text.Tests.{BreaksLines, HasAnswer, HasLines, IsModuleOf}
use Rattle.test_file.specs.declared.text.fault.TestsRefusal.TheVariants as refusal
use Rattle.test_file.specs.declared.text.rule.TestsRule.TheVariants as rule

module _ (text : List ℕ) (short : length text ≤ most_bytes) where
  of_module : (items : List ModuleItem) → IsModuleOf text items → HasAnswer text
  of_module items h = go (check items) refl
    where
      go : (r : Result TestFile broken.Refusal) → check items ≡ r → HasAnswer text
      go (Ok f) e = inl (f, record { short = short; items = items; is_module = h; is = e })
      go (Err b) e = inr (refusal.Broken (rule.File b.rule) b.line.0, (short, record { items = items; is_module = h; is = e }))

  module _ (ls : List Line) (has : HasLines text ls) where
    of_outline : (ps : List Placed) → SpellsOutline at_start ps ls → AreWithinLimits ps → HasAnswer text
    of_outline ps s w =
        let e : module_lines (module_of ps) ≡ ps = module_lines_are ps (text_follows ps ls s) in
        of_module (module_of ps)
        (record { lines = ls; has = has; spells = (are_items ps, subst (λ (qs : List Placed). SpellsOutline at_start qs ls) (sym e) s); is_within = subst (λ (qs : List Placed). AreWithinLimits qs) (sym e) w })

    of_refusal : (r : Refusal) → Refused at_start ls r → HasAnswer text
    of_refusal (bad_line n) h = inr (refusal.Broken rule.BadLine n, (short, record { lines = ls; has = has; refused = h }))
    of_refusal (no_block n) h = inr (refusal.Broken rule.NoBlock n, (short, record { lines = ls; has = has; refused = h }))
    of_refusal (too_deep n) h = inr (refusal.Broken rule.TooDeep n, (short, record { lines = ls; has = has; refused = h }))

    of_lines : HasAnswer text
    of_lines = go (outline_onto [] at_start ls) refl
      where
        go : (r : Result (List Placed) Refusal) → outline_onto [] at_start ls ≡ r → HasAnswer text
        go (Ok qs) e = let (ps, is, s, w) = outline_sound ls [] qs at_start e in of_outline ps s w
        go (Err r) e = of_refusal r (outline_refused ls [] at_start r e)

  of_broken : (l : LineRule) (n : ℕ) → BreaksLines text l n → HasAnswer text
  of_broken lines.Tab n h = inr (refusal.Broken rule.Tab n, (short, h))
  of_broken lines.Dedent n h = inr (refusal.Broken rule.Dedent n, (short, h))
  of_broken lines.UnclosedText n h = inr (refusal.Broken rule.UnclosedText n, (short, h))
  of_broken lines.BadByte n h = inr (refusal.Broken rule.BadByte n, (short, h))

  of_pieces : (ps : List Piece) → IsSpelled first_place ps text → HasAnswer text
  of_pieces ps s = go (first_broken ps) refl
    where
      go : (o : Option Broken) → first_broken ps ≡ o → HasAnswer text
      go None e = of_lines (lines_of ps) (record { pieces = ps; spells = s; breaks_none = e; are = refl })
      go (Some b) e = of_broken b.rule b.line.0 (record { pieces = ps; spells = s; breaks = e })

pub has_answer : (text : List ℕ) → HasAnswer text
has_answer text = go (cases_lt most_bytes (length text))
  where
    go : (most_bytes < length text) ⊎ (length text ≤ most_bytes) → HasAnswer text
    go (inl l) = inr (refusal.TooLong, l)
    go (inr l) = let m = made first_place text in of_pieces text l m.pieces (spelled first_place text m.pieces tt m.is)
