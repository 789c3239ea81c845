use Rattle.std.proofs.Common.{◌≡◌, ℕ, List, ap, subst, ◌∙◌, map, Bor, Result, IfOk}
use Rattle.std.specs.Prelude.{string_bytes}
use Rattle.std.specs.List.{slice_split}
use Rattle.port_io.specs.declared.ports.NoMemory.{NoMemory}
use Rattle.table_rows.specs.Rows.{decimal, is_byte, part_at}
use Rattle.edge_tests.specs.Port.Lines.{numbers_text, sequence_text}
use Rattle.edge_tests.proofs.PortLemmas.NumberLaws.{of_words}
use Rattle.edge_tests.proofs.port.lines.sequence_text.Goals as goal

sequence_is : {T : Type 0} (bytes : T → List ℕ) (row part : List ℕ) (words items : List (Bor (List ℕ))) (numbers : List ℕ) (r : Result T NoMemory)
    → numbers ≡ map (λ word. decimal word.now) words → words ≡ items → map (λ word. word.now) items ≡ slice_split (is_byte 32) part
    → part ≡ part_at 2 row
    → IfOk r (λ text. bytes text ≡ numbers_text numbers) → IfOk r (λ text. bytes text ≡ sequence_text row)
sequence_is {T} bytes row part words items numbers r are same split is shows =
    let words_are : map (λ (word : Bor (List ℕ)). word.now) words ≡ slice_split (is_byte 32) (part_at 2 row) =
    ap (λ (ws : List (Bor (List ℕ))). map (λ (word : Bor (List ℕ)). word.now) ws) same ∙ split
    ∙ ap (λ (l : List ℕ). slice_split (is_byte 32) l) is in
    subst (λ (ns : List ℕ). IfOk r (λ (text : T). bytes text ≡ numbers_text ns))
    (are ∙ of_words decimal words ∙ ap (λ (ws : List (List ℕ)). map decimal ws) words_are) shows

pub returns : goal.returns
returns c =
    sequence_is string_bytes c.args.row.now c.part.result.now c.deref.result.now c.in_ok-words.words.items c.in_ok-numbers.numbers c.numbers_text.result
    c.in_ok-numbers.ensures c.deref.ensures.value c.in_ok-words.ensures c.part.ensures c.numbers_text.ensures
