use Rattle.std.proofs.Common.{◌≡◌, ℕ, List, take, codes, ap, ◌∙◌, Option, Some, option_map, Result, Ok, Err, IfOk, IfSome}
use Rattle.std.specs.Prelude.{string_bytes}
use Rattle.port_io.specs.Reading.{OverFolder}
use Rattle.port_io.specs.declared.ports.NoMemory.{NoMemory}
use Rattle.table_rows.specs.Rows.{decimal as number, part_at}
use Rattle.table_rows.specs.Shown.{latin}
use Rattle.edge_tests.specs.Port.Files.{ShowsFolder, bytes_text}
use Rattle.edge_tests.specs.declared.port.files.OneFile.{OneFile}
use Rattle.edge_tests.specs.declared.port.files.Piecewise.{Piecewise}
use Rattle.edge_tests.proofs.PortLemmas.FolderLaws.{named}
use Rattle.edge_tests.proofs.port.files.folder_text.Goals as goal

shown : {T : Type 0} (bytes_of : T → List ℕ) (name : List ℕ) (most : ℕ) (bytes : Option (List ℕ)) (r : Result T NoMemory)
    → IfSome bytes (λ first. (name ≡ codes "t.py") × (first ≡ take most (codes "import")))
    → IfOk r (λ text. bytes_of text ≡ bytes_text bytes) → IfOk r (λ text. ShowsFolder name most (bytes_of text))
shown bytes_of name most bytes (Err no_memory) given shows = tt
shown bytes_of name most bytes (Ok text) given shows = record { bytes = bytes; given = given; shows = shows }

pub returns : goal.returns
returns c =
    let is_text : c.over-store.result.folder.text.now ≡ codes "import" = ap (λ (store : OverFolder OneFile). store.folder.text.now) c.over-store.ensures in
    shown string_bytes (latin (part_at 2 c.args.row.now)) (number (part_at 5 c.args.row.now)) (option_map (λ b. b.items) c.in_ok-bytes.bytes)
    c.bytes_text.result
    (named _ _ _ (λ (file : Piecewise). Some file.text.now) c.over-store.result c.read.new.store c.deref.result.now
    (latin (part_at 2 c.args.row.now)) (codes "t.py") (codes "import") c.number-3.result (number (part_at 5 c.args.row.now))
    (option_map (λ b. b.items) c.in_ok-bytes.bytes)
    (λ file o. (o.0, ap (λ (l : List ℕ). Some l) (o.1 ∙ is_text))) (c.deref.ensures ∙ c.in_ok-name.ensures) c.number-3.ensures c.in_ok-bytes.ensures.reads)
    c.bytes_text.ensures
