-- What a folder's reader gives, where it tells what it has left.
use Rattle.std.proofs.Common.{◌≡◌, ℕ, List, Option, None, Some, take, IfSome, refl, ap, sym, subst, ◌∙◌, arith, inl, inr}
use Rattle.std.specs.Io.KnownBytes.{Consumes}
use Rattle.port_io.specs.Reading.{FolderGives, FolderMisses, GivesFirst, GivesKnown, OverFolder}
use Rattle.port_io.specs.ReadingLaws.{each_left, end_taken, wanted_taken}
use Rattle.edge_tests.specs.Port.Files.{Reads}

-- a reader gives the front of what it has left
abbrev pub known : {R : Type 0} → (R → Option (List ℕ)) → R → ℕ → List ℕ → R → Type 0
known left before room bytes after = GivesKnown (left before) (left after) room bytes

-- the first bytes that are given are the first of what was left
pub first_given : {R : Type 0} (left : R → Option (List ℕ)) (before : R) (most : ℕ) (bytes : List ℕ) (after : R)
    → GivesFirst (known left) before most bytes after → IfSome (left before) (λ l. bytes ≡ take most l)
first_given {R} left before most bytes after g =
    let each = each_left (known left) left (λ r room piece r' given. given.taken) (λ r room r' given some. given.at_end refl some) before g.pieces g.mid g.each in
    let taken = subst (λ (l : List ℕ). Consumes (left before) (left g.mid) l) (sym g.is) each in
    elim g.ends [
      | inl e ↦ wanted_taken (left before) (left g.mid) bytes most taken e.0
      | inr e ↦
          end_taken (left before) (left g.mid) (left after) bytes most taken e.1.2.taken (e.1.2.at_end refl e.1.1) (omega (arith, e.0))
    ]

-- a read of a folder whose one file has this text gives the first bytes of that
pub named : {D R : Type 0} (opens : D → List ℕ → R → Type 0) (lacks : D → List ℕ → Type 0) (fails : R → R → Type 0) (left : R → Option (List ℕ))
    (store after : OverFolder D) (name own one text : List ℕ) (most limit : ℕ) (bytes : Option (List ℕ))
    → ((file : R) → opens store.folder name file → (name ≡ one) × (left file ≡ Some text)) → name ≡ own → most ≡ limit
    → Reads (FolderGives opens lacks (known left) fails) (FolderMisses opens lacks (known left) fails) store name most bytes after
    → IfSome bytes (λ first. (own ≡ one) × (first ≡ take limit text))
named opens lacks fails left store after name own one text most limit None opened is_name is_most reads = tt
named opens lacks fails left store after name own one text most limit (Some bytes) opened is_name is_most reads =
    let given = reads.given in
    let o = opened given.0 given.2 in
    let first = subst (λ (l : Option (List ℕ)). IfSome l (λ x. bytes ≡ take most x)) o.1 (first_given left given.0 most bytes given.1 given.3) in
    (sym is_name ∙ o.0, first ∙ ap (λ (n : ℕ). take n text) is_most)
