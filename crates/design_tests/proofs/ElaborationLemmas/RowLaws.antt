-- What a row comes to.
use Rattle.std.proofs.Common.{◌≡◌, ℕ, List, Option, Result, Ok, Err, IfOk, subst}
use Rattle.gpi.specs.declared.design.Flat.{Flat}
use Rattle.port_io.specs.declared.ports.NoMemory.{NoMemory}
use Rattle.table_rows.specs.Rows.{part_at, written}
use Rattle.design_tests.specs.Elaboration.Designs.{IsDesignOf}
use Rattle.design_tests.specs.Elaboration.Rows.{ShowsFound, ShowsRow, is_rule, top_of}
use Rattle.design_tests.specs.declared.elaboration.designs.Refusal.{Refusal}

-- what is shown of what was found in a row's text is what the row comes to
pub row_shown : {T : Type 0} (bytes : T → List ℕ) (row text : List ℕ) (top : Option (List ℕ)) (found known : Result Flat Refusal) (r : Result T NoMemory)
    → found ≡ known → text ≡ written (part_at 3 row) → top ≡ top_of row → IsDesignOf text top found
    → IfOk r (λ shown. ShowsFound (is_rule row) known (part_at 4 row) (bytes shown)) → IfOk r (λ shown. ShowsRow row (bytes shown))
row_shown {T} bytes row text top found known (Err no_memory) e is_text is_top is shows = tt
row_shown {T} bytes row text top found known (Ok shown) e is_text is_top is shows = record {
  design = known;
  is_design =
      subst (λ (d : Result Flat Refusal). IsDesignOf (written (part_at 3 row)) (top_of row) d) e
      (subst (λ (name : Option (List ℕ)). IsDesignOf (written (part_at 3 row)) name found) is_top
      (subst (λ (t : List ℕ). IsDesignOf t top found) is_text is));
  shows = shows;
}
