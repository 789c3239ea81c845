-- Names that nothing in an instance has.
use Rattle.std.proofs.Common.{◌≡◌, ◌&&◌, ◌||◌, ℕ, Bool, true, false, not, List, [], ◌∷◌, ◌++◌, map, Option, Some, None, is_none, is_some, bytes_eq, if◌then◌else◌, refl, sym, ap, ◌∙◌}
use Rattle.std.specs.List.{list_any}
use Rattle.std.specs.Option.{option_or}
use Rattle.std.proofs.lemmas.List.{map-append}
use Rattle.std.proofs.lemmas.List.Folds.{list_any-append}
use Rattle.gpi.specs.declared.design.Spot.{Spot}
use Rattle.name_table.specs.Places.{first_place, noted}
use Rattle.v_flat.specs.Scope.Scope.{Scope, find, means}
use Rattle.v_flat.specs.Design.{State, child_name, is_fresh}
use Rattle.v_elab.specs.declared.walked.Walked.{Walked}
use Rattle.v_elab.specs.Instances.{IsWalked}

fresh_by : (a b : Bool) (o : Option ℕ) → (a ≡ true → b ≡ is_some o) → (a && is_none o) ≡ (a && not b)
fresh_by true b None h = let e : b ≡ false = h refl in ap not (sym e)
fresh_by true b (Some n) h = let e : b ≡ true = h refl in ap not (sym e)
fresh_by false b o h = refl

pub fresh_as : (s : State) (x : Walked) (n : List ℕ) (r : Bool) → IsWalked s x → r ≡ (is_none (means x.state.scope n) && is_none (first_place x.instances n)) → r ≡ is_fresh n s
fresh_as s x n r h e =
    e ∙ ap (λ (i : Scope). is_none (i n) && is_none (first_place x.instances n)) h.is.goes_on.scope
    ∙ fresh_by (is_none (find n s.scope)) (list_any (bytes_eq n) (map child_name s.children)) (first_place x.instances n) (h.instances n)

-- ---- one name more

noted_by : (o : Option ℕ) (b : Bool) → is_some (option_or o (if b then Some 0 else None)) ≡ (is_some o || (b || false))
noted_by None true = refl
noted_by None false = refl
noted_by (Some n) b = refl

pub one_name_more : (n name : List ℕ) (cs : List (List ℕ × Spot)) (spot : Spot) (old : List (List ℕ × ℕ)) (p : Option ℕ) → list_any (bytes_eq n) (map child_name cs) ≡ is_some (first_place old n)
    → p ≡ noted name 0 (first_place old) n → list_any (bytes_eq n) (map child_name (cs ++ ((name, spot) ∷ []))) ≡ is_some p
one_name_more n name cs spot old p h e =
    ap (λ (ns : List (List ℕ)). list_any (bytes_eq n) ns) (map-append child_name cs ((name, spot) ∷ []))
    ∙ list_any-append (bytes_eq n) (map child_name cs) (name ∷ [])
    ∙ ap (λ (b : Bool). b || (bytes_eq n name || false)) h
    ∙ sym (noted_by (first_place old n) (bytes_eq n name))
    ∙ ap (λ (o : Option ℕ). is_some o) (sym e)
