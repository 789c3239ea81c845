-- A set of names, after a name was put in or taken out.
use Rattle.std.proofs.Common.{◌≡◌, ℕ, Bool, true, false, List, ap, ◌∙◌, sym, subst, ⊎_elim}
use Rattle.std.specs.declared.cmp.Ordering.{Ordering}
use Rattle.std.specs.Ordering.{nat_cmp, is_eq}
use Rattle.std.specs.Cmp.{eq_by_cmp_equiv}
use Rattle.std.specs.Cmp.Lexicographic.{slice_cmp, nat_list_cmp_total, nat_list_eq_equiv, bytes_decides}
use Rattle.std.specs.Str.{bytes_eq}
use Rattle.std.specs.declared.vec.Vec.{Vec}
use Rattle.std.specs.BTreeMap.{is_at}
use Rattle.std.specs.BTreeSet.{BTreeSet, UpdatesBy, IsEmpty}
use Rattle.std.specs.List.{list_any}
use Rattle.std.specs.Set.{KeepsOthers}
use Rattle.std.proofs.lemmas.Bool.{cases_Bool, cond-true, cond-false}
use Rattle.std.proofs.lemmas.Map.Text.{is_eq-slice_cmp}
use Rattle.v_lex.specs.Lexing.{with_name}
use Rattle.v_lex.specs.Names.{has_name}

-- a key that is the name is no other name
other_key : (name other key : List ℕ) → bytes_eq name other ≡ false → is_eq (slice_cmp nat_cmp name key) ≡ true
    → is_eq (slice_cmp nat_cmp other key) ≡ false
other_key name other key n y =
    let is_key : bytes_eq name key ≡ true = sym (is_eq-slice_cmp name key) ∙ y in
    is_eq-slice_cmp other key ∙ nat_list_eq_equiv.symm other key ∙ sym (nat_list_eq_equiv.congr name key other is_key) ∙ n

module _ {Z : Type 0} where
  abbrev order : Vec ℕ Z → Vec ℕ Z → Ordering
  order x y = slice_cmp nat_cmp x.items y.items

  pub has_name_after : (name : List ℕ) (old new : BTreeSet (Vec ℕ Z)) (b : Bool)
      → UpdatesBy order (λ k. slice_cmp nat_cmp name k.items) old new b → (other : List ℕ)
      → has_name new other ≡ with_name (has_name old) name b other
  unfolding has_name KeepsOthers
  has_name_after name old new b h other =
      ⊎_elim
      (λ (y : bytes_eq name other ≡ true). subst (λ l. has_name new l ≡ b) ((bytes_decides name other).0 y) h.1 ∙ sym (cond-true _ _ _ y))
      (λ (n : bytes_eq name other ≡ false). h.3 (is_at (λ k. slice_cmp nat_cmp other k.items))
      (λ x y. (eq_by_cmp_equiv nat_list_cmp_total).congr other x.items y.items) (λ k. other_key name other k.items n)
      ∙ sym (cond-false _ _ _ n))
      (cases_Bool (bytes_eq name other))

  pub has_name_none : (names : BTreeSet (Vec ℕ Z)) → IsEmpty names → (name : List ℕ) → has_name names name ≡ false
  unfolding has_name
  has_name_none names h name = ap (list_any (is_at (λ k. slice_cmp nat_cmp name k.items))) h
