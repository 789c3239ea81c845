-- How an index follows the records of a slab.
use Rattle.std.proofs.Common.{◌≡◌, ◌≢◌, ◌⊎◌, ℕ, List, Option, Some, None, get_or, Bool, true, false, refl, sym, ap, ◌∙◌, inl, inr}
use Rattle.std.proofs.Common.{◌<◌, length, set}
use Rattle.std.proofs.lemmas.List.{get_or-set_same, get_or-set_other, get_or_past}
use Rattle.std.proofs.lemmas.Bool.{cases_eq, cases_lt, cond-true, cond-false, cases_Bool, false≢true}
use Rattle.std.proofs.lemmas.Option.{none-some, same_Some}
use Rattle.std.specs.Map.{lookup}
use Rattle.std.specs.HashMap.{HashMap, get, Updates}
use Rattle.slab.specs.Slab as slab
use Rattle.slab.specs.Slab.{Slab}
use Rattle.trigger_table.specs.Indexed.{Sets, is_named, IsIndexed}

pub sets_made : {T : Type 0} (old mid new : Slab T) (number : ℕ) (slot : Option T) → mid ≡ record old { capacity = mid.capacity } → slab.Updates mid new number slot → Sets old.slots new.slots number slot
sets_made {T} old mid new number slot kept u =
    let slots = ap (λ (s : Slab T). s.slots) kept in
    record { changed = u.changed; others = λ other differs. u.others other differs ∙ ap (λ (xs : List (Option T)). get_or xs other None) slots }

pub sets_of : {T : Type 0} (old new : Slab T) (key : ℕ) (slot : Option T) → slab.Updates old new key slot → Sets old.slots new.slots key slot
sets_of old new key slot u = record { changed = u.changed; others = u.others }

module _ {K T : Type 0} (eq : K → K → Bool) (same : (a b : K) → eq a b ≡ true → a ≡ b) (self : (a : K) → eq a a ≡ true) (name_in : T → K) where
  pub named : (name : K) (slot : Option T) (x : T) → slot ≡ Some x → name_in x ≡ name → is_named eq name_in name slot ≡ true
  named name slot x is has = ap (is_named eq name_in name) is ∙ ap (λ k. eq k name) has ∙ self name

  pub named_is : (name : K) (slot : Option T) → is_named eq name_in name slot ≡ true → (x : T) × (slot ≡ Some x) × (name_in x ≡ name)
  named_is name None is = absurd (false≢true is)
  named_is name (Some x) is = (x, refl, same (name_in x) name is)

  name_cases : (a b : K) → (a ≡ b) ⊎ (eq a b ≡ false)
  name_cases a b = elim (cases_Bool (eq a b)) [ inl is ↦ inl (same a b is) | inr other ↦ inr other ]

  module _ {S : Type 0} (slots slots' : List (Option T)) (index index' : HashMap K ℕ S) (s : IsIndexed eq name_in slots index) where
    pub none_named : (name : K) → get eq index name ≡ None → (number : ℕ) → is_named eq name_in name (get_or slots number None) ≡ true → ⊥
    none_named name none number has = none-some number (sym none ∙ s.listed name number has)

    -- a record joins
    pub indexed_make : (name : K) (number : ℕ) (made : T) → name_in made ≡ name → get eq index name ≡ None → get_or slots number None ≡ None → Sets slots slots' number (Some made) → Updates eq index index' name (Some number) → IsIndexed eq name_in slots' index'
    indexed_make name number made is new vacant sets updates =
        record {
          found = λ other k has.
              elim (name_cases name other) [
                | inl here ↦
                    let kn : number ≡ k = same_Some number k (sym (updates.0 name ∙ cond-true _ _ _ (self name)) ∙ ap (get eq index') here ∙ has) in
                    named other (get_or slots' k None) made (ap (λ j. get_or slots' j None) (sym kn) ∙ sets.changed) (is ∙ here)
                | inr differs ↦
                    let was = s.found other k (sym (updates.0 other ∙ cond-false _ _ _ differs) ∙ has) in
                    let apart : k ≢ number = λ at. false≢true (sym (ap (is_named eq name_in other) (ap (λ j. get_or slots j None) at ∙ vacant)) ∙ was) in
                    ap (is_named eq name_in other) (sets.others k apart) ∙ was
              ];
          listed = λ other k has.
              elim (cases_eq k number) [
                | inl at ↦
                    let one = named_is other (get_or slots' k None) has in
                    let e : made ≡ one.0 = same_Some _ _ (sym sets.changed ∙ ap (λ j. get_or slots' j None) (sym at) ∙ one.1) in
                    ap (get eq index') (sym one.2 ∙ ap name_in (sym e) ∙ is) ∙ updates.0 name ∙ cond-true _ _ _ (self name) ∙ ap Some (sym at)
                | inr differs ↦
                    let was : is_named eq name_in other (get_or slots k None) ≡ true = ap (is_named eq name_in other) (sym (sets.others k differs)) ∙ has in
                    elim (name_cases name other) [
                      | inl here ↦ absurd (none-some k (sym new ∙ ap (get eq index) here ∙ s.listed other k was))
                      | inr apart ↦ updates.0 other ∙ cond-false _ _ _ apart ∙ s.listed other k was
                    ]
              ];
        }

    -- a record leaves
    pub indexed_remove : (name : K) (number : ℕ) (left : T) → get_or slots number None ≡ Some left → name_in left ≡ name → Sets slots slots' number None → Updates eq index index' name None → IsIndexed eq name_in slots' index'
    indexed_remove name number left had is sets updates =
        record {
          found = λ other k has.
              elim (name_cases name other) [
                | inl here ↦ absurd (none-some k (sym (updates.0 name ∙ cond-true _ _ _ (self name)) ∙ ap (get eq index') here ∙ has))
                | inr differs ↦
                    let was = s.found other k (sym (updates.0 other ∙ cond-false _ _ _ differs) ∙ has) in
                    let apart : k ≢ number = λ at.
                    let one = named_is other (get_or slots k None) was in
                    let e : left ≡ one.0 = same_Some _ _ (sym had ∙ ap (λ j. get_or slots j None) (sym at) ∙ one.1) in
                    false≢true (sym differs ∙ ap (eq name) (sym one.2 ∙ ap name_in (sym e) ∙ is) ∙ self name) in
                    ap (is_named eq name_in other) (sets.others k apart) ∙ was
              ];
          listed = λ other k has.
              let differs : k ≢ number = λ at. false≢true (sym (ap (is_named eq name_in other) (ap (λ j. get_or slots' j None) at ∙ sets.changed)) ∙ has) in
              let was : is_named eq name_in other (get_or slots k None) ≡ true = ap (is_named eq name_in other) (sym (sets.others k differs)) ∙ has in
              elim (name_cases name other) [
                | inl here ↦
                    let both : number ≡ k = same_Some number k (sym (s.listed name number (named name (get_or slots number None) left had is)) ∙ ap (get eq index) here ∙ s.listed other k was) in
                    absurd (differs (sym both))
                | inr apart ↦ updates.0 other ∙ cond-false _ _ _ apart ∙ s.listed other k was
              ];
        }

    pub kept_index : index'.entries ≡ index.entries → IsIndexed eq name_in slots index'
    kept_index same_entries =
        let reads : (name : K) → get eq index' name ≡ get eq index name = λ name. ap (lookup (eq name)) same_entries in
        record { found = λ name number is. s.found name number (sym (reads name) ∙ is); listed = λ name number has. reads name ∙ s.listed name number has }

    pub none_left : (name : K) (number : ℕ) (left : T) → get_or slots number None ≡ Some left → name_in left ≡ name → Sets slots slots' number None → (other : ℕ) → is_named eq name_in name (get_or slots' other None) ≡ true → ⊥
    none_left name number left had is sets other has =
        let differs : other ≢ number = λ at. false≢true (sym (ap (is_named eq name_in name) (ap (λ j. get_or slots' j None) at ∙ sets.changed)) ∙ has) in
        let was : is_named eq name_in name (get_or slots other None) ≡ true = ap (is_named eq name_in name) (sym (sets.others other differs)) ∙ has in
        differs (same_Some other number (sym (s.listed name other was) ∙ s.listed name number (named name (get_or slots number None) left had is)))

  -- a record is replaced by one of the same name
  pub indexed_set : {S : Type 0} (slots slots' : List (Option T)) (index : HashMap K ℕ S) → IsIndexed eq name_in slots index → (number : ℕ) (old new : T) → get_or slots number None ≡ Some old → name_in new ≡ name_in old → Sets slots slots' number (Some new) → IsIndexed eq name_in slots' index
  indexed_set slots slots' index s number old new had is sets =
      let reads : (name : K) (k : ℕ) → is_named eq name_in name (get_or slots' k None) ≡ is_named eq name_in name (get_or slots k None) =
      λ name k.
      elim (cases_eq k number) [
        | inl at ↦ ap (is_named eq name_in name) (ap (λ j. get_or slots' j None) at ∙ sets.changed) ∙ ap (λ n. eq n name) is ∙ ap (is_named eq name_in name) (sym (ap (λ j. get_or slots j None) at ∙ had))
        | inr differs ↦ ap (is_named eq name_in name) (sets.others k differs)
      ] in
      record { found = λ name k has. reads name k ∙ s.found name k has; listed = λ name k has. s.listed name k (sym (reads name k) ∙ has) }

slot_within : {T : Type 0} (slots : List (Option T)) (number : ℕ) (x : T) → get_or slots number None ≡ Some x → number < length slots
slot_within slots number x is =
    elim (cases_lt number (length slots)) [
      | inl below ↦ below
      | inr past ↦ absurd (none-some x (sym (get_or_past slots number None past) ∙ is))
    ]

-- a record is written over
pub sets_slot : {T : Type 0} (slots : List (Option T)) (number : ℕ) (old new : T) → get_or slots number None ≡ Some old → Sets slots (set slots number (Some new)) number (Some new)
sets_slot slots number old new is =
    record {
      changed = get_or-set_same slots number (Some new) None (slot_within slots number old is);
      others = λ other differs. get_or-set_other slots number other (Some new) None differs;
    }
