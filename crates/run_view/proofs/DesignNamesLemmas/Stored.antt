-- What is kept of a name is what it means.
use Rattle.std.proofs.Common.{◌≡◌, ℕ, List, [], ◌∷◌, ◌++◌, Option, Some, None, Bool, true, false, cond, if◌then◌else◌, bytes_eq, refl, sym, ap, ◌∙◌}
use Rattle.std.proofs.lemmas.Slice.Eq.{bytes_eq-Decides}
use Rattle.std.specs.Map.{lookup}
use Rattle.std.specs.List.{find}
use Rattle.std.specs.Option.{option_map}
use Rattle.indexmap.specs.IndexMap.{insert_entry}
use Rattle.gpi.specs.declared.design.Spot.{Spot}
use Rattle.py_evaluate.specs.Attribute.Look.{spot_of}
use Rattle.run_view.specs.DesignNames.Kept.{names_kept}

both_ways : (a b : List ℕ) (c d : Bool) → bytes_eq a b ≡ c → bytes_eq b a ≡ d → c ≡ d
both_ways a b true true p q = refl
both_ways a b true false p q = let e : bytes_eq b a ≡ true = (bytes_eq-Decides b a).1 (sym ((bytes_eq-Decides a b).0 p)) in cc
both_ways a b false true p q = let e : bytes_eq a b ≡ true = (bytes_eq-Decides a b).1 (sym ((bytes_eq-Decides b a).0 q)) in cc
both_ways a b false false p q = refl

same_either_way : (a b : List ℕ) → bytes_eq a b ≡ bytes_eq b a
same_either_way a b = both_ways a b (bytes_eq a b) (bytes_eq b a) refl refl

abbrev Meant : Type 0
Meant = List ℕ × Spot

abbrev spot : Option Meant → Option Spot
spot o = option_map (λ (c : Meant). c.1) o

front : (b c : Bool) (m : Meant) (o : Option Spot) (r : Option Meant) → b ≡ c → o ≡ spot r → cond b (Some m.1) o ≡ spot (cond c (Some m) r)
front true true m o r p q = refl
front true false m o r p q = absurd cc
front false true m o r p q = absurd cc
front false false m o r p q = q

absent : (c : Bool) (m : Meant) (r : Option Meant) → spot (cond c (Some m) r) ≡ None → c ≡ false
absent true m r h = absurd cc
absent false m r h = refl

absent_behind : (c : Bool) (m : Meant) (r : Option Meant) → spot (cond c (Some m) r) ≡ None → spot r ≡ None
absent_behind true m r h = absurd cc
absent_behind false m r h = h

module _ {K : Type 0} (items : K → List ℕ) where
  abbrev Entries : Type 0
  Entries = List (K × Spot)

  looked_up : (es : Entries) (n : List ℕ) → lookup (λ k. bytes_eq n (items k)) es ≡ spot_of (names_kept items es) n
  looked_up [] n = refl
  looked_up (e ∷ es) n =
      front (bytes_eq n (items e.0)) (bytes_eq (items e.0) n) (items e.0, e.1) (lookup (λ k. bytes_eq n (items k)) es)
      (find (λ (c : Meant). bytes_eq c.0 n) (names_kept items es)) (same_either_way n (items e.0)) (looked_up es n)

  behind : (e : K × Spot) (es rest : Entries) (k : K) (x : Spot) (b : Bool) → b ≡ false
      → names_kept items rest ≡ names_kept items es ++ (items k, x) ∷ []
      → names_kept items (if b then (let r : Entries = ((e.0, x) ∷ es) in r) else e ∷ rest) ≡ (items e.0, e.1) ∷ (names_kept items es ++ (items k, x) ∷ [])
  behind e es rest k x true p h = absurd cc
  behind e es rest k x false p h = ap (λ (ms : List Meant). (items e.0, e.1) ∷ ms) h

  -- a new name stands behind the others
  appended : (es : Entries) (k : K) (x : Spot) → spot_of (names_kept items es) (items k) ≡ None
      → names_kept items (insert_entry (λ a b. bytes_eq (items a) (items b)) es k x) ≡ names_kept items es ++ (items k, x) ∷ []
  appended [] k x h = refl
  appended (e ∷ es) k x h =
      let here : Bool = bytes_eq (items e.0) (items k) in
      let more : Option Meant = find (λ (c : Meant). bytes_eq c.0 (items k)) (names_kept items es) in
      behind e es (insert_entry (λ a b. bytes_eq (items a) (items b)) es k x) k x (bytes_eq (items k) (items e.0))
      (same_either_way (items k) (items e.0) ∙ absent here (items e.0, e.1) more h) (appended es k x (absent_behind here (items e.0, e.1) more h))

-- what a look-up among the entries finds
pub found : {K : Type 0} (items : K → List ℕ) (es : List (K × Spot)) (s : List (List ℕ × Spot)) (n : List ℕ) (r : Option Spot)
    → r ≡ lookup (λ k. bytes_eq n (items k)) es → names_kept items es ≡ s → r ≡ spot_of s n
found items es s n r h v = h ∙ looked_up items es n ∙ ap (λ (t : List (List ℕ × Spot)). spot_of t n) v

-- after a new name is stored
pub added : {K : Type 0} (items : K → List ℕ) (k : K) (x : Spot) (old new : List (K × Spot)) (s : List (List ℕ × Spot))
    → new ≡ insert_entry (λ a b. bytes_eq (items a) (items b)) old k x → names_kept items old ≡ s → spot_of s (items k) ≡ None
    → names_kept items new ≡ s ++ (items k, x) ∷ []
added items k x old new s e v h =
    ap (names_kept items) e ∙ appended items old k x (ap (λ (t : List (List ℕ × Spot)). spot_of t (items k)) v ∙ h)
    ∙ ap (λ (t : List (List ℕ × Spot)). t ++ (items k, x) ∷ []) v
