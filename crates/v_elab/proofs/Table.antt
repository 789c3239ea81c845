-- What ports are joined to, by their names.
use Rattle.std.proofs.Common.{◌≡◌, ℕ, Bool, true, false, List, [], ◌∷◌, ◌++◌, Option, None, Some, bytes_eq, if◌then◌else◌, refl, sym, ap, ◌∙◌}
use Rattle.std.proofs.lemmas.Slice.Eq.{bytes_eq-Decides}
use Rattle.std.specs.Map.{AreApart, IsKeyTest, KeepsOthers, lookup}
use Rattle.std.specs.Option.{option_or}
use Rattle.v_elab.specs.declared.connect.joint.Joined.{Joined}
use Rattle.v_elab.specs.declared.connect.joint.Joint as code
use Rattle.v_elab.specs.PortsSteps.{first_joined}

pub same_name : (a b : List ℕ) → bytes_eq a b ≡ true → a ≡ b
same_name a b h = (bytes_eq-Decides a b).0 h

both_ways : (a b : List ℕ) (c d : Bool) → bytes_eq a b ≡ c → bytes_eq b a ≡ d → c ≡ d
both_ways a b true true p q = refl
both_ways a b true false p q = let e : bytes_eq b a ≡ true = (bytes_eq-Decides b a).1 (sym (same_name a b p)) in absurd (cc)
both_ways a b false true p q = let e : bytes_eq a b ≡ true = (bytes_eq-Decides a b).1 (sym (same_name b a q)) in absurd (cc)
both_ways a b false false p q = refl

pub same_either_way : (a b : List ℕ) → bytes_eq a b ≡ bytes_eq b a
same_either_way a b = both_ways a b (bytes_eq a b) (bytes_eq b a) refl refl

-- ---- a table

tells_name : {K : Type 0} (items : K → List ℕ) (n : List ℕ) → IsKeyTest (λ (a b : K). bytes_eq (items a) (items b)) (λ (k : K). bytes_eq n (items k))
tells_name {K} items n = λ x y h. ap (λ (m : List ℕ). bytes_eq m (items y)) (same_name n (items x) h)

tell_apart : {K : Type 0} (items : K → List ℕ) (m n : List ℕ) → bytes_eq m n ≡ false → AreApart (λ (k : K). bytes_eq m (items k)) (λ (k : K). bytes_eq n (items k))
tell_apart {K} items m n h = λ k e. ap (λ (l : List ℕ). bytes_eq n l) (sym (same_name m (items k) e)) ∙ same_either_way n m ∙ h

module _ {K X : Type 0} (items : K → List ℕ) where
  -- another name is joined to what it was
  pub others_stay : (m n : List ℕ) (old new : List (K × X)) → KeepsOthers (λ (a b : K). bytes_eq (items a) (items b)) (λ (k : K). bytes_eq m (items k)) old new
      → bytes_eq m n ≡ false → lookup (λ (k : K). bytes_eq n (items k)) new ≡ lookup (λ (k : K). bytes_eq n (items k)) old
  unfolding KeepsOthers
  others_stay m n old new h e = h (λ (k : K). bytes_eq n (items k)) (tells_name items n) (tell_apart items m n e)

  put_by : (k : K) (v : X) (old new : List (K × X)) (n : List ℕ) (b : Bool) → bytes_eq n (items k) ≡ b → lookup (λ (j : K). bytes_eq (items k) (items j)) new ≡ Some v
      → KeepsOthers (λ (x y : K). bytes_eq (items x) (items y)) (λ (j : K). bytes_eq (items k) (items j)) old new
      → lookup (λ (j : K). bytes_eq n (items j)) new ≡ (if b then Some v else lookup (λ (j : K). bytes_eq n (items j)) old)
  put_by k v old new n true e h s = ap (λ (m : List ℕ). lookup (λ (j : K). bytes_eq m (items j)) new) (same_name n (items k) e) ∙ h
  put_by k v old new n false e h s = others_stay (items k) n old new s (same_either_way (items k) n ∙ e)

  pub put : (k : K) (v : X) (old new : List (K × X)) → lookup (λ (j : K). bytes_eq (items k) (items j)) new ≡ Some v
      → KeepsOthers (λ (x y : K). bytes_eq (items x) (items y)) (λ (j : K). bytes_eq (items k) (items j)) old new
      → (n : List ℕ) → lookup (λ (j : K). bytes_eq n (items j)) new ≡ (if bytes_eq n (items k) then Some v else lookup (λ (j : K). bytes_eq n (items j)) old)
  put k v old new h s n = put_by k v old new n (bytes_eq n (items k)) refl h s

-- ---- joints, from the last one to the first

behind_by : (b : Bool) (j : Joined) (x y f g : Option Joined) → option_or x f ≡ option_or y g → option_or (if b then Some j else x) f ≡ option_or (if b then Some j else y) g
behind_by true j x y f g h = refl
behind_by false j x y f g h = h

last_one : (b : Bool) (j : Joined) (f : Option Joined) → option_or (if b then Some j else None) f ≡ (if b then Some j else f)
last_one true j f = refl
last_one false j f = refl

last_joint : (rest : List code.Joint) (c : code.Joint) (n : List ℕ) (f : Option Joined)
    → option_or (first_joined (rest ++ c ∷ []) n) f ≡ option_or (first_joined rest n) (if bytes_eq n c.port.items then Some c.joined else f)
last_joint [] c n f = last_one (bytes_eq n c.port.items) c.joined f
last_joint (r ∷ rest) c n f =
    behind_by (bytes_eq n r.port.items) r.joined (first_joined (rest ++ c ∷ []) n) (first_joined rest n) f (if bytes_eq n c.port.items then Some c.joined else f)
    (last_joint rest c n f)

-- the table has what the joints behind say, and these are left
abbrev pub Left : List code.Joint → List code.Joint → (List ℕ → Option Joined) → Type 0
Left all left f = (n : List ℕ) → option_or (first_joined left n) (f n) ≡ first_joined all n

pub one_less : (all left rest : List code.Joint) (c : code.Joint) (f g : List ℕ → Option Joined) → left ≡ rest ++ c ∷ []
    → ((n : List ℕ) → g n ≡ (if bytes_eq n c.port.items then Some c.joined else f n)) → Left all left f → Left all rest g
one_less all left rest c f g e h k = λ n.
    ap (λ (o : Option Joined). option_or (first_joined rest n) o) (h n) ∙ sym (last_joint rest c n (f n))
    ∙ ap (λ (xs : List code.Joint). option_or (first_joined xs n) (f n)) (sym e) ∙ k n
