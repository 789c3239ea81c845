-- What is kept of a name is what is given to it.
use Rattle.std.proofs.Common.{◌≡◌, ℕ, List, [], ◌∷◌, Option, Some, Bool, true, false, refl, sym, ◌∙◌, ap, subst, bytes_eq, cond, if◌then◌else◌}
use Rattle.std.specs.Map.{lookup}
use Rattle.indexmap.specs.IndexMap.{insert_entry}
use Rattle.four_value.specs.declared.Digit.{Digit}
use Rattle.v_flat.specs.Declarations.{Given}
use Rattle.v_header.specs.Parameter.Given.{find_given, given_in, GiveTheSame}
use Rattle.v_header.proofs.ParameterLemmas.Names.{same_name, own_name, either_way}

looked_up : {K : Type 0} (items : K → List ℕ) (es : List (K × List Digit)) (n : List ℕ)
    → lookup (λ k. bytes_eq n (items k)) es ≡ find_given n (given_in items es)
looked_up items [] n = refl
looked_up items (e ∷ es) n =
    ap (λ (b : Bool). cond b (Some e.1) (lookup (λ k. bytes_eq n (items k)) es)) (either_way n (items e.0))
    ∙ ap (λ (z : Option (List Digit)). cond (bytes_eq (items e.0) n) (Some e.1) z) (looked_up items es n)

twice : (a y r : Option (List Digit)) (c : Bool) → (if c then a else r) ≡ (if c then a else (if c then y else r))
twice a y r true = refl
twice a y r false = refl

overwritten : (k m n : List ℕ) (a y r : Option (List Digit)) → k ≡ m
    → (if bytes_eq m n then a else r) ≡ (if bytes_eq k n then a else (if bytes_eq m n then y else r))
overwritten k m n a y r h =
    subst (λ (l : List ℕ). (if bytes_eq m n then a else r) ≡ (if bytes_eq l n then a else (if bytes_eq m n then y else r))) (sym h) (twice a y r (bytes_eq m n))

-- of the two names that stand for n at most one is n
apart : (k m n : List ℕ) (a y r t : Option (List Digit)) (c d : Bool) → bytes_eq m n ≡ c → bytes_eq k n ≡ d → bytes_eq k m ≡ false
    → t ≡ (if d then a else r) → (if c then y else t) ≡ (if d then a else (if c then y else r))
apart k m n a y r t true true p q f h = let e : bytes_eq k m ≡ true = own_name k m (same_name k n q ∙ sym (same_name m n p)) in cc
apart k m n a y r t true false p q f h = refl
apart k m n a y r t false d p q f h = h

by_entry : {K : Type 0} (items : K → List ℕ) (k : K) (x : List Digit) (e : K × List Digit) (es rest : List (K × List Digit)) (n : List ℕ) (b : Bool)
    → bytes_eq (items k) (items e.0) ≡ b
    → find_given n (given_in items rest) ≡ (if bytes_eq (items k) n then Some x else find_given n (given_in items es))
    → find_given n (given_in items (if b then (let r : List (K × List Digit) = ((e.0, x) ∷ es) in r) else e ∷ rest))
    ≡ (if bytes_eq (items k) n then Some x else find_given n (given_in items (e ∷ es)))
by_entry items k x e es rest n true q h =
    overwritten (items k) (items e.0) n (Some x) (Some e.1) (find_given n (given_in items es)) (same_name (items k) (items e.0) q)
by_entry items k x e es rest n false q h =
    apart (items k) (items e.0) n (Some x) (Some e.1) (find_given n (given_in items es)) (find_given n (given_in items rest)) (bytes_eq (items e.0) n) (bytes_eq (items k) n) refl refl q h

stored : {K : Type 0} (items : K → List ℕ) (k : K) (x : List Digit) (es : List (K × List Digit)) (n : List ℕ)
    → find_given n (given_in items (insert_entry (λ a b. bytes_eq (items a) (items b)) es k x)) ≡ (if bytes_eq (items k) n then Some x else find_given n (given_in items es))
stored items k x [] n = refl
stored items k x (e ∷ es) n =
    by_entry items k x e es (insert_entry (λ a b. bytes_eq (items a) (items b)) es k x) n (bytes_eq (items k) (items e.0)) refl (stored items k x es n)

-- what a look-up among the entries finds
pub found : {K : Type 0} (items : K → List ℕ) (es : List (K × List Digit)) (s : List Given) (n : List ℕ) (r : Option (List Digit))
    → r ≡ lookup (λ k. bytes_eq n (items k)) es → given_in items es ≡ s → r ≡ find_given n s
found items es s n r h v = h ∙ looked_up items es n ∙ ap (λ (t : List Given). find_given n t) v

-- after an entry is stored
pub given_too : {K : Type 0} (k : K) (items : K → List ℕ) (name : List ℕ) (x : List Digit) (old new : List (K × List Digit)) (s : List Given)
    → new ≡ insert_entry (λ a b. bytes_eq (items a) (items b)) old k x → items k ≡ name → given_in items old ≡ s
    → GiveTheSame (given_in items new) (record { name = name; value = x } ∷ s)
given_too {K} k items name x old new s e q v = λ n.
    ap (λ (es : List (K × List Digit)). find_given n (given_in items es)) e ∙ stored items k x old n
    ∙ ap (λ (m : List ℕ). if bytes_eq m n then Some x else find_given n (given_in items old)) q
    ∙ ap (λ (t : List Given). if bytes_eq name n then Some x else find_given n t) v
