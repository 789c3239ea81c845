-- What is kept of a name is what it means.
use Rattle.std.proofs.Common.{◌≡◌, ℕ, List, [], ◌∷◌, Option, Some, None, Bool, true, false, refl, sym, ◌∙◌, ap, subst, bytes_eq, cond, option_copied, MatchOption, Bor, if◌then◌else◌}
use Rattle.std.proofs.lemmas.Slice.Eq.{bytes_eq-Decides}
use Rattle.std.specs.Map.{lookup, set_value}
use Rattle.indexmap.specs.IndexMap.{insert_entry}
use Rattle.v_flat.specs.declared.scope.meaning.Meaning.{Meaning}
use Rattle.v_flat.specs.Scope.Scope.{Scope, means, named, renamed, renamed_from}
use Rattle.v_flat.specs.Scope.Entries.{entries_of}

pub looked_up : {K : Type 0} (items : K → List ℕ) (es : List (K × Meaning)) (n : List ℕ)
    → lookup (λ k. bytes_eq n (items k)) es ≡ means (entries_of items es) n
looked_up items [] n = refl
looked_up items (e ∷ es) n = ap (λ (z : Option Meaning). cond (bytes_eq n (items e.0)) (Some e.1) z) (looked_up items es n)

-- names are equal where their bytes are
same_name : (k n : List ℕ) → bytes_eq k n ≡ true → k ≡ n
same_name k n h = (bytes_eq-Decides k n).0 h

own_name : (k n : List ℕ) → k ≡ n → bytes_eq k n ≡ true
own_name k n h = (bytes_eq-Decides k n).1 h

twice : (a y r : Option Meaning) (c : Bool) → (if c then a else r) ≡ (if c then a else (if c then y else r))
twice a y r true = refl
twice a y r false = refl

overwritten : (k m n : List ℕ) (a y r : Option Meaning) → k ≡ m
    → (if bytes_eq n m then a else r) ≡ (if bytes_eq n k then a else (if bytes_eq n m then y else r))
overwritten k m n a y r h =
    subst (λ (l : List ℕ). (if bytes_eq n m then a else r) ≡ (if bytes_eq n l then a else (if bytes_eq n m then y else r))) (sym h) (twice a y r (bytes_eq n m))

-- of the two names that stand for n at most one is n
apart : (k m n : List ℕ) (a y r t : Option Meaning) (c d : Bool) → bytes_eq n m ≡ c → bytes_eq n k ≡ d → bytes_eq k m ≡ false
    → t ≡ (if d then a else r) → (if c then y else t) ≡ (if d then a else (if c then y else r))
apart k m n a y r t true true p q f h = let e : bytes_eq k m ≡ true = own_name k m (sym (same_name n k q) ∙ same_name n m p) in cc
apart k m n a y r t true false p q f h = refl
apart k m n a y r t false d p q f h = h

by_entry : {K : Type 0} (items : K → List ℕ) (k : K) (x : Meaning) (e : K × Meaning) (es rest : List (K × Meaning)) (n : List ℕ) (b : Bool)
    → bytes_eq (items k) (items e.0) ≡ b
    → means (entries_of items rest) n ≡ named (items k) x (means (entries_of items es)) n
    → means (entries_of items (if b then (let r : List (K × Meaning) = ((e.0, x) ∷ es) in r) else e ∷ rest)) n
    ≡ named (items k) x (means (entries_of items (e ∷ es))) n
by_entry items k x e es rest n true q h =
    overwritten (items k) (items e.0) n (Some x) (Some e.1) (means (entries_of items es) n) (same_name (items k) (items e.0) q)
by_entry items k x e es rest n false q h =
    apart (items k) (items e.0) n (Some x) (Some e.1) (means (entries_of items es) n) (means (entries_of items rest) n) (bytes_eq n (items e.0)) (bytes_eq n (items k)) refl refl q h

pub stored : {K : Type 0} (items : K → List ℕ) (k : K) (x : Meaning) (es : List (K × Meaning)) (n : List ℕ)
    → means (entries_of items (insert_entry (λ a b. bytes_eq (items a) (items b)) es k x)) n ≡ named (items k) x (means (entries_of items es)) n
stored items k x [] n = refl
stored items k x (e ∷ es) n =
    by_entry items k x e es (insert_entry (λ a b. bytes_eq (items a) (items b)) es k x) n (bytes_eq (items k) (items e.0)) refl (stored items k x es n)

-- what a look-up among the entries finds
pub found : {K : Type 0} (items : K → List ℕ) (es : List (K × Meaning)) (s : List (List ℕ × Meaning)) (n : List ℕ) (r : Option (Bor Meaning))
    → option_copied r ≡ lookup (λ k. bytes_eq n (items k)) es → entries_of items es ≡ s
    → MatchOption r (means s n ≡ None) (λ m. means s n ≡ Some m.now)
found items es s n None h v = ap (λ (t : List (List ℕ × Meaning)). means t n) (sym v) ∙ sym (looked_up items es n) ∙ sym h
found items es s n (Some m) h v = ap (λ (t : List (List ℕ × Meaning)). means t n) (sym v) ∙ sym (looked_up items es n) ∙ sym h

-- after an entry is stored
pub declared : {K : Type 0} (k : K) (items : K → List ℕ) (name : List ℕ) (x : Meaning) (old new : List (K × Meaning)) (s : List (List ℕ × Meaning))
    → new ≡ insert_entry (λ a b. bytes_eq (items a) (items b)) old k x → items k ≡ name → entries_of items old ≡ s
    → means (entries_of items new) ≡ named name x (means s)
declared {K} k items name x old new s e q v = λ i n.
    (ap (λ (es : List (K × Meaning)). means (entries_of items es) n) e ∙ stored items k x old n
    ∙ ap (λ (m : List ℕ). named m x (means (entries_of items old)) n) q ∙ ap (λ (t : List (List ℕ × Meaning)). named name x (means t) n) v) i

-- what is found of a name that is replaced
pub looked : {K : Type 0} (items : K → List ℕ) (es : List (K × Meaning)) (s : List (List ℕ × Meaning)) (n : List ℕ) (o : Option Meaning)
    → o ≡ lookup (λ k. bytes_eq n (items k)) es → entries_of items es ≡ s → o ≡ means s n
looked items es s n o h v = h ∙ looked_up items es n ∙ ap (λ (t : List (List ℕ × Meaning)). means t n) v

later : (k m n : List ℕ) (x y : Meaning) (r : Scope) (t o : Option Meaning) → bytes_eq k m ≡ false → t ≡ renamed_from o k x r n
    → (if bytes_eq n m then Some y else t) ≡ renamed_from o k x (named m y r) n
later k m n x y r t None f h = ap (λ (z : Option Meaning). if bytes_eq n m then Some y else z) h
later k m n x y r t (Some p) f h = apart k m n (Some x) (Some y) (r n) t (bytes_eq n m) (bytes_eq n k) refl refl f h

replaced_entry : {K : Type 0} (items : K → List ℕ) (k : List ℕ) (x : Meaning) (e : K × Meaning) (es rest : List (K × Meaning)) (n : List ℕ) (b : Bool)
    → bytes_eq k (items e.0) ≡ b
    → means (entries_of items rest) n ≡ renamed k x (means (entries_of items es)) n
    → means (entries_of items (if b then (let r : List (K × Meaning) = ((e.0, x) ∷ es) in r) else e ∷ rest)) n
    ≡ renamed_from (if b then Some e.1 else means (entries_of items es) k) k x (means (entries_of items (e ∷ es))) n
replaced_entry items k x e es rest n true q h =
    overwritten k (items e.0) n (Some x) (Some e.1) (means (entries_of items es) n) (same_name k (items e.0) q)
replaced_entry items k x e es rest n false q h =
    later k (items e.0) n x e.1 (means (entries_of items es)) (means (entries_of items rest) n) (means (entries_of items es) k) q h

replaced_in : {K : Type 0} (items : K → List ℕ) (k : List ℕ) (x : Meaning) (es : List (K × Meaning)) (n : List ℕ)
    → means (entries_of items (set_value (λ a. bytes_eq k (items a)) es x)) n ≡ renamed k x (means (entries_of items es)) n
replaced_in items k x [] n = refl
replaced_in items k x (e ∷ es) n =
    replaced_entry items k x e es (set_value (λ a. bytes_eq k (items a)) es x) n (bytes_eq k (items e.0)) refl (replaced_in items k x es n)

-- after the meaning of a declared name is replaced
pub replaced : {K : Type 0} (items : K → List ℕ) (name : List ℕ) (x : Meaning) (old new : List (K × Meaning)) (s : List (List ℕ × Meaning))
    → new ≡ set_value (λ k. bytes_eq name (items k)) old x → entries_of items old ≡ s → means (entries_of items new) ≡ renamed name x (means s)
replaced {K} items name x old new s e v = λ i n.
    (ap (λ (es : List (K × Meaning)). means (entries_of items es) n) e ∙ replaced_in items name x old n
    ∙ ap (λ (t : List (List ℕ × Meaning)). renamed name x (means t) n) v) i

-- a name that isn't declared stays so
pub not_replaced : {K : Type 0} (items : K → List ℕ) (name : List ℕ) (x : Meaning) (old new : List (K × Meaning)) (s : List (List ℕ × Meaning))
    → new ≡ old → None ≡ means s name → entries_of items old ≡ s → means (entries_of items new) ≡ renamed name x (means s)
not_replaced {K} items name x old new s e h v = λ i n.
    (ap (λ (es : List (K × Meaning)). means (entries_of items es) n) e ∙ ap (λ (t : List (List ℕ × Meaning)). means t n) v
    ∙ ap (λ (o : Option Meaning). renamed_from o name x (means s) n) h) i
