-- What is kept of a name is its place.
use Rattle.std.proofs.Common.{◌≡◌, ℕ, List, [], ◌∷◌, Option, Some, None, Bool, true, false, refl, sym, ◌∙◌, ap, subst, bytes_eq, cond, option_copied, MatchOption, Bor, if◌then◌else◌}
use Rattle.std.proofs.lemmas.Slice.Eq.{bytes_eq-Decides}
use Rattle.std.specs.Map.{lookup}
use Rattle.std.specs.Option.{option_or}
use Rattle.indexmap.specs.IndexMap.{insert_entry}
use Rattle.name_table.specs.Places.{first_place, noted}
use Rattle.name_table.specs.Entries.{entries_of}

pub looked_up : {K : Type 0} (items : K → List ℕ) (es : List (K × ℕ)) (n : List ℕ)
    → lookup (λ k. bytes_eq n (items k)) es ≡ first_place (entries_of items es) n
looked_up items [] n = refl
looked_up items (e ∷ es) n = ap (λ (z : Option ℕ). cond (bytes_eq n (items e.0)) (Some e.1) z) (looked_up items es n)

-- names are equal where their bytes are
same_name : (k n : List ℕ) → bytes_eq k n ≡ true → k ≡ n
same_name k n h = (bytes_eq-Decides k n).0 h

own_name : (k n : List ℕ) → k ≡ n → bytes_eq k n ≡ true
own_name k n h = (bytes_eq-Decides k n).1 h

twice : (a y r : Option ℕ) (c : Bool) → (if c then a else r) ≡ (if c then a else (if c then y else r))
twice a y r true = refl
twice a y r false = refl

overwritten : (k m n : List ℕ) (a y r : Option ℕ) → k ≡ m
    → (if bytes_eq n m then a else r) ≡ (if bytes_eq n k then a else (if bytes_eq n m then y else r))
overwritten k m n a y r h =
    subst (λ (l : List ℕ). (if bytes_eq n m then a else r) ≡ (if bytes_eq n l then a else (if bytes_eq n m then y else r))) (sym h) (twice a y r (bytes_eq n m))

-- of the two names that stand for n at most one is n
apart : (k m n : List ℕ) (a y r t : Option ℕ) (c d : Bool) → bytes_eq n m ≡ c → bytes_eq n k ≡ d → bytes_eq k m ≡ false
    → t ≡ (if d then a else r) → (if c then y else t) ≡ (if d then a else (if c then y else r))
apart k m n a y r t true true p q f h = let e : bytes_eq k m ≡ true = own_name k m (sym (same_name n k q) ∙ same_name n m p) in cc
apart k m n a y r t true false p q f h = refl
apart k m n a y r t false d p q f h = h

by_entry : {K : Type 0} (items : K → List ℕ) (k : K) (x : ℕ) (e : K × ℕ) (es rest : List (K × ℕ)) (n : List ℕ) (b : Bool)
    → bytes_eq (items k) (items e.0) ≡ b
    → first_place (entries_of items rest) n ≡ (if bytes_eq n (items k) then Some x else first_place (entries_of items es) n)
    → first_place (entries_of items (if b then (let r : List (K × ℕ) = ((e.0, x) ∷ es) in r) else e ∷ rest)) n
    ≡ (if bytes_eq n (items k) then Some x else first_place (entries_of items (e ∷ es)) n)
by_entry items k x e es rest n true q h =
    overwritten (items k) (items e.0) n (Some x) (Some e.1) (first_place (entries_of items es) n) (same_name (items k) (items e.0) q)
by_entry items k x e es rest n false q h =
    apart (items k) (items e.0) n (Some x) (Some e.1) (first_place (entries_of items es) n) (first_place (entries_of items rest) n) (bytes_eq n (items e.0)) (bytes_eq n (items k)) refl refl q h

pub stored : {K : Type 0} (items : K → List ℕ) (k : K) (x : ℕ) (es : List (K × ℕ)) (n : List ℕ)
    → first_place (entries_of items (insert_entry (λ a b. bytes_eq (items a) (items b)) es k x)) n ≡ (if bytes_eq n (items k) then Some x else first_place (entries_of items es) n)
stored items k x [] n = refl
stored items k x (e ∷ es) n =
    by_entry items k x e es (insert_entry (λ a b. bytes_eq (items a) (items b)) es k x) n (bytes_eq (items k) (items e.0)) refl (stored items k x es n)

-- an answer that is there stays
pub unchanged : (o : Option ℕ) → o ≡ option_or o None
unchanged None = refl
unchanged (Some y) = refl

kept : (k n : List ℕ) (x : ℕ) (s : List ℕ → Option ℕ) (y : ℕ) (b : Bool) → bytes_eq n k ≡ b → s k ≡ Some y → s n ≡ option_or (s n) (if b then Some x else None)
kept k n x s y true q h =
    let e : s n ≡ Some y = ap s (same_name n k q) ∙ h in
    subst (λ (o : Option ℕ). o ≡ option_or o (Some x)) (sym e) refl
kept k n x s y false q h = unchanged (s n)

-- a name that has a place keeps it
pub note_known : (k : List ℕ) (x : ℕ) (s : List ℕ → Option ℕ) (y : ℕ) → s k ≡ Some y → (n : List ℕ) → s n ≡ noted k x s n
note_known k x s y h n = kept k n x s y (bytes_eq n k) refl h

added : (k n : List ℕ) (x : ℕ) (s : List ℕ → Option ℕ) (b : Bool) → bytes_eq n k ≡ b → s k ≡ None
    → (if b then Some x else s n) ≡ option_or (s n) (if b then Some x else None)
added k n x s true q h =
    let e : s n ≡ None = ap s (same_name n k q) ∙ h in
    subst (λ (o : Option ℕ). Some x ≡ option_or o (Some x)) (sym e) refl
added k n x s false q h = unchanged (s n)

-- what a look-up among the entries finds
pub found : {K : Type 0} (items : K → List ℕ) (es : List (K × ℕ)) (s : List (List ℕ × ℕ)) (n : List ℕ) (r : Option ℕ)
    → r ≡ lookup (λ k. bytes_eq n (items k)) es → entries_of items es ≡ s → r ≡ first_place s n
found items es s n r h v = h ∙ looked_up items es n ∙ ap (λ (t : List (List ℕ × ℕ)). first_place t n) v

-- a name that has none gets its place
pub note_new : {K : Type 0} (k : K) (items : K → List ℕ) (name : List ℕ) (x : ℕ) (old new : List (K × ℕ)) (s : List (List ℕ × ℕ))
    → new ≡ insert_entry (λ a b. bytes_eq (items a) (items b)) old k x → items k ≡ name → entries_of items old ≡ s → first_place s name ≡ None
    → (n : List ℕ) → first_place (entries_of items new) n ≡ noted name x (first_place s) n
note_new {K} k items name x old new s e q v h n =
    ap (λ (es : List (K × ℕ)). first_place (entries_of items es) n) e ∙ stored items k x old n
    ∙ ap (λ (m : List ℕ). if bytes_eq n m then Some x else first_place (entries_of items old) n) q
    ∙ ap (λ (t : List (List ℕ × ℕ)). if bytes_eq n name then Some x else first_place t n) v
    ∙ added name n x (first_place s) (bytes_eq n name) refl h
