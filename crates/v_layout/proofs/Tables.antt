-- What a table has of a name is what is declared of it.
use Rattle.std.proofs.Common.{◌≡◌, ℕ, List, [], ◌∷◌, Option, Some, None, option_map, Bool, true, false, refl, sym, ◌∙◌, ap, bytes_eq, cond, if◌then◌else◌}
use Rattle.std.specs.Map.{lookup}
use Rattle.indexmap.specs.IndexMap.{insert_entry}
use Rattle.v_flat.specs.Declarations.{Declared, find_declared}
use Rattle.v_header.proofs.ParameterLemmas.Names.{same_name, either_way}
use Rattle.v_layout.specs.declared.details.Declared as code
use Rattle.v_layout.specs.Kept.{named_declared, declared_in, put_declared}

by_name : (m n : List ℕ) (x : code.Declared) (r : Option code.Declared) (s : Option Declared) (b : Bool) → bytes_eq n m ≡ b
    → option_map (named_declared n) r ≡ s → option_map (named_declared n) (cond b (Some x) r) ≡ (if b then Some (named_declared m x) else s)
by_name m n x r s true p h = ap (λ (k : List ℕ). (let o : Option Declared = Some (named_declared k x) in o)) (same_name n m p)
by_name m n x r s false p h = h

looked_up : {K : Type 0} (items : K → List ℕ) (es : List (K × code.Declared)) (n : List ℕ)
    → option_map (named_declared n) (lookup (λ k. bytes_eq n (items k)) es) ≡ find_declared n (declared_in items es)
looked_up items [] n = refl
looked_up items (e ∷ es) n =
    by_name (items e.0) n e.1 (lookup (λ k. bytes_eq n (items k)) es) (find_declared n (declared_in items es)) (bytes_eq n (items e.0)) refl (looked_up items es n)
    ∙ ap (λ (b : Bool). if b then Some (named_declared (items e.0) e.1) else find_declared n (declared_in items es)) (either_way n (items e.0))

-- what a look-up among the entries finds
pub found : {K : Type 0} (items : K → List ℕ) (es : List (K × code.Declared)) (s : List Declared) (n : List ℕ) (r : Option code.Declared)
    → r ≡ lookup (λ k. bytes_eq n (items k)) es → declared_in items es ≡ s → option_map (named_declared n) r ≡ find_declared n s
found items es s n r h v =
    ap (λ (o : Option code.Declared). option_map (named_declared n) o) h ∙ looked_up items es n ∙ ap (λ (t : List Declared). find_declared n t) v

by_entry : {K : Type 0} (items : K → List ℕ) (k : K) (x : code.Declared) (e : K × code.Declared) (es rest : List (K × code.Declared)) (b : Bool)
    → bytes_eq (items k) (items e.0) ≡ b → declared_in items rest ≡ put_declared (named_declared (items k) x) (declared_in items es)
    → declared_in items (if b then (let r : List (K × code.Declared) = ((e.0, x) ∷ es) in r) else e ∷ rest)
    ≡ (if b then named_declared (items k) x ∷ declared_in items es else named_declared (items e.0) e.1 ∷ put_declared (named_declared (items k) x) (declared_in items es))
by_entry items k x e es rest true p h = ap (λ (n : List ℕ). named_declared n x ∷ declared_in items es) (sym (same_name (items k) (items e.0) p))
by_entry items k x e es rest false p h = ap (λ (ds : List Declared). named_declared (items e.0) e.1 ∷ ds) h

stored : {K : Type 0} (items : K → List ℕ) (k : K) (x : code.Declared) (es : List (K × code.Declared))
    → declared_in items (insert_entry (λ a b. bytes_eq (items a) (items b)) es k x) ≡ put_declared (named_declared (items k) x) (declared_in items es)
stored items k x [] = refl
stored items k x (e ∷ es) =
    by_entry items k x e es (insert_entry (λ a b. bytes_eq (items a) (items b)) es k x) (bytes_eq (items k) (items e.0)) refl (stored items k x es)
    ∙ ap (λ (b : Bool). if b then named_declared (items k) x ∷ declared_in items es
    else named_declared (items e.0) e.1 ∷ put_declared (named_declared (items k) x) (declared_in items es)) (either_way (items k) (items e.0))

-- after an entry is stored
pub put : {K : Type 0} (k : K) (items : K → List ℕ) (name : List ℕ) (x : code.Declared) (old new : List (K × code.Declared)) (s : List Declared)
    → new ≡ insert_entry (λ a b. bytes_eq (items a) (items b)) old k x → items k ≡ name → declared_in items old ≡ s
    → declared_in items new ≡ put_declared (named_declared name x) s
put {K} k items name x old new s e q v =
    ap (λ (es : List (K × code.Declared)). declared_in items es) e ∙ stored items k x old
    ∙ ap (λ (n : List ℕ). put_declared (named_declared n x) (declared_in items old)) q
    ∙ ap (λ (t : List Declared). put_declared (named_declared name x) t) v
