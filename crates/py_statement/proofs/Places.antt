-- The places `%s` of a text, from left to right, and kinds of faults, one after the other.
use Rattle.std.proofs.Common.{◌≡◌, ℕ, suc, ◌+◌, List, [], ◌∷◌, ◌++◌, Option, Some, None, refl, sym, ap, ◌∙◌, arith, append_assoc, true, false, Bool, if◌then◌else◌}
use Rattle.std.specs.Prelude.{◌==◌}
use Rattle.std.proofs.lemmas.List.{append-nil}
use Rattle.py_syntax.specs.ExpressionTrees.{Tree}
use Rattle.py_syntax.specs.StatementForms.{one_more, places}
use Rattle.py_syntax.specs.declared.fault_kind.FaultKind.{FaultKind}
use Rattle.py_expression.specs.Phrase.Marks.{after}
use Rattle.py_statement.specs.Call.Chosen.{also, made}
use Rattle.py_statement.specs.Reading.{places_behind, kind_of, kinds_behind}

abbrev pub added : ℕ → Option ℕ → Option ℕ
added n None = None
added n (Some m) = Some (n + m)

added_one : (n : ℕ) (o : Option ℕ) → added (n + 1) o ≡ added n (one_more o)
added_one n None = refl
added_one n (Some m) = ap (λ k. Some k) (let e : n + 1 + m ≡ n + suc m = omega arith in e)

pub places_as : (n : ℕ) (bytes : List ℕ) → places_behind false n bytes ≡ added n (places bytes)
unfolding places places_behind
places_as n [] = ap (λ k. Some k) (let e : n ≡ n + 0 = omega arith in e)
places_as n (b ∷ []) = go (b == 37)
  where
    go : (q : Bool) → (if q then None else Some n) ≡ added n (if q then None else Some 0)
    go true = refl
    go false = ap (λ k. Some k) (let e : n ≡ n + 0 = omega arith in e)
places_as n (b ∷ c ∷ bytes) = go (b == 37) (c == 115) (places_as (n + 1) bytes ∙ added_one n (places bytes)) (places_as n (c ∷ bytes))
  where
    go : (q r : Bool) → places_behind false (n + 1) bytes ≡ added n (one_more (places bytes)) → places_behind false n (c ∷ bytes) ≡ added n (places (c ∷ bytes))
        → (if q then (if r then places_behind false (n + 1) bytes else None) else places_behind false n (c ∷ bytes))
        ≡ added n (if q then (if r then one_more (places bytes) else None) else places (c ∷ bytes))
    go true true h k = h
    go true false h k = refl
    go false r h k = k

pub places_same : (bytes : List ℕ) → places_behind false 0 bytes ≡ places bytes
places_same bytes = places_as 0 bytes ∙ none (places bytes)
  where
    none : (o : Option ℕ) → added 0 o ≡ o
    none None = refl
    none (Some m) = ap (λ k. Some k) (let e : 0 + m ≡ m = omega arith in e)

-- ---- kinds

unfoldable pub kinds_of : List Tree → Option (List FaultKind)
kinds_of [] = Some []
kinds_of (e ∷ es) = also (kind_of e) (λ k. made (λ ks. k ∷ ks) (kinds_of es))

abbrev pub front : List FaultKind → Option (List FaultKind) → Option (List FaultKind)
front xs None = None
front xs (Some ys) = Some (xs ++ ys)

kinds_as : (ks : List FaultKind) (es : List Tree) → kinds_behind ks es ≡ front ks (kinds_of es)
unfolding kinds_behind kinds_of after
kinds_as ks [] = ap (λ z. Some z) (sym (append-nil ks))
kinds_as ks (e ∷ es) = go (kind_of e) (λ k. kinds_as (ks ++ (k ∷ [])) es)
  where
    more : (k : FaultKind) (o : Option (List FaultKind)) → front (ks ++ (k ∷ [])) o ≡ front ks (made (λ js. k ∷ js) o)
    more k None = refl
    more k (Some js) = ap (λ z. Some z) (append_assoc ks (k ∷ []) js)

    go : (o : Option FaultKind) → ((k : FaultKind) → kinds_behind (ks ++ (k ∷ [])) es ≡ front (ks ++ (k ∷ [])) (kinds_of es))
        → also o (λ k. kinds_behind (ks ++ (k ∷ [])) es) ≡ front ks (also o (λ k. made (λ js. k ∷ js) (kinds_of es)))
    go None ih = refl
    go (Some k) ih = ih k ∙ more k (kinds_of es)

pub kinds_same : (es : List Tree) → kinds_behind [] es ≡ kinds_of es
unfolding after
kinds_same es = kinds_as [] es ∙ none (kinds_of es)
  where
    none : (o : Option (List FaultKind)) → front [] o ≡ o
    none None = refl
    none (Some js) = refl
