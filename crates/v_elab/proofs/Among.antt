-- Names in a list, one after the other.
use Rattle.std.proofs.Common.{◌≡◌, ◌+◌, ◌<◌, ◌≤◌, ◌||◌, ◌∙◌, ℕ, Bool, true, false, List, [], ◌∷◌, ◌++◌, length, drop, take, get_or, bytes_eq, refl, sym, ap, arith}
use Rattle.std.specs.Borrow.{Bor}
use Rattle.std.specs.List.{list_any}
use Rattle.std.proofs.lemmas.List.{drop_all, drop_more, map-append, take_all, take_more}
use Rattle.v_header.specs.Names.{texts}

here : (ns : List (Bor (List ℕ))) (j : ℕ) (x : Bor (List ℕ)) → j < length ns → x ≡ get_or ns j x → drop j ns ≡ x ∷ drop (j + 1) ns
here ns j x h e = drop_more ns j x h ∙ ap (λ (y : Bor (List ℕ)). y ∷ drop (j + 1) ns) (sym e)

next_name : (ns : List (Bor (List ℕ))) (n : List ℕ) (j : ℕ) (x : Bor (List ℕ)) → j < length ns → x ≡ get_or ns j x
    → list_any (bytes_eq n) (texts (drop j ns)) ≡ (bytes_eq n x.now || list_any (bytes_eq n) (texts (drop (j + 1) ns)))
next_name ns n j x h e = ap (λ (ys : List (Bor (List ℕ))). list_any (bytes_eq n) (texts ys)) (here ns j x h e)

pub is_here : (ns : List (Bor (List ℕ))) (n : List ℕ) (j : ℕ) (x : Bor (List ℕ)) → j < length ns → x ≡ get_or ns j x → bytes_eq n x.now ≡ true
    → list_any (bytes_eq n) (texts (drop j ns)) ≡ list_any (bytes_eq n) (texts ns) → true ≡ list_any (bytes_eq n) (texts ns)
is_here ns n j x h e is k =
    sym (next_name ns n j x h e ∙ ap (λ (b : Bool). b || list_any (bytes_eq n) (texts (drop (j + 1) ns))) is) ∙ k

pub not_here : (ns : List (Bor (List ℕ))) (n : List ℕ) (j : ℕ) (x : Bor (List ℕ)) → j < length ns → x ≡ get_or ns j x → bytes_eq n x.now ≡ false
    → list_any (bytes_eq n) (texts (drop j ns)) ≡ list_any (bytes_eq n) (texts ns) → list_any (bytes_eq n) (texts (drop (j + 1) ns)) ≡ list_any (bytes_eq n) (texts ns)
not_here ns n j x h e is k =
    sym (next_name ns n j x h e ∙ ap (λ (b : Bool). b || list_any (bytes_eq n) (texts (drop (j + 1) ns))) is) ∙ k

pub nowhere_here : (ns : List (Bor (List ℕ))) (n : List ℕ) (j : ℕ) → length ns ≤ j → list_any (bytes_eq n) (texts (drop j ns)) ≡ list_any (bytes_eq n) (texts ns)
    → false ≡ list_any (bytes_eq n) (texts ns)
nowhere_here ns n j h k = sym (ap (λ (ys : List (Bor (List ℕ))). list_any (bytes_eq n) (texts ys)) (drop_all j ns h)) ∙ k

-- ---- names that are copied

pub copied_more : (ns all more : List (Bor (List ℕ))) (j : ℕ) (x : Bor (List ℕ)) → j < length ns → x ≡ get_or ns j x → more ≡ all ++ (x ∷ []) → texts all ≡ texts (take j ns)
    → texts more ≡ texts (take (j + 1) ns)
copied_more ns all more j x h e k t =
    ap texts k ∙ map-append (λ (n : Bor (List ℕ)). n.now) all (x ∷ []) ∙ ap (λ (ts : List (List ℕ)). ts ++ (x.now ∷ [])) t
    ∙ sym (ap texts (take_more ns j x h ∙ ap (λ (y : Bor (List ℕ)). take j ns ++ (y ∷ [])) (sym e)) ∙ map-append (λ (n : Bor (List ℕ)). n.now) (take j ns) (x ∷ []))

pub copied_all : (ns all more : List (Bor (List ℕ))) (j : ℕ) (x : Bor (List ℕ)) → length ns ≤ j → more ≡ all ++ (x ∷ []) → texts all ≡ texts (take j ns)
    → texts more ≡ texts ns ++ (x.now ∷ [])
copied_all ns all more j x h k t =
    ap texts k ∙ map-append (λ (n : Bor (List ℕ)). n.now) all (x ∷ []) ∙ ap (λ (ts : List (List ℕ)). ts ++ (x.now ∷ [])) (t ∙ ap texts (take_all j ns h))
