-- How many signals there are with one declaration more.
use Rattle.std.proofs.Common.{◌≡◌, ℕ, ◌+◌, List, [], ◌∷◌, ◌++◌, Option, Some, None, Bool, true, false, refl, sym, ◌∙◌, ap, bytes_eq, if◌then◌else◌, arith}
use Rattle.v_flat.specs.declared.scope.meaning.Bounds.{Bounds}
use Rattle.v_flat.specs.Objects.{count_of}
use Rattle.v_flat.specs.Declarations.{Declared, find_declared, with_declared, signals_in}
use Rattle.v_header.proofs.ParameterLemmas.Names.{same_name}
use Rattle.v_layout.specs.Kept.{put_declared, counted_signals}
use Rattle.v_layout.specs.Counted.{KeepsWords}

-- ---- a new name

absent_by : (b : Bool) (x d : Declared) (ds : List Declared) → (if b then Some d else find_declared x.name ds) ≡ None
    → (find_declared x.name ds ≡ None → put_declared x ds ≡ ds ++ (x ∷ [])) → (if b then x ∷ ds else d ∷ put_declared x ds) ≡ d ∷ (ds ++ (x ∷ []))
absent_by true x d ds h k = absurd (cc)
absent_by false x d ds h k = ap (λ (es : List Declared). d ∷ es) (k h)

pub put_absent : (x : Declared) (ds : List Declared) → find_declared x.name ds ≡ None → put_declared x ds ≡ ds ++ (x ∷ [])
put_absent x [] h = refl
put_absent x (d ∷ ds) h = absent_by (bytes_eq d.name x.name) x d ds h (λ k. put_absent x ds k)

signals_added : (ds : List Declared) (x : Declared) → signals_in (ds ++ (x ∷ [])) ≡ signals_in ds + count_of x.words
signals_added [] x = omega arith
signals_added (d ∷ ds) x = let h = signals_added ds x in omega (arith, h)

pub count_first : (x : Declared) (ds : List Declared) (r : ℕ) → None ≡ find_declared x.name ds → r ≡ counted_signals (signals_in ds + count_of x.words)
    → r ≡ counted_signals (signals_in (put_declared x ds))
count_first x ds r h k =
    k ∙ ap counted_signals (sym (ap signals_in (put_absent x ds (sym h)) ∙ signals_added ds x))

-- ---- a name that is declared

present_by : (b : Bool) (x d old : Declared) (ds : List Declared) → (if b then Some d else find_declared x.name ds) ≡ Some old
    → (find_declared x.name ds ≡ Some old → put_declared x ds ≡ with_declared x ds) → (if b then x ∷ ds else d ∷ put_declared x ds) ≡ (if b then x ∷ ds else d ∷ with_declared x ds)
present_by true x d old ds h k = refl
present_by false x d old ds h k = ap (λ (es : List Declared). d ∷ es) (k h)

pub put_present : (x old : Declared) (ds : List Declared) → find_declared x.name ds ≡ Some old → put_declared x ds ≡ with_declared x ds
put_present x old [] h = absurd (cc)
put_present x old (d ∷ ds) h = present_by (bytes_eq d.name x.name) x d old ds h (λ k. put_present x old ds k)

same_by : (b : Bool) (x d old : Declared) (ds : List Declared) → (if b then Some d else find_declared x.name ds) ≡ Some old → old.words ≡ x.words
    → (find_declared x.name ds ≡ Some old → signals_in (put_declared x ds) ≡ signals_in ds)
    → signals_in (if b then x ∷ ds else d ∷ put_declared x ds) ≡ count_of d.words + signals_in ds
same_by true x d old ds h e k =
    let j : d ≡ old = cc in
    ap (λ (w : Option Bounds). count_of w + signals_in ds) (sym e ∙ ap (λ (y : Declared). y.words) (sym j))
same_by false x d old ds h e k = ap (λ (n : ℕ). count_of d.words + n) (k h)

same_signals : (x old : Declared) (ds : List Declared) → find_declared x.name ds ≡ Some old → old.words ≡ x.words → signals_in (put_declared x ds) ≡ signals_in ds
same_signals x old [] h e = absurd (cc)
same_signals x old (d ∷ ds) h e = same_by (bytes_eq d.name x.name) x d old ds h e (λ k. same_signals x old ds k e)

pub count_again : (x old : Declared) (ds : List Declared) (r : ℕ) → Some old ≡ find_declared x.name ds → KeepsWords x ds → r ≡ counted_signals (signals_in ds)
    → r ≡ counted_signals (signals_in (put_declared x ds))
count_again x old ds r h e k = k ∙ ap counted_signals (sym (same_signals x old ds (sym h) (e old (sym h))))

-- ---- what is found has the name that is looked for

name_by : (b : Bool) (n : List ℕ) (d old : Declared) (ds : List Declared) → bytes_eq d.name n ≡ b → (if b then Some d else find_declared n ds) ≡ Some old
    → (find_declared n ds ≡ Some old → old.name ≡ n) → old.name ≡ n
name_by true n d old ds p h k = let j : d ≡ old = cc in ap (λ (y : Declared). y.name) (sym j) ∙ same_name d.name n p
name_by false n d old ds p h k = k h

pub found_name : (n : List ℕ) (old : Declared) (ds : List Declared) → find_declared n ds ≡ Some old → old.name ≡ n
found_name n old [] h = absurd (cc)
found_name n old (d ∷ ds) h = name_by (bytes_eq d.name n) n d old ds refl h (λ k. found_name n old ds k)

-- ---- by the table that is seen as a list

pub first_counted : (x : Declared) (ds es : List Declared) (r : ℕ) → es ≡ ds → None ≡ find_declared x.name es → r ≡ counted_signals (signals_in ds + count_of x.words)
    → r ≡ counted_signals (signals_in (put_declared x ds))
first_counted x ds es r v h k = count_first x ds r (h ∙ ap (λ (t : List Declared). find_declared x.name t) v) k

pub again_counted : (x old : Declared) (ds es : List Declared) (r : ℕ) → es ≡ ds → Some old ≡ find_declared x.name es → KeepsWords x ds → r ≡ counted_signals (signals_in es)
    → r ≡ counted_signals (signals_in (put_declared x ds))
again_counted x old ds es r v h e k =
    count_again x old ds r (h ∙ ap (λ (t : List Declared). find_declared x.name t) v) e (k ∙ ap (λ (t : List Declared). counted_signals (signals_in t)) v)
