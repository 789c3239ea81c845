-- Cases of a factory, one after the other.
use Rattle.std.proofs.Common.{◌≡◌, ℕ, suc, ◌+◌, ◌<◌, ◌≤◌, List, [], ◌∷◌, ◌++◌, length, map, take, get_or, Option, Some, Result, IfOk, refl, sym, ap, ◌∙◌, arith}
use Rattle.std.proofs.lemmas.List.{map-append, take_more, take_all, length-take}
use Rattle.std.proofs.lemmas.Result.{IfOk-weaker}
use Rattle.std.specs.Option.{unwrap_or}
use Rattle.py_syntax.specs.declared.constant.Const.{Const}
use Rattle.py_syntax.specs.declared.module.Parameter.{Parameter}
use Rattle.py_syntax.specs.declared.module.Setting.{Setting}
use Rattle.test_meaning.specs.Body.BodyTrees.{Case}
use Rattle.test_meaning.specs.Body.Views.{view_case}
use Rattle.test_meaning.specs.declared.body.file.TestCase as code
use Rattle.test_file.specs.Cases.Tested.{IsTested}
use Rattle.test_file.specs.declared.cases.factories.TestedFunction.{TestedFunction}
use Rattle.test_meaning.specs.Factory.Product.{Chosen}
use Rattle.test_meaning.specs.Cases.{argument, arguments, case_name, case_of, numbered, settings_of, test_of}
use Rattle.test_meaning.specs.Rules.File.{File, Definition}
use Rattle.test_meaning.specs.Rules.Names.{Name}

-- one case behind others
pub behind : (f : File) (d : Definition) (p q : Option Name) (k : ℕ) (css : List (List Chosen)) (cs : List Chosen)
    → numbered f d p q k (css ++ cs ∷ []) ≡ numbered f d p q k css ++ test_of f d (case_name p d.name q (k + length css)) (arguments f d cs) ∷ []
behind f d p q k [] cs =
    let e : k ≡ k + 0 = omega arith in
    ap (λ (j : ℕ). test_of f d (case_name p d.name q j) (arguments f d cs) ∷ (let ys : List Case = [] in ys)) e
behind f d p q k (x ∷ css) cs =
    let e : suc k + length css ≡ k + suc (length css) = omega arith in
    ap (λ (ys : List Case). test_of f d (case_name p d.name q k) (arguments f d x) ∷ ys)
    (behind f d p q (suc k) css cs
    ∙ ap (λ (j : ℕ). numbered f d p q (suc k) css ++ test_of f d (case_name p d.name q j) (arguments f d cs) ∷ []) e)

-- a test of the function of a definition
pub tested : (f : File) (d : Definition) (t : TestedFunction) (m name : Name) (cs : List Chosen) (args : List Const) → IsTested d t → name ≡ m
    → args ≡ map (argument f cs) t.further.now → case_of f t.number t.settings.now name args ≡ test_of f d m (arguments f d cs)
tested f d t m name cs args is e a =
    ap (λ (k : ℕ). case_of f k t.settings.now name args) (sym is.number)
    ∙ ap (λ (ss : List Setting). case_of f d.number ss name args) (sym is.settings)
    ∙ ap (λ (n : Name). case_of f d.number (settings_of d) n args) e
    ∙ ap (λ (xs : List Const). case_of f d.number (settings_of d) m xs) (a ∙ ap (λ (ps : List Parameter). map (argument f cs) ps) (sym is.further))

pub own_tested : {E : Type 0} (r : Result code.TestCase E) (f : File) (t : TestedFunction) (name : Name) (args : List Const) → name ≡ t.name.now
    → args ≡ map (argument f []) t.further.now → IfOk r (λ c. view_case c ≡ case_of f t.number t.settings.now name args)
    → IfOk r (λ c. (d : Definition) → IsTested d t → view_case c ≡ test_of f d d.name (arguments f d []))
own_tested r f t name args e a h =
    IfOk-weaker r (λ c. view_case c ≡ case_of f t.number t.settings.now name args) (λ c. (d : Definition) → IsTested d t → view_case c ≡ test_of f d d.name (arguments f d []))
    (λ c is. λ d of. is ∙ tested f d t d.name name [] args of (e ∙ sym of.name) a) h

same_case : (cs ds : List Chosen) (o : Option (List Chosen)) → o ≡ Some cs → o ≡ Some ds → ds ≡ cs
same_case cs ds o p q = ap (λ (x : Option (List Chosen)). unwrap_or x []) (sym q ∙ p)

pub case_tested : {E : Type 0} (r : Result code.TestCase E) (f : File) (t : TestedFunction) (o : Option (List Chosen)) (ds : List Chosen)
    (name : Name) (args : List Const) → o ≡ Some ds → args ≡ map (argument f ds) t.further.now
    → IfOk r (λ c. view_case c ≡ case_of f t.number t.settings.now name args)
    → IfOk r (λ c. (d : Definition) → IsTested d t → (cs : List Chosen) → o ≡ Some cs → view_case c ≡ test_of f d name (arguments f d cs))
case_tested r f t o ds name args is a h =
    IfOk-weaker r (λ c. view_case c ≡ case_of f t.number t.settings.now name args)
    (λ c. (d : Definition) → IsTested d t → (cs : List Chosen) → o ≡ Some cs → view_case c ≡ test_of f d name (arguments f d cs))
    (λ c so. λ d of cs s. so
    ∙ tested f d t name name cs args of refl
    (a ∙ ap (λ (xs : List Chosen). map (argument f xs) t.further.now) (same_case cs ds o s is))) h

-- one case more
pub more_cases : (f : File) (d : Definition) (p q : Option Name) (css : List (List Chosen)) (i : ℕ) (cases : List code.TestCase) (c : code.TestCase) → i < length css
    → map view_case cases ≡ numbered f d p q 1 (take i css)
    → view_case c ≡ test_of f d (case_name p d.name q (i + 1)) (arguments f d (get_or css i []))
    → map view_case (cases ++ c ∷ []) ≡ numbered f d p q 1 (take (i + 1) css)
more_cases f d p q css i cases c h so one =
    let n : i + 1 ≡ 1 + length (take i css) = omega (arith, length-take i css, h) in
    map-append view_case cases (c ∷ []) ∙ ap (λ (ys : List Case). ys ++ view_case c ∷ []) so
    ∙ ap (λ (y : Case). numbered f d p q 1 (take i css) ++ y ∷ [])
    (one ∙ ap (λ (j : ℕ). test_of f d (case_name p d.name q j) (arguments f d (get_or css i []))) n)
    ∙ sym (behind f d p q 1 (take i css) (get_or css i []))
    ∙ ap (λ (xs : List (List Chosen)). numbered f d p q 1 xs) (sym (take_more css i [] h))

-- all cases
pub all_cases : (f : File) (d : Definition) (p q : Option Name) (css : List (List Chosen)) (i : ℕ) (cases : List code.TestCase) → length css ≤ i
    → map view_case cases ≡ numbered f d p q 1 (take i css) → map view_case cases ≡ numbered f d p q 1 css
all_cases f d p q css i cases h so = so ∙ ap (λ (xs : List (List Chosen)). numbered f d p q 1 xs) (take_all i css h)
