-- The objects of an instance by their numbers: each has signals of its own.
use Rattle.std.proofs.Common.{◌≡◌, ◌+◌, ◌<◌, ◌≤◌, ◌||◌, ◌⊎◌, inl, inr, ◌∙◌, ℕ, Bool, true, false, List, [], ◌∷◌, ◌++◌, length, map, Option, Some, None, Ok, refl, sym, ap, subst, arith, if◌then◌else◌}
use Rattle.std.specs.Prelude.{bytes_eq}
use Rattle.std.specs.List.{list_any}
use Rattle.four_value.specs.declared.Digit.{Digit}
use Rattle.v_syntax.specs.declared.item.Direction.{Direction}
use Rattle.v_syntax.specs.declared.item.Direction.TheVariants as direction
use Rattle.v_syntax.specs.SourceTrees.{RangeTree}
use Rattle.v_flat.specs.declared.scope.rule.ElabRule.TheVariants as rule
use Rattle.v_flat.specs.declared.scope.found.Found.{Found}
use Rattle.v_flat.specs.Scope.Found.{Holds, HoldsOk, both, each, ended}
use Rattle.v_flat.specs.declared.scope.meaning.Bounds.{Bounds}
use Rattle.v_flat.specs.declared.scope.meaning.DataKind.TheVariants.{Input, Net, Register}
use Rattle.v_flat.specs.declared.scope.meaning.DataObject.{DataObject}
use Rattle.v_flat.specs.declared.scope.meaning.Meaning.{Meaning}
use Rattle.v_flat.specs.declared.scope.meaning.Meaning.TheVariants.{Constant, Object, Later}
use Rattle.v_flat.specs.Scope.Scope.{Scope, before, find, means, plain}
use Rattle.v_flat.specs.Objects.{count_of}
use Rattle.v_flat.specs.Checks.{constant_of}
use Rattle.v_flat.specs.Headers.{Parameter, Port, port_name}
use Rattle.v_flat.specs.Declarations.{Declared, Entries, Given, constant_meaning, find_declared, given_value, in_order, is_free, kind_of, listed, other_lines, parameter, parameters, port_lines, signals_in, vector_bounds}
use Rattle.v_flat.specs.Design.{Design, entries, object_of}
use Rattle.v_flat.proofs.Holds.{holds_any, holds_each, holds_ended, holds_next, holds_wants}
use Rattle.v_flat.proofs.ShapeLemmas.Declared.{span_some}
use Rattle.v_flat.proofs.ShapeLemmas.Names.{Among, among_first, same_name}
use Rattle.v_flat.proofs.ShapeLemmas.Walk.{scope_of}
use Rattle.v_laws.proofs.Members.{Member, member_both}
use Rattle.v_laws.proofs.Directions.{ArePlain, HasDirection, found_member}

-- ---- parameters

abbrev IsConstant : Meaning → Type 0
IsConstant (Constant ds b) = Unit {0}
IsConstant _ = ⊥

-- each name means a constant
abbrev pub AreConstants : Entries → Type 0
AreConstants [] = Unit {0}
AreConstants (e ∷ es) = IsConstant e.1 × AreConstants es

constants_both : (xs ys : Entries) → AreConstants xs → AreConstants ys → AreConstants (xs ++ ys)
constants_both [] ys h k = k
constants_both (x ∷ xs) ys h k = (h.0, constants_both xs ys h.1 k)

is_constant : (r : Option RangeTree) (b : Bounds) (ds : List Digit) → IsConstant (constant_meaning r b ds)
is_constant None b ds = tt
is_constant (Some r) b ds = tt

one_constant : (p : Parameter) (given : List Given) (others : Scope) (es : Entries) → AreConstants es → Holds AreConstants (parameter p given others es)
one_constant p given others es h =
    holds_wants AreConstants (is_free p.name.name es) rule.DuplicateName p.name.at
    (each (λ x. es ++ ((p.name.name, constant_meaning p.range x.0 x.1) ∷ [])) found)
    (λ t. holds_each (λ (x : Bounds × List Digit). Unit {0}) AreConstants (λ x. es ++ ((p.name.name, constant_meaning p.range x.0 x.1) ∷ [])) found (holds_any found)
    (λ x u. constants_both es ((p.name.name, constant_meaning p.range x.0 x.1) ∷ []) h (is_constant p.range x.0 x.1, tt)))
  where
    found : Found (Bounds × List Digit)
    found = both (vector_bounds p.range (before (means es) others)) (given_value p.name.name given (constant_of (before (means es) others) p.value))

all_constant : (ps : List Parameter) (given : List Given) (others : Scope) (es : Entries) → AreConstants es → HoldsOk AreConstants (parameters ps given others es)
all_constant [] given others es h = h
all_constant (p ∷ ps) given others es h =
    holds_next AreConstants AreConstants (ended (parameter p given others es)) (parameters ps given others) (holds_ended AreConstants (parameter p given others es) (one_constant p given others es h))
    (λ fs k. all_constant ps given others fs k)

pub constants_are : (ps : List Parameter) (given : List Given) (others : Scope) (es : Entries) → parameters ps given others [] ≡ Ok es → AreConstants es
constants_are ps given others es e = subst (HoldsOk AreConstants) e (all_constant ps given others [] tt)

-- ---- objects

-- the name is declared, as this object, where the signals begin with first
abbrev pub IsPlaced : List ℕ → DataObject → ℕ → List Declared → Type 0
IsPlaced n o first [] = ⊥
IsPlaced n o first (d ∷ ds) = ((n ≡ d.name) × (o ≡ object_of first d)) ⊎ IsPlaced n o (first + count_of d.words) ds

pub some_signals : (w : Option Bounds) → 1 ≤ count_of w
some_signals None = omega arith
some_signals (Some w) = span_some w.left w.right

-- an object's first signal is one of the instance
pub placed_in : (n : List ℕ) (o : DataObject) (first : ℕ) (ds : List Declared) → IsPlaced n o first ds → (first ≤ o.first) × (o.first < first + signals_in ds)
placed_in n o first [] h = absurd h
placed_in n o first (d ∷ ds) (inl h) =
    let e : o.first ≡ first = ap (λ (x : DataObject). x.first) h.1 in let k = some_signals d.words in (omega (arith, e), omega (arith, e, k))
placed_in n o first (d ∷ ds) (inr h) = let r = placed_in n o (first + count_of d.words) ds h in let a = r.0 in let b = r.1 in (omega (arith, a), omega (arith, b))

-- objects with one first signal are one
pub placed_once : (n m : List ℕ) (o p : DataObject) (first : ℕ) (ds : List Declared) → IsPlaced n o first ds → IsPlaced m p first ds → o.first ≡ p.first → (n ≡ m) × (o ≡ p)
placed_once n m o p first [] h k e = absurd h
placed_once n m o p first (d ∷ ds) (inl h) (inl k) e = (h.0 ∙ sym k.0, h.1 ∙ sym k.1)
placed_once n m o p first (d ∷ ds) (inl h) (inr k) e =
    let f : o.first ≡ first = ap (λ (x : DataObject). x.first) h.1 in
    let r = (placed_in m p (first + count_of d.words) ds k).0 in let s = some_signals d.words in absurd (omega (arith, e, f, r, s))
placed_once n m o p first (d ∷ ds) (inr h) (inl k) e =
    let f : p.first ≡ first = ap (λ (x : DataObject). x.first) k.1 in
    let r = (placed_in n o (first + count_of d.words) ds h).0 in let s = some_signals d.words in absurd (omega (arith, e, f, r, s))
placed_once n m o p first (d ∷ ds) (inr h) (inr k) e = placed_once n m o p (first + count_of d.words) ds h k e

pub placed_member : (n : List ℕ) (o : DataObject) (first : ℕ) (ds : List Declared) → IsPlaced n o first ds
    → (x : Declared) × Member x ds × (x.name ≡ n) × (o.kind ≡ kind_of x.direction x.sort) × (o.words ≡ x.words)
placed_member n o first [] h = absurd h
placed_member n o first (d ∷ ds) (inl h) = (d, inl refl, sym h.0, ap (λ (x : DataObject). x.kind) h.1, ap (λ (x : DataObject). x.words) h.1)
placed_member n o first (d ∷ ds) (inr h) = let r = placed_member n o (first + count_of d.words) ds h in (r.0, inr r.1, r.2, r.3, r.4)

entry_placed : (n : List ℕ) (o : DataObject) (first : ℕ) (ds : List Declared) → means (entries first ds) n ≡ Some (Object o) → IsPlaced n o first ds
entry_placed n o first [] h = cc
entry_placed n o first (d ∷ ds) h = go (bytes_eq n d.name) refl h (entry_placed n o (first + count_of d.words) ds)
  where
    go : (b : Bool) → bytes_eq n d.name ≡ b → (if b then Some (Object (object_of first d)) else means (entries (first + count_of d.words) ds) n) ≡ Some (Object o)
        → (means (entries (first + count_of d.words) ds) n ≡ Some (Object o) → IsPlaced n o (first + count_of d.words) ds) → IsPlaced n o first (d ∷ ds)
    go true e f later = inl (same_name n d.name e, (let k : o ≡ object_of first d = cc in k))
    go false e f later = inr (later f)

constant_passed : (n : List ℕ) (o : DataObject) (es fs : Entries) → AreConstants es → means (es ++ fs) n ≡ Some (Object o) → means fs n ≡ Some (Object o)
constant_passed n o [] fs h e = e
constant_passed n o (x ∷ es) fs h e = go (bytes_eq n x.0) x.1 h.0 e (constant_passed n o es fs h.1)
  where
    go : (b : Bool) (y : Meaning) → IsConstant y → (if b then Some y else means (es ++ fs) n) ≡ Some (Object o) → (means (es ++ fs) n ≡ Some (Object o) → means fs n ≡ Some (Object o))
        → means fs n ≡ Some (Object o)
    go true (Constant ds b) k f later = cc
    go true (Object p) k f later = absurd k
    go true Later k f later = absurd k
    go false y k f later = later f

-- what a name of the instance means
abbrev pub HasScope : ℕ → List Declared → Scope → Type 0
HasScope first ds s = (n : List ℕ) (o : DataObject) → find n s ≡ Some (Object o) → IsPlaced n o first ds

pub has_scope : (constants : Entries) (d : Design) (ds : List Declared) → AreConstants constants → HasScope (length d.signals) ds (scope_of constants d ds)
has_scope constants d ds h n o e = entry_placed n o (length d.signals) ds (constant_passed n o constants (entries (length d.signals) ds) h e)

-- ---- in order

pub port_line : (x : Declared) (ps : List Port) (ds : List Declared) → Member x (port_lines ps ds) → (q : Port) × Member q ps × (find_declared q.name ds ≡ Some x)
port_line x [] ds h = absurd h
port_line x (p ∷ ps) ds h = go (find_declared p.name ds) refl h (port_line x ps ds)
  where
    later : (Member x (port_lines ps ds) → (q : Port) × Member q ps × (find_declared q.name ds ≡ Some x)) → Member x (port_lines ps ds)
        → (q : Port) × Member q (p ∷ ps) × (find_declared q.name ds ≡ Some x)
    later k g = let r = k g in (r.0, inr r.1, r.2)

    one : (d : Declared) → find_declared p.name ds ≡ Some d → Member x (d ∷ port_lines ps ds) → (Member x (port_lines ps ds) → (q : Port) × Member q ps × (find_declared q.name ds ≡ Some x))
        → (q : Port) × Member q (p ∷ ps) × (find_declared q.name ds ≡ Some x)
    one d e (inl f) k = (p, inl refl, e ∙ ap Some (sym f))
    one d e (inr g) k = later k g

    go : (o : Option Declared) → find_declared p.name ds ≡ o → Member x (listed o ++ port_lines ps ds) → (Member x (port_lines ps ds) → (q : Port) × Member q ps × (find_declared q.name ds ≡ Some x))
        → (q : Port) × Member q (p ∷ ps) × (find_declared q.name ds ≡ Some x)
    go None e g k = later k g
    go (Some d) e g k = one d e g k

pub other_line : (x : Declared) (ns : List (List ℕ)) (ds : List Declared) → Member x (other_lines ns ds) → Member x ds × (list_any (bytes_eq x.name) ns ≡ false)
other_line x ns [] h = absurd h
other_line x ns (d ∷ ds) h = go (list_any (bytes_eq d.name) ns) refl h (other_line x ns ds)
  where
    one : list_any (bytes_eq d.name) ns ≡ false → Member x (d ∷ other_lines ns ds) → (Member x (other_lines ns ds) → Member x ds × (list_any (bytes_eq x.name) ns ≡ false))
        → Member x (d ∷ ds) × (list_any (bytes_eq x.name) ns ≡ false)
    one e (inl f) k = (inl f, ap (λ (y : Declared). list_any (bytes_eq y.name) ns) f ∙ e)
    one e (inr g) k = let r = k g in (inr r.0, r.1)

    go : (b : Bool) → list_any (bytes_eq d.name) ns ≡ b → Member x (if b then other_lines ns ds else d ∷ other_lines ns ds) → (Member x (other_lines ns ds) → Member x ds × (list_any (bytes_eq x.name) ns ≡ false))
        → Member x (d ∷ ds) × (list_any (bytes_eq x.name) ns ≡ false)
    go true e g k = let r = k g in (inr r.0, r.1)
    go false e g k = one e g k

pub order_member : (x : Declared) (ps : List Port) (ds : List Declared) → Member x (in_order ps ds) → Member x ds
order_member x ps ds h = go (member_both x (port_lines ps ds) (other_lines (map port_name ps) ds) h)
  where
    go : Member x (port_lines ps ds) ⊎ Member x (other_lines (map port_name ps) ds) → Member x ds
    go (inl a) = let r = port_line x ps ds a in (found_member r.0.name ds x r.2).0
    go (inr b) = (other_line x (map port_name ps) ds b).0

pub order_plain : (ps : List Port) (ds : List Declared) → ArePlain ds → ArePlain (in_order ps ds)
order_plain ps ds h x m = h x (order_member x ps ds m)

pub member_named : (p : Port) (ps : List Port) → Member p ps → Among p.name (map port_name ps)
member_named p (q ∷ ps) (inl e) = ap (λ (r : Port). list_any (bytes_eq r.name) (map port_name (q ∷ ps))) e ∙ among_first q.name (map port_name ps)
member_named p (q ∷ ps) (inr m) = go (bytes_eq p.name q.name) (member_named p ps m)
  where
    go : (b : Bool) → Among p.name (map port_name ps) → (b || list_any (bytes_eq p.name) (map port_name ps)) ≡ true
    go true k = refl
    go false k = k
member_named p [] m = absurd m

-- what is declared with a port's name is the first that was
pub order_found : (p : Port) (ps : List Port) (ds : List Declared) (x : Declared) → Member p ps → Member x (in_order ps ds) → x.name ≡ p.name → find_declared p.name ds ≡ Some x
order_found p ps ds x k h e = go (member_both x (port_lines ps ds) (other_lines (map port_name ps) ds) h)
  where
    go : Member x (port_lines ps ds) ⊎ Member x (other_lines (map port_name ps) ds) → find_declared p.name ds ≡ Some x
    go (inl a) =
        let r = port_line x ps ds a in
        let f : r.0.name ≡ p.name = sym (found_member r.0.name ds x r.2).1 ∙ e in ap (λ n. find_declared n ds) (sym f) ∙ r.2
    go (inr b) =
        let r = (other_line x (map port_name ps) ds b).1 in
        let f : list_any (bytes_eq x.name) (map port_name ps) ≡ true = ap (λ n. list_any (bytes_eq n) (map port_name ps)) e ∙ member_named p ps k in cc

-- ---- what is known of objects

-- no net has words
pub net_words : (first : ℕ) (ds : List Declared) → ArePlain ds → (n : List ℕ) (o : DataObject) → IsPlaced n o first ds → o.kind ≡ Net → o.words ≡ None
net_words first ds plain n o h e = go x.0.words refl
  where
    x : (x : Declared) × Member x ds × (x.name ≡ n) × (o.kind ≡ kind_of x.direction x.sort) × (o.words ≡ x.words)
    x = placed_member n o first ds h

    go : (w : Option Bounds) → x.0.words ≡ w → o.words ≡ None
    go None f = x.4 ∙ f
    go (Some w) f =
        let p = plain x.0 x.1 w f in
        let k : o.kind ≡ Register = x.3 ∙ ap (λ d. kind_of d x.0.sort) p.0 ∙ ap (λ s. kind_of None s) p.1 in
        let g : Register ≡ Net = sym k ∙ e in cc

-- the object of a port that is no output is an input
pub input_or_output : (first : ℕ) (p : Port) (ps : List Port) (ds : List Declared) → Member p ps → HasDirection p ds → (o : DataObject) → IsPlaced p.name o first (in_order ps ds)
    → (p.direction ≡ Some direction.Output) ⊎ ((p.direction ≡ Some direction.Input) × (o.kind ≡ Input))
input_or_output first p ps ds here has o h = go has.direction refl
  where
    x : (x : Declared) × Member x (in_order ps ds) × (x.name ≡ p.name) × (o.kind ≡ kind_of x.direction x.sort) × (o.words ≡ x.words)
    x = placed_member p.name o first (in_order ps ds) h

    one : x.0 ≡ has.declared.one
    one = let e : Some x.0 ≡ Some has.declared.one = sym (order_found p ps ds x.0 here x.1 x.2) ∙ has.declared.found in cc

    go : (d : Direction) → has.direction ≡ d → (p.direction ≡ Some direction.Output) ⊎ ((p.direction ≡ Some direction.Input) × (o.kind ≡ Input))
    go direction.Output e = inl (has.is ∙ ap Some e)
    go direction.Input e =
        let f : x.0.direction ≡ Some direction.Input = ap (λ (y : Declared). y.direction) one ∙ has.declared.is ∙ ap Some e in
        inr (has.is ∙ ap Some e, x.3 ∙ ap (λ d. kind_of d x.0.sort) f)
