-- Which node has which as a child, counted over the nodes of a design.
use Rattle.std.proofs.Common.{◌≡◌, ◌<◌, ◌+◌, ◌&&◌, ℕ, suc, Bool, true, false, List, [], ◌∷◌, ◌++◌, length, nat_lt, slice_set, Option, Some, None, refl, ap, subst, arith}
use Rattle.gpi.specs.declared.design.Spot.{Spot}
use Rattle.gpi.specs.declared.design.Spot.TheVariants.{Inner, Sig, Words}
use Rattle.gpi.specs.Soundness.{is_child}
use Rattle.v_flat.specs.declared.scope.meaning.Bounds.{Bounds}
use Rattle.v_flat.specs.declared.scope.meaning.DataObject.{DataObject}
use Rattle.v_flat.specs.Objects.{count_of}
use Rattle.v_flat.specs.Declarations.{Declared}
use Rattle.v_flat.specs.Paths.{NodeAt}
use Rattle.v_flat.specs.Design.{children, object_of, spot_of}

abbrev pub Children : Type 0
Children = List (List ℕ × Spot)

abbrev pub one_if : Bool → ℕ
one_if true = 1
one_if false = 0

-- how often the node v is among the children
abbrev pub count : ℕ → Children → ℕ
count v [] = 0
count v (c ∷ cs) = one_if (is_child v c.1) + count v cs

-- how often it is a child of these nodes
abbrev pub total : ℕ → List NodeAt → ℕ
total v [] = 0
total v (n ∷ ns) = count v n.children + total v ns

-- v is one of the n nodes behind a
abbrev pub is_behind : ℕ → ℕ → ℕ → Bool
is_behind v a n = nat_lt a v && nat_lt v (a + n)

-- each instance among the children has a number above a
abbrev pub IsAbove : ℕ → Spot → Type 0
IsAbove a (Inner k) = a < k
IsAbove a (Sig s) = Unit {0}
IsAbove a (Words f l c) = Unit {0}

abbrev pub AreAbove : ℕ → Children → Type 0
AreAbove a [] = Unit {0}
AreAbove a (c ∷ cs) = IsAbove a c.1 × AreAbove a cs

-- so it is of each node; they are numbered from a
abbrev pub EachAbove : ℕ → List NodeAt → Type 0
EachAbove a [] = Unit {0}
EachAbove a (n ∷ ns) = AreAbove a n.children × EachAbove (suc a) ns

pub count_more : (v : ℕ) (cs ds : Children) → count v (cs ++ ds) ≡ count v cs + count v ds
count_more v [] ds = omega arith
count_more v (c ∷ cs) ds = let e = count_more v cs ds in grind (arith, e)

pub total_more : (v : ℕ) (xs ys : List NodeAt) → total v (xs ++ ys) ≡ total v xs + total v ys
total_more v [] ys = omega arith
total_more v (x ∷ xs) ys = let e = total_more v xs ys in grind (arith, e)

pub above_more : (a : ℕ) (cs ds : Children) → AreAbove a cs → AreAbove a ds → AreAbove a (cs ++ ds)
above_more a [] ds h k = k
above_more a (c ∷ cs) ds h k = (h.0, above_more a cs ds h.1 k)

pub each_above_more : (a : ℕ) (xs ys : List NodeAt) → EachAbove a xs → EachAbove (a + length xs) ys → EachAbove a (xs ++ ys)
each_above_more a [] ys h k = let e : a + 0 ≡ a = omega arith in subst (λ n. EachAbove n ys) e k
each_above_more a (x ∷ xs) ys h k =
    let e : a + suc (length xs) ≡ suc a + length xs = omega arith in
    (h.0, each_above_more (suc a) xs ys h.1 (subst (λ n. EachAbove n ys) e k))

-- ---- the declared names, of which none is an instance

spot_count : (v : ℕ) (o : DataObject) (w : Option Bounds) → one_if (is_child v (spot_of o w)) ≡ 0
spot_count v o None = refl
spot_count v o (Some w) = refl

pub none_declared : (v first : ℕ) (ds : List Declared) → count v (children first ds) ≡ 0
none_declared v first [] = refl
none_declared v first (d ∷ ds) =
    let h = none_declared v (first + count_of d.words) ds in
    let k = spot_count v (object_of first d) d.words in grind (arith, h, k)

spot_above : (a : ℕ) (o : DataObject) (w : Option Bounds) → IsAbove a (spot_of o w)
spot_above a o None = tt
spot_above a o (Some w) = tt

pub declared_above : (a first : ℕ) (ds : List Declared) → AreAbove a (children first ds)
declared_above a first [] = tt
declared_above a first (d ∷ ds) = (spot_above a (object_of first d) d.words, declared_above a (first + count_of d.words) ds)

-- ---- a node in its place

pub set_behind : (xs : List NodeAt) (x y : NodeAt) (ys : List NodeAt) → slice_set (xs ++ (x ∷ ys)) (length xs) y ≡ xs ++ (y ∷ ys)
set_behind [] x y ys = refl
set_behind (z ∷ zs) x y ys = ap (λ ns. z ∷ ns) (set_behind zs x y ys)
