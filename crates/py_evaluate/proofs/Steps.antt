-- Arguments, and parts of f-strings, one after the other.
use Rattle.std.proofs.Common.{◌≡◌, ℕ, suc, ◌+◌, ◌<◌, ◌≤◌, List, [], ◌∷◌, ◌++◌, length, drop, get_or, Ok, Err, refl, ap, sym, subst, inl, inr, ◌⊎◌, ◌∙◌, add-one, append_assoc, arith}
use Rattle.std.proofs.Math.Seq.{drop-cons}
use Rattle.std.proofs.lemmas.List.{drop_all}
use Rattle.py_syntax.specs.ExpressionTrees.{Then, view, view_part, view_row, view_parts}
use Rattle.py_syntax.specs.declared.expression.Expression.{Expression, Row_of-Expression, end_of-Expression, more_of-Expression, Row_of-FormatPart, end_of-FormatPart, more_of-FormatPart}
use Rattle.py_syntax.specs.declared.expression.Expression.TheBlock.{items-the_row-Expression, items-the_row-FormatPart}
use Rattle.py_syntax.specs.declared.expression.FormatPart.{FormatPart}
use Rattle.py_syntax.specs.declared.expression.FormatPart.TheVariants as part
use Rattle.py_value.specs.Answer.{Answer}
use Rattle.py_value.specs.Shown.{shown}
use Rattle.py_value.specs.declared.value.Value.{Value}
use Rattle.py_evaluate.specs.declared.attribute.fault.OperationFault.{OperationFault}
use Rattle.py_evaluate.specs.declared.attribute.fault.OperationFault.TheVariants as faults
use Rattle.py_evaluate.specs.Attribute.Look.{View}
use Rattle.py_evaluate.specs.Attribute.Knows.{Knows, KnowsAll}
use Rattle.py_evaluate.specs.Attribute.Outcome.{Outcome, Scope, EndsByFault, gives, bind, after}
use Rattle.py_evaluate.specs.Eval.{eval, eval_row, eval_parts}
use Rattle.py_evaluate.specs.Rows.{trees_of, parts_of, part_bytes, PartWants}
use Rattle.py_evaluate.specs.Wants.{Wants, RowWants, PartsWant, Behind}
use Rattle.py_evaluate.proofs.Chains.{behind_at}

-- ---- the code's rows as lists

pub row_trees : (n : _) (k : Row_of-Expression n) → view_row k ≡ trees_of (items-the_row-Expression n k)
row_trees n end_of-Expression = refl
row_trees n (more_of-Expression e rest) = ap (λ ts. Then (view e) ts) (row_trees _ rest)

pub row_parts : (n : _) (k : Row_of-FormatPart n) → view_parts k ≡ parts_of (items-the_row-FormatPart n k)
row_parts n end_of-FormatPart = refl
row_parts n (more_of-FormatPart p rest) = ap (λ ps. view_part p ps) (row_parts _ rest)

-- ---- a list behind another one

pub behind : {A : Type 0} → List A → Outcome (List A) → Outcome (List A)
behind xs o = bind o (λ ys k. gives (xs ++ ys) k)

pub behind_none : {A : Type 0} (o : Outcome (List A)) → behind [] o ≡ o
unfolding behind
behind_none o = at o.answer o.next
  where
    at : {A : Type 0} (a : Answer (List A)) (k : ℕ) → after a k (λ ys k. gives ys k) ≡ record { answer = a; next = k }
    at (Ok ys) k = refl
    at (Err kind) k = refl

behind_more : {A : Type 0} (xs ys : List A) (a : Answer (List A)) (k : ℕ)
    → behind xs (after a k (λ zs i. gives (ys ++ zs) i)) ≡ behind (xs ++ ys) (record { answer = a; next = k })
unfolding behind
behind_more xs ys (Ok zs) k = ap (λ (q : List _). gives q k) (sym (append_assoc xs ys zs))
behind_more xs ys (Err kind) k = refl

-- ---- arguments

-- an outcome of the first, and then the others
abbrev and_others : Scope → List Expression → Outcome Value → Outcome (List Value)
and_others s es o = bind o (λ v j. bind (eval_row s (trees_of es) j) (λ vs i. gives (v ∷ vs) i))

-- the arguments from a place on
from_place : (s : Scope) (es : List Expression) (n : ℕ) (e : Expression) (k : ℕ) → n < length es → e ≡ get_or es n e
    → eval_row s (trees_of (drop n es)) k ≡ and_others s (drop (n + 1) es) (eval s (view e) k)
from_place s es n e k h is =
    rw add-one (ap (λ (l : List Expression). eval_row s (trees_of l) k) (drop-cons es n e h ∙ ap (λ (x : Expression). x ∷ drop (suc n) es) (sym is)))

pub values_step : (s : Scope) (es : List Expression) (n : ℕ) (e : Expression) (vs : List Value) (k j : ℕ) (v : Value) (whole : Outcome (List Value))
    → n < length es → e ≡ get_or es n e → behind vs (eval_row s (trees_of (drop n es)) k) ≡ whole → eval s (view e) k ≡ gives v j
    → behind (vs ++ v ∷ []) (eval_row s (trees_of (drop (n + 1) es)) j) ≡ whole
values_step s es n e vs k j v whole h is w g =
    let o = eval_row s (trees_of (drop (n + 1) es)) j in
    sym (behind_more vs (v ∷ []) o.answer o.next)
    ∙ (sym (ap (λ (p : Outcome Value). behind vs (and_others s (drop (n + 1) es) p)) g)
    ∙ (sym (ap (behind vs) (from_place s es n e k h is)) ∙ w))

pub values_fault : (s : Scope) (es : List Expression) (n : ℕ) (e : Expression) (vs : List Value) (k j : ℕ) (fault : OperationFault) (whole : Outcome (List Value))
    → n < length es → e ≡ get_or es n e → behind vs (eval_row s (trees_of (drop n es)) k) ≡ whole → EndsByFault fault j (eval s (view e) k)
    → EndsByFault fault j whole
unfolding behind
values_fault s es n e vs k j (faults.Raised kind) whole h is w g =
    sym w ∙ (ap (behind vs) (from_place s es n e k h is) ∙ ap (λ (p : Outcome Value). behind vs (and_others s (drop (n + 1) es) p)) g)
values_fault s es n e vs k j faults.OutOfMemory whole h is w g = tt

pub values_end : (s : Scope) (es : List Expression) (n : ℕ) (vs : List Value) (k : ℕ) (whole : Outcome (List Value))
    → length es ≤ n → behind vs (eval_row s (trees_of (drop n es)) k) ≡ whole → whole ≡ gives vs k
unfolding behind
values_end s es n vs k whole h w =
    sym w ∙ (ap (λ (l : List Expression). behind vs (eval_row s (trees_of l) k)) (drop_all n es h) ∙ ap (λ (q : List Value). gives q k) (append_nil vs))
  where
    append_nil : {A : Type 0} (xs : List A) → xs ++ [] ≡ xs
    append_nil [] = refl
    append_nil (x ∷ xs) = ap (λ (q : List _). x ∷ q) (append_nil xs)

pub known_more : (view : View) (vs : List Value) (v : Value) → KnowsAll view vs → Knows view v → KnowsAll view (vs ++ v ∷ [])
known_more view [] v h k = (k, tt)
known_more view (x ∷ vs) v h k = (h.0, known_more view vs v h.1 k)

-- ---- parts of f-strings

abbrev and_parts : Scope → List FormatPart → Outcome (List ℕ) → Outcome (List ℕ)
and_parts s ps o = bind o (λ bs j. bind (eval_parts s (parts_of ps) j) (λ more i. gives (bs ++ more) i))

first_part : (s : Scope) (p : FormatPart) (ps : List FormatPart) (k : ℕ) → eval_parts s (view_part p (parts_of ps)) k ≡ and_parts s ps (part_bytes s p k)
first_part s (part.Text t) ps k = refl
first_part s (part.Formatted' q e) ps k = at (eval s (view e) k).answer (eval s (view e) k).next
  where
    at : (a : Answer Value) (i : ℕ) → after a i (λ v j. bind (eval_parts s (parts_of ps) j) (λ bytes i. gives (shown s.view.places v ++ bytes) i))
        ≡ and_parts s ps (after a i (λ v j. gives (shown s.view.places v) j))
    at (Ok v) i = refl
    at (Err kind) i = refl

part_at : (s : Scope) (ps : List FormatPart) (n : ℕ) (p : FormatPart) (k : ℕ) → n < length ps → p ≡ get_or ps n p
    → eval_parts s (parts_of (drop n ps)) k ≡ and_parts s (drop (n + 1) ps) (part_bytes s p k)
part_at s ps n p k h is =
    rw add-one (ap (λ (l : List FormatPart). eval_parts s (parts_of l) k) (drop-cons ps n p h ∙ ap (λ (x : FormatPart). x ∷ drop (suc n) ps) (sym is))
    ∙ first_part s p (drop (suc n) ps) k)

pub text_step : (s : Scope) (ps : List FormatPart) (n : ℕ) (p : FormatPart) (bs : List ℕ) (k j : ℕ) (shown : List ℕ) (whole : Outcome (List ℕ))
    → n < length ps → p ≡ get_or ps n p → behind bs (eval_parts s (parts_of (drop n ps)) k) ≡ whole → part_bytes s p k ≡ gives shown j
    → behind (bs ++ shown) (eval_parts s (parts_of (drop (n + 1) ps)) j) ≡ whole
text_step s ps n p bs k j shown whole h is w g =
    let o = eval_parts s (parts_of (drop (n + 1) ps)) j in
    sym (behind_more bs shown o.answer o.next)
    ∙ (sym (ap (λ (q : Outcome (List ℕ)). behind bs (and_parts s (drop (n + 1) ps) q)) g)
    ∙ (sym (ap (behind bs) (part_at s ps n p k h is)) ∙ w))

pub text_fault : (s : Scope) (ps : List FormatPart) (n : ℕ) (p : FormatPart) (bs : List ℕ) (k j : ℕ) (fault : OperationFault) (whole : Outcome (List ℕ))
    → n < length ps → p ≡ get_or ps n p → behind bs (eval_parts s (parts_of (drop n ps)) k) ≡ whole → EndsByFault fault j (part_bytes s p k)
    → EndsByFault fault j whole
unfolding behind
text_fault s ps n p bs k j (faults.Raised kind) whole h is w g =
    sym w ∙ (ap (behind bs) (part_at s ps n p k h is) ∙ ap (λ (q : Outcome (List ℕ)). behind bs (and_parts s (drop (n + 1) ps) q)) g)
text_fault s ps n p bs k j faults.OutOfMemory whole h is w g = tt

pub text_end : (s : Scope) (ps : List FormatPart) (n : ℕ) (bs : List ℕ) (k : ℕ) (whole : Outcome (List ℕ))
    → length ps ≤ n → behind bs (eval_parts s (parts_of (drop n ps)) k) ≡ whole → whole ≡ gives bs k
unfolding behind
text_end s ps n bs k whole h w =
    sym w ∙ (ap (λ (l : List FormatPart). behind bs (eval_parts s (parts_of l) k)) (drop_all n ps h) ∙ ap (λ (q : List ℕ). gives q k) (append_nil bs))
  where
    append_nil : {A : Type 0} (xs : List A) → xs ++ [] ≡ xs
    append_nil [] = refl
    append_nil (x ∷ xs) = ap (λ (q : List _). x ∷ q) (append_nil xs)

-- ---- want of memory

-- in the argument at a place, or for keeping it, or in those behind it
pub argument_wants : (s : Scope) (es : List Expression) (n : ℕ) (e : Expression) (k j : ℕ) → n < length es → e ≡ get_or es n e
    → Wants s (view e) k j ⊎ Behind (eval s (view e) k) (λ v i. (j ≡ i) ⊎ RowWants s (trees_of (drop (n + 1) es)) i j) → RowWants s (trees_of (drop n es)) k j
argument_wants s es n e k j h is w =
    subst (λ (l : List Expression). RowWants s (trees_of l) k j) (ap (λ (x : Expression). x ∷ drop (suc n) es) is ∙ sym (drop-cons es n e h)) (rw add-one at w)

-- the others' want is that of all of them
pub others_want : (s : Scope) (es : List Expression) (n : ℕ) (e : Expression) (k j : ℕ) (v : Value) (i : ℕ) → n < length es → e ≡ get_or es n e
    → eval s (view e) k ≡ gives v i → (j ≡ i) ⊎ RowWants s (trees_of (drop (n + 1) es)) i j → RowWants s (trees_of (drop n es)) k j
others_want s es n e k j v i h is g w =
    argument_wants s es n e k j h is (inr (behind_at (eval s (view e) k) (λ v l. (j ≡ l) ⊎ RowWants s (trees_of (drop (n + 1) es)) l j) v i g w))

part_first : (s : Scope) (p : FormatPart) (ps : List FormatPart) (k j : ℕ) → PartWants s p k j → PartsWant s (view_part p (parts_of ps)) k j
part_first s (part.Text t) ps k j w = inl w
part_first s (part.Formatted' q e) ps k j (inl w) = inl w
part_first s (part.Formatted' q e) ps k j (inr b) = inr (record { value = b.value; given = b.given; holds = inl b.holds })

-- want in one part
pub part_wants : (s : Scope) (ps : List FormatPart) (n : ℕ) (p : FormatPart) (k j : ℕ) → n < length ps → p ≡ get_or ps n p
    → PartWants s p k j → PartsWant s (parts_of (drop n ps)) k j
part_wants s ps n p k j h is w =
    subst (λ (l : List FormatPart). PartsWant s (parts_of l) k j) (ap (λ (x : FormatPart). x ∷ drop (suc n) ps) is ∙ sym (drop-cons ps n p h))
    (part_first s p (drop (suc n) ps) k j w)

-- want behind one part
part_on : (s : Scope) (p : FormatPart) (ps : List FormatPart) (k j : ℕ) (text : List ℕ) (i : ℕ) → part_bytes s p k ≡ gives text i
    → (j ≡ i) ⊎ PartsWant s (parts_of ps) i j → PartsWant s (view_part p (parts_of ps)) k j
part_on s (part.Text t) ps k j text i g (inl e) = inl (e ∙ sym (ap (λ (o : Outcome (List ℕ)). o.next) g))
part_on s (part.Text t) ps k j text i g (inr w) = inr (subst (λ m. PartsWant s (parts_of ps) m j) (sym (ap (λ (o : Outcome (List ℕ)). o.next) g)) w)
part_on s (part.Formatted' q e) ps k j text i g w = at (eval s (view e) k).answer (eval s (view e) k).next refl g
  where
    at : (a : Answer Value) (l : ℕ) → eval s (view e) k ≡ record { answer = a; next = l } → after a l (λ v m. gives (shown s.view.places v) m) ≡ gives text i
        → Wants s (view e) k j ⊎ Behind (eval s (view e) k) (λ v m. (j ≡ m) ⊎ PartsWant s (parts_of ps) m j)
    at (Ok v) l is same =
        inr (behind_at (eval s (view e) k) (λ v m. (j ≡ m) ⊎ PartsWant s (parts_of ps) m j) v l is
        (subst (λ m. (j ≡ m) ⊎ PartsWant s (parts_of ps) m j) (sym (ap (λ (p : Outcome (List ℕ)). p.next) same)) w))
    at (Err kind) l is same = absurd (grind arith)

pub parts_want : (s : Scope) (ps : List FormatPart) (n : ℕ) (p : FormatPart) (k j : ℕ) (text : List ℕ) (i : ℕ) → n < length ps → p ≡ get_or ps n p
    → part_bytes s p k ≡ gives text i → (j ≡ i) ⊎ PartsWant s (parts_of (drop (n + 1) ps)) i j → PartsWant s (parts_of (drop n ps)) k j
parts_want s ps n p k j text i h is g w =
    subst (λ (l : List FormatPart). PartsWant s (parts_of l) k j) (ap (λ (x : FormatPart). x ∷ drop (suc n) ps) is ∙ sym (drop-cons ps n p h))
    (part_on s p (drop (suc n) ps) k j text i g (rw add-one at w))
