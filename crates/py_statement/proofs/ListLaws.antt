-- Lists of expressions of a known length, and what is kept of them.
use Rattle.std.proofs.Common.{◌≡◌, ℕ, max, List, [], ◌∷◌, ◌<◌, ◌≤◌, map, length, Some, refl, sym, ap, ◌∙◌, arith, subst, false, ◌⊎◌, inl, inr}
use Rattle.py_syntax.specs.ExpressionTrees.{Tree, Constant, FormatString, Name, Bracketed, Attribute, Subscript, Call, MethodCall, Unary, Infix, height}
use Rattle.py_syntax.specs.StatementTables.{fault_name}
use Rattle.py_syntax.specs.StatementTrees.{Span, Stop, StartStop, StartStopStep}
use Rattle.py_syntax.specs.StatementForms.{has_places, can_log}
use Rattle.py_syntax.specs.CallForms.{SpellsValues}
use Rattle.py_syntax.specs.declared.fault_kind.FaultKind.{FaultKind}
use Rattle.py_syntax.specs.declared.token.Token.{Token}
use Rattle.py_expression.specs.Shown.{nothing}
use Rattle.py_expression.proofs.Nodes.{at_most_or_more}
use Rattle.py_expression.proofs.PhraseLemmas.Facts.{some_same}
use Rattle.py_statement.specs.Call.Kept.{lowered, kept, kept_list}
use Rattle.py_statement.specs.Call.Chosen.{made, ended}
use Rattle.py_statement.specs.Call.Reading.{only_value_of}
use Rattle.py_statement.proofs.CallLemmas.Chosen.{not_some, also_is, made_is, ended_is}
use Rattle.py_statement.proofs.CallLemmas.ValueLaws.{lowered_low, lowered_high}
use Rattle.py_statement.proofs.CallLemmas.ValueListLaws.{only_value_sound, only_value_again}
use Rattle.py_statement.specs.Kept.{kept_span}
use Rattle.py_statement.specs.Reading.{range_of, one_value_of, kind_of, kinds_behind}
use Rattle.py_statement.proofs.Places.{kinds_of, kinds_same}
use Rattle.py_statement.proofs.TableLaws.{fault_is, fault_again}

-- ---- one

pub one_value_sound : (limit : ℕ) (ts : List Token) (v : Tree × ℕ) → one_value_of limit ts ≡ Some v → (e : Tree) × SpellsValues (e ∷ []) ts [] × (v ≡ kept limit e)
unfolding one_value_of
one_value_sound limit ts v h =
    let (x, a, b) = also_is (only_value_of limit ts) (λ y. ended y.0 y.1) v h in
    let (end, same) = ended_is x.0 v x.1 b in
    let (e, s, k) = only_value_sound limit ts x.1 x.0 a in
    (e, subst (λ us. SpellsValues (e ∷ []) ts us) end s, sym same ∙ k)

pub one_value_again : (limit : ℕ) (e : Tree) (ts : List Token) → SpellsValues (e ∷ []) ts [] → one_value_of limit ts ≡ Some (kept limit e)
unfolding one_value_of
one_value_again limit e ts s = rw (only_value_again limit e ts [] s)

-- ---- one to three

same_one : (a b : Tree) → Stop a ≡ Stop b → a ≡ b
same_one a b h = cc

pub range_kept : (limit : ℕ) (es : List Tree) (s : Span) → range_of (kept_list (kept limit) es).0 ≡ Some s
    → (r : Span) × ((s, (kept_list (kept limit) es).1) ≡ kept_span limit r) × (range_of es ≡ Some r)
unfolding kept_list
range_kept limit [] s h = absurd (not_some h)
range_kept limit (e ∷ []) s h =
    (Stop e, ap (λ t. (t, max (kept limit e).1 0)) (sym (some_same h)) ∙ ap (λ n. (Stop (kept limit e).0, n)) (let k : max (kept limit e).1 0 ≡ (kept limit e).1 = omega arith in k), refl)
range_kept limit (e ∷ f ∷ []) s h = (
  StartStop e f,
  ap (λ t. (t, max (kept limit e).1 (max (kept limit f).1 0))) (sym (some_same h))
      ∙ ap (λ n. (StartStop (kept limit e).0 (kept limit f).0, n)) (let k : max (kept limit e).1 (max (kept limit f).1 0) ≡ max (kept limit e).1 (kept limit f).1 = omega arith in k),
  refl,
)
range_kept limit (e ∷ f ∷ g ∷ []) s h = (
  StartStopStep e f g,
  ap (λ t. (t, max (kept limit e).1 (max (kept limit f).1 (max (kept limit g).1 0)))) (sym (some_same h))
      ∙ ap (λ n. (StartStopStep (kept limit e).0 (kept limit f).0 (kept limit g).0, n))
      (let k : max (kept limit e).1 (max (kept limit f).1 (max (kept limit g).1 0)) ≡ max (kept limit e).1 (max (kept limit f).1 (kept limit g).1) = omega arith in k),
  refl,
)
range_kept limit (e ∷ f ∷ g ∷ i ∷ es) s h = absurd (not_some h)

pub range_again : (limit : ℕ) (es : List Tree) (r : Span) → range_of es ≡ Some r → (s : Span) × (range_of (kept_list (kept limit) es).0 ≡ Some s) × ((s, (kept_list (kept limit) es).1) ≡ kept_span limit r)
unfolding kept_list
range_again limit [] r h = absurd (not_some h)
range_again limit (e ∷ []) r h =
    (Stop (kept limit e).0, refl, ap (λ n. (Stop (kept limit e).0, n)) (let k : max (kept limit e).1 0 ≡ (kept limit e).1 = omega arith in k) ∙ ap (kept_span limit) (some_same h))
range_again limit (e ∷ f ∷ []) r h = (
  StartStop (kept limit e).0 (kept limit f).0,
  refl,
  ap (λ n. (StartStop (kept limit e).0 (kept limit f).0, n)) (let k : max (kept limit e).1 (max (kept limit f).1 0) ≡ max (kept limit e).1 (kept limit f).1 = omega arith in k) ∙ ap (kept_span limit) (some_same h),
)
range_again limit (e ∷ f ∷ g ∷ []) r h = (
  StartStopStep (kept limit e).0 (kept limit f).0 (kept limit g).0,
  refl,
  ap (λ n. (StartStopStep (kept limit e).0 (kept limit f).0 (kept limit g).0, n))
      (let k : max (kept limit e).1 (max (kept limit f).1 (max (kept limit g).1 0)) ≡ max (kept limit e).1 (max (kept limit f).1 (kept limit g).1) = omega arith in k) ∙ ap (kept_span limit) (some_same h),
)
range_again limit (e ∷ f ∷ g ∷ i ∷ es) r h = absurd (not_some h)

-- ---- a text and its values

no_constant : (limit : ℕ) (positive : 1 ≤ limit) (e : Tree) (n : ℕ) → limit < height e → has_places e n ≡ false
unfolding height
no_constant limit positive (Constant c) n h = absurd (omega arith)
no_constant limit positive (FormatString ps) n h = refl
no_constant limit positive (Name m) n h = refl
no_constant limit positive (Bracketed e) n h = refl
no_constant limit positive (Attribute e m) n h = refl
no_constant limit positive (Subscript e i) n h = refl
no_constant limit positive (Call f es) n h = refl
no_constant limit positive (MethodCall e m) n h = refl
no_constant limit positive (Unary op e) n h = refl
no_constant limit positive (Infix op l r) n h = refl

places_kept : (limit : ℕ) (positive : 1 ≤ limit) (e : Tree) (n : ℕ) → has_places (kept limit e).0 n ≡ has_places e n
places_kept limit positive e n = go (at_most_or_more (height e) limit)
  where
    go : (height e ≤ limit) ⊎ (limit < height e) → has_places (kept limit e).0 n ≡ has_places e n
    go (inl l) = ap (λ (v : Tree × ℕ). has_places v.0 n) (lowered_low limit 0 e (height e) (omega arith))
    go (inr l) = ap (λ (v : Tree × ℕ). has_places v.0 n) (lowered_high limit 0 e (height e) (omega arith)) ∙ sym (no_constant limit positive e n l)

length_kept : (limit : ℕ) (es : List Tree) → length (kept_list (kept limit) es).0 ≡ length es
unfolding kept_list
length_kept limit [] = refl
length_kept limit (e ∷ es) = let k = length_kept limit es in omega arith

pub can_log_kept : (limit : ℕ) (positive : 1 ≤ limit) (e : Tree) (es : List Tree) → can_log (kept limit e).0 (kept_list (kept limit) es).0 ≡ can_log e es
unfolding can_log kept_list
can_log_kept limit positive e [] = refl
can_log_kept limit positive e (x ∷ xs) =
    places_kept limit positive e (length ((kept limit x).0 ∷ (kept_list (kept limit) xs).0))
    ∙ ap (λ n. has_places e n) (let k = length_kept limit xs in let l : length ((kept limit x).0 ∷ (kept_list (kept limit) xs).0) ≡ length (x ∷ xs) = omega arith in l)

-- ---- kinds of faults

kind_of_is : (t : Tree) (k : FaultKind) → kind_of t ≡ Some k → t ≡ Name (fault_name k)
unfolding kind_of
kind_of_is (Name n) k h = ap (λ m. Name m) (fault_is n k h)
kind_of_is (Constant c) k h = absurd (not_some h)
kind_of_is (FormatString ps) k h = absurd (not_some h)
kind_of_is (Bracketed e) k h = absurd (not_some h)
kind_of_is (Attribute e n) k h = absurd (not_some h)
kind_of_is (Subscript e i) k h = absurd (not_some h)
kind_of_is (Call f es) k h = absurd (not_some h)
kind_of_is (MethodCall e m) k h = absurd (not_some h)
kind_of_is (Unary op e) k h = absurd (not_some h)
kind_of_is (Infix op l r) k h = absurd (not_some h)

abbrev pub kind_name : FaultKind → Tree
kind_name k = Name (fault_name k)

kept_is_name : (limit : ℕ) (e : Tree) (n : List ℕ) → (kept limit e).0 ≡ Name n → e ≡ Name n
kept_is_name limit e n h = go (at_most_or_more (height e) limit)
  where
    over : nothing ≡ Name n → e ≡ Name n
    over k = absurd cc

    go : (height e ≤ limit) ⊎ (limit < height e) → e ≡ Name n
    go (inl l) = sym (ap (λ (v : Tree × ℕ). v.0) (lowered_low limit 0 e (height e) (omega arith))) ∙ h
    go (inr l) = over (sym (ap (λ (v : Tree × ℕ). v.0) (lowered_high limit 0 e (height e) (omega arith))) ∙ h)

kinds_of_kept : (limit : ℕ) (es : List Tree) (ks : List FaultKind) → kinds_of (kept_list (kept limit) es).0 ≡ Some ks → es ≡ map kind_name ks
unfolding kinds_of kept_list
kinds_of_kept limit [] ks h = ap (λ js. map kind_name js) (some_same h)
kinds_of_kept limit (e ∷ es) ks h =
    let (k, a, b) = also_is (kind_of (kept limit e).0) (λ j. made (λ js. j ∷ js) (kinds_of (kept_list (kept limit) es).0)) ks h in
    let (js, c, d) = made_is (kinds_of (kept_list (kept limit) es).0) (λ is. k ∷ is) ks b in
    ap (λ t. t ∷ es) (kept_is_name limit e (fault_name k) (kind_of_is (kept limit e).0 k a)) ∙ ap (λ ts. kind_name k ∷ ts) (kinds_of_kept limit es js c) ∙ ap (λ is. map kind_name is) d

kept_name : (limit : ℕ) (positive : 1 ≤ limit) (n : List ℕ) → (kept limit (Name n)).0 ≡ Name n
unfolding lowered height
kept_name limit positive n = ap (λ (v : Tree × ℕ). v.0) (lowered_low limit 0 (Name n) 1 (omega arith))

kinds_of_again : (limit : ℕ) (positive : 1 ≤ limit) (ks : List FaultKind) → kinds_of (kept_list (kept limit) (map kind_name ks)).0 ≡ Some ks
unfolding kinds_of kind_of kept_list
kinds_of_again limit positive [] = refl
kinds_of_again limit positive (k ∷ ks) = rw (kept_name limit positive (fault_name k), fault_again k, kinds_of_again limit positive ks)

pub kinds_kept : (limit : ℕ) (es : List Tree) (ks : List FaultKind) → kinds_behind [] (kept_list (kept limit) es).0 ≡ Some ks → es ≡ map kind_name ks
kinds_kept limit es ks h = kinds_of_kept limit es ks (sym (kinds_same (kept_list (kept limit) es).0) ∙ h)

pub kinds_again : (limit : ℕ) (positive : 1 ≤ limit) (ks : List FaultKind) → kinds_behind [] (kept_list (kept limit) (map kind_name ks)).0 ≡ Some ks
kinds_again limit positive ks = kinds_same (kept_list (kept limit) (map kind_name ks)).0 ∙ kinds_of_again limit positive ks
