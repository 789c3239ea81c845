-- Defaults of the parameters that no operand is given for.
use Rattle.std.proofs.Common.{◌≡◌, ℕ, suc, ◌+◌, ◌<◌, ◌≤◌, ◌==◌, ◌||◌, if◌then◌else◌, Bool, true, false, List, [], ◌∷◌, ◌++◌, length, map, take, drop, get_or, Option, Some, None, refl, sym, ap, subst, ◌∙◌, drop-cons, add-one}
use Rattle.std.specs.Prelude.{slice_index_or, replicate}
use Rattle.std.proofs.lemmas.List.{take_more, drop_all, append-nil, append_assoc, map-append, get_or-replicate, length-replicate}
use Rattle.std.proofs.lemmas.List.Folds.{list_any-append}
use Rattle.py_syntax.specs.ExpressionTrees as tree
use Rattle.py_syntax.specs.declared.constant.Const.{Const}
use Rattle.py_syntax.specs.declared.module.Parameter.{Parameter}
use Rattle.test_names.specs.Arguments.Marks.{AreMarks}
use Rattle.test_meaning.specs.Body.BodyTrees.{Operand}
use Rattle.test_meaning.specs.Bodies.{default_operand, default_operands}
use Rattle.test_meaning.specs.Rules.File.{File, value_in}
use Rattle.test_meaning.specs.Rules.Rules.{is_in}

-- no parameter is marked
pub no_marks : (n : ℕ) (given : List Bool) → given ≡ replicate n false → AreMarks n [] given
no_marks n given e = subst (λ (g : List Bool). AreMarks n [] g) (sym e)
    (record { long = length-replicate n false; marks = λ j h. get_or-replicate n j false false h })

swapped : (a b : Bool) → (a || b) ≡ (b || (a || false))
swapped true true = refl
swapped true false = refl
swapped false true = refl
swapped false false = refl

-- one operand more is marked
pub marks_more : {A : Type 0} (at : A → ℕ) (n : ℕ) (os : List A) (i : ℕ) (o : A) (old new : List Bool) → i < length os → o ≡ get_or os i o
    → length new ≡ length old → ((j : ℕ) → j < length old → slice_index_or new j false ≡ (at o == j || slice_index_or old j false))
    → AreMarks n (map at (take i os)) old → AreMarks n (map at (take (i + 1) os)) new
marks_more at n os i o old new h is l f m =
    let e : map at (take i os) ++ (at o ∷ []) ≡ map at (take (i + 1) os) =
    sym (map-append at (take i os) (o ∷ [])) ∙ ap (λ ys. map at ys) (ap (λ y. take i os ++ (y ∷ [])) is ∙ sym (take_more os i o h)) in
    subst (λ (ks : List ℕ). AreMarks n ks new) e
    (record {
      long = l ∙ m.long;
      marks = λ j b. f j (subst (λ x. j < x) (sym m.long) b) ∙ ap (λ c. at o == j || c) (m.marks j b) ∙ swapped (at o == j) (is_in j (map at (take i os)))
          ∙ sym (list_any-append (λ k. k == j) (map at (take i os)) (at o ∷ []));
    })

-- one parameter more
pub defaults_more : (f : File) (ks : List ℕ) (ps : List Parameter) (i : ℕ) (p : Parameter) (start before after : List Operand) → i < length ps → p ≡ get_or ps i p
    → after ≡ before ++ default_operand f ks i p.default
    → before ++ default_operands f ks i (drop i ps) ≡ start ++ default_operands f ks 0 ps
    → after ++ default_operands f ks (i + 1) (drop (i + 1) ps) ≡ start ++ default_operands f ks 0 ps
defaults_more f ks ps i p start before after h is e same =
    ap (λ (os : List Operand). os ++ default_operands f ks (i + 1) (drop (i + 1) ps)) e
    ∙ append_assoc before (default_operand f ks i p.default) (default_operands f ks (i + 1) (drop (i + 1) ps))
    ∙ ap (λ (j : ℕ). before ++ (default_operand f ks i p.default ++ default_operands f ks j (drop j ps))) (add-one i)
    ∙ ap (λ (qs : List Parameter). before ++ default_operands f ks i qs) (sym (drop-cons ps i p h ∙ ap (λ q. q ∷ drop (suc i) ps) (sym is)))
    ∙ same

-- all parameters
pub all_defaults : (f : File) (ks : List ℕ) (ps : List Parameter) (i : ℕ) (start all : List Operand) → length ps ≤ i
    → all ++ default_operands f ks i (drop i ps) ≡ start ++ default_operands f ks 0 ps → all ≡ start ++ default_operands f ks 0 ps
all_defaults f ks ps i start all h same =
    sym (append-nil all) ∙ ap (λ (qs : List Parameter). all ++ default_operands f ks i qs) (sym (drop_all i ps h)) ∙ same

-- a parameter that is given gets no default
pub kept : (f : File) (ks : List ℕ) (i : ℕ) (d : Option Const) (b : Bool) (os : List Operand) → b ≡ is_in i ks → b ≡ true → os ≡ os ++ default_operand f ks i d
kept f ks i None b os e w = sym (append-nil os)
kept f ks i (Some c) b os e w =
    sym (append-nil os) ∙ ap (λ (g : Bool). os ++ (if g then [] else record { parameter = i; value = tree.Constant (value_in f.constants c) } ∷ [])) (sym w ∙ e)

-- one that isn't gets its own
pub put : (f : File) (ks : List ℕ) (i : ℕ) (c : Const) (b : Bool) → b ≡ is_in i ks → b ≡ false
    → (record { parameter = i; value = tree.Constant (value_in f.constants c) } ∷ []) ≡ default_operand f ks i (Some c)
put f ks i c b e w = ap (λ (g : Bool). if g then [] else record { parameter = i; value = tree.Constant (value_in f.constants c) } ∷ []) (sym w ∙ e)
