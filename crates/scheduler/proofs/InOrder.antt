-- Values of constants, one after the other.
use Rattle.std.proofs.Common.{◌≡◌, ℕ, ◌+◌, ◌≤◌, List, [], ◌∷◌, ◌++◌, length, drop, Some, Ok, Err, refl, ap, sym, subst, ◌∙◌, append_assoc, append-nil}
use Rattle.std.specs.Prelude.{IfOk, Result}
use Rattle.std.specs.List.{slice_get}
use Rattle.std.proofs.lemmas.List.{drop_all}
use Rattle.gpi.proofs.Sound.{drop_next}
use Rattle.py_syntax.specs.declared.constant.Const.{Const}
use Rattle.py_value.specs.Answer.{Answer, and_then, answer_map}
use Rattle.py_value.specs.declared.value.Value.{Value}
use Rattle.py_value.specs.declared.value.Value.TheVariants.{Place}
use Rattle.py_evaluate.specs.Attribute.Gives.{Fails}
use Rattle.py_evaluate.specs.Attribute.Knows.{Knows, KnowsAll, KnowsNode}
use Rattle.py_evaluate.specs.Attribute.Look.{View}
use Rattle.py_evaluate.specs.declared.attribute.fault.OperationFault.{OperationFault}
use Rattle.py_evaluate.specs.declared.attribute.fault.OperationFault.TheVariants as faults
use Rattle.py_evaluate.specs.Eval.{constant_value}
use Rattle.rig_model.proofs.TaskLemmas.EvalKnown.{constant_known}
use Rattle.rig_model.proofs.TaskLemmas.PartsKnown.{then_ok}
use Rattle.task_step.specs.TaskValues.Evaluation.{Answers, AnswersFault}
use Rattle.rig_model.specs.Run.Case.{values_of}

-- values behind others
abbrev pub behind : List Value → Answer (List Value) → Answer (List Value)
behind vs r = answer_map (λ (more : List Value). vs ++ more) r

behind_more : (vs : List Value) (v : Value) (r : Answer (List Value)) → behind vs (and_then r (λ ws. Ok (v ∷ ws))) ≡ behind (vs ++ v ∷ []) r
behind_more vs v (Ok ws) = ap (λ (l : List Value). Ok l) (sym (append_assoc vs (v ∷ []) ws))
behind_more vs v (Err kind) = refl

-- the value of a constant, and those of others behind it
abbrev and_others : List Value → List Const → Answer Value → Answer (List Value)
and_others vs cs a = behind vs (and_then a (λ v. and_then (values_of cs) (λ ws. Ok (v ∷ ws))))

from_place : (vs : List Value) (cs : List Const) (n : ℕ) (c : Const) → slice_get cs n ≡ Some c
    → behind vs (values_of (drop n cs)) ≡ and_others vs (drop (n + 1) cs) (constant_value c)
from_place vs cs n c h = ap (λ (l : List Const). behind vs (values_of l)) (drop_next cs n c h)

pub value_step : (vs : List Value) (cs : List Const) (n : ℕ) (c : Const) (v : Value) (whole : Answer (List Value)) → slice_get cs n ≡ Some c
    → constant_value c ≡ Ok v → behind vs (values_of (drop n cs)) ≡ whole → behind (vs ++ v ∷ []) (values_of (drop (n + 1) cs)) ≡ whole
value_step vs cs n c v whole h g w =
    sym (behind_more vs v (values_of (drop (n + 1) cs)))
    ∙ (sym (ap (and_others vs (drop (n + 1) cs)) g) ∙ (sym (from_place vs cs n c h) ∙ w))

pub value_fault : (vs : List Value) (cs : List Const) (n : ℕ) (c : Const) (fault : OperationFault) (whole : Answer (List Value)) → slice_get cs n ≡ Some c
    → Fails fault (constant_value c) → behind vs (values_of (drop n cs)) ≡ whole → AnswersFault fault whole
value_fault vs cs n c (faults.Raised kind) whole h g w = sym w ∙ (from_place vs cs n c h ∙ ap (and_others vs (drop (n + 1) cs)) g)
value_fault vs cs n c faults.OutOfMemory whole h g w = tt

pub value_end : (vs : List Value) (cs : List Const) (n : ℕ) (whole : Answer (List Value)) → length cs ≤ n
    → behind vs (values_of (drop n cs)) ≡ whole → whole ≡ Ok vs
value_end vs cs n whole h w =
    sym w ∙ (ap (λ (l : List Const). behind vs (values_of l)) (drop_all n cs h) ∙ ap (λ (l : List Value). Ok l) (append-nil vs))

-- ---- what the callers say

behind_none : (r : Answer (List Value)) → behind [] r ≡ r
behind_none (Ok vs) = refl
behind_none (Err kind) = refl

pub answers_alone : (a : Answer (List Value)) (r : Result (List Value) OperationFault) → Answers (behind [] a) r → Answers a r
answers_alone a r h = subst (λ (b : Answer (List Value)). Answers b r) (behind_none a) h

-- ---- what a view knows

values_known : (view : View) (cs : List Const) → IfOk (values_of cs) (KnowsAll view)
values_known view [] = tt
values_known view (c ∷ cs) =
    then_ok (Knows view) (KnowsAll view) (constant_value c) _ (constant_known view c) (λ v k.
    then_ok (KnowsAll view) (KnowsAll view) (values_of cs) _ (values_known view cs) (λ vs l. (k, l)))

pub known_alone : (cs : List Const) (r : Result (List Value) OperationFault) → Answers (values_of cs) r → IfOk r (λ vs. (view : View) → KnowsAll view vs)
known_alone cs (Ok vs) a = λ view. subst (λ (b : Answer (List Value)). IfOk b (KnowsAll view)) a (values_known view cs)
known_alone cs (Err fault) a = tt

placed : (view : View) (a : Answer (List Value)) → IfOk a (KnowsAll view) → KnowsNode view 0 → IfOk (answer_map (λ (vs : List Value). Place 0 ∷ vs) a) (KnowsAll view)
placed view (Ok vs) k top = (top, k)
placed view (Err kind) k top = tt

pub known_placed : (cs : List Const) (r : Result (List Value) OperationFault) → Answers (answer_map (λ (vs : List Value). Place 0 ∷ vs) (values_of cs)) r
    → IfOk r (λ vs. (view : View) → KnowsNode view 0 → KnowsAll view vs)
known_placed cs (Ok vs) a = λ view top. subst (λ (b : Answer (List Value)). IfOk b (KnowsAll view)) a (placed view (values_of cs) (values_known view cs) top)
known_placed cs (Err fault) a = tt
