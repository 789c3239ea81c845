-- A name with selects, braces, and a part before those behind it.
use Rattle.std.proofs.Common.{◌≡◌, ℕ, ◌+◌, ◌<◌, List, length, drop, get_or, Result, Ok, Err, IfOk, refl, sym, ap, subst, arith}
use Rattle.std.proofs.lemmas.List.{drop_more}
use Rattle.v_syntax.specs.declared.expression.Target as code_target
use Rattle.v_syntax.specs.declared.expression.Target.{Row_of-Target, end_of-Target, more_of-Target}
use Rattle.v_syntax.specs.declared.expression.Target.TheBlock.{items-the_row-Target}
use Rattle.v_syntax.specs.ExpressionTrees.{SelectsTree, TargetTrees, NamedTarget, JoinedTarget, more_targets, view_target, view_target_row, view_targets}
use Rattle.v_flat.specs.declared.scope.found.Found.{Found}
use Rattle.v_flat.specs.Scope.Scope.{Scope, find}
use Rattle.v_flat.proofs.ScopeLemmas.Gathered.{holds_so}
use Rattle.v_flat.specs.declared.manner.Manner.{Manner}
use Rattle.v_flat.specs.declared.manner.Manner.TheVariants.{Procedural}
use Rattle.v_flat.specs.Targets.{named_target, targets_checked}
use Rattle.v_process.specs.declared.target.checked.CheckedTarget.{CheckedTarget}
use Rattle.v_process.specs.Target.Targets.{GetsAsName, IsNamedTarget}
use Rattle.v_process.specs.declared.assign.parts.TargetParts.{TargetParts}
use Rattle.v_process.specs.Assign.Targets.{GetsAs, IsTarget, IsProcedural, AreProcedural, ChecksBraces}

pub row_targets : (n : _) (k : Row_of-Target n) → view_target_row k ≡ view_targets (items-the_row-Target n k)
row_targets n end_of-Target = refl
row_targets n (more_of-Target t rest) = ap (more_targets (view_target t)) (row_targets _ rest)

name_gets : (s : Scope) (p : ℕ) (n : List ℕ) (sel : SelectsTree) (c : CheckedTarget) → GetsAsName s sel (find n s) c → GetsAs s (NamedTarget p n sel) c
name_gets s p n sel c h = record {
  proper = h.proper;
  own = h.own;
  width_is = h.width_is;
  gets = h.gets;
  sound = λ ws k. h.sound ws k.0 k.1;
  balanced = (let e = h.depth_is in omega (arith, e));
}

pub named_target_is : (how : Manner) (s : Scope) (p : ℕ) (n : List ℕ) (sel : SelectsTree) (f : Found CheckedTarget) → IsNamedTarget how s p sel (find n s) f
    → IsTarget s (NamedTarget p n sel) (named_target how s p sel (find n s)) f
named_target_is how s p n sel f h = record {
  finds = h.finds;
  holds = holds_so (λ (c : CheckedTarget). GetsAsName s sel (find n s) c) (λ (c : CheckedTarget). GetsAs s (NamedTarget p n sel) c) f h.holds
      (λ c k. name_gets s p n sel c k);
}

pub name_checked : (s : Scope) (p : ℕ) (n : List ℕ) (sel : SelectsTree) (f : Found CheckedTarget) → IsNamedTarget Procedural s p sel (find n s) f
    → IsProcedural s (NamedTarget p n sel) f
name_checked s p n sel f h = record {
  finds = h.finds;
  holds = holds_so (λ (c : CheckedTarget). GetsAsName s sel (find n s) c) (λ (c : CheckedTarget). GetsAs s (NamedTarget p n sel) c) f h.holds
      (λ c k. name_gets s p n sel c k);
}

pub braces_result : {E : Type 0} (s : Scope) (p : ℕ) (ts : TargetTrees) (y : Found TargetParts) (r : Result (Found CheckedTarget) E) → AreProcedural s ts y
    → IfOk r (ChecksBraces p y) → IfOk r (IsProcedural s (JoinedTarget p ts))
braces_result s p ts y (Ok f) h k = k s ts (targets_checked s ts) h
braces_result s p ts y (Err e) h k = tt

pub one_more : (s : Scope) (xs : List code_target.Target) (i : ℕ) (d : code_target.Target) (f : Found TargetParts) → i < length xs
    → AreProcedural s (more_targets (view_target (get_or xs i d)) (view_targets (drop (i + 1) xs))) f → AreProcedural s (view_targets (drop i xs)) f
one_more s xs i d f h k =
    subst (λ (es : TargetTrees). AreProcedural s es f) (sym (ap (λ (ys : List code_target.Target). view_targets ys) (drop_more xs i d h))) k
