-- An expression has a node, and so has a target.
use Rattle.std.proofs.Common.{◌≡◌, ◌≤◌, ◌<◌, ◌+◌, ℕ, arith}
use Rattle.v_syntax.specs.ExpressionTrees.{Tree, Number, Named, Bracketed, Unary, Binary, Conditional, Concatenation, Replication, TargetTree, NamedTarget, JoinedTarget}
use Rattle.v_loop.specs.Unrolled.{nodes, target_nodes}

pub some_nodes : (e : Tree) → 1 ≤ nodes e
some_nodes (Number at ds) = omega arith
some_nodes (Named at name s) = omega arith
some_nodes (Bracketed at e) = omega arith
some_nodes (Unary at op e) = omega arith
some_nodes (Binary op l r) = omega arith
some_nodes (Conditional c a b) = omega arith
some_nodes (Concatenation at es) = omega arith
some_nodes (Replication at e es) = omega arith

pub some_target_nodes : (t : TargetTree) → 1 ≤ target_nodes t
some_target_nodes (NamedTarget at name s) = omega arith
some_target_nodes (JoinedTarget at ts) = omega arith

-- where nothing more may be counted
pub none_counted : (most old new n : ℕ) → new ≡ old → most ≤ old → 1 ≤ n → (old ≤ new) × ((most ≤ new) × (new < old + n))
none_counted most old new n e h k = (omega (arith, e), (omega (arith, e, h), omega (arith, e, k)))
