use Rattle.std.proofs.Common.{◌≡◌, ◌∙◌, ℕ, List, true, subst, sym, arith}
use Rattle.std.proofs.lemmas.Grind.{common_steps}
use Rattle.std.proofs.lemmas.List.Sorted.{IsNonDecreasingBy-from_sort, non_decreasing_from_is_sorted, IsPermutation-refl}
use Rattle.std.specs.List.Sorted.{IsNonDecreasing}
use Rattle.fast_kernel.proofs.Picked.{ordered, still_holds, still_below, still_distinct}
use Rattle.fast_kernel.proofs.Marks.{by_true}
use Rattle.fast_kernel.proofs.waiters.Finds.put_in_order.Goals as goal

pub returns-then-not-is_sorted-clause-is : goal.returns-then-not-is_sorted-clause-is
returns-then-not-is_sorted-clause-is c =
    ordered _ c.args.self.now.processes.items c.sort_unstable.new.self.items c.sort_unstable.ensures.permutation
    (IsNonDecreasingBy-from_sort (λ x. x) _ c.sort_unstable.ensures.sorted) c.requires.marked.distinct c.requires.marked.below

pub returns-then-not-is_sorted-clause-marked : goal.returns-then-not-is_sorted-clause-marked
returns-then-not-is_sorted-clause-marked c =
    let p = c.sort_unstable.ensures.permutation in
    record {
      marked = λ q. c.requires.marked.marked q ∙ sym (still_holds c.args.self.now.processes.items c.sort_unstable.new.self.items p q);
      below = still_below _ c.args.self.now.processes.items c.sort_unstable.new.self.items p c.requires.marked.below;
      distinct = still_distinct c.args.self.now.processes.items c.sort_unstable.new.self.items p c.requires.marked.distinct;
      few = c.requires.marked.few;
      room = grind (arith, common_steps);
    }

pub returns-else-not-is_sorted-clause-is : goal.returns-else-not-is_sorted-clause-is
returns-else-not-is_sorted-clause-is c =
    let r : c.is_sorted.result ≡ true = grind (arith, common_steps) in
    let m : IsNonDecreasing c.deref.result.now = by_true _ _ c.is_sorted.result (non_decreasing_from_is_sorted c.deref.result.now c.is_sorted.result c.is_sorted.ensures.cases) r in
    ordered _ c.args.self.now.processes.items c.args.self.now.processes.items (IsPermutation-refl c.args.self.now.processes.items)
    (subst (λ (xs : List ℕ). IsNonDecreasing xs) c.deref.ensures.value m) c.requires.marked.distinct c.requires.marked.below
