use Rattle.std.proofs.Common.{◌≡◌, ◌≤◌, length, arith, sym, subst, List, rules}
use Rattle.std.proofs.lemmas.Grind.{common_steps}
use Rattle.std.proofs.lemmas.List.Sorted.{IsNonDecreasingBy-from_sort_by_key, IsNonDecreasingBy-short, IsPermutation-refl}
use Rattle.std.specs.List.Sorted.{IsPermutation}
use Rattle.gpi.specs.declared.types.Report.{Report}
use Rattle.fast_kernel.specs.Changes.{told}
use Rattle.fast_kernel.proofs.Told.{ordered_changes}
use Rattle.fast_kernel.proofs.changes.tell_changes.Goals as goal

pub returns-then-len-gt1-clause-is : goal.returns-then-len-gt1-clause-is
returns-then-len-gt1-clause-is c = λ before l t.
    let front : c.tell.new.reports.items ≡ told c.args.shown.now c.args.touched.now = c.tell.ensures.is in
    let moved : IsPermutation (told c.args.shown.now c.args.touched.now) c.sort_unstable_by_key.new.self.items =
    subst (λ (rs : List Report). IsPermutation rs c.sort_unstable_by_key.new.self.items) front c.sort_unstable_by_key.ensures.permutation in
    ordered_changes before c.args.shown.now c.args.touched.now c.sort_unstable_by_key.new.self.items (sym l) t moved
    (IsNonDecreasingBy-from_sort_by_key (λ r. r.sig.0) _ c.sort_unstable_by_key.ensures.sorted (λ a r q k. search rules))

pub returns-else-len-gt1-clause-is : goal.returns-else-len-gt1-clause-is
returns-else-len-gt1-clause-is c = λ before l t.
    let front : c.tell.new.reports.items ≡ told c.args.shown.now c.args.touched.now = c.tell.ensures.is in
    let moved : IsPermutation (told c.args.shown.now c.args.touched.now) c.tell.new.reports.items =
    subst (λ (rs : List Report). IsPermutation rs c.tell.new.reports.items) front (IsPermutation-refl c.tell.new.reports.items) in
    let few : length c.tell.new.reports.items ≤ 1 = grind (arith, common_steps) in
    ordered_changes before c.args.shown.now c.args.touched.now c.tell.new.reports.items (sym l) t moved
    (IsNonDecreasingBy-short (λ r. r.sig.0) c.tell.new.reports.items few)
