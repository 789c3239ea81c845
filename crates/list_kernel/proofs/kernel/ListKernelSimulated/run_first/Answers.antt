use Rattle.std.proofs.Common.{◌≡◌, ◌∷◌, ◌<◌, ℕ, List, length, get_or, ap, sym, ◌∙◌, subst, arith}
use Rattle.gpi.specs.Design.{procs_of}
use Rattle.gpi.specs.State.{State}
use Rattle.kernel_base.specs.Lists.{AreBelow}
use Rattle.list_kernel.specs.Registered.{keys_of, counts_of}
use Rattle.list_kernel.specs.Kernel.{content_of}
use Rattle.kernel_base.proofs.Activated.{ran_state}
use Rattle.list_kernel.proofs.Procs.{some_at, head_tail}
use Rattle.kernel_base.proofs.Told.{ran_case}
use Rattle.list_kernel.proofs.kernel.ListKernelSimulated.run_first.Goals as goal

pub returns-in-Ok-clause-is : goal.returns-in-Ok-clause-is
returns-in-Ok-clause-is c =
    let b = content_of c.args.self.now in
    let a = content_of c.end_activation.new.self in
    let p = c.index-p.result.now in
    let rest = c.remove.new.self.items in
    let kept : c.run_body.new.self.active.items ≡ c.args.self.now.active.items = ap (λ (s : State). s.active) c.in-Ok.ensures.is in
    let some : 0 < length c.run_body.new.self.active.items = omega (arith, c.remove.ensures.len, c.run_body.new.self.active.ok.0) in
    let head = head_tail c.run_body.new.self.active.items rest p some (subst (λ (xs : List ℕ). p ≡ get_or xs 0 p) (sym kept) c.index-p.ensures) c.remove.ensures.by_index.2 in
    let first : c.args.self.now.active.items ≡ p ∷ rest = sym kept ∙ head in
    let below : AreBelow (length c.args.self.now.processes.items) (p ∷ rest) = subst (λ (xs : List ℕ). AreBelow (length c.args.self.now.processes.items) xs) first c.requires.held.below in
    let procs : procs_of c.run_body.new.self.processes.items ≡ procs_of c.args.self.now.processes.items = ap procs_of c.run_body.ensures.procs in
    let all_procs : procs_of c.end_activation.new.self.processes.items ≡ procs_of c.args.self.now.processes.items = ap procs_of c.end_activation.ensures.procs ∙ procs in
    let all_nets : c.end_activation.new.self.nets.items ≡ c.args.self.now.nets.items = c.end_activation.ensures.nets ∙ c.run_body.ensures.nets in
    let book : c.end_activation.new.self.book ≡ c.args.self.now.book = c.end_activation.ensures.book ∙ c.run_body.ensures.book in
    let state = ran_state b.procs (procs_of c.run_body.new.self.processes.items) b.state (content_of c.run_body.new.self).state a.state c.run_body.new.self.values.shown_before.items p rest
    (some_at c.args.self.now.processes.items p below.0) procs c.in-Ok.ensures.is c.run_body.ensures.before c.end_activation.ensures.is in
    ran_case b a p rest first all_procs all_nets state (ap keys_of book) (ap counts_of book)
