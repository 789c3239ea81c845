use Rattle.std.proofs.Common.{◌≡◌, ℕ, arith, subst}
use Rattle.edge_tests.specs.Port.Calls.{first_of, told}
use Rattle.edge_tests.specs.Port.Files.{after_read, read_at, read_text, two_files}
use Rattle.std.specs.Prelude.{string_bytes}
use Rattle.edge_tests.proofs.PortLemmas.CallLaws.{steps_more, told_more}
use Rattle.edge_tests.proofs.port.files.store_text.Goals as goal

pub loop-n-preserved : goal.loop-n-preserved
loop-n-preserved c = (
  steps_more read_text after_read two_files c.loop-n.store c.push_read.new.store (read_at c.args.row.now) c.loop-n.n
      c.loop-n.invariant.0 c.in_ok-push_read.ensures.store,
  told_more read_text after_read two_files c.loop-n.store (read_at c.args.row.now) c.loop-n.n (string_bytes c.loop-n.out)
      (string_bytes c.push_read.new.out) c.loop-n.invariant.0 c.loop-n.invariant.1 c.in_ok-push_read.ensures.out,
)

pub returns : goal.returns
returns c =
    let all : c.loop-n.n ≡ 99 = omega (arith, c.loop-n-test.false, c.loop-n.auto.n-end) in
    subst (λ (n : ℕ). string_bytes c.loop-n.out ≡ told read_text after_read two_files (first_of (read_at c.args.row.now) n)) all
    c.loop-n.invariant.1
