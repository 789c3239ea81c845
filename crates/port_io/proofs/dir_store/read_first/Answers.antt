use Rattle.std.proofs.Common.{rules, ◌≡◌, List, ℕ, ◌++◌, ◌∷◌, [], length, take, arith, subst, sym}
use Rattle.std.proofs.lemmas.Grind.{common_steps}
use Rattle.std.specs.Io.KnownBytes.{Consumes}
use Rattle.port_io.specs.ReadingLaws.{gives_more, joined_more, some_taken, wanted_taken, end_taken, each_left}
use Rattle.port_io.proofs.dir_store.read_first.Goals.{else-loop-buffer-test, then-loop-buffer-test+in-Some+then-count-eq0}
use Rattle.port_io.proofs.dir_store.read_first.Goals as goal

pub loop-buffer-preserved : goal.loop-buffer-preserved
loop-buffer-preserved g c =
    let pieces = c.loop-buffer.invariant.1.0 in
    let piece = take c.in-Some.count c.read_once.new.buffer in
    let some = some_taken c.in-Some.count c.read_once.new.buffer (omega arith) c.in-Some.ensures.bound in (
      first_of (search rules, grind (arith, common_steps)),
      (
        pieces ++ piece ∷ [],
        gives_more g.S.Source.gives c.args.source.now pieces c.loop-buffer.source (length c.read_once.new.buffer) piece c.read_once.new.self
            c.loop-buffer.invariant.1.1 some c.in-Some.ensures.given,
        joined_more pieces piece c.loop-buffer.bytes.items c.extend_from_slice.new.self.items c.loop-buffer.invariant.1.2
            (first_of (search rules, grind (arith, common_steps))),
      ),
    )

pub returns-clause-first : goal.returns-clause-first
returns-clause-first g c =
    let left = g.S.Source.left in
    let bytes = c.loop-buffer.bytes.items in
    let i = c.loop-buffer.invariant.1 in
    let each = each_left g.S.Source.gives left g.met.S.Source.gives_left g.met.S.Source.gives_end c.args.source.now i.0 c.loop-buffer.source i.1 in
    let taken = subst (λ (l : List ℕ). Consumes (left c.args.source.now) (left c.loop-buffer.source) l) (sym i.2) each in
    elim c.loop-buffer-test.branch [
      | else-loop-buffer-test w ↦
          wanted_taken (left c.args.source.now) (left c.loop-buffer.source) bytes c.args.most taken (omega arith)
      | then-loop-buffer-test+in-Some+then-count-eq0 w ↦
          let buffer = w.read_once.new.buffer in
          let none : w.in-Some.count ≡ 0 = omega arith in
          let given = subst (λ (n : ℕ). g.S.Source.gives c.loop-buffer.source (length buffer) (take n buffer) w.read_once.new.self) none w.in-Some.ensures.given in
          end_taken (left c.args.source.now) (left c.loop-buffer.source) (left w.read_once.new.self) bytes c.args.most taken
          (g.met.S.Source.gives_left c.loop-buffer.source (length buffer) [] w.read_once.new.self given)
          (g.met.S.Source.gives_end c.loop-buffer.source (length buffer) w.read_once.new.self given (first_of (search rules, omega arith, grind (arith, common_steps))))
          (omega arith)
    ]
