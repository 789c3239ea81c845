use Rattle.std.proofs.Common.{[], take, drop, ◌∙◌}
use Rattle.await_tree.proofs.Within.{leaves_only_go}
use Rattle.await_tree.specs.Fire.{grant}
use Rattle.plain_waits.specs.Kept.{waiting_in}
use Rattle.plain_waits.specs.Parts.{left_after}
use Rattle.plain_waits.proofs.Calls.{changed_names, fits_left, narrows_left}
use Rattle.plain_waits.proofs.Walks.{passes_list}
use Rattle.plain_waits.proofs.keeper.WaitList.grant_at.Goals as goal

pub let_go-requires-clause-fits : goal.let_go-requires-clause-fits
let_go-requires-clause-fits g c = fits_left (g.K.Gpi.content c.args.kernel.now) [] c.args.self.now c.hand_at.new.self c.as_slice.result.now c.hand_at.ensures.held
    (changed_names (grant c.args.lock) (leaves_only_go.grants c.args.lock) c.args.self.now c.hand_at.new.self c.args.at c.index.result.now c.as_slice.result.now c.requires.at c.index.ensures (c.as_slice.ensures.is ∙ c.leaves-leaves.ensures) c.hand_at.ensures.held
    (passes_list (waiting_in c.args.self.now) (waiting_in c.hand_at.new.self) c.args.at c.hand_at.result (left_after (grant c.args.lock) (take 1 (drop c.args.at (waiting_in c.args.self.now)))) c.hand_at.ensures.passes)) c.requires.fits

pub returns-clause-waiting : goal.returns-clause-waiting
returns-clause-waiting g c = passes_list (waiting_in c.args.self.now) (waiting_in c.hand_at.new.self) c.args.at c.hand_at.result (left_after (grant c.args.lock) (take 1 (drop c.args.at (waiting_in c.args.self.now)))) c.hand_at.ensures.passes

pub returns-clause-keys : goal.returns-clause-keys
returns-clause-keys g c = narrows_left (g.K.Gpi.content c.args.kernel.now) (g.K.Gpi.content c.let_go.new.kernel) c.args.self.now c.hand_at.new.self c.as_slice.result.now (changed_names (grant c.args.lock) (leaves_only_go.grants c.args.lock) c.args.self.now c.hand_at.new.self c.args.at c.index.result.now c.as_slice.result.now c.requires.at c.index.ensures (c.as_slice.ensures.is ∙ c.leaves-leaves.ensures) c.hand_at.ensures.held
    (passes_list (waiting_in c.args.self.now) (waiting_in c.hand_at.new.self) c.args.at c.hand_at.result (left_after (grant c.args.lock) (take 1 (drop c.args.at (waiting_in c.args.self.now)))) c.hand_at.ensures.passes)) c.let_go.ensures.keys
