use Rattle.std.proofs.Common.{take, drop, ◌∙◌}
use Rattle.await_tree.proofs.Within.{leaves_only_go}
use Rattle.await_tree.specs.Fire.{fire}
use Rattle.await_tree.specs.WaitList.Waiting.{fired_keys}
use Rattle.plain_waits.specs.Kept.{waiting_in}
use Rattle.plain_waits.specs.Parts.{left_after}
use Rattle.plain_waits.proofs.Calls.{changed_names, fits_left, narrows_left}
use Rattle.plain_waits.proofs.Walks.{passes_list}
use Rattle.plain_waits.proofs.keeper.WaitList.serve_at.Goals as goal

pub let_go-requires-clause-fits : goal.let_go-requires-clause-fits
let_go-requires-clause-fits g c = fits_left (g.K.Gpi.content c.args.kernel.now) (fired_keys c.args.fired) c.args.self.now c.fire_at-next.new.self c.as_slice.result.now c.fire_at-next.ensures.held
    (changed_names (fire c.args.cause) (leaves_only_go.fires c.args.cause) c.args.self.now c.fire_at-next.new.self c.args.at c.index.result.now c.as_slice.result.now c.requires.at c.index.ensures (c.as_slice.ensures.is ∙ c.leaves-leaves.ensures) c.fire_at-next.ensures.held
    (passes_list (waiting_in c.args.self.now) (waiting_in c.fire_at-next.new.self) c.args.at c.fire_at-next.result (left_after (fire c.args.cause) (take 1 (drop c.args.at (waiting_in c.args.self.now)))) c.fire_at-next.ensures.passes)) c.requires.fits

pub returns-clause-keys : goal.returns-clause-keys
returns-clause-keys g c = narrows_left (g.K.Gpi.content c.args.kernel.now) (g.K.Gpi.content c.let_go.new.kernel) c.args.self.now c.fire_at-next.new.self c.as_slice.result.now (changed_names (fire c.args.cause) (leaves_only_go.fires c.args.cause) c.args.self.now c.fire_at-next.new.self c.args.at c.index.result.now c.as_slice.result.now c.requires.at c.index.ensures (c.as_slice.ensures.is ∙ c.leaves-leaves.ensures) c.fire_at-next.ensures.held
    (passes_list (waiting_in c.args.self.now) (waiting_in c.fire_at-next.new.self) c.args.at c.fire_at-next.result (left_after (fire c.args.cause) (take 1 (drop c.args.at (waiting_in c.args.self.now)))) c.fire_at-next.ensures.passes)) c.let_go.ensures.keys
