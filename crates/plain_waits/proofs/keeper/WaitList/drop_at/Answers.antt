use Rattle.std.proofs.Common.{[], ◌∙◌}
use Rattle.plain_waits.proofs.Calls.{dropped_names, fits_left, narrows_left}
use Rattle.plain_waits.proofs.keeper.WaitList.drop_at.Goals as goal

pub let_go-requires-clause-fits : goal.let_go-requires-clause-fits
let_go-requires-clause-fits g c = fits_left (g.K.Gpi.content c.args.kernel.now) [] c.args.self.now c.leave.new.self c.as_slice.result.now c.leave.ensures.held
    (dropped_names c.args.self.now c.leave.new.self c.args.at c.index.result.now c.as_slice.result.now c.requires.at c.index.ensures (c.as_slice.ensures.is ∙ c.leaves-leaves.ensures) c.leave.ensures.held c.leave.ensures.waiting) c.requires.fits

pub returns-clause-keys : goal.returns-clause-keys
returns-clause-keys g c = narrows_left (g.K.Gpi.content c.args.kernel.now) (g.K.Gpi.content c.let_go.new.kernel) c.args.self.now c.leave.new.self c.as_slice.result.now
    (dropped_names c.args.self.now c.leave.new.self c.args.at c.index.result.now c.as_slice.result.now c.requires.at c.index.ensures (c.as_slice.ensures.is ∙ c.leaves-leaves.ensures) c.leave.ensures.held c.leave.ensures.waiting) c.let_go.ensures.keys
