use Rattle.std.proofs.Common.{sym, ◌∙◌}
use Rattle.gpi.specs.declared.types.Key.TheVariants as key
use Rattle.gpi.specs.declared.types.Region.TheVariants as region
use Rattle.fast_kernel.proofs.Phases.{taken_stays, ends, not_end}
use Rattle.fast_kernel.proofs.simulated.SimulationSimulated.end.Goals as goal

pub returns-clause-held : goal.returns-clause-held
returns-clause-held c =
    let stays = taken_stays c.args.self.now region.End c.take.new.self key.ReadOnly c.requires c.take.ensures.fires in
    stays.loaded

pub returns-clause-is : goal.returns-clause-is
returns-clause-is c =
    ends c.args.self.now c.take.new.self (sym c.take.ensures.there ∙ c.if-not-take.false) (not_end c.args.self.now.region c.eq.result c.eq.ensures c.if-eq.false)
    c.take.ensures.fires
