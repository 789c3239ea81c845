use Rattle.std.proofs.Common.{refl}
use Rattle.v_layout.proofs.BuildLemmas.More.{process_more}
use Rattle.v_layout.proofs.build.parts.Parts.with_process.Goals as goal

pub returns : goal.returns
returns c =
    process_more c.args.process c.args.self (record { signals = c.args.self.signals; nodes = c.args.self.nodes; processes = c.push.new.self })
    refl refl (c.in_ok-push.ensures.ok) c.requires
