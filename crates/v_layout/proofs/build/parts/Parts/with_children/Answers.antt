use Rattle.std.proofs.Common.{refl}
use Rattle.std.proofs.lemmas.List.{length-set}
use Rattle.std.specs.Vec.{with_item}
use Rattle.v_layout.proofs.BuildLemmas.More.{names_known}
use Rattle.v_layout.proofs.build.parts.Parts.with_children.Goals as goal

pub returns-clause-so_far : goal.returns-clause-so_far
returns-clause-so_far c =
    names_known c.args.node c.args.children c.in_ok-of.field-0 c.args.path.now c.args.self
    (record { signals = c.args.self.signals; nodes = with_item c.args.self.nodes c.args.node (record { path = c.in_ok-of.field-0; children = c.args.children }); processes = c.args.self.processes })
    refl refl refl c.in_ok-of.ensures

pub returns-clause-made : goal.returns-clause-made
returns-clause-made c = record {
  signals = refl;
  nodes = length-set c.args.self.nodes.items c.args.node (record { path = c.in_ok-of.field-0; children = c.args.children });
}
