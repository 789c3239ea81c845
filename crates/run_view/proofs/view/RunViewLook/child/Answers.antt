-- What a name means in a node is known.
use Rattle.std.proofs.Common.{◌≡◌, List, length, Option, IfSome, arith, ap, sym, subst, ◌∙◌}
use Rattle.std.proofs.lemmas.List.{length-map}
use Rattle.gpi.specs.declared.design.Node.{Node}
use Rattle.gpi.specs.declared.design.Spot.{Spot}
use Rattle.py_evaluate.specs.Attribute.Knows.{Knows, KnowsDesign}
use Rattle.py_evaluate.specs.Attribute.Look.{View, child, spot_value}
use Rattle.run_view.specs.DesignNames.Names.{child_of}
use Rattle.run_view.proofs.Known.{names_known}
use Rattle.run_view.proofs.view.RunViewLook.child.Goals as goal

pub child-requires : goal.child-requires
child-requires g c =
    let nodes = c.self.inside.flat.now.nodes in
    omega (arith, length-map nodes (λ (n : Node). n.children), ap (λ (v : View). length v.nodes) c.self.view_is, ap (λ (ns : List Node). length ns) c.self.invariant.1.nodes_are)

pub returns : goal.returns
returns g c =
    let flat = c.self.inside.flat.now in
    let node = c.args.node in
    let name = c.args.name.now in
    let is : c.child.result ≡ child c.args.self.now node name =
    c.child.ensures ∙ ap (λ (ns : List Node). child_of ns node name) c.self.invariant.1.nodes_are ∙ ap (λ (v : View). child v node name) c.self.view_is in
    let all : KnowsDesign c.args.self.now =
    subst (λ (v : View). KnowsDesign v) c.self.view_is
    (names_known flat c.self.inside.names.now (g.K.Gpi.content c.self.inside.kernel.now).state c.self.inside.objects.now c.self.inside.queues.now c.self.inside.ended.now c.self.invariant.1) in
    record {
      is = is;
      known = subst (λ (o : Option Spot). IfSome o (λ (s : Spot). Knows c.args.self.now (spot_value s))) (sym is) (all node name);
    }
