use Rattle.std.proofs.Common.{◌∙◌, ◌++◌, ap, arith, reverse, refl}
use Rattle.std.proofs.lemmas.List.{reverse-reverse}
use Rattle.v_layout.proofs.BuildLemmas.More.{left_behind, none_left}
use Rattle.v_layout.proofs.build.parts.Parts.into_flat.Goals as goal

pub loop-node-init : goal.loop-node-init
loop-node-init c =
    ap (λ xs. xs ++ reverse c.reverse.new.self.items) c.new-all.ensures ∙ ap reverse c.reverse.ensures.items ∙ reverse-reverse c.args.self.nodes.items

pub loop-node-preserved : goal.loop-node-preserved
loop-node-preserved c =
    ap (λ xs. xs ++ reverse c.pop.new.self.items) c.in_ok-push.ensures.ok
    ∙ left_behind c.args.self.nodes.items c.loop-node.nodes.items c.pop.new.self.items c.in-Some.node c.loop-node.all c.loop-node.invariant c.in-Some.ensures.items

pub returns : goal.returns
returns c = record {
  signals = refl;
  nodes = none_left c.args.self.nodes.items c.loop-node.nodes.items c.loop-node.all c.loop-node.invariant (let e = c.in_default.ensures.cases.0 in let k = c.loop-node.nodes.ok in grind (arith, e, k));
  processes = refl;
  step_is = refl;
}
