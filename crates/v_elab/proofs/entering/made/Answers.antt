-- The parts of an instance that is to be walked.
use Rattle.std.proofs.Common.{refl, ap, subst, arith, ◌∙◌, ◌++◌, ◌∷◌, []}
use Rattle.v_header.specs.Names.{texts}
use Rattle.v_flat.specs.Paths.{below}
use Rattle.v_layout.specs.Texts.{HasText}
use Rattle.v_elab.proofs.entering.made.Goals as goal

pub returns : goal.returns
returns c = record {
  module_is = refl;
  path_is = λ path t. subst (λ n. HasText (below path n) c.in_ok-path.path.items) c.bytes.ensures (c.in_ok-path.ensures path t);
  above_is = c.in_ok-above.ensures ∙ ap (λ n. texts c.args.level.now.above.now ++ (n ∷ [])) c.bytes-2.ensures;
  outside = refl;
  scope = refl;
  driven = refl;
  parts = refl;
  children = refl;
  instances = refl;
  node = let e = c.len-node.ensures in let k = c.args.walked.state.parts.nodes.ok in omega (arith, e, k.0);
}
