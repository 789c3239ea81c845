-- There is a table of the node, in which the name means what it means there.
use Rattle.std.proofs.Common.{◌∙◌, ◌<◌, ℕ, List, length, refl, ap, arith}
use Rattle.std.proofs.lemmas.Option.{slice_get_read}
use Rattle.gpi.specs.declared.design.Node.{Node}
use Rattle.py_evaluate.specs.Attribute.Look.{spot_of}
use Rattle.run_view.specs.DesignNames.Names.{child_of}
use Rattle.run_view.proofs.DesignNamesLemmas.Nodes.{child_by, has_table}
use Rattle.run_view.proofs.design_names.design.DesignNames.child.Goals as goal

pub index-requires : goal.index-requires
index-requires c =
    let tables = c.self.inside.tables in
    let there : c.args.node < length tables.items = has_table tables.items c.self.inside.nodes.now c.args.self.now c.args.node c.self.invariant c.self.view_is c.requires in
    omega (arith, there, tables.ok.0)

pub returns : goal.returns
returns c =
    let tables = c.self.inside.tables.items in
    let nodes = c.self.inside.nodes.now in
    let there : c.args.node < length tables = has_table tables nodes c.args.self.now c.args.node c.self.invariant c.self.view_is c.requires in
    c.find.ensures ∙ ap (λ (n : List ℕ). spot_of c.index.result.now n) c.bytes.ensures
    ∙ child_by tables nodes c.args.node c.index.result.now c.self.invariant
    (slice_get_read tables (length tables) c.args.node c.index.result.now refl there c.index.ensures) c.args.name.now
    ∙ ap (λ (ns : List Node). child_of ns c.args.node c.args.name.now) c.self.view_is
