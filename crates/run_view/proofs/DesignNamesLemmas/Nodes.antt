-- Tables of all nodes, one after the other.
use Rattle.std.proofs.Common.{◌≡◌, ◌<◌, ℕ, zero, suc, ◌+◌, List, [], ◌∷◌, ◌++◌, length, take, slice_get, Some, refl, sym, ap, subst, ◌∙◌}
use Rattle.std.proofs.lemmas.List.{take_more}
use Rattle.std.proofs.lemmas.Option.{get_or_from_slice_get, slice_get_within}
use Rattle.gpi.specs.declared.design.Node.{Node}
use Rattle.gpi.specs.declared.design.Spot.{Spot}
use Rattle.py_evaluate.specs.Attribute.Look.{spot_of}
use Rattle.run_view.specs.DesignNames.Names.{child_of}
use Rattle.run_view.specs.DesignNames.Tables.{IsTable, AreTables}

abbrev Table : Type 0
Table = List (List ℕ × Spot)

behind : (ts : List Table) (ns : List Node) (t : Table) (node : Node) → IsTable t node.children → AreTables ts ns → AreTables (ts ++ t ∷ []) (ns ++ node ∷ [])
behind [] [] t node h all = (h, tt)
behind [] (n ∷ ns) t node h all = absurd all
behind (u ∷ ts) [] t node h all = absurd all
behind (u ∷ ts) (n ∷ ns) t node h all = (all.0, behind ts ns t node h all.1)

pub one_more : (old new : List Table) (nodes : List Node) (at : ℕ) (t : Table) (node : Node) → slice_get nodes at ≡ Some node → new ≡ old ++ t ∷ []
    → IsTable t node.children → AreTables old (take at nodes) → AreTables new (take (at + 1) nodes)
one_more old new nodes at t node h e is all =
    let more : take (at + 1) nodes ≡ take at nodes ++ node ∷ [] =
    take_more nodes at node (slice_get_within nodes at node h) ∙ ap (λ (n : Node). take at nodes ++ n ∷ []) (get_or_from_slice_get nodes at node node h) in
    subst (λ (ts : List Table). AreTables ts (take (at + 1) nodes)) (sym e)
    (subst (λ (ns : List Node). AreTables (old ++ t ∷ []) ns) (sym more) (behind old (take at nodes) t node is all))

as_many : (ts : List Table) (ns : List Node) → AreTables ts ns → length ts ≡ length ns
as_many [] [] all = refl
as_many [] (n ∷ ns) all = absurd all
as_many (t ∷ ts) [] all = absurd all
as_many (t ∷ ts) (n ∷ ns) all = ap suc (as_many ts ns all.1)

pub has_table : (ts : List Table) (ns seen : List Node) (at : ℕ) → AreTables ts ns → ns ≡ seen → at < length seen → at < length ts
has_table ts ns seen at all e h = subst (λ (l : ℕ). at < l) (sym (as_many ts ns all ∙ ap (λ (l : List Node). length l) e)) h

pub child_by : (ts : List Table) (ns : List Node) (at : ℕ) (t : Table) → AreTables ts ns → slice_get ts at ≡ Some t → (n : List ℕ) → spot_of t n ≡ child_of ns at n
child_by [] ns at t all h n = absurd cc
child_by (u ∷ ts) [] at t all h n = absurd all
child_by (u ∷ ts) (m ∷ ns) zero t all h n = let e : u ≡ t = cc in ap (λ (s : Table). spot_of s n) (sym e) ∙ all.0 n
child_by (u ∷ ts) (m ∷ ns) (suc at) t all h n = child_by ts ns at t all.1 h n
