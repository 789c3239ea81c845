-- A flat design that was built is sound, and stands for what it was built of.
use Rattle.std.proofs.Common.{◌≡◌, ◌≤◌, ◌∙◌, ℕ, List, [], ◌∷◌, IsTrue, suc, map, length, Result, Ok, refl, sym, ap, subst, arith}
use Rattle.std.proofs.lemmas.List.{append-nil, length-map}
use Rattle.gpi.specs.declared.design.Process.{Process}
use Rattle.gpi.specs.Activation.{IsSound}
use Rattle.gpi.specs.Design.{procs_of, widths}
use Rattle.gpi.specs.Soundness.{AreProcesses, IsTree, are_nodes, are_wakes, are_wide}
use Rattle.v_flat.specs.declared.scope.rule.Broken.{Broken}
use Rattle.v_flat.specs.Scope.Found.{HoldsOk}
use Rattle.v_flat.specs.Scope.Limits.{most_parts}
use Rattle.v_flat.specs.Paths.{node_of, signal_of}
use Rattle.v_flat.specs.Design.{Design, flat_design}
use Rattle.v_flat.proofs.ShapeLemmas.Short.{lists_short}
use Rattle.v_flat.proofs.ShapeLemmas.Signals.{signals_fit}
use Rattle.v_flat.proofs.ShapeLemmas.Trees.{trees}
use Rattle.v_layout.specs.Build.Parts.{AreSoundIn}
use Rattle.v_layout.specs.Build.Laws.{What_is_built_is_sound}

of_ok : (P : Design → Type 0) (r : Result Design Broken) (d : Design) → HoldsOk P r → r ≡ Ok d → P d
of_ok P r d h e = subst (HoldsOk P) e h

bodies : (ps : List Process) (ws : List ℕ) → AreSoundIn ps ws → AreProcesses ps ws
bodies [] ws h = tt
bodies (p ∷ ps) ws h =
    (subst (λ us. IsSound p.body us) (append-nil ws) (h.0.body []), subst (λ us. IsTrue (are_wakes p.wakes (length us))) (append-nil ws) (h.0.wakes []), bodies ps ws h.1)

procs_many : (ps : List Process) → length (procs_of ps) ≡ length ps
procs_many [] = refl
procs_many (p ∷ ps) = ap suc (procs_many ps)

pub built_sound : What_is_built_is_sound
built_sound ms top d p step f e h g some = (
  record {
    signals = let k = signals.0 in let l = ap length (g.signals ∙ h.signals) ∙ length-map d.signals signal_of in omega (arith, k, l);
    nodes = let k = lists.0 in let l = many_nodes in omega (arith, k, l);
    processes = let k = lists.1 in let l = sym (procs_many f.processes) ∙ ap procs_length g.processes ∙ ap length h.processes in omega (arith, k, l);
    wide = subst (λ ss. IsTrue (are_wide ss)) (sym (g.signals ∙ h.signals)) signals.1;
    bodies = subst (λ ps. AreProcesses ps (widths f.signals)) (sym g.processes) (subst (λ ss. AreProcesses p.processes (widths ss)) (sym g.signals) (bodies p.processes (widths p.signals) h.sound));
    spots = spots;
    tree = subst IsTree (sym (g.nodes ∙ h.nodes)) tree;
    step = let k = g.step_is in omega (arith, k, some);
  },
  record {
    signals = g.signals ∙ h.signals;
    nodes = g.nodes ∙ h.nodes;
    processes = ap procs_of g.processes ∙ h.processes;
    step = g.step_is;
  },
)
  where
    procs_length : List Process → ℕ
    procs_length ps = length (procs_of ps)

    signals : (length d.signals ≤ most_parts) × IsTrue (are_wide (map signal_of d.signals)) × IsTrue (are_nodes (length d.nodes) (length d.signals) (map node_of d.nodes))
    signals = of_ok (λ (d : Design). (length d.signals ≤ most_parts) × IsTrue (are_wide (map signal_of d.signals)) × IsTrue (are_nodes (length d.nodes) (length d.signals) (map node_of d.nodes)))
        (flat_design ms top) d (signals_fit ms top) e

    lists : (length d.nodes ≤ most_parts) × (length d.processes ≤ most_parts)
    lists = of_ok (λ (d : Design). (length d.nodes ≤ most_parts) × (length d.processes ≤ most_parts)) (flat_design ms top) d (lists_short ms top) e

    tree : IsTree (map node_of d.nodes)
    tree = of_ok (λ (d : Design). IsTree (map node_of d.nodes)) (flat_design ms top) d (trees ms top) e

    many_nodes : length f.nodes ≡ length d.nodes
    many_nodes = ap length (g.nodes ∙ h.nodes) ∙ length-map d.nodes node_of

    many_signals : length f.signals ≡ length d.signals
    many_signals = ap length (g.signals ∙ h.signals) ∙ length-map d.signals signal_of

    spots : IsTrue (are_nodes (length f.nodes) (length f.signals) f.nodes)
    spots =
        subst (λ ns. IsTrue (are_nodes (length f.nodes) (length f.signals) ns)) (sym (g.nodes ∙ h.nodes))
        (subst (λ n. IsTrue (are_nodes n (length f.signals) (map node_of d.nodes))) (sym many_nodes)
        (subst (λ n. IsTrue (are_nodes (length d.nodes) n (map node_of d.nodes))) (sym many_signals) signals.2))
