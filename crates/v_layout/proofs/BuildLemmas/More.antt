-- The parts so far, with one part more.
use Rattle.std.proofs.Common.{◌≡◌, ◌∙◌, ℕ, List, [], ◌∷◌, ◌++◌, map, length, reverse, slice_set, Vec, refl, sym, ap, subst, arith}
use Rattle.std.proofs.lemmas.List.{append-nil, append_assoc, map-set, reverse-append}
use Rattle.gpi.specs.declared.design.Node.{Node}
use Rattle.gpi.specs.declared.design.Process.{Process}
use Rattle.gpi.specs.declared.design.Spot.{Spot}
use Rattle.gpi.specs.Design.{Proc, proc_of, procs_of, widths}
use Rattle.v_flat.specs.Paths.{Path, node_of, path_text}
use Rattle.v_flat.specs.Design.{Design, with_process}
use Rattle.v_layout.specs.Build.Parts.{AreSoundIn, IsSoFar, IsSoundIn, named_nodes}
use Rattle.v_layout.specs.declared.build.parts.Parts.{Parts}

procs_both : (ps qs : List Process) → procs_of (ps ++ qs) ≡ procs_of ps ++ procs_of qs
procs_both [] qs = refl
procs_both (p ∷ ps) qs = ap (λ xs. proc_of p ∷ xs) (procs_both ps qs)

sound_both : (ps qs : List Process) (ws : List ℕ) → AreSoundIn ps ws → AreSoundIn qs ws → AreSoundIn (ps ++ qs) ws
sound_both [] qs ws h k = k
sound_both (p ∷ ps) qs ws h k = (h.0, sound_both ps qs ws h.1 k)

pub process_more : (p : Process) (x y : Parts) → y.signals ≡ x.signals → y.nodes ≡ x.nodes → y.processes ≡ x.processes ++ p ∷ [] → IsSoundIn p (widths x.signals)
    → (d : Design) → IsSoFar d x → IsSoFar (with_process (proc_of p) d) y
process_more p x y s n e sound d h = record {
  signals = s ∙ h.signals;
  nodes = ap (λ (v : Vec Node _). v.items) n ∙ h.nodes;
  processes = ap procs_of e ∙ procs_both x.processes (p ∷ []) ∙ ap (λ (ps : List Proc). ps ++ (proc_of p ∷ [])) h.processes;
  sound = subst (λ ps. AreSoundIn ps (widths y.signals)) (sym e) (subst (λ ss. AreSoundIn (x.processes ++ p ∷ []) (widths ss)) (sym s) (sound_both x.processes (p ∷ []) (widths x.signals) h.sound (sound, tt)));
}

pub names_known : (k : ℕ) (cs : List (List ℕ × Spot)) (name path : List ℕ) (x y : Parts) → y.signals ≡ x.signals → y.processes ≡ x.processes
    → y.nodes.items ≡ slice_set x.nodes.items k (record { path = name; children = cs }) → name ≡ path
    → (d : Design) (p : Path) → IsSoFar d x → path_text p ≡ path → IsSoFar (named_nodes k p cs d) y
names_known k cs name path x y s e n is d p h t = record {
  signals = s ∙ h.signals;
  nodes = n ∙ ap (λ ns. slice_set ns k (record { path = name; children = cs })) h.nodes
      ∙ ap (λ m. slice_set (map node_of d.nodes) k (record { path = m; children = cs })) (is ∙ sym t)
      ∙ sym (map-set node_of d.nodes k (record { path = p; children = cs }));
  processes = ap procs_of e ∙ h.processes;
  sound = subst (λ ps. AreSoundIn ps (widths y.signals)) (sym e) (subst (λ ss. AreSoundIn x.processes (widths ss)) (sym s) h.sound);
}

-- ---- instances in their order

pub left_behind : (all left rest : List Node) (x : Node) (done : List Node) → done ++ reverse left ≡ all → left ≡ rest ++ x ∷ [] → (done ++ x ∷ []) ++ reverse rest ≡ all
left_behind all left rest x done h e =
    append_assoc done (x ∷ []) (reverse rest) ∙ ap (λ xs. done ++ xs) (sym (reverse-append rest (x ∷ []))) ∙ ap (λ xs. done ++ reverse xs) (sym e) ∙ h

pub none_left : (all left done : List Node) → done ++ reverse left ≡ all → length left ≡ 0 → done ≡ all
none_left all [] done h e = sym (append-nil done) ∙ h
none_left all (x ∷ xs) done h e = absurd (omega (arith, e))
