-- Names stay signals while a design grows.
use Rattle.std.proofs.Common.{◌≡◌, ◌≤◌, ℕ, List, ◌++◌, length, sym, ap, ◌∙◌, subst, arith}
use Rattle.std.proofs.lemmas.List.{append_assoc}
use Rattle.gpi.specs.declared.design.Signal.{Signal}
use Rattle.gpi.specs.Design.{widths}
use Rattle.v_flat.specs.Scope.Scope.{Scope}
use Rattle.v_layout.specs.declared.build.parts.Parts.{Parts}
use Rattle.v_layout.specs.Build.Parts.{Grows}
use Rattle.v_layout.specs.Named.{AreSignals, StaySignals}
use Rattle.v_layout.proofs.Scopes.{widths_append}

pub grown_stay : (s : Scope) (x y : Parts) → Grows x y → StaySignals s (widths x.signals) → StaySignals s (widths y.signals)
grown_stay s x y g h = λ rest. subst (λ (us : List ℕ). AreSignals s us) (same rest) (h (widths g.more ++ rest))
  where
    same : (rest : List ℕ) → widths x.signals ++ (widths g.more ++ rest) ≡ widths y.signals ++ rest
    same rest =
        sym (append_assoc (widths x.signals) (widths g.more) rest) ∙ ap (λ (us : List ℕ). us ++ rest) (sym (widths_append x.signals g.more))
        ∙ ap (λ (ss : List Signal). widths ss ++ rest) (sym g.signals)

pub grown_more : (x y z : Parts) → Grows x y → Grows y z → Grows x z
grown_more x y z g h = record {
  more = g.more ++ h.more;
  signals = h.signals ∙ ap (λ (ss : List Signal). ss ++ h.more) g.signals ∙ append_assoc x.signals g.more h.more;
  nodes = let m = g.nodes in let n = h.nodes in omega (arith, m, n);
}
