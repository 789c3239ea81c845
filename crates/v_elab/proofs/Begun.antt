-- The state before the first item, and that it is ready for the next one.
use Rattle.v_check.specs.Names.Proper.{AreProper}
use Rattle.std.proofs.Common.{true, ◌≡◌, ◌<◌, ◌∙◌, ℕ, List, [], ◌∷◌, ◌++◌, map, length, None, refl, sym, ap, subst, arith, length-append}
use Rattle.std.proofs.lemmas.List.{append_assoc, append-nil, length-map, map-append}
use Rattle.four_value.specs.declared.Digit.TheVariants.{X}
use Rattle.gpi.specs.Activation.{IsSound}
use Rattle.gpi.specs.Design.{widths}
use Rattle.gpi.specs.Soundness.{are_wakes}
use Rattle.gpi.specs.declared.design.Process.{Process}
use Rattle.gpi.specs.declared.design.Signal.{Signal}
use Rattle.gpi.specs.declared.design.Spot.{Spot}
use Rattle.v_flat.specs.Scope.Scope.{Scope, means}
use Rattle.v_flat.specs.declared.scope.meaning.Meaning.{Meaning}
use Rattle.v_process.specs.declared.drive.digits.DrivenDigits.{DrivenDigits}
use Rattle.v_process.specs.Drive.Digits.{Keeps}
use Rattle.v_flat.specs.Declarations.{Declared}
use Rattle.v_flat.specs.Paths.{Path, SignalAt, path_text, signal_of}
use Rattle.v_flat.specs.Design.{Design, all_signals, children, entries}
use Rattle.v_flat.proofs.ShapeLemmas.Signals.{all_many}
use Rattle.v_header.specs.declared.parameter.constants.Constants.{Constants}
use Rattle.v_header.specs.Parameter.Constants.{AreConstants, entries_of}
use Rattle.v_layout.specs.declared.build.parts.Parts.{Parts}
use Rattle.v_layout.specs.Build.Parts.{AreSoundIn, Grows, HasNode, IsSoFar, IsSoundIn, opened_nodes}
use Rattle.v_layout.specs.Fits.{Fit}
use Rattle.v_layout.specs.Named.{AreSignals}
use Rattle.v_layout.specs.Texts.{HasText}
use Rattle.v_layout.proofs.Scopes.{names_are_signals, scopes_are_proper, widths_append}
use Rattle.v_layout.proofs.Stay.{names_stay}
use Rattle.v_elab.specs.States.{IsReady}
use Rattle.v_elab.specs.Opens.{Opens}

-- ---- more signals

one_grows : (p : Process) (ws vs : List ℕ) → IsSoundIn p ws → IsSoundIn p (ws ++ vs)
one_grows p ws vs h = record {
  body = λ more. subst (λ us. IsSound p.body us) (sym (append_assoc ws vs more)) (h.body (vs ++ more));
  wakes = λ more. subst (λ (us : List ℕ). are_wakes p.wakes (length us) ≡ true) (sym (append_assoc ws vs more)) (h.wakes (vs ++ more));
}

all_grow : (ps : List Process) (ws vs : List ℕ) → AreSoundIn ps ws → AreSoundIn ps (ws ++ vs)
all_grow [] ws vs h = tt
all_grow (p ∷ ps) ws vs h = (one_grows p ws vs h.0, all_grow ps ws vs h.1)

-- what the signals of an instance are added to
abbrev pub AddsSignals : List ℕ → List Declared → List Signal → List Signal → Type 0
AddsSignals text ds old new = (p : Path) (first : ℕ) → HasText p text → new ≡ old ++ map signal_of (all_signals p first ds)

-- ---- the definition's state

pub opens : (text : List ℕ) (c : Constants) (ds : List Declared) (x y : Parts) (s : List (List ℕ × Meaning)) (ks : List (List ℕ × Spot)) (driven : DrivenDigits) (signals : List Signal)
    → means s ≡ means (entries_of c.list.items ++ entries (length x.signals) ds) → ks ≡ children (length x.signals) ds
    → ((d : Design) (p : Path) → IsSoFar d x → path_text p ≡ text → IsSoFar (opened_nodes p d) y) → AddsSignals text ds y.signals signals → Keeps driven []
    → Opens text c ds x (record { scope = s; parts = record { signals = signals; nodes = y.nodes; processes = y.processes }; driven = driven; children = ks })
opens text c ds x y s ks driven signals scope kids node adds none path d t h = record {
  goes_on = record {
    scope = scope ∙ ap (λ n. means (entries_of c.list.items ++ entries n ds)) first;
    signals = ap length all ∙ length-map (d.signals ++ all_signals path (length d.signals) ds) signal_of;
    driven = none;
  };
  parts = record {
    signals = all;
    nodes = n.nodes;
    processes = n.processes;
    sound = subst (λ ss. AreSoundIn y.processes (widths ss)) (sym (adds path (length d.signals) t))
        (subst (λ ws. AreSoundIn y.processes ws) (sym (widths_append y.signals (map signal_of (all_signals path (length d.signals) ds))))
        (all_grow y.processes (widths y.signals) (widths (map signal_of (all_signals path (length d.signals) ds))) n.sound));
  };
  children = kids ∙ ap (λ n. children n ds) first;
}
  where
    n : IsSoFar (opened_nodes path d) y
    n = node d path h t.is

    first : length x.signals ≡ length d.signals
    first = ap length h.signals ∙ length-map d.signals signal_of

    all : signals ≡ map signal_of (d.signals ++ all_signals path (length d.signals) ds)
    all = adds path (length d.signals) t ∙ ap (λ ss. ss ++ map signal_of (all_signals path (length d.signals) ds)) n.signals
        ∙ sym (map-append signal_of d.signals (all_signals path (length d.signals) ds))

-- ---- ready

-- any signals are those of paths of one name
abbrev as_path : Signal → SignalAt
as_path s = record { path = s.path ∷ []; word = None; width = s.width; start = s.start }

one_path : (s : Signal) → signal_of (as_path s) ≡ s
one_path s = ap (λ p. record { path = p; width = s.width; start = s.start }) (append-nil s.path)

all_paths : (ss : List Signal) → map signal_of (map as_path ss) ≡ ss
all_paths [] = refl
all_paths (s ∷ ss) = ap (λ x. x ∷ map signal_of (map as_path ss)) (one_path s) ∙ ap (λ xs. s ∷ xs) (all_paths ss)

-- and any widths those of signals
abbrev as_signal : ℕ → SignalAt
as_signal w = record { path = []; word = None; width = w; start = X }

all_widths : (ws : List ℕ) → widths (map signal_of (map as_signal ws)) ≡ ws
all_widths [] = refl
all_widths (w ∷ ws) = ap (λ us. w ∷ us) (all_widths ws)

stay : (s : Scope) (signals : List SignalAt) (more : List ℕ) → AreSignals s (widths (map signal_of signals)) → AreSignals s (widths (map signal_of signals) ++ more)
stay s signals more h =
    subst (λ ws. AreSignals s ws)
    (ap widths (map-append signal_of signals (map as_signal more)) ∙ widths_append (map signal_of signals) (map signal_of (map as_signal more)) ∙ ap (λ us. widths (map signal_of signals) ++ us) (all_widths more))
    (names_stay s signals (map as_signal more) h)

pub is_ready : (text : List ℕ) (c : Constants) (ds : List Declared) (x y : Parts) (s : List (List ℕ × Meaning)) (ks : List (List ℕ × Spot)) (driven : DrivenDigits) (signals : List Signal)
    → AreConstants c → Fit (length x.signals) ds → means s ≡ means (entries_of c.list.items ++ entries (length x.signals) ds) → y.signals ≡ x.signals → AddsSignals text ds y.signals signals
    → IsReady (record { scope = s; parts = record { signals = signals; nodes = y.nodes; processes = y.processes }; driven = driven; children = ks })
is_ready text c ds x y s ks driven signals constants fit scope same adds = record {
  proper = subst AreProper (sym scope) (scopes_are_proper c (length x.signals) ds constants fit.proper);
  signals = λ more. subst (λ t. AreSignals t (widths signals ++ more)) (sym (scope ∙ ap (λ n. means (entries_of c.list.items ++ entries n ds)) (sym many)))
      (subst (λ ss. AreSignals (means (entries_of c.list.items ++ entries (length so_far) ds)) (widths ss ++ more)) (sym all)
      (stay (means (entries_of c.list.items ++ entries (length so_far) ds)) (so_far ++ all_signals (text ∷ []) (length so_far) ds) more (names_are_signals c.list.items (text ∷ []) so_far ds fit.proper)));
  few =
      let r = fit.room in
      let e = ap length (adds (text ∷ []) (length x.signals) here) ∙ length-append y.signals (map signal_of (all_signals (text ∷ []) (length x.signals) ds)) in
      let f = ap length same in
      let g = length-map (all_signals (text ∷ []) (length x.signals) ds) signal_of in
      let k = all_many (text ∷ []) (length x.signals) ds in omega (arith, r, e, f, g, k);
}
  where
    so_far : List SignalAt
    so_far = map as_path x.signals

    many : length so_far ≡ length x.signals
    many = length-map x.signals as_path

    here : HasText (text ∷ []) text
    here = record { named = λ e. cc; is = refl }

    all : signals ≡ map signal_of (so_far ++ all_signals (text ∷ []) (length so_far) ds)
    all = adds (text ∷ []) (length so_far) here ∙ ap (λ ss. ss ++ map signal_of (all_signals (text ∷ []) (length so_far) ds)) (same ∙ sym (all_paths x.signals))
        ∙ sym (map-append signal_of so_far (all_signals (text ∷ []) (length so_far) ds))

-- ---- what is there more

pub more_there : (x y : Parts) (text : List ℕ) (signals : List Signal) (ds : List Declared) → HasNode x text y → AddsSignals text ds y.signals signals
    → Grows x (record { signals = signals; nodes = y.nodes; processes = y.processes })
more_there x y text signals ds h adds = record {
  more = map signal_of (all_signals (text ∷ []) 0 ds);
  signals = adds (text ∷ []) 0 (record { named = λ e. cc; is = refl }) ∙ ap (λ ss. ss ++ map signal_of (all_signals (text ∷ []) 0 ds)) h.signals;
  nodes = let e = ap length h.nodes in let k = length-append x.nodes.items (record { path = text; children = [] } ∷ []) in omega (arith, e, k);
}

pub node_there : (x y : Parts) (text : List ℕ) → HasNode x text y → length x.nodes.items < length y.nodes.items
node_there x y text h = let e = ap length h.nodes in let k = length-append x.nodes.items (record { path = text; children = [] } ∷ []) in omega (arith, e, k)
