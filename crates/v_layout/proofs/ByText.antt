-- The signals of an instance are told by the text of its path.
use Rattle.std.proofs.Common.{◌≡◌, ℕ, zero, suc, ◌+◌, List, [], ◌∷◌, ◌++◌, map, Option, Some, None, refl, sym, ◌∙◌, ap}
use Rattle.std.proofs.lemmas.List.{map-append}
use Rattle.four_value.specs.declared.Digit.{Digit}
use Rattle.gpi.specs.declared.design.Signal.{Signal}
use Rattle.v_flat.specs.declared.scope.meaning.Bounds.{Bounds}
use Rattle.v_flat.specs.declared.scope.meaning.DataObject.{DataObject}
use Rattle.v_flat.specs.Scope.Scope.{width_of, low_of}
use Rattle.v_flat.specs.Objects.{count_of}
use Rattle.v_flat.specs.Declarations.{Declared}
use Rattle.v_flat.specs.Paths.{Path, path_text, word_text, below, signal_of}
use Rattle.v_flat.specs.Design.{word_signals, signals_of, all_signals, object_of, start_of}
use Rattle.v_layout.specs.Adds.{AddsSome}
use Rattle.v_layout.specs.Steps.{dotted, words_at, signals_at, signals_below}
use Rattle.v_layout.specs.Texts.{HasText}
use Rattle.v_layout.proofs.PathTexts.{below_text}

abbrev word_text_signal : List ℕ → ℕ → Digit → ℕ → Signal
word_text_signal t w start i = record { path = t ++ word_text (Some i); width = w; start = start }

words_same : (p : Path) (t : List ℕ) → path_text p ≡ t → (w : ℕ) (start : Digit) (i n : ℕ) → map signal_of (word_signals p w start i n) ≡ words_at t w start i n
words_same p t e w start i zero = refl
words_same p t e w start i (suc n) =
    ap (λ (u : List ℕ). word_text_signal u w start i ∷ map signal_of (word_signals p w start (i + 1) n)) e
    ∙ ap (λ (ss : List Signal). word_text_signal t w start i ∷ ss) (words_same p t e w start (i + 1) n)

same_signals : (p : Path) (t : List ℕ) → path_text p ≡ t → (o : DataObject) (ws : Option Bounds) → map signal_of (signals_of p o ws) ≡ map signal_of (signals_of (t ∷ []) o ws)
same_signals p t e o None = ap (λ (u : List ℕ). (let s : Signal = record { path = u ++ []; width = width_of o.bounds; start = start_of o.kind } in s) ∷ []) e
same_signals p t e o (Some w) = words_same p t e (width_of o.bounds) (start_of o.kind) (low_of w) (width_of w)

-- which number the first signal has doesn't count
any_number : (q : Path) (first : ℕ) (d : Declared) (ws : Option Bounds) → map signal_of (signals_of q (object_of first d) ws) ≡ map signal_of (signals_of q (object_of 0 d) ws)
any_number q first d None = refl
any_number q first d (Some w) = refl

pub all_are : (p : Path) (t : List ℕ) → HasText p t → (first : ℕ) (ds : List Declared) → map signal_of (all_signals p first ds) ≡ signals_below t ds
all_are p t h first [] = refl
all_are p t h first (d ∷ ds) =
    map-append signal_of (signals_of (below p d.name) (object_of first d) d.words) (all_signals p (first + count_of d.words) ds)
    ∙ ap (λ (ss : List Signal). ss ++ map signal_of (all_signals p (first + count_of d.words) ds))
    (same_signals (below p d.name) (dotted t d.name) (below_text p t d.name h) (object_of first d) d.words ∙ any_number (dotted t d.name ∷ []) first d d.words)
    ∙ ap (λ (ss : List Signal). signals_at (dotted t d.name) d ++ ss) (all_are p t h (first + count_of d.words) ds)

pub added_all : (t : List ℕ) (ds : List Declared) (old new : List Signal) → new ≡ old ++ signals_below t ds
    → (p : Path) (first : ℕ) → HasText p t → new ≡ old ++ map signal_of (all_signals p first ds)
added_all t ds old new e p first h = e ∙ ap (λ (ss : List Signal). old ++ ss) (sym (all_are p t h first ds))

pub added_some : (t : List ℕ) (ds : List Declared) (old new : List Signal) → AddsSome old (signals_below t ds) new
    → (p : Path) (first : ℕ) → HasText p t → AddsSome old (map signal_of (all_signals p first ds)) new
added_some t ds old new a p first h = record { some = a.some; rest = a.rest; is = a.is; of = a.of ∙ sym (all_are p t h first ds) }
