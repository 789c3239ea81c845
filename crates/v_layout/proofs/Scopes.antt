-- What the names of an instance mean is proper, and they are signals of the design.
use Rattle.std.proofs.Common.{◌≡◌, ℕ, zero, suc, ◌+◌, ◌-◌, ◌<◌, ◌≤◌, List, [], ◌∷◌, ◌++◌, map, length, get_or, Option, Some, None, Bool, true, false, bytes_eq, if◌then◌else◌, refl, sym, ap, ◌∙◌, subst, arith}
use Rattle.std.specs.List.{All}
use Rattle.std.specs.Option.{option_or}
use Rattle.std.proofs.lemmas.List.{length-append, get_or_append_left, get_or-append_right, append-nil, append_assoc, map-append}
use Rattle.std.proofs.lemmas.List.Elements.{All-head, All-tail}
use Rattle.four_value.specs.declared.Digit.{Digit}
use Rattle.gpi.specs.declared.design.Signal.{Signal}
use Rattle.gpi.specs.Design.{widths}
use Rattle.gpi.specs.Terms.{IsWidth, AreWords}
use Rattle.v_flat.specs.declared.scope.meaning.Bounds.{Bounds}
use Rattle.v_flat.specs.declared.scope.meaning.DataObject.{DataObject}
use Rattle.v_flat.specs.declared.scope.meaning.Meaning.{Meaning}
use Rattle.v_flat.specs.declared.scope.meaning.Meaning.TheVariants.{Constant, Object}
use Rattle.v_flat.specs.Scope.Scope.{Scope, find, means, width_of, low_of}
use Rattle.v_flat.specs.Objects.{count_of, words_of}
use Rattle.v_flat.specs.Declarations.{Declared, Entries}
use Rattle.v_flat.specs.Paths.{Path, SignalAt, below, signal_of}
use Rattle.v_flat.specs.Design.{word_signals, signals_of, all_signals, object_of, start_of, entries}
use Rattle.v_check.specs.Names.Proper.{IsProper, AreProper}
use Rattle.v_check.specs.Constants.Checked.{IsNameOf, IsObjectOf}
use Rattle.v_header.specs.declared.parameter.constants.Constant as code
use Rattle.v_header.specs.declared.parameter.constants.Constants.{Constants}
use Rattle.v_header.specs.Parameter.Constants.{AreConstants, entries_of}
use Rattle.v_layout.specs.Fits.{IsProperDeclared}
use Rattle.v_layout.specs.Named.{AreSignals}
use Rattle.v_flat.proofs.ShapeLemmas.Declared.{span_some}

-- ---- constants, and behind them what is declared

first_one : (b : Bool) (x y z : Option Meaning) (m : Meaning) → y ≡ option_or x z → (if b then Some m else y) ≡ option_or (if b then Some m else x) z
first_one true x y z m h = refl
first_one false x y z m h = h

pub means_append : (cs es : Entries) (n : List ℕ) → means (cs ++ es) n ≡ option_or (means cs n) (means es n)
means_append [] es n = refl
means_append (c ∷ cs) es n = first_one (bytes_eq n c.0) (means cs n) (means (cs ++ es) n) (means es n) c.1 (means_append cs es n)

-- ---- proper scopes

proper_first : (x y : Option Meaning) → IsProper (option_or x y) → IsProper x
proper_first None y h = tt
proper_first (Some m) y h = h

proper_both : (x y : Option Meaning) → IsProper x → IsProper y → IsProper (option_or x y)
proper_both None y h k = k
proper_both (Some m) y h k = h

constants_proper : (c : Constants) → AreConstants c → AreProper (means (entries_of c.list.items))
constants_proper c h =
    let es : Entries = entries_of c.list.items in
    λ n. proper_first (means es n) (means c.scope n) (subst (λ (s : Scope). IsProper (find n s)) (sym h.again) (h.proper n))

proper_by : (b : Bool) (o : DataObject) (y : Option Meaning) → IsProper (Some (Object o)) → IsProper y → IsProper (if b then Some (Object o) else y)
proper_by true o y h k = h
proper_by false o y h k = k

entries_proper : (first : ℕ) (ds : List Declared) → All IsProperDeclared ds → AreProper (means (entries first ds))
entries_proper first [] a = λ n. tt
entries_proper first (d ∷ ds) a =
    λ n. proper_by (bytes_eq n d.name) (object_of first d) (means (entries (first + count_of d.words) ds) n) (All-head IsProperDeclared d ds a)
    (entries_proper (first + count_of d.words) ds (All-tail IsProperDeclared d ds a) n)

pub scopes_are_proper : (c : Constants) (first : ℕ) (ds : List Declared) → AreConstants c → All IsProperDeclared ds → AreProper (means (entries_of c.list.items ++ entries first ds))
scopes_are_proper c first ds h a =
    let cs : Entries = entries_of c.list.items in
    let es : Entries = entries first ds in
    λ n. subst IsProper (sym (means_append cs es n)) (proper_both (means cs n) (means es n) (constants_proper c h n) (entries_proper first ds a n))

-- ---- the widths of signals

pub widths_append : (xs ys : List Signal) → widths (xs ++ ys) ≡ widths xs ++ widths ys
widths_append [] ys = refl
widths_append (s ∷ xs) ys = ap (λ (ws : List ℕ). s.width ∷ ws) (widths_append xs ys)

abbrev pub widths_at : List SignalAt → List ℕ
widths_at ss = widths (map signal_of ss)

pub widths_both : (xs ys : List SignalAt) → widths_at (xs ++ ys) ≡ widths_at xs ++ widths_at ys
widths_both xs ys = ap widths (map-append signal_of xs ys) ∙ widths_append (map signal_of xs) (map signal_of ys)

words_length : (p : Path) (w : ℕ) (st : Digit) (i n : ℕ) → length (widths_at (word_signals p w st i n)) ≡ n
words_length p w st i zero = refl
words_length p w st i (suc n) = ap suc (words_length p w st (i + 1) n)

words_each : (p : Path) (w : ℕ) (st : Digit) (i n j : ℕ) → j < n → get_or (widths_at (word_signals p w st i n)) j 0 ≡ w
words_each p w st i zero j h = absurd (omega arith)
words_each p w st i (suc n) zero h = refl
words_each p w st i (suc n) (suc j) h = words_each p w st (i + 1) n j (omega arith)

signals_length : (p : Path) (o : DataObject) (ws : Option Bounds) → length (widths_at (signals_of p o ws)) ≡ count_of ws
signals_length p o None = refl
signals_length p o (Some w) = words_length p (width_of o.bounds) (start_of o.kind) (low_of w) (width_of w)

-- ---- an object among the signals

-- what lies between
between : (pre mid post : List ℕ) (s v : ℕ) → length pre ≤ s → s < length pre + length mid → get_or mid (s - length pre) 0 ≡ v → get_or (pre ++ (mid ++ post)) s 0 ≡ v
between pre mid post s v h k e =
    get_or-append_right pre (mid ++ post) (length pre) s 0 refl h ∙ get_or_append_left mid post 0 (s - length pre) (omega (arith, h, k)) ∙ e

long : (pre mid post : List ℕ) → length pre + length mid ≤ length (pre ++ (mid ++ post))
long pre mid post =
    let a = length-append pre (mid ++ post) in
    let b = length-append mid post in
    omega (arith, a, b)

words_there : (o : DataObject) (w : Bounds) (p : Path) (pre post : List ℕ) → length pre ≡ o.first → IsWidth (width_of o.bounds)
    → AreWords (words_of o.first w) (width_of o.bounds) (pre ++ (widths_at (signals_of p o (Some w)) ++ post))
words_there o w p pre post e v =
    let mid : List ℕ = widths_at (signals_of p o (Some w)) in
    let len : length mid ≡ width_of w = signals_length p o (Some w) in
    let far = long pre mid post in
    let low = span_some w.left w.right in
    record {
      first = omega (arith, e, len, far, low);
      inside = omega (arith, e, len, far);
      width = v;
      each = λ s a b. between pre mid post s (width_of o.bounds) (omega (arith, e, a)) (omega (arith, e, len, b))
          (words_each p (width_of o.bounds) (start_of o.kind) (low_of w) (width_of w) (s - length pre) (omega (arith, e, a, b)));
    }

object_there : (o : DataObject) (ws : Option Bounds) (p : Path) (pre post : List ℕ) → length pre ≡ o.first → IsWidth (width_of o.bounds)
    → IsObjectOf o ws (pre ++ (widths_at (signals_of p o ws) ++ post))
object_there o None p pre post e v =
    let far = long pre (width_of o.bounds ∷ []) post in (
      omega (arith, e, far),
      between pre (width_of o.bounds ∷ []) post o.first (width_of o.bounds) (omega (arith, e)) (omega (arith, e))
          (ap (λ (i : ℕ). get_or (width_of o.bounds ∷ []) i 0) (let z : o.first - length pre ≡ 0 = omega (arith, e) in z)),
    )
object_there o (Some w) p pre post e v = words_there o w p pre post e v

-- ---- all names

name_by : (b : Bool) (o : DataObject) (y : Option Meaning) (ws : List ℕ) → IsObjectOf o o.words ws → IsNameOf y ws → IsNameOf (if b then Some (Object o) else y) ws
name_by true o y ws h k = h
name_by false o y ws h k = k

shifted : (pre xs ys post : List ℕ) → (pre ++ xs) ++ (ys ++ post) ≡ pre ++ (xs ++ (ys ++ post))
shifted pre xs ys post = append_assoc pre xs (ys ++ post)

abbrev Held : Path → ℕ → List Declared → List ℕ → List ℕ → List ℕ
Held path first ds pre post = pre ++ (widths_at (all_signals path first ds) ++ post)

one_more : (path : Path) (first : ℕ) (d : Declared) (ds : List Declared) (pre post : List ℕ)
    → Held path first (d ∷ ds) pre post ≡ pre ++ (widths_at (signals_of (below path d.name) (object_of first d) d.words) ++ (widths_at (all_signals path (first + count_of d.words) ds) ++ post))
one_more path first d ds pre post =
    let xs : List SignalAt = signals_of (below path d.name) (object_of first d) d.words in
    let ys : List SignalAt = all_signals path (first + count_of d.words) ds in
    ap (λ (ws : List ℕ). pre ++ (ws ++ post)) (widths_both xs ys) ∙ ap (λ (ws : List ℕ). pre ++ ws) (append_assoc (widths_at xs) (widths_at ys) post)

entries_named : (path : Path) (first : ℕ) (ds : List Declared) (pre post : List ℕ) → length pre ≡ first → All IsProperDeclared ds → AreSignals (means (entries first ds)) (Held path first ds pre post)
entries_named path first [] pre post e a = λ n. tt
entries_named path first (d ∷ ds) pre post e a =
    let o : DataObject = object_of first d in
    let xs : List ℕ = widths_at (signals_of (below path d.name) o d.words) in
    let ys : List ℕ = widths_at (all_signals path (first + count_of d.words) ds) in
    let len : length (pre ++ xs) ≡ first + count_of d.words = length-append pre xs ∙ (let k = signals_length (below path d.name) o d.words in let r : length pre + length xs ≡ first + count_of d.words = omega (arith, k, e) in r) in
    let p : IsProperDeclared d = All-head IsProperDeclared d ds a in
    λ n. subst (λ (ws : List ℕ). IsNameOf (find n (means (entries first (d ∷ ds)))) ws) (sym (one_more path first d ds pre post))
    (name_by (bytes_eq n d.name) o (means (entries (first + count_of d.words) ds) n) (pre ++ (xs ++ (ys ++ post)))
    (object_there o d.words (below path d.name) pre (ys ++ post) e p.0)
    (subst (λ (ws : List ℕ). IsNameOf (means (entries (first + count_of d.words) ds) n) ws) (shifted pre xs ys post)
    (entries_named path (first + count_of d.words) ds (pre ++ xs) post len (All-tail IsProperDeclared d ds a) n)))

constant_by : (b : Bool) (ds : List Digit) (r : Bounds) (y : Option Meaning) (ws : List ℕ) → IsNameOf y ws → IsNameOf (if b then Some (Constant ds r) else y) ws
constant_by true ds r y ws h = tt
constant_by false ds r y ws h = h

constants_named : (cs : List code.Constant) (ws : List ℕ) → AreSignals (means (entries_of cs)) ws
constants_named [] ws = λ n. tt
constants_named (c ∷ cs) ws = λ n. constant_by (bytes_eq n c.name.items) c.value.digits c.value.bounds (means (entries_of cs) n) ws (constants_named cs ws n)

named_both : (x y : Option Meaning) (ws : List ℕ) → IsNameOf x ws → IsNameOf y ws → IsNameOf (option_or x y) ws
named_both None y ws h k = k
named_both (Some m) y ws h k = h

map_length : (xs : List SignalAt) → length (widths_at xs) ≡ length xs
map_length [] = refl
map_length (x ∷ xs) = ap suc (map_length xs)

pub names_are_signals : (cs : List code.Constant) (path : Path) (so_far : List SignalAt) (ds : List Declared) → All IsProperDeclared ds
    → AreSignals (means (entries_of cs ++ entries (length so_far) ds)) (widths_at (so_far ++ all_signals path (length so_far) ds))
names_are_signals cs path so_far ds a =
    let first : ℕ = length so_far in
    let all : List SignalAt = all_signals path first ds in
    let es : Entries = entries first ds in
    let there : widths_at so_far ++ (widths_at all ++ []) ≡ widths_at (so_far ++ all)
    = ap (λ (ws : List ℕ). widths_at so_far ++ ws) (append-nil (widths_at all)) ∙ sym (widths_both so_far all) in
    λ n. subst (λ (ws : List ℕ). IsNameOf (find n (means (entries_of cs ++ es))) ws) there
    (subst (λ (x : Option Meaning). IsNameOf x (widths_at so_far ++ (widths_at all ++ []))) (sym (means_append (entries_of cs) es n))
    (named_both (means (entries_of cs) n) (means es n) (widths_at so_far ++ (widths_at all ++ [])) (constants_named cs (widths_at so_far ++ (widths_at all ++ [])) n)
    (entries_named path first ds (widths_at so_far) [] (map_length so_far) a n)))
