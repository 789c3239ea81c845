-- One turn of a loop over declared names, constants or words.
use Rattle.std.proofs.Common.{◌≡◌, ℕ, zero, suc, ◌+◌, ◌-◌, ◌<◌, ◌≤◌, List, [], ◌∷◌, ◌++◌, length, drop, get_or, Some, sym, ap, ◌∙◌, arith}
use Rattle.std.proofs.lemmas.List.{append_assoc, append-nil}
use Rattle.four_value.specs.declared.Digit.{Digit}
use Rattle.gpi.specs.declared.design.Signal.{Signal}
use Rattle.gpi.specs.declared.design.Spot.{Spot}
use Rattle.v_flat.specs.declared.scope.meaning.DataObject.{DataObject}
use Rattle.v_flat.specs.declared.scope.meaning.Meaning.{Meaning}
use Rattle.v_flat.specs.declared.scope.meaning.Meaning.TheVariants.{Object}
use Rattle.v_flat.specs.Scope.Scope.{Scope, means, named}
use Rattle.v_flat.specs.Objects.{count_of}
use Rattle.v_flat.specs.Declarations.{Declared, Entries, signals_in}
use Rattle.v_flat.specs.Paths.{word_text}
use Rattle.v_flat.specs.Design.{children, spot_of, object_of, entries}
use Rattle.v_layout.specs.declared.details.Line.{Line}
use Rattle.v_layout.specs.Order.{line_in, lines_in}
use Rattle.v_layout.proofs.DeclareTurns.{here}
use Rattle.v_header.specs.declared.parameter.constants.Constant.{Constant}
use Rattle.v_header.specs.Parameter.Constants.{entries_of}
use Rattle.v_header.specs.Parameter.Values.{meaning_of}
use Rattle.v_layout.specs.Steps.{words_at, signals_at, signals_below, dotted}
use Rattle.v_layout.proofs.InOrder.{line_here}

-- ---- numbers

pub signals_here : (ls : List Line) (i : ℕ) (d : Line) → i < length ls
    → signals_in (lines_in (drop i ls)) ≡ count_of (get_or ls i d).declared.words + signals_in (lines_in (drop (i + 1) ls))
signals_here ls i d h = ap signals_in (line_here ls i d h)

pub signals_left : (ls : List Line) (i : ℕ) → signals_in (lines_in (drop i ls)) ≤ signals_in (lines_in ls)
signals_left [] zero = omega arith
signals_left [] (suc i) = omega arith
signals_left (l ∷ ls) zero = omega arith
signals_left (l ∷ ls) (suc i) = let h = signals_left ls i in omega (arith, h)

-- ---- children

pub one_child : (ls : List Line) (i n : ℕ) (d : Line) (start found more : List (List ℕ × Spot)) (name : List ℕ) (spot : Spot) → i < length ls
    → start ≡ found ++ children n (lines_in (drop i ls)) → name ≡ (get_or ls i d).name.now
    → spot ≡ spot_of (object_of n (line_in (get_or ls i d))) (get_or ls i d).declared.words → more ≡ found ++ ((name, spot) ∷ [])
    → start ≡ more ++ children (n + count_of (get_or ls i d).declared.words) (lines_in (drop (i + 1) ls))
one_child ls i n d start found more name spot h s y z k =
    let rest : List (List ℕ × Spot) = children (n + count_of (get_or ls i d).declared.words) (lines_in (drop (i + 1) ls)) in
    s ∙ ap (λ (ds : List Declared). found ++ children n ds) (line_here ls i d h)
    ∙ ap (λ (m : List ℕ). found ++ ((m, spot_of (object_of n (line_in (get_or ls i d))) (get_or ls i d).declared.words) ∷ rest)) (sym y)
    ∙ ap (λ (p : Spot). found ++ ((name, p) ∷ rest)) (sym z)
    ∙ sym (append_assoc found ((name, spot) ∷ []) rest) ∙ ap (λ (zs : List (List ℕ × Spot)). zs ++ rest) (sym k)

-- ---- scopes

pub one_name : (ls : List Line) (i n m : ℕ) (d : Line) (old new : Scope) (o : DataObject) → i < length ls → m ≡ n + count_of (get_or ls i d).declared.words
    → old ≡ means (entries m (lines_in (drop (i + 1) ls))) → o ≡ object_of n (line_in (get_or ls i d)) → new ≡ named (get_or ls i d).name.now (Object o) old
    → new ≡ means (entries n (lines_in (drop i ls)))
one_name ls i n m d old new o h j s y k =
    let l : Line = get_or ls i d in
    let rest : List Declared = lines_in (drop (i + 1) ls) in
    k ∙ ap (λ (z : DataObject). named l.name.now (Object z) old) y ∙ ap (λ (t : Scope). named l.name.now (Object (object_of n (line_in l))) t) (s ∙ ap (λ (q : ℕ). means (entries q rest)) j)
    ∙ ap (λ (ds : List Declared). means (entries n ds)) (sym (line_here ls i d h))

pub one_constant : (cs : List Constant) (i : ℕ) (c : Constant) (es : Entries) (old new : Scope) (n : List ℕ) (x : Meaning) → i < length cs → c ≡ get_or cs i c
    → old ≡ means (entries_of (drop (i + 1) cs) ++ es) → n ≡ c.name.items → x ≡ meaning_of c.value → new ≡ named n x old → new ≡ means (entries_of (drop i cs) ++ es)
one_constant cs i c es old new n x h e s y z k =
    let rest : Entries = entries_of (drop (i + 1) cs) in
    k ∙ ap (λ (m : List ℕ). named m x old) y ∙ ap (λ (w : Meaning). named c.name.items w old) z ∙ ap (λ (t : Scope). named c.name.items (meaning_of c.value) t) s
    ∙ ap (λ (xs : List Constant). means (entries_of xs ++ es)) (sym (here cs i c h e))

-- ---- signals

pub line_signals : (t : List ℕ) (ls : List Line) (i : ℕ) (d : Line) → i < length ls
    → signals_below t (lines_in (drop i ls)) ≡ signals_below t (line_in (get_or ls i d) ∷ []) ++ signals_below t (lines_in (drop (i + 1) ls))
line_signals t ls i d h =
    let l : Line = get_or ls i d in
    let rest : List Signal = signals_below t (lines_in (drop (i + 1) ls)) in
    ap (signals_below t) (line_here ls i d h)
    ∙ ap (λ (ss : List Signal). ss ++ rest) (sym (append-nil (signals_at (dotted t l.name.now) (line_in l))))

-- those of one name, by the text of its own path
pub named_signals : (t u n : List ℕ) (l : Line) → u ≡ t → t ≡ dotted n l.name.now → signals_at u (line_in l) ≡ signals_below n (line_in l ∷ [])
named_signals t u n l e h = ap (λ (v : List ℕ). signals_at v (line_in l)) (e ∙ h) ∙ sym (append-nil (signals_at (dotted n l.name.now) (line_in l)))

abbrev pub word_signal : List ℕ → ℕ → Digit → ℕ → Signal
word_signal t w start i = record { path = t ++ word_text (Some i); width = w; start = start }

pub word_here : (t : List ℕ) (w : ℕ) (start : Digit) (i h : ℕ) → i < h → words_at t w start i (h - i) ≡ (word_signal t w start i ∷ []) ++ words_at t w start (i + 1) (h - (i + 1))
word_here t w start i h k = let e : h - i ≡ suc (h - (i + 1)) = omega (arith, k) in ap (λ (n : ℕ). words_at t w start i n) e
