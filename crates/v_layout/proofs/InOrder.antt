-- Lines of declared names, one after the other.
use Rattle.std.proofs.Common.{◌≡◌, ℕ, zero, suc, ◌+◌, ◌<◌, List, [], ◌∷◌, ◌++◌, length, drop, get_or, Option, Some, None, option_map, Bool, true, false, bytes_eq, if◌then◌else◌, refl, sym, ap, ◌∙◌, subst, arith}
use Rattle.std.specs.List.{All, list_any, slice_get}
use Rattle.std.proofs.lemmas.List.{append_assoc, append-nil, length-map, map-append, get_or_default}
use Rattle.std.proofs.Math.ListN.{get_or-map}
use Rattle.v_flat.specs.Headers.{Port}
use Rattle.v_flat.specs.Declarations.{Declared, find_declared, listed, port_lines, other_lines}
use Rattle.v_layout.specs.declared.details.Line.{Line}
use Rattle.v_layout.specs.Order.{line_in, lines_in}
use Rattle.v_layout.proofs.DeclareTurns.{here}
use Rattle.v_layout.specs.Fits.{IsProperDeclared}

-- ---- in order

pub port_step : (ps : List Port) (ds : List Declared) (i : ℕ) (r : Option Declared) → i < length ps → ((p : Port) → slice_get ps i ≡ Some p → r ≡ find_declared p.name ds)
    → port_lines (drop i ps) ds ≡ listed r ++ port_lines (drop (i + 1) ps) ds
port_step [] ds i r h k = absurd (omega arith)
port_step (p ∷ ps) ds zero r h k = ap (λ (o : Option Declared). listed o ++ port_lines ps ds) (sym (k p refl))
port_step (p ∷ ps) ds (suc i) r h k =
    port_step ps ds i r (omega arith) k ∙ ap (λ (n : ℕ). listed r ++ port_lines (drop n (p ∷ ps)) ds) (let e : suc (i + 1) ≡ suc i + 1 = omega arith in e)

apart : (b : Bool) (d : Declared) (rest : List Declared) → (if b then rest else d ∷ rest) ≡ (if b then [] else d ∷ []) ++ rest
apart true d rest = refl
apart false d rest = refl

pub other_step : (ns : List (List ℕ)) (ds : List Declared) (i : ℕ) (r : Option Declared) → i < length ds → ((d : Declared) → slice_get ds i ≡ Some d → listed r ≡ other_lines ns (d ∷ []))
    → other_lines ns (drop i ds) ≡ listed r ++ other_lines ns (drop (i + 1) ds)
other_step ns [] i r h k = absurd (omega arith)
other_step ns (d ∷ ds) zero r h k =
    apart (list_any (bytes_eq d.name) ns) d (other_lines ns ds) ∙ ap (λ (es : List Declared). es ++ other_lines ns ds) (sym (k d refl))
other_step ns (d ∷ ds) (suc i) r h k =
    other_step ns ds i r (omega arith) k ∙ ap (λ (n : ℕ). listed r ++ other_lines ns (drop n (d ∷ ds))) (let e : suc (i + 1) ≡ suc i + 1 = omega arith in e)

-- one line more, or none
pub more_lines : (start old new left rest : List Declared) (r : Option Declared) → start ≡ old ++ left → left ≡ listed r ++ rest → new ≡ old ++ listed r → start ≡ new ++ rest
more_lines start old new left rest r h e k =
    h ∙ ap (λ (ds : List Declared). old ++ ds) e ∙ sym (append_assoc old (listed r) rest) ∙ ap (λ (ds : List Declared). ds ++ rest) (sym k)

-- ---- a line, and those behind it

-- what stands behind the last line
abbrev pub no_line : Line
no_line = record { name = record { ref_ptr = (0, 0); now = [] }; declared = record { direction = None; sort = None; bounds = record { left = 0; right = 0 }; words = None } }

pub line_here : (ls : List Line) (i : ℕ) (d : Line) → i < length ls → lines_in (drop i ls) ≡ line_in (get_or ls i d) ∷ lines_in (drop (i + 1) ls)
line_here ls i d h = ap lines_in (here ls i (get_or ls i d) h (get_or_default ls i d (get_or ls i d) h))

pub line_proper : (ls : List Line) (i : ℕ) (d : Line) → i < length ls → All IsProperDeclared (lines_in ls) → IsProperDeclared (line_in (get_or ls i d))
line_proper ls i d h a =
    let n = length-map ls line_in in
    subst IsProperDeclared (get_or-map line_in ls i d) (a i (line_in d) (omega (arith, n, h)))

pub pushed : (ls ms : List Line) (l : Line) (r : Option Line) → r ≡ Some l → ms ≡ ls ++ (l ∷ []) → lines_in ms ≡ lines_in ls ++ listed (option_map line_in r)
pushed ls ms l r e h = ap lines_in h ∙ map-append line_in ls (l ∷ []) ∙ ap (λ (o : Option Line). lines_in ls ++ listed (option_map line_in o)) (sym e)

pub not_pushed : (ls ms : List Line) (r : Option Line) → r ≡ None → ms ≡ ls → lines_in ms ≡ lines_in ls ++ listed (option_map line_in r)
not_pushed ls ms r e h = ap lines_in h ∙ sym (append-nil (lines_in ls)) ∙ ap (λ (o : Option Line). lines_in ls ++ listed (option_map line_in o)) (sym e)
