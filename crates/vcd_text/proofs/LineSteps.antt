-- Lines that are added one after the other.
use Rattle.std.specs.Prelude.{◌≡◌, ◌≤◌, ℕ, suc, List, [], ◌∷◌, ◌++◌, map, length, codes, Option, None, Some, Result, Ok, Err, OnOk, slice_get, refl}
use Rattle.std.proofs.Common.{ap, sym, ◌∙◌, append_assoc, append-nil, arith}
use Rattle.std.proofs.lemmas.List.{map-append}
use Rattle.std.proofs.lemmas.Option.{slice_get_past}
use Rattle.std.proofs.lemmas.Fmt.{decimal_digit}
use Rattle.gpi.specs.declared.design.Spot.{Spot}
use Rattle.gpi.specs.declared.design.Spot.TheVariants.{Inner, Sig, Words}
use Rattle.gpi.specs.declared.design.Signal.{Signal}
use Rattle.gpi.specs.declared.design.Node.{Node}
use Rattle.gpi.specs.declared.design.Flat.{Flat}
use Rattle.vcd_text.specs.Hierarchy.{Children, Declaration, Opens, Closes, children_of, own_signals, inner_instances, instance_of, traced_signals}
use Rattle.vcd_text.specs.Spelling.{line, time_line}
use Rattle.vcd_text.specs.Text.{declaration_line, opening_line, opening_lines}
use Rattle.vcd_text.specs.OpeningLines.{signal_lines, instance_lines, inner_lines, inside_lines}

-- what is added in two steps
pub more : {X : Type 0} (old xs ys mid new : List X) → mid ≡ old ++ xs → new ≡ mid ++ ys → new ≡ old ++ (xs ++ ys)
more {X} old xs ys mid new e f = f ∙ (ap (λ (l : List X). l ++ ys) e ∙ append_assoc old xs ys)

-- nothing is added
pub none_more : {X : Type 0} (old : List X) → old ≡ old ++ []
none_more old = sym (append-nil old)

-- ---- the signals of an instance

pub signals_split : (signals : List Signal) (child : List ℕ × Spot) (children : Children)
    → signal_lines signals (child ∷ children) ≡ signal_lines signals (child ∷ []) ++ signal_lines signals children
signals_split signals (name, Sig signal) children = refl
signals_split signals (name, Inner node) children = refl
signals_split signals (name, Words first low count) children = refl

-- ---- its instances

pub inner_split : (flat : Flat) (room : ℕ) (child : List ℕ × Spot) (children : Children)
    → inner_lines flat room (child ∷ children) ≡ inner_lines flat room (child ∷ []) ++ inner_lines flat room children
inner_split flat room (name, Sig signal) children = refl
inner_split flat room (name, Words first low count) children = refl
inner_split flat room (name, Inner node) children =
    map-append (declaration_line flat.signals) (instance_of flat.nodes room name node) (inner_instances (instance_of flat.nodes room) children)
    ∙ ap (λ (l : List Declaration). map (declaration_line flat.signals) l ++ inner_lines flat room children) (sym (append-nil (instance_of flat.nodes room name node)))

pub inner_one : (flat : Flat) (room : ℕ) (name : List ℕ) (node : ℕ) (old new : List (List ℕ))
    → new ≡ old ++ instance_lines flat room name node → new ≡ old ++ inner_lines flat room ((name, Inner node) ∷ [])
inner_one flat room name node old new e =
    e ∙ ap (λ (l : List Declaration). old ++ map (declaration_line flat.signals) l) (sym (append-nil (instance_of flat.nodes room name node)))

-- ---- an instance

-- what is declared in an instance, if there is one
abbrev children_in : Option Node → Children
children_in o = elim o [ None ↦ [] | Some found ↦ found.children ]

pub no_children : (flat : Flat) (room node : ℕ) (old : List (List ℕ)) → length flat.nodes ≤ node → old ≡ old ++ inside_lines flat room (children_of flat.nodes node)
no_children flat room node old past =
    none_more old ∙ ap (λ (o : Option Node). old ++ inside_lines flat room (children_in o)) (sym (slice_get_past flat.nodes node past))

pub inside_made : (flat : Flat) (room node : ℕ) (there : Node) (old mid new : List (List ℕ)) → slice_get flat.nodes node ≡ Some there
    → mid ≡ old ++ signal_lines flat.signals there.children → new ≡ mid ++ inner_lines flat room there.children
    → new ≡ old ++ inside_lines flat room (children_of flat.nodes node)
inside_made flat room node there old mid new is e f =
    more old (signal_lines flat.signals there.children) (inner_lines flat room there.children) mid new e f
    ∙ ap (λ (o : Option Node). old ++ inside_lines flat room (children_in o)) (sym is)

instance_is : (flat : Flat) (less : ℕ) (name : List ℕ) (node : ℕ)
    → instance_lines flat (suc less) name node
    ≡ declaration_line flat.signals (Opens name) ∷ inside_lines flat less (children_of flat.nodes node) ++ declaration_line flat.signals Closes ∷ []
instance_is flat less name node =
    ap (λ (l : List (List ℕ)). declaration_line flat.signals (Opens name) ∷ l)
    (map-append (declaration_line flat.signals)
    (own_signals (children_of flat.nodes node) ++ inner_instances (instance_of flat.nodes less) (children_of flat.nodes node)) (Closes ∷ [])
    ∙ ap (λ (l : List (List ℕ)). l ++ declaration_line flat.signals Closes ∷ [])
    (map-append (declaration_line flat.signals) (own_signals (children_of flat.nodes node))
    (inner_instances (instance_of flat.nodes less) (children_of flat.nodes node))))

pub no_instance : (flat : Flat) (room : ℕ) (name : List ℕ) (node : ℕ) (old : List (List ℕ)) → room ≡ 0 → old ≡ old ++ instance_lines flat room name node
no_instance flat room name node old e = none_more old ∙ ap (λ (r : ℕ). old ++ instance_lines flat r name node) (sym e)

pub instance_made : (flat : Flat) (room less : ℕ) (name : List ℕ) (node : ℕ) (old first second new : List (List ℕ)) → room ≡ suc less
    → first ≡ old ++ declaration_line flat.signals (Opens name) ∷ [] → second ≡ first ++ inside_lines flat less (children_of flat.nodes node)
    → new ≡ second ++ declaration_line flat.signals Closes ∷ [] → new ≡ old ++ instance_lines flat room name node
instance_made flat room less name node old first second new is e f g =
    more old (declaration_line flat.signals (Opens name) ∷ []) (inside_lines flat less (children_of flat.nodes node) ++ declaration_line flat.signals Closes ∷ []) first new e
    (more first (inside_lines flat less (children_of flat.nodes node)) (declaration_line flat.signals Closes ∷ []) second new f g)
    ∙ ap (λ (l : List (List ℕ)). old ++ l) (sym (instance_is flat less name node) ∙ ap (λ (r : ℕ). instance_lines flat r name node) (sym is))

-- ---- what is so where nothing fails

pub on_ok : {T E P Q : Type 0} (r : Result T E) → (P → Q) → OnOk r P → OnOk r Q
on_ok (Ok x) f h = f h
on_ok (Err e) f h = tt

-- ---- the lines of opening values

pub time_zero : (35 ∷ 48 ∷ 10 ∷ []) ≡ time_line 0
time_zero = sym (ap (λ (l : List ℕ). line (codes "#" ++ l)) (decimal_digit 0 (omega arith)))

pub opening_made : (flat : Flat) (numbers : List ℕ) (old a b c d new : List (List ℕ)) → numbers ≡ traced_signals flat
    → a ≡ old ++ line (codes "$enddefinitions $end") ∷ [] → b ≡ a ++ (35 ∷ 48 ∷ 10 ∷ []) ∷ [] → c ≡ b ++ line (codes "$dumpvars") ∷ []
    → d ≡ c ++ map (opening_line flat.signals) numbers → new ≡ d ++ line (codes "$end") ∷ [] → new ≡ old ++ opening_lines flat
opening_made flat numbers old a b c d new same e f g h k =
    more old (line (codes "$enddefinitions $end") ∷ []) ((35 ∷ 48 ∷ 10 ∷ []) ∷ line (codes "$dumpvars") ∷ (map (opening_line flat.signals) numbers ++ line (codes "$end") ∷ [])) a new e
    (more a ((35 ∷ 48 ∷ 10 ∷ []) ∷ []) (line (codes "$dumpvars") ∷ (map (opening_line flat.signals) numbers ++ line (codes "$end") ∷ [])) b new f
    (more b (line (codes "$dumpvars") ∷ []) (map (opening_line flat.signals) numbers ++ line (codes "$end") ∷ []) c new g
    (more c (map (opening_line flat.signals) numbers) (line (codes "$end") ∷ []) d new h k)))
    ∙ (ap (λ (time : List ℕ). old ++ (line (codes "$enddefinitions $end") ∷ time ∷ line (codes "$dumpvars") ∷ (map (opening_line flat.signals) numbers ++ line (codes "$end") ∷ []))) time_zero
    ∙ ap (λ (l : List ℕ). old ++ (line (codes "$enddefinitions $end") ∷ time_line 0 ∷ line (codes "$dumpvars") ∷ (map (opening_line flat.signals) l ++ line (codes "$end") ∷ []))) same)
