-- One turn of a loop over names, nets, registers, ports or items, whose place is j.
use Rattle.std.proofs.Common.{◌≡◌, ℕ, ◌+◌, ◌<◌, ◌≤◌, List, [], ◌∷◌, map, length, drop, get_or, Option, Some, None, option_map, Result, Ok, Err, refl, sym, ◌∙◌, ap}
use Rattle.std.proofs.lemmas.List.{drop_all, drop_more}
use Rattle.v_syntax.specs.declared.statement.Identifier.{Identifier}
use Rattle.v_syntax.specs.declared.item.NetDeclarator.{NetDeclarator}
use Rattle.v_syntax.specs.declared.item.RegisterDeclarator.{RegisterDeclarator}
use Rattle.v_syntax.specs.declared.item.Item.{Item}
use Rattle.v_syntax.specs.SourceTrees.{RegisterTree, ItemTree, view_net, view_register, view_tail, view_kind, view_item}
use Rattle.v_flat.specs.declared.scope.rule.Broken.{Broken}
use Rattle.v_flat.specs.declared.scope.found.Found.{Found}
use Rattle.v_flat.specs.Scope.Found.{and_then, ended}
use Rattle.v_flat.specs.declared.scope.meaning.Bounds.{Bounds}
use Rattle.v_flat.specs.Headers.{HeadedPort}
use Rattle.v_flat.specs.Declarations.{Sort, Wire, Declared, Place, declare, declare_all, declare_register, declare_registers, declared_as, declare_ports, declare_line, declare_lines, declare_header, net_identifier}
use Rattle.v_header.specs.declared.heads.HeadedPort as code_port
use Rattle.v_header.specs.Heads.{headed_in, headed_port_in}
use Rattle.v_layout.specs.declared.details.Declared as code
use Rattle.v_layout.specs.Kept.{named_declared, sort_in}
use Rattle.v_flat.proofs.ScopeLemmas.Chains.{last_link}
use Rattle.v_layout.proofs.Loops.{one_name, one_register, one_item, item_broken, one_port, port_broken}

-- what is left, from the element of this turn on
from_here : {A B : Type 0} (f : A → B) (xs : List A) (j : ℕ) (a : A) → j < length xs → a ≡ get_or xs j a → map f (drop j xs) ≡ f a ∷ map f (drop (j + 1) xs)
from_here {A} {B} f xs j a h e = ap (λ (ys : List A). map f ys) (drop_more xs j a h) ∙ ap (λ (x : A). f x ∷ map f (drop (j + 1) xs)) (sym e)

pub here : {A : Type 0} (xs : List A) (j : ℕ) (a : A) → j < length xs → a ≡ get_or xs j a → drop j xs ≡ a ∷ drop (j + 1) xs
here {A} xs j a h e = drop_more xs j a h ∙ ap (λ (x : A). x ∷ drop (j + 1) xs) (sym e)

-- ---- names

one_of : (w : Place) (d : code.Declared) (i : Identifier) (is left : List Identifier) (x y whole : Found (List Declared)) → d.words ≡ None → left ≡ i ∷ is
    → y ≡ and_then x (declare w i.at (named_declared i.name d)) → and_then x (declare_all w d.direction (option_map sort_in d.sort) d.bounds left) ≡ whole
    → and_then y (declare_all w d.direction (option_map sort_in d.sort) d.bounds is) ≡ whole
one_of w d i is left x y whole n e h all =
    one_name w d.direction (option_map sort_in d.sort) d.bounds i is left x y whole e
    (h ∙ ap (λ (ws : Option Bounds). and_then x (declare w i.at (declared_as d.direction (option_map sort_in d.sort) d.bounds ws i.name))) n) all

pub name_turn : (w : Place) (d : code.Declared) (names : List Identifier) (j : ℕ) (i : Identifier) (x y whole : Found (List Declared)) → d.words ≡ None → j < length names → i ≡ get_or names j i
    → y ≡ and_then x (declare w i.at (named_declared i.name d)) → and_then x (declare_all w d.direction (option_map sort_in d.sort) d.bounds (drop j names)) ≡ whole
    → and_then y (declare_all w d.direction (option_map sort_in d.sort) d.bounds (drop (j + 1) names)) ≡ whole
name_turn w d names j i x y whole n l e h all = one_of w d i (drop (j + 1) names) (drop j names) x y whole n (here names j i l e) h all

pub names_done : (w : Place) (d : code.Declared) (names : List Identifier) (j : ℕ) (x whole : Found (List Declared)) → length names ≤ j
    → and_then x (declare_all w d.direction (option_map sort_in d.sort) d.bounds (drop j names)) ≡ whole → x ≡ whole
names_done w d names j x whole l all =
    sym (last_link x) ∙ ap (λ (is : List Identifier). and_then x (declare_all w d.direction (option_map sort_in d.sort) d.bounds is)) (sym (drop_all j names l)) ∙ all

-- ---- nets

abbrev pub nets_in : List NetDeclarator → List Identifier
nets_in ns = map net_identifier (map view_net ns)

nets_here : (ns : List NetDeclarator) (j : ℕ) (n : NetDeclarator) → j < length ns → n ≡ get_or ns j n → nets_in (drop j ns) ≡ n.name ∷ nets_in (drop (j + 1) ns)
nets_here ns j n l e = ap (λ (xs : List NetDeclarator). nets_in xs) (here ns j n l e)

pub net_turn : (w : Place) (d : code.Declared) (ns : List NetDeclarator) (j : ℕ) (n : NetDeclarator) (x y whole : Found (List Declared)) → d.words ≡ None → j < length ns → n ≡ get_or ns j n
    → y ≡ and_then x (declare w n.name.at (named_declared n.name.name d)) → and_then x (declare_all w d.direction (option_map sort_in d.sort) d.bounds (nets_in (drop j ns))) ≡ whole
    → and_then y (declare_all w d.direction (option_map sort_in d.sort) d.bounds (nets_in (drop (j + 1) ns))) ≡ whole
net_turn w d ns j n x y whole m l e h all = one_of w d n.name (nets_in (drop (j + 1) ns)) (nets_in (drop j ns)) x y whole m (nets_here ns j n l e) h all

pub nets_done : (w : Place) (d : code.Declared) (ns : List NetDeclarator) (j : ℕ) (x whole : Found (List Declared)) → length ns ≤ j
    → and_then x (declare_all w d.direction (option_map sort_in d.sort) d.bounds (nets_in (drop j ns))) ≡ whole → x ≡ whole
nets_done w d ns j x whole l all =
    sym (last_link x) ∙ ap (λ (ms : List NetDeclarator). and_then x (declare_all w d.direction (option_map sort_in d.sort) d.bounds (nets_in ms))) (sym (drop_all j ns l)) ∙ all

-- ---- registers

pub register_turn : (w : Place) (b : Bounds) (rs : List RegisterDeclarator) (j : ℕ) (r : RegisterDeclarator) (x y whole : Found (List Declared)) → j < length rs → r ≡ get_or rs j r
    → y ≡ and_then x (declare_register w b r.name (option_map view_tail r.tail)) → and_then x (declare_registers w b (map view_register (drop j rs))) ≡ whole
    → and_then y (declare_registers w b (map view_register (drop (j + 1) rs))) ≡ whole
register_turn w b rs j r x y whole l e h all =
    one_register w b r.name (option_map view_tail r.tail) (map view_register (drop (j + 1) rs)) (map view_register (drop j rs)) x y whole (from_here view_register rs j r l e) h all

pub registers_done : (w : Place) (b : Bounds) (rs : List RegisterDeclarator) (j : ℕ) (x whole : Found (List Declared)) → length rs ≤ j
    → and_then x (declare_registers w b (map view_register (drop j rs))) ≡ whole → x ≡ whole
registers_done w b rs j x whole l all =
    sym (last_link x) ∙ ap (λ (ms : List RegisterDeclarator). and_then x (declare_registers w b (map view_register ms))) (sym (drop_all j rs l)) ∙ all

-- ---- items

pub item_turn : (w : Place) (is : List Item) (j : ℕ) (i : Item) (ds more : List Declared) (x : Found (List Declared)) (r whole : Result (List Declared) Broken) → j < length is → i ≡ get_or is j i
    → x ≡ declare_line w (view_kind i.kind) ds → r ≡ ended x → r ≡ Ok more → declare_lines w (map view_item (drop j is)) ds ≡ whole
    → declare_lines w (map view_item (drop (j + 1) is)) more ≡ whole
item_turn w is j i ds more x r whole l e h k o all =
    one_item w i.at (view_kind i.kind) (map view_item (drop (j + 1) is)) (map view_item (drop j is)) ds more x whole (from_here view_item is j i l e) h (sym o ∙ k) all

pub item_ends : (w : Place) (is : List Item) (j : ℕ) (i : Item) (ds : List Declared) (b : Broken) (x : Found (List Declared)) (r whole : Result (List Declared) Broken) → j < length is → i ≡ get_or is j i
    → x ≡ declare_line w (view_kind i.kind) ds → r ≡ ended x → r ≡ Err b → declare_lines w (map view_item (drop j is)) ds ≡ whole → Err b ≡ whole
item_ends w is j i ds b x r whole l e h k o all =
    item_broken w i.at (view_kind i.kind) (map view_item (drop (j + 1) is)) (map view_item (drop j is)) ds b x whole (from_here view_item is j i l e) h (sym o ∙ k) all

pub items_done : (w : Place) (is : List Item) (j : ℕ) (ds : List Declared) (whole : Result (List Declared) Broken) → length is ≤ j
    → declare_lines w (map view_item (drop j is)) ds ≡ whole → Ok ds ≡ whole
items_done w is j ds whole l all = ap (λ (ms : List Item). declare_lines w (map view_item ms) ds) (sym (drop_all j is l)) ∙ all

-- ---- ports of a header

pub port_turn : (w : Place) (ps : List code_port.HeadedPort) (j : ℕ) (p : code_port.HeadedPort) (ds more : List Declared) (x : Found (List Declared)) (r whole : Result (List Declared) Broken)
    → j < length ps → p ≡ get_or ps j p → x ≡ declare_ports w (headed_port_in p).head ((headed_port_in p).name ∷ []) ds → r ≡ ended x → r ≡ Ok more
    → declare_header w (headed_in (drop j ps)) ds ≡ whole → declare_header w (headed_in (drop (j + 1) ps)) more ≡ whole
port_turn w ps j p ds more x r whole l e h k o all =
    one_port w (headed_port_in p) (headed_in (drop (j + 1) ps)) (headed_in (drop j ps)) ds more x whole (from_here headed_port_in ps j p l e) h (sym o ∙ k) all

pub port_ends : (w : Place) (ps : List code_port.HeadedPort) (j : ℕ) (p : code_port.HeadedPort) (ds : List Declared) (b : Broken) (x : Found (List Declared)) (r whole : Result (List Declared) Broken)
    → j < length ps → p ≡ get_or ps j p → x ≡ declare_ports w (headed_port_in p).head ((headed_port_in p).name ∷ []) ds → r ≡ ended x → r ≡ Err b
    → declare_header w (headed_in (drop j ps)) ds ≡ whole → Err b ≡ whole
port_ends w ps j p ds b x r whole l e h k o all =
    port_broken w (headed_port_in p) (headed_in (drop (j + 1) ps)) (headed_in (drop j ps)) ds b x whole (from_here headed_port_in ps j p l e) h (sym o ∙ k) all

pub ports_done : (w : Place) (ps : List code_port.HeadedPort) (j : ℕ) (ds : List Declared) (whole : Result (List Declared) Broken) → length ps ≤ j
    → declare_header w (headed_in (drop j ps)) ds ≡ whole → Ok ds ≡ whole
ports_done w ps j ds whole l all = ap (λ (qs : List code_port.HeadedPort). declare_header w (headed_in qs) ds) (sym (drop_all j ps l)) ∙ all
