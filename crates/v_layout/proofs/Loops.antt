-- One name, register, port or item done, and those that are left.
use Rattle.std.proofs.Common.{◌≡◌, ℕ, List, [], ◌∷◌, ◌&&◌, ◌||◌, not, Option, Some, None, is_none, Bool, true, false, Result, Ok, Err, refl, sym, ◌∙◌, ap, bytes_eq, if◌then◌else◌}
use Rattle.std.specs.List.{list_any}
use Rattle.std.specs.Option.{option_or}
use Rattle.v_syntax.specs.declared.statement.Identifier.{Identifier}
use Rattle.v_syntax.specs.SourceTrees.{TailTree, RegisterTree, Register as RegisterOf, KindTree, ItemTree, ItemAt}
use Rattle.v_flat.specs.declared.scope.rule.Broken.{Broken}
use Rattle.v_flat.specs.declared.scope.rule.ElabRule.TheVariants as rule
use Rattle.v_flat.specs.declared.scope.found.Found.{Found}
use Rattle.v_flat.specs.Scope.Found.{fine, and_then, needs, ended, next}
use Rattle.v_flat.proofs.ScopeLemmas.Gathered.{then_same}
use Rattle.v_flat.specs.declared.scope.meaning.Bounds.{Bounds}
use Rattle.v_syntax.specs.declared.item.Direction.{Direction}
use Rattle.v_flat.specs.Declarations.{Sort, Declared, Place, declare, declare_all, declare_register, declare_registers, declared_as, declare_ports, declare_line, declare_lines, declare_header, names_checked, find_direction}
use Rattle.v_flat.specs.Headers.{HeadedPort}
use Rattle.name_table.specs.Places.{first_place, noted}
use Rattle.v_flat.proofs.ScopeLemmas.Chains.{one_link}

-- y is what is found with one name more, and left are the names behind it
pub one_name : (w : Place) (d : Option Direction) (k : Option Sort) (b : Bounds) (i : Identifier) (is left : List Identifier) (x y whole : Found (List Declared))
    → left ≡ i ∷ is → y ≡ and_then x (declare w i.at (declared_as d k b None i.name)) → and_then x (declare_all w d k b left) ≡ whole → and_then y (declare_all w d k b is) ≡ whole
one_name w d k b i is left x y whole e h all =
    one_link x y (declare w i.at (declared_as d k b None i.name)) (declare_all w d k b is) whole h
    (then_same (λ (ds : List Declared). and_then (declare w i.at (declared_as d k b None i.name) ds) (declare_all w d k b is)) (declare_all w d k b (i ∷ is)) x (λ ds. refl)
    ∙ ap (λ (rest : List Identifier). and_then x (declare_all w d k b rest)) (sym e) ∙ all)

pub one_register : (w : Place) (b : Bounds) (i : Identifier) (t : Option TailTree) (rs left : List RegisterTree) (x y whole : Found (List Declared))
    → left ≡ RegisterOf i t ∷ rs → y ≡ and_then x (declare_register w b i t) → and_then x (declare_registers w b left) ≡ whole → and_then y (declare_registers w b rs) ≡ whole
one_register w b i t rs left x y whole e h all =
    one_link x y (declare_register w b i t) (declare_registers w b rs) whole h
    (then_same (λ (ds : List Declared). and_then (declare_register w b i t ds) (declare_registers w b rs)) (declare_registers w b (RegisterOf i t ∷ rs)) x (λ ds. refl)
    ∙ ap (λ (rest : List RegisterTree). and_then x (declare_registers w b rest)) (sym e) ∙ all)

-- ---- items

pub one_item : (w : Place) (p : ℕ) (k : KindTree) (is left : List ItemTree) (ds more : List Declared) (x : Found (List Declared)) (whole : Result (List Declared) Broken)
    → left ≡ ItemAt p k ∷ is → x ≡ declare_line w k ds → Ok more ≡ ended x → declare_lines w left ds ≡ whole → declare_lines w is more ≡ whole
one_item w p k is left ds more x whole e h o all =
    ap (λ (r : Result (List Declared) Broken). next r (declare_lines w is)) (o ∙ ap (λ (y : Found (List Declared)). ended y) h)
    ∙ ap (λ (rest : List ItemTree). declare_lines w rest ds) (sym e) ∙ all

pub item_broken : (w : Place) (p : ℕ) (k : KindTree) (is left : List ItemTree) (ds : List Declared) (b : Broken) (x : Found (List Declared)) (whole : Result (List Declared) Broken)
    → left ≡ ItemAt p k ∷ is → x ≡ declare_line w k ds → Err b ≡ ended x → declare_lines w left ds ≡ whole → Err b ≡ whole
item_broken w p k is left ds b x whole e h o all =
    ap (λ (r : Result (List Declared) Broken). next r (declare_lines w is)) (o ∙ ap (λ (y : Found (List Declared)). ended y) h)
    ∙ ap (λ (rest : List ItemTree). declare_lines w rest ds) (sym e) ∙ all

-- ---- ports of a header

pub one_port : (w : Place) (p : HeadedPort) (ps left : List HeadedPort) (ds more : List Declared) (x : Found (List Declared)) (whole : Result (List Declared) Broken)
    → left ≡ p ∷ ps → x ≡ declare_ports w p.head (p.name ∷ []) ds → Ok more ≡ ended x → declare_header w left ds ≡ whole → declare_header w ps more ≡ whole
one_port w p ps left ds more x whole e h o all =
    ap (λ (r : Result (List Declared) Broken). next r (declare_header w ps)) (o ∙ ap (λ (y : Found (List Declared)). ended y) h)
    ∙ ap (λ (rest : List HeadedPort). declare_header w rest ds) (sym e) ∙ all

pub port_broken : (w : Place) (p : HeadedPort) (ps left : List HeadedPort) (ds : List Declared) (b : Broken) (x : Found (List Declared)) (whole : Result (List Declared) Broken)
    → left ≡ p ∷ ps → x ≡ declare_ports w p.head (p.name ∷ []) ds → Err b ≡ ended x → declare_header w left ds ≡ whole → Err b ≡ whole
port_broken w p ps left ds b x whole e h o all =
    ap (λ (r : Result (List Declared) Broken). next r (declare_header w ps)) (o ∙ ap (λ (y : Found (List Declared)). ended y) h)
    ∙ ap (λ (rest : List HeadedPort). declare_header w rest ds) (sym e) ∙ all

-- ---- names of a header

seen_more : (b c : Bool) (x : ℕ) (a : Option ℕ) → is_none a ≡ not c → is_none (option_or a (if b then Some x else None)) ≡ not (b || c)
seen_more true c x None h = refl
seen_more true c x (Some y) h = refl
seen_more false c x None h = h
seen_more false c x (Some y) h = h

-- which names were seen
abbrev pub Saw : List (List ℕ × ℕ) → List (List ℕ) → Type 0
Saw t seen = (n : List ℕ) → is_none (first_place t n) ≡ not (list_any (bytes_eq n) seen)

pub seen_too : (t new : List (List ℕ × ℕ)) (seen : List (List ℕ)) (k : List ℕ) (x : ℕ) → Saw t seen → ((n : List ℕ) → first_place new n ≡ noted k x (first_place t) n) → Saw new (k ∷ seen)
seen_too t new seen k x h e = λ n. ap (λ (o : Option ℕ). is_none o) (e n) ∙ seen_more (bytes_eq n k) (list_any (bytes_eq n) seen) x (first_place t n) (h n)

-- what is asked of a name
abbrev pub name_asked : Place → List (List ℕ) → Identifier → Found (Unit {0})
name_asked w seen i = needs (not (list_any (bytes_eq i.name) seen) && find_direction i.name w.ports) rule.BadPort i.at fine

pub asked_as : (w : Place) (t : List (List ℕ × ℕ)) (seen : List (List ℕ)) (i : Identifier) (x : Found (Unit {0})) → Saw t seen
    → x ≡ needs (is_none (first_place t i.name) && find_direction i.name w.ports) rule.BadPort i.at fine → x ≡ name_asked w seen i
asked_as w t seen i x h e = e ∙ ap (λ (b : Bool). needs (b && find_direction i.name w.ports) rule.BadPort i.at fine) (h i.name)

pub one_named : (w : Place) (seen : List (List ℕ)) (i : Identifier) (is left : List Identifier) (x : Found (Unit {0})) (u : Unit {0}) (whole : Result (Unit {0}) Broken)
    → left ≡ i ∷ is → x ≡ name_asked w seen i → Ok u ≡ ended x → names_checked w seen left ≡ whole → names_checked w (i.name ∷ seen) is ≡ whole
one_named w seen i is left x u whole e h o all =
    ap (λ (r : Result (Unit {0}) Broken). next r (λ v. names_checked w (i.name ∷ seen) is)) (o ∙ ap (λ (y : Found (Unit {0})). ended y) h)
    ∙ ap (λ (rest : List Identifier). names_checked w seen rest) (sym e) ∙ all

pub named_broken : (w : Place) (seen : List (List ℕ)) (i : Identifier) (is left : List Identifier) (x : Found (Unit {0})) (b : Broken) (whole : Result (Unit {0}) Broken)
    → left ≡ i ∷ is → x ≡ name_asked w seen i → Err b ≡ ended x → names_checked w seen left ≡ whole → Err b ≡ whole
named_broken w seen i is left x b whole e h o all =
    ap (λ (r : Result (Unit {0}) Broken). next r (λ v. names_checked w (i.name ∷ seen) is)) (o ∙ ap (λ (y : Found (Unit {0})). ended y) h)
    ∙ ap (λ (rest : List Identifier). names_checked w seen rest) (sym e) ∙ all
