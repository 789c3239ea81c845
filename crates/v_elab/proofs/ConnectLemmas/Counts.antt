-- One connection more that is counted.
use Rattle.std.proofs.Common.{◌≡◌, ℕ, ◌+◌, ◌<◌, ◌≤◌, List, [], ◌∷◌, map, length, drop, get_or, Option, Some, None, option_map, is_some, Bool, refl, sym, ap, ◌∙◌, slice_get, if◌then◌else◌, arith}
use Rattle.std.proofs.lemmas.List.{drop_all, drop_more}
use Rattle.name_table.specs.Places.{first_place}
use Rattle.v_syntax.specs.declared.item.NamedConnection.{NamedConnection}
use Rattle.v_syntax.specs.declared.expression.Expression as code_tree
use Rattle.v_syntax.specs.ExpressionTrees.{Tree, view}
use Rattle.v_syntax.specs.SourceTrees.{view_connection}
use Rattle.v_flat.specs.Headers.{Port, find_port}
use Rattle.v_flat.specs.Design.{named_made, ordered_count, named_count, port_once}
use Rattle.v_elab.proofs.ConnectLemmas.Steps.{AreFrom, HasNames, from_get, once_by}

-- these were counted of all, and these are left
pub record Counted (all left count i : ℕ) : Type 0 where
  pub sum_is : count + left ≡ all
  pub few : count ≤ i

pub counted_next : (all left rest count made more i : ℕ) → left ≡ made + rest → made ≤ 1 → more ≡ count + made → Counted all left count i → Counted all rest more (i + 1)
counted_next all left rest count made more i e l m h =
    let s : count + left ≡ all = h.sum_is in
    let f : count ≤ i = h.few in
    record { sum_is = omega (arith, s, e, m); few = omega (arith, f, l, m) }

pub counted_end : (all left count i : ℕ) → left ≡ 0 → Counted all left count i → count ≡ all
counted_end all left count i e h = let s : count + left ≡ all = h.sum_is in omega (arith, s, e)

-- ---- in order

no_ports : (es : List Tree) → ordered_count es [] ≡ 0
no_ports [] = refl
no_ports (e ∷ es) = refl

count_by : (e : Tree) (es : List Tree) (o : Option Port) (left rest : List Port) → AreFrom o left rest
    → ordered_count (e ∷ es) left ≡ named_made o (Some e) + ordered_count es rest
count_by e es (Some p) left rest h = ap (λ (ps : List Port). ordered_count (e ∷ es) ps) h
count_by e es None left rest h =
    let none : ordered_count (e ∷ es) left ≡ 0 = ap (λ (ps : List Port). ordered_count (e ∷ es) ps) h.0 in
    let behind : ordered_count es rest ≡ 0 = ap (λ (ps : List Port). ordered_count es ps) h.1 ∙ no_ports es in
    omega (arith, none, behind)

abbrev pub ordered_rest : List code_tree.Expression → List Port → ℕ → ℕ
ordered_rest es ps i = ordered_count (map view (drop i es)) (drop i ps)

pub ordered_here : (es : List code_tree.Expression) (ps : List Port) (i : ℕ) (e : code_tree.Expression) (o : Option Port) → i < length es → e ≡ get_or es i e → slice_get ps i ≡ o
    → ordered_rest es ps i ≡ named_made o (Some (view e)) + ordered_rest es ps (i + 1)
ordered_here es ps i e o lt is port =
    ap (λ (xs : List code_tree.Expression). ordered_count (map view xs) (drop i ps)) (drop_more es i e lt ∙ ap (λ (d : code_tree.Expression). d ∷ drop (i + 1) es) (sym is))
    ∙ count_by (view e) (map view (drop (i + 1) es)) o (drop i ps) (drop (i + 1) ps) (from_get ps i o port)

pub ordered_none : (es : List code_tree.Expression) (ps : List Port) (i : ℕ) → length es ≤ i → ordered_rest es ps i ≡ 0
ordered_none es ps i past = ap (λ (xs : List code_tree.Expression). ordered_count (map view xs) (drop i ps)) (drop_all i es past)

-- ---- with names

abbrev pub named_rest : List NamedConnection → List Port → List (List ℕ) → ℕ → ℕ
named_rest cs ps seen i = named_count ps seen (map view_connection (drop i cs))

pub named_here : (cs : List NamedConnection) (ps : List Port) (seen : List (List ℕ)) (t : List (List ℕ × ℕ)) (i : ℕ) (c : NamedConnection) (o : Option Port) → i < length cs
    → c ≡ get_or cs i c → HasNames seen t → o ≡ (if is_some (first_place t c.port.name) then None else find_port c.port.name ps)
    → named_rest cs ps seen i ≡ named_made o (option_map view c.value) + named_rest cs ps (c.port.name ∷ seen) (i + 1)
named_here cs ps seen t i c o lt is names port =
    let once : o ≡ port_once c.port seen (find_port c.port.name ps) =
    port ∙ ap (λ (b : Bool). if b then None else find_port c.port.name ps) (names c.port.name) ∙ sym (once_by c.port seen _ (find_port c.port.name ps) refl) in
    ap (λ (xs : List NamedConnection). named_count ps seen (map view_connection xs)) (drop_more cs i c lt ∙ ap (λ (d : NamedConnection). d ∷ drop (i + 1) cs) (sym is))
    ∙ ap (λ (r : Option Port). named_made r (option_map view c.value) + named_rest cs ps (c.port.name ∷ seen) (i + 1)) (sym once)

pub named_none : (cs : List NamedConnection) (ps : List Port) (seen : List (List ℕ)) (i : ℕ) → length cs ≤ i → named_rest cs ps seen i ≡ 0
named_none cs ps seen i past = ap (λ (xs : List NamedConnection). named_count ps seen (map view_connection xs)) (drop_all i cs past)
