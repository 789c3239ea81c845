-- Names that were seen, and which connections name an open parameter for the first time.
use Rattle.std.proofs.Common.{◌≡◌, ℕ, ◌+◌, ◌-◌, ◌<◌, ◌≤◌, List, [], ◌∷◌, ◌++◌, map, length, drop, get_or, suc, Option, option_map, Some, None, is_some, is_none, Bool, true, false, ◌&&◌, ◌||◌, not, refl, sym, ap, ◌∙◌, subst, append_assoc, bytes_eq, if◌then◌else◌, arith}
use Rattle.std.specs.List.{list_any}
use Rattle.std.proofs.lemmas.List.{drop_all}
use Rattle.std.specs.Option.{option_or}
use Rattle.name_table.specs.Places.{first_place, noted}
use Rattle.v_syntax.specs.declared.statement.Identifier.{Identifier}
use Rattle.v_syntax.specs.declared.item.NamedConnection.{NamedConnection}
use Rattle.v_syntax.specs.ExpressionTrees.{Tree, view}
use Rattle.v_syntax.specs.SourceTrees.{ConnectionTree, Connection, view_connection}
use Rattle.v_flat.specs.declared.scope.rule.ElabRule.TheVariants as rule
use Rattle.v_flat.specs.declared.scope.found.Found.{Found}
use Rattle.v_flat.specs.declared.scope.found.Found.TheVariants.{Sound}
use Rattle.v_flat.specs.Scope.Found.{each, wants}
use Rattle.v_flat.specs.Scope.Scope.{Scope}
use Rattle.v_flat.specs.Declarations.{Given}
use Rattle.v_flat.specs.Design.{named_value, named_given}
use Rattle.v_header.specs.Given.Given.{given_values, FindsTheSame}
use Rattle.v_header.specs.Given.Uses.{HasNames, first_uses, given_by}
use Rattle.v_header.proofs.GivenLemmas.Added.{maybe_value, wanted_too}
use Rattle.v_header.proofs.GivenLemmas.Orders.{here}

-- ---- tables of names

or_noted : (o : Option ℕ) (b c : Bool) (x : ℕ) → (is_some (option_or o (if b then Some x else None)) || c) ≡ (is_some o || (b || c))
or_noted None true c x = refl
or_noted None false c x = refl
or_noted (Some y) b c x = refl

-- the table has these names but for those that are left
abbrev pub HasOthers : List (List ℕ) → List (List ℕ) → List (List ℕ × ℕ) → Type 0
HasOthers all left t = (n : List ℕ) → (is_some (first_place t n) || list_any (bytes_eq n) left) ≡ list_any (bytes_eq n) all

pub others_too : (all left rest : List (List ℕ)) (k : List ℕ) (x : ℕ) (t new : List (List ℕ × ℕ)) → left ≡ k ∷ rest → HasOthers all left t
    → ((n : List ℕ) → first_place new n ≡ noted k x (first_place t) n) → HasOthers all rest new
others_too all left rest k x t new a h e = λ n.
    ap (λ (o : Option ℕ). is_some o || list_any (bytes_eq n) rest) (e n) ∙ or_noted (first_place t n) (bytes_eq n k) (list_any (bytes_eq n) rest) x
    ∙ ap (λ (ns : List (List ℕ)). is_some (first_place t n) || list_any (bytes_eq n) ns) (sym a) ∙ h n

or_false : (b : Bool) → b ≡ (b || false)
or_false true = refl
or_false false = refl

pub others_end : (all left : List (List ℕ)) (t : List (List ℕ × ℕ)) → left ≡ [] → HasOthers all left t → HasNames all t
others_end all left t a h = λ n.
    or_false (is_some (first_place t n)) ∙ ap (λ (ns : List (List ℕ)). is_some (first_place t n) || list_any (bytes_eq n) ns) (sym a) ∙ h n

seen_or : (o : Option ℕ) (b c : Bool) (x : ℕ) → is_some o ≡ c → is_some (option_or o (if b then Some x else None)) ≡ (b || c)
seen_or None true c x h = refl
seen_or None false c x h = h
seen_or (Some y) true c x h = refl
seen_or (Some y) false c x h = h

pub seen_too : (seen : List (List ℕ)) (k : List ℕ) (x : ℕ) (t new : List (List ℕ × ℕ)) → HasNames seen t → ((n : List ℕ) → first_place new n ≡ noted k x (first_place t) n)
    → HasNames (k ∷ seen) new
seen_too seen k x t new h e = λ n. ap (λ (o : Option ℕ). is_some o) (e n) ∙ seen_or (first_place t n) (bytes_eq n k) (list_any (bytes_eq n) seen) x (h n)

-- ---- first uses

is_new : (o : Option ℕ) (b : Bool) → is_some o ≡ b → is_none o ≡ not b
is_new None true h = cc
is_new None false h = refl
is_new (Some x) true h = refl
is_new (Some x) false h = cc

pub asked_as : (ns seen : List (List ℕ)) (t u : List (List ℕ × ℕ)) (n : List ℕ) (b : Bool) → HasNames ns t → HasNames seen u
    → b ≡ (is_some (first_place t n) && is_none (first_place u n)) → b ≡ (list_any (bytes_eq n) ns && not (list_any (bytes_eq n) seen))
asked_as ns seen t u n b h k e =
    e ∙ ap (λ (x : Bool). x && is_none (first_place u n)) (h n)
    ∙ ap (λ (x : Bool). list_any (bytes_eq n) ns && x) (is_new (first_place u n) (list_any (bytes_eq n) seen) (k n))

pub use_next : (ns seen : List (List ℕ)) (p : ℕ) (i : Identifier) (v : Option Tree) (cs left : List ConnectionTree) (us new whole : List Bool) (b : Bool)
    → left ≡ Connection p i v ∷ cs → b ≡ (list_any (bytes_eq i.name) ns && not (list_any (bytes_eq i.name) seen)) → new ≡ us ++ (b ∷ [])
    → us ++ first_uses ns seen left ≡ whole → new ++ first_uses ns (i.name ∷ seen) cs ≡ whole
use_next ns seen p i v cs left us new whole b a e n all =
    ap (λ (xs : List Bool). xs ++ first_uses ns (i.name ∷ seen) cs) n ∙ append_assoc us (b ∷ []) (first_uses ns (i.name ∷ seen) cs)
    ∙ ap (λ (x : Bool). us ++ (x ∷ first_uses ns (i.name ∷ seen) cs)) e
    ∙ ap (λ (xs : List ConnectionTree). us ++ first_uses ns seen xs) (sym a) ∙ all

-- ---- values by them

pub by_uses : (s : Scope) (ns seen : List (List ℕ)) (cs : List ConnectionTree) → given_by s (first_uses ns seen cs) cs ≡ named_given s ns seen cs
by_uses s ns seen [] = refl
by_uses s ns seen (Connection p i v ∷ cs) =
    ap (λ (x : Found (List Given)). wants (list_any (bytes_eq i.name) ns && not (list_any (bytes_eq i.name) seen)) rule.BadPort i.at (named_value s i.name v x))
    (by_uses s ns (i.name ∷ seen) cs)

pub one_before : (s : Scope) (b : Bool) (bs us : List Bool) (p : ℕ) (i : Identifier) (v : Option Tree) (cs left : List ConnectionTree) (f g : Found (List Given))
    → us ≡ b ∷ bs → left ≡ Connection p i v ∷ cs → FindsTheSame (given_by s bs cs) f → FindsTheSame (named_value s i.name v f) g
    → FindsTheSame (given_by s us left) (wants b rule.BadPort i.at g)
one_before s b bs us p i v cs left f g a e h k =
    subst (λ (xs : List Bool). FindsTheSame (given_by s xs left) (wants b rule.BadPort i.at g)) (sym a)
    (subst (λ (xs : List ConnectionTree). FindsTheSame (given_by s (b ∷ bs) xs) (wants b rule.BadPort i.at g)) (sym e)
    (wanted_too b rule.BadPort i.at (named_value s i.name v (given_by s bs cs)) g (maybe_value s i.name v (given_by s bs cs) f g h k)))

pub uses_length : (ns seen : List (List ℕ)) (cs : List ConnectionTree) → length (first_uses ns seen cs) ≡ length cs
uses_length ns seen [] = refl
uses_length ns seen (Connection p i v ∷ cs) = ap (λ (n : ℕ). suc n) (uses_length ns (i.name ∷ seen) cs)

pub named_at : (s : Scope) (cs : List NamedConnection) (us : List Bool) (i : ℕ) (c : NamedConnection) (b : Bool) (f g h : Found (List Given)) → 1 ≤ i → i ≤ length cs
    → length us ≡ length cs → c ≡ get_or cs (i - 1) c → b ≡ get_or us (i - 1) b
    → FindsTheSame (given_by s (drop i us) (map view_connection (drop i cs))) f → FindsTheSame (named_value s c.port.name (option_map view c.value) f) g
    → h ≡ wants b rule.BadPort c.port.at g → FindsTheSame (given_by s (drop (i - 1) us) (map view_connection (drop (i - 1) cs))) h
named_at s cs us i c b f g h some inside all is which behind more e =
    let next : i ≡ i - 1 + 1 = omega (arith, some) in
    let lt : i - 1 < length cs = omega (arith, some, inside) in
    let few : i - 1 < length us = omega (arith, some, inside, all) in
    subst (λ (x : Found (List Given)). FindsTheSame (given_by s (drop (i - 1) us) (map view_connection (drop (i - 1) cs))) x) (sym e)
    (one_before s b (drop (i - 1 + 1) us) (drop (i - 1) us) c.at c.port (option_map view c.value) (map view_connection (drop (i - 1 + 1) cs)) (map view_connection (drop (i - 1) cs)) f g
    (here us (i - 1) b few which) (ap (λ (xs : List NamedConnection). map view_connection xs) (here cs (i - 1) c lt is))
    (subst (λ (n : ℕ). FindsTheSame (given_by s (drop n us) (map view_connection (drop n cs))) f) next behind) more)

pub none_named : (s : Scope) (cs : List NamedConnection) (us : List Bool) (gs : List Given) → gs ≡ [] → FindsTheSame (given_by s us (map view_connection (drop (length cs) cs))) (Sound gs)
none_named s cs us gs e =
    subst (λ (xs : List NamedConnection). FindsTheSame (given_by s us (map view_connection xs)) (Sound gs)) (sym (drop_all (length cs) cs (omega arith)))
    (ap (λ (hs : List Given). each given_values (let r : Found (List Given) = Sound hs in r)) e)

pub all_named : (s : Scope) (ns : List (List ℕ)) (cs : List NamedConnection) (us : List Bool) (i : ℕ) (f : Found (List Given)) → us ≡ first_uses ns [] (map view_connection cs)
    → i ≤ 0 → FindsTheSame (given_by s (drop i us) (map view_connection (drop i cs))) f → FindsTheSame (named_given s ns [] (map view_connection cs)) f
all_named s ns cs us i f e z h =
    let none : i ≡ 0 = omega (arith, z) in
    subst (λ (x : Found (List Given)). FindsTheSame x f) (by_uses s ns [] (map view_connection cs))
    (subst (λ (vs : List Bool). FindsTheSame (given_by s vs (map view_connection cs)) f) e
    (subst (λ (n : ℕ). FindsTheSame (given_by s (drop n us) (map view_connection (drop n cs))) f) none h))
