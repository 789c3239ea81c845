-- One connection after the other.
use Rattle.std.proofs.Common.{◌≡◌, ℕ, suc, zero, ◌+◌, ◌<◌, ◌≤◌, List, [], ◌∷◌, ◌++◌, map, length, drop, get_or, Option, Some, None, option_map, is_some, Bool, true, false, refl, sym, ap, ◌∙◌, subst, slice_get, bytes_eq, ◌||◌, if◌then◌else◌, arith}
use Rattle.std.specs.List.{list_any}
use Rattle.std.specs.Option.{option_or}
use Rattle.std.proofs.lemmas.List.{append_assoc, append-nil, drop_all, drop_more}
use Rattle.gpi.proofs.Sound.{drop_next}
use Rattle.name_table.specs.Places.{first_place, noted as noted_place}
use Rattle.v_syntax.specs.declared.statement.Identifier.{Identifier}
use Rattle.v_syntax.specs.declared.item.NamedConnection.{NamedConnection}
use Rattle.v_syntax.specs.declared.expression.Expression as code_tree
use Rattle.v_syntax.specs.ExpressionTrees.{Tree, view, first_at}
use Rattle.v_syntax.specs.SourceTrees.{view_connection}
use Rattle.v_flat.specs.declared.scope.rule.Broken.{Broken}
use Rattle.v_flat.specs.declared.scope.rule.ElabRule.TheVariants as rule
use Rattle.v_flat.specs.declared.scope.found.Found.{Found}
use Rattle.v_flat.specs.declared.scope.found.Found.TheVariants.{Sound, Noted, Lost}
use Rattle.v_flat.specs.Scope.Rules.{at}
use Rattle.v_flat.specs.Scope.Found.{noted, lost, each, and_then, EachIs}
use Rattle.v_flat.specs.Scope.Scope.{Scope}
use Rattle.v_flat.proofs.ScopeLemmas.Gathered.{each_noted, then_same}
use Rattle.v_flat.specs.Headers.{Port, find_port}
use Rattle.v_flat.specs.Checks.{checked}
use Rattle.v_flat.specs.Statements.{done}
use Rattle.v_flat.specs.Targets.{Drive}
use Rattle.v_flat.specs.Design.{Joint, Joints, joint, joined, value_checked, ordered_joints, port_once, named_joint, named_joints}
use Rattle.v_process.specs.declared.drive.digits.DrivenDigits.{DrivenDigits}
use Rattle.v_process.specs.Drive.Digits.{Keeps}
use Rattle.v_elab.specs.declared.connect.joint.Joint as code
use Rattle.v_elab.specs.declared.connect.joint.Joints as code_joints
use Rattle.v_elab.specs.Connect.Joints.{AreJoints, AreFound}
use Rattle.v_elab.specs.Connect.Found.{connected, IsListed, Goes, after, behind, ThenConnects}
use Rattle.v_flat.proofs.ScopeLemmas.Chains.{one_link, last_link}

-- ---- joints behind others

after_after : (js ks : List Joint) (x : Found Joints) → each (after (js ++ ks)) x ≡ each (after js) (each (after ks) x)
after_after js ks (Sound x) = ap (λ (l : List Joint). (let j : Joints = record { list = l; driven = x.driven } in let r : Found Joints = Sound j in r)) (append_assoc js ks x.list)
after_after js ks (Noted b x) = ap (λ (l : List Joint). (let j : Joints = record { list = l; driven = x.driven } in let r : Found Joints = Noted b j in r)) (append_assoc js ks x.list)
after_after js ks (Lost b) = refl

one_more : (l : List Joint) (x : Found Joints) (f : List Drive → Found Joints) → and_then (each (after l) x) (behind f) ≡ each (after l) (and_then x (behind f))
one_more l (Sound x) f = after_after l x.list (f x.driven)
one_more l (Noted b x) f =
    ap (λ (y : Found Joints). noted b y) (after_after l x.list (f x.driven)) ∙ sym (each_noted (after l) b (each (after x.list) (f x.driven)))
one_more l (Lost b) f = refl

-- with one link done
pub next_link : (a : Found Joints) (c f g : List Drive → Found Joints) (whole : Found Joints) → ((ds : List Drive) → g ds ≡ and_then (c ds) (behind f))
    → and_then a (behind g) ≡ whole → and_then (and_then a (behind c)) (behind f) ≡ whole
next_link a c f g whole h k =
    one_link a (and_then a (behind c)) (behind c) (behind f) whole refl
    (then_same (λ (x : Joints). and_then (behind c x) (behind f)) (behind g) a
    (λ x. one_more x.list (c x.driven) f ∙ ap (λ (y : Found Joints). each (after x.list) y) (sym (h x.driven)))
    ∙ k)

same_after : (x : Found Joints) → each (after []) x ≡ x
same_after (Sound x) = refl
same_after (Noted b x) = refl
same_after (Lost b) = refl

last_of : (l : List Joint) (ds : List Drive) → (let j : Joints = record { list = l ++ []; driven = ds } in let r : Found Joints = Sound j in r) ≡ Sound (record { list = l; driven = ds })
last_of l ds = ap (λ (k : List Joint). (let j : Joints = record { list = k; driven = ds } in let r : Found Joints = Sound j in r)) (append-nil l)

abbrev pub none_left : List Drive → Found Joints
none_left ds = Sound (record { list = []; driven = ds })

pub all_linked : (a : Found Joints) → and_then a (behind none_left) ≡ a
all_linked a =
    then_same (behind none_left) (λ (x : Joints). (let r : Found Joints = Sound x in r)) a (λ x. last_of x.list x.driven) ∙ last_link a

-- ---- a connection in order

ordered_to : (q p : ℕ) (s : Scope) (n : List ℕ) (e : Tree) (x : Found (List Drive)) (f : List Drive → Found Joints)
    → and_then x (λ (ds : List Drive). each (joint n e) (f ds))
    ≡ and_then (each (λ (es : List Drive). (let r : Joints = record { list = record { port = n; value = e } ∷ []; driven = es } in r)) x) (behind f)
ordered_to q p s n e (Sound ds) f = refl
ordered_to q p s n e (Noted b ds) f = refl
ordered_to q p s n e (Lost b) f = refl

lost_then : {A C D : Type 0} (b : Broken) (x : Found A) (f : C → Found D) → (let r : Found D = lost b x in r) ≡ and_then (lost b (done x)) f
lost_then b (Sound a) f = refl
lost_then b (Noted c a) f = refl
lost_then b (Lost c) f = refl

-- the ports from here on, and those behind
abbrev pub AreFrom : Option Port → List Port → List Port → Type 0
AreFrom None left rest = (left ≡ []) × (rest ≡ [])
AreFrom (Some p) left rest = left ≡ p ∷ rest

ordered_by : (s : Scope) (e : Tree) (es : List Tree) (o : Option Port) (left rest : List Port) (ds : List Drive) → AreFrom o left rest
    → ordered_joints s (e ∷ es) left ds ≡ and_then (connected (first_at e) (first_at e) s o (Some e) ds) (behind (ordered_joints s es rest))
ordered_by s e es (Some p) left rest ds h =
    ap (λ (ps : List Port). ordered_joints s (e ∷ es) ps ds) h ∙ ordered_to (first_at e) (first_at e) s p.name e (joined (first_at e) s p.direction e ds) (ordered_joints s es rest)
ordered_by s e es None left rest ds h =
    ap (λ (ps : List Port). ordered_joints s (e ∷ es) ps ds) h.0 ∙ lost_then (at rule.BadPort (first_at e)) (checked s e) (behind (ordered_joints s es rest))

none_from : (ps : List Port) (i : ℕ) → slice_get ps i ≡ None → drop i ps ≡ []
none_from [] zero h = refl
none_from [] (suc i) h = refl
none_from (p ∷ ps) zero h = cc
none_from (p ∷ ps) (suc i) h = none_from ps i h

none_next : (ps : List Port) (i : ℕ) → slice_get ps i ≡ None → drop (suc i) ps ≡ []
none_next [] i h = refl
none_next (p ∷ ps) zero h = cc
none_next (p ∷ ps) (suc i) h = none_next ps i h

pub from_get : (ps : List Port) (i : ℕ) (o : Option Port) → slice_get ps i ≡ o → AreFrom o (drop i ps) (drop (i + 1) ps)
from_get ps i (Some p) h = drop_next ps i p h
from_get ps i None h = (none_from ps i h, (let e : i + 1 ≡ suc i = omega arith in ap (λ (k : ℕ). drop k ps) e ∙ none_next ps i h))

pub listed_get : (ps : List Port) (i : ℕ) (o : Option Port) → slice_get ps i ≡ o → IsListed ps o
listed_get ps i (Some p) h = (i, h)
listed_get ps i None h = tt

-- what is found in those so far, where those that are left give the whole
abbrev pub SoFar : Scope → List Port → (List Drive → Found Joints) → Found Joints → Found (Unit {0}) → List code.Joint → DrivenDigits → Type 0
SoFar s ps left whole f js y = (a : Found Joints) × ((and_then a (behind left) ≡ whole) × Goes s ps a f js y)

pub so_far_none : (s : Scope) (ps : List Port) (left : List Drive → Found Joints) (ds : List Drive) (js : List code.Joint) (y : DrivenDigits) → js ≡ [] → Keeps y ds
    → SoFar s ps left (left ds) (Sound tt) js y
so_far_none s ps left ds js y e k =
    (Sound (record { list = []; driven = ds }), (same_after (left ds), (subst (λ (cs : List code.Joint). AreJoints s ps [] cs) (sym e) tt, k)))

so_far_next : (s : Scope) (ps : List Port) (q p : ℕ) (o : Option Port) (v : Option Tree) (left rest : List Drive → Found Joints) (whole : Found Joints) (f g : Found (Unit {0}))
    (js ks : List code.Joint) (y z : DrivenDigits) → IsListed ps o → ((ds : List Drive) → left ds ≡ and_then (connected q p s o v ds) (behind rest))
    → ThenConnects s q p o v f y js g ks z → SoFar s ps left whole f js y → SoFar s ps rest whole g ks z
so_far_next s ps q p o v left rest whole f g js ks y z l h step a =
    (and_then a.0 (behind (connected q p s o v)), (next_link a.0 (connected q p s o v) rest left whole h a.1.0, step ps a.0 l a.1.1))

goes_found : (s : Scope) (ps : List Port) (a : Found Joints) (f : Found (Unit {0})) (js : List code.Joint) (g : Found code_joints.Joints) (y : DrivenDigits) → Goes s ps a f js y
    → EachIs (λ (u : Unit {0}) (all : code_joints.Joints). all.list.items ≡ js) f g → AreFound s ps a g y
goes_found s ps (Sound x) (Sound u) js (Sound c) y h e = (subst (λ (cs : List code.Joint). AreJoints s ps x.list cs) (sym e) h.0, h.1)
goes_found s ps (Sound x) (Sound u) js (Noted b c) y h e = absurd e
goes_found s ps (Sound x) (Sound u) js (Lost b) y h e = absurd e
goes_found s ps (Sound x) (Noted d u) js g y h e = absurd h
goes_found s ps (Sound x) (Lost d) js g y h e = absurd h
goes_found s ps (Noted b x) (Sound u) js g y h e = absurd h
goes_found s ps (Noted b x) (Noted d u) js (Sound c) y h e = absurd e
goes_found s ps (Noted b x) (Noted d u) js (Noted z c) y h e = (h.0 ∙ e.0, h.1)
goes_found s ps (Noted b x) (Noted d u) js (Lost z) y h e = absurd e
goes_found s ps (Noted b x) (Lost d) js g y h e = absurd h
goes_found s ps (Lost b) (Sound u) js g y h e = absurd h
goes_found s ps (Lost b) (Noted d u) js g y h e = absurd h
goes_found s ps (Lost b) (Lost d) js (Sound c) y h e = absurd e
goes_found s ps (Lost b) (Lost d) js (Noted z c) y h e = absurd e
goes_found s ps (Lost b) (Lost d) js (Lost z) y h e = h ∙ e

so_far_end : (s : Scope) (ps : List Port) (left : List Drive → Found Joints) (whole : Found Joints) (f : Found (Unit {0})) (js : List code.Joint) (g : Found code_joints.Joints)
    (y : DrivenDigits) → ((ds : List Drive) → left ds ≡ none_left ds) → SoFar s ps left whole f js y
    → EachIs (λ (u : Unit {0}) (all : code_joints.Joints). all.list.items ≡ js) f g → AreFound s ps whole g y
so_far_end s ps left whole f js g y last a e =
    subst (λ (x : Found Joints). AreFound s ps x g y)
    (sym (all_linked a.0) ∙ then_same (behind none_left) (behind left) a.0 (λ x. ap (λ (z : Found Joints). each (after x.list) z) (sym (last x.driven))) ∙ a.1.0)
    (goes_found s ps a.0 f js g y a.1.1 e)

-- ---- in order

abbrev pub ordered_left : Scope → List code_tree.Expression → List Port → ℕ → List Drive → Found Joints
ordered_left s es ps i ds = ordered_joints s (map view (drop i es)) (drop i ps) ds

pub ordered_next : (s : Scope) (es : List code_tree.Expression) (ps : List Port) (i q p : ℕ) (e : code_tree.Expression) (o : Option Port) (v : Option Tree) (whole : Found Joints)
    (f g : Found (Unit {0})) (js ks : List code.Joint) (y z : DrivenDigits) → i < length es → e ≡ get_or es i e → q ≡ first_at (view e) → p ≡ first_at (view e)
    → v ≡ Some (view e) → slice_get ps i ≡ o → ThenConnects s q p o v f y js g ks z → SoFar s ps (ordered_left s es ps i) whole f js y
    → SoFar s ps (ordered_left s es ps (i + 1)) whole g ks z
ordered_next s es ps i q p e o v whole f g js ks y z lt is at_q at_p given port step a =
    so_far_next s ps q p o v (ordered_left s es ps i) (ordered_left s es ps (i + 1)) whole f g js ks y z (listed_get ps i o port)
    (λ ds.
    ap (λ (xs : List code_tree.Expression). ordered_joints s (map view xs) (drop i ps) ds)
    (drop_more es i e lt ∙ ap (λ (d : code_tree.Expression). d ∷ drop (i + 1) es) (sym is))
    ∙ ordered_by s (view e) (map view (drop (i + 1) es)) o (drop i ps) (drop (i + 1) ps) ds (from_get ps i o port)
    ∙ ap (λ (n : ℕ). and_then (connected n (first_at (view e)) s o (Some (view e)) ds) (behind (ordered_left s es ps (i + 1)))) (sym at_q)
    ∙ ap (λ (n : ℕ). and_then (connected q n s o (Some (view e)) ds) (behind (ordered_left s es ps (i + 1)))) (sym at_p)
    ∙ ap (λ (w : Option Tree). and_then (connected q p s o w ds) (behind (ordered_left s es ps (i + 1)))) (sym given))
    step a

pub ordered_end : (s : Scope) (es : List code_tree.Expression) (ps : List Port) (i : ℕ) (whole : Found Joints) (f : Found (Unit {0})) (js : List code.Joint)
    (g : Found code_joints.Joints) (y : DrivenDigits) → length es ≤ i → SoFar s ps (ordered_left s es ps i) whole f js y
    → EachIs (λ (u : Unit {0}) (all : code_joints.Joints). all.list.items ≡ js) f g → AreFound s ps whole g y
ordered_end s es ps i whole f js g y past a e =
    so_far_end s ps (ordered_left s es ps i) whole f js g y
    (λ ds. ap (λ (xs : List code_tree.Expression). ordered_joints s (map view xs) (drop i ps) ds) (drop_all i es past)) a e

-- ---- with names

-- the table has these names
abbrev pub HasNames : List (List ℕ) → List (List ℕ × ℕ) → Type 0
HasNames ns t = (n : List ℕ) → is_some (first_place t n) ≡ list_any (bytes_eq n) ns

seen_or : (o : Option ℕ) (b c : Bool) (x : ℕ) → is_some o ≡ c → is_some (option_or o (if b then Some x else None)) ≡ (b || c)
seen_or None true c x h = refl
seen_or None false c x h = h
seen_or (Some y) true c x h = refl
seen_or (Some y) false c x h = h

pub seen_too : (seen : List (List ℕ)) (k : List ℕ) (x : ℕ) (t new : List (List ℕ × ℕ)) → HasNames seen t → ((n : List ℕ) → first_place new n ≡ noted_place k x (first_place t) n)
    → HasNames (k ∷ seen) new
seen_too seen k x t new h e = λ n. ap (λ (o : Option ℕ). is_some o) (e n) ∙ seen_or (first_place t n) (bytes_eq n k) (list_any (bytes_eq n) seen) x (h n)

pub once_by : (i : Identifier) (seen : List (List ℕ)) (b : Bool) (o : Option Port) → list_any (bytes_eq i.name) seen ≡ b → port_once i seen o ≡ (if b then None else o)
once_by i seen true None h = refl
once_by i seen false None h = refl
once_by i seen b (Some p) h = ap (λ (c : Bool). if c then None else (let r : Option Port = Some p in r)) h

listed_in : (n : List ℕ) (q : Port) (ps : List Port) (p : Port) (b : Bool) → (find_port n ps ≡ Some p → IsListed ps (Some p))
    → (if b then (let r : Option Port = Some q in r) else find_port n ps) ≡ Some p → IsListed (q ∷ ps) (Some p)
listed_in n q ps p true l h = (0, h)
listed_in n q ps p false l h = (suc (l h).0, (l h).1)

find_listed : (n : List ℕ) (ps : List Port) (p : Port) → find_port n ps ≡ Some p → IsListed ps (Some p)
find_listed n [] p h = cc
find_listed n (q ∷ ps) p h = listed_in n q ps p (bytes_eq q.name n) (λ k. find_listed n ps p k) h

found_listed : (n : List ℕ) (ps : List Port) (o : Option Port) → find_port n ps ≡ o → IsListed ps o
found_listed n ps None h = tt
found_listed n ps (Some p) h = find_listed n ps p h

once_listed : (n : List ℕ) (ps : List Port) (b : Bool) (o : Option Port) → o ≡ (if b then None else find_port n ps) → IsListed ps o
once_listed n ps true o h = subst (λ (r : Option Port). IsListed ps r) (sym h) tt
once_listed n ps false o h = found_listed n ps o (sym h)

lost_here : {A C D : Type 0} (b : Broken) (x : Found A) (f : C → Found D) → (let r : Found D = lost b x in r) ≡ and_then (lost b x) f
lost_here b (Sound a) f = refl
lost_here b (Noted c a) f = refl
lost_here b (Lost c) f = refl

named_by : (q : ℕ) (i : Identifier) (s : Scope) (o : Option Port) (v : Option Tree) (ds : List Drive) (f : List Drive → Found Joints)
    → named_joint q i s o v ds f ≡ and_then (connected q i.at s o v ds) (behind f)
named_by q i s None v ds f = lost_here (at rule.BadPort i.at) (value_checked s v) (behind f)
named_by q i s (Some p) None ds f = sym (same_after (f ds))
named_by q i s (Some p) (Some e) ds f = ordered_to q i.at s p.name e (joined q s p.direction e ds) f

abbrev pub named_left : Scope → List NamedConnection → List Port → List (List ℕ) → ℕ → List Drive → Found Joints
named_left s cs ps seen i ds = named_joints s ps seen (map view_connection (drop i cs)) ds

pub named_next : (s : Scope) (cs : List NamedConnection) (ps : List Port) (seen : List (List ℕ)) (t : List (List ℕ × ℕ)) (i q p : ℕ) (c : NamedConnection) (o : Option Port)
    (v : Option Tree) (whole : Found Joints) (f g : Found (Unit {0})) (js ks : List code.Joint) (y z : DrivenDigits) → i < length cs → c ≡ get_or cs i c → q ≡ c.at → p ≡ c.port.at
    → v ≡ option_map view c.value → HasNames seen t → o ≡ (if is_some (first_place t c.port.name) then None else find_port c.port.name ps) → ThenConnects s q p o v f y js g ks z
    → SoFar s ps (named_left s cs ps seen i) whole f js y → SoFar s ps (named_left s cs ps (c.port.name ∷ seen) (i + 1)) whole g ks z
named_next s cs ps seen t i q p c o v whole f g js ks y z lt is at_q at_p given names port step a =
    let rest = named_left s cs ps (c.port.name ∷ seen) (i + 1) in
    let once : o ≡ port_once c.port seen (find_port c.port.name ps) =
    port ∙ ap (λ (b : Bool). if b then None else find_port c.port.name ps) (names c.port.name)
    ∙ sym (once_by c.port seen (list_any (bytes_eq c.port.name) seen) (find_port c.port.name ps) refl) in
    so_far_next s ps q p o v (named_left s cs ps seen i) rest whole f g js ks y z (once_listed c.port.name ps (is_some (first_place t c.port.name)) o port)
    (λ ds.
    ap (λ (xs : List NamedConnection). named_joints s ps seen (map view_connection xs) ds)
    (drop_more cs i c lt ∙ ap (λ (d : NamedConnection). d ∷ drop (i + 1) cs) (sym is))
    ∙ named_by c.at c.port s (port_once c.port seen (find_port c.port.name ps)) (option_map view c.value) ds rest
    ∙ ap (λ (r : Option Port). and_then (connected c.at c.port.at s r (option_map view c.value) ds) (behind rest)) (sym once)
    ∙ ap (λ (n : ℕ). and_then (connected n c.port.at s o (option_map view c.value) ds) (behind rest)) (sym at_q)
    ∙ ap (λ (n : ℕ). and_then (connected q n s o (option_map view c.value) ds) (behind rest)) (sym at_p)
    ∙ ap (λ (w : Option Tree). and_then (connected q p s o w ds) (behind rest)) (sym given))
    step a

pub named_end : (s : Scope) (cs : List NamedConnection) (ps : List Port) (seen : List (List ℕ)) (i : ℕ) (whole : Found Joints) (f : Found (Unit {0})) (js : List code.Joint)
    (g : Found code_joints.Joints) (y : DrivenDigits) → length cs ≤ i → SoFar s ps (named_left s cs ps seen i) whole f js y
    → EachIs (λ (u : Unit {0}) (all : code_joints.Joints). all.list.items ≡ js) f g → AreFound s ps whole g y
named_end s cs ps seen i whole f js g y past a e =
    so_far_end s ps (named_left s cs ps seen i) whole f js g y
    (λ ds. ap (λ (xs : List NamedConnection). named_joints s ps seen (map view_connection xs) ds) (drop_all i cs past)) a e
