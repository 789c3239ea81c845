-- The connected ports of an instance give as many assignments as are counted for them.
use Rattle.std.proofs.Common.{◌≡◌, ◌+◌, ◌||◌, ◌⊎◌, inl, inr, ◌∙◌, ℕ, suc, Bool, true, false, List, [], ◌∷◌, ◌++◌, length, length-append, map, Option, Some, None, is_none, Ok, refl, sym, ap, subst, arith, if◌then◌else◌}
use Rattle.std.specs.Prelude.{bytes_eq}
use Rattle.std.specs.List.{list_any}
use Rattle.std.specs.Option.{is_some}
use Rattle.v_syntax.specs.declared.statement.Identifier.{Identifier}
use Rattle.v_syntax.specs.declared.item.Direction.{Direction}
use Rattle.v_syntax.specs.declared.item.Direction.TheVariants as direction
use Rattle.v_syntax.specs.ExpressionTrees.{Tree, TargetTree, first_at}
use Rattle.v_syntax.specs.SourceTrees.{ConnectionTree, Connection, ConnectionsTree, Ordered, Named as NamedConnections, ModuleTree}
use Rattle.v_flat.specs.declared.scope.rule.ElabRule.TheVariants as rule
use Rattle.v_flat.specs.declared.scope.found.Found.{Found}
use Rattle.v_flat.specs.declared.scope.found.Found.TheVariants.{Sound, Noted, Lost}
use Rattle.v_flat.specs.declared.scope.meaning.DataObject.{DataObject}
use Rattle.v_flat.specs.declared.scope.meaning.Meaning.{Meaning}
use Rattle.v_flat.specs.declared.scope.meaning.Meaning.TheVariants.{Object}
use Rattle.v_flat.specs.Scope.Rules.{at}
use Rattle.v_flat.specs.Scope.Found.{Holds, each}
use Rattle.v_flat.specs.Scope.Scope.{Scope, find, means}
use Rattle.v_flat.specs.Objects.{count_of}
use Rattle.v_flat.specs.Checks.{checked}
use Rattle.v_flat.specs.Targets.{Drive, as_target, driving}
use Rattle.v_flat.specs.Headers.{Port, find_port, later, port_name, ports_of}
use Rattle.v_flat.specs.Declarations.{Declared, Entries, Place, declarations, find_declared, in_order, is_free, listed, other_lines, port_lines, whole_of}
use Rattle.v_flat.specs.Statements.{reads}
use Rattle.v_flat.specs.Design.{Design, Joint, Joints, any_change, entries, find_joint, input_run, output_run, wakes_of, joint, joint_count, joined, joints_of, named_joint, named_joints, object_of, opened, ordered_joints, output_joined, output_target, place_of, port_joint, port_joints, port_once, value_checked, with_process}
use Rattle.v_flat.proofs.Holds.{holds_any, holds_each, holds_lost, holds_then}
use Rattle.gpi.specs.declared.design.Kind.TheVariants as process_kind
use Rattle.gpi.specs.Design.{Proc}
use Rattle.v_flat.proofs.ShapeLemmas.Declared.{Goes, declared_hold}
use Rattle.v_flat.proofs.ShapeLemmas.Joints.{as_many}
use Rattle.v_flat.proofs.ShapeLemmas.Names.{Among, Differ, among_first, among_later, is_itself, same_name}
use Rattle.v_flat.proofs.ShapeLemmas.Nodes.{one_if}
use Rattle.v_flat.proofs.ShapeLemmas.Ports.{ports_apart}
use Rattle.v_laws.specs.Joints.{Joints_are_counted}
use Rattle.v_laws.proofs.Members.{Member, member_both}
use Rattle.v_laws.proofs.Directions.{HasDirection, directed, found_member, put_member}
use Rattle.v_laws.proofs.Found.{of_ok, of_sound}
use Rattle.v_laws.proofs.Places.{member_named}
use Rattle.v_laws.proofs.Joined.{found_port, one_port}

-- ---- the connections

-- it is of a port that is there, and is assigned where that is an output
record IsOfPort (all : List Port) (j : Joint) : Type 0 where
  port : Port
  here : Member port all
  name : port.name ≡ j.port
  target : port.direction ≡ Some direction.Output → is_some (as_target j.value) ≡ true

-- each is of another port
abbrev AreOfPorts : List Port → List Joint → Type 0
AreOfPorts all [] = Unit {0}
AreOfPorts all (j ∷ js) = (find_joint j.port js ≡ None) × IsOfPort all j × AreOfPorts all js

-- none of them is of such a name
record AreGiven (all : List Port) (Out : List ℕ → Type 0) (x : Joints) : Type 0 where
  each_one : AreOfPorts all x.list
  others : (n : List ℕ) → Out n → find_joint n x.list ≡ None

abbrev HasTarget : Option Direction → Tree → Type 0
HasTarget d e = d ≡ Some direction.Output → is_some (as_target e) ≡ true

output_has : (q : ℕ) (s : Scope) (e : Tree) (ds : List Drive) (o : Option TargetTree) → Holds (λ (x : List Drive). is_some o ≡ true) (output_joined q s e ds o)
output_has q s e ds None = holds_lost (λ (x : List Drive). false ≡ true) (at rule.BadTarget q) (checked s e)
output_has q s e ds (Some t) =
    holds_each (λ (w : ℕ). Unit {0}) (λ (x : List Drive). true ≡ true) (λ w. (driving (Some q) s t ds).driven) (driving (Some q) s t ds).width (holds_any (driving (Some q) s t ds).width) (λ w u. refl)

joined_has : (q : ℕ) (s : Scope) (d : Option Direction) (e : Tree) (ds : List Drive) → Holds (λ (x : List Drive). HasTarget d e) (joined q s d e ds)
joined_has q s (Some direction.Output) e ds = weaker (output_joined q s e ds (as_target e)) (output_has q s e ds (as_target e))
  where
    weaker : (x : Found (List Drive)) → Holds (λ (y : List Drive). is_some (as_target e) ≡ true) x → Holds (λ (y : List Drive). HasTarget (Some direction.Output) e) x
    weaker (Sound y) h = λ k. h
    weaker (Noted b y) h = tt
    weaker (Lost b) h = tt
joined_has q s (Some direction.Input) e ds =
    holds_each (λ (w : ℕ). Unit {0}) (λ (x : List Drive). HasTarget (Some direction.Input) e) (λ w. ds) (checked s e) (holds_any (checked s e)) (λ w u k. absurd (cc))
joined_has q s None e ds = holds_each (λ (w : ℕ). Unit {0}) (λ (x : List Drive). HasTarget None e) (λ w. ds) (checked s e) (holds_any (checked s e)) (λ w u k. absurd (cc))

module _ (s : Scope) (all : List Port) where
  none_given : (Out : List ℕ → Type 0) (ds : List Drive) → AreGiven all Out (record { list = []; driven = ds })
  none_given Out ds = record { each_one = tt; others = λ n o. refl }

  one_given : (r : Port) (e : Tree) (Out Rest : List ℕ → Type 0) (x : Joints) → Member r all → HasTarget r.direction e → Rest r.name → ((n : List ℕ) → Out n → Rest n) → ((n : List ℕ) → Out n → bytes_eq r.name n ≡ false)
      → AreGiven all Rest x → AreGiven all Out (joint r.name e x)
  one_given r e Out Rest x here t new more apart h = record {
    each_one = (h.others r.name new, record { port = r; here = here; name = refl; target = t }, h.each_one);
    others = λ n o. ap (λ b. if b then Some e else find_joint n x.list) (apart n o) ∙ h.others n (more n o);
  }

  abbrev NotOf : List Port → List ℕ → Type 0
  NotOf ps n = Among n (map port_name ps) → ⊥

  not_same : (n m : List ℕ) → (n ≡ m → ⊥) → bytes_eq n m ≡ false
  not_same n m h = go (bytes_eq n m) refl
    where
      go : (b : Bool) → bytes_eq n m ≡ b → b ≡ false
      go true e = absurd (h (same_name n m e))
      go false e = refl

  ordered_given : (es : List Tree) (ps : List Port) (ds : List Drive) → ((p : Port) → Member p ps → Member p all) → Differ (map port_name ps) → Holds (AreGiven all (NotOf ps)) (ordered_joints s es ps ds)
  ordered_given [] ps ds sub differ = none_given (NotOf ps) ds
  ordered_given (e ∷ es) [] ds sub differ = holds_lost (AreGiven all (NotOf [])) (at rule.BadPort (first_at e)) (checked s e)
  ordered_given (e ∷ es) (p ∷ ps) ds sub differ =
      holds_then (λ (x : List Drive). HasTarget p.direction e) (AreGiven all (NotOf (p ∷ ps))) (joined (first_at e) s p.direction e ds) (λ cs. each (joint p.name e) (ordered_joints s es ps cs))
      (joined_has (first_at e) s p.direction e ds)
      (λ cs t. holds_each (AreGiven all (NotOf ps)) (AreGiven all (NotOf (p ∷ ps))) (joint p.name e) (ordered_joints s es ps cs) (ordered_given es ps cs (λ q m. sub q (inr m)) differ.1)
      (λ x h. one_given p e (NotOf (p ∷ ps)) (NotOf ps) x (sub p (inl refl)) t differ.0 (λ n o a. o (among_later n p.name (map port_name ps) a))
      (λ n o. not_same p.name n (λ f. o (ap (λ m. list_any (bytes_eq m) (map port_name (p ∷ ps))) (sym f) ∙ among_first p.name (map port_name ps)))) h))

  abbrev IsSeen : List (List ℕ) → List ℕ → Type 0
  IsSeen seen n = Among n seen

  not_seen : (i : Identifier) (seen : List (List ℕ)) (o : Option Port) (p : Port) → port_once i seen o ≡ Some p → (list_any (bytes_eq i.name) seen ≡ false) × (o ≡ Some p)
  not_seen i seen None p e = cc
  not_seen i seen (Some q) p e = go (list_any (bytes_eq i.name) seen) refl e
    where
      go : (b : Bool) → list_any (bytes_eq i.name) seen ≡ b → (if b then None else Some q) ≡ Some p → (list_any (bytes_eq i.name) seen ≡ false) × (Some q ≡ Some p)
      go true f g = cc
      go false f g = (f, g)

  named_one : (q : ℕ) (i : Identifier) (seen : List (List ℕ)) (o : Option Port) (v : Option Tree) (ds : List Drive) (rest : List Drive → Found Joints)
      → ((p : Port) → o ≡ Some p → Member p all × (p.name ≡ i.name) × (list_any (bytes_eq i.name) seen ≡ false))
      → ((cs : List Drive) → Holds (AreGiven all (IsSeen (i.name ∷ seen))) (rest cs)) → Holds (AreGiven all (IsSeen seen)) (named_joint q i s o v ds rest)
  named_one q i seen None v ds rest sub h = holds_lost (AreGiven all (IsSeen seen)) (at rule.BadPort i.at) (value_checked s v)
  named_one q i seen (Some p) None ds rest sub h = weaker (rest ds) (h ds)
    where
      weaker : (x : Found Joints) → Holds (AreGiven all (IsSeen (i.name ∷ seen))) x → Holds (AreGiven all (IsSeen seen)) x
      weaker (Sound x) k = record { each_one = k.each_one; others = λ n a. k.others n (among_later n i.name seen a) }
      weaker (Noted b x) k = tt
      weaker (Lost b) k = tt
  named_one q i seen (Some p) (Some e) ds rest sub h =
      holds_then (λ (x : List Drive). HasTarget p.direction e) (AreGiven all (IsSeen seen)) (joined q s p.direction e ds) (λ cs. each (joint p.name e) (rest cs)) (joined_has q s p.direction e ds)
      (λ cs t. holds_each (AreGiven all (IsSeen (i.name ∷ seen))) (AreGiven all (IsSeen seen)) (joint p.name e) (rest cs) (h cs)
      (λ x k. one_given p e (IsSeen seen) (IsSeen (i.name ∷ seen)) x port.0 t (ap (λ m. list_any (bytes_eq m) (i.name ∷ seen)) port.1 ∙ among_first i.name seen) (λ n a. among_later n i.name seen a)
      (λ n a. not_same p.name n (λ f. (let g : list_any (bytes_eq i.name) seen ≡ true = ap (λ m. list_any (bytes_eq m) seen) (sym port.1 ∙ f) ∙ a in let l = port.2 in cc))) k))
    where
      port : Member p all × (p.name ≡ i.name) × (list_any (bytes_eq i.name) seen ≡ false)
      port = sub p refl

  named_given : (seen : List (List ℕ)) (cs : List ConnectionTree) (ds : List Drive) → Holds (AreGiven all (IsSeen seen)) (named_joints s all seen cs ds)
  named_given seen [] ds = none_given (IsSeen seen) ds
  named_given seen (Connection q i v ∷ cs) ds =
      named_one q i seen (port_once i seen (find_port i.name all)) v ds (named_joints s all (i.name ∷ seen) cs)
      (λ p e. (let n = not_seen i seen (find_port i.name all) p e in let f = found_port i.name all p n.1 in (f.0, f.1, n.0))) (λ es. named_given (i.name ∷ seen) cs es)

  all_given : (c : Option ConnectionsTree) (ds : List Drive) → Differ (map port_name all) → Holds (λ (x : Joints). AreOfPorts all x.list) (joints_of s c all ds)
  all_given None ds differ = tt
  all_given (Some (Ordered es)) ds differ = weaker (NotOf all) (ordered_joints s es all ds) (ordered_given es all ds (λ p m. m) differ)
    where
      weaker : (Out : List ℕ → Type 0) (x : Found Joints) → Holds (AreGiven all Out) x → Holds (λ (y : Joints). AreOfPorts all y.list) x
      weaker Out (Sound x) k = k.each_one
      weaker Out (Noted b x) k = tt
      weaker Out (Lost b) k = tt
  all_given (Some (NamedConnections cs)) ds differ = weaker (IsSeen []) (named_joints s all [] cs ds) (named_given [] cs ds)
    where
      weaker : (Out : List ℕ → Type 0) (x : Found Joints) → Holds (AreGiven all Out) x → Holds (λ (y : Joints). AreOfPorts all y.list) x
      weaker Out (Sound x) k = k.each_one
      weaker Out (Noted b x) k = tt
      weaker Out (Lost b) k = tt

-- ---- how many ports are joined

abbrev hits : List Port → List Joint → ℕ
hits [] js = 0
hits (p ∷ ps) js = one_if (is_some (find_joint p.name js)) + hits ps js

none_hit : (ps : List Port) → hits ps [] ≡ 0
none_hit [] = refl
none_hit (p ∷ ps) = let h = none_hit ps in omega (arith, h)

not_hit : (ps : List Port) (j : Joint) (js : List Joint) → (Among j.port (map port_name ps) → ⊥) → hits ps (j ∷ js) ≡ hits ps js
not_hit [] j js h = refl
not_hit (p ∷ ps) j js h = go (bytes_eq j.port p.name) refl (not_hit ps j js (λ a. h (among_later j.port p.name (map port_name ps) a)))
  where
    go : (b : Bool) → bytes_eq j.port p.name ≡ b → hits ps (j ∷ js) ≡ hits ps js → one_if (is_some (if b then Some j.value else find_joint p.name js)) + hits ps (j ∷ js) ≡ one_if (is_some (find_joint p.name js)) + hits ps js
    go true e k = absurd (h (ap (λ b. b || list_any (bytes_eq j.port) (map port_name ps)) e))
    go false e k = ap (λ n. one_if (is_some (find_joint p.name js)) + n) k

hit_once : (ps : List Port) (j : Joint) (js : List Joint) → find_joint j.port js ≡ None → Differ (map port_name ps) → Among j.port (map port_name ps) → hits ps (j ∷ js) ≡ suc (hits ps js)
hit_once [] j js new differ a = cc
hit_once (p ∷ ps) j js new differ a = go (bytes_eq j.port p.name) refl a (hit_once ps j js new differ.1)
  where
    go : (b : Bool) → bytes_eq j.port p.name ≡ b → (b || list_any (bytes_eq j.port) (map port_name ps)) ≡ true → (Among j.port (map port_name ps) → hits ps (j ∷ js) ≡ suc (hits ps js))
        → one_if (is_some (if b then Some j.value else find_joint p.name js)) + hits ps (j ∷ js) ≡ suc (one_if (is_some (find_joint p.name js)) + hits ps js)
    go true e f later =
        let same : j.port ≡ p.name = same_name j.port p.name e in
        let none : one_if (is_some (find_joint p.name js)) ≡ 0 = ap (λ n. one_if (is_some (find_joint n js))) (sym same) ∙ ap (λ o. one_if (is_some o)) new in
        let rest : hits ps (j ∷ js) ≡ hits ps js = not_hit ps j js (λ b. differ.0 (ap (λ m. list_any (bytes_eq m) (map port_name ps)) (sym same) ∙ b)) in omega (arith, none, rest)
    go false e f later = let k = later f in omega (arith, k)

all_hit : (all : List Port) (js : List Joint) → Differ (map port_name all) → AreOfPorts all js → hits all js ≡ length js
all_hit all [] differ h = none_hit all
all_hit all (j ∷ js) differ h =
    let o : IsOfPort all j = h.1 in
    hit_once all j js h.0 differ (ap (λ m. list_any (bytes_eq m) (map port_name all)) (sym o.name) ∙ member_named o.port all o.here) ∙ ap suc (all_hit all js differ h.2)

-- what is found of a port's name is of that port
found_target : (all : List Port) (js : List Joint) → Differ (map port_name all) → AreOfPorts all js → (p : Port) (e : Tree) → Member p all → find_joint p.name js ≡ Some e → HasTarget p.direction e
found_target all [] differ h p e here f = cc
found_target all (j ∷ js) differ h p e here f = go (bytes_eq j.port p.name) refl f (found_target all js differ h.2 p e here)
  where
    go : (b : Bool) → bytes_eq j.port p.name ≡ b → (if b then Some j.value else find_joint p.name js) ≡ Some e → (find_joint p.name js ≡ Some e → HasTarget p.direction e) → HasTarget p.direction e
    go true g k later =
        let o : IsOfPort all j = h.1 in
        let same : o.port ≡ p = one_port all differ o.port p o.here here (o.name ∙ same_name j.port p.name g) in
        let value : j.value ≡ e = cc in
        λ d. ap (λ t. is_some (as_target t)) (sym value) ∙ o.target (ap (λ (r : Port). r.direction) same ∙ d)
    go false g k later = later k

-- ---- the assignments

abbrev Adds : ℕ → Design → Design → Type 0
Adds n d e = length e.processes ≡ length d.processes + n

adds_one : (p : Proc) (d : Design) → Adds 1 d (with_process p d)
adds_one p d = length-append d.processes (p ∷ [])

output_adds : (outer : Scope) (o : DataObject) (t : Option TargetTree) (d : Design) → is_some t ≡ true → Adds 1 d (output_target outer o t d)
output_adds outer o None d h = cc
output_adds outer o (Some t) d h = adds_one (record { kind = process_kind.Assign; wakes = any_change o.first ∷ []; run = output_run outer o t }) d

object_adds : (outer : Scope) (e : Tree) (c : Option Direction) (o : DataObject) (d : Design) → HasTarget c e → Adds 1 d (port_joint outer (Some e) c (Some (Object o)) d)
object_adds outer e (Some direction.Output) o d t = output_adds outer o (as_target e) d (t refl)
object_adds outer e (Some direction.Input) o d t = adds_one (record { kind = process_kind.Assign; wakes = wakes_of (reads outer e) d; run = input_run outer o e }) d
object_adds outer e None o d t = adds_one (record { kind = process_kind.Assign; wakes = wakes_of (reads outer e) d; run = input_run outer o e }) d

one_adds : (outer : Scope) (e : Tree) (c : Option Direction) (x : Option Meaning) (d : Design) → (o : DataObject) × (x ≡ Some (Object o)) → HasTarget c e → Adds 1 d (port_joint outer (Some e) c x d)
one_adds outer e c x d k t = subst (λ (y : Option Meaning). Adds 1 d (port_joint outer (Some e) c y d)) (sym k.1) (object_adds outer e c k.0 d t)

port_adds : (outer : Scope) (v : Option Tree) (c : Option Direction) (x : Option Meaning) (d : Design) → (o : DataObject) × (x ≡ Some (Object o)) → ((e : Tree) → v ≡ Some e → HasTarget c e)
    → Adds (one_if (is_some v)) d (port_joint outer v c x d)
port_adds outer None c x d k t = omega arith
port_adds outer (Some e) c x d k t = one_adds outer e c x d k (t e refl)

all_add : (outer : Scope) (js : List Joint) (s : Scope) (ps : List Port) (d : Design) → ((p : Port) → Member p ps → (o : DataObject) × (find p.name s ≡ Some (Object o)))
    → ((p : Port) (e : Tree) → Member p ps → find_joint p.name js ≡ Some e → HasTarget p.direction e) → Adds (hits ps js) d (port_joints outer js s ps d)
all_add outer js s [] d known targets = omega arith
all_add outer js s (p ∷ ps) d known targets =
    let one : Design = port_joint outer (find_joint p.name js) p.direction (find p.name s) d in
    let h : Adds (one_if (is_some (find_joint p.name js))) d one = port_adds outer (find_joint p.name js) p.direction (find p.name s) d (known p (inl refl)) (λ e f. targets p e (inl refl) f) in
    let k : Adds (hits ps js) one (port_joints outer js s ps one) = all_add outer js s ps one (λ q m. known q (inr m)) (λ q e m f. targets q e (inr m) f) in
    omega (arith, h, k)

-- ---- each port is an object

abbrev pub AreFree : Entries → List Declared → Type 0
AreFree es ds = (x : Declared) → Member x ds → is_free x.name es ≡ true

pub free_goes : (w : Place) → Goes w (AreFree w.constants)
free_goes w = record {
  none = λ x m. absurd m;
  more = λ ds x h n y m. added ds x h n.free y (member_both y ds (x ∷ []) m);
  again = λ ds x old h f y m. put ds x old h f y (put_member (whole_of old x) ds y m);
}
  where
    added : (ds : List Declared) (x : Declared) → AreFree w.constants ds → is_free x.name w.constants ≡ true → (y : Declared) → Member y ds ⊎ Member y (x ∷ []) → is_free y.name w.constants ≡ true
    added ds x h free y (inl m) = h y m
    added ds x h free y (inr (inl e)) = ap (λ (z : Declared). is_free z.name w.constants) e ∙ free
    added ds x h free y (inr (inr m)) = absurd m

    put : (ds : List Declared) (x old : Declared) → AreFree w.constants ds → find_declared x.name ds ≡ Some old → (y : Declared) → (y ≡ whole_of old x) ⊎ Member y ds → is_free y.name w.constants ≡ true
    put ds x old h f y (inl e) = ap (λ (z : Declared). is_free z.name w.constants) e ∙ h old (found_member x.name ds old f).0
    put ds x old h f y (inr m) = h y m

pub line_there : (x : Declared) (p : Port) (ps : List Port) (ds : List Declared) → Member p ps → find_declared p.name ds ≡ Some x → Member x (port_lines ps ds)
line_there x p [] ds m e = absurd m
line_there x p (q ∷ ps) ds (inl f) e = subst (λ o. Member x (listed o ++ port_lines ps ds)) (sym (ap (λ (r : Port). find_declared r.name ds) (sym f) ∙ e)) (inl refl)
line_there x p (q ∷ ps) ds (inr m) e = go (find_declared q.name ds) (line_there x p ps ds m e)
  where
    go : (o : Option Declared) → Member x (port_lines ps ds) → Member x (listed o ++ port_lines ps ds)
    go None k = k
    go (Some d) k = inr k

pub member_before : (x : Declared) (xs ys : List Declared) → Member x xs → Member x (xs ++ ys)
member_before x [] ys m = absurd m
member_before x (y ∷ xs) ys (inl e) = inl e
member_before x (y ∷ xs) ys (inr m) = inr (member_before x xs ys m)

pub entry_there : (x : Declared) (first : ℕ) (ds : List Declared) → Member x ds → (o : DataObject) × (means (entries first ds) x.name ≡ Some (Object o))
entry_there x first [] m = absurd m
entry_there x first (d ∷ ds) (inl e) =
    (object_of first d, ap (λ (y : Declared). means (entries first (d ∷ ds)) y.name) e ∙ ap (λ b. if b then Some (Object (object_of first d)) else means (entries (first + count_of d.words) ds) d.name) (is_itself d.name))
entry_there x first (d ∷ ds) (inr m) = go (bytes_eq x.name d.name) (entry_there x (first + count_of d.words) ds m)
  where
    go : (b : Bool) → (o : DataObject) × (means (entries (first + count_of d.words) ds) x.name ≡ Some (Object o))
        → (o : DataObject) × ((if b then Some (Object (object_of first d)) else means (entries (first + count_of d.words) ds) x.name) ≡ Some (Object o))
    go true k = (object_of first d, refl)
    go false k = k

-- a name that is no constant
pub free_passed : (n : List ℕ) (es fs : Entries) → is_free n es ≡ true → means (es ++ fs) n ≡ means fs n
free_passed n [] fs h = refl
free_passed n (e ∷ es) fs h = go (bytes_eq n e.0) h (free_passed n es fs)
  where
    go : (b : Bool) → is_none (if b then Some e.1 else means es n) ≡ true → (is_none (means es n) ≡ true → means (es ++ fs) n ≡ means fs n) → (if b then Some e.1 else means (es ++ fs) n) ≡ means fs n
    go true k later = cc
    go false k later = later k

port_object : (m : ModuleTree) (d : Design) (constants : Entries) (ds : List Declared) → declarations (place_of m constants d) m ≡ Ok ds → (p : Port) → Member p (ports_of m)
    → (o : DataObject) × (find p.name (means (constants ++ entries (length d.signals) (in_order (ports_of m) ds))) ≡ Some (Object o))
port_object m d constants ds e p here = (found.0, free_passed p.name constants (entries (length d.signals) (in_order (ports_of m) ds)) free ∙ ap (means (entries (length d.signals) (in_order (ports_of m) ds))) (sym name) ∙ found.1)
  where
    has : HasDirection p ds
    has = of_ok (HasDirection p) (declarations (place_of m constants d) m) ds (directed (place_of m constants d) m p refl here) e

    name : has.declared.one.name ≡ p.name
    name = (found_member p.name ds has.declared.one has.declared.found).1

    free : is_free p.name constants ≡ true
    free =
        ap (λ n. is_free n constants) (sym name)
        ∙ of_ok (AreFree constants) (declarations (place_of m constants d) m) ds (declared_hold (place_of m constants d) (AreFree constants) (free_goes (place_of m constants d)) m) e has.declared.one
        (found_member p.name ds has.declared.one has.declared.found).0

    found : (o : DataObject) × (means (entries (length d.signals) (in_order (ports_of m) ds)) has.declared.one.name ≡ Some (Object o))
    found =
        entry_there has.declared.one (length d.signals) (in_order (ports_of m) ds)
        (member_before has.declared.one (port_lines (ports_of m) ds) (other_lines (map port_name (ports_of m)) ds) (line_there has.declared.one p (ports_of m) ds here has.declared.found))

-- ---- the whole

pub joints_are_counted : Joints_are_counted
joints_are_counted outer c m driven x given path d constants ds joins first second =
    let differ = ports_apart (place_of m constants d) m ds second in
    let ones : AreOfPorts (ports_of m) x.list = of_sound (λ (y : Joints). AreOfPorts (ports_of m) y.list) (joints_of outer c (ports_of m) driven) x (all_given outer (ports_of m) c driven differ) joins in
    let many : length x.list ≡ joint_count c (ports_of m) = of_sound (λ (y : Joints). length y.list ≡ joint_count c (ports_of m)) (joints_of outer c (ports_of m) driven) x (as_many outer c (ports_of m) driven) joins in
    let hit : hits (ports_of m) x.list ≡ length x.list = all_hit (ports_of m) x.list differ ones in
    let added = all_add outer x.list (means (constants ++ entries (length d.signals) (in_order (ports_of m) ds))) (ports_of m) (opened path (in_order (ports_of m) ds) d)
    (λ p here. port_object m d constants ds second p here) (λ p e here f. found_target (ports_of m) x.list differ ones p e here f) in
    omega (arith, many, hit, added)
