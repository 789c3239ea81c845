-- How many assignments the connections of an instance make.
use Rattle.std.proofs.Common.{◌≡◌, ◌≤◌, ◌+◌, ◌∙◌, ℕ, Bool, true, false, List, [], ◌∷◌, length, map, Option, Some, None, refl, sym, ap, arith, subst, length-append, if◌then◌else◌}
use Rattle.std.specs.Prelude.{bytes_eq}
use Rattle.gpi.specs.Design.{Proc}
use Rattle.gpi.specs.declared.design.Kind.TheVariants as process_kind
use Rattle.std.specs.List.{list_any}
use Rattle.std.specs.Option.{is_some}
use Rattle.v_syntax.specs.declared.statement.Identifier.{Identifier}
use Rattle.v_syntax.specs.declared.item.Direction.{Direction}
use Rattle.v_syntax.specs.declared.item.Direction.TheVariants as direction
use Rattle.v_syntax.specs.ExpressionTrees.{Tree, TargetTree, first_at}
use Rattle.v_syntax.specs.SourceTrees.{ConnectionTree, Connection, ConnectionsTree, Ordered, Named as NamedConnections}
use Rattle.v_flat.specs.declared.scope.found.Found.{Found}
use Rattle.v_flat.specs.declared.scope.meaning.DataObject.{DataObject}
use Rattle.v_flat.specs.declared.scope.meaning.Meaning.{Meaning}
use Rattle.v_flat.specs.declared.scope.meaning.Meaning.TheVariants.{Constant, Object, Later}
use Rattle.v_flat.specs.declared.scope.rule.ElabRule.TheVariants as rule
use Rattle.v_flat.specs.Scope.Rules.{at}
use Rattle.v_flat.specs.Scope.Found.{Holds, each}
use Rattle.v_flat.specs.Scope.Scope.{Scope, find}
use Rattle.v_flat.specs.Checks.{checked}
use Rattle.v_flat.specs.Targets.{Drive, as_target, driving}
use Rattle.v_flat.specs.Headers.{Port, find_port, port_name}
use Rattle.v_flat.specs.Design.{Design, Joint, Joints, find_joint, joint, joint_count, joint_made, joined, joints_of, named_count, named_joint, named_joints, named_made, ordered_count, ordered_joints, output_joined, output_target, port_joint, port_joints, port_once, value_checked, any_change, input_joint, input_run, output_run, wakes_of, with_process}
use Rattle.v_flat.specs.Statements.{reads}
use Rattle.v_flat.proofs.Holds.{holds_any, holds_each, holds_lost, holds_then}
use Rattle.v_flat.proofs.ShapeLemmas.Names.{Among, Differ, among_first, among_later, same_name}
use Rattle.v_flat.proofs.ShapeLemmas.Nodes.{one_if}

-- ---- as many as are found

abbrev IsOne : ℕ → Type 0
IsOne n = n ≡ 1

-- where no rule is broken a connection makes one assignment
output_made : (q : ℕ) (s : Scope) (e : Tree) (ds : List Drive) (t : Option TargetTree) → Holds (λ (x : List Drive). IsOne (if is_some t then 1 else 0)) (output_joined q s e ds t)
output_made q s e ds None = holds_lost (λ (x : List Drive). IsOne 0) (at rule.BadTarget q) (checked s e)
output_made q s e ds (Some t) =
    holds_each (λ (w : ℕ). Unit {0}) (λ (x : List Drive). IsOne 1) (λ w. (driving (Some q) s t ds).driven) (driving (Some q) s t ds).width (holds_any (driving (Some q) s t ds).width) (λ w u. refl)

one_made : (q : ℕ) (s : Scope) (d : Option Direction) (e : Tree) (ds : List Drive) → Holds (λ (x : List Drive). IsOne (joint_made d e)) (joined q s d e ds)
one_made q s (Some direction.Output) e ds = output_made q s e ds (as_target e)
one_made q s (Some direction.Input) e ds = holds_each (λ (w : ℕ). Unit {0}) (λ (x : List Drive). IsOne 1) (λ w. ds) (checked s e) (holds_any (checked s e)) (λ w u. refl)
one_made q s None e ds = holds_each (λ (w : ℕ). Unit {0}) (λ (x : List Drive). IsOne 1) (λ w. ds) (checked s e) (holds_any (checked s e)) (λ w u. refl)

abbrev Has : ℕ → Joints → Type 0
Has n x = length x.list ≡ n

one_more : (n k : ℕ) (x : Joints) (p : List ℕ) (e : Tree) → k ≡ 1 → Has n x → Has (k + n) (joint p e x)
one_more n k x p e h l = omega (arith, h, l)

ordered_made : (s : Scope) (es : List Tree) (ps : List Port) (ds : List Drive) → Holds (Has (ordered_count es ps)) (ordered_joints s es ps ds)
ordered_made s [] ps ds = refl
ordered_made s (e ∷ es) [] ds = holds_lost (Has 0) (at rule.BadPort (first_at e)) (checked s e)
ordered_made s (e ∷ es) (p ∷ ps) ds =
    holds_then (λ (x : List Drive). IsOne (joint_made p.direction e)) (Has (joint_made p.direction e + ordered_count es ps)) (joined (first_at e) s p.direction e ds)
    (λ cs. each (joint p.name e) (ordered_joints s es ps cs)) (one_made (first_at e) s p.direction e ds)
    (λ cs k. holds_each (Has (ordered_count es ps)) (Has (joint_made p.direction e + ordered_count es ps)) (joint p.name e) (ordered_joints s es ps cs) (ordered_made s es ps cs)
    (λ x h. one_more (ordered_count es ps) (joint_made p.direction e) x p.name e k h))

named_one : (q : ℕ) (i : Identifier) (s : Scope) (p : Option Port) (v : Option Tree) (ds : List Drive) (rest : List Drive → Found Joints) (n : ℕ)
    → ((cs : List Drive) → Holds (Has n) (rest cs)) → Holds (Has (named_made p v + n)) (named_joint q i s p v ds rest)
named_one q i s None v ds rest n h = holds_lost (Has (named_made None v + n)) (at rule.BadPort i.at) (value_checked s v)
named_one q i s (Some p) None ds rest n h = let e : n ≡ 0 + n = omega arith in subst (λ k. Holds (Has k) (rest ds)) e (h ds)
named_one q i s (Some p) (Some e) ds rest n h =
    holds_then (λ (x : List Drive). IsOne (joint_made p.direction e)) (Has (joint_made p.direction e + n)) (joined q s p.direction e ds) (λ cs. each (joint p.name e) (rest cs)) (one_made q s p.direction e ds)
    (λ cs k. holds_each (Has n) (Has (joint_made p.direction e + n)) (joint p.name e) (rest cs) (h cs) (λ x l. one_more n (joint_made p.direction e) x p.name e k l))

all_named : (s : Scope) (ps : List Port) (seen : List (List ℕ)) (cs : List ConnectionTree) (ds : List Drive) → Holds (Has (named_count ps seen cs)) (named_joints s ps seen cs ds)
all_named s ps seen [] ds = refl
all_named s ps seen (Connection q i v ∷ cs) ds =
    named_one q i s (port_once i seen (find_port i.name ps)) v ds (named_joints s ps (i.name ∷ seen) cs) (named_count ps (i.name ∷ seen) cs) (λ es. all_named s ps (i.name ∷ seen) cs es)

pub as_many : (s : Scope) (c : Option ConnectionsTree) (ps : List Port) (ds : List Drive) → Holds (λ (x : Joints). length x.list ≡ joint_count c ps) (joints_of s c ps ds)
as_many s None ps ds = refl
as_many s (Some (Ordered es)) ps ds = ordered_made s es ps ds
as_many s (Some (NamedConnections cs)) ps ds = all_named s ps [] cs ds

-- ---- at most one for each

-- how many ports are joined
abbrev hits : List Port → List Joint → ℕ
hits [] js = 0
hits (p ∷ ps) js = one_if (is_some (find_joint p.name js)) + hits ps js

-- how many ports have a name
abbrev same : List ℕ → List Port → ℕ
same n [] = 0
same n (p ∷ ps) = one_if (bytes_eq n p.name) + same n ps

none_same : (n : List ℕ) (ps : List Port) → (Among n (map port_name ps) → ⊥) → same n ps ≡ 0
none_same n [] h = refl
none_same n (p ∷ ps) h = go (bytes_eq n p.name) refl (none_same n ps (λ a. h (among_later n p.name (map port_name ps) a)))
  where
    go : (b : Bool) → bytes_eq n p.name ≡ b → same n ps ≡ 0 → one_if b + same n ps ≡ 0
    go true e k = absurd (h (ap (λ m. list_any (bytes_eq m) (p.name ∷ map port_name ps)) (same_name n p.name e) ∙ among_first p.name (map port_name ps)))
    go false e k = omega (arith, k)

same_once : (n : List ℕ) (ps : List Port) → Differ (map port_name ps) → same n ps ≤ 1
same_once n [] h = omega arith
same_once n (p ∷ ps) h = go (bytes_eq n p.name) refl (same_once n ps h.1)
  where
    go : (b : Bool) → bytes_eq n p.name ≡ b → same n ps ≤ 1 → one_if b + same n ps ≤ 1
    go true e k =
        let f : same n ps ≡ 0 = none_same n ps (λ a. h.0 (ap (λ m. list_any (bytes_eq m) (map port_name ps)) (sym (same_name n p.name e)) ∙ a)) in omega (arith, f)
    go false e k = omega (arith, k)

-- a joint more makes at most one more
hits_more : (ps : List Port) (j : Joint) (js : List Joint) → hits ps (j ∷ js) ≤ same j.port ps + hits ps js
hits_more [] j js = omega arith
hits_more (p ∷ ps) j js = go (bytes_eq j.port p.name) (is_some (find_joint p.name js)) refl (hits_more ps j js)
  where
    go : (x y : Bool) → is_some (find_joint p.name js) ≡ y → hits ps (j ∷ js) ≤ same j.port ps + hits ps js
        → one_if (is_some (if x then Some j.value else find_joint p.name js)) + hits ps (j ∷ js) ≤ (one_if x + same j.port ps) + (one_if y + hits ps js)
    go true y e h = omega (arith, h)
    go false y e h = let f = ap one_if e in omega (arith, h, f)

none_hit : (ps : List Port) → hits ps [] ≡ 0
none_hit [] = refl
none_hit (p ∷ ps) = let h = none_hit ps in omega (arith, h)

few_hits : (ps : List Port) (js : List Joint) → Differ (map port_name ps) → hits ps js ≤ length js
few_hits ps [] apart = let h = none_hit ps in omega (arith, h)
few_hits ps (j ∷ js) apart =
    let h = few_hits ps js apart in let k = hits_more ps j js in let l = same_once j.port ps apart in omega (arith, h, k, l)

abbrev AtMost : ℕ → Design → Design → Type 0
AtMost n d e = length e.processes ≤ length d.processes + n

adds_one : (p : Proc) (d : Design) → AtMost 1 d (with_process p d)
adds_one p d = let h = length-append d.processes (p ∷ []) in omega (arith, h)

adds_none : (d : Design) (n : ℕ) → AtMost n d d
adds_none d n = omega arith

output_adds : (outer : Scope) (o : DataObject) (t : Option TargetTree) (d : Design) → AtMost 1 d (output_target outer o t d)
output_adds outer o None d = adds_none d 1
output_adds outer o (Some t) d = adds_one (record { kind = process_kind.Assign; wakes = any_change o.first ∷ []; run = output_run outer o t }) d

input_adds : (outer : Scope) (o : DataObject) (e : Tree) (d : Design) → AtMost 1 d (input_joint outer o e d)
input_adds outer o e d = adds_one (record { kind = process_kind.Assign; wakes = wakes_of (reads outer e) d; run = input_run outer o e }) d

joint_adds : (outer : Scope) (v : Option Tree) (c : Option Direction) (x : Option Meaning) (d : Design) → AtMost (one_if (is_some v)) d (port_joint outer v c x d)
joint_adds outer None c x d = adds_none d 0
joint_adds outer (Some e) (Some direction.Output) (Some (Object o)) d = output_adds outer o (as_target e) d
joint_adds outer (Some e) (Some direction.Input) (Some (Object o)) d = input_adds outer o e d
joint_adds outer (Some e) None (Some (Object o)) d = input_adds outer o e d
joint_adds outer (Some e) (Some direction.Output) (Some (Constant ds b)) d = adds_none d 1
joint_adds outer (Some e) (Some direction.Input) (Some (Constant ds b)) d = adds_none d 1
joint_adds outer (Some e) None (Some (Constant ds b)) d = adds_none d 1
joint_adds outer (Some e) (Some direction.Output) (Some Later) d = adds_none d 1
joint_adds outer (Some e) (Some direction.Input) (Some Later) d = adds_none d 1
joint_adds outer (Some e) None (Some Later) d = adds_none d 1
joint_adds outer (Some e) (Some direction.Output) None d = adds_none d 1
joint_adds outer (Some e) (Some direction.Input) None d = adds_none d 1
joint_adds outer (Some e) None None d = adds_none d 1

all_add : (outer : Scope) (js : List Joint) (s : Scope) (ps : List Port) (d : Design) → AtMost (hits ps js) d (port_joints outer js s ps d)
all_add outer js s [] d = adds_none d 0
all_add outer js s (p ∷ ps) d =
    let one : Design = port_joint outer (find_joint p.name js) p.direction (find p.name s) d in
    let h : AtMost (one_if (is_some (find_joint p.name js))) d one = joint_adds outer (find_joint p.name js) p.direction (find p.name s) d in
    let k : AtMost (hits ps js) one (port_joints outer js s ps one) = all_add outer js s ps one in
    omega (arith, h, k)

pub few_added : (ps : List Port) (outer : Scope) (js : List Joint) (s : Scope) (d : Design) → Differ (map port_name ps)
    → length (port_joints outer js s ps d).processes ≤ length d.processes + length js
few_added ps outer js s d apart =
    let h = all_add outer js s ps d in let k = few_hits ps js apart in omega (arith, h, k)
