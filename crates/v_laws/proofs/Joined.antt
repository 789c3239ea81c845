-- What the outputs of an instance drive in the instance above it.
use Rattle.std.proofs.Common.{◌≡◌, ◌≤◌, ◌⊎◌, inl, inr, ◌∙◌, ℕ, Bool, true, false, List, [], ◌∷◌, length, map, Option, Some, None, refl, sym, ap, subst, if◌then◌else◌, nat_le, ◌+◌}
use Rattle.std.specs.Prelude.{bytes_eq}
use Rattle.std.specs.List.{list_any}
use Rattle.four_value.specs.declared.Digit.{Digit}
use Rattle.v_syntax.specs.declared.statement.Identifier.{Identifier}
use Rattle.v_syntax.specs.declared.item.Direction.{Direction}
use Rattle.v_syntax.specs.declared.item.Direction.TheVariants as direction
use Rattle.v_syntax.specs.ExpressionTrees.{Tree, TargetTree, first_at}
use Rattle.v_syntax.specs.SourceTrees.{ConnectionTree, Connection, ConnectionsTree, Ordered, Named as NamedConnections, ModuleTree}
use Rattle.v_flat.specs.declared.scope.rule.ElabRule.TheVariants as rule
use Rattle.v_flat.specs.declared.scope.found.Found.{Found}
use Rattle.v_flat.specs.declared.scope.found.Found.TheVariants.{Sound}
use Rattle.v_flat.specs.Scope.Rules.{at}
use Rattle.v_flat.specs.Scope.Found.{Holds, each, both, wants}
use Rattle.v_flat.specs.Scope.Scope.{Scope}
use Rattle.v_flat.specs.Expressions.{Values}
use Rattle.v_flat.specs.Checks.{checked}
use Rattle.v_flat.specs.Targets.{Drive, as_target, driving, target_width, updates}
use Rattle.v_flat.specs.Headers.{Port, find_port, port_name, open_parameters, parameters_of, ports_of}
use Rattle.v_flat.specs.Scope.Limits.{most_parts}
use Rattle.v_flat.specs.Declarations.{Given}
use Rattle.v_flat.proofs.ShapeLemmas.Ends.{sound_both, wants_sound}
use Rattle.v_flat.specs.Design.{Joint, Joints, find_joint, joint, joined, joints_of, named_joint, named_joints, ordered_joints, output_joined, port_once, value_checked, State, given_of, instance_checked, is_fresh, joint_count}
use Rattle.v_flat.proofs.Holds.{holds_any, holds_each, holds_lost, holds_then}
use Rattle.v_flat.proofs.ShapeLemmas.Names.{Among, Differ, one_of_more, same_name}
use Rattle.v_laws.specs.Digits.{IsDriven, IsWritten}
use Rattle.v_laws.specs.Drivers.{NetsHaveNoWords}
use Rattle.v_laws.proofs.Members.{Member}
use Rattle.v_laws.proofs.Driven.{GoesOn, driving_goes, goes_on, stays}
use Rattle.v_laws.proofs.Along.{PortsDiffer}
use Rattle.v_laws.proofs.Places.{member_named}
use Rattle.v_laws.proofs.Recorded.{TargetRecorded, target_recorded}

-- ---- ports by their names

pub named_member : (n : List ℕ) (ps : List Port) → Among n (map port_name ps) → (q : Port) × Member q ps × (q.name ≡ n)
named_member n [] a = cc
named_member n (p ∷ ps) a = go (one_of_more n p.name (map port_name ps) a) (named_member n ps)
  where
    go : (n ≡ p.name) ⊎ Among n (map port_name ps) → (Among n (map port_name ps) → (q : Port) × Member q ps × (q.name ≡ n)) → (q : Port) × Member q (p ∷ ps) × (q.name ≡ n)
    go (inl e) k = (p, inl refl, sym e)
    go (inr b) k = let r = k b in (r.0, inr r.1, r.2)

-- a port is known by its name
pub one_port : (ps : List Port) → Differ (map port_name ps) → (p q : Port) → Member p ps → Member q ps → p.name ≡ q.name → p ≡ q
one_port [] d p q h k e = absurd h
one_port (r ∷ ps) d p q (inl h) (inl k) e = h ∙ sym k
one_port (r ∷ ps) d p q (inl h) (inr k) e =
    absurd (d.0 (ap (λ m. list_any (bytes_eq m) (map port_name ps)) (sym (ap (λ (x : Port). x.name) h) ∙ e) ∙ member_named q ps k))
one_port (r ∷ ps) d p q (inr h) (inl k) e =
    absurd (d.0 (ap (λ m. list_any (bytes_eq m) (map port_name ps)) (sym (ap (λ (x : Port). x.name) k) ∙ sym e) ∙ member_named p ps h))
one_port (r ∷ ps) d p q (inr h) (inr k) e = one_port ps d.1 p q h k e

pub found_port : (n : List ℕ) (ps : List Port) (p : Port) → find_port n ps ≡ Some p → Member p ps × (p.name ≡ n)
found_port n [] p h = cc
found_port n (q ∷ ps) p h = go (bytes_eq q.name n) refl h (found_port n ps p)
  where
    go : (b : Bool) → bytes_eq q.name n ≡ b → (if b then Some q else find_port n ps) ≡ Some p → (find_port n ps ≡ Some p → Member p ps × (p.name ≡ n)) → Member p (q ∷ ps) × (p.name ≡ n)
    go true e f k = let g : p ≡ q = cc in (inl g, ap (λ (x : Port). x.name) g ∙ same_name q.name n e)
    go false e f k = let r = k f in (inr r.0, r.1)

-- ---- outputs

-- the output p is joined to a target that updates digit k of signal n on some map
pub record IsJoined (outer : Scope) (js : List Joint) (p : Port) (n k : ℕ) : Type 0 where
  pub value : Tree
  pub found : find_joint p.name js ≡ Some value
  pub output : p.direction ≡ Some direction.Output
  pub target : TargetTree
  pub is : as_target value ≡ Some target
  pub map : Values
  pub bits : List Digit
  pub few : length bits ≤ target_width outer target
  pub written : IsWritten (updates outer target map bits) n k

-- what the outputs of these ports drive was not driven in ds, and is in the drives of x; no two of them drive one digit
pub record AreJoined (all : List Port) (s : Scope) (ds : List Drive) (x : Joints) : Type 0 where
  pub goes : GoesOn s ds x.driven
  pub new : (p : Port) (n k : ℕ) → Member p all → IsJoined s x.list p n k → IsDriven x.driven n k × (IsDriven ds n k → ⊥)
  pub apart : (p q : Port) (n k : ℕ) → Member p all → Member q all → (p.name ≡ q.name → ⊥) → IsJoined s x.list p n k → IsJoined s x.list q n k → ⊥

-- one connection, of a port with this direction
record IsOneJoined (s : Scope) (d : Option Direction) (e : Tree) (ds es : List Drive) : Type 0 where
  goes : GoesOn s ds es
  records : d ≡ Some direction.Output → (t : TargetTree) → as_target e ≡ Some t → TargetRecorded s t ds es

module _ (s : Scope) (none : NetsHaveNoWords s) where
  output_holds : (q : ℕ) (e : Tree) (ds : List Drive) (o : Option TargetTree) → as_target e ≡ o → Holds (IsOneJoined s (Some direction.Output) e ds) (output_joined q s e ds o)
  output_holds q e ds None f = holds_lost (IsOneJoined s (Some direction.Output) e ds) (at rule.BadTarget q) (checked s e)
  output_holds q e ds (Some t) f =
      holds_each (λ (w : ℕ). TargetRecorded s t ds (driving (Some q) s t ds).driven) (IsOneJoined s (Some direction.Output) e ds) (λ w. (driving (Some q) s t ds).driven) (driving (Some q) s t ds).width
      (target_recorded (Some q) s none t ds)
      (λ w h. record {
        goes = driving_goes (Some q) s t ds;
        records = λ k u g. (let i : t ≡ u = (let j : Some t ≡ Some u = sym f ∙ g in cc) in subst (λ (v : TargetTree). TargetRecorded s v ds (driving (Some q) s t ds).driven) i h);
      })

  joined_holds : (q : ℕ) (d : Option Direction) (e : Tree) (ds : List Drive) → Holds (IsOneJoined s d e ds) (joined q s d e ds)
  joined_holds q (Some direction.Output) e ds = output_holds q e ds (as_target e) refl
  joined_holds q (Some direction.Input) e ds =
      holds_each (λ (w : ℕ). Unit {0}) (IsOneJoined s (Some direction.Input) e ds) (λ w. ds) (checked s e) (holds_any (checked s e)) (λ w u. record { goes = stays s ds; records = λ k. cc })
  joined_holds q None e ds = holds_each (λ (w : ℕ). Unit {0}) (IsOneJoined s None e ds) (λ w. ds) (checked s e) (holds_any (checked s e)) (λ w u. record { goes = stays s ds; records = λ k. cc })

  module _ (all : List Port) (differ : Differ (map port_name all)) where
    none_joined : (ds : List Drive) → AreJoined all s ds (record { list = []; driven = ds })
    none_joined ds = record { goes = stays s ds; new = λ p n k m j. absurd (let e = j.found in cc); apart = λ p q n k m l ne j i. absurd (let e = j.found in cc) }

    -- of the first connection, or of the others
    either_joined : (r : Port) (e : Tree) (ds es : List Drive) (x : Joints) → Member r all → IsOneJoined s r.direction e ds es → (p : Port) (n k : ℕ) → Member p all → IsJoined s (joint r.name e x).list p n k
        → ((p.name ≡ r.name) × IsDriven es n k × (IsDriven ds n k → ⊥)) ⊎ IsJoined s x.list p n k
    either_joined r e ds es x here one p n k m j = go (bytes_eq r.name p.name) refl j.found
      where
        go : (b : Bool) → bytes_eq r.name p.name ≡ b → (if b then Some e else find_joint p.name x.list) ≡ Some j.value
            → ((p.name ≡ r.name) × IsDriven es n k × (IsDriven ds n k → ⊥)) ⊎ IsJoined s x.list p n k
        go true f g =
            let same : r.name ≡ p.name = same_name r.name p.name f in
            let port : r ≡ p = one_port all differ r p here m same in
            let value : e ≡ j.value = cc in
            let output : r.direction ≡ Some direction.Output = ap (λ (x : Port). x.direction) port ∙ j.output in
            let t : TargetRecorded s j.target ds es = one.records output j.target (ap as_target value ∙ j.is) in
            let d = t j.map j.bits j.few n k j.written in inl (sym same, d.0, d.1)
        go false f g = inr (record { value = j.value; found = g; output = j.output; target = j.target; is = j.is; map = j.map; bits = j.bits; few = j.few; written = j.written })

    more_joined : (r : Port) (e : Tree) (ds es : List Drive) (x : Joints) → Member r all → IsOneJoined s r.direction e ds es → AreJoined all s es x → AreJoined all s ds (joint r.name e x)
    more_joined r e ds es x here one h = record {
      goes = goes_on s ds es x.driven one.goes h.goes;
      new = λ p n k m j. new p n k m (either_joined r e ds es x here one p n k m j);
      apart = λ p q n k m l ne j i. apart p q n k m l ne (either_joined r e ds es x here one p n k m j) (either_joined r e ds es x here one q n k l i);
    }
      where
        new : (p : Port) (n k : ℕ) → Member p all → ((p.name ≡ r.name) × IsDriven es n k × (IsDriven ds n k → ⊥)) ⊎ IsJoined s x.list p n k → IsDriven x.driven n k × (IsDriven ds n k → ⊥)
        new p n k m (inl a) = (h.goes.keeps n k a.1, a.2)
        new p n k m (inr j) = let d = h.new p n k m j in (d.0, λ b. d.1 (one.goes.keeps n k b))

        apart : (p q : Port) (n k : ℕ) → Member p all → Member q all → (p.name ≡ q.name → ⊥) → ((p.name ≡ r.name) × IsDriven es n k × (IsDriven ds n k → ⊥)) ⊎ IsJoined s x.list p n k
            → ((q.name ≡ r.name) × IsDriven es n k × (IsDriven ds n k → ⊥)) ⊎ IsJoined s x.list q n k → ⊥
        apart p q n k m l ne (inl a) (inl b) = ne (a.0 ∙ sym b.0)
        apart p q n k m l ne (inl a) (inr i) = (h.new q n k l i).1 a.1
        apart p q n k m l ne (inr j) (inl b) = (h.new p n k m j).1 b.1
        apart p q n k m l ne (inr j) (inr i) = h.apart p q n k m l ne j i

    ordered_hold : (es : List Tree) (ps : List Port) (ds : List Drive) → ((p : Port) → Member p ps → Member p all) → Holds (AreJoined all s ds) (ordered_joints s es ps ds)
    ordered_hold [] ps ds sub = none_joined ds
    ordered_hold (e ∷ es) [] ds sub = holds_lost (AreJoined all s ds) (at rule.BadPort (first_at e)) (checked s e)
    ordered_hold (e ∷ es) (p ∷ ps) ds sub =
        holds_then (IsOneJoined s p.direction e ds) (AreJoined all s ds) (joined (first_at e) s p.direction e ds) (λ cs. each (joint p.name e) (ordered_joints s es ps cs)) (joined_holds (first_at e) p.direction e ds)
        (λ cs one. holds_each (AreJoined all s cs) (AreJoined all s ds) (joint p.name e) (ordered_joints s es ps cs) (ordered_hold es ps cs (λ q m. sub q (inr m)))
        (λ x h. more_joined p e ds cs x (sub p (inl refl)) one h))

    named_holds : (q : ℕ) (i : Identifier) (o : Option Port) (v : Option Tree) (ds : List Drive) (rest : List Drive → Found Joints) → ((p : Port) → o ≡ Some p → Member p all)
        → ((cs : List Drive) → Holds (AreJoined all s cs) (rest cs)) → Holds (AreJoined all s ds) (named_joint q i s o v ds rest)
    named_holds q i None v ds rest sub h = holds_lost (AreJoined all s ds) (at rule.BadPort i.at) (value_checked s v)
    named_holds q i (Some p) None ds rest sub h = h ds
    named_holds q i (Some p) (Some e) ds rest sub h =
        holds_then (IsOneJoined s p.direction e ds) (AreJoined all s ds) (joined q s p.direction e ds) (λ cs. each (joint p.name e) (rest cs)) (joined_holds q p.direction e ds)
        (λ cs one. holds_each (AreJoined all s cs) (AreJoined all s ds) (joint p.name e) (rest cs) (h cs) (λ x k. more_joined p e ds cs x (sub p refl) one k))

    once_member : (i : Identifier) (seen : List (List ℕ)) (o : Option Port) (p : Port) → port_once i seen o ≡ Some p → o ≡ Some p
    once_member i seen None p e = cc
    once_member i seen (Some q) p e = go (list_any (bytes_eq i.name) seen) e
      where
        go : (b : Bool) → (if b then None else Some q) ≡ Some p → Some q ≡ Some p
        go true f = cc
        go false f = f

    all_named : (seen : List (List ℕ)) (cs : List ConnectionTree) (ds : List Drive) → Holds (AreJoined all s ds) (named_joints s all seen cs ds)
    all_named seen [] ds = none_joined ds
    all_named seen (Connection q i v ∷ cs) ds =
        named_holds q i (port_once i seen (find_port i.name all)) v ds (named_joints s all (i.name ∷ seen) cs)
        (λ p e. (found_port i.name all p (once_member i seen (find_port i.name all) p e)).0) (λ es. all_named (i.name ∷ seen) cs es)

    pub joints_hold : (c : Option ConnectionsTree) (ds : List Drive) → Holds (AreJoined all s ds) (joints_of s c all ds)
    joints_hold None ds = none_joined ds
    joints_hold (Some (Ordered es)) ds = ordered_hold es all ds (λ p m. m)
    joints_hold (Some (NamedConnections cs)) ds = all_named [] cs ds

-- where no rule is broken in an instance
pub checked_joined : (s : State) → NetsHaveNoWords s.scope → (p : ℕ) (v : Option ConnectionsTree) (i : Identifier) (c : Option ConnectionsTree) (n : ModuleTree) (x : List Given × Joints)
    → instance_checked p v i c s n ≡ Sound x → PortsDiffer n → AreJoined (ports_of n) s.scope s.driven x.1
checked_joined s none p v i c n x e apart = subst (Holds (AreJoined (ports_of n) s.scope s.driven)) found (joints_hold s.scope none (ports_of n) apart c s.driven)
  where
    asked : Found (List Given × Joints)
    asked = both (given_of s.scope v (open_parameters (parameters_of n))) (joints_of s.scope c (ports_of n) s.driven)

    found : joints_of s.scope c (ports_of n) s.driven ≡ Sound x.1
    found =
        sound_both (given_of s.scope v (open_parameters (parameters_of n))) (joints_of s.scope c (ports_of n) s.driven) x
        (wants_sound (is_fresh i.name s) rule.DuplicateName i.at asked x
        (wants_sound (nat_le (length s.design.processes + joint_count c (ports_of n)) most_parts) rule.TooMany p (wants (is_fresh i.name s) rule.DuplicateName i.at asked) x e).1).1
