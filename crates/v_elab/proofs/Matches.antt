-- What a port is joined to in the code, and in the definition.
use Rattle.std.proofs.Common.{◌≡◌, ℕ, zero, suc, Bool, true, false, List, [], ◌∷◌, map, Option, None, Some, bytes_eq, slice_get, if◌then◌else◌, refl, sym, ap, subst, ◌∙◌}
use Rattle.std.proofs.lemmas.Slice.Eq.{bytes_eq-Decides}
use Rattle.std.proofs.lemmas.Map.Keys.{IsDistinct-head, IsDistinct-tail}
use Rattle.std.specs.List.{AllByRecursion}
use Rattle.v_syntax.specs.declared.item.Direction.{Direction}
use Rattle.v_syntax.specs.ExpressionTrees.{Tree}
use Rattle.v_flat.specs.Scope.Scope.{Scope}
use Rattle.v_flat.specs.Headers.{Port, port_name}
use Rattle.v_flat.specs.Design.{Joint, find_joint}
use Rattle.v_elab.specs.declared.connect.joint.Joined.{Joined}
use Rattle.v_elab.specs.declared.connect.joint.Joint as code
use Rattle.v_elab.specs.Connect.Joints.{AreJoints, IsJoint, IsJoined}
use Rattle.v_elab.specs.Ports.{Differ}
use Rattle.v_elab.specs.PortsSteps.{first_joined}
use Rattle.v_elab.proofs.Table.{same_name, same_either_way}

-- both are there, and the code's stands for the definition's
abbrev pub Matches : Scope → Option Direction → Option Tree → Option Joined → Type 0
Matches s d None None = Unit {0}
Matches s d None (Some j) = ⊥
Matches s d (Some e) None = ⊥
Matches s d (Some e) (Some j) = IsJoined s d e j

-- ---- a name has one port

other_name : (n : List ℕ) (ps : List Port) (k : ℕ) (p : Port) → AllByRecursion (λ y. bytes_eq n y ≡ false) (map port_name ps) → slice_get ps k ≡ Some p
    → bytes_eq n p.name ≡ false
other_name n [] k p h e = absurd (cc)
other_name n (q ∷ ps) zero p h e = let f : q ≡ p = cc in subst (λ (r : Port). bytes_eq n r.name ≡ false) f h.0
other_name n (q ∷ ps) (suc k) p h e = other_name n ps k p h.1 e

not_both : {A : Type 0} (a b : List ℕ) → bytes_eq a b ≡ false → a ≡ b → A
not_both a b h e = let f : bytes_eq a b ≡ true = (bytes_eq-Decides a b).1 e in absurd (cc)

pub one_port : (ps : List Port) (i k : ℕ) (p q : Port) → Differ (map port_name ps) → slice_get ps i ≡ Some p → slice_get ps k ≡ Some q → p.name ≡ q.name → p ≡ q
one_port [] i k p q h e f n = absurd (cc)
one_port (r ∷ ps) zero zero p q h e f n = cc
one_port (r ∷ ps) zero (suc k) p q h e f n = let g : r ≡ p = cc in not_both r.name q.name (other_name r.name ps k q (IsDistinct-head bytes_eq r.name (map port_name ps) h) f) (ap port_name g ∙ n)
one_port (r ∷ ps) (suc i) zero p q h e f n = let g : r ≡ q = cc in not_both r.name p.name (other_name r.name ps i p (IsDistinct-head bytes_eq r.name (map port_name ps) h) e) (ap port_name g ∙ sym n)
one_port (r ∷ ps) (suc i) (suc k) p q h e f n = one_port ps i k p q (IsDistinct-tail bytes_eq r.name (map port_name ps) h) e f n

-- ---- the first joint of a name

match_by : (s : Scope) (ps : List Port) (j : Joint) (c : code.Joint) (i : ℕ) (p : Port) (x : Option Tree) (y : Option Joined) (b : Bool) → bytes_eq j.port p.name ≡ b
    → Differ (map port_name ps) → slice_get ps i ≡ Some p → IsJoint s ps j c → Matches s p.direction x y
    → Matches s p.direction (if b then Some j.value else x) (if b then Some c.joined else y)
match_by s ps j c i p x y true e d l h k =
    subst (λ (q : Port). IsJoined s q.direction j.value c.joined) (one_port ps h.place i h.port p d h.there l (h.name ∙ same_name j.port p.name e)) h.is_joined
match_by s ps j c i p x y false e d l h k = k

pub matches : (s : Scope) (ps : List Port) (i : ℕ) (p : Port) (js : List Joint) (cs : List code.Joint) → Differ (map port_name ps) → slice_get ps i ≡ Some p → AreJoints s ps js cs
    → Matches s p.direction (find_joint p.name js) (first_joined cs p.name)
matches s ps i p [] [] d l h = tt
matches s ps i p [] (c ∷ cs) d l h = absurd h
matches s ps i p (j ∷ js) [] d l h = absurd h
matches s ps i p (j ∷ js) (c ∷ cs) d l h =
    subst (λ (t : Bool). Matches s p.direction (if bytes_eq j.port p.name then Some j.value else find_joint p.name js) (if t then Some c.joined else first_joined cs p.name))
    (ap (λ (n : List ℕ). bytes_eq n p.name) (sym h.0.key) ∙ same_either_way c.port.items p.name)
    (match_by s ps j c i p (find_joint p.name js) (first_joined cs p.name) (bytes_eq j.port p.name) refl d l h.0 (matches s ps i p js cs d l h.1))
