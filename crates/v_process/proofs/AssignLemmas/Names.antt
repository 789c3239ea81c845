-- What is found in a name that is assigned to continuously, and which digits are driven then.
use Rattle.std.proofs.Common.{◌≡◌, ℕ, List, [], Bool, true, false, Option, Some, None, unwrap_or, Result, Ok, Err, IfOk, refl, sym, ap, ◌∙◌, subst}
use Rattle.v_syntax.specs.ExpressionTrees.{SelectsTree, Whole, One, OfWord, SelectTree, Bit, Part, IndexedPart, TargetTree, NamedTarget}
use Rattle.v_flat.specs.declared.scope.rule.ElabRule.TheVariants as rule
use Rattle.v_flat.specs.declared.scope.found.Found.{Found}
use Rattle.v_flat.specs.declared.scope.found.Found.TheVariants.{Sound, Noted, Lost}
use Rattle.v_flat.specs.Scope.Found.{needs, Holds}
use Rattle.v_flat.specs.Scope.Rules.{at}
use Rattle.v_flat.specs.Scope.Limits.{counted_width}
use Rattle.v_flat.specs.declared.scope.meaning.DataKind.TheVariants.{Input, Net, Register}
use Rattle.v_flat.specs.declared.scope.meaning.DataKind.{DataKind}
use Rattle.v_flat.specs.declared.scope.meaning.DataObject.{DataObject}
use Rattle.v_flat.specs.declared.scope.meaning.Meaning.{Meaning}
use Rattle.v_flat.specs.declared.scope.meaning.Meaning.TheVariants as meant
use Rattle.v_flat.specs.Scope.Scope.{Scope, find}
use Rattle.v_flat.proofs.ScopeLemmas.Gathered.{each_needs, holds_so}
use Rattle.v_flat.specs.Checks.{made, select_made, selects_made}
use Rattle.v_flat.specs.declared.manner.Manner.TheVariants.{Continuous}
use Rattle.v_flat.specs.Targets.{Drive, is_driven, once_more, net_driving, object_driving, name_driving, selected_drive, named_target, place_or}
use Rattle.v_flat.proofs.Holds.{holds_lost}
use Rattle.v_check.specs.Constants.Checked.{SelectNamesOf, SelectsNamesOf}
use Rattle.v_check.proofs.ConstantsLemmas.Unsignalled.{names_none}
use Rattle.v_process.specs.declared.drive.digits.DrivenDigits.{DrivenDigits}
use Rattle.v_process.specs.Drive.Digits.{Keeps}
use Rattle.v_process.specs.declared.target.checked.CheckedTarget.{CheckedTarget}
use Rattle.v_process.specs.Target.Digits.{digits_of}
use Rattle.v_process.specs.Target.Targets.{GetsAsName, IsNamedTarget}
use Rattle.v_process.specs.Assign.Continuous.{Drives, IsContinuous}
use Rattle.v_process.specs.Assign.Made.{AreFixed, OnceMore, IsNet}
use Rattle.v_process.specs.Assign.Targets.{GetsAs, IsTarget}
use Rattle.v_process.proofs.AssignLemmas.Fixed.{Settles, first_of_both, second_of_both, made_named, settles_as}
use Rattle.v_process.proofs.AssignLemmas.Walked.{named_target_is}

-- ---- a net

twice_driven : (s : Scope) (t : TargetTree) (p : ℕ) (c : CheckedTarget) (v : ℕ) (d : Drive) (ds : List Drive) (f : Found CheckedTarget) (y : DrivenDigits) (b : Bool)
    → IsTarget s t (Sound v) (Sound c) → OnceMore b p d ds c f y → Drives s t (once_more b p d ds (Sound v)) f y
twice_driven s t p c v d ds f y true base h =
    subst (λ (g : Found CheckedTarget). Drives s t (once_more true p d ds (Sound v)) g y) (sym h.0)
    (record { target = record { finds = refl; holds = tt }; driven = h.1 })
twice_driven s t p c v d ds f y false base h =
    subst (λ (g : Found CheckedTarget). Drives s t (once_more false p d ds (Sound v)) g y) (sym h.0) (record { target = base; driven = h.1 })

pub net_drives : (s : Scope) (t : TargetTree) (p : ℕ) (o : DataObject) (d : Drive) (w : Found ℕ) (g f : Found CheckedTarget) (x y : DrivenDigits) (ds : List Drive)
    → AreFixed g → IsTarget s t w g → Holds (λ (c : CheckedTarget). digits_of o c.target ≡ d) g → IsNet o p g x f y → Keeps x ds
    → Drives s t (net_driving p d ds w) f y
net_drives s t p o d (Sound v) (Sound c) f x y ds fixed base e h k =
    twice_driven s t p c v d ds f y (is_driven d ds) base
    (subst (λ (a : Drive). OnceMore (is_driven a ds) p a ds c f y) e (h ds k))
net_drives s t p o d (Lost a) (Lost b) f x y ds fixed base e h k =
    subst (λ (g : Found CheckedTarget). Drives s t (net_driving p d ds (Lost a)) g y) (sym h.0) (record { target = base; driven = h.1 ds k })
net_drives s t p o d (Noted a v) (Sound c) f x y ds fixed base e h k = (let q = base.finds in absurd (cc))
net_drives s t p o d (Lost a) (Sound c) f x y ds fixed base e h k = (let q = base.finds in absurd (cc))
net_drives s t p o d (Sound v) (Lost b) f x y ds fixed base e h k = (let q = base.finds in absurd (cc))
net_drives s t p o d (Noted a v) (Lost b) f x y ds fixed base e h k = (let q = base.finds in absurd (cc))
net_drives s t p o d w (Noted b c) f x y ds fixed base e h k = absurd fixed

-- ---- what is found in a name

-- selects that are made of constants name no signal
select_names : (s : Scope) (sel : SelectTree) (ws : List ℕ) → select_made s sel ≡ true → SelectNamesOf s sel ws
select_names s (Bit p i) ws h = names_none s i ws h
select_names s (Part p l r) ws h = (names_none s l ws (first_of_both (made s l) (made s r) h), names_none s r ws (second_of_both (made s l) (made s r) h))
select_names s (IndexedPart p b n) ws h = (names_none s b ws (first_of_both (made s b) (made s n) h), names_none s n ws (second_of_both (made s b) (made s n) h))

selects_names : (s : Scope) (sel : SelectsTree) (ws : List ℕ) → selects_made s sel ≡ true → SelectsNamesOf s sel ws
selects_names s Whole ws h = tt
selects_names s (One sel) ws h = select_names s sel ws h
selects_names s (OfWord p i sel) ws h =
    (names_none s i ws (first_of_both (made s i) (select_made s sel) h), select_names s sel ws (second_of_both (made s i) (select_made s sel) h))

fixed_by : (s : Scope) (sel : SelectsTree) (z : Option Meaning) (g : Found CheckedTarget) → Settles (λ (c : CheckedTarget). selects_made s sel ≡ true) g
    → Holds (λ (c : CheckedTarget). GetsAsName s sel z c) g → AreFixed g
fixed_by s sel z (Sound c) h k = k.fixed (selects_names s sel [] h)
fixed_by s sel z (Noted b c) h k = absurd h
fixed_by s sel z (Lost b) h k = tt

pub fixed_found : (s : Scope) (p : ℕ) (sel : SelectsTree) (z : Option Meaning) (g : Found CheckedTarget) → IsNamedTarget Continuous s p sel z g → AreFixed g
fixed_found s p sel z g h = fixed_by s sel z g
    (settles_as (selects_made s sel ≡ true) (λ (c : CheckedTarget). c.width) counted_width g (named_target Continuous s p sel z) h.finds (made_named s p sel z)) h.holds

-- w is what the definition finds in the name, and z its meaning
abbrev NameDrives : Scope → TargetTree → ℕ → SelectsTree → Option Meaning → Found ℕ → DrivenDigits → Found CheckedTarget → DrivenDigits → Type 0
NameDrives s t p sel z w x f y = (ds : List Drive) → Keeps x ds → Drives s t (name_driving p s sel ds z w) f y

kind_drives : (s : Scope) (t : TargetTree) (p : ℕ) (d : Drive) (ds : List Drive) (w : Found ℕ) (f : Found CheckedTarget) (y : DrivenDigits) (k l : DataKind)
    → k ≡ l → Drives s t (object_driving p l d ds w) f y → Drives s t (object_driving p k d ds w) f y
kind_drives s t p d ds w f y k l e h = subst (λ (m : DataKind). Drives s t (object_driving p m d ds w) f y) (sym e) h

net_named : (s : Scope) (t : TargetTree) (p q : ℕ) (sel : SelectsTree) (o : DataObject) (w : Found ℕ) (g f : Found CheckedTarget) (x y : DrivenDigits)
    → o.kind ≡ Net → AreFixed g → IsTarget s t w g → Holds (λ (c : CheckedTarget). GetsAsName s sel (Some (meant.Object o)) c) g → IsNet o q g x f y
    → NameDrives s t q sel (Some (meant.Object o)) w x f y
net_named s t p q sel o w g f x y e fixed base h k = λ ds r.
    kind_drives s t q (selected_drive s o sel) ds w f y o.kind Net e
    (net_drives s t q o (selected_drive s o sel) w g f x y ds fixed base
    (holds_so (λ (c : CheckedTarget). GetsAsName s sel (Some (meant.Object o)) c) (λ (c : CheckedTarget). digits_of o c.target ≡ selected_drive s o sel) g h (λ c a. a.drives))
    k r)

input_named : (s : Scope) (t : TargetTree) (q : ℕ) (sel : SelectsTree) (o : DataObject) (w : Found ℕ) (g : Found CheckedTarget) (x : DrivenDigits)
    → o.kind ≡ Input → IsTarget s t w g → NameDrives s t q sel (Some (meant.Object o)) w x (needs false rule.TwoDrivers q g) x
input_named s t q sel o w g x e base = λ ds r.
    kind_drives s t q (selected_drive s o sel) ds w (needs false rule.TwoDrivers q g) x o.kind Input e (record {
      target = record {
        finds = each_needs (λ (c : CheckedTarget). c.width) false rule.TwoDrivers q g ∙ ap (λ (v : Found ℕ). needs false rule.TwoDrivers q v) base.finds
            ∙ sym (each_needs counted_width false rule.TwoDrivers q w);
        holds = holds_lost (λ (c : CheckedTarget). GetsAs s t c) (at rule.TwoDrivers q) g;
      };
      driven = r;
    })

register_named : (s : Scope) (t : TargetTree) (q : ℕ) (sel : SelectsTree) (o : DataObject) (w : Found ℕ) (g : Found CheckedTarget) (x : DrivenDigits)
    → o.kind ≡ Register → IsTarget s t w g → NameDrives s t q sel (Some (meant.Object o)) w x g x
register_named s t q sel o w g x e base = λ ds r.
    kind_drives s t q (selected_drive s o sel) ds w g x o.kind Register e (record { target = base; driven = r })

-- ---- by what the name means

named_as : (s : Scope) (q : Option ℕ) (p : ℕ) (n : List ℕ) (sel : SelectsTree) (z : Option Meaning) (g f : Found CheckedTarget) (x y : DrivenDigits)
    → find n s ≡ z → IsNamedTarget Continuous s p sel (find n s) g
    → (IsNamedTarget Continuous s p sel z g → IsTarget s (NamedTarget p n sel) (named_target Continuous s p sel z) g
    → NameDrives s (NamedTarget p n sel) (place_or q p) sel z (named_target Continuous s p sel z) x f y)
    → IsContinuous q s (NamedTarget p n sel) x f y
named_as s q p n sel z g f x y e h k =
    subst (λ (m : Option Meaning). NameDrives s (NamedTarget p n sel) (place_or q p) sel m (named_target Continuous s p sel m) x f y) (sym e)
    (k (subst (λ (m : Option Meaning). IsNamedTarget Continuous s p sel m g) e h)
    (subst (λ (m : Option Meaning). IsTarget s (NamedTarget p n sel) (named_target Continuous s p sel m) g) e (named_target_is Continuous s p n sel g h)))

pub net_answer : (s : Scope) (q : Option ℕ) (p r : ℕ) (n : List ℕ) (sel : SelectsTree) (o : DataObject) (g f : Found CheckedTarget) (x y : DrivenDigits)
    → r ≡ place_or q p → find n s ≡ Some (meant.Object o) → o.kind ≡ Net → IsNamedTarget Continuous s p sel (find n s) g → IsNet o r g x f y
    → IsContinuous q s (NamedTarget p n sel) x f y
net_answer s q p r n sel o g f x y a e kind h made =
    named_as s q p n sel (Some (meant.Object o)) g f x y e h
    (λ h base. net_named s (NamedTarget p n sel) p (place_or q p) sel o (named_target Continuous s p sel (Some (meant.Object o))) g f x y kind
    (fixed_found s p sel (Some (meant.Object o)) g h) base h.holds (subst (λ (k : ℕ). IsNet o k g x f y) a made))

pub input_answer : (s : Scope) (q : Option ℕ) (p r : ℕ) (n : List ℕ) (sel : SelectsTree) (o : DataObject) (g f : Found CheckedTarget) (x : DrivenDigits)
    → r ≡ place_or q p → find n s ≡ Some (meant.Object o) → o.kind ≡ Input → IsNamedTarget Continuous s p sel (find n s) g
    → f ≡ needs false rule.TwoDrivers r g → IsContinuous q s (NamedTarget p n sel) x f x
input_answer s q p r n sel o g f x a e kind h made =
    named_as s q p n sel (Some (meant.Object o)) g f x x e h
    (λ h base. subst (λ (u : Found CheckedTarget). NameDrives s (NamedTarget p n sel) (place_or q p) sel (Some (meant.Object o))
    (named_target Continuous s p sel (Some (meant.Object o))) x u x)
    (sym (made ∙ ap (λ (k : ℕ). needs false rule.TwoDrivers k g) a))
    (input_named s (NamedTarget p n sel) (place_or q p) sel o (named_target Continuous s p sel (Some (meant.Object o))) g x kind base))

pub register_answer : (s : Scope) (q : Option ℕ) (p : ℕ) (n : List ℕ) (sel : SelectsTree) (o : DataObject) (g : Found CheckedTarget) (x : DrivenDigits)
    → find n s ≡ Some (meant.Object o) → o.kind ≡ Register → IsNamedTarget Continuous s p sel (find n s) g → IsContinuous q s (NamedTarget p n sel) x g x
register_answer s q p n sel o g x e kind h =
    named_as s q p n sel (Some (meant.Object o)) g g x x e h
    (λ h base. register_named s (NamedTarget p n sel) (place_or q p) sel o (named_target Continuous s p sel (Some (meant.Object o))) g x kind base)

-- what is no object drives nothing
abbrev IsNoObject : Option Meaning → Type 0
IsNoObject None = Unit {0}
IsNoObject (Some (meant.Constant ds b)) = Unit {0}
IsNoObject (Some meant.Later) = Unit {0}
IsNoObject (Some (meant.Object o)) = ⊥

no_object : (s : Scope) (t : TargetTree) (q : ℕ) (sel : SelectsTree) (z : Option Meaning) (w : Found ℕ) (g : Found CheckedTarget) (x : DrivenDigits) → IsNoObject z
    → IsTarget s t w g → NameDrives s t q sel z w x g x
no_object s t q sel None w g x e base = λ ds r. record { target = base; driven = r }
no_object s t q sel (Some (meant.Constant es b)) w g x e base = λ ds r. record { target = base; driven = r }
no_object s t q sel (Some meant.Later) w g x e base = λ ds r. record { target = base; driven = r }
no_object s t q sel (Some (meant.Object o)) w g x e base = absurd e

pub other_answer : (s : Scope) (q : Option ℕ) (p : ℕ) (n : List ℕ) (sel : SelectsTree) (z : Option Meaning) (g : Found CheckedTarget) (x : DrivenDigits)
    → find n s ≡ z → IsNoObject z → IsNamedTarget Continuous s p sel (find n s) g → IsContinuous q s (NamedTarget p n sel) x g x
other_answer s q p n sel z g x e none h =
    named_as s q p n sel z g g x x e h (λ h base. no_object s (NamedTarget p n sel) (place_or q p) sel z (named_target Continuous s p sel z) g x none base)

pub placed : (q : Option ℕ) (p : ℕ) → unwrap_or q p ≡ place_or q p
placed None p = refl
placed (Some r) p = refl

pub net_result : {E : Type 0} (s : Scope) (q : Option ℕ) (p r : ℕ) (n : List ℕ) (sel : SelectsTree) (o : DataObject) (g : Found CheckedTarget)
    (a : Result (Found CheckedTarget) E) (x y : DrivenDigits)
    → r ≡ place_or q p → find n s ≡ Some (meant.Object o) → o.kind ≡ Net → IsNamedTarget Continuous s p sel (find n s) g
    → IfOk a (λ (f : Found CheckedTarget). IsNet o r g x f y) → IfOk a (λ (f : Found CheckedTarget). IsContinuous q s (NamedTarget p n sel) x f y)
net_result s q p r n sel o g (Ok f) x y k e kind h made = net_answer s q p r n sel o g f x y k e kind h made
net_result s q p r n sel o g (Err b) x y k e kind h made = tt
