-- The module of an instance.
use Rattle.std.proofs.Common.{◌≡◌, ◌<◌, ◌&&◌, ℕ, Bool, true, false, not, List, [], ◌∷◌, length, nat_lt, if◌then◌else◌, bytes_eq, Option, Some, None, Result, Err, refl, sym, ap, ◌∙◌, subst, arith}
use Rattle.std.specs.Borrow.{Bor}
use Rattle.std.specs.List.{list_any}
use Rattle.std.proofs.lemmas.Bool.Decides.{nat_tests}
use Rattle.std.proofs.lemmas.Slice.Eq.{bytes_eq-Decides}
use Rattle.v_syntax.specs.declared.source.Module.{Module}
use Rattle.v_syntax.specs.declared.statement.Identifier.{Identifier}
use Rattle.v_syntax.specs.SourceTrees.{ModuleTree, view_module}
use Rattle.v_flat.specs.declared.scope.rule.Broken.{Broken}
use Rattle.v_flat.specs.declared.scope.rule.ElabRule.TheVariants as rule
use Rattle.v_flat.specs.declared.scope.found.Found.{Found}
use Rattle.v_flat.specs.declared.scope.found.Found.TheVariants.{Sound}
use Rattle.v_flat.specs.Scope.Found.{HoldsOk, ended, needs}
use Rattle.v_flat.specs.Scope.Limits.{most_parts}
use Rattle.v_flat.specs.Headers.{module_name}
use Rattle.v_flat.specs.Design.{Design, Modules, find_module, module_there}
use Rattle.v_elab.specs.States.{EndsAs}
use Rattle.v_elab.specs.Enters.{HaveTheSame}
use Rattle.v_elab.specs.InnerSteps.{IsModule, IsThere}

abbrev tested : {A : Type 0} → Bool → Bool → ℕ → A → Found A
tested b c p a = needs b rule.RecursiveInstance p (needs c rule.TooMany p (Sound a))

by_tests : (b c : Bool) (p : ℕ) (m : ModuleTree) (x : Bor Module) → m ≡ view_module x.now → EndsAs IsModule (ended (tested b c p m)) (ended (tested b c p x))
by_tests true true p m x h = h
by_tests true false p m x h = refl
by_tests false true p m x h = refl
by_tests false false p m x h = refl

both_true : (a b : Bool) → (a && b) ≡ true → (a ≡ true) × (b ≡ true)
both_true true b h = (refl, h)
both_true false b h = cc

has_room : (room nodes : ℕ) → (nat_lt 0 room && nat_lt nodes most_parts) ≡ true → (0 < room) × (nodes < most_parts)
has_room room nodes h =
    let t = both_true (nat_lt 0 room) (nat_lt nodes most_parts) h in
    let a = t.0 in
    let b = t.1 in
    (grind (arith, nat_tests, a), grind (arith, nat_tests, b))

room_by : (b c : Bool) (p room nodes : ℕ) (x : Bor Module) → c ≡ (nat_lt 0 room && nat_lt nodes most_parts)
    → HoldsOk (λ (m : Bor Module). (0 < room) × (nodes < most_parts)) (ended (tested b c p x))
room_by true true p room nodes x e = has_room room nodes (sym e)
room_by true false p room nodes x e = tt
room_by false true p room nodes x e = tt
room_by false false p room nodes x e = tt

-- it has the name that was looked for
found_named : (n : List ℕ) (ms : List ModuleTree) (m : ModuleTree) → find_module n ms ≡ Some m → (module_name m).name ≡ n
found_named n [] m h = cc
found_named n (x ∷ xs) m h = go (bytes_eq (module_name x).name n) refl h (found_named n xs m)
  where
    go : (b : Bool) → bytes_eq (module_name x).name n ≡ b → (if b then Some x else find_module n xs) ≡ Some m → (find_module n xs ≡ Some m → (module_name m).name ≡ n) → (module_name m).name ≡ n
    go true e f later = let k : x ≡ m = cc in ap (λ (y : ModuleTree). (module_name y).name) (sym k) ∙ (bytes_eq-Decides (module_name x).name n).0 e
    go false e f later = later f

name_by : (b c : Bool) (p : ℕ) (n : List ℕ) (x : Bor Module) → x.now.name.name ≡ n → HoldsOk (λ (m : Bor Module). m.now.name.name ≡ n) (ended (tested b c p x))
name_by true true p n x e = e
name_by true false p n x e = tt
name_by false true p n x e = tt
name_by false false p n x e = tt

pub there_is : (i : Identifier) (room nodes : ℕ) (ms : Modules) (names : List (List ℕ)) (x : Bor Module) (is_new is_room : Bool) (r : Result (Bor Module) Broken)
    → Some (view_module x.now) ≡ find_module i.name ms.list → is_new ≡ not (list_any (bytes_eq i.name) names) → is_room ≡ (nat_lt 0 room && nat_lt nodes most_parts)
    → r ≡ ended (tested is_new is_room i.at x) → IsThere i room ms names nodes r
there_is i room nodes ms names x is_new is_room r found new room_is is = subst (λ (z : Result (Bor Module) Broken). IsThere i room ms names nodes z) (sym is) (record {
  is = λ above d same many.
      subst (λ (o : Option ModuleTree). EndsAs IsModule (ended (module_there i room above d o)) (ended (tested is_new is_room i.at x))) found
      (subst (λ (n : ℕ). EndsAs IsModule (ended (tested (not (list_any (bytes_eq i.name) above)) (nat_lt 0 room && nat_lt n most_parts) i.at (view_module x.now))) (ended (tested is_new is_room i.at x)))
      (sym many)
      (subst (λ (b : Bool). EndsAs IsModule (ended (tested b (nat_lt 0 room && nat_lt nodes most_parts) i.at (view_module x.now))) (ended (tested is_new is_room i.at x)))
      (new ∙ ap not (sym (same i.name)))
      (subst (λ (b : Bool). EndsAs IsModule (ended (tested is_new b i.at (view_module x.now))) (ended (tested is_new is_room i.at x))) room_is
      (by_tests is_new is_room i.at (view_module x.now) x refl))));
  room_is = room_by is_new is_room i.at room nodes x room_is;
  name_is = name_by is_new is_room i.at i.name x (found_named i.name ms.list (view_module x.now) (sym found));
})

pub none_there : (i : Identifier) (room nodes : ℕ) (ms : Modules) (names : List (List ℕ)) (r : Result (Bor Module) Broken) → None ≡ find_module i.name ms.list
    → r ≡ Err (record { rule = rule.UnknownModule; place = i.at }) → IsThere i room ms names nodes r
none_there i room nodes ms names r found is = subst (λ (z : Result (Bor Module) Broken). IsThere i room ms names nodes z) (sym is) (record {
  is = λ above d same many.
      subst (λ (o : Option ModuleTree). EndsAs IsModule (ended (module_there i room above d o)) (let z : Result (Bor Module) Broken = Err (record { rule = rule.UnknownModule; place = i.at }) in z)) found refl;
  room_is = tt;
  name_is = tt;
})
