-- The items of an instance, one after the other.
use Rattle.std.proofs.Common.{◌≡◌, ◌+◌, ◌<◌, ◌≤◌, ◌∙◌, ℕ, List, [], ◌∷◌, length, map, drop, get_or, Result, Ok, Err, refl, sym, ap, subst, arith}
use Rattle.std.proofs.lemmas.List.{append-nil, drop_all, drop_more}
use Rattle.v_syntax.specs.declared.item.Item.{Item}
use Rattle.v_syntax.specs.SourceTrees.{ItemTree, view_item}
use Rattle.v_flat.specs.declared.scope.rule.Broken.{Broken}
use Rattle.v_flat.specs.Scope.Found.{HoldsOk, next}
use Rattle.v_header.specs.Names.{texts}
use Rattle.v_flat.specs.Paths.{Path}
use Rattle.v_flat.specs.Design.{State}
use Rattle.v_layout.specs.declared.build.parts.Parts.{Parts}
use Rattle.v_layout.specs.Build.Parts.{Grows}
use Rattle.v_layout.specs.Texts.{HasText}
use Rattle.v_elab.specs.States.{EndsAs, IsReady}
use Rattle.v_elab.proofs.BeginEnds.{ends_err, ends_ok, of_ok}
use Rattle.v_elab.proofs.Grown.{grown_more}
use Rattle.v_elab.specs.declared.level.Level.{Level}
use Rattle.v_elab.specs.declared.walked.Walked.{Walked}
use Rattle.v_elab.specs.Instances.{IsWalked}
use Rattle.v_elab.specs.Enters.{HaveTheSame}
use Rattle.v_elab.specs.WalkSteps.{GoesOn, Passes, over_item, over_items}

pub grows_itself : (x : Parts) → Grows x x
grows_itself x = record { more = []; signals = sym (append-nil x.signals); nodes = omega arith }

-- y is x behind some of the items, where these are left
pub record IsLeft (l : Level) (is left : List ItemTree) (x y : Walked) : Type 0 where
  pub comes : (above : List (List ℕ)) (path : Path) (s : State) → HaveTheSame above (texts l.above.now) → HasText path l.path.now → IsWalked s x
      → (t : State) × (IsWalked t y × (over_items l is above path s ≡ over_items l left above path t))
  pub goes_on : GoesOn x y

pub none_left : (l : Level) (is : List ItemTree) (x : Walked) → IsReady x.state → IsLeft l is is x x
none_left l is x h = record {
  comes = λ above path s same t w. (s, (w, refl));
  goes_on = record { ready = h; grows = grows_itself x.state.parts };
}

here : (xs : List Item) (j : ℕ) (a : Item) → j < length xs → a ≡ get_or xs j a → map view_item (drop j xs) ≡ view_item a ∷ map view_item (drop (j + 1) xs)
here xs j a h e = ap (λ (ys : List Item). map view_item ys) (drop_more xs j a h ∙ ap (λ (b : Item). b ∷ drop (j + 1) xs) (sym e))

-- one of them
one_passed : (l : Level) (is rest : List ItemTree) (i : ItemTree) (x y z : Walked) (r : Result Walked Broken) → IsLeft l is (i ∷ rest) x y → Passes l (over_item l i) y r → r ≡ Ok z
    → IsLeft l is rest x z
one_passed l is rest i x y z r k p e = record {
  comes = λ above path s same t w.
      let c = k.comes above path s same t w in
      let u = ends_ok IsWalked (over_item l i above path c.0) r z (p.is above path c.0 same t c.1.0) e in
      (u.0, (u.1.1, c.1.1 ∙ ap (λ (q : Result State Broken). next q (over_items l rest above path)) u.1.0));
  goes_on =
      let g : GoesOn y z = of_ok (GoesOn y) r z p.goes_on e in
      record { ready = g.ready; grows = grown_more x.state.parts y.state.parts z.state.parts k.goes_on.grows g.grows };
}

one_broken : (l : Level) (is rest : List ItemTree) (i : ItemTree) (x y : Walked) (r : Result Walked Broken) (b : Broken) → IsLeft l is (i ∷ rest) x y → Passes l (over_item l i) y r → r ≡ Err b
    → Passes l (over_items l is) x (Err b)
one_broken l is rest i x y r b k p e = record {
  is = λ above path s same t w.
      let c = k.comes above path s same t w in
      subst (λ (q : Result State Broken). EndsAs IsWalked q (let v : Result Walked Broken = Err b in v))
      (sym (c.1.1 ∙ ap (λ (q : Result State Broken). next q (over_items l rest above path)) (ends_err IsWalked (over_item l i above path c.0) r b (p.is above path c.0 same t c.1.0) e))) refl;
  goes_on = tt;
}

all_passed : (l : Level) (is : List ItemTree) (x y : Walked) → IsLeft l is [] x y → Passes l (over_items l is) x (Ok y)
all_passed l is x y k = record {
  is = λ above path s same t w.
      let c = k.comes above path s same t w in
      subst (λ (q : Result State Broken). EndsAs IsWalked q (let v : Result Walked Broken = Ok y in v)) (sym c.1.1) c.1.0;
  goes_on = k.goes_on;
}

-- ---- by the place of an item

pub item_passed : (l : Level) (xs : List Item) (j : ℕ) (a : Item) (x y z : Walked) (r : Result Walked Broken) → j < length xs → a ≡ get_or xs j a
    → IsLeft l (map view_item xs) (map view_item (drop j xs)) x y → Passes l (over_item l (view_item a)) y r → r ≡ Ok z → IsLeft l (map view_item xs) (map view_item (drop (j + 1) xs)) x z
item_passed l xs j a x y z r h e k p is =
    one_passed l (map view_item xs) (map view_item (drop (j + 1) xs)) (view_item a) x y z r (subst (λ (left : List ItemTree). IsLeft l (map view_item xs) left x y) (here xs j a h e) k) p is

pub item_broken : (l : Level) (xs : List Item) (j : ℕ) (a : Item) (x y : Walked) (r : Result Walked Broken) (b : Broken) → j < length xs → a ≡ get_or xs j a
    → IsLeft l (map view_item xs) (map view_item (drop j xs)) x y → Passes l (over_item l (view_item a)) y r → r ≡ Err b → Passes l (over_items l (map view_item xs)) x (Err b)
item_broken l xs j a x y r b h e k p is =
    one_broken l (map view_item xs) (map view_item (drop (j + 1) xs)) (view_item a) x y r b (subst (λ (left : List ItemTree). IsLeft l (map view_item xs) left x y) (here xs j a h e) k) p is

pub items_passed : (l : Level) (xs : List Item) (j : ℕ) (x y : Walked) → length xs ≤ j → IsLeft l (map view_item xs) (map view_item (drop j xs)) x y → Passes l (over_items l (map view_item xs)) x (Ok y)
items_passed l xs j x y h k =
    all_passed l (map view_item xs) x y (subst (λ (left : List Item). IsLeft l (map view_item xs) (map view_item left) x y) (drop_all j xs h) k)
