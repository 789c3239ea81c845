-- Names that are declared further on, one after another.
use Rattle.std.proofs.Common.{◌≡◌, ℕ, suc, ◌+◌, ◌<◌, ◌≤◌, List, [], ◌∷◌, ◌++◌, length, drop, get_or, map, Option, Some, None, Bool, true, false, ◌||◌, if◌then◌else◌, bytes_eq, refl, sym, ap, ◌∙◌, append_assoc, append-nil, add-one, drop-cons}
use Rattle.std.proofs.lemmas.List.{drop_all, map-id}
use Rattle.std.specs.List.{list_any}
use Rattle.std.specs.Option.{option_or}
use Rattle.v_syntax.specs.declared.item.Item.{Item}
use Rattle.v_syntax.specs.SourceTrees.{PortHeadTree, HeaderPortTree, HeaderPortOf, Ports, Nets, Registers, Integers, Parameters, Drivers, Always, Initial, Instance, ItemTree, ItemAt, view_item}
use Rattle.v_flat.specs.declared.scope.meaning.Meaning.{Meaning}
use Rattle.v_flat.specs.declared.scope.meaning.Meaning.TheVariants.{Later}
use Rattle.v_flat.specs.Scope.Scope.{Scope, named, nothing}
use Rattle.v_flat.specs.Headers.{head_or, headed, later, names_in}
use Rattle.v_header.specs.Names.{and_later, header_port_name, headed_name, item_names}

one_more : (b c : Bool) (o : Option Meaning)
    → option_or (if b || c then Some Later else None) o ≡ option_or (if c then Some Later else None) (if b then Some Later else o)
one_more true true o = refl
one_more true false o = refl
one_more false true o = refl
one_more false false o = refl

-- no name is declared
pub later_none : (s : Scope) → and_later [] s ≡ s
unfolding and_later
later_none s = refl

-- a name is declared, and then the others
pub later_more : (k : List ℕ) (ks : List (List ℕ)) (s : Scope) → and_later ks (named k Later s) ≡ and_later (k ∷ ks) s
unfolding and_later
later_more k ks s = λ i n. sym (one_more (bytes_eq n k) (list_any (bytes_eq n) ks) (s n)) i

-- some names are declared, and then the others
pub later_all : (ks ls : List (List ℕ)) (s : Scope) → and_later ls (and_later ks s) ≡ and_later (ks ++ ls) s
later_all [] ls s = ap (and_later ls) (later_none s)
later_all (k ∷ ks) ls s =
    ap (and_later ls) (sym (later_more k ks s)) ∙ later_all ks ls (named k Later s) ∙ later_more k (ks ++ ls) s

-- the names of an item, and then those of the others
pub names_first : (i : ItemTree) (is : List ItemTree) → names_in (i ∷ is) ≡ item_names i ++ names_in is
names_first (ItemAt p (Ports h ns)) is = ap (λ (l : List (List ℕ)). l ++ names_in is) (sym (append-nil _))
names_first (ItemAt p (Nets r ds)) is = ap (λ (l : List (List ℕ)). l ++ names_in is) (sym (append-nil _))
names_first (ItemAt p (Registers r ds)) is = ap (λ (l : List (List ℕ)). l ++ names_in is) (sym (append-nil _))
names_first (ItemAt p (Integers ns)) is = ap (λ (l : List (List ℕ)). l ++ names_in is) (sym (append-nil _))
names_first (ItemAt p (Parameters k r ps)) is = refl
names_first (ItemAt p (Drivers ds)) is = refl
names_first (ItemAt p (Always c s)) is = refl
names_first (ItemAt p (Initial s)) is = refl
names_first (ItemAt p (Instance m ps i cs)) is = refl

-- one item, and then the others
pub later_item : (i : ItemTree) (is : List ItemTree) (s : Scope) → and_later (names_in is) (and_later (item_names i) s) ≡ and_later (names_in (i ∷ is)) s
later_item i is s = later_all (item_names i) (names_in is) s ∙ ap (λ (l : List (List ℕ)). and_later l s) (sym (names_first i is))

-- what is left of a list at one of its places
pub rest_at : {X : Type 0} (xs : List X) (k : ℕ) (x : X) → k < length xs → x ≡ get_or xs k x → drop k xs ≡ x ∷ drop (k + 1) xs
rest_at {X} xs k x h e = rw add-one (drop-cons xs k x h ∙ ap (λ (y : X). y ∷ drop (suc k) xs) (sym e))

module _ {A B : Type 0} (name : B → List ℕ) (view : A → B) (xs : List A) (k : ℕ) (all : Scope) where
  -- the name at a place, and then those behind it
  pub name_turn : (x : A) (n : List ℕ) (old new : Scope) → k < length xs → x ≡ get_or xs k x → n ≡ name (view x) → new ≡ named n Later old
      → all ≡ and_later (map name (map view (drop k xs))) old → all ≡ and_later (map name (map view (drop (k + 1) xs))) new
  name_turn x n old new h e f g inv =
      let rest = map name (map view (drop (k + 1) xs)) in
      inv ∙ ap (λ (l : List A). and_later (map name (map view l)) old) (rest_at xs k x h e)
      ∙ sym (later_more (name (view x)) rest old)
      ∙ ap (λ (m : List ℕ). and_later rest (named m Later old)) (sym f)
      ∙ ap (and_later rest) (sym g)

  pub names_done : (s : Scope) → length xs ≤ k → all ≡ and_later (map name (map view (drop k xs))) s → s ≡ all
  names_done s h inv = sym (inv ∙ ap (λ (l : List A). and_later (map name (map view l)) s) (drop_all k xs h) ∙ later_none s)

module _ (xs : List Item) (k : ℕ) (all : Scope) where
  -- the item at a place, and then those behind it
  pub item_turn : (x : Item) (old new : Scope) → k < length xs → x ≡ get_or xs k x → new ≡ and_later (item_names (view_item x)) old
      → all ≡ and_later (names_in (map view_item (drop k xs))) old → all ≡ and_later (names_in (map view_item (drop (k + 1) xs))) new
  item_turn x old new h e g inv =
      let rest = map view_item (drop (k + 1) xs) in
      inv ∙ ap (λ (l : List Item). and_later (names_in (map view_item l)) old) (rest_at xs k x h e)
      ∙ sym (later_item (view_item x) rest old)
      ∙ ap (and_later (names_in rest)) (sym g)

  pub items_done : (s : Scope) → length xs ≤ k → all ≡ and_later (names_in (map view_item (drop k xs))) s → s ≡ all
  items_done s h inv = sym (inv ∙ ap (λ (l : List Item). and_later (names_in (map view_item l)) s) (drop_all k xs h) ∙ later_none s)

alone : (o : Option Meaning) → option_or o None ≡ o
alone None = refl
alone (Some x) = refl

-- where no name meant anything
pub only_later : (ns : List (List ℕ)) (old new : Scope) → old ≡ nothing → new ≡ and_later ns old → new ≡ later ns
unfolding and_later
only_later ns old new e h = h ∙ ap (and_later ns) e ∙ (λ i n. alone (later ns n) i)

-- in three turns
pub in_three : (ks ls ms : List (List ℕ)) (s t u v : Scope) → t ≡ and_later ks s → u ≡ and_later ls t → v ≡ and_later ms u → v ≡ and_later (ks ++ (ls ++ ms)) s
in_three ks ls ms s t u v a b c =
    c ∙ ap (and_later ms) (b ∙ ap (and_later ls) a) ∙ ap (and_later ms) (later_all ks ls s) ∙ later_all (ks ++ ls) ms s
    ∙ ap (λ (l : List (List ℕ)). and_later l s) (append_assoc ks ls ms)

-- the names of a header's ports, whatever heads they have
pub headed_names : (g : PortHeadTree) (ps : List HeaderPortTree) → map headed_name (headed g ps) ≡ map header_port_name ps
headed_names g [] = refl
headed_names g (HeaderPortOf h i ∷ ps) = ap (λ (ns : List (List ℕ)). i.name ∷ ns) (headed_names (head_or h g) ps)

pub ruleset item_steps = (later_none, map-id, append-nil)

pub ruleset header_steps = (later_none, headed_names)
