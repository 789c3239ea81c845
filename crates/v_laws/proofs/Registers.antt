-- A name that is declared with `reg` and a first value is a register.
use Rattle.std.proofs.Common.{◌≡◌, ◌+◌, ◌&&◌, ◌||◌, ◌⊎◌, inl, inr, ◌∙◌, ℕ, Bool, true, false, not, List, [], ◌∷◌, ◌++◌, length, map, nat_le, Option, Some, None, is_none, Ok, refl, sym, ap, subst, if◌then◌else◌}
use Rattle.std.specs.Prelude.{bytes_eq}
use Rattle.std.specs.List.{list_any}
use Rattle.std.specs.Option.{is_some, option_or}
use Rattle.std.proofs.lemmas.List.{map-append}
use Rattle.v_syntax.specs.declared.statement.Identifier.{Identifier}
use Rattle.v_syntax.specs.declared.item.Direction.{Direction}
use Rattle.v_syntax.specs.declared.item.Direction.TheVariants as direction
use Rattle.v_syntax.specs.ExpressionTrees.{Tree}
use Rattle.v_syntax.specs.SourceTrees.{RangeTree, Initially, RegisterTree, Register as RegisterOf, Registers, ItemTree, ItemAt, ModuleTree}
use Rattle.v_flat.specs.declared.scope.rule.ElabRule.TheVariants as rule
use Rattle.v_flat.specs.declared.scope.found.Found.TheVariants.{Sound}
use Rattle.v_flat.specs.Scope.Found.{Holds, HoldsOk, ended}
use Rattle.v_flat.specs.declared.scope.meaning.Bounds.{Bounds}
use Rattle.v_flat.specs.declared.scope.meaning.DataKind.TheVariants.{Register}
use Rattle.v_flat.specs.declared.scope.meaning.DataObject.{DataObject}
use Rattle.v_flat.specs.declared.scope.meaning.Meaning.TheVariants.{Object}
use Rattle.v_flat.specs.Scope.Limits.{most_parts}
use Rattle.v_flat.specs.Scope.Scope.{find, means}
use Rattle.v_flat.specs.Objects.{count_of}
use Rattle.v_flat.specs.Headers.{Port, items_in, port_name, ports_in, ports_of}
use Rattle.v_flat.specs.Declarations.{Declared, Entries, Place, Reg, Sort, are_halves, declarations, declare, declare_again, declare_line, declare_lines, declare_register, declare_registers, declared_as, declared_too, find_declared, header_declared, in_order, is_free, is_input_reg, is_port, is_sort_alone, kind_of, known_names, other_lines, port_checked, port_lines, same_bounds, signals_in, vector_bounds, whole_of, with_declared}
use Rattle.v_flat.specs.Design.{Design, entries, place_of}
use Rattle.v_flat.proofs.Holds.{holds_any, holds_ended, holds_needs, holds_next, holds_ok_any, holds_then, holds_wants}
use Rattle.v_flat.proofs.ShapeLemmas.Declared as shape
use Rattle.v_flat.proofs.ShapeLemmas.Names.{Among, Differ, among_first, among_later, differ_both, is_itself, one_of_more, same_name}
use Rattle.v_flat.proofs.ShapeLemmas.Order.{names}
use Rattle.v_flat.proofs.ShapeLemmas.Walk.{scope_of}
use Rattle.v_laws.proofs.Found.{of_ok}
use Rattle.v_laws.proofs.Members.{Member}
use Rattle.v_laws.proofs.Directions.{Goes, both_true, find_last, find_more, found_member, lines_hold, put_other, put_same, registers_hold}
use Rattle.v_laws.proofs.Counted.{AreFree, entry_there, free_goes, free_passed, line_there, member_before}
use Rattle.v_laws.proofs.Joined.{named_member}
use Rattle.v_laws.proofs.Places.{HasScope, order_member, placed_member}

reg_kind : (d : Option Direction) (k : Option Sort) → k ≡ Some Reg → is_input_reg d k ≡ false → kind_of d k ≡ Register
reg_kind d k e h = ap (kind_of d) e ∙ go d (subst (λ (x : Option Sort). is_input_reg d x ≡ false) e h)
  where
    go : (o : Option Direction) → is_input_reg o (Some Reg) ≡ false → kind_of o (Some Reg) ≡ Register
    go None f = refl
    go (Some direction.Output) f = refl
    go (Some direction.Input) f = cc

-- the name is declared so
pub record IsRegNamed (n : List ℕ) (ds : List Declared) : Type 0 where
  pub one : Declared
  pub found : find_declared n ds ≡ Some one
  pub sort : one.sort ≡ Some Reg
  pub input : is_input_reg one.direction one.sort ≡ false

or_some : (o p : Option Sort) (k : Sort) → o ≡ Some k → option_or o p ≡ Some k
or_some (Some e) p k h = h
or_some None p k h = cc

not_true : (b : Bool) → not b ≡ true → b ≡ false
not_true false h = refl
not_true true h = cc

reg_goes : (n : List ℕ) → Goes (IsRegNamed n)
reg_goes n = record {
  more = λ ds x h plain new. record { one = h.one; found = find_more n ds (x ∷ []) h.one h.found; sort = h.sort; input = h.input };
  again = λ ds x old h f halves free. put ds x old h f free (bytes_eq old.name n) refl;
}
  where
    put : (ds : List Declared) (x old : Declared) → IsRegNamed n ds → find_declared x.name ds ≡ Some old → not (is_input_reg (whole_of old x).direction (whole_of old x).sort) ≡ true
        → (b : Bool) → bytes_eq old.name n ≡ b → IsRegNamed n (with_declared (whole_of old x) ds)
    put ds x old h f free true e = record {
      one = whole_of old x;
      found = subst (λ m. find_declared m (with_declared (whole_of old x) ds) ≡ Some (whole_of old x)) same (put_same (whole_of old x) ds old there);
      sort = or_some old.sort x.sort Reg (ap (λ (y : Declared). y.sort) one ∙ h.sort);
      input = not_true (is_input_reg (whole_of old x).direction (whole_of old x).sort) free;
    }
      where
        same : old.name ≡ n
        same = same_name old.name n e

        there : find_declared old.name ds ≡ Some old
        there = ap (λ m. find_declared m ds) (found_member x.name ds old f).1 ∙ f

        one : old ≡ h.one
        one = let k : Some old ≡ Some h.one = sym there ∙ ap (λ m. find_declared m ds) same ∙ h.found in cc
    put ds x old h f free false e = record { one = h.one; found = put_other n (whole_of old x) ds e ∙ h.found; sort = h.sort; input = h.input }

-- the first half has no sort where the second has no direction
first_half : (a b c e f g : Bool) → f ≡ false → (((a && b) && c) || (e && (f && g))) ≡ true → b ≡ true
first_half a true c e f g h k = refl
first_half true false c true false g h k = cc
first_half true false c false false g h k = cc
first_half false false c true false g h k = cc
first_half false false c false false g h k = cc
first_half a false c e true g h k = cc

no_sort : (o : Option Sort) → is_none o ≡ true → o ≡ None
no_sort None h = refl
no_sort (Some d) h = cc

no_input : (d : Option Direction) (k : Option Sort) → d ≡ None → is_input_reg d k ≡ false
no_input None k h = refl
no_input (Some d) k h = cc

module _ (w : Place) where
  again_reg : (p : ℕ) (d : Declared) (ds : List Declared) → d.sort ≡ Some Reg → d.direction ≡ None → (o : Option Declared) → o ≡ find_declared d.name ds → Holds (IsRegNamed d.name) (declare_again w p d ds o)
  again_reg p d ds k e None f =
      holds_wants (IsRegNamed d.name) (is_port d.direction d.name w.ports && not (is_input_reg d.direction d.sort)) rule.BadPort p (declared_too w p d ds)
      (λ t. holds_wants (IsRegNamed d.name) (nat_le (w.first + (signals_in ds + count_of d.words)) most_parts) rule.TooMany p (Sound (ds ++ (d ∷ [])))
      (λ u. record { one = d; found = find_last d ds (sym f); sort = k; input = no_input d.direction d.sort e }))
  again_reg p d ds k e (Some old) f =
      holds_needs (IsRegNamed d.name) (are_halves old d && same_bounds old.bounds d.bounds) rule.DuplicateName p (port_checked w p (whole_of old d) (Sound (with_declared (whole_of old d) ds)))
      (λ t. holds_wants (IsRegNamed d.name) (is_port (whole_of old d).direction (whole_of old d).name w.ports && not (is_input_reg (whole_of old d).direction (whole_of old d).sort)) rule.BadPort p
      (Sound (with_declared (whole_of old d) ds))
      (λ u. record {
        one = whole_of old d;
        found = subst (λ m. find_declared m (with_declared (whole_of old d) ds) ≡ Some (whole_of old d)) same (put_same (whole_of old d) ds old (ap (λ m. find_declared m ds) same ∙ sym f));
        sort = ap (λ o. option_or o d.sort) (no_sort old.sort (none (both_true (are_halves old d) (same_bounds old.bounds d.bounds) t).0)) ∙ k;
        input = not_true (is_input_reg (whole_of old d).direction (whole_of old d).sort)
            (both_true (is_port (whole_of old d).direction (whole_of old d).name w.ports) (not (is_input_reg (whole_of old d).direction (whole_of old d).sort)) u).1;
      }))
    where
      same : old.name ≡ d.name
      same = (found_member d.name ds old (sym f)).1

      none : are_halves old d ≡ true → is_none old.sort ≡ true
      none h = first_half (is_some old.direction) (is_none old.sort) (is_sort_alone d) (is_sort_alone old) (is_some d.direction) (is_none d.sort) (ap is_some e) h

  declare_reg : (p : ℕ) (d : Declared) (ds : List Declared) → d.sort ≡ Some Reg → d.direction ≡ None → Holds (IsRegNamed d.name) (declare w p d ds)
  declare_reg p d ds k e =
      holds_needs (IsRegNamed d.name) (is_free d.name w.constants) rule.DuplicateName p (declare_again w p d ds (find_declared d.name ds)) (λ free. again_reg p d ds k e (find_declared d.name ds) refl)

  registers_reg : (b : Bounds) (i : Identifier) (e : Tree) (rs : List RegisterTree) (ds : List Declared) → Member (RegisterOf i (Some (Initially e))) rs → Holds (IsRegNamed i.name) (declare_registers w b rs ds)
  registers_reg b i e [] ds m = absurd m
  registers_reg b i e (RegisterOf j t ∷ rs) ds (inl h) =
      subst (λ (r : RegisterTree). Holds (IsRegNamed i.name) (declare_registers w b (r ∷ rs) ds)) h
      (holds_then (IsRegNamed i.name) (IsRegNamed i.name) (declare w i.at (declared_as None (Some Reg) b None i.name) ds) (declare_registers w b rs)
      (declare_reg i.at (declared_as None (Some Reg) b None i.name) ds refl refl) (λ es k. registers_hold w (IsRegNamed i.name) (reg_goes i.name) b rs es k))
  registers_reg b i e (RegisterOf j t ∷ rs) ds (inr m) =
      holds_then (λ (es : List Declared). Unit {0}) (IsRegNamed i.name) (declare_register w b j t ds) (declare_registers w b rs) (holds_any (declare_register w b j t ds)) (λ es k. registers_reg b i e rs es m)

  lines_reg : (p : ℕ) (r : Option RangeTree) (rs : List RegisterTree) (i : Identifier) (e : Tree) → Member (RegisterOf i (Some (Initially e))) rs → (is : List ItemTree) (ds : List Declared)
      → Member (ItemAt p (Registers r rs)) is → HoldsOk (IsRegNamed i.name) (declare_lines w is ds)
  lines_reg p r rs i e here [] ds m = absurd m
  lines_reg p r rs i e here (ItemAt q k ∷ is) ds (inl h) =
      subst (λ (x : ItemTree). HoldsOk (IsRegNamed i.name) (declare_lines w (x ∷ is) ds)) h
      (holds_next (IsRegNamed i.name) (IsRegNamed i.name) (ended (declare_line w (Registers r rs) ds)) (declare_lines w is)
      (holds_ended (IsRegNamed i.name) (declare_line w (Registers r rs) ds)
      (holds_then (λ (b : Bounds). Unit {0}) (IsRegNamed i.name) (vector_bounds r (known_names w)) (λ b. declare_registers w b rs ds) (holds_any (vector_bounds r (known_names w))) (λ b u. registers_reg b i e rs ds here)))
      (λ es g. lines_hold w (IsRegNamed i.name) (reg_goes i.name) is es g))
  lines_reg p r rs i e here (ItemAt q k ∷ is) ds (inr m) =
      holds_next (λ (es : List Declared). Unit {0}) (IsRegNamed i.name) (ended (declare_line w k ds)) (declare_lines w is) (holds_ok_any (ended (declare_line w k ds))) (λ es u. lines_reg p r rs i e here is es m)

  pub declared_reg : (m : ModuleTree) (p : ℕ) (r : Option RangeTree) (rs : List RegisterTree) (i : Identifier) (e : Tree) → Member (ItemAt p (Registers r rs)) (items_in m) → Member (RegisterOf i (Some (Initially e))) rs
      → HoldsOk (IsRegNamed i.name) (declarations w m)
  declared_reg m p r rs i e item here =
      holds_next (λ (ds : List Declared). Unit {0}) (IsRegNamed i.name) (header_declared w (ports_in m)) (declare_lines w (items_in m)) (holds_ok_any (header_declared w (ports_in m))) (λ ds u. lines_reg p r rs i e here (items_in m) ds item)

-- ---- each name once

not_there : (n : List ℕ) (ds : List Declared) → find_declared n ds ≡ None → Among n (names ds) → ⊥
not_there n [] h a = cc
not_there n (d ∷ ds) h a = go (bytes_eq d.name n) refl h (one_of_more n d.name (names ds) a) (not_there n ds)
  where
    go : (b : Bool) → bytes_eq d.name n ≡ b → (if b then Some d else find_declared n ds) ≡ None → (n ≡ d.name) ⊎ Among n (names ds) → (find_declared n ds ≡ None → Among n (names ds) → ⊥) → ⊥
    go true e f k later = cc
    go false e f (inl k) later = let g : bytes_eq d.name n ≡ true = ap (λ m. bytes_eq d.name m) k ∙ is_itself d.name in cc
    go false e f (inr k) later = later f k

put_names : (x : Declared) (ds : List Declared) → names (with_declared x ds) ≡ names ds
put_names x [] = refl
put_names x (d ∷ ds) = go (bytes_eq d.name x.name) refl (put_names x ds)
  where
    go : (b : Bool) → bytes_eq d.name x.name ≡ b → names (with_declared x ds) ≡ names ds → names (if b then x ∷ ds else d ∷ with_declared x ds) ≡ d.name ∷ names ds
    go true e h = ap (λ n. n ∷ names ds) (sym (same_name d.name x.name e))
    go false e h = ap (λ ns. d.name ∷ ns) h

abbrev name_is : Declared → List ℕ
name_is d = d.name

abbrev Once : List Declared → Type 0
Once ds = Differ (names ds)

once_goes : (w : Place) → shape.Goes w Once
once_goes w = record {
  none = tt;
  more = λ ds x h n. subst Differ (sym (map-append name_is ds (x ∷ []))) (differ_both (names ds) (x.name ∷ []) h ((λ a. cc), tt) (λ k a b. apart ds x n.new k a (one_of_more k x.name [] b)));
  again = λ ds x old h f. subst Differ (sym (put_names (whole_of old x) ds)) h;
}
  where
    apart : (ds : List Declared) (x : Declared) → find_declared x.name ds ≡ None → (k : List ℕ) → Among k (names ds) → (k ≡ x.name) ⊎ Among k [] → ⊥
    apart ds x new k a (inl e) = not_there x.name ds new (ap (λ n. list_any (bytes_eq n) (names ds)) (sym e) ∙ a)
    apart ds x new k a (inr b) = cc

among_names : (x : Declared) (ds : List Declared) → Member x ds → Among x.name (names ds)
among_names x [] m = absurd m
among_names x (d ∷ ds) (inl e) = ap (λ (y : Declared). list_any (bytes_eq y.name) (names (d ∷ ds))) e ∙ among_first d.name (names ds)
among_names x (d ∷ ds) (inr m) = among_later x.name d.name (names ds) (among_names x ds m)

find_once : (x : Declared) (ds : List Declared) → Member x ds → Once ds → find_declared x.name ds ≡ Some x
find_once x [] m h = absurd m
find_once x (d ∷ ds) (inl e) h = subst (λ (y : Declared). find_declared y.name (d ∷ ds) ≡ Some y) (sym e) (ap (λ b. if b then Some d else find_declared d.name ds) (is_itself d.name))
find_once x (d ∷ ds) (inr m) h = go (bytes_eq d.name x.name) refl (find_once x ds m h.1)
  where
    go : (b : Bool) → bytes_eq d.name x.name ≡ b → find_declared x.name ds ≡ Some x → (if b then Some d else find_declared x.name ds) ≡ Some x
    go true e k = absurd (h.0 (ap (λ n. list_any (bytes_eq n) (names ds)) (same_name d.name x.name e) ∙ among_names x ds m))
    go false e k = k

-- ---- in order

other_there : (x : Declared) (ns : List (List ℕ)) (ds : List Declared) → Member x ds → list_any (bytes_eq x.name) ns ≡ false → Member x (other_lines ns ds)
other_there x ns [] m h = absurd m
other_there x ns (d ∷ ds) (inl e) h = subst (λ (y : Declared). Member y (other_lines ns (d ∷ ds))) (sym e) (go (list_any (bytes_eq d.name) ns) (ap (λ (y : Declared). list_any (bytes_eq y.name) ns) (sym e) ∙ h))
  where
    go : (b : Bool) → b ≡ false → Member d (if b then other_lines ns ds else d ∷ other_lines ns ds)
    go false f = inl refl
    go true f = cc
other_there x ns (d ∷ ds) (inr m) h = go (list_any (bytes_eq d.name) ns) (other_there x ns ds m h)
  where
    go : (b : Bool) → Member x (other_lines ns ds) → Member x (if b then other_lines ns ds else d ∷ other_lines ns ds)
    go true k = k
    go false k = inr k

member_behind : (x : Declared) (xs ys : List Declared) → Member x ys → Member x (xs ++ ys)
member_behind x [] ys m = m
member_behind x (y ∷ xs) ys m = inr (member_behind x xs ys m)

order_there : (x : Declared) (ps : List Port) (ds : List Declared) → find_declared x.name ds ≡ Some x → Member x (in_order ps ds)
order_there x ps ds f = go (list_any (bytes_eq x.name) (map port_name ps)) refl
  where
    go : (b : Bool) → list_any (bytes_eq x.name) (map port_name ps) ≡ b → Member x (in_order ps ds)
    go true a =
        let q = named_member x.name ps a in
        member_before x (port_lines ps ds) (other_lines (map port_name ps) ds) (line_there x q.0 ps ds q.1 (ap (λ n. find_declared n ds) q.2 ∙ f))
    go false a = member_behind x (port_lines ps ds) (other_lines (map port_name ps) ds) (other_there x (map port_name ps) ds (found_member x.name ds x f).0 a)

-- the name means a register
pub reg_object : (m : ModuleTree) (d : Design) (constants : Entries) (ds : List Declared) → HasScope (length d.signals) (in_order (ports_of m) ds) (scope_of constants d (in_order (ports_of m) ds))
    → declarations (place_of m constants d) m ≡ Ok ds → (n : List ℕ) → IsRegNamed n ds
    → (o : DataObject) × (find n (scope_of constants d (in_order (ports_of m) ds)) ≡ Some (Object o)) × (o.kind ≡ Register)
reg_object m d constants ds scope e n h = (found.0, there, kind)
  where
    once : Once ds
    once = of_ok Once (declarations (place_of m constants d) m) ds (shape.declared_hold (place_of m constants d) Once (once_goes (place_of m constants d)) m) e

    own : Member h.one ds × (h.one.name ≡ n)
    own = found_member n ds h.one h.found

    free : is_free n constants ≡ true
    free =
        ap (λ k. is_free k constants) (sym own.1)
        ∙ of_ok (AreFree constants) (declarations (place_of m constants d) m) ds (shape.declared_hold (place_of m constants d) (AreFree constants) (free_goes (place_of m constants d)) m) e h.one own.0

    found : (o : DataObject) × (means (entries (length d.signals) (in_order (ports_of m) ds)) h.one.name ≡ Some (Object o))
    found = entry_there h.one (length d.signals) (in_order (ports_of m) ds) (order_there h.one (ports_of m) ds (ap (λ k. find_declared k ds) own.1 ∙ h.found))

    there : find n (scope_of constants d (in_order (ports_of m) ds)) ≡ Some (Object found.0)
    there = free_passed n constants (entries (length d.signals) (in_order (ports_of m) ds)) free ∙ ap (means (entries (length d.signals) (in_order (ports_of m) ds))) (sym own.1) ∙ found.1

    kind : found.0.kind ≡ Register
    kind =
        let x = placed_member n found.0 (length d.signals) (in_order (ports_of m) ds) (scope n found.0 there) in
        let f : find_declared x.0.name ds ≡ Some x.0 = find_once x.0 ds (order_member x.0 (ports_of m) ds x.1) once in
        let one : x.0 ≡ h.one = (let k : Some x.0 ≡ Some h.one = sym f ∙ ap (λ k. find_declared k ds) x.2 ∙ h.found in cc) in
        x.3 ∙ ap (λ (y : Declared). kind_of y.direction y.sort) one ∙ reg_kind h.one.direction h.one.sort h.sort h.input
