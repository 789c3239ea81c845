-- What is known of declarations by their directions and sorts: a memory is a register, and each port has the direction that its module gives it.
use Rattle.std.proofs.Common.{◌≡◌, ◌+◌, ◌&&◌, ◌||◌, ◌⊎◌, inl, inr, ◌∙◌, ℕ, Bool, true, false, not, List, [], ◌∷◌, ◌++◌, map, nat_le, Option, Some, None, is_none, Ok, Err, Result, refl, sym, ap, subst, if◌then◌else◌}
use Rattle.std.specs.Prelude.{bytes_eq}
use Rattle.std.specs.List.{list_any}
use Rattle.std.specs.Option.{is_some, option_or}
use Rattle.v_syntax.specs.declared.statement.Identifier.{Identifier}
use Rattle.v_syntax.specs.declared.item.Direction.{Direction}
use Rattle.v_syntax.specs.SourceTrees.{RangeTree, Head, PortHeadTree, TailTree, Words, Initially, RegisterTree, Register as RegisterOf, KindTree, Ports, Nets, Registers, Integers, Parameters, Drivers, Always, Initial, Instance, ItemTree, ItemAt, HeaderPortsTree, NamedPorts, DeclaredPorts, ModuleTree}
use Rattle.v_flat.specs.declared.scope.rule.Broken.{Broken}
use Rattle.v_flat.specs.declared.scope.rule.ElabRule.TheVariants as rule
use Rattle.v_flat.specs.declared.scope.found.Found.{Found}
use Rattle.v_flat.specs.declared.scope.found.Found.TheVariants.{Sound}
use Rattle.v_flat.specs.Scope.Found.{Holds, HoldsOk, and_then, ended, fine, needs, next}
use Rattle.v_flat.specs.declared.scope.meaning.Bounds.{Bounds}
use Rattle.v_flat.specs.Scope.Limits.{most_parts}
use Rattle.v_flat.specs.Objects.{count_of}
use Rattle.v_flat.specs.Headers.{HeadedPort, Port, declared_direction, direction_of, first_head, headed, headed_port, header_ports, items_in, name_of, ports_in, ports_of}
use Rattle.v_flat.specs.Declarations.{Declared, Integer, Place, Reg, Sort, Wire, are_halves, bounds_in, declarations, declare, declare_again, declare_all, declare_header, declare_line, declare_lines, declare_memory, declare_ports, declare_register, declare_registers, declared_as, declared_too, find_declared, find_direction, header_declared, integer_bounds, is_direction_alone, is_free, is_input_reg, is_net_or_reg, is_new, is_port, is_sort_alone, known_names, names_checked, net_identifier, port_checked, same_bounds, signals_in, sort_of, vector_bounds, whole_of, with_declared}
use Rattle.v_flat.proofs.Holds.{holds_any, holds_ended, holds_needs, holds_next, holds_ok_any, holds_then, holds_wants}
use Rattle.v_flat.proofs.ShapeLemmas.Names.{Among, is_itself, same_name}
use Rattle.v_laws.proofs.Members.{Member, member_both, member_map}

-- a memory has no direction, and is declared with `reg`
abbrev pub IsPlain : Declared → Type 0
IsPlain x = (w : Bounds) → x.words ≡ Some w → (x.direction ≡ None) × (x.sort ≡ Some Reg)

-- P holds from one declaration to the next
pub record Goes (P : List Declared → Type 0) : Type 0 where
  pub more : (ds : List Declared) (x : Declared) → P ds → IsPlain x → find_declared x.name ds ≡ None → P (ds ++ (x ∷ []))
  pub again : (ds : List Declared) (x old : Declared) → P ds → find_declared x.name ds ≡ Some old → are_halves old x ≡ true
      → not (is_input_reg (whole_of old x).direction (whole_of old x).sort) ≡ true → P (with_declared (whole_of old x) ds)

pub both_true : (a b : Bool) → (a && b) ≡ true → (a ≡ true) × (b ≡ true)
both_true true b h = (refl, h)
both_true false b h = cc

none_there : (o : Option Declared) → is_none o ≡ true → o ≡ None
none_there None h = refl
none_there (Some d) h = cc

module _ (w : Place) (P : List Declared → Type 0) (goes : Goes P) where
  checked_holds : (p : ℕ) (d : Declared) (x : Found (List Declared)) → Holds P x → Holds P (port_checked w p d x)
  checked_holds p d x h = holds_wants P (is_port d.direction d.name w.ports && not (is_input_reg d.direction d.sort)) rule.BadPort p x (λ t. h)

  too_holds : (p : ℕ) (d : Declared) (ds : List Declared) → P ds → IsPlain d → find_declared d.name ds ≡ None → Holds P (declared_too w p d ds)
  too_holds p d ds h plain new =
      holds_wants P (nat_le (w.first + (signals_in ds + count_of d.words)) most_parts) rule.TooMany p (Sound (ds ++ (d ∷ []))) (λ t. goes.more ds d h plain new)

  again_holds : (p : ℕ) (d : Declared) (ds : List Declared) (o : Option Declared) → o ≡ find_declared d.name ds → P ds → IsPlain d → Holds P (declare_again w p d ds o)
  again_holds p d ds None e h plain = checked_holds p d (declared_too w p d ds) (too_holds p d ds h plain (sym e))
  again_holds p d ds (Some old) e h plain =
      holds_needs P (are_halves old d && same_bounds old.bounds d.bounds) rule.DuplicateName p (port_checked w p (whole_of old d) (Sound (with_declared (whole_of old d) ds)))
      (λ t. holds_wants P (is_port (whole_of old d).direction (whole_of old d).name w.ports && not (is_input_reg (whole_of old d).direction (whole_of old d).sort)) rule.BadPort p
      (Sound (with_declared (whole_of old d) ds))
      (λ u. goes.again ds d old h (sym e) (both_true (are_halves old d) (same_bounds old.bounds d.bounds) t).0
      (both_true (is_port (whole_of old d).direction (whole_of old d).name w.ports) (not (is_input_reg (whole_of old d).direction (whole_of old d).sort)) u).1))

  declare_holds : (p : ℕ) (d : Declared) (ds : List Declared) → P ds → IsPlain d → Holds P (declare w p d ds)
  declare_holds p d ds h plain =
      holds_needs P (is_free d.name w.constants) rule.DuplicateName p (declare_again w p d ds (find_declared d.name ds)) (λ free. again_holds p d ds (find_declared d.name ds) refl h plain)

  pub all_hold : (d : Option Direction) (k : Option Sort) (b : Bounds) (is : List Identifier) (ds : List Declared) → P ds → Holds P (declare_all w d k b is ds)
  all_hold d k b [] ds h = h
  all_hold d k b (i ∷ is) ds h =
      holds_then P P (declare w i.at (declared_as d k b None i.name) ds) (declare_all w d k b is) (declare_holds i.at (declared_as d k b None i.name) ds h (λ v e. cc)) (λ es g. all_hold d k b is es g)

  memory_holds : (b : Bounds) (i : Identifier) (r : RangeTree) (ds : List Declared) → P ds → Holds P (declare_memory w b i r ds)
  memory_holds b i r ds h =
      holds_needs P (is_new i.name w ds) rule.DuplicateName i.at (and_then (bounds_in r (known_names w)) (λ x. declared_too w i.at (declared_as None (Some Reg) b (Some x) i.name) ds))
      (λ t. holds_then (λ (x : Bounds). Unit {0}) P (bounds_in r (known_names w)) (λ x. declared_too w i.at (declared_as None (Some Reg) b (Some x) i.name) ds) (holds_any (bounds_in r (known_names w)))
      (λ x u. too_holds i.at (declared_as None (Some Reg) b (Some x) i.name) ds h (λ v e. (refl, refl)) (none_there (find_declared i.name ds) (both_true (is_free i.name w.constants) (is_none (find_declared i.name ds)) t).1)))

  pub register_holds : (b : Bounds) (i : Identifier) (t : Option TailTree) (ds : List Declared) → P ds → Holds P (declare_register w b i t ds)
  register_holds b i None ds h = declare_holds i.at (declared_as None (Some Reg) b None i.name) ds h (λ v e. cc)
  register_holds b i (Some (Words r)) ds h = memory_holds b i r ds h
  register_holds b i (Some (Initially e)) ds h = declare_holds i.at (declared_as None (Some Reg) b None i.name) ds h (λ v e. cc)

  pub registers_hold : (b : Bounds) (rs : List RegisterTree) (ds : List Declared) → P ds → Holds P (declare_registers w b rs ds)
  registers_hold b [] ds h = h
  registers_hold b (RegisterOf i t ∷ rs) ds h = holds_then P P (declare_register w b i t ds) (declare_registers w b rs) (register_holds b i t ds h) (λ es k. registers_hold b rs es k)

  ports_hold : (g : PortHeadTree) (is : List Identifier) (ds : List Declared) → P ds → Holds P (declare_ports w g is ds)
  ports_hold (Head d k r) is ds h =
      holds_then (λ (b : Bounds). Unit {0}) P (vector_bounds r (known_names w)) (λ b. declare_all w (Some d) (sort_of k) b is ds) (holds_any (vector_bounds r (known_names w))) (λ b u. all_hold (Some d) (sort_of k) b is ds h)

  line_holds : (k : KindTree) (ds : List Declared) → P ds → Holds P (declare_line w k ds)
  line_holds (Ports g is) ds h = ports_hold g is ds h
  line_holds (Nets r ns) ds h =
      holds_then (λ (b : Bounds). Unit {0}) P (vector_bounds r (known_names w)) (λ b. declare_all w None (Some Wire) b (map net_identifier ns) ds) (holds_any (vector_bounds r (known_names w)))
      (λ b u. all_hold None (Some Wire) b (map net_identifier ns) ds h)
  line_holds (Registers r rs) ds h =
      holds_then (λ (b : Bounds). Unit {0}) P (vector_bounds r (known_names w)) (λ b. declare_registers w b rs ds) (holds_any (vector_bounds r (known_names w))) (λ b u. registers_hold b rs ds h)
  line_holds (Integers is) ds h = all_hold None (Some Integer) integer_bounds is ds h
  line_holds (Parameters k r ps) ds h = h
  line_holds (Drivers xs) ds h = h
  line_holds (Always c b) ds h = h
  line_holds (Initial b) ds h = h
  line_holds (Instance m v i c) ds h = h

  pub lines_hold : (is : List ItemTree) (ds : List Declared) → P ds → HoldsOk P (declare_lines w is ds)
  lines_hold [] ds h = h
  lines_hold (ItemAt p k ∷ is) ds h =
      holds_next P P (ended (declare_line w k ds)) (declare_lines w is) (holds_ended P (declare_line w k ds) (line_holds k ds h)) (λ es g. lines_hold is es g)

  pub header_holds : (ps : List HeadedPort) (ds : List Declared) → P ds → HoldsOk P (declare_header w ps ds)
  header_holds [] ds h = h
  header_holds (p ∷ ps) ds h =
      holds_next P P (ended (declare_ports w p.head (p.name ∷ []) ds)) (declare_header w ps) (holds_ended P (declare_ports w p.head (p.name ∷ []) ds) (ports_hold p.head (p.name ∷ []) ds h)) (λ es g. header_holds ps es g)

-- ---- memories

abbrev pub ArePlain : List Declared → Type 0
ArePlain ds = (x : Declared) → Member x ds → IsPlain x

pub found_member : (n : List ℕ) (ds : List Declared) (x : Declared) → find_declared n ds ≡ Some x → Member x ds × (x.name ≡ n)
found_member n [] x h = cc
found_member n (d ∷ ds) x h = go (bytes_eq d.name n) refl h (found_member n ds x)
  where
    go : (b : Bool) → bytes_eq d.name n ≡ b → (if b then Some d else find_declared n ds) ≡ Some x → (find_declared n ds ≡ Some x → Member x ds × (x.name ≡ n)) → Member x (d ∷ ds) × (x.name ≡ n)
    go true e f later = let k : x ≡ d = cc in (inl k, ap (λ (y : Declared). y.name) k ∙ same_name d.name n e)
    go false e f later = let r = later f in (inr r.0, r.1)

pub put_member : (y : Declared) (ds : List Declared) (x : Declared) → Member x (with_declared y ds) → (x ≡ y) ⊎ Member x ds
put_member y [] x h = absurd h
put_member y (d ∷ ds) x h = go (bytes_eq d.name y.name) h (put_member y ds x)
  where
    join : (x ≡ y) ⊎ Member x ds → (x ≡ y) ⊎ Member x (d ∷ ds)
    join (inl a) = inl a
    join (inr a) = inr (inr a)

    later : (Member x (with_declared y ds) → (x ≡ y) ⊎ Member x ds) → Member x (d ∷ with_declared y ds) → (x ≡ y) ⊎ Member x (d ∷ ds)
    later k (inl e) = inr (inl e)
    later k (inr g) = join (k g)

    here : Member x (y ∷ ds) → (x ≡ y) ⊎ Member x (d ∷ ds)
    here (inl a) = inl a
    here (inr a) = inr (inr a)

    go : (b : Bool) → Member x (if b then y ∷ ds else d ∷ with_declared y ds) → (Member x (with_declared y ds) → (x ≡ y) ⊎ Member x ds) → (x ≡ y) ⊎ Member x (d ∷ ds)
    go true g k = here g
    go false g k = later k g

no_halves : (a b c u v n t : Bool) → a ≡ false → n ≡ false → (((a && b) && c) || ((u && (v && n)) && t)) ≡ true → ⊥
no_halves true b c u v n t h k e = cc
no_halves false b c u v true t h k e = cc
no_halves false b c false v false t h k e = cc
no_halves false b c true false false t h k e = cc
no_halves false b c true true false t h k e = cc

-- a memory is no half of a declaration
whole_plain : (old x : Declared) → IsPlain old → are_halves old x ≡ true → IsPlain (whole_of old x)
whole_plain old x plain h w e =
    let p = plain w e in
    absurd (no_halves (is_some old.direction) (is_none old.sort) (is_sort_alone x) (is_none old.direction) (is_net_or_reg old.sort) (is_none old.words) (is_direction_alone x) (ap is_some p.0) (ap is_none e) h)

plain_goes : Goes ArePlain
plain_goes = record {
  more = λ ds x h plain new y m. added ds x h plain y (member_both y ds (x ∷ []) m);
  again = λ ds x old h f halves free y m. put ds x old h f halves y (put_member (whole_of old x) ds y m);
}
  where
    added : (ds : List Declared) (x : Declared) → ArePlain ds → IsPlain x → (y : Declared) → Member y ds ⊎ Member y (x ∷ []) → IsPlain y
    added ds x h plain y (inl m) = h y m
    added ds x h plain y (inr (inl e)) = subst IsPlain (sym e) plain
    added ds x h plain y (inr (inr m)) = absurd m

    put : (ds : List Declared) (x old : Declared) → ArePlain ds → find_declared x.name ds ≡ Some old → are_halves old x ≡ true → (y : Declared) → (y ≡ whole_of old x) ⊎ Member y ds → IsPlain y
    put ds x old h f halves y (inl e) = subst IsPlain (sym e) (whole_plain old x (h old (found_member x.name ds old f).0) halves)
    put ds x old h f halves y (inr m) = h y m

pub plain_declared : (w : Place) (m : ModuleTree) → HoldsOk ArePlain (declarations w m)
plain_declared w m = holds_next ArePlain ArePlain (header_declared w (ports_in m)) (declare_lines w (items_in m)) (by_header (ports_in m)) (λ ds h. lines_hold w ArePlain plain_goes (items_in m) ds h)
  where
    by_header : (ps : HeaderPortsTree) → HoldsOk ArePlain (header_declared w ps)
    by_header (NamedPorts is) = holds_next (λ (u : Unit {0}). Unit {0}) ArePlain (names_checked w [] is) (λ u. Ok []) (holds_ok_any (names_checked w [] is)) (λ u t x g. absurd g)
    by_header (DeclaredPorts ps) = header_holds w ArePlain plain_goes (headed first_head ps) [] (λ x g. absurd g)

-- ---- directions

-- the name is declared, with this direction
pub record IsDirected (n : List ℕ) (dir : Direction) (ds : List Declared) : Type 0 where
  pub one : Declared
  pub found : find_declared n ds ≡ Some one
  pub is : one.direction ≡ Some dir

pub find_more : (n : List ℕ) (ds es : List Declared) (x : Declared) → find_declared n ds ≡ Some x → find_declared n (ds ++ es) ≡ Some x
find_more n [] es x h = cc
find_more n (d ∷ ds) es x h = go (bytes_eq d.name n) h (find_more n ds es x)
  where
    go : (b : Bool) → (if b then Some d else find_declared n ds) ≡ Some x → (find_declared n ds ≡ Some x → find_declared n (ds ++ es) ≡ Some x)
        → (if b then Some d else find_declared n (ds ++ es)) ≡ Some x
    go true f later = f
    go false f later = later f

pub find_last : (x : Declared) (ds : List Declared) → find_declared x.name ds ≡ None → find_declared x.name (ds ++ (x ∷ [])) ≡ Some x
find_last x [] h = ap (λ b. if b then Some x else None) (is_itself x.name)
find_last x (d ∷ ds) h = go (bytes_eq d.name x.name) h (find_last x ds)
  where
    go : (b : Bool) → (if b then Some d else find_declared x.name ds) ≡ None → (find_declared x.name ds ≡ None → find_declared x.name (ds ++ (x ∷ [])) ≡ Some x)
        → (if b then Some d else find_declared x.name (ds ++ (x ∷ []))) ≡ Some x
    go true f later = cc
    go false f later = later f

pub put_same : (y : Declared) (ds : List Declared) (old : Declared) → find_declared y.name ds ≡ Some old → find_declared y.name (with_declared y ds) ≡ Some y
put_same y [] old h = cc
put_same y (d ∷ ds) old h = go (bytes_eq d.name y.name) refl h (put_same y ds old)
  where
    go : (b : Bool) → bytes_eq d.name y.name ≡ b → (if b then Some d else find_declared y.name ds) ≡ Some old
        → (find_declared y.name ds ≡ Some old → find_declared y.name (with_declared y ds) ≡ Some y) → find_declared y.name (if b then y ∷ ds else d ∷ with_declared y ds) ≡ Some y
    go true e f later = ap (λ b. if b then Some y else find_declared y.name ds) (is_itself y.name)
    go false e f later = ap (λ b. if b then Some d else find_declared y.name (with_declared y ds)) e ∙ later f

pub put_other : (n : List ℕ) (y : Declared) (ds : List Declared) → bytes_eq y.name n ≡ false → find_declared n (with_declared y ds) ≡ find_declared n ds
put_other n y [] h = refl
put_other n y (d ∷ ds) h = go (bytes_eq d.name y.name) refl (put_other n y ds h)
  where
    go : (b : Bool) → bytes_eq d.name y.name ≡ b → find_declared n (with_declared y ds) ≡ find_declared n ds → find_declared n (if b then y ∷ ds else d ∷ with_declared y ds) ≡ find_declared n (d ∷ ds)
    go true e later =
        ap (λ b. if b then Some y else find_declared n ds) h
        ∙ sym (ap (λ b. if b then Some d else find_declared n ds) (ap (λ m. bytes_eq m n) (same_name d.name y.name e) ∙ h))
    go false e later = ap (λ o. if bytes_eq d.name n then Some d else o) later

or_some : (o p : Option Direction) (d : Direction) → o ≡ Some d → option_or o p ≡ Some d
or_some (Some e) p d h = h
or_some None p d h = cc

directed_goes : (n : List ℕ) (dir : Direction) → Goes (IsDirected n dir)
directed_goes n dir = record {
  more = λ ds x h plain new. record { one = h.one; found = find_more n ds (x ∷ []) h.one h.found; is = h.is };
  again = λ ds x old h f halves free. put ds x old h f (bytes_eq old.name n) refl;
}
  where
    put : (ds : List Declared) (x old : Declared) → IsDirected n dir ds → find_declared x.name ds ≡ Some old → (b : Bool) → bytes_eq old.name n ≡ b → IsDirected n dir (with_declared (whole_of old x) ds)
    put ds x old h f true e = record {
      one = whole_of old x;
      found = subst (λ m. find_declared m (with_declared (whole_of old x) ds) ≡ Some (whole_of old x)) same (put_same (whole_of old x) ds old there);
      is = or_some old.direction x.direction dir (ap (λ (y : Declared). y.direction) one ∙ h.is);
    }
      where
        same : old.name ≡ n
        same = same_name old.name n e

        there : find_declared old.name ds ≡ Some old
        there = ap (λ m. find_declared m ds) (found_member x.name ds old f).1 ∙ f

        one : old ≡ h.one
        one = let k : Some old ≡ Some h.one = sym there ∙ ap (λ m. find_declared m ds) same ∙ h.found in cc
    put ds x old h f false e = record { one = h.one; found = put_other n (whole_of old x) ds e ∙ h.found; is = h.is }

-- the second half has no direction where the first has one, and the other way round
pub other_half : (a b c u v n t : Bool) → u ≡ false → (((a && b) && (u && v)) || ((c && n) && t)) ≡ true → c ≡ true
other_half a b true u v n t h e = refl
other_half a b c true v n t h e = cc
other_half true true false false v n t h e = cc
other_half true false false false v n t h e = cc
other_half false b false false v n t h e = cc

pub no_direction : (o : Option Direction) → is_none o ≡ true → o ≡ None
no_direction None h = refl
no_direction (Some d) h = cc

module _ (w : Place) where
  whole_directed : (d old : Declared) (dir : Direction) → d.direction ≡ Some dir → are_halves old d ≡ true → (whole_of old d).direction ≡ Some dir
  whole_directed d old dir e h =
      let k : is_none old.direction ≡ true = other_half (is_some old.direction) (is_none old.sort) (is_none old.direction) (is_none d.direction) (is_net_or_reg d.sort && is_none d.words)
      (is_net_or_reg old.sort && is_none old.words) (is_direction_alone d) (ap is_none e) h in
      ap (λ o. option_or o d.direction) (no_direction old.direction k) ∙ e

  again_directs : (p : ℕ) (d : Declared) (ds : List Declared) (dir : Direction) → d.direction ≡ Some dir → (o : Option Declared) → o ≡ find_declared d.name ds → Holds (IsDirected d.name dir) (declare_again w p d ds o)
  again_directs p d ds dir e None f =
      holds_wants (IsDirected d.name dir) (is_port d.direction d.name w.ports && not (is_input_reg d.direction d.sort)) rule.BadPort p (declared_too w p d ds)
      (λ t. holds_wants (IsDirected d.name dir) (nat_le (w.first + (signals_in ds + count_of d.words)) most_parts) rule.TooMany p (Sound (ds ++ (d ∷ [])))
      (λ u. record { one = d; found = find_last d ds (sym f); is = e }))
  again_directs p d ds dir e (Some old) f =
      holds_needs (IsDirected d.name dir) (are_halves old d && same_bounds old.bounds d.bounds) rule.DuplicateName p (port_checked w p (whole_of old d) (Sound (with_declared (whole_of old d) ds)))
      (λ t. holds_wants (IsDirected d.name dir) (is_port (whole_of old d).direction (whole_of old d).name w.ports && not (is_input_reg (whole_of old d).direction (whole_of old d).sort)) rule.BadPort p
      (Sound (with_declared (whole_of old d) ds))
      (λ u. record {
        one = whole_of old d;
        found = subst (λ m. find_declared m (with_declared (whole_of old d) ds) ≡ Some (whole_of old d)) same (put_same (whole_of old d) ds old (ap (λ m. find_declared m ds) same ∙ sym f));
        is = whole_directed d old dir e (both_true (are_halves old d) (same_bounds old.bounds d.bounds) t).0;
      }))
    where
      same : old.name ≡ d.name
      same = (found_member d.name ds old (sym f)).1

  declare_directs : (p : ℕ) (d : Declared) (ds : List Declared) (dir : Direction) → d.direction ≡ Some dir → Holds (IsDirected d.name dir) (declare w p d ds)
  declare_directs p d ds dir e =
      holds_needs (IsDirected d.name dir) (is_free d.name w.constants) rule.DuplicateName p (declare_again w p d ds (find_declared d.name ds)) (λ free. again_directs p d ds dir e (find_declared d.name ds) refl)

  all_direct : (n : List ℕ) (dir : Direction) (k : Option Sort) (b : Bounds) (is : List Identifier) (ds : List Declared) → Among n (map name_of is) → Holds (IsDirected n dir) (declare_all w (Some dir) k b is ds)
  all_direct n dir k b [] ds a = cc
  all_direct n dir k b (i ∷ is) ds a = go (bytes_eq n i.name) refl a (all_direct n dir k b is)
    where
      go : (t : Bool) → bytes_eq n i.name ≡ t → (t || list_any (bytes_eq n) (map name_of is)) ≡ true
          → ((es : List Declared) → Among n (map name_of is) → Holds (IsDirected n dir) (declare_all w (Some dir) k b is es)) → Holds (IsDirected n dir) (declare_all w (Some dir) k b (i ∷ is) ds)
      go true e f later =
          holds_then (IsDirected n dir) (IsDirected n dir) (declare w i.at (declared_as (Some dir) k b None i.name) ds) (declare_all w (Some dir) k b is)
          (subst (λ m. Holds (IsDirected m dir) (declare w i.at (declared_as (Some dir) k b None i.name) ds)) (sym (same_name n i.name e)) (declare_directs i.at (declared_as (Some dir) k b None i.name) ds dir refl))
          (λ es g. all_hold w (IsDirected n dir) (directed_goes n dir) (Some dir) k b is es g)
      go false e f later =
          holds_then (λ (es : List Declared). Unit {0}) (IsDirected n dir) (declare w i.at (declared_as (Some dir) k b None i.name) ds) (declare_all w (Some dir) k b is)
          (holds_any (declare w i.at (declared_as (Some dir) k b None i.name) ds)) (λ es g. later es f)

  ports_direct : (n : List ℕ) (g : PortHeadTree) (is : List Identifier) (ds : List Declared) → Among n (map name_of is) → Holds (IsDirected n (direction_of g)) (declare_ports w g is ds)
  ports_direct n (Head d k r) is ds a =
      holds_then (λ (b : Bounds). Unit {0}) (IsDirected n d) (vector_bounds r (known_names w)) (λ b. declare_all w (Some d) (sort_of k) b is ds) (holds_any (vector_bounds r (known_names w)))
      (λ b u. all_direct n d (sort_of k) b is ds a)

  pub later_lines : (n : List ℕ) (dir : Direction) (k : KindTree) (is : List ItemTree) (ds : List Declared) → ((es : List Declared) → HoldsOk (IsDirected n dir) (declare_lines w is es))
      → HoldsOk (IsDirected n dir) (next (ended (declare_line w k ds)) (declare_lines w is))
  later_lines n dir k is ds h =
      holds_next (λ (es : List Declared). Unit {0}) (IsDirected n dir) (ended (declare_line w k ds)) (declare_lines w is) (holds_ok_any (ended (declare_line w k ds))) (λ es u. h es)

  lines_direct : (n : List ℕ) (dir : Direction) (is : List ItemTree) (ds : List Declared) → declared_direction n is ≡ Some dir → HoldsOk (IsDirected n dir) (declare_lines w is ds)
  lines_direct n dir [] ds h = cc
  lines_direct n dir (ItemAt p (Ports g is) ∷ rest) ds h = go (list_any (bytes_eq n) (map name_of is)) refl h (lines_direct n dir rest)
    where
      go : (t : Bool) → list_any (bytes_eq n) (map name_of is) ≡ t → (if t then Some (direction_of g) else declared_direction n rest) ≡ Some dir
          → ((es : List Declared) → declared_direction n rest ≡ Some dir → HoldsOk (IsDirected n dir) (declare_lines w rest es)) → HoldsOk (IsDirected n dir) (declare_lines w (ItemAt p (Ports g is) ∷ rest) ds)
      go true a f later =
          let e : direction_of g ≡ dir = cc in
          holds_next (IsDirected n dir) (IsDirected n dir) (ended (declare_ports w g is ds)) (declare_lines w rest)
          (holds_ended (IsDirected n dir) (declare_ports w g is ds) (subst (λ (x : Direction). Holds (IsDirected n x) (declare_ports w g is ds)) e (ports_direct n g is ds a)))
          (λ es k. lines_hold w (IsDirected n dir) (directed_goes n dir) rest es k)
      go false a f later = later_lines n dir (Ports g is) rest ds (λ es. later es f)
  lines_direct n dir (ItemAt p (Nets r ns) ∷ rest) ds h = later_lines n dir (Nets r ns) rest ds (λ es. lines_direct n dir rest es h)
  lines_direct n dir (ItemAt p (Registers r rs) ∷ rest) ds h = later_lines n dir (Registers r rs) rest ds (λ es. lines_direct n dir rest es h)
  lines_direct n dir (ItemAt p (Integers is) ∷ rest) ds h = later_lines n dir (Integers is) rest ds (λ es. lines_direct n dir rest es h)
  lines_direct n dir (ItemAt p (Parameters k r ps) ∷ rest) ds h = later_lines n dir (Parameters k r ps) rest ds (λ es. lines_direct n dir rest es h)
  lines_direct n dir (ItemAt p (Drivers xs) ∷ rest) ds h = later_lines n dir (Drivers xs) rest ds (λ es. lines_direct n dir rest es h)
  lines_direct n dir (ItemAt p (Always c b) ∷ rest) ds h = later_lines n dir (Always c b) rest ds (λ es. lines_direct n dir rest es h)
  lines_direct n dir (ItemAt p (Initial b) ∷ rest) ds h = later_lines n dir (Initial b) rest ds (λ es. lines_direct n dir rest es h)
  lines_direct n dir (ItemAt p (Instance m v i c) ∷ rest) ds h = later_lines n dir (Instance m v i c) rest ds (λ es. lines_direct n dir rest es h)

  header_directs : (p : HeadedPort) (ps : List HeadedPort) (ds : List Declared) → Member p ps → HoldsOk (IsDirected p.name.name (direction_of p.head)) (declare_header w ps ds)
  header_directs p [] ds h = absurd h
  header_directs p (q ∷ ps) ds (inl e) =
      subst (λ (r : HeadedPort). HoldsOk (IsDirected r.name.name (direction_of r.head)) (declare_header w (q ∷ ps) ds)) (sym e)
      (holds_next (IsDirected q.name.name (direction_of q.head)) (IsDirected q.name.name (direction_of q.head)) (ended (declare_ports w q.head (q.name ∷ []) ds)) (declare_header w ps)
      (holds_ended (IsDirected q.name.name (direction_of q.head)) (declare_ports w q.head (q.name ∷ []) ds)
      (ports_direct q.name.name q.head (q.name ∷ []) ds (ap (λ b. b || false) (is_itself q.name.name))))
      (λ es k. header_holds w (IsDirected q.name.name (direction_of q.head)) (directed_goes q.name.name (direction_of q.head)) ps es k))
  header_directs p (q ∷ ps) ds (inr m) =
      holds_next (λ (es : List Declared). Unit {0}) (IsDirected p.name.name (direction_of p.head)) (ended (declare_ports w q.head (q.name ∷ []) ds)) (declare_header w ps)
      (holds_ok_any (ended (declare_ports w q.head (q.name ∷ []) ds))) (λ es u. header_directs p ps es m)

  -- each name of a header has a direction
  names_direct : (i : Identifier) (is : List Identifier) (seen : List (List ℕ)) → Member i is → HoldsOk (λ (u : Unit {0}). find_direction i.name w.ports ≡ true) (names_checked w seen is)
  names_direct i [] seen m = absurd m
  names_direct i (j ∷ is) seen (inl e) =
      holds_next (λ (u : Unit {0}). find_direction j.name w.ports ≡ true) (λ (u : Unit {0}). find_direction i.name w.ports ≡ true)
      (ended (needs (not (list_any (bytes_eq j.name) seen) && find_direction j.name w.ports) rule.BadPort j.at fine)) (λ u. names_checked w (j.name ∷ seen) is)
      (holds_ended (λ (u : Unit {0}). find_direction j.name w.ports ≡ true) (needs (not (list_any (bytes_eq j.name) seen) && find_direction j.name w.ports) rule.BadPort j.at fine)
      (holds_needs (λ (u : Unit {0}). find_direction j.name w.ports ≡ true) (not (list_any (bytes_eq j.name) seen) && find_direction j.name w.ports) rule.BadPort j.at fine
      (λ t. (both_true (not (list_any (bytes_eq j.name) seen)) (find_direction j.name w.ports) t).1)))
      (λ u h. known (names_checked w (j.name ∷ seen) is) (ap (λ (x : Identifier). find_direction x.name w.ports) e ∙ h))
    where
      known : {Q : Type 0} (r : Result (Unit {0}) Broken) → Q → HoldsOk (λ (u : Unit {0}). Q) r
      known (Ok u) q = q
      known (Err b) q = tt
  names_direct i (j ∷ is) seen (inr m) =
      holds_next (λ (u : Unit {0}). Unit {0}) (λ (u : Unit {0}). find_direction i.name w.ports ≡ true)
      (ended (needs (not (list_any (bytes_eq j.name) seen) && find_direction j.name w.ports) rule.BadPort j.at fine)) (λ u. names_checked w (j.name ∷ seen) is)
      (holds_ok_any (ended (needs (not (list_any (bytes_eq j.name) seen) && find_direction j.name w.ports) rule.BadPort j.at fine))) (λ u t. names_direct i is (j.name ∷ seen) m)

abbrev named_port : List ItemTree → Identifier → Port
named_port is i = record { name = i.name; direction = declared_direction i.name is }

find_some : (n : List ℕ) (is : List ItemTree) (ps : List Port) → ((q : Port) → Member q ps → q.direction ≡ declared_direction q.name is) → find_direction n ps ≡ true → is_some (declared_direction n is) ≡ true
find_some n is [] all h = cc
find_some n is (q ∷ ps) all h = go (bytes_eq q.name n) refl h (find_some n is ps (λ r m. all r (inr m)))
  where
    go : (b : Bool) → bytes_eq q.name n ≡ b → (if b then is_some q.direction else find_direction n ps) ≡ true → (find_direction n ps ≡ true → is_some (declared_direction n is) ≡ true)
        → is_some (declared_direction n is) ≡ true
    go true e f later = ap (λ m. is_some (declared_direction m is)) (sym (same_name q.name n e)) ∙ ap is_some (sym (all q (inl refl))) ∙ f
    go false e f later = later f

-- a port has a direction, and is declared with it
pub record HasDirection (p : Port) (ds : List Declared) : Type 0 where
  pub direction : Direction
  pub is : p.direction ≡ Some direction
  pub declared : IsDirected p.name direction ds

pub directed : (w : Place) (m : ModuleTree) (p : Port) → w.ports ≡ ports_of m → Member p (ports_of m) → HoldsOk (HasDirection p) (declarations w m)
directed w m p ports here = by_header (ports_in m) refl
  where
    named : (ns : List Identifier) → ports_in m ≡ NamedPorts ns → (o : Option Direction) → declared_direction p.name (items_in m) ≡ o → p.direction ≡ declared_direction p.name (items_in m) → is_some o ≡ true
        → (ds : List Declared) → HoldsOk (HasDirection p) (declare_lines w (items_in m) ds)
    named ns f None e g h ds = cc
    named ns f (Some dir) e g h ds = weaker (declare_lines w (items_in m) ds) (lines_direct w p.name dir (items_in m) ds e)
      where
        weaker : (r : Result (List Declared) Broken) → HoldsOk (IsDirected p.name dir) r → HoldsOk (HasDirection p) r
        weaker (Ok es) k = record { direction = dir; is = g ∙ e; declared = k }
        weaker (Err b) k = tt

    is_named : (ns : List Identifier) → ports_in m ≡ NamedPorts ns → (q : Port) → Member q (ports_of m) → (i : Identifier) × Member i ns × (q ≡ named_port (items_in m) i)
    is_named ns f q k =
        member_map (named_port (items_in m)) q ns (subst (λ (ps : HeaderPortsTree). Member q (header_ports ps (items_in m))) f k)

    by_names : (ns : List Identifier) → ports_in m ≡ NamedPorts ns → HoldsOk (HasDirection p) (next (header_declared w (NamedPorts ns)) (declare_lines w (items_in m)))
    by_names ns f =
        holds_next (λ (ds : List Declared). find_direction p.name w.ports ≡ true) (HasDirection p) (header_declared w (NamedPorts ns)) (declare_lines w (items_in m))
        (holds_next (λ (u : Unit {0}). find_direction p.name w.ports ≡ true) (λ (ds : List Declared). find_direction p.name w.ports ≡ true) (names_checked w [] ns) (λ u. Ok [])
        (subst (λ n. HoldsOk (λ (u : Unit {0}). find_direction n w.ports ≡ true) (names_checked w [] ns)) (sym (ap (λ (q : Port). q.name) i.2)) (names_direct w i.0 ns [] i.1)) (λ u h. h))
        (λ ds h. named ns f (declared_direction p.name (items_in m)) refl (own p here)
        (find_some p.name (items_in m) (ports_of m) own (ap (find_direction p.name) (sym ports) ∙ h)) ds)
      where
        i : (j : Identifier) × Member j ns × (p ≡ named_port (items_in m) j)
        i = is_named ns f p here

        own : (q : Port) → Member q (ports_of m) → q.direction ≡ declared_direction q.name (items_in m)
        own q k = let j = is_named ns f q k in ap (λ (r : Port). r.direction) j.2 ∙ sym (ap (λ (r : Port). declared_direction r.name (items_in m)) j.2)

    by_heads : (ps : List HeadedPort) → (h : HeadedPort) → Member h ps → p ≡ headed_port h → HoldsOk (HasDirection p) (next (declare_header w ps []) (declare_lines w (items_in m)))
    by_heads ps h k e =
        holds_next (IsDirected h.name.name (direction_of h.head)) (HasDirection p) (declare_header w ps []) (declare_lines w (items_in m)) (header_directs w h ps [] k)
        (λ ds g. weaker (declare_lines w (items_in m) ds) (lines_hold w (IsDirected h.name.name (direction_of h.head)) (directed_goes h.name.name (direction_of h.head)) (items_in m) ds g))
      where
        weaker : (r : Result (List Declared) Broken) → HoldsOk (IsDirected h.name.name (direction_of h.head)) r → HoldsOk (HasDirection p) r
        weaker (Ok es) g = record {
          direction = direction_of h.head;
          is = ap (λ (q : Port). q.direction) e;
          declared = subst (λ n. IsDirected n (direction_of h.head) es) (sym (ap (λ (q : Port). q.name) e)) g;
        }
        weaker (Err b) g = tt

    by_header : (ps : HeaderPortsTree) → ports_in m ≡ ps → HoldsOk (HasDirection p) (declarations w m)
    by_header (NamedPorts ns) f = subst (λ (x : HeaderPortsTree). HoldsOk (HasDirection p) (next (header_declared w x) (declare_lines w (items_in m)))) (sym f) (by_names ns f)
    by_header (DeclaredPorts ps) f =
        let h = member_map headed_port p (headed first_head ps) (subst (λ (x : HeaderPortsTree). Member p (header_ports x (items_in m))) f here) in
        subst (λ (x : HeaderPortsTree). HoldsOk (HasDirection p) (next (header_declared w x) (declare_lines w (items_in m)))) (sym f) (by_heads (headed first_head ps) h.0 h.1 h.2)
