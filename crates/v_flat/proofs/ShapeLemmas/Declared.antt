-- What holds of the declarations of an instance, one after the other.
use Rattle.std.proofs.Common.{◌≡◌, ◌≤◌, ◌+◌, ◌-◌, ℕ, Bool, true, false, not, ◌&&◌, List, [], ◌∷◌, ◌++◌, nat_le, Option, Some, None, is_none, Ok, map, refl, sym, arith, if◌then◌else◌}
use Rattle.std.proofs.lemmas.Bool.Decides.{nat_tests}
use Rattle.gpi.specs.Terms.{IsWidth}
use Rattle.v_syntax.specs.declared.statement.Identifier.{Identifier}
use Rattle.v_syntax.specs.declared.item.Direction.{Direction}
use Rattle.v_syntax.specs.SourceTrees.{RangeTree, Head, PortHeadTree, TailTree, Words, Initially, RegisterTree, Register as RegisterOf, KindTree, Ports, Nets, Registers, Integers, Parameters, Drivers, Always, Initial, Instance, ItemTree, ItemAt, HeaderPortsTree, NamedPorts, DeclaredPorts, ModuleTree}
use Rattle.v_flat.specs.declared.scope.rule.ElabRule.TheVariants as rule
use Rattle.v_flat.specs.declared.scope.found.Found.{Found}
use Rattle.v_flat.specs.declared.scope.found.Found.TheVariants.{Sound}
use Rattle.v_flat.specs.Scope.Found.{Holds, HoldsOk, and_then, ended, needs}
use Rattle.v_flat.specs.declared.scope.meaning.Bounds.{Bounds}
use Rattle.v_flat.specs.Scope.Limits.{most_digits, most_parts}
use Rattle.v_flat.specs.Scope.Scope.{Scope, span, width_of}
use Rattle.v_flat.specs.Objects.{count_of}
use Rattle.v_flat.specs.Headers.{HeadedPort, first_head, headed, items_in, ports_in}
use Rattle.v_flat.specs.Declarations.{Declared, Integer, Place, Reg, Sort, Wire, are_halves, bounds_in, declarations, declare, declare_again, declare_all, declare_header, declare_line, declare_lines, declare_memory, declare_ports, declare_register, declare_registers, declared_as, declared_too, find_declared, header_declared, integer_bounds, is_free, is_input_reg, is_new, is_port, known_names, names_checked, net_identifier, port_checked, range_at, same_bounds, signals_in, sort_of, vector_bounds, whole_of, with_declared}
use Rattle.v_flat.proofs.Holds.{holds_any, holds_ended, holds_needs, holds_next, holds_ok_any, holds_then, holds_wants}

-- a declaration of a new name: it is no constant, has 1 to 128 digits, and there is room for its signals
pub record IsNewOne (w : Place) (ds : List Declared) (x : Declared) : Type 0 where
  pub free : is_free x.name w.constants ≡ true
  pub new : find_declared x.name ds ≡ None
  pub wide : IsWidth (width_of x.bounds)
  pub room : w.first + (signals_in ds + count_of x.words) ≤ most_parts

-- P holds of what is declared, from one declaration to the next
pub record Goes (w : Place) (P : List Declared → Type 0) : Type 0 where
  pub none : P []
  pub more : (ds : List Declared) (x : Declared) → P ds → IsNewOne w ds x → P (ds ++ (x ∷ []))
  pub again : (ds : List Declared) (x old : Declared) → P ds → find_declared x.name ds ≡ Some old → P (with_declared (whole_of old x) ds)

pub span_some : (a b : ℕ) → 1 ≤ span a b
span_some a b = go (nat_le a b)
  where
    go : (t : Bool) → 1 ≤ (if t then (b - a) + 1 else (a - b) + 1)
    go true = omega arith
    go false = omega arith

wide : (b : Bounds) → nat_le (width_of b) most_digits ≡ true → IsWidth (width_of b)
wide b h = (span_some b.left b.right, grind (arith, nat_tests))

abbrev AreWide : Bounds → Type 0
AreWide b = IsWidth (width_of b)

vector_wide : (r : Option RangeTree) (s : Scope) → Holds AreWide (vector_bounds r s)
vector_wide None s = (omega arith, omega arith)
vector_wide (Some r) s =
    holds_then (λ (b : Bounds). Unit {0}) AreWide (bounds_in r s) (λ b. needs (nat_le (width_of b) most_digits) rule.TooWide (range_at r) (Sound b)) (holds_any (bounds_in r s))
    (λ b u. holds_needs AreWide (nat_le (width_of b) most_digits) rule.TooWide (range_at r) (Sound b) (λ h. wide b h))

module _ (w : Place) (P : List Declared → Type 0) (goes : Goes w P) where
  checked_holds : (p : ℕ) (d : Declared) (x : Found (List Declared)) → Holds P x → Holds P (port_checked w p d x)
  checked_holds p d x h = holds_wants P (is_port d.direction d.name w.ports && not (is_input_reg d.direction d.sort)) rule.BadPort p x (λ t. h)

  too_holds : (p : ℕ) (d : Declared) (ds : List Declared) → P ds → is_free d.name w.constants ≡ true → find_declared d.name ds ≡ None → IsWidth (width_of d.bounds)
      → Holds P (declared_too w p d ds)
  too_holds p d ds h free new is =
      holds_wants P (nat_le (w.first + (signals_in ds + count_of d.words)) most_parts) rule.TooMany p (Sound (ds ++ (d ∷ [])))
      (λ t. goes.more ds d h (record { free = free; new = new; wide = is; room = grind (arith, nat_tests) }))

  again_holds : (p : ℕ) (d : Declared) (ds : List Declared) (o : Option Declared) → o ≡ find_declared d.name ds → P ds → is_free d.name w.constants ≡ true → IsWidth (width_of d.bounds)
      → Holds P (declare_again w p d ds o)
  again_holds p d ds None e h free is = checked_holds p d (declared_too w p d ds) (too_holds p d ds h free (sym e) is)
  again_holds p d ds (Some old) e h free is =
      holds_needs P (are_halves old d && same_bounds old.bounds d.bounds) rule.DuplicateName p (port_checked w p (whole_of old d) (Sound (with_declared (whole_of old d) ds)))
      (λ t. checked_holds p (whole_of old d) (Sound (with_declared (whole_of old d) ds)) (goes.again ds d old h (sym e)))

  declare_holds : (p : ℕ) (d : Declared) (ds : List Declared) → P ds → IsWidth (width_of d.bounds) → Holds P (declare w p d ds)
  declare_holds p d ds h is =
      holds_needs P (is_free d.name w.constants) rule.DuplicateName p (declare_again w p d ds (find_declared d.name ds)) (λ free. again_holds p d ds (find_declared d.name ds) refl h free is)

  all_hold : (d : Option Direction) (k : Option Sort) (b : Bounds) → AreWide b → (is : List Identifier) (ds : List Declared) → P ds → Holds P (declare_all w d k b is ds)
  all_hold d k b wide [] ds h = h
  all_hold d k b wide (i ∷ is) ds h =
      holds_then P P (declare w i.at (declared_as d k b None i.name) ds) (declare_all w d k b is) (declare_holds i.at (declared_as d k b None i.name) ds h wide) (λ es k2. all_hold d k b wide is es k2)

  both_true : (a b : Bool) → (a && b) ≡ true → (a ≡ true) × (b ≡ true)
  both_true true b h = (refl, h)
  both_true false b h = cc

  none_there : (o : Option Declared) → is_none o ≡ true → o ≡ None
  none_there None h = refl
  none_there (Some d) h = cc

  memory_holds : (b : Bounds) → AreWide b → (i : Identifier) (r : RangeTree) (ds : List Declared) → P ds → Holds P (declare_memory w b i r ds)
  memory_holds b wide i r ds h =
      holds_needs P (is_new i.name w ds) rule.DuplicateName i.at (and_then (bounds_in r (known_names w)) (λ x. declared_too w i.at (declared_as None (Some Reg) b (Some x) i.name) ds))
      (λ t. let n = both_true (is_free i.name w.constants) (is_none (find_declared i.name ds)) t in
      holds_then (λ (x : Bounds). Unit {0}) P (bounds_in r (known_names w)) (λ x. declared_too w i.at (declared_as None (Some Reg) b (Some x) i.name) ds) (holds_any (bounds_in r (known_names w)))
      (λ x u. too_holds i.at (declared_as None (Some Reg) b (Some x) i.name) ds h n.0 (none_there (find_declared i.name ds) n.1) wide))

  register_holds : (b : Bounds) → AreWide b → (i : Identifier) (t : Option TailTree) (ds : List Declared) → P ds → Holds P (declare_register w b i t ds)
  register_holds b wide i None ds h = declare_holds i.at (declared_as None (Some Reg) b None i.name) ds h wide
  register_holds b wide i (Some (Words r)) ds h = memory_holds b wide i r ds h
  register_holds b wide i (Some (Initially e)) ds h = declare_holds i.at (declared_as None (Some Reg) b None i.name) ds h wide

  registers_hold : (b : Bounds) → AreWide b → (rs : List RegisterTree) (ds : List Declared) → P ds → Holds P (declare_registers w b rs ds)
  registers_hold b wide [] ds h = h
  registers_hold b wide (RegisterOf i t ∷ rs) ds h = holds_then P P (declare_register w b i t ds) (declare_registers w b rs) (register_holds b wide i t ds h) (λ es k. registers_hold b wide rs es k)

  ports_hold : (g : PortHeadTree) (is : List Identifier) (ds : List Declared) → P ds → Holds P (declare_ports w g is ds)
  ports_hold (Head d k r) is ds h =
      holds_then AreWide P (vector_bounds r (known_names w)) (λ b. declare_all w (Some d) (sort_of k) b is ds) (vector_wide r (known_names w)) (λ b wide. all_hold (Some d) (sort_of k) b wide is ds h)

  line_holds : (k : KindTree) (ds : List Declared) → P ds → Holds P (declare_line w k ds)
  line_holds (Ports g is) ds h = ports_hold g is ds h
  line_holds (Nets r ns) ds h =
      holds_then AreWide P (vector_bounds r (known_names w)) (λ b. declare_all w None (Some Wire) b (map net_identifier ns) ds) (vector_wide r (known_names w))
      (λ b wide. all_hold None (Some Wire) b wide (map net_identifier ns) ds h)
  line_holds (Registers r rs) ds h =
      holds_then AreWide P (vector_bounds r (known_names w)) (λ b. declare_registers w b rs ds) (vector_wide r (known_names w)) (λ b wide. registers_hold b wide rs ds h)
  line_holds (Integers is) ds h = all_hold None (Some Integer) integer_bounds (omega arith, omega arith) is ds h
  line_holds (Parameters k r ps) ds h = h
  line_holds (Drivers xs) ds h = h
  line_holds (Always c b) ds h = h
  line_holds (Initial b) ds h = h
  line_holds (Instance m v i c) ds h = h

  lines_hold : (is : List ItemTree) (ds : List Declared) → P ds → HoldsOk P (declare_lines w is ds)
  lines_hold [] ds h = h
  lines_hold (ItemAt p k ∷ is) ds h =
      holds_next P P (ended (declare_line w k ds)) (declare_lines w is) (holds_ended P (declare_line w k ds) (line_holds k ds h)) (λ es g. lines_hold is es g)

  header_holds : (ps : List HeadedPort) (ds : List Declared) → P ds → HoldsOk P (declare_header w ps ds)
  header_holds [] ds h = h
  header_holds (p ∷ ps) ds h =
      holds_next P P (ended (declare_ports w p.head (p.name ∷ []) ds)) (declare_header w ps) (holds_ended P (declare_ports w p.head (p.name ∷ []) ds) (ports_hold p.head (p.name ∷ []) ds h)) (λ es g. header_holds ps es g)

  by_header : (ps : HeaderPortsTree) → HoldsOk P (header_declared w ps)
  by_header (NamedPorts is) = holds_next (λ (u : Unit {0}). Unit {0}) P (names_checked w [] is) (λ u. Ok []) (holds_ok_any (names_checked w [] is)) (λ u t. goes.none)
  by_header (DeclaredPorts ps) = header_holds (headed first_head ps) [] goes.none

  pub declared_hold : (m : ModuleTree) → HoldsOk P (declarations w m)
  declared_hold m = holds_next P P (header_declared w (ports_in m)) (declare_lines w (items_in m)) (by_header (ports_in m)) (λ ds h. lines_hold (items_in m) ds h)
