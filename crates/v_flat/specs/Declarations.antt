-- Parameters and declarations of an instance (IEEE 1364-2005, clauses 4.2, 4.9, 4.10, 12.2 and 12.3.3).
use Rattle.std.specs.Prelude.{ℕ, ◌+◌, ◌%◌, List, [], ◌∷◌, ◌++◌, map, length, Option, None, Some, Result, Ok, Bool, true, false, ◌&&◌, ◌||◌, ◌==◌, not, is_some, is_none, nat_le, bytes_eq, if◌then◌else◌}
use Rattle.std.specs.List.{list_any}
use Rattle.std.specs.Option.{option_or}
use Rattle.four_value.specs.declared.Digit.{Digit}
use Rattle.four_value.specs.Vector.{number, resize}
use Rattle.v_syntax.specs.declared.statement.Identifier.{Identifier}
use Rattle.v_syntax.specs.declared.item.Direction.{Direction}
use Rattle.v_syntax.specs.declared.item.Direction.TheVariants as direction
use Rattle.v_syntax.specs.declared.item.PortKind.{PortKind}
use Rattle.v_syntax.specs.declared.item.PortKind.TheVariants as port_kind
use Rattle.v_syntax.specs.SourceTrees.{RangeTree, Bounds as BoundsTree, PortHeadTree, Head, NetTree, Net as NetOf, TailTree, Words, RegisterTree, Register as RegisterOf, KindTree, Ports, Nets, Registers, Integers, ItemTree, ItemAt, HeaderPortsTree, NamedPorts, DeclaredPorts, ModuleTree}
use Rattle.v_flat.specs.declared.scope.rule.Broken.{Broken}
use Rattle.v_flat.specs.declared.scope.rule.ElabRule.TheVariants as rule
use Rattle.v_flat.specs.declared.scope.found.Found.{Found}
use Rattle.v_flat.specs.declared.scope.found.Found.TheVariants.{Sound}
use Rattle.v_flat.specs.Scope.Found.{fine, each, both, and_then, wants, needs, ended, next}
use Rattle.v_flat.specs.declared.scope.meaning.Bounds.{Bounds}
use Rattle.v_flat.specs.declared.scope.meaning.DataKind.{DataKind}
use Rattle.v_flat.specs.declared.scope.meaning.DataKind.TheVariants.{Input, Net, Register}
use Rattle.v_flat.specs.declared.scope.meaning.Meaning.TheVariants.{Constant}
use Rattle.v_flat.specs.declared.scope.meaning.Meaning.{Meaning}
use Rattle.v_flat.specs.Scope.Limits.{most_digits, most_parts}
use Rattle.v_flat.specs.Scope.Scope.{width_of, plain, Scope, means, before}
use Rattle.v_flat.specs.Objects.{count_of}
use Rattle.v_flat.specs.Expressions.{number_or}
use Rattle.v_flat.specs.Checks.{constant_of}
use Rattle.v_flat.specs.Headers.{HeadedPort, headed, first_head, Port, port_name, Parameter, ports_in, items_in}

-- ---- ranges (clause 4.3.1)

-- bounds are taken modulo 2 ^ 32
abbrev pub bound : List Digit → ℕ
bound ds = number_or (number ds) % 4294967296

abbrev pub bounds_in : RangeTree → Scope → Found Bounds
bounds_in (BoundsTree p l r) s = each (λ x. record { left = bound x.0; right = bound x.1 }) (both (constant_of s l) (constant_of s r))

abbrev pub range_at : RangeTree → ℕ
range_at (BoundsTree p l r) = p

-- the range of a vector
abbrev pub vector_bounds : Option RangeTree → Scope → Found Bounds
vector_bounds None s = Sound (record { left = 0; right = 0 })
vector_bounds (Some r) s = and_then (bounds_in r s) (λ b. needs (nat_le (width_of b) most_digits) rule.TooWide (range_at r) (Sound b))

-- ---- parameters (clauses 4.10 and 12.2)

-- a value that an instance gives to a parameter
pub record Given : Type 0 where
  pub name : List ℕ
  pub value : List Digit

abbrev pub given_value : List ℕ → List Given → Found (List Digit) → Found (List Digit)
given_value n [] own = own
given_value n (g ∷ gs) own = if bytes_eq g.name n then Sound g.value else given_value n gs own

-- names with their meanings, in order; each stands once
abbrev pub Entries : Type 0
Entries = List (List ℕ × Meaning)

-- a parameter without a range has that of its value's own width (clause 12.2)
abbrev pub constant_meaning : Option RangeTree → Bounds → List Digit → Meaning
constant_meaning None b ds = Constant ds (plain (length ds))
constant_meaning (Some r) b ds = Constant (resize ds (width_of b)) b

abbrev pub is_free : List ℕ → Entries → Bool
is_free n es = is_none (means es n)

-- s has the parameters so far; others are all names that are declared, of which those that s hasn't are no constants here
abbrev pub parameter : Parameter → List Given → Scope → Entries → Found Entries
parameter p given others s =
    wants (is_free p.name.name s) rule.DuplicateName p.name.at (each (λ x. s ++ ((p.name.name, constant_meaning p.range x.0 x.1) ∷ []))
    (both (vector_bounds p.range (before (means s) others)) (given_value p.name.name given (constant_of (before (means s) others) p.value))))

abbrev pub parameters : List Parameter → List Given → Scope → Entries → Result Entries Broken
parameters [] given others s = Ok s
parameters (p ∷ ps) given others s = next (ended (parameter p given others s)) (parameters ps given others)

-- ---- declarations (clauses 4.2, 4.9 and 12.3.3)

pub data Sort : Type 0 where
  Wire : Sort
  Reg : Sort
  Integer : Sort

pub record Declared : Type 0 where
  pub name : List ℕ
  pub direction : Option Direction
  pub sort : Option Sort
  pub bounds : Bounds
  pub words : Option Bounds

abbrev pub find_declared : List ℕ → List Declared → Option Declared
find_declared n [] = None
find_declared n (d ∷ ds) = if bytes_eq d.name n then Some d else find_declared n ds

abbrev pub with_declared : Declared → List Declared → List Declared
with_declared x [] = []
with_declared x (d ∷ ds) = if bytes_eq d.name x.name then x ∷ ds else d ∷ with_declared x ds

abbrev pub signals_in : List Declared → ℕ
signals_in [] = 0
signals_in (d ∷ ds) = count_of d.words + signals_in ds

-- what is known in an instance before its declarations
pub record Place : Type 0 where
  pub constants : Entries
  pub others : Scope
  pub ports : List Port
  -- the number of its first signal
  pub first : ℕ

-- a direction stands for ports of the header alone, and an input is no register
abbrev pub is_port : Option Direction → List ℕ → List Port → Bool
is_port None n ps = true
is_port (Some d) n ps = list_any (bytes_eq n) (map port_name ps)

abbrev pub is_input_reg : Option Direction → Option Sort → Bool
is_input_reg (Some direction.Input) (Some Reg) = true
is_input_reg _ _ = false

abbrev pub port_checked : Place → ℕ → Declared → Found (List Declared) → Found (List Declared)
port_checked w p d x = wants (is_port d.direction d.name w.ports && not (is_input_reg d.direction d.sort)) rule.BadPort p x

-- one declaration has the direction alone, and the other `wire` or `reg` alone (clause 12.3.3)
abbrev pub is_net_or_reg : Option Sort → Bool
is_net_or_reg (Some Wire) = true
is_net_or_reg (Some Reg) = true
is_net_or_reg _ = false

abbrev pub is_direction_alone : Declared → Bool
is_direction_alone d = is_some d.direction && is_none d.sort

abbrev pub is_sort_alone : Declared → Bool
is_sort_alone d = is_none d.direction && (is_net_or_reg d.sort && is_none d.words)

abbrev pub are_halves : Declared → Declared → Bool
are_halves a b = (is_direction_alone a && is_sort_alone b) || (is_sort_alone a && is_direction_alone b)

abbrev pub same_bounds : Bounds → Bounds → Bool
same_bounds a b = (a.left == b.left) && (a.right == b.right)

abbrev pub whole_of : Declared → Declared → Declared
whole_of old d = record old { direction = option_or old.direction d.direction; sort = option_or old.sort d.sort }

abbrev pub declared_too : Place → ℕ → Declared → List Declared → Found (List Declared)
declared_too w p d ds = wants (nat_le (w.first + (signals_in ds + count_of d.words)) most_parts) rule.TooMany p (Sound (ds ++ (d ∷ [])))

abbrev pub declare_again : Place → ℕ → Declared → List Declared → Option Declared → Found (List Declared)
declare_again w p d ds None = port_checked w p d (declared_too w p d ds)
declare_again w p d ds (Some old) =
    needs (are_halves old d && same_bounds old.bounds d.bounds) rule.DuplicateName p (port_checked w p (whole_of old d) (Sound (with_declared (whole_of old d) ds)))

-- p is the place of the name
abbrev pub declare : Place → ℕ → Declared → List Declared → Found (List Declared)
declare w p d ds = needs (is_free d.name w.constants) rule.DuplicateName p (declare_again w p d ds (find_declared d.name ds))

abbrev pub known_names : Place → Scope
known_names w = before (means w.constants) w.others

abbrev pub sort_of : Option PortKind → Option Sort
sort_of None = None
sort_of (Some port_kind.Wire) = Some Wire
sort_of (Some port_kind.Reg) = Some Reg

abbrev pub declared_as : Option Direction → Option Sort → Bounds → Option Bounds → List ℕ → Declared
declared_as d k b w n = record { name = n; direction = d; sort = k; bounds = b; words = w }

-- names that are declared alike
abbrev pub declare_all : Place → Option Direction → Option Sort → Bounds → List Identifier → List Declared → Found (List Declared)
declare_all w d k b [] ds = Sound ds
declare_all w d k b (i ∷ is) ds = and_then (declare w i.at (declared_as d k b None i.name) ds) (declare_all w d k b is)

abbrev pub net_identifier : NetTree → Identifier
net_identifier (NetOf i e) = i

-- a memory has a name of its own, whatever its range of words is
abbrev pub is_new : List ℕ → Place → List Declared → Bool
is_new n w ds = is_free n w.constants && is_none (find_declared n ds)

abbrev pub declare_memory : Place → Bounds → Identifier → RangeTree → List Declared → Found (List Declared)
declare_memory w b i r ds = needs (is_new i.name w ds) rule.DuplicateName i.at (and_then (bounds_in r (known_names w)) (λ x.
    declared_too w i.at (declared_as None (Some Reg) b (Some x) i.name) ds))

abbrev pub declare_register : Place → Bounds → Identifier → Option TailTree → List Declared → Found (List Declared)
declare_register w b i (Some (Words r)) ds = declare_memory w b i r ds
declare_register w b i _ ds = declare w i.at (declared_as None (Some Reg) b None i.name) ds

abbrev pub declare_registers : Place → Bounds → List RegisterTree → List Declared → Found (List Declared)
declare_registers w b [] ds = Sound ds
declare_registers w b (RegisterOf i t ∷ rs) ds = and_then (declare_register w b i t ds) (declare_registers w b rs)

abbrev pub integer_bounds : Bounds
integer_bounds = record { left = 31; right = 0 }

abbrev pub declare_ports : Place → PortHeadTree → List Identifier → List Declared → Found (List Declared)
declare_ports w (Head d k r) is ds = and_then (vector_bounds r (known_names w)) (λ b. declare_all w (Some d) (sort_of k) b is ds)

abbrev pub declare_line : Place → KindTree → List Declared → Found (List Declared)
declare_line w (Ports h is) ds = declare_ports w h is ds
declare_line w (Nets r ns) ds = and_then (vector_bounds r (known_names w)) (λ b. declare_all w None (Some Wire) b (map net_identifier ns) ds)
declare_line w (Registers r rs) ds = and_then (vector_bounds r (known_names w)) (λ b. declare_registers w b rs ds)
declare_line w (Integers is) ds = declare_all w None (Some Integer) integer_bounds is ds
declare_line w _ ds = Sound ds

abbrev pub declare_lines : Place → List ItemTree → List Declared → Result (List Declared) Broken
declare_lines w [] ds = Ok ds
declare_lines w (ItemAt p k ∷ is) ds = next (ended (declare_line w k ds)) (declare_lines w is)

-- each port of a header that declares it is an item
abbrev pub declare_header : Place → List HeadedPort → List Declared → Result (List Declared) Broken
declare_header w [] ds = Ok ds
declare_header w (p ∷ ps) ds = next (ended (declare_ports w p.head (p.name ∷ []) ds)) (declare_header w ps)

abbrev pub find_direction : List ℕ → List Port → Bool
find_direction n [] = false
find_direction n (p ∷ ps) = if bytes_eq p.name n then is_some p.direction else find_direction n ps

-- each name of a header stands there once, and has a direction
abbrev pub names_checked : Place → List (List ℕ) → List Identifier → Result (Unit {0}) Broken
names_checked w seen [] = Ok tt
names_checked w seen (i ∷ is) =
    next (ended (needs (not (list_any (bytes_eq i.name) seen) && find_direction i.name w.ports) rule.BadPort i.at fine))
    (λ u. names_checked w (i.name ∷ seen) is)

abbrev pub header_declared : Place → HeaderPortsTree → Result (List Declared) Broken
header_declared w (NamedPorts is) = next (names_checked w [] is) (λ u. Ok [])
header_declared w (DeclaredPorts ps) = declare_header w (headed first_head ps) []

abbrev pub declarations : Place → ModuleTree → Result (List Declared) Broken
declarations w m = next (header_declared w (ports_in m)) (declare_lines w (items_in m))

-- ---- the ports in header order, then the others

abbrev pub listed : Option Declared → List Declared
listed None = []
listed (Some d) = d ∷ []

abbrev pub port_lines : List Port → List Declared → List Declared
port_lines [] ds = []
port_lines (p ∷ ps) ds = listed (find_declared p.name ds) ++ port_lines ps ds

abbrev pub other_lines : List (List ℕ) → List Declared → List Declared
other_lines ports [] = []
other_lines ports (d ∷ ds) = if list_any (bytes_eq d.name) ports then other_lines ports ds else d ∷ other_lines ports ds

abbrev pub in_order : List Port → List Declared → List Declared
in_order ps ds = port_lines ps ds ++ other_lines (map port_name ps) ds

abbrev pub kind_of : Option Direction → Option Sort → DataKind
kind_of (Some direction.Input) k = Input
kind_of d (Some Reg) = Register
kind_of d (Some Integer) = Register
kind_of d k = Net
