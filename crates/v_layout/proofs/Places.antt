-- Declarations are the same wherever names mean the same.
use Rattle.std.proofs.Common.{◌≡◌, ℕ, ◌&&◌, List, [], ◌∷◌, ◌++◌, map, not, Option, Some, None, Bool, true, false, Result, Ok, Err, refl, sym, ◌∙◌, ap, bytes_eq}
use Rattle.std.specs.List.{list_any}
use Rattle.v_syntax.specs.declared.statement.Identifier.{Identifier}
use Rattle.v_syntax.specs.declared.item.Direction.{Direction}
use Rattle.v_syntax.specs.SourceTrees.{RangeTree, PortHeadTree, Head, TailTree, Words, Initially, RegisterTree, Register as RegisterOf, KindTree, Ports, Nets, Registers, Integers, Parameters, Drivers, Always, Initial, Instance, ItemTree, ItemAt, HeaderPortsTree, NamedPorts, DeclaredPorts, ModuleTree, ModuleOf}
use Rattle.v_flat.specs.declared.scope.rule.Broken.{Broken}
use Rattle.v_flat.specs.declared.scope.rule.ElabRule.TheVariants as rule
use Rattle.v_flat.specs.declared.scope.found.Found.{Found}
use Rattle.v_flat.specs.Scope.Found.{fine, and_then, needs, ended, next}
use Rattle.v_flat.proofs.ScopeLemmas.Gathered.{then_same}
use Rattle.v_flat.specs.declared.scope.meaning.Bounds.{Bounds}
use Rattle.v_flat.specs.Scope.Scope.{Scope, means, before}
use Rattle.v_flat.specs.Headers.{HeadedPort, headed, first_head, Port, ports_in, items_in}
use Rattle.v_flat.specs.Declarations.{Entries, Sort, Wire, Reg, Integer, Declared, Place, is_new, declared_too, declared_as, declare, declare_all, declare_memory, declare_register, declare_registers, declare_ports, declare_line, declare_lines, declare_header, header_declared, names_checked, declarations, bounds_in, vector_bounds, sort_of, integer_bounds, net_identifier, find_direction}

then_alike : {A B : Type 0} (x y : Found A) (f g : A → Found B) → x ≡ y → ((a : A) → f a ≡ g a) → and_then x f ≡ and_then y g
then_alike {A} {B} x y f g e h = ap (λ (z : Found A). and_then z f) e ∙ then_same f g y h

next_alike : {A B : Type 0} (x y : Result A Broken) (f g : A → Result B Broken) → x ≡ y → ((a : A) → f a ≡ g a) → next x f ≡ next y g
next_alike {A} {B} x y f g e h = ap (λ (z : Result A Broken). next z f) e ∙ by y
  where
    by : (z : Result A Broken) → next z f ≡ next z g
    by (Ok a) = h a
    by (Err b) = refl

module _ (es : Entries) (o q : Scope) (ps : List Port) (n : ℕ) (same : before (means es) o ≡ before (means es) q) where
  abbrev here : Place
  here = record { constants = es; others = o; ports = ps; first = n }

  abbrev there : Place
  there = record { constants = es; others = q; ports = ps; first = n }

  same_all : (d : Option Direction) (k : Option Sort) (b : Bounds) (is : List Identifier) (ds : List Declared) → declare_all here d k b is ds ≡ declare_all there d k b is ds
  same_all d k b [] ds = refl
  same_all d k b (i ∷ is) ds =
      then_same (declare_all here d k b is) (declare_all there d k b is) (declare there i.at (declared_as d k b None i.name) ds) (λ es. same_all d k b is es)

  same_memory : (b : Bounds) (i : Identifier) (r : RangeTree) (ds : List Declared) → declare_memory here b i r ds ≡ declare_memory there b i r ds
  same_memory b i r ds =
      ap (λ (s : Scope). needs (is_new i.name here ds) rule.DuplicateName i.at (and_then (bounds_in r s) (λ x. declared_too here i.at (declared_as None (Some Reg) b (Some x) i.name) ds))) same

  same_register : (b : Bounds) (i : Identifier) (t : Option TailTree) (ds : List Declared) → declare_register here b i t ds ≡ declare_register there b i t ds
  same_register b i None ds = refl
  same_register b i (Some (Words r)) ds = same_memory b i r ds
  same_register b i (Some (Initially e)) ds = refl

  same_registers : (b : Bounds) (rs : List RegisterTree) (ds : List Declared) → declare_registers here b rs ds ≡ declare_registers there b rs ds
  same_registers b [] ds = refl
  same_registers b (RegisterOf i t ∷ rs) ds =
      then_alike (declare_register here b i t ds) (declare_register there b i t ds) (declare_registers here b rs) (declare_registers there b rs) (same_register b i t ds)
      (λ es. same_registers b rs es)

  same_range : (r : Option RangeTree) → vector_bounds r (before (means es) o) ≡ vector_bounds r (before (means es) q)
  same_range r = ap (λ (s : Scope). vector_bounds r s) same

  same_ports : (h : PortHeadTree) (is : List Identifier) (ds : List Declared) → declare_ports here h is ds ≡ declare_ports there h is ds
  same_ports (Head d k r) is ds =
      then_alike (vector_bounds r (before (means es) o)) (vector_bounds r (before (means es) q)) (λ b. declare_all here (Some d) (sort_of k) b is ds)
      (λ b. declare_all there (Some d) (sort_of k) b is ds) (same_range r) (λ b. same_all (Some d) (sort_of k) b is ds)

  same_line : (k : KindTree) (ds : List Declared) → declare_line here k ds ≡ declare_line there k ds
  same_line (Ports h is) ds = same_ports h is ds
  same_line (Nets r ns) ds =
      then_alike (vector_bounds r (before (means es) o)) (vector_bounds r (before (means es) q)) (λ b. declare_all here None (Some Wire) b (map net_identifier ns) ds)
      (λ b. declare_all there None (Some Wire) b (map net_identifier ns) ds) (same_range r) (λ b. same_all None (Some Wire) b (map net_identifier ns) ds)
  same_line (Registers r rs) ds =
      then_alike (vector_bounds r (before (means es) o)) (vector_bounds r (before (means es) q)) (λ b. declare_registers here b rs ds)
      (λ b. declare_registers there b rs ds) (same_range r) (λ b. same_registers b rs ds)
  same_line (Integers is) ds = same_all None (Some Integer) integer_bounds is ds
  same_line (Parameters k r vs) ds = refl
  same_line (Drivers vs) ds = refl
  same_line (Always c a) ds = refl
  same_line (Initial a) ds = refl
  same_line (Instance m v i p) ds = refl

  same_lines : (is : List ItemTree) (ds : List Declared) → declare_lines here is ds ≡ declare_lines there is ds
  same_lines [] ds = refl
  same_lines (ItemAt p k ∷ is) ds =
      next_alike (ended (declare_line here k ds)) (ended (declare_line there k ds)) (declare_lines here is) (declare_lines there is)
      (ap (λ (x : Found (List Declared)). ended x) (same_line k ds)) (λ es. same_lines is es)

  same_header : (hs : List HeadedPort) (ds : List Declared) → declare_header here hs ds ≡ declare_header there hs ds
  same_header [] ds = refl
  same_header (h ∷ hs) ds =
      next_alike (ended (declare_ports here h.head (h.name ∷ []) ds)) (ended (declare_ports there h.head (h.name ∷ []) ds)) (declare_header here hs) (declare_header there hs)
      (ap (λ (x : Found (List Declared)). ended x) (same_ports h.head (h.name ∷ []) ds)) (λ es. same_header hs es)

  same_names : (seen : List (List ℕ)) (is : List Identifier) → names_checked here seen is ≡ names_checked there seen is
  same_names seen [] = refl
  same_names seen (i ∷ is) =
      next_alike (ended (needs (not (list_any (bytes_eq i.name) seen) && find_direction i.name ps) rule.BadPort i.at fine))
      (ended (needs (not (list_any (bytes_eq i.name) seen) && find_direction i.name ps) rule.BadPort i.at fine))
      (λ u. names_checked here (i.name ∷ seen) is) (λ u. names_checked there (i.name ∷ seen) is) refl (λ u. same_names (i.name ∷ seen) is)

  same_declared : (h : HeaderPortsTree) → header_declared here h ≡ header_declared there h
  same_declared (NamedPorts is) = ap (λ (x : Result (Unit {0}) Broken). next x (λ u. (let r : Result (List Declared) Broken = Ok [] in r))) (same_names [] is)
  same_declared (DeclaredPorts hs) = same_header (headed first_head hs) []

  pub same_declarations : (m : ModuleTree) → declarations here m ≡ declarations there m
  same_declarations (ModuleOf i vs hs is) =
      next_alike (header_declared here hs) (header_declared there hs) (declare_lines here is) (declare_lines there is) (same_declared hs) (λ ds. same_lines is ds)
