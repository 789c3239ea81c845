-- All declarations, whatever names mean that are no constants.
use Rattle.std.proofs.Common.{◌≡◌, List, Result, Ok, Err, IfOk, refl, sym, ap, ◌∙◌}
use Rattle.v_syntax.specs.SourceTrees.{ItemTree, ModuleTree}
use Rattle.v_flat.specs.declared.scope.rule.Broken.{Broken}
use Rattle.v_flat.specs.Scope.Found.{next}
use Rattle.v_flat.specs.Scope.Scope.{Scope, means, before}
use Rattle.v_flat.specs.Headers.{ports_in, items_in}
use Rattle.v_flat.specs.Declarations.{Declared, header_declared, declare_lines, declarations}
use Rattle.v_header.specs.Parameter.Constants.{entries_of}
use Rattle.v_layout.specs.declared.place.Place as code
use Rattle.v_layout.specs.Place.{place_in, AreDeclarations}
use Rattle.v_layout.proofs.Places.{same_declarations}
use Rattle.v_layout.proofs.Steps.{if_ok_so}

pub declared_so : (p : code.Place) (m : ModuleTree) (r : Result (List Declared) Broken)
    → before (means (entries_of p.constants.now.list.items)) (means p.constants.now.scope) ≡ means p.constants.now.scope
    → r ≡ declarations (place_in p) m → AreDeclarations p m r
declared_so p m r again e = λ others known.
    e ∙ same_declarations (entries_of p.constants.now.list.items) (means p.constants.now.scope) others p.ports.now p.first (again ∙ known) m

pub declarations_ok : {E : Type 0} (p : code.Place) (m : ModuleTree) (is : List ItemTree) (ds : List Declared) (h : Result (List Declared) Broken) (r : Result (Result (List Declared) Broken) E)
    → before (means (entries_of p.constants.now.list.items)) (means p.constants.now.scope) ≡ means p.constants.now.scope
    → h ≡ header_declared (place_in p) (ports_in m) → h ≡ Ok ds → is ≡ items_in m
    → IfOk r (λ (all : Result (List Declared) Broken). all ≡ declare_lines (place_in p) is ds) → IfOk r (AreDeclarations p m)
declarations_ok p m is ds h r again e o items k =
    if_ok_so (λ (all : Result (List Declared) Broken). all ≡ declare_lines (place_in p) is ds) (AreDeclarations p m) r k
    (λ all q. declared_so p m all again (q ∙ ap (λ (xs : List ItemTree). declare_lines (place_in p) xs ds) items
    ∙ ap (λ (x : Result (List Declared) Broken). next x (declare_lines (place_in p) (items_in m))) (sym o ∙ e)))

pub declarations_err : (p : code.Place) (m : ModuleTree) (b : Broken) (h : Result (List Declared) Broken)
    → before (means (entries_of p.constants.now.list.items)) (means p.constants.now.scope) ≡ means p.constants.now.scope
    → h ≡ header_declared (place_in p) (ports_in m) → h ≡ Err b → AreDeclarations p m (Err b)
declarations_err p m b h again e o =
    declared_so p m (Err b) again (ap (λ (x : Result (List Declared) Broken). next x (declare_lines (place_in p) (items_in m))) (sym o ∙ e))
