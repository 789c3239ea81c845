-- The instructions of a target store the digits on top of the operands.
use Rattle.std.proofs.Common.{◌≡◌, ℕ, suc, ◌+◌, ◌<◌, ◌≤◌, List, [], ◌∷◌, ◌++◌, length, map, refl, ap, sym, subst, ◌∙◌, arith, append_assoc}
use Rattle.four_value.specs.declared.Digit.{Digit}
use Rattle.four_value.specs.Vector.{slice}
use Rattle.gpi.specs.declared.types.Update.{Update}
use Rattle.gpi.specs.declared.selects.Range.{Range}
use Rattle.gpi.specs.declared.targets.Object.{Object}
use Rattle.gpi.specs.declared.targets.Object.TheVariants as object
use Rattle.gpi.specs.declared.targets.Target.{Target}
use Rattle.gpi.specs.declared.targets.Target.TheVariants.{Whole, Select, Join'}
use Rattle.gpi.specs.declared.terms.Term.{Term}
use Rattle.gpi.specs.Terms.{value, width, read}
use Rattle.gpi.specs.Targets.{object_width, target_width, updates_of, IsSoundObject, IsSoundTarget}
use Rattle.gpi.specs.Activation.{Run, after, blocking, nonblocking}
use Rattle.v_exec.specs.declared.instruction.Instruction.{Instruction}
use Rattle.v_exec.specs.declared.instruction.Instruction.TheVariants as code
use Rattle.v_exec.specs.declared.instruction.Mode.{Mode}
use Rattle.v_exec.specs.declared.instruction.Mode.TheVariants as mode
use Rattle.v_exec.specs.Machine.{Machine, exec, stored}
use Rattle.v_exec.specs.Fits.{Room, Shape, Fits}
use Rattle.v_exec.specs.Packing.{term_front, term_depth, deepest, whole_place, part_place, object_front, object_depth, target_front, target_depth, target_stores, blocking_front}
use Rattle.v_exec.proofs.Terms.{term_runs, term_fits, term_stands, Front, front_more, front_both}

-- ---- what they do

-- a machine of these parts
abbrev pub machine : List (List Digit) → Run → List Update → Machine
machine st r noted = record { stack = st; run = r; noted = noted }

whole_runs : (how : Mode) (o : Object) (is : List Instruction) (ds : List Digit) (st : List (List Digit)) (r : Run) (noted : List Update)
    → exec (target_front how (Whole o) is) 0 (machine (ds ∷ st) r noted)
    ≡ exec is 0 (stored how (updates_of (Whole o) (read r.signals) ds) st (machine (ds ∷ st) r noted))
whole_runs mode.Now (object.Signal s w) is ds st r noted = refl
whole_runs mode.Noted (object.Signal s w) is ds st r noted = refl
whole_runs (mode.Later n) (object.Signal s w) is ds st r noted = refl
whole_runs mode.Now (object.Word words i w) is ds st r noted =
    term_runs i (code.Store (whole_place (object.Word words i w)) mode.Now ∷ is) (machine (ds ∷ st) r noted)
whole_runs mode.Noted (object.Word words i w) is ds st r noted =
    term_runs i (code.Store (whole_place (object.Word words i w)) mode.Noted ∷ is) (machine (ds ∷ st) r noted)
whole_runs (mode.Later n) (object.Word words i w) is ds st r noted =
    term_runs i (code.Store (whole_place (object.Word words i w)) (mode.Later n) ∷ is) (machine (ds ∷ st) r noted)

part_runs : (how : Mode) (o : Object) (range : Range) (i : Term) (w : ℕ) (is : List Instruction) (ds : List Digit) (st : List (List Digit)) (r : Run) (noted : List Update)
    → exec (target_front how (Select o range i w) is) 0 (machine (ds ∷ st) r noted)
    ≡ exec is 0 (stored how (updates_of (Select o range i w) (read r.signals) ds) st (machine (ds ∷ st) r noted))
part_runs mode.Now (object.Signal s x) range i w is ds st r noted =
    term_runs i (code.Store (part_place (object.Signal s x) range w) mode.Now ∷ is) (machine (ds ∷ st) r noted)
part_runs mode.Noted (object.Signal s x) range i w is ds st r noted =
    term_runs i (code.Store (part_place (object.Signal s x) range w) mode.Noted ∷ is) (machine (ds ∷ st) r noted)
part_runs (mode.Later n) (object.Signal s x) range i w is ds st r noted =
    term_runs i (code.Store (part_place (object.Signal s x) range w) (mode.Later n) ∷ is) (machine (ds ∷ st) r noted)
part_runs mode.Now (object.Word words j x) range i w is ds st r noted =
    let last = code.Store (part_place (object.Word words j x) range w) mode.Now ∷ is in
    term_runs j (term_front i last) (machine (ds ∷ st) r noted) ∙ term_runs i last (machine (value j (read r.signals) ∷ ds ∷ st) r noted)
part_runs mode.Noted (object.Word words j x) range i w is ds st r noted =
    let last = code.Store (part_place (object.Word words j x) range w) mode.Noted ∷ is in
    term_runs j (term_front i last) (machine (ds ∷ st) r noted) ∙ term_runs i last (machine (value j (read r.signals) ∷ ds ∷ st) r noted)
part_runs (mode.Later n) (object.Word words j x) range i w is ds st r noted =
    let last = code.Store (part_place (object.Word words j x) range w) (mode.Later n) ∷ is in
    term_runs j (term_front i last) (machine (ds ∷ st) r noted) ∙ term_runs i last (machine (value j (read r.signals) ∷ ds ∷ st) r noted)

map_both : (f : Update → Update) (us vs : List Update) → map f (us ++ vs) ≡ map f us ++ map f vs
map_both f [] vs = refl
map_both f (u ∷ us) vs = ap (λ (xs : List Update). f u ∷ xs) (map_both f us vs)

later_both : (n : ℕ) (us vs : List Update) (r : Run) → nonblocking n vs (nonblocking n us r) ≡ nonblocking n (us ++ vs) r
later_both n us vs r =
    ap (λ (xs : List Update). record r { updates = xs })
    (append_assoc r.updates (map (after n) us) (map (after n) vs) ∙ ap (λ (xs : List Update). r.updates ++ xs) (sym (map_both (after n) us vs)))

-- updates that come later
pub later_runs : (n : ℕ) (t : Target) (is : List Instruction) (ds : List Digit) (st : List (List Digit)) (r : Run) (noted : List Update)
    → exec (target_front (mode.Later n) t is) 0 (machine (ds ∷ st) r noted) ≡ exec is 0 (machine st (nonblocking n (updates_of t (read r.signals) ds) r) noted)
later_runs n (Whole o) is ds st r noted = whole_runs (mode.Later n) o is ds st r noted
later_runs n (Select o range i w) is ds st r noted = part_runs (mode.Later n) o range i w is ds st r noted
later_runs n (Join' p a q b) is ds st r noted =
    let high = slice ds (target_width b) (target_width a) in
    let low = slice ds 0 (target_width b) in
    let us = updates_of a (read r.signals) high in
    let vs = updates_of b (read r.signals) low in
    let last = target_front (mode.Later n) b (code.Discard ∷ is) in
    later_runs n a (code.Part 0 (target_width b) ∷ last) high (ds ∷ st) r noted
    ∙ (later_runs n b (code.Discard ∷ is) low (ds ∷ st) (nonblocking n us r) noted
    ∙ ap (λ (x : Run). exec is 0 (machine st x noted)) (later_both n us vs r))

-- updates that are noted
pub noted_runs : (t : Target) (is : List Instruction) (ds : List Digit) (st : List (List Digit)) (r : Run) (noted : List Update)
    → exec (target_front mode.Noted t is) 0 (machine (ds ∷ st) r noted) ≡ exec is 0 (machine st r (noted ++ updates_of t (read r.signals) ds))
noted_runs (Whole o) is ds st r noted = whole_runs mode.Noted o is ds st r noted
noted_runs (Select o range i w) is ds st r noted = part_runs mode.Noted o range i w is ds st r noted
noted_runs (Join' p a q b) is ds st r noted =
    let high = slice ds (target_width b) (target_width a) in
    let low = slice ds 0 (target_width b) in
    let us = updates_of a (read r.signals) high in
    let vs = updates_of b (read r.signals) low in
    let last = target_front mode.Noted b (code.Discard ∷ is) in
    noted_runs a (code.Part 0 (target_width b) ∷ last) high (ds ∷ st) r noted
    ∙ (noted_runs b (code.Discard ∷ is) low (ds ∷ st) r (noted ++ us)
    ∙ ap (λ (xs : List Update). exec is 0 (machine st r xs)) (append_assoc noted us vs))

-- updates that are written at once
pub blocking_runs : (t : Target) (is : List Instruction) (ds : List Digit) (st : List (List Digit)) (r : Run)
    → exec (blocking_front t is) 0 (machine (ds ∷ st) r []) ≡ exec is 0 (machine st (blocking (updates_of t (read r.signals) ds) r) [])
blocking_runs (Whole o) is ds st r = whole_runs mode.Now o is ds st r []
blocking_runs (Select o range i w) is ds st r = part_runs mode.Now o range i w is ds st r []
blocking_runs (Join' p a q b) is ds st r = noted_runs (Join' p a q b) (code.WriteNoted ∷ is) ds st r []

-- ---- that they fit

abbrev pub shape : List ℕ → ℕ → Shape
shape st k = record { stack = st; stores = k }

whole_fits : (how : Mode) (o : Object) (room : Room) (ws : List ℕ) (is : List Instruction) (st : List ℕ) (k : ℕ) → IsSoundObject o ws
    → length (object_width o ∷ st) + object_depth o ≤ room.depth → k < room.stores → Fits room ws is 0 (shape st (suc k))
    → Fits room ws (target_front how (Whole o) is) 0 (shape (object_width o ∷ st) k)
whole_fits how (object.Signal s w) room ws is st k h d l f = ((l, (h.0, h.1)), f)
whole_fits how (object.Word words i w) room ws is st k h d l f =
    term_fits i room ws (code.Store (whole_place (object.Word words i w)) how ∷ is) (shape (w ∷ st) k) h.0 d ((l, h.1), f)

part_fits : (how : Mode) (o : Object) (range : Range) (i : Term) (w : ℕ) (room : Room) (ws : List ℕ) (is : List Instruction) (st : List ℕ) (k : ℕ)
    → IsSoundTarget (Select o range i w) ws
    → length (w ∷ st) + deepest (object_depth o) (term_depth i) ≤ room.depth → k < room.stores → Fits room ws is 0 (shape st (suc k))
    → Fits room ws (target_front how (Select o range i w) is) 0 (shape (w ∷ st) k)
part_fits how (object.Signal s x) range i w room ws is st k h d l f =
    term_fits i room ws (code.Store (part_place (object.Signal s x) range w) how ∷ is) (shape (w ∷ st) k) h.1 (omega (arith, d))
    ((l, (h.0.0, h.0.1, h.0.2, refl, h.2)), f)
part_fits how (object.Word words j x) range i w room ws is st k h d l f =
    let last = code.Store (part_place (object.Word words j x) range w) how ∷ is in
    term_fits j room ws (term_front i last) (shape (w ∷ st) k) h.0.0 (omega (arith, d))
    (term_fits i room ws last (shape (width j ∷ w ∷ st) k) h.1 (omega (arith, d))
    ((l, (h.0.1, refl, h.2)), f))

pub target_fits : (how : Mode) (t : Target) (room : Room) (ws : List ℕ) (is : List Instruction) (st : List ℕ) (k n : ℕ)
    → IsSoundTarget t ws → n ≡ k + target_stores t
    → length (target_width t ∷ st) + target_depth t ≤ room.depth → n ≤ room.stores → Fits room ws is 0 (shape st n)
    → Fits room ws (target_front how t is) 0 (shape (target_width t ∷ st) k)
target_fits how (Whole o) room ws is st k n h e d l f =
    let g : n ≡ suc k = omega (arith, e) in
    whole_fits how o room ws is st k h d (omega (arith, g, l)) (subst (λ (j : ℕ). Fits room ws is 0 (shape st j)) g f)
target_fits how (Select o range i w) room ws is st k n h e d l f =
    let g : n ≡ suc k = omega (arith, e) in
    part_fits how o range i w room ws is st k h d (omega (arith, g, l)) (subst (λ (j : ℕ). Fits room ws is 0 (shape st j)) g f)
target_fits how (Join' p a q b) room ws is st k n h e d l f =
    let whole = target_width a + target_width b in
    let last = target_front how b (code.Discard ∷ is) in
    let mid = k + target_stores a in (
      (some_width a ws h.0, omega (arith, d), omega arith),
      target_fits how a room ws (code.Part 0 (target_width b) ∷ last) (whole ∷ st) k mid h.0 refl (omega (arith, d)) (omega (arith, e, l)) (
        (some_width b ws h.1, omega (arith, d), omega arith),
        target_fits how b room ws (code.Discard ∷ is) (whole ∷ st) mid n h.1 (omega (arith, e)) (omega (arith, d)) l (tt, f),
      ),
    )
  where
    object_some : (o : Object) (ws : List ℕ) → IsSoundObject o ws → 1 ≤ object_width o
    object_some (object.Signal s w) ws h = h.2.0
    object_some (object.Word words i w) ws h = h.1.width.0

    some_width : (t : Target) (ws : List ℕ) → IsSoundTarget t ws → 1 ≤ target_width t
    some_width (Whole o) ws h = object_some o ws h
    some_width (Select o range i w) ws h = h.2.0
    some_width (Join' p a q b) ws h = omega (arith, some_width a ws h.0)

pub blocking_fits : (t : Target) (room : Room) (ws : List ℕ) (is : List Instruction) (st : List ℕ) (k n : ℕ)
    → IsSoundTarget t ws → n ≡ k + target_stores t
    → length (target_width t ∷ st) + target_depth t ≤ room.depth → n ≤ room.stores → Fits room ws is 0 (shape st n)
    → Fits room ws (blocking_front t is) 0 (shape (target_width t ∷ st) k)
blocking_fits (Whole o) room ws is st k n h e d l f = target_fits mode.Now (Whole o) room ws is st k n h e d l f
blocking_fits (Select o range i w) room ws is st k n h e d l f = target_fits mode.Now (Select o range i w) room ws is st k n h e d l f
blocking_fits (Join' p a q b) room ws is st k n h e d l f =
    target_fits mode.Noted (Join' p a q b) room ws (code.WriteNoted ∷ is) st k n h e d l (tt, f)

-- ---- that they stand in front

object_stands : (o : Object) (is : List Instruction) → Front is (object_front o is)
object_stands (object.Signal s w) is = ([], refl)
object_stands (object.Word words i w) is = term_stands i is

pub target_stands : (how : Mode) (t : Target) (is : List Instruction) → Front is (target_front how t is)
target_stands how (Whole o) is =
    let last = code.Store (whole_place o) how in
    front_more is last (object_front o (last ∷ is)) (object_stands o (last ∷ is))
target_stands how (Select o range i w) is =
    let last = code.Store (part_place o range w) how in
    front_both is (term_front i (last ∷ is)) (object_front o (term_front i (last ∷ is)))
    (front_more is last (term_front i (last ∷ is)) (term_stands i (last ∷ is))) (object_stands o (term_front i (last ∷ is)))
target_stands how (Join' p a q b) is =
    let last = target_front how b (code.Discard ∷ is) in
    let low = code.Part 0 (target_width b) in
    let high = code.Part (target_width b) (target_width a) in
    let f = front_more is code.Discard last (target_stands how b (code.Discard ∷ is)) in
    let g = front_more last low (target_front how a (low ∷ last)) (target_stands how a (low ∷ last)) in
    front_both is last (high ∷ target_front how a (low ∷ last)) f (high ∷ g.0, ap (λ (xs : List Instruction). high ∷ xs) g.1)

pub blocking_stands : (t : Target) (is : List Instruction) → Front is (blocking_front t is)
blocking_stands (Whole o) is = target_stands mode.Now (Whole o) is
blocking_stands (Select o range i w) is = target_stands mode.Now (Select o range i w) is
blocking_stands (Join' p a q b) is =
    front_more is code.WriteNoted (blocking_front (Join' p a q b) is) (target_stands mode.Noted (Join' p a q b) (code.WriteNoted ∷ is))
