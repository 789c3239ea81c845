-- The instructions of all processes.
use Rattle.std.proofs.Common.{◌≡◌, ℕ, zero, suc, ◌+◌, ◌-◌, ◌<◌, ◌≤◌, List, [], ◌∷◌, ◌++◌, length, map, drop, take, slice_get, slice_index, max, Some, refl, ap, sym, subst, ◌∙◌, arith, add-one, length-append}
use Rattle.gpi.specs.Limits.{most_elements}
use Rattle.gpi.specs.declared.design.Process.{Process}
use Rattle.gpi.specs.declared.design.Flat.{Flat}
use Rattle.gpi.specs.Activation.{IsSound}
use Rattle.gpi.specs.Design.{widths}
use Rattle.gpi.specs.Soundness.{AreProcesses}
use Rattle.gpi.proofs.Sound.{length_signals}
use Rattle.v_exec.specs.declared.instruction.Instruction.{Instruction}
use Rattle.v_exec.specs.declared.instruction.Instruction.TheVariants as code
use Rattle.v_exec.specs.declared.packing.needs.Needs.{Needs}
use Rattle.v_exec.specs.declared.code.Code.{Code}
use Rattle.v_exec.specs.Machine.{exec}
use Rattle.v_exec.specs.Fits.{Fits}
use Rattle.v_exec.specs.Code.{StandsFor, IsSoundCode, begun, begun_shape, code_at, room_of}
use Rattle.v_exec.specs.Packed.{EndsBy, PacksAct, AreStarts, ProcessStands, ProcessesStand}
use Rattle.v_exec.proofs.Terms.{front_more, front_both}
use Rattle.v_exec.proofs.Acts.{ends_length}
use Rattle.v_exec.proofs.Cases.{at_push}
use Rattle.v_exec.proofs.Labels.{take_next}

-- ---- one more process

pub process_here : (ps : List Process) (ws : List ℕ) (k : ℕ) (p : Process) → slice_get ps k ≡ Some p → AreProcesses ps ws → IsSound p.body ws
process_here [] ws k p h s = absurd (cc)
process_here (x ∷ ps) ws zero p h s = let e : x ≡ p = cc in subst (λ (y : Process). IsSound y.body ws) e s.0
process_here (x ∷ ps) ws (suc k) p h s = process_here ps ws k p h s.2

process_more : (all new : List Instruction) (place : ℕ) (p : Process) (n m : Needs) → n.depth ≤ m.depth → n.stores ≤ m.stores → EndsBy all new
    → ProcessStands all place p n → ProcessStands new place p m
process_more all new place p n m hd hs e s = record {
  here = s.here;
  ends = front_both s.here all new s.ends e;
  long = s.long;
  runs = s.runs;
  fits = λ room ws h d l. s.fits room ws h (omega (arith, d, hd)) (omega (arith, l, hs));
}

process_new : (old mid : List Instruction) (place : ℕ) (p : Process) (n : Needs) → PacksAct (code.Stop ∷ old) mid p.body n → place ≡ length mid → ProcessStands mid place p n
process_new old mid place p n q e = record {
  here = mid;
  ends = ([], refl);
  long = sym e;
  runs = λ st r. q.runs st r;
  fits = λ room ws h d l. q.fits room ws [] 0 h (omega (arith, d)) (omega (arith, l)) (λ j g. (tt, tt)) 0 (omega arith);
}

pub processes_next : (ps : List Process) (at : ℕ) (p : Process) (old put mid : List Instruction) (places places' : List ℕ) (place : ℕ) (n m needs : Needs)
    → slice_get ps at ≡ Some p → ProcessesStand old places (take at ps) n → put ≡ code.Stop ∷ old → PacksAct put mid p.body m
    → place ≡ length mid → places' ≡ places ++ place ∷ []
    → needs ≡ record { depth = max n.depth m.depth; stores = max n.stores m.stores } → ProcessesStand mid places' (take (at + 1) ps) needs
processes_next ps at p old put mid places places' place n m needs g s ep q el epush e =
    let q' : PacksAct (code.Stop ∷ old) mid p.body m = subst (λ (xs : List Instruction). PacksAct xs mid p.body m) ep q in
    let d : needs.depth ≡ max n.depth m.depth = ap (λ (x : Needs). x.depth) e in
    let t : needs.stores ≡ max n.stores m.stores = ap (λ (x : Needs). x.stores) e in
    let behind : EndsBy old mid = front_more old code.Stop mid q'.ends in
    let here : ProcessStands mid place p needs =
    process_more mid mid place p m needs (omega (arith, d)) (omega (arith, t)) ([], refl) (process_new old mid place p m q' el) in
    let all : (k : ℕ) (x : Process) → slice_get (take at ps ++ p ∷ []) k ≡ Some x → ProcessStands mid (slice_index (places ++ place ∷ []) k) x needs =
    at_push (λ (j : ℕ) (x : Process). ProcessStands mid j x needs) places (take at ps) place p s.count
    (λ k x h. process_more old mid (slice_index places k) x n needs (omega (arith, d)) (omega (arith, t)) behind (s.each k x h)) here in
    let ts : take (at + 1) ps ≡ take at ps ++ p ∷ [] = ap (λ (j : ℕ). take j ps) (add-one at) ∙ take_next ps at p g in
    let both : ProcessesStand mid (places ++ place ∷ []) (take at ps ++ p ∷ []) needs = record {
      count = omega (arith, length-append places (place ∷ []), length-append (take at ps) (p ∷ []), s.count);
      each = all;
    } in
    subst (λ (ys : List Process). ProcessesStand mid places' ys needs) (sym ts)
    (subst (λ (ys : List ℕ). ProcessesStand mid ys (take at ps ++ p ∷ []) needs) (sym epush) both)

-- ---- the whole code

at_found : {A : Type 0} (xs : List A) (k : ℕ) → k < length xs → (x : A) × (slice_get xs k ≡ Some x)
at_found {A} [] k h = absurd (omega (arith, h))
at_found {A} (x ∷ xs) zero h = (x, refl)
at_found {A} (x ∷ xs) (suc k) h = at_found xs k (omega (arith, h))

get_map : (f : ℕ → ℕ) (xs : List ℕ) (k : ℕ) (y : ℕ) → slice_get (map f xs) k ≡ Some y → (k < length xs) × (y ≡ f (slice_index xs k))
get_map f [] k y h = absurd (cc)
get_map f (x ∷ xs) zero y h = (omega arith, let e : f x ≡ y = cc in sym e)
get_map f (x ∷ xs) (suc k) y h = let g = get_map f xs k y h in (omega (arith, g.0), g.1)

at_map : (f : ℕ → ℕ) (xs : List ℕ) (k : ℕ) → k < length xs → slice_index (map f xs) k ≡ f (slice_index xs k)
at_map f [] k h = absurd (omega (arith, h))
at_map f (x ∷ xs) zero h = refl
at_map f (x ∷ xs) (suc k) h = at_map f xs k (omega (arith, h))

long_map : (f : ℕ → ℕ) (xs : List ℕ) → length (map f xs) ≡ length xs
long_map f [] = refl
long_map f (x ∷ xs) = ap suc (long_map f xs)

drop_front : {A : Type 0} (front here : List A) → drop (length front) (front ++ here) ≡ here
drop_front {A} [] here = refl
drop_front {A} (x ∷ front) here = drop_front front here

drop_to : (here all : List Instruction) (place : ℕ) → EndsBy here all → length here ≡ place → drop (length all - place) all ≡ here
drop_to here all place e h =
    let k : length all - place ≡ length e.0 = omega (arith, h, ap length e.1, length-append e.0 here) in
    ap (λ (j : ℕ). drop j all) k ∙ (ap (λ (xs : List Instruction). drop (length e.0) xs) e.1 ∙ drop_front e.0 here)

pub places_inside : (all : List Instruction) (places places' : List ℕ) (ps : List Process) (n : Needs) (end : ℕ) → ProcessesStand all places ps n → places' ≡ places
    → end ≡ length all → AreStarts places' end
places_inside all places places' ps n end s e g k h =
    let h' : k < length ps = omega (arith, h, ap length e, s.count) in
    let x = at_found ps k h' in
    let p = s.each k x.0 x.1 in
    let longer = ends_length p.here all p.ends in
    let m : slice_index places' k ≡ slice_index places k = ap (λ (ys : List ℕ). slice_index ys k) e in
    omega (arith, m, p.long, longer, g)

pub code_stands : (code : Code) (flat : Flat) (all : List Instruction) (places places' : List ℕ) (n : Needs) (end : ℕ)
    → ProcessesStand all places flat.processes n → places' ≡ places → end ≡ length all → code.instructions.items ≡ all
    → code.starts.items ≡ map (λ (place : ℕ). end - place) places' → StandsFor code flat
code_stands code flat all places places' n end s ep ee ei es = record {
  count = ap length es ∙ (long_map (λ (place : ℕ). end - place) places' ∙ (ap length ep ∙ s.count));
  runs = λ k x h m hidden.
      let x_stands = s.each k x h in
      let within : k < length places' = omega (arith, found_within flat.processes k x h, s.count, ap length ep) in
      let start : slice_index code.starts.items k ≡ length all - slice_index places k =
      ap (λ (xs : List ℕ). slice_index xs k) es
      ∙ (at_map (λ (place : ℕ). end - place) places' k within
      ∙ (ap (λ (j : ℕ). j - slice_index places' k) ee ∙ ap (λ (xs : List ℕ). length all - slice_index xs k) ep)) in
      let here : code_at code (slice_index code.starts.items k) ≡ x_stands.here =
      ap (λ (j : ℕ). drop j code.instructions.items) start
      ∙ (ap (λ (xs : List Instruction). drop (length all - slice_index places k) xs) ei
      ∙ drop_to x_stands.here all (slice_index places k) x_stands.ends x_stands.long) in
      ap (λ (xs : List Instruction). (exec xs 0 (begun m hidden)).run) here
      ∙ ap (λ (y : _). y.run) (x_stands.runs [] (record { signals = m; hidden = hidden; updates = [] }));
}
  where
    found_within : {A : Type 0} (xs : List A) (k : ℕ) (x : A) → slice_get xs k ≡ Some x → k < length xs
    found_within {A} [] k x h = absurd (cc)
    found_within {A} (y ∷ xs) zero x h = omega arith
    found_within {A} (y ∷ xs) (suc k) x h = let g = found_within xs k x h in omega (arith, g)

pub code_sound : (code : Code) (flat : Flat) (all : List Instruction) (places places' : List ℕ) (n : Needs) (end : ℕ)
    → ProcessesStand all places flat.processes n → places' ≡ places → end ≡ length all → code.instructions.items ≡ all
    → code.starts.items ≡ map (λ (place : ℕ). end - place) places' → code.depth ≡ n.depth → code.most_stores ≡ n.stores
    → length flat.signals ≤ most_elements → AreProcesses flat.processes (widths flat.signals) → IsSoundCode code (widths flat.signals)
code_sound code flat all places places' n end s ep ee ei es ed et few sound = record {
  few = omega (arith, few, length_signals flat.signals);
  each = λ k start h.
      let ws = widths flat.signals in
      let g = get_map (λ (place : ℕ). end - place) places' k start (ap (λ (xs : List ℕ). slice_get xs k) (sym es) ∙ h) in
      let within : k < length flat.processes = omega (arith, g.0, s.count, ap length ep) in
      let x = at_found flat.processes k within in
      let p = s.each k x.0 x.1 in
      let at : start ≡ length all - slice_index places k =
      g.1 ∙ (ap (λ (j : ℕ). j - slice_index places' k) ee ∙ ap (λ (xs : List ℕ). length all - slice_index xs k) ep) in
      let here : code_at code start ≡ p.here =
      ap (λ (j : ℕ). drop j code.instructions.items) at
      ∙ (ap (λ (xs : List Instruction). drop (length all - slice_index places k) xs) ei
      ∙ drop_to p.here all (slice_index places k) p.ends p.long) in
      subst (λ (xs : List Instruction). Fits (room_of code) ws xs 0 begun_shape) (sym here)
      (p.fits (room_of code) ws (process_here flat.processes ws k x.0 x.1 sound) (omega (arith, ed)) (omega (arith, et)));
}
