-- Each statement by its parts.
use Rattle.std.proofs.Common.{◌≡◌, ℕ, ◌+◌, ◌-◌, ◌<◌, ◌≤◌, List, [], ◌∷◌, ◌++◌, length, drop, take, slice_get, slice_index, Some, Box, Global, refl, ap, sym, subst, ◌∙◌, arith, max, Result, Ok, Err, IfOk, add-one}
use Rattle.gpi.specs.declared.acts.Act.{Act, Blocking, Nonblocking}
use Rattle.gpi.specs.declared.acts.Act.TheViews.{Block, If, Case}
use Rattle.gpi.specs.declared.acts.Acts.{Acts}
use Rattle.gpi.specs.declared.acts.CaseKind.{CaseKind}
use Rattle.gpi.specs.declared.acts.Label.{Label}
use Rattle.gpi.specs.declared.terms.Term.{Term}
use Rattle.gpi.specs.declared.targets.Target.{Target}
use Rattle.gpi.specs.Cases.{AreItems}
use Rattle.gpi.specs.Activation.{Run, acts_of, activation, run_list, IsSound, SoundList}
use Rattle.gpi.proofs.Made.{block_made, block_back, case_runs, case_back}
use Rattle.gpi.proofs.Sound.{drop_back}
use Rattle.v_exec.specs.declared.instruction.Instruction.{Instruction}
use Rattle.v_exec.specs.declared.instruction.Instruction.TheVariants as code
use Rattle.v_exec.specs.declared.instruction.Mode.TheVariants as mode
use Rattle.v_exec.specs.declared.packing.needs.Needs.{Needs}
use Rattle.v_exec.specs.Machine.{exec}
use Rattle.v_exec.specs.Packing.{term_front, term_depth, deepest, target_front, target_depth, target_stores, blocking_front, skip_front}
use Rattle.v_exec.specs.Packed.{between, Packs, PacksAct, PacksActs, ItemsStand, AreStarts, labels_front, labels_depth}
use Rattle.v_exec.proofs.Acts.{packs_then, packs_choice, packs_blocking, packs_later, ends_length, skip_length}
use Rattle.v_exec.proofs.Cases.{packs_case, items_next, at_item}
use Rattle.v_exec.proofs.Labels.{take_next}

-- the same run by another name
pub packs_as : (is new : List Instruction) (f : Run → Run) (S : List ℕ → Type 0) (a : Act) (n : Needs)
    → ((r : Run) → activation a r ≡ f r) → ((ws : List ℕ) → IsSound a ws → S ws) → Packs is new f S n → PacksAct is new a n
packs_as is new f S a n e s p = record {
  ends = p.ends;
  runs = λ st r. p.runs st r ∙ ap (λ (x : Run). exec is 0 (between st x)) (sym (e r));
  fits = λ room ws st k h d l x. let g = p.fits room ws st k (s ws h) d l x in g;
  depth = p.depth;
  stores = p.stores;
}

pub packs_same : {E : Type 0} (act a : Act) (is new : List Instruction) (r : Result Needs E) → act ≡ a
    → IfOk r (λ n. PacksAct is new a n) → IfOk r (λ n. PacksAct is new act n)
packs_same {E} act a is new r e p = subst (λ (x : Act). IfOk r (λ n. PacksAct is new x n)) (sym e) p

pub packs_block : {E : Type 0} (act : Act) (list : Acts) (is new : List Instruction) (r : Result Needs E) → act ≡ Block list
    → IfOk r (λ n. PacksActs is new (acts_of list) n) → IfOk r (λ n. PacksAct is new act n)
packs_block {E} act list is new (Ok n) e p =
    subst (λ (a : Act). PacksAct is new a n) (sym e)
    (packs_as is new (run_list (acts_of list)) (SoundList (acts_of list)) (Block list) n (λ r. (block_made list).runs r) (λ ws s. block_back list ws s) p)
packs_block {E} act list is new (Err x) e p = p

pub packs_if : (act a b : Act) (t : Term) (first second : Box Act Global) (is other skipped first_code tested new : List Instruction) (k n depth : ℕ) (na nb either needs : Needs)
    → act ≡ If t first second → a ≡ first.value → b ≡ second.value
    → PacksAct is other b nb → k ≡ length other - length is → skipped ≡ skip_front k other
    → PacksAct skipped first_code a na → n ≡ length first_code - length other → tested ≡ code.Unless n ∷ first_code
    → new ≡ term_front t tested → depth ≡ term_depth t → depth + length tested ≤ length new
    → either ≡ record { depth = max na.depth nb.depth; stores = max na.stores nb.stores }
    → needs ≡ record { depth = max depth either.depth; stores = either.stores }
    → PacksAct is new act needs
packs_if act a b t first second is other skipped first_code tested new k n depth na nb either needs e ea eb pb ek es pa en et enew ed few ee eneeds =
    let pb' : PacksAct is other second.value nb = subst (λ (x : Act). PacksAct is other x nb) eb pb in
    let pa' : PacksAct (skip_front k other) first_code first.value na =
    subst (λ (x : Act). PacksAct (skip_front k other) first_code x na) ea (subst (λ (xs : List Instruction). PacksAct xs first_code a na) es pa) in
    let whole : new ≡ term_front t (code.Unless n ∷ first_code) = enew ∙ ap (term_front t) et in
    let d : needs.depth ≡ max depth (max na.depth nb.depth) =
    ap (λ (x : Needs). x.depth) eneeds ∙ ap (λ (x : Needs). max depth x.depth) ee in
    let s : needs.stores ≡ max na.stores nb.stores = ap (λ (x : Needs). x.stores) eneeds ∙ ap (λ (x : Needs). x.stores) ee in
    let q = packs_choice is other first_code t first.value second.value n k depth na nb needs pb' ek pa' en ed d s
    (omega (arith, few, ap length et, ap length whole)) in
    subst (λ (x : Act). PacksAct is new x needs) (sym e)
    (subst (λ (xs : List Instruction). PacksAct is xs (If t first second) needs) (sym whole) (packs_as is _ _ _ (If t first second) needs (λ r. refl) (λ ws h. h) q))

pub packs_case_act : (act a : Act) (kind : CaseKind) (t : Term) (labels : List Label) (items : Acts) (other : Box Act Global)
    (starts starts' : List ℕ) (is all skipped mid last tested new : List Instruction) (k room depth : ℕ) (n m either labelled needs : Needs) (ws : List ℕ)
    → act ≡ Case kind t labels items other → a ≡ other.value → starts' ≡ starts → IsSound act ws
    → ItemsStand is all starts (acts_of items) n → k ≡ length all - length is → skipped ≡ skip_front k all
    → PacksAct skipped mid a m → last ≡ code.Discard ∷ mid
    → tested ≡ labels_front kind starts' labels last → room ≡ labels_depth labels → room + length last ≤ length tested + 1
    → new ≡ term_front t tested → depth ≡ term_depth t → depth + length tested ≤ length new
    → either ≡ record { depth = max n.depth m.depth; stores = max n.stores m.stores }
    → labelled ≡ record { depth = max room either.depth; stores = either.stores }
    → needs ≡ record { depth = max depth labelled.depth; stores = labelled.stores }
    → PacksAct is new act needs
packs_case_act act a kind t labels items other starts starts' is all skipped mid last tested new k room depth n m either labelled needs ws
    e ea est sound i ek es p el etest eroom fewl enew ed few ee elab eneeds =
    let inside = (case_back t labels items other.value ws (subst (λ (x : Act). IsSound x ws) e sound)).2 in
    let p' : PacksAct (skip_front k all) mid other.value m =
    subst (λ (x : Act). PacksAct (skip_front k all) mid x m) ea (subst (λ (xs : List Instruction). PacksAct xs mid a m) es p) in
    let tests : tested ≡ labels_front kind starts labels (code.Discard ∷ mid) =
    etest ∙ (ap (λ (xs : List ℕ). labels_front kind xs labels last) est ∙ ap (labels_front kind starts labels) el) in
    let whole : new ≡ term_front t (labels_front kind starts labels (code.Discard ∷ mid)) = enew ∙ ap (term_front t) tests in
    let d : needs.depth ≡ max depth (max room (max n.depth m.depth)) =
    ap (λ (x : Needs). x.depth) eneeds ∙ (ap (λ (x : Needs). max depth x.depth) elab ∙ ap (λ (x : Needs). max depth (max room x.depth)) ee) in
    let s : needs.stores ≡ max n.stores m.stores =
    ap (λ (x : Needs). x.stores) eneeds ∙ (ap (λ (x : Needs). x.stores) elab ∙ ap (λ (x : Needs). x.stores) ee) in
    let q = packs_case is all mid kind t starts labels (acts_of items) other.value k room depth n m needs i ek p' inside eroom ed d s
    (omega (arith, fewl, ap length el, ap length tests)) (omega (arith, few, ap length tests, ap length whole)) in
    subst (λ (x : Act). PacksAct is new x needs) (sym e)
    (subst (λ (xs : List Instruction). PacksAct is xs (Case kind t labels items other) needs) (sym whole)
    (packs_as is _ _ _ (Case kind t labels items other) needs (λ r. case_runs kind t labels items other.value r)
    (λ w h. case_back t labels items other.value w h) q))

pub packs_blocking_act : (act : Act) (target : Target) (t : Term) (is mid new : List Instruction) (depth : ℕ) (a needs : Needs)
    → act ≡ Blocking target t → mid ≡ blocking_front target is → a.depth ≡ target_depth target → a.stores ≡ target_stores target
    → a.depth + length is ≤ length mid → a.stores + length is ≤ length mid
    → new ≡ term_front t mid → depth ≡ term_depth t → 1 ≤ depth → depth + length mid ≤ length new
    → needs ≡ record { depth = deepest depth a.depth; stores = a.stores }
    → PacksAct is new act needs
packs_blocking_act act target t is mid new depth a needs e em ed es fewd fews enew et some few eneeds =
    let whole : new ≡ term_front t (blocking_front target is) = enew ∙ ap (term_front t) em in
    let d = ap (λ (x : Needs). x.depth) eneeds in
    let s = ap (λ (x : Needs). x.stores) eneeds in
    let q = packs_blocking is target t depth a needs ed es et d s
    (omega (arith, d, fewd, some, few, ap length whole)) (omega (arith, s, fews, few, ap length whole)) in
    subst (λ (x : Act). PacksAct is new x needs) (sym e)
    (subst (λ (xs : List Instruction). PacksAct is xs (Blocking target t) needs) (sym whole)
    (packs_as is _ _ _ (Blocking target t) needs (λ r. refl) (λ ws h. h) q))

pub packs_later_act : (act : Act) (target : Target) (t : Term) (delay : ℕ) (is mid new : List Instruction) (depth : ℕ) (a needs : Needs)
    → act ≡ Nonblocking target t delay → mid ≡ target_front (mode.Later delay) target is → a.depth ≡ target_depth target → a.stores ≡ target_stores target
    → a.depth + length is ≤ length mid → a.stores + length is ≤ length mid
    → new ≡ term_front t mid → depth ≡ term_depth t → 1 ≤ depth → depth + length mid ≤ length new
    → needs ≡ record { depth = deepest depth a.depth; stores = a.stores }
    → PacksAct is new act needs
packs_later_act act target t delay is mid new depth a needs e em ed es fewd fews enew et some few eneeds =
    let whole : new ≡ term_front t (target_front (mode.Later delay) target is) = enew ∙ ap (term_front t) em in
    let d = ap (λ (x : Needs). x.depth) eneeds in
    let s = ap (λ (x : Needs). x.stores) eneeds in
    let q = packs_later is delay target t depth a needs ed es et d s
    (omega (arith, d, fewd, some, few, ap length whole)) (omega (arith, s, fews, few, ap length whole)) in
    subst (λ (x : Act). PacksAct is new x needs) (sym e)
    (subst (λ (xs : List Instruction). PacksAct is xs (Nonblocking target t delay) needs) (sym whole)
    (packs_as is _ _ _ (Nonblocking target t delay) needs (λ r. refl) (λ ws h. h) q))

-- ---- steps of loops

pub acts_next : (xs : List Act) (at : ℕ) (a : Act) (is mid new : List Instruction) (n m needs : Needs) → 0 < at → slice_get xs (at - 1) ≡ Some a
    → PacksActs is mid (drop at xs) m → PacksAct mid new a n
    → needs ≡ record { depth = max n.depth m.depth; stores = n.stores + m.stores } → PacksActs is new (drop (at - 1) xs) needs
acts_next xs at a is mid new n m needs h g p q e =
    let d : drop (at - 1) xs ≡ a ∷ drop at xs = drop_back xs at a h g in
    subst (λ (ys : List Act). PacksActs is new ys needs) (sym d)
    (packs_then is mid new (activation a) (run_list (drop at xs)) (IsSound a) (SoundList (drop at xs)) n m needs
    (ap (λ (x : Needs). x.depth) e) (ap (λ (x : Needs). x.stores) e) q p)

pub items_push : (xs : List Act) (at : ℕ) (a : Act) (is old skipped mid new : List Instruction) (starts starts' : List ℕ) (k start : ℕ) (n m needs : Needs)
    → slice_get xs at ≡ Some a → ItemsStand is old starts (take at xs) n → k ≡ length old - length is → skipped ≡ skip_front k old
    → PacksAct skipped mid a m → new ≡ code.Discard ∷ mid → start ≡ length new → starts' ≡ starts ++ start ∷ []
    → needs ≡ record { depth = max n.depth m.depth; stores = max n.stores m.stores }
    → ItemsStand is new starts' (take (at + 1) xs) needs
items_push xs at a is old skipped mid new starts starts' k start n m needs g i ek es p en est epush e =
    let p' = subst (λ (ys : List Instruction). PacksAct ys mid a m) es p in
    let q = items_next is old mid starts (take at xs) a k start n m needs i ek p' (est ∙ ap length en)
    (ap (λ (x : Needs). x.depth) e) (ap (λ (x : Needs). x.stores) e) in
    let ts : take (at + 1) xs ≡ take at xs ++ a ∷ [] = ap (λ (j : ℕ). take j xs) (add-one at) ∙ take_next xs at a g in
    subst (λ (ys : List Act). ItemsStand is new starts' ys needs) (sym ts)
    (subst (λ (ys : List ℕ). ItemsStand is new ys (take at xs ++ a ∷ []) needs) (sym epush)
    (subst (λ (ys : List Instruction). ItemsStand is ys (starts ++ start ∷ []) (take at xs ++ a ∷ []) needs) (sym en) q))

-- the starts of items lie in the code, also where more stands in front
pub starts_inside : (is all skipped mid last : List Instruction) (starts starts' : List ℕ) (items : List Act) (a : Act) (k : ℕ) (n m : Needs)
    → ItemsStand is all starts items n → starts' ≡ starts → skipped ≡ skip_front k all → PacksAct skipped mid a m → last ≡ code.Discard ∷ mid
    → AreStarts starts' (length last)
starts_inside is all skipped mid last starts starts' items a k n m i est es p el j h =
    let h' : j < length items = omega (arith, h, ap length est, i.count) in
    let x = at_item items j h' in
    let s = i.each j x.0 x.1 in
    let longer = ends_length s.here all s.ends in
    let longest = ends_length skipped mid p.ends in
    let e : slice_index starts' j ≡ slice_index starts j = ap (λ (ys : List ℕ). slice_index ys j) est in
    omega (arith, e, s.long, longer, longest, ap length es, skip_length k all, ap length el)

pub items_known : (t : Term) (act : Act) (kind : CaseKind) (labels : List Label) (items : Acts) (other : Box Act Global) (ws : List ℕ)
    (is all : List Instruction) (starts starts' : List ℕ) (n : Needs)
    → act ≡ Case kind t labels items other → IsSound act ws → ItemsStand is all starts (acts_of items) n → starts' ≡ starts → AreItems labels (length starts')
items_known t act kind labels items other ws is all starts starts' n e s i est =
    let inside = (case_back t labels items other.value ws (subst (λ (x : Act). IsSound x ws) e s)).2 in
    let l : length (acts_of items) ≡ length starts' = sym (ap length est ∙ i.count) in
    subst (λ (j : ℕ). AreItems labels j) l inside
