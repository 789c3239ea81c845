-- An activation leaves each signal as wide as it is, and its updates lie in their signals.
use Rattle.std.proofs.Common.{◌≡◌, ℕ, zero, suc, ◌+◌, ◌<◌, ◌≤◌, ◌==◌, Bool, true, false, List, [], ◌∷◌, ◌++◌, length, map, get_or, take, drop, set, Option, None, Some, refl, ap, sym, ◌∙◌, arith, length-append}
use Rattle.std.proofs.lemmas.List.{length-take, length-drop}
use Rattle.std.specs.Prelude.{IfSome, cond, slice_index, slice_get}
use Rattle.four_value.specs.declared.Digit.{Digit}
use Rattle.four_value.specs.declared.Digit.TheVariants.{Zero, One, X, Z}
use Rattle.four_value.specs.Vector.{number, slice}
use Rattle.four_value.proofs.Lengths.{length_slice}
use Rattle.gpi.specs.declared.acts.Act.{Act, Empty, Block', If', Case', Blocking, Nonblocking, Row_of-Act, end_of-Act, more_of-Act}
use Rattle.gpi.specs.declared.design.Process.{Process}
use Rattle.gpi.specs.declared.selects.Overlap.{Overlap}
use Rattle.gpi.specs.declared.targets.Object.{Object}
use Rattle.gpi.specs.declared.targets.Object.TheVariants.{Signal, Word}
use Rattle.gpi.specs.declared.targets.Target.{Target}
use Rattle.gpi.specs.declared.targets.Target.TheVariants.{Whole, Select, Join'}
use Rattle.gpi.specs.declared.types.Update.{Update}
use Rattle.gpi.specs.Activation.{Map, Hidden, Run, with_part, hidden_in, written_over, written, blocking, after, by_truth, by_item, activation, activations, activation_at, IsSound, AreSound, AreHidden}
use Rattle.gpi.specs.Cases.{first_match}
use Rattle.gpi.specs.Design.{Proc, procs_of}
use Rattle.gpi.specs.Operators.{truth}
use Rattle.gpi.specs.Selects.{overlap_of, word_at, IsInside}
use Rattle.gpi.specs.Soundness.{AreProcesses}
use Rattle.gpi.specs.State.{at_once}
use Rattle.gpi.specs.Targets.{object_at, object_width, whole_update, part_update, updates_of, target_width, IsSoundObject, IsSoundTarget, IsFitting, AreFitting}
use Rattle.gpi.specs.Terms.{read, value, widths_of, AreWords}
use Rattle.gpi.proofs.Steps.{hidden_set, hidden_width}
use Rattle.gpi.proofs.Widths.{length_widths, get_or_widths, widths_set}
use Rattle.run_laws.proofs.PlacesLemmas.Values.{overlap_inside, word_inside, value_width}

-- ---- a write of a part

pub part_width : (ds : List Digit) (low : ℕ) (part : List Digit) → low + length part ≤ length ds → length (with_part ds low part) ≡ length ds
part_width ds low part h =
    let a : length (with_part ds low part) ≡ length (take low ds) + length (part ++ drop (low + length part) ds)
    = length-append (take low ds) (part ++ drop (low + length part) ds) in
    let b : length (part ++ drop (low + length part) ds) ≡ length part + length (drop (low + length part) ds) = length-append part (drop (low + length part) ds) in
    omega (arith, length-take low ds, length-drop (low + length part) ds)

-- a value as wide as its signal leaves all widths
pub same_widths : (m : Map) (s : ℕ) (v : List Digit) → s < length m → length v ≡ length (get_or m s []) → widths_of (set m s v) ≡ widths_of m
same_widths m s v h e = widths_set m s v h (e ∙ sym (get_or_widths m s [] h))

module _ (ws : List ℕ) where
  -- ---- updates

  pub fitting_more : (us vs : List Update) → AreFitting us ws → AreFitting vs ws → AreFitting (us ++ vs) ws
  fitting_more [] vs h k = k
  fitting_more (u ∷ us) vs h k = (h.0, fitting_more us vs h.1 k)

  pub inside_width : (m : Map) (s : ℕ) → widths_of m ≡ ws → s < length ws → length (get_or m s []) ≡ slice_index ws s
  inside_width m s e h =
      let l : length ws ≡ length m = ap length (sym e) ∙ length_widths m in
      sym (get_or_widths m s [] (omega arith)) ∙ ap (λ (xs : List ℕ). get_or xs s 0) e

  after_fitting : (n : ℕ) (us : List Update) → AreFitting us ws → AreFitting (map (after n) us) ws
  after_fitting n [] h = tt
  after_fitting n (u ∷ us) h = (h.0, after_fitting n us h.1)

  pub at_once_fitting : (us : List Update) → AreFitting us ws → AreFitting (at_once us) ws
  at_once_fitting [] h = tt
  at_once_fitting (u ∷ us) h = decided (u.delay == 0) (at_once_fitting us h.1)
    where
      decided : (b : Bool) → AreFitting (at_once us) ws → AreFitting (cond b (u ∷ at_once us) (at_once us)) ws
      decided true more = (h.0, more)
      decided false more = more

  -- ---- targets

  -- the object that is meant is a signal of its width
  abbrev IsMeant : ℕ → ℕ → Type 0
  IsMeant w s = (s < length ws) × (slice_index ws s ≡ w)

  word_meant : (words : _) (w : ℕ) (o : Option ℕ) → AreWords words w ws → IfSome o (λ (s : ℕ). (words.first.0 ≤ s) × (s < words.first.0 + words.count)) → IfSome o (IsMeant w)
  word_meant words w None h k = tt
  word_meant words w (Some s) h k = let inside : words.first.0 + words.count ≤ length ws = h.inside in (omega (arith, k.1, inside), h.each s k.0 k.1)

  object_meant : (o : Object) (m : ℕ → List Digit) → IsSoundObject o ws → IfSome (object_at o m) (IsMeant (object_width o))
  object_meant (Signal s w) m h = (h.0, h.1)
  object_meant (Word words i w) m h = word_meant words w (word_at words (number (value i m))) h.1 (word_inside words (number (value i m)))

  whole_fits : (w : ℕ) (o : Option ℕ) (ds : List Digit) → IfSome o (IsMeant w) → length ds ≡ w → AreFitting (whole_update o ds) ws
  whole_fits w (Some s) ds h e = ((h.0, omega (arith, h.1, e)), tt)
  whole_fits w None ds h e = tt

  part_fits : (w n : ℕ) (o : Option ℕ) (p : Option Overlap) (ds : List Digit) → IfSome o (IsMeant w) → IfSome p (IsInside w n) → length ds ≡ n
      → AreFitting (part_update o p ds) ws
  part_fits w n (Some s) (Some p) ds h k e =
      let inside : p.skip + p.count ≤ length ds = omega (arith, k.select, e) in
      let l : length (slice ds p.skip p.count) ≡ p.count = length_slice ds p.skip p.count inside in
      ((h.0, omega (arith, h.1, k.vector, l)), tt)
  part_fits w n (Some s) None ds h k e = tt
  part_fits w n None p ds h k e = tt

  pub updates_fit : (t : Target) (m : ℕ → List Digit) (ds : List Digit) → IsSoundTarget t ws → length ds ≡ target_width t → AreFitting (updates_of t m ds) ws
  updates_fit (Whole o) m ds h e = whole_fits (object_width o) (object_at o m) ds (object_meant o m h) e
  updates_fit (Select o range i w) m ds h e =
      part_fits (object_width o) w (object_at o m) (overlap_of range (object_width o) (number (value i m)) w) ds (object_meant o m h.0)
      (overlap_inside range (object_width o) (number (value i m)) w) e
  updates_fit (Join' p a q b) m ds h e =
      fitting_more (updates_of a m (slice ds (target_width b) (target_width a))) (updates_of b m (slice ds 0 (target_width b)))
      (updates_fit a m (slice ds (target_width b) (target_width a)) h.0 (length_slice ds (target_width b) (target_width a) (omega arith)))
      (updates_fit b m (slice ds 0 (target_width b)) h.1 (length_slice ds 0 (target_width b) (omega arith)))

  -- ---- statements

  -- the shown and the hidden values have these widths, and the updates lie in them
  pub record RunFits (r : Run) : Type 0 where
    pub wide : widths_of r.signals ≡ ws
    pub hidden : AreHidden r.hidden ws
    pub fits : AreFitting r.updates ws

  written_over_fits : (o : Option (List Digit)) (u : Update) (r : Run) → hidden_in r.hidden u.sig.0 ≡ o → IsFitting u ws → RunFits r → RunFits (written_over o u r)
  written_over_fits None u r e h k =
      let l : length ws ≡ length r.signals = ap length (sym k.wide) ∙ length_widths r.signals in
      let w : length (get_or r.signals u.sig.0 []) ≡ slice_index ws u.sig.0 = inside_width r.signals u.sig.0 k.wide h.0 in
      record {
        wide =
            same_widths r.signals u.sig.0 (with_part (get_or r.signals u.sig.0 []) u.low u.bits) (omega (arith, h.0, l))
            (part_width (get_or r.signals u.sig.0 []) u.low u.bits (omega (arith, h.1, w))) ∙ k.wide;
        hidden = k.hidden;
        fits = k.fits;
      }
  written_over_fits (Some ds) u r e h k =
      let w : length ds ≡ slice_index ws u.sig.0 = hidden_width r.hidden ws u.sig.0 ds k.hidden h.0 e in
      record {
        wide = k.wide;
        hidden = hidden_set r.hidden ws u.sig.0 (Some (with_part ds u.low u.bits)) k.hidden h.0 (part_width ds u.low u.bits (omega (arith, h.1, w)) ∙ w);
        fits = k.fits;
      }

  blocking_fits : (us : List Update) (r : Run) → AreFitting us ws → RunFits r → RunFits (blocking us r)
  blocking_fits [] r h k = k
  blocking_fits (u ∷ us) r h k = blocking_fits us (written u r) h.1 (written_over_fits (hidden_in r.hidden u.sig.0) u r refl h.0 k)

  by_truth_fits : (d : Digit) (a b : Run) → RunFits a → RunFits b → RunFits (by_truth d a b)
  by_truth_fits One a b h k = h
  by_truth_fits Zero a b h k = k
  by_truth_fits X a b h k = k
  by_truth_fits Z a b h k = k

  by_item_fits : (o : Option ℕ) (items : ℕ → Run) (other : Run) → ((n : ℕ) → RunFits (items n)) → RunFits other → RunFits (by_item o items other)
  by_item_fits (Some n) items other h k = h n
  by_item_fits None items other h k = k

  assigned_fit : (target : Target) (t : _) (r : Run) → IsSound (Blocking target t) ws → RunFits r → AreFitting (updates_of target (read r.signals) (value t (read r.signals))) ws
  assigned_fit target t r h k =
      updates_fit target (read r.signals) (value t (read r.signals)) h.0
      (value_width ws (read r.signals) (λ (s : ℕ) (l : s < length ws). inside_width r.signals s k.wide l) t h.1 ∙ h.2)

  mutual
    pub activation_fits : (a : Act) (r : Run) → IsSound a ws → RunFits r → RunFits (activation a r)
    activation_fits Empty r h k = k
    activation_fits (Block' shape all) r h k = activations_fit all r h k
    activation_fits (If' t p a q b) r h k =
        by_truth_fits (truth (value t (read r.signals))) (activation a r) (activation b r) (activation_fits a r h.1 k) (activation_fits b r h.2 k)
    activation_fits (Case' kind t labels shape all p other) r h k =
        by_item_fits (first_match kind (value t (read r.signals)) labels (read r.signals)) (λ n. activation_at all n r) (activation other r)
        (λ n. item_fits all n r h.3 k) (activation_fits other r h.4 k)
    activation_fits (Blocking target t) r h k =
        blocking_fits (updates_of target (read r.signals) (value t (read r.signals))) r (assigned_fit target t r h k) k
    activation_fits (Nonblocking target t n) r h k =
        let us : List Update = updates_of target (read r.signals) (value t (read r.signals)) in
        record { wide = k.wide; hidden = k.hidden; fits = fitting_more r.updates (map (after n) us) k.fits (after_fitting n us (assigned_fit target t r h k)) }

    activations_fit : {n : _} (all : Row_of-Act n) (r : Run) → AreSound all ws → RunFits r → RunFits (activations all r)
    activations_fit end_of-Act r h k = k
    activations_fit (more_of-Act a rest) r h k = activations_fit rest (activation a r) h.1 (activation_fits a r h.0 k)

    item_fits : {n : _} (all : Row_of-Act n) (i : ℕ) (r : Run) → AreSound all ws → RunFits r → RunFits (activation_at all i r)
    item_fits end_of-Act i r h k = k
    item_fits (more_of-Act a rest) zero r h k = activation_fits a r h.0 k
    item_fits (more_of-Act a rest) (suc i) r h k = item_fits rest i r h.1 k

  -- ---- processes

  -- whatever it finds, it leaves each signal as wide
  abbrev pub Fits : Proc → Type 0
  Fits p = (m : Map) (h : Hidden) → widths_of m ≡ ws → AreHidden h ws → RunFits (p.run m h)

  pub process_fits : (ps : List Process) (n : ℕ) → AreProcesses ps ws → IfSome (slice_get (procs_of ps) n) Fits
  process_fits [] n h = tt
  process_fits (p ∷ ps) zero h = λ (m : Map) (hidden : Hidden) (e : widths_of m ≡ ws) (k : AreHidden hidden ws).
      activation_fits p.body (record { signals = m; hidden = hidden; updates = [] }) h.0 (record { wide = e; hidden = k; fits = tt })
  process_fits (p ∷ ps) (suc n) h = process_fits ps n h.2
