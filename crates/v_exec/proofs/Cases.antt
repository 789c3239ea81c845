-- The instructions of case statements.
use Rattle.std.proofs.Common.{◌≡◌, ℕ, zero, suc, ◌+◌, ◌-◌, ◌<◌, ◌≤◌, Bool, true, false, List, [], ◌∷◌, ◌++◌, length, slice_index, slice_get, max, Option, Some, if◌then◌else◌, refl, ap, sym, subst, ◌∙◌, arith, length-append}
use Rattle.four_value.specs.declared.Digit.{Digit}
use Rattle.gpi.specs.declared.acts.Act.{Act}
use Rattle.gpi.specs.declared.acts.CaseKind.{CaseKind}
use Rattle.gpi.specs.declared.acts.Label.{Label}
use Rattle.gpi.specs.declared.terms.Term.{Term}
use Rattle.gpi.specs.Terms as term
use Rattle.gpi.specs.Terms.{value, width, read}
use Rattle.gpi.specs.Cases.{all_agree, first_match, AreLabels, AreItems}
use Rattle.gpi.specs.Activation.{Run, activation, by_item, run_at, IsSound, SoundList}
use Rattle.v_exec.specs.declared.instruction.Instruction.{Instruction}
use Rattle.v_exec.specs.declared.instruction.Instruction.TheVariants as code
use Rattle.v_exec.specs.declared.packing.needs.Needs.{Needs}
use Rattle.v_exec.specs.Machine.{Machine, exec}
use Rattle.v_exec.specs.Fits.{Room, Fits}
use Rattle.v_exec.specs.Packing.{term_front, term_depth, skip_front}
use Rattle.v_exec.specs.Packed.{EndsBy, between, FitsUpTo, Packs, PacksAct, ItemStands, ItemsStand, labels_front, labels_depth}
use Rattle.v_exec.proofs.Terms.{term_runs, term_fits, term_stands, front_more, front_both}
use Rattle.v_exec.proofs.Acts.{exec_to, fits_to, ends_length, skip_ends, skip_length, skip_runs, skip_fits}

-- ---- items

-- the same in code that goes on in front, where more is needed besides
pub item_more : (is all new : List Instruction) (place : ℕ) (a : Act) (n m : Needs) → n.depth ≤ m.depth → n.stores ≤ m.stores → EndsBy all new
    → ItemStands is all place a n → ItemStands is new place a m
item_more is all new place a n m hd hs e i = record {
  here = i.here;
  ends = front_both i.here all new i.ends e;
  long = i.long;
  runs = i.runs;
  fits = λ w room ws st k s d l x.
      let f = i.fits w room ws st k s (omega (arith, d, hd)) (omega (arith, l, hs)) (λ j h. x j (omega (arith, h, hs))) in f;
}

pub items_more : (is all new : List Instruction) (starts : List ℕ) (items : List Act) (n m : Needs) → n.depth ≤ m.depth → n.stores ≤ m.stores
    → m.depth + length is ≤ length new → m.stores + length is ≤ length new → EndsBy all new → ItemsStand is all starts items n → ItemsStand is new starts items m
items_more is all new starts items n m hd hs ld ls e i = record {
  ends = front_both is all new i.ends e;
  count = i.count;
  each = λ k a g. item_more is all new (slice_index starts k) a n m hd hs e (i.each k a g);
  depth = ld;
  stores = ls;
}

pub items_none : (is : List Instruction) (n : Needs) → n.depth ≡ 0 → n.stores ≡ 0 → ItemsStand is is [] [] n
items_none is n e g = record {
  ends = ([], refl);
  count = refl;
  each = λ k a f. absurd (cc);
  depth = omega (arith, e);
  stores = omega (arith, g);
}

-- one more item, whose instructions were put in front
item_new : (is old mid : List Instruction) (a : Act) (k : ℕ) (n : Needs) → EndsBy is old → k ≡ length old - length is → PacksAct (skip_front k old) mid a n
    → ItemStands is (code.Discard ∷ mid) (length mid + 1) a n
item_new is old mid a k n e g p = record {
  here = code.Discard ∷ mid;
  ends = ([], refl);
  long = omega arith;
  runs = λ ds st r. p.runs st r ∙ skip_runs is old k st (activation a r) e g;
  fits = λ w room ws st c s d l x j m.
      (tt, p.fits room ws st c s d l (λ i h. skip_fits is old k room ws st i e g (x i h)) j m);
}

pub at_push : {A : Type 0} (P : ℕ → A → Type 0) (starts : List ℕ) (items : List A) (start : ℕ) (a : A) → length starts ≡ length items
    → ((k : ℕ) (x : A) → slice_get items k ≡ Some x → P (slice_index starts k) x) → P start a
    → (k : ℕ) (x : A) → slice_get (items ++ a ∷ []) k ≡ Some x → P (slice_index (starts ++ start ∷ []) k) x
at_push {A} P [] [] start a e f p zero x g = let h : a ≡ x = cc in subst (λ (y : A). P start y) h p
at_push {A} P [] [] start a e f p (suc k) x g = absurd (cc)
at_push {A} P [] (y ∷ items) start a e f p k x g = absurd (omega (arith, e))
at_push {A} P (s ∷ starts) [] start a e f p k x g = absurd (omega (arith, e))
at_push {A} P (s ∷ starts) (y ∷ items) start a e f p zero x g = f zero x g
at_push {A} P (s ∷ starts) (y ∷ items) start a e f p (suc k) x g =
    at_push P starts items start a (omega (arith, e)) (λ i z h. f (suc i) z h) p k x g

pub items_next : (is old mid : List Instruction) (starts : List ℕ) (items : List Act) (a : Act) (k start : ℕ) (n m needs : Needs)
    → ItemsStand is old starts items n → k ≡ length old - length is → PacksAct (skip_front k old) mid a m → start ≡ length (code.Discard ∷ mid)
    → needs.depth ≡ max n.depth m.depth → needs.stores ≡ max n.stores m.stores
    → ItemsStand is (code.Discard ∷ mid) (starts ++ start ∷ []) (items ++ a ∷ []) needs
items_next is old mid starts items a k start n m needs i g p s hd hs =
    let new = code.Discard ∷ mid in
    let skipped : EndsBy old mid = front_both old (skip_front k old) mid (skip_ends k old) p.ends in
    let behind : EndsBy old new = (code.Discard ∷ skipped.0, ap (λ (xs : List Instruction). code.Discard ∷ xs) skipped.1) in
    let lo = ends_length is old i.ends in
    let ln = ends_length (skip_front k old) mid p.ends in
    let ls = skip_length k old in
    let e : length mid + 1 ≡ start = omega (arith, s) in
    let here : ItemStands is new start a needs =
    item_more is new new start a m needs (omega (arith, hd)) (omega (arith, hs)) ([], refl)
    (subst (λ (j : ℕ). ItemStands is new j a m) e (item_new is old mid a k m i.ends g p)) in
    record {
      ends = front_both is old new i.ends behind;
      count = omega (arith, length-append starts (start ∷ []), length-append items (a ∷ []), i.count);
      each = at_push (λ (j : ℕ) (x : Act). ItemStands is new j x needs) starts items start a i.count
          (λ c x h. item_more is old new (slice_index starts c) x n needs (omega (arith, hd)) (omega (arith, hs)) behind (i.each c x h)) here;
      depth = omega (arith, hd, i.depth, p.depth, lo, ln, ls);
      stores = omega (arith, hs, i.stores, p.stores, lo, ln, ls);
    }

-- ---- labels

pub at_item : (items : List Act) (k : ℕ) → k < length items → (a : Act) × (slice_get items k ≡ Some a) × ((r : Run) → run_at items k r ≡ activation a r) × ((ws : List ℕ) → SoundList items ws → IsSound a ws)
at_item [] k h = absurd (omega (arith, h))
at_item (a ∷ items) zero h = (a, refl, λ r. refl, λ ws s. s.0)
at_item (a ∷ items) (suc k) h =
    let i = at_item items k (omega (arith, h)) in (i.0, i.1, i.2, λ ws s. i.3 ws s.1)

pub labels_stand : (kind : CaseKind) (starts : List ℕ) (ls : List Label) (is : List Instruction) → EndsBy is (labels_front kind starts ls is)
labels_stand kind starts [] is = ([], refl)
labels_stand kind starts (l ∷ ls) is =
    let rest = labels_front kind starts ls is in
    let i = code.Match kind (length rest - slice_index starts l.item) in
    front_both is rest (term_front l.value (i ∷ rest)) (labels_stand kind starts ls is) (front_more rest i (term_front l.value (i ∷ rest)) (term_stands l.value (i ∷ rest)))

-- a jump to an item
item_runs : (is all new : List Instruction) (starts : List ℕ) (items : List Act) (n : Needs) (k : ℕ) (ds : List Digit) (st : List (List Digit)) (r : Run)
    → ItemsStand is all starts items n → EndsBy all new → k < length items
    → exec new (length new - slice_index starts k) (between (ds ∷ st) r) ≡ exec is 0 (between st (run_at items k r))
item_runs is all new starts items n k ds st r i e h =
    let a = at_item items k h in
    let s = i.each k a.0 a.1 in
    exec_to s.here new (length new - slice_index starts k) (between (ds ∷ st) r) (front_both s.here all new s.ends e) (omega (arith, s.long))
    ∙ (s.runs ds st r ∙ ap (λ (x : Run). exec is 0 (between st x)) (sym (a.2 r)))

item_fits : (is all new : List Instruction) (starts : List ℕ) (items : List Act) (n : Needs) (k : ℕ) (room : Room) (ws st : List ℕ) (w c : ℕ)
    → ItemsStand is all starts items n → EndsBy all new → k < length items → SoundList items ws
    → length st + n.depth ≤ room.depth → c + n.stores ≤ room.stores → FitsUpTo room ws is st (c + n.stores)
    → (j : ℕ) → j ≤ c → Fits room ws new (length new - slice_index starts k) (record { stack = w ∷ st; stores = j })
item_fits is all new starts items n k room ws st w c i e h sound d l x j m =
    let a = at_item items k h in
    let s = i.each k a.0 a.1 in
    fits_to s.here new (length new - slice_index starts k) room ws (w ∷ st) j (front_both s.here all new s.ends e) (omega (arith, s.long))
    (s.fits w room ws st c (a.3 ws sound) d l x j m)

taken : (b : Bool) (n k : ℕ) (new is : List Instruction) (m : Machine) (st : List (List Digit)) (items : ℕ → Run) (o : Option ℕ) (other : Run)
    → exec new n m ≡ exec is 0 (between st (items k)) → exec new 0 m ≡ exec is 0 (between st (by_item o items other))
    → exec new (if b then n else 0) m ≡ exec is 0 (between st (by_item (if b then Some k else o) items other))
taken true n k new is m st items o other x y = x
taken false n k new is m st items o other x y = y

labels_run : (kind : CaseKind) (starts : List ℕ) (ls : List Label) (is all last : List Instruction) (items : List Act) (other : Act) (n : Needs)
    (ds : List Digit) (st : List (List Digit)) (r : Run) → ItemsStand is all starts items n → EndsBy all last → AreItems ls (length items)
    → exec last 0 (between (ds ∷ st) r) ≡ exec is 0 (between st (activation other r))
    → exec (labels_front kind starts ls last) 0 (between (ds ∷ st) r)
    ≡ exec is 0 (between st (by_item (first_match kind ds ls (read r.signals)) (λ k. run_at items k r) (activation other r)))
labels_run kind starts [] is all last items other n ds st r i e h f = f
labels_run kind starts (l ∷ ls) is all last items other n ds st r i e h f =
    let rest = labels_front kind starts ls last in
    let label = value l.value (read r.signals) in
    let jump = code.Match kind (length rest - slice_index starts l.item) in
    term_runs l.value (jump ∷ rest) (between (ds ∷ st) r)
    ∙ taken (all_agree kind ds label) (length rest - slice_index starts l.item) l.item rest is (between (ds ∷ st) r) st (λ k. run_at items k r)
    (first_match kind ds ls (read r.signals)) (activation other r)
    (item_runs is all rest starts items n l.item ds st r i (front_both all last rest e (labels_stand kind starts ls last)) h.0)
    (labels_run kind starts ls is all last items other n ds st r i e h.1 f)

labels_fit : (kind : CaseKind) (starts : List ℕ) (ls : List Label) (is all last : List Instruction) (items : List Act) (n : Needs)
    (room : Room) (ws st : List ℕ) (w c : ℕ) → ItemsStand is all starts items n → EndsBy all last
    → AreItems ls (length items) → AreLabels ls w ws → SoundList items ws
    → length st + max n.depth (labels_depth ls) ≤ room.depth → c + n.stores ≤ room.stores → FitsUpTo room ws is st (c + n.stores)
    → FitsUpTo room ws last (w ∷ st) c → FitsUpTo room ws (labels_front kind starts ls last) (w ∷ st) c
labels_fit kind starts [] is all last items n room ws st w c i e h a s d l x f j m = f j m
labels_fit kind starts (label ∷ ls) is all last items n room ws st w c i e h a s d l x f j m =
    let rest = labels_front kind starts ls last in
    let jump = code.Match kind (length rest - slice_index starts label.item) in
    term_fits label.value room ws (jump ∷ rest) (record { stack = w ∷ st; stores = j }) a.0 (omega (arith, d))
    ((
      sym a.1,
      (
        labels_fit kind starts ls is all last items n room ws st w c i e h.1 a.2 s (omega (arith, d)) l x f j m,
        item_fits is all rest starts items n label.item room ws st w c i (front_both all last rest e (labels_stand kind starts ls last)) h.0 s (omega (arith, d)) l x j m,
      ),
    ))

-- ---- the whole statement

pub packs_case : (is all mid : List Instruction) (kind : CaseKind) (t : Term) (starts : List ℕ) (labels : List Label) (items : List Act) (other : Act)
    (k labels_room depth : ℕ) (n m needs : Needs) → ItemsStand is all starts items n → k ≡ length all - length is → PacksAct (skip_front k all) mid other m
    → AreItems labels (length items)
    → labels_room ≡ labels_depth labels → depth ≡ term_depth t
    → needs.depth ≡ max depth (max labels_room (max n.depth m.depth)) → needs.stores ≡ max n.stores m.stores
    → labels_room + length (code.Discard ∷ mid) ≤ length (labels_front kind starts labels (code.Discard ∷ mid)) + 1
    → depth + length (labels_front kind starts labels (code.Discard ∷ mid)) ≤ length (term_front t (labels_front kind starts labels (code.Discard ∷ mid)))
    → Packs is (term_front t (labels_front kind starts labels (code.Discard ∷ mid)))
    (λ r. by_item (first_match kind (value t (read r.signals)) labels (read r.signals)) (λ j. run_at items j r) (activation other r))
    (λ ws. term.IsSound t ws × AreLabels labels (width t) ws × AreItems labels (length items) × SoundList items ws × IsSound other ws) needs
packs_case is all mid kind t starts labels items other k labels_room depth n m needs i ek p inside el et nd ns few_labels few =
    let last = code.Discard ∷ mid in
    let code_of_labels = labels_front kind starts labels last in
    let skipped : EndsBy all mid = front_both all (skip_front k all) mid (skip_ends k all) p.ends in
    let behind : EndsBy all last = (code.Discard ∷ skipped.0, ap (λ (xs : List Instruction). code.Discard ∷ xs) skipped.1) in
    let end_last : EndsBy is last = front_both is all last i.ends behind in
    let end_labels : EndsBy is code_of_labels = front_both is last code_of_labels end_last (labels_stand kind starts labels last) in
    let ll = ends_length last code_of_labels (labels_stand kind starts labels last) in
    let la = ends_length is all i.ends in
    let lm = ends_length (skip_front k all) mid p.ends in
    let ls = skip_length k all in
    let lt = ends_length code_of_labels (term_front t code_of_labels) (term_stands t code_of_labels) in
    record {
      ends = front_both is code_of_labels _ end_labels (term_stands t code_of_labels);
      runs = λ st r.
          let ds = value t (read r.signals) in
          term_runs t code_of_labels (between st r)
          ∙ labels_run kind starts labels is all last items other n ds st r i behind inside
          (p.runs st r ∙ skip_runs is all k st (activation other r) i.ends ek);
      fits = λ room ws st c s d l x j h.
          let rest : FitsUpTo room ws is st (c + m.stores) = λ a g. x a (omega (arith, g, ns)) in
          let skip : FitsUpTo room ws (skip_front k all) st (c + m.stores) = λ a g. skip_fits is all k room ws st a i.ends ek (rest a g) in
          let default : FitsUpTo room ws last (width t ∷ st) c =
          λ a g. (tt, p.fits room ws st c s.4 (omega (arith, d, nd)) (omega (arith, l, ns)) skip a g) in
          term_fits t room ws code_of_labels (record { stack = st; stores = j }) s.0 (omega (arith, d, nd, et))
          (labels_fit kind starts labels is all last items n room ws st (width t) c i behind s.2 s.1 s.3
          (omega (arith, d, nd, el)) (omega (arith, l, ns)) (λ a g. x a (omega (arith, g, ns))) default j h);
      depth = omega (arith, nd, few, few_labels, i.depth, p.depth, ll, la, lm, lt, ls);
      stores = omega (arith, ns, i.stores, p.stores, ll, la, lm, lt, ls);
    }
