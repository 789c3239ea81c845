-- Steps along the lists of a design, for the test of its soundness.
use Rattle.std.proofs.Common.{◌≡◌, ℕ, zero, suc, ◌+◌, ◌-◌, ◌<◌, ◌≤◌, ◌&&◌, ◌↔◌, nat_lt, nat_le, Bool, true, false, IsTrue, List, [], ◌∷◌, length, drop, slice_get, slice_index, Some, refl, ap, sym, subst, ◌∙◌, arith, add-one}
use Rattle.std.proofs.lemmas.List.{drop_all}
use Rattle.std.proofs.lemmas.Bool.{leb-true, and_parts}
use Rattle.gpi.specs.declared.design.Signal.{Signal}
use Rattle.gpi.specs.declared.design.Wake.{Wake}
use Rattle.gpi.specs.declared.design.Process.{Process}
use Rattle.gpi.specs.declared.design.Node.{Node}
use Rattle.gpi.specs.declared.design.Spot.{Spot}
use Rattle.gpi.specs.declared.acts.Act.{Act}
use Rattle.gpi.specs.declared.acts.Act.TheViews.{Block}
use Rattle.gpi.specs.declared.acts.Acts.{Acts}
use Rattle.gpi.specs.declared.acts.Act.TheBlock.{hidden-the_row-Act-0}
use Rattle.gpi.specs.declared.terms.Term.{Term}
use Rattle.gpi.specs.declared.acts.Label.{Label}
use Rattle.gpi.specs.Terms.{width, IsWidth}
use Rattle.gpi.specs.Terms as term
use Rattle.gpi.specs.Cases.{AreLabels, AreItems}
use Rattle.gpi.specs.Activation.{acts_of, row_length, IsSound, AreSound, SoundList}
use Rattle.gpi.specs.Design.{widths}
use Rattle.gpi.proofs.Rows.{list_sound}
use Rattle.gpi.proofs.Made.{case_sound, case_back}
use Rattle.gpi.specs.Soundness.{AreProcesses, are_wide, are_wakes, are_spots, are_nodes, is_spot}

-- ---- any list

pub drop_found : {A : Type 0} (xs : List A) (n : ℕ) (x : A) → slice_get xs n ≡ Some x → drop n xs ≡ x ∷ drop (suc n) xs
drop_found [] n x h = absurd (cc)
drop_found {A} (y ∷ xs) zero x h = let e : y ≡ x = cc in ap (λ (z : A). z ∷ xs) e
drop_found (y ∷ xs) (suc n) x h = drop_found xs n x h

pub drop_next : {A : Type 0} (xs : List A) (n : ℕ) (x : A) → slice_get xs n ≡ Some x → drop n xs ≡ x ∷ drop (n + 1) xs
drop_next {A} xs n x h = drop_found xs n x h ∙ ap (λ (m : ℕ). x ∷ drop m xs) (sym (add-one n))

-- ---- signals

pub length_signals : (ss : List Signal) → length (widths ss) ≡ length ss
length_signals [] = refl
length_signals (s ∷ ss) = ap suc (length_signals ss)

pub width_at : (ss : List Signal) (n : ℕ) (s : Signal) → slice_get ss n ≡ Some s → slice_index (widths ss) n ≡ s.width
width_at [] n s h = absurd (cc)
width_at (x ∷ ss) zero s h = let e : x ≡ s = cc in ap (λ (y : Signal). y.width) e
width_at (x ∷ ss) (suc n) s h = width_at ss n s h

pub wide_step : (ss : List Signal) (n : ℕ) (s : Signal) → slice_get ss n ≡ Some s
    → are_wide (drop n ss) ≡ ((nat_le 1 s.width && nat_le s.width 128) && are_wide (drop (n + 1) ss))
wide_step ss n s h = rw (drop_found ss n s h, add-one) refl

pub wide_end : (ss : List Signal) (n : ℕ) → length ss ≤ n → are_wide (drop n ss) ≡ true
wide_end ss n h = rw (drop_all n ss h) refl

-- ---- wakes, children, nodes

pub wakes_step : (ws : List Wake) (n k : ℕ) (w : Wake) → slice_get ws n ≡ Some w
    → are_wakes (drop n ws) k ≡ (nat_lt w.sig.0 k && are_wakes (drop (n + 1) ws) k)
wakes_step ws n k w h = rw (drop_found ws n w h, add-one) refl

pub wakes_end : (ws : List Wake) (n k : ℕ) → length ws ≤ n → are_wakes (drop n ws) k ≡ true
wakes_end ws n k h = rw (drop_all n ws h) refl

pub spots_step : (nodes signals : ℕ) (cs : List (List ℕ × Spot)) (n : ℕ) (c : List ℕ × Spot) → slice_get cs n ≡ Some c
    → are_spots nodes signals (drop n cs) ≡ (is_spot nodes signals c.1 && are_spots nodes signals (drop (n + 1) cs))
spots_step nodes signals cs n c h = rw (drop_found cs n c h, add-one) refl

pub spots_end : (nodes signals : ℕ) (cs : List (List ℕ × Spot)) (n : ℕ) → length cs ≤ n → are_spots nodes signals (drop n cs) ≡ true
spots_end nodes signals cs n h = rw (drop_all n cs h) refl

pub nodes_step : (nodes signals : ℕ) (ns : List Node) (n : ℕ) (x : Node) → slice_get ns n ≡ Some x
    → are_nodes nodes signals (drop n ns) ≡ (are_spots nodes signals x.children && are_nodes nodes signals (drop (n + 1) ns))
nodes_step nodes signals ns n x h = rw (drop_found ns n x h, add-one) refl

pub nodes_end : (nodes signals : ℕ) (ns : List Node) (n : ℕ) → length ns ≤ n → are_nodes nodes signals (drop n ns) ≡ true
nodes_end nodes signals ns n h = rw (drop_all n ns h) refl

-- ---- labels, statements, processes: what is so of those from n on

pub labels_step : (ls : List Label) (n w k : ℕ) (l : Label) (ws : List ℕ) → slice_get ls n ≡ Some l
    → (AreLabels (drop n ls) w ws × AreItems (drop n ls) k)
    ≡ ((term.IsSound l.value ws × (width l.value ≡ w) × AreLabels (drop (n + 1) ls) w ws) × ((l.item < k) × AreItems (drop (n + 1) ls) k))
labels_step ls n w k l ws h = rw (drop_found ls n l h, add-one) refl

pub statements_step : (xs : List Act) (n : ℕ) (a : Act) (ws : List ℕ) → slice_get xs n ≡ Some a
    → SoundList (drop n xs) ws ≡ (IsSound a ws × SoundList (drop (n + 1) xs) ws)
statements_step xs n a ws h = rw (drop_found xs n a h, add-one) refl

pub processes_step : (ps : List Process) (n : ℕ) (p : Process) (ws : List ℕ) → slice_get ps n ≡ Some p
    → AreProcesses (drop n ps) ws ≡ (IsSound p.body ws × IsTrue (are_wakes p.wakes (length ws)) × AreProcesses (drop (n + 1) ps) ws)
processes_step ps n p ws h = rw (drop_found ps n p h, add-one) refl

-- ---- a signal's width is 1 to 128

pub wide_at : (ss : List Signal) (n : ℕ) (s : Signal) → slice_get ss n ≡ Some s → IsTrue (are_wide ss) → IsWidth s.width
wide_at [] n s h w = absurd (cc)
wide_at (x ∷ ss) zero s h w =
    let e : x ≡ s = cc in
    let k = and_parts (nat_le 1 x.width && nat_le x.width 128) (are_wide ss) w in
    let l = and_parts (nat_le 1 x.width) (nat_le x.width 128) k.0 in
    subst (λ (y : Signal). IsWidth y.width) e (leb-true 1 x.width l.0, leb-true x.width 128 l.1)
wide_at (x ∷ ss) (suc n) s h w = wide_at ss n s h (and_parts (nat_le 1 x.width && nat_le x.width 128) (are_wide ss) w).1

-- ---- loops that end at the first that isn't so

pub no_more : {a b : Bool} (x y : Bool) → a ≡ b → b ≡ (x && y) → x ≡ false → false ≡ a
no_more {a} {b} x y e f h = sym (e ∙ (f ∙ ap (λ (z : Bool). z && y) h))

pub go_on : {a b : Bool} (x y : Bool) → a ≡ b → b ≡ (x && y) → x ≡ true → a ≡ y
go_on {a} {b} x y e f h = e ∙ (f ∙ ap (λ (z : Bool). z && y) h)

-- the same of facts: A of the whole list, B of those from one on, P of that one, Q of the rest

pub no_fact : {A B P Q : Type 0} (r : Bool) → A ↔ B → B ↔ (P × Q) → IsTrue r ↔ P → r ≡ false → IsTrue false ↔ A
no_fact r i e p h = (λ f. absurd (cc), λ a. let k = p.1 (e.0 (i.0 a)).0 in absurd (cc))

pub go_fact : {A B P Q : Type 0} (r : Bool) → A ↔ B → B ↔ (P × Q) → IsTrue r ↔ P → r ≡ true → A ↔ Q
go_fact r i e p h = (λ a. (e.0 (i.0 a)).1, λ q. i.1 (e.1 (p.0 h, q)))

pub last_fact : {A B : Type 0} → A ↔ B → B → IsTrue true ↔ A
last_fact i b = (λ f. i.1 b, λ a. refl)

same_fact : {A B : Type 0} → A ≡ B → A ↔ B
same_fact {A} e = subst (λ (X : Type 0). A ↔ X) e (λ a. a, λ a. a)

pub labels_fact : (ls : List Label) (n w k : ℕ) (l : Label) (ws : List ℕ) → slice_get ls n ≡ Some l
    → (AreLabels (drop n ls) w ws × AreItems (drop n ls) k)
    ↔ ((term.IsSound l.value ws × (width l.value ≡ w) × (l.item < k)) × (AreLabels (drop (n + 1) ls) w ws × AreItems (drop (n + 1) ls) k))
labels_fact ls n w k l ws h =
    let e = same_fact (labels_step ls n w k l ws h) in
    (λ a. let b = e.0 a in ((b.0.0, b.0.1, b.1.0), (b.0.2, b.1.1)), λ b. e.1 ((b.0.0, b.0.1, b.1.0), (b.0.2, b.1.1)))

pub labels_last : (ls : List Label) (n w k : ℕ) (ws : List ℕ) → length ls ≤ n → AreLabels (drop n ls) w ws × AreItems (drop n ls) k
labels_last ls n w k ws h = rw (drop_all n ls h) (tt, tt)

pub statements_fact : (xs : List Act) (n : ℕ) (a : Act) (ws : List ℕ) → slice_get xs n ≡ Some a
    → SoundList (drop n xs) ws ↔ (IsSound a ws × SoundList (drop (n + 1) xs) ws)
statements_fact xs n a ws h = same_fact (statements_step xs n a ws h)

pub statements_last : (xs : List Act) (n : ℕ) (ws : List ℕ) → length xs ≤ n → SoundList (drop n xs) ws
statements_last xs n ws h = rw (drop_all n xs h) tt

pub processes_fact : (ps : List Process) (n : ℕ) (p : Process) (ws : List ℕ) → slice_get ps n ≡ Some p
    → AreProcesses (drop n ps) ws ↔ ((IsSound p.body ws × IsTrue (are_wakes p.wakes (length ws))) × AreProcesses (drop (n + 1) ps) ws)
processes_fact ps n p ws h =
    let e = same_fact (processes_step ps n p ws h) in
    (λ a. let b = e.0 a in ((b.0, b.1), b.2), λ b. e.1 (b.0.0, b.0.1, b.1))

pub processes_last : (ps : List Process) (n : ℕ) (ws : List ℕ) → length ps ≤ n → AreProcesses (drop n ps) ws
processes_last ps n ws h = rw (drop_all n ps h) tt

-- ---- counting from the end

pub drop_back : {A : Type 0} (xs : List A) (n : ℕ) (x : A) → 0 < n → slice_get xs (n - 1) ≡ Some x → drop (n - 1) xs ≡ x ∷ drop n xs
drop_back {A} xs n x h e =
    let k : n - 1 + 1 ≡ n = omega arith in
    drop_next xs (n - 1) x e ∙ ap (λ (m : ℕ). x ∷ drop m xs) k

pub ruleset signals = (length_signals, width_at, wide_at)

-- ---- the cases of a statement

pub block_is : (x : Acts) (ws : List ℕ) (r : Bool) → IsTrue r ↔ SoundList (acts_of x) ws → IsTrue r ↔ IsSound (Block x) ws
block_is x ws r h = subst (λ (S : Type 0). IsTrue r ↔ S) (sym (list_sound x ws)) h

pub case_is : (t : Term) (labels : List Label) (items : Acts) (a : Act) (ws : List ℕ) (r : Bool) (n : ℕ) → n ≡ length (acts_of items)
    → term.IsSound t ws × AreLabels labels (width t) ws × AreItems labels n → SoundList (acts_of items) ws → IsTrue r ↔ IsSound a ws
    → IsTrue r ↔ (term.IsSound t ws × AreLabels labels (width t) ws × AreItems labels (row_length (hidden-the_row-Act-0 items.list))
    × AreSound (hidden-the_row-Act-0 items.list) ws × IsSound a ws)
case_is t labels items a ws r n e h l i = (
  λ x. case_sound t labels items a ws (h.0, h.1, subst (λ (k : ℕ). AreItems labels k) e h.2, l, i.0 x),
  λ x. i.1 (case_back t labels items a ws x).4,
)

pub case_no : (t : Term) (labels : List Label) (items : Acts) (a : Act) (ws : List ℕ) (r : Bool) (n : ℕ) → n ≡ length (acts_of items)
    → r ≡ false
    → (term.IsSound t ws × AreLabels labels (width t) ws × AreItems labels n → SoundList (acts_of items) ws → ⊥)
    → IsTrue r ↔ (term.IsSound t ws × AreLabels labels (width t) ws × AreItems labels (row_length (hidden-the_row-Act-0 items.list))
    × AreSound (hidden-the_row-Act-0 items.list) ws × IsSound a ws)
case_no t labels items a ws r n e h f = (
  λ x. absurd (cc),
  λ x. let b = case_back t labels items a ws x in absurd (f (b.0, b.1, subst (λ (k : ℕ). AreItems labels k) (sym e) b.2) b.3),
)
