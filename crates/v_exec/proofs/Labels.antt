-- Steps along the labels and the items of a case statement, and along statements.
use Rattle.std.proofs.Common.{◌≡◌, ℕ, zero, suc, ◌-◌, ◌<◌, ◌≤◌, List, [], ◌∷◌, ◌++◌, length, drop, take, slice_get, slice_index, Some, ap, sym, subst, ◌∙◌, arith}
use Rattle.gpi.specs.declared.acts.Act.{Act}
use Rattle.gpi.specs.declared.acts.CaseKind.{CaseKind}
use Rattle.gpi.specs.declared.acts.Label.{Label}
use Rattle.gpi.specs.Cases.{AreItems}
use Rattle.gpi.specs.Activation.{IsSound, SoundList}
use Rattle.gpi.proofs.Sound.{drop_back}
use Rattle.v_exec.specs.declared.instruction.Instruction.{Instruction}
use Rattle.v_exec.specs.declared.instruction.Instruction.TheVariants as code
use Rattle.v_exec.specs.Packing.{term_front, term_depth, deepest}
use Rattle.v_exec.specs.Packed.{labels_front, labels_depth, AreStarts}
use Rattle.v_exec.proofs.Acts.{ends_length}
use Rattle.v_exec.proofs.Cases.{labels_stand}

-- the item of a label is one of so many
pub item_inside : (ls : List Label) (n k : ℕ) (l : Label) → slice_get ls k ≡ Some l → AreItems ls n → l.item < n
item_inside [] n k l h a = absurd (cc)
item_inside (x ∷ ls) n zero l h a = let e : x ≡ l = cc in subst (λ (y : Label). y.item < n) e a.0
item_inside (x ∷ ls) n (suc k) l h a = item_inside ls n k l h a.1

pub labels_next : (kind : CaseKind) (starts : List ℕ) (ls : List Label) (at : ℕ) (l : Label) (old mid put new : List Instruction) (passed : ℕ)
    → 0 < at → slice_get ls (at - 1) ≡ Some l → mid ≡ labels_front kind starts (drop at ls) old
    → passed ≡ length mid - slice_index starts l.item → put ≡ code.Match kind passed ∷ mid → new ≡ term_front l.value put
    → new ≡ labels_front kind starts (drop (at - 1) ls) old
labels_next kind starts ls at l old mid put new passed h g e p q f =
    let d : drop (at - 1) ls ≡ l ∷ drop at ls = drop_back ls at l h g in
    f
    ∙ (ap (term_front l.value) (q ∙ ap (λ (n : ℕ). code.Match kind n ∷ mid) p)
    ∙ (ap (λ (xs : List Instruction). term_front l.value (code.Match kind (length xs - slice_index starts l.item) ∷ xs)) e
    ∙ sym (ap (λ (ks : List Label). labels_front kind starts ks old) d)))

pub depth_next : (ls : List Label) (at : ℕ) (l : Label) (depth more new : ℕ) → 0 < at → slice_get ls (at - 1) ≡ Some l → depth ≡ labels_depth (drop at ls)
    → more ≡ term_depth l.value → new ≡ deepest depth more → new ≡ labels_depth (drop (at - 1) ls)
depth_next ls at l depth more new h g e f k =
    let d : drop (at - 1) ls ≡ l ∷ drop at ls = drop_back ls at l h g in
    k ∙ (ap (λ (n : ℕ). deepest n more) e ∙ (ap (λ (n : ℕ). deepest (labels_depth (drop at ls)) n) f ∙ sym (ap labels_depth d)))

-- the start of an item lies in the code so far
pub start_inside : (kind : CaseKind) (starts : List ℕ) (ls ks : List Label) (k : ℕ) (l : Label) (old mid : List Instruction)
    → slice_get ls k ≡ Some l → AreItems ls (length starts) → AreStarts starts (length old) → mid ≡ labels_front kind starts ks old
    → slice_index starts l.item ≤ length mid
start_inside kind starts ls ks k l old mid h a s e =
    let longer = ends_length old (labels_front kind starts ks old) (labels_stand kind starts ks old) in
    let start = s l.item (item_inside ls (length starts) k l h a) in
    omega (arith, ap length e)

-- a statement of a list is sound
pub sound_here : (xs : List Act) (ws : List ℕ) (k : ℕ) (a : Act) → slice_get xs k ≡ Some a → SoundList xs ws → IsSound a ws
sound_here [] ws k a h s = absurd (cc)
sound_here (x ∷ xs) ws zero a h s = let e : x ≡ a = cc in subst (λ (y : Act). IsSound y ws) e s.0
sound_here (x ∷ xs) ws (suc k) a h s = sound_here xs ws k a h s.1

pub take_next : {A : Type 0} (xs : List A) (k : ℕ) (x : A) → slice_get xs k ≡ Some x → take (suc k) xs ≡ take k xs ++ x ∷ []
take_next {A} [] k x h = absurd (cc)
take_next {A} (y ∷ xs) zero x h = let e : y ≡ x = cc in ap (λ (z : A). z ∷ []) e
take_next {A} (y ∷ xs) (suc k) x h = ap (λ (ys : List A). y ∷ ys) (take_next xs k x h)
