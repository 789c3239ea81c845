-- Copies, one by one.
use Rattle.std.proofs.Common.{◌≡◌, ℕ, zero, suc, ◌+◌, ◌<◌, ◌≤◌, List, [], ◌∷◌, ◌++◌, length, take, get_or, slice_get, Some, Option, Result, Ok, IfOk, refl, ap, sym, ◌∙◌, arith, subst, add-one, Box, Global}
use Rattle.std.proofs.lemmas.List.{take_all}
use Rattle.four_value.specs.declared.Digit.{Digit}
use Rattle.gpi.specs.declared.acts.Act.{Act}
use Rattle.gpi.specs.declared.acts.CaseKind.{CaseKind}
use Rattle.gpi.specs.declared.acts.Label.{Label}
use Rattle.gpi.specs.declared.acts.Act.TheViews.{Block, Case}
use Rattle.gpi.specs.declared.acts.Acts.{Acts}
use Rattle.gpi.specs.declared.terms.Term.{Term}
use Rattle.gpi.specs.Terms.{value, width, read}
use Rattle.gpi.specs.Made.{IsCopy}
use Rattle.gpi.specs.Cases.{AreLabelCopies, IsLabelCopy, first_match, AreLabels, AreItems}
use Rattle.gpi.specs.Activation.{Run, activation, run_list, run_at, IsSound, SoundList, IsActCopy, AreActCopies, acts_of, by_item, MakesBlock, MakesCase}
use Rattle.gpi.proofs.Rows.{by_item_same}
use Rattle.gpi.proofs.Made.{block_made, block_back, case_runs, case_back}

-- what was made of two results, where what each promises holds
pub both_made : {A B E : Type 0} (P : A → Type 0) (Q : B → Type 0) (a : Result A E) (b : Result B E) (r : Result (A × B) E) (x : A) (y : B)
    → IfOk r (λ made. (a ≡ Ok made.0) × (b ≡ Ok made.1)) → r ≡ Ok (x, y) → IfOk a P → IfOk b Q → P x × Q y
both_made {A} {B} {E} P Q a b r x y h e p q =
    let k = subst (λ (s : Result (A × B) E). IfOk s (λ made. (a ≡ Ok made.0) × (b ≡ Ok made.1))) e h in
    (subst (λ (s : Result A E). IfOk s P) k.0 p, subst (λ (s : Result B E). IfOk s Q) k.1 q)

labels_next : (ls ks : List Label) (n : ℕ) (l k : Label) → slice_get ls n ≡ Some l → AreLabelCopies (take n ls) ks → IsLabelCopy l k → AreLabelCopies (take (suc n) ls) (ks ++ k ∷ [])
labels_next [] ks n l k h j e = absurd (cc)
labels_next (x ∷ ls) [] zero l k h j e = let f : x ≡ l = cc in (subst (λ (y : Label). IsLabelCopy y k) (sym f) e, tt)
labels_next (x ∷ ls) (y ∷ ks) zero l k h j e = absurd j
labels_next (x ∷ ls) [] (suc n) l k h j e = absurd j
labels_next (x ∷ ls) (y ∷ ks) (suc n) l k h j e = (j.0, labels_next ls ks n l k h j.1 e)

pub labels_more : (ls ks : List Label) (n : ℕ) (l k : Label) → slice_get ls n ≡ Some l → AreLabelCopies (take n ls) ks → IsLabelCopy l k → AreLabelCopies (take (n + 1) ls) (ks ++ k ∷ [])
labels_more ls ks n l k h j e = rw add-one (labels_next ls ks n l k h j e)

pub labels_end : (ls ks : List Label) (n : ℕ) → length ls ≤ n → AreLabelCopies (take n ls) ks → AreLabelCopies ls ks
labels_end ls ks n h j = rw (take_all n ls h) at j

acts_next : (xs ys : List Act) (n : ℕ) (x y : Act) → n < length xs → x ≡ get_or xs n x → AreActCopies (take n xs) ys → IsActCopy x y → AreActCopies (take (suc n) xs) (ys ++ y ∷ [])
acts_next [] ys n x y h s j e = absurd (omega arith)
acts_next (a ∷ xs) [] zero x y h s j e = (subst (λ (z : Act). IsActCopy z y) s e, tt)
acts_next (a ∷ xs) (b ∷ ys) zero x y h s j e = absurd j
acts_next (a ∷ xs) [] (suc n) x y h s j e = absurd j
acts_next (a ∷ xs) (b ∷ ys) (suc n) x y h s j e = (j.0, acts_next xs ys n x y (omega arith) s j.1 e)

pub acts_more : (xs ys : List Act) (n : ℕ) (x y : Act) → n < length xs → x ≡ get_or xs n x → AreActCopies (take n xs) ys → IsActCopy x y → AreActCopies (take (n + 1) xs) (ys ++ y ∷ [])
acts_more xs ys n x y h s j e = rw add-one (acts_next xs ys n x y h s j e)

pub acts_end : (xs ys : List Act) (n : ℕ) → length xs ≤ n → AreActCopies (take n xs) ys → AreActCopies xs ys
acts_end xs ys n h j = rw (take_all n xs h) at j

pub copies_run : (xs ys : List Act) → AreActCopies xs ys → (r : Run) → run_list ys r ≡ run_list xs r
copies_run [] [] h r = refl
copies_run [] (y ∷ ys) h r = absurd h
copies_run (x ∷ xs) [] h r = absurd h
copies_run (x ∷ xs) (y ∷ ys) h r = ap (run_list ys) (h.0.runs r) ∙ copies_run xs ys h.1 (activation x r)

pub copies_at : (xs ys : List Act) → AreActCopies xs ys → (n : ℕ) (r : Run) → run_at ys n r ≡ run_at xs n r
copies_at [] [] h n r = refl
copies_at [] (y ∷ ys) h n r = absurd h
copies_at (x ∷ xs) [] h n r = absurd h
copies_at (x ∷ xs) (y ∷ ys) h zero r = h.0.runs r
copies_at (x ∷ xs) (y ∷ ys) h (suc n) r = copies_at xs ys h.1 n r

pub copies_long : (xs ys : List Act) → AreActCopies xs ys → length ys ≡ length xs
copies_long [] [] h = refl
copies_long [] (y ∷ ys) h = absurd h
copies_long (x ∷ xs) [] h = absurd h
copies_long (x ∷ xs) (y ∷ ys) h = ap suc (copies_long xs ys h.1)

pub copies_sound : (xs ys : List Act) → AreActCopies xs ys → (ws : List ℕ) → SoundList xs ws → SoundList ys ws
copies_sound [] [] h ws s = tt
copies_sound [] (y ∷ ys) h ws s = absurd h
copies_sound (x ∷ xs) [] h ws s = absurd h
copies_sound (x ∷ xs) (y ∷ ys) h ws s = (h.0.sound ws s.0, copies_sound xs ys h.1 ws s.1)

pub labels_match : (kind : CaseKind) (ds : List Digit) (ls ks : List Label) (m : ℕ → List Digit) → AreLabelCopies ls ks → first_match kind ds ks m ≡ first_match kind ds ls m
labels_match kind ds [] [] m h = refl
labels_match kind ds [] (k ∷ ks) m h = absurd h
labels_match kind ds (l ∷ ls) [] m h = absurd h
labels_match kind ds (l ∷ ls) (k ∷ ks) m h = rw (h.0.value.value_is m, h.0.item, labels_match kind ds ls ks m h.1) refl

pub labels_sound : (ls ks : List Label) (w : ℕ) (ws : List ℕ) → AreLabelCopies ls ks → AreLabels ls w ws → AreLabels ks w ws
labels_sound [] [] w ws h s = tt
labels_sound [] (k ∷ ks) w ws h s = absurd h
labels_sound (l ∷ ls) [] w ws h s = absurd h
labels_sound (l ∷ ls) (k ∷ ks) w ws h s = (h.0.value.sound ws s.0, h.0.value.width_is ∙ s.1, labels_sound ls ks w ws h.1 s.2)

pub labels_items : (ls ks : List Label) (n : ℕ) → AreLabelCopies ls ks → AreItems ls n → AreItems ks n
labels_items [] [] n h s = tt
labels_items [] (k ∷ ks) n h s = absurd h
labels_items (l ∷ ls) [] n h s = absurd h
labels_items (l ∷ ls) (k ∷ ks) n h s = ((let e = h.0.item in let f = s.0 in omega arith), labels_items ls ks n h.1 s.1)

pub ruleset label_copies = (labels_more, labels_end)

pub ruleset act_copies = (acts_more, acts_end)

pub copied_block : (act : Act) (list others : Acts) (made : Act) → act ≡ Block list → AreActCopies (acts_of list) (acts_of others) → MakesBlock others made → IsActCopy act made
copied_block act list others made e h m = record {
  runs = λ r. m.runs r ∙ (copies_run (acts_of list) (acts_of others) h r ∙ (sym ((block_made list).runs r) ∙ ap (λ (a : Act). activation a r) (sym e)));
  sound = λ ws s. m.sound ws (copies_sound (acts_of list) (acts_of others) h ws (block_back list ws (subst (λ (a : Act). IsSound a ws) e s)));
}

pub copied_case : (act : Act) (kind : CaseKind) (t t' : Term) (labels labels' : List Label) (items items' : Acts) (other : Box Act Global) (other' made : Act)
    → act ≡ Case kind t labels items other → IsCopy t t' → AreLabelCopies labels labels' → AreActCopies (acts_of items) (acts_of items')
    → IsActCopy other.value other' → MakesCase kind t' labels' items' other' made → IsActCopy act made
copied_case act kind t t' labels labels' items items' other other' made e i l h o m = record {
  runs = λ r. let map = read r.signals in
      let chosen : first_match kind (value t' map) labels' map ≡ first_match kind (value t map) labels map =
      ap (λ (ds : List Digit). first_match kind ds labels' map) (i.value_is map) ∙ labels_match kind (value t map) labels labels' map l in
      m.runs r
      ∙ (ap (λ (q : Option ℕ). by_item q (λ k. run_at (acts_of items') k r) (activation other' r)) chosen
      ∙ (by_item_same (first_match kind (value t map) labels map) (λ k. run_at (acts_of items') k r) (λ k. run_at (acts_of items) k r) (activation other' r) (activation other.value r)
      (λ k. copies_at (acts_of items) (acts_of items') h k r) (o.runs r)
      ∙ (sym (case_runs kind t labels items other.value r) ∙ ap (λ (a : Act). activation a r) (sym e))));
  sound = λ ws s.
      let b = case_back t labels items other.value ws (subst (λ (a : Act). IsSound a ws) e s) in
      m.sound ws (
        i.sound ws b.0,
        subst (λ (w : ℕ). AreLabels labels' w ws) (sym i.width_is) (labels_sound labels labels' (width t) ws l b.1),
        subst (λ (n : ℕ). AreItems labels' n) (sym (copies_long (acts_of items) (acts_of items') h)) (labels_items labels labels' (length (acts_of items)) l b.2),
        copies_sound (acts_of items) (acts_of items') h ws b.3,
        o.sound ws b.4,
      );
}
