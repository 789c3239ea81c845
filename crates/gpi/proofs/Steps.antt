-- Steps of an activation.
use Rattle.std.proofs.Common.{◌≡◌, ℕ, zero, suc, ◌+◌, ◌<◌, ◌≤◌, ◌==◌, Bool, true, false, if◌then◌else◌, List, [], ◌∷◌, ◌++◌, length, take, drop, map, get_or, set, slice_get, Some, None, Option, Result, Ok, Err, OnOk, refl, ap, sym, ◌∙◌, arith, subst, add-one, append_assoc}
use Rattle.std.proofs.lemmas.List.{take_at, take-take, length-take, drop_more, drop_all}
use Rattle.four_value.specs.declared.Digit.{Digit}
use Rattle.gpi.specs.declared.types.Update.{Update}
use Rattle.gpi.specs.declared.acts.Act.{Act}
use Rattle.gpi.specs.declared.acts.Acts.{Acts}
use Rattle.gpi.specs.declared.acts.CaseKind.{CaseKind}
use Rattle.gpi.specs.declared.acts.Label.{Label}
use Rattle.gpi.specs.declared.terms.Term.{Term}
use Rattle.gpi.specs.Terms.{value, width, read, IsSound as IsSoundTerm}
use Rattle.gpi.specs.Targets.{AreFitting, IsFitting}
use Rattle.gpi.specs.Cases.{first_match, all_agree, AreLabels, AreItems}
use Rattle.gpi.specs.Activation.{Run, acts_of, activation, run_list, run_at, IsSound, Hidden, IsHidden, AreHidden, SoundList, by_item, after, hidden_in, blocking, written_over, written}

-- ---- lists that only grow

pub kept_same : {A : Type 0} (xs : List A) → take (length xs) xs ≡ xs
kept_same [] = refl
kept_same (x ∷ xs) = ap (λ (q : List _). x ∷ q) (kept_same xs)

pub kept_more : {A : Type 0} (xs ys : List A) → take (length xs) (xs ++ ys) ≡ xs
kept_more xs ys = take_at xs ys (length xs) refl

kept_length : {A : Type 0} (xs ys : List A) → take (length xs) ys ≡ xs → length xs ≤ length ys
kept_length xs ys h = let e = ap length h in let f = length-take (length xs) ys in omega arith

pub kept_both : {A : Type 0} (xs ys zs : List A) → take (length xs) ys ≡ xs → take (length ys) zs ≡ ys → take (length xs) zs ≡ xs
kept_both xs ys zs h k =
    let e = take-take (length xs) (length ys) zs (kept_length xs ys h) in
    sym e ∙ ap (take (length xs)) k ∙ h

pub drop_kept : {A : Type 0} (xs ys : List A) → drop (length xs) (xs ++ ys) ≡ ys
drop_kept [] ys = refl
drop_kept (x ∷ xs) ys = drop_kept xs ys

pub ruleset kept = (kept_same, kept_more, kept_both)

-- ---- updates that fit

pub fitting_push : (us : List Update) (u : Update) (ws : List ℕ) → AreFitting us ws → IsFitting u ws → AreFitting (us ++ u ∷ []) ws
fitting_push [] u ws h k = (k, tt)
fitting_push (v ∷ us) u ws h k = (h.0, fitting_push us u ws h.1 k)

pub fitting_at : (us : List Update) (n : ℕ) (u : Update) (ws : List ℕ) → n < length us → u ≡ get_or us n u → AreFitting us ws → IsFitting u ws
fitting_at [] n u ws h e f = absurd (omega arith)
fitting_at (v ∷ us) zero u ws h e f = subst (λ (x : Update). IsFitting x ws) (sym e) f.0
fitting_at (v ∷ us) (suc n) u ws h e f = fitting_at us n u ws (omega arith) e f.1

pub written_step : (us : List Update) (n : ℕ) (u : Update) (r : Run) → n < length us → u ≡ get_or us n u
    → blocking (drop n us) r ≡ blocking (drop (n + 1) us) (written u r)
written_step us n u r h e = rw (drop_more us n u h, ← e) refl

pub written_none : (us : List Update) (n : ℕ) (r : Run) → length us ≤ n → blocking (drop n us) r ≡ r
written_none us n r h = rw (drop_all n us h) refl

over_after : (n : ℕ) (o : Option (List Digit)) (u : Update) (r : Run) → written_over o (after n u) r ≡ written_over o u r
over_after n None u r = refl
over_after n (Some ds) u r = refl

-- what is written doesn't depend on a delay
pub written_after : (n : ℕ) (us : List Update) (r : Run) → blocking (map (after n) us) r ≡ blocking us r
written_after n [] r = refl
written_after n (u ∷ us) r =
    ap (λ (q : Run). blocking (map (after n) us) q) (over_after n (hidden_in r.hidden u.sig.0) u r) ∙ written_after n us (written u r)

pub after_both : (n : ℕ) (us vs : List Update) → map (after n) (us ++ vs) ≡ map (after n) us ++ map (after n) vs
after_both n [] vs = refl
after_both n (u ∷ us) vs = ap (λ (q : List Update). after n u ∷ q) (after_both n us vs)

-- ---- hidden values

pub length_hidden : (hs : Hidden) (ws : List ℕ) → AreHidden hs ws → length hs ≡ length ws
length_hidden [] [] h = refl
length_hidden (x ∷ hs) (w ∷ ws) h = ap suc (length_hidden hs ws h.1)
length_hidden [] (w ∷ ws) h = absurd h
length_hidden (x ∷ hs) [] h = absurd h

pub hidden_width : (hs : Hidden) (ws : List ℕ) (n : ℕ) (ds : List Digit) → AreHidden hs ws → n < length ws → get_or hs n None ≡ Some ds
    → length ds ≡ get_or ws n 0
hidden_width [] [] n ds h l e = absurd (omega arith)
hidden_width (x ∷ hs) (w ∷ ws) zero ds h l e = subst (λ (o : Option (List Digit)). IsHidden o w) e h.0
hidden_width (x ∷ hs) (w ∷ ws) (suc n) ds h l e = hidden_width hs ws n ds h.1 (omega arith) e
hidden_width [] (w ∷ ws) n ds h l e = absurd h
hidden_width (x ∷ hs) [] n ds h l e = absurd h

pub hidden_set : (hs : Hidden) (ws : List ℕ) (n : ℕ) (o : Option (List Digit)) → AreHidden hs ws → n < length ws → IsHidden o (get_or ws n 0)
    → AreHidden (set hs n o) ws
hidden_set [] [] n o h l k = tt
hidden_set (x ∷ hs) (w ∷ ws) zero o h l k = (k, h.1)
hidden_set (x ∷ hs) (w ∷ ws) (suc n) o h l k = (h.0, hidden_set hs ws n o h.1 (omega arith) k)
hidden_set [] (w ∷ ws) n o h l k = absurd h
hidden_set (x ∷ hs) [] n o h l k = absurd h

pub ruleset hidden = (length_hidden, hidden_width, hidden_set)

-- ---- labels

drop_get : (ls : List Label) (n : ℕ) (l : Label) → slice_get ls n ≡ Some l → drop n ls ≡ l ∷ drop (suc n) ls
drop_get [] n l h = absurd (cc)
drop_get (x ∷ ls) zero l h = let e : x ≡ l = cc in ap (λ (y : Label). y ∷ ls) e
drop_get (x ∷ ls) (suc n) l h = drop_get ls n l h

pub match_yes : (kind : CaseKind) (ds : List Digit) (ls : List Label) (n : ℕ) (l : Label) (m : ℕ → List Digit) → slice_get ls n ≡ Some l
    → all_agree kind ds (value l.value m) ≡ true → first_match kind ds (drop n ls) m ≡ Some l.item
match_yes kind ds ls n l m h t = rw (drop_get ls n l h, t) refl

pub match_no : (kind : CaseKind) (ds : List Digit) (ls : List Label) (n : ℕ) (l : Label) (m : ℕ → List Digit) → slice_get ls n ≡ Some l
    → all_agree kind ds (value l.value m) ≡ false → first_match kind ds (drop n ls) m ≡ first_match kind ds (drop (n + 1) ls) m
match_no kind ds ls n l m h t = rw (drop_get ls n l h, t, add-one) refl

pub match_none : (kind : CaseKind) (ds : List Digit) (ls : List Label) (n : ℕ) (m : ℕ → List Digit) → length ls ≤ n → first_match kind ds (drop n ls) m ≡ None
match_none kind ds ls n m h = rw (drop_all n ls h) refl

pub label_at : (ls : List Label) (n w : ℕ) (l : Label) (ws : List ℕ) → slice_get ls n ≡ Some l → AreLabels ls w ws → IsSoundTerm l.value ws × (width l.value ≡ w)
label_at [] n w l ws h s = absurd (cc)
label_at (x ∷ ls) zero w l ws h s = let e : x ≡ l = cc in subst (λ (y : Label). IsSoundTerm y.value ws × (width y.value ≡ w)) e (s.0, s.1)
label_at (x ∷ ls) (suc n) w l ws h s = label_at ls n w l ws h s.2

match_if : (t : Bool) (ls : List Label) (l : Label) (o : Option ℕ) (k n : ℕ) → (o ≡ Some k → k < n) → l.item < n → (if t then Some l.item else o) ≡ Some k → k < n
match_if true ls l o k n h i e = let f : l.item ≡ k = cc in omega arith
match_if false ls l o k n h i e = h e

pub match_inside : (kind : CaseKind) (ds : List Digit) (ls : List Label) (m : ℕ → List Digit) (k n : ℕ) → AreItems ls n → first_match kind ds ls m ≡ Some k → k < n
match_inside kind ds [] m k n h e = absurd (cc)
match_inside kind ds (l ∷ ls) m k n h e = match_if (all_agree kind ds (value l.value m)) ls l (first_match kind ds ls m) k n (λ f. match_inside kind ds ls m k n h.1 f) h.0 e

-- ---- statements of a list

pub acts_step : (xs : List Act) (n : ℕ) (a : Act) (r : Run) → n < length xs → a ≡ get_or xs n a → run_list (drop n xs) r ≡ run_list (drop (n + 1) xs) (activation a r)
acts_step xs n a r h e = rw (drop_more xs n a h, ← e) refl

pub acts_none : (xs : List Act) (n : ℕ) (r : Run) → length xs ≤ n → run_list (drop n xs) r ≡ r
acts_none xs n r h = rw (drop_all n xs h) refl

pub sound_step : (xs : List Act) (n : ℕ) (a : Act) (ws : List ℕ) → n < length xs → a ≡ get_or xs n a → SoundList (drop n xs) ws → IsSound a ws × SoundList (drop (n + 1) xs) ws
sound_step xs n a ws h e k = rw (drop_more xs n a h, ← e) at k

pub run_there : (xs : List Act) (n : ℕ) (a : Act) (r : Run) → n < length xs → a ≡ get_or xs n a → run_at xs n r ≡ activation a r
run_there [] n a r h e = absurd (omega arith)
run_there (x ∷ xs) zero a r h e = ap (λ (b : Act). activation b r) (sym e)
run_there (x ∷ xs) (suc n) a r h e = run_there xs n a r (omega arith) e

pub sound_there : (xs : List Act) (n : ℕ) (a : Act) (ws : List ℕ) → n < length xs → a ≡ get_or xs n a → SoundList xs ws → IsSound a ws
sound_there [] n a ws h e s = absurd (omega arith)
sound_there (x ∷ xs) zero a ws h e s = subst (λ (b : Act). IsSound b ws) (sym e) s.0
sound_there (x ∷ xs) (suc n) a ws h e s = sound_there xs n a ws (omega arith) e s.1

-- ---- the item of a case statement

pub case_taken : (kind : CaseKind) (t : Term) (labels : List Label) (items : Acts) (other : Act) (start : Run) (ds : List Digit) (k : ℕ) (a : Act)
    → ds ≡ value t (read start.signals) → first_match kind ds labels (read start.signals) ≡ Some k → k < length (acts_of items) → a ≡ get_or (acts_of items) k a
    → by_item (first_match kind (value t (read start.signals)) labels (read start.signals)) (λ n. run_at (acts_of items) n start) (activation other start) ≡ activation a start
case_taken kind t labels items other start ds k a e f h g =
    ap (λ (d : List Digit). by_item (first_match kind d labels (read start.signals)) (λ n. run_at (acts_of items) n start) (activation other start)) (sym e)
    ∙ (ap (λ (o : Option ℕ). by_item o (λ n. run_at (acts_of items) n start) (activation other start)) f
    ∙ run_there (acts_of items) k a start h g)

pub on_ok : {A E P Q : Type 0} (r : Result A E) → OnOk r P → (P → Q) → OnOk r Q
on_ok (Ok v) h f = f h
on_ok (Err e) h f = h

pub ruleset pushes = (fitting_push, kept_same, kept_more, kept_both, append_assoc, after_both)

pub ruleset applies = (fitting_at, written_step, written_none)

pub ruleset assigns = (drop_kept, kept_more, written_after)

pub ruleset labels = (match_yes, match_no, match_none, label_at)
