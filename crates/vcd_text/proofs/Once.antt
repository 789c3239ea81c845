-- A line leaves a text in one state at the most.
use Rattle.std.specs.Prelude.{◌≡◌, ◌⊎◌, ◌<◌, ◌≤◌, ◌+◌, ℕ, List, [], ◌∷◌, ◌++◌, Some, None, slice_get, refl}
use Rattle.std.proofs.Common.{ap, sym, subst, ◌∙◌, arith, inl, inr}
use Rattle.std.proofs.lemmas.Option.{slice_get_past}
use Rattle.four_value.specs.declared.Digit.{Digit}
use Rattle.vcd_text.specs.Spelling.{code}
use Rattle.vcd_text.specs.Forms.{IsPair, IsValue}
use Rattle.vcd_text.specs.Rules.{OpenScope, ReadState, Ends, TakesIn, TakesChange, TakesDeclaration, TakesLines, TakesNext, TakesOpening, goes_to, with_end, with_instance, with_signal, with_time, with_top, with_value}
use Rattle.vcd_text.specs.Reader.{Numbered}
use Rattle.vcd_text.specs.declared.reader.Known.{Known}
use Rattle.vcd_text.specs.declared.reader.Part.{Part}
use Rattle.vcd_text.specs.declared.reader.Part.TheVariants.{Step, Top, Inside, Ended, Start, Dump, Opening, Changes}
use Rattle.vcd_text.proofs.OneList.{code_once}
use Rattle.vcd_text.proofs.StateLaws.{get_of_more}
use Rattle.vcd_text.proofs.FormLaws.{SameVar, scope_once, var_once, times_once, pair_once, pair_no_time, scope_no_var, scope_no_end, var_no_end}

-- ---- numbers of signals

pub numbered_same : (known known' : List Known) (free free' : ℕ) → known' ≡ known → free' ≡ free → Numbered known free → Numbered known' free'
numbered_same known known' free free' k f n = subst (λ (l : List Known). Numbered l free') (sym k) (subst (λ (m : ℕ). Numbered known m) (sym f) n)

pub numbered_more : (known : List Known) (free : ℕ) (signal : Known) → free ≤ signal.number → Numbered known free → Numbered (known ++ signal ∷ []) (signal.number + 1)
numbered_more known free signal rises n = record {
  below = λ i a there. below_by a (below_of i a (get_of_more known signal i a there));
  apart = λ i j a b p q same. apart_by i j a b (get_of_more known signal i a p) (get_of_more known signal j b q) same;
}
  where
    below_of : (i : ℕ) (a : Known) → (slice_get known i ≡ Some a) ⊎ (signal ≡ a) → (a.number < free) ⊎ (signal.number ≡ a.number)
    below_of i a (inl p) = inl (n.below i a p)
    below_of i a (inr e) = inr (ap (λ (k : Known). k.number) e)

    below_by : (a : Known) → (a.number < free) ⊎ (signal.number ≡ a.number) → a.number < signal.number + 1
    below_by a (inl h) = omega (arith, h, rises)
    below_by a (inr h) = omega (arith, h)

    apart_by : (i j : ℕ) (a b : Known) → (slice_get known i ≡ Some a) ⊎ (signal ≡ a) → (slice_get known j ≡ Some b) ⊎ (signal ≡ b) → a.number ≡ b.number → a ≡ b
    apart_by i j a b (inl p) (inl q) same = n.apart i j a b p q same
    apart_by i j a b (inl p) (inr e) same = let h = n.below i a p in let f = ap (λ (k : Known). k.number) e in absurd (omega (arith, h, f, same, rises))
    apart_by i j a b (inr e) (inl q) same = let h = n.below j b q in let f = ap (λ (k : Known). k.number) e in absurd (omega (arith, h, f, same, rises))
    apart_by i j a b (inr e) (inr f) same = sym e ∙ f

pub takes_numbered : (p : Part) (s : ReadState) (text : List ℕ) (a : ReadState) → TakesIn p s text a → Numbered s.known s.free → Numbered a.known a.free
takes_numbered p s text a t n = by p t
  where
    same : (b : ReadState) → a ≡ b → b.known ≡ s.known → b.free ≡ s.free → Numbered a.known a.free
    same b e k f = numbered_same s.known a.known s.free a.free (ap (λ (z : ReadState). z.known) e ∙ k) (ap (λ (z : ReadState). z.free) e ∙ f) n

    ends : Ends s a → Numbered a.known a.free
    ends (inl (none, e)) = same (goes_to Ended s) e refl refl
    ends (inr (outer, scope, is, e)) = same (with_end outer scope s) e refl refl

    by : (p : Part) → TakesIn p s text a → Numbered a.known a.free
    by Step t = same (goes_to Top s) t.next_is refl refl
    by Top t = same (with_top t.name s) t.next_is refl refl
    by Inside (inl t) = same (with_instance t.name s) t.next_is refl refl
    by Inside (inr (inl t)) =
        let b = with_signal t.number t.name t.start t.width s in
        numbered_same b.known a.known b.free a.free (ap (λ (z : ReadState). z.known) t.next_is) (ap (λ (z : ReadState). z.free) t.next_is) (numbered_more s.known s.free _ t.rises n)
    by Inside (inr (inr t)) = ends t.ends
    by Ended t = same (goes_to Start s) t.next_is refl refl
    by Start t = same (goes_to Dump s) t.next_is refl refl
    by Dump t = same (goes_to Opening s) t.next_is refl refl
    by Opening (inl t) = same _ t.next_is refl refl
    by Opening (inr t) = same _ t.next_is refl refl
    by Changes (inl t) = same (with_time t.time s) t.next_is refl refl
    by Changes (inr t) = same (with_value t.signal t.digits s) t.next_is refl refl

-- ---- one state

no_last : {X : Type 0} (xs : List X) (x : X) → [] ≡ xs ++ x ∷ [] → ⊥
no_last [] x e = absurd (cc)
no_last (y ∷ xs) x e = absurd (cc)

last_once : {X : Type 0} (xs ys : List X) (x y : X) → xs ++ x ∷ [] ≡ ys ++ y ∷ [] → (xs ≡ ys) × (x ≡ y)
last_once [] [] x y e = let h : x ≡ y = cc in (refl, h)
last_once [] (z ∷ ys) x y e = let h : [] ≡ ys ++ y ∷ [] = cc in absurd (no_last ys y h)
last_once (z ∷ xs) [] x y e = let h : [] ≡ xs ++ x ∷ [] = cc in absurd (no_last xs x h)
last_once {X} (z ∷ xs) (w ∷ ys) x y e =
    let h : z ≡ w = cc in let t : xs ++ x ∷ [] ≡ ys ++ y ∷ [] = cc in let more = last_once xs ys x y t in
    (ap (λ (v : X). v ∷ xs) h ∙ ap (λ (l : List X). w ∷ l) more.0, more.1)

ends_once : (s a b : ReadState) → Ends s a → Ends s b → a ≡ b
ends_once s a b (inl (none, e)) (inl (none', f)) = e ∙ sym f
ends_once s a b (inl (none, e)) (inr (outer, scope, is, f)) = absurd (no_last outer scope (sym none ∙ is))
ends_once s a b (inr (outer, scope, is, e)) (inl (none, f)) = absurd (no_last outer scope (sym none ∙ is))
ends_once s a b (inr (outer, scope, is, e)) (inr (outer', scope', is', f)) =
    let same = last_once outer outer' scope scope' (sym is ∙ is') in
    e ∙ (ap (λ (l : List OpenScope). with_end l scope s) same.0 ∙ (ap (λ (c : OpenScope). with_end outer' c s) same.1 ∙ sym f))

same_signal : (s : ReadState) (n : ℕ) (m : List ℕ) (d : Digit) (w n' : ℕ) (m' : List ℕ) (d' : Digit) (w' : ℕ) → SameVar n m d w n' m' d' w' → with_signal n m d w s ≡ with_signal n' m' d' w' s
same_signal s n m d w n' m' d' w' e =
    ap (λ (k : ℕ). with_signal k m d w s) e.number_is
    ∙ (ap (λ (l : List ℕ). with_signal n' l d w s) e.name_is
    ∙ (ap (λ (k : Digit). with_signal n' m' k w s) e.start_is ∙ ap (λ (k : ℕ). with_signal n' m' d' k s) e.width_is))

declared_once : (s : ReadState) (text : List ℕ) (a b : ReadState) → TakesDeclaration s text a → TakesDeclaration s text b → a ≡ b
declared_once s text a b (inl x) (inl y) = x.next_is ∙ (ap (λ (name : List ℕ). with_instance name s) (scope_once text x.name y.name x.is y.is) ∙ sym y.next_is)
declared_once s text a b (inl x) (inr (inl y)) = absurd (scope_no_var text x.name x.is y.number y.name y.start y.width y.is)
declared_once s text a b (inl x) (inr (inr y)) = absurd (scope_no_end text x.name x.is y.is)
declared_once s text a b (inr (inl x)) (inl y) = absurd (scope_no_var text y.name y.is x.number x.name x.start x.width x.is)
declared_once s text a b (inr (inl x)) (inr (inl y)) =
    x.next_is
    ∙ (same_signal s x.number x.name x.start x.width y.number y.name y.start y.width (var_once text x.number x.name x.start x.width y.number y.name y.start y.width x.is y.is) ∙ sym y.next_is)
declared_once s text a b (inr (inl x)) (inr (inr y)) = absurd (var_no_end text x.number x.name x.start x.width x.is y.is)
declared_once s text a b (inr (inr x)) (inl y) = absurd (scope_no_end text y.name y.is x.is)
declared_once s text a b (inr (inr x)) (inr (inl y)) = absurd (var_no_end text y.number y.name y.start y.width y.is x.is)
declared_once s text a b (inr (inr x)) (inr (inr y)) = ends_once s a b x.ends y.ends

some_none : {X : Type 0} (x : X) → Some x ≡ None → ⊥
some_none x e = absurd (cc)

opening_once : (s : ReadState) (text : List ℕ) (a b : ReadState) → TakesOpening s text a → TakesOpening s text b → a ≡ b
opening_once s text a b (inl x) (inl y) = x.next_is ∙ sym y.next_is
opening_once s text a b (inl x) (inr y) = absurd (some_none x.signal (sym x.there ∙ slice_get_past s.known s.told y.all))
opening_once s text a b (inr x) (inl y) = absurd (some_none y.signal (sym y.there ∙ slice_get_past s.known s.told x.all))
opening_once s text a b (inr x) (inr y) = x.next_is ∙ sym y.next_is

pub pair_in : (text : List ℕ) (signal : ℕ) (digits : List ℕ) → IsValue text signal digits → IsPair text digits (code signal)
pair_in text signal digits v = record { is = v.spelled; digits_are = v.digits_are }

change_once : (s : ReadState) (text : List ℕ) (a b : ReadState) → Numbered s.known s.free → TakesChange s text a → TakesChange s text b → a ≡ b
change_once s text a b n x y =
    x.next_is ∙ (ap (λ (k : Known). with_value k x.digits s) signals ∙ (ap (λ (d : List ℕ). with_value y.signal d s) same.0 ∙ sym y.next_is))
  where
    same : (x.digits ≡ y.digits) × (code x.signal.number ≡ code y.signal.number)
    same = pair_once text x.digits (code x.signal.number) y.digits (code y.signal.number) (pair_in text x.signal.number x.digits x.is) (pair_in text y.signal.number y.digits y.is)

    signals : x.signal ≡ y.signal
    signals = n.apart x.place y.place x.signal y.signal x.there y.there (code_once x.signal.number y.signal.number same.1)

next_once : (s : ReadState) (text : List ℕ) (a b : ReadState) → Numbered s.known s.free → TakesNext s text a → TakesNext s text b → a ≡ b
next_once s text a b n (inl x) (inl y) = x.next_is ∙ (ap (λ (time : ℕ). with_time time s) (times_once text x.time y.time x.is y.is) ∙ sym y.next_is)
next_once s text a b n (inl x) (inr y) = absurd (pair_no_time text y.digits (code y.signal.number) x.time (pair_in text y.signal.number y.digits y.is) x.is)
next_once s text a b n (inr x) (inl y) = absurd (pair_no_time text x.digits (code x.signal.number) y.time (pair_in text x.signal.number x.digits x.is) y.is)
next_once s text a b n (inr x) (inr y) = change_once s text a b n x y

pub takes_once : (p : Part) (s : ReadState) (text : List ℕ) (a b : ReadState) → Numbered s.known s.free → TakesIn p s text a → TakesIn p s text b → a ≡ b
takes_once Step s text a b n x y = x.next_is ∙ sym y.next_is
takes_once Top s text a b n x y = x.next_is ∙ (ap (λ (name : List ℕ). with_top name s) (scope_once text x.name y.name x.is y.is) ∙ sym y.next_is)
takes_once Inside s text a b n x y = declared_once s text a b x y
takes_once Ended s text a b n x y = x.next_is ∙ sym y.next_is
takes_once Start s text a b n x y = x.next_is ∙ sym y.next_is
takes_once Dump s text a b n x y = x.next_is ∙ sym y.next_is
takes_once Opening s text a b n x y = opening_once s text a b x y
takes_once Changes s text a b n x y = next_once s text a b n x y

-- so do lines
pub taken_once : (s : ReadState) (texts : List (List ℕ)) (a b : ReadState) → Numbered s.known s.free → TakesLines s texts a → TakesLines s texts b → a ≡ b
taken_once s [] a b n x y = x ∙ sym y
taken_once s (text ∷ texts) a b n (mid, x, xs) (mid', y, ys) =
    taken_once mid texts a b (takes_numbered s.part s text mid x n) xs
    (subst (λ (z : ReadState). TakesLines z texts b) (sym (takes_once s.part s text mid mid' n x y)) ys)
