-- What is found in one event after the others.
use Rattle.std.proofs.Common.{◌≡◌, ℕ, ◌+◌, ◌≤◌, ◌<◌, List, [], ◌∷◌, ◌++◌, Option, None, Some, Result, Ok, Err, length, drop, get_or, refl, sym, ap, ◌∙◌}
use Rattle.std.proofs.lemmas.List.{append_assoc, append-nil, drop_all, drop_more}
use Rattle.gpi.specs.declared.design.Wake.{Wake}
use Rattle.v_syntax.specs.declared.item.Event.{Event}
use Rattle.v_flat.specs.declared.scope.rule.Broken.{Broken}
use Rattle.v_flat.specs.declared.scope.found.Found.{Found}
use Rattle.v_flat.specs.declared.scope.found.Found.TheVariants.{Sound, Noted, Lost}
use Rattle.v_flat.specs.Scope.Found.{both, each, ended}
use Rattle.v_flat.specs.Scope.Scope.{Scope, find}
use Rattle.v_flat.proofs.ScopeLemmas.Chains.{earliest}
use Rattle.v_flat.specs.declared.scope.meaning.Bounds.{Bounds}
use Rattle.v_flat.specs.declared.scope.meaning.DataObject.{DataObject}
use Rattle.v_flat.specs.declared.scope.meaning.Meaning.{Meaning}
use Rattle.v_flat.specs.declared.scope.meaning.Meaning.TheVariants.{Constant, Object, Later}
use Rattle.v_flat.specs.Design.{events_of, wake_by, wake_in}
use Rattle.v_loop.specs.Wakes.Gathered.{gathered, with_fault}

-- ---- one event is a wake, or a rule is broken in it and there is none

abbrev found_of : Result Wake Broken → Found Wake
found_of (Ok w) = Sound w
found_of (Err b) = Lost b

in_plain : (e : Event) (o : DataObject) (w : Option Bounds) → wake_in e o w ≡ found_of (ended (wake_in e o w))
in_plain e o None = refl
in_plain e o (Some w) = refl

wake_plain : (e : Event) (m : Option Meaning) → wake_by e m ≡ found_of (ended (wake_by e m))
wake_plain e None = refl
wake_plain e (Some Later) = refl
wake_plain e (Some (Constant ds b)) = refl
wake_plain e (Some (Object o)) = in_plain e o o.words

-- ---- the loop

unfoldable pub Gathers : Scope → List Event → ℕ → Option Broken → List Wake → Type 0
Gathers s es i fault ws = gathered fault ws (events_of s (drop i es)) ≡ events_of s es

sound_more : (ws : List Wake) (w : Wake) (fault : Option Broken) (x : Found (List Wake))
    → gathered fault (ws ++ w ∷ []) x ≡ gathered fault ws (each (λ y. y.0 ∷ y.1) (both (Sound w) x))
sound_more ws w None (Sound a) = ap (λ (xs : List Wake). (let r : Found (List Wake) = Sound xs in r)) (append_assoc ws (w ∷ []) a)
sound_more ws w None (Noted b a) = ap (λ (xs : List Wake). (let r : Found (List Wake) = Noted b xs in r)) (append_assoc ws (w ∷ []) a)
sound_more ws w None (Lost b) = refl
sound_more ws w (Some c) (Sound a) = refl
sound_more ws w (Some c) (Noted b a) = refl
sound_more ws w (Some c) (Lost b) = refl

lost_more : (ws : List Wake) (b : Broken) (fault : Option Broken) (x : Found (List Wake))
    → gathered (Some (with_fault fault b)) ws x ≡ gathered fault ws (each (λ y. y.0 ∷ y.1) (both (Lost b) x))
lost_more ws b None (Sound a) = refl
lost_more ws b None (Noted c a) = refl
lost_more ws b None (Lost c) = refl
lost_more ws b (Some a) (Sound v) = refl
lost_more ws b (Some a) (Noted c v) = ap (λ (e : Broken). (let r : Found (List Wake) = Lost e in r)) (sym (earliest a b c))
lost_more ws b (Some a) (Lost c) = ap (λ (e : Broken). (let r : Found (List Wake) = Lost e in r)) (sym (earliest a b c))

none_gathered : (x : Found (List Wake)) → gathered None [] x ≡ x
none_gathered (Sound a) = refl
none_gathered (Noted b a) = refl
none_gathered (Lost b) = refl

pub gathers_none : (s : Scope) (es : List Event) → Gathers s es 0 None []
unfolding Gathers
gathers_none s es = none_gathered (events_of s es)

next_event : (s : Scope) (es : List Event) (i : ℕ) (e : Event) → i < length es → e ≡ get_or es i e
    → events_of s (drop i es) ≡ each (λ x. x.0 ∷ x.1) (both (wake_by e (find e.name.name s)) (events_of s (drop (i + 1) es)))
next_event s es i e h q =
    ap (λ (xs : List Event). events_of s xs) (drop_more es i e h)
    ∙ ap (λ (d : Event). events_of s (d ∷ drop (i + 1) es)) (sym q)

plain_by : (s : Scope) (e : Event) (r : Result Wake Broken) → r ≡ ended (wake_by e (find e.name.name s)) → wake_by e (find e.name.name s) ≡ found_of r
plain_by s e r h = wake_plain e (find e.name.name s) ∙ ap (λ (t : Result Wake Broken). found_of t) (sym h)

pub gathers_sound : (s : Scope) (es : List Event) (i : ℕ) (e : Event) (fault more : Option Broken) (ws vs : List Wake) (r : Result Wake Broken) (w : Wake)
    → i < length es → e ≡ get_or es i e → r ≡ ended (wake_by e (find e.name.name s)) → r ≡ Ok w → vs ≡ ws ++ w ∷ [] → more ≡ fault → Gathers s es i fault ws
    → Gathers s es (i + 1) more vs
unfolding Gathers
gathers_sound s es i e fault more ws vs r w h q found is made same so_far =
    let rest = events_of s (drop (i + 1) es) in
    let sound : wake_by e (find e.name.name s) ≡ Sound w = plain_by s e r found ∙ ap (λ (t : Result Wake Broken). found_of t) is in
    ap (λ (f : Option Broken). gathered f vs rest) same
    ∙ ap (λ (xs : List Wake). gathered fault xs rest) made
    ∙ sound_more ws w fault rest
    ∙ ap (λ (x : Found Wake). gathered fault ws (each (λ y. y.0 ∷ y.1) (both x rest))) (sym sound)
    ∙ ap (λ (x : Found (List Wake)). gathered fault ws x) (sym (next_event s es i e h q))
    ∙ so_far

pub gathers_lost : (s : Scope) (es : List Event) (i : ℕ) (e : Event) (fault more : Option Broken) (ws vs : List Wake) (r : Result Wake Broken) (b c : Broken)
    → i < length es → e ≡ get_or es i e → r ≡ ended (wake_by e (find e.name.name s)) → r ≡ Err b → c ≡ with_fault fault b → more ≡ Some c → vs ≡ ws
    → Gathers s es i fault ws → Gathers s es (i + 1) more vs
unfolding Gathers
gathers_lost s es i e fault more ws vs r b c h q found is counted grown same so_far =
    let rest = events_of s (drop (i + 1) es) in
    let gone : wake_by e (find e.name.name s) ≡ Lost b = plain_by s e r found ∙ ap (λ (t : Result Wake Broken). found_of t) is in
    ap (λ (f : Option Broken). gathered f vs rest) grown
    ∙ ap (λ (xs : List Wake). gathered (Some c) xs rest) same
    ∙ ap (λ (d : Broken). gathered (Some d) ws rest) counted
    ∙ lost_more ws b fault rest
    ∙ ap (λ (x : Found Wake). gathered fault ws (each (λ y. y.0 ∷ y.1) (both x rest))) (sym gone)
    ∙ ap (λ (x : Found (List Wake)). gathered fault ws x) (sym (next_event s es i e h q))
    ∙ so_far

at_end : (s : Scope) (es : List Event) (i : ℕ) (fault : Option Broken) (ws : List Wake) → length es ≤ i → Gathers s es i fault ws
    → gathered fault ws (Sound []) ≡ events_of s es
unfolding Gathers
at_end s es i fault ws h so_far = ap (λ (xs : List Event). gathered fault ws (events_of s xs)) (sym (drop_all i es h)) ∙ so_far

pub sound_end : (s : Scope) (es : List Event) (i : ℕ) (fault : Option Broken) (ws : List Wake) → length es ≤ i → Gathers s es i fault ws → fault ≡ None
    → Sound ws ≡ events_of s es
sound_end s es i fault ws h so_far is =
    ap (λ (xs : List Wake). (let r : Found (List Wake) = Sound xs in r)) (sym (append-nil ws))
    ∙ ap (λ (f : Option Broken). gathered f ws (Sound [])) (sym is)
    ∙ at_end s es i fault ws h so_far

pub lost_end : (s : Scope) (es : List Event) (i : ℕ) (fault : Option Broken) (ws : List Wake) (b : Broken) → length es ≤ i → Gathers s es i fault ws → fault ≡ Some b
    → Lost b ≡ events_of s es
lost_end s es i fault ws b h so_far is =
    ap (λ (f : Option Broken). gathered f ws (Sound [])) (sym is)
    ∙ at_end s es i fault ws h so_far
