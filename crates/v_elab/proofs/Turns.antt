-- One element of an item after the other.
use Rattle.std.proofs.Common.{◌≡◌, ℕ, ◌+◌, ◌<◌, ◌≤◌, List, [], ◌∷◌, ◌++◌, length, map, take, get_or, Result, IfOk, refl, sym, ap, subst, ◌∙◌}
use Rattle.std.proofs.lemmas.List.{take_more, take_all}
use Rattle.std.proofs.lemmas.Result.{IfOk-weaker}
use Rattle.port_io.specs.declared.ports.NoMemory.{NoMemory}
use Rattle.v_flat.specs.declared.scope.rule.Broken.{Broken}
use Rattle.v_flat.specs.declared.scope.found.Found.{Found}
use Rattle.v_flat.specs.declared.scope.found.Found.TheVariants.{Sound, Noted, Lost}
use Rattle.v_flat.specs.Scope.Rules.{earlier}
use Rattle.v_flat.specs.Scope.Found.{and_then, noted, EachIs, ForValue, Holds}
use Rattle.gpi.specs.Design.{widths}
use Rattle.v_flat.specs.Scope.Limits.{most_parts}
use Rattle.v_flat.specs.Scope.Scope.{means}
use Rattle.v_flat.proofs.ScopeLemmas.Gathered.{then_same}
use Rattle.v_flat.specs.Design.{State, in_turn}
use Rattle.v_check.specs.Names.Proper.{AreProper}
use Rattle.v_layout.specs.Named.{AreSignals}
use Rattle.v_flat.proofs.ScopeLemmas.Chains.{last_link, one_link}
use Rattle.v_elab.specs.declared.state.State as code
use Rattle.v_elab.specs.States.{GoesOn, IsReady, IsState, Stays}
use Rattle.v_elab.specs.ItemsSteps.{GoesThrough, IsStep}

-- ---- what stays

pub stays_same : (x : code.State) → Stays x x
stays_same x = record { scope = refl; signals = refl; nodes = refl; children = refl }

stays_more : (x y z : code.State) → Stays x y → Stays y z → Stays x z
stays_more x y z h k = record {
  scope = k.scope ∙ h.scope;
  signals = k.signals ∙ h.signals;
  nodes = k.nodes ∙ h.nodes;
  children = k.children ∙ h.children;
}

stays_on : (x y : code.State) → Stays x y → (f : Found code.State) → ForValue (λ (z : code.State). Stays y z) f → ForValue (λ (z : code.State). Stays x z) f
stays_on x y h (Sound z) k = stays_more x y z h k
stays_on x y h (Noted b z) k = stays_more x y z h k
stays_on x y h (Lost b) k = tt

stays_noted : (x : code.State) (b : Broken) (f : Found code.State) → ForValue (λ (z : code.State). Stays x z) f → ForValue (λ (z : code.State). Stays x z) (noted b f)
stays_noted x b (Sound z) h = h
stays_noted x b (Noted c z) h = h
stays_noted x b (Lost c) h = tt

-- ---- a step

pub no_step : (x : code.State) → IsStep (λ s. Sound s) x (Sound x)
no_step x = record {
  goes_on = λ s h. h;
  sound = λ s h. h;
  stays = stays_same x;
}

noted_goes : (b c : Broken) (u : Found State) (f : Found code.State) → c ≡ b → EachIs GoesOn u f → EachIs GoesOn (noted c u) (noted b f)
noted_goes b c (Sound t) (Sound y) e h = (e, h)
noted_goes b c (Noted d t) (Noted a y) e h = (ap (λ (z : Broken). earlier z d) e ∙ ap (λ (z : Broken). earlier b z) h.0, h.1)
noted_goes b c (Lost d) (Lost a) e h = ap (λ (z : Broken). earlier z d) e ∙ ap (λ (z : Broken). earlier b z) h
noted_goes b c (Sound t) (Noted a y) e h = absurd h
noted_goes b c (Sound t) (Lost a) e h = absurd h
noted_goes b c (Noted d t) (Sound y) e h = absurd h
noted_goes b c (Noted d t) (Lost a) e h = absurd h
noted_goes b c (Lost d) (Sound y) e h = absurd h
noted_goes b c (Lost d) (Noted a y) e h = absurd h

never_sound : (u : Found State) (b : Broken) (f : Found code.State) → Holds (λ (y : code.State). Holds (λ (t : State). IsState t y) u) (noted b f)
never_sound u b (Sound y) = tt
never_sound u b (Noted c y) = tt
never_sound u b (Lost c) = tt

-- behind what was found without a broken rule
after_goes : (v : State → Found State) (y : code.State) (g : Found code.State) → IsStep v y g → (u : Found State)
    → EachIs GoesOn u (let r : Found code.State = Sound y in r) → EachIs GoesOn (and_then u v) g
after_goes v y g m (Sound t) h = m.goes_on t h
after_goes v y g m (Noted c t) h = absurd h
after_goes v y g m (Lost c) h = absurd h

after_sound : (v : State → Found State) (y : code.State) (g : Found code.State) → IsStep v y g → (u : Found State)
    → EachIs GoesOn u (let r : Found code.State = Sound y in r) → Holds (λ (t : State). IsState t y) u
    → Holds (λ (z : code.State). Holds (λ (t : State). IsState t z) (and_then u v)) g
after_sound v y g m (Sound t) h k = m.sound t k
after_sound v y g m (Noted c t) h k = absurd h
after_sound v y g m (Lost c) h k = absurd h

pub after_value : (v : State → Found State) (y : code.State) (g : Found code.State) → IsStep v y g → GoesThrough v (Sound y) g
after_value v y g m = λ u x h. record {
  goes_on = λ s k. after_goes v y g m (u s) (h.goes_on s k);
  sound = λ s k. after_sound v y g m (u s) (h.goes_on s k.goes_on) (h.sound s k);
  stays = stays_on x y h.stays g m.stays;
}

-- behind a broken rule
broken_goes : (v : State → Found State) (b : Broken) (y : code.State) (f : Found code.State) → IsStep v y f → (u : Found State)
    → EachIs GoesOn u (let r : Found code.State = Noted b y in r) → EachIs GoesOn (and_then u v) (noted b f)
broken_goes v b y f m (Sound t) h = absurd h
broken_goes v b y f m (Noted c t) h = noted_goes b c (v t) f h.0 (m.goes_on t h.1)
broken_goes v b y f m (Lost c) h = absurd h

pub after_noted : (v : State → Found State) (b : Broken) (y : code.State) (f g : Found code.State) → IsStep v y f → g ≡ noted b f → GoesThrough v (Noted b y) g
after_noted v b y f g m e = subst (λ (z : Found code.State). GoesThrough v (Noted b y) z) (sym e) (λ u x h. record {
  goes_on = λ s k. broken_goes v b y f m (u s) (h.goes_on s k);
  sound = λ s k. never_sound (and_then (u s) v) b f;
  stays = stays_noted x b f (stays_on x y h.stays f m.stays);
})

lost_goes : (v : State → Found State) (b : Broken) (u : Found State) → EachIs GoesOn u (let r : Found code.State = Lost b in r)
    → EachIs GoesOn (and_then u v) (let r : Found code.State = Lost b in r)
lost_goes v b (Sound t) h = absurd h
lost_goes v b (Noted c t) h = absurd h
lost_goes v b (Lost c) h = h

pub after_lost : (v : State → Found State) (b : Broken) → GoesThrough v (Lost b) (Lost b)
after_lost v b = λ u x h. record {
  goes_on = λ s k. lost_goes v b (u s) (h.goes_on s k);
  sound = λ s k. tt;
  stays = tt;
}

-- ---- each in turn

one_behind : {A : Type 0} (f : A → State → Found State) (xs : List A) (a : A) (s : State) → in_turn f (xs ++ a ∷ []) s ≡ and_then (in_turn f xs s) (f a)
one_behind f [] a s = last_link (f a s)
one_behind f (x ∷ xs) a s =
    then_same (in_turn f (xs ++ a ∷ [])) (λ t. and_then (in_turn f xs t) (f a)) (f x s) (λ t. one_behind f xs a t)
    ∙ sym (one_link (f x s) (and_then (f x s) (in_turn f xs)) (in_turn f xs) (f a) (and_then (f x s) (λ t. and_then (in_turn f xs t) (f a))) refl refl)

pub turn_more : {A : Type 0} (f : A → State → Found State) (xs : List A) (j : ℕ) (a : A) (x : code.State) (g h : Found code.State) → j < length xs → a ≡ get_or xs j a
    → GoesThrough (f a) g h → IsStep (in_turn f (take j xs)) x g → IsStep (in_turn f (take (j + 1) xs)) x h
turn_more {A} f xs j a x g h l e k m =
    subst (λ (u : State → Found State). IsStep u x h) (λ i s. sym (step s) i) (k (in_turn f (take j xs)) x m)
  where
    step : (s : State) → in_turn f (take (j + 1) xs) s ≡ and_then (in_turn f (take j xs) s) (f a)
    step s = ap (λ (ys : List A). in_turn f ys s) (take_more xs j a l ∙ ap (λ (b : A). take j xs ++ b ∷ []) (sym e)) ∙ one_behind f (take j xs) a s

pub turns_done : {A : Type 0} (f : A → State → Found State) (xs : List A) (j : ℕ) (x : code.State) (g : Found code.State) → length xs ≤ j → IsStep (in_turn f (take j xs)) x g
    → IsStep (in_turn f xs) x g
turns_done {A} f xs j x g l h = subst (λ (ys : List A). IsStep (in_turn f ys) x g) (take_all j xs l) h

in_turn_of : {A B : Type 0} (f : B → State → Found State) (v : A → B) (xs : List A) (s : State) → in_turn (λ a. f (v a)) xs s ≡ in_turn f (map v xs) s
in_turn_of f v [] s = refl
in_turn_of f v (x ∷ xs) s = then_same (in_turn (λ a. f (v a)) xs) (in_turn f (map v xs)) (f (v x) s) (λ t. in_turn_of f v xs t)

pub turns_of : {A B : Type 0} (f : B → State → Found State) (v : A → B) (xs : List A) (x : code.State) (g : Found code.State) → IsStep (in_turn (λ a. f (v a)) xs) x g
    → IsStep (in_turn f (map v xs)) x g
turns_of f v xs x g h = subst (λ (u : State → Found State). IsStep u x g) (λ i s. in_turn_of f v xs s i) h

pub turns_found : {A B : Type 0} (f : B → State → Found State) (v : A → B) (xs : List A) (x : code.State) (r : Result (Found code.State) NoMemory)
    → IfOk r (IsStep (in_turn (λ a. f (v a)) xs) x) → IfOk r (IsStep (in_turn f (map v xs)) x)
turns_found f v xs x r h = IfOk-weaker r (IsStep (in_turn (λ a. f (v a)) xs) x) (IsStep (in_turn f (map v xs)) x) (λ g k. turns_of f v xs x g k) h

-- ---- what is ready stays so

stays_ready : (x y : code.State) → IsReady x → Stays x y → IsReady y
stays_ready x y h k = record {
  proper = subst (λ s. AreProper s) (sym k.scope) h.proper;
  signals = λ more. subst (λ ss. AreSignals (means y.scope) (widths ss ++ more)) (sym k.signals) (subst (λ s. AreSignals s (widths x.parts.signals ++ more)) (sym k.scope) (h.signals more));
  few = subst (λ ss. length ss ≤ most_parts) (sym k.signals) h.few;
}

pub found_ready : (x : code.State) → IsReady x → (f : Found code.State) → ForValue (λ (y : code.State). Stays x y) f → ForValue IsReady f
found_ready x h (Sound y) k = stays_ready x y h k
found_ready x h (Noted b y) k = stays_ready x y h k
found_ready x h (Lost b) k = tt
