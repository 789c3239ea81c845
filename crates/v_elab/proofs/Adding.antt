-- A process that was found is added to an instance.
use Rattle.std.proofs.Common.{◌≡◌, ℕ, List, length, refl, sym, ap, subst, ◌∙◌}
use Rattle.gpi.specs.declared.design.Signal.{Signal}
use Rattle.gpi.specs.declared.design.Process.{Process}
use Rattle.gpi.specs.Design.{Proc, proc_of, widths}
use Rattle.v_flat.specs.declared.scope.found.Found.{Found}
use Rattle.v_flat.specs.declared.scope.found.Found.TheVariants.{Sound, Noted, Lost}
use Rattle.v_flat.specs.Scope.Found.{each, EachIs, ForValue, Holds}
use Rattle.v_flat.specs.declared.scope.meaning.Meaning.{Meaning}
use Rattle.v_flat.specs.Scope.Scope.{means}
use Rattle.v_flat.specs.Targets.{Drive}
use Rattle.v_flat.specs.Statements.{done}
use Rattle.v_flat.specs.Design.{State, adding}
use Rattle.v_process.specs.declared.drive.digits.DrivenDigits.{DrivenDigits}
use Rattle.v_process.specs.Drive.Digits.{Keeps}
use Rattle.v_layout.specs.declared.build.parts.Parts.{Parts}
use Rattle.v_layout.specs.Build.Parts.{IsSoFar, IsSoundIn}
use Rattle.v_layout.proofs.BuildLemmas.More.{process_more}
use Rattle.v_process.specs.Items.{HasDrives, AddsProcess}
use Rattle.v_elab.specs.declared.state.State as code
use Rattle.v_elab.specs.States.{GoesOn, IsState, Stays}
use Rattle.v_elab.specs.ItemsSteps.{Adds, AddsFound, IsStep}

-- w is x with other driven digits
pub record Amid (x w : code.State) : Type 0 where
  pub scope : means w.scope ≡ means x.scope
  pub parts : w.parts ≡ x.parts
  pub children : w.children ≡ x.children

-- so many signals as the state st has
abbrev pub HasSignals : State → State → Type 0
HasSignals st v = length v.design.signals ≡ length st.design.signals

-- ---- what goes on

same_signals : (st : State) (ds : List Drive) (x w : code.State) → GoesOn st x → Amid x w → Keeps w.driven ds → (v : State) → HasDrives st ds v → HasSignals st v → GoesOn v w
same_signals st ds x w g a k v h l = record {
  scope = a.scope ∙ g.scope ∙ sym h.scope;
  signals = ap (λ (p : Parts). length p.signals) a.parts ∙ g.signals ∙ sym l;
  driven = subst (λ (es : List Drive). Keeps w.driven es) (sym h.driven) k;
}

values_go : (st : State) (ds : List Drive) (x w : code.State) → GoesOn st x → Amid x w → Keeps w.driven ds → (u : Found State)
    → ForValue (λ (v : State). HasDrives st ds v) u → ForValue (λ (v : State). HasSignals st v) u → ForValue (λ (v : State). GoesOn v w) u
values_go st ds x w g a k (Sound v) h l = same_signals st ds x w g a k v h l
values_go st ds x w g a k (Noted c v) h l = same_signals st ds x w g a k v h l
values_go st ds x w g a k (Lost c) h l = tt

more_goes : (v : State) (p : Process) (w y : code.State) → GoesOn v w → Adds p w y → GoesOn v y
more_goes v p w y g h = record {
  scope = ap (λ (es : List (List ℕ × Meaning)). means es) h.scope ∙ g.scope;
  signals = ap (λ (ss : List Signal). length ss) h.signals ∙ g.signals;
  driven = subst (λ (d : DrivenDigits). Keeps d v.driven) (sym h.driven) g.driven;
}

added_goes : (u : Found State) (w : code.State) (f : Found Process) (g : Found code.State) → done f ≡ done u → ForValue (λ (v : State). GoesOn v w) u
    → AddsFound w f g → EachIs GoesOn u g
added_goes (Sound v) w (Sound p) (Sound y) h k a = more_goes v p w y k a
added_goes (Noted c v) w (Sound p) (Sound y) h k a = absurd (cc)
added_goes (Lost c) w (Sound p) (Sound y) h k a = absurd (cc)
added_goes (Sound v) w (Noted b p) (Noted d y) h k a = absurd (cc)
added_goes (Noted c v) w (Noted b p) (Noted d y) h k a =
    let e : c ≡ b = cc in (e ∙ a.0, subst (λ (z : code.State). GoesOn v z) (sym a.1) k)
added_goes (Lost c) w (Noted b p) (Noted d y) h k a = absurd (cc)
added_goes (Sound v) w (Lost b) (Lost d) h k a = absurd (cc)
added_goes (Noted c v) w (Lost b) (Lost d) h k a = absurd (cc)
added_goes (Lost c) w (Lost b) (Lost d) h k a = let e : c ≡ b = cc in e ∙ a
added_goes u w (Sound p) (Noted d y) h k a = absurd a
added_goes u w (Sound p) (Lost d) h k a = absurd a
added_goes u w (Noted b p) (Sound y) h k a = absurd a
added_goes u w (Noted b p) (Lost d) h k a = absurd a
added_goes u w (Lost b) (Sound y) h k a = absurd a
added_goes u w (Lost b) (Noted d y) h k a = absurd a

-- ---- what stays

added_stays : (x w : code.State) (f : Found Process) (g : Found code.State) → Amid x w → AddsFound w f g → ForValue (λ (y : code.State). Stays x y) g
added_stays x w (Sound p) (Sound y) h a = record {
  scope = ap (λ (es : List (List ℕ × Meaning)). means es) a.scope ∙ h.scope;
  signals = a.signals ∙ ap (λ (p : Parts). p.signals) h.parts;
  nodes = ap (λ n. n.items) a.nodes ∙ ap (λ (p : Parts). p.nodes.items) h.parts;
  children = a.children ∙ h.children;
}
added_stays x w (Noted b p) (Noted d y) h a = subst (λ (z : code.State). Stays x z) (sym a.1) (record {
  scope = h.scope;
  signals = ap (λ (p : Parts). p.signals) h.parts;
  nodes = ap (λ (p : Parts). p.nodes.items) h.parts;
  children = h.children;
})
added_stays x w (Lost b) (Lost d) h a = tt
added_stays x w (Sound p) (Noted d y) h a = absurd a
added_stays x w (Sound p) (Lost d) h a = absurd a
added_stays x w (Noted b p) (Sound y) h a = absurd a
added_stays x w (Noted b p) (Lost d) h a = absurd a
added_stays x w (Lost b) (Sound y) h a = absurd a
added_stays x w (Lost b) (Noted d y) h a = absurd a

-- ---- no rule is broken

one_more : (st : State) (ds : List Drive) (p : Process) (x w y : code.State) → IsState st x → Amid x w → Keeps w.driven ds → Adds p w y → IsSoundIn p (widths x.parts.signals)
    → IsState (adding (proc_of p) ds st) y
one_more st ds p x w y h a k b sound = record {
  goes_on = record {
    scope = ap (λ (es : List (List ℕ × Meaning)). means es) b.scope ∙ a.scope ∙ h.goes_on.scope;
    signals = ap (λ (ss : List Signal). length ss) b.signals ∙ ap (λ (q : Parts). length q.signals) a.parts ∙ h.goes_on.signals;
    driven = subst (λ (d : DrivenDigits). Keeps d ds) (sym b.driven) k;
  };
  parts = process_more p w.parts y.parts b.signals b.nodes b.processes
      (subst (λ (q : Parts). IsSoundIn p (widths q.signals)) (sym a.parts) sound) st.design (subst (λ (q : Parts). IsSoFar st.design q) (sym a.parts) h.parts);
  children = b.children ∙ a.children ∙ h.children;
}

added_sound : (st : State) (ds : List Drive) (u : Found State) (x w : code.State) (f : Found Process) (g : Found code.State) → IsState st x → Amid x w → Keeps w.driven ds
    → AddsFound w f g → Holds (λ (p : Process). u ≡ Sound (adding (proc_of p) ds st)) f → Holds (λ (p : Process). IsSoundIn p (widths x.parts.signals)) f
    → Holds (λ (y : code.State). Holds (λ (t : State). IsState t y) u) g
added_sound st ds u x w (Sound p) (Sound y) h a k b is sound =
    subst (λ (z : Found State). Holds (λ (t : State). IsState t y) z) (sym is) (one_more st ds p x w y h a k b sound)
added_sound st ds u x w (Noted b p) (Noted d y) h a k c is sound = tt
added_sound st ds u x w (Lost b) (Lost d) h a k c is sound = tt
added_sound st ds u x w (Sound p) (Noted d y) h a k c is sound = absurd c
added_sound st ds u x w (Sound p) (Lost d) h a k c is sound = absurd c
added_sound st ds u x w (Noted b p) (Sound y) h a k c is sound = absurd c
added_sound st ds u x w (Noted b p) (Lost d) h a k c is sound = absurd c
added_sound st ds u x w (Lost b) (Sound y) h a k c is sound = absurd c
added_sound st ds u x w (Lost b) (Noted d y) h a k c is sound = absurd c

-- ---- all of it

-- what was found is what the definition adds, with the drives that it has then
pub record IsItem (u : Found State) (st : State) (ds : List Drive) (w : code.State) (f : Found Process) : Type 0 where
  pub adds : AddsProcess st u ds f
  pub signals : ForValue (λ (v : State). HasSignals st v) u
  pub driven : Keeps w.driven ds

pub step_added : (u : State → Found State) (ds : State → List Drive) (x w : code.State) (f : Found Process) (g : Found code.State) → Amid x w → AddsFound w f g
    → ((s : State) → GoesOn s x → IsItem (u s) s (ds s) w f) → ((s : State) → GoesOn s x → Holds (λ (p : Process). IsSoundIn p (widths x.parts.signals)) f)
    → IsStep u x g
step_added u ds x w f g a b is sound = record {
  goes_on = λ s h. let i = is s h in added_goes (u s) w f g i.adds.finds (values_go s (ds s) x w h a i.driven (u s) i.adds.goes_on i.signals) b;
  sound = λ s h. let i = is s h.goes_on in added_sound s (ds s) (u s) x w f g h a i.driven b i.adds.adds (sound s h.goes_on);
  stays = added_stays x w f g a b;
}

pub same_signals_each : {A : Type 0} (p : A → Proc) (ds : List Drive) (st : State) (x : Found A) → ForValue (λ (v : State). HasSignals st v) (each (λ (a : A). adding (p a) ds st) x)
same_signals_each p ds st (Sound a) = refl
same_signals_each p ds st (Noted c a) = refl
same_signals_each p ds st (Lost c) = tt
