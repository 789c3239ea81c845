-- The end of an item.
use Rattle.std.proofs.Common.{◌≡◌, ℕ, suc, List, [], ◌∷◌, length, Bool, true, false, Result, refl, sym, ap, subst, ◌∙◌}
use Rattle.gpi.specs.declared.design.Process.{Process}
use Rattle.gpi.specs.Design.{Proc, procs_of}
use Rattle.v_syntax.specs.SourceTrees.{KindTree, Ports, Nets, Registers, Integers, Parameters, Drivers, Always, Initial, Instance}
use Rattle.v_flat.specs.declared.scope.rule.Broken.{Broken}
use Rattle.v_flat.specs.declared.scope.rule.ElabRule.TheVariants as rule
use Rattle.v_flat.specs.declared.scope.found.Found.{Found}
use Rattle.v_flat.specs.declared.scope.found.Found.TheVariants.{Sound, Noted, Lost}
use Rattle.v_flat.specs.Scope.Rules.{at, earlier}
use Rattle.v_flat.specs.Scope.Found.{ended, wants, EachIs, ForValue, Holds, HoldsOk}
use Rattle.v_flat.specs.declared.timing.Timing.{Timing}
use Rattle.v_flat.specs.Design.{State, plain_item}
use Rattle.v_elab.specs.declared.state.State as code
use Rattle.v_elab.specs.States.{EndsAs, EndsItem, GoesOn, IsState, Stays}
use Rattle.v_elab.specs.ItemsSteps.{IsStep, item_step, leaves_room}

limited : (timing : Timing) (p : ℕ) (k : KindTree) (s : State) → plain_item timing p k s ≡ wants (leaves_room k (length s.design.processes)) rule.TooMany p (item_step timing k s)
limited timing p (Ports h is) s = refl
limited timing p (Nets r ns) s = refl
limited timing p (Registers r rs) s = refl
limited timing p (Integers is) s = refl
limited timing p (Parameters k r ps) s = refl
limited timing p (Drivers ds) s = refl
limited timing p (Always c a) s = refl
limited timing p (Initial a) s = refl
limited timing p (Instance m ps i qs) s = refl

many_procs : (ps : List Process) → length (procs_of ps) ≡ length ps
many_procs [] = refl
many_procs (p ∷ ps) = ap suc (many_procs ps)

pub same_count : (s : State) (x : code.State) → IsState s x → length x.parts.processes ≡ length s.design.processes
same_count s x h = sym (many_procs x.parts.processes) ∙ ap (λ (ps : List Proc). length ps) h.parts.processes

ends : (b : Bool) (p : ℕ) (u : Found State) (f : Found code.State) → EachIs GoesOn u f → Holds (λ (y : code.State). Holds (λ (t : State). IsState t y) u) f
    → EndsAs IsState (ended (wants b rule.TooMany p u)) (ended (wants b rule.TooMany p f))
ends true p (Sound t) (Sound y) h k = k
ends true p (Noted c t) (Noted d y) h k = h.0
ends true p (Lost c) (Lost d) h k = h
ends false p (Sound t) (Sound y) h k = refl
ends false p (Noted c t) (Noted d y) h k = ap (λ (z : Broken). earlier (at rule.TooMany p) z) h.0
ends false p (Lost c) (Lost d) h k = ap (λ (z : Broken). earlier (at rule.TooMany p) z) h
ends b p (Sound t) (Noted d y) h k = absurd h
ends b p (Sound t) (Lost d) h k = absurd h
ends b p (Noted c t) (Sound y) h k = absurd h
ends b p (Noted c t) (Lost d) h k = absurd h
ends b p (Lost c) (Sound y) h k = absurd h
ends b p (Lost c) (Noted d y) h k = absurd h

ends_there : (b : Bool) (p : ℕ) (x : code.State) (f : Found code.State) → ForValue (λ (y : code.State). Stays x y) f
    → HoldsOk (λ (y : code.State). Stays x y) (ended (wants b rule.TooMany p f))
ends_there true p x (Sound y) h = h
ends_there true p x (Noted d y) h = tt
ends_there true p x (Lost d) h = tt
ends_there false p x (Sound y) h = tt
ends_there false p x (Noted d y) h = tt
ends_there false p x (Lost d) h = tt

pub item_ends : (timing : Timing) (p : ℕ) (k : KindTree) (x : code.State) (b : Bool) (f g : Found code.State) (r : Result code.State Broken) → b ≡ leaves_room k (length x.parts.processes)
    → IsStep (item_step timing k) x f → g ≡ wants b rule.TooMany p f → r ≡ ended g → EndsItem timing p k x r
item_ends timing p k x b f g r room step e o = subst (λ (z : Result code.State Broken). EndsItem timing p k x z) (sym (o ∙ ap (λ (z : Found code.State). ended z) e)) (record {
  is = λ s h. subst (λ (u : Found State). EndsAs IsState (ended u) (ended (wants b rule.TooMany p f))) (sym (limited timing p k s))
      (subst (λ (c : Bool). EndsAs IsState (ended (wants c rule.TooMany p (item_step timing k s))) (ended (wants b rule.TooMany p f)))
      (room ∙ ap (λ n. leaves_room k n) (same_count s x h)) (ends b p (item_step timing k s) f (step.goes_on s h.goes_on) (step.sound s h)));
  stays = ends_there b p x f step.stays;
})
