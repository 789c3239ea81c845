-- An item that is no instance.
use Rattle.std.proofs.Common.{◌≡◌, ◌≤◌, ◌∙◌, ℕ, List, map, length, is_none, is_some, true, bytes_eq, Option, None, Result, Ok, Err, refl, sym, ap, subst}
use Rattle.std.specs.List.{list_any}
use Rattle.gpi.specs.Design.{widths}
use Rattle.gpi.specs.declared.design.Signal.{Signal}
use Rattle.gpi.specs.declared.design.Node.{Node}
use Rattle.gpi.specs.declared.design.Spot.{Spot}
use Rattle.name_table.specs.Places.{first_place}
use Rattle.v_syntax.specs.SourceTrees.{KindTree, Ports, Nets, Registers, Integers, Parameters, Drivers, Always, Initial, Instance, ItemAt, ItemTree, ModuleTree}
use Rattle.v_flat.specs.declared.scope.rule.Broken.{Broken}
use Rattle.v_flat.specs.Scope.Found.{HoldsOk, ended}
use Rattle.v_flat.specs.Scope.Limits.{most_parts}
use Rattle.v_flat.specs.Scope.Scope.{Scope, find, means}
use Rattle.v_flat.specs.Paths.{Path}
use Rattle.v_flat.specs.declared.timing.Timing.{Timing}
use Rattle.v_flat.specs.Design.{Modules, State, Sub, child_name, item, plain_item}
use Rattle.v_check.specs.Names.Proper.{AreProper}
use Rattle.v_layout.specs.declared.build.parts.Parts.{Parts}
use Rattle.v_layout.specs.Build.Parts.{Grows}
use Rattle.v_layout.specs.Named.{StaySignals}
use Rattle.v_elab.specs.declared.state.State as code
use Rattle.v_elab.specs.States.{EndsAs, EndsItem, IsReady, IsState, Stays}
use Rattle.v_elab.proofs.BeginEnds.{ends_err, ends_ok, of_ok}
use Rattle.v_header.specs.Top.Found.{modules_of}
use Rattle.v_elab.specs.declared.level.Level.{Level}
use Rattle.v_elab.specs.declared.walked.Walked.{Walked}
use Rattle.v_elab.specs.Instances.{IsWalked}
use Rattle.v_elab.specs.WalkSteps.{GoesOn, IsInner, IsPlain, Passes, over_item, walk_below}
use Rattle.v_elab.proofs.Passed.{grows_itself}

abbrev sub_of : Level → Sub
sub_of l = walk_below (modules_of l.modules.now) l.room

plain_by : (timing : Timing) (sub : Sub) (room : ℕ) (ms : Modules) (above : List (List ℕ)) (path : Path) (p : ℕ) (k : KindTree) (s : State) → IsPlain k
    → item timing sub room ms above path (ItemAt p k) s ≡ ended (plain_item timing p k s)
plain_by timing sub room ms above path p (Ports h is) s q = refl
plain_by timing sub room ms above path p (Nets r ns) s q = refl
plain_by timing sub room ms above path p (Registers r rs) s q = refl
plain_by timing sub room ms above path p (Integers is) s q = refl
plain_by timing sub room ms above path p (Parameters k r ps) s q = refl
plain_by timing sub room ms above path p (Drivers ds) s q = refl
plain_by timing sub room ms above path p (Always c a) s q = refl
plain_by timing sub room ms above path p (Initial a) s q = refl
plain_by timing sub room ms above path p (Instance m v i c) s q = absurd q

stays_ready : (x y : code.State) → IsReady x → Stays x y → IsReady y
stays_ready x y h k = record {
  proper = subst (λ (s : Scope). AreProper s) (sym k.scope) h.proper;
  signals = subst (λ (ss : List Signal). StaySignals (means y.scope) (widths ss)) (sym k.signals) (subst (λ (s : Scope). StaySignals s (widths x.parts.signals)) (sym k.scope) h.signals);
  few = subst (λ (ss : List Signal). length ss ≤ most_parts) (sym k.signals) h.few;
}

stays_grows : (x y : code.State) → Stays x y → Grows x.parts y.parts
stays_grows x y k =
    let g = grows_itself x.parts in
    record { more = g.more; signals = k.signals ∙ g.signals; nodes = subst (λ (ns : List Node). length x.parts.nodes.items ≤ length ns) (sym k.nodes) g.nodes }

abbrev with_state : Walked → code.State → Walked
with_state x y = record { state = y; instances = x.instances }

same_names : (s t : State) (x : Walked) (y : code.State) → IsWalked s x → IsState t y → Stays x.state y → IsWalked t (with_state x y)
same_names s t x y h k stays = record {
  is = k;
  instances = λ n free.
      ap (λ (cs : List (List ℕ × Spot)). list_any (bytes_eq n) (map child_name cs)) (sym k.children ∙ stays.children ∙ h.is.children)
      ∙ h.instances n (ap (λ (c : Scope). is_none (find n c)) (sym (sym k.goes_on.scope ∙ stays.scope ∙ h.is.goes_on.scope)) ∙ free);
}

pub plain_passed : (l : Level) (p : ℕ) (k : KindTree) (x : Walked) (r : Result code.State Broken) (y : code.State) → IsInner (ItemAt p k) None → IsReady x.state → EndsItem l.timing p k x.state r
    → r ≡ Ok y → Passes l (over_item l (ItemAt p k)) x (Ok (with_state x y))
plain_passed l p k x r y plain ready h e = record {
  is = λ above path s same t w.
      let u = ends_ok IsState (ended (plain_item l.timing p k s)) r y (h.is s w.is) e in
      subst (λ (q : Result State Broken). EndsAs IsWalked q (let v : Result Walked Broken = Ok (with_state x y) in v)) (sym (plain_by l.timing (sub_of l) l.room (modules_of l.modules.now) above path p k s plain ∙ u.1.0))
      (same_names s u.0 x y w u.1.1 stays);
  goes_on = record { ready = stays_ready x.state y ready stays; grows = stays_grows x.state y stays };
}
  where
    stays : Stays x.state y
    stays = of_ok (λ (z : code.State). Stays x.state z) r y h.stays e

pub plain_broken : (l : Level) (p : ℕ) (k : KindTree) (x : Walked) (r : Result code.State Broken) (b : Broken) → IsInner (ItemAt p k) None → EndsItem l.timing p k x.state r → r ≡ Err b
    → Passes l (over_item l (ItemAt p k)) x (Err b)
plain_broken l p k x r b plain h e = record {
  is = λ above path s same t w.
      subst (λ (q : Result State Broken). EndsAs IsWalked q (let v : Result Walked Broken = Err b in v))
      (sym (plain_by l.timing (sub_of l) l.room (modules_of l.modules.now) above path p k s plain ∙ ends_err IsState (ended (plain_item l.timing p k s)) r b (h.is s w.is) e)) refl;
  goes_on = tt;
}
