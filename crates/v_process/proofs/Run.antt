-- Processes of statements that were found.
use Rattle.std.proofs.Common.{◌≡◌, List, refl, sym, ◌∙◌, subst}
use Rattle.gpi.specs.declared.acts.Act.{Act}
use Rattle.gpi.specs.declared.design.Kind.{Kind}
use Rattle.gpi.specs.declared.design.Kind.TheVariants.{Always}
use Rattle.gpi.specs.declared.design.Wake.{Wake}
use Rattle.gpi.specs.declared.design.Process.{Process}
use Rattle.v_syntax.specs.StatementTrees.{StatementTree}
use Rattle.v_flat.specs.declared.scope.found.Found.{Found}
use Rattle.v_flat.specs.declared.scope.found.Found.TheVariants.{Sound, Noted, Lost}
use Rattle.v_flat.specs.Scope.Found.{each, both, Holds}
use Rattle.v_flat.specs.Scope.Scope.{Scope}
use Rattle.v_flat.specs.declared.timing.Timing.{Timing}
use Rattle.v_flat.specs.Statements.{statement_checked}
use Rattle.v_flat.specs.Design.{from}
use Rattle.v_process.specs.Act.Statements.{DoesAs, IsStatement, IsFoundStatement}
use Rattle.v_process.proofs.ActLemmas.Done.{done_unit, done_each, two_done}
use Rattle.v_process.specs.Made.{process, waiting}
use Rattle.v_process.specs.Processes.{Runs, IsFoundProcess, IsAlways}

pub runs : (timing : Timing) (k : Kind) (ws : List Wake) (s : Scope) (st : StatementTree) (a : Act) → DoesAs timing s st a → Runs timing k ws s st (process k ws a)
runs timing k ws s st a h = record {
  is = λ i. record { kind = k; wakes = ws; run = λ m g. h.runs (from m g) i };
  sound = h.sound;
}

-- ---- with what it waits for

each_runs : (timing : Timing) (k : Kind) (ws : List Wake) (s : Scope) (st : StatementTree) (x : Found Act) → Holds (λ (a : Act). DoesAs timing s st a) x
    → Holds (λ (p : Process). Runs timing k ws s st p) (each (process k ws) x)
each_runs timing k ws s st (Sound a) h = runs timing k ws s st a h
each_runs timing k ws s st (Noted b a) h = tt
each_runs timing k ws s st (Lost b) h = tt

pub found_process : (timing : Timing) (k : Kind) (ws : List Wake) (s : Scope) (st : StatementTree) (b : Found (Unit {0})) (x : Found Act) (f : Found Process)
    → f ≡ each (process k ws) x → IsStatement timing s st b x → IsFoundProcess timing k ws s st b f
found_process timing k ws s st b x f e h = subst (λ (g : Found Process). IsFoundProcess timing k ws s st b g) (sym e) (record {
  finds = done_each (process k ws) x ∙ h.finds;
  holds = each_runs timing k ws s st x h.holds;
})

-- ---- with what was found in its events

events_wait : (w : Found (List Wake)) (x : Found Act) → Holds (λ (p : Process). w ≡ Sound p.wakes) (each waiting (both w x))
events_wait (Sound ws) (Sound a) = refl
events_wait (Sound ws) (Noted b a) = tt
events_wait (Sound ws) (Lost b) = tt
events_wait (Noted c ws) (Sound a) = tt
events_wait (Noted c ws) (Noted b a) = tt
events_wait (Noted c ws) (Lost b) = tt
events_wait (Lost c) (Sound a) = tt
events_wait (Lost c) (Noted b a) = tt
events_wait (Lost c) (Lost b) = tt

events_run : (timing : Timing) (w : Found (List Wake)) (s : Scope) (st : StatementTree) (x : Found Act) → Holds (λ (a : Act). DoesAs timing s st a) x
    → Holds (λ (p : Process). Runs timing Always p.wakes s st p) (each waiting (both w x))
events_run timing (Sound ws) s st (Sound a) h = runs timing Always ws s st a h
events_run timing (Sound ws) s st (Noted b a) h = tt
events_run timing (Sound ws) s st (Lost b) h = tt
events_run timing (Noted c ws) s st (Sound a) h = tt
events_run timing (Noted c ws) s st (Noted b a) h = tt
events_run timing (Noted c ws) s st (Lost b) h = tt
events_run timing (Lost c) s st (Sound a) h = tt
events_run timing (Lost c) s st (Noted b a) h = tt
events_run timing (Lost c) s st (Lost b) h = tt

pub found_always : (timing : Timing) (w : Found (List Wake)) (s : Scope) (st : StatementTree) (x : Found Act) (f : Found Process) → f ≡ each waiting (both w x)
    → IsFoundStatement timing s st x → IsAlways timing w s st f
found_always timing w s st x f e h = subst (λ (g : Found Process). IsAlways timing w s st g) (sym e) (record {
  finds = done_each waiting (both w x)
      ∙ two_done w x w (statement_checked timing s st) refl (h.finds ∙ sym (done_unit (statement_checked timing s st)));
  waits = events_wait w x;
  holds = events_run timing w s st x h.holds;
})
