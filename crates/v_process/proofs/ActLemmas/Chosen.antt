-- Conditional statements.
use Rattle.std.proofs.Common.{List, Result, Ok, Err, IfOk, refl, sym, ap, ◌∙◌}
use Rattle.four_value.specs.declared.Digit.{Digit}
use Rattle.gpi.specs.declared.acts.Act.{Act}
use Rattle.gpi.specs.declared.terms.Term.{Term}
use Rattle.gpi.specs.Operators.{truth}
use Rattle.gpi.specs.Terms.{read}
use Rattle.gpi.specs.Activation.{Run, by_truth, MakesIf}
use Rattle.gpi.specs.Activation as act
use Rattle.v_syntax.specs.ExpressionTrees.{Tree}
use Rattle.v_syntax.specs.StatementTrees.{StatementTree, Null, If, IfElse}
use Rattle.v_flat.specs.declared.scope.found.Found.{Found}
use Rattle.v_flat.specs.Scope.Found.{fine, both}
use Rattle.v_flat.specs.Scope.Scope.{Scope}
use Rattle.v_flat.proofs.ScopeLemmas.Gathered.{holds_so}
use Rattle.v_flat.specs.Checks.{checked}
use Rattle.v_flat.specs.Expressions.{own_value}
use Rattle.v_flat.specs.declared.timing.Timing.{Timing}
use Rattle.v_flat.specs.Statements.{activation}
use Rattle.v_flat.proofs.Holds.{holds_both}
use Rattle.v_check.specs.declared.constants.checked.Checked.{Checked}
use Rattle.v_check.proofs.ConstantsLemmas.Combined.{made_holds}
use Rattle.v_check.specs.Names.Selects.{StandsAlone, ChecksIndex}
use Rattle.v_process.specs.Act.Made.{AreChoices}
use Rattle.v_process.specs.Act.Statements.{DoesAs, ChecksNull, ChecksIf, ChecksIfElse}
use Rattle.v_process.proofs.ActLemmas.Done.{done_unit, two_done, with_fine, done_made}

choice_does : (timing : Timing) (s : Scope) (c : Tree) (a1 a2 : StatementTree) (t : Term) (x y z : Act) → MakesIf t x y z → StandsAlone s c t → DoesAs timing s a1 x → DoesAs timing s a2 y
    → DoesAs timing s (IfElse c a1 a2) z
choice_does timing s c a1 a2 t x y z made h k l = record {
  runs = λ r. made.runs r
      ∙ ap (λ (ds : List Digit). by_truth (truth ds) (act.activation x r) (act.activation y r)) (h.means (read r.signals))
      ∙ ap (λ (q : Run). by_truth (truth (own_value s c (read r.signals))) q (act.activation y r)) (k.runs r)
      ∙ ap (λ (q : Run). by_truth (truth (own_value s c (read r.signals))) (activation timing s a1 r) q) (l.runs r);
  sound = λ ws names. made.sound ws (h.sound ws names.0, k.sound ws names.1.0, l.sound ws names.1.1);
}

choice_is : (x : Found Checked) (u : Found Term) (y z f : Found Act) → ChecksIndex x u → AreChoices (both u (both y z)) f → ChecksIfElse x y z f
choice_is x u y z f alone made = λ timing s c a1 a2 b1 b2 g h k.
    let i = alone s c g in record {
      finds = done_made (λ (p : Term × (Act × Act)) (a : Act). MakesIf p.0 p.1.0 p.1.1 a) (both u (both y z)) f made
          ∙ two_done u (both y z) (checked s c) (both b1 b2) i.finds
          (two_done y z b1 b2 (h.finds ∙ sym (done_unit b1)) (k.finds ∙ sym (done_unit b2)));
      holds = made_holds (λ (p : Term × (Act × Act)) (a : Act). MakesIf p.0 p.1.0 p.1.1 a)
          (λ (p : Term × (Act × Act)). StandsAlone s c p.0 × (DoesAs timing s a1 p.1.0 × DoesAs timing s a2 p.1.1)) (λ (a : Act). DoesAs timing s (IfElse c a1 a2) a)
          (both u (both y z)) f made
          (holds_both (λ (t : Term). StandsAlone s c t) (λ (p : Act × Act). DoesAs timing s a1 p.0 × DoesAs timing s a2 p.1) u (both y z) i.holds
          (holds_both (λ (a : Act). DoesAs timing s a1 a) (λ (a : Act). DoesAs timing s a2 a) y z h.holds k.holds))
          (λ p a q st. choice_does timing s c a1 a2 p.0 p.1.0 p.1.1 a q st.0 st.1.0 st.1.1);
    }

pub choice_result : {E : Type 0} (x : Found Checked) (u : Found Term) (y z : Found Act) (r : Result (Found Act) E) → ChecksIndex x u
    → IfOk r (AreChoices (both u (both y z))) → IfOk r (ChecksIfElse x y z)
choice_result x u y z (Ok f) alone made = choice_is x u y z f alone made
choice_result x u y z (Err e) alone made = tt

-- ---- with nothing where the condition isn't true

without_else : (timing : Timing) (s : Scope) (c : Tree) (a : StatementTree) (x : Act) → DoesAs timing s (IfElse c a Null) x → DoesAs timing s (If c a) x
without_else timing s c a x h = record {
  runs = λ r. h.runs r;
  sound = λ ws names. h.sound ws (names.0, (names.1, tt));
}

then_is : (x : Found Checked) (y z f : Found Act) → ChecksNull z → ChecksIfElse x y z f → ChecksIf x y f
then_is x y z f none made = λ timing s c a b g h.
    let k = made timing s c a Null b fine g h (none.null timing s) in record {
      finds = k.finds ∙ two_done (checked s c) (both b fine) (checked s c) b refl (with_fine b);
      holds = holds_so (λ (q : Act). DoesAs timing s (IfElse c a Null) q) (λ (q : Act). DoesAs timing s (If c a) q) f k.holds (λ q st. without_else timing s c a q st);
    }

pub then_result : {E : Type 0} (x : Found Checked) (y z : Found Act) (r : Result (Found Act) E) → ChecksNull z → IfOk r (ChecksIfElse x y z)
    → IfOk r (ChecksIf x y)
then_result x y z (Ok f) none made = then_is x y z f none made
then_result x y z (Err e) none made = tt
