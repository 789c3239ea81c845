-- The labels and items of case statements, put together.
use Rattle.std.proofs.Common.{◌≡◌, ℕ, ◌≤◌, max, List, [], ◌∷◌, ◌++◌, Option, Some, Bool, true, false, ◌||◌, Result, Ok, Err, IfOk, refl, sym, ap, ◌∙◌, subst, arith}
use Rattle.four_value.specs.declared.Digit.{Digit}
use Rattle.four_value.specs.Limits.{most_digits}
use Rattle.gpi.specs.declared.acts.Act.{Act}
use Rattle.gpi.specs.declared.acts.CaseKind.{CaseKind as Agreement}
use Rattle.gpi.specs.Cases.{all_agree}
use Rattle.gpi.specs.Activation.{Run}
use Rattle.gpi.specs.Activation as act
use Rattle.v_syntax.specs.ExpressionTrees.{Tree}
use Rattle.v_syntax.specs.StatementTrees.{StatementTree, Match, Default, CaseTrees, more_cases}
use Rattle.v_flat.specs.declared.scope.found.Found.{Found}
use Rattle.v_flat.specs.Scope.Found.{both}
use Rattle.v_flat.specs.Scope.Limits.{counted_width}
use Rattle.v_flat.specs.Scope.Scope.{Scope}
use Rattle.v_check.specs.declared.contextual.contextual.Contextual.{Contextual}
use Rattle.v_check.specs.Contextual.Contexts.{value_in}
use Rattle.v_check.specs.Contextual.Contexts as context
use Rattle.v_flat.specs.Checks.{checked}
use Rattle.v_flat.specs.Expressions.{Values, width, meaning}
use Rattle.v_flat.specs.declared.timing.Timing.{Timing}
use Rattle.v_flat.specs.Statements.{done, labels_checked, any_agrees, widest, case_width, values_of, either_run, chosen, activation}
use Rattle.v_flat.proofs.Holds.{holds_both}
use Rattle.v_check.specs.declared.constants.checked.Checked.{Checked}
use Rattle.v_check.specs.Constants.Checked.{StandsFor}
use Rattle.v_check.proofs.ConstantsLemmas.Combined.{made_holds}
use Rattle.v_process.specs.declared.act.cases.CaseLabels.{CaseLabels}
use Rattle.v_process.specs.declared.act.cases.LabeledItem.{LabeledItem}
use Rattle.v_process.specs.declared.act.cases.CaseParts.{CaseParts}
use Rattle.v_process.specs.Act.Statements.{DoesAs}
use Rattle.v_process.specs.Act.Cases.{any_form_agrees, SoundForms, DoAsLabels, choose_back, SoundItems, run_some, SoundSome, DoAsCases, ChecksMoreLabels, ChecksItem, ChecksDefault}
use Rattle.v_process.specs.Act.MadeCases.{HasLabel, AreMoreLabels, HasItem, AreMoreItems, HasDefault, AreMoreDefaults}
use Rattle.v_process.proofs.ActLemmas.Done.{done_unit, done_as, two_done, done_made}

both_narrow : (a b : ℕ) → a ≤ most_digits → b ≤ most_digits → max a b ≤ most_digits
both_narrow a b h k = omega (arith, h, k)

-- ---- labels

or_swap : (a b c : Bool) → (a || (b || c)) ≡ (b || (a || c))
or_swap true true c = refl
or_swap true false c = refl
or_swap false true c = refl
or_swap false false c = refl

pub any_last : (k : Agreement) (v : List Digit) (w : ℕ) (cs : List Contextual) (c : Contextual) (m : Values)
    → any_form_agrees k v w (cs ++ (c ∷ [])) m ≡ (all_agree k v (value_in c w m) || any_form_agrees k v w cs m)
any_last k v w [] c m = refl
any_last k v w (d ∷ cs) c m = ap (λ (b : Bool). all_agree k v (value_in d w m) || b) (any_last k v w cs c m)
    ∙ or_swap (all_agree k v (value_in d w m)) (all_agree k v (value_in c w m)) (any_form_agrees k v w cs m)

forms_last : (cs : List Contextual) (c : Contextual) (ws : List ℕ) → SoundForms cs ws → context.IsSound c ws → SoundForms (cs ++ (c ∷ [])) ws
forms_last [] c ws h k = (k, tt)
forms_last (d ∷ cs) c ws h k = (h.0, forms_last cs c ws h.1 k)

pub forms_split : (cs : List Contextual) (c : Contextual) (ws : List ℕ) → SoundForms (cs ++ (c ∷ [])) ws → SoundForms cs ws × context.IsSound c ws
forms_split [] c ws h = (tt, h.0)
forms_split (d ∷ cs) c ws h = let k = forms_split cs c ws h.1 in ((h.0, k.0), k.1)

label_do : (s : Scope) (e : Tree) (es : List Tree) (c : Checked) (x y : CaseLabels) → HasLabel c x y → StandsFor s e c → DoAsLabels s es x
    → DoAsLabels s (e ∷ es) y
label_do s e es c x y made h k = record {
  width = ap (λ (n : ℕ). max n (widest s es)) h.own ∙ ap (λ (n : ℕ). max c.width n) k.width ∙ sym made.width;
  proper = subst (λ (n : ℕ). n ≤ most_digits) (sym made.width) (both_narrow c.width x.width h.proper.1 k.proper);
  agree = λ l v w m. ap (λ (cs : List Contextual). any_form_agrees l v w cs m) made.forms ∙ any_last l v w x.forms.items c.form m
      ∙ ap (λ (ds : List Digit). all_agree l v ds || any_form_agrees l v w x.forms.items m) (h.means w m)
      ∙ ap (λ (b : Bool). all_agree l v (meaning s e w m) || b) (k.agree l v w m);
  sound = λ ws names. subst (λ (cs : List Contextual). SoundForms cs ws) (sym made.forms)
      (forms_last x.forms.items c.form ws (k.sound ws names.1) (h.sound ws names.0));
}

labels_are : (x : Found Checked) (y f : Found CaseLabels) → AreMoreLabels (both x y) f → ChecksMoreLabels x y f
labels_are x y f made = λ s e es h k. record {
  finds = done_made (λ (p : Checked × CaseLabels) (z : CaseLabels). HasLabel p.0 p.1 z) (both x y) f made
      ∙ two_done x y (checked s e) (labels_checked s es) (done_as (λ (c : Checked). c.width) counted_width x (checked s e) h.finds)
      (k.finds ∙ sym (done_unit (labels_checked s es)));
  holds = made_holds (λ (p : Checked × CaseLabels) (z : CaseLabels). HasLabel p.0 p.1 z) (λ (p : Checked × CaseLabels). StandsFor s e p.0 × DoAsLabels s es p.1)
      (λ (z : CaseLabels). DoAsLabels s (e ∷ es) z) (both x y) f made
      (holds_both (λ (c : Checked). StandsFor s e c) (λ (z : CaseLabels). DoAsLabels s es z) x y h.holds k.holds)
      (λ p z q st. label_do s e es p.0 p.1 z q st.0 st.1);
}

pub labels_result : {E : Type 0} (x : Found Checked) (y : Found CaseLabels) (r : Result (Found CaseLabels) E) → IfOk r (AreMoreLabels (both x y))
    → IfOk r (ChecksMoreLabels x y)
labels_result x y (Ok f) made = labels_are x y f made
labels_result x y (Err e) made = tt

-- ---- items

pub choose_last : (k : Agreement) (v : List Digit) (w : ℕ) (xs : List LabeledItem) (x : LabeledItem) (r other : Run)
    → choose_back k v w (xs ++ (x ∷ [])) r other
    ≡ either_run (any_form_agrees k v w x.labels.forms.items (values_of r)) (act.activation x.statement r) (choose_back k v w xs r other)
choose_last k v w [] x r other = refl
choose_last k v w (y ∷ xs) x r other =
    choose_last k v w xs x r (either_run (any_form_agrees k v w y.labels.forms.items (values_of r)) (act.activation y.statement r) other)

items_last : (xs : List LabeledItem) (x : LabeledItem) (ws : List ℕ) → SoundItems xs ws → SoundForms x.labels.forms.items ws → act.IsSound x.statement ws
    → SoundItems (xs ++ (x ∷ [])) ws
items_last [] x ws h k l = ((k, l), tt)
items_last (y ∷ xs) x ws h k l = (h.0, items_last xs x ws h.1 k l)

pub items_split : (xs : List LabeledItem) (x : LabeledItem) (ws : List ℕ) → SoundItems (xs ++ (x ∷ [])) ws
    → SoundItems xs ws × (SoundForms x.labels.forms.items ws × act.IsSound x.statement ws)
items_split [] x ws h = (tt, h.0)
items_split (y ∷ xs) x ws h = let k = items_split xs x ws h.1 in ((h.0, k.0), k.1)

item_runs : (timing : Timing) (s : Scope) (es : List Tree) (a : StatementTree) (cs : CaseTrees) (l : CaseLabels) (t : Act) (x y : CaseParts) → HasItem l t x y
    → DoAsLabels s es l → DoesAs timing s a t → DoAsCases timing s cs x → (k : Agreement) (v : List Digit) (w : ℕ) (r other : Run)
    → choose_back k v w y.items.items r other ≡ chosen timing k v w s (more_cases (Match es a) cs) r other
item_runs timing s es a cs l t x y made h g c k v w r other =
    ap (λ (xs : List LabeledItem). choose_back k v w xs r other) made.items
    ∙ choose_last k v w x.items.items (record { labels = l; statement = t }) r other
    ∙ ap (λ (b : Bool). either_run b (act.activation t r) (choose_back k v w x.items.items r other)) (h.agree k v w (values_of r))
    ∙ ap (λ (q : Run). either_run (any_agrees k v w s es (values_of r)) q (choose_back k v w x.items.items r other)) (g.runs r)
    ∙ ap (λ (q : Run). either_run (any_agrees k v w s es (values_of r)) (activation timing s a r) q) (c.runs k v w r other)

item_do : (timing : Timing) (s : Scope) (es : List Tree) (a : StatementTree) (cs : CaseTrees) (l : CaseLabels) (t : Act) (x y : CaseParts) → HasItem l t x y
    → DoAsLabels s es l → DoesAs timing s a t → DoAsCases timing s cs x → DoAsCases timing s (more_cases (Match es a) cs) y
item_do timing s es a cs l t x y made h g c = record {
  width = ap (λ (n : ℕ). max n (case_width s cs)) h.width ∙ ap (λ (n : ℕ). max l.width n) c.width ∙ sym made.width;
  proper = subst (λ (n : ℕ). n ≤ most_digits) (sym made.width) (both_narrow l.width x.width h.proper c.proper);
  runs = λ k v w r other. item_runs timing s es a cs l t x y made h g c k v w r other;
  otherwise = λ r. ap (λ (o : Option Act). run_some o r) made.other ∙ c.otherwise r;
  sound = λ ws names. (
    subst (λ (xs : List LabeledItem). SoundItems xs ws) (sym made.items)
        (items_last x.items.items (record { labels = l; statement = t }) ws (c.sound ws names.1).0 (h.sound ws names.0.0) (g.sound ws names.0.1)),
    subst (λ (o : Option Act). SoundSome o ws) (sym made.other) (c.sound ws names.1).1,
  );
}

items_are : (x : Found CaseLabels) (y : Found Act) (z f : Found CaseParts) → AreMoreItems (both (both x y) z) f → ChecksItem x y z f
items_are x y z f made = λ timing s es a cs b c h g k. record {
  finds = done_made (λ (p : (CaseLabels × Act) × CaseParts) (q : CaseParts). HasItem p.0.0 p.0.1 p.1 q) (both (both x y) z) f made
      ∙ two_done (both x y) z (both (labels_checked s es) b) c
      (two_done x y (labels_checked s es) b (h.finds ∙ sym (done_unit (labels_checked s es))) (g.finds ∙ sym (done_unit b)))
      (k.finds ∙ sym (done_unit c))
      ∙ two_done (both (labels_checked s es) b) c (done (both (labels_checked s es) b)) c (sym (done_unit (done (both (labels_checked s es) b)))) refl;
  holds = made_holds (λ (p : (CaseLabels × Act) × CaseParts) (q : CaseParts). HasItem p.0.0 p.0.1 p.1 q)
      (λ (p : (CaseLabels × Act) × CaseParts). (DoAsLabels s es p.0.0 × DoesAs timing s a p.0.1) × DoAsCases timing s cs p.1)
      (λ (q : CaseParts). DoAsCases timing s (more_cases (Match es a) cs) q) (both (both x y) z) f made
      (holds_both (λ (p : CaseLabels × Act). DoAsLabels s es p.0 × DoesAs timing s a p.1) (λ (q : CaseParts). DoAsCases timing s cs q) (both x y) z
      (holds_both (λ (l : CaseLabels). DoAsLabels s es l) (λ (t : Act). DoesAs timing s a t) x y h.holds g.holds) k.holds)
      (λ p q made' st. item_do timing s es a cs p.0.0 p.0.1 p.1 q made' st.0.0 st.0.1 st.1);
}

pub items_result : {E : Type 0} (x : Found CaseLabels) (y : Found Act) (z : Found CaseParts) (r : Result (Found CaseParts) E)
    → IfOk r (AreMoreItems (both (both x y) z)) → IfOk r (ChecksItem x y z)
items_result x y z (Ok f) made = items_are x y z f made
items_result x y z (Err e) made = tt

-- ---- defaults

default_do : (timing : Timing) (s : Scope) (a : StatementTree) (cs : CaseTrees) (t : Act) (x y : CaseParts) → HasDefault t x y → DoesAs timing s a t → DoAsCases timing s cs x
    → DoAsCases timing s (more_cases (Default a) cs) y
default_do timing s a cs t x y made g c = record {
  width = c.width ∙ sym made.width;
  proper = subst (λ (n : ℕ). n ≤ most_digits) (sym made.width) c.proper;
  runs = λ k v w r other. ap (λ (xs : List LabeledItem). choose_back k v w xs r other) made.items ∙ c.runs k v w r other;
  otherwise = λ r. ap (λ (o : Option Act). run_some o r) made.other ∙ g.runs r;
  sound = λ ws names. (
    subst (λ (xs : List LabeledItem). SoundItems xs ws) (sym made.items) (c.sound ws names.1).0,
    subst (λ (o : Option Act). SoundSome o ws) (sym made.other) (g.sound ws names.0),
  );
}

pub defaults_are : (y : Found Act) (z f : Found CaseParts) → AreMoreDefaults (both y z) f → ChecksDefault y z f
defaults_are y z f made = λ timing s a cs b c g k. record {
  finds = done_made (λ (p : Act × CaseParts) (q : CaseParts). HasDefault p.0 p.1 q) (both y z) f made
      ∙ two_done y z b c (g.finds ∙ sym (done_unit b)) (k.finds ∙ sym (done_unit c));
  holds = made_holds (λ (p : Act × CaseParts) (q : CaseParts). HasDefault p.0 p.1 q) (λ (p : Act × CaseParts). DoesAs timing s a p.0 × DoAsCases timing s cs p.1)
      (λ (q : CaseParts). DoAsCases timing s (more_cases (Default a) cs) q) (both y z) f made
      (holds_both (λ (t : Act). DoesAs timing s a t) (λ (q : CaseParts). DoAsCases timing s cs q) y z g.holds k.holds)
      (λ p q made' st. default_do timing s a cs p.0 p.1 q made' st.0 st.1);
}
