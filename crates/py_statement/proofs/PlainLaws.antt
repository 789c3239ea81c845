-- The laws of reading statements that begin with an expression.
use Rattle.std.proofs.Common.{◌≡◌, ℕ, List, [], ◌∷◌, Option, Some, None, refl, sym, ap, ◌∙◌, arith, subst, true, false, Bool, ◌&&◌, if◌then◌else◌, ◌≤◌, ◌⊎◌, inl, inr}
use Rattle.std.specs.Prelude.{codes}
use Rattle.std.specs.Str.{bytes_eq}
use Rattle.py_syntax.specs.ExpressionTrees.{Tree, Name, Attribute, height}
use Rattle.py_syntax.specs.ExpressionSpells.{level, Closes, Spells}
use Rattle.py_syntax.specs.StatementTables.{action_name, level_name, augmenting}
use Rattle.py_syntax.specs.StatementTrees.{StartedCall, RightSide, WriteAction, Logger, CocotbLog, HierarchyLog, Statement, Pass, Break, Continue, Return, Raise, Assert, Assign, AugmentedAssign, AssignValue, SetImmediateValue, Await, Act, Log, StartSoon, PutNow, AssignAction, SetImmediateAction}
use Rattle.py_syntax.specs.StatementForms.{SpellsBefore, SpellsLogger, SpellsStatement, can_log}
use Rattle.py_syntax.specs.CallForms.{method_tokens, member_tokens, SpellsValues, SpellsStarted, SpellsRight, SpellsAction}
use Rattle.py_syntax.specs.declared.expression.BinOp.{BinOp}
use Rattle.py_syntax.specs.declared.operator.Operator.{Operator}
use Rattle.py_syntax.specs.declared.operator.Operator.TheVariants as operator
use Rattle.py_syntax.specs.declared.operator.Bracket.TheVariants as bracket
use Rattle.py_syntax.specs.declared.statement.Action.{Action}
use Rattle.py_syntax.specs.declared.statement.LogLevel.{LogLevel}
use Rattle.py_syntax.specs.declared.token.Token.{Token}
use Rattle.py_syntax.specs.declared.token.Token.TheVariants as token
use Rattle.py_expression.specs.Shown.{Shown, shown}
use Rattle.py_expression.specs.Phrase.Marks.{after, end_of, after_assign, after_open, after_close}
use Rattle.py_expression.specs.Reading.{primary_of}
use Rattle.py_expression.specs.Ends.{IsPlain}
use Rattle.py_expression.proofs.Again.{Quiet}
use Rattle.py_expression.proofs.Nodes.{shown_name}
use Rattle.py_expression.proofs.ReaderLaws.{primary_again}
use Rattle.py_expression.proofs.PhraseLemmas.Facts.{some_same, after_assign_is, after_open_is, after_close_is, bytes_are}
use Rattle.py_statement.specs.Call.Kept.{lowered, kept, of_one, of_two, kept_list}
use Rattle.py_statement.specs.Call.Chosen.{also, made, ended}
use Rattle.py_statement.specs.Call.Reading.{whole_value_of, values_of, closed_start_of, right_of, whole_write_action_of, closed_write_action_of}
use Rattle.py_statement.proofs.CallLemmas.Chosen.{not_some, also_is, made_is, or_is, choice_is, and_is, end_is, ended_is, when}
use Rattle.py_statement.proofs.CallLemmas.ValueLaws.{same_base, attribute_is_shown, kept_attribute, stops_quiet, whole_value_sound, whole_value_again}
use Rattle.py_statement.proofs.CallLemmas.ValueListLaws.{values_sound, values_again}
use Rattle.py_statement.proofs.CallLemmas.MethodLaws.{attribute_read, attribute_again}
use Rattle.py_statement.proofs.CallLemmas.StartedLaws.{closed_start_sound, closed_start_again}
use Rattle.py_statement.proofs.CallLemmas.RightLaws.{right_sound, right_again}
use Rattle.py_statement.proofs.CallLemmas.WriteLaws.{whole_write_sound, whole_write_again, closed_write_sound, closed_write_again, right_no_write, argument_no_write}
use Rattle.py_statement.specs.Kept.{kept_logger, logged_as, kept_values, acting, kept_statement}
use Rattle.py_statement.specs.Words.{called_name, called_of, augmenting_at}
use Rattle.py_statement.specs.Reading.{one_value_of, first_of, is_word, assigned_to_of, assigned_value_of, assigned_of, augmented_of, logger_by, logger_of, logged_by, log_of, act_of, set_immediate_of, put_now_of, start_soon_of, method_by, called_statement_of, behind_by, behind_of, plain_of}
use Rattle.py_statement.specs.declared.method.Called.{Called}
use Rattle.py_statement.specs.declared.method.Called.TheVariants as called
use Rattle.py_statement.proofs.TreeLaws.{tree_whole, name_read, base_is_name, base_is_attribute, attributes_shown, word_is}
use Rattle.py_expression.proofs.AttributeLaws.{split_is}
use Rattle.py_expression.specs.Attributes.{split_of}
use Rattle.py_statement.proofs.TableLaws.{called_is, called_again, called_plain, quiet_assign, augmenting_at_is, quiet_mark}
use Rattle.py_statement.proofs.ListLaws.{one_value_sound, one_value_again, can_log_kept}

abbrev pub Found : ℕ → List Token → Statement × ℕ → Type 0
Found limit ts v = (s : Statement) × SpellsStatement s ts × (v ≡ kept_statement limit s)

-- ---- assignments

assign_name_sound : (limit : ℕ) (ts us : List Token) (x : Shown) (n : List ℕ) (v : Statement × ℕ) → primary_of limit ts ≡ Some (x, token.Operator operator.Assign ∷ us)
    → x.tree ≡ Name n → made (of_one (Assign n)) (right_of limit us) ≡ Some v → Found limit ts v
assign_name_sound limit ts us x n v h at k =
    let (w, a, b) = made_is (right_of limit us) (of_one (Assign n)) v k in
    let (s, sp, is) = right_sound limit us w a in
    (Assign n s, (us, name_read limit ts (token.Operator operator.Assign ∷ us) x n h at, sp), sym b ∙ ap (λ z. of_one (Assign n) z) is)

abbrev pub value_of_signal : List Token → List Token
value_of_signal us = token.Operator operator.Dot ∷ token.Name (codes "value") ∷ token.Operator operator.Assign ∷ us

assigned_to_sound : (limit : ℕ) (ts us : List Token) (t : Tree) (e : Tree × ℕ) (v : Statement × ℕ) → SpellsBefore t ts (value_of_signal us) → e ≡ kept limit t
    → assigned_to_of limit e us ≡ Some v → Found limit ts v
unfolding assigned_to_of
assigned_to_sound limit ts us t e v st low h = go (or_is (made (of_two AssignAction e) (whole_write_action_of limit us)) (made (of_two AssignValue e) (right_of limit us)) v h)
  where
    go : (made (of_two AssignAction e) (whole_write_action_of limit us) ≡ Some v)
        ⊎ ((made (of_two AssignAction e) (whole_write_action_of limit us) ≡ None) × (made (of_two AssignValue e) (right_of limit us) ≡ Some v)) → Found limit ts v
    go (inl k) =
        let (w, d, i) = made_is (whole_write_action_of limit us) (of_two AssignAction e) v k in
        let (a, sp, is) = whole_write_sound limit us w d in
        (AssignAction t a, (us, st, sp), sym i ∙ ap (λ z. of_two AssignAction z w) low ∙ ap (λ z. of_two AssignAction (kept limit t) z) is)
    go (inr (none, k)) =
        let (w, d, i) = made_is (right_of limit us) (of_two AssignValue e) v k in
        let (s, sp, is) = right_sound limit us w d in
        (AssignValue t s, (us, st, sp), sym i ∙ ap (λ z. of_two AssignValue z w) low ∙ ap (λ z. of_two AssignValue (kept limit t) z) is)

assign_value_sound : (limit : ℕ) (ts us : List Token) (x : Shown) (v : Statement × ℕ) → primary_of limit ts ≡ Some (x, token.Operator operator.Assign ∷ us)
    → assigned_value_of limit x.tree x.height us ≡ Some v → Found limit ts v
unfolding assigned_value_of
assign_value_sound limit ts us x v h k =
    let (y, a, b) = also_is (split_of x.tree) (λ z. if bytes_eq z.1 (codes "value") then assigned_to_of limit (lowered limit 1 z.0 x.height) us else None) v k in
    let (p, c) = when (bytes_eq y.1 (codes "value")) (assigned_to_of limit (lowered limit 1 y.0 x.height) us) v b in
    let at : x.tree ≡ Attribute y.0 (codes "value") = split_is x.tree y a ∙ ap (λ n. Attribute y.0 n) (bytes_are y.1 (codes "value") p) in
    let (t, st, l, low, same) = attribute_read limit ts (token.Operator operator.Assign ∷ us) x y.0 (codes "value") h at in
    assigned_to_sound limit ts us t (lowered limit 1 y.0 x.height) v (st, l) low c

assigned_sound : (limit : ℕ) (ts us : List Token) (x : Shown) (v : Statement × ℕ) → primary_of limit ts ≡ Some (x, token.Operator operator.Assign ∷ us)
    → assigned_of limit x.tree x.height us ≡ Some v → Found limit ts v
unfolding assigned_of after
assigned_sound limit ts us x v h k = go x.tree refl k
  where
    go : (t : Tree) → x.tree ≡ t → assigned_of limit t x.height us ≡ Some v → Found limit ts v
    go (Name n) q k2 = assign_name_sound limit ts us x n v h q k2
    go t q k2 = assign_value_sound limit ts us x v h (rw q k2)

augmented_sound : (limit : ℕ) (ts us : List Token) (x : Shown) (mark : Operator) (op : BinOp) (v : Statement × ℕ) → primary_of limit ts ≡ Some (x, token.Operator mark ∷ us)
    → augmenting mark ≡ Some op → augmented_of limit x.tree op us ≡ Some v → Found limit ts v
unfolding augmented_of after
augmented_sound limit ts us x mark op v h m k = go x.tree refl k
  where
    go : (t : Tree) → x.tree ≡ t → augmented_of limit t op us ≡ Some v → Found limit ts v
    go (Name n) q k2 =
        let (w, a, b) = made_is (whole_value_of limit us) (of_one (AugmentedAssign n op)) v k2 in
        let (e, s, is) = whole_value_sound limit us w a in
        (AugmentedAssign n op e, (mark, us, name_read limit ts (token.Operator mark ∷ us) x n h q, m, s), sym b ∙ ap (λ z. of_one (AugmentedAssign n op) z) is)
    go _ q k2 = absurd (not_some k2)

-- ---- calls

abbrev pub Called_at : ℕ → List Token → Shown → List ℕ → List Token → Tree → Type 0
Called_at limit ts x n us b = (primary_of limit ts ≡ Some (x, token.Open bracket.Round ∷ us)) × (x.tree ≡ Attribute b n)

act_sound : (limit : ℕ) (ts us : List Token) (x : Shown) (b : Tree) (a : Action) (v : Statement × ℕ) → Called_at limit ts x (action_name a) us b → act_of limit b x.height a us ≡ Some v → Found limit ts v
unfolding act_of after
act_sound limit ts us x b a v (h, at) k =
    let (u, c, d) = made_is (also (after_close us) end_of) (λ _. of_one (acting a) (lowered limit 1 b x.height)) v k in
    let (vs, e, f) = also_is (after_close us) end_of u c in
    let (t, st, l, low, same) = attribute_read limit ts (token.Open bracket.Round ∷ us) x b (action_name a) h at in
    let close : us ≡ token.Close bracket.Round ∷ [] = after_close_is us vs e ∙ ap (λ ws. token.Close bracket.Round ∷ ws) (end_is vs u f) in
    (Act t a, (subst (λ ws. Spells t ts (method_tokens (action_name a) ws)) close st, l), sym d ∙ ap (λ z. of_one (acting a) z) low)

immediate_to_sound : (limit : ℕ) (ts us : List Token) (t : Tree) (e : Tree × ℕ) (v : Statement × ℕ) → SpellsBefore t ts (method_tokens (codes "setimmediatevalue") us) → e ≡ kept limit t
    → set_immediate_of limit e us ≡ Some v → Found limit ts v
unfolding set_immediate_of
immediate_to_sound limit ts us t e v st low h = go (or_is (made (of_two SetImmediateAction e) (closed_write_action_of limit us)) (made (of_two SetImmediateValue e) (one_value_of limit us)) v h)
  where
    go : (made (of_two SetImmediateAction e) (closed_write_action_of limit us) ≡ Some v)
        ⊎ ((made (of_two SetImmediateAction e) (closed_write_action_of limit us) ≡ None) × (made (of_two SetImmediateValue e) (one_value_of limit us) ≡ Some v)) → Found limit ts v
    go (inl k) =
        let (w, d, i) = made_is (closed_write_action_of limit us) (of_two SetImmediateAction e) v k in
        let (a, vs, sp, closes, is) = closed_write_sound limit us w d in
        (SetImmediateAction t a, (us, vs, st, sp, closes), sym i ∙ ap (λ z. of_two SetImmediateAction z w) low ∙ ap (λ z. of_two SetImmediateAction (kept limit t) z) is)
    go (inr (none, k)) =
        let (w, d, i) = made_is (one_value_of limit us) (of_two SetImmediateValue e) v k in
        let (x, s, is) = one_value_sound limit us w d in
        (SetImmediateValue t x, (us, st, s), sym i ∙ ap (λ z. of_two SetImmediateValue z w) low ∙ ap (λ z. of_two SetImmediateValue (kept limit t) z) is)

immediate_sound : (limit : ℕ) (ts us : List Token) (x : Shown) (b : Tree) (v : Statement × ℕ) → Called_at limit ts x (codes "setimmediatevalue") us b
    → set_immediate_of limit (lowered limit 1 b x.height) us ≡ Some v → Found limit ts v
immediate_sound limit ts us x b v (h, at) k =
    let (t, st, l, low, same) = attribute_read limit ts (token.Open bracket.Round ∷ us) x b (codes "setimmediatevalue") h at in
    immediate_to_sound limit ts us t (lowered limit 1 b x.height) v (st, l) low k

put_now_sound : (limit : ℕ) (ts us : List Token) (x : Shown) (b : Tree) (v : Statement × ℕ) → Called_at limit ts x (codes "put_nowait") us b
    → put_now_of limit (lowered limit 1 b x.height) us ≡ Some v → Found limit ts v
unfolding put_now_of
put_now_sound limit ts us x b v (h, at) k =
    let (w, c, d) = made_is (one_value_of limit us) (of_two PutNow (lowered limit 1 b x.height)) v k in
    let (e, s, is) = one_value_sound limit us w c in
    let (t, st, l, low, same) = attribute_read limit ts (token.Open bracket.Round ∷ us) x b (codes "put_nowait") h at in
    (PutNow t e, (us, (st, l), s), sym d ∙ ap (λ z. of_two PutNow z w) low ∙ ap (λ z. of_two PutNow (kept limit t) z) is)

start_sound : (limit : ℕ) (ts us : List Token) (x : Shown) (b : Tree) (v : Statement × ℕ) → Called_at limit ts x (codes "start_soon") us b → start_soon_of limit b us ≡ Some v → Found limit ts v
unfolding start_soon_of Spells
start_sound limit ts us x b v (h, at) k =
    let (p, c) = when (is_word (codes "cocotb") b) (made (of_one StartSoon) (closed_start_of limit us)) v k in
    let (w, d, e) = made_is (closed_start_of limit us) (of_one StartSoon) v c in
    let (f, vs, s, closes, is) = closed_start_sound limit us w d in
    let (t, st, l, low, same) = attribute_read limit ts (token.Open bracket.Round ∷ us) x b (codes "start_soon") h at in
    let word : t ≡ Name (codes "cocotb") = base_is_name limit t (codes "start_soon") (codes "cocotb")
    (ap (λ (y : Shown). y.tree) (sym same) ∙ at ∙ ap (λ c2. Attribute c2 (codes "start_soon")) (word_is (codes "cocotb") b p)) in
    (StartSoon f, (us, vs, subst (λ c2. Spells c2 ts (method_tokens (codes "start_soon") us)) word st, s, closes), sym e ∙ ap (λ z. of_one StartSoon z) is)

logger_sound : (limit : ℕ) (ts us : List Token) (x : Shown) (b : Tree) (n : List ℕ) (g : Logger × ℕ) → Called_at limit ts x n us b → logger_of limit b x.height ≡ Some g
    → (l : Logger) × SpellsLogger l ts (method_tokens n us) × (g ≡ kept_logger limit l)
unfolding logger_of Spells after
logger_sound limit ts us x b n g (h, at) k =
    let (y, c, d) = also_is (split_of b) (λ z. logger_by limit z.0 z.1 x.height) g k in
    let (t, st, l, low, same) = attribute_read limit ts (token.Open bracket.Round ∷ us) x b n h at in
    let both : (shown limit (Attribute t n)).tree ≡ Attribute (Attribute y.0 y.1) n = ap (λ (z : Shown). z.tree) (sym same) ∙ at ∙ ap (λ c2. Attribute c2 n) (split_is b y c) in
    let (f, is, kept_f, named) = base_is_attribute limit t y.0 n y.1 both in
    let (vs, sf, lf, eq) = subst (λ c2. Spells c2 ts (method_tokens n us)) is st in
    go y f sf lf eq (ap (λ (z : Shown). lowered limit 2 y.0 z.height) same ∙ kept_f) named (bytes_eq y.1 (codes "_log")) refl d
  where
    go : (y : Tree × List ℕ) (f : Tree) {vs : List Token} → Spells f ts vs → level f ≡ 12 → vs ≡ token.Operator operator.Dot ∷ token.Name y.1 ∷ method_tokens n us
        → lowered limit 2 y.0 x.height ≡ kept limit f → ((w : List ℕ) → y.0 ≡ Name w → f ≡ Name w) → (q : Bool) → bytes_eq y.1 (codes "_log") ≡ q
        → (if q then Some (of_one HierarchyLog (lowered limit 2 y.0 x.height)) else (if bytes_eq y.1 (codes "log") && is_word (codes "cocotb") y.0 then Some (CocotbLog, 0) else None)) ≡ Some g
        → (l : Logger) × SpellsLogger l ts (method_tokens n us) × (g ≡ kept_logger limit l)
    go y f sf lf eq low named true q d = (
      HierarchyLog f,
      (subst (λ ws. Spells f ts ws) (eq ∙ ap (λ m. token.Operator operator.Dot ∷ token.Name m ∷ method_tokens n us) (bytes_are y.1 (codes "_log") q)) sf, lf),
      sym (some_same d) ∙ ap (λ z. of_one HierarchyLog z) low,
    )
    go y f sf lf eq low named false q d =
        let (p, e) = choice_is (bytes_eq y.1 (codes "log") && is_word (codes "cocotb") y.0) (CocotbLog, 0) g d in
        let (p1, p2) = and_is (bytes_eq y.1 (codes "log")) (is_word (codes "cocotb") y.0) p in (
          CocotbLog,
          subst (λ c. Spells c ts (token.Operator operator.Dot ∷ token.Name (codes "log") ∷ method_tokens n us)) (named (codes "cocotb") (word_is (codes "cocotb") y.0 p2))
              (subst (λ ws. Spells f ts ws) (eq ∙ ap (λ m. token.Operator operator.Dot ∷ token.Name m ∷ method_tokens n us) (bytes_are y.1 (codes "log") p1)) sf),
          sym e,
        )

first_kept : (limit : ℕ) (es : List Tree) (y : Tree × List Tree) → first_of (kept_list (kept limit) es).0 ≡ Some y
    → (e : Tree) × (fs : List Tree) × (es ≡ e ∷ fs) × ((y, (kept_list (kept limit) es).1) ≡ kept_values limit e fs)
unfolding kept_list after
first_kept limit [] y h = absurd (not_some h)
first_kept limit (e ∷ fs) y h = (e, fs, refl, ap (λ (z : Tree × List Tree). (z, (kept_values limit e fs).1)) (sym (some_same h)))

log_sound : (limit : ℕ) (positive : 1 ≤ limit) (ts us : List Token) (x : Shown) (b : Tree) (l : LogLevel) (v : Statement × ℕ) → Called_at limit ts x (level_name l) us b → log_of limit b x.height l us ≡ Some v → Found limit ts v
unfolding log_of logged_by
log_sound limit positive ts us x b l v called k =
    let (g, a, c) = also_is (logger_of limit b x.height) (λ z. also (values_of limit us) (logged_by z l)) v k in
    let (y, d, e) = also_is (values_of limit us) (logged_by g l) v c in
    let (m, f, i) = also_is (first_of y.0.0) (λ z. if can_log z.0 z.1 then ended (of_two (logged_as l) g (z, y.0.1)) y.1 else None) v e in
    let (p, j) = when (can_log m.0 m.1) (ended (of_two (logged_as l) g (m, y.0.1)) y.1) v i in
    let (end, same) = ended_is (of_two (logged_as l) g (m, y.0.1)) v y.1 j in
    let (es, s, is) = values_sound limit us y.1 y.0 d in
    let (t, fs, list, both) = first_kept limit es m (ap (λ (z : List Tree × ℕ). first_of z.0) (sym is) ∙ f) in
    let (lg, sl, kl) = logger_sound limit ts us x b (level_name l) g called a in
    let kept_m : m ≡ ((kept limit t).0, (kept_list (kept limit) fs).0) = ap (λ (z : (Tree × List Tree) × ℕ). z.0) both in (
      Log lg l t fs,
      (
        us,
        sl,
        subst (λ ws. SpellsValues (t ∷ fs) us ws) end (subst (λ zs. SpellsValues zs us y.1) list s),
        sym (can_log_kept limit positive t fs) ∙ ap (λ (z : Tree × List Tree). can_log z.0 z.1) (sym kept_m) ∙ p,
      ),
      sym same ∙ ap (λ z. of_two (logged_as l) z (m, y.0.1)) kl
          ∙ ap (λ z. of_two (logged_as l) (kept_logger limit lg) z) (ap (λ (z : List Tree × ℕ). (m, z.1)) is ∙ both),
    )

called_sound : (limit : ℕ) (positive : 1 ≤ limit) (ts us : List Token) (x : Shown) (v : Statement × ℕ) → primary_of limit ts ≡ Some (x, token.Open bracket.Round ∷ us)
    → called_statement_of limit x.tree x.height us ≡ Some v → Found limit ts v
unfolding called_statement_of
called_sound limit positive ts us x v h k =
    let (y, a, b) = also_is (split_of x.tree) (λ z. also (called_of z.1) (λ m. method_by limit m z.0 x.height us)) v k in
    let (m, c, d) = also_is (called_of y.1) (λ j. method_by limit j y.0 x.height us) v b in
    go m y.0 (split_is x.tree y a ∙ ap (λ n. Attribute y.0 n) (called_is y.1 m c)) d
  where
    go : (m : Called) (b : Tree) → x.tree ≡ Attribute b (called_name m) → method_by limit m b x.height us ≡ Some v → Found limit ts v
    go (called.Act a) b at d = act_sound limit ts us x b a v (h, at) d
    go (called.Log l) b at d = log_sound limit positive ts us x b l v (h, at) d
    go called.SetImmediateValue b at d = immediate_sound limit ts us x b v (h, at) d
    go called.PutNow b at d = put_now_sound limit ts us x b v (h, at) d
    go called.StartSoon b at d = start_sound limit ts us x b v (h, at) d

-- ---- all of them

pub plain_sound : (limit : ℕ) (positive : 1 ≤ limit) (ts : List Token) (v : Statement × ℕ) → plain_of limit ts ≡ Some v → Found limit ts v
unfolding plain_of behind_of after
plain_sound limit positive ts v k =
    let (x, h, b) = also_is (primary_of limit ts) (behind_of limit) v k in
    go x h (after_assign x.1) refl (after_open x.1) refl (augmenting_at x.1) refl b
  where
    read : (x : Shown × List Token) (us : List Token) → primary_of limit ts ≡ Some x → x.1 ≡ us → primary_of limit ts ≡ Some (x.0, us)
    read x us h e = h ∙ ap (λ ws. Some (x.0, ws)) e

    go : (x : Shown × List Token) → primary_of limit ts ≡ Some x → (a : Option (List Token)) → after_assign x.1 ≡ a → (o : Option (List Token)) → after_open x.1 ≡ o
        → (m : Option (BinOp × List Token)) → augmenting_at x.1 ≡ m → behind_by limit x.0 a o m ≡ Some v → Found limit ts v
    go x h (Some us) qa o qo m qm b = assigned_sound limit ts us x.0 v (read x _ h (after_assign_is x.1 us qa)) b
    go x h None qa (Some us) qo m qm b = called_sound limit positive ts us x.0 v (read x _ h (after_open_is x.1 us qo)) b
    go x h None qa None qo (Some y) qm b =
        let (mark, e, is) = augmenting_at_is x.1 y qm in augmented_sound limit ts y.1 x.0 mark y.0 v (read x _ h e) is b
    go x h None qa None qo None qm b = absurd (not_some b)

-- ---- and back

primary_name : (limit : ℕ) (n : List ℕ) (rest : List Token) → Quiet rest → primary_of limit (token.Name n ∷ rest) ≡ Some (record { tree = Name n; height = 1 }, rest)
unfolding Spells level after
primary_name limit n rest q =
    primary_again limit (Name n) (token.Name n ∷ rest) rest refl (omega arith) (stops_quiet 12 (Name n) rest (omega arith) q) ∙ ap (λ (s : Shown). Some (s, rest)) (sym (shown_name limit n))

called_read : (limit : ℕ) (m : Called) (e : Tree) (ts us : List Token) → SpellsBefore e ts (method_tokens (called_name m) us)
    → primary_of limit ts ≡ Some (shown limit (Attribute e (called_name m)), token.Open bracket.Round ∷ us)
unfolding IsPlain
called_read limit m e ts us (s, l) = attribute_again limit e (called_name m) ts us s l (called_plain m)

-- behind a call of a method of e that is shown as b
method_again : (limit : ℕ) (m : Called) (e b : Tree) (us : List Token) → (shown limit (Attribute e (called_name m))).tree ≡ Attribute b (called_name m)
    → behind_of limit (shown limit (Attribute e (called_name m)), token.Open bracket.Round ∷ us) ≡ method_by limit m b (shown limit (Attribute e (called_name m))).height us
unfolding behind_of called_statement_of split_of after
method_again limit m e b us at = rw (at, called_again m)

assigned_again : (limit : ℕ) (e : Tree) (ts us : List Token) (v : Option (Statement × ℕ)) → SpellsBefore e ts (value_of_signal us) → assigned_to_of limit (kept limit e) us ≡ v → plain_of limit ts ≡ v
unfolding plain_of behind_of assigned_of assigned_value_of split_of Spells level after
assigned_again limit e ts us v (sp, l) h =
    let read = primary_again limit (Attribute e (codes "value")) ts (token.Operator operator.Assign ∷ us) (value_of_signal us, sp, l, refl) (omega arith)
    (stops_quiet 12 (Attribute e (codes "value")) (token.Operator operator.Assign ∷ us) (omega arith) (quiet_assign us)) in
    let (b, at) = attribute_is_shown limit e (codes "value") in
    rw (read, at, kept_attribute limit e (codes "value") b (codes "value") at) h

assign_value_again : (limit : ℕ) (e : Tree) (s : RightSide) (us : List Token) → SpellsRight s us → assigned_to_of limit (kept limit e) us ≡ Some (kept_statement limit (AssignValue e s))
unfolding assigned_to_of
assign_value_again limit e s us r = rw (right_no_write limit s us r, right_again limit s us r)

assign_action_again : (limit : ℕ) (e : Tree) (w : WriteAction) (us : List Token) → SpellsAction w us [] → assigned_to_of limit (kept limit e) us ≡ Some (kept_statement limit (AssignAction e w))
unfolding assigned_to_of
assign_action_again limit e w us s = rw (whole_write_again limit w us s)

plain_from : (limit : ℕ) (ts : List Token) (x : Shown × List Token) (v : Option (Statement × ℕ)) → primary_of limit ts ≡ Some x → behind_of limit x ≡ v → plain_of limit ts ≡ v
unfolding plain_of after
plain_from limit ts x v h k = rw h k

assign_name_again : (limit : ℕ) (n : List ℕ) (s : RightSide) (us : List Token) → SpellsRight s us
    → plain_of limit (token.Name n ∷ token.Operator operator.Assign ∷ us) ≡ Some (kept_statement limit (Assign n s))
unfolding behind_of assigned_of after
assign_name_again limit n s us r =
    plain_from limit _ _ _ (primary_name limit n (token.Operator operator.Assign ∷ us) (quiet_assign us)) (rw (right_again limit s us r))

augmented_again : (limit : ℕ) (n : List ℕ) (op : BinOp) (e : Tree) (mark : Operator) (us : List Token) → augmenting mark ≡ Some op → Spells e us []
    → plain_of limit (token.Name n ∷ token.Operator mark ∷ us) ≡ Some (kept_statement limit (AugmentedAssign n op e))
unfolding behind_of augmented_of after
augmented_again limit n op e mark us h s =
    let (quiet, none) = quiet_mark mark op us h in
    plain_from limit _ _ _ (primary_name limit n (token.Operator mark ∷ us) quiet) (rw (none, h, whole_value_again limit e us s))

act_again : (limit : ℕ) (e : Tree) (a : Action) (ts : List Token) → SpellsBefore e ts (method_tokens (action_name a) (token.Close bracket.Round ∷ [])) → plain_of limit ts ≡ Some (kept_statement limit (Act e a))
unfolding act_of after
act_again limit e a ts s =
    let (b, at) = attribute_is_shown limit e (action_name a) in
    plain_from limit _ _ _ (called_read limit (called.Act a) e ts (token.Close bracket.Round ∷ []) s)
    (method_again limit (called.Act a) e b (token.Close bracket.Round ∷ []) at ∙ ap (λ z. Some (of_one (acting a) z)) (kept_attribute limit e (action_name a) b (action_name a) at))

immediate_from : (limit : ℕ) (e : Tree) (ts us : List Token) (v : Option (Statement × ℕ)) → SpellsBefore e ts (method_tokens (codes "setimmediatevalue") us)
    → set_immediate_of limit (kept limit e) us ≡ v → plain_of limit ts ≡ v
unfolding after
immediate_from limit e ts us v s h =
    let (b, at) = attribute_is_shown limit e (codes "setimmediatevalue") in
    plain_from limit _ _ _ (called_read limit called.SetImmediateValue e ts us s)
    (method_again limit called.SetImmediateValue e b us at
    ∙ ap (λ z. set_immediate_of limit z us) (kept_attribute limit e (codes "setimmediatevalue") b (codes "setimmediatevalue") at) ∙ h)

set_value_again : (limit : ℕ) (e x : Tree) (us : List Token) → SpellsValues (x ∷ []) us [] → set_immediate_of limit (kept limit e) us ≡ Some (kept_statement limit (SetImmediateValue e x))
unfolding set_immediate_of
set_value_again limit e x us s = rw (argument_no_write limit x us s, one_value_again limit x us s)

set_action_again : (limit : ℕ) (e : Tree) (w : WriteAction) (us vs : List Token) → SpellsAction w us vs → Closes vs []
    → set_immediate_of limit (kept limit e) us ≡ Some (kept_statement limit (SetImmediateAction e w))
unfolding set_immediate_of
set_action_again limit e w us vs s closes = rw (closed_write_again limit w us vs s closes)

put_kept_again : (limit : ℕ) (e x : Tree) (us : List Token) → SpellsValues (x ∷ []) us [] → put_now_of limit (kept limit e) us ≡ Some (kept_statement limit (PutNow e x))
unfolding put_now_of
put_kept_again limit e x us s = rw (one_value_again limit x us s)

put_now_again : (limit : ℕ) (e x : Tree) (ts us : List Token) → SpellsBefore e ts (method_tokens (codes "put_nowait") us) → SpellsValues (x ∷ []) us []
    → plain_of limit ts ≡ Some (kept_statement limit (PutNow e x))
unfolding after
put_now_again limit e x ts us s values =
    let (b, at) = attribute_is_shown limit e (codes "put_nowait") in
    plain_from limit _ _ _ (called_read limit called.PutNow e ts us s)
    (method_again limit called.PutNow e b us at ∙ ap (λ z. put_now_of limit z us) (kept_attribute limit e (codes "put_nowait") b (codes "put_nowait") at) ∙ put_kept_again limit e x us values)

start_again : (limit : ℕ) (f : StartedCall) (ts us vs : List Token) → ts ≡ member_tokens (codes "cocotb") (codes "start_soon") us → SpellsStarted f us vs → Closes vs []
    → plain_of limit ts ≡ Some (kept_statement limit (StartSoon f))
unfolding start_soon_of Spells level height after
start_again limit f ts us vs e s closes =
    plain_from limit _ _ _ (called_read limit called.StartSoon (Name (codes "cocotb")) ts us (e, refl))
    (method_again limit called.StartSoon (Name (codes "cocotb")) (Name (codes "cocotb")) us (tree_whole limit (Attribute (Name (codes "cocotb")) (codes "start_soon")) (omega arith))
    ∙ rw (closed_start_again limit f us vs s closes))

log_from : (limit : ℕ) (positive : 1 ≤ limit) (b : Tree) (h : ℕ) (l : LogLevel) (e : Tree) (es : List Tree) (us : List Token) (g : Logger × ℕ) → logger_of limit b h ≡ Some g → SpellsValues (e ∷ es) us [] → can_log e es ≡ true
    → log_of limit b h l us ≡ Some (of_two (logged_as l) g (kept_values limit e es))
unfolding log_of logged_by kept_list after
log_from limit positive b h l e es us g lg s can = rw (lg, values_again limit (e ∷ es) us [] s, can_log_kept limit positive e es, can)

log_hierarchy_again : (limit : ℕ) (positive : 1 ≤ limit) (f : Tree) (l : LogLevel) (e : Tree) (es : List Tree) (ts us : List Token)
    → SpellsLogger (HierarchyLog f) ts (method_tokens (level_name l) us) → SpellsValues (e ∷ es) us [] → can_log e es ≡ true
    → plain_of limit ts ≡ Some (kept_statement limit (Log (HierarchyLog f) l e es))
unfolding logger_of split_of Spells level after
log_hierarchy_again limit positive f l e es ts us (sf, lf) s can =
    let (c, at) = attributes_shown limit f (codes "_log") (level_name l) in
    let (g, is, low, named) = base_is_attribute limit (Attribute f (codes "_log")) c (level_name l) (codes "_log") at in
    let same : g ≡ f = sym (same_base f g (codes "_log") (codes "_log") is) in
    plain_from limit _ _ _
    (called_read limit (called.Log l) (Attribute f (codes "_log")) ts us ((token.Operator operator.Dot ∷ token.Name (codes "_log") ∷ method_tokens (level_name l) us, sf, lf, refl), refl))
    (method_again limit (called.Log l) (Attribute f (codes "_log")) (Attribute c (codes "_log")) us at
    ∙ log_from limit positive (Attribute c (codes "_log")) _ l e es us _ refl s can
    ∙ ap (λ z. Some (of_two (logged_as l) (of_one HierarchyLog z) (kept_values limit e es))) (low ∙ ap (kept limit) same))

log_cocotb_again : (limit : ℕ) (positive : 1 ≤ limit) (l : LogLevel) (e : Tree) (es : List Tree) (ts us : List Token)
    → SpellsLogger CocotbLog ts (method_tokens (level_name l) us) → SpellsValues (e ∷ es) us [] → can_log e es ≡ true
    → plain_of limit ts ≡ Some (kept_statement limit (Log CocotbLog l e es))
unfolding logger_of split_of Spells level height after
log_cocotb_again limit positive l e es ts us sl s can =
    plain_from limit _ _ _
    (called_read limit (called.Log l) (Attribute (Name (codes "cocotb")) (codes "log")) ts us
    ((token.Operator operator.Dot ∷ token.Name (codes "log") ∷ method_tokens (level_name l) us, sl, refl, refl), refl))
    (method_again limit (called.Log l) (Attribute (Name (codes "cocotb")) (codes "log")) (Attribute (Name (codes "cocotb")) (codes "log")) us
    (tree_whole limit (Attribute (Attribute (Name (codes "cocotb")) (codes "log")) (level_name l)) (omega arith))
    ∙ log_from limit positive (Attribute (Name (codes "cocotb")) (codes "log")) _ l e es us (CocotbLog, 0) refl s can)

-- a statement that begins with an expression
abbrev pub BeginsPlain : Statement → Type 0
BeginsPlain (Assign n s) = Unit {0}
BeginsPlain (AugmentedAssign n op e) = Unit {0}
BeginsPlain (AssignValue e s) = Unit {0}
BeginsPlain (SetImmediateValue e v) = Unit {0}
BeginsPlain (Act e a) = Unit {0}
BeginsPlain (Log g l e es) = Unit {0}
BeginsPlain (StartSoon f) = Unit {0}
BeginsPlain (PutNow e x) = Unit {0}
BeginsPlain (AssignAction e w) = Unit {0}
BeginsPlain (SetImmediateAction e w) = Unit {0}
BeginsPlain Pass = ⊥
BeginsPlain Break = ⊥
BeginsPlain Continue = ⊥
BeginsPlain (Return s) = ⊥
BeginsPlain (Raise k e) = ⊥
BeginsPlain (Assert c e) = ⊥
BeginsPlain (Await a) = ⊥

pub plain_again : (limit : ℕ) (positive : 1 ≤ limit) (s : Statement) (ts : List Token) → BeginsPlain s → SpellsStatement s ts → plain_of limit ts ≡ Some (kept_statement limit s)
unfolding after
plain_again limit positive (Assign n s) ts p (us, e, r) = rw e (assign_name_again limit n s us r)
plain_again limit positive (AugmentedAssign n op x) ts p (mark, us, e, is, s) = rw e (augmented_again limit n op x mark us is s)
plain_again limit positive (AssignValue e s) ts p (us, sp, r) = assigned_again limit e ts us _ sp (assign_value_again limit e s us r)
plain_again limit positive (SetImmediateValue e v) ts p (us, s, values) = immediate_from limit e ts us _ s (set_value_again limit e v us values)
plain_again limit positive (Act e a) ts p s = act_again limit e a ts s
plain_again limit positive (Log CocotbLog l e es) ts p (us, sl, s, can) = log_cocotb_again limit positive l e es ts us sl s can
plain_again limit positive (Log (HierarchyLog f) l e es) ts p (us, sl, s, can) = log_hierarchy_again limit positive f l e es ts us sl s can
plain_again limit positive (StartSoon f) ts p (us, vs, e, s, closes) = start_again limit f ts us vs e s closes
plain_again limit positive (PutNow e x) ts p (us, s, values) = put_now_again limit e x ts us s values
plain_again limit positive (AssignAction e w) ts p (us, sp, a) = assigned_again limit e ts us _ sp (assign_action_again limit e w us a)
plain_again limit positive (SetImmediateAction e w) ts p (us, vs, s, a, closes) = immediate_from limit e ts us _ s (set_action_again limit e w us vs a closes)
plain_again limit positive Pass ts p s = absurd p
plain_again limit positive Break ts p s = absurd p
plain_again limit positive Continue ts p s = absurd p
plain_again limit positive (Return x) ts p s = absurd p
plain_again limit positive (Raise k e) ts p s = absurd p
plain_again limit positive (Assert c e) ts p s = absurd p
plain_again limit positive (Await a) ts p s = absurd p
