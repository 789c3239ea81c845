-- The laws of reading writes that are no values, and where none stands.
use Rattle.std.proofs.Common.{◌≡◌, ℕ, List, [], ◌∷◌, Option, Some, None, refl, sym, ap, ◌∙◌, inl, inr, subst, false}
use Rattle.std.specs.Prelude.{codes}
use Rattle.std.specs.Str.{bytes_eq}
use Rattle.py_syntax.specs.ExpressionTrees.{Tree, Name}
use Rattle.py_syntax.specs.ExpressionTables.{function_of}
use Rattle.py_syntax.specs.ExpressionSpells.{Closes, Spells}
use Rattle.py_syntax.specs.StatementTrees.{RightSide, RightValue, RightAwait, RightStart, NewEvent, NewLock, RandomInt, NewQueue, GetNow, WriteAction, Force, Freeze, Release}
use Rattle.py_syntax.specs.CallForms.{call_tokens, SpellsValues, SpellsRight, SpellsAction}
use Rattle.py_syntax.specs.declared.operator.Bracket.TheVariants as bracket
use Rattle.py_syntax.specs.declared.token.Token.{Token}
use Rattle.py_syntax.specs.declared.token.Token.TheVariants as token
use Rattle.py_expression.specs.Ends.{IsPlain}
use Rattle.py_expression.specs.Phrase.Marks.{after, after_close}
use Rattle.py_expression.proofs.PhraseLemmas.Facts.{after_close_is}
use Rattle.py_statement.specs.Call.Kept.{of_one, kept_write_action}
use Rattle.py_statement.specs.Call.Chosen.{ended, closed}
use Rattle.py_statement.specs.Call.Words.{after_call}
use Rattle.py_statement.specs.Call.Reading.{only_value_of, as_force, bare, write_action_by, write_action_of, whole_write_action_of, closed_write_action_of}
use Rattle.py_statement.proofs.CallLemmas.Chosen.{not_some, also_is, made_is, ended_is, closed_is, closed_again}
use Rattle.py_statement.proofs.CallLemmas.ValueListLaws.{only_value_sound, only_value_again}
use Rattle.py_statement.proofs.CallLemmas.WordLaws.{after_call_is, no_rest}
use Rattle.py_statement.proofs.CallLemmas.AwaitedLaws.{fails, closes_behind}
use Rattle.py_statement.proofs.CallLemmas.RightLaws.{value_no_call, get_no_call}

bare_is : (w : WriteAction) (us rest : List Token) (v : WriteAction × ℕ) → bare w us ≡ Some (v, rest) → (us ≡ token.Close bracket.Round ∷ rest) × (v ≡ (w, 0))
unfolding after
bare_is w us rest v h =
    let (ws, a, b) = made_is (after_close us) (λ zs. ((w, 0), zs)) (v, rest) h in (
      after_close_is us ws a ∙ ap (λ (z : (WriteAction × ℕ) × List Token). token.Close bracket.Round ∷ z.1) b,
      sym (ap (λ (z : (WriteAction × ℕ) × List Token). z.0) b),
    )

abbrev pub FoundWrite : ℕ → List Token → List Token → WriteAction × ℕ → Type 0
FoundWrite limit ts rest v = (w : WriteAction) × SpellsAction w ts rest × (v ≡ kept_write_action limit w)

pub write_action_sound : (limit : ℕ) (ts rest : List Token) (v : WriteAction × ℕ) → write_action_of limit ts ≡ Some (v, rest) → (w : WriteAction) × SpellsAction w ts rest × (v ≡ kept_write_action limit w)
unfolding write_action_of after
write_action_sound limit ts rest v h = go (after_call (codes "Force") ts) (after_call (codes "Freeze") ts) (after_call (codes "Release") ts) refl refl refl h
  where
    go : (a b c : Option (List Token)) → after_call (codes "Force") ts ≡ a → after_call (codes "Freeze") ts ≡ b → after_call (codes "Release") ts ≡ c
        → write_action_by limit a b c ≡ Some (v, rest) → FoundWrite limit ts rest v
    go (Some us) b c qa qb qc k =
        let (x, d, e) = made_is (only_value_of limit us) as_force (v, rest) k in
        let (t, s, is) = only_value_sound limit us x.1 x.0 d in (
          Force t,
          (us, after_call_is (codes "Force") ts us qa, subst (λ ws. SpellsValues (t ∷ []) us ws) (ap (λ (z : (WriteAction × ℕ) × List Token). z.1) e) s),
          sym (ap (λ (z : (WriteAction × ℕ) × List Token). z.0) e) ∙ ap (λ z. of_one Force z) is,
        )
    go None (Some us) c qa qb qc k =
        let (close, same) = bare_is Freeze us rest v k in (Freeze, after_call_is (codes "Freeze") ts us qb ∙ ap (λ zs. call_tokens (codes "Freeze") zs) close, same)
    go None None (Some us) qa qb qc k =
        let (close, same) = bare_is Release us rest v k in (Release, after_call_is (codes "Release") ts us qc ∙ ap (λ zs. call_tokens (codes "Release") zs) close, same)
    go None None None qa qb qc k = absurd (not_some k)

pub write_action_again : (limit : ℕ) (w : WriteAction) (ts rest : List Token) → SpellsAction w ts rest → write_action_of limit ts ≡ Some (kept_write_action limit w, rest)
unfolding write_action_of after
write_action_again limit (Force e) ts rest (us, eq, s) = rw (eq, only_value_again limit e us rest s)
write_action_again limit Freeze ts rest eq = rw eq
write_action_again limit Release ts rest eq = rw eq

pub whole_write_sound : (limit : ℕ) (ts : List Token) (v : WriteAction × ℕ) → whole_write_action_of limit ts ≡ Some v → FoundWrite limit ts [] v
unfolding whole_write_action_of
whole_write_sound limit ts v h =
    let (x, a, b) = also_is (write_action_of limit ts) (λ y. ended y.0 y.1) v h in
    let (end, same) = ended_is x.0 v x.1 b in
    let (w, s, k) = write_action_sound limit ts x.1 x.0 a in
    (w, subst (λ us. SpellsAction w ts us) end s, sym same ∙ k)

pub whole_write_again : (limit : ℕ) (w : WriteAction) (ts : List Token) → SpellsAction w ts [] → whole_write_action_of limit ts ≡ Some (kept_write_action limit w)
unfolding whole_write_action_of
whole_write_again limit w ts s = rw (write_action_again limit w ts [] s)

pub closed_write_sound : (limit : ℕ) (ts : List Token) (v : WriteAction × ℕ) → closed_write_action_of limit ts ≡ Some v
    → (w : WriteAction) × (us : List Token) × SpellsAction w ts us × Closes us [] × (v ≡ kept_write_action limit w)
unfolding closed_write_action_of
closed_write_sound limit ts v h =
    let (x, a, b) = also_is (write_action_of limit ts) (λ y. closed y.0 y.1) v h in
    let (closes, same) = closed_is x.0 v x.1 b in
    let (w, s, k) = write_action_sound limit ts x.1 x.0 a in
    (w, x.1, s, closes, sym same ∙ k)

pub closed_write_again : (limit : ℕ) (w : WriteAction) (ts us : List Token) → SpellsAction w ts us → Closes us [] → closed_write_action_of limit ts ≡ Some (kept_write_action limit w)
unfolding closed_write_action_of
closed_write_again limit w ts us s closes = rw (write_action_again limit w ts us s) (closed_again (kept_write_action limit w) us closes)

-- ---- where none stands

no_write : (limit : ℕ) (ts : List Token) → after_call (codes "Force") ts ≡ None → after_call (codes "Freeze") ts ≡ None → after_call (codes "Release") ts ≡ None → write_action_of limit ts ≡ None
unfolding write_action_of after
no_write limit ts a b c = rw (a, b, c)

-- a name that begins no right side
pub record BeginsNone (name : List ℕ) : Type 0 where
  pub function : function_of name ≡ None
  pub event : bytes_eq (codes "Event") name ≡ false
  pub lock : bytes_eq (codes "Lock") name ≡ false
  pub queue : bytes_eq (codes "Queue") name ≡ false

right_no_call : (limit : ℕ) (name : List ℕ) (s : RightSide) (ts : List Token) → BeginsNone name → SpellsRight s ts → after_call name ts ≡ None
unfolding after
right_no_call limit name (RightValue e) ts n s = value_no_call limit name e ts n.function s
right_no_call limit name (RightAwait a) ts n (us, e, s) = rw e
right_no_call limit name (RightStart f) ts n (us, vs, e, s, closes) = rw e
right_no_call limit name NewEvent ts n (inl e) = rw (e, n.event)
right_no_call limit name NewEvent ts n (inr (text, us, e, closes)) = rw (e, n.event)
right_no_call limit name NewLock ts n (inl e) = rw (e, n.lock)
right_no_call limit name NewLock ts n (inr (text, us, e, closes)) = rw (e, n.lock)
right_no_call limit name (RandomInt a b) ts n (us, e, s) = rw e
right_no_call limit name (NewQueue e) ts n (us, eq, s) = rw (eq, n.queue)
right_no_call limit name (GetNow e) ts n (us, s, l, eq) = get_no_call name e ts n.function (subst (λ zs. Spells e ts zs) eq s) l

force_begins : BeginsNone (codes "Force")
unfolding function_of
force_begins = record { function = refl; event = refl; lock = refl; queue = refl }

freeze_begins : BeginsNone (codes "Freeze")
unfolding function_of
freeze_begins = record { function = refl; event = refl; lock = refl; queue = refl }

release_begins : BeginsNone (codes "Release")
unfolding function_of
release_begins = record { function = refl; event = refl; lock = refl; queue = refl }

-- a right side is no such write
pub right_no_write : (limit : ℕ) (s : RightSide) (ts : List Token) → SpellsRight s ts → whole_write_action_of limit ts ≡ None
unfolding whole_write_action_of
right_no_write limit s ts sp =
    rw (no_write limit ts (right_no_call limit (codes "Force") s ts force_begins sp) (right_no_call limit (codes "Freeze") s ts freeze_begins sp)
    (right_no_call limit (codes "Release") s ts release_begins sp))

closes_no_open : (us ws : List Token) → Closes us [] → us ≡ token.Open bracket.Round ∷ ws → ⊥
closes_no_open us ws (inl e) h = cc
closes_no_open us ws (inr e) h = cc

argument_no_call : (limit : ℕ) (name : List ℕ) (e : Tree) (ts : List Token) → function_of name ≡ None → SpellsValues (e ∷ []) ts [] → after_call name ts ≡ None
unfolding Spells IsPlain after
argument_no_call limit name e ts h (us, (vs, given, s), closes) =
    fails (after_call name ts) (λ ws k. no_rest limit (Name name) e ts ws us (after_call_is name ts ws k) h (subst (λ zs. Spells e zs us) (sym given) s)
    (closes_behind us [] closes).0 (closes_no_open us ws closes))

-- the value of an argument is no such write
pub argument_no_write : (limit : ℕ) (e : Tree) (ts : List Token) → SpellsValues (e ∷ []) ts [] → closed_write_action_of limit ts ≡ None
unfolding closed_write_action_of
argument_no_write limit e ts s =
    rw (no_write limit ts (argument_no_call limit (codes "Force") e ts force_begins.function s) (argument_no_call limit (codes "Freeze") e ts freeze_begins.function s)
    (argument_no_call limit (codes "Release") e ts release_begins.function s))
