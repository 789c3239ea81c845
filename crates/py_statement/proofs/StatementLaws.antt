-- The laws of reading statements that begin with a reserved word.
use Rattle.std.proofs.Common.{◌≡◌, ℕ, List, [], ◌∷◌, Option, Some, None, refl, sym, ap, ◌∙◌, subst, arith, inl, inr}
use Rattle.py_syntax.specs.ExpressionTrees.{Tree}
use Rattle.py_syntax.specs.ExpressionSpells.{Spells}
use Rattle.py_syntax.specs.StatementTables.{fault_name}
use Rattle.py_syntax.specs.StatementTrees.{Awaited, RightSide, RightValue, RightAwait, RightStart, NewEvent, NewLock, RandomInt, NewQueue, GetNow, Statement, Return, Raise, Assert, Await}
use Rattle.py_syntax.specs.StatementForms.{SpellsRaised, SpellsMessage}
use Rattle.py_syntax.specs.CallForms.{SpellsAwaited, SpellsRight}
use Rattle.py_syntax.specs.declared.fault_kind.FaultKind.{FaultKind}
use Rattle.py_syntax.specs.declared.operator.Operator.TheVariants as operator
use Rattle.py_syntax.specs.declared.token.Token.{Token}
use Rattle.py_syntax.specs.declared.token.Token.TheVariants as token
use Rattle.py_expression.specs.Phrase.Marks.{after, after_open, after_comma}
use Rattle.py_expression.proofs.PhraseLemmas.Facts.{some_same, after_open_is, after_comma_is}
use Rattle.py_statement.specs.Call.Kept.{kept, of_one, of_two, kept_optional}
use Rattle.py_statement.specs.Call.Chosen.{made}
use Rattle.py_statement.specs.Call.Reading.{value_of, whole_value_of, awaited_of, right_of}
use Rattle.py_statement.proofs.CallLemmas.Chosen.{also_is, made_is, ended_is}
use Rattle.py_statement.proofs.CallLemmas.Lengths.{spells_length}
use Rattle.py_statement.proofs.CallLemmas.ArgumentLaws.{IsBehind}
use Rattle.py_statement.proofs.CallLemmas.ValueLaws.{value_sound, value_again, whole_value_sound, whole_value_again}
use Rattle.py_statement.proofs.CallLemmas.WordLaws.{end_behind}
use Rattle.py_statement.proofs.CallLemmas.AwaitedLaws.{awaited_sound, awaited_again}
use Rattle.py_statement.proofs.CallLemmas.RightLaws.{right_sound, right_again}
use Rattle.py_statement.specs.Kept.{kept_statement}
use Rattle.py_statement.specs.Words.{kind_at}
use Rattle.py_statement.specs.Reading.{only, return_of, one_value_of, raised_by, raised_of, raise_of, message_by, message_of, assert_of, await_of}
use Rattle.py_statement.proofs.TableLaws.{kind_at_is, kind_at_again}
use Rattle.py_statement.proofs.ListLaws.{one_value_sound, one_value_again}

pub only_sound : (s : Statement) (ts : List Token) (v : Statement × ℕ) → only s ts ≡ Some v → (ts ≡ []) × (v ≡ (s, 0))
unfolding only
only_sound s ts v h = let (end, same) = ended_is (s, 0) v ts h in (end, sym same)

pub only_again : (s : Statement) → only s [] ≡ Some (s, 0)
unfolding only after
only_again s = refl

-- ---- `return`

abbrev pub SpellsReturned : Option RightSide → List Token → Type 0
SpellsReturned None ts = ts ≡ []
SpellsReturned (Some s) ts = SpellsRight s ts

pub return_sound : (limit : ℕ) (ts : List Token) (v : Statement × ℕ) → return_of limit ts ≡ Some v → (s : Option RightSide) × SpellsReturned s ts × (v ≡ kept_statement limit (Return s))
unfolding return_of after
return_sound limit [] v h = (None, refl, sym (some_same h))
return_sound limit (t ∷ ts) v h =
    let (w, a, b) = made_is (right_of limit (t ∷ ts)) (of_one (λ s. Return (Some s))) v h in
    let (s, sp, k) = right_sound limit (t ∷ ts) w a in
    (Some s, sp, sym b ∙ ap (λ z. of_one (λ y. Return (Some y)) z) k)

no_side : (s : RightSide) → SpellsRight s [] → ⊥
no_side (RightValue e) s = let h = spells_length e [] [] s in absurd (omega arith)
no_side (RightAwait a) (us, e, s) = cc
no_side (RightStart f) (us, vs, e, s, closes) = cc
no_side NewEvent (inl e) = cc
no_side NewEvent (inr (text, us, e, closes)) = cc
no_side NewLock (inl e) = cc
no_side NewLock (inr (text, us, e, closes)) = cc
no_side (RandomInt a b) (us, e, s) = cc
no_side (NewQueue e) (us, eq, s) = cc
no_side (GetNow e) (us, s, l, eq) = let h = spells_length e [] us s in absurd (omega arith)

pub return_again : (limit : ℕ) (s : Option RightSide) (ts : List Token) → SpellsReturned s ts → return_of limit ts ≡ Some (kept_statement limit (Return s))
unfolding return_of after
return_again limit None ts e = rw e
return_again limit (Some s) [] sp = absurd (no_side s sp)
return_again limit (Some s) (t ∷ ts) sp = rw (right_again limit s (t ∷ ts) sp)

-- ---- `raise`

raised_sound : (limit : ℕ) (ts : List Token) (v : Option Tree × ℕ) → raised_of limit ts ≡ Some v → (e : Option Tree) × SpellsRaised e ts × (v ≡ kept_optional (kept limit) e)
unfolding raised_of after
raised_sound limit ts v h = go (after_open ts) refl h
  where
    go : (o : Option (List Token)) → after_open ts ≡ o → raised_by limit ts o ≡ Some v → (e : Option Tree) × SpellsRaised e ts × (v ≡ kept_optional (kept limit) e)
    go None q k = let (end, same) = ended_is (None, 0) v ts k in (None, end, sym same)
    go (Some us) q k =
        let (w, a, b) = made_is (one_value_of limit us) (of_one (λ e. Some e)) v k in
        let (e, s, is) = one_value_sound limit us w a in
        (Some e, (us, after_open_is ts us q, s), sym b ∙ ap (λ z. of_one (λ t. Some t) z) is)

raised_again : (limit : ℕ) (e : Option Tree) (ts : List Token) → SpellsRaised e ts → raised_of limit ts ≡ Some (kept_optional (kept limit) e)
unfolding raised_of after
raised_again limit None ts e = rw e
raised_again limit (Some e) ts (us, eq, s) = rw (eq, one_value_again limit e us s)

pub raise_sound : (limit : ℕ) (ts : List Token) (v : Statement × ℕ) → raise_of limit ts ≡ Some v
    → (k : FaultKind) × (e : Option Tree) × (us : List Token) × (ts ≡ token.Name (fault_name k) ∷ us) × SpellsRaised e us × (v ≡ kept_statement limit (Raise k e))
unfolding raise_of
raise_sound limit ts v h =
    let (x, a, b) = also_is (kind_at ts) (λ y. made (of_one (Raise y.0)) (raised_of limit y.1)) v h in
    let (w, c, d) = made_is (raised_of limit x.1) (of_one (Raise x.0)) v b in
    let (e, s, is) = raised_sound limit x.1 w c in
    (x.0, e, x.1, kind_at_is ts x a, s, sym d ∙ ap (λ z. of_one (Raise x.0) z) is)

pub raise_again : (limit : ℕ) (k : FaultKind) (e : Option Tree) (us : List Token) → SpellsRaised e us → raise_of limit (token.Name (fault_name k) ∷ us) ≡ Some (kept_statement limit (Raise k e))
unfolding raise_of after
raise_again limit k e us s = rw (kind_at_again k us, raised_again limit e us s)

-- ---- `assert`

message_sound : (limit : ℕ) (ts : List Token) (v : Option Tree × ℕ) → message_of limit ts ≡ Some v → (e : Option Tree) × SpellsMessage e ts × (v ≡ kept_optional (kept limit) e)
unfolding message_of after
message_sound limit ts v h = go (after_comma ts) refl h
  where
    go : (o : Option (List Token)) → after_comma ts ≡ o → message_by limit ts o ≡ Some v → (e : Option Tree) × SpellsMessage e ts × (v ≡ kept_optional (kept limit) e)
    go None q k = let (end, same) = ended_is (None, 0) v ts k in (None, end, sym same)
    go (Some us) q k =
        let (w, a, b) = made_is (whole_value_of limit us) (of_one (λ e. Some e)) v k in
        let (e, s, is) = whole_value_sound limit us w a in
        (Some e, (us, after_comma_is ts us q, s), sym b ∙ ap (λ z. of_one (λ t. Some t) z) is)

message_again : (limit : ℕ) (e : Option Tree) (ts : List Token) → SpellsMessage e ts → message_of limit ts ≡ Some (kept_optional (kept limit) e)
unfolding message_of after
message_again limit None ts e = rw e
message_again limit (Some e) ts (us, eq, s) = rw (eq, whole_value_again limit e us s)

message_behind : (e : Option Tree) (ts : List Token) → SpellsMessage e ts → IsBehind ts
unfolding after
message_behind None ts e = subst (λ us. IsBehind us) (sym e) (end_behind [] refl)
message_behind (Some e) ts (us, eq, s) = subst (λ us. IsBehind us) (sym eq) (end_behind (token.Operator operator.Comma ∷ us) refl)

pub assert_sound : (limit : ℕ) (ts : List Token) (v : Statement × ℕ) → assert_of limit ts ≡ Some v
    → (c : Tree) × (e : Option Tree) × (us : List Token) × Spells c ts us × SpellsMessage e us × (v ≡ kept_statement limit (Assert c e))
unfolding assert_of
assert_sound limit ts v h =
    let (x, a, b) = also_is (value_of limit ts) (λ y. made (of_two Assert y.0) (message_of limit y.1)) v h in
    let (w, c, d) = made_is (message_of limit x.1) (of_two Assert x.0) v b in
    let (t, s, k) = value_sound limit ts x.1 x.0 a in
    let (e, m, is) = message_sound limit x.1 w c in
    (t, e, x.1, s, m, sym d ∙ ap (λ z. of_two Assert z w) k ∙ ap (λ z. of_two Assert (kept limit t) z) is)

pub assert_again : (limit : ℕ) (c : Tree) (e : Option Tree) (ts us : List Token) → Spells c ts us → SpellsMessage e us → assert_of limit ts ≡ Some (kept_statement limit (Assert c e))
unfolding assert_of after
assert_again limit c e ts us s m = rw (value_again limit c ts us s (message_behind e us m).0, message_again limit e us m)

-- ---- `await`

pub await_sound : (limit : ℕ) (ts : List Token) (v : Statement × ℕ) → await_of limit ts ≡ Some v → (a : Awaited) × SpellsAwaited a ts × (v ≡ kept_statement limit (Await a))
unfolding await_of
await_sound limit ts v h =
    let (w, a, b) = made_is (awaited_of limit ts) (of_one Await) v h in
    let (x, s, k) = awaited_sound limit ts w a in
    (x, s, sym b ∙ ap (λ z. of_one Await z) k)

pub await_again : (limit : ℕ) (a : Awaited) (ts : List Token) → SpellsAwaited a ts → await_of limit ts ≡ Some (kept_statement limit (Await a))
unfolding await_of after
await_again limit a ts s = rw (awaited_again limit a ts s)
