-- The laws of reading what is awaited.
use Rattle.std.proofs.Common.{◌≡◌, ℕ, List, [], ◌∷◌, Option, Some, None, refl, sym, ap, ◌∙◌, ◌⊎◌, inl, inr, subst, true, false, Bool, if◌then◌else◌}
use Rattle.std.specs.Prelude.{codes}
use Rattle.std.specs.Str.{bytes_eq}
use Rattle.py_syntax.specs.ExpressionTrees.{Tree}
use Rattle.py_syntax.specs.ExpressionTables.{function_of, method_of}
use Rattle.py_syntax.specs.ExpressionSpells.{Closes, Spells}
use Rattle.py_syntax.specs.StatementTrees.{StartedCall, Timed, TimedValue, TimedCall, Awaited, AwaitedValue, AwaitedCall, AwaitedStart, WithTimeout}
use Rattle.py_syntax.specs.CallForms.{IsGivenBy, SpellsStarted, SpellsTimed, SpellsUnit, SpellsTimeout, SpellsStart, SpellsPrimary, IsNoPlainCall, SpellsAwaited}
use Rattle.py_syntax.specs.declared.operator.Operator.TheVariants as operator
use Rattle.py_syntax.specs.declared.token.Token.{Token}
use Rattle.py_syntax.specs.declared.token.Token.TheVariants as token
use Rattle.py_expression.specs.Phrase.Marks.{after, after_close, after_comma, after_last, after_assign, after_name, after_name_by, named_at}
use Rattle.py_expression.proofs.Starts.{starts}
use Rattle.py_expression.proofs.PhraseLemmas.Facts.{after_comma_is, named_at_is, bytes_are, bytes_same}
use Rattle.py_statement.specs.Call.Kept.{kept, of_one, of_two, kept_optional, kept_timed, timeout_of, kept_times, kept_awaited}
use Rattle.py_statement.specs.Call.Chosen.{also, made, ended, closed}
use Rattle.py_statement.specs.Call.Words.{after_call, after_member}
use Rattle.py_statement.specs.Call.Reading.{value_of, whole_primary_of, started_of, closed_start_of, awaited_start_of, before_comma, as_timed_value, as_timed_call, timed_value_of, timed_call_of, timed_of, unit_by, argument_comma, after_argument_comma, unit_of, times_of, with_timeout_of, awaited_call_of, awaited_value_of, timeout_or_call_of, calls_of, awaited_of}
use Rattle.py_statement.proofs.CallLemmas.Chosen.{not_some, also_is, made_is, or_is, ended_is, closed_is, closed_again, closes_again}
use Rattle.py_statement.proofs.CallLemmas.ArgumentLaws.{IsBehind}
use Rattle.py_statement.proofs.CallLemmas.ValueLaws.{value_sound, value_again, whole_primary_sound, whole_primary_again}
use Rattle.py_statement.proofs.CallLemmas.WordLaws.{after_call_is, after_member_is, closes_end, end_behind, no_value_call, no_value_member}
use Rattle.py_statement.proofs.CallLemmas.StartedLaws.{started_sound, started_again, closed_start_sound, closed_start_again}

comma_behind : (ts : List Token) → IsBehind (token.Operator operator.Comma ∷ ts)
unfolding after
comma_behind ts = end_behind (token.Operator operator.Comma ∷ ts) refl

pub closes_behind : (ts rest : List Token) → Closes ts rest → IsBehind ts
unfolding after
closes_behind ts rest h = end_behind ts (closes_end ts rest h)

-- a reading that fails, since nothing that it gives stands there
pub fails : {A : Type 0} (o : Option A) → ((x : A) → o ≡ Some x → ⊥) → o ≡ None
fails None h = refl
fails (Some x) h = absurd (h x refl)

-- ---- `cocotb.start(..)`

awaited_start_sound : (limit : ℕ) (ts : List Token) (v : Awaited × ℕ) → awaited_start_of limit ts ≡ Some v → (f : StartedCall) × SpellsStart (codes "start") f ts × (v ≡ kept_awaited limit (AwaitedStart f))
unfolding awaited_start_of after
awaited_start_sound limit ts v h =
    let (w, a, b) = made_is (also (after_member (codes "cocotb") (codes "start") ts) (closed_start_of limit)) (of_one AwaitedStart) v h in
    let (us, c, d) = also_is (after_member (codes "cocotb") (codes "start") ts) (closed_start_of limit) w a in
    let (f, vs, s, closes, k) = closed_start_sound limit us w d in
    (f, (us, vs, after_member_is (codes "cocotb") (codes "start") ts us c, s, closes), sym b ∙ ap (λ z. of_one AwaitedStart z) k)

awaited_start_again : (limit : ℕ) (f : StartedCall) (ts : List Token) → SpellsStart (codes "start") f ts → awaited_start_of limit ts ≡ Some (kept_awaited limit (AwaitedStart f))
unfolding awaited_start_of after
awaited_start_again limit f ts (us, vs, e, s, closes) = rw (e, closed_start_again limit f us vs s closes)

-- ---- the first argument of `with_timeout`

comma_is : {A : Type 0} (x y : A) (ts rest : List Token) → before_comma (x, ts) ≡ Some (y, rest) → (ts ≡ token.Operator operator.Comma ∷ rest) × (x ≡ y)
unfolding before_comma after
comma_is {A} x y ts rest h =
    let (us, a, b) = made_is (after_comma ts) (λ vs. (x, vs)) (y, rest) h in
    (after_comma_is ts us a ∙ ap (λ (z : A × List Token). token.Operator operator.Comma ∷ z.1) b, ap (λ (z : A × List Token). z.0) b)

timed_value_sound : (limit : ℕ) (ts rest : List Token) (v : Timed × ℕ) → timed_value_of limit ts ≡ Some (v, rest)
    → (e : Tree) × Spells e ts (token.Operator operator.Comma ∷ rest) × (v ≡ kept_timed limit (TimedValue e))
unfolding timed_value_of
timed_value_sound limit ts rest v h =
    let (w, a, b) = made_is (also (value_of limit ts) before_comma) as_timed_value (v, rest) h in
    let (x, c, d) = also_is (value_of limit ts) before_comma w a in
    let (comma, same) = comma_is x.0 w.0 x.1 w.1 d in
    let (e, s, k) = value_sound limit ts x.1 x.0 c in
    let rests : w.1 ≡ rest = ap (λ (z : (Timed × ℕ) × List Token). z.1) b in (
      e,
      subst (λ us. Spells e ts (token.Operator operator.Comma ∷ us)) rests (subst (λ us. Spells e ts us) comma s),
      sym (ap (λ (z : (Timed × ℕ) × List Token). z.0) b) ∙ ap (λ z. of_one TimedValue z) (sym same ∙ k),
    )

timed_value_again : (limit : ℕ) (e : Tree) (ts rest : List Token) → Spells e ts (token.Operator operator.Comma ∷ rest) → timed_value_of limit ts ≡ Some (kept_timed limit (TimedValue e), rest)
unfolding timed_value_of before_comma after
timed_value_again limit e ts rest s = rw (value_again limit e ts (token.Operator operator.Comma ∷ rest) s (comma_behind rest).0)

timed_call_sound : (limit : ℕ) (ts rest : List Token) (v : Timed × ℕ) → timed_call_of limit ts ≡ Some (v, rest)
    → (f : StartedCall) × SpellsStarted f ts (token.Operator operator.Comma ∷ rest) × (v ≡ kept_timed limit (TimedCall f))
unfolding timed_call_of
timed_call_sound limit ts rest v h =
    let (w, a, b) = made_is (also (started_of limit ts) before_comma) as_timed_call (v, rest) h in
    let (x, c, d) = also_is (started_of limit ts) before_comma w a in
    let (comma, same) = comma_is x.0 w.0 x.1 w.1 d in
    let (f, s, k) = started_sound limit ts x.1 x.0 c in
    let rests : w.1 ≡ rest = ap (λ (z : (Timed × ℕ) × List Token). z.1) b in (
      f,
      subst (λ us. SpellsStarted f ts (token.Operator operator.Comma ∷ us)) rests (subst (λ us. SpellsStarted f ts us) comma s),
      sym (ap (λ (z : (Timed × ℕ) × List Token). z.0) b) ∙ ap (λ z. of_one TimedCall z) (sym same ∙ k),
    )

timed_call_again : (limit : ℕ) (f : StartedCall) (ts rest : List Token) → SpellsStarted f ts (token.Operator operator.Comma ∷ rest) → timed_call_of limit ts ≡ Some (kept_timed limit (TimedCall f), rest)
unfolding timed_call_of before_comma after
timed_call_again limit f ts rest s = rw (started_again limit f ts (token.Operator operator.Comma ∷ rest) s refl)

some_none : {A : Type 0} {x : A} (o : Option A) → o ≡ None → o ≡ Some x → ⊥
some_none o a b = not_some (sym a ∙ b)

timed_sound : (limit : ℕ) (ts rest : List Token) (v : Timed × ℕ) → timed_of limit ts ≡ Some (v, rest) → (x : Timed) × SpellsTimed x ts rest × (v ≡ kept_timed limit x)
unfolding timed_of
timed_sound limit ts rest v h = go (or_is (timed_value_of limit ts) (timed_call_of limit ts) (v, rest) h)
  where
    go : (timed_value_of limit ts ≡ Some (v, rest)) ⊎ ((timed_value_of limit ts ≡ None) × (timed_call_of limit ts ≡ Some (v, rest))) → (x : Timed) × SpellsTimed x ts rest × (v ≡ kept_timed limit x)
    go (inl k) = let (e, s, same) = timed_value_sound limit ts rest v k in (TimedValue e, s, same)
    go (inr (none, k)) =
        let (f, s, same) = timed_call_sound limit ts rest v k in
        (TimedCall f, (s, λ e us t. some_none (timed_value_of limit ts) none (timed_value_again limit e ts us t)), same)

timed_again : (limit : ℕ) (x : Timed) (ts rest : List Token) → SpellsTimed x ts rest → timed_of limit ts ≡ Some (kept_timed limit x, rest)
unfolding timed_of
timed_again limit (TimedValue e) ts rest s = rw (timed_value_again limit e ts rest s)
timed_again limit (TimedCall f) ts rest (s, other) =
    let none : timed_value_of limit ts ≡ None = fails (timed_value_of limit ts) (λ y q. let (e, t, k) = timed_value_sound limit ts y.1 y.0 q in other e y.1 t) in
    rw (none, timed_call_again limit f ts rest s)

-- ---- the times of `with_timeout`

pub name_is : (name : List ℕ) (ts : List Token) → IsGivenBy None ts (after_name name ts) ⊎ IsGivenBy (Some name) ts (after_name name ts)
unfolding after
name_is name ts = go (named_at ts) refl
  where
    named : (x : List ℕ × List Token) → named_at ts ≡ Some x → (b : Bool) → bytes_eq x.0 name ≡ b
        → IsGivenBy None ts (if b then x.1 else ts) ⊎ IsGivenBy (Some name) ts (if b then x.1 else ts)
    named x q true k = inr (named_at_is ts x q ∙ ap (λ m. token.Name m ∷ token.Operator operator.Assign ∷ x.1) (bytes_are x.0 name k))
    named x q false k = inl refl

    go : (o : Option (List ℕ × List Token)) → named_at ts ≡ o → IsGivenBy None ts (after_name_by name ts o) ⊎ IsGivenBy (Some name) ts (after_name_by name ts o)
    go None q = inl refl
    go (Some x) q = named x q (bytes_eq x.0 name) refl

pub name_again : (name : List ℕ) (ts us rest : List Token) (e : Tree) → IsGivenBy None ts us ⊎ IsGivenBy (Some name) ts us → Spells e us rest → after_assign rest ≡ None
    → after_name name ts ≡ us
unfolding after
name_again name ts us rest e (inl g) s h = rw (g, (starts e us rest s).2 h)
name_again name ts us rest e (inr g) s h = rw (g, bytes_same name)

argument_comma_is : (ts us : List Token) → after_argument_comma ts ≡ Some us → ts ≡ token.Operator operator.Comma ∷ us
unfolding after_argument_comma after
argument_comma_is ts us h = go (after_last ts) h
  where
    go : (o : Option (List Token)) → argument_comma ts o ≡ Some us → ts ≡ token.Operator operator.Comma ∷ us
    go (Some vs) k = absurd (not_some k)
    go None k = after_comma_is ts us k

unit_sound : (limit : ℕ) (ts : List Token) (v : Option Tree × ℕ) → unit_of limit ts ≡ Some v → (u : Option Tree) × SpellsUnit u ts × (v ≡ kept_optional (kept limit) u)
unfolding unit_of after
unit_sound limit ts v h = go (after_argument_comma ts) refl h
  where
    go : (o : Option (List Token)) → after_argument_comma ts ≡ o → unit_by limit ts o ≡ Some v → (u : Option Tree) × SpellsUnit u ts × (v ≡ kept_optional (kept limit) u)
    go None q k = let (closes, same) = closed_is (None, 0) v ts k in (None, closes, sym same)
    go (Some us) q k =
        let (x, a, b) = also_is (value_of limit (after_name (codes "timeout_unit") us)) (λ y. closed (of_one (λ e. Some e) y.0) y.1) v k in
        let (closes, same) = closed_is (of_one (λ e. Some e) x.0) v x.1 b in
        let (e, s, is) = value_sound limit (after_name (codes "timeout_unit") us) x.1 x.0 a in (
          Some e,
          (us, after_name (codes "timeout_unit") us, x.1, argument_comma_is ts us q, name_is (codes "timeout_unit") us, s, closes),
          sym same ∙ ap (λ z. of_one (λ t. Some t) z) is,
        )

pub given_begins : (name : List ℕ) (e : Tree) (us vs ws : List Token) → IsGivenBy None us vs ⊎ IsGivenBy (Some name) us vs → Spells e vs ws → after_close us ≡ None
unfolding after
given_begins name e us vs ws (inl g) s = rw g (starts e vs ws s).0
given_begins name e us vs ws (inr g) s = rw g

unit_again : (limit : ℕ) (u : Option Tree) (ts : List Token) → SpellsUnit u ts → unit_of limit ts ≡ Some (kept_optional (kept limit) u)
unfolding unit_of after_argument_comma after
unit_again limit None ts closes = rw (closes_again ts [] closes) (closed_again (None, 0) ts closes)
unit_again limit (Some e) ts (us, vs, ws, comma, given, s, closes) =
    let is = closes_behind ws [] closes in
    rw (comma, given_begins (codes "timeout_unit") e us vs ws given s, name_again (codes "timeout_unit") us vs ws e given s is.1, value_again limit e vs ws s is.0) (closed_again (of_one (λ t. Some t) (kept limit e)) ws closes)

times_sound : (limit : ℕ) (ts : List Token) (v : (Tree × Option Tree) × ℕ) → times_of limit ts ≡ Some v
    → (e : Tree) × (u : Option Tree) × (us : List Token) × Spells e ts us × SpellsUnit u us × (v ≡ kept_times limit e u)
unfolding times_of
times_sound limit ts v h =
    let (x, a, b) = also_is (value_of limit ts) (λ y. made (of_two (λ t w. (t, w)) y.0) (unit_of limit y.1)) v h in
    let (w, c, d) = made_is (unit_of limit x.1) (of_two (λ t z. (t, z)) x.0) v b in
    let (e, s, k) = value_sound limit ts x.1 x.0 a in
    let (u, t, l) = unit_sound limit x.1 w c in
    (e, u, x.1, s, t, sym d ∙ ap (λ y. of_two (λ t z. (t, z)) y w) k ∙ ap (λ y. of_two (λ t z. (t, z)) (kept limit e) y) l)

unit_behind : (u : Option Tree) (ts : List Token) → SpellsUnit u ts → IsBehind ts
unfolding after
unit_behind None ts closes = closes_behind ts [] closes
unit_behind (Some e) ts (us, vs, ws, comma, given, s, closes) = subst (λ zs. IsBehind zs) (sym comma) (comma_behind us)

times_again : (limit : ℕ) (e : Tree) (u : Option Tree) (ts us : List Token) → Spells e ts us → SpellsUnit u us → times_of limit ts ≡ Some (kept_times limit e u)
unfolding times_of
times_again limit e u ts us s t = rw (value_again limit e ts us s (unit_behind u us t).0, unit_again limit u us t)

with_timeout_sound : (limit : ℕ) (ts : List Token) (v : Awaited × ℕ) → with_timeout_of limit ts ≡ Some v
    → (x : Timed) × (e : Tree) × (u : Option Tree) × SpellsTimeout x e u ts × (v ≡ kept_awaited limit (WithTimeout x e u))
unfolding with_timeout_of after
with_timeout_sound limit ts v h =
    let (us, a, b) = also_is (after_call (codes "with_timeout") ts) (λ ws. also (timed_of limit ws) (λ y. made (of_two timeout_of y.0) (times_of limit y.1))) v h in
    let (y, c, d) = also_is (timed_of limit us) (λ z. made (of_two timeout_of z.0) (times_of limit z.1)) v b in
    let (w, i, j) = made_is (times_of limit y.1) (of_two timeout_of y.0) v d in
    let (x, s, k) = timed_sound limit us y.1 y.0 c in
    let (e, u, vs, t, r, l) = times_sound limit y.1 w i in (
      x,
      e,
      u,
      (us, y.1, vs, after_call_is (codes "with_timeout") ts us a, s, t, r),
      sym j ∙ ap (λ z. of_two timeout_of z w) k ∙ ap (λ z. of_two timeout_of (kept_timed limit x) z) l,
    )

with_timeout_again : (limit : ℕ) (x : Timed) (e : Tree) (u : Option Tree) (ts : List Token) → SpellsTimeout x e u ts → with_timeout_of limit ts ≡ Some (kept_awaited limit (WithTimeout x e u))
unfolding with_timeout_of after
with_timeout_again limit x e u ts (us, vs, ws, eq, s, t, r) = rw (eq, timed_again limit x us vs s, times_again limit e u vs ws t r)

-- ---- all forms

awaited_call_sound : (limit : ℕ) (ts : List Token) (v : Awaited × ℕ) → awaited_call_of limit ts ≡ Some v → (f : StartedCall) × SpellsStarted f ts [] × (v ≡ kept_awaited limit (AwaitedCall f))
unfolding awaited_call_of
awaited_call_sound limit ts v h =
    let (w, a, b) = made_is (also (started_of limit ts) (λ x. ended x.0 x.1)) (of_one AwaitedCall) v h in
    let (x, c, d) = also_is (started_of limit ts) (λ y. ended y.0 y.1) w a in
    let (end, same) = ended_is x.0 w x.1 d in
    let (f, s, k) = started_sound limit ts x.1 x.0 c in
    (f, subst (λ us. SpellsStarted f ts us) end s, sym b ∙ ap (λ z. of_one AwaitedCall z) (sym same ∙ k))

awaited_call_again : (limit : ℕ) (f : StartedCall) (ts : List Token) → SpellsStarted f ts [] → awaited_call_of limit ts ≡ Some (kept_awaited limit (AwaitedCall f))
unfolding awaited_call_of
awaited_call_again limit f ts s = rw (started_again limit f ts [] s refl)

awaited_value_sound : (limit : ℕ) (ts : List Token) (v : Awaited × ℕ) → awaited_value_of limit ts ≡ Some v → (e : Tree) × SpellsPrimary e ts × (v ≡ kept_awaited limit (AwaitedValue e))
unfolding awaited_value_of
awaited_value_sound limit ts v h =
    let (w, a, b) = made_is (whole_primary_of limit ts) (of_one AwaitedValue) v h in
    let (e, s, k) = whole_primary_sound limit ts w a in
    (e, s, sym b ∙ ap (λ z. of_one AwaitedValue z) k)

awaited_value_again : (limit : ℕ) (e : Tree) (ts : List Token) → SpellsPrimary e ts → awaited_value_of limit ts ≡ Some (kept_awaited limit (AwaitedValue e))
unfolding awaited_value_of
awaited_value_again limit e ts s = rw (whole_primary_again limit e ts s)

start_no_value : (limit : ℕ) (f : StartedCall) (ts : List Token) → SpellsStart (codes "start") f ts → awaited_value_of limit ts ≡ None
unfolding method_of
start_no_value limit f ts (us, vs, eq, s, closes) =
    fails (awaited_value_of limit ts) (λ v h. let (e, (sp, l), k) = awaited_value_sound limit ts v h in
    no_value_member limit (codes "cocotb") (codes "start") us e refl (subst (λ ws. Spells e ws []) eq sp))

timeout_no_value : (limit : ℕ) (x : Timed) (e : Tree) (u : Option Tree) (ts : List Token) → SpellsTimeout x e u ts → awaited_value_of limit ts ≡ None
unfolding function_of
timeout_no_value limit x e u ts (us, vs, ws, eq, s, t, r) =
    fails (awaited_value_of limit ts) (λ v h. let (f, (sp, l), k) = awaited_value_sound limit ts v h in
    no_value_call limit (codes "with_timeout") us f refl (subst (λ zs. Spells f zs []) eq sp))

timeout_no_start : (limit : ℕ) (x : Timed) (e : Tree) (u : Option Tree) (ts : List Token) → SpellsTimeout x e u ts → awaited_start_of limit ts ≡ None
unfolding awaited_start_of after
timeout_no_start limit x e u ts (us, vs, ws, eq, s, t, r) = rw eq

pub awaited_sound : (limit : ℕ) (ts : List Token) (v : Awaited × ℕ) → awaited_of limit ts ≡ Some v → (a : Awaited) × SpellsAwaited a ts × (v ≡ kept_awaited limit a)
unfolding awaited_of calls_of timeout_or_call_of
awaited_sound limit ts v h = first (or_is (awaited_value_of limit ts) (calls_of limit ts) v h)
  where
    third : awaited_value_of limit ts ≡ None → awaited_start_of limit ts ≡ None → (with_timeout_of limit ts ≡ Some v) ⊎ ((with_timeout_of limit ts ≡ None) × (awaited_call_of limit ts ≡ Some v))
        → (a : Awaited) × SpellsAwaited a ts × (v ≡ kept_awaited limit a)
    third a b (inl k) = let (x, e, u, s, same) = with_timeout_sound limit ts v k in (WithTimeout x e u, s, same)
    third a b (inr (c, k)) = let (f, s, same) = awaited_call_sound limit ts v k in (AwaitedCall f, (s, plain), same)
      where
        plain : IsNoPlainCall ts → ⊥
        plain (inl (e, t)) = some_none (awaited_value_of limit ts) a (awaited_value_again limit e ts t)
        plain (inr (inl (f, t))) = some_none (awaited_start_of limit ts) b (awaited_start_again limit f ts t)
        plain (inr (inr (x, e, u, t))) = some_none (with_timeout_of limit ts) c (with_timeout_again limit x e u ts t)

    second : awaited_value_of limit ts ≡ None → (awaited_start_of limit ts ≡ Some v) ⊎ ((awaited_start_of limit ts ≡ None) × (timeout_or_call_of limit ts ≡ Some v))
        → (a : Awaited) × SpellsAwaited a ts × (v ≡ kept_awaited limit a)
    second a (inl k) = let (f, s, same) = awaited_start_sound limit ts v k in (AwaitedStart f, s, same)
    second a (inr (b, k)) = third a b (or_is (with_timeout_of limit ts) (awaited_call_of limit ts) v k)

    first : (awaited_value_of limit ts ≡ Some v) ⊎ ((awaited_value_of limit ts ≡ None) × (calls_of limit ts ≡ Some v)) → (a : Awaited) × SpellsAwaited a ts × (v ≡ kept_awaited limit a)
    first (inl k) = let (e, s, same) = awaited_value_sound limit ts v k in (AwaitedValue e, s, same)
    first (inr (a, k)) = second a (or_is (awaited_start_of limit ts) (timeout_or_call_of limit ts) v k)

pub awaited_again : (limit : ℕ) (a : Awaited) (ts : List Token) → SpellsAwaited a ts → awaited_of limit ts ≡ Some (kept_awaited limit a)
unfolding awaited_of calls_of timeout_or_call_of
awaited_again limit (AwaitedValue e) ts s = rw (awaited_value_again limit e ts s)
awaited_again limit (AwaitedStart f) ts s = rw (start_no_value limit f ts s, awaited_start_again limit f ts s)
awaited_again limit (WithTimeout x e u) ts s = rw (timeout_no_value limit x e u ts s, timeout_no_start limit x e u ts s, with_timeout_again limit x e u ts s)
awaited_again limit (AwaitedCall f) ts (s, plain) =
    let a : awaited_value_of limit ts ≡ None = fails (awaited_value_of limit ts) (λ v h. let (e, t, k) = awaited_value_sound limit ts v h in plain (inl (e, t))) in
    let b : awaited_start_of limit ts ≡ None = fails (awaited_start_of limit ts) (λ v h. let (g, t, k) = awaited_start_sound limit ts v h in plain (inr (inl (g, t)))) in
    let c : with_timeout_of limit ts ≡ None = fails (with_timeout_of limit ts) (λ v h. let (x, e, u, t, k) = with_timeout_sound limit ts v h in plain (inr (inr (x, e, u, t)))) in
    rw (a, b, c, awaited_call_again limit f ts s)
