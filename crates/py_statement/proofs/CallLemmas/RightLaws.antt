-- The laws of reading right sides.
use Rattle.std.proofs.Common.{◌≡◌, ℕ, max, arith, List, [], ◌∷◌, Option, Some, None, refl, sym, ap, ◌∙◌, ◌⊎◌, inl, inr, subst, true, false}
use Rattle.std.specs.Prelude.{codes}
use Rattle.std.specs.Str.{bytes_eq}
use Rattle.py_syntax.specs.ExpressionTrees.{Tree, Attribute}
use Rattle.py_syntax.specs.ExpressionTables.{function_of, method_of}
use Rattle.py_syntax.specs.ExpressionSpells.{level, Closes, Spells}
use Rattle.py_syntax.specs.StatementTrees.{RightSide, RightValue, RightAwait, RightStart, NewEvent, NewLock, RandomInt, NewQueue, GetNow}
use Rattle.py_syntax.specs.CallForms.{call_tokens, method_tokens, SpellsValues, SpellsNew, SpellsBound, SpellsRight}
use Rattle.py_syntax.specs.declared.keyword.Keyword.TheVariants as keyword
use Rattle.py_syntax.specs.declared.operator.Bracket.TheVariants as bracket
use Rattle.py_syntax.specs.declared.token.Token.{Token}
use Rattle.py_syntax.specs.declared.token.Token.TheVariants as token
use Rattle.py_expression.specs.Ends.{starts_expression, IsPlain}
use Rattle.py_expression.proofs.Starts.{begins}
use Rattle.py_expression.proofs.PhraseLemmas.Facts.{some_same, after_close_is, after_last_is, bytes_are}
use Rattle.py_statement.specs.Call.Kept.{kept, of_one, kept_optional, kept_list, kept_right}
use Rattle.py_expression.specs.Phrase.Marks.{after, after_close, after_name, end_of}
use Rattle.py_statement.specs.Call.Chosen.{also, ended, closed}
use Rattle.py_statement.specs.Call.Words.{after_call, after_member, after_text, after_await}
use Rattle.py_statement.specs.Call.Reading.{value_of, values_of, whole_value_of, method_at, closed_start_of, awaited_of, new_by, after_new, new_of, two_of, random_int_of, start_soon_of, right_value_of, bound_by, bound_of, queue_of, get_now_by, get_now_of, value_or_get_of, new_object_by, object_or_value_of, right_by, call_or_value_of, await_by, right_of}
use Rattle.py_statement.proofs.CallLemmas.Chosen.{not_some, also_is, made_is, or_is, end_is, ended_is, closed_is, closed_again, closes_again, when}
use Rattle.py_statement.proofs.CallLemmas.ValueLaws.{value_sound, value_again, whole_value_sound, whole_value_again}
use Rattle.py_statement.proofs.CallLemmas.ValueListLaws.{values_sound, values_again}
use Rattle.py_statement.proofs.CallLemmas.WordLaws.{after_call_is, after_member_is, after_text_is, after_await_is, no_other, no_value_call, no_value_member, no_method_call, no_method_member}
use Rattle.py_statement.proofs.CallLemmas.MethodLaws.{method_sound, method_again}
use Rattle.py_statement.proofs.CallLemmas.StartedLaws.{closed_start_sound, closed_start_again}
use Rattle.py_statement.proofs.CallLemmas.AwaitedLaws.{fails, closes_behind, name_is, name_again, given_begins, awaited_sound, awaited_again}

-- ---- a new event or lock

abbrev pub NewEnds : List Token → Type 0
NewEnds ts = (ts ≡ token.Close bracket.Round ∷ []) ⊎ ((text : List ℕ) × (us : List Token) × (ts ≡ token.Text text ∷ us) × Closes us [])

new_sound : (s : RightSide) (ts : List Token) (v : RightSide × ℕ) → new_of s ts ≡ Some v → NewEnds ts × (v ≡ (s, 0))
unfolding new_of after_new
new_sound s ts v h =
    let (u, a, b) = made_is (also (after_new ts) end_of) (λ _. (s, 0)) v h in
    let (us, c, d) = also_is (after_new ts) end_of u a in
    (go (after_text ts) refl us (end_is us u d) c, sym b)
  where
    go : (o : Option (List Token)) → after_text ts ≡ o → (us : List Token) → us ≡ [] → new_by ts o ≡ Some us → NewEnds ts
    go (Some ws) q us e k =
        let (text, is) = after_text_is ts ws q in inr (text, ws, is, subst (λ zs. Closes ws zs) e (after_last_is ws us k))
    go None q us e k = inl (after_close_is ts us k ∙ ap (λ zs. token.Close bracket.Round ∷ zs) e)

new_spells : (name : List ℕ) (ts us : List Token) → ts ≡ call_tokens name us → NewEnds us → SpellsNew name ts
new_spells name ts us e (inl h) = inl (e ∙ ap (λ zs. call_tokens name zs) h)
new_spells name ts us e (inr (text, ws, h, closes)) = inr (text, ws, e ∙ ap (λ zs. call_tokens name zs) h, closes)

new_again : (s : RightSide) (ts : List Token) → NewEnds ts → new_of s ts ≡ Some (s, 0)
unfolding new_of after_new after
new_again s ts (inl e) = rw e
new_again s ts (inr (text, us, e, closes)) = rw (e, closes_again us [] closes)

-- ---- `random.randint(..)`

two_is : (es : List Tree) (k : Tree × Tree) → two_of es ≡ Some k → es ≡ k.0 ∷ k.1 ∷ []
two_is (a ∷ b ∷ []) k h = ap (λ (x : Tree × Tree). x.0 ∷ x.1 ∷ []) (some_same h)
two_is [] k h = absurd (not_some h)
two_is (a ∷ []) k h = absurd (not_some h)
two_is (a ∷ b ∷ c ∷ es) k h = absurd (not_some h)

both_same : (a b c d : Tree) → a ∷ b ∷ [] ≡ c ∷ d ∷ [] → (a ≡ c) × (b ≡ d)
both_same a b c d h = (cc, cc)

both_kept : (limit : ℕ) (es : List Tree) (k : Tree × Tree) → (kept_list (kept limit) es).0 ≡ k.0 ∷ k.1 ∷ [] → (a : Tree) × (b : Tree) × (es ≡ a ∷ b ∷ []) × ((RandomInt k.0 k.1, (kept_list (kept limit) es).1) ≡ kept_right limit (RandomInt a b))
unfolding kept_list
both_kept limit [] k h = absurd cc
both_kept limit (a ∷ []) k h = absurd cc
both_kept limit (a ∷ b ∷ []) k h =
    let (p, q) = both_same (kept limit a).0 (kept limit b).0 k.0 k.1 h in (
      a,
      b,
      refl,
      ap (λ n. (RandomInt k.0 k.1, n)) (let e : max (kept limit a).1 (max (kept limit b).1 0) ≡ max (kept limit a).1 (kept limit b).1 = omega arith in e)
          ∙ ap (λ t. (RandomInt t k.1, max (kept limit a).1 (kept limit b).1)) (sym p)
          ∙ ap (λ t. (RandomInt (kept limit a).0 t, max (kept limit a).1 (kept limit b).1)) (sym q),
    )
both_kept limit (a ∷ b ∷ c ∷ es) k h = absurd cc

random_int_sound : (limit : ℕ) (ts : List Token) (v : RightSide × ℕ) → random_int_of limit ts ≡ Some v → (a : Tree) × (b : Tree) × SpellsValues (a ∷ b ∷ []) ts [] × (v ≡ kept_right limit (RandomInt a b))
unfolding random_int_of
random_int_sound limit ts v h =
    let (x, a, b) = also_is (values_of limit ts) (λ y. also (two_of y.0.0) (λ e. ended (RandomInt e.0 e.1, y.0.1) y.1)) v h in
    let (k, c, d) = also_is (two_of x.0.0) (λ e. ended (RandomInt e.0 e.1, x.0.1) x.1) v b in
    let (end, same) = ended_is (RandomInt k.0 k.1, x.0.1) v x.1 d in
    let (es, s, is) = values_sound limit ts x.1 x.0 a in
    let (e, f, list, is_kept) = both_kept limit es k (ap (λ (w : List Tree × ℕ). w.0) (sym is) ∙ two_is x.0.0 k c) in (
      e,
      f,
      subst (λ us. SpellsValues (e ∷ f ∷ []) ts us) end (subst (λ zs. SpellsValues zs ts x.1) list s),
      sym same ∙ ap (λ (w : List Tree × ℕ). (RandomInt k.0 k.1, w.1)) is ∙ is_kept,
    )

random_int_again : (limit : ℕ) (a b : Tree) (ts : List Token) → SpellsValues (a ∷ b ∷ []) ts [] → random_int_of limit ts ≡ Some (kept_right limit (RandomInt a b))
unfolding random_int_of kept_list
random_int_again limit a b ts s = rw (values_again limit (a ∷ b ∷ []) ts [] s)
    (ap (λ n. Some (RandomInt (kept limit a).0 (kept limit b).0, n)) (let e : max (kept limit a).1 (max (kept limit b).1 0) ≡ max (kept limit a).1 (kept limit b).1 = omega arith in e))

-- ---- a new queue

bound_sound : (limit : ℕ) (ts : List Token) (v : Option Tree × ℕ) → bound_of limit ts ≡ Some v → (e : Option Tree) × SpellsBound e ts × (v ≡ kept_optional (kept limit) e)
unfolding bound_of after
bound_sound limit ts v h = go (after_close ts) refl h
  where
    go : (o : Option (List Token)) → after_close ts ≡ o → bound_by limit ts o ≡ Some v → (e : Option Tree) × SpellsBound e ts × (v ≡ kept_optional (kept limit) e)
    go (Some us) q k =
        let (end, same) = ended_is (None, 0) v us k in
        (None, after_close_is ts us q ∙ ap (λ zs. token.Close bracket.Round ∷ zs) end, sym same)
    go None q k =
        let (x, a, b) = also_is (value_of limit (after_name (codes "maxsize") ts)) (λ y. closed (of_one (λ e. Some e) y.0) y.1) v k in
        let (closes, same) = closed_is (of_one (λ e. Some e) x.0) v x.1 b in
        let (e, s, is) = value_sound limit (after_name (codes "maxsize") ts) x.1 x.0 a in
        (Some e, (after_name (codes "maxsize") ts, x.1, name_is (codes "maxsize") ts, s, closes), sym same ∙ ap (λ z. of_one (λ t. Some t) z) is)

bound_again : (limit : ℕ) (e : Option Tree) (ts : List Token) → SpellsBound e ts → bound_of limit ts ≡ Some (kept_optional (kept limit) e)
unfolding bound_of after
bound_again limit None ts e = rw e
bound_again limit (Some e) ts (us, vs, given, s, closes) =
    let is = closes_behind vs [] closes in
    rw (given_begins (codes "maxsize") e ts us vs given s, name_again (codes "maxsize") ts us vs e given s is.1, value_again limit e us vs s is.0)
    (closed_again (of_one (λ t. Some t) (kept limit e)) vs closes)

-- ---- an item of a queue

get_now_sound : (limit : ℕ) (ts : List Token) (v : RightSide × ℕ) → get_now_of limit ts ≡ Some v → (e : Tree) × SpellsRight (GetNow e) ts × (v ≡ kept_right limit (GetNow e))
unfolding get_now_of get_now_by after
get_now_sound limit ts v h =
    let (m, a, b) = also_is (method_at limit ts) (λ n. get_now_by n.0 n.1.0 n.1.1) v h in
    let (t, s, l, k) = method_sound limit ts m a in
    let (p, c) = when (bytes_eq m.1.0 (codes "get_nowait")) (also (after_close m.1.1) (λ us. ended (of_one GetNow m.0) us)) v b in
    let (us, d, e) = also_is (after_close m.1.1) (λ ws. ended (of_one GetNow m.0) ws) v c in
    let (end, same) = ended_is (of_one GetNow m.0) v us e in
    let close : m.1.1 ≡ token.Close bracket.Round ∷ [] = after_close_is m.1.1 us d ∙ ap (λ ws. token.Close bracket.Round ∷ ws) end in
    let named : Spells t ts (method_tokens (codes "get_nowait") m.1.1) = subst (λ n. Spells t ts (method_tokens n m.1.1)) (bytes_are m.1.0 (codes "get_nowait") p) s in (
      t,
      (method_tokens (codes "get_nowait") (token.Close bracket.Round ∷ []), subst (λ ws. Spells t ts (method_tokens (codes "get_nowait") ws)) close named, l, refl),
      sym same ∙ ap (λ z. of_one GetNow z) k,
    )

get_now_plain : (e : Tree) → IsPlain (Attribute e (codes "get_nowait"))
unfolding IsPlain method_of
get_now_plain e = refl

get_now_again : (limit : ℕ) (e : Tree) (ts : List Token) → Spells e ts (method_tokens (codes "get_nowait") (token.Close bracket.Round ∷ [])) → level e ≡ 12
    → get_now_of limit ts ≡ Some (kept_right limit (GetNow e))
unfolding get_now_of get_now_by after
get_now_again limit e ts s l = rw (method_again limit e (codes "get_nowait") ts (token.Close bracket.Round ∷ []) s l (get_now_plain e))

-- ---- all forms

abbrev pub FoundRight : ℕ → List Token → RightSide × ℕ → Type 0
FoundRight limit ts v = (s : RightSide) × SpellsRight s ts × (v ≡ kept_right limit s)

value_or_get_sound : (limit : ℕ) (ts : List Token) (v : RightSide × ℕ) → value_or_get_of limit ts ≡ Some v → FoundRight limit ts v
unfolding value_or_get_of right_value_of
value_or_get_sound limit ts v h = go (or_is (right_value_of limit ts) (get_now_of limit ts) v h)
  where
    go : (right_value_of limit ts ≡ Some v) ⊎ ((right_value_of limit ts ≡ None) × (get_now_of limit ts ≡ Some v)) → FoundRight limit ts v
    go (inl k) =
        let (w, i, j) = made_is (whole_value_of limit ts) (of_one RightValue) v k in
        let (e, s, same) = whole_value_sound limit ts w i in
        (RightValue e, s, sym j ∙ ap (λ z. of_one RightValue z) same)
    go (inr (none, k)) = let (e, s, same) = get_now_sound limit ts v k in (GetNow e, s, same)

object_sound : (limit : ℕ) (ts : List Token) (v : RightSide × ℕ) → object_or_value_of limit ts ≡ Some v → FoundRight limit ts v
unfolding object_or_value_of queue_of after
object_sound limit ts v h = go (after_call (codes "Event") ts) (after_call (codes "Lock") ts) (after_call (codes "Queue") ts) refl refl refl h
  where
    go : (a b c : Option (List Token)) → after_call (codes "Event") ts ≡ a → after_call (codes "Lock") ts ≡ b → after_call (codes "Queue") ts ≡ c
        → new_object_by limit ts a b c ≡ Some v → FoundRight limit ts v
    go (Some us) b c qa qb qc k =
        let (s, same) = new_sound NewEvent us v k in (NewEvent, new_spells (codes "Event") ts us (after_call_is (codes "Event") ts us qa) s, same)
    go None (Some us) c qa qb qc k =
        let (s, same) = new_sound NewLock us v k in (NewLock, new_spells (codes "Lock") ts us (after_call_is (codes "Lock") ts us qb) s, same)
    go None None (Some us) qa qb qc k =
        let (w, i, j) = made_is (bound_of limit us) (of_one NewQueue) v k in
        let (e, s, same) = bound_sound limit us w i in
        (NewQueue e, (us, after_call_is (codes "Queue") ts us qc, s), sym j ∙ ap (λ z. of_one NewQueue z) same)
    go None None None qa qb qc k = value_or_get_sound limit ts v k

pub right_sound : (limit : ℕ) (ts : List Token) (v : RightSide × ℕ) → right_of limit ts ≡ Some v → (s : RightSide) × SpellsRight s ts × (v ≡ kept_right limit s)
unfolding right_of call_or_value_of start_soon_of after
right_sound limit ts v h = go (after_await ts) refl h
  where
    others : (a b : Option (List Token)) → after_member (codes "cocotb") (codes "start_soon") ts ≡ a → after_member (codes "random") (codes "randint") ts ≡ b
        → right_by limit ts a b ≡ Some v → FoundRight limit ts v
    others (Some us) b qa qb k =
        let (w, i, j) = made_is (closed_start_of limit us) (of_one RightStart) v k in
        let (f, vs, s, closes, same) = closed_start_sound limit us w i in
        (RightStart f, (us, vs, after_member_is (codes "cocotb") (codes "start_soon") ts us qa, s, closes), sym j ∙ ap (λ z. of_one RightStart z) same)
    others None (Some us) qa qb k =
        let (a, b, s, same) = random_int_sound limit us v k in
        (RandomInt a b, (us, after_member_is (codes "random") (codes "randint") ts us qb, s), same)
    others None None qa qb k = object_sound limit ts v k

    go : (o : Option (List Token)) → after_await ts ≡ o → await_by limit ts o ≡ Some v → FoundRight limit ts v
    go (Some us) q k =
        let (w, i, j) = made_is (awaited_of limit us) (of_one RightAwait) v k in
        let (a, s, same) = awaited_sound limit us w i in
        (RightAwait a, (us, after_await_is ts us q, s), sym j ∙ ap (λ z. of_one RightAwait z) same)
    go None q k = others (after_member (codes "cocotb") (codes "start_soon") ts) (after_member (codes "random") (codes "randint") ts) refl refl k

no_await : (ts us : List Token) → starts_expression ts ≡ true → after_await ts ≡ Some us → ⊥
unfolding after
no_await ts us s h = let e : starts_expression (token.Keyword keyword.Await ∷ us) ≡ true = subst (λ zs. starts_expression zs ≡ true) (after_await_is ts us h) s in cc

-- where neither `await` nor one of these calls stands
no_call_again : (limit : ℕ) (ts : List Token) → after_await ts ≡ None → after_member (codes "cocotb") (codes "start_soon") ts ≡ None
    → after_member (codes "random") (codes "randint") ts ≡ None → after_call (codes "Event") ts ≡ None → after_call (codes "Lock") ts ≡ None → after_call (codes "Queue") ts ≡ None
    → right_of limit ts ≡ value_or_get_of limit ts
unfolding right_of call_or_value_of object_or_value_of after
no_call_again limit ts a b c d e f = rw (a, b, c, d, e, f)

-- no call of such a name or such a member is a value
pub value_no_call : (limit : ℕ) (name : List ℕ) (e : Tree) (ts : List Token) → function_of name ≡ None → Spells e ts [] → after_call name ts ≡ None
value_no_call limit name e ts h s = fails (after_call name ts) (λ us k. no_value_call limit name us e h (subst (λ zs. Spells e zs []) (after_call_is name ts us k) s))

value_no_member : (limit : ℕ) (owner name : List ℕ) (e : Tree) (ts : List Token) → method_of name ≡ None → Spells e ts [] → after_member owner name ts ≡ None
value_no_member limit owner name e ts h s =
    fails (after_member owner name ts) (λ us k. no_value_member limit owner name us e h (subst (λ zs. Spells e zs []) (after_member_is owner name ts us k) s))

value_or_get_again : (limit : ℕ) (e : Tree) (ts : List Token) → Spells e ts [] → value_or_get_of limit ts ≡ Some (kept_right limit (RightValue e))
unfolding value_or_get_of right_value_of
value_or_get_again limit e ts s = rw (whole_value_again limit e ts s)

right_value_again : (limit : ℕ) (e : Tree) (ts : List Token) → Spells e ts [] → right_of limit ts ≡ Some (kept_right limit (RightValue e))
unfolding function_of method_of
right_value_again limit e ts s =
    no_call_again limit ts (fails (after_await ts) (λ us h. no_await ts us (begins e ts [] s) h))
    (value_no_member limit (codes "cocotb") (codes "start_soon") e ts refl s) (value_no_member limit (codes "random") (codes "randint") e ts refl s)
    (value_no_call limit (codes "Event") e ts refl s) (value_no_call limit (codes "Lock") e ts refl s) (value_no_call limit (codes "Queue") e ts refl s)
    ∙ value_or_get_again limit e ts s

abbrev pub SpellsGet : Tree → List Token → Type 0
SpellsGet e ts = Spells e ts (method_tokens (codes "get_nowait") (token.Close bracket.Round ∷ []))

pub get_no_call : (name : List ℕ) (e : Tree) (ts : List Token) → function_of name ≡ None → SpellsGet e ts → level e ≡ 12 → after_call name ts ≡ None
unfolding method_of
get_no_call name e ts h s l =
    fails (after_call name ts) (λ us k. no_method_call name (codes "get_nowait") us (token.Close bracket.Round ∷ []) e h refl (subst (λ zs. SpellsGet e zs) (after_call_is name ts us k) s) l)

get_no_member : (owner name : List ℕ) (e : Tree) (ts : List Token) → method_of name ≡ None → bytes_eq name (codes "get_nowait") ≡ false → SpellsGet e ts → level e ≡ 12
    → after_member owner name ts ≡ None
unfolding method_of
get_no_member owner name e ts h other s l =
    fails (after_member owner name ts) (λ us k. no_method_member owner name (codes "get_nowait") us (token.Close bracket.Round ∷ []) e h refl other
    (subst (λ zs. SpellsGet e zs) (after_member_is owner name ts us k) s) l)

-- an item of a queue is no value
get_no_value : (limit : ℕ) (e : Tree) (ts : List Token) → SpellsGet e ts → level e ≡ 12 → right_value_of limit ts ≡ None
unfolding right_value_of Spells
get_no_value limit e ts s l =
    fails (right_value_of limit ts) (λ v h. let (w, i, j) = made_is (whole_value_of limit ts) (of_one RightValue) v h in
    let (f, t, same) = whole_value_sound limit ts w i in
    no_other limit (Attribute e (codes "get_nowait")) f ts (token.Close bracket.Round ∷ [])
    (method_tokens (codes "get_nowait") (token.Close bracket.Round ∷ []), s, l, refl) (get_now_plain e) t)

get_or_again : (limit : ℕ) (e : Tree) (ts : List Token) → SpellsGet e ts → level e ≡ 12 → value_or_get_of limit ts ≡ Some (kept_right limit (GetNow e))
unfolding value_or_get_of
get_or_again limit e ts s l = rw (get_no_value limit e ts s l, get_now_again limit e ts s l)

right_get_again : (limit : ℕ) (e : Tree) (ts : List Token) → SpellsGet e ts → level e ≡ 12 → right_of limit ts ≡ Some (kept_right limit (GetNow e))
unfolding function_of method_of
right_get_again limit e ts s l =
    no_call_again limit ts (fails (after_await ts) (λ us h. no_await ts us (begins e ts _ s) h))
    (get_no_member (codes "cocotb") (codes "start_soon") e ts refl refl s l) (get_no_member (codes "random") (codes "randint") e ts refl refl s l)
    (get_no_call (codes "Event") e ts refl s l) (get_no_call (codes "Lock") e ts refl s l) (get_no_call (codes "Queue") e ts refl s l)
    ∙ get_or_again limit e ts s l

new_reads : (name : List ℕ) (ts : List Token) → SpellsNew name ts → (us : List Token) × (ts ≡ call_tokens name us) × NewEnds us
new_reads name ts (inl e) = (token.Close bracket.Round ∷ [], e, inl refl)
new_reads name ts (inr (text, us, e, closes)) = (token.Text text ∷ us, e, inr (text, us, refl, closes))

pub right_again : (limit : ℕ) (s : RightSide) (ts : List Token) → SpellsRight s ts → right_of limit ts ≡ Some (kept_right limit s)
unfolding right_of call_or_value_of start_soon_of object_or_value_of queue_of after
right_again limit (RightValue e) ts s = right_value_again limit e ts s
right_again limit (RightAwait a) ts (us, e, s) = rw (e, awaited_again limit a us s)
right_again limit (RightStart f) ts (us, vs, e, s, closes) = rw (e, closed_start_again limit f us vs s closes)
right_again limit NewEvent ts s = let (us, e, ends) = new_reads (codes "Event") ts s in rw (e, new_again NewEvent us ends)
right_again limit NewLock ts s = let (us, e, ends) = new_reads (codes "Lock") ts s in rw (e, new_again NewLock us ends)
right_again limit (RandomInt a b) ts (us, e, s) = rw (e, random_int_again limit a b us s)
right_again limit (NewQueue e) ts (us, eq, s) = rw (eq, bound_again limit e us s)
right_again limit (GetNow e) ts (us, s, l, eq) = right_get_again limit e ts (subst (λ zs. Spells e ts zs) eq s) l
