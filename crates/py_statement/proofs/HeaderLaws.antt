-- The laws of reading headers.
use Rattle.std.proofs.Common.{◌≡◌, ℕ, List, [], ◌∷◌, map, Option, Some, None, refl, sym, ap, ◌∙◌, subst, ◌≤◌}
use Rattle.std.specs.Prelude.{codes}
use Rattle.py_syntax.specs.ExpressionTrees.{Tree}
use Rattle.py_syntax.specs.ExpressionSpells.{Spells}
use Rattle.py_syntax.specs.StatementTables.{fault_name}
use Rattle.py_syntax.specs.StatementTrees.{Caught, All, Kind, Kinds, KindAs, Span, Stop, StartStop, StartStopStep, Constants, Header, For, Except, With}
use Rattle.py_syntax.specs.StatementForms.{colon, SpellsRange, SpellsSpan, SpellsOtherKinds, SpellsKinds, SpellsCaught}
use Rattle.py_syntax.specs.ConstantForms.{SpellsConstants}
use Rattle.py_syntax.specs.CallForms.{placed, call_tokens, SpellsOthers, SpellsValues}
use Rattle.py_syntax.specs.declared.fault_kind.FaultKind.{FaultKind}
use Rattle.py_syntax.specs.declared.keyword.Keyword.TheVariants as keyword
use Rattle.py_syntax.specs.declared.operator.Operator.TheVariants as operator
use Rattle.py_syntax.specs.declared.operator.Bracket.TheVariants as bracket
use Rattle.py_syntax.specs.declared.token.Token.{Token}
use Rattle.py_syntax.specs.declared.token.Token.TheVariants as token
use Rattle.py_expression.specs.Phrase.Marks.{after, after_open, after_open_square, name_at}
use Rattle.py_expression.proofs.PhraseLemmas.Facts.{some_same, after_open_is, after_open_square_is, name_at_is}
use Rattle.py_expression.specs.Phrase.Readers.{constants_in}
use Rattle.py_expression.proofs.PhraseLemmas.ConstantLaws.{constants_sound, constants_again}
use Rattle.py_statement.specs.Call.Kept.{kept, of_one}
use Rattle.py_statement.specs.Call.Chosen.{also, made}
use Rattle.py_statement.specs.Call.Words.{after_call}
use Rattle.py_statement.specs.Call.Reading.{value_of, values_of}
use Rattle.py_statement.proofs.CallLemmas.Chosen.{not_some, also_is, made_is}
use Rattle.py_statement.proofs.CallLemmas.ValueLaws.{value_sound, value_again}
use Rattle.py_statement.proofs.CallLemmas.ValueListLaws.{values_sound, values_again}
use Rattle.py_statement.proofs.CallLemmas.WordLaws.{after_call_is}
use Rattle.py_statement.specs.Kept.{kept_span, kept_header}
use Rattle.py_statement.specs.Words.{after_in, after_as, after_with, colon_of, kind_at}
use Rattle.py_statement.specs.Reading.{test_of, range_of, range_span_of, constants_span_of, span_by, span_of, for_of, kinds_behind, some_kinds_by, caught_kinds_of, as_name_of, caught_kind_by, caught_kind_of, caught_by, caught_of, header_only, except_of, with_of}
use Rattle.py_statement.proofs.TableLaws.{kind_at_is, kind_at_again, after_in_is, after_as_is, after_with_is, colon_is, quiet_colon}
use Rattle.py_statement.proofs.ListLaws.{range_kept, range_again, kind_name, kinds_kept, kinds_again}

pub test_sound : (limit : ℕ) (ts : List Token) (v : Tree × ℕ) → test_of limit ts ≡ Some v → (e : Tree) × Spells e ts colon × (v ≡ kept limit e)
unfolding test_of
test_sound limit ts v h =
    let (x, a, b) = also_is (value_of limit ts) (λ y. made (λ _. y.0) (colon_of y.1)) v h in
    let (u, c, d) = made_is (colon_of x.1) (λ _. x.0) v b in
    let (e, s, k) = value_sound limit ts x.1 x.0 a in
    (e, subst (λ us. Spells e ts us) (colon_is x.1 u c) s, sym d ∙ k)

pub test_again : (limit : ℕ) (e : Tree) (ts : List Token) → Spells e ts colon → test_of limit ts ≡ Some (kept limit e)
unfolding test_of after
test_again limit e ts s = rw (value_again limit e ts colon s quiet_colon)

-- ---- `for`

range_spells : (es : List Tree) (r : Span) (ts : List Token) → range_of es ≡ Some r → SpellsRange es ts → SpellsSpan r ts
range_spells [] r ts h s = absurd (not_some h)
range_spells (e ∷ []) r ts h s = subst (λ q. SpellsSpan q ts) (some_same h) s
range_spells (e ∷ f ∷ []) r ts h s = subst (λ q. SpellsSpan q ts) (some_same h) s
range_spells (e ∷ f ∷ g ∷ []) r ts h s = subst (λ q. SpellsSpan q ts) (some_same h) s
range_spells (e ∷ f ∷ g ∷ i ∷ es) r ts h s = absurd (not_some h)

range_sound : (limit : ℕ) (ts us : List Token) (v : Span × ℕ) → ts ≡ call_tokens (codes "range") us → range_span_of limit us ≡ Some v → (s : Span) × SpellsSpan s ts × (v ≡ kept_span limit s)
unfolding range_span_of
range_sound limit ts us v e h =
    let (x, a, b) = also_is (values_of limit us) (λ y. also (range_of y.0.0) (λ s. made (λ _. (s, y.0.1)) (colon_of y.1))) v h in
    let (s, c, d) = also_is (range_of x.0.0) (λ t. made (λ _. (t, x.0.1)) (colon_of x.1)) v b in
    let (u, f, g) = made_is (colon_of x.1) (λ _. (s, x.0.1)) v d in
    let (es, sp, k) = values_sound limit us x.1 x.0 a in
    let (r, kept_r, is) = range_kept limit es s (ap (λ (w : List Tree × ℕ). range_of w.0) (sym k) ∙ c) in (
      r,
      range_spells es r ts is (us, e, subst (λ ws. SpellsValues es us ws) (colon_is x.1 u f) sp),
      sym g ∙ ap (λ (w : List Tree × ℕ). (s, w.1)) k ∙ kept_r,
    )

range_span_again : (limit : ℕ) (es : List Tree) (r : Span) (us : List Token) → range_of es ≡ Some r → SpellsValues es us colon → range_span_of limit us ≡ Some (kept_span limit r)
unfolding range_span_of after
range_span_again limit es r us h s =
    let (q, is, k) = range_again limit es r h in rw (values_again limit es us colon s, is) (ap (λ z. Some z) k)

constants_span_sound : (limit : ℕ) (ts us : List Token) (v : Span × ℕ) → ts ≡ token.Open bracket.Square ∷ us → constants_span_of us ≡ Some v → (s : Span) × SpellsSpan s ts × (v ≡ kept_span limit s)
unfolding constants_span_of
constants_span_sound limit ts us v e h =
    let (x, a, b) = also_is (constants_in us) (λ y. made (λ _. (Constants y.0, 0)) (colon_of y.1)) v h in
    let (u, c, d) = made_is (colon_of x.1) (λ _. (Constants x.0, 0)) v b in
    (Constants x.0, (us, e, subst (λ ws. SpellsConstants x.0 us ws) (colon_is x.1 u c) (constants_sound us x.1 x.0 a)), sym d)

span_sound : (limit : ℕ) (ts : List Token) (v : Span × ℕ) → span_of limit ts ≡ Some v → (s : Span) × SpellsSpan s ts × (v ≡ kept_span limit s)
unfolding span_of after
span_sound limit ts v h = go (after_call (codes "range") ts) refl (after_open_square ts) refl h
  where
    go : (a : Option (List Token)) → after_call (codes "range") ts ≡ a → (b : Option (List Token)) → after_open_square ts ≡ b → span_by limit a b ≡ Some v
        → (s : Span) × SpellsSpan s ts × (v ≡ kept_span limit s)
    go (Some us) q b r k = range_sound limit ts us v (after_call_is (codes "range") ts us q) k
    go None q (Some us) r k = constants_span_sound limit ts us v (after_open_square_is ts us r) k
    go None q None r k = absurd (not_some k)

span_again : (limit : ℕ) (s : Span) (ts : List Token) → SpellsSpan s ts → span_of limit ts ≡ Some (kept_span limit s)
unfolding span_of constants_span_of after
span_again limit (Stop e) ts (us, eq, s) = rw (eq, range_span_again limit (e ∷ []) (Stop e) us refl s)
span_again limit (StartStop e f) ts (us, eq, s) = rw (eq, range_span_again limit (e ∷ f ∷ []) (StartStop e f) us refl s)
span_again limit (StartStopStep e f g) ts (us, eq, s) = rw (eq, range_span_again limit (e ∷ f ∷ g ∷ []) (StartStopStep e f g) us refl s)
span_again limit (Constants cs) ts (us, eq, s) = rw (eq, constants_again us colon cs s)

pub for_sound : (limit : ℕ) (ts : List Token) (v : Header × ℕ) → for_of limit ts ≡ Some v
    → (n : List ℕ) × (s : Span) × (us : List Token) × (ts ≡ token.Name n ∷ token.Keyword keyword.In ∷ us) × SpellsSpan s us × (v ≡ kept_header limit (For n s))
unfolding for_of after
for_sound limit ts v h =
    let (x, a, b) = also_is (name_at ts) (λ y. also (after_in y.1) (λ us. made (of_one (For y.0)) (span_of limit us))) v h in
    let (us, c, d) = also_is (after_in x.1) (λ ws. made (of_one (For x.0)) (span_of limit ws)) v b in
    let (w, e, f) = made_is (span_of limit us) (of_one (For x.0)) v d in
    let (s, sp, k) = span_sound limit us w e in
    (x.0, s, us, name_at_is ts x a ∙ ap (λ ws. token.Name x.0 ∷ ws) (after_in_is x.1 us c), sp, sym f ∙ ap (λ z. of_one (For x.0) z) k)

pub for_again : (limit : ℕ) (n : List ℕ) (s : Span) (us : List Token) → SpellsSpan s us → for_of limit (token.Name n ∷ token.Keyword keyword.In ∷ us) ≡ Some (kept_header limit (For n s))
unfolding for_of after
for_again limit n s us sp = rw (span_again limit s us sp)

-- ---- `except`

others_as_kinds : (ks : List FaultKind) (ts rest : List Token) → SpellsOthers (map placed (map kind_name ks)) ts rest → SpellsOtherKinds ks ts rest
unfolding Spells
others_as_kinds [] ts rest s = s
others_as_kinds (k ∷ ks) ts rest (us, vs, comma, (ws, given, name), more) =
    (vs, comma ∙ ap (λ zs. token.Operator operator.Comma ∷ zs) (given ∙ name), others_as_kinds ks vs rest more)

kinds_as_others : (ks : List FaultKind) (ts rest : List Token) → SpellsOtherKinds ks ts rest → SpellsOthers (map placed (map kind_name ks)) ts rest
unfolding Spells after
kinds_as_others [] ts rest s = s
kinds_as_others (k ∷ ks) ts rest (us, e, more) =
    (token.Name (fault_name k) ∷ us, us, e, (token.Name (fault_name k) ∷ us, refl, refl), kinds_as_others ks us rest more)

as_kinds : (k : FaultKind) (ks : List FaultKind) (ts rest : List Token) → SpellsValues (map kind_name (k ∷ ks)) ts rest → SpellsKinds (k ∷ ks) ts rest
unfolding Spells
as_kinds k ks ts rest (us, (vs, given, name), more) = (us, given ∙ name, others_as_kinds ks us rest more)

as_values : (ks : List FaultKind) (ts rest : List Token) → SpellsKinds ks ts rest → SpellsValues (map kind_name ks) ts rest
unfolding Spells after
as_values [] ts rest s = absurd s
as_values (k ∷ ks) ts rest (us, e, more) = (us, (token.Name (fault_name k) ∷ us, e, refl), kinds_as_others ks us rest more)

kinds_sound : (limit : ℕ) (ts us : List Token) (c : Caught) → ts ≡ token.Open bracket.Round ∷ us → caught_kinds_of limit us ≡ Some c → SpellsCaught c ts
unfolding caught_kinds_of
kinds_sound limit ts us c e h =
    let (x, a, b) = also_is (values_of limit us) (λ y. also (kinds_behind [] y.0.0) (λ ks. also (some_kinds_by ks) (λ d. made (λ _. d) (colon_of y.1)))) c h in
    let (ks, f, g) = also_is (kinds_behind [] x.0.0) (λ js. also (some_kinds_by js) (λ d. made (λ _. d) (colon_of x.1))) c b in
    let (d, i, j) = also_is (some_kinds_by ks) (λ k. made (λ _. k) (colon_of x.1)) c g in
    let (u, m, n) = made_is (colon_of x.1) (λ _. d) c j in
    let (es, s, k) = values_sound limit us x.1 x.0 a in
    let all : es ≡ map kind_name ks = kinds_kept limit es ks (ap (λ (w : List Tree × ℕ). kinds_behind [] w.0) (sym k) ∙ f) in
    subst (λ q. SpellsCaught q ts) n (some ks d i (subst (λ fs. SpellsValues fs us colon) all (subst (λ ws. SpellsValues es us ws) (colon_is x.1 u m) s)))
  where
    some : (ks : List FaultKind) (d : Caught) → some_kinds_by ks ≡ Some d → SpellsValues (map kind_name ks) us colon → SpellsCaught d ts
    some [] d i s = absurd (not_some i)
    some (k ∷ ks) d i s = subst (λ q. SpellsCaught q ts) (some_same i) (us, e, as_kinds k ks us colon s)

caught_kinds_again : (limit : ℕ) (positive : 1 ≤ limit) (ks : List FaultKind) (us : List Token) → SpellsKinds ks us colon → caught_kinds_of limit us ≡ Some (Kinds ks)
unfolding caught_kinds_of after
caught_kinds_again limit positive [] us s = absurd s
caught_kinds_again limit positive (k ∷ ks) us s = rw (values_again limit (map kind_name (k ∷ ks)) us colon (as_values (k ∷ ks) us colon s), kinds_again limit positive (k ∷ ks))

caught_kind_sound : (ts : List Token) (x : FaultKind × List Token) (c : Caught) → ts ≡ token.Name (fault_name x.0) ∷ x.1 → caught_kind_of x ≡ Some c → SpellsCaught c ts
unfolding caught_kind_of as_name_of after
caught_kind_sound ts x c e h = go (after_as x.1) refl h
  where
    go : (o : Option (List Token)) → after_as x.1 ≡ o → caught_kind_by x.0 x.1 o ≡ Some c → SpellsCaught c ts
    go None q k =
        let (u, a, b) = made_is (colon_of x.1) (λ _. Kind x.0) c k in
        subst (λ d. SpellsCaught d ts) b (e ∙ ap (λ ws. token.Name (fault_name x.0) ∷ ws) (colon_is x.1 u a))
    go (Some us) q k =
        let (y, a, b) = also_is (name_at us) (λ z. made (λ _. KindAs x.0 z.0) (colon_of z.1)) c k in
        let (u, d, f) = made_is (colon_of y.1) (λ _. KindAs x.0 y.0) c b in
        subst (λ g. SpellsCaught g ts) f
        (e ∙ ap (λ ws. token.Name (fault_name x.0) ∷ ws) (after_as_is x.1 us q ∙ ap (λ ws. token.Keyword keyword.As ∷ ws) (name_at_is us y a ∙ ap (λ ws. token.Name y.0 ∷ ws) (colon_is y.1 u d))))

caught_sound : (limit : ℕ) (ts : List Token) (c : Caught) → caught_of limit ts ≡ Some c → SpellsCaught c ts
unfolding caught_of after
caught_sound limit ts c h = go (after_open ts) refl (kind_at ts) refl h
  where
    go : (a : Option (List Token)) → after_open ts ≡ a → (b : Option (FaultKind × List Token)) → kind_at ts ≡ b → caught_by limit ts a b ≡ Some c → SpellsCaught c ts
    go (Some us) q b r k = kinds_sound limit ts us c (after_open_is ts us q) k
    go None q (Some x) r k = caught_kind_sound ts x c (kind_at_is ts x r) k
    go None q None r k = let (u, d, f) = made_is (colon_of ts) (λ _. All) c k in subst (λ g. SpellsCaught g ts) f (colon_is ts u d)

caught_again : (limit : ℕ) (positive : 1 ≤ limit) (c : Caught) (ts : List Token) → SpellsCaught c ts → caught_of limit ts ≡ Some c
unfolding caught_of caught_kind_of as_name_of after
caught_again limit positive All ts e = rw e
caught_again limit positive (Kind k) ts e = rw (e, kind_at_again k colon)
caught_again limit positive (Kinds ks) ts (us, e, s) = rw (e, caught_kinds_again limit positive ks us s)
caught_again limit positive (KindAs k n) ts e = rw (e, kind_at_again k (token.Keyword keyword.As ∷ token.Name n ∷ colon))

pub except_sound : (limit : ℕ) (ts : List Token) (v : Header × ℕ) → except_of limit ts ≡ Some v → (c : Caught) × SpellsCaught c ts × (v ≡ kept_header limit (Except c))
unfolding except_of
except_sound limit ts v h = let (c, a, b) = made_is (caught_of limit ts) (λ d. (Except d, 0)) v h in (c, caught_sound limit ts c a, sym b)

pub except_again : (limit : ℕ) (positive : 1 ≤ limit) (c : Caught) (ts : List Token) → SpellsCaught c ts → except_of limit ts ≡ Some (kept_header limit (Except c))
unfolding except_of after
except_again limit positive c ts s = rw (caught_again limit positive c ts s)

-- ---- the others

pub header_only_sound : (h : Header) (ts : List Token) (v : Header × ℕ) → header_only h ts ≡ Some v → (ts ≡ colon) × (v ≡ (h, 0))
unfolding header_only
header_only_sound h ts v k = let (u, a, b) = made_is (colon_of ts) (λ _. (h, 0)) v k in (colon_is ts u a, sym b)

pub header_only_again : (h : Header) → header_only h colon ≡ Some (h, 0)
unfolding header_only after
header_only_again h = refl

pub with_sound : (limit : ℕ) (ts : List Token) (v : Header × ℕ) → with_of limit ts ≡ Some v → (e : Tree) × (us : List Token) × (ts ≡ token.Keyword keyword.With ∷ us) × Spells e us colon × (v ≡ kept_header limit (With e))
unfolding with_of after
with_sound limit ts v h =
    let (us, a, b) = also_is (after_with ts) (λ ws. made (of_one With) (test_of limit ws)) v h in
    let (w, c, d) = made_is (test_of limit us) (of_one With) v b in
    let (e, s, k) = test_sound limit us w c in
    (e, us, after_with_is ts us a, s, sym d ∙ ap (λ z. of_one With z) k)

pub with_again : (limit : ℕ) (e : Tree) (us : List Token) → Spells e us colon → with_of limit (token.Keyword keyword.With ∷ us) ≡ Some (kept_header limit (With e))
unfolding with_of after
with_again limit e us s = rw (test_again limit e us s)
