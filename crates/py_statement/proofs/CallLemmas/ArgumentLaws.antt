-- The laws of reading arguments.
use Rattle.std.proofs.Common.{◌≡◌, ℕ, zero, suc, pred, ◌+◌, ◌<◌, ◌≤◌, max, List, [], ◌∷◌, ◌++◌, length, Option, Some, None, refl, sym, ap, ◌∙◌, arith, inl, inr, subst, append_assoc}
use Rattle.py_syntax.specs.ExpressionTrees.{Tree}
use Rattle.py_syntax.specs.ExpressionSpells.{Closes, Spells}
use Rattle.py_syntax.specs.StatementTrees.{Argument}
use Rattle.py_syntax.specs.CallForms.{IsGivenBy, SpellsArgument, SpellsOthers, SpellsArguments}
use Rattle.py_syntax.specs.declared.operator.Operator.TheVariants as operator
use Rattle.py_syntax.specs.declared.operator.Bracket.TheVariants as bracket
use Rattle.py_syntax.specs.declared.token.Token.{Token}
use Rattle.py_syntax.specs.declared.token.Token.TheVariants as token
use Rattle.py_expression.specs.Tokens.{operation_at}
use Rattle.py_expression.specs.Phrase.Marks.{after, after_close, after_comma, after_last, after_assign, named_at}
use Rattle.py_expression.proofs.Again.{Quiet}
use Rattle.py_expression.proofs.Starts.{starts}
use Rattle.py_expression.proofs.PhraseLemmas.Facts.{some_same, named_at_is, after_close_is, after_comma_is, after_last_is}
use Rattle.py_statement.specs.Call.Kept.{kept, of_one, of_two, given_as, kept_list, kept_argument, kept_arguments}
use Rattle.py_statement.specs.Call.Reading.{value_of, begin_by, begin_of, argument_of, joined, Step, going, done, behind_by, behind_of, step_of, more_by, more_of, some_arguments_of, arguments_by, arguments_of}
use Rattle.py_statement.proofs.CallLemmas.Chosen.{not_some, also_is, made_is, closes_again}
use Rattle.py_statement.proofs.CallLemmas.Lengths.{spells_length}
use Rattle.py_statement.proofs.CallLemmas.Runs.{more_next, more_done}
use Rattle.py_statement.proofs.CallLemmas.ValueLaws.{value_sound, value_again}

-- ---- one argument

begin_is : (ts : List Token) → IsGivenBy (begin_of ts).0 ts (begin_of ts).1
unfolding begin_of after
begin_is ts = go (named_at ts) refl
  where
    go : (o : Option (List ℕ × List Token)) → named_at ts ≡ o → IsGivenBy (begin_by ts o).0 ts (begin_by ts o).1
    go None q = refl
    go (Some x) q = named_at_is ts x q

pub argument_sound : (limit : ℕ) (ts rest : List Token) (v : Argument × ℕ) → argument_of limit ts ≡ Some (v, rest) → (x : Argument) × SpellsArgument x ts rest × (v ≡ kept_argument limit x)
unfolding argument_of after
argument_sound limit ts rest v h =
    let name = (begin_of ts).0 in
    let (y, a, b) = made_is (value_of limit (begin_of ts).1) (λ z. (of_one (given_as name) z.0, z.1)) (v, rest) h in
    let (e, s, k) = value_sound limit (begin_of ts).1 y.1 y.0 a in (
      given_as name e,
      ((begin_of ts).1, begin_is ts, subst (λ us. Spells e (begin_of ts).1 us) (ap (λ (z : (Argument × ℕ) × List Token). z.1) b) s),
      sym (ap (λ (z : (Argument × ℕ) × List Token). z.0) b) ∙ ap (λ w. of_one (given_as name) w) k,
    )

-- what may stand behind an argument
abbrev pub IsBehind : List Token → Type 0
IsBehind ts = Quiet ts × (after_assign ts ≡ None)

begin_again : (name : Option (List ℕ)) (e : Tree) (ts us rest : List Token) → IsGivenBy name ts us → Spells e us rest → after_assign rest ≡ None → begin_of ts ≡ (name, us)
unfolding begin_of after
begin_again None e ts us rest g s h = rw (g, (starts e us rest s).2 h)
begin_again (Some n) e ts us rest g s h = rw g

pub argument_again : (limit : ℕ) (x : Argument) (ts rest : List Token) → SpellsArgument x ts rest → IsBehind rest → argument_of limit ts ≡ Some (kept_argument limit x, rest)
unfolding argument_of after
argument_again limit x ts rest (us, g, s) (q, h) = rw (begin_again x.name x.value ts us rest g s h, value_again limit x.value us rest s q)

pub argument_begins : (x : Argument) (ts rest : List Token) → SpellsArgument x ts rest → after_close ts ≡ None
unfolding after
argument_begins x ts rest (us, g, s) = go x.name g
  where
    go : (name : Option (List ℕ)) → IsGivenBy name ts us → after_close ts ≡ None
    go None k = rw k (starts x.value us rest s).0
    go (Some n) k = rw k

pub argument_length : (x : Argument) (ts rest : List Token) → SpellsArgument x ts rest → length rest < length ts
argument_length x ts rest (us, g, s) = go x.name g
  where
    go : (name : Option (List ℕ)) → IsGivenBy name ts us → length rest < length ts
    go None k = rw k (spells_length x.value us rest s)
    go (Some n) k = rw k (omega (arith, spells_length x.value us rest s))

-- ---- several

pub others_behind : (xs : List Argument) (ts rest : List Token) → SpellsOthers xs ts rest → IsBehind ts
unfolding operation_at after
others_behind [] ts rest (inl e) = rw e ((refl, refl, refl, refl), refl)
others_behind [] ts rest (inr e) = rw e ((refl, refl, refl, refl), refl)
others_behind (x ∷ xs) ts rest (us, vs, e, s, more) = rw e ((refl, refl, refl, refl), refl)

-- arguments behind others
abbrev pub glued : List Argument × ℕ → List Argument × ℕ → List Argument × ℕ
glued xs ys = (xs.0 ++ ys.0, max xs.1 ys.1)

glued_none : (limit : ℕ) (xs : List Argument × ℕ) (x : Argument) → joined xs (kept_argument limit x) ≡ glued xs (kept_arguments limit (x ∷ []))
unfolding joined kept_list
glued_none limit xs x = ap (λ n. (xs.0 ++ (x' ∷ []), n)) (let k : max xs.1 (kept limit x.value).1 ≡ max xs.1 (max (kept limit x.value).1 0) = omega arith in k)
  where
    x' : Argument
    x' = (kept_argument limit x).0

glued_more : (xs ys : List Argument × ℕ) (x : Argument × ℕ) → glued (joined xs x) ys ≡ glued xs (of_two (λ y zs. y ∷ zs) x ys)
unfolding joined
glued_more xs ys x = grind (arith, append_assoc)

abbrev pub Behind : List Argument × ℕ → List Token → Step → Type 0
Behind xs us (going ys ws) = (us ≡ token.Operator operator.Comma ∷ ws) × (ys ≡ xs)
Behind xs us (done ys ws) = Closes us ws × (ys ≡ xs)

behind_is : (xs : List Argument × ℕ) (us : List Token) (s : Step) → behind_of xs us ≡ Some s → Behind xs us s
unfolding behind_of after
behind_is xs us s h = go (after_last us) refl h
  where
    go : (o : Option (List Token)) → after_last us ≡ o → behind_by xs us o ≡ Some s → Behind xs us s
    go (Some ws) q k = subst (λ t. Behind xs us t) (some_same k) (after_last_is us ws q, refl)
    go None q k = let (ws, a, b) = made_is (after_comma us) (λ t. going xs t) s k in subst (λ t. Behind xs us t) b (after_comma_is us ws a, refl)

step_is : (limit : ℕ) (xs : List Argument × ℕ) (ts : List Token) (s : Step) → step_of limit xs ts ≡ Some s
    → (x : Argument) × (us : List Token) × SpellsArgument x ts us × Behind (joined xs (kept_argument limit x)) us s
unfolding step_of
step_is limit xs ts s h =
    let (y, a, b) = also_is (argument_of limit ts) (λ z. behind_of (joined xs z.0) z.1) s h in
    let (x, sp, k) = argument_sound limit ts y.1 y.0 a in
    (x, y.1, sp, subst (λ w. Behind (joined xs w) y.1 s) k (behind_is (joined xs y.0) y.1 s b))

abbrev pub FoundMore : ℕ → List Argument × ℕ → List Argument × ℕ → List Token → List Token → Type 0
FoundMore limit v acc ts rest =
    (x : Argument) × (xs : List Argument) × (us : List Token) × SpellsArgument x ts us × SpellsOthers xs us rest × (v ≡ glued acc (kept_arguments limit (x ∷ xs)))

pub more_sound : (limit n : ℕ) (acc : List Argument × ℕ) (ts rest : List Token) (v : List Argument × ℕ) → more_of limit n acc ts ≡ Some (v, rest) → FoundMore limit v acc ts rest
unfolding more_of kept_list
more_sound limit zero acc ts rest v h = absurd (not_some h)
more_sound limit (suc n) acc ts rest v h = go (step_of limit acc ts) refl h (λ ys ws k. more_sound limit n ys ws rest v k)
  where
    go : (o : Option Step) → step_of limit acc ts ≡ o → more_by (more_of limit n) o ≡ Some (v, rest)
        → ((ys : List Argument × ℕ) (ws : List Token) → more_of limit n ys ws ≡ Some (v, rest) → FoundMore limit v ys ws rest) → FoundMore limit v acc ts rest
    go None q k ih = absurd (not_some k)
    go (Some (done ys ws)) q k ih =
        let (x, us, sp, (closes, e)) = step_is limit acc ts (done ys ws) q in
        let same : (ys, ws) ≡ (v, rest) = some_same k in (
          x,
          [],
          us,
          sp,
          subst (λ t. Closes us t) (ap (λ (y : (List Argument × ℕ) × List Token). y.1) same) closes,
          sym (ap (λ (y : (List Argument × ℕ) × List Token). y.0) same) ∙ e ∙ glued_none limit acc x,
        )
    go (Some (going ys ws)) q k ih =
        let (x, us, sp, (comma, e)) = step_is limit acc ts (going ys ws) q in
        let (y, xs, vs, sy, others, kept_y) = ih ys ws k in (
          x,
          y ∷ xs,
          us,
          sp,
          (ws, vs, comma, sy, others),
          kept_y ∙ ap (λ w. glued w (kept_arguments limit (y ∷ xs))) e ∙ glued_more acc (kept_arguments limit (y ∷ xs)) (kept_argument limit x),
        )

step_done : (limit : ℕ) (acc : List Argument × ℕ) (x : Argument) (ts us rest : List Token) → SpellsArgument x ts us → Closes us rest → step_of limit acc ts ≡ Some (done (joined acc (kept_argument limit x)) rest)
unfolding step_of behind_of
step_done limit acc x ts us rest s closes = rw (argument_again limit x ts us s (others_behind [] us rest closes), closes_again us rest closes)

step_going : (limit : ℕ) (acc : List Argument × ℕ) (x : Argument) (ts us ws : List Token) → SpellsArgument x ts us → us ≡ token.Operator operator.Comma ∷ ws → IsBehind us → after_close ws ≡ None
    → step_of limit acc ts ≡ Some (going (joined acc (kept_argument limit x)) ws)
unfolding step_of behind_of after
step_going limit acc x ts us ws s comma is none = rw (argument_again limit x ts us s is, comma, none)

pub more_again : (limit : ℕ) (xs : List Argument) (x : Argument) (n : ℕ) (acc : List Argument × ℕ) (ts us rest : List Token) → SpellsArgument x ts us → SpellsOthers xs us rest → length xs < n
    → more_of limit n acc ts ≡ Some (glued acc (kept_arguments limit (x ∷ xs)), rest)
unfolding kept_list
more_again limit [] x n acc ts us rest s closes h =
    let one : n ≡ suc (pred n) = omega arith in
    more_done limit n (pred n) acc _ ts rest one (step_done limit acc x ts us rest s closes) ∙ ap (λ w. Some (w, rest)) (glued_none limit acc x)
more_again limit (y ∷ ys) x n acc ts us rest s (ws, vs, comma, sy, more) h =
    let one : n ≡ suc (pred n) = omega arith in
    more_next limit n (pred n) acc (joined acc (kept_argument limit x)) ts ws one
    (step_going limit acc x ts us ws s comma (others_behind (y ∷ ys) us rest (ws, vs, comma, sy, more)) (argument_begins y ws vs sy))
    ∙ more_again limit ys y (pred n) (joined acc (kept_argument limit x)) ws vs rest sy more (omega arith)
    ∙ ap (λ w. Some (w, rest)) (glued_more acc (kept_arguments limit (y ∷ ys)) (kept_argument limit x))

others_count : (xs : List Argument) (ts rest : List Token) → SpellsOthers xs ts rest → length xs ≤ length ts
others_count [] ts rest s = omega arith
others_count (x ∷ xs) ts rest (us, vs, comma, s, more) =
    let h = others_count xs vs rest more in let k = argument_length x us vs s in let l : length ts ≡ length us + 1 = rw comma (omega arith) in omega arith

glued_start : (ys : List Argument × ℕ) → glued ([], 0) ys ≡ ys
glued_start ys = ap (λ n. (ys.0, n)) (let k : max 0 ys.1 ≡ ys.1 = omega arith in k)

pub arguments_sound : (limit : ℕ) (ts rest : List Token) (v : List Argument × ℕ) → arguments_of limit ts ≡ Some (v, rest) → (xs : List Argument) × SpellsArguments xs ts rest × (v ≡ kept_arguments limit xs)
unfolding arguments_of some_arguments_of kept_list after
arguments_sound limit ts rest v h = go (after_close ts) refl h
  where
    go : (o : Option (List Token)) → after_close ts ≡ o → arguments_by limit ts o ≡ Some (v, rest) → (xs : List Argument) × SpellsArguments xs ts rest × (v ≡ kept_arguments limit xs)
    go (Some us) q k =
        let same : (([], 0), us) ≡ (v, rest) = some_same k in (
          [],
          subst (λ t. ts ≡ token.Close bracket.Round ∷ t) (ap (λ (y : (List Argument × ℕ) × List Token). y.1) same) (after_close_is ts us q),
          sym (ap (λ (y : (List Argument × ℕ) × List Token). y.0) same),
        )
    go None q k =
        let (x, xs, us, s, more, e) = more_sound limit (length ts) ([], 0) ts rest v k in
        (x ∷ xs, (us, s, more), e ∙ glued_start (kept_arguments limit (x ∷ xs)))

pub arguments_again : (limit : ℕ) (xs : List Argument) (ts rest : List Token) → SpellsArguments xs ts rest → arguments_of limit ts ≡ Some (kept_arguments limit xs, rest)
unfolding arguments_of some_arguments_of kept_list after
arguments_again limit [] ts rest e = rw e
arguments_again limit (x ∷ xs) ts rest (us, s, more) =
    rw (argument_begins x ts us s)
    (more_again limit xs x (length ts) ([], 0) ts us rest s more (omega (arith, others_count xs us rest more, argument_length x ts us s))
    ∙ ap (λ w. Some (w, rest)) (glued_start (kept_arguments limit (x ∷ xs))))
