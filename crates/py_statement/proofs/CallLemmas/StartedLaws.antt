-- The laws of reading started calls.
use Rattle.std.proofs.Common.{◌≡◌, ℕ, ◌+◌, List, [], ◌∷◌, Option, Some, None, refl, sym, ap, ◌∙◌, arith, ◌⊎◌, inl, inr, subst, true, false, Bool, ◌&&◌, if◌then◌else◌}
use Rattle.std.specs.Prelude.{codes}
use Rattle.std.specs.Str.{bytes_eq}
use Rattle.py_syntax.specs.ExpressionTrees.{Tree, Constant, FormatString, Name, Bracketed, Attribute, Subscript, Call, MethodCall, Unary, Infix, Trees, NoTree, Then}
use Rattle.py_syntax.specs.ExpressionTables.{prefix_level, function_name, method_of}
use Rattle.py_syntax.specs.ExpressionSpells.{level, Closes, Spells, SpellArguments, SpellOthers}
use Rattle.py_syntax.specs.StatementTrees.{Argument, StartedCall, FunctionCall, ClockStart, QueuePut, QueueGet}
use Rattle.py_syntax.specs.CallForms.{call_tokens, method_tokens, in_order_behind, in_order, starts_clock, SpellsArguments, SpellsOthers, SpellsValues, SpellsStarted}
use Rattle.py_syntax.specs.declared.expression.Function.{Function}
use Rattle.py_syntax.specs.declared.operator.Operator.TheVariants as operator
use Rattle.py_syntax.specs.declared.operator.Bracket.TheVariants as bracket
use Rattle.py_syntax.specs.declared.token.Token.{Token}
use Rattle.py_syntax.specs.declared.token.Token.TheVariants as token
use Rattle.py_expression.specs.Phrase.Marks.{after, after_close}
use Rattle.py_expression.specs.Ends.{IsPlain}
use Rattle.py_expression.proofs.Tables.{prefix_range, level_below}
use Rattle.py_expression.proofs.PhraseLemmas.Facts.{some_same, after_close_is, bytes_are}
use Rattle.py_statement.specs.Call.Kept.{kept, of_one, of_two, given_as, kept_list, kept_arguments, kept_started}
use Rattle.py_statement.specs.Call.Chosen.{also, or_else, closed}
use Rattle.py_statement.specs.Call.Words.{call_at, is_end}
use Rattle.py_statement.specs.Call.Reading.{arguments_of, only_value_of, method_at, function_call_by, function_call_of, clock_start_by, clock_start_of, queue_put_of, queue_get_of, method_start_by, method_start_of, started_of, closed_start_of}
use Rattle.py_statement.proofs.CallLemmas.Chosen.{not_some, also_is, made_is, or_is, choice_is, and_is, closed_is, closed_again}
use Rattle.py_statement.proofs.CallLemmas.ArgumentLaws.{arguments_sound, arguments_again}
use Rattle.py_statement.proofs.CallLemmas.ValueListLaws.{only_value_sound, only_value_again}
use Rattle.py_statement.proofs.CallLemmas.MethodLaws.{method_sound, method_again}
use Rattle.py_statement.proofs.CallLemmas.WordLaws.{call_at_is, closes_end}

-- ---- what is kept of arguments has their names

in_order_kept : (limit : ℕ) (named : Bool) (xs : List Argument) → in_order_behind named (kept_arguments limit xs).0 ≡ in_order_behind named xs
unfolding in_order_behind kept_list
in_order_kept limit named [] = refl
in_order_kept limit named (x ∷ xs) = rw (in_order_kept limit true xs, in_order_kept limit false xs)

clock_kept : (limit : ℕ) (xs : List Argument) → starts_clock (kept_arguments limit xs).0 ≡ starts_clock xs
unfolding starts_clock kept_list
clock_kept limit [] = refl
clock_kept limit (x ∷ []) = refl
clock_kept limit (x ∷ y ∷ []) = refl
clock_kept limit (x ∷ y ∷ z ∷ xs) = refl

-- ---- the call of a function

function_call_is : (limit : ℕ) (ts rest : List Token) (v : StartedCall × ℕ) → function_call_of limit ts ≡ Some (v, rest)
    → (n : List ℕ) × (us : List Token) × (xs : List Argument) × (ts ≡ call_tokens n us) × SpellsArguments xs us rest × (in_order xs ≡ true) × (is_end rest ≡ true)
    × (v ≡ kept_started limit (FunctionCall n xs))
unfolding function_call_of function_call_by after
function_call_is limit ts rest v h =
    let (c, a, b) = also_is (call_at ts) (λ d. also (arguments_of limit d.1) (function_call_by d.0)) (v, rest) h in
    let (y, d, e) = also_is (arguments_of limit c.1) (function_call_by c.0) (v, rest) b in
    let (p, same) = choice_is (in_order y.0.0 && is_end y.1) (of_one (FunctionCall c.0) y.0, y.1) (v, rest) e in
    let (order, end) = and_is (in_order y.0.0) (is_end y.1) p in
    let (xs, s, k) = arguments_sound limit c.1 y.1 y.0 d in
    let rests : y.1 ≡ rest = ap (λ (w : (StartedCall × ℕ) × List Token). w.1) same in (
      c.0,
      c.1,
      xs,
      call_at_is ts c a,
      subst (λ us. SpellsArguments xs c.1 us) rests s,
      sym (in_order_kept limit false xs) ∙ ap (λ (w : List Argument × ℕ). in_order w.0) (sym k) ∙ order,
      ap is_end (sym rests) ∙ end,
      sym (ap (λ (w : (StartedCall × ℕ) × List Token). w.0) same) ∙ ap (λ w. of_one (FunctionCall c.0) w) k,
    )

function_call_sound : (limit : ℕ) (ts rest : List Token) (v : StartedCall × ℕ) → function_call_of limit ts ≡ Some (v, rest) → (f : StartedCall) × SpellsStarted f ts rest × (v ≡ kept_started limit f)
function_call_sound limit ts rest v h =
    let (n, us, xs, e, s, order, end, k) = function_call_is limit ts rest v h in (FunctionCall n xs, (us, e, s, order), k)

function_call_again : (limit : ℕ) (n : List ℕ) (xs : List Argument) (ts rest : List Token) → SpellsStarted (FunctionCall n xs) ts rest → is_end rest ≡ true
    → function_call_of limit ts ≡ Some (kept_started limit (FunctionCall n xs), rest)
unfolding function_call_of function_call_by after
function_call_again limit n xs ts rest (us, e, s, order) end = rw (e, arguments_again limit xs us rest s, in_order_kept limit false xs, order, end)

-- ---- the start of a clock, a put and a get

abbrev pub Found : ℕ → List Token → List Token → StartedCall × ℕ → Type 0
Found limit ts rest v = (f : StartedCall) × SpellsStarted f ts rest × (v ≡ kept_started limit f)

clock_start_sound : (limit : ℕ) (t : Tree) (ts us rest : List Token) (v : StartedCall × ℕ) → Spells t ts (method_tokens (codes "start") us) → level t ≡ 12
    → clock_start_of limit (kept limit t) us ≡ Some (v, rest) → Found limit ts rest v
unfolding clock_start_of clock_start_by after
clock_start_sound limit t ts us rest v st l h =
    let (y, i, j) = also_is (arguments_of limit us) (clock_start_by (kept limit t)) (v, rest) h in
    let (p, same) = choice_is (starts_clock y.0.0) (of_two ClockStart (kept limit t) y.0, y.1) (v, rest) j in
    let (xs, s, k) = arguments_sound limit us y.1 y.0 i in (
      ClockStart t xs,
      (
        method_tokens (codes "start") us,
        us,
        st,
        l,
        refl,
        subst (λ ws. SpellsArguments xs us ws) (ap (λ (w : (StartedCall × ℕ) × List Token). w.1) same) s,
        sym (clock_kept limit xs) ∙ ap (λ (w : List Argument × ℕ). starts_clock w.0) (sym k) ∙ p,
      ),
      sym (ap (λ (w : (StartedCall × ℕ) × List Token). w.0) same) ∙ ap (λ w. of_two ClockStart (kept limit t) w) k,
    )

queue_put_sound : (limit : ℕ) (t : Tree) (ts us rest : List Token) (v : StartedCall × ℕ) → Spells t ts (method_tokens (codes "put") us) → level t ≡ 12
    → queue_put_of limit (kept limit t) us ≡ Some (v, rest) → Found limit ts rest v
unfolding queue_put_of after
queue_put_sound limit t ts us rest v st l h =
    let (x, a, b) = made_is (only_value_of limit us) (λ y. (of_two QueuePut (kept limit t) y.0, y.1)) (v, rest) h in
    let (e, s, k) = only_value_sound limit us x.1 x.0 a in (
      QueuePut t e,
      (method_tokens (codes "put") us, us, st, l, refl, subst (λ ws. SpellsValues (e ∷ []) us ws) (ap (λ (w : (StartedCall × ℕ) × List Token). w.1) b) s),
      sym (ap (λ (w : (StartedCall × ℕ) × List Token). w.0) b) ∙ ap (λ w. of_two QueuePut (kept limit t) w) k,
    )

queue_get_sound : (limit : ℕ) (t : Tree) (ts us rest : List Token) (v : StartedCall × ℕ) → Spells t ts (method_tokens (codes "get") us) → level t ≡ 12
    → queue_get_of (kept limit t) us ≡ Some (v, rest) → Found limit ts rest v
unfolding queue_get_of after
queue_get_sound limit t ts us rest v st l h =
    let (ws, a, b) = made_is (after_close us) (λ zs. (of_one QueueGet (kept limit t), zs)) (v, rest) h in
    let close : us ≡ token.Close bracket.Round ∷ rest = after_close_is us ws a ∙ ap (λ (w : (StartedCall × ℕ) × List Token). token.Close bracket.Round ∷ w.1) b in
    (QueueGet t, (method_tokens (codes "get") us, st, l, ap (λ zs. method_tokens (codes "get") zs) close), sym (ap (λ (w : (StartedCall × ℕ) × List Token). w.0) b))

named : (t : Tree) (name word : List ℕ) (ts us : List Token) → bytes_eq name word ≡ true → Spells t ts (method_tokens name us) → Spells t ts (method_tokens word us)
named t name word ts us h s = subst (λ n. Spells t ts (method_tokens n us)) (bytes_are name word h) s

method_by_sound : (limit : ℕ) (t : Tree) (name : List ℕ) (ts us rest : List Token) (v : StartedCall × ℕ) → Spells t ts (method_tokens name us) → level t ≡ 12
    → method_start_by limit (kept limit t) name us ≡ Some (v, rest) → Found limit ts rest v
unfolding method_start_by
method_by_sound limit t name ts us rest v s l h = go (bytes_eq name (codes "start")) (bytes_eq name (codes "put")) (bytes_eq name (codes "get")) refl refl refl h
  where
    go : (p q r : Bool) → bytes_eq name (codes "start") ≡ p → bytes_eq name (codes "put") ≡ q → bytes_eq name (codes "get") ≡ r
        → (if p then clock_start_of limit (kept limit t) us else (if q then queue_put_of limit (kept limit t) us else (if r then queue_get_of (kept limit t) us else None))) ≡ Some (v, rest)
        → Found limit ts rest v
    go true q r hp hq hr k = clock_start_sound limit t ts us rest v (named t name (codes "start") ts us hp s) l k
    go false true r hp hq hr k = queue_put_sound limit t ts us rest v (named t name (codes "put") ts us hq s) l k
    go false false true hp hq hr k = queue_get_sound limit t ts us rest v (named t name (codes "get") ts us hr s) l k
    go false false false hp hq hr k = absurd (not_some k)

method_start_sound : (limit : ℕ) (ts rest : List Token) (v : StartedCall × ℕ) → method_start_of limit ts ≡ Some (v, rest) → Found limit ts rest v
unfolding method_start_of
method_start_sound limit ts rest v h =
    let (m, a, b) = also_is (method_at limit ts) (λ n. method_start_by limit n.0 n.1.0 n.1.1) (v, rest) h in
    let (t, s, l, k) = method_sound limit ts m a in
    method_by_sound limit t m.1.0 ts m.1.1 rest v s l (sym (ap (λ e. method_start_by limit e m.1.0 m.1.1) k) ∙ b)

start_plain : (e : Tree) → IsPlain (Attribute e (codes "start"))
unfolding IsPlain method_of
start_plain e = refl

put_plain : (e : Tree) → IsPlain (Attribute e (codes "put"))
unfolding IsPlain method_of
put_plain e = refl

get_plain : (e : Tree) → IsPlain (Attribute e (codes "get"))
unfolding IsPlain method_of
get_plain e = refl

clock_start_again : (limit : ℕ) (e : Tree) (xs : List Argument) (ts us rest : List Token) → Spells e ts (method_tokens (codes "start") us) → level e ≡ 12
    → SpellsArguments xs us rest → starts_clock xs ≡ true → method_start_of limit ts ≡ Some (kept_started limit (ClockStart e xs), rest)
unfolding method_start_of method_start_by clock_start_of clock_start_by
clock_start_again limit e xs ts us rest s l sa fits =
    rw (method_again limit e (codes "start") ts us s l (start_plain e), arguments_again limit xs us rest sa, clock_kept limit xs, fits)

queue_put_again : (limit : ℕ) (e x : Tree) (ts us rest : List Token) → Spells e ts (method_tokens (codes "put") us) → level e ≡ 12
    → SpellsValues (x ∷ []) us rest → method_start_of limit ts ≡ Some (kept_started limit (QueuePut e x), rest)
unfolding method_start_of method_start_by queue_put_of
queue_put_again limit e x ts us rest s l sv = rw (method_again limit e (codes "put") ts us s l (put_plain e), only_value_again limit x us rest sv)

queue_get_again : (limit : ℕ) (e : Tree) (ts rest : List Token) → Spells e ts (method_tokens (codes "get") (token.Close bracket.Round ∷ rest)) → level e ≡ 12
    → method_start_of limit ts ≡ Some (kept_started limit (QueueGet e), rest)
unfolding method_start_of method_start_by queue_get_of after
queue_get_again limit e ts rest s l = rw (method_again limit e (codes "get") ts (token.Close bracket.Round ∷ rest) s l (get_plain e))

-- ---- a call at the front of a method's call

mutual
  unfolding SpellArguments SpellOthers

  any_arguments : (f : Function) (es : Trees) (ts rest : List Token) → SpellArguments f es ts rest → (xs : List Argument) × SpellsArguments xs ts rest
  any_arguments f NoTree ts rest (enough, e) = ([], e)
  any_arguments f (Then x es) ts rest (us, vs, takes, inl e, s, more) =
      let (xs, o) = any_others f 1 es vs rest more in (given_as None x ∷ xs, (vs, (us, e, s), o))
  any_arguments f (Then x es) ts rest (us, vs, takes, inr (name, at, e), s, more) =
      let (xs, o) = any_others f 1 es vs rest more in (given_as (Some name) x ∷ xs, (vs, (us, e, s), o))

  any_others : (f : Function) (n : ℕ) (es : Trees) (ts rest : List Token) → SpellOthers f n es ts rest → (xs : List Argument) × SpellsOthers xs ts rest
  any_others f n NoTree ts rest (enough, closes) = ([], closes)
  any_others f n (Then x es) ts rest (us, vs, ws, comma, takes, inl e, s, more) =
      let (xs, o) = any_others f (n + 1) es ws rest more in (given_as None x ∷ xs, (us, ws, comma, (vs, e, s), o))
  any_others f n (Then x es) ts rest (us, vs, ws, comma, takes, inr (name, at, e), s, more) =
      let (xs, o) = any_others f (n + 1) es ws rest more in (given_as (Some name) x ∷ xs, (us, ws, comma, (vs, e, s), o))

-- Behind `n(` the arguments of a call stand, and then the primary goes on, or ends.
abbrev pub Heads : List Token → List Token → Type 0
Heads us rest =
    (rest ≡ token.Open bracket.Round ∷ us)
    ⊎ ((xs : List Argument) × (mid : List Token) × SpellsArguments xs us mid × ((mid ≡ rest) ⊎ (is_end mid ≡ false)))

tail_same : (a b : Token) (ts us : List Token) → a ∷ ts ≡ b ∷ us → ts ≡ us
tail_same a b ts us e = cc

heads_more : (us vs ws : List Token) → Heads us vs → (vs ≡ token.Open bracket.Round ∷ us → ⊥) → is_end vs ≡ false → Heads us ws
heads_more us vs ws (inl e) never end = absurd (never e)
heads_more us vs ws (inr (xs, mid, s, inl e)) never end = inr (xs, mid, s, inr (ap is_end e ∙ end))
heads_more us vs ws (inr (xs, mid, s, inr e)) never end = inr (xs, mid, s, inr e)

no_dot : (us vs ws : List Token) → vs ≡ token.Operator operator.Dot ∷ ws → vs ≡ token.Open bracket.Round ∷ us → ⊥
no_dot us vs ws a b = cc

no_square : (us vs ws : List Token) → vs ≡ token.Open bracket.Square ∷ ws → vs ≡ token.Open bracket.Round ∷ us → ⊥
no_square us vs ws a b = cc

heads : (e : Tree) (n : List ℕ) (us rest : List Token) → level e ≡ 12 → Spells e (call_tokens n us) rest → Heads us rest
unfolding Spells level
heads (Constant c) n us rest l (t, is, e) = inl (sym (tail_same (token.Name n) t (token.Open bracket.Round ∷ us) rest e))
heads (FormatString ps) n us rest l (vs, e, more) = absurd cc
heads (Name m) n us rest l e = inl (sym (tail_same (token.Name n) (token.Name m) (token.Open bracket.Round ∷ us) rest e))
heads (Bracketed x) n us rest l (vs, ws, e, s, close) = absurd cc
heads (Attribute x m) n us rest l (vs, s, k, e) = heads_more us vs rest (heads x n us vs k s) (no_dot us vs _ e) (rw e)
heads (Subscript x i) n us rest l (vs, ws, zs, s, k, e, si, close) = heads_more us vs rest (heads x n us vs k s) (no_square us vs _ e) (rw e)
heads (Call f es) n us rest l (vs, e, more) =
    let (xs, s) = any_arguments f es vs rest more in
    let same : us ≡ vs = tail_same (token.Open bracket.Round) (token.Open bracket.Round) us vs (tail_same (token.Name n) (token.Name (function_name f)) _ _ e) in
    inr (xs, rest, subst (λ ws. SpellsArguments xs ws rest) (sym same) s, inl refl)
heads (MethodCall x m) n us rest l (vs, s, k, e) = heads_more us vs rest (heads x n us vs k s) (no_dot us vs _ e) (rw e)
heads (Unary op x) n us rest l s = go (prefix_range op)
  where
    go : (prefix_level op ≡ 3) ⊎ (prefix_level op ≡ 11) → Heads us rest
    go (inl k) = absurd (omega arith)
    go (inr k) = absurd (omega arith)
heads (Infix op x y) n us rest l s = absurd (omega (arith, (level_below op).1))

-- Where a method's call stands, no call of a function stands that ends as a started call does.
no_function_call : (limit : ℕ) (e : Tree) (name : List ℕ) (ts vs rest : List Token) (v : StartedCall × ℕ) → Spells e ts (method_tokens name vs) → level e ≡ 12
    → function_call_of limit ts ≡ Some (v, rest) → ⊥
no_function_call limit e name ts vs rest v s l h =
    let (n, us, xs, eq, sa, order, end, k) = function_call_is limit ts rest v h in
    go us xs sa end (heads e n us (method_tokens name vs) l (subst (λ ws. Spells e ws (method_tokens name vs)) eq s))
  where
    ends : (us mid : List Token) (xs ys : List Argument) → SpellsArguments xs us rest → SpellsArguments ys us mid → is_end rest ≡ true → is_end mid ≡ false → ⊥
    ends us mid xs ys a b does never =
        let same : rest ≡ mid = ap (λ (w : (List Argument × ℕ) × List Token). w.1) (some_same (sym (arguments_again limit xs us rest a) ∙ arguments_again limit ys us mid b)) in
        let both : true ≡ false = sym does ∙ ap is_end same ∙ never in cc

    go : (us : List Token) (xs : List Argument) → SpellsArguments xs us rest → is_end rest ≡ true → Heads us (method_tokens name vs) → ⊥
    go us xs sa end (inl eq) = no_dot us (method_tokens name vs) _ refl eq
    go us xs sa end (inr (ys, mid, sy, inl eq)) = ends us mid xs ys sa sy end (ap is_end eq)
    go us xs sa end (inr (ys, mid, sy, inr never)) = ends us mid xs ys sa sy end never

-- ---- a started call

pub started_sound : (limit : ℕ) (ts rest : List Token) (v : StartedCall × ℕ) → started_of limit ts ≡ Some (v, rest) → (f : StartedCall) × SpellsStarted f ts rest × (v ≡ kept_started limit f)
unfolding started_of
started_sound limit ts rest v h = go (or_is (function_call_of limit ts) (method_start_of limit ts) (v, rest) h)
  where
    go : (function_call_of limit ts ≡ Some (v, rest)) ⊎ ((function_call_of limit ts ≡ None) × (method_start_of limit ts ≡ Some (v, rest)))
        → (f : StartedCall) × SpellsStarted f ts rest × (v ≡ kept_started limit f)
    go (inl k) = function_call_sound limit ts rest v k
    go (inr k) = method_start_sound limit ts rest v k.1

method_only : (limit : ℕ) (e : Tree) (name : List ℕ) (ts vs : List Token) (v : (StartedCall × ℕ) × List Token) → Spells e ts (method_tokens name vs) → level e ≡ 12
    → method_start_of limit ts ≡ Some v → started_of limit ts ≡ Some v
unfolding started_of
method_only limit e name ts vs v s l h = go (function_call_of limit ts) refl
  where
    go : (o : Option ((StartedCall × ℕ) × List Token)) → function_call_of limit ts ≡ o → or_else o (method_start_of limit ts) ≡ Some v
    go None q = h
    go (Some y) q = absurd (no_function_call limit e name ts vs y.1 y.0 s l q)

pub started_again : (limit : ℕ) (f : StartedCall) (ts rest : List Token) → SpellsStarted f ts rest → is_end rest ≡ true → started_of limit ts ≡ Some (kept_started limit f, rest)
unfolding started_of
started_again limit (FunctionCall n xs) ts rest s end = rw (function_call_again limit n xs ts rest s end)
started_again limit (ClockStart e xs) ts rest (us, vs, s, l, eq, sa, fits) end =
    let st = subst (λ ws. Spells e ts ws) eq s in
    method_only limit e (codes "start") ts vs (kept_started limit (ClockStart e xs), rest) st l (clock_start_again limit e xs ts vs rest st l sa fits)
started_again limit (QueuePut e x) ts rest (us, vs, s, l, eq, sv) end =
    let st = subst (λ ws. Spells e ts ws) eq s in
    method_only limit e (codes "put") ts vs (kept_started limit (QueuePut e x), rest) st l (queue_put_again limit e x ts vs rest st l sv)
started_again limit (QueueGet e) ts rest (us, s, l, eq) end =
    let st = subst (λ ws. Spells e ts ws) eq s in
    method_only limit e (codes "get") ts (token.Close bracket.Round ∷ rest) (kept_started limit (QueueGet e), rest) st l (queue_get_again limit e ts rest st l)

pub closed_start_sound : (limit : ℕ) (ts : List Token) (v : StartedCall × ℕ) → closed_start_of limit ts ≡ Some v → (f : StartedCall) × (us : List Token) × SpellsStarted f ts us × Closes us [] × (v ≡ kept_started limit f)
unfolding closed_start_of
closed_start_sound limit ts v h =
    let (x, a, b) = also_is (started_of limit ts) (λ y. closed y.0 y.1) v h in
    let (closes, same) = closed_is x.0 v x.1 b in
    let (f, s, k) = started_sound limit ts x.1 x.0 a in
    (f, x.1, s, closes, sym same ∙ k)

pub closed_start_again : (limit : ℕ) (f : StartedCall) (ts us : List Token) → SpellsStarted f ts us → Closes us [] → closed_start_of limit ts ≡ Some (kept_started limit f)
unfolding closed_start_of
closed_start_again limit f ts us s closes = rw (started_again limit f ts us s (closes_end us [] closes)) (closed_again (kept_started limit f) us closes)
