-- What a tree spells is read as that tree, if no token follows that goes on with it.
use Rattle.std.proofs.Common.{◌≡◌, ℕ, ◌+◌, ◌-◌, ◌*◌, ◌<◌, ◌≤◌, ◌^◌, List, [], ◌∷◌, length, Option, Some, None, refl, sym, ap, ◌∙◌, arith, ◌⊎◌, inl, inr, true, false, pos, negsuc, subst, if◌then◌else◌}
use Rattle.std.specs.Prelude.{nat_le, nat_lt}
use Rattle.py_syntax.specs.ExpressionTrees.{Tree, Constant, FormatString, Name, Bracketed, Attribute, Subscript, Call, MethodCall, Unary, Infix, Trees, NoTree, Then, Parts, NoPart, TextThen, FormattedThen}
use Rattle.py_syntax.specs.ExpressionTables.{level_of, prefix_level, prefix_token, function_name, function_of, method_name, method_of, takes_argument, has_enough, name_at}
use Rattle.py_syntax.specs.ExpressionSpells.{level, IsConstant, Closes, Begins, Spells, SpellArguments, SpellOthers, SpellParts}
use Rattle.py_syntax.specs.declared.constant.Const.{Const}
use Rattle.py_syntax.specs.declared.constant.Const.TheVariants as constants
use Rattle.py_syntax.specs.declared.operator.Bracket.TheVariants as bracket
use Rattle.py_syntax.specs.declared.operator.Operator.TheVariants as operator
use Rattle.py_syntax.specs.declared.token.Token.{Token}
use Rattle.py_syntax.specs.declared.token.Token.TheVariants as token
use Rattle.py_syntax.specs.declared.expression.UnOp.{UnOp}
use Rattle.py_syntax.specs.declared.expression.Operation.{Operation}
use Rattle.py_syntax.specs.declared.expression.Function.{Function}
use Rattle.py_syntax.specs.declared.expression.Method.{Method}
use Rattle.py_expression.specs.Shown as node
use Rattle.py_expression.specs.Shown.{Shown, ShownTrees, shown, snoc, joined}
use Rattle.py_expression.specs.Frames.{Frame, prefix, infix_op, brackets, subscript, call, format, wanted, Spot}
use Rattle.py_expression.specs.Tokens.{operation_at, attribute_at}
use Rattle.py_expression.specs.Phrase.Marks.{after, after_open, after_close, after_open_square, after_assign, after_last, named_at}
use Rattle.py_expression.specs.Reading.{run, read_of, start, wanted_of, begin_of, name_of, name_by, call_of, call_end, argument_of, argument_begin, argument_by, follow_of, attribute_of, attribute_by, close_of, behind_argument, parts_of, opened, frame, behind_primary, behind_operand, in_format}
use Rattle.py_expression.specs.Ends.{operation_level, front, NoTail, IsPlain, IsUncalled, Stops}
use Rattle.py_expression.proofs.Nodes.{shown_constant, shown_name, shown_bracketed, shown_attribute, shown_method_call, shown_subscript, shown_unary, shown_infix, shown_call, shown_format, shown_trees, shown_with_tree, shown_parts, shown_with_text, shown_with_formatted, each_shown, count_of, greatest, each_part, greatest_part, followed, followed_snoc, followed_none, count_snoc, joined_assoc, joined_none}
use Rattle.py_expression.proofs.Tables.{prefix_again, function_again, method_again, operation_again, operation_length, level_below, level_not_three, left_at_least, prefix_range}
use Rattle.py_expression.proofs.PhraseLemmas.Facts.{bytes_same}
use Rattle.py_expression.proofs.Starts.{operation_plain, starts}
use Rattle.py_expression.proofs.Steps.{run_done}
use Rattle.py_expression.proofs.Leads.{Leads, leads_then, leads_here, leads_step, wanted_step, follow_step, parts_step, infix_step, close_step, done_step, operand_step}

abbrev pub await : List Frame → ℕ → List Token → Spot
await stack least ts = record { stack = stack; least = least; point = wanted; rest = ts }

abbrev pub PrimaryReads : ℕ → Tree → Type 0
PrimaryReads limit e = (stack : List Frame) (least : ℕ) (ts rest : List Token) (n k : ℕ) → Spells e ts rest → IsUncalled e rest → 2 * length ts + k ≤ n
    → Leads limit (2 * length rest + 1 + k) n (await stack least ts) (behind_primary stack least (shown limit e) rest)

abbrev pub OperandReads : ℕ → Tree → Type 0
OperandReads limit e = (stack : List Frame) (least : ℕ) (ts rest : List Token) (n k : ℕ) → Spells e ts rest → least ≤ level e → front rest ≤ level e
    → NoTail rest → IsUncalled e rest → 2 * length ts + k ≤ n
    → Leads limit (2 * length rest + k) n (await stack least ts) (behind_operand stack least (shown limit e) (level e) rest)

pub record Reads (limit : ℕ) (e : Tree) : Type 0 where
  pub primary : level e ≡ 12 → PrimaryReads limit e
  pub operand : OperandReads limit e

pub primary_reads : (limit : ℕ) (e : Tree) → level e ≡ 12 → PrimaryReads limit e → Reads limit e
primary_reads limit e l p = record {
  primary = λ _. p;
  operand = λ stack least ts rest n k s b f t u h.
      leads_then limit (2 * length rest + 1 + k) (2 * length rest + k) n _ _ _ (p stack least ts rest n k s u h)
      (λ m hm. rw l (leads_step limit (2 * length rest + k) m _ (behind_operand stack least (shown limit e) 12 rest) _ (operand_step limit stack least (shown limit e) rest t) (omega arith) (leads_here limit _ _ _ (omega arith))));
}

-- a token that ends whatever stands before it
abbrev pub Quiet : List Token → Type 0
Quiet ts = (front ts ≡ 0) × (attribute_at ts ≡ None) × (after_open_square ts ≡ None) × (after_open ts ≡ None)

pub quiet_close : (ts : List Token) → Quiet (token.Close bracket.Round ∷ ts)
unfolding operation_at after
quiet_close ts = (refl, refl, refl, refl)

pub quiet_close_square : (ts : List Token) → Quiet (token.Close bracket.Square ∷ ts)
unfolding operation_at after
quiet_close_square ts = (refl, refl, refl, refl)

pub quiet_format_close : (ts : List Token) → Quiet (token.FormatClose ∷ ts)
unfolding operation_at after
quiet_format_close ts = (refl, refl, refl, refl)

pub quiet_comma : (ts : List Token) → Quiet (token.Operator operator.Comma ∷ ts)
unfolding operation_at after
quiet_comma ts = (refl, refl, refl, refl)

length_one : (ts us : List Token) (t : Token) → ts ≡ t ∷ us → length ts ≡ length us + 1
length_one ts us t e = rw e (omega arith)

-- an operator, function or part begins with a token
leads_token : (limit need n : ℕ) (stack : List Frame) (least : ℕ) (t : Token) (ts us : List Token) (s u : Spot)
    → ts ≡ t ∷ us → wanted_of limit stack least (t ∷ us) ≡ Some s → 1 ≤ n → Leads limit need (n - 1) s u → Leads limit need n (await stack least ts) u
leads_token limit need n stack least t ts us s u e w h k = leads_step limit need n (await stack least ts) s u (wanted_step limit stack least ts s (rw e w)) h k

pub level_positive : (e : Tree) → 1 ≤ level e
unfolding level
level_positive (Unary op e) = go (prefix_range op)
  where
    go : (prefix_level op ≡ 3) ⊎ (prefix_level op ≡ 11) → 1 ≤ prefix_level op
    go (inl h) = omega arith
    go (inr h) = omega arith
level_positive (Infix op l r) = (level_below op).0
level_positive (Constant c) = omega arith
level_positive (FormatString ps) = omega arith
level_positive (Name n) = omega arith
level_positive (Bracketed e) = omega arith
level_positive (Attribute e n) = omega arith
level_positive (Subscript e i) = omega arith
level_positive (Call f es) = omega arith
level_positive (MethodCall e m) = omega arith

-- an expression inside of an opened node, up to the token that closes it
inner : (limit : ℕ) (e : Tree) → OperandReads limit e → (stack : List Frame) (f : Frame) (us vs : List Token) (s : Spot) (need n k : ℕ) → Spells e us vs → Quiet vs
    → 2 * length us + k ≤ n → need + 1 ≤ 2 * length vs + k → close_of limit stack f.least f.opened (shown limit e) vs ≡ Some s → Leads limit need n (await (f ∷ stack) 1 us) s
unfolding after
inner limit e ih stack f us vs s need n k sp q h l c =
    leads_then limit (2 * length vs + k) need n _ _ _
    (ih (f ∷ stack) 1 us vs n k sp (level_positive e) (omega (arith, q.0)) (q.1, q.2) (inl q.3) h)
    (λ m hm. leads_step limit need m _ s _ (close_step limit stack f 1 (level e) (shown limit e) vs s (omega (arith, q.0)) c) (omega arith) (leads_here limit _ _ _ (omega arith)))

-- Leaves.

if_less : {A : Type 0} → (n m : ℕ) (a b : A) → n < m → (if nat_lt n m then a else b) ≡ a
if_less n m a b h = grind arith

wanted_constant : (limit : ℕ) (c : Const) (stack : List Frame) (least : ℕ) (t : Token) (rest : List Token) → IsConstant c t
    → wanted_of limit stack least (t ∷ rest) ≡ Some (behind_primary stack least (node.constant c) rest)
unfolding wanted_of begin_of after
wanted_constant limit constants.Absent stack least t rest h = rw h
wanted_constant limit (constants.Truth true) stack least t rest h = rw h
wanted_constant limit (constants.Truth false) stack least t rest h = rw h
wanted_constant limit (constants.Whole (pos n)) stack least t rest h = rw (h.0, if_less n (2 ^ 127) (Some (constants.Whole (pos n))) None h.1)
wanted_constant limit (constants.Whole (negsuc n)) stack least t rest h = absurd h
wanted_constant limit (constants.Text bytes) stack least t rest h = rw h
wanted_constant limit (constants.Named n) stack least t rest h = absurd h

constant_reads : (limit : ℕ) (c : Const) → PrimaryReads limit (Constant c)
unfolding Spells
constant_reads limit c stack least ts rest n k (t, is, e) u h =
    let l : length ts ≡ length rest + 1 = length_one ts rest t e in
    leads_token limit _ n stack least t ts rest (behind_primary stack least (shown limit (Constant c)) rest) _ e
    (wanted_constant limit c stack least t rest is ∙ ap (λ v. Some (behind_primary stack least v rest)) (shown_constant limit c)) (omega arith) (leads_here limit _ _ _ (omega arith))

wanted_name : (limit : ℕ) (stack : List Frame) (least : ℕ) (n : List ℕ) (rest : List Token) → (after_open rest ≡ None) ⊎ (function_of n ≡ None)
    → wanted_of limit stack least (token.Name n ∷ rest) ≡ Some (behind_primary stack least (node.name n) rest)
unfolding wanted_of begin_of name_of after
wanted_name limit stack least n rest (inl h) = rw h (go (function_of n))
  where
    go : (o : Option Function) → name_by limit stack least n rest o None ≡ Some (behind_primary stack least (node.name n) rest)
    go None = refl
    go (Some f) = refl
wanted_name limit stack least n rest (inr h) = rw h

name_reads : (limit : ℕ) (n : List ℕ) → PrimaryReads limit (Name n)
unfolding Spells IsPlain
name_reads limit n stack least ts rest m k e u h =
    let l : length ts ≡ length rest + 1 = length_one ts rest (token.Name n) e in
    leads_token limit _ m stack least (token.Name n) ts rest (behind_primary stack least (shown limit (Name n)) rest) _ e
    (wanted_name limit stack least n rest u ∙ ap (λ v. Some (behind_primary stack least v rest)) (shown_name limit n)) (omega arith) (leads_here limit _ _ _ (omega arith))

-- Brackets, attributes, subscripts, methods.

bracketed_reads : (limit : ℕ) (e : Tree) → OperandReads limit e → PrimaryReads limit (Bracketed e)
unfolding Spells wanted_of begin_of close_of after
bracketed_reads limit e ih stack least ts rest n k (us, vs, a, s, b) u h =
    let la : length ts ≡ length us + 1 = length_one ts us (token.Open bracket.Round) a in
    let lb : length vs ≡ length rest + 1 = length_one vs rest (token.Close bracket.Round) b in
    leads_token limit _ n stack least (token.Open bracket.Round) ts us (opened stack (frame brackets least) 1 us) _ a refl (omega arith)
    (inner limit e ih stack (frame brackets least) us vs _ _ (n - 1) (k + 1) s (rw b (quiet_close rest)) (omega arith) (omega arith)
    (rw b (ap (λ v. Some (behind_primary stack least v rest)) (shown_bracketed limit e))))

follow_attribute : (limit : ℕ) (stack : List Frame) (least : ℕ) (v : Shown) (n : List ℕ) (rest : List Token) → (after_open rest ≡ None) ⊎ (method_of n ≡ None)
    → follow_of limit stack least v (token.Operator operator.Dot ∷ token.Name n ∷ rest) ≡ behind_primary stack least (node.attribute limit v n) rest
unfolding follow_of attribute_of after
follow_attribute limit stack least v n rest (inl h) = rw h (go (method_of n))
  where
    go : (o : Option Method) → attribute_by limit stack least v n rest o None ≡ behind_primary stack least (node.attribute limit v n) rest
    go None = refl
    go (Some m) = refl
follow_attribute limit stack least v n rest (inr h) = rw h

attribute_reads : (limit : ℕ) (e : Tree) (n : List ℕ) → (level e ≡ 12 → PrimaryReads limit e) → PrimaryReads limit (Attribute e n)
unfolding Spells IsPlain after
attribute_reads limit e n ih stack least ts rest m k (us, s, l, a) u h =
    let la : length us ≡ length rest + 2 = rw a (omega arith) in
    leads_then limit (2 * length us + 1 + k) (2 * length rest + 1 + k) m _ _ _ (ih l stack least ts us m k s (inl (rw a)) h)
    (λ m2 h2. leads_step limit _ m2 _ (behind_primary stack least (shown limit (Attribute e n)) rest) _
    (follow_step limit stack least (shown limit e) us _ (rw a (follow_attribute limit stack least (shown limit e) n rest u ∙ ap (λ v. behind_primary stack least v rest) (shown_attribute limit e n)))) (omega arith)
    (leads_here limit _ _ _ (omega arith)))

follow_method : (limit : ℕ) (stack : List Frame) (least : ℕ) (v : Shown) (m : Method) (rest : List Token)
    → follow_of limit stack least v (token.Operator operator.Dot ∷ token.Name (method_name m) ∷ token.Open bracket.Round ∷ token.Close bracket.Round ∷ rest)
    ≡ behind_primary stack least (node.method_call limit v m) rest
unfolding follow_of attribute_of after
follow_method limit stack least v m rest = rw (method_again m)

method_reads : (limit : ℕ) (e : Tree) (x : Method) → (level e ≡ 12 → PrimaryReads limit e) → PrimaryReads limit (MethodCall e x)
unfolding Spells after
method_reads limit e x ih stack least ts rest m k (us, s, l, a) u h =
    let la : length us ≡ length rest + 4 = rw a (omega arith) in
    leads_then limit (2 * length us + 1 + k) (2 * length rest + 1 + k) m _ _ _ (ih l stack least ts us m k s (inl (rw a)) h)
    (λ m2 h2. leads_step limit _ m2 _ (behind_primary stack least (shown limit (MethodCall e x)) rest) _
    (follow_step limit stack least (shown limit e) us _ (rw a (follow_method limit stack least (shown limit e) x rest ∙ ap (λ v. behind_primary stack least v rest) (shown_method_call limit e x)))) (omega arith)
    (leads_here limit _ _ _ (omega arith)))

subscript_reads : (limit : ℕ) (e i : Tree) → (level e ≡ 12 → PrimaryReads limit e) → OperandReads limit i → PrimaryReads limit (Subscript e i)
unfolding Spells follow_of close_of after
subscript_reads limit e i ih ii stack least ts rest n k (us, vs, ws, s, l, a, si, b) u h =
    let la : length us ≡ length vs + 1 = length_one us vs (token.Open bracket.Square) a in
    let lb : length ws ≡ length rest + 1 = length_one ws rest (token.Close bracket.Square) b in
    leads_then limit (2 * length us + 1 + k) (2 * length rest + 1 + k) n _ _ _ (ih l stack least ts us n k s (inl (rw a)) h)
    (λ m hm. leads_step limit _ m _ (opened stack (frame (subscript (shown limit e)) least) 1 vs) _ (follow_step limit stack least (shown limit e) us _ (rw a)) (omega arith)
    (inner limit i ii stack (frame (subscript (shown limit e)) least) vs ws _ _ (m - 1) (k + 1) si (rw b (quiet_close_square rest)) (omega arith) (omega arith)
    (rw b (ap (λ v. Some (behind_primary stack least v rest)) (shown_subscript limit e i)))))

-- Operators.

if_at_most : {A : Type 0} → (n m : ℕ) (a b : A) → n ≤ m → (if nat_le n m then a else b) ≡ a
if_at_most n m a b h = grind arith

wanted_prefix : (limit : ℕ) (op : UnOp) (stack : List Frame) (least : ℕ) (ts : List Token) → least ≤ prefix_level op
    → wanted_of limit stack least (prefix_token op ∷ ts) ≡ Some (opened stack (frame (prefix op) least) (prefix_level op) ts)
unfolding wanted_of
wanted_prefix limit op stack least ts h = rw (prefix_again op) (if_at_most least (prefix_level op) (Some (opened stack (frame (prefix op) least) (prefix_level op) ts)) None h)

front_small : (ts : List Token) → (front ts < 11) × (front ts ≡ 3 → ⊥)
unfolding after
front_small ts = go (operation_at ts)
  where
    go : (o : Option (Operation × List Token)) → (operation_level o < 11) × (operation_level o ≡ 3 → ⊥)
    go None = (omega arith, λ h. omega arith)
    go (Some x) = ((level_below x.0).1, level_not_three x.0)

front_below : (op : UnOp) (ts : List Token) → front ts ≤ prefix_level op → front ts < prefix_level op
unfolding after
front_below op ts h = go (prefix_range op) (at_most_or_more_of (front ts) (prefix_level op) h)
  where
    at_most_or_more_of : (a b : ℕ) → a ≤ b → (a < b) ⊎ (a ≡ b)
    at_most_or_more_of a b h = grind arith

    go : (prefix_level op ≡ 3) ⊎ (prefix_level op ≡ 11) → (front ts < prefix_level op) ⊎ (front ts ≡ prefix_level op) → front ts < prefix_level op
    go _ (inl l) = l
    go (inl a) (inr e) = absurd ((front_small ts).1 (e ∙ a))
    go (inr a) (inr e) = omega (arith, (front_small ts).0)

uncalled_again : (e : Tree) (rest : List Token) → (IsPlain e → ⊥) → IsUncalled e rest → after_open rest ≡ None
unfolding after
uncalled_again e rest never (inl h) = h
uncalled_again e rest never (inr h) = absurd (never h)

unary_reads : (limit : ℕ) (op : UnOp) (e : Tree) → OperandReads limit e → OperandReads limit (Unary op e)
unfolding Spells level IsPlain close_of
unary_reads limit op e ih stack least ts rest n k (us, a, s, l) b f t u h =
    let la : length ts ≡ length us + 1 = length_one ts us (prefix_token op) a in
    leads_token limit _ n stack least (prefix_token op) ts us (opened stack (frame (prefix op) least) (prefix_level op) us) _ a (wanted_prefix limit op stack least us b) (omega arith)
    (leads_then limit (2 * length rest + (k + 1)) (2 * length rest + k) (n - 1) _ _ _
    (ih (frame (prefix op) least ∷ stack) (prefix_level op) us rest (n - 1) (k + 1) s l (omega arith) t (inl (uncalled_again (Unary op e) rest (λ x. x) u)) (omega arith))
    (λ m hm. leads_step limit _ m _ (behind_operand stack least (shown limit (Unary op e)) (prefix_level op) rest) _
    (close_step limit stack (frame (prefix op) least) (prefix_level op) (level e) (shown limit e) rest _ (front_below op rest f)
    (ap (λ v. Some (behind_operand stack least v (prefix_level op) rest)) (shown_unary limit op e))) (omega arith)
    (leads_here limit _ _ _ (omega arith))))

infix_reads : (limit : ℕ) (op : Operation) (l r : Tree) → OperandReads limit l → OperandReads limit r → OperandReads limit (Infix op l r)
unfolding Spells level IsPlain close_of after
infix_reads limit op l r il ir stack least ts rest n k (us, vs, sl, ll, a, sr, lr) b f t u h =
    let at : operation_at us ≡ Some (op, vs) = rw a (operation_again op vs (λ q. (starts r vs rest sr).1 (omega arith))) in
    let plain = operation_plain op vs in
    let la : length vs + 1 ≤ length us = rw a (operation_length op vs) in
    leads_then limit (2 * length us + k) (2 * length rest + k) n _ _ _
    (il stack least ts us n k sl (omega (arith, left_at_least op)) (rw at (omega (arith, left_at_least op))) (rw a (plain.1, plain.2)) (inl (rw a plain.3)) h)
    (λ m hm. leads_step limit _ m _ (opened stack (frame (infix_op op (shown limit l)) least) (level_of op + 1) vs) _ (infix_step limit stack least (level l) (shown limit l) op us vs at b ll) (omega arith)
    (leads_then limit (2 * length rest + (k + 1)) (2 * length rest + k) (m - 1) _ _ _
    (ir (frame (infix_op op (shown limit l)) least ∷ stack) (level_of op + 1) vs rest (m - 1) (k + 1) sr (omega arith) (omega arith) t (inl (uncalled_again (Infix op l r) rest (λ x. x) u)) (omega arith))
    (λ j hj. leads_step limit _ j _ (behind_operand stack least (shown limit (Infix op l r)) (level_of op) rest) _
    (close_step limit stack (frame (infix_op op (shown limit l)) least) (level_of op + 1) (level r) (shown limit r) rest _ (omega arith)
    (ap (λ v. Some (behind_operand stack least v (level_of op) rest)) (shown_infix limit op l r))) (omega arith)
    (leads_here limit _ _ _ (omega arith)))))

-- Calls.

-- where an argument begins that is given by its place or by its name
begins_again : (f : Function) (n : ℕ) (us vs : List Token) → Begins f n us vs → named_at vs ≡ None → argument_begin f n us ≡ vs
unfolding after
begins_again f n us vs (inl e) h = rw e (go (name_at f n))
  where
    go : (o : Option (List ℕ)) → argument_by vs o ≡ vs
    go None = refl
    go (Some name) = rw h
begins_again f n us vs (inr (name, at, e)) h = rw (e, at, bytes_same name)

begins_open : (f : Function) (n : ℕ) (us vs : List Token) → Begins f n us vs → after_close vs ≡ None → after_close us ≡ None
unfolding after
begins_open f n us vs (inl e) h = rw e h
begins_open f n us vs (inr (name, at, e)) h = rw e

-- what ends an argument
others_quiet : (f : Function) (n : ℕ) (es : Trees) (ts rest : List Token) → SpellOthers f n es ts rest → Quiet ts × (after_assign ts ≡ None)
unfolding SpellOthers operation_at after
others_quiet f n NoTree ts rest (enough, inl e) = rw e ((refl, refl, refl, refl), refl)
others_quiet f n NoTree ts rest (enough, inr e) = rw e ((refl, refl, refl, refl), refl)
others_quiet f n (Then x es) ts rest (us, vs, ws, e, takes, begins, s, more) = rw e ((refl, refl, refl, refl), refl)

abbrev pub OthersRead : ℕ → Trees → Type 0
OthersRead limit es = (f : Function) (acc : Trees) (stack : List Frame) (least : ℕ) (here rest : List Token) (m : ℕ) → m ≡ count_of acc → SpellOthers f m es here rest
    → (s : Spot) × (behind_argument limit stack least f (shown_trees limit acc) here ≡ Some s)
    × ((n k : ℕ) → 2 * length here + k ≤ n + 1 → Leads limit (2 * length rest + 1 + k) n s (behind_primary stack least (shown limit (Call f (followed acc es))) rest))

call_end_is : (limit : ℕ) (f : Function) (acc : Trees) (stack : List Frame) (least : ℕ) (rest : List Token) → has_enough f (count_of acc) ≡ true
    → call_end limit stack least f (shown_trees limit acc) rest ≡ Some (behind_primary stack least (shown limit (Call f acc)) rest)
unfolding call_end
call_end_is limit f acc stack least rest h = rw h (ap (λ v. Some (behind_primary stack least v rest)) (shown_call limit f acc))

closes_again : (here rest : List Token) → Closes here rest → after_last here ≡ Some rest
unfolding after
closes_again here rest (inl e) = rw e
closes_again here rest (inr e) = rw e

closes_length : (here rest : List Token) → Closes here rest → length rest + 1 ≤ length here
closes_length here rest (inl e) = rw e (omega arith)
closes_length here rest (inr e) = rw e (omega arith)

others_end : (limit : ℕ) → OthersRead limit NoTree
unfolding SpellOthers behind_argument
others_end limit f acc stack least here rest m em (enough, closes) = (
  behind_primary stack least (shown limit (Call f acc)) rest,
  rw (closes_again here rest closes) (call_end_is limit f acc stack least rest (rw em at enough)),
  λ n k h. rw (followed_none acc) (leads_here limit _ _ _ (omega (arith, closes_length here rest closes))),
)

-- one more argument
argument_is : (limit : ℕ) (f : Function) (acc : Trees) (stack : List Frame) (least : ℕ) (us vs : List Token) → takes_argument f (count_of acc) ≡ true
    → argument_begin f (count_of acc) us ≡ vs
    → argument_of stack least f (shown_trees limit acc) us ≡ Some (opened stack (frame (call f (shown_trees limit acc)) least) 1 vs)
unfolding argument_of
argument_is limit f acc stack least us vs h e = rw (h, e)

begins_length : (f : Function) (n : ℕ) (us vs : List Token) → Begins f n us vs → length vs ≤ length us
begins_length f n us vs (inl e) = rw e (omega arith)
begins_length f n us vs (inr (name, at, e)) = rw e (omega arith)

-- an argument and those behind it, from where the argument begins
argument_reads : (limit : ℕ) (e : Tree) (es : Trees) → OperandReads limit e → OthersRead limit es
    → (f : Function) (acc : Trees) (stack : List Frame) (least : ℕ) (vs ws rest : List Token) (n k : ℕ) → Spells e vs ws → SpellOthers f (count_of acc + 1) es ws rest
    → 2 * length vs + k + 1 ≤ n
    → Leads limit (2 * length rest + 1 + k) n (await (frame (call f (shown_trees limit acc)) least ∷ stack) 1 vs) (behind_primary stack least (shown limit (Call f (followed acc (Then e es)))) rest)
unfolding close_of after
argument_reads limit e es ie ies f acc stack least vs ws rest n k s more h =
    let ih = ies f (snoc acc e) stack least ws rest (count_of acc + 1) (sym (count_snoc acc e)) more in
    leads_then limit (2 * length ws + k) (2 * length rest + 1 + k) n _ ih.0 _
    (inner limit e ie stack (frame (call f (shown_trees limit acc)) least) vs ws ih.0 (2 * length ws + k) n (k + 1) s (others_quiet f (count_of acc + 1) es ws rest more).0 (omega arith) (omega arith)
    (rw (shown_with_tree limit acc e) ih.1))
    (λ m hm. subst (λ es2. Leads limit (2 * length rest + 1 + k) m ih.0 (behind_primary stack least (shown limit (Call f es2)) rest)) (followed_snoc acc e es) (ih.2 m k (omega arith)))

others_more : (limit : ℕ) (e : Tree) (es : Trees) → OperandReads limit e → OthersRead limit es → OthersRead limit (Then e es)
unfolding SpellOthers behind_argument after
others_more limit e es ie ies f acc stack least here rest m em (us, vs, ws, eq, takes, begins, s, more) =
    let ends = others_quiet f (m + 1) es ws rest more in
    let st = starts e vs ws s in
    let closed : after_close us ≡ None = begins_open f m us vs begins st.0 in
    let lu : length here ≡ length us + 1 = length_one here us (token.Operator operator.Comma) eq in (
      opened stack (frame (call f (shown_trees limit acc)) least) 1 vs,
      rw (eq, closed) (argument_is limit f acc stack least us vs (rw em at takes) (rw em at (begins_again f m us vs begins (st.2 ends.1)))),
      λ n k h. argument_reads limit e es ie ies f acc stack least vs ws rest n k s (rw em at more) (omega (arith, begins_length f m us vs begins)),
    )

shown_none : (limit : ℕ) → shown_trees limit NoTree ≡ node.no_trees
unfolding each_shown count_of greatest
shown_none limit = refl

wanted_call : (limit : ℕ) (f : Function) (stack : List Frame) (least : ℕ) (us : List Token)
    → wanted_of limit stack least (token.Name (function_name f) ∷ token.Open bracket.Round ∷ us) ≡ call_of limit stack least f us
unfolding wanted_of begin_of name_of after
wanted_call limit f stack least us = rw (function_again f)

call_none_reads : (limit : ℕ) (f : Function) → PrimaryReads limit (Call f NoTree)
unfolding Spells SpellArguments call_of count_of after
call_none_reads limit f stack least ts rest n k (us, a, (enough, b)) u h =
    let la : length ts ≡ length us + 2 = rw a (omega arith) in
    let lb : length us ≡ length rest + 1 = length_one us rest (token.Close bracket.Round) b in
    leads_token limit _ n stack least (token.Name (function_name f)) ts (token.Open bracket.Round ∷ us) (behind_primary stack least (shown limit (Call f NoTree)) rest) _ a
    (wanted_call limit f stack least us ∙ rw (b, ← (shown_none limit)) (call_end_is limit f NoTree stack least rest enough)) (omega arith) (leads_here limit _ _ _ (omega arith))

call_some_reads : (limit : ℕ) (f : Function) (e : Tree) (es : Trees) → OperandReads limit e → OthersRead limit es → PrimaryReads limit (Call f (Then e es))
unfolding Spells SpellArguments call_of count_of followed after
call_some_reads limit f e es ie ies stack least ts rest n k (us, a, (vs, ws, takes, begins, s, more)) u h =
    let ends = others_quiet f 1 es ws rest more in
    let st = starts e vs ws s in
    let closed : after_close us ≡ None = begins_open f 0 us vs begins st.0 in
    let la : length ts ≡ length us + 2 = rw a (omega arith) in
    leads_token limit _ n stack least (token.Name (function_name f)) ts (token.Open bracket.Round ∷ us) (opened stack (frame (call f (shown_trees limit NoTree)) least) 1 vs) _ a
    (wanted_call limit f stack least us ∙ rw (closed, ← (shown_none limit)) (argument_is limit f NoTree stack least us vs takes (begins_again f 0 us vs begins (st.2 ends.1)))) (omega arith)
    (argument_reads limit e es ie ies f NoTree stack least vs ws rest (n - 1) k s more (omega (arith, begins_length f 0 us vs begins)))

-- F-strings.

abbrev pub PartsRead : ℕ → Parts → Type 0
PartsRead limit ps = (acc : Parts) (stack : List Frame) (least : ℕ) (here rest : List Token) (n k : ℕ) → SpellParts ps here rest → 2 * length here + k ≤ n
    → Leads limit (2 * length rest + 1 + k) n (in_format stack least (shown_parts limit acc) here) (behind_primary stack least (shown limit (FormatString (joined acc ps))) rest)

parts_end : (limit : ℕ) → PartsRead limit NoPart
unfolding SpellParts parts_of
parts_end limit acc stack least here rest n k e h =
    let l : length here ≡ length rest + 1 = length_one here rest token.FormatEnd e in
    leads_step limit _ n _ (behind_primary stack least (shown limit (FormatString acc)) rest) _
    (parts_step limit stack least (shown_parts limit acc) here _ (rw e (ap (λ v. Some (behind_primary stack least v rest)) (shown_format limit acc)))) (omega arith)
    (rw (joined_none acc) (leads_here limit _ _ _ (omega arith)))

parts_text : (limit : ℕ) (t : List ℕ) (ps : Parts) → PartsRead limit ps → PartsRead limit (TextThen t ps)
unfolding SpellParts parts_of joined
parts_text limit t ps ih acc stack least here rest n k (us, e, more) h =
    let l : length here ≡ length us + 1 = length_one here us (token.FormatText t) e in
    leads_step limit _ n _ (in_format stack least (shown_parts limit (joined acc (TextThen t NoPart))) us) _
    (parts_step limit stack least (shown_parts limit acc) here _ (rw e (ap (λ v. Some (in_format stack least v us)) (shown_with_text limit acc t)))) (omega arith)
    (subst (λ qs. Leads limit (2 * length rest + 1 + k) (n - 1) (in_format stack least (shown_parts limit (joined acc (TextThen t NoPart))) us) (behind_primary stack least (shown limit (FormatString qs)) rest))
    (joined_assoc acc (TextThen t NoPart) ps) (ih (joined acc (TextThen t NoPart)) stack least us rest (n - 1) k more (omega arith)))

parts_tree : (limit : ℕ) (e : Tree) (ps : Parts) → OperandReads limit e → PartsRead limit ps → PartsRead limit (FormattedThen e ps)
unfolding SpellParts parts_of joined close_of after
parts_tree limit e ps ie ih acc stack least here rest n k (us, vs, ws, a, s, b, more) h =
    let la : length here ≡ length us + 1 = length_one here us token.FormatOpen a in
    let lb : length vs ≡ length ws + 1 = length_one vs ws token.FormatClose b in
    leads_step limit _ n _ (opened stack (frame (format (shown_parts limit acc)) least) 1 us) _ (parts_step limit stack least (shown_parts limit acc) here _ (rw a)) (omega arith)
    (leads_then limit (2 * length ws + k) (2 * length rest + 1 + k) (n - 1) _ (in_format stack least (shown_parts limit (joined acc (FormattedThen e NoPart))) ws) _
    (inner limit e ie stack (frame (format (shown_parts limit acc)) least) us vs _ (2 * length ws + k) (n - 1) (k + 1) s (rw b (quiet_format_close ws)) (omega arith) (omega arith)
    (rw b (ap (λ v. Some (in_format stack least v ws)) (shown_with_formatted limit acc e))))
    (λ m hm. subst (λ qs. Leads limit (2 * length rest + 1 + k) m (in_format stack least (shown_parts limit (joined acc (FormattedThen e NoPart))) ws) (behind_primary stack least (shown limit (FormatString qs)) rest))
    (joined_assoc acc (FormattedThen e NoPart) ps) (ih (joined acc (FormattedThen e NoPart)) stack least ws rest m k more (omega arith))))

no_parts_shown : (limit : ℕ) → shown_parts limit NoPart ≡ node.no_parts
unfolding each_part greatest_part
no_parts_shown limit = refl

format_reads : (limit : ℕ) (ps : Parts) → PartsRead limit ps → PrimaryReads limit (FormatString ps)
unfolding Spells wanted_of begin_of joined after
format_reads limit ps ih stack least ts rest n k (us, a, more) u h =
    let la : length ts ≡ length us + 1 = length_one ts us token.FormatStart a in
    leads_token limit _ n stack least token.FormatStart ts us (in_format stack least (shown_parts limit NoPart) us) _ a (rw (no_parts_shown limit)) (omega arith)
    (leads_then limit (2 * length rest + 1 + k) (2 * length rest + 1 + k) (n - 1) _ _ _ (ih NoPart stack least us rest (n - 1) k more (omega arith)) (λ m hm. leads_here limit _ _ _ hm))

mutual
  unfolding level

  pub reads : (limit : ℕ) (e : Tree) → Reads limit e
  reads limit (Constant c) = primary_reads limit (Constant c) refl (constant_reads limit c)
  reads limit (FormatString ps) = primary_reads limit (FormatString ps) refl (format_reads limit ps (parts_read limit ps))
  reads limit (Name n) = primary_reads limit (Name n) refl (name_reads limit n)
  reads limit (Bracketed e) = primary_reads limit (Bracketed e) refl (bracketed_reads limit e (reads limit e).operand)
  reads limit (Attribute e n) = primary_reads limit (Attribute e n) refl (attribute_reads limit e n (reads limit e).primary)
  reads limit (Subscript e i) = primary_reads limit (Subscript e i) refl (subscript_reads limit e i (reads limit e).primary (reads limit i).operand)
  reads limit (Call f NoTree) = primary_reads limit (Call f NoTree) refl (call_none_reads limit f)
  reads limit (Call f (Then e es)) = primary_reads limit (Call f (Then e es)) refl (call_some_reads limit f e es (reads limit e).operand (others_read limit es))
  reads limit (MethodCall e m) = primary_reads limit (MethodCall e m) refl (method_reads limit e m (reads limit e).primary)
  reads limit (Unary op e) = record { primary = λ h. absurd (omega (arith, prefix_range op)); operand = unary_reads limit op e (reads limit e).operand }
  reads limit (Infix op l r) = record { primary = λ h. absurd (omega (arith, (level_below op).1)); operand = infix_reads limit op l r (reads limit l).operand (reads limit r).operand }

  pub others_read : (limit : ℕ) (es : Trees) → OthersRead limit es
  others_read limit NoTree = others_end limit
  others_read limit (Then e es) = others_more limit e es (reads limit e).operand (others_read limit es)

  pub parts_read : (limit : ℕ) (ps : Parts) → PartsRead limit ps
  parts_read limit NoPart = parts_end limit
  parts_read limit (TextThen t ps) = parts_text limit t ps (parts_read limit ps)
  parts_read limit (FormattedThen e ps) = parts_tree limit e ps (reads limit e).operand (parts_read limit ps)

pub read_again : (limit least : ℕ) (e : Tree) (ts rest : List Token) → Spells e ts rest → least ≤ level e → Stops least e rest → read_of limit least ts ≡ Some (shown limit e, rest)
unfolding read_of after
read_again limit least e ts rest s b stops =
    go ((reads limit e).operand [] least ts rest (2 * length ts + 1) 1 s b (omega (arith, stops.no_operator)) stops.no_tail stops.uncalled (omega arith))
  where
    go : Leads limit (2 * length rest + 1) (2 * length ts + 1) (await [] least ts) (behind_operand [] least (shown limit e) (level e) rest) → run limit (2 * length ts + 1) (start least ts) ≡ Some (shown limit e, rest)
    go l = l.same ∙ run_done limit l.left (l.left - 1) _ (shown limit e) rest (omega (arith, l.enough)) (done_step limit least (level e) (shown limit e) rest stops.no_operator)
