-- What is read is a tree that spells what was read.
use Rattle.std.proofs.Common.{◌≡◌, ℕ, zero, suc, ◌+◌, ◌*◌, ◌≤◌, List, [], ◌∷◌, ◌++◌, length, Option, Some, None, refl, sym, ap, ◌∙◌, arith, true, false, Bool, subst, if◌then◌else◌}
use Rattle.std.specs.Prelude.{nat_le}
use Rattle.py_syntax.specs.ExpressionTrees.{Tree, Constant, FormatString, Name, Bracketed, Attribute, Subscript, Call, MethodCall, Unary, Infix, Trees, NoTree, Then, Parts, NoPart, TextThen, FormattedThen}
use Rattle.py_syntax.specs.ExpressionTables.{level_of, left_level, prefix_level, operation_tokens, prefix_token, function_name, function_of, method_name, method_of, takes_argument, has_enough}
use Rattle.py_syntax.specs.ExpressionSpells.{level, Begins, Spells, SpellArguments, SpellOthers, SpellParts}
use Rattle.py_syntax.specs.declared.constant.Const.{Const}
use Rattle.py_syntax.specs.declared.operator.Bracket.TheVariants as bracket
use Rattle.py_syntax.specs.declared.operator.Operator.TheVariants as operator
use Rattle.py_syntax.specs.declared.token.Token.{Token}
use Rattle.py_syntax.specs.declared.token.Token.TheVariants as token
use Rattle.py_syntax.specs.declared.expression.UnOp.{UnOp}
use Rattle.py_syntax.specs.declared.expression.Operation.{Operation}
use Rattle.py_syntax.specs.declared.expression.Function.{Function}
use Rattle.py_syntax.specs.declared.expression.Method.{Method}
use Rattle.py_expression.specs.Shown as node
use Rattle.py_expression.specs.Shown.{Shown, ShownTrees, ShownParts, shown, snoc, joined}
use Rattle.py_expression.specs.Frames.{Frame, Opened, prefix, infix_op, brackets, subscript, call, format, Point, wanted, primary, operand, parts, Spot, Step, going, done}
use Rattle.py_expression.specs.Tokens.{prefix_of, operation_at, after_format_close, after_empty_call, attribute_at}
use Rattle.py_expression.specs.Phrase.Marks.{after, after_open, after_close, after_open_square, after_close_square, after_comma, after_last}
use Rattle.py_expression.specs.Phrase.Readers.{constant_of}
use Rattle.py_expression.specs.Reading.{step_of, step_at, onward, run, run_by, read_of, start, wanted_of, wanted_by, begin_of, constant_by, name_of, name_by, call_of, call_by, call_end, argument_of, argument_begin, follow_of, follow_by, subscript_by, attribute_of, attribute_by, close_of, primary_by, format_by, behind_argument, behind_by, comma_by, leave_of, operand_of, operand_by, fits, parts_of, opened, frame, behind_primary, in_format}
use Rattle.py_expression.specs.Ends.{IsRead}
use Rattle.py_expression.proofs.Nodes.{shown_constant, shown_name, shown_bracketed, shown_attribute, shown_method_call, shown_subscript, shown_unary, shown_infix, shown_call, shown_format, shown_trees, shown_with_tree, shown_parts, shown_with_text, shown_with_formatted, each_shown, count_of, greatest, each_part, greatest_part, followed, followed_snoc, followed_none, count_snoc, joined_assoc, joined_none}
use Rattle.py_expression.proofs.Tables.{level_below, prefix_range}
use Rattle.py_expression.proofs.TokenFacts.{after_format_close_is, attribute_at_is, after_empty_call_is, prefix_is, operation_is, function_is, method_is, argument_begins}
use Rattle.py_expression.proofs.PhraseLemmas.Facts.{some_same, after_open_is, after_close_is, after_open_square_is, after_close_square_is, after_comma_is, after_last_is, constant_is}

-- Whatever tree follows here as the next argument, with any that follow it, is one of the call's.
abbrev pub Given : Function → Trees → List Token → List Token → Type 0
Given f acc us here = (e : Tree) (more : Trees) (xs rest : List Token) → Spells e here xs → SpellOthers f (count_of acc + 1) more xs rest
    → SpellArguments f (followed acc (Then e more)) us rest

-- an opened node stands from one place to another, where an operand is awaited
abbrev pub Opens : ℕ → Opened → ℕ → ℕ → List Token → List Token → Type 0
Opens limit (prefix op) outer inner mid here = (mid ≡ prefix_token op ∷ here) × (inner ≡ prefix_level op) × (outer ≤ prefix_level op)
Opens limit (infix_op op v) outer inner mid here =
    (l : Tree) × (us : List Token) × (v ≡ shown limit l) × Spells l mid us × (left_level op ≤ level l) × (us ≡ operation_tokens op ++ here)
    × (inner ≡ level_of op + 1) × (outer ≤ level_of op)
Opens limit brackets outer inner mid here = (inner ≡ 1) × (mid ≡ token.Open bracket.Round ∷ here)
Opens limit (subscript v) outer inner mid here =
    (e : Tree) × (us : List Token) × (v ≡ shown limit e) × Spells e mid us × (level e ≡ 12) × (us ≡ token.Open bracket.Square ∷ here) × (inner ≡ 1)
Opens limit (call f v) outer inner mid here =
    (acc : Trees) × (us : List Token) × (v ≡ shown_trees limit acc) × (mid ≡ token.Name (function_name f) ∷ token.Open bracket.Round ∷ us)
    × Given f acc us here × (inner ≡ 1)
Opens limit (format v) outer inner mid here =
    (acc : Parts) × (us : List Token) × (v ≡ shown_parts limit acc) × (mid ≡ token.FormatStart ∷ us)
    × ((more : Parts) (rest : List Token) → SpellParts more (token.FormatOpen ∷ here) rest → SpellParts (joined acc more) us rest) × (inner ≡ 1)

-- the opened nodes stand from the text's beginning up to here, where an operand is awaited
unfoldable pub Stands : ℕ → ℕ → List Frame → ℕ → List Token → List Token → Type 0
Stands limit m [] least text here = (least ≡ m) × (text ≡ here)
Stands limit m (f ∷ stack) least text here = (mid : List Token) × Stands limit m stack f.least text mid × Opens limit f.opened f.least least mid here

abbrev pub IsAt : ℕ → ℕ → List Token → List Frame → ℕ → List Token → Point → Type 0
IsAt limit m text stack least here wanted = Stands limit m stack least text here
IsAt limit m text stack least here (primary v) =
    (mid : List Token) × (e : Tree) × Stands limit m stack least text mid × (v ≡ shown limit e) × Spells e mid here × (level e ≡ 12)
IsAt limit m text stack least here (operand v n) =
    (mid : List Token) × (e : Tree) × Stands limit m stack least text mid × (v ≡ shown limit e) × Spells e mid here × (n ≡ level e) × (least ≤ level e)
IsAt limit m text stack least here (parts v) =
    (mid : List Token) × (acc : Parts) × (us : List Token) × Stands limit m stack least text mid × (mid ≡ token.FormatStart ∷ us) × (v ≡ shown_parts limit acc)
    × ((more : Parts) (rest : List Token) → SpellParts more here rest → SpellParts (joined acc more) us rest)

abbrev pub IsAtSpot : ℕ → ℕ → List Token → Spot → Type 0
IsAtSpot limit m text s = IsAt limit m text s.stack s.least s.rest s.point

abbrev pub FineSpot : ℕ → ℕ → List Token → Option Spot → Type 0
FineSpot limit m text None = Unit {0}
FineSpot limit m text (Some s) = IsAtSpot limit m text s

abbrev pub FineStep : ℕ → ℕ → List Token → Option Step → Type 0
FineStep limit m text None = Unit {0}
FineStep limit m text (Some (going s)) = IsAtSpot limit m text s
FineStep limit m text (Some (done v rest)) = IsRead limit m text v rest

fine_onward : (limit m : ℕ) (text : List Token) (o : Option Spot) → FineSpot limit m text o → FineStep limit m text (onward o)
fine_onward limit m text None h = tt
fine_onward limit m text (Some s) h = h

inner_small : (limit : ℕ) (o : Opened) (outer inner : ℕ) (mid here : List Token) → Opens limit o outer inner mid here → inner ≤ 12
inner_small limit (prefix op) outer inner mid here h = omega (arith, h.1, prefix_range op)
inner_small limit (infix_op op v) outer inner mid here h = omega (arith, h.6, (level_below op).1)
inner_small limit brackets outer inner mid here h = omega (arith, h.0)
inner_small limit (subscript v) outer inner mid here h = omega (arith, h.6)
inner_small limit (call f v) outer inner mid here h = omega (arith, h.5)
inner_small limit (format v) outer inner mid here h = omega (arith, h.5)

least_small : (limit m : ℕ) (stack : List Frame) (least : ℕ) (text here : List Token) → m ≤ 12 → Stands limit m stack least text here → least ≤ 12
unfolding Stands after
least_small limit m [] least text here h s = omega (arith, s.0)
least_small limit m (f ∷ stack) least text here h s = inner_small limit f.opened f.least least s.0 here s.2

module _ (limit : ℕ) (m : ℕ) (text : List Token) (small : m ≤ 12) where
  -- Calls.

  call_end_fine : (stack : List Frame) (least : ℕ) (f : Function) (acc : Trees) (mid us ts : List Token) → Stands limit m stack least text mid
      → mid ≡ token.Name (function_name f) ∷ token.Open bracket.Round ∷ us
      → (has_enough f (count_of acc) ≡ true → SpellArguments f acc us ts) → FineSpot limit m text (call_end limit stack least f (shown_trees limit acc) ts)
  unfolding call_end Spells level
  call_end_fine stack least f acc mid us ts st em ends = go (has_enough f (count_of acc)) refl
    where
      go : (b : Bool) → has_enough f (count_of acc) ≡ b
          → FineSpot limit m text (if b then Some (behind_primary stack least (node.call limit f (shown_trees limit acc)) ts) else None)
      go true q = (mid, Call f acc, st, shown_call limit f acc, (us, em, ends q), refl)
      go false q = tt

  argument_fine : (stack : List Frame) (least : ℕ) (f : Function) (acc : Trees) (mid us ts : List Token) → Stands limit m stack least text mid
      → mid ≡ token.Name (function_name f) ∷ token.Open bracket.Round ∷ us
      → ((here : List Token) → takes_argument f (count_of acc) ≡ true → Begins f (count_of acc) ts here → Given f acc us here)
      → FineSpot limit m text (argument_of stack least f (shown_trees limit acc) ts)
  unfolding argument_of Stands
  argument_fine stack least f acc mid us ts st em given = go (takes_argument f (count_of acc)) refl
    where
      go : (b : Bool) → takes_argument f (count_of acc) ≡ b
          → FineSpot limit m text (if b then Some (opened stack (frame (call f (shown_trees limit acc)) least) 1 (argument_begin f (count_of acc) ts)) else None)
      go true q = (mid, st, (acc, us, refl, em, given (argument_begin f (count_of acc) ts) q (argument_begins f (count_of acc) ts), refl))
      go false q = tt

  call_fine : (stack : List Frame) (least : ℕ) (f : Function) (mid us : List Token) → Stands limit m stack least text mid
      → mid ≡ token.Name (function_name f) ∷ token.Open bracket.Round ∷ us → FineSpot limit m text (call_of limit stack least f us)
  unfolding call_of count_of each_shown greatest SpellArguments followed
  call_fine stack least f mid us st em = go (after_close us) refl
    where
      go : (o : Option (List Token)) → after_close us ≡ o → FineSpot limit m text (call_by limit stack least f us o)
      go None q = argument_fine stack least f NoTree mid us us st em (λ here takes begins e more xs rest s o. (here, xs, takes, begins, s, o))
      go (Some vs) q = call_end_fine stack least f NoTree mid us vs st em (λ enough. (enough, after_close_is us vs q))

  -- Before an operand.

  name_fine : (stack : List Frame) (least : ℕ) (n : List ℕ) (ts : List Token) → Stands limit m stack least text (token.Name n ∷ ts) → FineSpot limit m text (name_of limit stack least n ts)
  unfolding name_of Spells level
  name_fine stack least n ts st = go (function_of n) refl (after_open ts) refl
    where
      plain : FineSpot limit m text (Some (behind_primary stack least (node.name n) ts))
      plain = (token.Name n ∷ ts, Name n, st, shown_name limit n, refl, refl)

      go : (o : Option Function) → function_of n ≡ o → (p : Option (List Token)) → after_open ts ≡ p → FineSpot limit m text (name_by limit stack least n ts o p)
      go (Some f) q (Some us) r = call_fine stack least f (token.Name n ∷ ts) us st
          (ap (λ x. token.Name x ∷ ts) (function_is n f q) ∙ ap (λ x. token.Name (function_name f) ∷ x) (after_open_is ts us r))
      go (Some f) q None r = plain
      go None q p r = plain

  constant_fine : (stack : List Frame) (least : ℕ) (t : Token) (ts : List Token) → Stands limit m stack least text (t ∷ ts) → FineSpot limit m text (constant_by stack least ts (constant_of t))
  unfolding Spells level
  constant_fine stack least t ts st = go (constant_of t) refl
    where
      go : (o : Option Const) → constant_of t ≡ o → FineSpot limit m text (constant_by stack least ts o)
      go None q = tt
      go (Some c) q = (t ∷ ts, Constant c, st, shown_constant limit c, (t, constant_is t c q, refl), refl)

  begin_fine : (stack : List Frame) (least : ℕ) (t : Token) (ts : List Token) → Stands limit m stack least text (t ∷ ts) → FineSpot limit m text (begin_of limit stack least t ts)
  unfolding begin_of Stands each_part greatest_part joined
  begin_fine stack least (token.Open bracket.Round) ts st = (token.Open bracket.Round ∷ ts, st, (refl, refl))
  begin_fine stack least token.FormatStart ts st = (token.FormatStart ∷ ts, NoPart, ts, st, refl, refl, λ more rest s. s)
  begin_fine stack least (token.Name n) ts st = name_fine stack least n ts st
  begin_fine stack least t ts st = constant_fine stack least t ts st

  wanted_fine : (stack : List Frame) (least : ℕ) (ts : List Token) → Stands limit m stack least text ts → FineSpot limit m text (wanted_of limit stack least ts)
  unfolding wanted_of Stands
  wanted_fine stack least [] st = tt
  wanted_fine stack least (t ∷ ts) st = go (prefix_of t) refl
    where
      taken : (op : UnOp) → prefix_of t ≡ Some op → (b : Bool) → nat_le least (prefix_level op) ≡ b
          → FineSpot limit m text (if b then Some (opened stack (frame (prefix op) least) (prefix_level op) ts) else None)
      taken op q true h = (t ∷ ts, st, (ap (λ x. x ∷ ts) (prefix_is t op q), refl, grind (arith, h)))
      taken op q false h = tt

      go : (o : Option UnOp) → prefix_of t ≡ o → FineSpot limit m text (wanted_by limit stack least t ts o)
      go None q = begin_fine stack least t ts st
      go (Some op) q = taken op q (nat_le least (prefix_level op)) refl

  -- Behind a primary.

  follow_fine : (stack : List Frame) (least : ℕ) (e : Tree) (mid ts : List Token) → Stands limit m stack least text mid → Spells e mid ts → level e ≡ 12
      → IsAtSpot limit m text (follow_of limit stack least (shown limit e) ts)
  unfolding follow_of attribute_of Spells level Stands
  follow_fine stack least e mid ts st s l = go (attribute_at ts) refl
    where
      subscripted : (o : Option (List Token)) → after_open_square ts ≡ o → IsAtSpot limit m text (subscript_by stack least (shown limit e) ts o)
      subscripted None q = (mid, e, st, refl, s, sym l, omega (arith, least_small limit m stack least text mid small st))
      subscripted (Some us) q = (mid, st, (e, ts, refl, s, l, after_open_square_is ts us q, refl))

      attributed : (x : List ℕ × List Token) → attribute_at ts ≡ Some x → (o : Option Method) → method_of x.0 ≡ o → (p : Option (List Token)) → after_empty_call x.1 ≡ p
          → IsAtSpot limit m text (attribute_by limit stack least (shown limit e) x.0 x.1 o p)
      attributed x q (Some c) r (Some us) t = (
        mid,
        MethodCall e c,
        st,
        shown_method_call limit e c,
        (
          ts,
          s,
          l,
          attribute_at_is ts x q ∙ ap (λ n. token.Operator operator.Dot ∷ token.Name n ∷ x.1) (method_is x.0 c r)
              ∙ ap (λ us. token.Operator operator.Dot ∷ token.Name (method_name c) ∷ us) (after_empty_call_is x.1 us t),
        ),
        refl,
      )
      attributed x q (Some c) r None t = (mid, Attribute e x.0, st, shown_attribute limit e x.0, (ts, s, l, attribute_at_is ts x q), refl)
      attributed x q None r p t = (mid, Attribute e x.0, st, shown_attribute limit e x.0, (ts, s, l, attribute_at_is ts x q), refl)

      go : (o : Option (List ℕ × List Token)) → attribute_at ts ≡ o → IsAtSpot limit m text (follow_by limit stack least (shown limit e) ts o)
      go None q = subscripted (after_open_square ts) refl
      go (Some x) q = attributed x q (method_of x.0) refl (after_empty_call x.1) refl

  -- Behind an operand.

  primary_fine : (stack : List Frame) (least : ℕ) (v : Shown) (o : Option (List Token))
      → ((us : List Token) → o ≡ Some us → IsAtSpot limit m text (behind_primary stack least v us)) → FineSpot limit m text (primary_by stack least v o)
  primary_fine stack least v None h = tt
  primary_fine stack least v (Some us) h = h us refl

  arguments_fine : (stack : List Frame) (least : ℕ) (f : Function) (acc : Trees) (mid us here ts : List Token) (e : Tree) → Stands limit m stack least text mid
      → mid ≡ token.Name (function_name f) ∷ token.Open bracket.Round ∷ us → Given f acc us here → Spells e here ts
      → FineSpot limit m text (behind_argument limit stack least f (shown_trees limit (snoc acc e)) ts)
  unfolding behind_argument SpellOthers
  arguments_fine stack least f acc mid us here ts e st em given s = go (after_last ts) refl
    where
      ended : (vs : List Token) → after_last ts ≡ Some vs → has_enough f (count_of (snoc acc e)) ≡ true → SpellArguments f (snoc acc e) us vs
      ended vs q enough = subst (λ es. SpellArguments f es us vs) (sym (followed_snoc acc e NoTree) ∙ followed_none (snoc acc e))
          (given e NoTree ts vs s (rw (count_snoc acc e) at enough, after_last_is ts vs q))

      more_given : (vs : List Token) → after_comma ts ≡ Some vs → (next : List Token) → takes_argument f (count_of (snoc acc e)) ≡ true
          → Begins f (count_of (snoc acc e)) vs next → Given f (snoc acc e) us next
      more_given vs q next takes begins e2 more xs rest s2 o =
          subst (λ es. SpellArguments f es us rest) (sym (followed_snoc acc e (Then e2 more)))
          (given e (Then e2 more) ts rest s (vs, next, xs, after_comma_is ts vs q, rw (count_snoc acc e) at takes, rw (count_snoc acc e) at begins, s2, rw (count_snoc acc e) at o))

      onto : (o : Option (List Token)) → after_comma ts ≡ o → FineSpot limit m text (comma_by stack least f (shown_trees limit (snoc acc e)) o)
      onto None q = tt
      onto (Some vs) q = argument_fine stack least f (snoc acc e) mid us vs st em (λ next takes begins. more_given vs q next takes begins)

      go : (o : Option (List Token)) → after_last ts ≡ o → FineSpot limit m text (behind_by limit stack least f (shown_trees limit (snoc acc e)) ts o)
      go None q = onto (after_comma ts) refl
      go (Some vs) q = call_end_fine stack least f (snoc acc e) mid us vs st em (λ enough. ended vs q enough)

  format_fine : (stack : List Frame) (least : ℕ) (v : ShownParts) (o : Option (List Token))
      → ((us : List Token) → o ≡ Some us → IsAtSpot limit m text (in_format stack least v us)) → FineSpot limit m text (format_by stack least v o)
  format_fine stack least v None h = tt
  format_fine stack least v (Some us) h = h us refl

  close_fine : (stack : List Frame) (outer inner : ℕ) (o : Opened) (e : Tree) (mid here ts : List Token) → Stands limit m stack outer text mid → Opens limit o outer inner mid here
      → Spells e here ts → inner ≤ level e → FineSpot limit m text (close_of limit stack outer o (shown limit e) ts)
  unfolding close_of Spells SpellParts level joined
  close_fine stack outer inner (prefix op) e mid here ts st (em, ei, eo) s b =
      (mid, Unary op e, st, shown_unary limit op e, (here, em, s, omega arith), refl, eo)
  close_fine stack outer inner (infix_op op v) e mid here ts st (l, us, ev, sl, ll, eu, ei, eo) s b =
      (mid, Infix op l e, st, rw ev (shown_infix limit op l e), (us, here, sl, ll, eu, s, omega arith), refl, eo)
  close_fine stack outer inner brackets e mid here ts st (ei, em) s b =
      primary_fine stack outer (node.bracketed limit (shown limit e)) (after_close ts)
      (λ us q. (mid, Bracketed e, st, shown_bracketed limit e, (here, ts, em, s, after_close_is ts us q), refl))
  close_fine stack outer inner (subscript v) e mid here ts st (base, us, ev, sb, lb, eu, ei) s b =
      primary_fine stack outer (node.subscript limit v (shown limit e)) (after_close_square ts)
      (λ vs q. (mid, Subscript base e, st, rw ev (shown_subscript limit base e), (us, here, ts, sb, lb, eu, s, after_close_square_is ts vs q), refl))
  close_fine stack outer inner (call f v) e mid here ts st (acc, us, ev, em, given, ei) s b =
      rw (ev, shown_with_tree limit acc e) (arguments_fine stack outer f acc mid us here ts e st em given s)
  close_fine stack outer inner (format v) e mid here ts st (acc, us, ev, em, given, ei) s b =
      format_fine stack outer (node.with_formatted v (shown limit e)) (after_format_close ts)
      (λ vs q. (
        mid,
        joined acc (FormattedThen e NoPart),
        us,
        st,
        em,
        rw ev (shown_with_formatted limit acc e),
        λ more rest sm. subst (λ ps. SpellParts ps us rest) (sym (joined_assoc acc (FormattedThen e NoPart) more))
            (given (FormattedThen e more) rest (here, ts, vs, refl, s, after_format_close_is ts vs q, sm)),
      ))

  leave_fine : (stack : List Frame) (least : ℕ) (e : Tree) (mid ts : List Token) → Stands limit m stack least text mid → Spells e mid ts → least ≤ level e
      → FineStep limit m text (leave_of limit stack (shown limit e) ts)
  unfolding leave_of Stands
  leave_fine [] least e mid ts st s b = record { tree = e; spells = rw st.1 s; binds = omega (arith, st.0); kept = refl }
  leave_fine (f ∷ stack) least e mid ts st s b =
      fine_onward limit m text (close_of limit stack f.least f.opened (shown limit e) ts) (close_fine stack f.least least f.opened e st.0 mid ts st.1 st.2 s b)

  operand_fine : (stack : List Frame) (least : ℕ) (e : Tree) (mid ts : List Token) → Stands limit m stack least text mid → Spells e mid ts → least ≤ level e
      → FineStep limit m text (operand_of limit stack least (shown limit e) (level e) ts)
  unfolding operand_of Stands
  operand_fine stack least e mid ts st s b = go (operation_at ts) refl
    where
      fits_is : (op : Operation) → fits least (level e) op ≡ true → (least ≤ level_of op) × (left_level op ≤ level e)
      fits_is op h = grind arith

      taken : (x : Operation × List Token) → operation_at ts ≡ Some x → (c : Bool) → fits least (level e) x.0 ≡ c
          → FineStep limit m text (if c then Some (going (opened stack (frame (infix_op x.0 (shown limit e)) least) (level_of x.0 + 1) x.1)) else leave_of limit stack (shown limit e) ts)
      taken x q true h = let k = fits_is x.0 h in (mid, st, (e, ts, refl, s, k.1, operation_is ts x q, refl, k.0))
      taken x q false h = leave_fine stack least e mid ts st s b

      go : (o : Option (Operation × List Token)) → operation_at ts ≡ o → FineStep limit m text (operand_by limit stack least (shown limit e) (level e) ts o)
      go None q = leave_fine stack least e mid ts st s b
      go (Some x) q = taken x q (fits least (level e) x.0) refl

  -- In an f-string.

  parts_fine : (stack : List Frame) (least : ℕ) (acc : Parts) (mid us ts : List Token) → Stands limit m stack least text mid → mid ≡ token.FormatStart ∷ us
      → ((more : Parts) (rest : List Token) → SpellParts more ts rest → SpellParts (joined acc more) us rest) → FineSpot limit m text (parts_of limit stack least (shown_parts limit acc) ts)
  unfolding parts_of Spells SpellParts level Stands joined
  parts_fine stack least acc mid us (token.FormatText t ∷ ts) st em given = (
    mid,
    joined acc (TextThen t NoPart),
    us,
    st,
    em,
    shown_with_text limit acc t,
    λ more rest s. subst (λ ps. SpellParts ps us rest) (sym (joined_assoc acc (TextThen t NoPart) more)) (given (TextThen t more) rest (ts, refl, s)),
  )
  parts_fine stack least acc mid us (token.FormatOpen ∷ ts) st em given = (mid, st, (acc, us, refl, em, given, refl))
  parts_fine stack least acc mid us (token.FormatEnd ∷ ts) st em given =
      (mid, FormatString acc, st, shown_format limit acc, (us, em, subst (λ ps. SpellParts ps us ts) (joined_none acc) (given NoPart ts refl)), refl)
  parts_fine stack least acc mid us _ st em given = tt

  -- Steps and runs.

  step_fine : (stack : List Frame) (least : ℕ) (ts : List Token) (p : Point) → IsAt limit m text stack least ts p → FineStep limit m text (step_at limit stack least ts p)
  step_fine stack least ts wanted h = fine_onward limit m text (wanted_of limit stack least ts) (wanted_fine stack least ts h)
  step_fine stack least ts (primary v) (mid, e, st, ev, s, l) = rw ev (follow_fine stack least e mid ts st s l)
  step_fine stack least ts (operand v n) (mid, e, st, ev, s, en, b) = rw (ev, en) (operand_fine stack least e mid ts st s b)
  step_fine stack least ts (parts v) (mid, acc, us, st, em, ev, given) =
      fine_onward limit m text (parts_of limit stack least v ts) (rw ev (parts_fine stack least acc mid us ts st em given))

  run_sound : (n : ℕ) (s : Spot) → IsAtSpot limit m text s → (x : Shown × List Token) → run limit n s ≡ Some x → IsRead limit m text x.0 x.1
  unfolding run step_of
  run_sound zero s h x e = cc
  run_sound (suc n) s h x e = go (step_of limit s) (step_fine s.stack s.least s.rest s.point h) (λ t k q. run_sound n t k x q) e
    where
      go : (o : Option Step) → FineStep limit m text o → ((t : Spot) → IsAtSpot limit m text t → run limit n t ≡ Some x → IsRead limit m text x.0 x.1) → run_by (run limit n) o ≡ Some x → IsRead limit m text x.0 x.1
      go None k ih q = cc
      go (Some (going t)) k ih q = ih t k q
      go (Some (done v rest)) k ih q = subst (λ (y : Shown × List Token). IsRead limit m text y.0 y.1) (some_same q) k

  pub read_sound : (x : Shown × List Token) → read_of limit m text ≡ Some x → IsRead limit m text x.0 x.1
  unfolding read_of Stands
  read_sound x e = run_sound (2 * length text + 1) (start m text) (refl, refl) x e
