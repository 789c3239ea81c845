-- In an accepted text each keyword `module` begins a module: no other phrase of the grammar spells it.
use Rattle.std.proofs.Common.{◌≡◌, ℕ, zero, suc, ◌+◌, Bool, true, false, List, [], ◌∷◌, length, Option, Some, None, refl, sym, ap, ◌∙◌, arith}
use Rattle.v_syntax.specs.declared.token.Token.{Token}
use Rattle.v_syntax.specs.declared.token.Token.TheVariants as token
use Rattle.v_syntax.specs.declared.mark.Mark.{Mark}
use Rattle.v_syntax.specs.declared.mark.Mark.TheVariants as mark
use Rattle.v_syntax.specs.declared.word.Keyword.{Keyword}
use Rattle.v_syntax.specs.declared.word.Keyword.TheVariants as word
use Rattle.v_syntax.specs.declared.statement.AssignmentKind.TheVariants.{Blocking}
use Rattle.v_syntax.specs.declared.statement.StatementForm.{StatementForm}
use Rattle.v_syntax.specs.declared.statement.StatementForm.TheVariants as statement_form
use Rattle.v_syntax.specs.declared.statement.StatementPlace.{StatementPlace}
use Rattle.v_syntax.specs.declared.statement.StatementPlace.TheVariants.{InAlways, InInitial, WholeInitial}
use Rattle.v_syntax.specs.declared.item.ItemForm.{ItemForm}
use Rattle.v_syntax.specs.declared.item.ItemForm.TheVariants as item_form
use Rattle.v_syntax.specs.ExpressionTrees.{Tree, Number, Named, Bracketed, Unary, Binary, Conditional, Concatenation, Replication, Trees, none, more, SelectsTree, Whole, One, OfWord, SelectTree, Bit, Part, IndexedPart, TargetTree, NamedTarget, JoinedTarget, TargetTrees, no_target, more_targets}
use Rattle.v_syntax.specs.ExpressionSpans.{Spans, SelectsSpan, SelectSpans, AllSpan, OthersSpan, TargetSpans, TargetsSpan, OtherTargetsSpan}
use Rattle.v_syntax.specs.StatementTrees.{Value, Text, Variable, Header, StatementTree, Null, Delay, Match, Default}
use Rattle.v_syntax.specs.SourceTrees.{Bounds, Head, Net, Words, Initially, Register, Parameter, Driver, Implicit, Events, Connection, Ordered, Ports, Nets, Registers, Integers, Parameters, Drivers, Always, Initial, Instance, ItemAt, HeaderParameterOf, HeaderPortOf, NamedPorts, DeclaredPorts, ModuleTree}
use Rattle.v_syntax.specs.SourceTrees as trees
use Rattle.v_syntax.specs.TokenMeanings.{name_of, number_of, text_of, task_of, case_kind, direction_of, port_kind, parameter_kind, edge_of, event_separator}
use Rattle.v_syntax.specs.Phrases.{Phrase, Each}
use Rattle.v_syntax.specs.Phrases as phrase
use Rattle.v_syntax.specs.Statements.{sign, word_of, named_at, identifier, listed, expression, target, branches, label, delay, delay_below, delay_value, delay_control, later_kind, assignment_kind, assignment_tree, assignment, block_tree, block, delayed_tree, delayed_block, if_tree, conditional, match_item, default_item, case_tree, case_statement, variable_assignment, for_header, numbered, for_tree, for_statement, argument, arguments, task_tree, task_enable, inside, block_at, task_at, delay_at, statement_of_form, statement}
use Rattle.v_syntax.specs.Items.{range, value, port_head, net, register_tail, register, parameter, driver, event_of, event, bracketed_events, events, connection, connections, overrides, item_of_form, item}
use Rattle.v_syntax.specs.Sources.{parameter_head, headed, first_parameter, next_parameter, header_parameters, with_head, first_port, next_port, declared_ports, ports, port_list, module_tree, module_definition}
use Rattle.v_syntax.specs.Refusal.{IsSource}
use Rattle.v_lex.specs.Lexing.{is_module, module_count}

-- No `module` stands between.
abbrev Same : List Token → List Token → Type 0
Same here rest = module_count here ≡ module_count rest

-- Nothing that the phrase spells is `module`.
record Lacks {A : Type 0} (P : Phrase Token A) : Type 0 where
  same : (x : A) (here rest : List Token) → P.whole x here rest → Same here rest

-- One token of what it spells is.
record HasOne {A : Type 0} (P : Phrase Token A) : Type 0 where
  one : (x : A) (here rest : List Token) → P.whole x here rest → module_count here ≡ suc (module_count rest)

-- ---- single tokens

other_token : (t : Token) (here rest : List Token) → is_module t ≡ false → here ≡ t ∷ rest → Same here rest
unfolding module_count
other_token t here rest e h = let k : module_count (t ∷ rest) ≡ module_count rest = rw e refl in ap module_count h ∙ k

mark_same : (m : Mark) (here rest : List Token) → here ≡ token.Mark m ∷ rest → Same here rest
mark_same m here rest h = other_token (token.Mark m) here rest refl h

name_same : (name : List ℕ) (here rest : List Token) → here ≡ token.Name name ∷ rest → Same here rest
name_same name here rest h = other_token (token.Name name) here rest refl h

-- ---- what phrases are made of

nothing_lacks : {A : Type 0} (x : A) → Lacks (phrase.nothing x)
nothing_lacks x = record { same = λ y here rest w. ap module_count w.1 }

never_lacks : {A : Type 0} → Lacks (phrase.never {T = A})
never_lacks = record { same = λ y here rest w. absurd w }

exactly_lacks : (t : Token) → is_module t ≡ false → Lacks (phrase.exactly t)
exactly_lacks t e = record { same = λ x here rest w. other_token t here rest e w }

sign_lacks : (m : Mark) → Lacks (sign m)
sign_lacks m = exactly_lacks (token.Mark m) refl

word_lacks : (k : Keyword) → is_module (token.Keyword k) ≡ false → Lacks (word_of k)
word_lacks k e = exactly_lacks (token.Keyword k) e

meant : {A : Type 0} (meaning : Token → Option A) → meaning (token.Keyword word.Module) ≡ None → (t : Token) (x : A) → meaning t ≡ Some x → is_module t ≡ false
meant meaning n (token.Keyword word.Module) x h = absurd (let e : None ≡ Some x = sym n ∙ h in cc)
meant meaning n (token.Keyword _) x h = refl
meant meaning n _ x h = refl

token_lacks : {A : Type 0} (meaning : Token → Option A) → meaning (token.Keyword word.Module) ≡ None → Lacks (phrase.token_of meaning)
token_lacks meaning n = record { same = λ x here rest w. other_token w.0 here rest (meant meaning n w.0 x w.2) w.1 }

place_lacks : (end : ℕ) → Lacks (phrase.place_in end)
place_lacks end = record { same = λ x here rest w. ap module_count w.1 }

both_lacks : {A B C : Type 0} (make : A → B → C) {P : Phrase Token A} {Q : Phrase Token B} → Lacks P → Lacks Q → Lacks (phrase.both make P Q)
both_lacks make p q = record { same = λ z here rest w. p.same w.0 here w.2 w.3 ∙ q.same w.1 w.2 rest w.4 }

-- as in the notation of the grammar
infixl 20 ◌⊛◌
◌⊛◌ : {A B : Type 0} {P : Phrase Token (A → B)} {Q : Phrase Token A} → Lacks P → Lacks Q → Lacks (phrase.both (λ f x. f x) P Q)
p ⊛ q = both_lacks (λ f x. f x) p q

infixl 20 ◌◃◌
◌◃◌ : {A B : Type 0} {P : Phrase Token A} {Q : Phrase Token B} → Lacks P → Lacks Q → Lacks (phrase.both (λ x y. x) P Q)
p ◃ q = both_lacks (λ x y. x) p q

infixl 20 ◌▹◌
◌▹◌ : {A B : Type 0} {P : Phrase Token A} {Q : Phrase Token B} → Lacks P → Lacks Q → Lacks (phrase.both (λ x y. y) P Q)
p ▹ q = both_lacks (λ x y. y) p q

maybe_lacks : {A : Type 0} {P : Phrase Token A} → Lacks P → Lacks (phrase.maybe P)
maybe_lacks {P = P} p = record { same = go }
  where
    go : (o : Option _) (here rest : List Token) → (phrase.maybe P).whole o here rest → Same here rest
    go None here rest w = ap module_count w
    go (Some x) here rest w = p.same x here rest w

many_lacks : {A : Type 0} {P : Phrase Token A} → Lacks P → Lacks (phrase.many P)
many_lacks {P = P} p = record { same = go }
  where
    go : (xs : List _) (here rest : List Token) → Each P.whole xs here rest → Same here rest
    go [] here rest w = ap module_count w
    go (x ∷ xs) here rest (mid, v, w) = p.same x here mid v ∙ go xs mid rest w

some_lacks : {A : Type 0} {P : Phrase Token A} → Lacks P → Lacks (phrase.some P)
some_lacks p = both_lacks ◌∷◌ p (many_lacks p)

separated_lacks : {S A : Type 0} {Q : Phrase Token S} {P : Phrase Token A} → Lacks Q → Lacks P → Lacks (phrase.separated Q P)
separated_lacks q p = both_lacks ◌∷◌ p (many_lacks (q ▹ p))

listed_lacks : {A : Type 0} {P : Phrase Token A} → Lacks P → Lacks (listed P)
listed_lacks p = separated_lacks (sign_lacks mark.Comma) p

one_lacks : {I A : Type 0} {P : I → Phrase Token A} → ((i : I) → Lacks (P i)) → Lacks (phrase.one_of P)
one_lacks p = record { same = λ x here rest w. (p w.0).same x here rest w.1 }

either_lacks : {A : Type 0} {P Q : Phrase Token A} → Lacks P → Lacks Q → Lacks (phrase.either P Q)
either_lacks {P = P} {Q = Q} p q = record { same = λ x here rest w. (chosen w.0).same x here rest w.1 }
  where
    chosen : (i : Bool) → Lacks (phrase.second_if P Q i)
    chosen false = p
    chosen true = q

branches_lacks : {P : Phrase Token StatementTree} → Lacks P → Lacks (branches P)
branches_lacks {P = P} p = record { same = go }
  where
    else_lacks : Lacks (phrase.both (λ x y. y) (word_of word.Else) P)
    else_lacks = word_lacks word.Else refl ▹ p

    go : (x : StatementTree × Option StatementTree) (here rest : List Token) → (branches P).whole x here rest → Same here rest
    go (x, None) here rest w = p.same x here rest w
    go (x, Some y) here rest (mid, v, c, w) = p.same x here mid v ∙ else_lacks.same y mid rest w

-- ---- expressions and targets

mutual
  unfolding Spans SelectsSpan SelectSpans AllSpan OthersSpan

  spans_same : (e : Tree) (end : ℕ) (here rest : List Token) → Spans end e here rest → Same here rest
  spans_same (Number at ds) end here rest (a, p) = other_token (token.Number ds) here rest refl p
  spans_same (Named at name s) end here rest (us, a, p, q) = name_same name here us p ∙ selects_same s end us rest q
  spans_same (Bracketed at e) end here rest (us, vs, a, p, s, q) = mark_same _ here us p ∙ spans_same e end us vs s ∙ mark_same _ vs rest q
  spans_same (Unary at op e) end here rest (us, a, (m, p, o), s, b) = mark_same m here us p ∙ spans_same e end us rest s
  spans_same (Binary op l r) end here rest (us, vs, s, (m, p, o), t, b, c) = spans_same l end here us s ∙ mark_same m us vs p ∙ spans_same r end vs rest t
  spans_same (Conditional c a b) end here rest (us, vs, ws, xs, s, p, t, q, u, k) =
      spans_same c end here us s ∙ mark_same _ us vs p ∙ spans_same a end vs ws t ∙ mark_same _ ws xs q ∙ spans_same b end xs rest u
  spans_same (Concatenation at es) end here rest (us, vs, a, p, s, q) = mark_same _ here us p ∙ all_same es end us vs s ∙ mark_same _ vs rest q
  spans_same (Replication at e es) end here rest (us, vs, ws, xs, ys, a, p, s, q, t, u, v) =
      mark_same _ here us p ∙ spans_same e end us vs s ∙ mark_same _ vs ws q ∙ all_same es end ws xs t ∙ mark_same _ xs ys u ∙ mark_same _ ys rest v

  selects_same : (s : SelectsTree) (end : ℕ) (here rest : List Token) → SelectsSpan end s here rest → Same here rest
  selects_same Whole end here rest p = ap module_count p
  selects_same (One s) end here rest p = select_same s end here rest p
  selects_same (OfWord at e s) end here rest (us, vs, ws, a, p, t, q, u) =
      mark_same _ here us p ∙ spans_same e end us vs t ∙ mark_same _ vs ws q ∙ select_same s end ws rest u

  select_same : (s : SelectTree) (end : ℕ) (here rest : List Token) → SelectSpans end s here rest → Same here rest
  select_same (Bit at e) end here rest (us, vs, a, p, s, q) = mark_same _ here us p ∙ spans_same e end us vs s ∙ mark_same _ vs rest q
  select_same (Part at l r) end here rest (us, vs, ws, xs, a, p, s, q, t, u) =
      mark_same _ here us p ∙ spans_same l end us vs s ∙ mark_same _ vs ws q ∙ spans_same r end ws xs t ∙ mark_same _ xs rest u
  select_same (IndexedPart at l r) end here rest (us, vs, ws, xs, a, p, s, q, t, u) =
      mark_same _ here us p ∙ spans_same l end us vs s ∙ mark_same _ vs ws q ∙ spans_same r end ws xs t ∙ mark_same _ xs rest u

  all_same : (es : Trees) (end : ℕ) (here rest : List Token) → AllSpan end es here rest → Same here rest
  all_same none end here rest p = absurd p
  all_same (more e es) end here rest (us, s, p) = spans_same e end here us s ∙ others_same es end us rest p

  others_same : (es : Trees) (end : ℕ) (here rest : List Token) → OthersSpan end es here rest → Same here rest
  others_same none end here rest p = ap module_count p
  others_same (more e es) end here rest (us, vs, p, s, q) = mark_same _ here us p ∙ spans_same e end us vs s ∙ others_same es end vs rest q

mutual
  unfolding TargetSpans TargetsSpan OtherTargetsSpan

  target_same : (t : TargetTree) (end : ℕ) (here rest : List Token) → TargetSpans end t here rest → Same here rest
  target_same (NamedTarget at name s) end here rest (us, a, p, q) = name_same name here us p ∙ selects_same s end us rest q
  target_same (JoinedTarget at ts) end here rest (us, vs, a, p, s, q) = mark_same _ here us p ∙ targets_same ts end us vs s ∙ mark_same _ vs rest q

  targets_same : (ts : TargetTrees) (end : ℕ) (here rest : List Token) → TargetsSpan end ts here rest → Same here rest
  targets_same no_target end here rest p = absurd p
  targets_same (more_targets t ts) end here rest (us, s, p) = target_same t end here us s ∙ other_targets_same ts end us rest p

  other_targets_same : (ts : TargetTrees) (end : ℕ) (here rest : List Token) → OtherTargetsSpan end ts here rest → Same here rest
  other_targets_same no_target end here rest p = ap module_count p
  other_targets_same (more_targets t ts) end here rest (us, vs, p, s, q) = mark_same _ here us p ∙ target_same t end us vs s ∙ other_targets_same ts end vs rest q

module _ (end n : ℕ) where
  expression_lacks : Lacks (expression end n)
  expression_lacks = record { same = λ e here rest w. spans_same e end here rest w.0 }

  target_lacks : Lacks (target end n)
  target_lacks = record { same = λ t here rest w. target_same t end here rest w.0 }

name_lacks : Lacks (phrase.token_of name_of)
name_lacks = token_lacks name_of refl

number_lacks : Lacks (phrase.token_of number_of)
number_lacks = token_lacks number_of refl

identifier_lacks : (end : ℕ) → Lacks (identifier end)
identifier_lacks end = nothing_lacks named_at ⊛ place_lacks end ⊛ name_lacks

-- ---- statements

label_lacks : Lacks label
label_lacks = sign_lacks mark.Colon ▹ name_lacks

delay_lacks : (end : ℕ) → Lacks (delay end)
delay_lacks end = nothing_lacks Delay ◃ sign_lacks mark.Hash ⊛ place_lacks end ⊛ number_lacks ◃ sign_lacks mark.Semicolon

delay_below_lacks : (end n : ℕ) → Lacks (delay_below end n)
delay_below_lacks end zero = never_lacks
delay_below_lacks end (suc n) = delay_lacks end

control_lacks : (end : ℕ) → Lacks (delay_control end)
control_lacks end = nothing_lacks delay_value ◃ sign_lacks mark.Hash ⊛ place_lacks end ⊛ number_lacks

kind_lacks : (end : ℕ) → Lacks (assignment_kind end)
kind_lacks end = either_lacks (nothing_lacks Blocking ◃ sign_lacks mark.Assign) (nothing_lacks later_kind ◃ sign_lacks mark.LessOrEqual ⊛ maybe_lacks (control_lacks end))

module _ (end n : ℕ) where
  assignment_lacks : Lacks (assignment end n)
  assignment_lacks = nothing_lacks assignment_tree ⊛ target_lacks end n ⊛ kind_lacks end ⊛ expression_lacks end n ◃ sign_lacks mark.Semicolon

  variable_lacks : Lacks (variable_assignment end n)
  variable_lacks = nothing_lacks Variable ⊛ identifier_lacks end ◃ sign_lacks mark.Assign ⊛ expression_lacks end n

  header_lacks : Lacks (for_header end n)
  header_lacks =
      nothing_lacks Header ◃ sign_lacks mark.OpenParenthesis ⊛ variable_lacks ◃ sign_lacks mark.Semicolon ⊛ expression_lacks end n ◃ sign_lacks mark.Semicolon ⊛ variable_lacks
      ◃ sign_lacks mark.CloseParenthesis

  argument_lacks : Lacks (argument end n)
  argument_lacks = either_lacks (nothing_lacks Value ⊛ expression_lacks end n) (nothing_lacks Text ⊛ token_lacks text_of refl)

  arguments_lacks : Lacks (arguments end n)
  arguments_lacks = sign_lacks mark.OpenParenthesis ▹ maybe_lacks (listed_lacks argument_lacks) ◃ sign_lacks mark.CloseParenthesis

  task_lacks : Lacks (task_enable end n)
  task_lacks = nothing_lacks task_tree ⊛ token_lacks task_of refl ⊛ maybe_lacks arguments_lacks ◃ sign_lacks mark.Semicolon

  module _ (s : Phrase Token StatementTree) (inner : Lacks s) where
    block_lacks : Lacks (block s)
    block_lacks = nothing_lacks block_tree ◃ word_lacks word.Begin refl ⊛ maybe_lacks label_lacks ⊛ many_lacks inner ◃ word_lacks word.End refl

    delayed_lacks : Lacks (delayed_block end n s)
    delayed_lacks = nothing_lacks delayed_tree ◃ word_lacks word.Begin refl ⊛ maybe_lacks label_lacks ⊛ many_lacks inner ⊛ maybe_lacks (delay_below_lacks end n) ◃ word_lacks word.End refl

    conditional_lacks : Lacks (conditional end n s)
    conditional_lacks =
        both_lacks if_tree (word_lacks word.If refl ▹ sign_lacks mark.OpenParenthesis ▹ expression_lacks end n ◃ sign_lacks mark.CloseParenthesis) (branches_lacks inner)

    match_lacks : Lacks (match_item end n s)
    match_lacks = nothing_lacks Match ⊛ listed_lacks (expression_lacks end n) ◃ sign_lacks mark.Colon ⊛ inner

    default_lacks : Lacks (default_item s)
    default_lacks = nothing_lacks Default ◃ word_lacks word.Default refl ◃ maybe_lacks (sign_lacks mark.Colon) ⊛ inner

    case_lacks : Lacks (case_statement end n s)
    case_lacks =
        nothing_lacks case_tree ⊛ token_lacks case_kind refl ◃ sign_lacks mark.OpenParenthesis ⊛ expression_lacks end n ◃ sign_lacks mark.CloseParenthesis
        ⊛ some_lacks (either_lacks match_lacks default_lacks) ◃ word_lacks word.EndCase refl

    for_lacks : Lacks (for_statement end n s)
    for_lacks = both_lacks for_tree (nothing_lacks numbered ⊛ place_lacks end ◃ word_lacks word.For refl ⊛ header_lacks) inner

    block_at_lacks : (place : StatementPlace) → Lacks (block_at end place n s)
    block_at_lacks InAlways = block_lacks
    block_at_lacks InInitial = block_lacks
    block_at_lacks WholeInitial = delayed_lacks

    task_at_lacks : (place : StatementPlace) → Lacks (task_at end place n)
    task_at_lacks InAlways = never_lacks
    task_at_lacks InInitial = task_lacks
    task_at_lacks WholeInitial = task_lacks

    delay_at_lacks : (place : StatementPlace) → Lacks (delay_at end place)
    delay_at_lacks InAlways = never_lacks
    delay_at_lacks InInitial = never_lacks
    delay_at_lacks WholeInitial = delay_lacks end

    form_lacks : (place : StatementPlace) (i : StatementForm) → Lacks (statement_of_form end place n s i)
    form_lacks place statement_form.Null = nothing_lacks Null ◃ sign_lacks mark.Semicolon
    form_lacks place statement_form.Block = block_at_lacks place
    form_lacks place statement_form.Assignment = assignment_lacks
    form_lacks place statement_form.If = conditional_lacks
    form_lacks place statement_form.Case = case_lacks
    form_lacks place statement_form.For = for_lacks
    form_lacks place statement_form.TaskEnable = task_at_lacks place
    form_lacks place statement_form.Delay = delay_at_lacks place

statement_lacks : (end n : ℕ) (place : StatementPlace) → Lacks (statement end n place)
unfolding statement
statement_lacks end zero place = never_lacks
statement_lacks end (suc n) place = one_lacks (form_lacks end n (statement end n (inside place)) (statement_lacks end n (inside place)) place)

-- ---- items

module _ (end n : ℕ) where
  range_lacks : Lacks (range end n)
  range_lacks = nothing_lacks Bounds ⊛ place_lacks end ◃ sign_lacks mark.OpenBracket ⊛ expression_lacks end n ◃ sign_lacks mark.Colon ⊛ expression_lacks end n ◃ sign_lacks mark.CloseBracket

  value_lacks : Lacks (value end n)
  value_lacks = sign_lacks mark.Assign ▹ expression_lacks end n

  head_lacks : Lacks (port_head end n)
  head_lacks = nothing_lacks Head ⊛ token_lacks direction_of refl ⊛ maybe_lacks (token_lacks port_kind refl) ⊛ maybe_lacks range_lacks

  net_lacks : Lacks (net end n)
  net_lacks = nothing_lacks Net ⊛ identifier_lacks end ⊛ maybe_lacks value_lacks

  tail_lacks : Lacks (register_tail end n)
  tail_lacks = either_lacks (nothing_lacks Words ⊛ range_lacks) (nothing_lacks Initially ⊛ value_lacks)

  register_lacks : Lacks (register end n)
  register_lacks = nothing_lacks Register ⊛ identifier_lacks end ⊛ maybe_lacks tail_lacks

  parameter_lacks : Lacks (parameter end n)
  parameter_lacks = nothing_lacks Parameter ⊛ identifier_lacks end ⊛ value_lacks

  driver_lacks : Lacks (driver end n)
  driver_lacks = nothing_lacks Driver ⊛ target_lacks end n ⊛ value_lacks

  event_lacks : Lacks (event end)
  event_lacks = nothing_lacks event_of ⊛ maybe_lacks (token_lacks edge_of refl) ⊛ identifier_lacks end

  bracketed_lacks : Lacks (bracketed_events end)
  bracketed_lacks =
      either_lacks (nothing_lacks Events ⊛ separated_lacks (token_lacks event_separator refl) event_lacks ◃ sign_lacks mark.CloseParenthesis)
      (nothing_lacks Implicit ◃ sign_lacks mark.Star ◃ sign_lacks mark.CloseParenthesis)

  events_lacks : Lacks (events end)
  events_lacks = either_lacks (sign_lacks mark.OpenParenthesis ▹ bracketed_lacks) (nothing_lacks Implicit ◃ sign_lacks mark.Star)

  connection_lacks : Lacks (connection end n)
  connection_lacks =
      nothing_lacks Connection ⊛ place_lacks end ◃ sign_lacks mark.Dot ⊛ identifier_lacks end ◃ sign_lacks mark.OpenParenthesis ⊛ maybe_lacks (expression_lacks end n)
      ◃ sign_lacks mark.CloseParenthesis

  connections_lacks : Lacks (connections end n)
  connections_lacks = either_lacks (nothing_lacks Ordered ⊛ listed_lacks (expression_lacks end n)) (nothing_lacks trees.Named ⊛ listed_lacks connection_lacks)

  overrides_lacks : Lacks (overrides end n)
  overrides_lacks = sign_lacks mark.Hash ▹ sign_lacks mark.OpenParenthesis ▹ connections_lacks ◃ sign_lacks mark.CloseParenthesis

  item_form_lacks : (i : ItemForm) → Lacks (item_of_form end n i)
  item_form_lacks item_form.Ports = nothing_lacks Ports ⊛ head_lacks ⊛ listed_lacks (identifier_lacks end) ◃ sign_lacks mark.Semicolon
  item_form_lacks item_form.Nets = nothing_lacks Nets ◃ word_lacks word.Wire refl ⊛ maybe_lacks range_lacks ⊛ listed_lacks net_lacks ◃ sign_lacks mark.Semicolon
  item_form_lacks item_form.Registers = nothing_lacks Registers ◃ word_lacks word.Reg refl ⊛ maybe_lacks range_lacks ⊛ listed_lacks register_lacks ◃ sign_lacks mark.Semicolon
  item_form_lacks item_form.Integers = nothing_lacks Integers ◃ word_lacks word.Integer refl ⊛ listed_lacks (identifier_lacks end) ◃ sign_lacks mark.Semicolon
  item_form_lacks item_form.Parameters = nothing_lacks Parameters ⊛ token_lacks parameter_kind refl ⊛ maybe_lacks range_lacks ⊛ listed_lacks parameter_lacks ◃ sign_lacks mark.Semicolon
  item_form_lacks item_form.ContinuousAssignments = nothing_lacks Drivers ◃ word_lacks word.Assign refl ⊛ listed_lacks driver_lacks ◃ sign_lacks mark.Semicolon
  item_form_lacks item_form.Always = nothing_lacks Always ◃ word_lacks word.Always refl ◃ sign_lacks mark.At ⊛ events_lacks ⊛ statement_lacks end n InAlways
  item_form_lacks item_form.Initial = nothing_lacks Initial ◃ word_lacks word.Initial refl ⊛ statement_lacks end n WholeInitial
  item_form_lacks item_form.Instance =
      nothing_lacks Instance ⊛ identifier_lacks end ⊛ maybe_lacks overrides_lacks ⊛ identifier_lacks end
      ◃ sign_lacks mark.OpenParenthesis ⊛ maybe_lacks connections_lacks ◃ sign_lacks mark.CloseParenthesis ◃ sign_lacks mark.Semicolon

  item_lacks : Lacks (item end n)
  item_lacks = nothing_lacks ItemAt ⊛ place_lacks end ⊛ one_lacks item_form_lacks

  -- ---- modules

  parameter_head_lacks : Lacks (parameter_head end n)
  parameter_head_lacks = word_lacks word.Parameter refl ▹ maybe_lacks range_lacks

  first_parameter_lacks : Lacks (first_parameter end n)
  first_parameter_lacks = nothing_lacks HeaderParameterOf ⊛ (nothing_lacks headed ⊛ parameter_head_lacks) ⊛ identifier_lacks end ⊛ value_lacks

  next_parameter_lacks : Lacks (next_parameter end n)
  next_parameter_lacks = nothing_lacks HeaderParameterOf ⊛ maybe_lacks parameter_head_lacks ⊛ identifier_lacks end ⊛ value_lacks

  parameters_lacks : Lacks (header_parameters end n)
  parameters_lacks =
      sign_lacks mark.Hash ▹ sign_lacks mark.OpenParenthesis ▹ both_lacks ◌∷◌ first_parameter_lacks (many_lacks (sign_lacks mark.Comma ▹ next_parameter_lacks)) ◃ sign_lacks mark.CloseParenthesis

  first_port_lacks : Lacks (first_port end n)
  first_port_lacks = nothing_lacks HeaderPortOf ⊛ (nothing_lacks with_head ⊛ head_lacks) ⊛ identifier_lacks end

  next_port_lacks : Lacks (next_port end n)
  next_port_lacks = nothing_lacks HeaderPortOf ⊛ maybe_lacks head_lacks ⊛ identifier_lacks end

  declared_lacks : Lacks (declared_ports end n)
  declared_lacks = both_lacks ◌∷◌ first_port_lacks (many_lacks (sign_lacks mark.Comma ▹ next_port_lacks))

  ports_lacks : Lacks (ports end n)
  ports_lacks = either_lacks (nothing_lacks NamedPorts ⊛ listed_lacks (identifier_lacks end)) (nothing_lacks DeclaredPorts ⊛ declared_lacks)

  port_list_lacks : Lacks (port_list end n)
  port_list_lacks = sign_lacks mark.OpenParenthesis ▹ maybe_lacks ports_lacks ◃ sign_lacks mark.CloseParenthesis

-- behind the one `module` none stands
one_behind : {A B C : Type 0} (make : A → B → C) {P : Phrase Token A} {Q : Phrase Token B} → HasOne P → Lacks Q → HasOne (phrase.both make P Q)
one_behind make p q = record { one = λ z here rest w. p.one w.0 here w.2 w.3 ∙ ap suc (q.same w.1 w.2 rest w.4) }

apply_one : {A B : Type 0} {P : Phrase Token (A → B)} {Q : Phrase Token A} → HasOne P → Lacks Q → HasOne (phrase.both (λ f x. f x) P Q)
apply_one p q = one_behind (λ f x. f x) p q

keep_one : {A B : Type 0} {P : Phrase Token A} {Q : Phrase Token B} → HasOne P → Lacks Q → HasOne (phrase.both (λ x y. x) P Q)
keep_one p q = one_behind (λ x y. x) p q

begins_module : HasOne (phrase.both (λ x y. x) (phrase.nothing module_tree) (word_of word.Module))
unfolding module_count
begins_module = record { one = λ z here rest w. ap module_count w.3.1 ∙ ap module_count w.4 }

module_one : (end n : ℕ) → HasOne (module_definition end n)
module_one end n =
    keep_one (apply_one (keep_one (apply_one (apply_one (apply_one begins_module (identifier_lacks end)) (maybe_lacks (parameters_lacks end n))) (maybe_lacks (port_list_lacks end n))) (sign_lacks mark.Semicolon))
    (many_lacks (item_lacks end n))) (word_lacks word.EndModule refl)

each_one : (end n : ℕ) (ms : List ModuleTree) (here rest : List Token) → Each (module_definition end n).whole ms here rest → module_count here ≡ length ms + module_count rest
each_one end n [] here rest w = let e : module_count here ≡ module_count rest = ap module_count w in omega arith
each_one end n (m ∷ ms) here rest (mid, v, w) =
    let e : module_count here ≡ suc (module_count mid) = (module_one end n).one m here mid v in
    let k = each_one end n ms mid rest w in
    omega arith

none_left : module_count [] ≡ 0
unfolding module_count
none_left = refl

-- as many `module`s as modules
pub modules_counted : (limit : ℕ) (text : List Token) (ms : List ModuleTree) → IsSource limit text ms → length ms ≡ module_count text
modules_counted limit text ms w = let h = each_one (length text) limit ms text [] w in omega (arith, none_left)
