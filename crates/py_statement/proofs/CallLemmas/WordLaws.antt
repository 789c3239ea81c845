-- What the words of calls tell of the tokens, and where no expression reaches to the end of the line.
use Rattle.std.proofs.Common.{◌≡◌, ℕ, List, [], ◌∷◌, Some, None, refl, sym, ap, ◌∙◌, arith, inl, inr, true, false, Bool, if◌then◌else◌}
use Rattle.std.specs.Str.{bytes_eq}
use Rattle.py_syntax.specs.ExpressionTrees.{Tree, Name, Attribute}
use Rattle.py_syntax.specs.ExpressionTables.{function_of, method_of}
use Rattle.py_syntax.specs.ExpressionSpells.{level, Closes, Spells}
use Rattle.py_syntax.specs.CallForms.{call_tokens, method_tokens, member_tokens}
use Rattle.py_syntax.specs.declared.keyword.Keyword.TheVariants as keyword
use Rattle.py_syntax.specs.declared.operator.Operator.TheVariants as operator
use Rattle.py_syntax.specs.declared.operator.Bracket.TheVariants as bracket
use Rattle.py_syntax.specs.declared.token.Token.{Token}
use Rattle.py_syntax.specs.declared.token.Token.TheVariants as token
use Rattle.py_expression.specs.Shown.{Shown}
use Rattle.py_expression.specs.Tokens.{operation_at}
use Rattle.py_expression.specs.Phrase.Marks.{after, after_dot, after_open, name_at}
use Rattle.py_expression.specs.Ends.{IsPlain}
use Rattle.py_expression.proofs.Again.{Quiet}
use Rattle.py_expression.proofs.ReaderLaws.{expression_again, one_expression_law}
use Rattle.py_expression.specs.declared.phrase.mark.Mark.TheVariants as mark
use Rattle.py_expression.proofs.PhraseLemmas.Facts.{after_is, after_dot_is, bytes_same}
use Rattle.py_expression.proofs.PhraseLemmas.Facts.{after_is, after_dot_is, some_same, name_at_is, after_open_is, bytes_are}
use Rattle.py_statement.specs.Call.Chosen.{also}
use Rattle.py_statement.specs.Call.Words.{call_at, after_call, after_member, after_text, after_await, is_end}
use Rattle.py_statement.proofs.CallLemmas.Chosen.{not_some, also_is, choice_is}
use Rattle.py_statement.proofs.CallLemmas.ArgumentLaws.{IsBehind}
use Rattle.py_statement.proofs.CallLemmas.ValueLaws.{same_attribute, quiet_end, stops_quiet, stops_open}

pub call_at_is : (ts : List Token) (c : List ℕ × List Token) → call_at ts ≡ Some c → ts ≡ call_tokens c.0 c.1
unfolding after
call_at_is ts c h =
    let (x, a, b) = also_is (name_at ts) (λ y. also (after_open y.1) (λ us. Some (y.0, us))) c h in
    let (us, d, e) = also_is (after_open x.1) (λ vs. Some (x.0, vs)) c b in
    name_at_is ts x a ∙ ap (λ vs. token.Name x.0 ∷ vs) (after_open_is x.1 us d) ∙ ap (λ (y : List ℕ × List Token). call_tokens y.0 y.1) (some_same e)

pub after_call_is : (name : List ℕ) (ts us : List Token) → after_call name ts ≡ Some us → ts ≡ call_tokens name us
unfolding after
after_call_is name ts us h =
    let (x, a, b) = also_is (call_at ts) (λ y. if bytes_eq y.0 name then Some y.1 else None) us h in
    let (p, same) = choice_is (bytes_eq x.0 name) x.1 us b in
    call_at_is ts x a ∙ ap (λ n. call_tokens n x.1) (bytes_are x.0 name p) ∙ ap (λ vs. call_tokens name vs) same

pub after_call_again : (name : List ℕ) (us : List Token) → after_call name (call_tokens name us) ≡ Some us
unfolding after
after_call_again name us = rw (bytes_same name)

member_more : (owner name n : List ℕ) (vs us : List Token) → (if bytes_eq n owner then after_call name vs else None) ≡ Some us → (n ≡ owner) × (vs ≡ call_tokens name us)
unfolding after
member_more owner name n vs us h = go (bytes_eq n owner) refl h
  where
    go : (b : Bool) → bytes_eq n owner ≡ b → (if b then after_call name vs else None) ≡ Some us → (n ≡ owner) × (vs ≡ call_tokens name us)
    go true q k = (bytes_are n owner q, after_call_is name vs us k)
    go false q k = absurd (not_some k)

pub after_member_is : (owner name : List ℕ) (ts us : List Token) → after_member owner name ts ≡ Some us → ts ≡ member_tokens owner name us
unfolding after
after_member_is owner name ts us h =
    let (x, a, b) = also_is (name_at ts) (λ y. also (after_dot y.1) (λ vs. if bytes_eq y.0 owner then after_call name vs else None)) us h in
    let (vs, c, d) = also_is (after_dot x.1) (λ ws. if bytes_eq x.0 owner then after_call name ws else None) us b in
    let (same, e) = member_more owner name x.0 vs us d in
    name_at_is ts x a ∙ ap (λ ws. token.Name x.0 ∷ ws) (after_dot_is x.1 vs c) ∙ ap (λ n. token.Name n ∷ token.Operator operator.Dot ∷ vs) same
    ∙ ap (λ ws. token.Name owner ∷ token.Operator operator.Dot ∷ ws) e

pub after_member_again : (owner name : List ℕ) (us : List Token) → after_member owner name (member_tokens owner name us) ≡ Some us
unfolding after
after_member_again owner name us = rw (bytes_same owner, bytes_same name)

pub after_text_is : (ts us : List Token) → after_text ts ≡ Some us → (text : List ℕ) × (ts ≡ token.Text text ∷ us)
after_text_is (token.Text text ∷ ts) us e = (text, ap (λ x. token.Text text ∷ x) (some_same e))
after_text_is _ us e = absurd cc

pub after_await_is : (ts us : List Token) → after_await ts ≡ Some us → ts ≡ token.Keyword keyword.Await ∷ us
unfolding after
after_await_is ts us e = after_is (mark.Keyword keyword.Await) ts us e

pub end_behind : (ts : List Token) → is_end ts ≡ true → IsBehind ts
unfolding operation_at after
end_behind [] h = ((refl, refl, refl, refl), refl)
end_behind (token.Operator operator.Comma ∷ ts) h = ((refl, refl, refl, refl), refl)
end_behind (token.Close bracket.Round ∷ ts) h = ((refl, refl, refl, refl), refl)
end_behind _ h = absurd cc

pub closes_end : (ts rest : List Token) → Closes ts rest → is_end ts ≡ true
closes_end ts rest (inl e) = rw e
closes_end ts rest (inr e) = rw e

-- an expression that nothing goes on with, and another one that ends elsewhere
pub no_rest : (limit : ℕ) (e f : Tree) (ts us rest : List Token) → Spells e ts (token.Open bracket.Round ∷ us) → IsPlain e → Spells f ts rest → Quiet rest
    → (rest ≡ token.Open bracket.Round ∷ us → ⊥) → ⊥
unfolding after
no_rest limit e f ts us rest s p t q never =
    let a = expression_again limit e ts (token.Open bracket.Round ∷ us) s (stops_open 1 e us (omega arith) p) in
    let b = expression_again limit f ts rest t (stops_quiet 1 f rest (omega arith) q) in
    never (ap (λ (x : Shown × List Token). x.1) (some_same (sym b ∙ a)))

end_no_open : (us : List Token) → [] ≡ token.Open bracket.Round ∷ us → ⊥
end_no_open us h = cc

-- the same of one that reaches to the end of the line
pub no_other : (limit : ℕ) (e f : Tree) (ts us : List Token) → Spells e ts (token.Open bracket.Round ∷ us) → IsPlain e → Spells f ts [] → ⊥
unfolding after
no_other limit e f ts us s p t = no_rest limit e f ts us [] s p t quiet_end (end_no_open us)

pub no_value_call : (limit : ℕ) (name : List ℕ) (us : List Token) (e : Tree) → function_of name ≡ None → Spells e (call_tokens name us) [] → ⊥
unfolding Spells IsPlain
no_value_call limit name us e h s = no_other limit (Name name) e (call_tokens name us) us refl h s

pub no_value_member : (limit : ℕ) (owner name : List ℕ) (us : List Token) (e : Tree) → method_of name ≡ None → Spells e (member_tokens owner name us) [] → ⊥
unfolding Spells IsPlain level
no_value_member limit owner name us e h s = no_other limit (Attribute (Name owner) name) e (member_tokens owner name us) us (method_tokens name us, refl, refl, refl) h s

-- Where a name and a bracket stand, no method without brackets is called of what begins there.

name_no_attribute : (n m : List ℕ) (e : Tree) → Name n ≡ Attribute e m → ⊥
name_no_attribute n m e h = cc

pub no_method_call : (name m : List ℕ) (us vs : List Token) (e : Tree) → function_of name ≡ None → method_of m ≡ None
    → Spells e (call_tokens name us) (method_tokens m vs) → level e ≡ 12 → ⊥
unfolding Spells IsPlain level after
no_method_call name m us vs e h k s l =
    name_no_attribute name m e
    (one_expression_law (Name name) (Attribute e m) (call_tokens name us) (token.Open bracket.Round ∷ us) (token.Open bracket.Round ∷ vs) refl
    (stops_open 1 (Name name) us (omega arith) h) (method_tokens m vs, s, l, refl) (stops_open 1 (Attribute e m) vs (omega arith) k)).0

pub no_method_member : (owner name m : List ℕ) (us vs : List Token) (e : Tree) → method_of name ≡ None → method_of m ≡ None → bytes_eq name m ≡ false
    → Spells e (member_tokens owner name us) (method_tokens m vs) → level e ≡ 12 → ⊥
unfolding Spells IsPlain level after
no_method_member owner name m us vs e h k other s l =
    let same : Attribute (Name owner) name ≡ Attribute e m =
    (one_expression_law (Attribute (Name owner) name) (Attribute e m) (member_tokens owner name us) (token.Open bracket.Round ∷ us) (token.Open bracket.Round ∷ vs)
    (method_tokens name us, refl, refl, refl) (stops_open 1 (Attribute (Name owner) name) us (omega arith) h)
    (method_tokens m vs, s, l, refl) (stops_open 1 (Attribute e m) vs (omega arith) k)).0 in
    let both : false ≡ true = sym other ∙ ap (λ n. bytes_eq n m) (same_attribute (Name owner) e name m same) ∙ bytes_same m in cc
