-- An expression spells a token at least.
use Rattle.std.proofs.Common.{◌≡◌, ℕ, ◌+◌, ◌<◌, ◌≤◌, List, ◌∷◌, length, arith, inl, inr}
use Rattle.py_syntax.specs.ExpressionTrees.{Tree, Constant, FormatString, Name, Bracketed, Attribute, Subscript, Call, MethodCall, Unary, Infix, Trees, NoTree, Then, Parts, NoPart, TextThen, FormattedThen}
use Rattle.py_syntax.specs.ExpressionSpells.{Closes, Begins, Spells, SpellArguments, SpellOthers, SpellParts}
use Rattle.py_syntax.specs.declared.token.Token.{Token}
use Rattle.py_syntax.specs.declared.expression.Function.{Function}
use Rattle.py_expression.proofs.Tables.{operation_length}

after_one : (t : Token) (ts us : List Token) → ts ≡ t ∷ us → length ts ≡ length us + 1
after_one t ts us e = rw e (omega arith)

pub closes_length : (here rest : List Token) → Closes here rest → length rest + 1 ≤ length here
closes_length here rest (inl e) = rw e (omega arith)
closes_length here rest (inr e) = rw e (omega arith)

begins_length : (f : Function) (n : ℕ) (us vs : List Token) → Begins f n us vs → length vs ≤ length us
begins_length f n us vs (inl e) = rw e (omega arith)
begins_length f n us vs (inr (name, at, e)) = rw e (omega arith)

mutual
  unfolding Spells SpellArguments SpellOthers SpellParts

  pub spells_length : (e : Tree) (ts rest : List Token) → Spells e ts rest → length rest < length ts
  spells_length (Constant c) ts rest (t, is, e) = rw e (omega arith)
  spells_length (FormatString ps) ts rest (us, e, more) = rw e (omega (arith, parts_length ps us rest more))
  spells_length (Name n) ts rest e = rw e (omega arith)
  spells_length (Bracketed x) ts rest (us, vs, a, s, b) = rw a (let h = spells_length x us vs s in let k : length vs ≡ length rest + 1 = after_one _ vs rest b in omega arith)
  spells_length (Attribute x n) ts rest (us, s, l, a) = let h = spells_length x ts us s in let k : length us ≡ length rest + 2 = rw a (omega arith) in omega arith
  spells_length (Subscript x i) ts rest (us, vs, ws, s, l, a, si, b) =
      let h = spells_length x ts us s in let k : length us ≡ length vs + 1 = after_one _ us vs a in
      let h2 = spells_length i vs ws si in let k2 : length ws ≡ length rest + 1 = after_one _ ws rest b in omega arith
  spells_length (Call f es) ts rest (us, a, more) = rw a (omega (arith, arguments_length f es us rest more))
  spells_length (MethodCall x m) ts rest (us, s, l, a) = let h = spells_length x ts us s in let k : length us ≡ length rest + 4 = rw a (omega arith) in omega arith
  spells_length (Unary op x) ts rest (us, a, s, l) = rw a (omega (arith, spells_length x us rest s))
  spells_length (Infix op x y) ts rest (us, vs, sx, lx, a, sy, ly) =
      let h = spells_length x ts us sx in let k : length vs + 1 ≤ length us = rw a (operation_length op vs) in
      let h2 = spells_length y vs rest sy in omega arith

  pub arguments_length : (f : Function) (es : Trees) (ts rest : List Token) → SpellArguments f es ts rest → length rest < length ts
  arguments_length f NoTree ts rest (enough, e) = rw e (omega arith)
  arguments_length f (Then x es) ts rest (us, vs, takes, begins, s, more) =
      let h = begins_length f 0 ts us begins in let h2 = spells_length x us vs s in let h3 = others_length f 1 es vs rest more in omega arith

  pub others_length : (f : Function) (n : ℕ) (es : Trees) (ts rest : List Token) → SpellOthers f n es ts rest → length rest < length ts
  others_length f n NoTree ts rest (enough, closes) = omega (arith, closes_length ts rest closes)
  others_length f n (Then x es) ts rest (us, vs, ws, a, takes, begins, s, more) =
      let k : length ts ≡ length us + 1 = after_one _ ts us a in
      let h = begins_length f n us vs begins in let h2 = spells_length x vs ws s in let h3 = others_length f (n + 1) es ws rest more in omega arith

  pub parts_length : (ps : Parts) (ts rest : List Token) → SpellParts ps ts rest → length rest < length ts
  parts_length NoPart ts rest e = rw e (omega arith)
  parts_length (TextThen t ps) ts rest (us, e, more) = rw e (omega (arith, parts_length ps us rest more))
  parts_length (FormattedThen x ps) ts rest (us, vs, ws, a, s, b, more) =
      let k : length ts ≡ length us + 1 = after_one _ ts us a in
      let h = spells_length x us vs s in let k2 : length vs ≡ length ws + 1 = after_one _ vs ws b in
      let h2 = parts_length ps ws rest more in omega arith
