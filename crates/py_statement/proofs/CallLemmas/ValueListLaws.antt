-- The laws of reading arguments that are given by their places alone.
use Rattle.std.proofs.Common.{◌≡◌, ℕ, max, List, [], ◌∷◌, map, Option, Some, None, refl, sym, ap, ◌∙◌, arith, subst, true}
use Rattle.py_syntax.specs.ExpressionTrees.{Tree}
use Rattle.py_syntax.specs.StatementTrees.{Argument}
use Rattle.py_syntax.specs.CallForms.{is_placed, placed, SpellsArguments, SpellsValues}
use Rattle.py_syntax.specs.declared.token.Token.{Token}
use Rattle.py_expression.proofs.PhraseLemmas.Facts.{some_same}
use Rattle.py_statement.specs.Call.Kept.{kept, given_as, kept_list, kept_arguments}
use Rattle.py_statement.specs.Call.Chosen.{made}
use Rattle.py_statement.specs.Call.Reading.{arguments_of, are_placed, values, only_placed, values_of, one_of, only_value_of}
use Rattle.py_statement.proofs.CallLemmas.Chosen.{not_some, also_is, made_is, choice_is, and_is}
use Rattle.py_statement.proofs.CallLemmas.ArgumentLaws.{arguments_sound, arguments_again}

kept_placed : (limit : ℕ) (es : List Tree) → kept_arguments limit (map placed es) ≡ (map placed (kept_list (kept limit) es).0, (kept_list (kept limit) es).1)
unfolding kept_list
kept_placed limit [] = refl
kept_placed limit (e ∷ es) = rw (kept_placed limit es)

placed_all : (es : List Tree) → are_placed (map placed es) ≡ true
unfolding are_placed
placed_all [] = refl
placed_all (e ∷ es) = placed_all es

values_placed : (es : List Tree) → values (map placed es) ≡ es
values_placed [] = refl
values_placed (e ∷ es) = ap (λ fs. e ∷ fs) (values_placed es)

one_placed : (name : Option (List ℕ)) (e : Tree) → is_placed name ≡ true → given_as name e ≡ placed e
one_placed None e h = refl
one_placed (Some n) e h = absurd cc

placed_is : (limit : ℕ) (xs : List Argument) → are_placed (kept_arguments limit xs).0 ≡ true → xs ≡ map placed (values xs)
unfolding are_placed kept_list
placed_is limit [] h = refl
placed_is limit (x ∷ xs) h =
    let (a, b) = and_is (is_placed x.name) (are_placed (kept_arguments limit xs).0) h in
    ap (λ y. y ∷ xs) (one_placed x.name x.value a) ∙ ap (λ ys. placed x.value ∷ ys) (placed_is limit xs b)

kept_values : (limit : ℕ) (es : List Tree) → (values (kept_arguments limit (map placed es)).0, (kept_arguments limit (map placed es)).1) ≡ kept_list (kept limit) es
kept_values limit es = rw (kept_placed limit es, values_placed (kept_list (kept limit) es).0)

pub values_sound : (limit : ℕ) (ts rest : List Token) (v : List Tree × ℕ) → values_of limit ts ≡ Some (v, rest) → (es : List Tree) × SpellsValues es ts rest × (v ≡ kept_list (kept limit) es)
unfolding values_of
values_sound limit ts rest v h =
    let (y, a, b) = also_is (arguments_of limit ts) only_placed (v, rest) h in
    let (p, same) = choice_is (are_placed y.0.0) ((values y.0.0, y.0.1), y.1) (v, rest) b in
    let (xs, s, k) = arguments_sound limit ts y.1 y.0 a in
    let all : xs ≡ map placed (values xs) = placed_is limit xs (ap (λ (w : List Argument × ℕ). are_placed w.0) (sym k) ∙ p) in (
      values xs,
      subst (λ zs. SpellsArguments zs ts rest) all (subst (λ us. SpellsArguments xs ts us) (ap (λ (w : (List Tree × ℕ) × List Token). w.1) same) s),
      sym (ap (λ (w : (List Tree × ℕ) × List Token). w.0) same)
          ∙ ap (λ (w : List Argument × ℕ). (values w.0, w.1)) k
          ∙ ap (λ zs. (values (kept_arguments limit zs).0, (kept_arguments limit zs).1)) all
          ∙ kept_values limit (values xs),
    )

pub values_again : (limit : ℕ) (es : List Tree) (ts rest : List Token) → SpellsValues es ts rest → values_of limit ts ≡ Some (kept_list (kept limit) es, rest)
unfolding values_of
values_again limit es ts rest s =
    rw (arguments_again limit (map placed es) ts rest s, kept_placed limit es, placed_all (kept_list (kept limit) es).0, values_placed (kept_list (kept limit) es).0)

-- ---- one

one_kept : (limit : ℕ) (es : List Tree) (x : Tree) → one_of (kept_list (kept limit) es).0 ≡ Some x → (e : Tree) × (es ≡ e ∷ []) × ((x, (kept_list (kept limit) es).1) ≡ kept limit e)
unfolding kept_list
one_kept limit [] x h = absurd (not_some h)
one_kept limit (e ∷ []) x h = (e, refl, ap (λ t. (t, max (kept limit e).1 0)) (sym (some_same h)) ∙ ap (λ n. ((kept limit e).0, n)) (let k : max (kept limit e).1 0 ≡ (kept limit e).1 = omega arith in k))
one_kept limit (e ∷ f ∷ es) x h = absurd (not_some h)

pub only_value_sound : (limit : ℕ) (ts rest : List Token) (v : Tree × ℕ) → only_value_of limit ts ≡ Some (v, rest) → (e : Tree) × SpellsValues (e ∷ []) ts rest × (v ≡ kept limit e)
unfolding only_value_of
only_value_sound limit ts rest v h =
    let (x, a, b) = also_is (values_of limit ts) (λ y. made (λ e. ((e, y.0.1), y.1)) (one_of y.0.0)) (v, rest) h in
    let (t, c, d) = made_is (one_of x.0.0) (λ e. ((e, x.0.1), x.1)) (v, rest) b in
    let (es, s, k) = values_sound limit ts x.1 x.0 a in
    let (e, list, is) = one_kept limit es t (ap (λ (w : List Tree × ℕ). one_of w.0) (sym k) ∙ c) in (
      e,
      subst (λ us. SpellsValues (e ∷ []) ts us) (ap (λ (w : (Tree × ℕ) × List Token). w.1) d) (subst (λ fs. SpellsValues fs ts x.1) list s),
      sym (ap (λ (w : (Tree × ℕ) × List Token). w.0) d) ∙ ap (λ (w : List Tree × ℕ). (t, w.1)) k ∙ is,
    )

pub only_value_again : (limit : ℕ) (e : Tree) (ts rest : List Token) → SpellsValues (e ∷ []) ts rest → only_value_of limit ts ≡ Some (kept limit e, rest)
unfolding only_value_of kept_list
only_value_again limit e ts rest s =
    rw (values_again limit (e ∷ []) ts rest s) (ap (λ n. Some (((kept limit e).0, n), rest)) (let k : max (kept limit e).1 0 ≡ (kept limit e).1 = omega arith in k))
