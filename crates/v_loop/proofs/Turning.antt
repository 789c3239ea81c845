-- What is left of the turns.
use Rattle.std.proofs.Common.{◌≡◌, ℕ, zero, suc, ◌+◌, ◌-◌, ◌<◌, ◌≤◌, List, [], ◌∷◌, ◌++◌, Option, Some, None, Bool, true, false, Result, Ok, Err, refl, sym, ap, ◌∙◌, subst, arith, max}
use Rattle.std.proofs.lemmas.List.{append_assoc, append-nil}
use Rattle.four_value.specs.declared.Digit.{Digit}
use Rattle.four_value.specs.declared.Digit.TheVariants.{Zero, One, X, Z}
use Rattle.four_value.specs.Vector.{resize}
use Rattle.gpi.specs.Operators.{truth}
use Rattle.v_syntax.specs.ExpressionTrees.{Tree}
use Rattle.v_flat.specs.declared.scope.rule.Broken.{Broken}
use Rattle.v_flat.specs.declared.scope.rule.ElabRule.TheVariants as rule
use Rattle.v_flat.specs.declared.scope.meaning.DataObject.{DataObject}
use Rattle.v_flat.specs.declared.scope.found.Found.{Found}
use Rattle.v_flat.specs.declared.scope.found.Found.TheVariants.{Sound, Noted, Lost}
use Rattle.v_flat.specs.Scope.Found.{and_then, broken, each, ended, next}
use Rattle.v_flat.specs.Scope.Scope.{Scope, width_of}
use Rattle.v_flat.proofs.ScopeLemmas.Gathered.{each_each, each_same}
use Rattle.v_flat.specs.Checks.{checked, constant_of, given_to}
use Rattle.v_flat.specs.Statements.{Turns, more_turn, turn, turns_from, where_true}
use Rattle.v_loop.specs.Steps.{condition_of, is_one, next_value, only_if}
use Rattle.v_loop.proofs.Settled.{IsSettled, constant_settled}

-- the values of the turns that are left stand behind those before
abbrev pub after : List (List Digit) → Turns → Turns
after vs x = (vs ++ x.0, x.1)

abbrev found_by : {A B : Type 0} → Result A Broken → (A → Found B) → Found B
found_by (Ok a) f = f a
found_by (Err b) f = Lost b

abbrev go_on : List Digit → (List Digit → Found Turns) → Option (List Digit) → Found Turns
go_on v k None = Sound ([], v)
go_on v k (Some e) = each (more_turn v) (k e)

abbrev too_long : ℕ → List Digit → Bool → Found Turns
too_long p v true = broken rule.LoopTooLong p
too_long p v false = Sound ([], v)

-- the value behind a turn that there is
stepped : (y : Found (List Digit)) (w : ℕ) (v : List Digit) (k : List Digit → Found Turns) → IsSettled y
    → and_then y (λ e. each (more_turn v) (k (resize e w))) ≡ found_by (next (ended (each (λ ds. resize ds w) y)) (λ a. Ok (Some a))) (go_on v k)
stepped (Sound e) w v k s = refl
stepped (Noted b e) w v k s = absurd (cc)
stepped (Lost b) w v k s = refl

where_held : (d : Digit) (y : Found (List Digit)) (w : ℕ) (v : List Digit) (k : List Digit → Found Turns) → IsSettled y
    → where_true d v (λ u. and_then y (λ e. each (more_turn v) (k (resize e w)))) ≡ found_by (only_if (ended (each (λ ds. resize ds w) y)) (is_one d)) (go_on v k)
where_held One y w v k s = stepped y w v k s
where_held Zero y w v k s = refl
where_held X y w v k s = refl
where_held Z y w v k s = refl

one_turn : (x y : Found (List Digit)) (w : ℕ) (v : List Digit) (k : List Digit → Found Turns) → IsSettled x → IsSettled y
    → and_then x (λ t. where_true (truth t) v (λ u. and_then y (λ e. each (more_turn v) (k (resize e w)))))
    ≡ found_by (next (ended (each (λ ds. is_one (truth ds)) x)) (only_if (ended (each (λ ds. resize ds w) y)))) (go_on v k)
one_turn (Sound t) y w v k r s = where_held (truth t) y w v k s
one_turn (Noted b t) y w v k r s = absurd (cc)
one_turn (Lost b) y w v k r s = refl

last_held : (d : Digit) (p : ℕ) (v : List Digit) → where_true d v (λ u. broken rule.LoopTooLong p) ≡ too_long p v (is_one d)
last_held One p v = refl
last_held Zero p v = refl
last_held X p v = refl
last_held Z p v = refl

no_turn : (x : Found (List Digit)) (p : ℕ) (v : List Digit) → IsSettled x
    → and_then x (λ t. where_true (truth t) v (λ u. broken rule.LoopTooLong p)) ≡ found_by (ended (each (λ ds. is_one (truth ds)) x)) (too_long p v)
no_turn (Sound t) p v r = last_held (truth t) p v
no_turn (Noted b t) p v r = absurd (cc)
no_turn (Lost b) p v r = refl

module _ (p : ℕ) (n : List ℕ) (o : DataObject) (c d : Tree) (s : Scope) (r : Found Turns) (vs : List (List Digit)) (v : List Digit) where
  abbrev left_from : ℕ → List Digit → Found Turns
  left_from left e = turns_from left p n o c d s e

  abbrev behind : Result (Option (List Digit)) Broken
  behind = next_value (width_of o.bounds) c d (turn n o v s)

  next_turn : (left : ℕ) → turns_from (suc left) p n o c d s v ≡ found_by behind (go_on v (left_from left))
  next_turn left = one_turn (constant_of (turn n o v s) c) (given_to (width_of o.bounds) (turn n o v s) d) (width_of o.bounds) v (left_from left)
      (constant_settled (λ w. w) (turn n o v s) c (checked (turn n o v s) c)) (constant_settled (max (width_of o.bounds)) (turn n o v s) d (checked (turn n o v s) d))

  last_turn : turns_from zero p n o c d s v ≡ found_by (condition_of (turn n o v s) c) (too_long p v)
  last_turn = no_turn (constant_of (turn n o v s) c) p v (constant_settled (λ w. w) (turn n o v s) c (checked (turn n o v s) c))

  -- one of the turns that are left
  some_left : (m i : ℕ) → i < m → each (after vs) (left_from (m - i) v) ≡ r → each (after vs) (found_by behind (go_on v (left_from (m - (i + 1))))) ≡ r
  some_left m i h q =
      let e : m - i ≡ suc (m - (i + 1)) = omega (arith, h) in
      ap (λ (x : Found Turns). each (after vs) x) (sym (next_turn (m - (i + 1)))) ∙ subst (λ (k : ℕ). each (after vs) (left_from k v) ≡ r) e q

  none_left : (m i : ℕ) → m ≤ i → each (after vs) (left_from (m - i) v) ≡ r → each (after vs) (found_by (condition_of (turn n o v s) c) (too_long p v)) ≡ r
  none_left m i h q =
      let e : m - i ≡ 0 = omega (arith, h) in
      ap (λ (x : Found Turns). each (after vs) x) (sym last_turn) ∙ subst (λ (k : ℕ). each (after vs) (left_from k v) ≡ r) e q

  abbrev ended_here : Found Turns
  ended_here = Sound (vs, v)

  at_end : each (after vs) (let x : Found Turns = Sound ([], v) in x) ≡ ended_here
  at_end = ap (λ (ws : List (List Digit)). (let x : Found Turns = Sound (ws, v) in x)) (append-nil vs)

  more_left : (e : List Digit) (x : Found Turns) → each (after vs) (each (more_turn v) x) ≡ each (after (vs ++ v ∷ [])) x
  more_left e x = each_each (after vs) (more_turn v) x
      ∙ each_same (λ (y : Turns). after vs (more_turn v y)) (after (vs ++ v ∷ [])) x
      (λ y. ap (λ (ws : List (List Digit)). (let z : Turns = (ws, y.1) in z)) (sym (append_assoc vs (v ∷ []) y.0)))

  -- the turn is done, and these are left
  pub on_more : (m i : ℕ) (e : List Digit) → i < m → each (after vs) (left_from (m - i) v) ≡ r → behind ≡ Ok (Some e)
      → each (after (vs ++ v ∷ [])) (left_from (m - (i + 1)) e) ≡ r
  on_more m i e h q b =
      sym (ap (λ (x : Result (Option (List Digit)) Broken). each (after vs) (found_by x (go_on v (left_from (m - (i + 1)))))) b
      ∙ more_left e (left_from (m - (i + 1)) e)) ∙ some_left m i h q

  -- there is no turn with this value
  pub on_end : (m i : ℕ) → i < m → each (after vs) (left_from (m - i) v) ≡ r → behind ≡ Ok None → ended_here ≡ r
  on_end m i h q b =
      sym (ap (λ (x : Result (Option (List Digit)) Broken). each (after vs) (found_by x (go_on v (left_from (m - (i + 1)))))) b ∙ at_end) ∙ some_left m i h q

  pub on_broken : (m i : ℕ) (f : Broken) → i < m → each (after vs) (left_from (m - i) v) ≡ r → behind ≡ Err f → (let x : Found Turns = Lost f in x) ≡ r
  on_broken m i f h q b =
      sym (ap (λ (x : Result (Option (List Digit)) Broken). each (after vs) (found_by x (go_on v (left_from (m - (i + 1)))))) b) ∙ some_left m i h q

  -- no more turn may follow
  pub on_last_broken : (m i : ℕ) (f : Broken) → m ≤ i → each (after vs) (left_from (m - i) v) ≡ r → condition_of (turn n o v s) c ≡ Err f
      → (let x : Found Turns = Lost f in x) ≡ r
  on_last_broken m i f h q b = sym (ap (λ (x : Result Bool Broken). each (after vs) (found_by x (too_long p v))) b) ∙ none_left m i h q
