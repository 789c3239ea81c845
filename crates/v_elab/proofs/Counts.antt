-- How many processes the declarations of an item give.
use Rattle.std.proofs.Common.{◌≡◌, ℕ, suc, ◌+◌, ◌<◌, ◌≤◌, List, ◌∷◌, length, map, take, get_or, Option, Some, None, option_map, is_some, Bool, true, false, cond, refl, sym, ap, ◌∙◌, arith}
use Rattle.std.specs.List.{count_by}
use Rattle.std.proofs.lemmas.List.{take_all}
use Rattle.std.proofs.lemmas.List.Sums.{count_by_more_yes, count_by_more_no}
use Rattle.std.proofs.lemmas.List.Recursion.{is_count_by}
use Rattle.v_syntax.specs.declared.expression.Expression.{Expression}
use Rattle.v_syntax.specs.declared.statement.Identifier.{Identifier}
use Rattle.v_syntax.specs.declared.item.NetDeclarator.{NetDeclarator}
use Rattle.v_syntax.specs.declared.item.RegisterDeclarator.{RegisterDeclarator}
use Rattle.v_syntax.specs.declared.item.RegisterTail.{RegisterTail}
use Rattle.v_syntax.specs.declared.item.RegisterTail.TheVariants as tail
use Rattle.v_syntax.specs.declared.item.ContinuousAssignment.{ContinuousAssignment}
use Rattle.v_syntax.specs.ExpressionTrees.{view}
use Rattle.v_syntax.specs.SourceTrees.{NetTree, Net, RegisterTree, Register, view_net, view_register, view_tail, view_driver}
use Rattle.v_flat.specs.Design.{net_count, register_count}
use Rattle.v_elab.specs.ItemsSteps.{is_opening}

one_net : (i : Identifier) (e : Option Expression) (ns : List NetTree) → net_count (Net i (option_map view e) ∷ ns) ≡ cond (is_some e) (1 + net_count ns) (net_count ns)
one_net i None ns = refl
one_net i (Some e) ns = let h : suc (net_count ns) ≡ 1 + net_count ns = omega arith in h

pub nets_counted : (ns : List NetDeclarator) → net_count (map view_net ns) ≡ count_by (λ n. is_some n.value) ns
nets_counted ns = is_count_by (λ (xs : List NetDeclarator). net_count (map view_net xs)) (λ n. is_some n.value) refl (λ n xs. one_net n.name n.value (map view_net xs)) ns

one_register : (i : Identifier) (t : Option RegisterTail) (rs : List RegisterTree)
    → register_count (Register i (option_map view_tail t) ∷ rs) ≡ cond (is_opening t) (1 + register_count rs) (register_count rs)
one_register i None rs = refl
one_register i (Some (tail.Words r)) rs = refl
one_register i (Some (tail.Value e)) rs = let h : suc (register_count rs) ≡ 1 + register_count rs = omega arith in h

pub registers_counted : (rs : List RegisterDeclarator) → register_count (map view_register rs) ≡ count_by (λ r. is_opening r.tail) rs
registers_counted rs =
    is_count_by (λ (xs : List RegisterDeclarator). register_count (map view_register xs)) (λ r. is_opening r.tail) refl (λ r xs. one_register r.name r.tail (map view_register xs)) rs

pub drivers_counted : (ds : List ContinuousAssignment) → length (map view_driver ds) ≡ count_by (λ d. true) ds
drivers_counted ds =
    is_count_by (λ (xs : List ContinuousAssignment). length (map view_driver xs)) (λ d. true) refl
    (λ d xs. let h : suc (length (map view_driver xs)) ≡ 1 + length (map view_driver xs) = omega arith in h) ds

-- ---- one element more

one_counted : {A : Type 0} (p : A → Bool) (xs : List A) (j : ℕ) (a : A) (n : ℕ) (b : Bool) → p (get_or xs j a) ≡ b → j < length xs → n ≡ count_by p (take j xs)
    → cond b (n + 1) n ≡ count_by p (take (j + 1) xs)
one_counted p xs j a n true h l e = ap (λ (m : ℕ). m + 1) e ∙ sym (count_by_more_yes p xs j a l h)
one_counted p xs j a n false h l e = e ∙ sym (count_by_more_no p xs j a l h)

few_counted : (b : Bool) (n j : ℕ) → n ≤ j → cond b (n + 1) n ≤ j + 1
few_counted true n j h = omega (arith, h)
few_counted false n j h = omega (arith, h)

-- so many are counted of the elements so far, and no more than there are
abbrev pub IsCounted : {A : Type 0} → (A → Bool) → List A → ℕ → ℕ → Type 0
IsCounted p xs j n = (n ≡ count_by p (take j xs)) × (n ≤ j)

pub counted_more : {A : Type 0} (p : A → Bool) (xs : List A) (j : ℕ) (a : A) (n m : ℕ) → j < length xs → a ≡ get_or xs j a → m ≡ cond (p a) (n + 1) n
    → IsCounted p xs j n → IsCounted p xs (j + 1) m
counted_more {A} p xs j a n m l e h k =
    let o = one_counted p xs j a n (p a) (ap p (sym e)) l k.0 in
    let f = few_counted (p a) n j k.1 in
    (h ∙ o, omega (arith, h, f))

pub all_counted : {A : Type 0} (p : A → Bool) (xs : List A) (j n : ℕ) → length xs ≤ j → IsCounted p xs j n → n ≡ count_by p xs
all_counted {A} p xs j n l k = k.0 ∙ ap (λ (ys : List A). count_by p ys) (take_all j xs l)
