-- A means of proof: what the logic asks of a type that holds itself, a size and a code. It says nothing that a reader must trust.
use Rattle.std.specs.Prelude.{◌≡◌, ℕ, zero, suc, ◌+◌, true, false, List, [], ◌∷◌}
use Rattle.std.specs.Coded.{Coded, code_by, coded×, coded_ℕ, coded_list}
use Rattle.std.proofs.Common.{refl, ◌∙◌, ap}
use Rattle.py_value.specs.Trigger.{Trig, Made, Form, Trigs, Time, Rise, Fall, Change, ReadWrite, ReadOnly, NextStep, Cycles, Event, Lock, Join, First, Combine, Limit, NoTrig, Then}

-- greater than that of each part
abbrev mutual
  pub size : Trig → ℕ
  size (Made id form) = form_size form

  pub form_size : Form → ℕ
  form_size (First ts) = row_size ts
  form_size (Combine ts) = row_size ts
  form_size (Limit ts steps) = row_size ts
  form_size _ = 1

  pub row_size : Trigs → ℕ
  row_size NoTrig = 1
  row_size (Then t ts) = size t + row_size ts

-- the nodes of a trigger, each behind its parts
pub data Node : Type 0 where
  no_trig : Node
  then : Node
  made : ℕ → ℕ → Node
  leaf : ℕ → ℕ → ℕ → Node
  first : Node
  combine : Node
  limit : ℕ → Node

abbrev mutual
  pub nodes : Trig → List Node → List Node
  nodes (Made id form) rest = form_nodes form (made id.task.0 id.number ∷ rest)

  pub form_nodes : Form → List Node → List Node
  form_nodes (Time n) rest = leaf 0 n 0 ∷ rest
  form_nodes (Rise s) rest = leaf 1 s.0 0 ∷ rest
  form_nodes (Fall s) rest = leaf 2 s.0 0 ∷ rest
  form_nodes (Change s) rest = leaf 3 s.0 0 ∷ rest
  form_nodes ReadWrite rest = leaf 4 0 0 ∷ rest
  form_nodes ReadOnly rest = leaf 5 0 0 ∷ rest
  form_nodes NextStep rest = leaf 6 0 0 ∷ rest
  form_nodes (Cycles s n true) rest = leaf 7 s.0 n ∷ rest
  form_nodes (Cycles s n false) rest = leaf 8 s.0 n ∷ rest
  form_nodes (Event e) rest = leaf 9 e.0 0 ∷ rest
  form_nodes (Lock l) rest = leaf 10 l.0 0 ∷ rest
  form_nodes (Join t) rest = leaf 11 t.0 0 ∷ rest
  form_nodes (First ts) rest = row_nodes ts (first ∷ rest)
  form_nodes (Combine ts) rest = row_nodes ts (combine ∷ rest)
  form_nodes (Limit ts n) rest = row_nodes ts (limit n ∷ rest)

  pub row_nodes : Trigs → List Node → List Node
  row_nodes NoTrig rest = no_trig ∷ rest
  row_nodes (Then t ts) rest = nodes t (row_nodes ts (then ∷ rest))

pub data Item : Type 0 where
  trig : Trig → Item
  form : Form → Item
  trigs : Trigs → Item

abbrev pub leaf_form : ℕ → ℕ → ℕ → Form
leaf_form zero a b = Time a
leaf_form (suc zero) a b = Rise (record { 0 = a })
leaf_form (suc (suc zero)) a b = Fall (record { 0 = a })
leaf_form (suc (suc (suc zero))) a b = Change (record { 0 = a })
leaf_form (suc (suc (suc (suc zero)))) a b = ReadWrite
leaf_form (suc (suc (suc (suc (suc zero))))) a b = ReadOnly
leaf_form (suc (suc (suc (suc (suc (suc zero)))))) a b = NextStep
leaf_form (suc (suc (suc (suc (suc (suc (suc zero))))))) a b = Cycles (record { 0 = a }) b true
leaf_form (suc (suc (suc (suc (suc (suc (suc (suc zero)))))))) a b = Cycles (record { 0 = a }) b false
leaf_form (suc (suc (suc (suc (suc (suc (suc (suc (suc zero))))))))) a b = Event (record { 0 = a })
leaf_form (suc (suc (suc (suc (suc (suc (suc (suc (suc (suc zero)))))))))) a b = Lock (record { 0 = a })
leaf_form (suc (suc (suc (suc (suc (suc (suc (suc (suc (suc (suc k))))))))))) a b = Join (record { 0 = a })

abbrev pub node : Node → List Item → List Item
node no_trig st = trigs NoTrig ∷ st
node then (trigs ts ∷ trig t ∷ st) = trigs (Then t ts) ∷ st
node then st = st
node (made task n) (form f ∷ st) = trig (Made (record { task = record { 0 = task }; number = n }) f) ∷ st
node (made task n) st = st
node (leaf k a b) st = form (leaf_form k a b) ∷ st
node first (trigs ts ∷ st) = form (First ts) ∷ st
node first st = st
node combine (trigs ts ∷ st) = form (Combine ts) ∷ st
node combine st = st
node (limit n) (trigs ts ∷ st) = form (Limit ts n) ∷ st
node (limit n) st = st

abbrev pub run : List Node → List Item → List Item
run [] st = st
run (n ∷ ns) st = run ns (node n st)

abbrev pub top : List Item → Trig
top (trig t ∷ st) = t
top st = Made (record { task = record { 0 = 0 }; number = 0 }) ReadOnly

mutual
  pub back : (t : Trig) (rest : List Node) (st : List Item) → run (nodes t rest) st ≡ run rest (trig t ∷ st)
  back (Made id f) rest st = form_back f (made id.task.0 id.number ∷ rest) st

  pub form_back : (f : Form) (rest : List Node) (st : List Item) → run (form_nodes f rest) st ≡ run rest (form f ∷ st)
  form_back (Time n) rest st = refl
  form_back (Rise s) rest st = refl
  form_back (Fall s) rest st = refl
  form_back (Change s) rest st = refl
  form_back ReadWrite rest st = refl
  form_back ReadOnly rest st = refl
  form_back NextStep rest st = refl
  form_back (Cycles s n true) rest st = refl
  form_back (Cycles s n false) rest st = refl
  form_back (Event e) rest st = refl
  form_back (Lock l) rest st = refl
  form_back (Join t) rest st = refl
  form_back (First ts) rest st = row_back ts (first ∷ rest) st
  form_back (Combine ts) rest st = row_back ts (combine ∷ rest) st
  form_back (Limit ts n) rest st = row_back ts (limit n ∷ rest) st

  pub row_back : (ts : Trigs) (rest : List Node) (st : List Item) → run (row_nodes ts rest) st ≡ run rest (trigs ts ∷ st)
  row_back NoTrig rest st = refl
  row_back (Then t ts) rest st = back t (row_nodes ts (then ∷ rest)) st ∙ row_back ts (then ∷ rest) (trig t ∷ st)

abbrev pub node_numbers : Node → ℕ × ℕ × ℕ × ℕ
node_numbers no_trig = (0, 0, 0, 0)
node_numbers then = (1, 0, 0, 0)
node_numbers (made a b) = (2, a, b, 0)
node_numbers (leaf a b c) = (3, a, b, c)
node_numbers first = (4, 0, 0, 0)
node_numbers combine = (5, 0, 0, 0)
node_numbers (limit n) = (6, n, 0, 0)

abbrev pub node_of : ℕ → ℕ → ℕ → ℕ → Node
node_of zero a b c = no_trig
node_of (suc zero) a b c = then
node_of (suc (suc zero)) a b c = made a b
node_of (suc (suc (suc zero))) a b c = leaf a b c
node_of (suc (suc (suc (suc zero)))) a b c = first
node_of (suc (suc (suc (suc (suc zero))))) a b c = combine
node_of (suc (suc (suc (suc (suc (suc k)))))) a b c = limit a

abbrev pub node_again : Node → Node
node_again n = node_of (node_numbers n).0 (node_numbers n).1 (node_numbers n).2 (node_numbers n).3

pub node_back : (n : Node) → node_again n ≡ n
node_back no_trig = refl
node_back then = refl
node_back (made a b) = refl
node_back (leaf a b c) = refl
node_back first = refl
node_back combine = refl
node_back (limit n) = refl

abbrev pub four_code : Coded (ℕ × ℕ × ℕ × ℕ)
four_code = code_by (ℕ × (ℕ × (ℕ × ℕ))) (coded× coded_ℕ (coded× coded_ℕ (coded× coded_ℕ coded_ℕ))) (λ p. (p.0, (p.1, (p.2, p.3)))) (λ p. (p.0, p.1.0, p.1.1.0, p.1.1.1)) (λ _. refl)

abbrev pub node_code : Coded Node
node_code = code_by (ℕ × ℕ × ℕ × ℕ) four_code node_numbers (λ p. node_of p.0 p.1 p.2 p.3) node_back

abbrev pub trig_code : Coded Trig
trig_code = code_by (List Node) (coded_list node_code) (λ t. nodes t []) (λ ns. top (run ns [])) (λ t. ap top (back t [] []))
