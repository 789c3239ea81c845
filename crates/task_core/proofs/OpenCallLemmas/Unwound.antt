-- The last part of a stack comes first: what is taken off it, what is passed while blocks are left, and what the first thing costs.
use Rattle.std.proofs.Common.{◌≡◌, ℕ, ◌+◌, ◌-◌, ◌<◌, ◌≤◌, List, [], ◌∷◌, ◌++◌, length, take, get_or, refl, sym, ap, ◌∙◌, append_assoc, arith}
use Rattle.std.proofs.lemmas.List.{append-nil, take_more}
use Rattle.test_meaning.specs.Body.BodyTrees.{Block, NoItem, Then, Item}
use Rattle.rig_model.specs.Task.Frame.{Todo, Do, items}
use Rattle.rig_model.specs.Task.Cost.{first_cost}
use Rattle.task_core.specs.Code.Reading.{Reading}
use Rattle.task_core.specs.declared.open_call.todo.Mark.{Mark}
use Rattle.task_core.specs.declared.open_call.todo.Part.{Part}
use Rattle.task_core.specs.declared.open_call.todo.Part.TheVariants as part
use Rattle.task_core.specs.OpenCall.Parts.{from_mark, mark_in, part_todo, unwound}

module _ {C : Type 0} (r : C → Reading) where
  pub unwound_last : (ps : List (Part C)) (p : Part C) → unwound r (ps ++ p ∷ []) ≡ part_todo r p ++ unwound r ps
  unwound_last [] p = sym (append-nil (part_todo r p))
  unwound_last (q ∷ ps) p = ap (λ (ts : List Todo). ts ++ part_todo r q) (unwound_last ps p) ∙ append_assoc (part_todo r p) (unwound r ps) (part_todo r q)

  -- ---- what is taken off the stack

  -- a statement of the last block
  pub taken_item : (ps : List (Part C)) (c d : C) (i : Item) → (r c).block ≡ Then i (r d).block
      → unwound r (ps ++ part.Block c ∷ []) ≡ Do i ∷ unwound r (ps ++ part.Block d ∷ [])
  taken_item ps c d i e =
      unwound_last ps (part.Block c)
      ∙ ap (λ (b : Block). items b ++ unwound r ps) e
      ∙ ap (λ (ts : List Todo). Do i ∷ ts) (sym (unwound_last ps (part.Block d)))

  -- a mark
  pub taken_mark : (ps : List (Part C)) (m : Mark C) → unwound r (ps ++ part.Mark m ∷ []) ≡ mark_in r m ∷ unwound r ps
  taken_mark ps m = unwound_last ps (part.Mark m)

  -- nothing, where the last block is empty
  pub taken_nothing : (ps : List (Part C)) (c : C) → (r c).block ≡ NoItem → unwound r (ps ++ part.Block c ∷ []) ≡ unwound r ps
  taken_nothing ps c e = unwound_last ps (part.Block c) ∙ ap (λ (b : Block). items b ++ unwound r ps) e

  -- ---- what is passed while blocks are left

  passed_items : (b : Block) (ts : List Todo) → from_mark (items b ++ ts) ≡ from_mark ts
  passed_items NoItem ts = refl
  passed_items (Then i b) ts = passed_items b ts

  pub passed_block : (ps : List (Part C)) (c : C) → from_mark (unwound r (ps ++ part.Block c ∷ [])) ≡ from_mark (unwound r ps)
  passed_block ps c = ap from_mark (unwound_last ps (part.Block c)) ∙ passed_items (r c).block (unwound r ps)

  pub passed_mark : (ps : List (Part C)) (m : Mark C) (ts : List Todo) → from_mark (mark_in r m ∷ unwound r ps) ≡ ts
      → from_mark (unwound r (ps ++ part.Mark m ∷ [])) ≡ ts
  passed_mark ps m ts h = ap from_mark (unwound_last ps (part.Mark m)) ∙ h

  -- ---- what the first thing costs

  front : (ps : List (Part C)) (k : ℕ) (p : Part C) → 1 ≤ k → k ≤ length ps → p ≡ get_or ps (k - 1) p
      → unwound r (take k ps) ≡ part_todo r p ++ unwound r (take (k - 1) ps)
  front ps k p a b e =
      let next : k ≡ k - 1 + 1 = omega arith in
      ap (λ (j : ℕ). unwound r (take j ps)) next
      ∙ ap (λ (qs : List (Part C)). unwound r qs) (take_more ps (k - 1) p (omega arith) ∙ ap (λ (x : Part C). take (k - 1) ps ++ x ∷ []) (sym e))
      ∙ unwound_last (take (k - 1) ps) p

  pub cost_found : (ps : List (Part C)) (k : ℕ) (p : Part C) (n : ℕ) → 1 ≤ k → k ≤ length ps → p ≡ get_or ps (k - 1) p
      → ((ts : List Todo) → first_cost (part_todo r p ++ ts) ≡ n) → first_cost (unwound r (take k ps)) ≡ n
  cost_found ps k p n a b e h = ap first_cost (front ps k p a b e) ∙ h (unwound r (take (k - 1) ps))

  pub cost_passed : (ps : List (Part C)) (k : ℕ) (p : Part C) → 1 ≤ k → k ≤ length ps → p ≡ get_or ps (k - 1) p → part_todo r p ≡ []
      → first_cost (unwound r (take k ps)) ≡ first_cost (unwound r (take (k - 1) ps))
  cost_passed ps k p a b e h = ap first_cost (front ps k p a b e ∙ ap (λ (ts : List Todo). ts ++ unwound r (take (k - 1) ps)) h)
