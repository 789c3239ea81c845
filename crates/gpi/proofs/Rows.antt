-- A row of statements as a list.
use Rattle.std.proofs.Common.{◌≡◌, ℕ, zero, suc, List, length, Option, Some, None, refl, ap, ◌∙◌}
use Rattle.gpi.specs.declared.acts.Act.{Act, Row_of-Act, end_of-Act, more_of-Act, items-the_row-Act, items_hidden-the_row-Act-0}
use Rattle.gpi.specs.declared.acts.Act.TheBlock.{hidden-the_row-Act-0}
use Rattle.gpi.specs.declared.acts.Acts.{Acts}
use Rattle.gpi.specs.Activation.{Run, acts_of, activation, activations, activation_at, by_item, row_length, IsSound, AreSound, run_list, run_at, SoundList}

pub row_is_list : {k : _} (all : Row_of-Act k) (r : Run) → activations all r ≡ run_list (items-the_row-Act k all) r
row_is_list end_of-Act r = refl
row_is_list (more_of-Act a rest) r = row_is_list rest (activation a r)

pub row_at : {k : _} (all : Row_of-Act k) (n : ℕ) (r : Run) → activation_at all n r ≡ run_at (items-the_row-Act k all) n r
row_at end_of-Act n r = refl
row_at (more_of-Act a rest) zero r = refl
row_at (more_of-Act a rest) (suc n) r = row_at rest n r

pub row_long : {k : _} (all : Row_of-Act k) → row_length all ≡ length (items-the_row-Act k all)
row_long end_of-Act = refl
row_long (more_of-Act a rest) = ap suc (row_long rest)

pub rows_sound : {k : _} (all : Row_of-Act k) (ws : List ℕ) → AreSound all ws ≡ SoundList (items-the_row-Act k all) ws
rows_sound end_of-Act ws = refl
rows_sound (more_of-Act a rest) ws = ap (λ (S : Type 0). IsSound a ws × S) (rows_sound rest ws)

-- the statements of a list, as the row that a statement holds

pub list_runs : (x : Acts) (r : Run) → activations (hidden-the_row-Act-0 x.list) r ≡ run_list (acts_of x) r
list_runs x r = row_is_list (hidden-the_row-Act-0 x.list) r ∙ ap (λ (l : List Act). run_list l r) (items_hidden-the_row-Act-0 x.list)

pub list_at : (x : Acts) (n : ℕ) (r : Run) → activation_at (hidden-the_row-Act-0 x.list) n r ≡ run_at (acts_of x) n r
list_at x n r = row_at (hidden-the_row-Act-0 x.list) n r ∙ ap (λ (l : List Act). run_at l n r) (items_hidden-the_row-Act-0 x.list)

pub list_long : (x : Acts) → row_length (hidden-the_row-Act-0 x.list) ≡ length (acts_of x)
list_long x = row_long (hidden-the_row-Act-0 x.list) ∙ ap (λ (l : List Act). length l) (items_hidden-the_row-Act-0 x.list)

pub list_sound : (x : Acts) (ws : List ℕ) → AreSound (hidden-the_row-Act-0 x.list) ws ≡ SoundList (acts_of x) ws
list_sound x ws = rows_sound (hidden-the_row-Act-0 x.list) ws ∙ ap (λ (l : List Act). SoundList l ws) (items_hidden-the_row-Act-0 x.list)

pub by_item_same : (o : Option ℕ) (f g : ℕ → Run) (a b : Run) → ((k : ℕ) → f k ≡ g k) → a ≡ b → by_item o f a ≡ by_item o g b
by_item_same (Some k) f g a b h e = h k
by_item_same None f g a b h e = e
