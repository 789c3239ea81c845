-- The places of signals, path by path.
use Rattle.std.specs.Prelude.{◌≡◌, ◌≤◌, ◌<◌, ℕ, ◌+◌, cond, List, [], ◌∷◌, ◌++◌, take, length, get_or, Option, None, Some, find, slice_get, refl}
use Rattle.std.specs.Option.{option_or}
use Rattle.std.proofs.Common.{ap, sym, ◌∙◌}
use Rattle.std.proofs.lemmas.List.Folds.{find-append}
use Rattle.std.proofs.lemmas.Option.{slice_get_past}
use Rattle.name_table.specs.Places.{first_place, noted}
use Rattle.gpi.specs.declared.design.Signal.{Signal}
use Rattle.vcd_text.specs.Paths.{is_path, has_path, ArePlaces, NotesSignal}
use Rattle.vcd_text.proofs.ListSteps.{take_next}

or_none : {X : Type 0} (o : Option X) → o ≡ option_or o None
or_none None = refl
or_none (Some x) = refl

-- no signal has that number
pub none_noted : (signals : List Signal) (n : ℕ) (places : List (List ℕ × ℕ)) → length signals ≤ n → NotesSignal signals n places places
none_noted signals n places past path =
    or_none (first_place places path)
    ∙ ap (λ (o : Option Signal). option_or (first_place places path) (cond (is_path o path) (Some n) None)) (sym (slice_get_past signals n past))

-- one has it, and is noted by its path
pub path_noted : (signals : List Signal) (n : ℕ) (signal : Signal) (before after : List (List ℕ × ℕ)) → slice_get signals n ≡ Some signal
    → ((path : List ℕ) → first_place after path ≡ noted signal.path n (first_place before) path) → NotesSignal signals n before after
path_noted signals n signal before after there is path =
    is path ∙ ap (λ (o : Option Signal). option_or (first_place before path) (cond (is_path o path) (Some n) None)) (sym there)

-- the places of a signal more
pub place_more : (signals : List Signal) (numbers : List ℕ) (at number : ℕ) (before after : List (List ℕ × ℕ)) → at < length numbers → number ≡ get_or numbers at 0
    → ArePlaces signals (take at numbers) before → NotesSignal signals number before after → ArePlaces signals (take (at + 1) numbers) after
place_more signals numbers at number before after within is so_far notes path =
    notes path
    ∙ (ap (λ (o : Option ℕ). option_or o (find (has_path signals path) (number ∷ []))) (so_far path)
    ∙ (sym (find-append (has_path signals path) (take at numbers) (number ∷ []))
    ∙ ap (find (has_path signals path)) (ap (λ (n : ℕ). take at numbers ++ n ∷ []) is ∙ sym (take_next numbers at within))))
