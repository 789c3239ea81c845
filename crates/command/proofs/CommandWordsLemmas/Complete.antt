-- Where the words say something, `clap` finds just that.
use Rattle.std.proofs.Common.{◌≡◌, ◌∙◌, ◌++◌, ◌∷◌, Bool, true, false, refl, sym, ap, ap₂, List, [], map, Option, Some, None, codes}
use Rattle.clap.specs.Walk.{Row, Text, Waiting, idle, next, option, positional, reacted, settled_rows, trailing, value, word_met}
use Rattle.clap.specs.Kinds.{Kinds, or_else}
use Rattle.clap.specs.Faults.{react_fault, settle_fault, use_fault, walk_fault, word_fault}
use Rattle.command.specs.CommandWords.Words.{Apart, Ended, File, Flagged, IsPlain, Joined, Nothing, Said, Say, Setting, flags, name_of, names, sets}
use Rattle.command.proofs.CommandWordsLemmas.Steps.{Late, Pending, alone, alone_fault, alone_met, dashes_fault, dashes_met, file_turn, flag_fault, flag_met, given, held_at, joined, joined_fault, joined_met, last, late, late_of, late_run, late_said, marked, none, open_held, outcome, outcome_next, pick, picks, plain_fault, plain_met, put, ready, repeats, rule_for, rules, run, shape, spot, turn_by, use_is, value_met}

at_end : (t : Bool) (w : Waiting) (rows : List Row) (l : Late) → outcome (spot t w rows (late_of l)) [] ≡ run (late_said l ++ []) rows
unfolding walk_fault
at_end t w rows l = sym (late_run l rows [])

-- a file is said
file_said : (t : Bool) (w : Waiting) (rows : List Row) (l : Late) (word : Text) (words : List Text) (said : List Said)
    → word_met rules [] t w 1 word (held_at rows (late_of l)) ≡ (held_at rows (late_of l), value)
    → word_fault shape [] t w word (held_at rows (late_of l)) ≡ []
    → outcome (spot t positional (settled_rows rules (late_of l) rows) (late_of (last word))) words ≡ run (names word ∷ said) (settled_rows rules (late_of l) rows)
    → outcome (spot t w rows (late_of l)) (word ∷ words) ≡ run (late_said l ++ names word ∷ said) rows
file_said t w rows l word words said met fault rest =
    let turn = file_turn t w rows (late_of l) word met fault in
    outcome_next (spot t w rows (late_of l)) word words
    ∙ ap₂ pick turn.0 (ap (λ v. outcome v words) turn.1 ∙ rest)
    ∙ sym (late_run l rows (names word ∷ said))

all_files : (words : List Text) (w : Waiting) (rows : List Row) (l : Late)
    → outcome (spot true w rows (late_of l)) words ≡ run (late_said l ++ map names words) rows
all_files [] w rows l = at_end true w rows l
all_files (word ∷ words) w rows l =
    file_said true w rows l word words (map names words) refl refl (all_files words positional (settled_rows rules (late_of l) rows) (last word))

-- an option with its value behind `=`, or a flag
reacts : (x : Said) (w : Waiting) (rows : List Row) (l : Late) (word : Text) (words : List Text) (said : List Said)
    → word_met rules [] false w 1 word (held_at rows (late_of l)) ≡ (reacted rules (rule_for x) (given x) (held_at rows (late_of l)), next idle)
    → word_fault shape [] false w word (held_at rows (late_of l)) ≡ react_fault rules false (rule_for x) (given x) (held_at rows (late_of l))
    → outcome (spot false idle (put x (settled_rows rules (late_of l) rows)) None) words ≡ run said (put x (settled_rows rules (late_of l) rows))
    → outcome (spot false w rows (late_of l)) (word ∷ words) ≡ run (late_said l ++ x ∷ said) rows
reacts x w rows l word words said met fault rest =
    let h = held_at rows (late_of l) in
    let s = settled_rows rules (late_of l) rows in
    let turn = turn_by false w rows (late_of l) word (reacted rules (rule_for x) (given x) h) (next idle) (react_fault rules false (rule_for x) (given x) h) met fault in
    outcome_next (spot false w rows (late_of l)) word words
    ∙ ap₂ pick turn.0 (ap (λ v. outcome v words) turn.1 ∙ rest)
    ∙ both (settle_fault rules false h) (use_fault false (rule_for x) (given x) s) (run said (put x s))
    ∙ ap (pick (settle_fault rules false h)) (ap (λ (f : Kinds). pick f (run said (put x s))) (use_is x s) ∙ picks (repeats x s) (run said (put x s)))
    ∙ sym (late_run l rows (x ∷ said))
  where
    both : (a b : Kinds) (r : Option (List Row)) → pick (or_else (or_else a b) []) r ≡ pick a (pick b r)
    both [] [] r = refl
    both [] (k ∷ ks) r = refl
    both (k ∷ ks) b r = refl

-- an option with its value in the next word
apart : (s : Setting) (v : Text) (w : Waiting) (rows : List Row) (l : Late) (words : List Text) (said : List Said) → IsPlain v
    → outcome (spot false idle (settled_rows rules (late_of l) rows) (late_of (late s v))) words ≡ run (sets s v ∷ said) (settled_rows rules (late_of l) rows)
    → outcome (spot false w rows (late_of l)) (alone s ∷ v ∷ words) ≡ run (late_said l ++ sets s v ∷ said) rows
apart s v w rows l words said p rest =
    let h = held_at rows (late_of l) in
    let settled = settled_rows rules (late_of l) rows in
    let empty : Pending = Some (name_of s, []) in
    let first = turn_by false w rows (late_of l) (alone s) (open_held s h) (next (option (name_of s))) (settle_fault rules false h) (alone_met s w h) (alone_fault s w h) in
    let second = turn_by false (option (name_of s)) settled empty v (held_at settled (Some (name_of s, v ∷ []))) (next idle) [] (value_met s v settled p)
    (plain_fault (option (name_of s)) v (held_at settled empty) p) in
    outcome_next (spot false w rows (late_of l)) (alone s) (v ∷ words)
    ∙ ap₂ pick (first.0 ∙ whole (settle_fault rules false h)) (ap (λ z. outcome z (v ∷ words)) first.1
    ∙ outcome_next (spot false (option (name_of s)) settled empty) v words
    ∙ ap₂ pick second.0 (ap (λ z. outcome z words) second.1 ∙ rest))
    ∙ sym (late_run l rows (sets s v ∷ said))
  where
    whole : (a : Kinds) → or_else a [] ≡ a
    whole [] = refl
    whole (k ∷ ks) = refl

ended : (w : Waiting) (rows : List Row) (l : Late) (words : List Text)
    → outcome (spot false w rows (late_of l)) (codes "--" ∷ words) ≡ run (late_said l ++ map names words) rows
ended w rows l words =
    let h = held_at rows (late_of l) in
    let turn = turn_by false w rows (late_of l) (codes "--") h (trailing 1) [] (dashes_met w h) (dashes_fault w h) in
    outcome_next (spot false w rows (late_of l)) (codes "--") words
    ∙ ap₂ pick turn.0 (ap (λ v. outcome v words) turn.1 ∙ all_files words w rows l)

pub complete : (words : List Text) (said : List Said) → Say words said → (b : Bool) (rows : List Row) (l : Late)
    → outcome (spot false (ready b) rows (late_of l)) words ≡ run (late_said l ++ said) rows
complete words said Nothing b rows l = at_end false (ready b) rows l
complete words said (File word more rest p h) b rows l =
    let held = held_at rows (late_of l) in
    file_said false (ready b) rows l word more rest (plain_met b word held p) (plain_fault (ready b) word held p)
    (complete more rest h true (settled_rows rules (late_of l) rows) (last word))
complete words said (Flagged f more rest h) b rows l =
    let held = held_at rows (late_of l) in
    reacts (flags f) (ready b) rows l (marked f) more rest (flag_met f (ready b) held) (flag_fault f (ready b) held)
    (complete more rest h false (put (flags f) (settled_rows rules (late_of l) rows)) none)
complete words said (Joined s v more rest h) b rows l =
    let held = held_at rows (late_of l) in
    reacts (sets s v) (ready b) rows l (joined s v) more rest (joined_met s v (ready b) held) (joined_fault s v (ready b) held)
    (complete more rest h false (put (sets s v) (settled_rows rules (late_of l) rows)) none)
complete words said (Apart s v more rest p h) b rows l =
    apart s v (ready b) rows l more rest p (complete more rest h false (settled_rows rules (late_of l) rows) (late s v))
complete words said (Ended more) b rows l = ended (ready b) rows l more
