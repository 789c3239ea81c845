-- One step of `clap`'s walk over the words, by what the word says.
use Rattle.std.proofs.Common.{◌≡◌, ◌∙◌, ◌++◌, ◌∷◌, ◌&&◌, ◌||◌, ℕ, Bool, cond, true, false, refl, sym, ap, ap₂, subst, List, [], Option, Some, None, inl, inr, ⊎_elim, eqb, eqb-true, codes}
use Rattle.std.proofs.lemmas.Bool.{cases_Bool}
use Rattle.std.specs.List.{fold}
use Rattle.std.specs.Option.{is_some}
use Rattle.std.specs.Str.{bytes_eq}
use Rattle.clap.specs.Lexer.{long_of, short_of}
use Rattle.clap.specs.Walk.{Held, Row, Rule, Step, Text, Waiting, Walk, after_step, has_row, idle, long_or_other, next, option, plain_word, positional, pushed, reacted, settled, settled_rows, short_or_plain, subcommand_met, subcommand_or_other, trailing, used, value, walked, word_met}
use Rattle.clap.specs.Simple.{Shape, built, filled, with_index}
use Rattle.clap.specs.Kinds.{Kinds, or_else}
use Rattle.clap.specs.Faults.{other_fault, react_fault, settle_fault, step_fault, turn_fault, use_fault, walk_fault, word_fault}
use Rattle.clap.specs.declared.error.kind.ErrorKind.TheVariants.{ArgumentConflict}
use Rattle.command.specs.CommandWords.Arguments.{files_rule, flag_rule, option_rule, words_app}
use Rattle.command.specs.CommandWords.Words.{Flag, IsPlain, Said, Setting, budget, dumps, flag_name, flags, made, name_of, names, seed, sets, top, traces}

abbrev pub shape : Shape
shape = (built words_app).top

abbrev pub rules : List Rule
rules = shape.rules

-- before the first file, and behind it
abbrev pub ready : Bool → Waiting
ready false = idle
ready true = positional

abbrev pub Pending : Type 0
Pending = Option (Text × List Text)

abbrev pub held_at : List Row → Pending → Held
held_at rows p = record { rows = rows; pending = p; skip = 0 }

abbrev pub spot : Bool → Waiting → List Row → Pending → Walk
spot t w rows p = record { held = held_at rows p; waiting = w; position = 1; is_trailing = t; stopped = None }

-- the second, where no fault is in the first
abbrev pub pick : {X : Type 0} → Kinds → Option X → Option X
pick [] x = x
pick (k ∷ ks) x = None

-- the rows at the end of a walk without a fault
abbrev pub outcome : Walk → List Text → Option (List Row)
outcome w words = let h = (fold (walked rules []) w words).held in
    pick (or_else (walk_fault shape [] w words) (settle_fault rules false h)) (Some (settled rules h).rows)

pub outcome_next : (w : Walk) (word : Text) (words : List Text)
    → outcome w (word ∷ words) ≡ pick (turn_fault shape [] w word) (outcome (walked rules [] w word) words)
unfolding walk_fault
outcome_next w word words =
    let v = walked rules [] w word in
    let h = (fold (walked rules []) v words).held in
    go (turn_fault shape [] w word) (walk_fault shape [] v words) (settle_fault rules false h) (Some (settled rules h).rows)
  where
    go : (a b c : Kinds) (r : Option (List Row)) → pick (or_else (or_else a b) c) r ≡ pick a (pick (or_else b c) r)
    go [] b c r = refl
    go (k ∷ ks) b c r = refl

-- ---- what is said, one after the other

abbrev pub rule_for : Said → Rule
rule_for (sets s v) = with_index 1 (filled (option_rule (name_of s)))
rule_for (flags f) = with_index 1 (filled (flag_rule (flag_name f)))
rule_for (names file) = with_index 1 (filled files_rule)

abbrev pub given : Said → List Text
given (sets s v) = v ∷ []
given (flags f) = []
given (names file) = file ∷ []

abbrev pub put : Said → List Row → List Row
put x rows = used (rule_for x) (given x) rows

-- it was said before, and may be said once
abbrev pub repeats : Said → List Row → Bool
repeats (sets s v) rows = has_row (name_of s) rows
repeats (flags f) rows = has_row (flag_name f) rows
repeats (names file) rows = false

abbrev pub run : List Said → List Row → Option (List Row)
run [] rows = Some rows
run (x ∷ xs) rows = cond (repeats x rows) None (run xs (put x rows))

once : (b : Bool) → or_else (cond (b && true) (ArgumentConflict ∷ []) []) [] ≡ cond b (ArgumentConflict ∷ []) []
once true = refl
once false = refl

pub use_is : (x : Said) (rows : List Row) → use_fault false (rule_for x) (given x) rows ≡ cond (repeats x rows) (ArgumentConflict ∷ []) []
use_is (sets top v) rows = once (has_row (codes "top") rows)
use_is (sets budget v) rows = once (has_row (codes "budget") rows)
use_is (sets seed v) rows = once (has_row (codes "seed") rows)
use_is (sets made v) rows = once (has_row (codes "made") rows)
use_is (flags traces) rows = once (has_row (codes "trace") rows)
use_is (flags dumps) rows = once (has_row (codes "vcd") rows)
use_is (names file) rows = refl

pub picks : {X : Type 0} (b : Bool) (r : Option X) → pick (cond b (ArgumentConflict ∷ []) []) r ≡ cond b None r
picks true r = refl
picks false r = refl

-- the last that was said is used at the next word
pub data Late : Type 0 where
  none : Late
  late : Setting → Text → Late
  last : Text → Late

abbrev pub late_said : Late → List Said
late_said none = []
late_said (late s v) = sets s v ∷ []
late_said (last file) = names file ∷ []

abbrev pub late_of : Late → Pending
late_of none = None
late_of (late s v) = Some (name_of s, v ∷ [])
late_of (last file) = Some (codes "files", file ∷ [])

one_run : (x : Said) (rows : List Row) (r : Option (List Row)) → cond (repeats x rows) None r ≡ pick (use_fault false (rule_for x) (given x) rows) r
one_run x rows r = sym (ap (λ (f : Kinds). pick f r) (use_is x rows) ∙ picks (repeats x rows) r)

pub late_run : (l : Late) (rows : List Row) (ys : List Said)
    → run (late_said l ++ ys) rows ≡ pick (settle_fault rules false (held_at rows (late_of l))) (run ys (settled_rows rules (late_of l) rows))
late_run none rows ys = refl
late_run (late top v) rows ys = one_run (sets top v) rows (run ys (put (sets top v) rows))
late_run (late budget v) rows ys = one_run (sets budget v) rows (run ys (put (sets budget v) rows))
late_run (late seed v) rows ys = one_run (sets seed v) rows (run ys (put (sets seed v) rows))
late_run (late made v) rows ys = one_run (sets made v) rows (run ys (put (sets made v) rows))
late_run (last file) rows ys = one_run (names file) rows (run ys (put (names file) rows))

-- ---- the words

pub no_sub : (w : Waiting) (word : Text) → subcommand_met [] w word ≡ None
no_sub idle word = refl
no_sub (option id) word = refl
no_sub positional word = refl

abbrev pub joined : Setting → Text → Text
joined s v = codes "--" ++ name_of s ++ codes "=" ++ v

abbrev pub alone : Setting → Text
alone s = codes "--" ++ name_of s

pub plain_facts : (word : Text) → IsPlain word → (bytes_eq word (45 ∷ 45 ∷ []) ≡ false) × (long_of word ≡ None) × (short_of word ≡ None)
plain_facts word (inl e) = subst (λ w. (bytes_eq w (45 ∷ 45 ∷ []) ≡ false) × (long_of w ≡ None) × (short_of w ≡ None)) (sym e) (refl, refl, refl)
plain_facts [] (inr h) = (refl, refl, refl)
plain_facts (x ∷ xs) (inr h) = ⊎_elim
    (λ (t : eqb x 45 ≡ true). absurd (h xs (ap (λ (y : ℕ). y ∷ xs) (eqb-true x 45 t))))
    (λ (t : eqb x 45 ≡ false). (rw t refl, rw t refl, rw t refl))
    (cases_Bool (eqb x 45))

pub plain_met : (b : Bool) (word : Text) (h : Held) → IsPlain word → word_met rules [] false (ready b) 1 word h ≡ (h, value)
plain_met b word h p = let f = plain_facts word p in
    ap (λ o. subcommand_or_other rules o (ready b) 1 word h) (no_sub (ready b) word)
    ∙ ap (λ x. cond x (h, trailing 1) (long_or_other rules (ready b) word (long_of word) h)) f.0
    ∙ ap (λ o. long_or_other rules (ready b) word o h) f.1 ∙ ap (λ o. short_or_plain rules (ready b) word o h) f.2 ∙ end b
  where
    end : (c : Bool) → plain_word rules (ready c) word h ≡ (h, value)
    end true = refl
    end false = refl

pub plain_fault : (w : Waiting) (word : Text) (h : Held) → IsPlain word → word_fault shape [] false w word h ≡ []
plain_fault w word h p = let f = plain_facts word p in ap (λ o. other_fault shape o word h) (no_sub w word) ∙ rw (f.0, f.1, f.2) refl

-- the word of a flag
abbrev pub marked : Flag → Text
marked f = codes "--" ++ flag_name f

pub flag_met : (f : Flag) (w : Waiting) (h : Held) → word_met rules [] false w 1 (marked f) h ≡ (reacted rules (rule_for (flags f)) [] h, next idle)
flag_met traces w h = ap (λ o. subcommand_or_other rules o w 1 (marked traces) h) (no_sub w (marked traces))
flag_met dumps w h = ap (λ o. subcommand_or_other rules o w 1 (marked dumps) h) (no_sub w (marked dumps))

pub flag_fault : (f : Flag) (w : Waiting) (h : Held) → word_fault shape [] false w (marked f) h ≡ react_fault rules false (rule_for (flags f)) [] h
flag_fault traces w h = ap (λ o. other_fault shape o (marked traces) h) (no_sub w (marked traces))
flag_fault dumps w h = ap (λ o. other_fault shape o (marked dumps) h) (no_sub w (marked dumps))

pub joined_met : (s : Setting) (v : Text) (w : Waiting) (h : Held)
    → word_met rules [] false w 1 (joined s v) h ≡ (reacted rules (rule_for (sets s v)) (v ∷ []) h, next idle)
joined_met top v w h = ap (λ o. subcommand_or_other rules o w 1 (joined top v) h) (no_sub w (joined top v))
joined_met budget v w h = ap (λ o. subcommand_or_other rules o w 1 (joined budget v) h) (no_sub w (joined budget v))
joined_met seed v w h = ap (λ o. subcommand_or_other rules o w 1 (joined seed v) h) (no_sub w (joined seed v))
joined_met made v w h = ap (λ o. subcommand_or_other rules o w 1 (joined made v) h) (no_sub w (joined made v))

pub joined_fault : (s : Setting) (v : Text) (w : Waiting) (h : Held)
    → word_fault shape [] false w (joined s v) h ≡ react_fault rules false (rule_for (sets s v)) (v ∷ []) h
joined_fault top v w h = ap (λ o. other_fault shape o (joined top v) h) (no_sub w (joined top v))
joined_fault budget v w h = ap (λ o. other_fault shape o (joined budget v) h) (no_sub w (joined budget v))
joined_fault seed v w h = ap (λ o. other_fault shape o (joined seed v) h) (no_sub w (joined seed v))
joined_fault made v w h = ap (λ o. other_fault shape o (joined made v) h) (no_sub w (joined made v))

-- an option waits for its value
abbrev pub open_held : Setting → Held → Held
open_held s h = record (settled rules h) { pending = Some (name_of s, []) }

pub alone_met : (s : Setting) (w : Waiting) (h : Held) → word_met rules [] false w 1 (alone s) h ≡ (open_held s h, next (option (name_of s)))
alone_met top w h = ap (λ o. subcommand_or_other rules o w 1 (alone top) h) (no_sub w (alone top))
alone_met budget w h = ap (λ o. subcommand_or_other rules o w 1 (alone budget) h) (no_sub w (alone budget))
alone_met seed w h = ap (λ o. subcommand_or_other rules o w 1 (alone seed) h) (no_sub w (alone seed))
alone_met made w h = ap (λ o. subcommand_or_other rules o w 1 (alone made) h) (no_sub w (alone made))

pub alone_fault : (s : Setting) (w : Waiting) (h : Held) → word_fault shape [] false w (alone s) h ≡ settle_fault rules false h
alone_fault top w h = ap (λ o. other_fault shape o (alone top) h) (no_sub w (alone top))
alone_fault budget w h = ap (λ o. other_fault shape o (alone budget) h) (no_sub w (alone budget))
alone_fault seed w h = ap (λ o. other_fault shape o (alone seed) h) (no_sub w (alone seed))
alone_fault made w h = ap (λ o. other_fault shape o (alone made) h) (no_sub w (alone made))

-- the value of the option that waits
pub value_met : (s : Setting) (v : Text) (rows : List Row) → IsPlain v
    → word_met rules [] false (option (name_of s)) 1 v (held_at rows (Some (name_of s, []))) ≡ (held_at rows (Some (name_of s, v ∷ [])), next idle)
value_met s v rows p = let f = plain_facts v p in
    let w = option (name_of s) in
    let h = held_at rows (Some (name_of s, [])) in
    ap (λ x. cond x (h, trailing 1) (long_or_other rules w v (long_of v) h)) f.0
    ∙ ap (λ o. long_or_other rules w v o h) f.1 ∙ ap (λ o. short_or_plain rules w v o h) f.2 ∙ end s
  where
    end : (t : Setting) → plain_word rules (option (name_of t)) v (held_at rows (Some (name_of t, []))) ≡ (held_at rows (Some (name_of t, v ∷ [])), next idle)
    end top = refl
    end budget = refl
    end seed = refl
    end made = refl

pub dashes_met : (w : Waiting) (h : Held) → word_met rules [] false w 1 (codes "--") h ≡ (h, trailing 1)
dashes_met w h = ap (λ o. subcommand_or_other rules o w 1 (codes "--") h) (no_sub w (codes "--"))

pub dashes_fault : (w : Waiting) (h : Held) → word_fault shape [] false w (codes "--") h ≡ []
dashes_fault w h = ap (λ o. other_fault shape o (codes "--") h) (no_sub w (codes "--"))

-- ---- turns

-- a turn, by what its word is and the faults in it
pub turn_by : (t : Bool) (w : Waiting) (rows : List Row) (p : Pending) (word : Text) (h : Held) (step : Step) (faults : Kinds)
    → word_met rules [] t w 1 word (held_at rows p) ≡ (h, step) → word_fault shape [] t w word (held_at rows p) ≡ faults
    → (turn_fault shape [] (spot t w rows p) word ≡ or_else faults (step_fault shape 1 h step))
    × (walked rules [] (spot t w rows p) word ≡ after_step rules word (spot t w rows p) h step)
unfolding walked
turn_by t w rows p word h step faults met fault = (
  ap₂ (λ (f : Kinds) (m : Held × Step). or_else f (step_fault shape 1 m.0 m.1)) fault met,
  ap (λ (m : Held × Step). after_step rules word (spot t w rows p) m.0 m.1) met,
)

never : {X : Type 0} (b : Bool) (x y : X) → cond (b && false) x y ≡ y
never true x y = refl
never false x y = refl

or_false : (b : Bool) → (b || false) ≡ b
or_false true = refl
or_false false = refl

-- a word is a file
pub file_turn : (t : Bool) (w : Waiting) (rows : List Row) (p : Pending) (word : Text)
    → word_met rules [] t w 1 word (held_at rows p) ≡ (held_at rows p, value) → word_fault shape [] t w word (held_at rows p) ≡ []
    → (turn_fault shape [] (spot t w rows p) word ≡ settle_fault rules false (held_at rows p))
    × (walked rules [] (spot t w rows p) word ≡ spot t positional (settled_rows rules p rows) (Some (codes "files", word ∷ [])))
file_turn t w rows p word met fault =
    let h = held_at rows p in
    let turn = turn_by t w rows p word h value [] met fault in
    let is = Rattle.std.specs.Option.option_map_or (λ (q : Text × List Text). bytes_eq q.0 (codes "files")) p false in (
      turn.0 ∙ never is [] (settle_fault rules false h),
      turn.1 ∙ ap₂ (λ (k : Held) (u : Bool). record {
        held = pushed (codes "files") word k;
        waiting = positional;
        position = 1;
        is_trailing = u;
        stopped = None;
      }) (never is h (settled rules h)) (or_false t),
    )
