-- Where `clap` finds no fault, the words say something.
use Rattle.std.proofs.Common.{◌≡◌, ◌∙◌, ◌∷◌, Bool, true, false, refl, sym, ap, List, [], map, Some, None, codes, IsUtf8, true≢false}
use Rattle.std.specs.Option.{is_some}
use Rattle.clap.specs.Walk.{Row, Text, Waiting, Walk, idle, next, option, reacted, settled_rows, trailing, walked, word_met}
use Rattle.clap.specs.Kinds.{Kinds, or_else}
use Rattle.clap.specs.Faults.{react_fault, settle_fault, step_fault, turn_fault, use_fault, walk_fault, word_fault}
use Rattle.clap.specs.declared.error.kind.ErrorKind.TheVariants.{InvalidValue}
use Rattle.command.specs.CommandWords.Words.{Apart, Ended, File, Flagged, IsPlain, Joined, Nothing, Said, Say, Setting, budget, flags, made, name_of, names, seed, sets, top}
use Rattle.command.proofs.CommandWordsLemmas.Steps.{Pending, alone, alone_fault, alone_met, dashes_fault, dashes_met, file_turn, flag_fault, flag_met, held_at, joined, joined_fault, joined_met, marked, open_held, outcome, outcome_next, pick, plain_fault, plain_met, put, ready, rule_for, rules, shape, spot, turn_by, value_met}
use Rattle.command.proofs.CommandWordsLemmas.Looks.{Alone, Dashes, Fails, Look, Marked, Plainly, Refused, With, look}

-- each word is a text
abbrev pub AreTexts : List Text → Type 0
AreTexts [] = Unit {0}
AreTexts (word ∷ words) = IsUtf8 word × AreTexts words

some≢none : {X : Type 0} (x : X) → None ≡ Some x → ⊥
some≢none x e = true≢false (sym (ap (λ o. is_some o) e))

-- without a fault in a turn the walk goes on
goes_on : (w : Walk) (word : Text) (words : List Text) (rows : List Row) → outcome w (word ∷ words) ≡ Some rows → outcome (walked rules [] w word) words ≡ Some rows
goes_on w word words rows e = go (turn_fault shape [] w word) (sym (outcome_next w word words) ∙ e)
  where
    go : (f : Kinds) → pick f (outcome (walked rules [] w word) words) ≡ Some rows → outcome (walked rules [] w word) words ≡ Some rows
    go [] h = h
    go (k ∷ ks) h = absurd (some≢none rows h)

-- a fault in a turn ends it
stops : (w : Walk) (word : Text) (words : List Text) (rows : List Row) → Fails (turn_fault shape [] w word) → outcome w (word ∷ words) ≡ Some rows → ⊥
stops w word words rows f e =
    some≢none rows (sym (outcome_next w word words ∙ ap (λ (k : Kinds). pick k (outcome (walked rules [] w word) words)) f.2) ∙ e)

-- a fault in a word is one in its turn
word_stops : (t : Bool) (w : Waiting) (rows : List Row) (p : Pending) (word : Text) (words : List Text) (end : List Row)
    → Fails (word_fault shape [] t w word (held_at rows p)) → outcome (spot t w rows p) (word ∷ words) ≡ Some end → ⊥
word_stops t w rows p word words end f =
    let met = word_met rules [] t w 1 word (held_at rows p) in
    stops (spot t w rows p) word words end (f.0, f.1, ap (λ (k : Kinds). or_else k (step_fault shape 1 met.0 met.1)) f.2)

-- what an option that waits, or none, has the words say
pub data Stand : Type 0 where
  is_ready : Bool → Stand
  waits : Setting → Stand

abbrev pub place : Stand → List Row → Pending → Walk
place (is_ready b) rows p = spot false (ready b) rows p
place (waits s) rows p = spot false (option (name_of s)) rows (Some (name_of s, []))

abbrev pub Told : Stand → List Text → Type 0
Told (is_ready b) words = (said : List Said) × Say words said
Told (waits s) [] = ⊥
Told (waits s) (v ∷ words) = IsPlain v × ((said : List Said) × Say words said)

empty_fails : (s : Setting) (rows : List Row) → settle_fault rules false (held_at rows (Some (name_of s, []))) ≡ InvalidValue ∷ []
empty_fails top rows = refl
empty_fails budget rows = refl
empty_fails seed rows = refl
empty_fails made rows = refl

trailing_stops : (s : Setting) (w : Waiting) (rows : List Row) (words : List Text) (end : List Row)
    → outcome (spot true w rows (Some (name_of s, []))) words ≡ Some end → ⊥
unfolding walk_fault
trailing_stops s w rows [] end e =
    some≢none end (sym (ap (λ (k : Kinds). pick k (Some (settled_rows rules (Some (name_of s, [])) rows))) (empty_fails s rows)) ∙ e)
trailing_stops s w rows (word ∷ words) end e =
    let p : Pending = Some (name_of s, []) in
    stops (spot true w rows p) word words end (InvalidValue, [], (file_turn true w rows p word refl refl).0 ∙ empty_fails s rows) e

nothing_told : (s : Setting) (rows end : List Row) → outcome (spot false (option (name_of s)) rows (Some (name_of s, []))) [] ≡ Some end → ⊥
unfolding walk_fault
nothing_told s rows end e =
    some≢none end (sym (ap (λ (k : Kinds). pick k (Some (settled_rows rules (Some (name_of s, [])) rows))) (empty_fails s rows)) ∙ e)

-- where an option waits, a use of another, or its own again, finds that it has no value
waiting_stops : (s : Setting) (rows : List Row) (word : Text) (words : List Text) (end : List Row) (more : Kinds)
    → word_fault shape [] false (option (name_of s)) word (held_at rows (Some (name_of s, [])))
    ≡ or_else (settle_fault rules false (held_at rows (Some (name_of s, [])))) more
    → outcome (place (waits s) rows None) (word ∷ words) ≡ Some end → ⊥
waiting_stops s rows word words end more fault =
    word_stops false (option (name_of s)) rows (Some (name_of s, [])) word words end
    (InvalidValue, [], fault ∙ ap (λ (k : Kinds). or_else k more) (empty_fails s rows))

whole : (a : Kinds) → a ≡ or_else a []
whole [] = refl
whole (k ∷ ks) = refl

-- the option with what the next word says
closes : (s : Setting) (words : List Text) → Told (waits s) words → (said : List Said) × Say (alone s ∷ words) said
closes s [] h = absurd h
closes s (v ∷ words) h = (sets s v ∷ h.1.0, Apart s v words h.1.0 h.0 h.1.1)

abbrev pub Continues : List Text → Type 0
Continues words = (st : Stand) (rows : List Row) (p : Pending) (end : List Row) → outcome (place st rows p) words ≡ Some end → Told st words

-- a word where none waits
opens : (word : Text) (words : List Text) (b : Bool) → Look word → Continues words → (rows : List Row) (p : Pending) (end : List Row)
    → outcome (spot false (ready b) rows p) (word ∷ words) ≡ Some end → (said : List Said) × Say (word ∷ words) said
opens word words b (Plainly w q) rest rows p end e =
    let h = held_at rows p in
    let turn = file_turn false (ready b) rows p w (plain_met b w h q) (plain_fault (ready b) w h q) in
    let more = rest (is_ready true) (settled_rows rules p rows) (Some (codes "files", w ∷ [])) end
    (sym (ap (λ z. outcome z words) turn.1) ∙ goes_on (spot false (ready b) rows p) w words end e) in
    (names w ∷ more.0, File w words more.0 q more.1)
opens word words b Dashes rest rows p end e = (map names words, Ended words)
opens word words b (With s v) rest rows p end e =
    let h = held_at rows p in
    let turn = turn_by false (ready b) rows p (joined s v) (reacted rules (rule_for (sets s v)) (v ∷ []) h) (next idle)
    (react_fault rules false (rule_for (sets s v)) (v ∷ []) h) (joined_met s v (ready b) h) (joined_fault s v (ready b) h) in
    let more = rest (is_ready false) (put (sets s v) (settled_rows rules p rows)) None end
    (sym (ap (λ z. outcome z words) turn.1) ∙ goes_on (spot false (ready b) rows p) (joined s v) words end e) in
    (sets s v ∷ more.0, Joined s v words more.0 more.1)
opens word words b (Alone s) rest rows p end e =
    let h = held_at rows p in
    let turn = turn_by false (ready b) rows p (alone s) (open_held s h) (next (option (name_of s))) (settle_fault rules false h)
    (alone_met s (ready b) h) (alone_fault s (ready b) h) in
    closes s words (rest (waits s) (settled_rows rules p rows) None end
    (sym (ap (λ z. outcome z words) turn.1) ∙ goes_on (spot false (ready b) rows p) (alone s) words end e))
opens word words b (Marked f) rest rows p end e =
    let h = held_at rows p in
    let turn = turn_by false (ready b) rows p (marked f) (reacted rules (rule_for (flags f)) [] h) (next idle)
    (react_fault rules false (rule_for (flags f)) [] h) (flag_met f (ready b) h) (flag_fault f (ready b) h) in
    let more = rest (is_ready false) (put (flags f) (settled_rows rules p rows)) None end
    (sym (ap (λ z. outcome z words) turn.1) ∙ goes_on (spot false (ready b) rows p) (marked f) words end e) in
    (flags f ∷ more.0, Flagged f words more.0 more.1)
opens word words b (Refused w r) rest rows p end e = absurd (word_stops false (ready b) rows p w words end (r (ready b) rows p) e)

-- a word where an option waits
fills : (word : Text) (words : List Text) (s : Setting) → Look word → Continues words → (rows end : List Row)
    → outcome (place (waits s) rows None) (word ∷ words) ≡ Some end → IsPlain word × ((said : List Said) × Say words said)
fills word words s (Plainly w q) rest rows end e =
    let p : Pending = Some (name_of s, []) in
    let turn = turn_by false (option (name_of s)) rows p w (held_at rows (Some (name_of s, w ∷ []))) (next idle) [] (value_met s w rows q)
    (plain_fault (option (name_of s)) w (held_at rows p) q) in (
      q,
      rest (is_ready false) rows (Some (name_of s, w ∷ [])) end
          (sym (ap (λ z. outcome z words) turn.1) ∙ goes_on (spot false (option (name_of s)) rows p) w words end e),
    )
fills word words s Dashes rest rows end e =
    let p : Pending = Some (name_of s, []) in
    let w = option (name_of s) in
    let turn = turn_by false w rows p (codes "--") (held_at rows p) (trailing 1) [] (dashes_met w (held_at rows p)) (dashes_fault w (held_at rows p)) in
    absurd (trailing_stops s w rows words end (sym (ap (λ z. outcome z words) turn.1) ∙ goes_on (spot false w rows p) (codes "--") words end e))
fills word words s (With t v) rest rows end e =
    let h = held_at rows (Some (name_of s, [])) in
    absurd (waiting_stops s rows (joined t v) words end (use_fault false (rule_for (sets t v)) (v ∷ []) (settled_rows rules (Some (name_of s, [])) rows))
    (joined_fault t v (option (name_of s)) h) e)
fills word words s (Alone t) rest rows end e =
    let h = held_at rows (Some (name_of s, [])) in
    absurd (waiting_stops s rows (alone t) words end [] (alone_fault t (option (name_of s)) h ∙ whole (settle_fault rules false h)) e)
fills word words s (Marked f) rest rows end e =
    let h = held_at rows (Some (name_of s, [])) in
    absurd (waiting_stops s rows (marked f) words end (use_fault false (rule_for (flags f)) [] (settled_rows rules (Some (name_of s, [])) rows))
    (flag_fault f (option (name_of s)) h) e)
fills word words s (Refused w r) rest rows end e =
    absurd (word_stops false (option (name_of s)) rows (Some (name_of s, [])) w words end (r (option (name_of s)) rows (Some (name_of s, []))) e)

pub sound : (words : List Text) → AreTexts words → Continues words
sound [] u (is_ready b) rows p end e = ([], Nothing)
sound [] u (waits s) rows p end e = nothing_told s rows end e
sound (word ∷ words) u (is_ready b) rows p end e = opens word words b (look word u.0) (sound words u.1) rows p end e
sound (word ∷ words) u (waits s) rows p end e = fills word words s (look word u.0) (sound words u.1) rows end e

-- words in which `clap` finds no fault from the start say something
pub sound_words : (words : List Text) → AreTexts words → (end : List Row) → outcome (spot false idle [] None) words ≡ Some end → (said : List Said) × Say words said
sound_words words u end e = sound words u (is_ready false) [] None end e
