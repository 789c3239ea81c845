-- The readings of words, by what `clap` finds.
use Rattle.std.proofs.Common.{◌≡◌, ◌∙◌, ◌≤◌, ◌∷◌, ◌||◌, ℕ, Bool, cond, true, false, refl, sym, ap, subst, arith, List, [], length, map, Option, Some, None, codes, string_bytes, true≢false}
use Rattle.std.specs.List.{fold}
use Rattle.std.specs.Prelude.{IsTrue, String}
use Rattle.std.proofs.lemmas.Str.{IsUtf8-string_bytes}
use Rattle.clap.specs.Walk.{Row, Rule, Text, has_row, idle, nothing_held, settled, walk, walk_from, with_default}
use Rattle.clap.specs.Simple.{built, matches_of}
use Rattle.clap.specs.Kinds.{Kinds, or_else}
use Rattle.clap.specs.Faults.{default_fault, defaults_fault, fault_of, settle_fault, walk_fault}
use Rattle.clap.proofs.FaultLemmas.{leaf_fault}
use Rattle.command.specs.CommandWords.Arguments.{IsFormIn, words_app}
use Rattle.command.specs.CommandWords.Words.{Said, budget, dumps, flags, made, names, seed, sets, top, traces, values_of}
use Rattle.command.specs.CommandWords.Forms.{Asked, Form, IsAsked, IsBudget, IsFlag, IsForm, IsFormOf, IsGiven, IsNumber, IsSeed, ReadOnce, Reads, stands_apart}
use Rattle.command.specs.CommandWords.Forms as form
use Rattle.command.proofs.CommandWordsLemmas.Steps.{none, outcome, pick, rule_for, rules, run, shape, spot}
use Rattle.command.proofs.CommandWordsLemmas.Complete.{complete}
use Rattle.command.proofs.CommandWordsLemmas.Sound.{AreTexts, sound_words}
use Rattle.command.proofs.CommandWordsLemmas.Rows.{Fresh, defaulted, defaults_are, files_are, first_is, fresh_runs, trace_is, vcd_is}

abbrev pub start : List Text → Option (List Row)
start words = outcome (spot false idle [] None) words

-- the rows at the end of the walk
abbrev pub ended_rows : List Text → List Row
ended_rows words = (settled rules (walk rules [] nothing_held words).held).rows

-- ---- all faults are those of the walk

skip : (rows : List Row) (a : Rule) (rest : List Rule) → default_fault rows a ≡ [] → defaults_fault rows (a ∷ rest) ≡ defaults_fault (with_default rows a) rest
unfolding defaults_fault
skip rows a rest e = ap (λ (f : Kinds). or_else f (defaults_fault (with_default rows a) rest)) e

no_more : (rows : List Row) → defaults_fault rows [] ≡ []
unfolding defaults_fault
no_more rows = refl

no_default : (b : Bool) (x : Kinds) → cond (b || true) [] x ≡ []
no_default true x = refl
no_default false x = refl

abbrev nothing : Kinds
nothing = []

good_default : (b : Bool) → cond (b || false) nothing nothing ≡ nothing
good_default true = refl
good_default false = refl

defaults_pass : (rows : List Row) → defaults_fault rows rules ≡ []
defaults_pass rows =
    let t = rule_for (sets top []) in
    let b = rule_for (sets budget []) in
    let s = rule_for (sets seed []) in
    let m = rule_for (sets made []) in
    let f = rule_for (flags traces) in
    let v = rule_for (flags dumps) in
    let n = rule_for (names []) in
    let r1 = with_default rows t in
    let r2 = with_default r1 b in
    let r3 = with_default r2 s in
    let r4 = with_default r3 m in
    let r5 = with_default r4 f in
    let r6 = with_default r5 v in
    skip rows t (b ∷ s ∷ m ∷ f ∷ v ∷ n ∷ []) (no_default (has_row (codes "top") rows) _)
    ∙ skip r1 b (s ∷ m ∷ f ∷ v ∷ n ∷ []) (no_default (has_row (codes "budget") r1) _)
    ∙ skip r2 s (m ∷ f ∷ v ∷ n ∷ []) (no_default (has_row (codes "seed") r2) _)
    ∙ skip r3 m (f ∷ v ∷ n ∷ []) (no_default (has_row (codes "made") r3) _)
    ∙ skip r4 f (v ∷ n ∷ []) (good_default (has_row (codes "trace") r4))
    ∙ skip r5 v (n ∷ []) (good_default (has_row (codes "vcd") r5))
    ∙ skip r6 n [] (no_default (has_row (codes "files") r6) _)
    ∙ no_more (with_default r6 n)

whole : (a : Kinds) → or_else a [] ≡ a
whole [] = refl
whole (k ∷ ks) = refl

fault_is : (words : List Text)
    → fault_of words_app words ≡ or_else (walk_fault shape [] (walk_from nothing_held) words) (settle_fault rules false (walk rules [] nothing_held words).held)
fault_is words =
    let w = walk_fault shape [] (walk_from nothing_held) words in
    let s = settle_fault rules false (walk rules [] nothing_held words).held in
    leaf_fault (built words_app) nothing_held words refl
    ∙ ap (λ (d : Kinds). or_else w (or_else s (or_else d []))) (defaults_pass (ended_rows words))
    ∙ ap (or_else w) (whole s)

start_is : (words : List Text) → start words ≡ pick (fault_of words_app words) (Some (ended_rows words))
start_is words = ap (λ (f : Kinds). pick f (Some (ended_rows words))) (sym (fault_is words))

pub found_is : (words : List Text) → matches_of words_app words ≡ defaulted (ended_rows words)
found_is words = defaults_are (ended_rows words)

-- ---- forms, by lists of values

carry : (f f' t t' m m' b b' s s' r r' v v' : List Text) (x : Form) → f ≡ f' → t ≡ t' → m ≡ m' → b ≡ b' → s ≡ s' → r ≡ r' → v ≡ v'
    → IsForm f t m b s r v x → IsForm f' t' m' b' s' r' v' x
carry f f' t t' m m' b b' s s' r r' v v' x ef et em eb es er ev h = record {
  asked = subst (λ (l : List Text). IsAsked l t' m' x.asked) ef (subst (λ (l : List Text). IsAsked f l m' x.asked) et (subst (λ (l : List Text). IsAsked f t l x.asked) em h.asked));
  budget = subst (λ (l : List Text). IsBudget l x.budget) eb h.budget;
  seed = subst (λ (l : List Text). IsSeed l x.seed) es h.seed;
  trace = subst (λ (l : List Text). IsFlag l x.trace) er h.trace;
  vcd = subst (λ (l : List Text). IsFlag l x.vcd) ev h.vcd;
  apart = h.apart;
}

module _ (said : List Said) (end : List Row) (runs : run said [] ≡ Some end) (x : Form) where
  found_said : IsFormIn (defaulted end) x → IsFormOf said x
  found_said h = carry _ _ _ _ _ _ _ _ _ _ _ _ _ _ x (files_are said end runs) (first_is said end runs (sets top []) tt refl refl) (first_is said end runs (sets made []) tt refl refl)
      (first_is said end runs (sets budget []) tt refl refl) (first_is said end runs (sets seed []) tt refl refl) (trace_is said end runs) (vcd_is said end runs) h

  said_found : IsFormOf said x → IsFormIn (defaulted end) x
  said_found h = carry _ _ _ _ _ _ _ _ _ _ _ _ _ _ x (sym (files_are said end runs)) (sym (first_is said end runs (sets top []) tt refl refl))
      (sym (first_is said end runs (sets made []) tt refl refl)) (sym (first_is said end runs (sets budget []) tt refl refl))
      (sym (first_is said end runs (sets seed []) tt refl refl)) (sym (trace_is said end runs)) (sym (vcd_is said end runs)) h

-- ---- a form says each thing once

given_size : (vs : List Text) (o : Option Text) → IsGiven vs o → length vs ≤ 1
given_size [] o h = omega arith
given_size (v ∷ []) o h = omega arith
given_size (v ∷ w ∷ vs) o h = absurd h

number_size : (without least most : ℕ) (vs : List Text) (n : ℕ) → IsNumber without least most vs n → length vs ≤ 1
number_size without least most [] n h = omega arith
number_size without least most (v ∷ []) n h = omega arith
number_size without least most (v ∷ w ∷ vs) n h = absurd h

flag_size : (vs : List Text) (b : Bool) → IsFlag vs b → length vs ≤ 1
flag_size [] b h = omega arith
flag_size (v ∷ []) b h = omega arith
flag_size (v ∷ w ∷ vs) b h = absurd h

asked_sizes : (files tops mades : List Text) (a : Asked) → IsAsked files tops mades a → (length tops ≤ 1) × (length mades ≤ 1)
asked_sizes (d ∷ t ∷ []) tops [] a h = (given_size tops h.0 h.4, omega arith)
asked_sizes (d ∷ t ∷ []) tops (m ∷ ms) a h = absurd h
asked_sizes (d ∷ t ∷ u ∷ fs) tops mades a h = absurd h
asked_sizes (d ∷ []) tops mades a h = absurd h
asked_sizes [] [] [] a h = absurd h
asked_sizes [] [] (m ∷ []) a h = (omega arith, omega arith)
asked_sizes [] [] (m ∷ k ∷ ms) a h = absurd h
asked_sizes [] (p ∷ ps) mades a h = absurd h

form_fresh : (said : List Said) (x : Form) → IsFormOf said x → Fresh said []
form_fresh said x h (sets top v) k = ((asked_sizes (values_of (codes "files") said) (values_of (codes "top") said) (values_of (codes "made") said) x.asked h.asked).0, λ e. absurd (true≢false (sym e)))
form_fresh said x h (sets made v) k = ((asked_sizes (values_of (codes "files") said) (values_of (codes "top") said) (values_of (codes "made") said) x.asked h.asked).1, λ e. absurd (true≢false (sym e)))
form_fresh said x h (sets budget v) k = (number_size 10000000 1 1099511627776 (values_of (codes "budget") said) x.budget h.budget, λ e. absurd (true≢false (sym e)))
form_fresh said x h (sets seed v) k = (number_size 0 0 18446744073709551615 (values_of (codes "seed") said) x.seed h.seed, λ e. absurd (true≢false (sym e)))
form_fresh said x h (flags traces) k = (flag_size (values_of (codes "trace") said) x.trace h.trace, λ e. absurd (true≢false (sym e)))
form_fresh said x h (flags dumps) k = (flag_size (values_of (codes "vcd") said) x.vcd h.vcd, λ e. absurd (true≢false (sym e)))
form_fresh said x h (names file) k = absurd k

-- a reading is one of what `clap` found
pub reads_found : (words : List Text) (x : Form) → Reads words x → (end : List Row) × (start words ≡ Some end) × IsFormIn (defaulted end) x
reads_found words x r =
    let runs = fresh_runs r.0 [] (form_fresh r.0 x r.2) in
    (runs.0, complete words r.0 r.1 false [] none ∙ runs.1, said_found r.0 runs.0 runs.1 x r.2)

pub found_reads : (words : List Text) (x : Form) (end : List Row) → AreTexts words → start words ≡ Some end → IsFormIn (defaulted end) x → Reads words x
found_reads words x end u e h =
    let said = sound_words words u end e in
    (said.0, said.1, found_said said.0 end (sym (complete words said.0 said.1 false [] none) ∙ e) x h)

-- ---- each list of words has at most one reading

some_is : {X : Type 0} (a b : X) → Some a ≡ Some b → a ≡ b
some_is a b e = ap (λ o. Rattle.std.specs.Option.unwrap_or o a) e

given_once : (vs : List Text) (a b : Option Text) → IsGiven vs a → IsGiven vs b → a ≡ b
given_once [] a b h k = h ∙ sym k
given_once (v ∷ []) a b h k = h.0 ∙ sym k.0
given_once (v ∷ w ∷ vs) a b h k = absurd h

number_once : (without least most : ℕ) (vs : List Text) (m n : ℕ) → IsNumber without least most vs m → IsNumber without least most vs n → m ≡ n
number_once without least most [] m n h k = h ∙ sym k
number_once without least most (v ∷ []) m n h k = h.2 ∙ sym k.2
number_once without least most (v ∷ w ∷ vs) m n h k = absurd h

pub flag_once : (vs : List Text) (a b : Bool) → IsFlag vs a → IsFlag vs b → a ≡ b
flag_once [] a b h k = h ∙ sym k
flag_once (v ∷ []) a b h k = h ∙ sym k
flag_once (v ∷ w ∷ vs) a b h k = absurd h

pub asked_once : (files tops mades : List Text) (a b : Asked) → IsAsked files tops mades a → IsAsked files tops mades b → a ≡ b
asked_once (d ∷ t ∷ []) tops [] a b h k = h.1 ∙ ap (form.files d t) (given_once tops h.0 k.0 h.4 k.4) ∙ sym k.1
asked_once (d ∷ t ∷ []) tops (m ∷ ms) a b h k = absurd h
asked_once (d ∷ t ∷ u ∷ fs) tops mades a b h k = absurd h
asked_once (d ∷ []) tops mades a b h k = absurd h
asked_once [] [] [] a b h k = absurd h
asked_once [] [] (m ∷ []) a b h k = h.1 ∙ ap form.made (h.2.2 ∙ sym k.2.2) ∙ sym k.1
asked_once [] [] (m ∷ n ∷ ms) a b h k = absurd h
asked_once [] (p ∷ ps) mades a b h k = absurd h

-- what doesn't stand apart by one form doesn't by the other
pub both_apart : (a b : Asked) (t u v w : Bool) → a ≡ b → t ≡ u → v ≡ w → stands_apart b u w ≡ false → IsTrue (stands_apart a t v) → ⊥
both_apart a b t u v w ea et ev apart is =
    none (subst IsTrue (ap (λ (x : Asked). stands_apart x t v) ea ∙ ap (λ (x : Bool). stands_apart b x v) et ∙ ap (λ (x : Bool). stands_apart b u x) ev ∙ apart) is)
  where
    none : IsTrue false → ⊥
    none e = cc

pub form_once : (f t m b s r v : List Text) (x y : Form) → IsForm f t m b s r v x → IsForm f t m b s r v y → x ≡ y
form_once f t m b s r w x y h k =
    ap (λ (v : Asked). record x { asked = v }) (asked_once f t m x.asked y.asked h.asked k.asked)
    ∙ ap (λ (v : ℕ). record y { budget = v; seed = x.seed; trace = x.trace; vcd = x.vcd }) (number_once 10000000 1 1099511627776 b x.budget y.budget h.budget k.budget)
    ∙ ap (λ (v : ℕ). record y { seed = v; trace = x.trace; vcd = x.vcd }) (number_once 0 0 18446744073709551615 s x.seed y.seed h.seed k.seed)
    ∙ ap (λ (v : Bool). record y { trace = v; vcd = x.vcd }) (flag_once r x.trace y.trace h.trace k.trace)
    ∙ ap (λ (v : Bool). record y { vcd = v }) (flag_once w x.vcd y.vcd h.vcd k.vcd)

pub read_once : ReadOnce
read_once words a b ra rb =
    let fa = reads_found words a ra in
    let fb = reads_found words b rb in
    let same : fb.0 ≡ fa.0 = some_is fb.0 fa.0 (sym fb.1 ∙ fa.1) in
    form_once _ _ _ _ _ _ _ a b fa.2 (subst (λ (rows : List Row). IsFormIn (defaulted rows) b) same fb.2)

-- ---- what a parse tells

-- of words that `clap` takes
pub taken_reads : (words : List Text) → AreTexts words → fault_of words_app words ≡ [] → (rows : List Row) → rows ≡ matches_of words_app words → (x : Form)
    → (IsFormIn rows x → Reads words x) × (Reads words x → IsFormIn rows x)
taken_reads words u faultless rows is x =
    let starts : start words ≡ Some (ended_rows words) = start_is words ∙ ap (λ (f : Kinds). pick f (Some (ended_rows words))) faultless in
    let found : rows ≡ defaulted (ended_rows words) = is ∙ found_is words in (
      λ h. found_reads words x (ended_rows words) u starts (subst (λ (l : List Row). IsFormIn l x) found h),
      λ r. let f = reads_found words x r in
          let same : f.0 ≡ ended_rows words = some_is f.0 (ended_rows words) (sym f.1 ∙ starts) in
          subst (λ (l : List Row). IsFormIn l x) (sym found) (subst (λ (l : List Row). IsFormIn (defaulted l) x) same f.2),
    )

-- of words that it refuses
pub refused_reads : (words : List Text) → (fault_of words_app words ≡ [] → ⊥) → (x : Form) → Reads words x → ⊥
refused_reads words some x r =
    let f = reads_found words x r in
    go (fault_of words_app words) refl (sym (start_is words) ∙ f.1)
  where
    go : (k : Kinds) → fault_of words_app words ≡ k → pick (fault_of words_app words) (Some (ended_rows words)) ≡ Some (reads_found words x r).0 → ⊥
    go [] e h = some e
    go (k ∷ ks) e h =
        let bad : None ≡ Some (reads_found words x r).0 = sym (ap (λ (f : Kinds). pick f (Some (ended_rows words))) e) ∙ h in
        true≢false (sym (ap (λ o. Rattle.std.specs.Option.is_some o) bad))

-- the words of a process are texts
pub texts_are : {Z : Type 0} (words : List (String Z)) → AreTexts (map string_bytes words)
texts_are [] = tt
texts_are (word ∷ words) = (IsUtf8-string_bytes word, texts_are words)
