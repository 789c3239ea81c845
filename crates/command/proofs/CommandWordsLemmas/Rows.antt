-- What `clap` kept of all that was said.
use Rattle.std.proofs.Common.{◌≡◌, ◌∙◌, ◌≤◌, ◌++◌, ◌∷◌, ◌||◌, Bool, cond, true, false, refl, sym, ap, subst, arith, List, [], length, drop, Option, Some, None, codes, slice_get, option_to_list, true≢false, append-nil, append_assoc}
use Rattle.std.specs.List.{find, fold}
use Rattle.std.specs.Option.{is_some, option_map, unwrap_or}
use Rattle.std.specs.Prelude.{option_and_then}
use Rattle.std.specs.Str.{bytes_eq}
use Rattle.std.proofs.lemmas.Slice.Eq.{bytes_eq-Decides}
use Rattle.clap.specs.Walk.{Row, Text, first_of, has_row, reading_by, with_default, with_values, without}
use Rattle.clap.specs.declared.builder.value_parser.Reading.{Reading}
use Rattle.clap.specs.declared.parser.matches.ValueSource.{ValueSource}
use Rattle.clap.specs.declared.parser.matches.ValueSource.TheVariants.{CommandLine, DefaultValue}
use Rattle.command.specs.CommandWords.Arguments.{first, flag_in, kept}
use Rattle.command.specs.CommandWords.Words.{Flag, Said, budget, dumps, flag_name, flags, made, name_of, names, seed, sets, subject_of, top, traces, value_of, values_of}
use Rattle.command.proofs.CommandWordsLemmas.Steps.{put, repeats, rule_for, rules, run}

-- ---- texts and values

same_text : (a : Text) → bytes_eq a a ≡ true
same_text a = (bytes_eq-Decides a a).1 refl

or_false : (b : Bool) → (b || false) ≡ b
or_false true = refl
or_false false = refl

or_true : (b : Bool) → (b || true) ≡ true
or_true true = refl
or_true false = refl

some_is : {X : Type 0} (a b : X) → Some a ≡ Some b → a ≡ b
some_is a b e = ap (λ o. unwrap_or o a) e

not_none : {X : Type 0} (x : X) → None ≡ Some x → ⊥
not_none x e = true≢false (sym (ap (λ o. is_some o) e))

without_none : (id : Text) (rows : List Row) → has_row id rows ≡ false → without id rows ≡ rows
without_none id [] e = refl
without_none id (r ∷ rs) e = go (bytes_eq r.id id) refl (without_none id rs)
  where
    go : (b : Bool) → bytes_eq r.id id ≡ b → (has_row id rs ≡ false → without id rs ≡ rs) → without id (r ∷ rs) ≡ r ∷ rs
    go true t rest = absurd (true≢false (sym (ap (λ x. x || has_row id rs) t) ∙ e))
    go false t rest = rw t (ap (λ xs. r ∷ xs) (rest (sym (ap (λ x. x || has_row id rs) t) ∙ e)))

module _ (id name : Text) (how : Reading) (s : ValueSource) (vs : List Text) where
  kept_new : (b : Bool) → bytes_eq id name ≡ b → kept name (with_values id how s vs []) ≡ cond (bytes_eq id name) vs []
  kept_new true t = rw t refl
  kept_new false t = rw t refl

  pub with_kept : (rows : List Row) → kept name (with_values id how s vs rows) ≡ kept name rows ++ cond (bytes_eq id name) vs []
  with_kept [] = kept_new (bytes_eq id name) refl
  with_kept (r ∷ rs) = go (bytes_eq r.id id) (bytes_eq r.id name) refl refl (with_kept rs)
    where
      go : (x y : Bool) → bytes_eq r.id id ≡ x → bytes_eq r.id name ≡ y
          → kept name (with_values id how s vs rs) ≡ kept name rs ++ cond (bytes_eq id name) vs []
          → kept name (with_values id how s vs (r ∷ rs)) ≡ kept name (r ∷ rs) ++ cond (bytes_eq id name) vs []
      go true true a b h =
          let c : bytes_eq id name ≡ true = ap (λ z. bytes_eq z name) (sym ((bytes_eq-Decides r.id id).0 a)) ∙ b in
          rw (a, b, c) refl
      go true false a b h =
          let c : bytes_eq id name ≡ false = ap (λ z. bytes_eq z name) (sym ((bytes_eq-Decides r.id id).0 a)) ∙ b in
          rw (a, b, c) (sym (append-nil (kept name rs)))
      go false true a b h =
          let c : bytes_eq id name ≡ false = ap (bytes_eq id) (sym ((bytes_eq-Decides r.id name).0 b)) ∙ turned a in
          rw (a, b, c) (sym (append-nil r.values))
        where
          turned : bytes_eq r.id id ≡ false → bytes_eq id r.id ≡ false
          turned a = back (bytes_eq id r.id) refl
            where
              back : (z : Bool) → bytes_eq id r.id ≡ z → bytes_eq id r.id ≡ false
              back true e = absurd (true≢false (sym ((bytes_eq-Decides r.id id).1 (sym ((bytes_eq-Decides id r.id).0 e))) ∙ a))
              back false e = e
      go false false a b h = rw (a, b) h

  pub with_has : (rows : List Row) → has_row name (with_values id how s vs rows) ≡ (has_row name rows || bytes_eq id name)
  with_has [] = or_false (bytes_eq id name)
  with_has (r ∷ rs) = go (bytes_eq r.id id) (bytes_eq r.id name) refl refl (with_has rs)
    where
      go : (x y : Bool) → bytes_eq r.id id ≡ x → bytes_eq r.id name ≡ y
          → has_row name (with_values id how s vs rs) ≡ (has_row name rs || bytes_eq id name)
          → has_row name (with_values id how s vs (r ∷ rs)) ≡ (has_row name (r ∷ rs) || bytes_eq id name)
      go true true a b h = rw (a, b) refl
      go true false a b h =
          let c : bytes_eq id name ≡ false = ap (λ z. bytes_eq z name) (sym ((bytes_eq-Decides r.id id).0 a)) ∙ b in
          rw (a, b, c) (sym (or_false (has_row name rs)))
      go false true a b h = rw (a, b) refl
      go false false a b h = rw (a, b) h

pub put_is : (x : Said) (rows : List Row) → repeats x rows ≡ false
    → put x rows ≡ with_values (subject_of x) (reading_by (rule_for x)) CommandLine (value_of x ∷ []) rows
put_is (sets top v) rows e = ap (with_values (codes "top") (reading_by (rule_for (sets top v))) CommandLine (v ∷ [])) (without_none (codes "top") rows e)
put_is (sets budget v) rows e = ap (with_values (codes "budget") (reading_by (rule_for (sets budget v))) CommandLine (v ∷ [])) (without_none (codes "budget") rows e)
put_is (sets seed v) rows e = ap (with_values (codes "seed") (reading_by (rule_for (sets seed v))) CommandLine (v ∷ [])) (without_none (codes "seed") rows e)
put_is (sets made v) rows e = ap (with_values (codes "made") (reading_by (rule_for (sets made v))) CommandLine (v ∷ [])) (without_none (codes "made") rows e)
put_is (flags traces) rows e = ap (with_values (codes "trace") (reading_by (rule_for (flags traces))) CommandLine (codes "true" ∷ [])) (without_none (codes "trace") rows e)
put_is (flags dumps) rows e = ap (with_values (codes "vcd") (reading_by (rule_for (flags dumps))) CommandLine (codes "true" ∷ [])) (without_none (codes "vcd") rows e)
put_is (names file) rows e = refl

-- nothing that may be said once was said before
split_run : (x : Said) (xs : List Said) (rows end : List Row) → run (x ∷ xs) rows ≡ Some end → (repeats x rows ≡ false) × (run xs (put x rows) ≡ Some end)
split_run x xs rows end e = go (repeats x rows) refl
  where
    go : (b : Bool) → repeats x rows ≡ b → (repeats x rows ≡ false) × (run xs (put x rows) ≡ Some end)
    go true t = absurd (not_none end (sym (ap (λ z. cond z None (run xs (put x rows))) t) ∙ e))
    go false t = (t, sym (ap (λ z. cond z None (run xs (put x rows))) t) ∙ e)

pub run_kept : (said : List Said) (rows end : List Row) → run said rows ≡ Some end → (name : Text) → kept name end ≡ kept name rows ++ values_of name said
run_kept [] rows end e name = ap (kept name) (sym (some_is rows end e)) ∙ sym (append-nil (kept name rows))
run_kept (x ∷ xs) rows end e name =
    let parts = split_run x xs rows end e in
    run_kept xs (put x rows) end parts.1 name
    ∙ ap (λ (k : List Text). k ++ values_of name xs)
    (ap (kept name) (put_is x rows parts.0) ∙ with_kept (subject_of x) name (reading_by (rule_for x)) CommandLine (value_of x ∷ []) rows)
    ∙ join (bytes_eq (subject_of x) name) (kept name rows)
  where
    join : (b : Bool) (k : List Text)
        → (k ++ cond b (value_of x ∷ []) []) ++ values_of name xs ≡ k ++ cond b (value_of x ∷ values_of name xs) (values_of name xs)
    join true k = append_assoc k (value_of x ∷ []) (values_of name xs)
    join false k = ap (λ (l : List Text). l ++ values_of name xs) (append-nil k)

-- ---- what may be said once

abbrev pub IsSingle : Said → Type 0
IsSingle (sets s v) = Unit {0}
IsSingle (flags f) = Unit {0}
IsSingle (names file) = ⊥

abbrev pub AtMostOnce : List Said → List Row → Said → Type 0
AtMostOnce said rows y = (length (values_of (subject_of y) said) ≤ 1) × (has_row (subject_of y) rows ≡ true → values_of (subject_of y) said ≡ [])

abbrev pub Fresh : List Said → List Row → Type 0
Fresh said rows = (y : Said) → IsSingle y → AtMostOnce said rows y

put_has : (x : Said) (rows : List Row) → repeats x rows ≡ false → (name : Text) → has_row name (put x rows) ≡ (has_row name rows || bytes_eq (subject_of x) name)
put_has x rows e name = ap (has_row name) (put_is x rows e) ∙ with_has (subject_of x) name (reading_by (rule_for x)) CommandLine (value_of x ∷ []) rows

no_file : (y : Said) → IsSingle y → bytes_eq (codes "files") (subject_of y) ≡ false
no_file (sets top v) k = refl
no_file (sets budget v) k = refl
no_file (sets seed v) k = refl
no_file (sets made v) k = refl
no_file (flags traces) k = refl
no_file (flags dumps) k = refl
no_file (names file) k = absurd k

-- what is said of the same as something that may be said once may be said once
repeats_is : (x y : Said) (rows : List Row) → IsSingle y → subject_of x ≡ subject_of y → repeats x rows ≡ has_row (subject_of y) rows
repeats_is (sets s v) y rows k e = ap (λ n. has_row n rows) e
repeats_is (flags f) y rows k e = ap (λ n. has_row n rows) e
repeats_is (names file) y rows k e =
    absurd (true≢false (sym (same_text (codes "files")) ∙ ap (bytes_eq (codes "files")) e ∙ no_file y k))

none_left : (xs : List Text) → length xs ≤ 0 → xs ≡ []
none_left [] h = refl
none_left (x ∷ xs) h = absurd (omega (arith, h))

pub run_fresh : (said : List Said) (rows end : List Row) → run said rows ≡ Some end → Fresh said rows
run_fresh [] rows end e y k = (omega arith, λ h. refl)
run_fresh (x ∷ xs) rows end e y k =
    let parts = split_run x xs rows end e in
    go (bytes_eq (subject_of x) (subject_of y)) refl parts.0 (run_fresh xs (put x rows) end parts.1 y k)
  where
    go : (b : Bool) → bytes_eq (subject_of x) (subject_of y) ≡ b → repeats x rows ≡ false → AtMostOnce xs (put x rows) y → AtMostOnce (x ∷ xs) rows y
    go true t single h =
        let is : subject_of x ≡ subject_of y = (bytes_eq-Decides (subject_of x) (subject_of y)).0 t in
        let has : has_row (subject_of y) (put x rows) ≡ true = put_has x rows single (subject_of y) ∙ ap (λ b. has_row (subject_of y) rows || b) t ∙ or_true (has_row (subject_of y) rows) in
        let rest : values_of (subject_of y) xs ≡ [] = h.1 has in
        let all : values_of (subject_of y) (x ∷ xs) ≡ value_of x ∷ [] =
        ap (λ b. cond b (value_of x ∷ values_of (subject_of y) xs) (values_of (subject_of y) xs)) t ∙ ap (λ l. value_of x ∷ l) rest in (
          subst (λ (l : List Text). length l ≤ 1) (sym all) (omega arith),
          λ old. absurd (true≢false (sym old ∙ sym (repeats_is x y rows k is) ∙ single)),
        )
    go false t single h =
        let has : has_row (subject_of y) (put x rows) ≡ has_row (subject_of y) rows = put_has x rows single (subject_of y) ∙ ap (λ b. has_row (subject_of y) rows || b) t ∙ or_false (has_row (subject_of y) rows) in
        let all : values_of (subject_of y) (x ∷ xs) ≡ values_of (subject_of y) xs =
        ap (λ b. cond b (value_of x ∷ values_of (subject_of y) xs) (values_of (subject_of y) xs)) t in
        (subst (λ (l : List Text). length l ≤ 1) (sym all) h.0, λ old. all ∙ h.1 (has ∙ old))

fresh_once : (x : Said) (xs : List Said) (rows : List Row) → Fresh (x ∷ xs) rows → repeats x rows ≡ false
fresh_once (sets s v) xs rows fresh = go (has_row (name_of s) rows) refl
  where
    go : (b : Bool) → has_row (name_of s) rows ≡ b → has_row (name_of s) rows ≡ false
    go false t = t
    go true t =
        let none = (fresh (sets s v) tt).1 t in
        let some : values_of (name_of s) (sets s v ∷ xs) ≡ v ∷ values_of (name_of s) xs =
        ap (λ b. cond b (v ∷ values_of (name_of s) xs) (values_of (name_of s) xs)) (same_text (name_of s)) in
        let n = ap (λ (l : List Text). length l) (sym some ∙ none) in
        absurd (omega (arith, n))
fresh_once (flags f) xs rows fresh = go (has_row (flag_name f) rows) refl
  where
    go : (b : Bool) → has_row (flag_name f) rows ≡ b → has_row (flag_name f) rows ≡ false
    go false t = t
    go true t =
        let none = (fresh (flags f) tt).1 t in
        let some : values_of (flag_name f) (flags f ∷ xs) ≡ codes "true" ∷ values_of (flag_name f) xs =
        ap (λ b. cond b (codes "true" ∷ values_of (flag_name f) xs) (values_of (flag_name f) xs)) (same_text (flag_name f)) in
        let n = ap (λ (l : List Text). length l) (sym some ∙ none) in
        absurd (omega (arith, n))
fresh_once (names file) xs rows fresh = refl

fresh_next : (x : Said) (xs : List Said) (rows : List Row) → repeats x rows ≡ false → Fresh (x ∷ xs) rows → Fresh xs (put x rows)
fresh_next x xs rows single fresh y k = go (bytes_eq (subject_of x) (subject_of y)) refl (fresh y k)
  where
    go : (b : Bool) → bytes_eq (subject_of x) (subject_of y) ≡ b → AtMostOnce (x ∷ xs) rows y → AtMostOnce xs (put x rows) y
    go true t h =
        let all : values_of (subject_of y) (x ∷ xs) ≡ value_of x ∷ values_of (subject_of y) xs =
        ap (λ b. cond b (value_of x ∷ values_of (subject_of y) xs) (values_of (subject_of y) xs)) t in
        let n = subst (λ (l : List Text). length l ≤ 1) all h.0 in
        let rest : values_of (subject_of y) xs ≡ [] = none_left (values_of (subject_of y) xs) (omega (arith, n)) in
        (subst (λ (l : List Text). length l ≤ 1) (sym rest) (omega arith), λ has. rest)
    go false t h =
        let has : has_row (subject_of y) (put x rows) ≡ has_row (subject_of y) rows = put_has x rows single (subject_of y) ∙ ap (λ b. has_row (subject_of y) rows || b) t ∙ or_false (has_row (subject_of y) rows) in
        let all : values_of (subject_of y) (x ∷ xs) ≡ values_of (subject_of y) xs =
        ap (λ b. cond b (value_of x ∷ values_of (subject_of y) xs) (values_of (subject_of y) xs)) t in
        (subst (λ (l : List Text). length l ≤ 1) all h.0, λ now. sym all ∙ h.1 (sym has ∙ now))

pub fresh_runs : (said : List Said) (rows : List Row) → Fresh said rows → (end : List Row) × (run said rows ≡ Some end)
fresh_runs [] rows fresh = (rows, refl)
fresh_runs (x ∷ xs) rows fresh =
    let single = fresh_once x xs rows fresh in
    let rest = fresh_runs xs (put x rows) (fresh_next x xs rows single fresh) in
    (rest.0, ap (λ b. cond b None (run xs (put x rows))) single ∙ rest.1)

-- ---- what is told of an argument that wasn't used

same : (b : Bool) (rows : List Row) → cond b rows rows ≡ rows
same true rows = refl
same false rows = refl

abbrev pub defaulted : List Row → List Row
defaulted rows = with_default (with_default rows (rule_for (flags traces))) (rule_for (flags dumps))

pub defaults_are : (rows : List Row) → fold with_default rows rules ≡ defaulted rows
defaults_are rows =
    ap (λ x. fold with_default x (drop 1 rules)) (same (has_row (codes "top") rows) rows)
    ∙ ap (λ x. fold with_default x (drop 2 rules)) (same (has_row (codes "budget") rows) rows)
    ∙ ap (λ x. fold with_default x (drop 3 rules)) (same (has_row (codes "seed") rows) rows)
    ∙ ap (λ x. fold with_default x (drop 4 rules)) (same (has_row (codes "made") rows) rows)
    ∙ same (has_row (codes "files") (defaulted rows)) (defaulted rows)

abbrev with_no : Flag → List Row → List Row
with_no f rows = with_values (flag_name f) (reading_by (rule_for (flags f))) DefaultValue (codes "false" ∷ []) rows

default_is : (f : Flag) (rows : List Row) → with_default rows (rule_for (flags f)) ≡ cond (has_row (flag_name f) rows) rows (with_no f rows)
default_is traces rows = refl
default_is dumps rows = refl

flag_kept : (f : Flag) (name : Text) (rows : List Row) → bytes_eq (flag_name f) name ≡ false → kept name (with_default rows (rule_for (flags f))) ≡ kept name rows
flag_kept f name rows t = ap (kept name) (default_is f rows) ∙ go (has_row (flag_name f) rows)
  where
    go : (b : Bool) → kept name (cond b rows (with_no f rows)) ≡ kept name rows
    go true = refl
    go false = with_kept (flag_name f) name (reading_by (rule_for (flags f))) DefaultValue (codes "false" ∷ []) rows
        ∙ ap (λ b. kept name rows ++ cond b (codes "false" ∷ []) []) t ∙ append-nil (kept name rows)

pub defaulted_kept : (name : Text) (rows : List Row) → bytes_eq (codes "trace") name ≡ false → bytes_eq (codes "vcd") name ≡ false
    → kept name (defaulted rows) ≡ kept name rows
defaulted_kept name rows t v = flag_kept dumps name (with_default rows (rule_for (flags traces))) v ∙ flag_kept traces name rows t

kept_none : (name : Text) (rows : List Row) → has_row name rows ≡ false → kept name rows ≡ []
kept_none name [] e = refl
kept_none name (r ∷ rs) e = go (bytes_eq r.id name) refl (kept_none name rs)
  where
    go : (b : Bool) → bytes_eq r.id name ≡ b → (has_row name rs ≡ false → kept name rs ≡ []) → kept name (r ∷ rs) ≡ []
    go true t rest = absurd (true≢false (sym (ap (λ x. x || has_row name rs) t) ∙ e))
    go false t rest = rw t (rest (sym (ap (λ x. x || has_row name rs) t) ∙ e))

pub first_kept : (name : Text) (rows : List Row) → first_of name rows ≡ slice_get (kept name rows) 0
first_kept name rows = go (find (λ (r : Row). bytes_eq r.id name) rows)
  where
    go : (o : Option Row) → option_and_then (λ r. slice_get r.values 0) o ≡ slice_get (unwrap_or (option_map (λ r. r.values) o) []) 0
    go None = refl
    go (Some r) = refl

one_value : (vs : List Text) → length vs ≤ 1 → option_to_list (slice_get vs 0) ≡ vs
one_value [] h = refl
one_value (v ∷ []) h = refl
one_value (v ∷ w ∷ vs) h = absurd (omega (arith, h))

-- each value of a flag is `true`
abbrev AreTrue : List Text → Type 0
AreTrue [] = Unit {0}
AreTrue (v ∷ vs) = (v ≡ codes "true") × AreTrue vs

flags_true : (f : Flag) (said : List Said) → AreTrue (values_of (flag_name f) said)
flags_true f [] = tt
flags_true traces (sets top v ∷ xs) = flags_true traces xs
flags_true traces (sets budget v ∷ xs) = flags_true traces xs
flags_true traces (sets seed v ∷ xs) = flags_true traces xs
flags_true traces (sets made v ∷ xs) = flags_true traces xs
flags_true traces (flags traces ∷ xs) = (refl, flags_true traces xs)
flags_true traces (flags dumps ∷ xs) = flags_true traces xs
flags_true traces (names file ∷ xs) = flags_true traces xs
flags_true dumps (sets top v ∷ xs) = flags_true dumps xs
flags_true dumps (sets budget v ∷ xs) = flags_true dumps xs
flags_true dumps (sets seed v ∷ xs) = flags_true dumps xs
flags_true dumps (sets made v ∷ xs) = flags_true dumps xs
flags_true dumps (flags traces ∷ xs) = flags_true dumps xs
flags_true dumps (flags dumps ∷ xs) = (refl, flags_true dumps xs)
flags_true dumps (names file ∷ xs) = flags_true dumps xs

one_flag : (vs : List Text) → AreTrue vs → length vs ≤ 1 → flag_in (slice_get vs 0) ≡ vs
one_flag [] t h = refl
one_flag (v ∷ []) t h = subst (λ (u : Text). flag_in (Some u) ≡ u ∷ []) (sym t.0) refl
one_flag (v ∷ w ∷ vs) t h = absurd (omega (arith, h))

module _ (said : List Said) (end : List Row) (runs : run said [] ≡ Some end) where
  pub first_is : (y : Said) → IsSingle y → bytes_eq (codes "trace") (subject_of y) ≡ false → bytes_eq (codes "vcd") (subject_of y) ≡ false
      → first (subject_of y) (defaulted end) ≡ values_of (subject_of y) said
  first_is y k t v =
      ap option_to_list (first_kept (subject_of y) (defaulted end)
      ∙ ap (λ vs. slice_get vs 0) (defaulted_kept (subject_of y) end t v ∙ run_kept said [] end runs (subject_of y)))
      ∙ one_value (values_of (subject_of y) said) (run_fresh said [] end runs y k).0

  pub files_are : kept (codes "files") (defaulted end) ≡ values_of (codes "files") said
  files_are = defaulted_kept (codes "files") end refl refl ∙ run_kept said [] end runs (codes "files")

  -- of a flag in rows that have what was said of it
  flag_at : (f : Flag) (rows : List Row) → kept (flag_name f) rows ≡ values_of (flag_name f) said
      → flag_in (slice_get (kept (flag_name f) (with_default rows (rule_for (flags f)))) 0) ≡ values_of (flag_name f) said
  flag_at f rows values = ap (λ (r : List Row). flag_in (slice_get (kept (flag_name f) r) 0)) (default_is f rows) ∙ go (has_row (flag_name f) rows) refl
    where
      go : (b : Bool) → has_row (flag_name f) rows ≡ b
          → flag_in (slice_get (kept (flag_name f) (cond (has_row (flag_name f) rows) rows (with_no f rows))) 0) ≡ values_of (flag_name f) said
      go true t =
          ap (λ b. flag_in (slice_get (kept (flag_name f) (cond b rows (with_no f rows))) 0)) t
          ∙ ap (λ vs. flag_in (slice_get vs 0)) values
          ∙ one_flag (values_of (flag_name f) said) (flags_true f said) (run_fresh said [] end runs (flags f) tt).0
      go false t =
          let none = kept_none (flag_name f) rows t in
          ap (λ b. flag_in (slice_get (kept (flag_name f) (cond b rows (with_no f rows))) 0)) t
          ∙ ap (λ vs. flag_in (slice_get vs 0)) (with_kept (flag_name f) (flag_name f) (reading_by (rule_for (flags f))) DefaultValue (codes "false" ∷ []) rows
          ∙ ap (λ (k : List Text). k ++ cond (bytes_eq (flag_name f) (flag_name f)) (codes "false" ∷ []) []) none
          ∙ ap (λ b. cond b (codes "false" ∷ []) []) (same_text (flag_name f)))
          ∙ sym none ∙ values

  pub trace_is : flag_in (first_of (codes "trace") (defaulted end)) ≡ values_of (codes "trace") said
  trace_is =
      ap flag_in (first_kept (codes "trace") (defaulted end)
      ∙ ap (λ vs. slice_get vs 0) (flag_kept dumps (codes "trace") (with_default end (rule_for (flags traces))) refl))
      ∙ flag_at traces end (run_kept said [] end runs (codes "trace"))

  pub vcd_is : flag_in (first_of (codes "vcd") (defaulted end)) ≡ values_of (codes "vcd") said
  vcd_is =
      ap flag_in (first_kept (codes "vcd") (defaulted end))
      ∙ flag_at dumps (with_default end (rule_for (flags traces))) (flag_kept traces (codes "vcd") end refl ∙ run_kept said [] end runs (codes "vcd"))
