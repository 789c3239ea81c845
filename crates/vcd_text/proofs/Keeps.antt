-- The text of a design and its changes keeps the rules, and reads as these changes.
use Rattle.std.specs.Prelude.{◌≡◌, ◌≢◌, ◌⊎◌, ◌<◌, ◌≤◌, ◌==◌, ◌+◌, ◌&&◌, ℕ, zero, suc, not, cond, nat_le, Bool, true, false, IsTrue, List, [], ◌∷◌, ◌++◌, codes, length, map, replicate, take, Option, None, Some, slice_get, if◌then◌else◌, refl}
use Rattle.std.specs.List.{AllByRecursion, filter, range_with_len}
use Rattle.std.proofs.Common.{ap, sym, subst, ◌∙◌, append_assoc, append-nil, arith, length-append, inl, inr}
use Rattle.std.proofs.lemmas.Bool.{and_parts, true≢false}
use Rattle.std.proofs.lemmas.Bool.Decides.{eqb_tells, nat_tests}
use Rattle.std.proofs.lemmas.List.{map-append}
use Rattle.std.proofs.lemmas.Option.{slice_get_within}
use Rattle.four_value.specs.declared.Digit.{Digit}
use Rattle.four_value.specs.Vector.{digit_byte}
use Rattle.gpi.specs.declared.design.Node.{Node}
use Rattle.gpi.specs.declared.design.Signal.{Signal}
use Rattle.gpi.specs.declared.design.Flat.{Flat}
use Rattle.gpi.specs.Soundness.{are_wide}
use Rattle.vcd_text.specs.Names.{is_name}
use Rattle.vcd_text.specs.Spelling.{line, spelled_step, time_line, value_line}
use Rattle.vcd_text.specs.Hierarchy.{Declaration, Opens, Declares, Closes, children_of, declarations, declared_signals, inner_instances, instance_of, is_word, most_inner, own_signals, top_path, traced_signals}
use Rattle.vcd_text.specs.Traceable.{IsOpening, IsTraceable}
use Rattle.vcd_text.specs.Changes.{ValueChange, IsChangeOf, AreChangesOf, times_rise}
use Rattle.vcd_text.specs.Text.{begin_lines, change_lines, declaration_line, opening_line, opening_lines, signal_line, step_line, vcd}
use Rattle.vcd_text.specs.Forms.{IsVar}
use Rattle.vcd_text.specs.Readable.{No_text_ends, No_text_goes_on, Reads_back, path_of, told_change}
use Rattle.vcd_text.specs.Rules.{ReadState, IsOver, IsRead, Takes, TakesIn, TakesLines, begun, goes_to, inner_path, with_end, with_instance, with_opening, with_signal, with_time, with_top, with_value}
use Rattle.vcd_text.specs.declared.change.Change.{Change}
use Rattle.vcd_text.specs.declared.reader.Known.{Known}
use Rattle.vcd_text.specs.declared.reader.Part.{Part}
use Rattle.vcd_text.specs.declared.reader.Part.TheVariants.{Top, Inside, Ended, Start, Dump, Opening, Changes}
use Rattle.port_io.specs.ToldLaws.{joined}
use Rattle.vcd_text.proofs.Fed.{bodies}
use Rattle.vcd_text.proofs.LinesOf.{one_line}
use Rattle.vcd_text.proofs.ReadLaws.{taken_cut, taken_then}
use Rattle.vcd_text.proofs.Visits.{begins, begins_both, few_begin}
use Rattle.vcd_text.proofs.Walks.{Place, Walks, walk_top}

-- ---- numbers that rise

abbrev Rises : ℕ → List ℕ → Type 0
Rises least [] = Unit {0}
Rises least (n ∷ ns) = (least ≤ n) × Rises (n + 1) ns

rises_less : (a b : ℕ) (ns : List ℕ) → a ≤ b → Rises b ns → Rises a ns
rises_less a b [] l h = tt
rises_less a b (n ∷ ns) l h = let k = h.0 in (omega (arith, l, k), h.1)

range_rises : (q : ℕ → Bool) (a n : ℕ) → Rises a (filter q (range_with_len a n))
range_rises q a zero = tt
range_rises q a (suc n) = by (q a) (range_rises q (a + 1) n)
  where
    by : (b : Bool) → Rises (a + 1) (filter q (range_with_len (a + 1) n)) → Rises a (cond b (a ∷ filter q (range_with_len (a + 1) n)) (filter q (range_with_len (a + 1) n)))
    by true h = (omega arith, h)
    by false h = rises_less a (a + 1) (filter q (range_with_len (a + 1) n)) (omega arith) h

-- ---- signals that are known

module _ (flat : Flat) where
  -- it is the signal of its number
  record Matches (k : Known) : Type 0 where
    signal : Signal
    there : slice_get flat.signals k.number ≡ Some signal
    path : k.path ≡ signal.path
    width : k.width ≡ signal.width
    start : k.start ≡ signal.start

  all_more : (ks : List Known) (k : Known) → AllByRecursion Matches ks → Matches k → AllByRecursion Matches (ks ++ k ∷ [])
  all_more [] k h m = (m, tt)
  all_more (x ∷ ks) k h m = (h.0, all_more ks k h.1 m)

  numbers : List Known → List ℕ
  numbers ks = map (λ k. k.number) ks

  signal_holds : (P : Signal → Type 0) (signals : List Signal) (n : ℕ) (signal : Signal) → slice_get signals n ≡ Some signal → AllByRecursion P signals → P signal
  signal_holds P [] n signal e all = absurd (cc)
  signal_holds P (x ∷ signals) zero signal e all = let same : x ≡ signal = cc in subst P same all.0
  signal_holds P (x ∷ signals) (suc n) signal e all = signal_holds P signals n signal e all.1

  wide_at : (signals : List Signal) (n : ℕ) (signal : Signal) → slice_get signals n ≡ Some signal → are_wide signals ≡ true → (1 ≤ signal.width) × (signal.width ≤ 128)
  wide_at [] n signal e wide = absurd (cc)
  wide_at (x ∷ signals) zero signal e wide =
      let same : x ≡ signal = cc in
      let p = and_parts (nat_le 1 x.width) (nat_le x.width 128) (and_parts (nat_le 1 x.width && nat_le x.width 128) (are_wide signals) wide).0 in
      subst (λ (s : Signal). (1 ≤ s.width) × (s.width ≤ 128)) same (least_of 1 x.width p.0, least_of x.width 128 p.1)
    where
      least_of : (m n : ℕ) → nat_le m n ≡ true → m ≤ n
      least_of m n h = grind (arith, nat_tests)
  wide_at (x ∷ signals) (suc n) signal e wide = wide_at signals n signal e (and_parts (nat_le 1 x.width && nat_le x.width 128) (are_wide signals) wide).1

  -- ---- declarations

  abbrev place_of : ReadState → Place
  place_of s = record { scope = s.scope; outer = s.outer; fresh = s.fresh }

  -- nothing is told yet
  record IsBare (s : ReadState) : Type 0 where
    told : s.told ≡ 0
    time : s.time ≡ 0
    waits : s.waits ≡ false
    changes : s.changes ≡ []

  record Declared (s a : ReadState) (numbers_more : List ℕ) : Type 0 where
    part : a.part ≡ Inside
    bare : IsBare a
    known : AllByRecursion Matches a.known
    numbers_are : map (λ k. k.number) a.known ≡ map (λ k. k.number) s.known ++ numbers_more

  abbrev DeclaresAll : ReadState → List Declaration → Place → Type 0
  DeclaresAll s ds a = (after : ReadState) × TakesLines s (map (declaration_line flat.signals) ds) after × (place_of after ≡ a) × Declared s after (declared_signals ds)

  module _ (t : IsTraceable flat) where
    var_there : (number : ℕ) (name : List ℕ) (signal : Signal) → slice_get flat.signals number ≡ Some signal → IsTrue (is_name name)
        → IsVar (declaration_line flat.signals (Declares number name)) number name signal.start signal.width
    var_there number name signal e good =
        let w = wide_at flat.signals number signal e t.limits.wide in
        let k = slice_get_within flat.signals number signal e in
        let few = t.limits.signals in
        record {
          spelled = ap (λ (o : Option Signal). elim o [ None ↦ [] | Some signal ↦ signal_line number name signal ]) e;
          named = good;
          start_is = signal_holds IsOpening flat.signals number signal e t.opening;
          least = w.0;
          most = w.1;
          numbered = omega (arith, k, few);
        }

    take_walks : (ds : List Declaration) (s : ReadState) (a : Place) → s.part ≡ Inside → IsBare s → AllByRecursion Matches s.known → Walks flat (place_of s) ds a
        → Rises s.free (declared_signals ds) → s.nodes + begins ds ≤ 65536 → DeclaresAll s ds a
    take_walks [] s a part bare known w rises few =
        (s, refl, sym w, record { part = part; bare = bare; known = known; numbers_are = sym (append-nil (map (λ k. k.number) s.known)) })
    take_walks (Opens name ∷ ds) s a part bare known (mid, o, w) rises few =
        let next = with_instance name s in
        let more = take_walks ds next a part (record { told = bare.told; time = bare.time; waits = bare.waits; changes = bare.changes }) known
        (subst (λ (p : Place). Walks flat p ds a) o.next w) rises (omega (arith, few)) in (
          more.0,
          (
            next,
            subst (λ (p : Part). TakesIn p s (declaration_line flat.signals (Opens name)) next) (sym part)
                (inl (record { name = name; is = record { spelled = refl; named = o.good }; unused = o.unused; inner = o.inner; few = omega (arith, few); next_is = refl })),
            more.1,
          ),
          more.2,
          record { part = more.3.part; bare = more.3.bare; known = more.3.known; numbers_are = more.3.numbers_are },
        )
    take_walks (Declares number name ∷ ds) s a part bare known (mid, o, w) rises few =
        let next = with_signal number name o.signal.start o.signal.width s in
        let signal : Known = record { number = number; path = inner_path s.scope.path name; width = o.signal.width; start = o.signal.start } in
        let m : Matches signal = record { signal = o.signal; there = o.there; path = sym o.path; width = refl; start = refl } in
        let more = take_walks ds next a part (record { told = bare.told; time = bare.time; waits = bare.waits; changes = bare.changes }) (all_more s.known signal known m)
        (subst (λ (p : Place). Walks flat p ds a) o.next w) rises.1 few in (
          more.0,
          (
            next,
            subst (λ (p : Part). TakesIn p s (declaration_line flat.signals (Declares number name)) next) (sym part)
                (inr (inl (record {
                  number = number;
                  name = name;
                  start = o.signal.start;
                  width = o.signal.width;
                  is = var_there number name o.signal o.there o.good;
                  unused = o.unused;
                  first = o.fresh;
                  rises = rises.0;
                  next_is = refl;
                }))),
            more.1,
          ),
          more.2,
          record {
            part = more.3.part;
            bare = more.3.bare;
            known = more.3.known;
            numbers_are = more.3.numbers_are
                ∙ (ap (λ (l : List ℕ). l ++ declared_signals ds) (map-append (λ (k : Known). k.number) s.known (signal ∷ []))
                ∙ append_assoc (map (λ k. k.number) s.known) (number ∷ []) (declared_signals ds));
          },
        )
    take_walks (Closes ∷ ds) s a part bare known (mid, o, w) rises few =
        let next = with_end o.outer o.scope s in
        let more = take_walks ds next a part (record { told = bare.told; time = bare.time; waits = bare.waits; changes = bare.changes }) known
        (subst (λ (p : Place). Walks flat p ds a) o.next w) rises few in (
          more.0,
          (
            next,
            subst (λ (p : Part). TakesIn p s (declaration_line flat.signals Closes) next) (sym part)
                (inr (inr (record { is = refl; ends = inr (o.outer, o.scope, o.is, refl) }))),
            more.1,
          ),
          more.2,
          record { part = more.3.part; bare = more.3.bare; known = more.3.known; numbers_are = more.3.numbers_are },
        )

    -- ---- opening values

    -- the changes begin, and all else is as it was
    record Opened (s a : ReadState) : Type 0 where
      part : a.part ≡ Changes
      known : a.known ≡ s.known
      time : a.time ≡ s.time
      waits : a.waits ≡ s.waits
      changes : a.changes ≡ s.changes

    get_at : (done : List Known) (k : Known) (rest : List Known) → slice_get (done ++ k ∷ rest) (length done) ≡ Some k
    get_at [] k rest = refl
    get_at (x ∷ done) k rest = get_at done k rest

    opening_is : (k : Known) → Matches k → opening_line flat.signals k.number ≡ value_line k.number (replicate k.width (digit_byte k.start))
    opening_is k m =
        ap (λ (o : Option Signal). elim o [ None ↦ [] | Some signal ↦ value_line k.number (replicate signal.width (digit_byte signal.start)) ]) m.there
        ∙ (ap (λ (w : ℕ). value_line k.number (replicate w (digit_byte m.signal.start))) (sym m.width)
        ∙ ap (λ (d : Digit). value_line k.number (replicate k.width (digit_byte d))) (sym m.start))

    in_part : (p : Part) (s : ReadState) (text : List ℕ) (a : ReadState) → s.part ≡ p → TakesIn p s text a → Takes s text a
    in_part p s text a e h = subst (λ (q : Part). TakesIn q s text a) (sym e) h

    abbrev opening_lines_of : List Known → List (List ℕ)
    opening_lines_of rest = map (opening_line flat.signals) (map (λ k. k.number) rest) ++ line (codes "$end") ∷ []

    take_openings : (rest done : List Known) (s : ReadState) → s.part ≡ Opening → s.known ≡ done ++ rest → s.told ≡ length done → AllByRecursion Matches rest
        → (a : ReadState) × TakesLines s (opening_lines_of rest) a × Opened s a
    take_openings [] done s part known told all =
        let e = ap length known ∙ length-append done [] in
        let next = goes_to Changes s in (
          next,
          (next, in_part Opening s (line (codes "$end")) next part (inr (record { all = omega (arith, e, told); is = refl; next_is = refl })), refl),
          record { part = refl; known = refl; time = refl; waits = refl; changes = refl },
        )
    take_openings (k ∷ rest) done s part known told all =
        let next = with_opening s in
        let there : slice_get s.known s.told ≡ Some k = ap (λ (l : List Known). slice_get l s.told) known ∙ (ap (λ (n : ℕ). slice_get (done ++ k ∷ rest) n) told ∙ get_at done k rest) in
        let more = take_openings rest (done ++ k ∷ []) next part (known ∙ sym (append_assoc done (k ∷ []) rest)) (omega (arith, told, length-append done (k ∷ []))) all.1 in (
          more.0,
          (next, in_part Opening s (opening_line flat.signals k.number) next part (inl (record { signal = k; there = there; is = opening_is k all.0; next_is = refl })), more.1),
          record { part = more.2.part; known = more.2.known; time = more.2.time; waits = more.2.waits; changes = more.2.changes },
        )

    -- ---- changes

    abbrev Among : ℕ → List ℕ → Type 0
    Among n [] = ⊥
    Among n (x ∷ xs) = (x ≡ n) ⊎ Among n xs

    among_by : (q : ℕ → Bool) (m : ℕ) → q m ≡ true → (n a : ℕ) → (a ≢ m → Among m (filter q (range_with_len (a + 1) n)))
        → (((a == m) ≡ true) × (a ≡ m)) ⊎ (((a == m) ≡ false) × (a ≢ m)) → (b : Bool) → q a ≡ b
        → Among m (cond b (a ∷ filter q (range_with_len (a + 1) n)) (filter q (range_with_len (a + 1) n)))
    among_by q m kept n a others (inl e) true is = inl e.1
    among_by q m kept n a others (inl e) false is = absurd (true≢false (sym kept ∙ (ap q (sym e.1) ∙ is)))
    among_by q m kept n a others (inr e) true is = inr (others e.1)
    among_by q m kept n a others (inr e) false is = others e.1

    among_range : (q : ℕ → Bool) (m : ℕ) → q m ≡ true → (n a : ℕ) → a ≤ m → m < a + n → Among m (filter q (range_with_len a n))
    among_range q m kept zero a least below = absurd (omega (arith, least, below))
    among_range q m kept (suc n) a least below =
        among_by q m kept n a (λ apart. among_range q m kept n (a + 1) (omega (arith, least, apart)) (omega (arith, below))) (eqb_tells a m) (q a) refl

    find_known : (n : ℕ) (ks : List Known) → Among n (map (λ k. k.number) ks) → (place : ℕ) × (k : Known) × (slice_get ks place ≡ Some k) × (k.number ≡ n)
    find_known n [] h = absurd h
    find_known n (k ∷ ks) (inl e) = (0, k, refl, e)
    find_known n (k ∷ ks) (inr h) = let more = find_known n ks h in (suc more.0, more.1, more.2, more.3)

    matches_at : (ks : List Known) (place : ℕ) (k : Known) → slice_get ks place ≡ Some k → AllByRecursion Matches ks → Matches k
    matches_at [] place k e all = absurd (cc)
    matches_at (x ∷ ks) zero k e all = let same : x ≡ k = cc in subst Matches same all.0
    matches_at (x ∷ ks) (suc place) k e all = matches_at ks place k e all.1

    -- what is known when changes are told
    record Telling (s : ReadState) : Type 0 where
      part : s.part ≡ Changes
      known : AllByRecursion Matches s.known
      numbers_are : map (λ k. k.number) s.known ≡ traced_signals flat

    -- the signal of a change is known
    known_of : (s : ReadState) → Telling s → (c : ValueChange) → IsChangeOf flat c → (place : ℕ) × (k : Known) × (slice_get s.known place ≡ Some k) × (k.number ≡ c.signal)
    known_of s w c is =
        let within = slice_get_within flat.signals c.signal is.signal is.there in
        let among = among_range (λ signal. not (is_word flat.nodes signal)) c.signal (ap not is.traced) (length flat.signals) 0 (omega arith) (omega (arith, within)) in
        find_known c.signal s.known (subst (λ (l : List ℕ). Among c.signal l) (sym w.numbers_are) among)

    some_known : (s : ReadState) → Telling s → (c : ValueChange) → IsChangeOf flat c → 0 < length s.known
    some_known s w c is = let found = known_of s w c is in let h = slice_get_within s.known found.0 found.1 found.2 in omega (arith, h)

    -- a change behind its time
    take_value : (s : ReadState) → Telling s → (c : ValueChange) → IsChangeOf flat c → s.time ≡ c.time
        → (k : Known) × Takes s (value_line c.signal c.digits) (with_value k c.digits s) × ((with_value k c.digits s).changes ≡ s.changes ++ told_change flat.signals c ∷ [])
    take_value s w c is time =
        let found = known_of s w c is in
        let m = matches_at s.known found.0 found.1 found.2 w.known in
        let there : slice_get flat.signals c.signal ≡ Some m.signal = ap (λ (n : ℕ). slice_get flat.signals n) (sym found.3) ∙ m.there in
        let same : is.signal ≡ m.signal = some_same is.signal m.signal (sym is.there ∙ there) in (
          found.1,
          in_part Changes s (value_line c.signal c.digits) (with_value found.1 c.digits s) w.part (inr (record {
            place = found.0;
            signal = found.1;
            there = found.2;
            digits = c.digits;
            is = record { spelled = ap (λ (n : ℕ). value_line n c.digits) (sym found.3); digits_are = is.digits };
            width = is.width ∙ (ap (λ (z : Signal). z.width) same ∙ sym m.width);
            next_is = refl;
          })),
          ap (λ (n : ℕ). s.changes ++ record { time = n; path = found.1.path; digits = c.digits } ∷ []) time
              ∙ ap (λ (l : List ℕ). s.changes ++ record { time = c.time; path = l; digits = c.digits } ∷ []) (m.path ∙ sym (ap path_of there)),
        )
      where
        some_same : (a b : Signal) → Some a ≡ Some b → a ≡ b
        some_same a b e = cc

    abbrev ChangesTaken : ReadState → List (List ℕ) → List ValueChange → Type 0
    ChangesTaken s lines changes = (a : ReadState) × TakesLines s lines a × (a.part ≡ Changes) × (a.waits ≡ false) × (a.changes ≡ s.changes ++ map (told_change flat.signals) changes)

    later_is : (last time : ℕ) → nat_le last time ≡ true → (time == last) ≡ false → last < time
    later_is last time le other = grind (arith, nat_tests)

    time_same : (last time : ℕ) → (time == last) ≡ true → time ≡ last
    time_same last time e = grind (arith, nat_tests)

    one_change : (u : ReadState) (c : ValueChange) (changes : List ValueChange) → Telling u → u.time ≡ c.time → IsChangeOf flat c
        → ((v : ReadState) → Telling v → v.waits ≡ false → v.time ≡ c.time → ChangesTaken v (change_lines c.time changes) changes)
        → ChangesTaken u (value_line c.signal c.digits ∷ change_lines c.time changes) (c ∷ changes)
    one_change u c changes w time is others =
        let value = take_value u w c is time in
        let next = with_value value.0 c.digits u in
        let more = others next (record { part = w.part; known = w.known; numbers_are = w.numbers_are }) refl time in (
          more.0,
          (next, value.1, more.1),
          more.2,
          more.3,
          more.4 ∙ (ap (λ (l : List Change). l ++ map (told_change flat.signals) changes) value.2
              ∙ append_assoc u.changes (told_change flat.signals c ∷ []) (map (told_change flat.signals) changes)),
        )

    change_by : (s : ReadState) (c : ValueChange) (changes : List ValueChange) → Telling s → s.waits ≡ false → IsChangeOf flat c → nat_le s.time c.time ≡ true
        → ((v : ReadState) → Telling v → v.waits ≡ false → v.time ≡ c.time → ChangesTaken v (change_lines c.time changes) changes) → (b : Bool) → (c.time == s.time) ≡ b
        → ChangesTaken s ((if b then value_line c.signal c.digits ∷ [] else time_line c.time ∷ value_line c.signal c.digits ∷ []) ++ change_lines c.time changes) (c ∷ changes)
    change_by s c changes w waits is le others true e = one_change s c changes w (sym (time_same s.time c.time e)) is others
    change_by s c changes w waits is le others false e =
        let next = with_time c.time s in
        let more = one_change next c changes (record { part = w.part; known = w.known; numbers_are = w.numbers_are }) refl is others in (
          more.0,
          (
            next,
            in_part Changes s (time_line c.time) next w.part
                (inl (record { time = c.time; is = record { spelled = refl; below = is.time }; later = later_is s.time c.time le e; apart = waits; some = some_known s w c is; next_is = refl })),
            more.1,
          ),
          more.2,
          more.3,
          more.4,
        )

    take_changes : (changes : List ValueChange) (s : ReadState) → Telling s → s.waits ≡ false → AllByRecursion (IsChangeOf flat) changes → times_rise s.time changes ≡ true
        → ChangesTaken s (change_lines s.time changes) changes
    take_changes [] s w waits all times = (s, refl, w.part, waits, sym (append-nil s.changes))
    take_changes (c ∷ changes) s w waits all times =
        let parts = and_parts (nat_le s.time c.time) (times_rise c.time changes) times in
        change_by s c changes w waits all.0 parts.0
        (λ v wv waits_v e. subst (λ (n : ℕ). ChangesTaken v (change_lines n changes) changes) e
        (take_changes changes v wv waits_v all.1 (subst (λ (n : ℕ). times_rise n changes ≡ true) (sym e) parts.1)))
        (c.time == s.time) refl

    -- ---- the whole text

    declared_both : (xs ys : List Declaration) → declared_signals (xs ++ ys) ≡ declared_signals xs ++ declared_signals ys
    declared_both [] ys = refl
    declared_both (Opens name ∷ xs) ys = declared_both xs ys
    declared_both (Declares number name ∷ xs) ys = ap (λ (l : List ℕ). number ∷ l) (declared_both xs ys)
    declared_both (Closes ∷ xs) ys = declared_both xs ys

    -- the declarations inside of the top
    abbrev inside_top : ℕ → List Declaration
    inside_top room = own_signals (children_of flat.nodes 0) ++ inner_instances (instance_of flat.nodes room) (children_of flat.nodes 0)

    top_there : (nodes : List Node) → 0 < length nodes → (top : Node) × (slice_get nodes 0 ≡ Some top) × (top_path nodes ≡ top.path)
    top_there [] h = absurd (omega (arith, h))
    top_there (node ∷ nodes) h = (node, refl, refl)

    -- behind the first line, the declarations are taken
    record Ready (s : ReadState) : Type 0 where
      part : s.part ≡ Ended
      bare : IsBare s
      known : AllByRecursion Matches s.known
      numbers_are : map (λ k. k.number) s.known ≡ traced_signals flat

    abbrev begun_top : ReadState
    begun_top = goes_to Top begun

    module _ (room : ℕ) (deep : room ≤ most_inner) (order : declared_signals (instance_of flat.nodes (suc room) (top_path flat.nodes) 0) ≡ traced_signals flat) where
      top : (top : Node) × (slice_get flat.nodes 0 ≡ Some top) × (top_path flat.nodes ≡ top.path)
      top = top_there flat.nodes t.tree.root

      inside_order : declared_signals (inside_top room) ≡ traced_signals flat
      inside_order = sym (append-nil (declared_signals (inside_top room))) ∙ (sym (declared_both (inside_top room) (Closes ∷ [])) ∙ order)

      few_inside : 1 + begins (inside_top room) ≤ 65536
      few_inside =
          let h = few_begin flat.nodes (length flat.signals) t.tree t.spots (suc room) (top_path flat.nodes) in
          let e = begins_both (inside_top room) (Closes ∷ []) in let few = t.limits.nodes in omega (arith, h, e, few)

      start : ReadState
      start = with_top (top_path flat.nodes) begun_top

      take_declarations : (a : ReadState) × TakesLines begun_top (map (declaration_line flat.signals) (instance_of flat.nodes (suc room) (top_path flat.nodes) 0)) a × Ready a
      take_declarations =
          let walked = walk_top flat t.names t.paths room top.0 deep top.1 in
          let from = with_top (top_path flat.nodes) begun_top in
          let taken = take_walks (inside_top room) from walked.0 refl (record { told = refl; time = refl; waits = refl; changes = refl }) tt
          (subst (λ (p : List ℕ). Walks flat (record { scope = record { path = p; uses = λ n. false }; outer = []; fresh = true }) (inside_top room) walked.0) (sym top.2) walked.1)
          (subst (λ (l : List ℕ). Rises 0 l) (sym inside_order) (range_rises (λ signal. not (is_word flat.nodes signal)) 0 (length flat.signals))) few_inside in
          let next = goes_to Ended taken.0 in
          let none : taken.0.outer ≡ [] = ap (λ (p : Place). p.outer) taken.2 ∙ walked.3 in (
            next,
            (
              from,
              record { name = top_path flat.nodes; is = record { spelled = refl; named = t.top }; next_is = refl },
              subst (λ (l : List (List ℕ)). TakesLines from l next) (sym (map-append (declaration_line flat.signals) (inside_top room) (Closes ∷ [])))
                  (taken_then from (map (declaration_line flat.signals) (inside_top room)) (declaration_line flat.signals Closes ∷ []) taken.0 next taken.1
                  (next, in_part Inside taken.0 (declaration_line flat.signals Closes) next taken.3.part (inr (inr (record { is = refl; ends = inl (none, refl) }))), refl)),
            ),
            record {
              part = refl;
              bare = record { told = taken.3.bare.told; time = taken.3.bare.time; waits = taken.3.bare.waits; changes = taken.3.bare.changes };
              known = taken.3.known;
              numbers_are = taken.3.numbers_are ∙ inside_order;
            },
          )

    -- the lines of opening values are taken
    take_opening_lines : (s : ReadState) → Ready s → (a : ReadState) × TakesLines s (opening_lines flat) a × Telling a × (a.waits ≡ false) × (a.time ≡ 0) × (a.changes ≡ [])
    take_opening_lines s r =
        let a = goes_to Start s in let b = goes_to Dump a in let c = goes_to Opening b in
        let o = take_openings s.known [] c refl refl r.bare.told r.known in (
          o.0,
          (
            a,
            in_part Ended s (line (codes "$enddefinitions $end")) a r.part (record { is = refl; next_is = refl }),
            (
              b,
              record { is = refl; next_is = refl },
              (
                c,
                record { is = refl; next_is = refl },
                subst (λ (l : List ℕ). TakesLines c (map (opening_line flat.signals) l ++ line (codes "$end") ∷ []) o.0) r.numbers_are o.1,
              ),
            ),
          ),
          record {
            part = o.2.part;
            known = subst (λ (l : List Known). AllByRecursion Matches l) (sym o.2.known) r.known;
            numbers_are = ap (λ (l : List Known). map (λ k. k.number) l) o.2.known ∙ r.numbers_are;
          },
          o.2.waits ∙ r.bare.waits,
          o.2.time ∙ r.bare.time,
          o.2.changes ∙ r.bare.changes,
        )

    first_line : (o : Option (List ℕ)) → spelled_step flat.step_fs ≡ o → Takes begun (step_line (spelled_step flat.step_fs)) begun_top
    first_line None e = absurd (t.step e)
    first_line (Some words) e = record { step = flat.step_fs; is = record { words = words; known = e; spelled = ap step_line e }; next_is = refl }

    -- all lines are taken, and the text may end there
    pub keeps : (changes : List ValueChange) → AreChangesOf flat changes → (a : ReadState) × TakesLines begun (vcd flat changes) a × IsOver a × (map (told_change flat.signals) changes ≡ a.changes)
    keeps changes fit =
        let declared = take_declarations most_inner (omega arith) t.order in
        let opened_all = take_opening_lines declared.0 declared.2 in
        let told = take_changes changes opened_all.0 opened_all.2 opened_all.3 fit.each (subst (λ (n : ℕ). times_rise n changes ≡ true) (sym opened_all.4) fit.times) in (
          told.0,
          taken_then begun (begin_lines flat) (change_lines 0 changes) opened_all.0 told.0 (
            begun_top,
            first_line (spelled_step flat.step_fs) refl,
            taken_then begun_top (map (declaration_line flat.signals) (declarations flat.nodes)) (opening_lines flat) declared.0 opened_all.0 declared.1 opened_all.1,
          )
              (subst (λ (n : ℕ). TakesLines opened_all.0 (change_lines n changes) told.0) opened_all.4 told.1),
          record { part = told.2; apart = told.3 },
          sym (told.4 ∙ ap (λ (l : List Change). l ++ map (told_change flat.signals) changes) opened_all.5),
        )

-- the bytes of the text tell these changes
pub reads_back : Reads_back
reads_back flat changes t fit =
    let kept = keeps flat t changes fit in
    let split = bodies begun (vcd flat changes) kept.0 kept.1 in
    record {
      lines = split.0;
      split = record { each = split.1; last = one_line [] refl; split = ap joined split.2 ∙ sym (append-nil (joined (map line split.0))) };
      last = kept.0;
      taken = subst (λ (l : List (List ℕ)). TakesLines begun l kept.0) split.2 kept.1;
      over = kept.2;
      told = kept.3;
    }

-- no text of a design goes on with a line that is refused
pub no_text_goes_on : No_text_goes_on
no_text_goes_on text lines open_line number split b begins =
    let kept = keeps begins.0.flat begins.0.traceable begins.0.changes begins.0.fit in
    let cut = taken_cut begun (map line (take number lines)) begins.1 kept.0 (subst (λ (l : List (List ℕ)). TakesLines begun l kept.0) begins.2 kept.1) in b.broken cut.0 cut.1

-- a text that is refused where it ends is that of no design
pub no_text_ends : No_text_ends
no_text_ends text lines open_line number split e trace is =
    e.unended (map (told_change trace.flat.signals) trace.changes)
    (subst (λ (l : List ℕ). IsRead l (map (told_change trace.flat.signals) trace.changes)) (sym is) (reads_back trace.flat trace.changes trace.traceable trace.fit))
