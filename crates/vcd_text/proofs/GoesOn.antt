-- What a reader has taken can go on to a whole text that keeps the rules.
use Rattle.std.specs.Prelude.{◌≡◌, ◌<◌, ◌≤◌, ◌+◌, ℕ, zero, suc, Bool, true, false, List, [], ◌∷◌, ◌++◌, codes, length, replicate, Option, None, Some, slice_get, refl}
use Rattle.std.specs.List.{list_all}
use Rattle.std.proofs.Common.{ap, sym, subst, ◌∙◌, arith, length-append, inl, inr}
use Rattle.std.proofs.lemmas.Bool.{true≢false}
use Rattle.four_value.specs.Vector.{digit_byte}
use Rattle.vcd_text.specs.Spelling.{is_digit, line, time_line, value_line}
use Rattle.vcd_text.specs.Text.{scope_line, step_line}
use Rattle.vcd_text.specs.Readable.{Fronts_go_on}
use Rattle.vcd_text.specs.Rules.{OpenScope, ReadState, Ends, IsOver, TakesIn, TakesLines, begun, goes_to, with_end, with_instance, with_opening, with_signal, with_time, with_top, with_value}
use Rattle.vcd_text.specs.declared.reader.Known.{Known}
use Rattle.vcd_text.specs.declared.reader.Part.{Part}
use Rattle.vcd_text.specs.declared.reader.Part.TheVariants.{Step, Top, Inside, Ended, Start, Dump, Opening, Changes}

-- a time waits for a value only where there is a signal
abbrev Sane : ReadState → Type 0
Sane s = s.waits ≡ true → 0 < length s.known

takes_sane : (p : Part) (s : ReadState) (text : List ℕ) (a : ReadState) → TakesIn p s text a → Sane s → Sane a
takes_sane p s text a t sane = by p t
  where
    same : (b : ReadState) → a ≡ b → Sane b → Sane a
    same b e h = subst Sane (sym e) h

    longer : (k : Known) → s.waits ≡ true → 0 < length (s.known ++ k ∷ [])
    longer k w = omega (arith, length-append s.known (k ∷ []))

    ends : Ends s a → Sane a
    ends (inl (none, e)) = same (goes_to Ended s) e sane
    ends (inr (outer, scope, is, e)) = same (with_end outer scope s) e sane

    by : (p : Part) → TakesIn p s text a → Sane a
    by Step t = same (goes_to Top s) t.next_is sane
    by Top t = same (with_top t.name s) t.next_is sane
    by Inside (inl t) = same (with_instance t.name s) t.next_is sane
    by Inside (inr (inl t)) = same (with_signal t.number t.name t.start t.width s) t.next_is (longer _)
    by Inside (inr (inr t)) = ends t.ends
    by Ended t = same (goes_to Start s) t.next_is sane
    by Start t = same (goes_to Dump s) t.next_is sane
    by Dump t = same (goes_to Opening s) t.next_is sane
    by Opening (inl t) = same (with_opening s) t.next_is sane
    by Opening (inr t) = same (goes_to Changes s) t.next_is sane
    by Changes (inl t) = same (with_time t.time s) t.next_is (λ w. t.some)
    by Changes (inr t) = same (with_value t.signal t.digits s) t.next_is (λ w. absurd (true≢false (sym w)))

taken_sane : (s : ReadState) (texts : List (List ℕ)) (a : ReadState) → TakesLines s texts a → Sane s → Sane a
taken_sane s [] a t sane = subst Sane (sym t) sane
taken_sane s (text ∷ texts) a (mid, t, more) sane = taken_sane mid texts a more (takes_sane s.part s text mid t sane)

-- ---- to an end

abbrev CanEnd : ReadState → Type 0
CanEnd s = (more : List (List ℕ)) × (a : ReadState) × TakesLines s more a × IsOver a

by_line : (p : Part) (s mid : ReadState) (text : List ℕ) → s.part ≡ p → TakesIn p s text mid → CanEnd mid → CanEnd s
by_line p s mid text e t (more, a, taken, over) = (text ∷ more, a, (mid, subst (λ (q : Part). TakesIn q s text mid) (sym e) t, taken), over)

-- a change with zeros
zeros : (n : ℕ) → list_all is_digit (replicate n 48) ≡ true
zeros zero = refl
zeros (suc n) = zeros n

many : (n : ℕ) → length {A = ℕ} (replicate n 48) ≡ n
many zero = refl
many (suc n) = ap suc (many n)

zero_change : (s : ReadState) (known : List Known) → s.part ≡ Changes → s.known ≡ known → 0 < length known → CanEnd s
zero_change s [] part e some = absurd (omega (arith, some))
zero_change s (k ∷ known) part e some =
    let next = with_value k (replicate k.width 48) s in
    by_line Changes s next (value_line k.number (replicate k.width 48)) part
    (inr (record {
      place = 0;
      signal = k;
      there = ap (λ (l : List Known). slice_get l 0) e;
      digits = replicate k.width 48;
      is = record { spelled = refl; digits_are = zeros k.width };
      width = many k.width;
      next_is = refl;
    }))
    ([], next, refl, record { part = part; apart = refl })

changes_end : (s : ReadState) (waits : Bool) → s.part ≡ Changes → s.waits ≡ waits → Sane s → CanEnd s
changes_end s true part e sane = zero_change s s.known part refl (sane e)
changes_end s false part e sane = ([], s, refl, record { part = part; apart = e })

last_opening : (s : ReadState) → s.part ≡ Opening → Sane s → length s.known ≤ s.told → CanEnd s
last_opening s part sane all =
    by_line Opening s (goes_to Changes s) (line (codes "$end")) part (inr (record { all = all; is = refl; next_is = refl })) (changes_end (goes_to Changes s) s.waits refl refl sane)

past : {X : Type 0} (xs : List X) (i : ℕ) → slice_get xs i ≡ None → length xs ≤ i
past [] i e = omega arith
past (x ∷ xs) zero e = absurd (cc)
past (x ∷ xs) (suc i) e = let h = past xs i e in omega (arith, h)

opening_by : (s : ReadState) → s.part ≡ Opening → Sane s → (CanEnd (with_opening s)) → (o : Option Known) → slice_get s.known s.told ≡ o → CanEnd s
opening_by s part sane more None e = last_opening s part sane (past s.known s.told e)
opening_by s part sane more (Some k) e =
    by_line Opening s (with_opening s) (value_line k.number (replicate k.width (digit_byte k.start))) part (inl (record { signal = k; there = e; is = refl; next_is = refl })) more

openings_end : (fuel : ℕ) (s : ReadState) → s.part ≡ Opening → Sane s → length s.known ≤ s.told + fuel → CanEnd s
openings_end zero s part sane all = last_opening s part sane (omega (arith, all))
openings_end (suc fuel) s part sane all =
    opening_by s part sane (openings_end fuel (with_opening s) part sane (omega (arith, all))) (slice_get s.known s.told) refl

dump_end : (s : ReadState) → s.part ≡ Dump → Sane s → CanEnd s
dump_end s part sane =
    by_line Dump s (goes_to Opening s) (line (codes "$dumpvars")) part (record { is = refl; next_is = refl })
    (openings_end (length s.known) (goes_to Opening s) refl sane (omega arith))

start_end : (s : ReadState) → s.part ≡ Start → Sane s → CanEnd s
start_end s part sane = by_line Start s (goes_to Dump s) (time_line 0) part (record { is = refl; next_is = refl }) (dump_end (goes_to Dump s) refl sane)

ended_end : (s : ReadState) → s.part ≡ Ended → Sane s → CanEnd s
ended_end s part sane =
    by_line Ended s (goes_to Start s) (line (codes "$enddefinitions $end")) part (record { is = refl; next_is = refl }) (start_end (goes_to Start s) refl sane)

-- a list that isn't empty has a last element
last_of : {X : Type 0} (x : X) (xs : List X) → (front : List X) × (last : X) × (x ∷ xs ≡ front ++ last ∷ [])
last_of x [] = ([], x, refl)
last_of {X} x (y ∷ xs) = let more = last_of y xs in (x ∷ more.0, more.1, ap (λ (l : List X). x ∷ l) more.2)

inside_by : (n : ℕ) (s : ReadState) → s.part ≡ Inside → Sane s → ((t : ReadState) → t.part ≡ Inside → Sane t → length t.outer ≤ n → CanEnd t) → (outer : List OpenScope) → s.outer ≡ outer
    → length outer ≤ suc n → CanEnd s
inside_by n s part sane others [] e few =
    by_line Inside s (goes_to Ended s) (line (codes "$upscope $end")) part (inr (inr (record { is = refl; ends = inl (e, refl) }))) (ended_end (goes_to Ended s) refl sane)
inside_by n s part sane others (x ∷ outer) e few =
    let split = last_of x outer in
    let next = with_end split.0 split.1 s in
    let size = ap length split.2 ∙ length-append split.0 (split.1 ∷ []) in
    by_line Inside s next (line (codes "$upscope $end")) part (inr (inr (record { is = refl; ends = inr (split.0, split.1, e ∙ split.2, refl) })))
    (others next part sane (omega (arith, size, few)))

none_left : (xs : List OpenScope) → length xs ≤ 0 → xs ≡ []
none_left [] l = refl
none_left (x ∷ xs) l = absurd (omega (arith, l))

inside_end : (n : ℕ) (s : ReadState) → s.part ≡ Inside → Sane s → length s.outer ≤ n → CanEnd s
inside_end zero s part sane few =
    by_line Inside s (goes_to Ended s) (line (codes "$upscope $end")) part (inr (inr (record { is = refl; ends = inl (none_left s.outer few, refl) }))) (ended_end (goes_to Ended s) refl sane)
inside_end (suc n) s part sane few = inside_by n s part sane (inside_end n) s.outer refl few

top_end : (s : ReadState) → s.part ≡ Top → Sane s → CanEnd s
top_end s part sane =
    by_line Top s (with_top (codes "top") s) (scope_line (codes "top")) part (record { name = codes "top"; is = record { spelled = refl; named = refl }; next_is = refl })
    (inside_end (length s.outer) (with_top (codes "top") s) refl sane (omega arith))

step_end : (s : ReadState) → s.part ≡ Step → Sane s → CanEnd s
step_end s part sane =
    by_line Step s (goes_to Top s) (step_line (Some (codes "1 ns"))) part (record { step = 1000000; is = record { words = codes "1 ns"; known = refl; spelled = refl }; next_is = refl })
    (top_end (goes_to Top s) refl sane)

can_end : (p : Part) (s : ReadState) → s.part ≡ p → Sane s → CanEnd s
can_end Step s part sane = step_end s part sane
can_end Top s part sane = top_end s part sane
can_end Inside s part sane = inside_end (length s.outer) s part sane (omega arith)
can_end Ended s part sane = ended_end s part sane
can_end Start s part sane = start_end s part sane
can_end Dump s part sane = dump_end s part sane
can_end Opening s part sane = openings_end (length s.known) s part sane (omega arith)
can_end Changes s part sane = changes_end s s.waits part refl sane

pub fronts_go_on : Fronts_go_on
fronts_go_on texts s taken = can_end s.part s refl (taken_sane begun texts s taken (λ w. absurd (true≢false (sym w))))
