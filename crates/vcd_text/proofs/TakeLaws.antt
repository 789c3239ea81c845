-- Which lines are taken, and that no others may stand where these are refused.
use Rattle.std.specs.Prelude.{◌≡◌, ◌<◌, ◌≤◌, ◌&&◌, ℕ, zero, suc, not, nat_lt, nat_le, Bool, true, false, List, [], ◌∷◌, ◌++◌, ◌+◌, length, Option, None, Some, Result, Ok, Err, IfOk, IsErrOf, MatchOption, slice_get, refl}
use Rattle.std.proofs.Common.{ap, sym, subst, ◌∙◌, arith, inl, inr}
use Rattle.std.proofs.lemmas.Bool.{and_parts, true≢false}
use Rattle.std.proofs.lemmas.Bool.Decides.{nat_tests}
use Rattle.std.proofs.lemmas.Option.{slice_get_past}
use Rattle.four_value.specs.declared.Digit.{Digit}
use Rattle.name_table.specs.Places.{first_place, noted}
use Rattle.port_io.specs.declared.ports.NoMemory.{NoMemory}
use Rattle.gpi.specs.Limits.{most_elements}
use Rattle.vcd_text.specs.Hierarchy.{most_inner}
use Rattle.vcd_text.specs.Spelling.{code, line, value_front}
use Rattle.vcd_text.specs.Forms.{IsPair, IsScope, IsStep, IsTime, IsVar}
use Rattle.vcd_text.specs.Rules.{ReadState, TakesIn, TakesChange, TakesDeclaration, TakesEnd, TakesNext, TakesOpening, TakesStep, TakesTop, goes_to, with_instance, with_signal, with_time}
use Rattle.vcd_text.specs.Reader.{Answers, IsChangeAt, IsCodeAt, IsKept, may_begin, may_have, may_tell, next_opening, past_opening, with_change}
use Rattle.vcd_text.specs.declared.change.Change.{Change}
use Rattle.vcd_text.specs.declared.change.VcdFault.TheVariants.{BadLine}
use Rattle.vcd_text.specs.declared.reader.Known.{Known}
use Rattle.vcd_text.specs.declared.reader.Part.{Part}
use Rattle.vcd_text.specs.declared.reader.Part.TheVariants.{Top, Changes}
use Rattle.vcd_text.proofs.OneList.{code_once}
use Rattle.vcd_text.proofs.FormLaws.{NoVar, scope_once, var_once, times_once, pair_once, pair_no_time, scope_no_var, scope_no_end, var_no_end}
use Rattle.vcd_text.proofs.Once.{numbered_more, numbered_same, pair_in}
use Rattle.vcd_text.proofs.StateLaws.{codes_more, codes_same}

-- ---- parts

-- what is so of lines of the part that comes next is so of the next line
pub in_part : (p : Part) (s : ReadState) (text : List ℕ) (took : Bool) (after : ReadState) → s.part ≡ p → Answers (TakesIn p) s text took after → Answers (λ before. TakesIn before.part before) s text took after
in_part p s text true after e h = subst (λ (q : Part). TakesIn q s text after) (sym e) h
in_part p s text false after e h = λ other t. h other (subst (λ (q : Part). TakesIn q s text other) e t)

both_true : (a b : Bool) → (a && b) ≡ true → (a ≡ true) × (b ≡ true)
both_true a b h = and_parts a b h

both : (a b : Bool) → a ≡ true → b ≡ true → (a && b) ≡ true
both a b p q = ap (λ (x : Bool). x && b) p ∙ q

-- ---- the step, the top and single words

pub step_answers : (s : ReadState) (text : List ℕ) → ((step : ℕ) × IsStep text step → ⊥) → (other : ReadState) → TakesStep s text other → ⊥
step_answers s text none other t = none (t.step, t.is)

pub step_taken : (s after : ReadState) (text : List ℕ) → (step : ℕ) × IsStep text step → after ≡ goes_to Top s → TakesStep s text after
step_taken s after text found e = record { step = found.0; is = found.1; next_is = e }

pub top_refused : (s : ReadState) (text : List ℕ) → ((name : List ℕ) → IsScope text name → ⊥) → (other : ReadState) → TakesTop s text other → ⊥
top_refused s text none other t = none t.name t.is

-- ---- instances

pub instance_refused : (s : ReadState) (text name : List ℕ) (may : Bool) → IsScope text name → may ≡ may_begin s name → may ≡ false → (other : ReadState) → TakesDeclaration s text other → ⊥
instance_refused s text name may is e none other (inl t) =
    true≢false (sym (both (not (s.scope.uses name)) (nat_lt (length s.outer) most_inner && nat_lt s.nodes most_elements) unused room) ∙ (sym e ∙ none))
  where
    unused : not (s.scope.uses name) ≡ true
    unused = ap (λ (n : List ℕ). not (s.scope.uses n)) (scope_once text name t.name is t.is) ∙ ap not t.unused

    inner : nat_lt (length s.outer) most_inner ≡ true
    inner = let h = t.inner in grind (arith, nat_tests)

    few : nat_lt s.nodes most_elements ≡ true
    few = let h = t.few in grind (arith, nat_tests)

    room : (nat_lt (length s.outer) most_inner && nat_lt s.nodes most_elements) ≡ true
    room = both (nat_lt (length s.outer) most_inner) (nat_lt s.nodes most_elements) inner few
instance_refused s text name may is e none other (inr (inl t)) = scope_no_var text name is t.number t.name t.start t.width t.is
instance_refused s text name may is e none other (inr (inr t)) = scope_no_end text name is t.is

not_true : (b : Bool) → not b ≡ true → b ≡ false
not_true true h = absurd (true≢false (sym h))
not_true false h = refl

below_of : (m n : ℕ) → nat_lt m n ≡ true → m < n
below_of m n h = grind (arith, nat_tests)

most_of : (m n : ℕ) → nat_le m n ≡ true → m ≤ n
most_of m n h = grind (arith, nat_tests)

pub may_nodes : (s : ReadState) (name : List ℕ) (may : Bool) → may ≡ may_begin s name → may ≡ true → s.nodes < most_elements
may_nodes s name may e go =
    let p = both_true (not (s.scope.uses name)) (nat_lt (length s.outer) most_inner && nat_lt s.nodes most_elements) (sym e ∙ go) in
    below_of s.nodes most_elements (both_true (nat_lt (length s.outer) most_inner) (nat_lt s.nodes most_elements) p.1).1

pub instance_taken : (s after : ReadState) (text name : List ℕ) (may : Bool) → IsScope text name → may ≡ may_begin s name → may ≡ true → after ≡ with_instance name s → TakesDeclaration s text after
instance_taken s after text name may is e go next =
    let p = both_true (not (s.scope.uses name)) (nat_lt (length s.outer) most_inner && nat_lt s.nodes most_elements) (sym e ∙ go) in
    let q = both_true (nat_lt (length s.outer) most_inner) (nat_lt s.nodes most_elements) p.1 in
    inl (record {
      name = name;
      is = is;
      unused = not_true (s.scope.uses name) p.0;
      inner = below_of (length s.outer) most_inner q.0;
      few = below_of s.nodes most_elements q.1;
      next_is = next;
    })

-- ---- signals

pub signal_refused : (s : ReadState) (text : List ℕ) (number : ℕ) (name : List ℕ) (start : Digit) (width : ℕ) (may : Bool) → IsVar text number name start width
    → may ≡ may_have s name number → may ≡ false → (other : ReadState) → TakesDeclaration s text other → ⊥
signal_refused s text number name start width may is e none other (inl t) = scope_no_var text t.name t.is number name start width is
signal_refused s text number name start width may is e none other (inr (inl t)) =
    true≢false (sym (both s.fresh (nat_le s.free number && not (s.scope.uses name)) t.first (both (nat_le s.free number) (not (s.scope.uses name)) rises unused)) ∙ (sym e ∙ none))
  where
    rises : nat_le s.free number ≡ true
    rises = let h = t.rises in let same = (var_once text number name start width t.number t.name t.start t.width is t.is).number_is in grind (arith, nat_tests)

    unused : not (s.scope.uses name) ≡ true
    unused = ap (λ (n : List ℕ). not (s.scope.uses n)) (var_once text number name start width t.number t.name t.start t.width is t.is).name_is ∙ ap not t.unused
signal_refused s text number name start width may is e none other (inr (inr t)) = var_no_end text number name start width is t.is

pub may_rise : (s : ReadState) (name : List ℕ) (number : ℕ) (may : Bool) → may ≡ may_have s name number → may ≡ true → s.free ≤ number
may_rise s name number may e go =
    let p = both_true s.fresh (nat_le s.free number && not (s.scope.uses name)) (sym e ∙ go) in
    most_of s.free number (both_true (nat_le s.free number) (not (s.scope.uses name)) p.1).0

pub signal_taken : (s after : ReadState) (text : List ℕ) (number : ℕ) (name : List ℕ) (start : Digit) (width : ℕ) (may : Bool) → IsVar text number name start width
    → may ≡ may_have s name number → may ≡ true → after ≡ with_signal number name start width s → TakesDeclaration s text after
signal_taken s after text number name start width may is e go next =
    let p = both_true s.fresh (nat_le s.free number && not (s.scope.uses name)) (sym e ∙ go) in
    let q = both_true (nat_le s.free number) (not (s.scope.uses name)) p.1 in
    inr (inl (record {
      number = number;
      name = name;
      start = start;
      width = width;
      is = is;
      unused = not_true (s.scope.uses name) q.1;
      first = p.0;
      rises = most_of s.free number q.0;
      next_is = next;
    }))

-- ---- ends

pub end_answers : (s : ReadState) (text : List ℕ) (took : Bool) (after : ReadState) → ((name : List ℕ) → IsScope text name → ⊥) → NoVar text
    → Answers TakesEnd s text took after → Answers TakesDeclaration s text took after
end_answers s text true after no_scope no_var h = inr (inr h)
end_answers s text false after no_scope no_var h = by
  where
    by : (other : ReadState) → TakesDeclaration s text other → ⊥
    by other (inl t) = no_scope t.name t.is
    by other (inr (inl t)) = no_var t.number t.name t.start t.width t.is
    by other (inr (inr t)) = h other t

-- ---- opening values

past_none : {X : Type 0} (xs : List X) (i : ℕ) → slice_get xs i ≡ None → length xs ≤ i
past_none [] i e = omega arith
past_none (x ∷ xs) zero e = absurd (cc)
past_none (x ∷ xs) (suc i) e = let h = past_none xs i e in omega (arith, h)

opening_by : (s : ReadState) (text : List ℕ) (o : Option Known) → slice_get s.known s.told ≡ o → text ≡ next_opening o → TakesOpening s text (past_opening o s)
opening_by s text None e is = inr (record { all = past_none s.known s.told e; is = is; next_is = refl })
opening_by s text (Some signal) e is = inl (record { signal = signal; there = e; is = is; next_is = refl })

pub opening_taken : (s after : ReadState) (text : List ℕ) → text ≡ next_opening (slice_get s.known s.told) → after ≡ past_opening (slice_get s.known s.told) s → TakesOpening s text after
opening_taken s after text is e = subst (λ (z : ReadState). TakesOpening s text z) (sym e) (opening_by s text (slice_get s.known s.told) refl is)

pub opening_only : (s : ReadState) (text : List ℕ) (other : ReadState) → TakesOpening s text other → text ≡ next_opening (slice_get s.known s.told)
opening_only s text other (inl t) = t.is ∙ ap next_opening (sym t.there)
opening_only s text other (inr t) = t.is ∙ ap next_opening (sym (slice_get_past s.known s.told t.all))

pub past_last : (s : ReadState) → length s.known ≤ s.told → goes_to Changes s ≡ past_opening (slice_get s.known s.told) s
past_last s h = ap (λ (o : Option Known). past_opening o s) (sym (slice_get_past s.known s.told h))

-- ---- times

pub time_refused : (s : ReadState) (text : List ℕ) (time : ℕ) (may : Bool) → IsTime text time → may ≡ may_tell s time → may ≡ false → (other : ReadState) → TakesNext s text other → ⊥
time_refused s text time may is e none other (inl t) =
    true≢false (sym (both (not s.waits) (nat_lt s.time time && nat_lt 0 (length s.known)) (ap not t.apart) (both (nat_lt s.time time) (nat_lt 0 (length s.known)) later some)) ∙ (sym e ∙ none))
  where
    later : nat_lt s.time time ≡ true
    later = let h = t.later in let same = times_once text time t.time is t.is in grind (arith, nat_tests)

    some : nat_lt 0 (length s.known) ≡ true
    some = let h = t.some in grind (arith, nat_tests)
time_refused s text time may is e none other (inr t) = pair_no_time text t.digits (code t.signal.number) time (pair_in text t.signal.number t.digits t.is) is

pub time_taken : (s after : ReadState) (text : List ℕ) (time : ℕ) (may : Bool) → IsTime text time → may ≡ may_tell s time → may ≡ true → after ≡ with_time time s → TakesNext s text after
time_taken s after text time may is e go next =
    let p = both_true (not s.waits) (nat_lt s.time time && nat_lt 0 (length s.known)) (sym e ∙ go) in
    let q = both_true (nat_lt s.time time) (nat_lt 0 (length s.known)) p.1 in
    inl (record { time = time; is = is; later = below_of s.time time q.0; apart = not_true s.waits p.0; some = below_of 0 (length s.known) q.1; next_is = next })

-- ---- changes

module _ (s : ReadState) (text : List ℕ) (no_time : (time : ℕ) → IsTime text time → ⊥) where
  only_changes : ((other : ReadState) → TakesChange s text other → ⊥) → (other : ReadState) → TakesNext s text other → ⊥
  only_changes none other (inl t) = no_time t.time t.is
  only_changes none other (inr t) = none other t

  pub no_pair_refused : ((digits code : List ℕ) → IsPair text digits code → ⊥) → (other : ReadState) → TakesNext s text other → ⊥
  no_pair_refused none other n = only_changes (λ z t. none t.digits (code t.signal.number) (pair_in text t.signal.number t.digits t.is)) other n

  module _ (digits own : List ℕ) (pair : IsPair text digits own) where
    same_pair : (other : ReadState) (t : TakesChange s text other) → (digits ≡ t.digits) × (own ≡ code t.signal.number)
    same_pair other t = pair_once text digits own t.digits (code t.signal.number) pair (pair_in text t.signal.number t.digits t.is)

    pub no_code_refused : (names : List (List ℕ × ℕ)) (free : ℕ) → IsKept names s.known free → first_place names own ≡ None → (other : ReadState) → TakesNext s text other → ⊥
    no_code_refused names free kept none other n =
        only_changes (λ z t. nowhere (kept.coded own) t.place t.signal t.there (same_pair z t).1) other n
      where
        nowhere : MatchOption (first_place names own) ((place : ℕ) (signal : Known) → slice_get s.known place ≡ Some signal → own ≡ code signal.number → ⊥)
            (λ place. (signal : Known) × (slice_get s.known place ≡ Some signal) × (own ≡ code signal.number))
            → (place : ℕ) (signal : Known) → slice_get s.known place ≡ Some signal → own ≡ code signal.number → ⊥
        nowhere h = subst (λ (o : Option ℕ). MatchOption o ((place : ℕ) (signal : Known) → slice_get s.known place ≡ Some signal → own ≡ code signal.number → ⊥)
            (λ place. (signal : Known) × (slice_get s.known place ≡ Some signal) × (own ≡ code signal.number))) none h

    module _ (names : List (List ℕ × ℕ)) (free : ℕ) (kept : IsKept names s.known free) (place : ℕ) (at : IsCodeAt s.known place own) where
      same_signal : (other : ReadState) (t : TakesChange s text other) → at.0 ≡ t.signal
      same_signal other t = kept.numbered.apart place t.place at.0 t.signal at.1 t.there (code_once at.0.number t.signal.number (sym at.2 ∙ (same_pair other t).1))

      change_there : (found : Option Change) → IsChangeAt s (slice_get s.known place) digits found → IsChangeAt s (Some at.0) digits found
      change_there found h = subst (λ (o : Option Known). IsChangeAt s o digits found) at.1 h

      pub no_width_refused : IsChangeAt s (slice_get s.known place) digits None → (other : ReadState) → TakesNext s text other → ⊥
      no_width_refused h other n =
          only_changes (λ z t. change_there None h (ap length (same_pair z t).0 ∙ (t.width ∙ ap (λ (k : Known). k.width) (sym (same_signal z t))))) other n

      pub change_taken : (change : Change) (after : ReadState) → IsChangeAt s (slice_get s.known place) digits (Some change) → after ≡ with_change change s → TakesNext s text after
      change_taken change after h next =
          let c = change_there (Some change) h in
          inr (record {
            place = place;
            signal = at.0;
            there = at.1;
            digits = digits;
            is = record { spelled = pair.is ∙ ap (λ (l : List ℕ). line (value_front digits ++ l)) at.2; digits_are = pair.digits_are };
            width = c.0;
            next_is = next ∙ ap (λ (z : Change). with_change z s) c.1;
          })

-- the place of a code
pub code_there : (names : List (List ℕ × ℕ)) (known : List Known) (free : ℕ) (own : List ℕ) (place : ℕ) → IsKept names known free → first_place names own ≡ Some place → IsCodeAt known place own
code_there names known free own place kept e =
    subst (λ (o : Option ℕ). MatchOption o ((place : ℕ) (signal : Known) → slice_get known place ≡ Some signal → own ≡ code signal.number → ⊥)
    (λ place. (signal : Known) × (slice_get known place ≡ Some signal) × (own ≡ code signal.number))) e (kept.coded own)

-- ---- what is kept

pub kept_same : (names names' : List (List ℕ × ℕ)) (known known' : List Known) (free free' : ℕ) → (known' ≡ known) × (names' ≡ names) × (free' ≡ free) → IsKept names known free → IsKept names' known' free'
kept_same names names' known known' free free' e k =
    record { coded = codes_same names names' known known' e.0 e.1 k.coded; numbered = numbered_same known known' free free' e.0 e.2 k.numbered }

-- one signal more
pub kept_more : (names names' : List (List ℕ × ℕ)) (known known' : List Known) (free number : ℕ) (text : List ℕ) (place : ℕ) (signal : Known) → known' ≡ known ++ signal ∷ []
    → signal.number ≡ number → text ≡ code number → place ≡ length known → ((n : List ℕ) → first_place names' n ≡ noted text place (first_place names) n) → free ≤ number
    → IsKept names known free → IsKept names' known' (number + 1)
kept_more names names' known known' free number text place signal k s t p n rises kept =
    subst (λ (m : ℕ). IsKept names' known' (m + 1)) s (subst (λ (l : List Known). IsKept names' l (signal.number + 1)) (sym k) (record {
      coded = codes_more names names' known signal kept.coded
          (λ other. n other ∙ (ap (λ (l : List ℕ). noted l place (first_place names) other) (t ∙ ap code (sym s)) ∙ ap (λ (m : ℕ). noted (code signal.number) m (first_place names) other) p));
      numbered = numbered_more known free signal (subst (λ (m : ℕ). free ≤ m) (sym s) rises) kept.numbered;
    }))

-- what is so of a part is so of the next line, where memory suffices
pub in_part_ok : (p : Part) (s : ReadState) (text : List ℕ) (r : Result Bool NoMemory) (after : ReadState) → s.part ≡ p → IfOk r (λ took. Answers (TakesIn p) s text took after)
    → IfOk r (λ took. Answers (λ before. TakesIn before.part before) s text took after)
in_part_ok p s text (Ok took) after e h = in_part p s text took after e h
in_part_ok p s text (Err fault) after e h = tt

pub bad_said : {T : Type 0} (m n : ℕ) → IsErrOf {T = T} (Err (BadLine m)) (BadLine n) → m ≡ n
bad_said m n h = cc
