-- What is known after one more parameter.
use Rattle.std.proofs.Common.{◌≡◌, ℕ, ◌+◌, ◌<◌, ◌≤◌, List, [], ◌∷◌, ◌++◌, length, drop, get_or, Option, Some, None, Bool, true, false, not, is_none, Result, Ok, Err, refl, sym, ap, ◌∙◌, subst, bytes_eq, if◌then◌else◌}
use Rattle.std.proofs.lemmas.List.{drop_all, drop_more}
use Rattle.std.specs.Option.{option_or}
use Rattle.four_value.specs.declared.Digit.{Digit}
use Rattle.v_flat.specs.declared.scope.rule.Broken.{Broken}
use Rattle.v_flat.specs.declared.scope.rule.ElabRule.{ElabRule}
use Rattle.v_flat.specs.declared.scope.rule.ElabRule.TheVariants as rule
use Rattle.v_flat.specs.declared.scope.found.Found.{Found}
use Rattle.v_flat.specs.declared.scope.found.Found.TheVariants.{Sound, Noted, Lost}
use Rattle.v_flat.specs.Scope.Found.{each, both, wants, ended, next}
use Rattle.v_flat.specs.declared.scope.meaning.Bounds.{Bounds}
use Rattle.v_flat.specs.declared.scope.meaning.Meaning.{Meaning}
use Rattle.v_flat.specs.declared.scope.meaning.Meaning.TheVariants as meant
use Rattle.v_flat.specs.Scope.Scope.{Scope, find, means, named, before}
use Rattle.v_flat.proofs.ScopeLemmas.Gathered.{each_wants}
use Rattle.v_flat.specs.Checks.{is_constant, constant_of}
use Rattle.v_flat.specs.Headers.{Parameter}
use Rattle.v_flat.specs.Declarations.{Entries, Given, is_free, given_value, vector_bounds, parameter, parameters}
use Rattle.v_check.specs.Names.Proper.{IsProper, AreProper}
use Rattle.v_header.specs.declared.parameters.Parameter as code
use Rattle.v_header.specs.Parameters.{parameter_in, parameters_in}
use Rattle.v_header.specs.declared.parameter.constants.Constant.{Constant}
use Rattle.v_header.specs.declared.parameter.constants.Constants.{Constants}
use Rattle.v_header.specs.declared.parameter.constants.Value.{Value}
use Rattle.v_header.specs.Parameter.Values.{meaning_of}
use Rattle.v_header.specs.Parameter.Constants.{HasNoConstants, entry_of, entries_of, AreConstants, HaveValues}
use Rattle.v_header.specs.Parameter.Found.{parameter_found, parameter_entry, IsFoundValue, AreKnown}
use Rattle.v_header.proofs.ParameterLemmas.Names.{same_name}

-- ---- a name is free where no parameter has it

by_name : (b : Bool) (x : Meaning) (r o : Option Meaning) → is_constant (Some x) ≡ true → is_constant (option_or r o) ≡ not (is_none r)
    → is_constant (option_or (if b then Some x else r) o) ≡ not (is_none (if b then Some x else r))
by_name true x r o k h = k
by_name false x r o k h = h

pub constants_alone : (cs : List Constant) (o : Option Meaning) (n : List ℕ) → is_constant o ≡ false
    → is_constant (option_or (means (entries_of cs) n) o) ≡ not (is_free n (entries_of cs))
constants_alone [] o n h = h
constants_alone (c ∷ cs) o n h =
    by_name (bytes_eq n c.name.items) (meant.Constant c.value.digits c.value.bounds) (means (entries_of cs) n) o refl (constants_alone cs o n h)

-- ---- one more name

by_first : (b : Bool) (x : Meaning) (r s t : Option Meaning) → r ≡ option_or s t → (if b then Some x else r) ≡ option_or (if b then Some x else s) t
by_first true x r s t h = refl
by_first false x r s t h = h

appended : (es : Entries) (n : List ℕ) (x : Meaning) (q : List ℕ) → means (es ++ ((n, x) ∷ [])) q ≡ option_or (means es q) (if bytes_eq q n then Some x else None)
appended [] n x q = refl
appended (e ∷ es) n x q =
    by_first (bytes_eq q e.0) e.1 (means (es ++ ((n, x) ∷ [])) q) (means es q) (if bytes_eq q n then Some x else None) (appended es n x q)

put_first : (r o : Option Meaning) (x : Meaning) → is_none r ≡ true → option_or (option_or r (Some x)) o ≡ Some x
put_first None o x h = refl
put_first (Some y) o x h = absurd (cc)

left_alone : (r o : Option Meaning) → option_or (option_or r None) o ≡ option_or r o
left_alone None o = refl
left_alone (Some y) o = refl

by_free : (es : Entries) (others : Scope) (n : List ℕ) (x : Meaning) (q : List ℕ) (b : Bool) → bytes_eq q n ≡ b → is_free n es ≡ true
    → option_or (option_or (means es q) (if b then Some x else None)) (others q) ≡ (if b then Some x else option_or (means es q) (others q))
by_free es others n x q true p h =
    put_first (means es q) (others q) x (ap (λ (m : List ℕ). is_none (means es m)) (same_name q n p) ∙ h)
by_free es others n x q false p h = left_alone (means es q) (others q)

grown : (es : Entries) (others : Scope) (n : List ℕ) (x : Meaning) → is_free n es ≡ true
    → before (means (es ++ ((n, x) ∷ []))) others ≡ named n x (before (means es) others)
grown es others n x h = λ i q.
    (ap (λ (z : Option Meaning). option_or z (others q)) (appended es n x q) ∙ by_free es others n x q (bytes_eq q n) refl h) i

by_proper : (b : Bool) (x : Meaning) (r : Option Meaning) → IsProper (Some x) → IsProper r → IsProper (if b then Some x else r)
by_proper true x r h k = h
by_proper false x r h k = k

pub proper_too : (s : Scope) (n : List ℕ) (x : Meaning) → AreProper s → IsProper (Some x) → AreProper (named n x s)
proper_too s n x h k = λ q. by_proper (bytes_eq q n) x (s q) k (h q)

-- ---- one more parameter

found_in : (p : Parameter) (given : List Given) (others : Scope) (es : Entries) (s : Scope) → s ≡ before (means es) others
    → is_free p.name.name es ≡ not (is_constant (find p.name.name s))
    → parameter p given others es ≡ each (λ (x : Bounds × List Digit). es ++ (parameter_entry p x ∷ [])) (parameter_found p given s)
found_in p given others es s e h =
    ap (λ (k : Scope). wants (is_free p.name.name es) rule.DuplicateName p.name.at (each (λ (x : Bounds × List Digit). es ++ (parameter_entry p x ∷ []))
    (both (vector_bounds p.range k) (given_value p.name.name given (constant_of k p.value))))) (sym e)
    ∙ ap (λ (b : Bool). wants b rule.DuplicateName p.name.at (each (λ (x : Bounds × List Digit). es ++ (parameter_entry p x ∷ []))
    (both (vector_bounds p.range s) (given_value p.name.name given (constant_of s p.value))))) h
    ∙ sym (each_wants (λ (x : Bounds × List Digit). es ++ (parameter_entry p x ∷ [])) (not (is_constant (find p.name.name s))) rule.DuplicateName p.name.at
    (both (vector_bounds p.range s) (given_value p.name.name given (constant_of s p.value))))

ended_ok : {A B : Type 0} (f : A → B) (x : Found A) (a : A) → ended x ≡ Ok a → ended (each f x) ≡ Ok (f a)
ended_ok {A} {B} f (Sound c) a h = let k : c ≡ a = cc in ap (λ (z : A). (let r : Result B Broken = Ok (f z) in r)) k
ended_ok f (Noted b c) a h = absurd (cc)
ended_ok f (Lost b) a h = absurd (cc)

ended_err : {A B : Type 0} (f : A → B) (x : Found A) (b : Broken) → ended x ≡ Err b → ended (each f x) ≡ Err b
ended_err f (Sound c) b h = absurd (cc)
ended_err {A} {B} f (Noted d c) b h = let k : d ≡ b = cc in ap (λ (z : Broken). (let r : Result B Broken = Err z in r)) k
ended_err {A} {B} f (Lost d) b h = let k : d ≡ b = cc in ap (λ (z : Broken). (let r : Result B Broken = Err z in r)) k

wanted_so : {A : Type 0} (ok : Bool) (r : ElabRule) (p : ℕ) (x : Found A) (a : A) → ended (wants ok r p x) ≡ Ok a → ok ≡ true
wanted_so true r p x a h = refl
wanted_so false r p (Sound c) a h = absurd (cc)
wanted_so false r p (Noted b c) a h = absurd (cc)
wanted_so false r p (Lost b) a h = absurd (cc)

-- what is known of the parameters so far tells whether a name is free
free_by : (others : Scope) (c : Constants) (n : List ℕ) → HasNoConstants others → AreKnown others c
    → is_free n (entries_of c.list.items) ≡ not (is_constant (find n (means c.scope)))
free_by others c n h k =
    twice_not (is_free n (entries_of c.list.items)) (is_constant (find n (means c.scope)))
    (ap (λ (s : Scope). is_constant (s n)) k.scope ∙ constants_alone c.list.items (others n) n (h n))
  where
    twice_not : (a b : Bool) → b ≡ not a → a ≡ not b
    twice_not true b e = ap not (sym e)
    twice_not false b e = ap not (sym e)

added : (cs : List Constant) (c : Constant) → entries_of (cs ++ (c ∷ [])) ≡ entries_of cs ++ (entry_of c ∷ [])
added [] c = refl
added (d ∷ cs) c = ap (λ (es : Entries). entry_of d ∷ es) (added cs c)

pub broken_there : (others : Scope) (p : Parameter) (ps : List Parameter) (given : List Given) (c : Constants) (b : Broken) (x : Result (Bounds × List Digit) Broken)
    → HasNoConstants others → AreKnown others c → ended (parameter_found p given (means c.scope)) ≡ x → IsFoundValue p x (Err b)
    → parameters (p ∷ ps) given others (entries_of c.list.items) ≡ Err b
broken_there others p ps given c b (Ok z) h k e i = absurd i
broken_there others p ps given c b (Err d) h k e i =
    ap (λ (y : Found Entries). next (ended y) (parameters ps given others))
    (found_in p given others (entries_of c.list.items) (means c.scope) k.scope (free_by others c p.name.name h k))
    ∙ ap (λ (y : Result Entries Broken). next y (parameters ps given others))
    (ended_err (λ (x : Bounds × List Digit). entries_of c.list.items ++ (parameter_entry p x ∷ [])) (parameter_found p given (means c.scope)) b (e ∙ ap (λ (z : Broken). (let r : Result (Bounds × List Digit) Broken = Err z in r)) i))

-- after one more parameter
pub record Grown (others : Scope) (ps : List Parameter) (given : List Given) (all : Result Entries Broken) (new : Constants) : Type 0 where
  pub rest : parameters ps given others (entries_of new.list.items) ≡ all
  pub known : AreKnown others new

one_step : (others : Scope) (p : Parameter) (ps : List Parameter) (given : List Given) (c : Constants) (z : Bounds × List Digit)
    → HasNoConstants others → AreKnown others c → ended (parameter_found p given (means c.scope)) ≡ Ok z
    → parameters (p ∷ ps) given others (entries_of c.list.items) ≡ parameters ps given others (entries_of c.list.items ++ (parameter_entry p z ∷ []))
one_step others p ps given c z h k e =
    ap (λ (y : Found Entries). next (ended y) (parameters ps given others))
    (found_in p given others (entries_of c.list.items) (means c.scope) k.scope (free_by others c p.name.name h k))
    ∙ ap (λ (y : Result Entries Broken). next y (parameters ps given others))
    (ended_ok (λ (x : Bounds × List Digit). entries_of c.list.items ++ (parameter_entry p x ∷ [])) (parameter_found p given (means c.scope)) z e)

free_there : (others : Scope) (p : Parameter) (given : List Given) (c : Constants) (z : Bounds × List Digit) → HasNoConstants others → AreKnown others c
    → ended (parameter_found p given (means c.scope)) ≡ Ok z → is_free p.name.name (entries_of c.list.items) ≡ true
free_there others p given c z h k e =
    free_by others c p.name.name h k
    ∙ wanted_so (not (is_constant (find p.name.name (means c.scope)))) rule.DuplicateName p.name.at
    (both (vector_bounds p.range (means c.scope)) (given_value p.name.name given (constant_of (means c.scope) p.value))) z e

grown_by : (others : Scope) (p : Parameter) (ps : List Parameter) (given : List Given) (c new : Constants) (one : Constant) (z : Bounds × List Digit) (all : Result Entries Broken)
    → HasNoConstants others → AreKnown others c → ended (parameter_found p given (means c.scope)) ≡ Ok z → entry_of one ≡ parameter_entry p z → IsProper (Some (entry_of one).1)
    → new.list.items ≡ c.list.items ++ (one ∷ []) → means new.scope ≡ named (entry_of one).0 (entry_of one).1 (means c.scope)
    → parameters (p ∷ ps) given others (entries_of c.list.items) ≡ all → Grown others ps given all new
grown_by others p ps given c new one z all h k e i proper list scope whole =
    let es : entries_of new.list.items ≡ entries_of c.list.items ++ (entry_of one ∷ []) = ap entries_of list ∙ added c.list.items one in
    let free : is_free (entry_of one).0 (entries_of c.list.items) ≡ true =
    ap (λ (x : List ℕ × Meaning). is_free x.0 (entries_of c.list.items)) i ∙ free_there others p given c z h k e in record {
      rest = ap (λ (x : Entries). parameters ps given others x) es
          ∙ ap (λ (x : List ℕ × Meaning). parameters ps given others (entries_of c.list.items ++ (x ∷ []))) i
          ∙ sym (one_step others p ps given c z h k e) ∙ whole;
      known = record {
        scope = scope ∙ ap (λ (s : Scope). named (entry_of one).0 (entry_of one).1 s) k.scope
            ∙ sym (grown (entries_of c.list.items) others (entry_of one).0 (entry_of one).1 free)
            ∙ ap (λ (x : Entries). before (means x) others) (sym es);
        proper = subst (λ (s : Scope). AreProper s) (sym scope) (proper_too (means c.scope) (entry_of one).0 (entry_of one).1 k.proper proper);
      };
    }

pub one_more : (others : Scope) (p : Parameter) (ps : List Parameter) (given : List Given) (c new : Constants) (one : Constant) (v : Value) (x : Result (Bounds × List Digit) Broken) (all : Result Entries Broken)
    → HasNoConstants others → AreKnown others c → ended (parameter_found p given (means c.scope)) ≡ x → IsFoundValue p x (Ok v) → entry_of one ≡ (p.name.name, meaning_of v)
    → new.list.items ≡ c.list.items ++ (one ∷ []) → means new.scope ≡ named (entry_of one).0 (entry_of one).1 (means c.scope)
    → parameters (p ∷ ps) given others (entries_of c.list.items) ≡ all → Grown others ps given all new
one_more others p ps given c new one v (Ok z) all h k e i j list scope whole =
    grown_by others p ps given c new one z all h k e (j ∙ ap (λ (m : Meaning). (p.name.name, m)) i.0)
    (subst (λ (m : List ℕ × Meaning). IsProper (Some m.1)) (sym j) i.1) list scope whole
one_more others p ps given c new one v (Err b) all h k e i j list scope whole = absurd i

-- before any parameter
pub none_known : (others : Scope) (c : Constants) → AreProper others → c.list.items ≡ [] → means c.scope ≡ others → AreKnown others c
none_known others c proper list scope = record {
  scope = scope ∙ ap (λ (cs : List Constant). before (means (entries_of cs)) others) (sym list);
  proper = subst (λ (s : Scope). AreProper s) (sym scope) proper;
}

twice_or : (a b : Option Meaning) → option_or a (option_or a b) ≡ option_or a b
twice_or None b = refl
twice_or (Some x) b = refl

-- behind all of them
pub all_known : (others : Scope) (c : Constants) → HasNoConstants others → AreKnown others c → AreConstants c
all_known others c h k = record {
  names = λ n. free_by others c n h k;
  again = ap (λ (s : Scope). before (means (entries_of c.list.items)) s) k.scope
      ∙ (λ i n. twice_or (means (entries_of c.list.items) n) (others n) i) ∙ sym k.scope;
  proper = k.proper;
}

-- ---- in the loop over parameters, whose place is i

left_at : (ds : List code.Parameter) (i : ℕ) (d : code.Parameter) → i < length ds → d ≡ get_or ds i d
    → parameters_in (drop i ds) ≡ parameter_in d ∷ parameters_in (drop (i + 1) ds)
left_at ds i d h e =
    ap (λ (xs : List code.Parameter). parameters_in xs) (drop_more ds i d h)
    ∙ ap (λ (x : code.Parameter). parameter_in x ∷ parameters_in (drop (i + 1) ds)) (sym e)

pub broken_at : (others : Scope) (ds : List code.Parameter) (i : ℕ) (d : code.Parameter) (given : List Given) (c : Constants) (r : Result Value Broken) (b : Broken) (whole : Result Entries Broken)
    → HasNoConstants others → AreKnown others c → i < length ds → d ≡ get_or ds i d
    → IsFoundValue (parameter_in d) (ended (parameter_found (parameter_in d) given (means c.scope))) r → r ≡ Err b
    → parameters (parameters_in (drop i ds)) given others (entries_of c.list.items) ≡ whole → whole ≡ Err b
broken_at others ds i d given c r b whole h k l e f o all =
    sym all ∙ ap (λ (ps : List Parameter). parameters ps given others (entries_of c.list.items)) (left_at ds i d l e)
    ∙ broken_there others (parameter_in d) (parameters_in (drop (i + 1) ds)) given c b (ended (parameter_found (parameter_in d) given (means c.scope))) h k refl
    (subst (λ (q : Result Value Broken). IsFoundValue (parameter_in d) (ended (parameter_found (parameter_in d) given (means c.scope))) q) o f)

pub grown_at : (others : Scope) (ds : List code.Parameter) (i : ℕ) (d : code.Parameter) (given : List Given) (c new : Constants) (one : Constant) (v : Value) (r : Result Value Broken)
    (n : List ℕ) (m : Meaning) (whole : Result Entries Broken)
    → HasNoConstants others → AreKnown others c → i < length ds → d ≡ get_or ds i d
    → IsFoundValue (parameter_in d) (ended (parameter_found (parameter_in d) given (means c.scope))) r → r ≡ Ok v
    → n ≡ (parameter_in d).name.name → m ≡ meaning_of v → entry_of one ≡ (n, meaning_of v)
    → new.list.items ≡ c.list.items ++ (one ∷ []) → means new.scope ≡ named n m (means c.scope)
    → parameters (parameters_in (drop i ds)) given others (entries_of c.list.items) ≡ whole → Grown others (parameters_in (drop (i + 1) ds)) given whole new
grown_at others ds i d given c new one v r n m whole h k l e f o same is entry list scope all =
    one_more others (parameter_in d) (parameters_in (drop (i + 1) ds)) given c new one v (ended (parameter_found (parameter_in d) given (means c.scope))) whole h k refl
    (subst (λ (q : Result Value Broken). IsFoundValue (parameter_in d) (ended (parameter_found (parameter_in d) given (means c.scope))) q) o f)
    (entry ∙ ap (λ (x : List ℕ). (x, meaning_of v)) same) list
    (scope ∙ ap (λ (x : Meaning). named n x (means c.scope)) is ∙ ap (λ (x : List ℕ × Meaning). named x.0 x.1 (means c.scope)) (sym entry))
    (ap (λ (ps : List Parameter). parameters ps given others (entries_of c.list.items)) (sym (left_at ds i d l e)) ∙ all)

pub have_values : (others : Scope) (ds : List code.Parameter) (i : ℕ) (given : List Given) (c : Constants) (whole : Result Entries Broken)
    → HasNoConstants others → AreKnown others c → length ds ≤ i → parameters (parameters_in (drop i ds)) given others (entries_of c.list.items) ≡ whole → HaveValues others whole c
have_values others ds i given c whole h k l all = record {
  is = sym all ∙ ap (λ (xs : List code.Parameter). parameters (parameters_in xs) given others (entries_of c.list.items)) (drop_all i ds l);
  scope = k.scope;
  constants = all_known others c h k;
}
