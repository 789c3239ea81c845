-- The derived equality of names is equality.
use Rattle.std.proofs.Common.{◌≡◌, ℕ, Bool, true, List, Option, Some, None, IfSome, IfNone, get_or, refl, sym, ap, ◌∙◌, eq-eqb}
use Rattle.std.proofs.lemmas.Bool.{eqb-true}
use Rattle.std.proofs.lemmas.Option.{none-some, same_Some}
use Rattle.std.specs.HashMap.{HashMap, get}
use Rattle.gpi.specs.declared.types.Key.TheVariants as key
use Rattle.await_tree.specs.declared.cause.Awaited.{Awaited}
use Rattle.await_tree.specs.declared.cause.Awaited.TheVariants as awaited
use Rattle.trigger_table.specs.Entries.{HasCause, cause_name}
use Rattle.trigger_table.specs.Indexed.{IsIndexed, is_named}
use Rattle.trigger_table.specs.Name.{name_of}
use Rattle.trigger_table.specs.declared.entries.CauseRecord.{CauseRecord}
use Rattle.trigger_table.specs.declared.name.Name.{Name}
use Rattle.trigger_table.specs.declared.name.Name.TheVariants as name
use Rattle.trigger_table.specs.contracts.name.NamePartialEq.TheImpl.{eq-value}
use Rattle.trigger_table.proofs.IndexLemmas.{named, named_is}

abbrev pub name_eq : Name → Name → Bool
name_eq = eq-value.it

pub name_same : (a b : Name) → name_eq a b ≡ true → a ≡ b
name_same (name.At a) (name.At b) same = ap name.At (eqb-true a b same)
name_same (name.Rise a) (name.Rise b) same = ap name.Rise (eqb-true a b same)
name_same (name.Fall a) (name.Fall b) same = ap name.Fall (eqb-true a b same)
name_same (name.Change a) (name.Change b) same = ap name.Change (eqb-true a b same)
name_same name.ReadWrite name.ReadWrite same = refl
name_same name.ReadOnly name.ReadOnly same = refl
name_same name.NextStep name.NextStep same = refl
name_same (name.Event a) (name.Event b) same = ap name.Event (eqb-true a b same)
name_same (name.Lock a) (name.Lock b) same = ap name.Lock (eqb-true a b same)
name_same (name.Join a) (name.Join b) same = ap name.Join (eqb-true a b same)
name_same a b same = cc

pub name_self : (a : Name) → name_eq a a ≡ true
name_self (name.At a) = eq-eqb a a refl
name_self (name.Rise a) = eq-eqb a a refl
name_self (name.Fall a) = eq-eqb a a refl
name_self (name.Change a) = eq-eqb a a refl
name_self name.ReadWrite = refl
name_self name.ReadOnly = refl
name_self name.NextStep = refl
name_self (name.Event a) = eq-eqb a a refl
name_self (name.Lock a) = eq-eqb a a refl
name_self (name.Join a) = eq-eqb a a refl

-- ---- names and what they are of

awaited_of : Name → Awaited
awaited_of (name.At time) = awaited.Key (key.At time)
awaited_of (name.Rise sig) = awaited.Key (key.Rise (record { 0 = sig }))
awaited_of (name.Fall sig) = awaited.Key (key.Fall (record { 0 = sig }))
awaited_of (name.Change sig) = awaited.Key (key.Change (record { 0 = sig }))
awaited_of name.ReadWrite = awaited.Key key.ReadWrite
awaited_of name.ReadOnly = awaited.Key key.ReadOnly
awaited_of name.NextStep = awaited.Key key.NextStep
awaited_of (name.Event event) = awaited.Event (record { 0 = event })
awaited_of (name.Lock lock) = awaited.Lock (record { 0 = lock })
awaited_of (name.Join task) = awaited.Join (record { 0 = task })

back : (on : Awaited) → awaited_of (name_of on) ≡ on
unfolding awaited_of
back (awaited.Key (key.At time)) = refl
back (awaited.Key (key.Rise sig)) = refl
back (awaited.Key (key.Fall sig)) = refl
back (awaited.Key (key.Change sig)) = refl
back (awaited.Key key.ReadWrite) = refl
back (awaited.Key key.ReadOnly) = refl
back (awaited.Key key.NextStep) = refl
back (awaited.Event event) = refl
back (awaited.Lock lock) = refl
back (awaited.Join task) = refl

-- what has one name is one
pub one_name : (a b : Awaited) → name_of a ≡ name_of b → a ≡ b
one_name a b same = sym (back a) ∙ ap awaited_of same ∙ back b

abbrev Causes : Type 0
Causes = List (Option CauseRecord)

module _ {S : Type 0} (slots : Causes) (index : HashMap Name ℕ S) (s : IsIndexed name_eq cause_name slots index) where
  pub has_name : (number : ℕ) (on : Awaited) → is_named name_eq cause_name (name_of on) (get_or slots number None) ≡ true → HasCause slots number on
  has_name number on is =
      let one = named_is name_eq name_same name_self cause_name (name_of on) (get_or slots number None) is in
      let same : one.0.on ≡ on = one_name one.0.on on one.2 in
      (one.0.held, one.1 ∙ ap (λ (a : Awaited). let r : CauseRecord = record { on = a; held = one.0.held } in Some r) same)

  pub is_name : (number : ℕ) (on : Awaited) → HasCause slots number on → is_named name_eq cause_name (name_of on) (get_or slots number None) ≡ true
  is_name number on has =
      named name_eq name_same name_self cause_name (name_of on) (get_or slots number None) (record { on = on; held = has.0 }) has.1 refl

  pub cause_found : (on : Awaited) (n : Name) → n ≡ name_of on → (res : Option ℕ) → res ≡ get name_eq index n → IfSome res (λ number. HasCause slots number on)
  cause_found on n is None same = tt
  cause_found on n is (Some number) same = has_name number on (ap (λ k. is_named name_eq cause_name k (get_or slots number None)) (sym is) ∙ s.found n number (sym same))

  pub cause_absent : (on : Awaited) (n : Name) → n ≡ name_of on → (res : Option ℕ) → res ≡ get name_eq index n → IfNone res ((number : ℕ) → ¬ HasCause slots number on)
  cause_absent on n is None same = λ number has. none-some number (same ∙ ap (get name_eq index) is ∙ s.listed (name_of on) number (is_name number on has))
  cause_absent on n is (Some number) same = tt

  -- where there is no record, there is no number
  pub no_number : (on : Awaited) → ((number : ℕ) → ¬ HasCause slots number on) → get name_eq index (name_of on) ≡ None
  no_number on none = go (get name_eq index (name_of on)) refl
    where
      go : (res : Option ℕ) → get name_eq index (name_of on) ≡ res → res ≡ None
      go None is = refl
      go (Some number) is = absurd (none number (has_name number on (s.found (name_of on) number is)))

  -- what is awaited has one record at most
  pub one_cause : (on : Awaited) (m n : ℕ) → HasCause slots m on → HasCause slots n on → m ≡ n
  one_cause on m n one two = same_Some m n (sym (s.listed (name_of on) m (is_name m on one)) ∙ s.listed (name_of on) n (is_name n on two))
