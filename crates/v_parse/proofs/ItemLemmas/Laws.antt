-- The laws of module items. Heights are counted from one.
use Rattle.std.proofs.Common.{◌≡◌, ℕ, suc, Bool, true, false, List, [], ◌∷◌, Option, Some, None, refl, ap, inl}
use Rattle.v_syntax.specs.declared.token.Token.{Token}
use Rattle.v_syntax.specs.declared.token.Token.TheVariants as token
use Rattle.v_syntax.specs.declared.item.ItemForm.{ItemForm}
use Rattle.v_syntax.specs.declared.item.ItemForm.TheVariants as form
use Rattle.v_syntax.specs.Phrases.{Phrase}
use Rattle.v_syntax.specs.Phrases as phrase
use Rattle.v_syntax.specs.SourceTrees.{KindTree, ItemAt}
use Rattle.v_syntax.specs.Items.{item}
use Rattle.v_syntax.specs.Items as rule
use Rattle.v_expression.specs.Phrase.Readers.{Reader, is_some}
use Rattle.v_expression.specs.Phrase.Kinds.{Kind, AtEnd, AtName, AtKeyword, AtReserved, AtTask, AtNumber, AtText, AtMark, kind_at, Kinds, Tells}
use Rattle.v_expression.proofs.PhraseLemmas.Laws.{Laws}
use Rattle.v_expression.proofs.PhraseLemmas.Tokens.{nothing_laws, place_in_laws}
use Rattle.v_expression.proofs.PhraseLemmas.Both.{apply_laws}
use Rattle.v_expression.proofs.PhraseLemmas.OneOf.{one_laws}
use Rattle.v_expression.proofs.PhraseLemmas.Change.{narrow, widen}
use Rattle.v_expression.proofs.PhraseLemmas.Branches.{no_else}
use Rattle.v_parse.specs.Item.Firsts.{word_form, form_of, starts_item}
use Rattle.v_parse.specs.Item.Reading.{item_of_form, kind_of, item_of}
use Rattle.v_parse.proofs.ItemLemmas.Rules.{ports_laws, nets_laws, registers_laws, integers_laws, parameters_laws, drivers_laws, always_laws, initial_laws, instance_laws, kind_missing}

-- the form of an item that begins there
abbrev pub form_at : Kind → Option ItemForm
form_at AtName = Some form.Instance
form_at (AtKeyword w) = word_form w
form_at (AtMark m) = None
form_at AtTask = None
form_at AtEnd = None
form_at AtReserved = None
form_at AtNumber = None
form_at AtText = None

abbrev pub of_item : Kinds
of_item k = is_some (form_at k)

form_told : (ts : List Token) → form_of ts ≡ form_at (kind_at ts)
form_told [] = refl
form_told (token.Mark m ∷ ts) = refl
form_told (token.Name n ∷ ts) = refl
form_told (token.Keyword w ∷ ts) = refl
form_told (token.Reserved w ∷ ts) = refl
form_told (token.SystemTask t ∷ ts) = refl
form_told (token.Number ds ∷ ts) = refl
form_told (token.Text t ∷ ts) = refl

pub tells_item : Tells starts_item of_item
tells_item ts = ap is_some (form_told ts)

abbrev is_form : ItemForm → Option ItemForm → Bool
is_form form.Ports (Some form.Ports) = true
is_form form.Nets (Some form.Nets) = true
is_form form.Registers (Some form.Registers) = true
is_form form.Integers (Some form.Integers) = true
is_form form.Parameters (Some form.Parameters) = true
is_form form.ContinuousAssignments (Some form.ContinuousAssignments) = true
is_form form.Always (Some form.Always) = true
is_form form.Initial (Some form.Initial) = true
is_form form.Instance (Some form.Instance) = true
is_form _ _ = false

is_form_only : (i : ItemForm) (o : Option ItemForm) → is_form i o ≡ true → o ≡ Some i
is_form_only form.Ports (Some form.Ports) h = refl
is_form_only form.Nets (Some form.Nets) h = refl
is_form_only form.Registers (Some form.Registers) h = refl
is_form_only form.Integers (Some form.Integers) h = refl
is_form_only form.Parameters (Some form.Parameters) h = refl
is_form_only form.ContinuousAssignments (Some form.ContinuousAssignments) h = refl
is_form_only form.Always (Some form.Always) h = refl
is_form_only form.Initial (Some form.Initial) h = refl
is_form_only form.Instance (Some form.Instance) h = refl
is_form_only _ _ h = absurd (let e : false ≡ true = h in cc)

abbrev of_form : ItemForm → Kinds
of_form i k = is_form i (form_at k)

module _ (end n : ℕ) where
  abbrev F : ItemForm → ℕ → Phrase Token KindTree
  F i m = rule.item_of_form end (suc m) i

  abbrev R : ItemForm → ℕ → Reader KindTree
  R i m = item_of_form end m i

  form_laws : (i : ItemForm) → Laws n (F i) (of_form i) false no_else (R i)
  form_laws form.Ports = widen (narrow (ports_laws end n) no_else refl) (of_form form.Ports) refl
  form_laws form.Nets = widen (narrow (nets_laws end n) no_else refl) (of_form form.Nets) refl
  form_laws form.Registers = widen (narrow (registers_laws end n) no_else refl) (of_form form.Registers) refl
  form_laws form.Integers = widen (narrow (integers_laws end n) no_else refl) (of_form form.Integers) refl
  form_laws form.Parameters = widen (narrow (parameters_laws end n) no_else refl) (of_form form.Parameters) refl
  form_laws form.ContinuousAssignments = widen (narrow (drivers_laws end n) no_else refl) (of_form form.ContinuousAssignments) refl
  form_laws form.Always = widen (always_laws end n) (of_form form.Always) refl
  form_laws form.Initial = widen (initial_laws end n) (of_form form.Initial) refl
  form_laws form.Instance = widen (narrow (instance_laws end n) no_else refl) (of_form form.Instance) refl

  kind_laws : Laws n (λ m. phrase.one_of (rule.item_of_form end (suc m))) of_item false no_else (λ m. kind_of end m)
  unfolding kind_of
  kind_laws = one_laws n F of_form no_else R form_of form_at form_told of_item (λ i k h. is_form_only i (form_at k) h) (λ i k h. ap is_some (is_form_only i (form_at k) h)) form_laws (λ i here h k. inl (kind_missing end n i))

  pub item_laws : Laws n (λ m. item end (suc m)) of_item false no_else (λ m. item_of end m)
  unfolding item_of
  item_laws = apply_laws n (apply_laws n (nothing_laws ItemAt n) (place_in_laws end n) refl) kind_laws refl

  pub item_missing : (item end (suc n)).missing
  item_missing = ((tt, tt), (form.Integers, kind_missing end n form.Integers))
