-- How what `clap` found is looked at.
use Rattle.std.proofs.Common.{◌≡◌, ◌∙◌, ◌≤◌, ◌<◌, ◌∷◌, Bool, cond, true, false, refl, sym, ap, subst, arith, List, [], length, get_or, Option, Some, None, MatchOption, option_to_list, codes}
use Rattle.std.specs.Borrow.{Bor}
use Rattle.std.specs.Option.{option_map, unwrap_or}
use Rattle.std.specs.Str.{bytes_eq}
use Rattle.clap.specs.Matches.{first_value, matched_of, raw_values}
use Rattle.clap.specs.Walk.{Text, first_of, rows_of, texts}
use Rattle.clap.specs.declared.parser.matches.Found.{Found}
use Rattle.clap.proofs.WalkLemmas.{first_value-rows, raw_values-rows}
use Rattle.command.specs.CommandWords.Arguments.{first, flag_in, kept, listed}
use Rattle.command.specs.CommandWords.Forms.{Asked, IsAsked, IsFlag, asked_of}
use Rattle.command.specs.declared.command_words.reading.Work.{Work}

pub no_texts : (fs : List (Bor Text)) → length fs ≤ 0 → texts fs ≡ []
no_texts [] h = refl
no_texts (f ∷ fs) h = absurd (omega (arith, h))

pub two_texts : (fs : List (Bor Text)) (d e : Bor Text) → 2 ≤ length fs → length fs < 3 → texts fs ≡ (get_or fs 0 d).now ∷ (get_or fs 1 e).now ∷ []
two_texts [] d e h k = absurd (omega (arith, h))
two_texts (a ∷ []) d e h k = absurd (omega (arith, h))
two_texts (a ∷ b ∷ []) d e h k = refl
two_texts (a ∷ b ∷ c ∷ fs) d e h k = absurd (omega (arith, k))

abbrev pub TellsWork : Option Work → List Text → List Text → List Text → Type 0
TellsWork result files tops mades =
    MatchOption result ((asked : Asked) → IsAsked files tops mades asked → ⊥) (λ work. IsAsked files tops mades (asked_of work))

pub tells : (result : Option Work) (f f' t t' m m' : List Text) → f ≡ f' → t ≡ t' → m ≡ m' → TellsWork result f' t' m' → TellsWork result f t m
tells result f f' t t' m m' ef et em h =
    subst (λ (l : List Text). TellsWork result l t m) (sym ef) (subst (λ (l : List Text). TellsWork result f' l m) (sym et)
    (subst (λ (l : List Text). TellsWork result f' t' l) (sym em) h))

pub files_found : (f : Found) (id : Text) (o : Option (Bor (List (Bor Text))))
    → option_map (λ s. texts s.now) o ≡ option_map raw_values (matched_of f id) → unwrap_or (option_map (λ s. texts s.now) o) [] ≡ kept id (rows_of f)
files_found f id o h = ap (λ x. unwrap_or x []) (h ∙ raw_values-rows f id)

pub files_or : (f : Found) (id : Text) (o : Option (Bor (List (Bor Text)))) (d s : Bor (List (Bor Text)))
    → option_map (λ s. texts s.now) o ≡ option_map raw_values (matched_of f id) → s ≡ unwrap_or o d → d.now ≡ [] → texts s.now ≡ kept id (rows_of f)
files_or f id None d s h is e = ap (λ (x : Bor (List (Bor Text))). texts x.now) is ∙ ap texts e ∙ files_found f id None h
files_or f id (Some files) d s h is e = ap (λ (x : Bor (List (Bor Text))). texts x.now) is ∙ files_found f id (Some files) h

pub asked_by : (f f' t t' m m' : List Text) (a : Asked) → f ≡ f' → t ≡ t' → m ≡ m' → IsAsked f t m a → IsAsked f' t' m' a
asked_by f f' t t' m m' a ef et em h =
    subst (λ (l : List Text). IsAsked l t' m' a) ef (subst (λ (l : List Text). IsAsked f l m' a) et (subst (λ (l : List Text). IsAsked f t l a) em h))

pub value_found : (f : Found) (id : Text) (o : Option (Bor Text)) → option_map (λ s. s.now) o ≡ first_value f id → listed o ≡ first id (rows_of f)
value_found f id o h = ap option_to_list (h ∙ first_value-rows f id)

pub flag_found : (f : Found) (id : Text) (o : Option (Bor Text)) → option_map (λ s. s.now) o ≡ first_value f id → (text : Bor Text) → o ≡ Some text
    → (b : Bool) → b ≡ bytes_eq text.now (codes "true") → IsFlag (flag_in (first_of id (rows_of f))) b
flag_found f id o h text is b e =
    subst (λ x. IsFlag (flag_in x) b) (sym (ap (option_map (λ (s : Bor Text). s.now)) is) ∙ h ∙ first_value-rows f id) (go (bytes_eq text.now (codes "true")) e)
  where
    go : (x : Bool) → b ≡ x → IsFlag (cond x (text.now ∷ []) []) b
    go true t = t
    go false t = t

pub no_flag_found : (f : Found) (id : Text) (o : Option (Bor Text)) → option_map (λ s. s.now) o ≡ first_value f id → o ≡ None → IsFlag (flag_in (first_of id (rows_of f))) false
no_flag_found f id o h is =
    subst (λ x. IsFlag (flag_in x) false) (sym (ap (option_map (λ (s : Bor Text). s.now)) is) ∙ h ∙ first_value-rows f id) refl
