-- What a table says of the items that it stands for.
use Rattle.std.proofs.Common.{◌≡◌, ◌||◌, ◌&&◌, not, ℕ, Bool, true, false, List, [], ◌∷◌, Option, Some, None, refl, sym, ap, ◌∙◌, if◌then◌else◌}
use Rattle.std.specs.List.{list_all}
use Rattle.std.specs.Option.{is_some, option_map, option_map_or}
use Rattle.py_syntax.specs.BlockTrees.{Block, FunctionAt, ModuleItem}
use Rattle.py_syntax.specs.ModuleForms.{has_default}
use Rattle.py_syntax.specs.declared.module.Parameter.{Parameter}
use Rattle.test_meaning.specs.Factory.Product as product
use Rattle.test_meaning.specs.Factory.Product.{Choice}
use Rattle.name_table.specs.Places.{first_place}
use Rattle.test_meaning.specs.Rules.File as file
use Rattle.test_meaning.specs.Rules.File.{Definition, File, choices, file_of, further}
use Rattle.test_meaning.specs.Rules.Names.{Name, is_among}
use Rattle.test_meaning.specs.Rules.Rules.{has_value, is_complete, is_open_option, tests_at}
use Rattle.test_meaning.specs.Rules.Uses.{parameter_names}
use Rattle.test_refusal.specs.Makers.SoFar.{IsAddedAt, IsTestAt, StandsFor, added_in, case_count, choice_names, cut, has_option, has_value_in, is_generated}
use Rattle.test_refusal.specs.declared.makers.added.Added.{Added}
use Rattle.test_refusal.specs.declared.makers.makers.Makers.{Makers}

counted : (cs : List Choice) (g : Bool) (a : Option Added) → IsAddedAt cs g a → option_map_or (λ (x : Added). x.case_count) a 1 ≡ cut (product.case_count cs)
counted cs g None (e, f) = ap (λ (ds : List Choice). cut (product.case_count ds)) (sym e)
counted cs g (Some a) h = h.counted

optional : (cs : List Choice) (g : Bool) (a : Option Added) (o : Name) → IsAddedAt cs g a → option_map_or (λ (x : Added). is_some (first_place x.options o)) a false ≡ is_among o (choice_names cs)
optional cs g None o (e, f) = ap (λ (ds : List Choice). is_among o (choice_names ds)) (sym e)
optional cs g (Some a) o h = h.options o

generated : (cs : List Choice) (g : Bool) (a : Option Added) → IsAddedAt cs g a → option_map_or (λ (x : Added). x.is_generated) a false ≡ g
generated cs g None (e, f) = sym f
generated cs g (Some a) h = h.tests

pub count_of : (xs : List ModuleItem) (t : Makers) → StandsFor xs t → (f : File) (n : Name) → case_count t n ≡ cut (product.case_count (choices f (file_of xs) n))
count_of xs t h f n = counted _ _ (added_in t n) (h f n)

option_of : (xs : List ModuleItem) (t : Makers) → StandsFor xs t → (f : File) (n o : Name) → has_option t n o ≡ is_among o (choice_names (choices f (file_of xs) n))
option_of xs t h f n o = optional _ _ (added_in t n) o (h f n)

tests_of : (xs : List ModuleItem) (t : Makers) → StandsFor xs t → (f : File) (n : Name) → is_generated t n ≡ file.is_generated (file_of xs) n
tests_of xs t h f n = generated _ _ (added_in t n) (h f n)

-- one or no test at a function
pub one_function : (f : File) (xs : List ModuleItem) (l : ℕ) (g : Name) (ps : List Parameter) (b : Block) (y : Bool) (n : ℕ) → n ≡ (if y then 1 else 0)
    → IsTestAt f xs (FunctionAt l g ps b) y → n ≡ cut (tests_at f (file_of xs) (FunctionAt l g ps b))
one_function f xs l g ps b y n e h = e ∙ small y ∙ ap (λ m. cut m) (sym (h refl))
  where
    small : (c : Bool) → (if c then 1 else 0) ≡ cut (if c then 1 else 0)
    small true = refl
    small false = refl

-- an option of a factory whose function has these parameters
pub open_option : (xs : List ModuleItem) (t : Makers) → StandsFor xs t → (f : File) (n o : Name) (d : Option Definition) (ps : List Parameter) (b : Bool)
    → Some ps ≡ option_map (λ (x : Definition). x.parameters) d
    → b ≡ (is_among o (parameter_names (further ps)) && not (has_option t n o) && not (is_generated t n)) → b ≡ is_open_option f (file_of xs) n o d
open_option xs t h f n o None ps b e is = cc
open_option xs t h f n o (Some d) ps b e is =
    is ∙ ap (λ (qs : List Parameter). is_among o (parameter_names (further qs)) && not (has_option t n o) && not (is_generated t n)) (some_same ps d.parameters e)
    ∙ ap (λ c. is_among o (parameter_names (further d.parameters)) && not c && not (is_generated t n)) (option_of xs t h f n o)
    ∙ ap (λ c. is_among o (parameter_names (further d.parameters)) && not (is_among o (choice_names (choices f (file_of xs) n))) && not c) (tests_of xs t h f n)
  where
    some_same : (l m : List Parameter) → Some l ≡ Some m → l ≡ m
    some_same l m e = cc

pub no_function : (f above : File) (n o : Name) (d : Option Definition) → None ≡ option_map (λ (x : Definition). x.parameters) d
    → (true ≡ is_open_option f above n o d) × (true ≡ is_complete f above n d)
no_function f above n o None e = (refl, refl)
no_function f above n o (Some d) e = cc

all_same : (p q : Parameter → Bool) (ps : List Parameter) → ((x : Parameter) → p x ≡ q x) → list_all p ps ≡ list_all q ps
all_same p q [] h = refl
all_same p q (x ∷ ps) h = ap (λ b. b && list_all p ps) (h x) ∙ ap (λ b. q x && b) (all_same p q ps h)

pub complete : (xs : List ModuleItem) (t : Makers) → StandsFor xs t → (f : File) (n : Name) (d : Option Definition) (ps : List Parameter) (b : Bool)
    → Some ps ≡ option_map (λ (x : Definition). x.parameters) d
    → b ≡ (list_all (has_value_in t n) (further ps) && not (is_generated t n)) → b ≡ is_complete f (file_of xs) n d
complete xs t h f n None ps b e is = cc
complete xs t h f n (Some d) ps b e is =
    is ∙ ap (λ (qs : List Parameter). list_all (has_value_in t n) (further qs) && not (is_generated t n)) (some_same ps d.parameters e)
    ∙ ap (λ c. c && not (is_generated t n)) (all_same (has_value_in t n) (has_value (choices f (file_of xs) n)) (further d.parameters) (λ p. ap (λ c. has_default p.default || c) (option_of xs t h f n p.name)))
    ∙ ap (λ c. list_all (has_value (choices f (file_of xs) n)) (further d.parameters) && not c) (tests_of xs t h f n)
  where
    some_same : (l m : List Parameter) → Some l ≡ Some m → l ≡ m
    some_same l m e = cc
