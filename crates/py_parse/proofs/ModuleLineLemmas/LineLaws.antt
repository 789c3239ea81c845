-- The laws of reading a line.
use Rattle.std.proofs.Common.{◌≡◌, inl, inr, List, [], Option, Some, None, refl, sym, ◌∙◌, Result, Ok, Err, IfOk}
use Rattle.py_syntax.specs.declared.token.Token.{Token}
use Rattle.py_syntax.specs.ModuleTrees.{ModuleLine}
use Rattle.py_syntax.specs.ModuleForms as form
use Rattle.py_syntax.specs.ModuleForms.{SpellsModuleLine}
use Rattle.py_syntax.specs.ModuleTrees.{view_module_line}
use Rattle.py_syntax.specs.declared.module.ModuleLine as code
use Rattle.py_expression.specs.declared.phrase.fault.ReadError.{ReadError}
use Rattle.py_expression.specs.declared.phrase.fault.ReadError.TheVariants as errors
use Rattle.py_expression.specs.Phrase.Gives.{Gives}
use Rattle.py_parse.specs.ModuleLine.Found.{IsFound}
use Rattle.py_expression.proofs.PhraseLemmas.Facts.{some_same}
use Rattle.py_expression.specs.Phrase.Readers.{whole}
use Rattle.py_expression.proofs.PhraseLemmas.Phrased.{Anything, End}
use Rattle.py_expression.proofs.PhraseLemmas.Choices.{whole_sound, whole_again}
use Rattle.py_parse.specs.ModuleLine.Reading.{read_by, read_line, kind_at, line_of, import_of, from_of, constant_of, test_of, factory_of, add_option_of, generate_of, function_of}
use Rattle.py_parse.specs.declared.module_line.kind.Kind.{Kind}
use Rattle.py_parse.specs.declared.module_line.kind.Kind.TheVariants as kind
use Rattle.py_parse.proofs.ModuleLineLemmas.FormLaws.{import_reads, from_reads, constant_line_reads, test_reads, factory_reads, add_option_reads, generate_reads, function_reads}
use Rattle.py_parse.proofs.ModuleLineLemmas.LineKinds.{import_kind, from_kind, constant_kind, test_kind, factory_kind, add_option_kind, generate_kind, function_kind}

pub line_sound : (ts : List Token) (l : ModuleLine) → line_of ts ≡ Some l → SpellsModuleLine l ts
unfolding line_of read_line SpellsModuleLine
line_sound ts l e = by (kind_at ts) e
  where
    by : (k : Kind) → whole (read_by k) ts ≡ Some l → form.module_line l ts []
    by kind.Import h = inl (whole_sound form.import_form import_of Anything import_reads ts l h)
    by kind.From h = inr (inl (whole_sound form.from_form from_of End from_reads ts l h))
    by kind.Constant h = inr (inr (inl (whole_sound form.constant_form constant_of Anything constant_line_reads ts l h)))
    by kind.Test h = inr (inr (inr (inl (whole_sound form.test_form test_of Anything test_reads ts l h))))
    by kind.Factory h = inr (inr (inr (inr (inl (whole_sound form.factory_form factory_of Anything factory_reads ts l h)))))
    by kind.AddOption h = inr (inr (inr (inr (inr (inl (whole_sound form.add_option_form add_option_of Anything add_option_reads ts l h))))))
    by kind.GenerateTests h = inr (inr (inr (inr (inr (inr (inl (whole_sound form.generate_form generate_of Anything generate_reads ts l h)))))))
    by kind.Function h = inr (inr (inr (inr (inr (inr (inr (whole_sound form.function_form function_of Anything function_reads ts l h)))))))

pub line_again : (ts : List Token) (l : ModuleLine) → SpellsModuleLine l ts → line_of ts ≡ Some l
unfolding line_of read_line SpellsModuleLine
line_again ts l (inl h) = rw (import_kind ts [] l h) (whole_again form.import_form import_of Anything import_reads ts l h tt)
line_again ts l (inr (inl h)) = rw (from_kind ts [] l h) (whole_again form.from_form from_of End from_reads ts l h refl)
line_again ts l (inr (inr (inl h))) = rw (constant_kind ts l h) (whole_again form.constant_form constant_of Anything constant_line_reads ts l h tt)
line_again ts l (inr (inr (inr (inl h)))) = rw (test_kind ts [] l h) (whole_again form.test_form test_of Anything test_reads ts l h tt)
line_again ts l (inr (inr (inr (inr (inl h))))) = rw (factory_kind ts [] l h) (whole_again form.factory_form factory_of Anything factory_reads ts l h tt)
line_again ts l (inr (inr (inr (inr (inr (inl h)))))) = rw (add_option_kind ts [] l h) (whole_again form.add_option_form add_option_of Anything add_option_reads ts l h tt)
line_again ts l (inr (inr (inr (inr (inr (inr (inl h))))))) = rw (generate_kind ts [] l h) (whole_again form.generate_form generate_of Anything generate_reads ts l h tt)
line_again ts l (inr (inr (inr (inr (inr (inr (inr h))))))) = rw (function_kind ts [] l h) (whole_again form.function_form function_of Anything function_reads ts l h tt)

pub one_line_law : (ts : List Token) (l m : ModuleLine) → SpellsModuleLine l ts → SpellsModuleLine m ts → l ≡ m
one_line_law ts l m a b = some_same (sym (line_again ts l a) ∙ line_again ts m b)

-- The call's further clauses.

pub found_law : (ts : List Token) (r : Result code.ModuleLine ReadError) → Gives view_module_line r (line_of ts) → IfOk r (λ l. SpellsModuleLine (view_module_line l) ts)
found_law ts (Ok l) g = line_sound ts (view_module_line l) g
found_law ts (Err f) g = tt

none_some : {A : Type 0} (o : Option A) (x : A) → o ≡ None → o ≡ Some x → ⊥
none_some o x a b = cc

pub only_law : (ts : List Token) (r : Result code.ModuleLine ReadError) (l : ModuleLine) → Gives view_module_line r (line_of ts) → SpellsModuleLine l ts → IsFound l r
only_law ts (Ok x) l g h = some_same (sym g ∙ line_again ts l h)
only_law ts (Err errors.OutOfMemory) l g h = refl
only_law ts (Err errors.Wrong) l g h = absurd (none_some _ _ g (line_again ts l h))
