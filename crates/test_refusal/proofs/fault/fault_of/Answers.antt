-- What the pass comes to.
use Rattle.std.proofs.Common.{subst}
use Rattle.py_syntax.specs.BlockTrees.{view_module}
use Rattle.test_meaning.specs.Rules.File.{file_of}
use Rattle.test_meaning.specs.Rules.Rules.{first_broken}
use Rattle.test_meaning.specs.Rules.Uses.{file_lines}
use Rattle.test_refusal.specs.Pass.{IsStepTo}
use Rattle.test_refusal.specs.declared.seen.Step as code
use Rattle.test_refusal.proofs.Steps.{refused_before, refused_behind}
use Rattle.test_refusal.proofs.fault.fault_of.Goals as goal

pub no_tests-requires : goal.no_tests-requires
no_tests-requires c =
    let xs = view_module c.args.whole.now.file.now in
    (subst (λ (s : code.Step). IsStepTo (file_of xs) xs (first_broken (file_of xs) (file_lines (file_of xs))) s) c.in-On.is c.in_ok-end.ensures).1.has_tests

pub returns-in-On : goal.returns-in-On
returns-in-On c =
    let xs = view_module c.args.whole.now.file.now in
    refused_behind (file_of xs) c.no_tests.result
    (subst (λ (s : code.Step). IsStepTo (file_of xs) xs (first_broken (file_of xs) (file_lines (file_of xs))) s) c.in-On.is c.in_ok-end.ensures).0
    c.no_tests.ensures

pub returns-in-Refused : goal.returns-in-Refused
returns-in-Refused c =
    let xs = view_module c.args.whole.now.file.now in
    refused_before (file_of xs) c.in-Refused.refusal
    (subst (λ (s : code.Step). IsStepTo (file_of xs) xs (first_broken (file_of xs) (file_lines (file_of xs))) s) c.in-Refused.is c.in_ok-end.ensures)
