-- No name has a value.
use Rattle.std.proofs.Common.{Vec, Global, Bor, Option, None, map, ap, refl, sym, subst}
use Rattle.std.specs.Option.{option_map_or}
use Rattle.std.specs.Prelude.{option_copied, []}
use Rattle.test_file.specs.declared.cases.factories.TestedFunction.{TestedFunction}
use Rattle.test_meaning.specs.Rules.Names.{Name}
use Rattle.test_file.specs.List.SoFar.{AreOne, choice_in}
use Rattle.test_file.specs.declared.list.options.AddedOption.{AddedOption}
use Rattle.test_file.proofs.list.above.Above.nothing.Goals as goal

pub returns : goal.returns
returns c = λ f. record {
  functions = λ n. subst (λ (v : Option TestedFunction). AreOne None v) (sym (c.new.ensures n)) tt;
  factories = λ n. ap (λ (v : Option (Bor Name)). option_copied v) (sym (c.new-2.ensures n));
  options = λ n. ap (λ (v : Option (Vec AddedOption Global)). map (choice_in f) (option_map_or (λ (o : Vec AddedOption Global). o.items) v [])) (sym (c.new-3.ensures n));
  count = refl;
  settings = refl;
}
