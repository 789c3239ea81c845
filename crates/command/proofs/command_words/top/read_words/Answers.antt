use Rattle.std.proofs.Common.{◌≡◌, ◌∙◌, ap, sym, subst, inl, inr, List, map, string_bytes}
use Rattle.clap.specs.Simple.{App, app_of, is_simple, matches_of}
use Rattle.clap.specs.Values.{kind_of}
use Rattle.clap.specs.Kinds.{IsAmong}
use Rattle.clap.specs.Faults.{fault_of, is_simple_and_free}
use Rattle.clap.specs.Matches.{found_of}
use Rattle.clap.specs.Walk.{Text, rows_of}
use Rattle.command.specs.CommandWords.Arguments.{words_app}
use Rattle.command.specs.CommandWords.Forms.{form_of}
use Rattle.command.proofs.CommandWordsLemmas.Whole.{refused_reads, taken_reads, texts_are}
use Rattle.command.proofs.command_words.top.read_words.Goals as goal

pub returns-in-Some : goal.returns-in-Some
returns-in-Some c =
    let words : List Text = map string_bytes c.args.words.now in
    let app : app_of c.in-Ok.command ≡ words_app = c.in-Ok.ensures in
    let parse = c.in-Ok-try_get_matches_from in
    let faultless = ap (λ (a : App). fault_of a words) (sym app) ∙ parse.ensures.kinds (ap is_simple_and_free app) in
    let rows = (parse.ensures.matches (ap is_simple app)).0 ∙ ap (λ (a : App). matches_of a words) app in
    (taken_reads words (texts_are c.args.words.now) faultless (rows_of (found_of parse.matches)) rows (form_of c.in-Some.reading)).0 c.in-Some.ensures

pub returns-in-Ok-try_get_matches_from : goal.returns-in-Ok-try_get_matches_from
returns-in-Ok-try_get_matches_from c =
    let words : List Text = map string_bytes c.args.words.now in
    let app : app_of c.in-Ok.command ≡ words_app = c.in-Ok.ensures in
    let parse = c.in-Ok-try_get_matches_from in
    let faultless = ap (λ (a : App). fault_of a words) (sym app) ∙ parse.ensures.kinds (ap is_simple_and_free app) in
    let rows = (parse.ensures.matches (ap is_simple app)).0 ∙ ap (λ (a : App). matches_of a words) app in
    λ usage form reads. c.in-None.ensures form ((taken_reads words (texts_are c.args.words.now) faultless (rows_of (found_of parse.matches)) rows form).1 reads)

pub returns : goal.returns
returns c =
    let words : List Text = map string_bytes c.args.words.now in
    let app : app_of c.in-Ok.command ≡ words_app = c.in-Ok.ensures in
    λ usage form reads. refused_reads words (λ none. elim (c.in-Err.ensures.kinds (ap is_simple_and_free app)) [
      | inl memory ↦ absurd (c.fault_of.ensures usage (c.kind.ensures ∙ memory))
      | inr among ↦ absurd (subst (IsAmong (kind_of c.in-Err.error)) (ap (λ (a : App). fault_of a words) app ∙ none) among)
    ]) form reads
