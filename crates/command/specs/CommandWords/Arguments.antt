-- A means of proof: what `clap` is told of the words, and what it found.
use Rattle.std.specs.Prelude.{◌∷◌, List, [], Option, Some, None, option_map, option_to_list, true, codes, find, unwrap_or, if◌then◌else◌}
use Rattle.std.specs.Borrow.{Bor}
use Rattle.std.specs.Str.{bytes_eq}
use Rattle.clap.specs.Walk.{Row, Rule, Text, first_of}
use Rattle.clap.specs.Simple.{App, new_rule, new_shape}
use Rattle.clap.specs.declared.builder.action.ArgAction.TheVariants.{Append, Set, SetTrue}
use Rattle.command.specs.CommandWords.Forms.{Form, IsForm}

-- an option of this name, with a text
abbrev pub option_rule : Text → Rule
option_rule name = record (new_rule name) { long = Some name; action = Some Set }

-- an option of this name, without a value
abbrev pub flag_rule : Text → Rule
flag_rule name = record (new_rule name) { long = Some name; action = Some SetTrue }

abbrev pub files_rule : Rule
files_rule = record (new_rule (codes "files")) { action = Some Append }

-- a command without words, and without flags for help and version
abbrev pub plain_app : App
plain_app = record {
  top = record (new_shape (codes "cocorun")) {
    no_binary_name = true;
    disable_help_flag = true;
    disable_version_flag = true;
  };
  subs = [];
}

abbrev pub words_rules : List Rule
words_rules =
    option_rule (codes "top") ∷ option_rule (codes "budget") ∷ option_rule (codes "seed") ∷ option_rule (codes "made")
    ∷ flag_rule (codes "trace") ∷ flag_rule (codes "vcd") ∷ files_rule ∷ []

abbrev pub words_app : App
words_app = record plain_app { top = record plain_app.top { rules = words_rules } }

-- a text that may be there
abbrev pub listed : Option (Bor Text) → List Text
listed text = option_to_list (option_map (λ s. s.now) text)

-- the values that were found for an argument
abbrev pub kept : Text → List Row → List Text
kept name rows = unwrap_or (option_map (λ r. r.values) (find (λ r. bytes_eq r.id name) rows)) []

-- the first of them
abbrev pub first : Text → List Row → List Text
first name rows = option_to_list (first_of name rows)

abbrev pub flag_in : Option Text → List Text
flag_in None = []
flag_in (Some text) = if bytes_eq text (codes "true") then text ∷ [] else []

-- what was found asks for this
abbrev pub IsFormIn : List Row → Form → Type 0
IsFormIn rows = IsForm (kept (codes "files") rows) (first (codes "top") rows) (first (codes "made") rows)
    (first (codes "budget") rows) (first (codes "seed") rows) (flag_in (first_of (codes "trace") rows))
    (flag_in (first_of (codes "vcd") rows))
