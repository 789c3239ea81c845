-- What words say: options with their values, and files.
use Rattle.std.specs.Prelude.{◌≡◌, ◌⊎◌, ◌∷◌, ◌++◌, ℕ, List, [], map, codes, if◌then◌else◌}
use Rattle.std.specs.Str.{bytes_eq}

-- the bytes of a text
abbrev pub Text : Type 0
Text = List ℕ

-- an option that has a value
pub data Setting : Type 0 where
  top : Setting
  budget : Setting
  seed : Setting
  made : Setting

abbrev pub name_of : Setting → Text
name_of top = codes "top"
name_of budget = codes "budget"
name_of seed = codes "seed"
name_of made = codes "made"

-- an option without a value: told changes are to have lines, or the VCD text of the run is to be written
pub data Flag : Type 0 where
  traces : Flag
  dumps : Flag

abbrev pub flag_name : Flag → Text
flag_name traces = codes "trace"
flag_name dumps = codes "vcd"

-- what one word says, or two: an option has a value, a flag stands there, or a file has a name
pub data Said : Type 0 where
  sets : Setting → Text → Said
  flags : Flag → Said
  names : Text → Said

-- The word can be a name or a value in a word of its own: it doesn't begin with `-` (45), unless it is the word `-`.
abbrev pub IsPlain : Text → Type 0
IsPlain word = (word ≡ codes "-") ⊎ ((rest : Text) → word ≡ 45 ∷ rest → ⊥)

-- the words say these, in this order
pub data Say : List Text → List Said → Type 0 where
  Nothing : Say [] []
  File : (word : Text) (words : List Text) (said : List Said) → IsPlain word → Say words said → Say (word ∷ words) (names word ∷ said)
  Flagged : (f : Flag) (words : List Text) (said : List Said) → Say words said → Say ((codes "--" ++ flag_name f) ∷ words) (flags f ∷ said)
  -- `--name=value`
  Joined : (s : Setting) (value : Text) (words : List Text) (said : List Said)
      → Say words said → Say ((codes "--" ++ name_of s ++ codes "=" ++ value) ∷ words) (sets s value ∷ said)
  -- `--name value`
  Apart : (s : Setting) (value : Text) (words : List Text) (said : List Said)
      → IsPlain value → Say words said → Say ((codes "--" ++ name_of s) ∷ value ∷ words) (sets s value ∷ said)
  -- after `--` all words are names of files
  Ended : (words : List Text) → Say (codes "--" ∷ words) (map names words)

-- of what it speaks
abbrev pub subject_of : Said → Text
subject_of (sets s value) = name_of s
subject_of (flags f) = flag_name f
subject_of (names file) = codes "files"

-- the value of an option, `true` of a flag, or a name
abbrev pub value_of : Said → Text
value_of (sets s value) = value
value_of (flags f) = codes "true"
value_of (names file) = file

-- all that is said of a subject, in order
abbrev pub values_of : Text → List Said → List Text
values_of subject [] = []
values_of subject (s ∷ said) =
    if bytes_eq (subject_of s) subject then value_of s ∷ values_of subject said else values_of subject said
