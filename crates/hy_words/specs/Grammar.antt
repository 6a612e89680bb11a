-- The words that `hy` takes, in clap's own terms.
use Rattle.std.specs.Prelude.{ℕ, ℤ, true, false, [], ◌∷◌, ◌++◌, Some, codes, pos}
use Rattle.clap.specs.Walk.{Rule, Text}
use Rattle.clap.specs.Simple.{App, Shape, new_rule, new_shape}
use Rattle.clap.specs.declared.builder.action.ArgAction.TheVariants.{Set, SetTrue}
use Rattle.clap.specs.declared.builder.value_parser.ValueParser.TheVariants.{Signed}

-- a flag: it takes no value, and is true exactly where it is given
abbrev pub flag : Text → Rule
flag name = record (new_rule name) { long = Some name; action = Some SetTrue }

abbrev pub threads_flag : Rule
threads_flag = flag (codes "threads")

abbrev pub prune_flag : Rule
prune_flag = flag (codes "no-prune")

abbrev pub log_flag : Rule
log_flag = flag (codes "log")

abbrev pub script_flag : Rule
script_flag = flag (codes "script")

-- an option that takes one number from 1 to `most`
abbrev pub number_option : Text → ℤ → Text → Rule
number_option name most default = record (new_rule name) {
  long = Some name;
  action = Some Set;
  parser = Some (Signed (pos 1) most);
  defaults = default ∷ [];
}

-- an option that takes one number from `least` to `most` and has to be there
abbrev pub needed_number : Text → ℕ → ℕ → Rule
needed_number name least most = record (new_rule name) {
  long = Some name;
  action = Some Set;
  parser = Some (Signed (pos least) (pos most));
  required = true;
}

abbrev pub chunks : Rule
chunks = number_option (codes "chunks") (pos 64) (codes "4")

abbrev pub rows : Rule
rows = number_option (codes "rows") (pos 1024) (codes "1024")

-- a subcommand with the options for the sizes of a table added, behind its own
abbrev pub sized : Shape → Shape
sized shape = record shape { rules = shape.rules ++ chunks ∷ rows ∷ [] }

abbrev pub run : Shape
run = sized (record (new_shape (codes "run")) { rules = threads_flag ∷ prune_flag ∷ log_flag ∷ [] })

abbrev pub check : Shape
check = sized (new_shape (codes "check"))

abbrev pub recover : Shape
recover = sized (record (new_shape (codes "recover")) { rules = script_flag ∷ [] })

abbrev pub trace : Shape
trace = sized (record (new_shape (codes "trace")) { rules = prune_flag ∷ [] })

abbrev pub explain : Shape
explain = sized (record (new_shape (codes "explain")) { rules = prune_flag ∷ [] })

abbrev pub serve : Shape
serve = sized (record (new_shape (codes "serve")) { rules = log_flag ∷ [] })

abbrev pub seed : Rule
seed = needed_number (codes "seed") 0 4294967295

abbrev pub sessions : Rule
sessions = needed_number (codes "sessions") 1 64

abbrev pub transactions : Rule
transactions = needed_number (codes "transactions") 1 1000

abbrev pub generate : Shape
generate = record (new_shape (codes "gen")) {
  rules = seed ∷ sessions ∷ transactions ∷ threads_flag ∷ [];
}

-- the program with no subcommand yet: one is wanted, and no call for help or for a version answered
abbrev pub bare : Shape
bare = record (new_shape (codes "hy")) {
  subcommand_required = true;
  disable_help_flag = true;
  disable_help_subcommand = true;
  disable_version_flag = true;
}

-- the first commands that take a script
abbrev pub first_words : App
first_words = record { top = record bare { is_leaf = false }; subs = run ∷ check ∷ recover ∷ [] }

-- all commands that take one
abbrev pub script_words : App
script_words = record first_words { subs = run ∷ check ∷ recover ∷ trace ∷ explain ∷ [] }

-- these, and the one that takes lines
abbrev pub source_words : App
source_words = record script_words { subs = run ∷ check ∷ recover ∷ trace ∷ explain ∷ serve ∷ [] }

-- the program: these and `gen`
abbrev pub hy : App
hy = record source_words { subs = run ∷ check ∷ recover ∷ trace ∷ explain ∷ serve ∷ generate ∷ [] }
