-- The command by which clap reads options.
use Rattle.std.specs.Prelude.{ℕ, true, List, [], map, drop, Some, codes}
use Rattle.clap.specs.Words.{App, Rule, new_rule}
use Rattle.clap.specs.Simple.{new_shape}
use Rattle.clap.specs.declared.builder.action.ArgAction.TheVariants.{Set}

-- an option: its id is its whole name, and its long name what stands behind the two hyphens
abbrev pub option_rule : List ℕ → Rule
option_rule name = record (new_rule name) { long = Some (drop 2 name); action = Some Set }

-- a command with these options and nothing else: no help, no version, and the words begin at once
abbrev pub options_app : List (List ℕ) → App
options_app names = record {
  top = record (new_shape (codes "sawval")) {
    rules = map option_rule names;
    no_binary_name = true;
    disable_help_flag = true;
    disable_help_subcommand = true;
    disable_version_flag = true;
  };
  subs = [];
}
