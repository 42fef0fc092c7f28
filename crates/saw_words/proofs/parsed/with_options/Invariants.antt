use Rattle.std.proofs.Common.{◌≡◌, map, take}
use Rattle.clap.specs.Words.{app_of}
use Rattle.saw_words.specs.Clap.{options_app}
use Rattle.saw_words.proofs.parsed.with_options.Given as goal

abbrev pub invariant-loop-name : goal.invariant-loop-name
invariant-loop-name l = app_of l.command ≡ options_app (map (λ name. name.now) (take l.name-index l.names))
