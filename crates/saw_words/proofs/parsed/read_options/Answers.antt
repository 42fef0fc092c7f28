use Rattle.std.proofs.Common.{ap, map, string_bytes, ◌∙◌}
use Rattle.clap.specs.Words.{App, found_of, matches_of, takes}
use Rattle.saw_words.proofs.ClapParse.{taken, told}
use Rattle.saw_words.proofs.parsed.read_options.Goals as goal

pub read_words-requires : goal.read_words-requires
read_words-requires c = ap (λ (app : App). takes app (map string_bytes c.args.words.now)) c.in_ok-command.ensures
    ∙ taken (map (λ name. name.now) c.args.names.now) (map string_bytes c.args.words.now) c.requires.names c.requires.fine

pub returns : goal.returns
returns c =
    told (map (λ name. name.now) c.args.names.now) (map string_bytes c.args.words.now) (found_of c.in_ok-matches.matches) c.requires.names c.requires.fine
    (c.in_ok-matches.ensures ∙ ap (λ (app : App). matches_of app (map string_bytes c.args.words.now)) c.in_ok-command.ensures)
