use Rattle.std.proofs.Common.{map, string_bytes, refl, arith}
use Rattle.saw_words.proofs.Firsts.{cut_read, first_by}
use Rattle.saw_words.proofs.options.first_option.Goals as goal

pub returns-in-Some : goal.returns-in-Some
returns-in-Some c =
    let read = rw c.in-Some.is at (cut_read c.as_str-word.result.now
    (map string_bytes c.in_ok-word.behind.now) c.split_once.result c.split_once.ensures.cases) in
    first_by c.args.words.now c.in-Some.name c.in-Some.value c.in_ok-word.behind c.option_of.result
    (rw (c.in_ok-word.ensures.cases.0, ← c.as_str-word.ensures.value) read) (omega (arith, c.in_ok-word.ensures.cases.1)) c.option_of.ensures

pub returns-in_ok-value-in-None : goal.returns-in_ok-value-in-None
returns-in_ok-value-in-None c =
    let read = rw c.in-None.is at (cut_read c.as_str-word.result.now
    (map string_bytes c.in_ok-word.behind.now) c.split_once.result c.split_once.ensures.cases) in
    first_by c.args.words.now c.as_str-word.result c.as_str.result c.in_ok-value-in-None.rest c.option_of-in-None.result
    (rw (c.in_ok-word.ensures.cases.0, ← c.as_str-word.ensures.value, read, c.in_ok-value-in-None.ensures.cases.0, ← c.as_str.ensures.value) refl)
    (omega (arith, c.in_ok-word.ensures.cases.1, c.in_ok-value-in-None.ensures.cases.1)) c.option_of-in-None.ensures
