use Rattle.std.proofs.Common.{◌≡◌, take}
use Rattle.saw_live.specs.Words.{bytes_of}
use Rattle.saw_live.proofs.words.bytes_of.Given as goal

abbrev pub invariant-loop-word : goal.invariant-loop-word
invariant-loop-word l = l.bytes.items ≡ bytes_of (take l.word-index l.words)
