-- Entries that are read part by part.
use Rattle.std.proofs.Common.{◌≡◌, ℕ, ◌<◌, ◌≤◌, List, map, take, length, get_or, Some, None, Bor, sym, ap, ◌∙◌, arith}
use Rattle.std.proofs.lemmas.List.{length-map, get_or-map, take_all}
use Rattle.std.proofs.lemmas.Simd.{map-map}
use Rattle.saw_xo.specs.Payloads.{parts_of}
use Rattle.saw_xo.specs.Games.{all_of, entry_in, entries_in}
use Rattle.saw_xo.specs.declared.game.Game.{Game}
use Rattle.saw_xo.proofs.Wholes.{all_of-Some, all_of-missing}

-- what the parts of a text make
read_parts : (text : List ℕ) (parts items : List (Bor (List ℕ))) → map (λ part. part.now) parts ≡ parts_of 124 text → items ≡ parts
    → all_of (map (λ part. entry_in part.now) items) ≡ entries_in text
read_parts text parts items is same = ap all_of (ap (map (λ part. entry_in part.now)) same ∙ sym (map-map entry_in (λ part. part.now) parts)
    ∙ ap (map entry_in) is)

pub entries_whole : (text : List ℕ) (parts items : List (Bor (List ℕ))) (entries : List (List ℕ × Game)) (i : ℕ)
    → map (λ part. part.now) parts ≡ parts_of 124 text → items ≡ parts → length items ≤ i
    → map (λ entry. Some entry) entries ≡ map (λ part. entry_in part.now) (take i items) → Some entries ≡ entries_in text
entries_whole text parts items entries i is same end read =
    sym (all_of-Some entries) ∙ ap all_of (read ∙ ap (map (λ part. entry_in part.now)) (take_all i items end)) ∙ read_parts text parts items is same

pub entries_missing : (text : List ℕ) (parts items : List (Bor (List ℕ))) (i : ℕ) (d : Bor (List ℕ))
    → map (λ part. part.now) parts ≡ parts_of 124 text → items ≡ parts → i < length items
    → entry_in (get_or items i d).now ≡ None → None ≡ entries_in text
entries_missing text parts items i d is same h none =
    sym (all_of-missing (map (λ part. entry_in part.now) items) i None (omega (arith, length-map items (λ part. entry_in part.now)))
    (get_or-map (λ part. entry_in part.now) items i d None h ∙ none))
    ∙ read_parts text parts items is same
