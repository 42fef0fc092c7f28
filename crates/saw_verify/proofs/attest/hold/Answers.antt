use Rattle.std.proofs.Common.{List, ℕ, Bor, [], map, take}
use Rattle.std.proofs.lemmas.List.{map_more}
use Rattle.saw_verify.proofs.LineSets.{holds_one_more}
use Rattle.saw_verify.proofs.attest.hold.Goals as goal

pub loop-line-preserved : goal.loop-line-preserved
loop-line-preserved c =
    let lines = c.args.lines.now in
    let i = c.loop-line.line-index in
    let bytes = c.in_ok-to_vec.ensures.items_if_clones_equal (λ x y e. e) in
    let texts = map_more (λ (line : Bor (List ℕ)). line.now) lines i (record { ref_ptr = (0, 0); now = [] }) c.loop-line-test.true in
    rw (texts, ← bytes)
    (holds_one_more c.loop-line.held c.insert.new.self c.in_ok-to_vec.field-0
    (map (λ (line : Bor (List ℕ)). line.now) (take i lines)) c.in_ok-insert.ensures.keys c.loop-line.invariant)
