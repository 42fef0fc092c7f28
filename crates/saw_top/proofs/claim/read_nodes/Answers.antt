use Rattle.std.proofs.Common.{◌≡◌, ◌≤◌, ℕ, List, [], None, Ok, map, length, sym, ap, subst, ◌∙◌, arith}
use Rattle.std.specs.List.{position, slice_split}
use Rattle.hex.specs.Hex.{decode_of}
use Rattle.std.specs.Prelude.{◌==◌}
use Rattle.saw_top.specs.Claims.{is_bad_node, max_proof, node_in}
use Rattle.saw_top.proofs.NodeLines.{all_decoded, bad_within, feedless, good_lines}
use Rattle.saw_top.proofs.claim.read_nodes.Goals as goal

low : (c : goal.In-Some) → c.in-Some.index ≤ length c.args.bytes.now
low c =
    let within = bad_within c.without_feed-lines.result.now c.in-Some.index (sym c.in-Some.ensures) in
    omega (arith, within, ap length c.without_feed-lines.ensures, feedless c.args.bytes.now)

pub overflow_cast-line : goal.overflow_cast-line
overflow_cast-line c = omega (arith, low c, c.if-bytes-gt-MAX_PROOF.false)

pub overflow_add-line : goal.overflow_add-line
overflow_add-line c = omega (arith, low c, c.if-bytes-gt-MAX_PROOF.false)

pub returns : goal.returns
returns c =
    let bytes = c.args.bytes.now in
    let cut = λ (l : List ℕ). slice_split (λ b. b == 10) l in
    let within : length bytes ≤ max_proof = omega (arith, c.if-bytes-gt-MAX_PROOF.false) in
    let some : bytes ≡ [] → ⊥ = λ is. let bad = sym c.if-is_empty.false ∙ c.is_empty.ensures ∙ ap (λ (l : List ℕ). length l == 0) is in cc bad in
    let none = subst (λ (l : List ℕ). position is_bad_node (cut l) ≡ None) c.without_feed-lines.ensures (sym c.in_default.ensures) in
    let lines = c.in_ok-lines.ensures ∙ ap cut c.without_feed-lines.ensures in
    let nodes = c.in_ok-decode_lines.ensures ∙ ap (λ (l : List _). map (λ line. node_in (decode_of line.now)) l) c.deref.ensures.value
    ∙ all_decoded c.in_ok-lines.lines.items ∙ ap (λ (l : List (List ℕ)). map (λ line. node_in (decode_of line)) l) lines in
    record { reads = good_lines bytes within some none ∙ ap Ok (sym nodes) }
