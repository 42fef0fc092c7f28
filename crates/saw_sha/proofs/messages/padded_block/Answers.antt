use Rattle.std.proofs.Common.{◌≡◌, ℕ, List, ◌∷◌, ◌++◌, ◌+◌, ◌-◌, ◌*◌, ◌/◌, ◌%◌, ◌^◌, length, drop, ap, sym, ◌∙◌, inl, inr, arith}
use Rattle.std.proofs.lemmas.Bool.{cases_lt}
use Rattle.std.proofs.lemmas.List.{take_rest}
use Rattle.std.specs.Int.{w128, to_be_bytes}
use Rattle.saw_sha.specs.Block.{padded_block}
use Rattle.saw_sha.proofs.Blocks.{block_count_long, block_count_short, length-last, padded_block_last, padded_block_long, padded_block_short, padded_block_whole, written_last, written_long, written_short, zeros, length-zeros, bit_length}
use Rattle.saw_sha.proofs.messages.padded_block.Goals as goal

pub returns-then-i-whole : goal.returns-then-i-whole
returns-then-i-whole c = λ lt.
    let width : 128 * c.args.i + 128 - 128 * c.args.i ≡ 128 = omega arith in
    let at : 128 * c.args.i ≡ c.args.i * 128 = omega arith in
    c.copy_from_slice.ensures.after ∙ rw (width, at) (sym (padded_block_whole c.args.message.now c.args.i (omega arith)))

pub returns-then-i-whole-2 : goal.returns-then-i-whole-2
returns-then-i-whole-2 c = λ lt.
    let m = c.args.message.now in
    let bits : length m * 8 ≡ length m * 8 % 2 ^ 128 = omega arith in
    let last = c.copy_from_slice-then-i-whole-2.ensures.after ∙ c.to_be_bytes.ensures ∙ ap (to_be_bytes w128) bits in
    elim (cases_lt (length m % 128) 112) [
      | inl short ↦ absurd (omega (arith, block_count_short m short))
      | inr long ↦
          let e : c.args.i ≡ length m / 128 + 1 = omega (arith, block_count_long m long) in
          written_last _ ∙ ap (λ (l : List ℕ). zeros 112 ++ l) last ∙ sym (padded_block_last m long) ∙ ap (padded_block m) (sym e)
    ]

pub returns-then-used-ge112 : goal.returns-then-used-ge112
returns-then-used-ge112 c = λ lt.
    let m = c.args.message.now in
    let at : length m / 128 ≡ c.args.i = omega arith in
    let from : 128 * (length m / 128) ≡ length m / 128 * 128 = omega arith in
    let left : 128 - length m % 128 - 1 ≡ 127 - length m % 128 = omega arith in
    let r = c.copy_from_slice-2.new.self in
    let y = c.copy_from_slice-then-used-ge112.new.self in
    let tail : r ≡ drop (length m / 128 * 128) m = c.copy_from_slice-2.ensures.after ∙ take_rest m (128 * (length m / 128)) ∙ ap (λ (k : ℕ). drop k m) from in
    let pad : y ≡ 0x80 ∷ zeros (127 - length m % 128) = c.copy_from_slice-then-used-ge112.ensures.after ∙ c.padding.ensures ∙ ap (λ (k : ℕ). 0x80 ∷ zeros k) left in
    written_long r y (length m % 128) (omega (arith, ap length tail, length-last m)) (omega arith)
    ∙ (λ i. tail i ++ pad i) ∙ sym (padded_block_long m (omega arith)) ∙ ap (padded_block m) at

pub returns : goal.returns
returns c = λ lt.
    let m = c.args.message.now in
    let at : length m / 128 ≡ c.args.i = omega arith in
    let from : 128 * (length m / 128) ≡ length m / 128 * 128 = omega arith in
    let left : 112 - length m % 128 - 1 ≡ 111 - length m % 128 = omega arith in
    let bits : length m * 8 ≡ length m * 8 % 2 ^ 128 = omega arith in
    let r = c.copy_from_slice-2.new.self in
    let y = c.copy_from_slice-3.new.self in
    let l = c.copy_from_slice-4.new.self in
    let tail : r ≡ drop (length m / 128 * 128) m = c.copy_from_slice-2.ensures.after ∙ take_rest m (128 * (length m / 128)) ∙ ap (λ (k : ℕ). drop k m) from in
    let pad : y ≡ 0x80 ∷ zeros (111 - length m % 128) = c.copy_from_slice-3.ensures.after ∙ c.padding-2.ensures ∙ ap (λ (k : ℕ). 0x80 ∷ zeros k) left in
    let last : l ≡ bit_length m = c.copy_from_slice-4.ensures.after ∙ c.to_be_bytes-2.ensures ∙ ap (to_be_bytes w128) bits in
    written_short r y (length m % 128) (omega (arith, ap length tail, length-last m)) (omega arith) l (omega arith)
    (omega (arith, ap length pad, length-zeros (111 - length m % 128)))
    ∙ (λ i. (tail i ++ pad i) ++ last i) ∙ sym (padded_block_short m (omega arith)) ∙ ap (padded_block m) at
