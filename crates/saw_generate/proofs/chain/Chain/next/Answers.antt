use Rattle.std.proofs.Common.{◌∙◌}
use Rattle.saw_publish.specs.Candidates.{Signing}
use Rattle.saw_generate.proofs.Chaining.{content_is, left_is, number_fits, parent_is, root_is}
use Rattle.saw_generate.proofs.chain.Chain.next.Goals as goal

pub block_of-requires-clause-number : goal.block_of-requires-clause-number
block_of-requires-clause-number g c =
    let signing : Signing = record { key = g.G.Signer.key_text c.args.signer.now; signature = g.G.Signer.signature c.args.signer.now } in
    number_fits signing c.args.wish.now c.args.b _ (c.as_ref.ensures.value ∙ c.requires.behind.parent) c.ranges.b.fits

pub returns-clause-content : goal.returns-clause-content
returns-clause-content g c =
    let signing : Signing = record { key = g.G.Signer.key_text c.args.signer.now; signature = g.G.Signer.signature c.args.signer.now } in
    let wish = c.args.wish.now in
    let made = c.in_ok-messages.ensures in
    let left = left_is signing wish c.args.b _ _ _ _ c.requires.behind.left made.messages made.reads c.in_ok-run_block.ensures in
    let root = root_is signing wish c.args.b _ _ left c.in_ok-root.ensures in
    content_is signing wish c.args.b _ _ _ _ (c.as_ref.ensures.value ∙ c.requires.behind.parent) made.messages root c.in_ok-id.ensures.content

pub returns-clause-behind : goal.returns-clause-behind
returns-clause-behind g c =
    let signing : Signing = record { key = g.G.Signer.key_text c.args.signer.now; signature = g.G.Signer.signature c.args.signer.now } in
    let wish = c.args.wish.now in
    let made = c.in_ok-messages.ensures in
    let left = left_is signing wish c.args.b _ _ _ _ c.requires.behind.left made.messages made.reads c.in_ok-run_block.ensures in
    let root = root_is signing wish c.args.b _ _ left c.in_ok-root.ensures in
    record {
      parent = rw c.from.ensures
          (parent_is signing wish c.args.b _ _ _ _ (c.as_ref.ensures.value ∙ c.requires.behind.parent) made.messages root c.in_ok-id.ensures.id);
      left = left;
      drawn = made.draws;
    }
