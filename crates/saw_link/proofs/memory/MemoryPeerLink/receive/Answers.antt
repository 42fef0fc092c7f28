use Rattle.std.proofs.Common.{◌∙◌, sym, arith}
use Rattle.saw_link.proofs.MemoryFrames.{copy_comes_first}
use Rattle.saw_link.proofs.memory.MemoryPeerLink.receive.Goals as goal

pub returns-in-Ok-note_received-clause-given : goal.returns-in-Ok-note_received-clause-given
returns-in-Ok-note_received-clause-given c =
    let peer = c.fails.new.self in
    copy_comes_first peer.frames.items peer.at c.index.result.now c.in-Ok-note_received.frame _ (sym c.fails.ensures.coming)
    (omega (arith, peer.within, c.len.ensures, c.if-self-len.false)) c.index.ensures (c.in-Ok-note_received.ensures.copy ∙ c.deref.ensures.value)
