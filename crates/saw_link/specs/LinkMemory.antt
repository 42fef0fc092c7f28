-- What a peer in memory keeps: the frames to come, which calls fail, and how many calls there were.
use Rattle.std.specs.Prelude.{ℕ, List, drop, map}
use Rattle.saw_link.specs.declared.memory.MemoryPeer.{MemoryPeer}

-- the frames that it will hand out, in order
abbrev pub coming : MemoryPeer → List (List ℕ)
coming peer = drop peer.at (map (λ frame. frame.items) peer.frames.items)

abbrev pub failing_calls : MemoryPeer → List ℕ
failing_calls peer = peer.fail.items

-- sending and receiving are counted together, from 0
abbrev pub calls : MemoryPeer → ℕ
calls peer = peer.calls
