use Rattle.std.proofs.Common.{◌≤◌}
use Rattle.std.specs.Io.KnownBytes.{Appends}
use Rattle.saw_generate.specs.Chains.{IsChain}
use Rattle.saw_generate.specs.Streams.{frames_of}
use Rattle.saw_generate.proofs.stream.generate.Given as goal

-- the frames of the blocks so far are written, and the chain stands behind them
abbrev pub invariant-loop-b : goal.invariant-loop-b
invariant-loop-b g l = record {
  written : Appends (g.K.Sink.written l.initial.out) (g.K.Sink.written l.out)
      (frames_of (record { key = g.G.Signer.key_text l.signer; signature = g.G.Signer.signature l.signer }) l.wish l.b);
  behind : IsChain (record { key = g.G.Signer.key_text l.signer; signature = g.G.Signer.signature l.signer }) l.wish l.b l.chain;
  later : g.K.Sink.faults l.initial.out ≤ g.K.Sink.faults l.out;
}
