use Rattle.std.proofs.Common.{◌≡◌, ◌<◌, ◌^◌, drop}
use Rattle.saw_cbor.specs.Spelling.{number_from, number_of}
use Rattle.saw_cbor.proofs.head.number_of.Given as goal

abbrev pub invariant-loop-byte : goal.invariant-loop-byte
invariant-loop-byte l = record {
  below : l.number < 256 ^ l.byte-index;
  so_far : number_from l.number (drop l.byte-index l.bytes) ≡ number_of l.bytes;
}
