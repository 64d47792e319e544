use Rattle.std.specs.Prelude.{take, flat_map}
use Rattle.sval_core.specs.Law.{Streams}
use Rattle.sval_core.specs.Values.{makes}
use Rattle.sval_lower.specs.Lower.{byte_calls}
use Rattle.sval_lower.proofs.default_stream.binaries.binary_fragment_computed.Given as goal

abbrev pub invariant-loop-byte : goal.invariant-loop-byte
invariant-loop-byte g l =
    Streams g.S.Stream.law (g.S.Stream.standing l.fn.stream) (makes (flat_map byte_calls (take l.byte-index l.fn.fragment)))
    (g.S.Stream.standing l.stream)
