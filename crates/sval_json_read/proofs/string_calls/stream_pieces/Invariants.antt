use Rattle.std.proofs.Common.{length}
use denote.Text.{Utf8}
use denote.Shadow.{shadow}
use Rattle.sval_json_read.proofs.PieceStreams.{IsStreamedUpTo}
use Rattle.sval_json_read.proofs.string_calls.stream_pieces.Given as goal

-- what is left is text, and some first calls were taken
abbrev pub invariant-loop-rest : goal.invariant-loop-rest
invariant-loop-rest g l = shadow (Utf8 l.rest) × IsStreamedUpTo g.S.Stream.law (g.S.Stream.standing l.initial.stream) (g.S.Stream.standing l.stream) l.raw l.rest

abbrev pub decreases-loop-rest : goal.decreases-loop-rest
decreases-loop-rest g l = length l.rest
