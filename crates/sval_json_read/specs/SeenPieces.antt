-- What the pieces of a string stand for that the code cuts.
use Rattle.std.specs.Prelude.{ℕ, List}
use Rattle.std.specs.Char.{encode_utf8}
use Rattle.sval_json_read.specs.declared.piece.Piece as made_piece
use Rattle.sval_json_read.specs.declared.piece.Piece.TheVariants as piece
use Rattle.sval_json_read.specs.Calls.{Piece, run, escape, piece_bytes}
use Rattle.sval_json_read.specs.Pointers.{reference_token}

-- a piece of the code
abbrev pub seen_piece : made_piece.Piece → Piece
seen_piece (piece.Run text) = run text.now
seen_piece (piece.Escape character) = escape (encode_utf8 character)

-- the reference token of the text that it stands for (RFC 6901)
abbrev pub piece_token : made_piece.Piece → List ℕ
piece_token piece = reference_token (piece_bytes (seen_piece piece))
