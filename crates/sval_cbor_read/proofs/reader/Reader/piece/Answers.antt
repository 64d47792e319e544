use Rattle.sval_cbor_read.proofs.ReadsOn.{pieces_end_with, pieces_end_makes, no_piece_left}
use Rattle.sval_cbor_read.proofs.reader.Reader.piece.Goals as goal

pub returns-then-self-bytes-clause-goes : goal.returns-then-self-bytes-clause-goes
returns-then-self-bytes-clause-goes c = no_piece_left c.args.bytes.now c.args.self.now c.args.medium c.requires.is c.if-self-bytes.true c.requires.within

pub returns-in-Ok-clause-goes : goal.returns-in-Ok-clause-goes
returns-in-Ok-clause-goes c =
    pieces_end_with c.args.bytes.now c.args.self.now c.args.medium c.requires.is c.end_pieces.new.self c.if-self-bytes.false c.if-bytes-self.false c.in-Ok.ensures

pub returns-in-Err-clause-no_memory : goal.returns-in-Err-clause-no_memory
returns-in-Err-clause-no_memory c = pieces_end_makes c.args.bytes.now c.args.self.now c.args.medium c.requires.is c.if-self-bytes.false c.if-bytes-self.false
