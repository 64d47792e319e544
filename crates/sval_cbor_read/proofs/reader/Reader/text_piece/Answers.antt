use Rattle.sval_cbor_read.specs.declared.item.Medium.TheVariants.{Text}
use Rattle.sval_cbor_read.proofs.ReadsOn.{piece_goes_on, piece_makes, no_piece}
use Rattle.std.proofs.Common.{refl}
use Rattle.sval_cbor_read.proofs.reader.Reader.text_piece.Goals as goal

pub returns-in-None-clause-goes : goal.returns-in-None-clause-goes
returns-in-None-clause-goes c = no_piece c.args.bytes.now c.args.self.now Text c.requires.is c.requires.at_in c.requires.no_break (c.in-None.ensures.nothing refl)

pub returns-in-Ok-clause-goes : goal.returns-in-Ok-clause-goes
returns-in-Ok-clause-goes c =
    piece_goes_on c.args.bytes.now c.args.self.now Text c.requires.is c.add_piece.new.self c.in-Some.piece.content.now c.in-Some.piece.next c.in-Some.ensures.found c.in-Ok.ensures

pub returns-in-Err-clause-no_memory : goal.returns-in-Err-clause-no_memory
returns-in-Err-clause-no_memory c = piece_makes c.args.bytes.now c.args.self.now Text c.requires.is c.in-Some.piece.content.now c.in-Some.piece.next c.in-Some.ensures.found
