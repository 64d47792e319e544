use Rattle.std.proofs.Common.{◌≡◌, ◌==◌, ◌++◌, true, drop}
use Rattle.sval_json.specs.Json.{compact_items}
use Rattle.sval_json.specs.Shape.{byte_items}
use Rattle.sval_cbor_read.specs.ItemJson.{text_of}
use Rattle.sval_cbor_read.proofs.item_json.byte_string.Given as goal

-- with the bytes that are left all are written
abbrev pub invariant-loop-index : goal.invariant-loop-index
invariant-loop-index l =
    text_of l.out ++ compact_items (l.index == 0) (byte_items (drop l.index l.piece.content.now)) ≡ text_of l.initial.out ++ compact_items true (byte_items l.piece.content.now)
