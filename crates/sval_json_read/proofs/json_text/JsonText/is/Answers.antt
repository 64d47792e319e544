use Rattle.std.proofs.Common.{◌++◌, rules, sym, ap, ◌∙◌, map}
use Rattle.std.specs.Str.{bytes_eq}
use Rattle.std.specs.List.{concat}
use Rattle.sval_json_read.specs.Calls.{piece_bytes}
use Rattle.sval_json_read.specs.SeenPieces.{seen_piece}
use Rattle.sval_json_read.specs.SeenValues.{text_in}
use Rattle.sval_json.proofs.TextFronts.{behind_front}
use Rattle.sval_json_read.proofs.json_text.JsonText.is.Goals as goal

pub loop-rest-preserved : goal.loop-rest-preserved
loop-rest-preserved c =
    let front = piece_bytes (seen_piece c.first_piece.result.0) in (
      search rules,
      c.first_piece.ensures.is_raw,
      sym (behind_front front (text_in c.first_piece.result.1.now) c.in-Some.more.now)
          ∙ ap (λ row. bytes_eq (front ++ text_in c.first_piece.result.1.now) row) (sym c.in-Some.ensures.found)
          ∙ ap (λ row. bytes_eq (concat (map piece_bytes row)) c.loop-rest.left.now) (sym c.first_piece.ensures.pieces)
          ∙ c.loop-rest.invariant.2,
    )
