use Rattle.std.proofs.Common.{◌≡◌, arith, sym, ◌∙◌, take, map}
use Rattle.std.specs.Simd.Lanes.{mask_l}
use Rattle.std.proofs.lemmas.Simd.{none_from_empty_mask}
use Rattle.sval_json.specs.Escape.{is_escaped}
use Rattle.sval_json.proofs.EscapeLanes.{plain_run, lowest_escape, counted_within, counted_plain, counted_found}
use Rattle.sval_json.proofs.escape.plain_ahead.Goals as goal

pub returns-then-escapes-eq0-clause-plain : goal.returns-then-escapes-eq0-clause-plain
returns-then-escapes-eq0-clause-plain g c =
    let bytes = c.args.bytes.now in
    let none : mask_l (map is_escaped (take g.row.N bytes)) ≡ 0 = sym c.escapes_ahead-escapes.ensures ∙ c.if-escapes-eq0.true in
    plain_run bytes g.row.N (λ d k near. none_from_empty_mask is_escaped bytes 0 g.row.N d (omega (arith, c.requires.long)) none k (omega arith) (omega (arith, near))) c.requires.long

pub returns-clause-within : goal.returns-clause-within
returns-clause-within g c =
    let bytes = c.args.bytes.now in
    counted_within g.row.N bytes _ c.requires.long (lowest_escape g.row.N bytes _ c.requires.long c.requires.few c.escapes_ahead-escapes.ensures c.if-escapes-eq0.false)

pub returns-clause-plain : goal.returns-clause-plain
returns-clause-plain g c =
    let bytes = c.args.bytes.now in
    counted_plain g.row.N bytes _ c.requires.long (lowest_escape g.row.N bytes _ c.requires.long c.requires.few c.escapes_ahead-escapes.ensures c.if-escapes-eq0.false)

pub returns-clause-found : goal.returns-clause-found
returns-clause-found g c =
    let bytes = c.args.bytes.now in
    counted_found g.row.N bytes _ c.requires.long (lowest_escape g.row.N bytes _ c.requires.long c.requires.few c.escapes_ahead-escapes.ensures c.if-escapes-eq0.false)
