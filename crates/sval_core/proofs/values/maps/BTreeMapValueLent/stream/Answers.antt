use Rattle.sval_core.specs.Values.{map_emission}
use Rattle.sval_core.proofs.SurelyWhole.{map_is_whole}
use Rattle.sval_core.proofs.values.maps.BTreeMapValueLent.stream.Goals as goal

pub returns-then-skip_map : goal.returns-then-skip_map
returns-then-skip_map g c =
    let whole = c.skip_map.ensures.whole c.if-skip_map.true in
    c.skip_map.ensures.skipped c.if-skip_map.true (map_emission g.K.Value.emission g.V.Value.emission c.args.self.now.entries)
    (map_is_whole g.K.Value.emission g.V.Value.emission c.args.self.now.entries whole)
