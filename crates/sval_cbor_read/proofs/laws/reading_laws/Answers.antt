use Rattle.sval_cbor_read.proofs.laws.reading_laws.Goals as goal
use Rattle.sval_cbor_read.proofs.Complete.{item_is_read}
use Rattle.sval_cbor_read.proofs.OneReading.{one_document, read_spells, ends_well, stops_badly, no_large_number}
use Rattle.sval_cbor_read.proofs.Nearer.{step_nearer}
use Rattle.sval_cbor_read.proofs.OneDue.{one_due}
use Rattle.sval_cbor_read.proofs.OnePlace.{one_place}

pub returns : goal.returns
returns c = record {
  one_due = one_due;
  documents_spell = λ bytes tree item. (item_is_read bytes tree item).1;
  items_are_read = λ bytes tree item. (item_is_read bytes tree item).0;
  read_is_item = read_spells;
  read_in_one_way = one_document;
  reading_ends_well = ends_well;
  reading_stops_at_bad_bytes = stops_badly;
  steps_stop_at_one_place = one_place;
  large_numbers_are_bad_bytes = no_large_number;
  steps_come_nearer = step_nearer;
}
