use Rattle.sval_cbor_read.proofs.laws.item_laws.Goals as goal
use Rattle.sval_cbor_read.proofs.OneTree.{item_has_one_tree}
use Rattle.sval_cbor_read.proofs.Heads.{head_read}
use Rattle.sval_cbor_read.proofs.LeastHeads.{head_least}
use Rattle.sval_cbor_read.proofs.WellFormed.{item_is_well_formed, well_formed_has_one_rest}
use Rattle.sval_cbor_read.proofs.RealItems.{item_is_real, refused_by_key}

pub returns : goal.returns
returns c = record {
  item_has_one_tree = item_has_one_tree;
  items_are_well_formed = item_is_well_formed;
  well_formed_has_one_rest = well_formed_has_one_rest;
  items_are_real = item_is_real;
  items_are_refused_by_key = refused_by_key;
  heads_are_read = head_read;
  heads_are_shortest = head_least;
}
