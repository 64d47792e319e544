use Rattle.std.specs.Str.{bytes_eq}
use Rattle.std.specs.Hash.{str, same_Alike, on_Alike}
use Rattle.std.proofs.lemmas.Slice.Eq.{bytes_eq-Decides}
use Rattle.std.proofs.lemmas.Cmp.{nat_list_eq_equiv, on_equiv}
use Rattle.sval_json.specs.JsonTexts.{json_text}
use Rattle.sval_json.proofs.laws.equality_laws.Goals as goal

pub returns : goal.returns
returns c = record {
  json_strs_by_texts = record {
    decides = λ a b. bytes_eq-Decides (json_text a) (json_text b);
    equivalence = on_equiv json_text nat_list_eq_equiv;
    hashed = on_Alike json_text (same_Alike {E = bytes_eq} str bytes_eq-Decides);
  };
}
