use Rattle.std.specs.Prelude.{refl}
use Rattle.std.specs.Str.{bytes_eq}
use Rattle.std.specs.Hash.{str, i128, same_Alike, on_Alike}
use Rattle.std.specs.Ordering.{int_eq}
use Rattle.std.proofs.lemmas.Slice.Eq.{bytes_eq-Decides}
use Rattle.std.proofs.lemmas.Bool.Decides.{Decides-int_eq}
use Rattle.std.proofs.lemmas.Cmp.{nat_list_eq_equiv, int_eq_equiv, int_cmp_total, on_equiv, on_total}
use Rattle.sval_label.specs.Calls.{Label, Index}
use Rattle.sval_label.proofs.laws.equality_laws.Goals as goal

pub returns-clause-tags_by_texts : goal.returns-clause-tags_by_texts
returns-clause-tags_by_texts c = record { decides = bytes_eq-Decides; equivalence = nat_list_eq_equiv }

pub returns-clause-labels_by_texts : goal.returns-clause-labels_by_texts
returns-clause-labels_by_texts c = record {
  decides = λ a b. bytes_eq-Decides a.text b.text;
  equivalence = on_equiv (λ (label : Label). label.text) nat_list_eq_equiv;
  hashed = on_Alike (λ (label : Label). label.text) (same_Alike {E = bytes_eq} str bytes_eq-Decides);
}

pub returns-clause-indexes_by_numbers : goal.returns-clause-indexes_by_numbers
returns-clause-indexes_by_numbers c = record {
  decides = λ a b. Decides-int_eq a.number b.number;
  equivalence = on_equiv (λ (index : Index). index.number) int_eq_equiv;
  order = on_total (λ (index : Index). index.number) int_cmp_total;
  agree = λ a b. refl;
  hashed = on_Alike (λ (index : Index). index.number) (same_Alike {E = int_eq} i128 Decides-int_eq);
}
