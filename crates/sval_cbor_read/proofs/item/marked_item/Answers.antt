use Rattle.std.proofs.Common.{None, true, false, sym, subst, refl}
use Rattle.sval_cbor_read.specs.declared.item.Item.TheVariants.{Whole, Container, Pieces}
use Rattle.sval_cbor_read.specs.declared.item.Medium.TheVariants.{Text, Binary}
use Rattle.sval_cbor_read.specs.declared.stack.Frame.TheVariants.{Items, Keys}
use Rattle.sval_cbor_read.specs.HeadFronts.{byte_chunks, text_chunks, array_up_to_break, map_up_to_break, falsehood, truth, null}
use Rattle.sval_cbor_read.specs.SeenItems.{IsMarked}
use Rattle.sval_cbor_read.proofs.BegunItems.{truth_is_whole, null_is_whole, seq_begins, map_begins, text_chunks_begin, byte_chunks_begin}
use Rattle.sval_cbor_read.proofs.item.marked_item.Goals as goal

pub returns-in-95-clause-found : goal.returns-in-95-clause-found
returns-in-95-clause-found c = subst (λ first. IsMarked first (Pieces Binary)) (sym c.in-95.is) (record { moves = λ all bytes begun frames. refl; is = λ all bytes begun. byte_chunks_begin; head_is = λ bytes. byte_chunks })

pub returns-in-127-clause-found : goal.returns-in-127-clause-found
returns-in-127-clause-found c = subst (λ first. IsMarked first (Pieces Text)) (sym c.in-127.is) (record { moves = λ all bytes begun frames. refl; is = λ all bytes begun. text_chunks_begin; head_is = λ bytes. text_chunks })

pub returns-in-159-clause-found : goal.returns-in-159-clause-found
returns-in-159-clause-found c = subst (λ first. IsMarked first (Container (Items None))) (sym c.in-159.is) (record { moves = λ all bytes begun frames. refl; is = λ all bytes begun. seq_begins; head_is = λ bytes. array_up_to_break })

pub returns-in-191-clause-found : goal.returns-in-191-clause-found
returns-in-191-clause-found c = subst (λ first. IsMarked first (Container (Keys None))) (sym c.in-191.is) (record { moves = λ all bytes begun frames. refl; is = λ all bytes begun. map_begins; head_is = λ bytes. map_up_to_break })

pub returns-in-244-clause-found : goal.returns-in-244-clause-found
returns-in-244-clause-found c = subst (λ first. IsMarked first Whole) (sym c.in-244.is) (record { moves = λ all bytes begun frames. refl; is = λ all bytes begun. truth_is_whole false; head_is = λ bytes. falsehood })

pub returns-in-245-clause-found : goal.returns-in-245-clause-found
returns-in-245-clause-found c = subst (λ first. IsMarked first Whole) (sym c.in-245.is) (record { moves = λ all bytes begun frames. refl; is = λ all bytes begun. truth_is_whole true; head_is = λ bytes. truth })

pub returns-in-246-clause-found : goal.returns-in-246-clause-found
returns-in-246-clause-found c = subst (λ first. IsMarked first Whole) (sym c.in-246.is) (record { moves = λ all bytes begun frames. refl; is = λ all bytes begun. null_is_whole; head_is = λ bytes. null })
