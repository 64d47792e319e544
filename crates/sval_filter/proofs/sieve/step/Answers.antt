use Rattle.std.proofs.Common.{◌≡◌, true, ap, ◌∙◌, sym, inl, inr}
use Rattle.sval_label.specs.Made.{call_of}
use Rattle.sval_label.specs.Grouped.{seen_slot, grouped_call}
use Rattle.sval_filter.specs.Sieves.{sieve_view}
use Rattle.sval_filter.specs.Filtering.{without_size}
use Rattle.sval_filter.proofs.SieveSteps.{text_single, binary_single, is_single, is_begin, is_own_begin, is_value_end, steps_single, steps_hint, steps_begin, steps_own_begin, steps_end, steps_part_begin, steps_key_end, steps_part_end}
use Rattle.sval_filter.proofs.sieve.step.Goals as goal

pub returns-in-Null : goal.returns-in-Null
returns-in-Null g c =
    let kind : is_single (grouped_call g.L.Lending.text g.L.Lending.bytes c.grouped.result) ≡ true = elim c.in-Null.is [
      | inl is ↦ ap (λ call. is_single (grouped_call g.L.Lending.text g.L.Lending.bytes call)) is
      | inr rest ↦ elim rest [
        | inl is ↦ ap (λ call. is_single (grouped_call g.L.Lending.text g.L.Lending.bytes call)) is.1
        | inr rest ↦ elim rest [
          | inl is ↦ ap (λ call. is_single (grouped_call g.L.Lending.text g.L.Lending.bytes call)) is.1
          | inr rest ↦ elim rest [
            | inl is ↦ ap (λ call. is_single (grouped_call g.L.Lending.text g.L.Lending.bytes call)) is.1
            | inr rest ↦ elim rest [
              | inl is ↦ ap (λ call. is_single (grouped_call g.L.Lending.text g.L.Lending.bytes call)) is.1 ∙ text_single g.L.Lending.text is.0
              | inr is ↦ ap (λ call. is_single (grouped_call g.L.Lending.text g.L.Lending.bytes call)) is.1 ∙ binary_single g.L.Lending.bytes is.0
            ]
          ]
        ]
      ]
    ] in
    steps_single g.S.Stream.law (sieve_view g.S.Stream.standing c.args.sieve.now) (sieve_view g.S.Stream.standing c.single.new.sieve) c.single.result (call_of g.L.Lending.text g.L.Lending.bytes c.args.call)
    (ap is_single (sym (rw c.twice-call.ensures at (c.grouped.ensures g.L.Lending.text g.L.Lending.bytes))) ∙ kind) (rw c.twice-call.ensures at c.single.ensures)

pub returns-in-TagHint : goal.returns-in-TagHint
returns-in-TagHint g c =
    steps_hint g.S.Stream.law (sieve_view g.S.Stream.standing c.args.sieve.now) (sieve_view g.S.Stream.standing c.hint.new.sieve) c.hint.result (call_of g.L.Lending.text g.L.Lending.bytes c.args.call) (sym (rw c.twice-call.ensures at (c.in-TagHint.ensures g.L.Lending.text g.L.Lending.bytes))) (rw c.twice-call.ensures at c.hint.ensures)

pub returns-in-TextBegin : goal.returns-in-TextBegin
returns-in-TextBegin g c =
    let kind : is_own_begin (grouped_call g.L.Lending.text g.L.Lending.bytes c.grouped.result) ≡ true = elim c.in-TextBegin.is [
      | inl is ↦ ap (λ call. is_own_begin (grouped_call g.L.Lending.text g.L.Lending.bytes call)) is.1
      | inr rest ↦ elim rest [
        | inl is ↦ ap (λ call. is_own_begin (grouped_call g.L.Lending.text g.L.Lending.bytes call)) is.1
        | inr rest ↦ elim rest [
          | inl is ↦ ap (λ call. is_own_begin (grouped_call g.L.Lending.text g.L.Lending.bytes call)) is.1
          | inr is ↦ ap (λ call. is_own_begin (grouped_call g.L.Lending.text g.L.Lending.bytes call)) is.1
        ]
      ]
    ] in
    steps_own_begin g.S.Stream.law (sieve_view g.S.Stream.standing c.args.sieve.now) (sieve_view g.S.Stream.standing c.begin_same.new.sieve) c.begin_same.result (call_of g.L.Lending.text g.L.Lending.bytes c.args.call)
    (ap is_own_begin (sym (rw c.twice-call.ensures at (c.grouped.ensures g.L.Lending.text g.L.Lending.bytes))) ∙ kind) (rw c.twice-call.ensures at c.begin_same.ensures)

pub returns-in-Begin : goal.returns-in-Begin
returns-in-Begin g c =
    steps_begin g.S.Stream.law (sieve_view g.S.Stream.standing c.args.sieve.now) (sieve_view g.S.Stream.standing c.begin.new.sieve) c.begin.result (call_of g.L.Lending.text g.L.Lending.bytes c.args.call) (call_of g.L.Lending.text g.L.Lending.bytes c.call-relayed.result) (ap is_begin (sym (rw c.twice-call.ensures at (c.in-Begin.ensures g.L.Lending.text g.L.Lending.bytes)))) (c.call-relayed.ensures g.L.Lending.text g.L.Lending.bytes ∙ c.size_of.ensures ∙ sym (ap without_size (sym (rw c.twice-call.ensures at (c.in-Begin.ensures g.L.Lending.text g.L.Lending.bytes))))) (rw c.twice-call.ensures at c.begin.ensures)

pub returns-in-TextEnd : goal.returns-in-TextEnd
returns-in-TextEnd g c =
    let kind : is_value_end (grouped_call g.L.Lending.text g.L.Lending.bytes c.grouped.result) ≡ true = elim c.in-TextEnd.is [
      | inl is ↦ ap (λ call. is_value_end (grouped_call g.L.Lending.text g.L.Lending.bytes call)) is
      | inr rest ↦ elim rest [
        | inl is ↦ ap (λ call. is_value_end (grouped_call g.L.Lending.text g.L.Lending.bytes call)) is
        | inr rest ↦ elim rest [
          | inl is ↦ ap (λ call. is_value_end (grouped_call g.L.Lending.text g.L.Lending.bytes call)) is.1
          | inr rest ↦ elim rest [
            | inl is ↦ ap (λ call. is_value_end (grouped_call g.L.Lending.text g.L.Lending.bytes call)) is.1
            | inr is ↦ ap (λ call. is_value_end (grouped_call g.L.Lending.text g.L.Lending.bytes call)) is.1
          ]
        ]
      ]
    ] in
    steps_end g.S.Stream.law (sieve_view g.S.Stream.standing c.args.sieve.now) (sieve_view g.S.Stream.standing c.end.new.sieve) c.end.result (call_of g.L.Lending.text g.L.Lending.bytes c.args.call)
    (ap is_value_end (sym (rw c.twice-call.ensures at (c.grouped.ensures g.L.Lending.text g.L.Lending.bytes))) ∙ kind) (rw c.twice-call.ensures at c.end.ensures)

pub returns-in-PartBegin : goal.returns-in-PartBegin
returns-in-PartBegin g c =
    steps_part_begin g.S.Stream.law (sieve_view g.S.Stream.standing c.args.sieve.now) (sieve_view g.S.Stream.standing c.begin_part.new.sieve) c.begin_part.result (call_of g.L.Lending.text g.L.Lending.bytes c.args.call) (seen_slot c.in-PartBegin.slot) (sym (rw c.twice-call.ensures at (c.in-PartBegin.ensures g.L.Lending.text g.L.Lending.bytes))) (rw c.twice-call.ensures at c.begin_part.ensures)

pub returns-in-PartEnd : goal.returns-in-PartEnd
returns-in-PartEnd g c =
    steps_key_end g.S.Stream.law (sieve_view g.S.Stream.standing c.args.sieve.now) (sieve_view g.S.Stream.standing c.end_key.new.sieve) c.end_key.result (call_of g.L.Lending.text g.L.Lending.bytes c.args.call) (seen_slot c.in-PartEnd.field-0) (sym (rw c.twice-call.ensures at (c.in-PartEnd.ensures g.L.Lending.text g.L.Lending.bytes))) c.if-is_key.ensures (rw c.twice-call.ensures at c.end_key.ensures)

pub returns-in-PartEnd-2 : goal.returns-in-PartEnd-2
returns-in-PartEnd-2 g c =
    steps_part_end g.S.Stream.law (sieve_view g.S.Stream.standing c.args.sieve.now) (sieve_view g.S.Stream.standing c.end_part.new.sieve) c.end_part.result (call_of g.L.Lending.text g.L.Lending.bytes c.args.call) (seen_slot c.in-PartEnd-2.field-0) (sym (rw c.twice-call.ensures at (c.in-PartEnd-2.ensures g.L.Lending.text g.L.Lending.bytes))) c.if-is_key.ensures (rw c.twice-call.ensures at c.end_part.ensures)
