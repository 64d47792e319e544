-- Calls: what is read is what was written, and what was written is read again, whatever follows it.
use Rattle.std.proofs.Common.{◌≡◌, ℕ, zero, suc, ◌+◌, ◌≤◌, true, false, List, [], ◌∷◌, ◌++◌, length, Option, Some, None, refl, sym, ap, subst, ◌∙◌, arith}
use Rattle.std.specs.Prelude.{slice_get, option_map, ⊤}
use Rattle.std.specs.List.{AllByRecursion}
use Rattle.std.proofs.lemmas.Option.{same_Some}
use Rattle.std.proofs.lemmas.List.{length-append}
use Rattle.sval_label.specs.Calls.{U8, U16, U32, U64, U128, I8, I16, I32, I64, I128, Call, Null, Truth, Int, Standalone, TagHint, TextBegin, TextFragment, TextEnd, BinaryBegin, BinaryFragment, BinaryEnd, EnumBegin, EnumEnd, TaggedBegin, TaggedEnd, Begin, End, PartBegin, PartEnd, Seq, Map, Record, Tuple, RecordTuple, Item, Key, Value, Field, Place, FieldPlace}
use Rattle.sval_tape.specs.Tapes.{operands, call_number, call_bytes, tape_of}
use Rattle.sval_tape.specs.Reading.{ReadsAtFront, seen_at, tape_forms, operands_at, call_at_front, calls_up_to, calls_on_tape}
use Rattle.sval_tape.specs.Taped.{IsTapedCall, IsTape}
use Rattle.sval_tape.proofs.Tapes.{tape-cons, tape-nil}
use Rattle.sval_tape.proofs.OperandReads.{IsBytes, Takes, IsOperand, some_then, some_seen, bytes_rest, nothing_operand, truth_operand, block_operand}
use Rattle.sval_tape.proofs.Names.{int_operand, size_operand, text_operand, tag_operand, name_operand, name_and_size_operand, field_operand, place_operand, field_place_operand}

-- what is read behind this number are the operands of a call that has it
pub record IsRow (number : ℕ) (form : ReadsAtFront Call) : Type 0 where
  pub takes : (bytes : List ℕ) (call : Call) (rest : List ℕ) → IsBytes bytes → form bytes ≡ Some (call, rest) → Takes bytes (operands call) rest × IsTapedCall call × (call_number call ≡ number)

-- these forms, from this number on
AreRows : ℕ → List (ReadsAtFront Call) → Type 0
AreRows number [] = ⊤
AreRows number (form ∷ tape_forms) = IsRow number form × AreRows (suc number) tape_forms

-- an operand makes the call of its row
module _ {A : Type 0} {Fits : A → Type 0} {put : A → List ℕ} {get : ReadsAtFront A} (operand : IsOperand Fits put get) where
  row : (number : ℕ) (make : A → Call) → ((x : A) → Fits x → IsTapedCall (make x)) → ((x : A) → operands (make x) ≡ put x) → ((x : A) → call_number (make x) ≡ number) → IsRow number (seen_at make get)
  row number make taped written numbered = record {
    takes = λ bytes call rest fits e.
        let (x, got, is) = some_seen (λ (r : A × List ℕ). (make r.0, r.1)) (get bytes) (call, rest) e in
        let t = operand.takes bytes x.0 x.1 fits got in
        let made : Takes bytes (operands (make x.0)) x.1 × IsTapedCall (make x.0) × (call_number (make x.0) ≡ number) =
        (record { parts = t.0.parts ∙ ap (λ (w : List ℕ). w ++ x.1) (sym (written x.0)); rest_fits = t.0.rest_fits }, taped x.0 t.1, numbered x.0) in
        subst (λ (r : Call × List ℕ). Takes bytes (operands r.0) r.1 × IsTapedCall r.0 × (call_number r.0 ≡ number)) is made;
  }

  again : (make : A → Call) (x : A) (rest : List ℕ) → Fits x → seen_at make get (put x ++ rest) ≡ Some (make x, rest)
  again make x rest fits = ap (option_map (λ (r : A × List ℕ). (make r.0, r.1))) (operand.again x rest fits)

-- each form of the table
rows : AreRows 0 tape_forms
unfolding tape_forms AreRows
rows = (
  row nothing_operand 0 (λ _. Null) (λ x fits. tt) (λ x. refl) (λ x. refl),
  (
    row truth_operand 1 Truth (λ x fits. tt) (λ x. refl) (λ x. refl),
    (
      row (int_operand U8) 2 (Int U8) (λ x fits. fits) (λ x. refl) (λ x. refl),
      (
        row (int_operand U16) 3 (Int U16) (λ x fits. fits) (λ x. refl) (λ x. refl),
        (
          row (int_operand U32) 4 (Int U32) (λ x fits. fits) (λ x. refl) (λ x. refl),
          (
            row (int_operand U64) 5 (Int U64) (λ x fits. fits) (λ x. refl) (λ x. refl),
            (
              row (int_operand U128) 6 (Int U128) (λ x fits. fits) (λ x. refl) (λ x. refl),
              (
                row (int_operand I8) 7 (Int I8) (λ x fits. fits) (λ x. refl) (λ x. refl),
                (
                  row (int_operand I16) 8 (Int I16) (λ x fits. fits) (λ x. refl) (λ x. refl),
                  (
                    row (int_operand I32) 9 (Int I32) (λ x fits. fits) (λ x. refl) (λ x. refl),
                    (
                      row (int_operand I64) 10 (Int I64) (λ x fits. fits) (λ x. refl) (λ x. refl),
                      (
                        row (int_operand I128) 11 (Int I128) (λ x fits. fits) (λ x. refl) (λ x. refl),
                        (
                          row size_operand 12 TextBegin (λ x fits. fits) (λ x. refl) (λ x. refl),
                          (
                            row text_operand 13 (TextFragment true) (λ x fits. fits) (λ x. refl) (λ x. refl),
                            (
                              row text_operand 14 (TextFragment false) (λ x fits. fits) (λ x. refl) (λ x. refl),
                              (
                                row nothing_operand 15 (λ _. TextEnd) (λ x fits. tt) (λ x. refl) (λ x. refl),
                                (
                                  row size_operand 16 BinaryBegin (λ x fits. fits) (λ x. refl) (λ x. refl),
                                  (
                                    row block_operand 17 (BinaryFragment true) (λ x fits. fits) (λ x. refl) (λ x. refl),
                                    (
                                      row block_operand 18 (BinaryFragment false) (λ x fits. fits) (λ x. refl) (λ x. refl),
                                      (
                                        row nothing_operand 19 (λ _. BinaryEnd) (λ x fits. tt) (λ x. refl) (λ x. refl),
                                        (
                                          row name_operand 20 Standalone (λ x fits. fits) (λ x. refl) (λ x. refl),
                                          (
                                            row tag_operand 21 TagHint (λ x fits. fits) (λ x. refl) (λ x. refl),
                                            (
                                              row name_operand 22 EnumBegin (λ x fits. fits) (λ x. refl) (λ x. refl),
                                              (
                                                row name_operand 23 EnumEnd (λ x fits. fits) (λ x. refl) (λ x. refl),
                                                (
                                                  row name_operand 24 TaggedBegin (λ x fits. fits) (λ x. refl) (λ x. refl),
                                                  (
                                                    row name_operand 25 TaggedEnd (λ x fits. fits) (λ x. refl) (λ x. refl),
                                                    (
                                                      row size_operand 26 (Begin Seq) (λ x fits. (tt, fits)) (λ x. refl) (λ x. refl),
                                                      (
                                                        row size_operand 27 (Begin Map) (λ x fits. (tt, fits)) (λ x. refl) (λ x. refl),
                                                        (
                                                          row name_and_size_operand 28 (λ x. Begin (Record x.0) x.1) (λ x fits. fits) (λ x. refl) (λ x. refl),
                                                          (
                                                            row name_and_size_operand 29 (λ x. Begin (Tuple x.0) x.1) (λ x fits. fits) (λ x. refl) (λ x. refl),
                                                            (
                                                              row name_and_size_operand 30 (λ x. Begin (RecordTuple x.0) x.1) (λ x fits. fits) (λ x. refl) (λ x. refl),
                                                              (
                                                                row nothing_operand 31 (λ _. End Seq) (λ x fits. tt) (λ x. refl) (λ x. refl),
                                                                (
                                                                  row nothing_operand 32 (λ _. End Map) (λ x fits. tt) (λ x. refl) (λ x. refl),
                                                                  (
                                                                    row name_operand 33 (λ x. End (Record x)) (λ x fits. fits) (λ x. refl) (λ x. refl),
                                                                    (
                                                                      row name_operand 34 (λ x. End (Tuple x)) (λ x fits. fits) (λ x. refl) (λ x. refl),
                                                                      (
                                                                        row name_operand 35 (λ x. End (RecordTuple x)) (λ x fits. fits) (λ x. refl) (λ x. refl),
                                                                        (
                                                                          row nothing_operand 36 (λ _. PartBegin Item) (λ x fits. tt) (λ x. refl) (λ x. refl),
                                                                          (
                                                                            row nothing_operand 37 (λ _. PartBegin Key) (λ x fits. tt) (λ x. refl) (λ x. refl),
                                                                            (
                                                                              row nothing_operand 38 (λ _. PartBegin Value) (λ x fits. tt) (λ x. refl) (λ x. refl),
                                                                              (
                                                                                row field_operand 39 (λ x. PartBegin (Field x.0 x.1)) (λ x fits. fits) (λ x. refl) (λ x. refl),
                                                                                (
                                                                                  row place_operand 40 (λ x. PartBegin (Place x.0 x.1)) (λ x fits. fits) (λ x. refl) (λ x. refl),
                                                                                  (
                                                                                    row field_place_operand 41 (λ x. PartBegin (FieldPlace x.0 x.1.0 x.1.1)) (λ x fits. (fits.0, fits.1.0, fits.1.1)) (λ x. refl) (λ x. refl),
                                                                                    (
                                                                                      row nothing_operand 42 (λ _. PartEnd Item) (λ x fits. tt) (λ x. refl) (λ x. refl),
                                                                                      (
                                                                                        row nothing_operand 43 (λ _. PartEnd Key) (λ x fits. tt) (λ x. refl) (λ x. refl),
                                                                                        (
                                                                                          row nothing_operand 44 (λ _. PartEnd Value) (λ x fits. tt) (λ x. refl) (λ x. refl),
                                                                                          (
                                                                                            row field_operand 45 (λ x. PartEnd (Field x.0 x.1)) (λ x fits. fits) (λ x. refl) (λ x. refl),
                                                                                            (
                                                                                              row place_operand 46 (λ x. PartEnd (Place x.0 x.1)) (λ x fits. fits) (λ x. refl) (λ x. refl),
                                                                                              (
                                                                                                row field_place_operand 47 (λ x. PartEnd (FieldPlace x.0 x.1.0 x.1.1)) (λ x fits. (fits.0, fits.1.0, fits.1.1)) (λ x. refl) (λ x. refl),
                                                                                                tt,
                                                                                              ),
                                                                                            ),
                                                                                          ),
                                                                                        ),
                                                                                      ),
                                                                                    ),
                                                                                  ),
                                                                                ),
                                                                              ),
                                                                            ),
                                                                          ),
                                                                        ),
                                                                      ),
                                                                    ),
                                                                  ),
                                                                ),
                                                              ),
                                                            ),
                                                          ),
                                                        ),
                                                      ),
                                                    ),
                                                  ),
                                                ),
                                              ),
                                            ),
                                          ),
                                        ),
                                      ),
                                    ),
                                  ),
                                ),
                              ),
                            ),
                          ),
                        ),
                      ),
                    ),
                  ),
                ),
              ),
            ),
          ),
        ),
      ),
    ),
  ),
)

row_at : (number : ℕ) (tape_forms : List (ReadsAtFront Call)) (i : ℕ) (form : ReadsAtFront Call) (which : ℕ) → which ≡ i + number → AreRows number tape_forms → slice_get tape_forms i ≡ Some form → IsRow which form
unfolding AreRows
row_at number [] i form which is rows got = absurd (cc got)
row_at number (first ∷ tape_forms) zero form which is rows got =
    let same : number ≡ which = omega (arith, is) in
    subst (λ f. IsRow which f) (same_Some first form got) (subst (λ k. IsRow k first) same rows.0)
row_at number (first ∷ tape_forms) (suc i) form which is rows got = row_at (suc number) tape_forms i form which (omega (arith, is)) rows.1 got

pub call_takes : (bytes : List ℕ) (call : Call) (rest : List ℕ) → IsBytes bytes → call_at_front bytes ≡ Some (call, rest) → Takes bytes (call_bytes call) rest × IsTapedCall call
unfolding operands_at
call_takes [] call rest fits e = absurd (cc e)
call_takes (number ∷ bytes) call rest fits e =
    let (form, got, read) = some_then (λ (form : ReadsAtFront Call). form bytes) (slice_get tape_forms number) (call, rest) e in
    let r = row_at 0 tape_forms number form number (omega arith) rows got in
    let (taken, taped, numbered) = r.takes bytes call rest (bytes_rest number bytes fits) read in
    (record { parts = ap (λ (w : List ℕ). number ∷ w) taken.parts ∙ ap (λ k. k ∷ (operands call ++ rest)) (sym numbered); rest_fits = taken.rest_fits }, taped)

pub call_again : (call : Call) (rest : List ℕ) → IsTapedCall call → call_at_front (call_bytes call ++ rest) ≡ Some (call, rest)
unfolding operands_at tape_forms
call_again Null rest fits = refl
call_again (Truth b) rest fits = again truth_operand Truth b rest tt
call_again (Int U8 n) rest fits = again (int_operand U8) (Int U8) n rest fits
call_again (Int U16 n) rest fits = again (int_operand U16) (Int U16) n rest fits
call_again (Int U32 n) rest fits = again (int_operand U32) (Int U32) n rest fits
call_again (Int U64 n) rest fits = again (int_operand U64) (Int U64) n rest fits
call_again (Int U128 n) rest fits = again (int_operand U128) (Int U128) n rest fits
call_again (Int I8 n) rest fits = again (int_operand I8) (Int I8) n rest fits
call_again (Int I16 n) rest fits = again (int_operand I16) (Int I16) n rest fits
call_again (Int I32 n) rest fits = again (int_operand I32) (Int I32) n rest fits
call_again (Int I64 n) rest fits = again (int_operand I64) (Int I64) n rest fits
call_again (Int I128 n) rest fits = again (int_operand I128) (Int I128) n rest fits
call_again (Standalone name) rest fits = again name_operand Standalone name rest fits
call_again (TagHint tag) rest fits = again tag_operand TagHint tag rest fits
call_again (TextBegin size) rest fits = again size_operand TextBegin size rest fits
call_again (TextFragment true text) rest fits = again text_operand (TextFragment true) text rest fits
call_again (TextFragment false text) rest fits = again text_operand (TextFragment false) text rest fits
call_again TextEnd rest fits = refl
call_again (BinaryBegin size) rest fits = again size_operand BinaryBegin size rest fits
call_again (BinaryFragment true bytes) rest fits = again block_operand (BinaryFragment true) bytes rest fits
call_again (BinaryFragment false bytes) rest fits = again block_operand (BinaryFragment false) bytes rest fits
call_again BinaryEnd rest fits = refl
call_again (EnumBegin name) rest fits = again name_operand EnumBegin name rest fits
call_again (EnumEnd name) rest fits = again name_operand EnumEnd name rest fits
call_again (TaggedBegin name) rest fits = again name_operand TaggedBegin name rest fits
call_again (TaggedEnd name) rest fits = again name_operand TaggedEnd name rest fits
call_again (Begin Seq size) rest fits = again size_operand (Begin Seq) size rest fits.1
call_again (Begin Map size) rest fits = again size_operand (Begin Map) size rest fits.1
call_again (Begin (Record name) size) rest fits = again name_and_size_operand (λ x. Begin (Record x.0) x.1) (name, size) rest fits
call_again (Begin (Tuple name) size) rest fits = again name_and_size_operand (λ x. Begin (Tuple x.0) x.1) (name, size) rest fits
call_again (Begin (RecordTuple name) size) rest fits = again name_and_size_operand (λ x. Begin (RecordTuple x.0) x.1) (name, size) rest fits
call_again (End Seq) rest fits = refl
call_again (End Map) rest fits = refl
call_again (End (Record name)) rest fits = again name_operand (λ x. End (Record x)) name rest fits
call_again (End (Tuple name)) rest fits = again name_operand (λ x. End (Tuple x)) name rest fits
call_again (End (RecordTuple name)) rest fits = again name_operand (λ x. End (RecordTuple x)) name rest fits
call_again (PartBegin Item) rest fits = refl
call_again (PartBegin Key) rest fits = refl
call_again (PartBegin Value) rest fits = refl
call_again (PartBegin (Field tag label)) rest fits = again field_operand (λ x. PartBegin (Field x.0 x.1)) (tag, label) rest fits
call_again (PartBegin (Place tag index)) rest fits = again place_operand (λ x. PartBegin (Place x.0 x.1)) (tag, index) rest fits
call_again (PartBegin (FieldPlace tag label index)) rest fits = again field_place_operand (λ x. PartBegin (FieldPlace x.0 x.1.0 x.1.1)) (tag, (label, index)) rest (fits.0, (fits.1, fits.2))
call_again (PartEnd Item) rest fits = refl
call_again (PartEnd Key) rest fits = refl
call_again (PartEnd Value) rest fits = refl
call_again (PartEnd (Field tag label)) rest fits = again field_operand (λ x. PartEnd (Field x.0 x.1)) (tag, label) rest fits
call_again (PartEnd (Place tag index)) rest fits = again place_operand (λ x. PartEnd (Place x.0 x.1)) (tag, index) rest fits
call_again (PartEnd (FieldPlace tag label index)) rest fits = again field_place_operand (λ x. PartEnd (FieldPlace x.0 x.1.0 x.1.1)) (tag, (label, index)) rest (fits.0, (fits.1, fits.2))

-- ---- tapes

-- the calls of a tape
up_to_tape : (count : ℕ) (calls : List Call) (bytes : List ℕ) → AllByRecursion IsTapedCall calls → bytes ≡ tape_of calls → length bytes ≤ count → calls_up_to count bytes ≡ calls
up_to_tape zero [] bytes taped are le = refl
up_to_tape (suc count) [] bytes taped are le = ap (calls_up_to (suc count)) (are ∙ tape-nil)
up_to_tape zero (call ∷ calls) bytes taped are le =
    let size : length bytes ≡ length (call_bytes call ++ tape_of calls) = ap length (are ∙ tape-cons call calls) in
    let more : length (call_bytes call ++ tape_of calls) ≡ suc (length (operands call ++ tape_of calls)) = refl in
    absurd (omega arith)
up_to_tape (suc count) (call ∷ calls) bytes taped are le =
    let spelled : bytes ≡ call_bytes call ++ tape_of calls = are ∙ tape-cons call calls in
    let size : length bytes ≡ suc (length (operands call ++ tape_of calls)) = ap length spelled in
    let whole : length (operands call ++ tape_of calls) ≡ length (operands call) + length (tape_of calls) = length-append (operands call) (tape_of calls) in
    let read : call_at_front bytes ≡ Some (call, tape_of calls) = ap call_at_front spelled ∙ call_again call (tape_of calls) taped.0 in
    let Rest : Option (Call × List ℕ) → List Call = λ o. elim o [ None ↦ [] | Some x ↦ x.0 ∷ calls_up_to count x.1 ] in
    ap Rest read ∙ ap (λ (cs : List Call). call ∷ cs) (up_to_tape count calls (tape_of calls) taped.1 refl (omega arith))

-- the calls of a tape are those that it is read as
pub calls_of_tape : (bytes : List ℕ) (calls : List Call) → IsTape bytes calls → calls_on_tape bytes ≡ calls
unfolding calls_on_tape
calls_of_tape bytes calls tape = up_to_tape (length bytes) calls bytes tape.taped tape.bytes_are (omega arith)
