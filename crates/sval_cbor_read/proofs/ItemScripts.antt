-- The script of a document's calls is the canonical script of its tree.
use Rattle.std.specs.Prelude.{◌≡◌, ℕ, ℤ, pos, negsuc, ◌+◌, ◌≤◌, Bool, true, false, List, [], ◌∷◌, ◌++◌, codes, decimal, length, map, take, Option, Some, None, refl}
use Rattle.std.specs.Fmt.{signed_decimal}
use Rattle.std.proofs.Common.{sym, ap, ◌∙◌, arith, append_assoc, length-append}
use Rattle.std.proofs.lemmas.List.{length-take}
use Rattle.hex.specs.Hex.{encode_with, encode_lower}
use Rattle.sval_label.specs.Calls.{Call, IntType, U64, U128, I128, Slot}
use Rattle.sval_label.specs.Calls as calls
use Rattle.sval_core.specs.Trees.{Tree, Parts, part_calls_then, calls_then}
use Rattle.sval_core.specs.Trees as trees
use Rattle.sval_script.specs.Printed.{type_word, printed, line}
use Rattle.sval_script.specs.Canon.{canon}
use Rattle.sval_json_read.proofs.TokenScripts.{encode-append}
use Rattle.sval_cbor_read.specs.Items.{negative_type, big_endian, ArePieces, break, piece, IsItem, by_head, bytes_in_pieces, texts_in_pieces, seq_to_break, map_to_break, falsehood, truth, null, IsBody, unsigned, negative, binary, text, seq, map as map_body, big, negative_big, tagged, AreItems, no_items, an_item, AreEntries, no_pairs, a_pair, ItemsToBreak, items_end, items_go_on, EntriesToBreak, entries_end, entries_go_on}
use Rattle.sval_cbor_read.specs.Document.{pieces_of, cbor_calls, body_calls, items_calls, entries_calls, items_to_break_calls, entries_to_break_calls}
use Rattle.sval_cbor_read.specs.ItemScripts.{chunks_length, script_before, item_script}

-- ---- the script of an item is canonical

-- a call whose line is what it adds, whatever size and whatever follows
HasLine : Call → Type 0
HasLine call = (size : ℕ) (more : List ℕ) → script_before size call more ≡ (line call ++ (10 ∷ [])) ++ more

no_lines : item_script [] ≡ printed []
unfolding printed
no_lines = refl

null_line : HasLine Call.Null
unfolding HasLine line
null_line size more = refl

truth_line : (b : Bool) → HasLine (Call.Truth b)
unfolding HasLine line
truth_line true size more = refl
truth_line false size more = refl

int_line : (type : IntType) (number : ℤ) → HasLine (Call.Int type number)
unfolding HasLine line
int_line type number size more =
    let digits = signed_decimal number in
    sym (append_assoc (type_word type ++ (32 ∷ digits)) (10 ∷ []) more ∙ append_assoc (type_word type) (32 ∷ digits) (10 ∷ more))

seq_end_line : HasLine (Call.End calls.Seq)
unfolding HasLine line
seq_end_line size more = refl

map_end_line : HasLine (Call.End calls.Map)
unfolding HasLine line
map_end_line size more = refl

item_begin_line : HasLine (Call.PartBegin calls.Item)
unfolding HasLine line
item_begin_line size more = refl

item_end_line : HasLine (Call.PartEnd calls.Item)
unfolding HasLine line
item_end_line size more = refl

key_begin_line : HasLine (Call.PartBegin calls.Key)
unfolding HasLine line
key_begin_line size more = refl

key_end_line : HasLine (Call.PartEnd calls.Key)
unfolding HasLine line
key_end_line size more = refl

value_begin_line : HasLine (Call.PartBegin calls.Value)
unfolding HasLine line
value_begin_line size more = refl

value_end_line : HasLine (Call.PartEnd calls.Value)
unfolding HasLine line
value_end_line size more = refl

-- one call more
then_same : (call : Call) (made plain : List Call) → HasLine call → item_script made ≡ printed plain → item_script (call ∷ made) ≡ printed (call ∷ plain)
unfolding HasLine printed
then_same call made plain h e = h (chunks_length made) (item_script made) ∙ ap (λ more. (line call ++ (10 ∷ [])) ++ more) e

-- the begin of an array or a map, which adds no size
seq_same : (told : Option ℕ) (made plain : List Call) → item_script made ≡ printed plain → item_script (Call.Begin calls.Seq told ∷ made) ≡ printed (Call.Begin calls.Seq None ∷ plain)
unfolding printed line
seq_same told made plain e = ap (λ more. codes "seq_begin -\n" ++ more) e

map_same : (told : Option ℕ) (made plain : List Call) → item_script made ≡ printed plain → item_script (Call.Begin calls.Map told ∷ made) ≡ printed (Call.Begin calls.Map None ∷ plain)
unfolding printed line
map_same told made plain e = ap (λ more. codes "map_begin -\n" ++ more) e

-- a text in one fragment, and what follows it
text_before : ℕ → List ℕ → List ℕ → List ℕ
text_before size letters more = codes "text_begin " ++ (decimal size ++ (codes "\ntext_fragment =" ++ (encode_lower letters ++ (codes "\ntext_end\n" ++ more))))

binary_before : ℕ → List ℕ → List ℕ → List ℕ
binary_before size bytes more = codes "binary_begin " ++ (decimal size ++ (codes "\nbinary_fragment =" ++ (encode_lower bytes ++ (codes "\nbinary_end\n" ++ more))))

text_same : (size : ℕ) (letters : List ℕ) (made plain : List Call) → size ≡ length letters → item_script made ≡ printed plain
    → text_before size letters (item_script made) ≡ printed (Call.TextBegin (Some (length letters)) ∷ Call.TextFragment true letters ∷ Call.TextEnd ∷ plain)
unfolding text_before printed line
text_same size letters made plain e h =
    let n = decimal (length letters) in
    let digits = encode_lower letters in
    let behind = codes "text_end\n" ++ printed plain in
    ap (λ size. text_before size letters (item_script made)) e ∙ ap (text_before (length letters) letters) h
    ∙ sym (ap (λ more. codes "text_begin " ++ more) (
    append_assoc n (10 ∷ []) (codes "text_fragment =" ++ ((digits ++ (10 ∷ [])) ++ behind)) ∙ ap (λ more. n ++ (codes "\ntext_fragment =" ++ more)) (append_assoc digits (10 ∷ []) behind)
    ))

binary_same : (size : ℕ) (bytes : List ℕ) (made plain : List Call) → size ≡ length bytes → item_script made ≡ printed plain
    → binary_before size bytes (item_script made) ≡ printed (Call.BinaryBegin (Some (length bytes)) ∷ Call.BinaryFragment true bytes ∷ Call.BinaryEnd ∷ plain)
unfolding binary_before printed line
binary_same size bytes made plain e h =
    let n = decimal (length bytes) in
    let digits = encode_lower bytes in
    let behind = codes "binary_end\n" ++ printed plain in
    ap (λ size. binary_before size bytes (item_script made)) e ∙ ap (binary_before (length bytes) bytes) h
    ∙ sym (ap (λ more. codes "binary_begin " ++ more) (
    append_assoc n (10 ∷ []) (codes "binary_fragment =" ++ ((digits ++ (10 ∷ [])) ++ behind)) ∙ ap (λ more. n ++ (codes "\nbinary_fragment =" ++ more)) (append_assoc digits (10 ∷ []) behind)
    ))

pub whole_size : (n : ℕ) (after : List ℕ) → n ≤ length after → n ≡ length (take n after)
whole_size n after l = omega (arith, length-take n after)

-- the chunks of a text have its length, and its digits
text_chunks_length : {major : ℕ} {bytes content rest : List ℕ} (p : ArePieces major bytes content rest) (made : List Call) → chunks_length (map (Call.TextFragment true) (pieces_of p) ++ Call.TextEnd ∷ made) ≡ length content
text_chunks_length break made = refl
text_chunks_length (piece {content = content} {more = more} s p) made = ap (λ n. length content + n) (text_chunks_length p made) ∙ sym (length-append content more)

binary_chunks_length : {major : ℕ} {bytes content rest : List ℕ} (p : ArePieces major bytes content rest) (made : List Call) → chunks_length (map (Call.BinaryFragment true) (pieces_of p) ++ Call.BinaryEnd ∷ made) ≡ length content
binary_chunks_length break made = refl
binary_chunks_length (piece {content = content} {more = more} s p) made = ap (λ n. length content + n) (binary_chunks_length p made) ∙ sym (length-append content more)

digits_of_both : (content more behind : List ℕ) → encode_lower content ++ (encode_lower more ++ behind) ≡ encode_lower (content ++ more) ++ behind
digits_of_both content more behind = sym (append_assoc (encode_lower content) (encode_lower more) behind) ∙ ap (λ digits. digits ++ behind) (sym (encode-append content more))

text_chunks_script : {major : ℕ} {bytes content rest : List ℕ} (p : ArePieces major bytes content rest) (made : List Call)
    → item_script (map (Call.TextFragment true) (pieces_of p) ++ Call.TextEnd ∷ made) ≡ encode_lower content ++ (codes "\ntext_end\n" ++ item_script made)
unfolding encode_with
text_chunks_script break made = refl
text_chunks_script (piece {content = content} {more = more} s p) made = ap (λ x. encode_lower content ++ x) (text_chunks_script p made) ∙ digits_of_both content more (codes "\ntext_end\n" ++ item_script made)

binary_chunks_script : {major : ℕ} {bytes content rest : List ℕ} (p : ArePieces major bytes content rest) (made : List Call)
    → item_script (map (Call.BinaryFragment true) (pieces_of p) ++ Call.BinaryEnd ∷ made) ≡ encode_lower content ++ (codes "\nbinary_end\n" ++ item_script made)
unfolding encode_with
binary_chunks_script break made = refl
binary_chunks_script (piece {content = content} {more = more} s p) made = ap (λ x. encode_lower content ++ x) (binary_chunks_script p made) ∙ digits_of_both content more (codes "\nbinary_end\n" ++ item_script made)

-- a string in chunks
chunked_text : {bytes content rest : List ℕ} (p : ArePieces 3 bytes content rest) (made plain : List Call) → item_script made ≡ printed plain
    → item_script (Call.TextBegin None ∷ map (Call.TextFragment true) (pieces_of p) ++ Call.TextEnd ∷ made) ≡ printed (calls_then (trees.Text content) plain)
unfolding text_before
chunked_text {content = content} p made plain h =
    let size = chunks_length (map (Call.TextFragment true) (pieces_of p) ++ Call.TextEnd ∷ made) in
    ap (λ x. codes "text_begin " ++ (decimal size ++ (codes "\ntext_fragment =" ++ x))) (text_chunks_script p made) ∙ text_same size content made plain (text_chunks_length p made) h

chunked_binary : {bytes content rest : List ℕ} (p : ArePieces 2 bytes content rest) (made plain : List Call) → item_script made ≡ printed plain
    → item_script (Call.BinaryBegin None ∷ map (Call.BinaryFragment true) (pieces_of p) ++ Call.BinaryEnd ∷ made) ≡ printed (calls_then (trees.Binary content) plain)
unfolding binary_before
chunked_binary {content = content} p made plain h =
    let size = chunks_length (map (Call.BinaryFragment true) (pieces_of p) ++ Call.BinaryEnd ∷ made) in
    ap (λ x. codes "binary_begin " ++ (decimal size ++ (codes "\nbinary_fragment =" ++ x))) (binary_chunks_script p made) ∙ binary_same size content made plain (binary_chunks_length p made) h

whole_text : (n : ℕ) (after : List ℕ) (made plain : List Call) → n ≤ length after → item_script made ≡ printed plain
    → item_script (Call.TextBegin (Some n) ∷ Call.TextFragment true (take n after) ∷ Call.TextEnd ∷ made) ≡ printed (calls_then (trees.Text (take n after)) plain)
unfolding text_before
whole_text n after made plain l h = text_same n (take n after) made plain (whole_size n after l) h

whole_binary : (n : ℕ) (after : List ℕ) (made plain : List Call) → n ≤ length after → item_script made ≡ printed plain
    → item_script (Call.BinaryBegin (Some n) ∷ Call.BinaryFragment true (take n after) ∷ Call.BinaryEnd ∷ made) ≡ printed (calls_then (trees.Binary (take n after)) plain)
unfolding binary_before
whole_binary n after made plain l h = binary_same n (take n after) made plain (whole_size n after l) h

mutual
  item_same : {bytes rest : List ℕ} {tree : Tree} (i : IsItem bytes tree rest) (made plain : List Call) → item_script made ≡ printed plain → item_script (cbor_calls i made) ≡ printed (calls_then tree plain)
  item_same (by_head e b) made plain h = body_same b made plain h
  item_same (bytes_in_pieces p) made plain h = chunked_binary p made plain h
  item_same (texts_in_pieces p) made plain h = chunked_text p made plain h
  item_same (seq_to_break {trees = row} s) made plain h =
      seq_same None (items_to_break_calls s (Call.End calls.Seq ∷ made)) (part_calls_then row (Call.End calls.Seq ∷ plain))
      (items_to_break_same s (Call.End calls.Seq ∷ made) (Call.End calls.Seq ∷ plain) (then_same (Call.End calls.Seq) made plain seq_end_line h))
  item_same (map_to_break {entries = row} s) made plain h =
      map_same None (entries_to_break_calls s (Call.End calls.Map ∷ made)) (part_calls_then row (Call.End calls.Map ∷ plain))
      (entries_to_break_same s (Call.End calls.Map ∷ made) (Call.End calls.Map ∷ plain) (then_same (Call.End calls.Map) made plain map_end_line h))
  item_same falsehood made plain h = then_same (Call.Truth false) made plain (truth_line false) h
  item_same truth made plain h = then_same (Call.Truth true) made plain (truth_line true) h
  item_same null made plain h = then_same Call.Null made plain null_line h

  body_same : {major n : ℕ} {after rest : List ℕ} {tree : Tree} (b : IsBody major n after tree rest) (made plain : List Call) → item_script made ≡ printed plain → item_script (body_calls b made) ≡ printed (calls_then tree plain)
  body_same (unsigned {n = n}) made plain h = then_same (Call.Int U64 (pos n)) made plain (int_line U64 (pos n)) h
  body_same (negative {n = n}) made plain h = then_same (Call.Int (negative_type n) (negsuc n)) made plain (int_line (negative_type n) (negsuc n)) h
  body_same (binary {n = n} {after = after} l) made plain h = whole_binary n after made plain l h
  body_same (text {n = n} {after = after} l u) made plain h = whole_text n after made plain l h
  body_same (seq {n = n} {trees = row} s) made plain h =
      seq_same (Some n) (items_calls s (Call.End calls.Seq ∷ made)) (part_calls_then row (Call.End calls.Seq ∷ plain))
      (items_same s (Call.End calls.Seq ∷ made) (Call.End calls.Seq ∷ plain) (then_same (Call.End calls.Seq) made plain seq_end_line h))
  body_same (map_body {n = n} {entries = row} s) made plain h =
      map_same (Some n) (entries_calls s (Call.End calls.Map ∷ made)) (part_calls_then row (Call.End calls.Map ∷ plain))
      (entries_same s (Call.End calls.Map ∷ made) (Call.End calls.Map ∷ plain) (then_same (Call.End calls.Map) made plain map_end_line h))
  body_same (big {content = content} s l) made plain h = then_same (Call.Int U128 (pos (big_endian content))) made plain (int_line U128 (pos (big_endian content))) h
  body_same (negative_big {content = content} s l) made plain h = then_same (Call.Int I128 (negsuc (big_endian content))) made plain (int_line I128 (negsuc (big_endian content))) h
  body_same (tagged k l i) made plain h = item_same i made plain h

  items_same : {n : ℕ} {bytes rest : List ℕ} {parts : Parts} (s : AreItems n bytes parts rest) (made plain : List Call) → item_script made ≡ printed plain → item_script (items_calls s made) ≡ printed (part_calls_then parts plain)
  items_same no_items made plain h = h
  items_same (an_item {tree = tree} {trees = row} i s) made plain h =
      then_same (Call.PartBegin calls.Item) (cbor_calls i (Call.PartEnd calls.Item ∷ items_calls s made)) (calls_then tree (Call.PartEnd calls.Item ∷ part_calls_then row plain)) item_begin_line
      (item_same i (Call.PartEnd calls.Item ∷ items_calls s made) (Call.PartEnd calls.Item ∷ part_calls_then row plain) (then_same (Call.PartEnd calls.Item) (items_calls s made) (part_calls_then row plain) item_end_line (items_same s made plain h)))

  entries_same : {n : ℕ} {bytes rest : List ℕ} {parts : Parts} (s : AreEntries n bytes parts rest) (made plain : List Call) → item_script made ≡ printed plain → item_script (entries_calls s made) ≡ printed (part_calls_then parts plain)
  entries_same no_pairs made plain h = h
  entries_same (a_pair {key = key} {value = value} {entries = row} i v s) made plain h =
      let values : List Call = Call.PartBegin calls.Value ∷ cbor_calls v (Call.PartEnd calls.Value ∷ entries_calls s made) in
      let plain_values : List Call = Call.PartBegin calls.Value ∷ calls_then value (Call.PartEnd calls.Value ∷ part_calls_then row plain) in
      then_same (Call.PartBegin calls.Key) (cbor_calls i (Call.PartEnd calls.Key ∷ values)) (calls_then key (Call.PartEnd calls.Key ∷ plain_values)) key_begin_line
      (item_same i (Call.PartEnd calls.Key ∷ values) (Call.PartEnd calls.Key ∷ plain_values) (then_same (Call.PartEnd calls.Key) values plain_values key_end_line
      (then_same (Call.PartBegin calls.Value) (cbor_calls v (Call.PartEnd calls.Value ∷ entries_calls s made)) (calls_then value (Call.PartEnd calls.Value ∷ part_calls_then row plain)) value_begin_line
      (item_same v (Call.PartEnd calls.Value ∷ entries_calls s made) (Call.PartEnd calls.Value ∷ part_calls_then row plain) (then_same (Call.PartEnd calls.Value) (entries_calls s made) (part_calls_then row plain) value_end_line (entries_same s made plain h))))))

  items_to_break_same : {bytes rest : List ℕ} {parts : Parts} (s : ItemsToBreak bytes parts rest) (made plain : List Call) → item_script made ≡ printed plain → item_script (items_to_break_calls s made) ≡ printed (part_calls_then parts plain)
  items_to_break_same items_end made plain h = h
  items_to_break_same (items_go_on {tree = tree} {trees = row} i s) made plain h =
      then_same (Call.PartBegin calls.Item) (cbor_calls i (Call.PartEnd calls.Item ∷ items_to_break_calls s made)) (calls_then tree (Call.PartEnd calls.Item ∷ part_calls_then row plain)) item_begin_line
      (item_same i (Call.PartEnd calls.Item ∷ items_to_break_calls s made) (Call.PartEnd calls.Item ∷ part_calls_then row plain) (then_same (Call.PartEnd calls.Item) (items_to_break_calls s made) (part_calls_then row plain) item_end_line (items_to_break_same s made plain h)))

  entries_to_break_same : {bytes rest : List ℕ} {parts : Parts} (s : EntriesToBreak bytes parts rest) (made plain : List Call) → item_script made ≡ printed plain → item_script (entries_to_break_calls s made) ≡ printed (part_calls_then parts plain)
  entries_to_break_same entries_end made plain h = h
  entries_to_break_same (entries_go_on {key = key} {value = value} {entries = row} i v s) made plain h =
      let values : List Call = Call.PartBegin calls.Value ∷ cbor_calls v (Call.PartEnd calls.Value ∷ entries_to_break_calls s made) in
      let plain_values : List Call = Call.PartBegin calls.Value ∷ calls_then value (Call.PartEnd calls.Value ∷ part_calls_then row plain) in
      then_same (Call.PartBegin calls.Key) (cbor_calls i (Call.PartEnd calls.Key ∷ values)) (calls_then key (Call.PartEnd calls.Key ∷ plain_values)) key_begin_line
      (item_same i (Call.PartEnd calls.Key ∷ values) (Call.PartEnd calls.Key ∷ plain_values) (then_same (Call.PartEnd calls.Key) values plain_values key_end_line
      (then_same (Call.PartBegin calls.Value) (cbor_calls v (Call.PartEnd calls.Value ∷ entries_to_break_calls s made)) (calls_then value (Call.PartEnd calls.Value ∷ part_calls_then row plain)) value_begin_line
      (item_same v (Call.PartEnd calls.Value ∷ entries_to_break_calls s made) (Call.PartEnd calls.Value ∷ part_calls_then row plain) (then_same (Call.PartEnd calls.Value) (entries_to_break_calls s made) (part_calls_then row plain) value_end_line (entries_to_break_same s made plain h))))))

pub document_script : {bytes rest : List ℕ} {tree : Tree} (item : IsItem bytes tree rest) → item_script (cbor_calls item []) ≡ canon tree
document_script item = item_same item [] [] no_lines
